-- Calls of patterns: `c matches regex "p"`, and `extract("p", n, c)`.
use Rattle.std.specs.Prelude.{ℕ, ℤ, pos, Bool, true, false, ◌&&◌, List, [], ◌∷◌, Option, None, Some, Ok, Err, int_le, unsigned_abs, if◌then◌else◌}
use Rattle.kql_cells.specs.declared.value.Kind.{Kind}
use Rattle.kql_cells.specs.declared.value.Kind.TheVariants as kind
use Rattle.kql_cells.specs.declared.value.Value.TheVariants as value
use Rattle.kql_functions.specs.declared.func.Func.{Func}
use Rattle.kql_functions.specs.declared.func.Func.TheVariants as func
use Rattle.kql_functions.specs.declared.names.Found.{Found}
use Rattle.kql_functions.specs.declared.names.Found.TheVariants as found
use Rattle.kql_lexer.specs.declared.place.Place.{Place}
use Rattle.kql_bound.specs.declared.expr.BExpr.TheVariants as V
use Rattle.kql_meaning.specs.Expressions.{column_kind}
use Rattle.kql_syntax.specs.Alone.{literal_of_term, name_of_term, term_of_arg, term_of_sum}
use Rattle.kql_syntax.specs.declared.tree.Arg.{Arg}
use Rattle.kql_syntax.specs.declared.tree.Literal.{Literal}
use Rattle.kql_syntax.specs.declared.tree.Literal.TheVariants as literal
use Rattle.kql_syntax.specs.declared.tree.Name.{Name}
use Rattle.kql_syntax.specs.declared.tree.Sum.{Sum}
use Rattle.kql_syntax.specs.declared.tree.Term.{Term}
use Rattle.bind_expr.specs.Arguments.{is_among}
use Rattle.bind_expr.specs.Names.{text_of}
use Rattle.bind_expr.specs.Operands.{typed_call}
use Rattle.bind_expr.specs.Outcome.{Outcome}
use Rattle.bind_expr.specs.declared.fault.BindFault.TheVariants as fault
use Rattle.bind_expr.specs.declared.scope.Scope.{Scope}
use Rattle.bind_expr.specs.declared.typed.Typed.{Typed}

-- A pattern call is refused with 420 at its word, `matches` or `extract`, whatever it breaks of these rules, and nothing of its parts is
-- bound before: it has two parts, or three arguments; the pattern is a string literal, the number of a group a whole number up to
-- 4294967295, and the column a name, each of them alone and in no brackets; and the name is that of a column of strings that is the
-- table's own, which no rows have outside of a pattern prefix.

unfoldable pub refused_here : Place → Outcome Typed
refused_here word = Err (fault.Refused 420 word)

abbrev pub is_text : Option Kind → Bool
is_text (Some kind.Text) = true
is_text _ = false

-- Whether a pattern may be searched for in the column of a name.
unfoldable pub is_searchable : Scope → List ℕ → Bool
is_searchable scope n = is_text (column_kind n scope.schema) && is_among scope.own n

-- The function of a call: the group that it asks for, and the places of its word and its pattern.
abbrev pub pattern_func : Option ℕ → Place → Place → Func
pattern_func group word place = func.Pattern (record { group = group; word = word; literal = place })

abbrev pub search_or_refuse : Place → Option ℕ → List ℕ → Place → List ℕ → Bool → Outcome Typed
search_or_refuse word group column place text true =
    typed_call word (pattern_func group word place) (V.Column column ∷ V.Literal (record { kind = kind.Text; value = value.Text text }) ∷ []) (kind.Text ∷ kind.Text ∷ [])
search_or_refuse word group column place text false = refused_here word

-- A search in the column of a name, where the pattern is this literal.
unfoldable pub searched : Place → Option ℕ → Scope → List ℕ → Literal → Outcome Typed
searched word group scope column (literal.Text place text) = search_or_refuse word group column place text (is_searchable scope column)
searched word group scope column (literal.Number place n) = refused_here word
searched word group scope column (literal.Span place n) = refused_here word
searched word group scope column (literal.True place) = refused_here word
searched word group scope column (literal.False place) = refused_here word
searched word group scope column (literal.Typed place w text) = refused_here word

-- The same where the column may be no name, and the pattern no literal.
abbrev pub search_of : Place → Option ℕ → Scope → Option Name → Option Literal → Outcome Typed
search_of word group scope (Some n) (Some l) = searched word group scope (text_of n) l
search_of word group scope (Some n) None = refused_here word
search_of word group scope None l = refused_here word

-- The name and the literal that a part is alone.
abbrev pub name_if : Option Term → Option Name
name_if None = None
name_if (Some t) = name_of_term t

abbrev pub literal_if : Option Term → Option Literal
literal_if None = None
literal_if (Some t) = literal_of_term t

unfoldable pub sum_name : Sum → Option Name
sum_name s = name_if (term_of_sum s)

unfoldable pub sum_literal : Sum → Option Literal
sum_literal s = literal_if (term_of_sum s)

unfoldable pub arg_name : Arg → Option Name
arg_name a = name_if (term_of_arg a)

unfoldable pub arg_literal : Arg → Option Literal
arg_literal a = literal_if (term_of_arg a)

-- `matches regex`: whether the pattern is found.
unfoldable pub match_bound : Place → Scope → Sum → Sum → Outcome Typed
match_bound word scope column pattern = search_of word None scope (sum_name column) (sum_literal pattern)

-- The number of a group.
abbrev pub group_at : ℤ → Option ℕ
group_at n = if int_le (pos 0) n && int_le n (pos 4294967295) then Some (unsigned_abs n) else None

unfoldable pub group_of : Literal → Option ℕ
group_of (literal.Number place n) = group_at n
group_of (literal.Span place n) = None
group_of (literal.Text place text) = None
group_of (literal.True place) = None
group_of (literal.False place) = None
group_of (literal.Typed place w text) = None

abbrev pub group_if : Option Literal → Option ℕ
group_if None = None
group_if (Some l) = group_of l

abbrev pub extract_of : Place → Scope → Option Literal → Option ℕ → Option Name → Outcome Typed
extract_of word scope pattern None column = refused_here word
extract_of word scope pattern (Some g) column = search_of word (Some g) scope column pattern

-- `extract`: the text of a group of the first match.
unfoldable pub extract_bound : Place → Scope → List Arg → Outcome Typed
extract_bound word scope (p ∷ n ∷ c ∷ []) = extract_of word scope (arg_literal p) (group_if (arg_literal n)) (arg_name c)
extract_bound word scope _ = refused_here word

-- Whether a call is one of `extract`.
abbrev pub is_extract : Found → Bool
is_extract (found.Scalar f) = false
is_extract (found.Window f) = false
is_extract (found.Aggregate f) = false
is_extract found.Pattern = true
is_extract found.Refused = false
is_extract found.Unknown = false
