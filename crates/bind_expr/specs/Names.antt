-- Names: columns, and constants where no column has the name.
use Rattle.std.specs.Prelude.{ℕ, List, [], ◌∷◌, find, Option, None, Some, Ok, Err, option_map}
use Rattle.std.specs.Str.{bytes_eq}
use Rattle.kql_cells.specs.declared.value.Kind.{Kind}
use Rattle.kql_lexer.specs.declared.place.Place.{Place}
use Rattle.kql_bound.specs.declared.expr.BExpr.TheVariants as V
use Rattle.kql_meaning.specs.Expressions.{column_kind}
use Rattle.kql_syntax.specs.declared.tree.Name.{Name}
use Rattle.kql_syntax.specs.declared.tree.Name.TheVariants as name
use Rattle.bind_expr.specs.Literals.{literal_of}
use Rattle.bind_expr.specs.Outcome.{Outcome}
use Rattle.bind_expr.specs.declared.fault.BindFault.TheVariants as fault
use Rattle.bind_expr.specs.declared.scope.Const.{Const}
use Rattle.bind_expr.specs.declared.scope.Scope.{Scope}
use Rattle.bind_expr.specs.declared.typed.Typed.{Typed}

-- The constant of a name, as a literal.
unfoldable pub const_named : List ℕ → List Const → Option Typed
const_named n consts = option_map (λ (c : Const). literal_of c.kind c.value) (find (λ (c : Const). bytes_eq c.name n) consts)

abbrev pub const_or_fault : Place → Option Typed → Outcome Typed
const_or_fault place (Some t) = Ok t
const_or_fault place None = Err (fault.Refused 401 place)

abbrev pub column_or_const : Place → List ℕ → Option Typed → Option Kind → Outcome Typed
column_or_const place n c (Some k) = Ok (record { expr = V.Column n; kind = k })
column_or_const place n c None = const_or_fault place c

-- A name: a column, else a constant, else 401.
unfoldable pub word_bound : Place → List ℕ → Scope → Outcome Typed
word_bound place n scope = column_or_const place n (const_named n scope.consts) (column_kind n scope.schema)

unfoldable pub name_bound : Name → Scope → Outcome Typed
name_bound (name.Bare w) scope = word_bound w.place w.text scope
name_bound (name.Quoted place n) scope = word_bound place n scope

-- The text of a name.
unfoldable pub text_of : Name → List ℕ
text_of (name.Bare w) = w.text
text_of (name.Quoted place n) = n
