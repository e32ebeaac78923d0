-- Comparisons of two operands, of a value and a list, and of a value and its bounds.
use Rattle.std.specs.Prelude.{Bool, true, false, List, [], ◌∷◌, Option, None, Some}
use Rattle.kql_cells.specs.declared.value.Kind.{Kind}
use Rattle.kql_cells.specs.declared.value.Kind.TheVariants as kind
use Rattle.kql_functions.specs.declared.func.ComparisonFunc.TheVariants as comparison
use Rattle.kql_functions.specs.declared.func.Func.{Func}
use Rattle.kql_functions.specs.declared.func.Func.TheVariants as func
use Rattle.kql_functions.specs.declared.func.SearchPlace.{SearchPlace}
use Rattle.kql_functions.specs.declared.func.SearchPlace.TheVariants as place
use Rattle.kql_texts.specs.declared.folding.Fold.{Fold}
use Rattle.kql_texts.specs.declared.folding.Fold.TheVariants as fold
use Rattle.kql_syntax.specs.declared.tree.BetweenOp.{BetweenOp}
use Rattle.kql_syntax.specs.declared.tree.BetweenOp.TheVariants as between
use Rattle.kql_syntax.specs.declared.tree.BetweenSign.{BetweenSign}
use Rattle.kql_syntax.specs.declared.tree.CompareOp.{CompareOp}
use Rattle.kql_syntax.specs.declared.tree.CompareOp.TheVariants as op
use Rattle.kql_syntax.specs.declared.tree.CompareSign.{CompareSign}
use Rattle.kql_syntax.specs.declared.tree.InOp.{InOp}
use Rattle.kql_syntax.specs.declared.tree.InOp.TheVariants as among
use Rattle.kql_syntax.specs.declared.tree.InSign.{InSign}
use Rattle.bind_expr.specs.Operands.{all_beside, as_text, beside, common_kind, kinds_of, operands_call}
use Rattle.bind_expr.specs.Outcome.{Outcome, ◌>>=◌}
use Rattle.bind_expr.specs.declared.typed.Typed.{Typed}

-- Two operands.

abbrev pub search : SearchPlace → Fold → Bool → Func
search p c negated = func.Search (record { place = p; fold = c; negated = negated })

-- The function of a sign or word; none of `matches regex`, which calls a pattern. The words are without regard to case, but for those with
-- `_cs`.
unfoldable pub compare_func : CompareOp → Option Func
compare_func op.Equal = Some (func.Comparison comparison.Equal)
compare_func op.NotEqual = Some (func.Comparison comparison.NotEqual)
compare_func op.Alike = Some (func.Comparison comparison.EqualText)
compare_func op.NotAlike = Some (func.Comparison comparison.NotEqualText)
compare_func op.Less = Some (func.Comparison comparison.Less)
compare_func op.LessEqual = Some (func.Comparison comparison.AtMost)
compare_func op.Greater = Some (func.Comparison comparison.Greater)
compare_func op.GreaterEqual = Some (func.Comparison comparison.AtLeast)
compare_func op.Contains = Some (search place.Anywhere fold.Caseless false)
compare_func op.ContainsCs = Some (search place.Anywhere fold.Exact false)
compare_func op.Startswith = Some (search place.Start fold.Caseless false)
compare_func op.StartswithCs = Some (search place.Start fold.Exact false)
compare_func op.Endswith = Some (search place.End fold.Caseless false)
compare_func op.EndswithCs = Some (search place.End fold.Exact false)
compare_func op.Has = Some (search place.Term fold.Caseless false)
compare_func op.HasCs = Some (search place.Term fold.Exact false)
compare_func op.NotContains = Some (search place.Anywhere fold.Caseless true)
compare_func op.NotContainsCs = Some (search place.Anywhere fold.Exact true)
compare_func op.NotStartswith = Some (search place.Start fold.Caseless true)
compare_func op.NotStartswithCs = Some (search place.Start fold.Exact true)
compare_func op.NotEndswith = Some (search place.End fold.Caseless true)
compare_func op.NotEndswithCs = Some (search place.End fold.Exact true)
compare_func op.NotHas = Some (search place.Term fold.Caseless true)
compare_func op.NotHasCs = Some (search place.Term fold.Exact true)
compare_func op.MatchesRegex = None

-- Whether a sign or word compares values of any one type; all others are operators on strings.
unfoldable pub is_of_any_type : CompareOp → Bool
is_of_any_type op.Equal = true
is_of_any_type op.NotEqual = true
is_of_any_type op.Less = true
is_of_any_type op.LessEqual = true
is_of_any_type op.Greater = true
is_of_any_type op.GreaterEqual = true
is_of_any_type _ = false

-- The two operands, each converted where it is dynamic: to the other's type, and to a string by an operator on strings.
abbrev pub compared_as : Func → CompareSign → Typed → Typed → Bool → Outcome Typed
compared_as f sign l r true = operands_call sign.place f (beside l r.kind ∷ beside r l.kind ∷ [])
compared_as f sign l r false = operands_call sign.place f (as_text l ∷ as_text r ∷ [])

unfoldable pub compared : Func → CompareSign → Typed → Typed → Outcome Typed
compared f sign l r = compared_as f sign l r (is_of_any_type sign.op)

abbrev pub compare_node : Func → CompareSign → Outcome Typed → Outcome Typed → Outcome Typed
compare_node f sign left right = do
  l ← left
  r ← right
  compared f sign l r

-- A value and a list.

unfoldable pub among_func : InOp → Func
among_func among.In = func.Comparison comparison.In
among_func among.NotIn = func.Comparison comparison.NotIn
among_func among.InTilde = func.Comparison comparison.InTexts
among_func among.NotInTilde = func.Comparison comparison.NotInTexts

-- The type that dynamic operands take beside a dynamic value that is looked for: that of the first that is not dynamic, and a string
-- where case does not count.
unfoldable pub common_among : InOp → List Kind → Kind
common_among among.In ks = common_kind ks
common_among among.NotIn ks = common_kind ks
common_among among.InTilde ks = kind.Text
common_among among.NotInTilde ks = kind.Text

-- Where the value that is looked for is not dynamic, they stay so: they stand for the elements of their arrays.
abbrev pub kind_beside : InOp → List Kind → Kind → Kind
kind_beside o ks kind.Dynamic = common_among o ks
kind_beside o ks _ = kind.Dynamic

unfoldable pub among_kind : InOp → List Kind → Kind
among_kind o [] = kind.Dynamic
among_kind o (k ∷ ks) = kind_beside o (k ∷ ks) k

unfoldable pub listed : InSign → List Typed → Outcome Typed
listed sign ts = operands_call sign.place (among_func sign.op) (all_beside (among_kind sign.op (kinds_of ts)) ts)

abbrev pub in_node : InSign → Outcome (List Typed) → Outcome Typed
in_node sign operands = operands >>= λ ts. listed sign ts

-- A value and its bounds.

unfoldable pub between_func : BetweenOp → Func
between_func between.Between = func.Comparison comparison.Between
between_func between.NotBetween = func.Comparison comparison.NotBetween

unfoldable pub bounded : BetweenSign → Typed → Typed → Typed → Outcome Typed
bounded sign x a b =
    let k : Kind = common_kind (x.kind ∷ a.kind ∷ b.kind ∷ []) in
    operands_call sign.place (between_func sign.op) (beside x k ∷ beside a k ∷ beside b k ∷ [])

abbrev pub between_node : BetweenSign → Outcome Typed → Outcome Typed → Outcome Typed → Outcome Typed
between_node sign value low high = do
  x ← value
  a ← low
  b ← high
  bounded sign x a b
