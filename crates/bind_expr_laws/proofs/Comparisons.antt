-- Comparisons, and a minus before a term.
use Rattle.std.proofs.Common.{Bool, true, false, List, [], ◌∷◌, refl}
use Rattle.std.specs.Prelude.{Option, None, Some}
use Rattle.kql_cells.specs.declared.value.Kind.{Kind}
use Rattle.kql_functions.specs.declared.func.ArithmeticFunc.{ArithmeticFunc}
use Rattle.kql_functions.specs.declared.func.ArithmeticFunc.TheVariants as arithmetic
use Rattle.kql_functions.specs.declared.func.ComparisonFunc.{ComparisonFunc}
use Rattle.kql_functions.specs.declared.func.ComparisonFunc.TheVariants as comparison
use Rattle.kql_functions.specs.declared.func.Func.{Func}
use Rattle.kql_functions.specs.declared.func.Func.TheVariants as func
use Rattle.kql_functions.specs.declared.func.SearchFunc.{SearchFunc}
use Rattle.kql_lexer.specs.declared.place.Place.{Place}
use Rattle.kql_syntax.specs.declared.tree.BetweenOp.{BetweenOp}
use Rattle.kql_syntax.specs.declared.tree.BetweenOp.TheVariants as between
use Rattle.kql_syntax.specs.declared.tree.BetweenSign.{BetweenSign}
use Rattle.kql_syntax.specs.declared.tree.CompareOp.{CompareOp}
use Rattle.kql_syntax.specs.declared.tree.CompareOp.TheVariants as op
use Rattle.kql_syntax.specs.declared.tree.CompareSign.{CompareSign}
use Rattle.kql_syntax.specs.declared.tree.InOp.{InOp}
use Rattle.kql_syntax.specs.declared.tree.InOp.TheVariants as among
use Rattle.kql_syntax.specs.declared.tree.InSign.{InSign}
use Rattle.kql_meaning.specs.FittingExpressions.{is_callable, part_fits}
use Rattle.bind_expr.specs.Bound.{negated}
use Rattle.bind_expr.specs.Comparisons.{among_func, among_kind, between_func, bounded, compare_func, compared, compared_as, is_of_any_type, listed}
use Rattle.bind_expr.specs.Operands.{all_beside, as_text, beside, common_kind, kinds_of}
use Rattle.bind_expr.specs.declared.scope.Scope.{Scope}
use Rattle.bind_expr.specs.declared.typed.Typed.{Typed}
use Rattle.kql_cells.specs.declared.value.Kind.TheVariants as kind
use Rattle.bind_expr_laws.proofs.Outcomes.{Gives}
use Rattle.bind_expr_laws.proofs.Parts.{AreOperands, IsBound, IsPart, IsPlain, all-beside, beside-part, call-bound, operands-bound}
use Rattle.bind_expr_laws.proofs.Shapes.{Spot}

-- Operators know no words of parts.

plain-arithmetic : (f : ArithmeticFunc) → IsPlain (func.Arithmetic f)
unfolding is_callable part_fits
plain-arithmetic f = record { callable = refl; part = λ es. refl }

plain-comparison : (f : ComparisonFunc) → IsPlain (func.Comparison f)
unfolding is_callable part_fits
plain-comparison f = record { callable = refl; part = λ es. refl }

plain-search : (f : SearchFunc) → IsPlain (func.Search f)
unfolding is_callable part_fits
plain-search f = record { callable = refl; part = λ es. refl }

-- The function of an operator, where it has one.
abbrev pub IsPlainIf : Option Func → Type 0
IsPlainIf None = Unit {0}
IsPlainIf (Some f) = IsPlain f

pub plain-compared : (o : CompareOp) → IsPlainIf (compare_func o)
unfolding compare_func
plain-compared op.Equal = plain-comparison comparison.Equal
plain-compared op.NotEqual = plain-comparison comparison.NotEqual
plain-compared op.Alike = plain-comparison comparison.EqualText
plain-compared op.NotAlike = plain-comparison comparison.NotEqualText
plain-compared op.Less = plain-comparison comparison.Less
plain-compared op.LessEqual = plain-comparison comparison.AtMost
plain-compared op.Greater = plain-comparison comparison.Greater
plain-compared op.GreaterEqual = plain-comparison comparison.AtLeast
plain-compared op.Contains = plain-search _
plain-compared op.ContainsCs = plain-search _
plain-compared op.Startswith = plain-search _
plain-compared op.StartswithCs = plain-search _
plain-compared op.Endswith = plain-search _
plain-compared op.EndswithCs = plain-search _
plain-compared op.Has = plain-search _
plain-compared op.HasCs = plain-search _
plain-compared op.NotContains = plain-search _
plain-compared op.NotContainsCs = plain-search _
plain-compared op.NotStartswith = plain-search _
plain-compared op.NotStartswithCs = plain-search _
plain-compared op.NotEndswith = plain-search _
plain-compared op.NotEndswithCs = plain-search _
plain-compared op.NotHas = plain-search _
plain-compared op.NotHasCs = plain-search _
plain-compared op.MatchesRegex = tt

plain-among : (o : InOp) → IsPlain (among_func o)
unfolding among_func
plain-among among.In = plain-comparison comparison.In
plain-among among.NotIn = plain-comparison comparison.NotIn
plain-among among.InTilde = plain-comparison comparison.InTexts
plain-among among.NotInTilde = plain-comparison comparison.NotInTexts

plain-between : (o : BetweenOp) → IsPlain (between_func o)
unfolding between_func
plain-between between.Between = plain-comparison comparison.Between
plain-between between.NotBetween = plain-comparison comparison.NotBetween

-- The nodes.

compared-by : (scope : Scope) (spot : Spot) (f : Func) (sign : CompareSign) (l r : Typed) (b : Bool) → IsPlain f → IsPart scope spot.position l.expr l.kind → IsPart scope spot.position r.expr r.kind → Gives (IsBound scope spot) (compared_as f sign l r b)
compared-by scope spot f sign l r true plain h k =
    operands-bound scope spot sign.place f (beside l r.kind ∷ beside r l.kind ∷ []) plain
    (beside-part scope spot.position l r.kind h, (beside-part scope spot.position r l.kind k, tt))
compared-by scope spot f sign l r false plain h k =
    operands-bound scope spot sign.place f (as_text l ∷ as_text r ∷ []) plain
    (beside-part scope spot.position l kind.Text h, (beside-part scope spot.position r kind.Text k, tt))

pub compared-bound : (scope : Scope) (spot : Spot) (f : Func) (sign : CompareSign) (l r : Typed) → IsPlain f → IsPart scope spot.position l.expr l.kind → IsPart scope spot.position r.expr r.kind → Gives (IsBound scope spot) (compared f sign l r)
unfolding compared
compared-bound scope spot f sign l r plain h k = compared-by scope spot f sign l r (is_of_any_type sign.op) plain h k

pub listed-bound : (scope : Scope) (spot : Spot) (sign : InSign) (ts : List Typed) → AreOperands scope spot.position ts → Gives (IsBound scope spot) (listed sign ts)
unfolding listed
listed-bound scope spot sign ts h =
    let k : Kind = among_kind sign.op (kinds_of ts) in
    operands-bound scope spot sign.place (among_func sign.op) (all_beside k ts) (plain-among sign.op) (all-beside scope spot.position k ts h)

pub bounded-bound : (scope : Scope) (spot : Spot) (sign : BetweenSign) (x a b : Typed) → IsPart scope spot.position x.expr x.kind → IsPart scope spot.position a.expr a.kind → IsPart scope spot.position b.expr b.kind → Gives (IsBound scope spot) (bounded sign x a b)
unfolding bounded
bounded-bound scope spot sign x a b h low high =
    let k : Kind = common_kind (x.kind ∷ a.kind ∷ b.kind ∷ []) in
    operands-bound scope spot sign.place (between_func sign.op) (beside x k ∷ beside a k ∷ beside b k ∷ []) (plain-between sign.op)
    (beside-part scope spot.position x k h, (beside-part scope spot.position a k low, (beside-part scope spot.position b k high, tt)))

pub negated-bound : (scope : Scope) (spot : Spot) (place : Place) (t : Typed) → IsPart scope spot.position t.expr t.kind → Gives (IsBound scope spot) (negated place t)
unfolding negated
negated-bound scope spot place t h =
    call-bound scope spot place (func.Arithmetic arithmetic.Negate) (t.expr ∷ []) (t.kind ∷ []) (plain-arithmetic arithmetic.Negate) (h, tt)
