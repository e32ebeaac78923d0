-- What operators and functions promise of their arguments, apart from how they are defined.
use Rattle.std.specs.Prelude.{◌≡◌, ◌≢◌, ◌⊎◌, ◌↔◌, Bool, true, false, ℤ, pos, unsigned_abs, ◌+ℤ◌, ◌*ℤ◌, ◌≤ℤ◌, ◌<ℤ◌, List, [], ◌∷◌, ◌++◌, All, Contains}
use Rattle.std.specs.List.{list_any}
use Rattle.kql_functions.specs.Kinds.{has_order, is_dynamic}
use Rattle.kql_texts.specs.declared.folding.Fold.{Fold}
use Rattle.kql_texts.specs.declared.folding.Fold.TheVariants.{Exact}
use Rattle.kql_cells.specs.Keys.{is_null, same_key}
use Rattle.kql_functions.specs.declared.func.ArithmeticFunc.TheVariants as arithmetic
use Rattle.kql_functions.specs.declared.func.ChoiceFunc.TheVariants as choice
use Rattle.kql_functions.specs.declared.func.LogicFunc.TheVariants as logic
use Rattle.kql_functions.specs.declared.func.Func.TheVariants as func
use Rattle.kql_cells.specs.Values.{IsOfKind}
use Rattle.kql_cells.specs.declared.value.Kind.{Kind}
use Rattle.kql_cells.specs.declared.value.Value.{Value}
use Rattle.kql_cells.specs.declared.value.Value.TheVariants as value
use Rattle.kql_scalar_fns.specs.Applied.{applied}
use Rattle.kql_scalar_fns.specs.Comparison.{is_among, values_in}

abbrev pub and_all : List Value → Value
and_all vs = applied (func.Logic logic.And) vs

abbrev pub or_all : List Value → Value
or_all vs = applied (func.Logic logic.Or) vs

abbrev pub coalesce : List Value → Value
coalesce vs = applied (func.Choice choice.Coalesce) vs

abbrev pub min_of : List Value → Value
min_of vs = applied (func.Choice choice.MinOf) vs

abbrev pub max_of : List Value → Value
max_of vs = applied (func.Choice choice.MaxOf) vs

abbrev pub modulo : ℤ → ℤ → Value
modulo n d = applied (func.Arithmetic arithmetic.Modulo) (value.Long n ∷ value.Long d ∷ [])

-- each of these is this bool
abbrev pub AreAll : Bool → List Value → Type 0
AreAll b vs = All (λ v. v ≡ value.Bool b) vs

-- `and` is false where one is false, true where all are true, and else null
abbrev pub AndIsThreeValued : Type 0
AndIsThreeValued = (vs : List Value) →
    ((and_all vs ≡ value.Bool false) ↔ Contains vs (value.Bool false))
    × ((and_all vs ≡ value.Bool true) ↔ AreAll true vs)
    × ((¬ Contains vs (value.Bool false)) → (¬ AreAll true vs) → and_all vs ≡ value.Null)

-- `or` is true where one is true, false where all are false, and else null
abbrev pub OrIsThreeValued : Type 0
OrIsThreeValued = (vs : List Value) →
    ((or_all vs ≡ value.Bool true) ↔ Contains vs (value.Bool true))
    × ((or_all vs ≡ value.Bool false) ↔ AreAll false vs)
    × ((¬ Contains vs (value.Bool true)) → (¬ AreAll false vs) → or_all vs ≡ value.Null)

-- null or the empty text
abbrev pub IsBlank : Value → Type 0
IsBlank v = (v ≡ value.Null) ⊎ (v ≡ value.Text [])

-- behind blanks, the first value that is none
abbrev pub FirstIsTaken : Type 0
FirstIsTaken = (before after : List Value) (v : Value) → All IsBlank before → (¬ IsBlank v) → coalesce (before ++ v ∷ after) ≡ v

-- behind blanks, the last value, blank or not
abbrev pub LastIsTaken : Type 0
LastIsTaken = (before : List Value) (v : Value) → All IsBlank before → coalesce (before ++ v ∷ []) ≡ v

-- one of two longs, datetimes or timespans is at most the other
abbrev pub IsAtMost : Value → Value → Type 0
IsAtMost (value.Long a) (value.Long b) = a ≤ℤ b
IsAtMost (value.Moment a) (value.Moment b) = a ≤ℤ b
IsAtMost (value.Span a) (value.Span b) = a ≤ℤ b
IsAtMost _ _ = ⊥

-- null where all are null; where one is not, the result is among them, and this one is not below it
abbrev pub LeastIsTaken : Type 0
LeastIsTaken = (k : Kind) (vs : List Value) → has_order k ≡ true → All (IsOfKind k) vs →
    (All (λ v. v ≡ value.Null) vs → min_of vs ≡ value.Null)
    × ((v : Value) → Contains vs v → v ≢ value.Null → Contains vs (min_of vs) × IsAtMost (min_of vs) v)

-- null where all are null; where one is not, the result is among them, and this one is not above it
abbrev pub GreatestIsTaken : Type 0
GreatestIsTaken = (k : Kind) (vs : List Value) → has_order k ≡ true → All (IsOfKind k) vs →
    (All (λ v. v ≡ value.Null) vs → max_of vs ≡ value.Null)
    × ((v : Value) → Contains vs v → v ≢ value.Null → Contains vs (max_of vs) × IsAtMost v (max_of vs))

-- the r from 0 on and below the size of d with which n is a multiple of d and r
pub record IsRemainder (n d r : ℤ) : Type 0 where
  pub multiple : ℤ
  pub sum : n ≡ d *ℤ multiple +ℤ r
  pub low : pos 0 ≤ℤ r
  pub high : r <ℤ pos (unsigned_abs d)

abbrev pub RemainderIsTaken : Type 0
RemainderIsTaken = (n d : ℤ) → d ≢ pos 0 → (r : ℤ) × (modulo n d ≡ value.Long r) × IsRemainder n d r

abbrev pub ZeroHasNoRemainder : Type 0
ZeroHasNoRemainder = (n : ℤ) → modulo n (pos 0) ≡ value.Null

-- a value of a type is in a list where it is one of the values of the list in that type
abbrev pub ListHasKeys : Type 0
ListHasKeys = (k : Kind) (x : Value) (operands : List Value) → is_dynamic k ≡ false → is_null x ≡ false → IsOfKind k x → is_among Exact x operands ≡ list_any (same_key x) (values_in k operands)

-- a null is in no list
abbrev pub NullIsInNoList : Type 0
NullIsInNoList = (fold : Fold) (operands : List Value) → is_among fold value.Null operands ≡ false
