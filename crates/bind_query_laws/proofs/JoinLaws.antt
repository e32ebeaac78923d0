-- A bound `join`, and a bound `lookup`, is sound.
use Rattle.std.proofs.Common.{◌≡◌, ◌≤◌, ◌+◌, ℕ, suc, Bool, true, false, List, [], ◌∷◌, ◌++◌, length, map, refl, ap, ◌∙◌, inl, inr, arith}
use Rattle.std.specs.Prelude.{nat_lt, not, ◌||◌, Ok, Option, None, Some}
use Rattle.std.specs.List.{list_all}
use Rattle.std.proofs.lemmas.Bool.{and_from, cases_Bool}
use Rattle.std.proofs.lemmas.Bool.Decides.{nat_tests}
use Rattle.std.proofs.lemmas.List.{length-append}
use Rattle.kql_cells.specs.declared.schema.Column.{Column}
use Rattle.kql_lexer.specs.declared.place.Place.{Place}
use Rattle.kql_bound.specs.declared.parts.JoinKind.{JoinKind}
use Rattle.kql_bound.specs.declared.parts.JoinKind.TheVariants as join
use Rattle.kql_bound.specs.declared.parts.JoinPlan.{JoinPlan}
use Rattle.kql_bound.specs.declared.parts.OnPair.{OnPair}
use Rattle.kql_bound.specs.declared.plan.Op.{Op}
use Rattle.kql_bound.specs.declared.plan.Op.TheVariants as op
use Rattle.kql_meaning.specs.Fits.{joined_columns}
use Rattle.kql_meaning.specs.FittingOperators.{is_empty, is_lookup_kind, join_fits, pair_fits}
use Rattle.kql_meaning.specs.Items.{without}
use Rattle.kql_meaning.specs.Join.{both_columns, free_name, join_columns, renamed, shown_columns}
use Rattle.kql_meaning.specs.Tables.{names_of}
use Rattle.kql_meaning.proofs.NameLaws.{both_names_differ}
use Rattle.kql_meaning.proofs.OperatorFitLaws.{op-Join}
use Rattle.kql_syntax.specs.declared.query.Hint.{Hint}
use Rattle.kql_syntax.specs.declared.query.JoinKind.{JoinKind as WrittenKind}
use Rattle.kql_syntax.specs.declared.query.JoinKind.TheVariants as written
use Rattle.kql_syntax.specs.declared.query.JoinSign.{JoinSign}
use Rattle.kql_syntax.specs.declared.query.On.{On}
use Rattle.bind_expr.specs.Outcome.{Outcome, ◌>>=◌}
use Rattle.bind_expr.specs.declared.fault.BindFault.{BindFault}
use Rattle.bind_operators.specs.declared.bound.BoundOp.{BoundOp}
use Rattle.bind_operators.specs.declared.bound.BoundPlan.{BoundPlan}
use Rattle.bind_operators.specs.declared.known.Known.{Known}
use Rattle.bind_operators.specs.declared.shape.Shape.{Shape}
use Rattle.bind_operators.specs.Answers.{answer, made, width_faults}
use Rattle.bind_operators.specs.Faults.{each_bound, fault_if}
use Rattle.bind_operators.proofs.NameLaws.{without-once}
use Rattle.bind_query.specs.Join.{join_bound, join_plan, joined, key_bound, key_clashes, key_place, kind_of_join, lookup_kind}
use Rattle.bind_query.proofs.JoinSteps.{joined-once}
use Rattle.bind_groups.proofs.EachLaws.{each-relates}
use Rattle.bind_query_laws.specs.Sound.{AreColumns, IsSoundOp, IsSoundPlan, read_known}
use Rattle.bind_query_laws.proofs.Frame.{after-ok, answer-ok, answer-sound, both-none, no-fault, not-false, true-or-false, unless-ok}

-- Kinds.

lookup-kind : (k : WrittenKind) → is_lookup_kind (lookup_kind k) ≡ true
unfolding lookup_kind is_lookup_kind
lookup-kind written.InnerUnique = refl
lookup-kind written.Inner = refl
lookup-kind written.LeftOuter = refl
lookup-kind written.RightOuter = refl
lookup-kind written.FullOuter = refl
lookup-kind written.LeftSemi = refl
lookup-kind written.RightSemi = refl
lookup-kind written.LeftAnti = refl
lookup-kind written.RightAnti = refl

kind-fits : (lookup : Bool) (kind : Option (JoinSign × List Hint)) → not lookup || is_lookup_kind (kind_of_join lookup kind) ≡ true
unfolding kind_of_join is_lookup_kind
kind-fits false kind = refl
kind-fits true None = refl
kind-fits true (Some k) = lookup-kind k.0.kind

-- Keys.

abbrev AreKeys : List Column → List Column → List On → List OnPair → Type 0
AreKeys left right ks ps = key_clashes left right ks ps ≡ [] → list_all (pair_fits left right) ps ≡ true

keys-more : (left right : List Column) (k : On) (p : OnPair) (ks : List On) (ps : List OnPair) → AreKeys left right ks ps → AreKeys left right (k ∷ ks) (p ∷ ps)
unfolding key_clashes
keys-more left right k p ks ps h none =
    let two = both-none (fault_if (not (pair_fits left right p)) 415 (key_place k)) (key_clashes left right ks ps) none in
    and_from (pair_fits left right p) (list_all (pair_fits left right) ps) (not-false (pair_fits left right p) (no-fault (not (pair_fits left right p)) 415 (key_place k) two.0)) (h two.1)

keys-fit : (operator : Place) (known : Known) (left right : List Column) (ks : List On) (ps : List OnPair) → each_bound (key_bound operator known left right) ks ≡ Ok ps → key_clashes left right ks ps ≡ [] → list_all (pair_fits left right) ps ≡ true
keys-fit operator known left right ks ps e =
    each-relates (key_bound operator known left right) (AreKeys left right) (λ none. refl) (λ k p xs ys is h. keys-more left right k p xs ys h) ks ps e

-- Names: an answer has 256 columns at most, so that its numbered names differ.

at-most : (n : ℕ) → nat_lt 256 n ≡ false → n ≤ 256
at-most n e = grind (arith, nat_tests)

answer-width : (operator : Place) (faults : List BindFault) (o : Op) (columns : List Column) (serial : Bool) (b : BoundOp) → answer operator faults o columns serial ≡ Ok b → length columns ≤ 256
unfolding answer width_faults
answer-width operator faults o columns serial b e =
    let parts = unless-ok (faults ++ width_faults operator columns) (made o columns serial) b e in
    let width = (both-none faults (width_faults operator columns) parts.0).1 in
    at-most (length columns) (no-fault (nat_lt 256 (length columns)) 412 operator (both-none (fault_if (nat_lt 256 (length columns)) 412 operator) (fault_if (is_empty columns) 419 operator) width).0)

renamed-length : (taken : List (List ℕ)) (cs : List Column) → length (renamed taken cs) ≡ length cs
unfolding renamed
renamed-length taken [] = refl
renamed-length taken (c ∷ cs) = ap suc (renamed-length (taken ++ free_name taken c.name ∷ []) cs)

-- What is shown of the right table stands there as if it were all of it.
all-shown : (pairs : List OnPair) (left shown : List Column) → AreColumns left → AreColumns shown → length left + length shown ≤ 256 → AreColumns (left ++ renamed (names_of left) shown)
unfolding both_columns join_columns shown_columns
all-shown pairs left shown a b small =
    joined-once (record { kind = join.Inner; lookup = false; «on» = pairs }) left shown (left ++ renamed (names_of left) shown) both_names_differ a b (omega (arith, small)) refl

both-once : (j : JoinPlan) (left right : List Column) → AreColumns left → AreColumns (shown_columns j right) → length (both_columns j left right) ≤ 256 → AreColumns (both_columns j left right)
unfolding both_columns
both-once j left right a b small =
    let shown : List Column = shown_columns j right in
    let lengths = length-append left (renamed (names_of left) shown) in
    all-shown j.on left shown a b (omega (arith, small, lengths, renamed-length (names_of left) shown))

shown-once : (j : JoinPlan) (right : List Column) → AreColumns right → AreColumns (shown_columns j right)
unfolding shown_columns
shown-once j right h = elim (cases_Bool j.lookup) [
  | inl t ↦
      let names : List (List ℕ) = map (λ (pair : OnPair). pair.right) j.on in
      rw t (without-once names right (without names right) h refl)
  | inr f ↦ rw f h
]

join-once : (k : JoinKind) (j : JoinPlan) (left right : List Column) → AreColumns left → AreColumns right → length (join_columns k j left right) ≤ 256 → AreColumns (join_columns k j left right)
unfolding join_columns
join-once join.InnerUnique j left right a b small = both-once j left right a (shown-once j right b) small
join-once join.Inner j left right a b small = both-once j left right a (shown-once j right b) small
join-once join.LeftOuter j left right a b small = both-once j left right a (shown-once j right b) small
join-once join.RightOuter j left right a b small = both-once j left right a (shown-once j right b) small
join-once join.FullOuter j left right a b small = both-once j left right a (shown-once j right b) small
join-once join.LeftSemi j left right a b small = a
join-once join.RightSemi j left right a b small = b
join-once join.LeftAnti j left right a b small = a
join-once join.RightAnti j left right a b small = b

-- The operator.

joined-sound : (operator : Place) (known : Known) (inside : Bool) (rows : Shape) (right : BoundPlan) (keys : List On) (plan : JoinPlan) (b : BoundOp) → AreColumns rows.columns → IsSoundPlan known right → (key_clashes rows.columns right.after.columns keys plan.on ≡ [] → list_all (pair_fits rows.columns right.after.columns) plan.on ≡ true) → not plan.lookup || is_lookup_kind plan.kind ≡ true → joined operator inside rows right keys plan ≡ Ok b → IsSoundOp known inside rows b
unfolding joined join_fits joined_columns
joined-sound operator known true rows right keys plan b names sound fit lookup is =
    let clashes : List BindFault = key_clashes rows.columns right.after.columns keys plan.on in
    let parts = answer-ok operator (fault_if true 416 operator ++ clashes) (op.Join plan right.plan) (join_columns plan.kind plan rows.columns right.after.columns) false b is in
    true-or-false true refl (no-fault true 416 operator (both-none (fault_if true 416 operator) clashes parts.0).0)
joined-sound operator known false rows right keys plan b names sound fit lookup is =
    let clashes : List BindFault = key_clashes rows.columns right.after.columns keys plan.on in
    let columns : List Column = join_columns plan.kind plan rows.columns right.after.columns in
    let small = answer-width operator (fault_if false 416 operator ++ clashes) (op.Join plan right.plan) columns false b is in
    answer-sound known false rows operator (fault_if false 416 operator ++ clashes) (op.Join plan right.plan) columns false b
    (join_fits plan rows.columns right.after.columns)
    (op-Join plan right.plan (read_known known) rows.columns ∙ ap (λ (cs : Option (List Column)). joined_columns plan rows.columns cs) sound.fits)
    (λ none. (
      and_from (list_all (pair_fits rows.columns right.after.columns) plan.on) (not plan.lookup || is_lookup_kind plan.kind) (fit (both-none (fault_if false 416 operator) clashes none).1) lookup,
      join-once plan.kind plan rows.columns right.after.columns names sound.columns small,
    ))
    is

pub join_sound : (operator : Place) (lookup : Bool) (kind : Option (JoinSign × List Hint)) (keys : List On) (known : Known) (inside : Bool) (rows : Shape) (right : Outcome BoundPlan) (b : BoundOp) → AreColumns rows.columns → ((r : BoundPlan) → right ≡ Ok r → IsSoundPlan known r) → join_bound operator lookup kind keys known inside rows right ≡ Ok b → IsSoundOp known inside rows b
unfolding join_bound join_plan
join_sound operator lookup kind keys known inside rows right b names sound is =
    let first = after-ok right (λ (r : BoundPlan). each_bound (key_bound operator known rows.columns r.after.columns) keys >>= λ pairs. joined operator inside rows r keys (join_plan lookup kind pairs)) b is in
    let r : BoundPlan = first.0 in
    let next = after-ok (each_bound (key_bound operator known rows.columns r.after.columns) keys) (λ (pairs : List OnPair). joined operator inside rows r keys (join_plan lookup kind pairs)) b first.2 in
    joined-sound operator known inside rows r keys (join_plan lookup kind next.0) b names (sound r first.1)
    (keys-fit operator known rows.columns r.after.columns keys next.0 next.1)
    (kind-fits lookup kind)
    next.2
