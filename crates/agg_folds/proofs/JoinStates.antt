-- The fold of rows is joined with the fold of the rows behind them.
use Rattle.std.proofs.Common.{◌≡◌, ◌++◌, ◌∷◌, ◌∙◌, ℕ, suc, ℤ, List, [], length, refl, sym, ap, ap₂, arith, inl, inr, subst}
use Rattle.std.specs.Prelude.{FitsSigned, Option, None, Some, filter_map}
use Rattle.std.specs.Int.{w64}
use Rattle.std.specs.List.{All, AllByRecursion, cons_option}
use Rattle.std.proofs.lemmas.Bool.{cases_Bool}
use Rattle.std.proofs.lemmas.List.{length-append}
use Rattle.std.proofs.lemmas.List.Elements.{filter_map-append}
use Rattle.kql_cells.specs.declared.value.Kind.{Kind}
use Rattle.kql_cells.specs.declared.value.Value.{Value}
use Rattle.kql_functions.specs.declared.aggregate.Aggregate.{Aggregate}
use Rattle.kql_functions.specs.declared.aggregate.Aggregate.TheVariants as aggregate
use Rattle.kql_scalar_fns.specs.Arguments.{argument}
use Rattle.kql_meaning.specs.Values.{holds, number_of}
use Rattle.agg_folds.specs.declared.bits.BitOp.{BitOp}
use Rattle.agg_folds.specs.declared.bits.BitOp.TheVariants as op
use Rattle.agg_folds.specs.declared.call.FoldCall.{FoldCall}
use Rattle.agg_folds.specs.declared.state.State.TheVariants as state
use Rattle.agg_folds.specs.Folds.{first_or_absent, taken, taken_of, where_true}
use Rattle.agg_folds.specs.Kept.{is_better, joined_best}
use Rattle.agg_folds.specs.Laws.{HaveOneKind, IsLike}
use Rattle.agg_folds.specs.States.{Kept, bits_in, first_of, fold_of, greatest_of, joined, kept_of, least_of, list_of, set_of, state_by, state_of, with_fold}
use Rattle.agg_folds.proofs.BestLaws.{IsOf, greatest-join, least-join, some-rows}
use Rattle.agg_folds.proofs.JoinLaws.{Fits, bits-join, distinct-join, fits-stored, list-join, set-join, sum-join}

-- Values that are alike: of one type or null, with numbers of 64 bits.
abbrev AreAlike : Kind → List Value → Type 0
AreAlike k vs = AllByRecursion (IsLike k) vs

of-kind : (k : Kind) (vs : List Value) → AreAlike k vs → AllByRecursion (IsOf k) vs
of-kind k [] h = tt
of-kind k (v ∷ vs) h = (inr h.0.kind, of-kind k vs h.1)

fits-more : (o : Option ℤ) (ns : List ℤ) → ((n : ℤ) → o ≡ Some n → FitsSigned w64 n) → AllByRecursion Fits ns → AllByRecursion Fits (cons_option o ns)
fits-more None ns f h = h
fits-more (Some n) ns f h = (fits-stored n (f n refl), h)

numbers-fit : (k : Kind) (vs : List Value) → AreAlike k vs → AllByRecursion Fits (filter_map number_of vs)
numbers-fit k [] h = tt
numbers-fit k (v ∷ vs) h = fits-more (number_of v) (filter_map number_of vs) h.0.number (numbers-fit k vs h.1)

bits-joined : (o : BitOp) (k : Kind) (vs ws : List Value) → AreAlike k vs → AreAlike k ws → bits_in o (vs ++ ws) ≡ joined (bits_in o vs) (length vs) (bits_in o ws)
unfolding bits_in joined
bits-joined o k vs ws h g = ap (λ n. state.Bits (record { op = o; number = n })) (bits-join o vs ws (numbers-fit k vs h) (numbers-fit k ws g))

list-joined : (limit : Option ℕ) (vs ws : List Value) → list_of limit (vs ++ ws) ≡ joined (list_of limit vs) (length vs) (list_of limit ws)
unfolding list_of joined
list-joined limit vs ws = ap (λ xs. state.List (record { limit = limit; values = xs })) (list-join limit vs ws)

set-joined : (limit : Option ℕ) (vs ws : List Value) → set_of limit (vs ++ ws) ≡ joined (set_of limit vs) (length vs) (set_of limit ws)
unfolding set_of joined
set-joined limit vs ws = ap (λ xs. state.Set (record { limit = limit; values = xs })) (set-join limit vs ws)

first-joined : (kind : Option Kind) (vs ws : List Value) → first_of kind (vs ++ ws) ≡ joined (first_of kind vs) (length vs) (first_of kind ws)
unfolding first_of joined joined_best is_better first_or_absent
first-joined kind [] ws = refl
first-joined kind (v ∷ vs) ws = rw (some-rows v vs) refl

greatest-joined : (k : Kind) (vs ws : List Value) → AreAlike k vs → AreAlike k ws → greatest_of (vs ++ ws) ≡ joined (greatest_of vs) (length vs) (greatest_of ws)
unfolding greatest_of joined
greatest-joined k vs ws h g = ap state.Best (greatest-join k vs ws (of-kind k vs h) (of-kind k ws g))

least-joined : (k : Kind) (vs ws : List Value) → AreAlike k vs → AreAlike k ws → least_of (vs ++ ws) ≡ joined (least_of vs) (length vs) (least_of ws)
unfolding least_of joined
least-joined k vs ws h g = ap state.Best (least-join k vs ws (of-kind k vs h) (of-kind k ws g))

state-join : (f : Aggregate) (kind : Option Kind) (limit : Option ℕ) (k : Kind) (vs ws : List Value) → AreAlike k vs → AreAlike k ws → state_by f kind limit (vs ++ ws) ≡ joined (state_by f kind limit vs) (length vs) (state_by f kind limit ws)
unfolding state_by joined
state-join aggregate.Count kind limit k vs ws h g = refl
state-join aggregate.CountIf kind limit k vs ws h g = refl
state-join aggregate.CountDistinct kind limit k vs ws h g = ap state.Distinct (distinct-join vs ws)
state-join aggregate.CountDistinctIf kind limit k vs ws h g = ap state.Distinct (distinct-join vs ws)
state-join aggregate.Sum kind limit k vs ws h g = ap (state.Total kind) (sum-join vs ws)
state-join aggregate.SumIf kind limit k vs ws h g = ap (state.Total kind) (sum-join vs ws)
state-join aggregate.Min kind limit k vs ws h g = least-joined k vs ws h g
state-join aggregate.MinIf kind limit k vs ws h g = least-joined k vs ws h g
state-join aggregate.Max kind limit k vs ws h g = greatest-joined k vs ws h g
state-join aggregate.MaxIf kind limit k vs ws h g = greatest-joined k vs ws h g
state-join aggregate.MakeList kind limit k vs ws h g = list-joined limit vs ws
state-join aggregate.MakeListIf kind limit k vs ws h g = list-joined limit vs ws
state-join aggregate.MakeSet kind limit k vs ws h g = set-joined limit vs ws
state-join aggregate.MakeSetIf kind limit k vs ws h g = set-joined limit vs ws
state-join aggregate.ArgMax kind limit k vs ws h g = greatest-joined k vs ws h g
state-join aggregate.ArgMin kind limit k vs ws h g = least-joined k vs ws h g
state-join aggregate.TakeAny kind limit k vs ws h g = first-joined kind vs ws
state-join aggregate.BinaryAllAnd kind limit k vs ws h g = bits-joined op.And k vs ws h g
state-join aggregate.BinaryAllOr kind limit k vs ws h g = bits-joined op.Or k vs ws h g
state-join aggregate.BinaryAllXor kind limit k vs ws h g = bits-joined op.Xor k vs ws h g

-- What is taken of a row is its first argument.

where-is : (p v w : Value) → where_true p v ≡ Some w → v ≡ w
unfolding where_true
where-is p v w e = elim (cases_Bool (holds p)) [
  | inl t ↦ let s : Some v ≡ Some w = rw t at e in cc
  | inr f ↦ let s : None ≡ Some w = rw f at e in cc
]

taken-is : (f : Aggregate) (row : List Value) (w : Value) → taken f row ≡ Some w → argument row 0 ≡ w
unfolding taken
taken-is aggregate.CountIf row w e = where-is (argument row 0) (argument row 0) w e
taken-is aggregate.CountDistinctIf row w e = where-is (argument row 1) (argument row 0) w e
taken-is aggregate.SumIf row w e = where-is (argument row 1) (argument row 0) w e
taken-is aggregate.MinIf row w e = where-is (argument row 1) (argument row 0) w e
taken-is aggregate.MaxIf row w e = where-is (argument row 1) (argument row 0) w e
taken-is aggregate.MakeListIf row w e = where-is (argument row 1) (argument row 0) w e
taken-is aggregate.MakeSetIf row w e = where-is (argument row 1) (argument row 0) w e
taken-is aggregate.Count row w e = cc
taken-is aggregate.CountDistinct row w e = cc
taken-is aggregate.Sum row w e = cc
taken-is aggregate.Min row w e = cc
taken-is aggregate.Max row w e = cc
taken-is aggregate.MakeList row w e = cc
taken-is aggregate.MakeSet row w e = cc
taken-is aggregate.ArgMax row w e = cc
taken-is aggregate.ArgMin row w e = cc
taken-is aggregate.TakeAny row w e = cc
taken-is aggregate.BinaryAllAnd row w e = cc
taken-is aggregate.BinaryAllOr row w e = cc
taken-is aggregate.BinaryAllXor row w e = cc

one-more : (k : Kind) (row : List Value) (o : Option Value) (vs : List Value) → ((w : Value) → o ≡ Some w → argument row 0 ≡ w) → IsLike k (argument row 0) → AreAlike k vs → AreAlike k (cons_option o vs)
one-more k row None vs e h g = g
one-more k row (Some w) vs e h g = (subst (λ (v : Value). IsLike k v) (e w refl) h, g)

of-taken : (f : Aggregate) (k : Kind) (rows : List (List Value)) → All (λ row. IsLike k (argument row 0)) rows → AreAlike k (filter_map (taken f) rows)
of-taken f k [] h = tt
of-taken f k (row ∷ rows) h = one-more k row (taken f row) (filter_map (taken f) rows) (taken-is f row) (h 0 row (omega arith)) (of-taken f k rows (λ i d l. h (suc i) d (omega arith)))

kept-join : (call : FoldCall) (k : Kind) (vs ws : List Value) → AreAlike k vs → AreAlike k ws → kept_of call (vs ++ ws) ≡ with_fold (kept_of call vs) (kept_of call ws)
unfolding kept_of with_fold state_of
kept-join call k vs ws h g = rw (state-join call.aggregate call.kind call.limit k vs ws h g, length-append vs ws) refl

pub rows-joined : (call : FoldCall) (rows more : List (List Value)) → HaveOneKind rows more → (old other new : Kept) → old ≡ fold_of call rows → other ≡ fold_of call more → new ≡ with_fold old other → new ≡ fold_of call (rows ++ more)
unfolding fold_of taken_of
rows-joined call rows more h old other new e f n =
    n ∙ (ap₂ with_fold e f ∙ sym (ap (kept_of call) (filter_map-append (taken call.aggregate) rows more)
    ∙ kept-join call h.kind (filter_map (taken call.aggregate) rows) (filter_map (taken call.aggregate) more) (of-taken call.aggregate h.kind rows h.each) (of-taken call.aggregate h.kind more h.further)))
