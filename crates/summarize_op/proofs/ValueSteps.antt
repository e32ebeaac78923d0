-- The values of expressions over groups, part by part.
use Rattle.std.proofs.Common.{◌≡◌, ◌<◌, ◌+◌, ◌++◌, ℕ, List, [], ◌∷◌, get_or, length, map, take, fold, refl, ap, ap₂, sym, ◌∙◌, subst, arith}
use Rattle.std.specs.Prelude.{replicate}
use Rattle.std.specs.List.{AllByRecursion, range_with_len}
use Rattle.std.proofs.lemmas.List.{get_or-replicate, length-replicate, map-append, take_more}
use Rattle.std.proofs.lemmas.List.Elements.{All-from_recursion, recursion_from_All}
use Rattle.std.proofs.lemmas.List.Sums.{fold_more}
use Rattle.std.proofs.lemmas.List.FromFn.{get_or-map-range_with_len, length-map-range_with_len}
use Rattle.kql_cells.specs.Seen.{value_at}
use Rattle.kql_cells.specs.Table.{Grid}
use Rattle.kql_cells.specs.Values.{IsWellFormed}
use Rattle.kql_cells.specs.declared.schema.Column.{Column}
use Rattle.kql_cells.specs.declared.value.Value.{Value}
use Rattle.kql_cells.specs.declared.value.Value.TheVariants as value
use Rattle.kql_values.specs.Grids.{HaveLength, row_of}
use Rattle.kql_functions.specs.declared.func.Func.{Func}
use Rattle.kql_scalar_fns.specs.Applied.{applied}
use Rattle.kql_scalar_fns.specs.Arguments.{AreWellFormed}
use Rattle.kql_bound.specs.Signs.{sign_func}
use Rattle.kql_bound.specs.declared.expr.BExpr.{BExpr}
use Rattle.kql_bound.specs.declared.expr.BExpr.TheVariants as V
use Rattle.kql_bound.specs.declared.expr.ChainSign.{ChainSign}
use Rattle.kql_bound.specs.declared.literal.Lit.{Lit}
use Rattle.kql_meaning.specs.Expressions.{chain_value, look, path_value, val, value_along, value_down, values_in}
use Rattle.kql_meaning.proofs.ValueLaws.{val-Call, val-Chain, val-Literal, val-Path}
use Rattle.kql_row_laws.proofs.GatheredLaws.{at-each}
use Rattle.summarize_op.specs.Groups.{group_at}
use Rattle.summarize_op.specs.Grouped.{AreFormed, IsGrouped, all_over, along, applied_over, applied_to_both, down, over}
use Rattle.summarize_op.proofs.ColumnFacts.{map-range-same}
use Rattle.summarize_op.proofs.PartSteps.{grouped_literal}

pub over-long : (e : BExpr) (t : Grid) (ns : List ℕ) (count : ℕ) → length (over e t ns count) ≡ count
unfolding over
over-long e t ns count = length-map-range_with_len (λ g. val e (group_at t ns g) 0 []) 0 count

over-at : (e : BExpr) (t : Grid) (ns : List ℕ) (count g : ℕ) → g < count → value_at (over e t ns count) g ≡ val e (group_at t ns g) 0 []
unfolding over
over-at e t ns count g lt = get_or-map-range_with_len (λ g. val e (group_at t ns g) 0 []) 0 count g g value.Null lt (omega arith)

-- A list is its elements, place by place.

itself : (vs : List Value) → map (λ (v : Value). v) vs ≡ vs
itself [] = refl
itself (v ∷ vs) = ap (λ (xs : List Value). v ∷ xs) (itself vs)

by-places : (vs : List Value) (f : ℕ → Value) (n : ℕ) → length vs ≡ n → ((g : ℕ) → g < n → value_at vs g ≡ f g) → vs ≡ map f (range_with_len 0 n)
by-places vs f n len h =
    sym (at-each value.Null f (λ (v : Value). v) vs (λ g lt. sym (h g (omega (arith, len, lt)))) ∙ itself vs) ∙ ap (λ m. map f (range_with_len 0 m)) len

-- Constants.

pub over-Literal : (l : Lit) (t : Grid) (ns : List ℕ) (count : ℕ) → over (V.Literal l) t ns count ≡ replicate count l.value
unfolding over
over-Literal l t ns count =
    sym (by-places (replicate count l.value) (λ g. val (V.Literal l) (group_at t ns g) 0 []) count (length-replicate count l.value)
    (λ g lt. get_or-replicate count g l.value value.Null lt ∙ sym (val-Literal l (group_at t ns g) 0 [])))

pub literal-formed : (cs : List Column) (e : BExpr) (l : Lit) (count : ℕ) (vs : List Value) → IsGrouped cs e → e ≡ V.Literal l → vs ≡ replicate count l.value → AreWellFormed vs
literal-formed cs e l count vs h is same =
    let one = grouped_literal cs e l h is in
    subst AreWellFormed (sym same) (record { each = λ k d lt. subst IsWellFormed (sym (get_or-replicate count k l.value d (omega (arith, length-replicate count l.value, lt)))) one })

-- Calls.

all-row : (es : List BExpr) (t : Grid) (ns : List ℕ) (count g : ℕ) → g < count → row_of (all_over es t ns count) g ≡ values_in es (group_at t ns g) 0 []
unfolding all_over row_of values_in
all-row [] t ns count g lt = refl
all-row (e ∷ es) t ns count g lt = ap₂ (λ (v : Value) (vs : List Value). v ∷ vs) (over-at e t ns count g lt) (all-row es t ns count g lt)

pub over-Call : (f : Func) (args : List BExpr) (t : Grid) (ns : List ℕ) (count : ℕ) → over (V.Call f args) t ns count ≡ applied_over f (all_over args t ns count) count
unfolding over applied_over
over-Call f args t ns count =
    map-range-same (λ g. val (V.Call f args) (group_at t ns g) 0 []) (λ g. applied f (row_of (all_over args t ns count) g)) 0 count
    (λ g lt. val-Call f args (group_at t ns g) 0 [] ∙ ap (applied f) (sym (all-row args t ns count g (omega (arith, lt)))))

pub all-long : (es : List BExpr) (t : Grid) (ns : List ℕ) (count : ℕ) → HaveLength count (all_over es t ns count)
unfolding HaveLength all_over
all-long [] t ns count = tt
all-long (e ∷ es) t ns count = (over-long e t ns count, all-long es t ns count)

-- Chains and paths.

pub over-Chain : (first : BExpr) (links : List (ChainSign × BExpr)) (t : Grid) (ns : List ℕ) (count : ℕ) → over (V.Chain first links) t ns count ≡ along links t ns count (over first t ns count)
unfolding over along
over-Chain first links t ns count =
    map-range-same (λ g. val (V.Chain first links) (group_at t ns g) 0 []) (λ g. value_along links (group_at t ns g) 0 [] (value_at (over first t ns count) g)) 0 count
    (λ g lt. val-Chain first links (group_at t ns g) 0 [] ∙ ap (value_along links (group_at t ns g) 0 []) (sym (over-at first t ns count g (omega (arith, lt)))))

pub over-Path : (whole : BExpr) (steps : List BExpr) (t : Grid) (ns : List ℕ) (count : ℕ) → over (V.Path whole steps) t ns count ≡ down steps t ns count (over whole t ns count)
unfolding over down
over-Path whole steps t ns count =
    map-range-same (λ g. val (V.Path whole steps) (group_at t ns g) 0 []) (λ g. value_down steps (group_at t ns g) 0 [] (value_at (over whole t ns count) g)) 0 count
    (λ g lt. val-Path whole steps (group_at t ns g) 0 [] ∙ ap (value_down steps (group_at t ns g) 0 []) (sym (over-at whole t ns count g (omega (arith, lt)))))

pub over-count : (e : BExpr) (t : Grid) (ns : List ℕ) (count : ℕ) (vs : List Value) → vs ≡ over e t ns count → length vs ≡ count
over-count e t ns count vs is = ap (λ (xs : List Value). length xs) is ∙ over-long e t ns count

pub literal-long : (count : ℕ) (v : Value) (vs : List Value) → vs ≡ replicate count v → length vs ≡ count
literal-long count v vs is = ap (λ (xs : List Value). length xs) is ∙ length-replicate count v

pub applied-long : (f : Func) (columns : List (List Value)) (count : ℕ) (vs : List Value) → vs ≡ applied_over f columns count → length vs ≡ count
unfolding applied_over
applied-long f columns count vs is = ap (λ (xs : List Value). length xs) is ∙ length-map-range_with_len (λ g. applied f (row_of columns g)) 0 count

pub along-long : (links : List (ChainSign × BExpr)) (t : Grid) (ns : List ℕ) (count : ℕ) (first vs : List Value) → vs ≡ along links t ns count first → length vs ≡ count
unfolding along
along-long links t ns count first vs e = ap (λ (xs : List Value). length xs) e ∙ length-map-range_with_len (λ g. value_along links (group_at t ns g) 0 [] (value_at first g)) 0 count

pub down-long : (steps : List BExpr) (t : Grid) (ns : List ℕ) (count : ℕ) (first vs : List Value) → vs ≡ down steps t ns count first → length vs ≡ count
unfolding down
down-long steps t ns count first vs e = ap (λ (xs : List Value). length xs) e ∙ length-map-range_with_len (λ g. value_down steps (group_at t ns g) 0 [] (value_at first g)) 0 count

pub ruleset value_steps = (over-Literal, literal-formed, literal-long, over-Call, all-long, applied-long, over-Chain, along-long, over-Path, down-long, over-count)

-- Several expressions, up to a place.

pub all-start : (es : List BExpr) (t : Grid) (ns : List ℕ) (count : ℕ) → all_over (take 0 es) t ns count ≡ []
unfolding all_over
all-start es t ns count = refl

pub all-step : (es : List BExpr) (t : Grid) (ns : List ℕ) (count i : ℕ) (e : BExpr) (old new : List (List Value)) (v : List Value) → i < length es → e ≡ get_or es i e → old ≡ all_over (take i es) t ns count → v ≡ over e t ns count → new ≡ old ++ v ∷ [] → new ≡ all_over (take (i + 1) es) t ns count
unfolding all_over
all-step es t ns count i e old new v lt is before one after =
    rw (take_more es i e lt, ← is, map-append (λ e. over e t ns count) (take i es) (e ∷ []), ← before, ← one) after

pub no-columns-formed : AreFormed []
no-columns-formed = record { each = λ k d l. absurd (omega arith) }

append-all : (P : List Value → Type 0) (xs : List (List Value)) (v : List Value) → AllByRecursion P xs → P v → AllByRecursion P (xs ++ v ∷ [])
append-all P [] v h p = (p, tt)
append-all P (x ∷ xs) v h p = (h.0, append-all P xs v h.1 p)

pub columns-formed : (old new : List (List Value)) (v : List Value) → AreFormed old → AreWellFormed v → new ≡ old ++ v ∷ [] → AreFormed new
columns-formed old new v h f after =
    subst AreFormed (sym after) (record { each = All-from_recursion AreWellFormed (old ++ v ∷ []) (append-all AreWellFormed old v (recursion_from_All AreWellFormed old h.each) f) })

pub ruleset list_steps = (all-start, no-columns-formed, columns-formed)

-- Links and steps, up to a place.

abbrev link_step : Grid → Value → ChainSign × BExpr → Value
link_step u v l = applied (sign_func l.0) (v ∷ val l.1 u 0 [] ∷ [])

abbrev path_step : Grid → Value → BExpr → Value
path_step u v e = applied look (v ∷ val e u 0 [] ∷ [])

along-fold : (links : List (ChainSign × BExpr)) (u : Grid) (v : Value) → value_along links u 0 [] v ≡ fold (link_step u) v links
unfolding value_along chain_value
along-fold [] u v = refl
along-fold (l ∷ ls) u v = along-fold ls u (link_step u v l)

down-fold : (steps : List BExpr) (u : Grid) (v : Value) → value_down steps u 0 [] v ≡ fold (path_step u) v steps
unfolding value_down path_value values_in
down-fold [] u v = refl
down-fold (e ∷ es) u v = down-fold es u (path_step u v e)

along-next : (links : List (ChainSign × BExpr)) (i : ℕ) (l : ChainSign × BExpr) (u : Grid) (v : Value) → i < length links → l ≡ get_or links i l → value_along (take (i + 1) links) u 0 [] v ≡ applied (sign_func l.0) (value_along (take i links) u 0 [] v ∷ val l.1 u 0 [] ∷ [])
along-next links i l u v lt is =
    along-fold (take (i + 1) links) u v
    ∙ (fold_more (link_step u) v links i l lt
    ∙ ap₂ (λ (w : Value) (m : ChainSign × BExpr). link_step u w m) (sym (along-fold (take i links) u v)) (sym is))

down-next : (steps : List BExpr) (i : ℕ) (e : BExpr) (u : Grid) (v : Value) → i < length steps → e ≡ get_or steps i e → value_down (take (i + 1) steps) u 0 [] v ≡ applied look (value_down (take i steps) u 0 [] v ∷ val e u 0 [] ∷ [])
down-next steps i e u v lt is =
    down-fold (take (i + 1) steps) u v
    ∙ (fold_more (path_step u) v steps i e lt
    ∙ ap₂ (λ (w : Value) (m : BExpr). path_step u w m) (sym (down-fold (take i steps) u v)) (sym is))

pub along-start : (links : List (ChainSign × BExpr)) (t : Grid) (ns : List ℕ) (count : ℕ) (first : List Value) → length first ≡ count → first ≡ along (take 0 links) t ns count first
unfolding along value_along chain_value
along-start links t ns count first len = by-places first (λ g. value_at first g) count len (λ g lt. refl)

pub down-start : (steps : List BExpr) (t : Grid) (ns : List ℕ) (count : ℕ) (first : List Value) → length first ≡ count → first ≡ down (take 0 steps) t ns count first
unfolding down value_down path_value values_in
down-start steps t ns count first len = by-places first (λ g. value_at first g) count len (λ g lt. refl)

pub along-step : (links : List (ChainSign × BExpr)) (t : Grid) (ns : List ℕ) (count i : ℕ) (l : ChainSign × BExpr) (f : Func) (first old new : List Value) → i < length links → l ≡ get_or links i l → f ≡ sign_func l.0 → old ≡ along (take i links) t ns count first → new ≡ applied_to_both f old (over l.1 t ns count) count → new ≡ along (take (i + 1) links) t ns count first
unfolding along applied_to_both
along-step links t ns count i l f first old new lt is named before after =
    after
    ∙ map-range-same (λ g. applied f (value_at old g ∷ value_at (over l.1 t ns count) g ∷ [])) (λ g. value_along (take (i + 1) links) (group_at t ns g) 0 [] (value_at first g)) 0 count
    (λ g below.
    let inner : g < count = omega (arith, below) in
    let u = group_at t ns g in
    let left = ap (λ (vs : List Value). value_at vs g) before ∙ get_or-map-range_with_len (λ g. value_along (take i links) (group_at t ns g) 0 [] (value_at first g)) 0 count g g value.Null inner (omega arith) in
    ap₂ (λ (h : Func) (vs : List Value). applied h vs) named (ap₂ (λ (v w : Value). v ∷ w ∷ []) left (over-at l.1 t ns count g inner))
    ∙ sym (along-next links i l u (value_at first g) lt is))

pub down-step : (steps : List BExpr) (t : Grid) (ns : List ℕ) (count i : ℕ) (e : BExpr) (first old new : List Value) → i < length steps → e ≡ get_or steps i e → old ≡ down (take i steps) t ns count first → new ≡ applied_to_both look old (over e t ns count) count → new ≡ down (take (i + 1) steps) t ns count first
unfolding down applied_to_both
down-step steps t ns count i e first old new lt is before after =
    after
    ∙ map-range-same (λ g. applied look (value_at old g ∷ value_at (over e t ns count) g ∷ [])) (λ g. value_down (take (i + 1) steps) (group_at t ns g) 0 [] (value_at first g)) 0 count
    (λ g below.
    let inner : g < count = omega (arith, below) in
    let u = group_at t ns g in
    let left = ap (λ (vs : List Value). value_at vs g) before ∙ get_or-map-range_with_len (λ g. value_down (take i steps) (group_at t ns g) 0 [] (value_at first g)) 0 count g g value.Null inner (omega arith) in
    ap (applied look) (ap₂ (λ (v w : Value). v ∷ w ∷ []) left (over-at e t ns count g inner))
    ∙ sym (down-next steps i e u (value_at first g) lt is))

pub ruleset along_steps = (along-start)

pub ruleset down_steps = (down-start)

pub both-long : (f : Func) (ls rs vs : List Value) (count : ℕ) → vs ≡ applied_to_both f ls rs count → length vs ≡ count
unfolding applied_to_both
both-long f ls rs vs count e = ap (λ (xs : List Value). length xs) e ∙ length-map-range_with_len (λ g. applied f (value_at ls g ∷ value_at rs g ∷ [])) 0 count

pub right-over : (f : Func) (ls rs vs : List Value) (e : BExpr) (t : Grid) (ns : List ℕ) (count : ℕ) → rs ≡ over e t ns count → vs ≡ applied_to_both f ls rs count → vs ≡ applied_to_both f ls (over e t ns count) count
right-over f ls rs vs e t ns count is made = made ∙ ap (λ (xs : List Value). applied_to_both f ls xs count) is

pub ruleset link_steps = (both-long, right-over)
