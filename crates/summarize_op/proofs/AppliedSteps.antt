-- Functions of the values that columns have at each place.
use Rattle.std.proofs.Common.{◌≡◌, ◌<◌, ◌+◌, ◌++◌, ℕ, List, [], ◌∷◌, get_or, length, map, take, refl, ap, ap₂, sym, ◌∙◌, subst, arith}
use Rattle.std.specs.Prelude.{All}
use Rattle.std.specs.List.{AllByRecursion}
use Rattle.std.proofs.lemmas.List.{map-append, take_more}
use Rattle.std.proofs.lemmas.List.Elements.{All-from_recursion, recursion_from_All}
use Rattle.std.proofs.lemmas.List.FromFn.{map-range_with_len_more}
use Rattle.kql_cells.specs.Seen.{seen, value_at}
use Rattle.kql_cells.specs.Values.{IsWellFormed}
use Rattle.kql_cells.specs.declared.cell.CellRef.{CellRef}
use Rattle.kql_cells.specs.declared.value.Value.{Value}
use Rattle.kql_cells.specs.declared.value.Value.TheVariants as value
use Rattle.kql_values.specs.Grids.{HaveLength, row_of}
use Rattle.kql_values.proofs.GridLaws.{row_of-more}
use Rattle.kql_functions.specs.declared.func.Func.{Func}
use Rattle.kql_scalar_fns.specs.Applied.{applied}
use Rattle.kql_scalar_fns.specs.Arguments.{AreWellFormed}
use Rattle.summarize_op.specs.Grouped.{AreFormed, applied_over, applied_to_both}

-- Well formed values.

pub no-forms : AreWellFormed []
no-forms = record { each = λ k d l. absurd (omega arith) }

pub joined-forms : (v : Value) (vs : List Value) → IsWellFormed v → AreWellFormed vs → AreWellFormed (v ∷ vs)
joined-forms v vs f h = record { each = All-from_recursion IsWellFormed (v ∷ vs) (f, recursion_from_All IsWellFormed vs h.each) }

pub more-forms : (vs : List Value) (v : Value) → AreWellFormed vs → IsWellFormed v → AreWellFormed (vs ++ v ∷ [])
more-forms [] v h f = joined-forms v [] f no-forms
more-forms (w ∷ vs) v h f =
    let all = recursion_from_All IsWellFormed (w ∷ vs) h.each in
    joined-forms w (vs ++ v ∷ []) all.0 (more-forms vs v (record { each = All-from_recursion IsWellFormed vs all.1 }) f)

pub form-at : (vs : List Value) (g : ℕ) → AreWellFormed vs → g < length vs → IsWellFormed (value_at vs g)
form-at vs g h lt = h.each g value.Null lt

-- Cells of vectors at a place.

pub cells-start : (vs : List (List Value)) (g : ℕ) → row_of (take 0 vs) g ≡ []
unfolding row_of
cells-start vs g = refl

pub cells-step : (vs : List (List Value)) (g i : ℕ) (v : List Value) (cell : CellRef) (old new : List CellRef) → i < length vs → v ≡ get_or vs i v → map seen old ≡ row_of (take i vs) g → seen cell ≡ value_at v g → new ≡ old ++ cell ∷ [] → map seen new ≡ row_of (take (i + 1) vs) g
cells-step vs g i v cell old new lt is before value after =
    ap (map seen) after
    ∙ (map-append seen old (cell ∷ [])
    ∙ (ap₂ (λ (xs : List Value) (x : Value). xs ++ x ∷ []) before value
    ∙ (sym (row_of-more (take i vs) g v) ∙ ap (λ (us : List (List Value)). row_of us g) (sym (take_more vs i v lt ∙ ap (λ (x : List Value). take i vs ++ x ∷ []) (sym is))))))

pub cell-inside : (vs : List (List Value)) (g i : ℕ) (v : List Value) → All (λ (x : List Value). g < length x) vs → i < length vs → v ≡ get_or vs i v → g < length v
cell-inside vs g i v h lt is = subst (λ (x : List Value). g < length x) (sym is) (h i v lt)

pub ruleset cell_steps = (cells-start, cells-step, cell-inside)

-- Several columns.

each-long : (vs : List (List Value)) (count g : ℕ) → HaveLength count vs → g < count → AllByRecursion (λ (x : List Value). g < length x) vs
unfolding HaveLength
each-long [] count g h lt = tt
each-long (v ∷ vs) count g h lt = (omega (arith, h.0, lt), each-long vs count g h.1 lt)

pub place-inside : (vs : List (List Value)) (count g : ℕ) → HaveLength count vs → g < count → All (λ (x : List Value). g < length x) vs
place-inside vs count g h lt = All-from_recursion (λ (x : List Value). g < length x) vs (each-long vs count g h lt)

row-formed : (vs : List (List Value)) (count g : ℕ) → AllByRecursion AreWellFormed vs → HaveLength count vs → g < count → AreWellFormed (row_of vs g)
unfolding HaveLength row_of
row-formed [] count g f h lt = no-forms
row-formed (v ∷ vs) count g f h lt = joined-forms (value_at v g) (row_of vs g) (form-at v g f.0 (omega (arith, h.0, lt))) (row-formed vs count g f.1 h.1 lt)

pub cells-formed : (vs : List (List Value)) (count g : ℕ) (cells : List CellRef) → AreFormed vs → HaveLength count vs → g < count → map seen cells ≡ row_of vs g → AreWellFormed (map seen cells)
cells-formed vs count g cells f h lt e = subst AreWellFormed (sym e) (row-formed vs count g (recursion_from_All AreWellFormed vs f.each) h lt)

-- The values so far.
abbrev pub first_applied : Func → List (List Value) → ℕ → List Value
first_applied f vs n = applied_over f vs n

pub applied-start : (f : Func) (vs : List (List Value)) → applied_over f vs 0 ≡ []
unfolding applied_over
applied-start f vs = refl

pub applied-more : (f : Func) (vs : List (List Value)) (g : ℕ) (cells : List CellRef) (v : Value) (old new : List Value) → map seen cells ≡ row_of vs g → old ≡ applied_over f vs g → v ≡ applied f (map seen cells) → new ≡ old ++ v ∷ [] → new ≡ applied_over f vs (g + 1)
unfolding applied_over
applied-more f vs g cells v old new row before value after =
    after
    ∙ (ap₂ (λ (xs : List Value) (x : Value). xs ++ x ∷ []) before (value ∙ ap (applied f) row)
    ∙ sym (map-range_with_len_more (λ g. applied f (row_of vs g)) 0 g g (omega arith)))

pub ruleset applied_steps = (no-forms, more-forms, place-inside, cells-formed, applied-start, applied-more)

-- Two columns.

pub both-formed : (ls rs : List Value) (l r : Value) (g count : ℕ) → AreWellFormed ls → AreWellFormed rs → length ls ≡ count → length rs ≡ count → g < count → l ≡ value_at ls g → r ≡ value_at rs g → AreWellFormed (l ∷ r ∷ [])
both-formed ls rs l r g count f h el er lt le re =
    joined-forms l (r ∷ []) (subst IsWellFormed (sym le) (form-at ls g f (omega (arith, el, lt)))) (joined-forms r [] (subst IsWellFormed (sym re) (form-at rs g h (omega (arith, er, lt)))) no-forms)

pub both-start : (f : Func) (ls rs : List Value) → applied_to_both f ls rs 0 ≡ []
unfolding applied_to_both
both-start f ls rs = refl

pub both-more : (f : Func) (ls rs : List Value) (g : ℕ) (l r v : Value) (old new : List Value) → l ≡ value_at ls g → r ≡ value_at rs g → old ≡ applied_to_both f ls rs g → v ≡ applied f (l ∷ r ∷ []) → new ≡ old ++ v ∷ [] → new ≡ applied_to_both f ls rs (g + 1)
unfolding applied_to_both
both-more f ls rs g l r v old new le re before value after =
    after
    ∙ (ap₂ (λ (xs : List Value) (x : Value). xs ++ x ∷ []) before (value ∙ ap₂ (λ (a b : Value). applied f (a ∷ b ∷ [])) le re)
    ∙ sym (map-range_with_len_more (λ g. applied f (value_at ls g ∷ value_at rs g ∷ [])) 0 g g (omega arith)))

pub ruleset both_steps = (no-forms, more-forms, both-formed, both-start, both-more)
