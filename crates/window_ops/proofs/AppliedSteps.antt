-- Functions of columns, row by row.
use Rattle.std.proofs.Common.{◌≡◌, ◌<◌, ◌≤◌, ◌+◌, ℕ, zero, suc, List, [], ◌∷◌, ◌++◌, map, length, get_or, take, refl, ap, ap₂, sym, ◌∙◌, subst, arith}
use Rattle.std.proofs.lemmas.List.{map-append, take_more}
use Rattle.std.proofs.lemmas.List.FromFn.{map-range_with_len_more}
use Rattle.kql_cells.specs.Seen.{value_at, seen}
use Rattle.kql_cells.specs.Values.{IsWellFormed}
use Rattle.kql_cells.specs.declared.cell.CellRef.{CellRef}
use Rattle.kql_cells.specs.declared.value.Value.{Value}
use Rattle.kql_cells.specs.declared.value.Value.TheVariants as value
use Rattle.kql_functions.specs.declared.func.Func.{Func}
use Rattle.kql_scalar_fns.specs.Applied.{applied}
use Rattle.kql_scalar_fns.specs.Arguments.{AreWellFormed}
use Rattle.kql_values.specs.Grids.{row_of}
use Rattle.window_ops.specs.Columns.{AreColumns, applied_down}

-- Well-formed values.

pub forms-none : AreWellFormed []
forms-none = record { each = λ k d l. absurd (omega arith) }

each-form : (v : Value) (vs : List Value) → IsWellFormed v → AreWellFormed vs → (k : ℕ) (d : Value) → k < length (v ∷ vs) → IsWellFormed (get_or (v ∷ vs) k d)
each-form v vs f h zero d l = f
each-form v vs f h (suc k) d l = h.each k d (omega arith)

pub forms-joined : (v : Value) (vs : List Value) → IsWellFormed v → AreWellFormed vs → AreWellFormed (v ∷ vs)
forms-joined v vs f h = record { each = each-form v vs f h }

rest : (v : Value) (vs : List Value) → AreWellFormed (v ∷ vs) → AreWellFormed vs
rest v vs h = record { each = λ k d l. h.each (suc k) d (omega arith) }

pub forms-more : (vs : List Value) (v : Value) → AreWellFormed vs → IsWellFormed v → AreWellFormed (vs ++ v ∷ [])
forms-more [] v h f = forms-joined v [] f forms-none
forms-more (w ∷ vs) v h f = forms-joined w (vs ++ v ∷ []) (h.each 0 value.Null (omega arith)) (forms-more vs v (rest w vs h) f)

-- The row of columns.

pub columns-item : (n : ℕ) (cs : List (List Value)) (k : ℕ) (c : List Value) → AreColumns n cs → k < length cs → c ≡ get_or cs k c → length c ≡ n
unfolding AreColumns
columns-item n [] k c h lt is = absurd (omega arith)
columns-item n (d ∷ ds) zero c h lt is = ap length is ∙ h.0.0
columns-item n (d ∷ ds) (suc k) c h lt is = columns-item n ds k c h.1 (omega arith) is

pub item-row : (n : ℕ) (cs : List (List Value)) (k : ℕ) (c : List Value) (i : ℕ) → AreColumns n cs → k < length cs → c ≡ get_or cs k c → i < n → i < length c
item-row n cs k c i h lt is row = let same = columns-item n cs k c h lt is in omega (arith, same, row)

pub row-forms : (n : ℕ) (cs : List (List Value)) (i : ℕ) → AreColumns n cs → i < n → AreWellFormed (row_of cs i)
unfolding AreColumns row_of
row-forms n [] i h lt = forms-none
row-forms n (c ∷ cs) i h lt = forms-joined (value_at c i) (row_of cs i) (h.0.1.each i value.Null (omega (arith, h.0.0, lt))) (row-forms n cs i h.1 lt)

pub row-one : (cs : List (List Value)) (i : ℕ) (a : List Value) → 1 ≤ length cs → length cs < 2 → a ≡ get_or cs 0 a → row_of cs i ≡ value_at a i ∷ []
unfolding row_of
row-one [] i a l m p = absurd (omega arith)
row-one (c ∷ []) i a l m p = rw (← p) refl
row-one (c ∷ d ∷ cs) i a l m p = absurd (omega arith)

pub row-two : (cs : List (List Value)) (i : ℕ) (a b : List Value) → 2 ≤ length cs → length cs < 3 → a ≡ get_or cs 0 a → b ≡ get_or cs 1 b → row_of cs i ≡ value_at a i ∷ value_at b i ∷ []
unfolding row_of
row-two [] i a b l m p q = absurd (omega arith)
row-two (c ∷ []) i a b l m p q = absurd (omega arith)
row-two (c ∷ d ∷ []) i a b l m p q = rw (← p, ← q) refl
row-two (c ∷ d ∷ e ∷ cs) i a b l m p q = absurd (omega arith)

pub row-three : (cs : List (List Value)) (i : ℕ) (a b e : List Value) → 3 ≤ length cs → length cs < 4 → a ≡ get_or cs 0 a → b ≡ get_or cs 1 b → e ≡ get_or cs 2 e → row_of cs i ≡ value_at a i ∷ value_at b i ∷ value_at e i ∷ []
unfolding row_of
row-three [] i a b e l m p q r = absurd (omega arith)
row-three (c ∷ []) i a b e l m p q r = absurd (omega arith)
row-three (c ∷ d ∷ []) i a b e l m p q r = absurd (omega arith)
row-three (c ∷ d ∷ f ∷ []) i a b e l m p q r = rw (← p, ← q, ← r) refl
row-three (c ∷ d ∷ f ∷ g ∷ cs) i a b e l m p q r = absurd (omega arith)

-- Its cells are well formed.

pub formed : (n : ℕ) (cs : List (List Value)) (i : ℕ) (vs : List Value) → AreColumns n cs → i < n → vs ≡ row_of cs i → AreWellFormed vs
formed n cs i vs h lt is = subst AreWellFormed (sym is) (row-forms n cs i h lt)

pub form-one : (n : ℕ) (cs : List (List Value)) (i : ℕ) (a : List Value) (u : Value) → AreColumns n cs → i < n → 1 ≤ length cs → length cs < 2 → a ≡ get_or cs 0 a → u ≡ value_at a i → AreWellFormed (u ∷ [])
form-one n cs i a u h lt l m p e = formed n cs i (u ∷ []) h lt (ap (λ x. x ∷ []) e ∙ sym (row-one cs i a l m p))

pub form-two : (n : ℕ) (cs : List (List Value)) (i : ℕ) (a b : List Value) (u v : Value) → AreColumns n cs → i < n → 2 ≤ length cs → length cs < 3 → a ≡ get_or cs 0 a → b ≡ get_or cs 1 b → u ≡ value_at a i → v ≡ value_at b i → AreWellFormed (u ∷ v ∷ [])
form-two n cs i a b u v h lt l m p q e f = formed n cs i (u ∷ v ∷ []) h lt (ap₂ (λ x y. x ∷ y ∷ []) e f ∙ sym (row-two cs i a b l m p q))

pub form-three : (n : ℕ) (cs : List (List Value)) (i : ℕ) (a b d : List Value) (u v w : Value) → AreColumns n cs → i < n → 3 ≤ length cs → length cs < 4 → a ≡ get_or cs 0 a → b ≡ get_or cs 1 b → d ≡ get_or cs 2 d → u ≡ value_at a i → v ≡ value_at b i → w ≡ value_at d i → AreWellFormed (u ∷ v ∷ w ∷ [])
form-three n cs i a b d u v w h lt l m p q r e f g = formed n cs i (u ∷ v ∷ w ∷ []) h lt (rw (e, f, g) (sym (row-three cs i a b d l m p q r)))

pub ruleset row_steps = (row-one, row-two, row-three, item-row)

-- Its cells.

pub row-map : (cs : List (List Value)) (i : ℕ) → row_of cs i ≡ map (λ c. value_at c i) cs
unfolding row_of
row-map [] i = refl
row-map (c ∷ cs) i = ap (λ vs. value_at c i ∷ vs) (row-map cs i)

pub cells-none : (i : ℕ) → map seen [] ≡ row_of [] i
unfolding row_of
cells-none i = refl

pub cells-turn : (cs : List (List Value)) (k i : ℕ) (c : List Value) (old new : List CellRef) (cell : CellRef) → k < length cs → c ≡ get_or cs k c → map seen old ≡ row_of (take k cs) i → seen cell ≡ value_at c i → new ≡ old ++ cell ∷ [] → map seen new ≡ row_of (take (k + 1) cs) i
cells-turn cs k i c old new cell lt is before one after =
    let more : take (k + 1) cs ≡ take k cs ++ c ∷ [] = take_more cs k c lt ∙ ap (λ x. take k cs ++ x ∷ []) (sym is) in
    ap (map seen) after
    ∙ (map-append seen old (cell ∷ [])
    ∙ (ap₂ (λ (vs : List Value) (v : Value). vs ++ v ∷ []) (before ∙ row-map (take k cs) i) one
    ∙ sym (row-map (take (k + 1) cs) i ∙ (ap (map (λ c. value_at c i)) more ∙ map-append (λ c. value_at c i) (take k cs) (c ∷ [])))))

pub ruleset cell_steps = (item-row, cells-none, cells-turn)

-- All rows.

pub applied-none : (f : Func) (cs : List (List Value)) → [] ≡ applied_down f 0 cs
unfolding applied_down
applied-none f cs = refl

pub applied-turn : (f : Func) (cs : List (List Value)) (i : ℕ) (old new : List Value) (v : Value) → old ≡ applied_down f i cs → v ≡ applied f (row_of cs i) → new ≡ old ++ v ∷ [] → new ≡ applied_down f (i + 1) cs
unfolding applied_down
applied-turn f cs i old new v before one after =
    after ∙ (ap₂ (λ (vs : List Value) (w : Value). vs ++ w ∷ []) before one ∙ sym (map-range_with_len_more (λ i. applied f (row_of cs i)) 0 i i (omega arith)))

pub applied-end : (f : Func) (cs : List (List Value)) (i n : ℕ) (vs : List Value) → i ≡ n → vs ≡ applied_down f i cs → vs ≡ applied_down f n cs
applied-end f cs i n vs end is = is ∙ ap (λ m. applied_down f m cs) end

pub forms-turn : (old new : List Value) (v : Value) → AreWellFormed old → IsWellFormed v → new ≡ old ++ v ∷ [] → AreWellFormed new
forms-turn old new v h f after = subst AreWellFormed (sym after) (forms-more old v h f)

pub ruleset loop_steps = (forms-none, applied-none, applied-turn, applied-end, forms-turn)
