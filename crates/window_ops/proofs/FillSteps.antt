-- The rows of a range, from the columns of its items.
use Rattle.std.proofs.Common.{◌≡◌, ◌<◌, ◌≤◌, ◌+◌, ◌-◌, ◌^◌, ℕ, zero, suc, true, List, [], ◌∷◌, ◌++◌, map, length, take, drop, slice_range, refl, ap, ap₂, sym, ◌∙◌, subst, arith}
use Rattle.std.specs.List.{list_all, range_with_len}
use Rattle.std.proofs.lemmas.Bool.{and_parts}
use Rattle.std.proofs.lemmas.List.FromFn.{take-map-range_with_len}
use Rattle.kql_cells.specs.Table.{Grid}
use Rattle.kql_cells.specs.declared.value.Value.{Value}
use Rattle.kql_bound.specs.declared.parts.BItem.{BItem}
use Rattle.kql_meaning.specs.declared.position.Position.TheVariants as position
use Rattle.kql_meaning.specs.FittingExpressions.{expr_fits, scope_of}
use Rattle.kql_meaning.specs.FittingOperators.{has_its_names, item_fits, items_fit}
use Rattle.kql_meaning.specs.Items.{items_values}
use Rattle.kql_meaning.specs.Project.{project_table}
use Rattle.kql_meaning.specs.Tables.{places, places_below}
use Rattle.kql_values.specs.Grids.{HaveLength, row_of, rows_of}
use Rattle.row_ops.proofs.ItemColumnFacts.{map-range-same, one-result}
use Rattle.window_ops.specs.Calls.{AreBefore, calls_of_items, carries_of}
use Rattle.window_ops.specs.Carries.{Carried}
use Rattle.window_ops.specs.Columns.{columns_of_items}
use Rattle.window_ops.proofs.CallLaws.{before-all}
use Rattle.window_ops.proofs.DownSteps.{down-at, down-long}
use Rattle.window_ops.proofs.PieceSteps.{piece-range}
use Rattle.window_ops.proofs.RangeFacts.{rows-on}

pub fill-carries : (items : List BItem) (t : Grid) (from : ℕ) (cs : List Carried) → cs ≡ carries_of (calls_of_items items) t 0 from → AreBefore (calls_of_items items) t from cs
unfolding carries_of
fill-carries items t from cs is = subst (AreBefore (calls_of_items items) t from) (sym is) (before-all (calls_of_items items) t from)

columns-long : (items : List BItem) (t : Grid) (from n : ℕ) → HaveLength n (columns_of_items items t from n)
unfolding columns_of_items HaveLength
columns-long [] t from n = tt
columns-long (b ∷ bs) t from n = (down-long b.expr t from n, columns-long bs t from n)

pub fill-long : (items : List BItem) (t : Grid) (from n : ℕ) (vs : List (List Value)) → vs ≡ columns_of_items items t from n → HaveLength n vs
fill-long items t from n vs is = subst (HaveLength n) (sym is) (columns-long items t from n)

pub fill-small : (from to n m : ℕ) → n ≡ m → n < 2 ^ 63 → to ≤ m → to - from < 2 ^ 63
fill-small from to n m same small l = omega (arith, same, small, l)

row-of-items : (items : List BItem) (t : Grid) (from n k : ℕ) → k < n → list_all (item_fits (scope_of t.columns) position.Window) items ≡ true → row_of (columns_of_items items t from n) k ≡ items_values items t (from + k)
unfolding row_of columns_of_items items_values item_fits
row-of-items [] t from n k lt fits = refl
row-of-items (b ∷ bs) t from n k lt fits =
    let parts = and_parts (item_fits (scope_of t.columns) position.Window b) (list_all (item_fits (scope_of t.columns) position.Window) bs) fits in
    let own = and_parts (expr_fits b.expr (scope_of t.columns) position.Window) (has_its_names b t.columns) parts.0 in
    ap₂ (λ (v : Value) (vs : List Value). v ∷ vs) (down-at b.expr t from n k lt) (row-of-items bs t from n k lt parts.1)
    ∙ ap (λ (vs : List Value). vs ++ items_values bs t (from + k)) (sym (one-result b.expr (scope_of t.columns) own.0 t (from + k)))

rows-between : (items : List BItem) (t : Grid) (from n : ℕ) → items_fit items t.columns position.Window ≡ true → rows_of n (columns_of_items items t from n) ≡ map (λ k. items_values items t (from + k)) (range_with_len 0 n)
unfolding rows_of items_fit
rows-between items t from n fits =
    map-range-same (row_of (columns_of_items items t from n)) (λ k. items_values items t (from + k)) 0 n (λ k lt. row-of-items items t from n k (omega (arith, lt)) fits)

dropped : {X : Type 0} (g : ℕ → X) (a k m : ℕ) → drop k (map g (range_with_len a (k + m))) ≡ map g (range_with_len (a + k) m)
dropped g a zero m =
    let count : 0 + m ≡ m = omega arith in
    let start : a ≡ a + 0 = omega arith in
    ap (λ n. map g (range_with_len a n)) count ∙ ap (λ b. map g (range_with_len b m)) start
dropped g a (suc k) m =
    let more : suc k + m ≡ suc (k + m) = omega arith in
    let start : a + 1 + k ≡ a + suc k = omega arith in
    ap (λ j. drop (suc k) (map g (range_with_len a j))) more
    ∙ (dropped g (a + 1) k m ∙ ap (λ b. map g (range_with_len b m)) start)

sliced : {X : Type 0} (g : ℕ → X) (from to rows : ℕ) → from ≤ to → to ≤ rows → slice_range (map g (range_with_len 0 rows)) from to ≡ map (λ k. g (from + k)) (range_with_len 0 (to - from))
sliced g from to rows l k =
    let all : rows ≡ from + (rows - from) = omega (arith, l, k) in
    let zero : 0 + from ≡ from = omega arith in
    let start : from ≡ from + 0 = omega arith in
    ap (λ n. take (to - from) (drop from (map g (range_with_len 0 n)))) all
    ∙ (ap (take (to - from)) (dropped g 0 from (rows - from) ∙ ap (λ b. map g (range_with_len b (rows - from))) zero)
    ∙ (take-map-range_with_len g from (rows - from) (to - from) (omega (arith, l, k))
    ∙ (ap (λ b. map g (range_with_len b (to - from))) start ∙ rows-on g from 0 (to - from))))

pub fill-rows : (items : List BItem) (t : Grid) (from to n : ℕ) (vs r : List (List Value)) → items_fit items t.columns position.Window ≡ true → from ≤ to → to ≤ length t.lines → n ≡ to - from → vs ≡ columns_of_items items t from n → r ≡ rows_of n vs → r ≡ slice_range (project_table items t).lines from to
unfolding project_table places places_below
fill-rows items t from to n vs r fits l k count is made =
    made
    ∙ (ap (rows_of n) is
    ∙ (rows-between items t from n fits
    ∙ (ap (λ m. map (λ k. items_values items t (from + k)) (range_with_len 0 m)) count
    ∙ sym (sliced (items_values items t) from to (length t.lines) l k))))

pub ruleset fill_steps = (fill-carries, fill-long, fill-small, fill-rows, piece-range)
