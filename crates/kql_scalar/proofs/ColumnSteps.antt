-- The values at the rows of a range, as lists.
use Rattle.std.proofs.Common.{◌≡◌, ◌<◌, ◌≤◌, ◌+◌, ◌-◌, ℕ, zero, suc, List, [], ◌∷◌, length, map, take, drop, get_or, refl, ap, subst, sym, ◌∙◌, arith}
use Rattle.std.specs.Prelude.{Some, replicate, slice_range}
use Rattle.std.specs.List.{range_with_len}
use Rattle.std.proofs.lemmas.List.{drop_more}
use Rattle.std.proofs.lemmas.List.FromFn.{get_or-range_with_len, length-range_with_len}
use Rattle.kql_cells.specs.Seen.{value_at}
use Rattle.kql_cells.specs.Table.{Grid, IsGrid}
use Rattle.kql_cells.specs.declared.value.Value.{Value}
use Rattle.kql_cells.specs.declared.value.Value.TheVariants as value
use Rattle.kql_values.specs.Grids.{column_at}
use Rattle.kql_bound.specs.declared.literal.Lit.{Lit}
use Rattle.kql_meaning.specs.Expressions.{val}
use Rattle.kql_meaning.specs.Tables.{cell_in}
use Rattle.kql_scalar.specs.Means.{IsPlaced, means}
use Rattle.kql_scalar.specs.Rows.{rows}
use Rattle.kql_scalar.specs.declared.node.Node.{Node}
use Rattle.kql_scalar.specs.declared.node.Node.TheVariants as N
use Rattle.kql_scalar.proofs.FormFacts.{cell-column, column_within}
use Rattle.kql_scalar.proofs.NodeSteps.{node-Literal, placed_Column}
use Rattle.kql_scalar.proofs.RowSteps.{rows_end, sound_none, values_more, values_none}

-- A literal has one value at all rows.

constant : (v : Value) (f : ℕ → Value) (from n : ℕ) → ((i : ℕ) → f i ≡ v) → replicate n v ≡ map f (range_with_len from n)
constant v f from zero h = refl
constant v f from (suc n) h = rw (h from) (ap (λ vs. v ∷ vs) (constant v f (from + 1) n h))

pub literal-values : (n : Node) (l : Lit) (t : Grid) (from to : ℕ) → n ≡ N.Literal l → replicate (to - from) l.value ≡ map (λ i. val (means n) t i []) (rows from to)
unfolding rows
literal-values n l t from to is = constant l.value (λ i. val (means n) t i []) from (to - from) (λ i. ap (λ x. val (means x) t i []) is ∙ node-Literal l t i [])

-- A part of a column.

pub same-map : (f g : ℕ → Value) (xs : List ℕ) → ((k : ℕ) (d : ℕ) → k < length xs → f (get_or xs k d) ≡ g (get_or xs k d)) → map f xs ≡ map g xs
same-map f g [] h = refl
same-map f g (x ∷ xs) h = rw (h zero x (omega arith)) (ap (λ vs. g x ∷ vs) (same-map f g xs (λ k d l. h (suc k) d (omega arith))))

pub column-values : (n : Node) (name : List ℕ) (place : ℕ) (t : Grid) (from to : ℕ) → IsPlaced t.columns n → n ≡ N.Column name place → map (λ i. cell_in t i (Some place)) (rows from to) ≡ map (λ i. val (means n) t i []) (rows from to)
column-values n name place t from to h is = same-map (λ i. cell_in t i (Some place)) (λ i. val (means n) t i []) (rows from to) (λ k d l. sym (placed_Column n name place t (get_or (rows from to) k d) [] h is))

pub ruleset range_steps = (literal-values, column-values, column_within)

sliced : (vs : List Value) (from n : ℕ) → from + n ≤ length vs → take n (drop from vs) ≡ map (value_at vs) (range_with_len from n)
sliced vs from zero l = refl
sliced vs from (suc n) l = rw (drop_more vs from value.Null (omega arith)) (ap (λ ws. value_at vs from ∷ ws) (sliced vs (from + 1) n (omega arith)))

long-map : {X Y : Type 0} (f : X → Y) (xs : List X) → length (map f xs) ≡ length xs
long-map f [] = refl
long-map f (x ∷ xs) = ap suc (long-map f xs)

pub slice-values : (t : Grid) (place from to : ℕ) (vs : List Value) → IsGrid t → vs ≡ column_at t.lines place → place < length t.columns → from ≤ to → to ≤ length t.lines → slice_range vs from to ≡ map (λ i. cell_in t i (Some place)) (rows from to)
unfolding rows
slice-values t place from to vs h is w l m =
    let long : length vs ≡ length t.lines = ap length is ∙ long-map (λ row. value_at row place) t.lines in
    sliced vs from (to - from) (omega arith)
    ∙ same-map (value_at vs) (λ i. cell_in t i (Some place)) (range_with_len from (to - from)) (λ k d b.
    let below : k < to - from = subst (λ z. k < z) (length-range_with_len from (to - from)) b in
    let at : get_or (range_with_len from (to - from)) k d ≡ from + k = get_or-range_with_len from (to - from) k d below in
    sym (cell-column t (get_or (range_with_len from (to - from)) k d) place vs h is (rw at (omega arith)) w))

pub ruleset slice_steps = (slice-values)

pub ruleset column_steps = (values_none, values_more, rows_end, sound_none)
