-- `mv-expand`, folded: it fits where it fitted, and means the same.
use Rattle.std.proofs.Common.{◌≡◌, ℕ, true, List, [], ◌∷◌, ◌++◌, length, map, refl, ap, ap₂, ◌∙◌, inl, inr}
use Rattle.std.proofs.Math.Path.{fun_ext}
use Rattle.std.specs.Prelude.{max, Option, None, Some, bytes_eq, fold, option_map, slice_index_or}
use Rattle.std.specs.List.{flat_map, list_all}
use Rattle.std.proofs.lemmas.Bool.{and_parts, cases_Bool}
use Rattle.kql_cells.specs.Table.{Grid}
use Rattle.kql_cells.specs.declared.schema.Column.{Column}
use Rattle.kql_cells.specs.declared.value.Kind.TheVariants as kind
use Rattle.kql_cells.specs.declared.value.Value.{Value}
use Rattle.kql_cells.specs.declared.value.Value.TheVariants as value
use Rattle.kql_functions.specs.Kinds.{same_kind}
use Rattle.kql_bound.specs.declared.parts.Expand.{Expand}
use Rattle.kql_bound.specs.declared.parts.ExpandItem.{ExpandItem}
use Rattle.kql_meaning.specs.declared.position.Position.TheVariants as position
use Rattle.kql_meaning.specs.FittingExpressions.{scope_of}
use Rattle.kql_meaning.specs.FittingOperators.{are_distinct, expand_fits, expand_item_fits, expand_names}
use Rattle.kql_meaning.specs.MvExpand.{expand_columns, expand_table, expanded_row, item_named, item_parts, kind_named, new_columns, new_items, part_as, part_at, parts_of, replaced_cell, replaced_column, replaced_columns, rows_given}
use Rattle.kql_meaning.specs.Tables.{has_column, places, places_below}
use Rattle.plan_rules.specs.Folding.{is_folded}
use Rattle.plan_rules.specs.FoldedPlans.{folded_expand, folded_part}
use Rattle.plan_rules.proofs.FoldedExpressions.{folds-as}
use Rattle.plan_rules.proofs.FoldedReadings.{folded-val}

parts-good : (items : List ExpandItem) (cs : List Column) → list_all (expand_item_fits cs) items ≡ true → (list_all (expand_item_fits cs) (map folded_part items) ≡ true) × (list_all (λ (i : ExpandItem). is_folded i.expr) (map folded_part items) ≡ true)
unfolding expand_item_fits
parts-good [] cs h = (refl, refl)
parts-good (i ∷ is) cs h =
    let p = and_parts (expand_item_fits cs i) (list_all (expand_item_fits cs) is) h in
    let one = folds-as (same_kind kind.Dynamic) i.expr (scope_of cs) position.Plain p.0 in
    let more = parts-good is cs p.1 in
    (rw (one.0, more.0) refl, rw (one.1, more.1) refl)

names-same : (items : List ExpandItem) → expand_names (map folded_part items) ≡ expand_names items
unfolding expand_names
names-same [] = refl
names-same (i ∷ is) = ap (λ (ns : List (List ℕ)). i.name ∷ ns) (names-same is)

pub expand-good : (x : Expand) (cs : List Column) → expand_fits x cs ≡ true → (expand_fits (folded_expand x) cs ≡ true) × (list_all (λ (i : ExpandItem). is_folded i.expr) (folded_expand x).items ≡ true)
unfolding expand_fits folded_expand
expand-good x cs h =
    let p = and_parts (list_all (expand_item_fits cs) x.items) (are_distinct (expand_names x.items)) h in
    let items = parts-good x.items cs p.0 in
    (rw (items.0, names-same x.items, p.1) refl, items.1)

-- Items by name.

abbrev part_option : Option ExpandItem → Option ExpandItem
part_option o = option_map folded_part o

named-same : (items : List ExpandItem) (n : List ℕ) → item_named (map folded_part items) n ≡ part_option (item_named items n)
unfolding item_named
named-same [] n = refl
named-same (i ∷ is) n = elim (cases_Bool (bytes_eq i.name n)) [
  | inl t ↦ rw t refl
  | inr f ↦ rw f (named-same is n)
]

new-same : (items : List ExpandItem) (cs : List Column) → new_items (map folded_part items) cs ≡ map folded_part (new_items items cs)
unfolding new_items
new-same [] cs = refl
new-same (i ∷ is) cs = elim (cases_Bool (has_column i.name cs)) [
  | inl t ↦ rw t (new-same is cs)
  | inr f ↦ rw f (ap (λ (xs : List ExpandItem). folded_part i ∷ xs) (new-same is cs))
]

-- Columns.

kind-of-part : (o : Option ExpandItem) → option_map (λ (item : ExpandItem). item.to) (part_option o) ≡ option_map (λ (item : ExpandItem). item.to) o
kind-of-part None = refl
kind-of-part (Some i) = refl

kind-same : (items : List ExpandItem) (n : List ℕ) → kind_named (map folded_part items) n ≡ kind_named items n
unfolding kind_named
kind-same items n = ap (option_map (λ (item : ExpandItem). item.to)) (named-same items n) ∙ kind-of-part (item_named items n)

new-columns-of : (items : List ExpandItem) → map (λ (item : ExpandItem). record { name = item.name; kind = item.to }) (map folded_part items) ≡ map {B = Column} (λ (item : ExpandItem). record { name = item.name; kind = item.to }) items
new-columns-of [] = refl
new-columns-of (i ∷ is) = ap (λ (cs : List Column). record { name = i.name; kind = i.to } ∷ cs) (new-columns-of is)

new-columns-same : (items : List ExpandItem) (cs : List Column) → new_columns (map folded_part items) cs ≡ new_columns items cs
unfolding new_columns
new-columns-same items cs = ap (map {B = Column} (λ (item : ExpandItem). record { name = item.name; kind = item.to })) (new-same items cs) ∙ new-columns-of (new_items items cs)

pub expand-columns-folded : (x : Expand) (cs : List Column) → expand_columns (folded_expand x) cs ≡ expand_columns x cs
unfolding expand_columns replaced_columns folded_expand
expand-columns-folded x cs =
    ap₂ (λ (f : Column → Column) (new : List Column). map f cs ++ new) (fun_ext (λ (c : Column). ap (replaced_column c) (kind-same x.items c.name))) (new-columns-same x.items cs)

-- Rows.

parts-same : (x : Expand) (t : Grid) (i : ℕ) (item : ExpandItem) → item_parts (folded_expand x) t i (folded_part item) ≡ item_parts x t i item
unfolding item_parts folded_expand
parts-same x t i item = ap (parts_of x.array) (folded-val item.expr t i [])

given-along : (x : Expand) (t : Grid) (i : ℕ) (items : List ExpandItem) (n : ℕ) → fold (λ n item. max n (length (item_parts (folded_expand x) t i item))) n (map folded_part items) ≡ fold (λ n item. max n (length (item_parts x t i item))) n items
given-along x t i [] n = refl
given-along x t i (item ∷ items) n =
    ap (λ (vs : List Value). fold (λ n item. max n (length (item_parts (folded_expand x) t i item))) (max n (length vs)) (map folded_part items)) (parts-same x t i item) ∙ given-along x t i items (max n (length (item_parts x t i item)))

given-same : (x : Expand) (t : Grid) (i : ℕ) → rows_given (folded_expand x) t i ≡ rows_given x t i
unfolding rows_given folded_expand
given-same x t i = given-along x t i x.items 0

part-same : (x : Expand) (t : Grid) (i k : ℕ) (item : ExpandItem) → part_at (folded_expand x) t i k (folded_part item) ≡ part_at x t i k item
unfolding part_at
part-same x t i k item = ap (λ (vs : List Value). part_as item.to (slice_index_or vs k value.Null)) (parts-same x t i item)

cell-same : (x : Expand) (t : Grid) (i k : ℕ) (c : Column) (o : Option ExpandItem) → replaced_cell (folded_expand x) t i k c (part_option o) ≡ replaced_cell x t i k c o
unfolding replaced_cell
cell-same x t i k c None = refl
cell-same x t i k c (Some item) = part-same x t i k item

new-cells : (x : Expand) (t : Grid) (i k : ℕ) (items : List ExpandItem) → map (part_at (folded_expand x) t i k) (map folded_part items) ≡ map (part_at x t i k) items
new-cells x t i k [] = refl
new-cells x t i k (item ∷ items) = ap₂ (λ (v : Value) (vs : List Value). v ∷ vs) (part-same x t i k item) (new-cells x t i k items)

items-of : (x : Expand) → (folded_expand x).items ≡ map folded_part x.items
unfolding folded_expand
items-of x = refl

row-same : (x : Expand) (t : Grid) (i k : ℕ) → expanded_row (folded_expand x) t i k ≡ expanded_row x t i k
unfolding expanded_row
row-same x t i k =
    let named : item_named (folded_expand x).items ≡ item_named (map folded_part x.items) = ap item_named (items-of x) in
    ap₂ (λ (f : Column → Value) (vs : List Value). map f t.columns ++ vs)
    (fun_ext (λ (c : Column). ap (replaced_cell (folded_expand x) t i k c) (ap (λ (find : List ℕ → Option ExpandItem). find c.name) named ∙ named-same x.items c.name) ∙ cell-same x t i k c (item_named x.items c.name)))
    (ap (λ items. map (part_at (folded_expand x) t i k) (new_items items t.columns)) (items-of x) ∙ (ap (map (part_at (folded_expand x) t i k)) (new-same x.items t.columns) ∙ new-cells x t i k (new_items x.items t.columns)))

pub expand-folded : (x : Expand) (t : Grid) → expand_table (folded_expand x) t ≡ expand_table x t
unfolding expand_table
expand-folded x t =
    ap₂ (λ (cs : List Column) (rows : ℕ → List (List Value)). record { columns = cs; lines = flat_map rows (places t) }) (expand-columns-folded x t.columns)
    (fun_ext (λ i. ap₂ (λ (row : ℕ → List Value) n. map row (places_below n)) (fun_ext (λ k. row-same x t i k)) (given-same x t i)))
