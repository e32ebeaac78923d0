-- Filters over rows, and operators that make each row of an answer from one row.
use Rattle.std.proofs.Common.{◌≡◌, ℕ, zero, suc, Bool, true, false, List, [], ◌∷◌, ◌++◌, map, filter, take, refl, ap, ap₂, sym, ◌∙◌, inl, inr}
use Rattle.std.specs.List.{flat_map}
use Rattle.std.proofs.lemmas.Bool.{cases_Bool}
use Rattle.std.proofs.lemmas.List.Elements.{filter-append}
use Rattle.kql_cells.specs.Table.{Grid}
use Rattle.kql_cells.specs.declared.schema.Column.{Column}
use Rattle.kql_cells.specs.declared.value.Value.{Value}
use Rattle.kql_bound.specs.declared.expr.BExpr.{BExpr}
use Rattle.kql_bound.specs.declared.parts.BItem.{BItem}
use Rattle.kql_meaning.specs.Extend.{extend_columns, extend_table}
use Rattle.kql_meaning.specs.Items.{items_columns}
use Rattle.kql_meaning.specs.Project.{project_table}
use Rattle.kql_meaning.specs.RowByRow.{are_plain, grid_of, is_plain}
use Rattle.kql_meaning.specs.TakeAndCount.{take_table}
use Rattle.kql_meaning.specs.Where.{where_table}
use Rattle.kql_meaning.proofs.MemberLaws.{Member}
use Rattle.kql_meaning.proofs.RowByRowLaws.{MakesOfEach, extend-of-each, extended_row, passes, project-of-each, projected_row, where-rows}

-- An operator whose answer has for each row the rows that are made of it.
pub record RowWise (f : Grid → Grid) (columns_made : List Column → List Column) (rows_made : List Column → List Value → List (List Value)) : Type 0 where
  pub rows : (t : Grid) → f t ≡ grid_of (columns_made t.columns) (flat_map (rows_made t.columns) t.lines)

-- Lists.

pub filter-map : {X Y : Type 0} (p : Y → Bool) (f : X → Y) (xs : List X) → filter p (map f xs) ≡ map f (filter (λ x. p (f x)) xs)
filter-map p f [] = refl
filter-map p f (x ∷ xs) = elim (cases_Bool (p (f x))) [
  | inl t ↦ rw t (ap (λ ys. f x ∷ ys) (filter-map p f xs))
  | inr n ↦ rw n (filter-map p f xs)
]

pub filter-same : {X : Type 0} (p q : X → Bool) (xs : List X) → ((x : X) → Member x xs → p x ≡ q x) → filter p xs ≡ filter q xs
filter-same p q [] h = refl
filter-same p q (x ∷ xs) h = elim (cases_Bool (q x)) [
  | inl t ↦ rw (h x (inl refl), t) (ap (λ ys. x ∷ ys) (filter-same p q xs (λ y m. h y (inr m))))
  | inr n ↦ rw (h x (inl refl), n) (filter-same p q xs (λ y m. h y (inr m)))
]

filter-each : {X : Type 0} (p : X → Bool) (b : Bool) (xs : List X) → ((x : X) → Member x xs → p x ≡ b) → filter p xs ≡ filter (λ x. b) xs
filter-each p b xs h = filter-same p (λ x. b) xs h

pub filter-yes : {X : Type 0} (xs : List X) → filter (λ x. true) xs ≡ xs
filter-yes [] = refl
filter-yes (x ∷ xs) = ap (λ ys. x ∷ ys) (filter-yes xs)

filter-no : {X : Type 0} (xs : List X) → filter (λ x. false) xs ≡ []
filter-no [] = refl
filter-no (x ∷ xs) = filter-no xs

-- A filter over what rows give is a filter over the rows, where what a row gives passes exactly where the row does.
pub filter-flat : {X Y : Type 0} (p : Y → Bool) (q : X → Bool) (g : X → List Y) (xs : List X) → ((x : X) → Member x xs → (y : Y) → Member y (g x) → p y ≡ q x) → filter p (flat_map g xs) ≡ flat_map g (filter q xs)
filter-flat p q g [] h = refl
filter-flat p q g (x ∷ xs) h = elim (cases_Bool (q x)) [
  | inl t ↦ rw t (filter-append p (g x) (flat_map g xs) ∙ ap₂ (λ a b. a ++ b) (filter-same p (λ y. true) (g x) (λ y m. h x (inl refl) y m ∙ t) ∙ filter-yes (g x)) (filter-flat p q g xs (λ z m. h z (inr m))))
  | inr n ↦ rw n (filter-append p (g x) (flat_map g xs) ∙ ap₂ (λ a b. a ++ b) (filter-same p (λ y. false) (g x) (λ y m. h x (inl refl) y m ∙ n) ∙ filter-no (g x)) (filter-flat p q g xs (λ z m. h z (inr m))))
]

pub flat-one : {X Y : Type 0} (f : X → Y) (xs : List X) → map f xs ≡ flat_map (λ x. f x ∷ []) xs
flat-one f [] = refl
flat-one f (x ∷ xs) = ap (λ ys. f x ∷ ys) (flat-one f xs)

-- A filter below an operator that makes rows of rows.
pub where-below : (q r : BExpr) → is_plain q ≡ true → is_plain r ≡ true → (f : Grid → Grid) (c : List Column → List Column) (g : List Column → List Value → List (List Value)) → RowWise f c g → (t : Grid) → ((row : List Value) → Member row t.lines → (out : List Value) → Member out (g t.columns row) → passes q (c t.columns) out ≡ passes r t.columns row) → where_table q (f t) ≡ f (where_table r t)
where-below q r pq pr f c g wise t h =
    ap (where_table q) (wise.rows t)
    ∙ (where-rows q pq (record { columns = c t.columns; lines = flat_map (g t.columns) t.lines })
    ∙ (ap (λ (ls : List (List Value)). record { columns = c t.columns; lines = ls }) (filter-flat (passes q (c t.columns)) (passes r t.columns) (g t.columns) t.lines h)
    ∙ (sym (wise.rows (record { columns = t.columns; lines = filter (passes r t.columns) t.lines })) ∙ ap f (sym (where-rows r pr t)))))

-- Operators that make one row of each.

pub wise-of-each : (f : Grid → Grid) (c : List Column → List Column) (g : List Column → List Value → List Value) → MakesOfEach f c g → RowWise f c (λ cs row. g cs row ∷ [])
wise-of-each f c g each = record { rows = λ t. each.rows t ∙ ap (grid_of (c t.columns)) (flat-one (g t.columns) t.lines) }

pub extend-wise : (items : List BItem) → are_plain items ≡ true → RowWise (extend_table items) (extend_columns items) (λ cs row. extended_row items cs row ∷ [])
extend-wise items r = wise-of-each (extend_table items) (extend_columns items) (extended_row items) (extend-of-each items r)

pub project-wise : (items : List BItem) → are_plain items ≡ true → RowWise (project_table items) (items_columns items) (λ cs row. projected_row items cs row ∷ [])
project-wise items r = wise-of-each (project_table items) (items_columns items) (projected_row items) (project-of-each items r)

-- `take` below an operator that makes one row of each row.
take-flat : {X Y : Type 0} (g : X → Y) (n : ℕ) (xs : List X) → take n (flat_map (λ x. g x ∷ []) xs) ≡ flat_map (λ x. g x ∷ []) (take n xs)
take-flat g zero xs = refl
take-flat g (suc n) [] = refl
take-flat g (suc n) (x ∷ xs) = ap (λ ys. g x ∷ ys) (take-flat g n xs)

pub take-below : (n : ℕ) (f : Grid → Grid) (c : List Column → List Column) (g : List Column → List Value → List Value) → RowWise f c (λ cs row. g cs row ∷ []) → (t : Grid) → take_table n (f t) ≡ f (take_table n t)
unfolding take_table
take-below n f c g wise t =
    ap (λ (u : Grid). record { columns = u.columns; lines = take n u.lines }) (wise.rows t)
    ∙ (ap (λ (ls : List (List Value)). record { columns = c t.columns; lines = ls }) (take-flat (g t.columns) n t.lines)
    ∙ sym (wise.rows (record { columns = t.columns; lines = take n t.lines })))
