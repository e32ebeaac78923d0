-- A filter of right columns goes into the right table of an inner join.
use Rattle.std.proofs.Common.{◌≡◌, ℕ, Bool, true, false, List, [], ◌∷◌, ◌++◌, map, filter, refl, sym, ap, ap₂, ◌∙◌, inl, inr}
use Rattle.std.specs.Prelude.{◌&&◌, not, bytes_eq}
use Rattle.std.specs.List.{flat_map, list_all}
use Rattle.std.proofs.lemmas.Bool.{and_parts, cases_Bool}
use Rattle.kql_cells.specs.Seen.{row_at}
use Rattle.kql_cells.specs.Table.{Grid, RowFits}
use Rattle.kql_cells.specs.declared.schema.Column.{Column}
use Rattle.kql_cells.specs.declared.value.Value.{Value}
use Rattle.kql_bound.specs.declared.expr.BExpr.{BExpr}
use Rattle.kql_bound.specs.declared.parts.JoinPlan.{JoinPlan}
use Rattle.kql_bound.specs.declared.parts.OnPair.{OnPair}
use Rattle.kql_meaning.specs.Items.{cells_in}
use Rattle.kql_meaning.specs.Join.{both_columns, both_rows, free_name, inner_rows, keys_match, matches_right, pairs_of_left, renamed, rows_match, shown_columns, shown_row}
use Rattle.kql_meaning.specs.Tables.{cell, has_column, names_of, places}
use Rattle.kql_meaning.specs.Values.{holds}
use Rattle.kql_meaning.specs.Where.{where_table}
use Rattle.kql_meaning.proofs.MemberLaws.{Member}
use Rattle.kql_fit_laws.proofs.RowFacts.{place-below, row-fits}
use Rattle.kql_fit_laws.specs.LawsOfRows.{IsTable}
use Rattle.kql_meaning.proofs.NamedCells.{cell-named, has-cons, has-none, named}
use Rattle.plan_rules.proofs.ReadValues.{agrees}
use Rattle.plan_rules.proofs.RowWise.{filter-map, filter-same}
use Rattle.plan_rules.specs.OwnNames.{own_name}
use Rattle.plan_rules.specs.Reads.{reads_only, with_names}
use Rattle.kql_meaning.specs.RowByRow.{is_plain}
use Rattle.kql_meaning.proofs.JoinLaws.{map-map}
use Rattle.std.proofs.lemmas.List.Elements.{filter-append}
use Rattle.kql_meaning.proofs.RowByRowLaws.{cell-alone, cells-alone, rows-at-all, map-same, where-rows, passes, alone}

-- Lists.

filter-flat-map : {X Y : Type 0} (p : Y → Bool) (g : X → List Y) (xs : List X) → filter p (flat_map g xs) ≡ flat_map (λ x. filter p (g x)) xs
filter-flat-map p g [] = refl
filter-flat-map p g (x ∷ xs) = filter-append p (g x) (flat_map g xs) ∙ ap (λ ys. filter p (g x) ++ ys) (filter-flat-map p g xs)

pub flat-members : {X Y : Type 0} (f g : X → List Y) (xs : List X) → ((x : X) → Member x xs → f x ≡ g x) → flat_map f xs ≡ flat_map g xs
flat-members f g [] h = refl
flat-members f g (x ∷ xs) h = ap₂ (λ a b. a ++ b) (h x (inl refl)) (flat-members f g xs (λ y m. h y (inr m)))

pub filter-swap : {X : Type 0} (p q : X → Bool) (xs : List X) → filter q (filter p xs) ≡ filter p (filter q xs)
filter-swap p q [] = refl
filter-swap p q (x ∷ xs) = elim (cases_Bool (p x)) [
  | inl t ↦ elim (cases_Bool (q x)) [
    | inl u ↦ rw (t) (rw (u) (rw (t) (ap (λ ys. x ∷ ys) (filter-swap p q xs))))
    | inr f ↦ rw (t) (rw (f) (filter-swap p q xs))
  ]
  | inr f ↦ elim (cases_Bool (q x)) [
    | inl u ↦ rw (f) (rw (u) (rw (f) (filter-swap p q xs)))
    | inr g ↦ rw (f) (rw (g) (filter-swap p q xs))
  ]
]

-- An inner join by the rows of the right table.

abbrev pub right_cells : JoinPlan → List Column → List Value → List Value
right_cells j rc row = cells_in (shown_columns j rc) (alone rc row) 0

abbrev matches : List OnPair → Grid → ℕ → List Column → List Value → Bool
matches on a i rc row = list_all (λ (pair : OnPair). keys_match (cell a i pair.left) (cell (alone rc row) 0 pair.right)) on

right-match : (on : List OnPair) (a b : Grid) (i k : ℕ) → rows_match on a b i k ≡ matches on a i b.columns (row_at b.lines k)
unfolding rows_match
right-match [] a b i k = refl
right-match (p ∷ ps) a b i k = ap₂ (λ x y. x && y) (ap (keys_match (cell a i p.left)) (cell-alone b k p.right)) (right-match ps a b i k)

pub pairs-by-right : (j : JoinPlan) (a b : Grid) (i : ℕ) → pairs_of_left j a b i ≡ map (λ row. row_at a.lines i ++ right_cells j b.columns row) (filter (matches j.on a i b.columns) b.lines)
unfolding pairs_of_left both_rows matches_right shown_row
pairs-by-right j a b i =
    let whole : List Value → List Value = λ row. row_at a.lines i ++ right_cells j b.columns row in
    map-same (λ k. row_at a.lines i ++ cells_in (shown_columns j b.columns) b k) (λ k. whole (row_at b.lines k)) (λ k. ap (λ cs. row_at a.lines i ++ cs) (cells-alone (shown_columns j b.columns) b k)) (filter (rows_match j.on a b i) (places b))
    ∙ (sym (map-map whole (row_at b.lines) (filter (rows_match j.on a b i) (places b)))
    ∙ ap (map whole) (ap (map (row_at b.lines)) (filter-same (rows_match j.on a b i) (λ k. matches j.on a i b.columns (row_at b.lines k)) (places b) (λ k m. right-match j.on a b i k))
    ∙ (sym (filter-map (matches j.on a i b.columns) (row_at b.lines) (places b)) ∙ ap (filter (matches j.on a i b.columns)) (rows-at-all b))))

-- The cell in a right column, by its name in the join.

named-own : (f : List ℕ → Value) (taken : List (List ℕ)) (rc : List Column) (n : List ℕ) → has_column n (renamed taken rc) ≡ true → named (renamed taken rc) (map (λ (c : Column). f c.name) rc) n ≡ f (own_name taken rc n)
unfolding named renamed own_name
named-own f taken [] n h = let no : false ≡ true = sym (has-none n) ∙ h in absurd cc
named-own f taken (c ∷ cs) n h = elim (cases_Bool (bytes_eq (free_name taken c.name) n)) [
  | inl t ↦ rw t refl
  | inr g ↦
      let rest : has_column n (renamed (taken ++ free_name taken c.name ∷ []) cs) ≡ true = let e = sym (has-cons (record { name = free_name taken c.name; kind = c.kind }) (renamed (taken ++ free_name taken c.name ∷ []) cs) n) ∙ h in rw g at e in
      rw g (named-own f (taken ++ free_name taken c.name ∷ []) cs n rest)
]

-- A row behind another that has a value for each of the columns in front.
named-behind : (cs ds : List Column) (row more : List Value) (n : List ℕ) → RowFits cs row → has_column n cs ≡ false → named (cs ++ ds) (row ++ more) n ≡ named ds more n
unfolding named RowFits
named-behind [] ds [] more n f h = refl
named-behind [] ds (v ∷ vs) more n f h = absurd f
named-behind (c ∷ cs) ds [] more n f h = absurd f
named-behind (c ∷ cs) ds (v ∷ vs) more n f h = elim (cases_Bool (bytes_eq c.name n)) [
  | inl t ↦ let no : true ≡ false = let e = sym (has-cons c cs n) ∙ h in rw t at e in absurd cc
  | inr g ↦ let rest : has_column n cs ≡ false = let e = sym (has-cons c cs n) ∙ h in rw g at e in rw g (named-behind cs ds vs more n f.1 rest)
]

-- Right columns alone: none of the left, and one of the right under the names that they have in the join.
abbrev pub right_alone_names : JoinPlan → List Column → List Column → List ℕ → Bool
right_alone_names j cs rc n = not (has_column n cs) && has_column n (renamed (names_of cs) (shown_columns j rc))

abbrev pub own : JoinPlan → List Column → List Column → List ℕ → List ℕ
own j cs rc n = own_name (names_of cs) (shown_columns j rc) n

pub not-false : (b : Bool) → not b ≡ true → b ≡ false
not-false true e = cc
not-false false e = refl

pub right-passes : (j : JoinPlan) (cs rc : List Column) (left row : List Value) (q : BExpr) → RowFits cs left → reads_only (right_alone_names j cs rc) q ≡ true → passes q (both_columns j cs rc) (left ++ right_cells j rc row) ≡ passes (with_names (own j cs rc) q) rc row
unfolding both_columns cells_in
right-passes j cs rc left row q f r =
    ap holds (sym ((agrees q (right_alone_names j cs rc) (own j cs rc) r).0 (alone rc row) (alone (both_columns j cs rc) (left ++ right_cells j rc row)) 0 0 []
    (λ n h.
    let p = and_parts (not (has_column n cs)) (has_column n (renamed (names_of cs) (shown_columns j rc))) h in
    sym (cell-named (both_columns j cs rc) (left ++ right_cells j rc row) n
    ∙ (named-behind cs (renamed (names_of cs) (shown_columns j rc)) left (right_cells j rc row) n f (not-false (has_column n cs) p.0)
    ∙ named-own (λ m. cell (alone rc row) 0 m) (names_of cs) (shown_columns j rc) n p.1)))))

-- The filter goes into the right table.
pub inner-right : (j : JoinPlan) (a b : Grid) (q : BExpr) → IsTable a → reads_only (right_alone_names j a.columns b.columns) q ≡ true → is_plain (with_names (own j a.columns b.columns) q) ≡ true → filter (passes q (both_columns j a.columns b.columns)) (inner_rows j a b) ≡ inner_rows j a (where_table (with_names (own j a.columns b.columns) q) b)
unfolding inner_rows
inner-right j a b q h r plain =
    let p = passes q (both_columns j a.columns b.columns) in
    let r2 = with_names (own j a.columns b.columns) q in
    let u : Grid = record { columns = b.columns; lines = filter (passes r2 b.columns) b.lines } in
    filter-flat-map p (pairs_of_left j a b) (places a)
    ∙ (flat-members (λ i. filter p (pairs_of_left j a b i)) (pairs_of_left j a u) (places a)
    (λ i m.
    let whole : List Value → List Value = λ row. row_at a.lines i ++ right_cells j b.columns row in
    let match = matches j.on a i b.columns in
    ap (filter p) (pairs-by-right j a b i)
    ∙ (filter-map p whole (filter match b.lines)
    ∙ (ap (map whole) (filter-same (λ row. p (whole row)) (passes r2 b.columns) (filter match b.lines) (λ row n. right-passes j a.columns b.columns (row_at a.lines i) row q (row-fits a i h.1 (place-below a i m)) r) ∙ filter-swap match (passes r2 b.columns) b.lines)
    ∙ sym (pairs-by-right j a u i))))
    ∙ ap (λ (v : Grid). flat_map (pairs_of_left j a v) (places a)) (sym (where-rows r2 plain b)))
