-- The rows of joins, of unions and of partitions fit their columns.
use Rattle.std.proofs.Common.{◌≡◌, ◌<◌, ◌⊎◌, ℕ, Bool, true, List, [], ◌∷◌, map, length, filter, refl, sym, ap, ◌∙◌, subst, inl, inr}
use Rattle.std.specs.Prelude.{not, bytes_eq, find, None, Option, Some}
use Rattle.std.specs.List.{flat_map, list_all}
use Rattle.std.proofs.lemmas.Bool.{and_parts, cases_Bool}
use Rattle.std.proofs.lemmas.List.Elements.{All-filter}
use Rattle.kql_cells.specs.Named.{HasDistinctNames, column_name, place_of}
use Rattle.kql_cells.specs.Seen.{row_at}
use Rattle.kql_cells.specs.Table.{CellFits, Grid, IsGrid, RowFits}
use Rattle.kql_cells.specs.declared.schema.Column.{Column}
use Rattle.kql_cells.specs.declared.value.Kind.{Kind}
use Rattle.kql_cells.specs.declared.value.Kind.TheVariants as kind
use Rattle.kql_cells.specs.declared.value.Value.{Value}
use Rattle.kql_functions.specs.Kinds.{same_kind}
use Rattle.kql_bound.specs.declared.parts.JoinKind.{JoinKind}
use Rattle.kql_bound.specs.declared.parts.JoinKind.TheVariants as join
use Rattle.kql_bound.specs.declared.parts.JoinPlan.{JoinPlan}
use Rattle.kql_bound.specs.declared.parts.OnPair.{OnPair}
use Rattle.kql_meaning.specs.Expressions.{column_kind}
use Rattle.kql_meaning.specs.FittingExpressions.{has_kind, is_kind}
use Rattle.kql_meaning.specs.FittingOperators.{is_of_type_in, union_fits}
use Rattle.kql_meaning.specs.Groups.{firsts_of_keys, is_first_of_key}
use Rattle.kql_meaning.specs.Items.{cells_in, without}
use Rattle.kql_meaning.specs.Join.{both_columns, both_rows, has_left, has_right, inner_rows, join_columns, join_rows, join_table, left_alone, left_key, left_outer_rows, matches_left, matches_right, or_one, pairs_of_left, pairs_of_right, renamed, right_alone, right_outer_rows, rows_match, shown_columns, shown_row, unmatched_right_rows}
use Rattle.kql_meaning.specs.Tables.{absent_row, has_column, is_name_among, names_of, places}
use Rattle.kql_meaning.specs.Union.{cell_or_absent, rows_in_columns, union_columns, union_table}
use Rattle.kql_meaning.proofs.MemberLaws.{Member, member-either, member-map, member-of-filter, member-of-flat, member-of-map}
use Rattle.kql_fit_laws.proofs.RowFacts.{absent-fits, absent-row-fits, all-members, cell-at-fits, cells-fit, found-place, gathered-table, place-below, places-inside, renamed-fits, row-fits, rows-append}
use Rattle.kql_fit_laws.specs.LawsOfRows.{IsTable, IsTableOf}

-- Joins.

abbrev Fits : JoinPlan → Grid → Grid → List Value → Type 0
Fits j a b row = RowFits (both_columns j a.columns b.columns) row

shown-members : (j : JoinPlan) (cs : List Column) (c : Column) → Member c (shown_columns j cs) → Member c cs
unfolding shown_columns without
shown-members j cs c m = elim (cases_Bool j.lookup) [
  | inl t ↦
      let n : Member c (filter (λ (d : Column). not (is_name_among (map (λ (pair : OnPair). pair.right) j.on) d.name)) cs) = rw t at m in
      (member-of-filter (λ (d : Column). not (is_name_among (map (λ (pair : OnPair). pair.right) j.on) d.name)) cs c n).0
  | inr f ↦ let n : Member c cs = rw f at m in n
]

shown-fits : (j : JoinPlan) (b : Grid) (k : ℕ) (taken : List (List ℕ)) → IsTable b → k < length b.lines → RowFits (renamed taken (shown_columns j b.columns)) (shown_row j b k)
unfolding shown_row
shown-fits j b k taken h lt =
    let shown = shown_columns j b.columns in
    renamed-fits taken shown (cells_in shown b k) (cells-fit b k h lt shown (shown-members j b.columns))

both-fit : (j : JoinPlan) (a b : Grid) (i k : ℕ) → IsTable a → IsTable b → i < length a.lines → k < length b.lines → Fits j a b (both_rows j a b i k)
unfolding both_columns both_rows
both-fit j a b i k ha hb lt below =
    rows-append a.columns (renamed (names_of a.columns) (shown_columns j b.columns)) (row_at a.lines i) (shown_row j b k) (row-fits a i ha.1 lt) (shown-fits j b k (names_of a.columns) hb below)

left-alone-fits : (j : JoinPlan) (a b : Grid) (i : ℕ) → IsTable a → i < length a.lines → Fits j a b (left_alone j a b i)
unfolding both_columns left_alone
left-alone-fits j a b i ha lt =
    let shown = shown_columns j b.columns in
    rows-append a.columns (renamed (names_of a.columns) shown) (row_at a.lines i) (absent_row shown) (row-fits a i ha.1 lt) (renamed-fits (names_of a.columns) shown (absent_row shown) (absent-row-fits shown))

right-alone-fits : (j : JoinPlan) (a b : Grid) (k : ℕ) → IsTable b → k < length b.lines → Fits j a b (right_alone j a b k)
unfolding both_columns right_alone
right-alone-fits j a b k hb below =
    rows-append a.columns (renamed (names_of a.columns) (shown_columns j b.columns)) (absent_row a.columns) (shown_row j b k) (absent-row-fits a.columns) (shown-fits j b k (names_of a.columns) hb below)

of-left : (j : JoinPlan) (a b : Grid) (i : ℕ) → IsTable a → IsTable b → i < length a.lines → (row : List Value) → Member row (pairs_of_left j a b i) → Fits j a b row
unfolding pairs_of_left matches_right
of-left j a b i ha hb lt row m =
    let q = member-of-map (both_rows j a b i) (filter (rows_match j.on a b i) (places b)) row m in
    let p = member-of-filter (rows_match j.on a b i) (places b) q.0 q.1 in
    subst (Fits j a b) q.2 (both-fit j a b i q.0 ha hb lt (place-below b q.0 p.0))

of-right : (j : JoinPlan) (a b : Grid) (k : ℕ) → IsTable a → IsTable b → k < length b.lines → (row : List Value) → Member row (pairs_of_right j a b k) → Fits j a b row
unfolding pairs_of_right matches_left
of-right j a b k ha hb below row m =
    let q = member-of-map (λ i. both_rows j a b i k) (filter (λ i. rows_match j.on a b i k) (places a)) row m in
    let p = member-of-filter (λ i. rows_match j.on a b i k) (places a) q.0 q.1 in
    subst (Fits j a b) q.2 (both-fit j a b q.0 k ha hb (place-below a q.0 p.0) below)

inner-fit : (j : JoinPlan) (a b : Grid) → IsTable a → IsTable b → (row : List Value) → Member row (inner_rows j a b) → Fits j a b row
unfolding inner_rows
inner-fit j a b ha hb row m =
    let q = member-of-flat (pairs_of_left j a b) (places a) row m in
    of-left j a b q.0 ha hb (place-below a q.0 q.1) row q.2

of-or-one : (rows : List (List Value)) (row z : List Value) → Member z (or_one rows row) → Member z rows ⊎ (row ≡ z)
unfolding or_one
of-or-one [] row z (inl e) = inr e
of-or-one [] row z (inr m) = absurd m
of-or-one (r ∷ rs) row z m = inl m

left-outer-fit : (j : JoinPlan) (a b : Grid) → IsTable a → IsTable b → (row : List Value) → Member row (left_outer_rows j a b) → Fits j a b row
unfolding left_outer_rows
left-outer-fit j a b ha hb row m =
    let q = member-of-flat (λ i. or_one (pairs_of_left j a b i) (left_alone j a b i)) (places a) row m in
    let lt = place-below a q.0 q.1 in
    elim (of-or-one (pairs_of_left j a b q.0) (left_alone j a b q.0) row q.2) [
      | inl n ↦ of-left j a b q.0 ha hb lt row n
      | inr e ↦ subst (Fits j a b) e (left-alone-fits j a b q.0 ha lt)
    ]

right-outer-fit : (j : JoinPlan) (a b : Grid) → IsTable a → IsTable b → (row : List Value) → Member row (right_outer_rows j a b) → Fits j a b row
unfolding right_outer_rows
right-outer-fit j a b ha hb row m =
    let q = member-of-flat (λ k. or_one (pairs_of_right j a b k) (right_alone j a b k)) (places b) row m in
    let lt = place-below b q.0 q.1 in
    elim (of-or-one (pairs_of_right j a b q.0) (right_alone j a b q.0) row q.2) [
      | inl n ↦ of-right j a b q.0 ha hb lt row n
      | inr e ↦ subst (Fits j a b) e (right-alone-fits j a b q.0 hb lt)
    ]

unmatched-fit : (j : JoinPlan) (a b : Grid) → IsTable b → (row : List Value) → Member row (unmatched_right_rows j a b) → Fits j a b row
unfolding unmatched_right_rows
unmatched-fit j a b hb row m =
    let test = λ (k : ℕ). not (has_left j.on a b k) in
    let q = member-of-map (right_alone j a b) (filter test (places b)) row m in
    let p = member-of-filter test (places b) q.0 q.1 in
    subst (Fits j a b) q.2 (right-alone-fits j a b q.0 hb (place-below b q.0 p.0))

some-rows : (t : Grid) (test : ℕ → Bool) → IsTable t → (row : List Value) → Member row (map (row_at t.lines) (filter test (places t))) → RowFits t.columns row
some-rows t test h row m =
    let q = member-of-map (row_at t.lines) (filter test (places t)) row m in
    let p = member-of-filter test (places t) q.0 q.1 in
    subst (RowFits t.columns) q.2 (row-fits t q.0 h.1 (place-below t q.0 p.0))

firsts-table : (key : ℕ → List Value) (t : Grid) → IsTable t → IsTable (firsts_of_keys key t)
unfolding firsts_of_keys
firsts-table key t h = gathered-table t (filter (is_first_of_key key) (places t)) h (All-filter (is_first_of_key key) (λ i. i < length t.lines) (places t) (places-inside t))

inner-unique-fit : (j : JoinPlan) (a b : Grid) → IsTable a → IsTable b → (row : List Value) → Member row (inner_rows j (firsts_of_keys (left_key j.on a) a) b) → Fits j a b row
unfolding firsts_of_keys
inner-unique-fit j a b ha hb row m = inner-fit j (firsts_of_keys (left_key j.on a) a) b (firsts-table (left_key j.on a) a ha) hb row m

join-rows-fit : (kind : JoinKind) (j : JoinPlan) (a b : Grid) → IsTable a → IsTable b → (row : List Value) → Member row (join_rows kind j a b) → RowFits (join_columns kind j a.columns b.columns) row
unfolding join_rows join_columns
join-rows-fit join.InnerUnique j a b ha hb row m = inner-unique-fit j a b ha hb row m
join-rows-fit join.Inner j a b ha hb row m = inner-fit j a b ha hb row m
join-rows-fit join.LeftOuter j a b ha hb row m = left-outer-fit j a b ha hb row m
join-rows-fit join.RightOuter j a b ha hb row m = right-outer-fit j a b ha hb row m
join-rows-fit join.FullOuter j a b ha hb row m = elim (member-either (left_outer_rows j a b) (unmatched_right_rows j a b) row m) [
  | inl l ↦ left-outer-fit j a b ha hb row l
  | inr r ↦ unmatched-fit j a b hb row r
]
join-rows-fit join.LeftSemi j a b ha hb row m = some-rows a (has_right j.on a b) ha row m
join-rows-fit join.LeftAnti j a b ha hb row m = some-rows a (λ i. not (has_right j.on a b i)) ha row m
join-rows-fit join.RightSemi j a b ha hb row m = some-rows b (has_left j.on a b) hb row m
join-rows-fit join.RightAnti j a b ha hb row m = some-rows b (λ k. not (has_left j.on a b k)) hb row m

pub join-table-of : (j : JoinPlan) (a b : Grid) (cs : List Column) → IsTable a → IsTable b → join_columns j.kind j a.columns b.columns ≡ cs → HasDistinctNames column_name cs → IsTableOf cs (join_table j a b)
unfolding join_table
join-table-of j a b cs ha hb e names =
    (e, (subst (HasDistinctNames column_name) (sym e) names, all-members (RowFits (join_columns j.kind j a.columns b.columns)) (join_rows j.kind j a b) (join-rows-fit j.kind j a b ha hb)))

-- Unions.

pub same-kind : (k l : Kind) → same_kind k l ≡ true → k ≡ l
same-kind kind.Bool kind.Bool e = refl
same-kind kind.Long kind.Long e = refl
same-kind kind.Text kind.Text e = refl
same-kind kind.Moment kind.Moment e = refl
same-kind kind.Span kind.Span e = refl
same-kind kind.Dynamic kind.Dynamic e = refl
same-kind _ _ e = cc

found-has : (cs : List Column) (n : List ℕ) (d : Column) → find (λ (c : Column). bytes_eq c.name n) cs ≡ Some d → has_column n cs ≡ true
unfolding has_column is_name_among names_of
found-has [] n d e = cc
found-has (c ∷ cs) n d e = elim (cases_Bool (bytes_eq c.name n)) [
  | inl t ↦ rw t refl
  | inr f ↦ let later : find (λ (x : Column). bytes_eq x.name n) cs ≡ Some d = rw f at e in rw f (found-has cs n d later)
]

kind-of-found : (c d : Column) (cs : List Column) → find (λ (x : Column). bytes_eq x.name c.name) cs ≡ Some d → is_of_type_in c cs ≡ true → c.kind ≡ d.kind
unfolding is_of_type_in is_kind has_kind column_kind
kind-of-found c d cs e t =
    let has = found-has cs c.name d e in
    let same : same_kind c.kind d.kind ≡ true = rw (has, e) at t in
    same-kind c.kind d.kind same

cell-fits : (t : Grid) (i : ℕ) → IsGrid t → i < length t.lines → (c : Column) → is_of_type_in c t.columns ≡ true → (o : Option ℕ) → place_of column_name c.name t.columns ≡ o → CellFits c (cell_or_absent t i c o)
unfolding cell_or_absent
cell-fits t i h lt c typed None e = absent-fits c.kind
cell-fits t i h lt c typed (Some j) e =
    let q = found-place t.columns c.name j e in
    let fits = cell-at-fits t i j q.0 h lt q.1 in
    let same = kind-of-found c q.0 t.columns q.2 typed in
    (rw same fits.0, fits.1)

union-row : (t : Grid) (i : ℕ) → IsGrid t → i < length t.lines → (cs : List Column) → ((c : Column) → Member c cs → is_of_type_in c t.columns ≡ true) → RowFits cs (map (λ (c : Column). cell_or_absent t i c (place_of column_name c.name t.columns)) cs)
unfolding RowFits
union-row t i h lt [] typed = tt
union-row t i h lt (c ∷ cs) typed =
    (cell-fits t i h lt c (typed c (inl refl)) (place_of column_name c.name t.columns) refl, union-row t i h lt cs (λ d m. typed d (inr m)))

pub all-of : {X : Type 0} (p : X → Bool) (xs : List X) (x : X) → list_all p xs ≡ true → Member x xs → p x ≡ true
all-of p [] x e m = absurd m
all-of p (y ∷ ys) x e m =
    let parts = and_parts (p y) (list_all p ys) e in
    elim m [
      | inl same ↦ ap p (sym same) ∙ parts.0
      | inr later ↦ all-of p ys x parts.1 later
    ]

abbrev pub columns_of : Grid → List Column
columns_of t = t.columns

-- Each column of the union has its type in each table.
typed-in : (cs : List Column) (tables : List (List Column)) (c : Column) (table : List Column) → union_fits cs tables ≡ true → Member c cs → Member table tables → is_of_type_in c table ≡ true
unfolding union_fits
typed-in cs tables c table e m n = all-of (is_of_type_in c) tables table (all-of (λ (d : Column). list_all (is_of_type_in d) tables) cs c e m) n

-- The rows of a table in the columns of a union fit these.
pub rows-of-table : (t : Grid) (cs : List Column) → IsGrid t → ((c : Column) → Member c cs → is_of_type_in c t.columns ≡ true) → (row : List Value) → Member row (rows_in_columns cs t) → RowFits cs row
unfolding rows_in_columns
rows-of-table t cs h typed row m =
    let q = member-of-map (λ i. map (λ (c : Column). cell_or_absent t i c (place_of column_name c.name t.columns)) cs) (places t) row m in
    subst (RowFits cs) q.2 (union-row t q.0 h (place-below t q.0 q.1) cs typed)

each-table : (a : Grid) (others : List Grid) → IsTable a → ((t : Grid) → Member t others → IsTable t) → (t : Grid) → Member t (a ∷ others) → IsTable t
each-table a others ha hs t (inl s) = subst IsTable s ha
each-table a others ha hs t (inr m) = hs t m

pub union-table-of : (inner : Bool) (a : Grid) (others : List Grid) (cs : List Column) → IsTable a → ((t : Grid) → Member t others → IsTable t) → union_columns inner a.columns (map columns_of others) ≡ cs → HasDistinctNames column_name cs → union_fits (union_columns inner a.columns (map columns_of others)) (a.columns ∷ map columns_of others) ≡ true → IsTableOf cs (union_table inner a others)
unfolding union_table
union-table-of inner a others cs ha hs e names fits =
    let columns = union_columns inner a.columns (map columns_of others) in
    let all = all-members (RowFits columns) (flat_map (rows_in_columns columns) (a ∷ others))
    (λ row m.
    let q = member-of-flat (rows_in_columns columns) (a ∷ others) row m in
    rows-of-table q.0 columns (each-table a others ha hs q.0 q.1).1
    (λ c n. typed-in columns (a.columns ∷ map columns_of others) c q.0.columns fits n (member-map columns_of (a ∷ others) q.0 q.1)) row q.2) in
    (e, (subst (HasDistinctNames column_name) (sym e) names, all))
