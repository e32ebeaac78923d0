-- A table in the columns of a union.
use Rattle.std.proofs.Common.{◌≡◌, ◌<◌, ◌+◌, ℕ, zero, suc, true, List, [], ◌∷◌, map, length, get_or, replicate, refl, sym, ap, ◌∙◌, subst, inl, inr, arith}
use Rattle.std.specs.Prelude.{All, bytes_eq, find, None, Option, Some, slice_get}
use Rattle.std.specs.List.{range_with_len}
use Rattle.std.proofs.lemmas.Bool.{cases_Bool}
use Rattle.std.proofs.lemmas.List.FromFn.{length-range_with_len}
use Rattle.std.proofs.lemmas.Option.{slice_get_within}
use Rattle.kql_cells.specs.Named.{column_name, place_of}
use Rattle.kql_cells.specs.Seen.{row_at, value_at}
use Rattle.kql_cells.specs.Table.{CellFits, Grid, IsGrid, RowFits}
use Rattle.kql_cells.specs.declared.schema.Column.{Column}
use Rattle.kql_cells.specs.declared.value.Value.{Value}
use Rattle.kql_cells.specs.declared.value.Value.TheVariants as value
use Rattle.kql_cells.proofs.RowLaws.{length-RowFits}
use Rattle.kql_functions.specs.Kinds.{same_kind}
use Rattle.kql_meaning.specs.Expressions.{column_kind}
use Rattle.kql_meaning.specs.FittingExpressions.{has_kind, is_kind}
use Rattle.kql_meaning.specs.FittingOperators.{is_of_type_in}
use Rattle.kql_meaning.specs.Tables.{absent_in, cell_in, has_column, is_name_among, names_of, places, places_below}
use Rattle.kql_meaning.specs.Union.{cell_or_absent, rows_in_columns}
use Rattle.kql_meaning.specs.Values.{absent}
use Rattle.kql_meaning.proofs.MemberLaws.{Member, member-of-map}
use Rattle.kql_meaning.proofs.RowByRowLaws.{rows-at-all}
use Rattle.kql_fit_laws.proofs.JoinRows.{all-of, same-kind}
use Rattle.kql_fit_laws.proofs.RowFacts.{absent-fits, all-members, cell-at-fits, found-place, place-below}
use Rattle.kql_values.specs.Grids.{HaveLength, column_at, rows_of}
use Rattle.table_ops.specs.InColumns.{are_of_type_in, column_in}
use Rattle.table_ops.proofs.Transposed.{made-long, map-map, map-range-same, rows-of-made}

-- One column.

same-within : (vs : List Value) (j : ℕ) (d e : Value) → j < length vs → get_or vs j d ≡ get_or vs j e
same-within [] j d e lt = absurd (omega (arith, lt))
same-within (v ∷ vs) zero d e lt = refl
same-within (v ∷ vs) (suc j) d e lt = same-within vs j d e (omega (arith, lt))

pub place-inside : (cs : List Column) (n : List ℕ) (j : ℕ) → place_of column_name n cs ≡ Some j → j < length cs
place-inside cs n j is = let q = found-place cs n j is in slice_get_within cs j q.0 q.1

pub cell-there : (t : Grid) (i j : ℕ) → IsGrid t → i < length t.lines → j < length t.columns → value_at (row_at t.lines i) j ≡ cell_in t i (Some j)
unfolding cell_in
cell-there t i j fits row inside =
    let width = length-RowFits t.columns (row_at t.lines i) (fits i [] row) in
    let k : j < length (row_at t.lines i) = omega (arith, width, inside) in
    same-within (row_at t.lines i) j value.Null (absent_in (slice_get t.columns j)) k

cells-there : (t : Grid) (j : ℕ) → IsGrid t → j < length t.columns → column_at t.lines j ≡ map (λ i. cell_in t i (Some j)) (places t)
unfolding places places_below
cells-there t j fits inside =
    ap (map (λ row. value_at row j)) (sym (rows-at-all t))
    ∙ (map-map (λ row. value_at row j) (row_at t.lines) (range_with_len 0 (length t.lines))
    ∙ map-range-same (λ i. value_at (row_at t.lines i) j) (λ i. cell_in t i (Some j)) 0 (length t.lines) (λ i lt. cell-there t i j fits (omega (arith, lt)) inside))

same-everywhere : (v : Value) (a n : ℕ) → replicate n v ≡ map (λ i. v) (range_with_len a n)
same-everywhere v a zero = refl
same-everywhere v a (suc n) = ap (λ vs. v ∷ vs) (same-everywhere v (a + 1) n)

pub column-there : (t : Grid) (c : Column) (j : ℕ) (v : List Value) → IsGrid t → place_of column_name c.name t.columns ≡ Some j → v ≡ column_at t.lines j → v ≡ column_in t c
unfolding column_in cell_or_absent
column-there t c j v fits is made =
    made ∙ (cells-there t j fits (place-inside t.columns c.name j is)
    ∙ ap (λ o. map (λ i. cell_or_absent t i c o) (places t)) (sym is))

pub column-lacks : (t : Grid) (c : Column) (n : ℕ) (v : List Value) → place_of column_name c.name t.columns ≡ None → n ≡ length t.lines → v ≡ replicate n (absent c.kind) → v ≡ column_in t c
unfolding column_in cell_or_absent places places_below
column-lacks t c n v is many made =
    made ∙ (ap (λ m. replicate m (absent c.kind)) many
    ∙ (same-everywhere (absent c.kind) 0 (length t.lines)
    ∙ ap (λ o. map (λ i. cell_or_absent t i c o) (range_with_len 0 (length t.lines))) (sym is)))

pub ruleset column_steps = (place-inside, column-there, column-lacks)

-- All columns.

abbrev in_column : Grid → Column → ℕ → Value
in_column t c i = cell_or_absent t i c (place_of column_name c.name t.columns)

places-count : (t : Grid) → length (places t) ≡ length t.lines
unfolding places places_below
places-count t = length-range_with_len 0 (length t.lines)

pub vectors-long : (t : Grid) (cs : List Column) (n : ℕ) (vs : List (List Value)) → n ≡ length t.lines → vs ≡ map (column_in t) cs → HaveLength n vs
unfolding column_in
vectors-long t cs n vs many is =
    subst (λ m. HaveLength m vs) (places-count t ∙ sym many) (subst (HaveLength (length (places t))) (sym is) (made-long (in_column t) (places t) cs))

rows-made : (t : Grid) (cs : List Column) (n : ℕ) (vs rows : List (List Value)) → n ≡ length t.lines → vs ≡ map (column_in t) cs → rows ≡ rows_of n vs → rows ≡ rows_in_columns cs t
unfolding column_in rows_in_columns
rows-made t cs n vs rows many is made =
    made ∙ (ap (λ m. rows_of m vs) (many ∙ sym (places-count t))
    ∙ (ap (rows_of (length (places t))) is ∙ rows-of-made (in_column t) (places t) cs))

-- They fit.

found-has : (cs : List Column) (n : List ℕ) (d : Column) → find (λ (c : Column). bytes_eq c.name n) cs ≡ Some d → has_column n cs ≡ true
unfolding has_column is_name_among names_of
found-has [] n d e = cc
found-has (c ∷ cs) n d e = elim (cases_Bool (bytes_eq c.name n)) [
  | inl t ↦ rw t refl
  | inr f ↦ let later : find (λ (x : Column). bytes_eq x.name n) cs ≡ Some d = rw f at e in rw f (found-has cs n d later)
]

kind-of-found : (c d : Column) (cs : List Column) → find (λ (x : Column). bytes_eq x.name c.name) cs ≡ Some d → is_of_type_in c cs ≡ true → c.kind ≡ d.kind
unfolding is_of_type_in is_kind has_kind column_kind
kind-of-found c d cs e t =
    let has = found-has cs c.name d e in
    let same : same_kind c.kind d.kind ≡ true = rw (has, e) at t in
    same-kind c.kind d.kind same

cell-fits : (t : Grid) (i : ℕ) → IsGrid t → i < length t.lines → (c : Column) → is_of_type_in c t.columns ≡ true → (o : Option ℕ) → place_of column_name c.name t.columns ≡ o → CellFits c (cell_or_absent t i c o)
unfolding cell_or_absent
cell-fits t i h lt c typed None e = absent-fits c.kind
cell-fits t i h lt c typed (Some j) e =
    let q = found-place t.columns c.name j e in
    let fits = cell-at-fits t i j q.0 h lt q.1 in
    let same = kind-of-found c q.0 t.columns q.2 typed in
    (rw same fits.0, fits.1)

row-fits-in : (t : Grid) (i : ℕ) → IsGrid t → i < length t.lines → (cs : List Column) → ((c : Column) → Member c cs → is_of_type_in c t.columns ≡ true) → RowFits cs (map (λ (c : Column). in_column t c i) cs)
unfolding RowFits
row-fits-in t i h lt [] typed = tt
row-fits-in t i h lt (c ∷ cs) typed = (cell-fits t i h lt c (typed c (inl refl)) (place_of column_name c.name t.columns) refl, row-fits-in t i h lt cs (λ d m. typed d (inr m)))

rows-fit-in : (t : Grid) (cs : List Column) → IsGrid t → are_of_type_in cs t.columns ≡ true → All (RowFits cs) (rows_in_columns cs t)
unfolding rows_in_columns are_of_type_in
rows-fit-in t cs h typed =
    all-members (RowFits cs) (map (λ i. map (λ (c : Column). in_column t c i) cs) (places t))
    (λ row m.
    let q = member-of-map (λ i. map (λ (c : Column). in_column t c i) cs) (places t) row m in
    subst (RowFits cs) q.2 (row-fits-in t q.0 h (place-below t q.0 q.1) cs (λ c n. all-of (λ (d : Column). is_of_type_in d t.columns) cs c typed n)))

pub rows-fit : (t : Grid) (cs named : List Column) (n : ℕ) (vs rows : List (List Value)) → n ≡ length t.lines → vs ≡ map (column_in t) cs → rows ≡ rows_of n vs → named ≡ cs → IsGrid t → are_of_type_in cs t.columns ≡ true → All (RowFits named) rows
rows-fit t cs named n vs rows many is made same h typed =
    subst (λ (ds : List Column). All (RowFits ds) rows) (sym same)
    (subst (All (RowFits cs)) (sym (rows-made t cs n vs rows many is made)) (rows-fit-in t cs h typed))

pub table-made : (t made : Grid) (cs named : List Column) (n : ℕ) (vs rows : List (List Value)) → n ≡ length t.lines → vs ≡ map (column_in t) cs → rows ≡ rows_of n vs → named ≡ cs → made ≡ record { columns = named; lines = rows } → made ≡ record { columns = cs; lines = rows_in_columns cs t }
table-made t made cs named n vs rows many is there same e =
    e ∙ (ap (λ (ds : List Column). record { columns = ds; lines = rows }) same
    ∙ ap (λ (ls : List (List Value)). record { columns = cs; lines = ls }) (rows-made t cs n vs rows many is there))

pub ruleset in_column_facts = (vectors-long, rows-fit, table-made)
