-- The argument of `take_any` at the first row, and without a row.
use Rattle.std.proofs.Common.{◌≡◌, ◌∙◌, ℕ, true, List, [], ◌∷◌, length, map, refl, sym, ap, inl, inr, arith}
use Rattle.std.specs.Prelude.{bytes_eq, find, nat_lt, Option, None, Some, slice_get}
use Rattle.std.specs.List.{list_all, position_or_len}
use Rattle.std.proofs.lemmas.Bool.{and_parts, cases_Bool}
use Rattle.std.proofs.lemmas.List.Folds.{find_at}
use Rattle.std.proofs.lemmas.Option.{slice_get_within}
use Rattle.kql_cells.specs.Named.{column_name, place_of}
use Rattle.kql_cells.specs.Table.{Grid}
use Rattle.kql_cells.specs.declared.schema.Column.{Column}
use Rattle.kql_cells.specs.declared.value.Value.{Value}
use Rattle.kql_bound.specs.declared.expr.BExpr.{BExpr, out-BExpr, roll-BExpr, roll-out-BExpr}
use Rattle.kql_bound.specs.declared.expr.BExpr.TheOpen.{BExpr-F}
use Rattle.kql_bound.specs.declared.expr.BExpr.TheVariants as V
use Rattle.kql_meaning.specs.Aggregates.{all_values}
use Rattle.kql_meaning.specs.Expressions.{column_kind, reading}
use Rattle.kql_meaning.specs.FittingExpressions.{column_of, column_step, first_row_of, is_plain_column, stands_in_if_column}
use Rattle.kql_meaning.specs.Readings.{Reading, reading_at, values_over}
use Rattle.kql_meaning.specs.Tables.{absent_in, cell, cell_in, has_column, is_name_among, names_of, places, places_below}
use Rattle.kql_meaning.specs.Values.{absent_as}
use Rattle.kql_meaning.proofs.ReadingLaws.{reading-Column}
use Rattle.agg_folds.specs.Folds.{first_or_absent}

-- A column alone.

column-roll : (f : BExpr-F BExpr) (n : List ℕ) → column_step f ≡ Some n → roll-BExpr f ≡ V.Column n
column-roll (BExpr-F.Column m) n e = let same : m ≡ n = cc in V.rolls-Column m ∙ ap V.Column same
column-roll (BExpr-F.Literal l) n e = absurd cc
column-roll (BExpr-F.Step c) n e = absurd cc
column-roll (BExpr-F.Call f args) n e = absurd cc
column-roll (BExpr-F.Chain first links) n e = absurd cc
column-roll (BExpr-F.Path whole steps) n e = absurd cc
column-roll (BExpr-F.Window f args) n e = absurd cc
column-roll (BExpr-F.Aggregate f args) n e = absurd cc

stands : (cs : List Column) (o : Option (List ℕ)) → stands_in_if_column cs o ≡ true → (n : List ℕ) × (o ≡ Some n) × (has_column n cs ≡ true)
unfolding stands_in_if_column
stands cs None e = absurd cc
stands cs (Some n) e = (n, refl, e)

plain-named : (cs : List Column) (e : BExpr) → is_plain_column cs e ≡ true → (n : List ℕ) × (e ≡ V.Column n) × (has_column n cs ≡ true)
unfolding is_plain_column column_of
plain-named cs e h =
    let q = stands cs (column_step (out-BExpr e)) h in
    (q.0, sym (roll-out-BExpr e) ∙ column-roll (out-BExpr e) q.0 q.1, q.2)

-- A column that is there has a place.

found : (cs : List Column) (n : List ℕ) → has_column n cs ≡ true → (c : Column) × (find (λ d. bytes_eq (column_name d) n) cs ≡ Some c)
unfolding has_column is_name_among names_of
found [] n e = absurd cc
found (c ∷ cs) n e = elim (cases_Bool (bytes_eq c.name n)) [
  | inl t ↦ (c, rw t refl)
  | inr f ↦ let later : has_column n cs ≡ true = rw f at e in let q = found cs n later in (q.0, rw f q.1)
]

placed : (cs : List Column) (n : List ℕ) (c : Column) → find (λ d. bytes_eq (column_name d) n) cs ≡ Some c → (place_of column_name n cs ≡ Some (position_or_len (λ d. bytes_eq (column_name d) n) cs)) × (slice_get cs (position_or_len (λ d. bytes_eq (column_name d) n) cs) ≡ Some c)
placed cs n c e =
    let p = λ (d : Column). bytes_eq (column_name d) n in
    let got : slice_get cs (position_or_len p cs) ≡ Some c = sym (find_at p cs) ∙ e in
    let below = slice_get_within cs (position_or_len p cs) c got in
    let test : nat_lt (position_or_len p cs) (length cs) ≡ true = grind (arith, below) in
    (rw test refl, got)

-- Without a row a column has what stands there where there is no value.

empty-cell : (cs : List Column) (n : List ℕ) → has_column n cs ≡ true → cell (record { columns = cs; lines = [] }) 0 n ≡ absent_as (column_kind n cs)
unfolding cell cell_in absent_in column_kind absent_as
empty-cell cs n h =
    let q = found cs n h in
    let at = placed cs n q.0 q.1 in
    rw (at.0, at.1, q.1) refl

pub column-empty : (e : BExpr) (cs : List Column) → is_plain_column cs e ≡ true → (reading e).at (record { columns = cs; lines = [] }) 0 [] ≡ absent_as ((reading e).kind cs)
column-empty e cs h =
    let q = plain-named cs e h in
    let r = ap reading q.1 ∙ reading-Column q.0 in
    ap (λ (x : Reading). x.at (record { columns = cs; lines = [] }) 0 []) r ∙ (empty-cell cs q.0 q.2 ∙ sym (ap (λ (x : Reading). absent_as (x.kind cs)) r))

none-empty : (args : List BExpr) (cs : List Column) → first_row_of args cs ≡ true → (reading_at (map reading args) 0).at (record { columns = cs; lines = [] }) 0 [] ≡ absent_as ((reading_at (map reading args) 0).kind cs)
unfolding first_row_of reading_at
none-empty [] cs h = absurd cc
none-empty (e ∷ es) cs h = column-empty e cs (and_parts (is_plain_column cs e) (list_all (is_plain_column cs) es) h).0

-- The first row, where there is one.

first-by : (args : List BExpr) (cs : List Column) (lines : List (List Value)) → first_row_of args cs ≡ true → (reading_at (map reading args) 0).at (record { columns = cs; lines = lines }) 0 [] ≡ first_or_absent ((reading_at (map reading args) 0).kind cs) (all_values (reading_at (map reading args) 0) (record { columns = cs; lines = lines }) [])
unfolding all_values values_over places places_below first_or_absent
first-by args cs [] h = none-empty args cs h
first-by args cs (l ∷ lines) h = refl

pub first-place : (args : List BExpr) (t : Grid) → first_row_of args t.columns ≡ true → (reading_at (map reading args) 0).at t 0 [] ≡ first_or_absent ((reading_at (map reading args) 0).kind t.columns) (all_values (reading_at (map reading args) 0) t [])
first-place args t h = first-by args t.columns t.lines h
