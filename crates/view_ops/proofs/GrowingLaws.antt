-- A view that takes a table stands for the rows that it stood for, and behind them those of the table.
use Rattle.std.proofs.Common.{◌≡◌, ◌<◌, ◌≤◌, ◌+◌, ◌-◌, ◌^◌, ◌++◌, ℕ, zero, suc, Bool, true, List, [], ◌∷◌, fold, length, refl, ap, ap₂, sym, ◌∙◌, subst, arith}
use Rattle.std.specs.Prelude.{All, is_some}
use Rattle.std.specs.List.{AllByRecursion}
use Rattle.std.proofs.lemmas.Bool.{and_parts}
use Rattle.std.proofs.lemmas.List.{get_or-append-add, get_or_append_left, length-append}
use Rattle.std.proofs.lemmas.List.Elements.{All-append, recursion_from_All}
use Rattle.kql_cells.specs.Named.{HasDistinctNames, column_name}
use Rattle.kql_cells.specs.Seen.{row_at}
use Rattle.kql_cells.specs.Table.{Grid, IsGrid, RowFits}
use Rattle.kql_cells.specs.declared.schema.Column.{Column}
use Rattle.kql_cells.specs.declared.value.Value.{Value}
use Rattle.kql_bound.specs.declared.parts.GroupPlan.{GroupPlan}
use Rattle.kql_meaning.specs.FittingOperators.{summarize_fits}
use Rattle.kql_fit_laws.specs.LawsOfRows.{IsTable, IsTableOf}
use Rattle.summarize_pieces.specs.Joined.{joined_groups}
use Rattle.summarize_pieces.specs.Pieces.{AreGroupsOf, AreNeighbours, Grouped, groups_in}
use Rattle.summarize_pieces.proofs.NeighbourLaws.{groups-joined}
use Rattle.summarize_pieces.proofs.PlanSteps.{plan-fits}
use Rattle.live_tables.specs.Growing.{with_rows}
use Rattle.view_ops.specs.Views.{PlanFits, StandsFor, Viewed, are_stored, can_take, grown, table_of}
use Rattle.view_ops.proofs.MovedGroups.{are-groups-moved}
use Rattle.view_ops.proofs.StoredLaws.{test-stored}

-- Rows, and rows behind them.

at-first : (lines more : List (List Value)) (i : ℕ) → i < length lines → row_at lines i ≡ row_at (lines ++ more) (0 + i)
at-first lines more i lt = let e : i ≡ 0 + i = omega arith in sym (get_or_append_left lines more [] i lt) ∙ ap (row_at (lines ++ more)) e

at-second : (lines more : List (List Value)) (i : ℕ) → row_at more i ≡ row_at (lines ++ more) (length lines + i)
at-second lines more i = sym (get_or-append-add lines more i [])

table-both : (cs : List Column) (lines : List (List Value)) (t : Grid) → IsTable (table_of cs lines) → IsTableOf cs t → IsTable (table_of cs (lines ++ t.lines))
table-both cs lines t h own =
    let second : All (RowFits cs) t.lines = subst (λ (ds : List Column). All (RowFits ds) t.lines) own.0 own.1.1 in
    (h.0, All-append (RowFits cs) lines t.lines h.1 second)

-- The groups of the rows of a view, and of those of a table that it takes, in the table of all.

first-groups : (v : Viewed) (lines more : List (List Value)) (x : Grouped) → PlanFits v.plan v.columns → AreGroupsOf v.plan (table_of v.columns lines) 0 (length lines) x → AreGroupsOf v.plan (table_of v.columns (lines ++ more)) 0 (length lines) x
first-groups v lines more x fits h =
    let e : 0 + length lines ≡ length lines = omega arith in
    subst (λ (n : ℕ). AreGroupsOf v.plan (table_of v.columns (lines ++ more)) 0 n x) e
    (are-groups-moved (table_of v.columns lines) (table_of v.columns (lines ++ more)) 0 (length lines) refl (at-first lines more) v.plan x (plan-fits v.plan v.columns fits) h)

second-groups : (v : Viewed) (lines : List (List Value)) (t : Grid) (y : Grouped) → PlanFits v.plan v.columns → t.columns ≡ v.columns → AreGroupsOf v.plan t 0 (length t.lines) y → AreGroupsOf v.plan (table_of v.columns (lines ++ t.lines)) (length lines) (length lines + length t.lines) y
second-groups v lines t y fits same h =
    are-groups-moved t (table_of v.columns (lines ++ t.lines)) (length lines) (length t.lines) same (λ i lt. at-second lines t.lines i) v.plan y
    (subst (λ (cs : List Column). summarize_fits v.plan cs ≡ true) (sym same) (plan-fits v.plan v.columns fits)) h

pub neighbours : (v : Viewed) (lines : List (List Value)) (t : Grid) (y : Grouped) → StandsFor v lines → IsTableOf v.columns t → AreGroupsOf v.plan t 0 (length t.lines) y → AreNeighbours v.groups y
neighbours v lines t y h own groups = record {
  plan = v.plan;
  table = table_of v.columns (lines ++ t.lines);
  from = 0;
  middle = length lines;
  to = length lines + length t.lines;
  fits = plan-fits v.plan v.columns h.fits;
  whole = table-both v.columns lines t h.table own;
  first = omega arith;
  second = omega arith;
  range = let n = length-append lines t.lines in omega (arith, n);
  left = first-groups v lines t.lines v.groups h.fits h.groups;
  right = second-groups v lines t y h.fits own.0 groups;
}

-- What the groups of both are together.
both-groups : (v : Viewed) (lines : List (List Value)) (t : Grid) (y : Grouped) → StandsFor v lines → IsTableOf v.columns t → AreGroupsOf v.plan t 0 (length t.lines) y → AreGroupsOf v.plan (table_of v.columns (lines ++ t.lines)) 0 (length (lines ++ t.lines)) (joined_groups v.groups y)
unfolding neighbours
both-groups v lines t y h own groups =
    let n : length lines + length t.lines ≡ length (lines ++ t.lines) = sym (length-append lines t.lines) in
    subst (λ (m : ℕ). AreGroupsOf v.plan (table_of v.columns (lines ++ t.lines)) 0 m (joined_groups v.groups y)) n
    (groups-joined v.groups y (joined_groups v.groups y) (neighbours v lines t y h own groups) refl)

pub stands-grown : (v : Viewed) (lines : List (List Value)) (t : Grid) → StandsFor v lines → can_take v t → are_stored v.plan t ≡ true → StandsFor (grown v t) (lines ++ t.lines)
unfolding grown
stands-grown v lines t h own stored = record {
  fits = h.fits;
  table = table-both v.columns lines t h.table own;
  groups = both-groups v lines t (groups_in v.plan t 0 (length t.lines)) h own (record { groups = refl; stored = test-stored v.plan t stored });
  count = ap (λ (n : ℕ). n + length t.lines) h.count ∙ sym (length-append lines t.lines);
}

-- Growing by several tables.

pub plan-grown : (bs : List Grid) (v : Viewed) → ((fold grown v bs).plan ≡ v.plan) × ((fold grown v bs).columns ≡ v.columns)
unfolding grown
plan-grown [] v = (refl, refl)
plan-grown (b ∷ bs) v = plan-grown bs (grown v b)

pub columns-grown : (bs : List Grid) (t : Grid) → (fold with_rows t bs).columns ≡ t.columns
columns-grown [] t = refl
columns-grown (b ∷ bs) t = columns-grown bs (with_rows t b)

-- Where the numbers of all are stored, those of the first are.
first-stored : (bs : List Grid) (v : Viewed) → (fold grown v bs).stored ≡ true → v.stored ≡ true
unfolding grown
first-stored [] v is = is
first-stored (b ∷ bs) v is = (and_parts v.stored (are_stored v.plan b) (first-stored bs (grown v b) is)).0

one-stored : (v : Viewed) (b : Grid) → (grown v b).stored ≡ true → are_stored v.plan b ≡ true
unfolding grown
one-stored v b is = (and_parts v.stored (are_stored v.plan b) is).1

-- One table more, where the numbers are stored.

pub stored-before : (v : Viewed) (b : Grid) → (grown v b).stored ≡ true → v.stored ≡ true
unfolding grown
stored-before v b is = (and_parts v.stored (are_stored v.plan b) is).0

pub stands-next : (v : Viewed) (lines : List (List Value)) (b : Grid) → StandsFor v lines → can_take v b → (grown v b).stored ≡ true → StandsFor (grown v b) (lines ++ b.lines)
stands-next v lines b h own is = stands-grown v lines b h own (one-stored v b is)

takes-after : (v : Viewed) (b : Grid) (bs : List Grid) → AllByRecursion (can_take v) bs → AllByRecursion (can_take (grown v b)) bs
unfolding grown
takes-after v b bs h = h

same-columns : (v : Viewed) (b : Grid) → (grown v b).columns ≡ v.columns
unfolding grown
same-columns v b = refl

stands-after : (bs : List Grid) (v : Viewed) (t : Grid) → t.columns ≡ v.columns → StandsFor v t.lines → AllByRecursion (can_take v) bs → (fold grown v bs).stored ≡ true → StandsFor (fold grown v bs) (fold with_rows t bs).lines
stands-after [] v t same h takes stored = h
stands-after (b ∷ bs) v t same h takes stored =
    let own = one-stored v b (first-stored bs (grown v b) stored) in
    stands-after bs (grown v b) (with_rows t b) (same ∙ sym (same-columns v b)) (stands-grown v t.lines b h takes.0 own) (takes-after v b bs takes.1) stored

pub stands-all : (v : Viewed) (t : Grid) (bs : List Grid) → t.columns ≡ v.columns → StandsFor v t.lines → All (can_take v) bs → (fold grown v bs).stored ≡ true → StandsFor (fold grown v bs) (fold with_rows t bs).lines
stands-all v t bs same h takes stored = stands-after bs v t same h (recursion_from_All (can_take v) bs takes) stored

pub ruleset law_steps = (stands-all)
