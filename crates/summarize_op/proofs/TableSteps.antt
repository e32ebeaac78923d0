-- The table of the groups.
use Rattle.std.proofs.Common.{◌≡◌, ◌++◌, ℕ, Bool, true, false, List, [], map, refl, ap, ap₂, sym, ◌∙◌, subst, arith, rules}
use Rattle.std.specs.Prelude.{Some, is_some}
use Rattle.std.specs.List.{list_all, range_with_len}
use Rattle.std.proofs.lemmas.Bool.{and_parts}
use Rattle.kql_cells.specs.Named.{HasDistinctNames, column_name}
use Rattle.kql_cells.specs.Table.{Grid, IsGrid}
use Rattle.kql_cells.specs.declared.schema.Column.{Column}
use Rattle.kql_cells.specs.declared.value.Value.{Value}
use Rattle.kql_values.specs.Grids.{HaveLength, row_of, rows_of}
use Rattle.kql_values.proofs.GridLaws.{HaveLength-append}
use Rattle.kql_bound.specs.declared.parts.BItem.{BItem}
use Rattle.kql_bound.specs.declared.parts.GroupPlan.{GroupPlan}
use Rattle.kql_bound.specs.declared.plan.Op.{the_lemmas}
use Rattle.kql_bound.specs.declared.plan.Op.TheOpen.{Op-F}
use Rattle.kql_bound.specs.declared.plan.Op.TheVariants as O
use Rattle.kql_meaning.specs.Fits.{Known}
use Rattle.kql_meaning.specs.FittingOperators.{answer_if, columns_if, group_item_fits, key_item_fits, summarize_fits}
use Rattle.kql_meaning.specs.Items.{items_values}
use Rattle.kql_meaning.specs.Plans.{World}
use Rattle.kql_meaning.specs.Summarize.{group_columns, group_rows, summarize_table}
use Rattle.kql_meaning.proofs.OperatorFitLaws.{op-Summarize}
use Rattle.kql_fit_laws.proofs.ItemLaws.{each_summarize_keeps}
use Rattle.kql_fit_laws.proofs.RowFacts.{answer-some}
use Rattle.kql_fit_laws.proofs.RowLaws.{means}
use Rattle.kql_fit_laws.specs.LawsOfRows.{IsTable}
use Rattle.summarize_op.specs.Columns.{AreColumns}
use Rattle.summarize_op.specs.Grouped.{AreNumbers}
use Rattle.summarize_op.specs.Groups.{AreGroups, group_at}
use Rattle.summarize_op.proofs.ColumnFacts.{map-range-same, row-of-append}

-- What fits.

told : (c : Bool) (cs : List Column) → is_some (columns_if c cs) ≡ true → columns_if c cs ≡ Some cs
unfolding columns_if
told true cs e = refl
told false cs e = absurd cc

answer-is : (b : Bool) (cs : List Column) → is_some (answer_if b cs) ≡ true → answer_if b cs ≡ Some cs
unfolding answer_if
answer-is b cs e = told _ cs e

-- Whether it fits, as the operator's contract has it.
abbrev Fits : GroupPlan → List Column → Type 0
Fits g cs = is_some (answer_if (summarize_fits g cs) (group_columns g cs)) ≡ true

parts : (g : GroupPlan) (cs : List Column) → Fits g cs → (summarize_fits g cs ≡ true) × (group_columns g cs ≡ group_columns g cs) × HasDistinctNames column_name (group_columns g cs)
parts g cs fits = answer-some (summarize_fits g cs) (group_columns g cs) (group_columns g cs) (answer-is (summarize_fits g cs) (group_columns g cs) fits)

pub keys-fit : (g : GroupPlan) (cs : List Column) → Fits g cs → list_all (key_item_fits cs) g.keys ≡ true
unfolding summarize_fits
keys-fit g cs fits = (and_parts (list_all (group_item_fits cs) g.items) (list_all (key_item_fits cs) g.keys) (parts g cs fits).0).1

pub items-fit : (g : GroupPlan) (cs : List Column) → Fits g cs → list_all (group_item_fits cs) g.items ≡ true
unfolding summarize_fits
items-fit g cs fits = (and_parts (list_all (group_item_fits cs) g.items) (list_all (key_item_fits cs) g.keys) (parts g cs fits).0).0

pub names-differ : (g : GroupPlan) (cs ds : List Column) → Fits g cs → ds ≡ group_columns g cs → HasDistinctNames column_name ds
names-differ g cs ds fits e = subst (HasDistinctNames column_name) (sym e) (parts g cs fits).2

-- The table fits.

summary-table : (g : GroupPlan) (t : Grid) → IsTable t → Fits g t.columns → IsTable (summarize_table g t)
summary-table g t h fits =
    let k : Known = record { tables = []; lets = [] } in
    let w : World = record { tables = []; lets = [] } in
    let there = op-Summarize g k false t.columns ∙ answer-is (summarize_fits g t.columns) (group_columns g t.columns) fits in
    let made = each_summarize_keeps k w g false t (group_columns g t.columns) h there in
    subst IsTable (means (O.Summarize g) (Op-F.Summarize g) (search (rules, the_lemmas)) w t) made.1

-- The rows.

pub both-long : (g : GroupPlan) (t : Grid) (count : ℕ) (kcs ics vs : List (List Value)) (numbers : List ℕ) → AreGroups g.keys t kcs numbers count → AreColumns count (λ n. items_values g.items (group_at t numbers n) 0) ics → vs ≡ kcs ++ ics → HaveLength count vs
both-long g t count kcs ics vs numbers a b e = subst (HaveLength count) (sym e) (HaveLength-append count kcs ics a.long b.long)

all-rows : (g : GroupPlan) (t : Grid) (count : ℕ) (kcs ics vs rows : List (List Value)) (numbers : List ℕ) → AreGroups g.keys t kcs numbers count → AreColumns count (λ n. items_values g.items (group_at t numbers n) 0) ics → vs ≡ kcs ++ ics → rows ≡ rows_of count vs → rows ≡ group_rows g.keys g.items t
unfolding rows_of
all-rows g t count kcs ics vs rows numbers a b e made =
    made
    ∙ (ap (λ (us : List (List Value)). map (row_of us) (range_with_len 0 count)) e
    ∙ (map-range-same (row_of (kcs ++ ics)) (λ n. row_of kcs n ++ items_values g.items (group_at t numbers n) 0) 0 count
    (λ n lt. row-of-append kcs ics n ∙ ap (λ (us : List Value). row_of kcs n ++ us) (b.rows n (omega (arith, lt))))
    ∙ sym (a.rows g.items)))

pub table-is : (g : GroupPlan) (t made : Grid) (count : ℕ) (kcs ics vs rows : List (List Value)) (numbers : List ℕ) (cs : List Column) → AreGroups g.keys t kcs numbers count → AreColumns count (λ n. items_values g.items (group_at t numbers n) 0) ics → vs ≡ kcs ++ ics → rows ≡ rows_of count vs → cs ≡ group_columns g t.columns → made ≡ record { columns = cs; lines = rows } → made ≡ summarize_table g t
unfolding summarize_table
table-is g t made count kcs ics vs rows numbers cs a b e there named is =
    is ∙ ap₂ (λ (ds : List Column) (ls : List (List Value)). record { columns = ds; lines = ls }) named (all-rows g t count kcs ics vs rows numbers a b e there)

pub table-fits : (g : GroupPlan) (t : Grid) (count : ℕ) (kcs ics vs rows : List (List Value)) (numbers : List ℕ) (cs : List Column) → Fits g t.columns → HasDistinctNames column_name t.columns → IsGrid t → AreGroups g.keys t kcs numbers count → AreColumns count (λ n. items_values g.items (group_at t numbers n) 0) ics → vs ≡ kcs ++ ics → rows ≡ rows_of count vs → cs ≡ group_columns g t.columns → IsGrid (record { columns = cs; lines = rows })
table-fits g t count kcs ics vs rows numbers cs fits names here a b e there named =
    let all = summary-table g t (names, here) fits in
    subst IsGrid (sym (table-is g t (record { columns = cs; lines = rows }) count kcs ics vs rows numbers cs a b e there named refl)) all.1

pub group-numbers : (keys : List BItem) (t : Grid) (cs : List (List Value)) (ns : List ℕ) (count : ℕ) → AreGroups keys t cs ns count → AreNumbers t ns count
group-numbers keys t cs ns count a = record { within = a.within; each = a.each }

pub ruleset table_steps = (keys-fit, items-fit, names-differ, both-long, group-numbers)
