-- What operators that fit make of tables.
use Rattle.std.proofs.Common.{◌≡◌, ◌<◌, List, [], ◌∷◌, length, filter, take, sym, ap, ◌∙◌, subst, rules}
use Rattle.std.specs.Prelude.{◌≢◌, codes, All, None, Option, Some, ℤ, pos}
use Rattle.std.proofs.lemmas.List.Elements.{All-filter, All-from_recursion, All-take}
use Rattle.std.proofs.lemmas.List.Sorted.{All-permutation}
use Rattle.kql_cells.specs.Named.{HasDistinctNames, column_name}
use Rattle.kql_cells.specs.Table.{CellFits, Grid, RowFits}
use Rattle.kql_cells.specs.declared.schema.Column.{Column}
use Rattle.kql_cells.specs.declared.value.Kind.TheVariants as kind
use Rattle.kql_bound.specs.declared.parts.BKey.{BKey}
use Rattle.kql_bound.specs.declared.plan.Op.{Op, out-Op, the_lemmas}
use Rattle.kql_bound.specs.declared.plan.Op.TheFolds.{map-Op}
use Rattle.kql_bound.specs.declared.plan.Op.TheOpen.{Op-F}
use Rattle.kql_bound.specs.declared.plan.Op.TheVariants as V
use Rattle.kql_bound.specs.declared.plan.Plan.{Plan}
use Rattle.kql_meaning.specs.Expressions.{val}
use Rattle.kql_meaning.specs.FittingOperators.{sort_fits, where_fits}
use Rattle.kql_meaning.specs.Numbers.{counted}
use Rattle.kql_meaning.specs.Plans.{Gives, Makes, World, op_means, op_step, plan_means}
use Rattle.kql_meaning.specs.Sort.{sort_table, sorted_places, top_table}
use Rattle.kql_meaning.specs.Tables.{places}
use Rattle.kql_meaning.specs.TakeAndCount.{count_columns, count_table, take_table}
use Rattle.kql_meaning.specs.Values.{holds}
use Rattle.kql_meaning.specs.Where.{where_table}
use Rattle.kql_ticks.specs.Ranges.{fit}
use Rattle.kql_meaning.proofs.MemberLaws.{pairs-of}
use Rattle.kql_meaning.proofs.PlanLaws.{op_means-out}
use Rattle.kql_meaning.proofs.SortLaws.{sort_rearranges}
use Rattle.kql_scalar_fns.specs.Arguments.{long_or_null}
use Rattle.kql_meaning.proofs.OperatorFitLaws.{op-Count, op-Serialize, op-Sort, op-Take, op-Top, op-Where}
use Rattle.kql_fit_laws.proofs.RowFacts.{columns-some, gathered-table, places-inside}
use Rattle.kql_fit_laws.specs.LawsOfRows.{CountKeeps, IsTableOf, SerializeKeeps, SortKeeps, TakeKeeps, TopKeeps, WhereKeeps}

-- What an operator means, variant by variant.

pub means : (o : Op) (f : Op-F Op Plan) → out-Op o ≡ f → (w : World) (t : Grid) → op_means o w t ≡ op_step (map-Op Op Plan Makes Gives op_means plan_means f) w t
means o f e w t = op_means-out o w t ∙ ap (λ (g : Op-F Op Plan). op_step (map-Op Op Plan Makes Gives op_means plan_means g) w t) e

-- A table that is the meaning.
pub made : (cs : List Column) (t u : Grid) → t ≡ u → IsTableOf cs u → IsTableOf cs t
made cs t u e h = subst (IsTableOf cs) (sym e) h

some-same : (a b : List Column) → Some a ≡ Some b → a ≡ b
some-same a b e = cc

pub where_keeps : WhereKeeps
unfolding where_table
where_keeps k w e inside t cs h fits =
    let same = columns-some (where_fits e t.columns) t.columns cs (sym (op-Where e k inside t.columns) ∙ fits) in
    let ps = filter (λ i. holds (val e t i [])) (places t) in
    made cs (op_means (V.Where e) w t) (where_table e t) (means (V.Where e) (Op-F.Where e) (search (rules, the_lemmas)) w t)
    (same.1, gathered-table t ps h (All-filter (λ i. holds (val e t i [])) (λ i. i < length t.lines) (places t) (places-inside t)))

pub take_keeps : TakeKeeps
unfolding take_table
take_keeps k w n inside t cs h fits =
    made cs (op_means (V.Take n) w t) (take_table n t) (means (V.Take n) (Op-F.Take n) (search (rules, the_lemmas)) w t)
    (some-same t.columns cs (sym (op-Take n k inside t.columns) ∙ fits), (h.0, All-take (RowFits t.columns) n t.lines h.1))

sorted-inside : (keys : List BKey) (t : Grid) → All (λ i. i < length t.lines) (sorted_places keys t)
sorted-inside keys t = All-permutation (λ i. i < length t.lines) (places t) (sorted_places keys t) (sort_rearranges keys t) (places-inside t)

pub sort_keeps : SortKeeps
unfolding sort_table
sort_keeps k w keys inside t cs h fits =
    let same = columns-some (sort_fits keys t.columns) t.columns cs (sym (op-Sort keys k inside t.columns) ∙ fits) in
    made cs (op_means (V.Sort keys) w t) (sort_table keys t) (means (V.Sort keys) (Op-F.Sort keys) (search (rules, the_lemmas)) w t)
    (same.1, gathered-table t (sorted_places keys t) h (sorted-inside keys t))

pub top_keeps : TopKeeps
unfolding top_table
top_keeps k w n keys inside t cs h fits =
    let same = columns-some (sort_fits keys t.columns) t.columns cs (sym (op-Top n keys k inside t.columns) ∙ fits) in
    made cs (op_means (V.Top n keys) w t) (top_table n keys t) (means (V.Top n keys) (Op-F.Top n keys) (search (rules, the_lemmas)) w t)
    (same.1, gathered-table t (take n (sorted_places keys t)) h (All-take (λ i. i < length t.lines) n (sorted_places keys t) (sorted-inside keys t)))

pub serialize_keeps : SerializeKeeps
serialize_keeps k w inside t cs h fits =
    made cs (op_means V.Serialize w t) t (means V.Serialize Op-F.Serialize (search (rules, the_lemmas)) w t)
    (some-same t.columns cs (sym (op-Serialize k inside t.columns) ∙ fits), h)

counted-fits : (o : Option ℤ) → CellFits (record { name = codes "Count"; kind = kind.Long }) (long_or_null o)
counted-fits None = (tt, tt)
counted-fits (Some n) = (tt, tt)

count-names : HasDistinctNames column_name count_columns
unfolding count_columns
count-names = pairs-of (λ (c d : Column). c.name ≢ d.name) count_columns (tt, tt)

count-row : (t : Grid) → RowFits count_columns (counted t.lines ∷ [])
unfolding RowFits count_columns counted
count-row t = (counted-fits (fit (pos (length t.lines))), tt)

pub count_keeps : CountKeeps
unfolding count_table
count_keeps k w inside t cs h fits =
    made cs (op_means V.Count w t) (count_table t) (means V.Count Op-F.Count (search (rules, the_lemmas)) w t)
    (some-same count_columns cs (sym (op-Count k inside t.columns) ∙ fits), (count-names, All-from_recursion (RowFits count_columns) ((counted t.lines ∷ []) ∷ []) (count-row t, tt)))

pub ruleset row_laws = (where_keeps, take_keeps, sort_keeps, top_keeps, serialize_keeps, count_keeps)
