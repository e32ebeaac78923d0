-- The aggregates over no rows.
use Rattle.std.proofs.Common.{◌≡◌, ◌≤◌, ℕ, zero, suc, List, [], ◌∷◌, length, refl, ap, ◌∙◌, arith}
use Rattle.std.specs.Prelude.{Option, Some, None, slice_get, take, slice_index_or}
use Rattle.kql_cells.specs.Seen.{row_at}
use Rattle.kql_cells.specs.Table.{Grid}
use Rattle.kql_cells.specs.declared.dynamic.Dyn.TheVariants as dyn
use Rattle.kql_cells.specs.declared.value.Kind.{Kind}
use Rattle.kql_cells.specs.declared.value.Kind.TheVariants as kind
use Rattle.kql_cells.specs.declared.value.Value.{Value}
use Rattle.kql_cells.specs.declared.value.Value.TheVariants as value
use Rattle.kql_cells.proofs.LevelLaws.{levels-Array}
use Rattle.kql_dynamic.proofs.FormLaws.{null-Array}
use Rattle.kql_ticks.specs.Ranges.{fit}
use Rattle.kql_scalar_fns.specs.Choice.{greatest, least}
use Rattle.kql_functions.specs.declared.aggregate.Aggregate.TheVariants as aggregate
use Rattle.kql_meaning.specs.Aggregates.{aggregated, all_values, combined, distinct_given, first_of, given, listed, values_where}
use Rattle.kql_meaning.specs.Laws.{no_rows}
use Rattle.kql_meaning.specs.LawsOfNothing.{AbsentWithoutRow, AggregatesOfNothing, of_nothing, zero_of}
use Rattle.kql_meaning.specs.Numbers.{counted, fitted, sum_of}
use Rattle.kql_meaning.specs.Readings.{Reading, Records, reading_at, rows_where, values_over}
use Rattle.kql_meaning.specs.Windows.{count_in}
use Rattle.kql_meaning.specs.Tables.{absent_in, cell, cell_in, distinct_by, places, places_below}

no_list : listed [] ≡ value.Dynamic (dyn.Array [])
unfolding listed
no_list = rw (levels-Array [], null-Array []) refl

take-none : (n : ℕ) → take {A = Value} n [] ≡ []
take-none zero = refl
take-none (suc n) = refl

of_count : (n : Option Reading) (t : Grid) (s : Records) → first_of n t s [] ≡ []
unfolding first_of
of_count None t s = refl
of_count (Some n) t s = take-none (count_in (n.at t 0 s))

no_sum : (k : Option Kind) → fitted k (sum_of []) ≡ zero_of k
unfolding fitted sum_of zero_of fit
no_sum None = refl
no_sum (Some kind.Span) = refl
no_sum (Some kind.Bool) = refl
no_sum (Some kind.Long) = refl
no_sum (Some kind.Text) = refl
no_sum (Some kind.Moment) = refl
no_sum (Some kind.Dynamic) = refl

pub aggregates_of_nothing : AggregatesOfNothing
unfolding aggregated of_nothing all_values values_where values_over rows_where places places_below counted fit distinct_given given distinct_by greatest least combined
aggregates_of_nothing aggregate.Count args columns s = refl
aggregates_of_nothing aggregate.CountIf args columns s = refl
aggregates_of_nothing aggregate.CountDistinct args columns s = refl
aggregates_of_nothing aggregate.CountDistinctIf args columns s = refl
aggregates_of_nothing aggregate.Sum args columns s = no_sum ((reading_at args 0).kind columns)
aggregates_of_nothing aggregate.SumIf args columns s = no_sum ((reading_at args 0).kind columns)
aggregates_of_nothing aggregate.Min args columns s = refl
aggregates_of_nothing aggregate.MinIf args columns s = refl
aggregates_of_nothing aggregate.Max args columns s = refl
aggregates_of_nothing aggregate.MaxIf args columns s = refl
aggregates_of_nothing aggregate.MakeList args columns s = ap listed (of_count (slice_get args 1) (no_rows columns) s) ∙ no_list
aggregates_of_nothing aggregate.MakeListIf args columns s = no_list
aggregates_of_nothing aggregate.MakeSet args columns s = ap listed (of_count (slice_get args 1) (no_rows columns) s) ∙ no_list
aggregates_of_nothing aggregate.MakeSetIf args columns s = no_list
aggregates_of_nothing aggregate.ArgMax args columns s = refl
aggregates_of_nothing aggregate.ArgMin args columns s = refl
aggregates_of_nothing aggregate.TakeAny args columns s = refl
aggregates_of_nothing aggregate.BinaryAllAnd args columns s = refl
aggregates_of_nothing aggregate.BinaryAllOr args columns s = refl
aggregates_of_nothing aggregate.BinaryAllXor args columns s = refl

past-end : {X : Type 0} (xs : List X) (i : ℕ) (d : X) → length xs ≤ i → slice_index_or xs i d ≡ d
past-end [] i d h = refl
past-end (x ∷ xs) zero d h = absurd (omega arith)
past-end (x ∷ xs) (suc i) d h = past-end xs i d (omega arith)

pub absent_without_row : AbsentWithoutRow
unfolding cell cell_in absent_in
absent_without_row t i j name c beyond place there =
    let none : row_at t.lines i ≡ [] = past-end t.lines i [] beyond in
    rw (place, none, there) refl

pub ruleset nothing_laws = (aggregates_of_nothing, absent_without_row)
