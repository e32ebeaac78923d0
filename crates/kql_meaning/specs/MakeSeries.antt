-- `make-series`: the bins are from, from + step and so on below to. A row falls in the bin at its axis; one with a null axis, before
-- from, or not before to, is left out. For each group of the rows inside there is a row: the keys, for each aggregate an array over
-- the bins, and the axis as an array of the bins. Where no row is inside there is no group, also without `by`.
use Rattle.std.specs.Prelude.{Bool, false, ◌&&◌, List, [], ◌∷◌, ◌++◌, Option, None, Some, filter, map, ℤ, pos, ◌-ℤ◌, int_le, int_lt, ◌==◌, length, option_and_then, if◌then◌else◌}
use Rattle.std.specs.Option.{option_eq}
use Rattle.std.specs.Ordering.{int_eq}
use Rattle.kql_ticks.specs.Bins.{bin_at}
use Rattle.kql_cells.specs.Table.{Grid, gathered}
use Rattle.kql_cells.specs.declared.schema.Column.{Column}
use Rattle.kql_cells.specs.declared.value.Kind.TheVariants as kind
use Rattle.kql_cells.specs.declared.value.Value.{Value}
use Rattle.kql_dynamic.specs.Arrays.{array}
use Rattle.kql_scalar_fns.specs.Dynamic.{element}
use Rattle.kql_bound.specs.declared.parts.SeriesItem.{SeriesItem}
use Rattle.kql_bound.specs.declared.parts.SeriesPlan.{SeriesPlan}
use Rattle.kql_meaning.specs.Expressions.{val}
use Rattle.kql_meaning.specs.Groups.{distinct_keys, group_of, key_by}
use Rattle.kql_meaning.specs.Items.{items_columns}
use Rattle.kql_meaning.specs.Numbers.{terms}
use Rattle.kql_meaning.specs.Sources.{number_in}
use Rattle.kql_meaning.specs.Tables.{cell, places}
use Rattle.kql_meaning.specs.Values.{number_as, number_of}

-- The starts of the bins.
unfoldable pub bins : SeriesPlan → List ℤ
bins p = terms (number_in p.from) (number_in p.to -ℤ pos 1) (number_in p.step)

-- Whether a row's axis lies from the start of the first bin on and below the end.
unfoldable pub is_inside : SeriesPlan → Option ℤ → Bool
is_inside p None = false
is_inside p (Some x) = int_le (number_in p.from) x && int_lt x (number_in p.to)

-- The rows inside.
unfoldable pub rows_inside : SeriesPlan → Grid → Grid
rows_inside p t = gathered t (filter (λ i. is_inside p (number_of (cell t i p.axis))) (places t))

-- Whether a row's axis falls in a bin: its bin is this one.
unfoldable pub falls_in : SeriesPlan → ℤ → Option ℤ → Bool
falls_in p b axis = option_eq int_eq (option_and_then (λ x. bin_at x (number_in p.step) (number_in p.from)) axis) (Some b)

-- The rows of a group in a bin.
unfoldable pub rows_in_bin : SeriesPlan → Grid → ℤ → Grid
rows_in_bin p g b = gathered g (filter (λ i. falls_in p b (number_of (cell g i p.axis))) (places g))

-- What an item gives for the rows of a bin; its default where there are none.
unfoldable pub of_bin : SeriesItem → Grid → Value
of_bin item g = if length g.lines == 0 then item.default.value else val item.expr g 0 []

-- The array of an item over the bins.
unfoldable pub series_of : SeriesPlan → Grid → SeriesItem → Value
series_of p g item = array (map (λ b. element (of_bin item (rows_in_bin p g b))) (bins p))

-- The array of the bins.
unfoldable pub axis_of : SeriesPlan → Value
axis_of p = array (map (λ b. element (number_as p.from.kind b)) (bins p))

-- The row of a group.
unfoldable pub series_row : SeriesPlan → Grid → List Value → List Value
series_row p t k = k ++ (map (series_of p (group_of (key_by p.keys t) t k)) p.items ++ axis_of p ∷ [])

-- The columns of the items.
unfoldable pub series_item_columns : List SeriesItem → List Column
series_item_columns items = map (λ (i : SeriesItem). record { name = i.name; kind = kind.Dynamic }) items

unfoldable pub series_columns : SeriesPlan → List Column → List Column
series_columns p columns =
    items_columns p.keys columns ++ (series_item_columns p.items ++ record { name = p.axis; kind = kind.Dynamic } ∷ [])

unfoldable pub series_rows : SeriesPlan → Grid → List (List Value)
series_rows p t = map (series_row p t) (distinct_keys (key_by p.keys t) t)

unfoldable pub series_table : SeriesPlan → Grid → Grid
series_table p t = record { columns = series_columns p t.columns; lines = series_rows p (rows_inside p t) }
