-- What partition, union, range and parse give of small tables, computed.
use Rattle.std.proofs.Common.{◌≡◌, ◌∙◌, ℕ, Bool, true, false, List, [], ◌∷◌, ◌++◌, map, take, refl, ap}
use Rattle.std.specs.Prelude.{codes}
use Rattle.std.specs.Ordering.{nat_cmp, ordering_then}
use Rattle.std.specs.declared.cmp.Ordering.TheVariants.{Equal}
use mathlib.Core.Path.{fun_ext}
use Rattle.kql_cells.specs.Ordered.{text_in}
use Rattle.kql_cells.specs.Table.{Grid, gathered}
use Rattle.kql_cells.specs.declared.value.Value.{Value}
use Rattle.kql_bound.specs.declared.parts.BKey.{BKey}
use Rattle.kql_bound.specs.declared.parts.ParsePlan.{ParsePlan}
use Rattle.kql_ticks.specs.Ranges.{fit}
use Rattle.kql_cells.specs.Readings.{long_written}
use Rattle.kql_meaning.specs.Cuts.{behind_dash, cut, digits_length, filled_piece_read, is_allowed, is_between_characters, is_cut, is_cut_from, is_end, is_number_before_star, number_length, piece_read, rising_lists, star_follows}
use Rattle.kql_meaning_examples.specs.Examples.{ParseMessage, ParseMessageRelaxed, ParseNumber, ParseRelaxed, ParseSimple, PartitionCounts, PartitionTakesFirsts, RangeTerms, SortAscending, SortDescending, SortNullsFirst, TopTwo, UnionInner, UnionOuter, by_k, by_pattern, column, keyed, messages}
use Rattle.kql_meaning.specs.Groups.{distinct_keys, group_of}
use Rattle.kql_meaning.specs.Items.{cells_in, without}
use Rattle.kql_meaning.specs.Numbers.{count_of_terms, counted, terms}
use Rattle.kql_meaning.specs.Parse.{cut_values, parse_columns, parse_table, parsed_values, pattern_columns, pattern_names, piece_value, pieces_values}
use Rattle.kql_meaning.specs.Partition.{key_in_column, partition_table}
use Rattle.kql_meaning.specs.Tables.{absent_in, cell, cell_in, distinct_by, emptied, has_column, is_name_among, names_of, places, places_below}
use Rattle.kql_meaning.specs.TakeAndCount.{count_columns, count_table, take_table}
use Rattle.kql_meaning.specs.Union.{all_in_order, cell_or_absent, rows_in_columns, same_name, union_columns, union_table}
use Rattle.kql_meaning.specs.Values.{absent, same_key, same_keys}
use Rattle.kql_meaning.specs.Expressions.{val}
use Rattle.kql_meaning.proofs.ValueLaws.{val-Column}
use Rattle.kql_meaning.specs.Sort.{sort_table, sorted_places, top_table, risen, put_in, pair_cmp, keys_cmp, key_cmp, directed, null_end}

pub partition_takes : PartitionTakesFirsts
unfolding partition_table emptied take_table distinct_keys group_of distinct_by key_in_column same_keys same_key cell cell_in absent_in absent places places_below
partition_takes = refl

pub partition_counts : PartitionCounts
unfolding partition_table emptied count_table count_columns counted fit distinct_keys group_of distinct_by key_in_column same_keys same_key cell cell_in absent_in absent places places_below
partition_counts = refl

pub union_outer : UnionOuter
unfolding union_table union_columns rows_in_columns cell_or_absent same_name has_column is_name_among names_of take_table distinct_by cell_in absent_in absent places places_below all_in_order
union_outer = refl

pub union_inner : UnionInner
unfolding union_table union_columns rows_in_columns cell_or_absent same_name has_column is_name_among names_of take_table distinct_by cell_in absent_in absent places places_below all_in_order
union_inner = refl

pub range_terms : RangeTerms
unfolding terms count_of_terms places_below
range_terms = refl

pub parse_simple : ParseSimple
unfolding cut_values pieces_values piece_value piece_read filled_piece_read cut rising_lists is_cut is_cut_from is_end is_between_characters is_allowed is_number_before_star star_follows number_length behind_dash digits_length long_written
parse_simple = refl

pub parse_relaxed : ParseRelaxed
unfolding cut_values pieces_values piece_value piece_read filled_piece_read cut rising_lists is_cut is_cut_from is_end is_between_characters is_allowed is_number_before_star star_follows number_length behind_dash digits_length absent long_written
parse_relaxed = refl

pub parse_number : ParseNumber
unfolding cut_values pieces_values piece_value piece_read filled_piece_read cut rising_lists is_cut is_cut_from is_end is_between_characters is_allowed is_number_before_star star_follows number_length behind_dash digits_length long_written
parse_number = refl

-- The whole of a parse, by the values of its text.
abbrev parsed_by : ParsePlan → Grid → (ℕ → Value) → Grid
parsed_by p g v = record {
  columns = parse_columns p g.columns;
  lines = map (λ i. cells_in (without (pattern_names p.pattern) g.columns) g i ++ parsed_values p (text_in (v i))) (places g);
}

parse-values : (p : ParsePlan) (g : Grid) (v : ℕ → Value) → ((i : ℕ) → val p.text g i [] ≡ v i) → parse_table p g ≡ parsed_by p g v
unfolding parse_table
parse-values p g v same = ap (parsed_by p g) (fun_ext same)

m_at : ℕ → Value
m_at i = cell messages i (codes "m")

m-values : (i : ℕ) → val (column (codes "m")) messages i [] ≡ m_at i
unfolding m_at
m-values i = val-Column (codes "m") messages i []

pub parse_message : ParseMessage
unfolding m_at parse_columns pattern_names pattern_columns names_of parsed_values without is_name_among cells_in cell cell_in absent_in absent places places_below cut_values pieces_values piece_value piece_read filled_piece_read cut rising_lists is_cut is_cut_from is_end is_between_characters is_allowed is_number_before_star star_follows number_length behind_dash digits_length long_written
parse_message = parse-values (by_pattern false) messages m_at m-values ∙ refl

pub parse_message_relaxed : ParseMessageRelaxed
unfolding m_at parse_columns pattern_names pattern_columns names_of parsed_values without is_name_among cells_in cell cell_in absent_in absent places places_below cut_values pieces_values piece_value piece_read filled_piece_read cut rising_lists is_cut is_cut_from is_end is_between_characters is_allowed is_number_before_star star_follows number_length behind_dash digits_length long_written
parse_message_relaxed = parse-values (by_pattern true) messages m_at m-values ∙ refl

-- A sort by one key, by the values of its expression.
abbrev places_by : BKey → Grid → (ℕ → Value) → List ℕ
places_by k g v = risen (λ i j. ordering_then (ordering_then (key_cmp k (v i) (v j)) Equal) (nat_cmp i j)) (places g)

sorted_places-values : (k : BKey) (g : Grid) (v : ℕ → Value) → ((i : ℕ) → val k.expr g i [] ≡ v i) → sorted_places (k ∷ []) g ≡ places_by k g v
unfolding sorted_places pair_cmp keys_cmp
sorted_places-values k g v same = ap (places_by k g) (fun_ext same)

places-by_k : (asc nulls_first : Bool) → sorted_places (by_k asc nulls_first ∷ []) keyed ≡ places_by (by_k asc nulls_first) keyed (λ i. cell keyed i (codes "k"))
places-by_k asc nulls_first = sorted_places-values (by_k asc nulls_first) keyed (λ i. cell keyed i (codes "k")) (λ i. val-Column (codes "k") keyed i [])

abbrev lines_at : List ℕ → List (List Value)
lines_at ps = (gathered keyed ps).lines

pub sort_ascending : SortAscending
unfolding sort_table risen put_in key_cmp directed null_end cell cell_in absent_in absent places places_below
sort_ascending = ap lines_at (places-by_k true true) ∙ refl

pub sort_descending : SortDescending
unfolding sort_table risen put_in key_cmp directed null_end cell cell_in absent_in absent places places_below
sort_descending = ap lines_at (places-by_k false false) ∙ refl

pub sort_nulls_first : SortNullsFirst
unfolding sort_table risen put_in key_cmp directed null_end cell cell_in absent_in absent places places_below
sort_nulls_first = ap lines_at (places-by_k false true) ∙ refl

pub top_two : TopTwo
unfolding top_table risen put_in key_cmp directed null_end cell cell_in absent_in absent places places_below
top_two = ap (λ (ps : List ℕ). lines_at (take 2 ps)) (places-by_k false false) ∙ refl

pub ruleset table_examples = (partition_takes, partition_counts, union_outer, union_inner, range_terms, parse_simple, parse_relaxed, parse_number, parse_message, parse_message_relaxed, sort_ascending, sort_descending, sort_nulls_first, top_two)
