-- What the kinds of joins give of two small tables, computed.
use Rattle.std.proofs.Common.{refl}
use Rattle.kql_meaning_examples.specs.Examples.{JoinInner, JoinInnerUnique, JoinLeftOuter, JoinRightOuter, JoinFullOuter, JoinSemis, JoinAntis, JoinColumns, LookupColumns, LookupRows}
use Rattle.kql_scalar_fns.specs.Choice.{is_null}
use Rattle.std.specs.Fmt.{digits}
use Rattle.kql_meaning.specs.Groups.{firsts_of_keys, is_first_of_key}
use Rattle.kql_meaning.specs.Items.{cells_in, without}
use Rattle.kql_meaning.specs.Join.{both_columns, both_rows, first_free, free_name, has_left, has_right, inner_rows, join_columns, join_rows, keys_match, left_alone, left_key, left_outer_rows, matches_left, matches_right, numbered_names, or_one, pairs_of_left, pairs_of_right, renamed, right_alone, right_outer_rows, rows_match, shown_columns, shown_row, unmatched_right_rows}
use Rattle.kql_meaning.specs.Tables.{absent_in, absent_row, cell, cell_in, is_name_among, names_of, places, places_below}
use Rattle.kql_meaning.specs.Values.{absent, same_key, same_keys}

pub inner : JoinInner
unfolding join_rows inner_rows pairs_of_left matches_right rows_match keys_match both_rows shown_row shown_columns cells_in cell cell_in absent_in absent places places_below same_key is_null
inner = refl

pub innerunique : JoinInnerUnique
unfolding join_rows inner_rows firsts_of_keys is_first_of_key left_key same_keys pairs_of_left matches_right rows_match keys_match both_rows shown_row shown_columns cells_in cell cell_in absent_in absent places places_below same_key is_null
innerunique = refl

pub leftouter : JoinLeftOuter
unfolding join_rows left_outer_rows left_alone or_one absent_row pairs_of_left matches_right rows_match keys_match both_rows shown_row shown_columns cells_in cell cell_in absent_in absent places places_below same_key is_null
leftouter = refl

pub rightouter : JoinRightOuter
unfolding join_rows right_outer_rows right_alone or_one absent_row pairs_of_right matches_left rows_match keys_match both_rows shown_row shown_columns cells_in cell cell_in absent_in absent places places_below same_key is_null
rightouter = refl

pub fullouter : JoinFullOuter
unfolding join_rows left_outer_rows left_alone right_alone unmatched_right_rows has_left or_one absent_row pairs_of_left matches_right rows_match keys_match both_rows shown_row shown_columns cells_in cell cell_in absent_in absent places places_below same_key is_null
fullouter = refl

pub semis : JoinSemis
unfolding join_rows has_left has_right rows_match keys_match cell cell_in absent_in absent places places_below same_key is_null
semis = (refl, refl)

pub antis : JoinAntis
unfolding join_rows has_left has_right rows_match keys_match cell cell_in absent_in absent places places_below same_key is_null
antis = (refl, refl)

pub columns : JoinColumns
unfolding join_columns both_columns renamed free_name numbered_names shown_columns digits names_of is_name_among first_free
columns = refl

pub lookup_columns : LookupColumns
unfolding join_columns both_columns renamed free_name numbered_names shown_columns digits names_of is_name_among first_free without
lookup_columns = refl

pub lookup_rows : LookupRows
unfolding join_rows inner_rows pairs_of_left matches_right rows_match keys_match both_rows shown_row shown_columns without is_name_among cells_in cell cell_in absent_in absent places places_below same_key is_null
lookup_rows = refl

pub ruleset join_examples = (inner, innerunique, leftouter, rightouter, fullouter, semis, antis, columns, lookup_columns, lookup_rows)
