-- What operators and statements over two small tables are bound to, computed.
use Rattle.std.proofs.Common.{refl}
use Rattle.std.specs.Fmt.{digits}
use Rattle.kql_meaning.specs.Expressions.{column_kind}
use Rattle.kql_meaning.specs.Fits.{table_columns}
use Rattle.kql_meaning.specs.FittingExpressions.{has_kind, is_count_literal, is_count_value, is_key, is_kind, same_known}
use Rattle.kql_meaning.specs.FittingOperators.{are_distinct, ends_fit, has_at_most, is_empty, is_given, is_of_type_in, is_step_of, pair_fits, range_fits}
use Rattle.kql_meaning.specs.Items.{items_columns, without}
use Rattle.kql_meaning.specs.Join.{both_columns, first_free, free_name, join_columns, numbered_names, renamed, shown_columns}
use Rattle.kql_meaning.specs.Literals.{is_of_kind, is_well_formed, literal_fits}
use Rattle.kql_meaning.specs.Numbers.{added, count_of_terms}
use Rattle.kql_meaning.specs.Sources.{number_in, range_columns}
use Rattle.kql_meaning.specs.Tables.{distinct_by, has_column, is_name_among, names_of}
use Rattle.kql_meaning.specs.TakeAndCount.{count_columns}
use Rattle.kql_meaning.specs.Union.{all_in_order, same_name, union_columns}
use Rattle.kql_meaning.specs.Values.{number_of}
use Rattle.bind_expr.specs.Names.{text_of}
use Rattle.bind_operators.specs.Answers.{answer, made, over, width_faults}
use Rattle.bind_operators.specs.Faults.{each_bound, fault_if, unless}
use Rattle.bind_operators.specs.Items.{clash, column_as, names_twice, twice}
use Rattle.bind_query.specs.Join.{join_bound, join_plan, joined, key_bound, key_clashes, key_place, kind_of_join, pair_wanted}
use Rattle.bind_operators.specs.Known.{column_wanted, columns_handed_in, is_constant_name, let_numbered, serial_rows_of, table_bound, table_named, table_rows}
use Rattle.bind_query.specs.Lets.{is_let_name, let_faults}
use Rattle.bind_query.specs.Partition.{partition_bound, partitioned}
use Rattle.bind_query.specs.Pipes.{next_op, no_ops, ops_over}
use Rattle.bind_operators.specs.Places.{name_place}
use Rattle.bind_operators.specs.Project.{chosen, columns_wanted, project_answer, project_away_bound, project_keep_bound, project_rename_bound, rename_faults, renamed_columns}
use Rattle.bind_query.specs.Scan.{assignment_faults, new_names, scan_faults, step_faults, step_name_faults}
use Rattle.bind_operators.specs.Sources.{ranged}
use Rattle.bind_groups.specs.Summarize.{distinct_answer, distinct_bound, distinct_column, key_column}
use Rattle.bind_operators.specs.TakeAndCount.{counted, taken}
use Rattle.bind_query.specs.Union.{table_clashes, tables_bound, union_bound, united}
use Rattle.bind_operators.specs.Wanted.{count_in, is_no_count}
use Rattle.bind_query_examples.specs.Examples.{Assignments, AwayWithAll, ConstantIsNoTable, DistinctStarOfDynamic, DistinctTwice, JoinInside, JoinOfFault, JoinOnConstant, JoinOnDynamic, JoinOnKey, JoinOnMissing, JoinOnTwoTypes, KeepMissing, LetTwice, NamesTwice, NoTable, PartitionCounts, PartitionInside, RangeStands, RangeTooLong, RenameOnto, RenameTwice, ScanFaults, SixtyFiveSteps, SixtyFourSteps, TableStands, TakeNegative, TakeNull, TakeThree, UnionOfNothing, UnionOfTwoTypes}

-- Tables.

pub table_stands : TableStands
unfolding table_bound table_named let_numbered columns_handed_in is_constant_name table_columns table_rows text_of name_place
table_stands = refl

pub no_table : NoTable
unfolding table_bound table_named let_numbered columns_handed_in is_constant_name table_columns table_rows text_of name_place
no_table = refl

pub constant_is_no_table : ConstantIsNoTable
unfolding table_bound table_named let_numbered columns_handed_in is_constant_name table_columns table_rows text_of name_place
constant_is_no_table = refl

pub ruleset table_examples = (table_stands, no_table, constant_is_no_table)

-- Joins.

pub join_on_key : JoinOnKey
unfolding join_bound each_bound key_bound column_wanted is_constant_name text_of name_place pair_wanted unless fault_if joined answer width_faults made key_clashes key_place pair_fits same_known is_kind has_kind is_key column_kind join_plan kind_of_join join_columns both_columns renamed free_name first_free numbered_names digits shown_columns names_of is_name_among is_empty
join_on_key = refl

pub join_on_missing : JoinOnMissing
unfolding join_bound each_bound key_bound column_wanted is_constant_name text_of name_place
join_on_missing = refl

pub join_on_constant : JoinOnConstant
unfolding join_bound each_bound key_bound column_wanted is_constant_name text_of name_place
join_on_constant = refl

pub join_on_two_types : JoinOnTwoTypes
unfolding join_bound each_bound key_bound column_wanted is_constant_name text_of name_place pair_wanted unless fault_if joined answer width_faults made key_clashes key_place pair_fits same_known is_kind has_kind is_key column_kind join_plan kind_of_join join_columns both_columns renamed free_name first_free numbered_names shown_columns names_of is_name_among is_empty
join_on_two_types = refl

pub join_on_dynamic : JoinOnDynamic
unfolding join_bound each_bound key_bound column_wanted is_constant_name text_of name_place pair_wanted unless fault_if
join_on_dynamic = refl

pub join_inside : JoinInside
unfolding join_bound each_bound key_bound column_wanted is_constant_name text_of name_place pair_wanted unless fault_if joined answer width_faults made key_clashes key_place pair_fits same_known is_kind has_kind is_key column_kind join_plan kind_of_join join_columns both_columns renamed free_name first_free numbered_names shown_columns names_of is_name_among is_empty
join_inside = refl

pub join_of_fault : JoinOfFault
unfolding join_bound
join_of_fault = refl

pub ruleset join_examples = (join_on_key, join_on_missing, join_on_constant, join_on_two_types, join_on_dynamic, join_inside, join_of_fault)

-- Unions.

pub union_of_two_types : UnionOfTwoTypes
unfolding union_bound tables_bound each_bound united table_clashes is_of_type_in has_column is_name_among names_of is_kind has_kind column_kind union_columns distinct_by same_name all_in_order answer width_faults made unless fault_if is_empty
union_of_two_types = refl

pub union_of_nothing : UnionOfNothing
unfolding union_bound tables_bound each_bound united table_clashes is_of_type_in has_column is_name_among names_of is_kind has_kind column_kind union_columns distinct_by same_name all_in_order answer width_faults made unless fault_if is_empty
union_of_nothing = refl

pub ruleset union_examples = (union_of_two_types, union_of_nothing)

-- Partitions.

pub partition_counts : PartitionCounts
unfolding partition_bound distinct_column column_wanted is_constant_name text_of name_place key_column unless fault_if ops_over next_op no_ops counted made partitioned count_columns
partition_counts = refl

pub partition_inside : PartitionInside
unfolding partition_bound distinct_column column_wanted is_constant_name text_of name_place key_column unless fault_if ops_over next_op no_ops counted made partitioned count_columns
partition_inside = refl

pub ruleset partition_examples = (partition_counts, partition_inside)

-- Columns.

pub away_with_all : AwayWithAll
unfolding project_away_bound columns_wanted each_bound column_wanted is_constant_name text_of name_place without is_name_among names_of chosen project_answer column_as answer width_faults made unless fault_if is_empty items_columns
away_with_all = refl

pub keep_missing : KeepMissing
unfolding project_keep_bound columns_wanted each_bound column_wanted is_constant_name text_of name_place
keep_missing = refl

pub rename_twice : RenameTwice
unfolding project_rename_bound columns_wanted each_bound column_wanted is_constant_name text_of name_place renamed_columns rename_faults without is_name_among names_of project_answer answer unless fault_if
rename_twice = refl

pub rename_onto : RenameOnto
unfolding project_rename_bound columns_wanted each_bound column_wanted is_constant_name text_of name_place renamed_columns rename_faults without is_name_among names_of project_answer answer unless fault_if
rename_onto = refl

pub distinct_twice : DistinctTwice
unfolding distinct_bound distinct_column each_bound column_wanted is_constant_name text_of name_place key_column unless fault_if distinct_answer names_twice twice clash are_distinct is_name_among answer
distinct_twice = refl

pub distinct_star_of_dynamic : DistinctStarOfDynamic
unfolding distinct_bound each_bound key_column unless fault_if
distinct_star_of_dynamic = refl

pub ruleset column_examples = (away_with_all, keep_missing, rename_twice, rename_onto, distinct_twice, distinct_star_of_dynamic)

-- Counts and ranges.

pub take_three : TakeThree
unfolding taken is_no_count is_count_literal is_count_value count_in number_in number_of added over unless fault_if
take_three = refl

pub take_null : TakeNull
unfolding taken is_no_count is_count_literal is_count_value unless fault_if
take_null = refl

pub take_negative : TakeNegative
unfolding taken is_no_count is_count_literal is_count_value unless fault_if
take_negative = refl

pub range_stands : RangeStands
unfolding ranged range_fits ends_fit is_given literal_fits is_of_kind is_well_formed number_of is_step_of has_at_most number_in added count_of_terms unless fault_if serial_rows_of range_columns
range_stands = refl

pub range_too_long : RangeTooLong
unfolding ranged range_fits ends_fit is_given literal_fits is_of_kind is_well_formed number_of is_step_of has_at_most number_in added count_of_terms unless fault_if serial_rows_of range_columns
range_too_long = refl

pub ruleset count_examples = (take_three, take_null, take_negative, range_stands, range_too_long)

-- Steps and names.

pub scan_has_faults : ScanFaults
unfolding scan_faults fault_if names_twice new_names twice clash are_distinct is_name_among names_of text_of name_place step_name_faults step_faults assignment_faults
scan_has_faults e = refl

pub sixty_four_steps : SixtyFourSteps
unfolding step_faults fault_if assignment_faults
sixty_four_steps e = refl

pub sixty_five_steps : SixtyFiveSteps
unfolding step_faults fault_if assignment_faults name_place
sixty_five_steps e = refl

pub assignments : Assignments
unfolding assignment_faults fault_if is_name_among text_of name_place
assignments e = refl

pub names_stand_twice : NamesTwice
unfolding names_twice twice clash are_distinct is_name_among fault_if text_of name_place
names_stand_twice = refl

pub let_twice : LetTwice
unfolding let_faults is_let_name let_numbered is_constant_name fault_if text_of name_place
let_twice = refl

pub ruleset step_examples = (scan_has_faults, sixty_four_steps, sixty_five_steps, assignments, names_stand_twice, let_twice)
