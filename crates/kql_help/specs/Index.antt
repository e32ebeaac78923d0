-- Which words name which text.
use Rattle.std.specs.Prelude.{ℕ, List, [], ◌∷◌, ◌++◌, codes}
use Rattle.kql_help.specs.Topics.{Told, names_in}
use Rattle.kql_help.specs.declared.texts.overview.TheConstants as overview
use Rattle.kql_help.specs.declared.texts.shell.TheConstants as shell
use Rattle.kql_help.specs.declared.texts.queries.TheConstants as queries
use Rattle.kql_help.specs.declared.texts.operators.TheConstants as operators
use Rattle.kql_help.specs.declared.texts.functions.TheConstants as functions
use Rattle.kql_help.specs.declared.texts.values.TheConstants as values
use Rattle.kql_help.specs.declared.texts.rows.TheConstants as rows
use Rattle.kql_help.specs.declared.texts.word_codes.TheConstants as word_codes
use Rattle.kql_help.specs.declared.texts.query_codes.TheConstants as query_codes
use Rattle.kql_help.specs.declared.texts.name_codes.TheConstants as name_codes
use Rattle.kql_help.specs.declared.texts.file_codes.TheConstants as file_codes

-- which topics and codes there are
unfoldable pub of_overview : List Told
of_overview =
    (codes "overview" ∷ codes "help" ∷ [], overview.OVERVIEW.now) ∷
    (codes "codes" ∷ [], overview.CODES.now) ∷
    []

-- commands around the top call, and what a newcomer asks for
unfoldable pub of_shell : List Told
of_shell =
    (codes "-e" ∷ codes "-q" ∷ codes "command" ∷ [], shell.QUERY_WORDS.now) ∷
    (codes "show" ∷ codes "output" ∷ [], shell.SHOW.now) ∷
    (codes "schema" ∷ [], shell.SCHEMA.now) ∷
    (codes "types" ∷ [], shell.TYPES.now) ∷
    (codes "limits" ∷ [], shell.LIMITS.now) ∷
    (codes "catalogue" ∷ codes "--catalogue" ∷ [], shell.CATALOGUE.now) ∷
    (codes "json" ∷ codes "jsonl" ∷ [], shell.JSON.now) ∷
    (codes "csv" ∷ codes "header" ∷ [], shell.CSV.now) ∷
    (codes "examples" ∷ [], shell.EXAMPLES.now) ∷
    (codes "cookbook" ∷ codes "recipes" ∷ [], shell.COOKBOOK.now) ∷
    []

-- commands, queries, sources and tables
unfoldable pub of_queries : List Told
of_queries =
    (codes "run" ∷ [], queries.RUN.now) ∷
    (codes "plain" ∷ [], queries.PLAIN.now) ∷
    (codes "explain" ∷ [], queries.EXPLAIN.now) ∷
    (codes "trial" ∷ [], queries.TRIAL.now) ∷
    (codes "live" ∷ [], queries.LIVE.now) ∷
    (codes "query" ∷ [], queries.QUERY.now) ∷
    (codes "literals" ∷ codes "words" ∷ [], queries.LITERALS.now) ∷
    (codes "let" ∷ [], queries.LET.now) ∷
    (codes "range" ∷ [], queries.RANGE.now) ∷
    (codes "print" ∷ [], queries.PRINT.now) ∷
    (codes "union" ∷ [], queries.UNION.now) ∷
    (codes "columns" ∷ codes "names" ∷ [], queries.COLUMNS.now) ∷
    (codes "tables" ∷ [], queries.TABLES.now) ∷
    (codes "kusto" ∷ codes "iif" ∷ codes "notnull" ∷ codes "notempty" ∷ codes "int" ∷ codes "real" ∷ codes "double" ∷ codes "decimal" ∷ codes "guid" ∷ codes "toint" ∷ codes "toreal" ∷ codes "todouble" ∷ codes "todecimal" ∷ codes "toguid" ∷ codes "avg" ∷ codes "avgif" ∷ codes "dcount" ∷ codes "dcountif" ∷ codes "percentile" ∷ codes "percentiles" ∷ codes "stdev" ∷ codes "stdevif" ∷ codes "variance" ∷ codes "varianceif" ∷ codes "hll" ∷ codes "tdigest" ∷ codes "sqrt" ∷ codes "pow" ∷ codes "exp" ∷ codes "log" ∷ codes "log10" ∷ codes "round" ∷ codes "rand" ∷ codes "series_stats" ∷ codes "any" ∷ codes "makelist" ∷ codes "makeset" ∷ codes "pack" ∷ codes "extract_all" ∷ codes "replace_regex" ∷ codes "has_any" ∷ codes "has_all" ∷ codes "hasprefix" ∷ codes "hassuffix" ∷ codes "trim" ∷ codes "countof" ∷ codes "format_datetime" ∷ codes "toscalar" ∷ codes "materialize" ∷ codes "as" ∷ codes "datatable" ∷ codes "externaldata" ∷ codes "search" ∷ codes "find" ∷ codes "filter" ∷ codes "sample" ∷ codes "mv-apply" ∷ codes "mvexpand" ∷ codes "project-reorder" ∷ codes "parse-where" ∷ codes "render" ∷ codes "evaluate" ∷ codes "invoke" ∷ codes "facet" ∷ codes "fork" ∷ codes "reduce" ∷ codes "getschema" ∷ codes "consume" ∷ codes "top-nested" ∷ codes "top-hitters" ∷ codes "row_rank_min" ∷ codes "row_rank_dense" ∷ codes "row_window_session" ∷ codes "extract_json" ∷ codes "leftantisemi" ∷ codes "anti" ∷ codes "pivot" ∷ codes "bag_unpack" ∷ codes "database" ∷ codes "sample-distinct" ∷ [], queries.KUSTO.now) ∷
    []

-- the operators of tables
unfoldable pub of_operators : List Told
of_operators =
    (codes "where" ∷ [], operators.WHERE.now) ∷
    (codes "extend" ∷ [], operators.EXTEND.now) ∷
    (codes "project" ∷ [], operators.PROJECT.now) ∷
    (codes "project-away" ∷ [], operators.PROJECT_AWAY.now) ∷
    (codes "project-keep" ∷ [], operators.PROJECT_KEEP.now) ∷
    (codes "project-rename" ∷ [], operators.PROJECT_RENAME.now) ∷
    (codes "take" ∷ codes "limit" ∷ [], operators.TAKE.now) ∷
    (codes "count" ∷ [], operators.COUNT.now) ∷
    (codes "sort" ∷ codes "order" ∷ [], operators.SORT.now) ∷
    (codes "top" ∷ [], operators.TOP.now) ∷
    (codes "distinct" ∷ [], operators.DISTINCT.now) ∷
    (codes "summarize" ∷ [], operators.SUMMARIZE.now) ∷
    (codes "make-series" ∷ [], operators.MAKE_SERIES.now) ∷
    (codes "mv-expand" ∷ [], operators.MV_EXPAND.now) ∷
    (codes "parse" ∷ [], operators.PARSE.now) ∷
    (codes "join" ∷ [], operators.JOIN.now) ∷
    (codes "lookup" ∷ [], operators.LOOKUP.now) ∷
    (codes "serialize" ∷ [], operators.SERIALIZE.now) ∷
    (codes "scan" ∷ [], operators.SCAN.now) ∷
    (codes "partition" ∷ [], operators.PARTITION.now) ∷
    []

-- the functions of values
unfoldable pub of_functions : List Told
of_functions =
    (codes "functions" ∷ [], functions.FUNCTIONS.now) ∷
    (codes "nulls" ∷ codes "not" ∷ codes "isnull" ∷ codes "isnotnull" ∷ codes "isempty" ∷ codes "isnotempty" ∷ codes "iff" ∷ codes "case" ∷ codes "coalesce" ∷ codes "min_of" ∷ codes "max_of" ∷ [], functions.NULLS.now) ∷
    (codes "numbers" ∷ codes "abs" ∷ codes "sign" ∷ codes "bin" ∷ codes "floor" ∷ codes "bin_at" ∷ codes "binary_and" ∷ codes "binary_or" ∷ codes "binary_xor" ∷ codes "binary_not" ∷ [], functions.NUMBERS.now) ∷
    (codes "conversions" ∷ codes "tolong" ∷ codes "tostring" ∷ codes "tobool" ∷ codes "todatetime" ∷ codes "totimespan" ∷ [], functions.CONVERSIONS.now) ∷
    (codes "strings" ∷ codes "strlen" ∷ codes "substring" ∷ codes "indexof" ∷ codes "toupper" ∷ codes "tolower" ∷ codes "reverse" ∷ codes "strcat" ∷ codes "strcat_delim" ∷ codes "replace_string" ∷ codes "split" ∷ codes "strcmp" ∷ [], functions.STRINGS.now) ∷
    []

-- signs, searches and the larger families of functions
unfoldable pub of_values : List Told
of_values =
    (codes "operators" ∷ codes "and" ∷ codes "or" ∷ codes "in" ∷ codes "in~" ∷ codes "between" ∷ codes "==" ∷ codes "!=" ∷ codes "<" ∷ codes "<=" ∷ codes ">" ∷ codes ">=" ∷ codes "=~" ∷ codes "!~" ∷ codes "+" ∷ codes "-" ∷ codes "*" ∷ codes "/" ∷ codes "%" ∷ codes "!in" ∷ codes "!in~" ∷ codes "!between" ∷ [], values.OPERATORS.now) ∷
    (codes "searches" ∷ codes "contains" ∷ codes "contains_cs" ∷ codes "startswith" ∷ codes "startswith_cs" ∷ codes "endswith" ∷ codes "endswith_cs" ∷ codes "has" ∷ codes "has_cs" ∷ codes "!contains" ∷ codes "!contains_cs" ∷ codes "!startswith" ∷ codes "!startswith_cs" ∷ codes "!endswith" ∷ codes "!endswith_cs" ∷ codes "!has" ∷ codes "!has_cs" ∷ [], values.SEARCHES.now) ∷
    (codes "patterns" ∷ codes "matches" ∷ codes "regex" ∷ codes "extract" ∷ [], values.PATTERNS.now) ∷
    (codes "datetimes" ∷ codes "now" ∷ codes "ago" ∷ codes "startofday" ∷ codes "startofweek" ∷ codes "startofmonth" ∷ codes "startofyear" ∷ codes "endofday" ∷ codes "endofweek" ∷ codes "endofmonth" ∷ codes "endofyear" ∷ codes "dayofweek" ∷ codes "dayofmonth" ∷ codes "dayofyear" ∷ codes "getyear" ∷ codes "getmonth" ∷ codes "monthofyear" ∷ codes "hourofday" ∷ codes "datetime_add" ∷ codes "datetime_diff" ∷ codes "datetime_part" ∷ codes "make_datetime" ∷ codes "unixtime_seconds_todatetime" ∷ codes "unixtime_milliseconds_todatetime" ∷ [], values.DATETIMES.now) ∷
    (codes "dynamic" ∷ codes "parse_json" ∷ codes "todynamic" ∷ codes "array_length" ∷ codes "array_concat" ∷ codes "array_slice" ∷ codes "array_reverse" ∷ codes "array_index_of" ∷ codes "bag_keys" ∷ codes "bag_has_key" ∷ codes "bag_merge" ∷ codes "pack_array" ∷ codes "bag_pack" ∷ codes "set_union" ∷ codes "set_intersect" ∷ codes "set_difference" ∷ codes "set_has_element" ∷ [], values.DYNAMIC.now) ∷
    []

-- functions over several rows
unfoldable pub of_rows : List Told
of_rows =
    (codes "window" ∷ codes "prev" ∷ codes "next" ∷ codes "row_cumsum" ∷ codes "row_number" ∷ [], rows.WINDOW.now) ∷
    (codes "aggregates" ∷ codes "countif" ∷ codes "count_distinct" ∷ codes "count_distinctif" ∷ codes "sum" ∷ codes "sumif" ∷ codes "min" ∷ codes "minif" ∷ codes "max" ∷ codes "maxif" ∷ codes "make_list" ∷ codes "make_list_if" ∷ codes "make_set" ∷ codes "make_set_if" ∷ codes "arg_max" ∷ codes "arg_min" ∷ codes "take_any" ∷ codes "binary_all_and" ∷ codes "binary_all_or" ∷ codes "binary_all_xor" ∷ [], rows.AGGREGATES.now) ∷
    []

-- the codes of the words of the command
unfoldable pub of_word_codes : List Told
of_word_codes =
    (codes "601" ∷ [], word_codes.NO_COMMAND.now) ∷
    (codes "602" ∷ [], word_codes.UNKNOWN_COMMAND.now) ∷
    (codes "603" ∷ [], word_codes.UNKNOWN_OPTION.now) ∷
    (codes "604" ∷ [], word_codes.OPTION_TWICE.now) ∷
    (codes "605" ∷ [], word_codes.OPTION_VALUE.now) ∷
    (codes "606" ∷ [], word_codes.NO_QUERY.now) ∷
    (codes "607" ∷ [], word_codes.BAD_TABLE.now) ∷
    (codes "608" ∷ [], word_codes.TABLE_TWICE.now) ∷
    (codes "609" ∷ [], word_codes.BAD_COUNT.now) ∷
    (codes "610" ∷ [], word_codes.TOO_MANY_TABLES.now) ∷
    (codes "611" ∷ [], word_codes.EMPTY_PATH.now) ∷
    (codes "612" ∷ [], word_codes.NO_TABLE.now) ∷
    []

-- the codes of a query that is refused for its text
unfoldable pub of_query_codes : List Told
of_query_codes =
    (codes "101" ∷ [], query_codes.BAD_CHARACTER.now) ∷
    (codes "102" ∷ [], query_codes.OPEN_TEXT.now) ∷
    (codes "103" ∷ [], query_codes.BAD_NUMBER.now) ∷
    (codes "104" ∷ [], query_codes.TEXT_TOO_LONG.now) ∷
    (codes "105" ∷ [], query_codes.TOO_MANY_TOKENS.now) ∷
    (codes "201" ∷ [], query_codes.UNEXPECTED.now) ∷
    (codes "202" ∷ [], query_codes.TOO_DEEP.now) ∷
    (codes "203" ∷ [], query_codes.TOO_MANY_OPERATORS.now) ∷
    []

-- the codes of a query that is refused for its names and types
unfoldable pub of_name_codes : List Told
of_name_codes =
    (codes "401" ∷ [], name_codes.UNKNOWN_COLUMN.now) ∷
    (codes "402" ∷ [], name_codes.UNKNOWN_FUNCTION.now) ∷
    (codes "403" ∷ [], name_codes.WRONG_ARGUMENTS.now) ∷
    (codes "404" ∷ [], name_codes.WRONG_TYPE.now) ∷
    (codes "405" ∷ [], name_codes.UNSUPPORTED_TYPE.now) ∷
    (codes "406" ∷ [], name_codes.UNSUPPORTED_FUNCTION.now) ∷
    (codes "407" ∷ [], name_codes.NOT_SERIALISED.now) ∷
    (codes "408" ∷ [], name_codes.WINDOW_HERE.now) ∷
    (codes "409" ∷ [], name_codes.NO_MOMENT.now) ∷
    (codes "410" ∷ [], name_codes.UNKNOWN_TABLE.now) ∷
    (codes "411" ∷ [], name_codes.COLUMN_TWICE.now) ∷
    (codes "412" ∷ [], name_codes.TOO_MANY_COLUMNS.now) ∷
    (codes "413" ∷ [], name_codes.BAD_STEP.now) ∷
    (codes "414" ∷ [], name_codes.BAD_RANGE.now) ∷
    (codes "415" ∷ [], name_codes.TYPE_CLASH.now) ∷
    (codes "416" ∷ [], name_codes.NOT_IN_PARTITION.now) ∷
    (codes "417" ∷ [], name_codes.NAME_TWICE.now) ∷
    (codes "418" ∷ [], name_codes.BAD_LITERAL.now) ∷
    (codes "419" ∷ [], name_codes.NO_COLUMNS.now) ∷
    (codes "420" ∷ [], name_codes.PATTERN_HERE.now) ∷
    (codes "421" ∷ [], name_codes.NOT_A_VIEW.now) ∷
    (codes "501" ∷ [], name_codes.BAD_PATTERN.now) ∷
    []

-- the codes of files
unfoldable pub of_file_codes : List Told
of_file_codes =
    (codes "301" ∷ [], file_codes.NOT_UTF8.now) ∷
    (codes "302" ∷ [], file_codes.NO_HEADER.now) ∷
    (codes "303" ∷ [], file_codes.BAD_COLUMN.now) ∷
    (codes "304" ∷ [], file_codes.COLUMN_TWICE.now) ∷
    (codes "305" ∷ [], file_codes.BAD_LENGTH.now) ∷
    (codes "306" ∷ [], file_codes.BAD_CELL.now) ∷
    (codes "307" ∷ [], file_codes.NO_FILE.now) ∷
    (codes "308" ∷ [], file_codes.TOO_LONG.now) ∷
    (codes "309" ∷ [], file_codes.NOT_JSON.now) ∷
    (codes "310" ∷ [], file_codes.BAD_CATALOGUE.now) ∷
    (codes "311" ∷ [], file_codes.BAD_TABLE_NAME.now) ∷
    (codes "312" ∷ [], file_codes.HEADER_DIFFERS.now) ∷
    (codes "313" ∷ [], file_codes.TOO_MANY_FILES.now) ∷
    (codes "314" ∷ [], file_codes.CATALOGUE_TOO_LONG.now) ∷
    (codes "315" ∷ [], file_codes.SCHEMA_DIFFERS.now) ∷
    []

-- all topics
unfoldable pub topics : List Told
topics = of_overview ++ of_shell ++ of_queries ++ of_operators ++ of_functions ++ of_values ++ of_rows ++ of_word_codes ++ of_query_codes ++ of_name_codes ++ of_file_codes

-- the names of all topics but the codes
unfoldable pub named : List (List ℕ)
named = names_in of_overview ++ names_in of_shell ++ names_in of_queries ++ names_in of_operators ++ names_in of_functions ++ names_in of_values ++ names_in of_rows
