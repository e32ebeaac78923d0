-- Three-valued logic: a null is what is not known.
use Rattle.std.specs.Prelude.{Bool, true, false, not, List, fold, Option, None, Some, option_map}
use Rattle.kql_cells.specs.declared.value.Value.{Value}
use Rattle.kql_cells.specs.declared.value.Value.TheVariants as value
use Rattle.kql_functions.specs.declared.func.LogicFunc.{LogicFunc}
use Rattle.kql_functions.specs.declared.func.LogicFunc.TheVariants as func
use Rattle.kql_scalar_fns.specs.Arguments.{argument, bool_or_null}

-- the bool that a value holds, if it holds one
unfoldable pub truth : Value → Option Bool
truth (value.Bool b) = Some b
truth _ = None

-- false where one is false, else not known where one is not known
abbrev pub both : Option Bool → Option Bool → Option Bool
both (Some true) q = q
both (Some false) q = Some false
both None (Some false) = Some false
both None _ = None

-- true where one is true, else not known where one is not known
abbrev pub either : Option Bool → Option Bool → Option Bool
either (Some false) q = q
either (Some true) q = Some true
either None (Some true) = Some true
either None _ = None

abbrev pub opposite : Option Bool → Option Bool
opposite o = option_map not o

-- not known counts as not true
abbrev pub is_true : Option Bool → Bool
is_true (Some b) = b
is_true None = false

-- a and b and so on
abbrev pub both_known : Option Bool → Value → Option Bool
both_known known v = both known (truth v)

unfoldable pub conjunction : List Value → Option Bool
conjunction vs = fold both_known (Some true) vs

-- a or b or so on
abbrev pub either_known : Option Bool → Value → Option Bool
either_known known v = either known (truth v)

unfoldable pub disjunction : List Value → Option Bool
disjunction vs = fold either_known (Some false) vs

-- what each operator gives
unfoldable pub logic : LogicFunc → List Value → Value
logic func.And args = bool_or_null (conjunction args)
logic func.Or args = bool_or_null (disjunction args)
logic func.Not args = bool_or_null (opposite (truth (argument args 0)))
