-- What each function and operator gives: a total function of its arguments, null in each undefined case.
use Rattle.std.specs.Prelude.{ℕ, List, [], Option, None, Some}
use Rattle.kql_cells.specs.declared.value.Value.{Value}
use Rattle.kql_cells.specs.declared.value.Value.TheVariants as value
use Rattle.kql_functions.specs.declared.func.Func.{Func}
use Rattle.kql_functions.specs.declared.func.Func.TheVariants as func
use Rattle.kql_scalar_fns.specs.Arithmetic.{arithmetic}
use Rattle.kql_scalar_fns.specs.Choice.{choice}
use Rattle.kql_scalar_fns.specs.Comparison.{comparison}
use Rattle.kql_scalar_fns.specs.Conversion.{conversion}
use Rattle.kql_scalar_fns.specs.Dynamic.{dynamic_call}
use Rattle.kql_scalar_fns.specs.Logic.{logic}
use Rattle.kql_scalar_fns.specs.Search.{search_call}
use Rattle.kql_scalar_fns.specs.Text.{text_call}
use Rattle.kql_scalar_fns.specs.Time.{time_call}

-- What a call of a pattern gives where no made pattern is at hand: null, or the empty text. A pattern call's value is what is told
-- by who made the pattern; a program that is run holds no such call, but reads columns of answers.
abbrev pub untold : Option ℕ → Value
untold None = value.Null
untold (Some n) = value.Text []

unfoldable pub applied : Func → List Value → Value
applied (func.Arithmetic f) args = arithmetic f args
applied (func.Comparison f) args = comparison f args
applied (func.Search f) args = search_call f args
applied (func.Logic f) args = logic f args
applied (func.Choice f) args = choice f args
applied (func.Conversion f) args = conversion f args
applied (func.Text f) args = text_call f args
applied (func.Time f) args = time_call f args
applied (func.Dynamic f) args = dynamic_call f args
applied (func.Pattern f) args = untold f.group
