-- The functions that the signs of a chain stand for.
use Rattle.kql_functions.specs.declared.func.ArithmeticFunc.TheVariants as arithmetic
use Rattle.kql_functions.specs.declared.func.Func.{Func}
use Rattle.kql_functions.specs.declared.func.Func.TheVariants as func
use Rattle.kql_bound.specs.declared.expr.ChainSign.{ChainSign}
use Rattle.kql_bound.specs.declared.expr.ChainSign.TheVariants as sign

-- the function that a sign of a chain stands for
unfoldable pub sign_func : ChainSign → Func
sign_func sign.Add = func.Arithmetic arithmetic.Add
sign_func sign.Subtract = func.Arithmetic arithmetic.Subtract
sign_func sign.Multiply = func.Arithmetic arithmetic.Multiply
sign_func sign.Divide = func.Arithmetic arithmetic.Divide
sign_func sign.Modulo = func.Arithmetic arithmetic.Modulo
