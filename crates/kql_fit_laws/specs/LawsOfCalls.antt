-- What calls of scalar functions give.
use Rattle.std.specs.Prelude.{◌≡◌, List, Some}
use Rattle.kql_cells.specs.Values.{IsOfKind, IsWellFormed}
use Rattle.kql_cells.specs.declared.value.Kind.{Kind}
use Rattle.kql_cells.specs.declared.value.Value.{Value}
use Rattle.kql_functions.specs.Kinds.{AreOfKinds, result_kind}
use Rattle.kql_functions.specs.declared.func.Func.{Func}
use Rattle.kql_scalar_fns.specs.Applied.{applied}
use Rattle.kql_scalar_fns.specs.Arguments.{AreWellFormed}

-- What a column of a type asks of a value: it is of the type, or null, and well formed.
abbrev pub FitsKind : Kind → Value → Type 0
FitsKind k v = IsOfKind k v × IsWellFormed v

-- A function that takes arguments of these types gives a value that fits the type that it has for them.
abbrev pub CallKeeps : Type 0
CallKeeps = (f : Func) (kinds : List Kind) (args : List Value) (k : Kind) → AreOfKinds kinds args → AreWellFormed args → result_kind f kinds ≡ Some k → FitsKind k (applied f args)
