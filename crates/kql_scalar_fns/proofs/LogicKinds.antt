-- What operators on bools give is of the type that their rows say.
use Rattle.std.proofs.Common.{List, [], ◌∷◌}
use Rattle.kql_cells.specs.declared.value.Kind.{Kind}
use Rattle.kql_cells.specs.declared.value.Kind.TheVariants as kind
use Rattle.kql_cells.specs.declared.value.Value.{Value}
use Rattle.kql_functions.specs.declared.func.LogicFunc.{LogicFunc}
use Rattle.kql_functions.specs.declared.func.LogicFunc.TheVariants as func
use Rattle.kql_functions.specs.Kinds.{logic_kind}
use Rattle.kql_scalar_fns.specs.Logic.{logic}
use Rattle.kql_scalar_fns.proofs.KindLaws.{Gives, bool-kind, row-any}
use Rattle.kql_scalar_fns.proofs.ShapeKinds.{several_of-any}

pub logic_gives : (f : LogicFunc) (ks : List Kind) (vs : List Value) → Gives (logic_kind f ks) (logic f vs)
unfolding logic logic_kind
logic_gives func.And ks vs = several_of-any 2 kind.Bool kind.Bool ks _ (bool-kind _)
logic_gives func.Or ks vs = several_of-any 2 kind.Bool kind.Bool ks _ (bool-kind _)
logic_gives func.Not ks vs = row-any ks (kind.Bool ∷ []) kind.Bool _ (bool-kind _)
