-- Types of the parts of binding that are not exported, by values of them.
use Rattle.kql_cells.specs.declared.value.Kind.TheVariants as kind
use Rattle.kql_cells.specs.declared.value.Value.TheVariants as value
use Rattle.kql_meaning.specs.declared.position.Position.TheVariants as position
use Rattle.bind_expr.specs.Arguments.{no_args, plain_slot}
use Rattle.bind_expr.specs.Bound.{inside}
use Rattle.bind_expr.specs.Chains.{chained_from}
use Rattle.bind_expr.specs.KindTests.{meets}
use Rattle.bind_expr.specs.Literals.{literal_of}
use Rattle.bind_expr.specs.Logic.{joined_from}
use Rattle.bind_expr.specs.Paths.{looked_from}

abbrev type_of : {A : Type 0} → A → Type 0
type_of {A = A} x = A

abbrev taken_by : {A B : Type 0} → (A → B) → Type 0
taken_by {A = A} f = A

-- Where a part stands.
abbrev pub Spot : Type 0
Spot = type_of (inside position.Plain)

-- The arguments of a call, and what one may be.
abbrev pub Args : Type 0
Args = type_of no_args

abbrev pub Slot : Type 0
Slot = type_of (plain_slot position.Plain)

-- A chain, terms and a path so far.
abbrev pub Chained : Type 0
Chained = type_of (chained_from (literal_of kind.Long value.Null))

abbrev pub Joined : Type 0
Joined = type_of (joined_from (literal_of kind.Long value.Null))

abbrev pub Looked : Type 0
Looked = type_of (looked_from (literal_of kind.Long value.Null))

-- What is asked of a type.
abbrev pub KindTest : Type 0
KindTest = taken_by meets
