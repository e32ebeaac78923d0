use Rattle.std.proofs.Common.{◌≡◌, List}
use Rattle.kql_cells.specs.declared.schema.Column.{Column}
use Rattle.kql_meaning.specs.Fits.{known_of}
use Rattle.plan_push.specs.Walk.{Begun}
use Rattle.plan_push.proofs.PlaceSteps.{Finding}
use Rattle.plan_push.proofs.walk.find_columns.Given as goal

abbrev pub invariant-loop-i : goal.invariant-loop-i
invariant-loop-i l = (cs : List Column) → Begun (known_of l.tables l.lets) cs l.fn.before l.passed → Finding (known_of l.tables l.lets) cs l.before l.passed l.i
