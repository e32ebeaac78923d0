use Rattle.std.proofs.Common.{◌≡◌, ◌++◌, take}
use Rattle.std.specs.List.{flat_map}
use Rattle.pattern_run.specs.Patterned.{names_in, names_of_schema}
use Rattle.pattern_run.proofs.names.marks_for.Given as goal

abbrev pub invariant-loop-schema : goal.invariant-loop-schema
invariant-loop-schema l = l.names ≡ names_in l.tokens ++ flat_map names_of_schema (take l.schema-index l.schemas)
