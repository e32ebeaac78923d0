use Rattle.std.proofs.Common.{◌≡◌, map, arith}
use Rattle.std.proofs.lemmas.Grind.{common_steps}
use Rattle.kql_dynamic.specs.Json.{entry_of}
use Rattle.kql_dynamic.proofs.JsonFormLaws.{ascends-ordered}
use Rattle.kql_dynamic.proofs.json.+dyn_of.Goals as goal

pub entries_of-returns-clause-ascend : goal.entries_of-returns-clause-ascend
entries_of-returns-clause-ascend t c =
    let e : c.loop-key.entries ≡ map entry_of c.args.members.now.entries = grind (arith, common_steps) in
    rw e (ascends-ordered c.args.members.now.entries c.len.ensures.ordered)
