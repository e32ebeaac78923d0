use Rattle.std.proofs.Common.{◌≡◌, rules}
use Rattle.kql_dynamic.specs.Parts.{at_name}
use Rattle.kql_dynamic.proofs.PartLaws.{at_name-form}
use Rattle.kql_dynamic.proofs.parts.at_name.Goals as goal

pub returns-in_ok-clone_dyn-in-Some-entry_at-clause-form :
    goal.returns-in_ok-clone_dyn-in-Some-entry_at-clause-form
returns-in_ok-clone_dyn-in-Some-entry_at-clause-form c =
    let e : c.value_of.result ≡ at_name c.args.d.now c.args.n.now = search rules in
    rw e (at_name-form c.args.d.now c.args.n.now c.requires)
