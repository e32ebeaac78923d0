use Rattle.std.proofs.Common.{◌≡◌, rules}
use Rattle.kql_dynamic.specs.Parts.{at_index}
use Rattle.kql_dynamic.proofs.PartLaws.{at_index-form}
use Rattle.kql_dynamic.proofs.parts.at_index.Goals as goal

pub returns-in_ok-clone_dyn-in-Some-element_at-clause-form :
    goal.returns-in_ok-clone_dyn-in-Some-element_at-clause-form
returns-in_ok-clone_dyn-in-Some-element_at-clause-form c =
    let e : c.value_of.result ≡ at_index c.args.d.now c.args.i = search rules in
    rw e (at_index-form c.args.d.now c.args.i c.requires)
