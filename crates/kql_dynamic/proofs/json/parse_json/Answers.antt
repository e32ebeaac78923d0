use Rattle.kql_dynamic.proofs.FormLaws.{text-form}
use Rattle.kql_dynamic.proofs.ReadBack.{read-form}
use Rattle.kql_dynamic.proofs.json.parse_json.Goals as goal

pub returns-in_ok-dyn_of-in-Some-clause-form :
    goal.returns-in_ok-dyn_of-in-Some-clause-form
returns-in_ok-dyn_of-in-Some-clause-form c =
    let nests = rw c.in-Some.is at c.in_ok-json.ensures.nests in
    rw c.value_of.ensures (read-form c.in-Some.json _ c.in_ok-dyn_of-in-Some.ensures.value c.in_ok-dyn_of-in-Some.ensures.form nests)

pub returns-in_ok-from_str-in-None-clause-form :
    goal.returns-in_ok-from_str-in-None-clause-form
returns-in_ok-from_str-in-None-clause-form c = text-form _
