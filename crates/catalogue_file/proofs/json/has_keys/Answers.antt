use Rattle.catalogue_file.proofs.JsonFacts.{keys-counted}
use Rattle.catalogue_file.proofs.json.has_keys.Goals as goal

pub returns-in-Some : goal.returns-in-Some
returns-in-Some c = record { keys = keys-counted c.args.count c.len.result _ _ c.in-Some.ensures c.len.ensures.len }
