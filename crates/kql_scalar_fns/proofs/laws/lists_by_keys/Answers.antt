use Rattle.kql_scalar_fns.proofs.MemberLaws.{list-has-keys, null-in-none}
use Rattle.kql_scalar_fns.proofs.laws.lists_by_keys.Goals as goal

pub returns : goal.returns
returns c = record { keys = list-has-keys; null = null-in-none }
