use Rattle.std.proofs.Common.{refl}
use Rattle.kql_plan_text.specs.Operators.{partition_text}
use Rattle.kql_plan_text.proofs.Separated.{on_ok, three}
use Rattle.kql_plan_text.proofs.write_operators.write_partition.Goals as goal

pub returns : goal.returns
unfolding partition_text
returns c = record { added = on_ok _ _ _ (three _ _ _ _ _ _ _ _ refl c.in_ok-push_str.ensures.added c.in_ok-write_name.ensures.added) c.push_str-2.ensures.added }
