use Rattle.kql_scalar_fns.proofs.ArgumentFacts.{tail-form}
use Rattle.kql_scalar_fns.proofs.text.joined_with.Goals as goal

pub push_behind-requires : goal.push_behind-requires
push_behind-requires c = tail-form _ c.requires.args
