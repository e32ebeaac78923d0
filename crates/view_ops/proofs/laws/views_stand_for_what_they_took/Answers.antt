use Rattle.view_ops.proofs.GrowingLaws.{stands-all}
use Rattle.view_ops.proofs.laws.views_stand_for_what_they_took.Goals as goal

pub returns : goal.returns
returns c = record { grown = λ v t batches same h takes stored. stands-all v t batches same h takes stored }
