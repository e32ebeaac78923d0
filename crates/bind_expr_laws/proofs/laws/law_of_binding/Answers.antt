use Rattle.bind_expr_laws.proofs.BoundLaws.{bound-sound, name-sound}
use Rattle.bind_expr_laws.proofs.laws.law_of_binding.Goals as goal

pub returns : goal.returns
returns c = record { expressions = bound-sound; names = name-sound }
