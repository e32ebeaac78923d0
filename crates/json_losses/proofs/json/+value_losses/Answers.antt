use Rattle.std.proofs.Common.{◌≡◌, [], ap, arith}
use Rattle.std.proofs.lemmas.Grind.{common_steps}
use Rattle.std.specs.List.{sum_by}
use Rattle.json_losses.specs.Losses.{held}
use Rattle.json_losses.specs.Views.{entry_losses}
use Rattle.json_losses.proofs.LossFacts.{held-end}
use Rattle.json_losses.proofs.json.+value_losses.Goals as goal

pub member_losses-returns : goal.member_losses-returns
member_losses-returns t c =
    let none : c.loop-member.member-iterator ≡ [] = grind (arith, common_steps) in
    held-end c.loop-member.count (sum_by entry_losses c.loop-member.member-iterator) (held (sum_by entry_losses c.args.members.now.entries)) c.loop-member.invariant.fits (ap (sum_by entry_losses) none) c.loop-member.invariant.left
