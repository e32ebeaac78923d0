use Rattle.std.proofs.Common.{rules}
use Rattle.std.proofs.lemmas.Bool.{ne_eqb}
use Rattle.parse_op.proofs.TurnSteps.{pass-small}
use Rattle.parse_op.proofs.search.turns.Goals as goal

pub pass_at-requires-clause-small : goal.pass_at-requires-clause-small
pass_at-requires-clause-small c =
    pass-small c.args.relaxed c.args.items.now c.args.text.now c.turns.slots c.take_turn_at.new.slots c.turns.at 9223372036854775808 c.in_ok-step.step c.in-Failed.is (ne_eqb c.turns.at 0 c.if-at-eq0.false) c.in_ok-step.ensures.turned (search rules)
