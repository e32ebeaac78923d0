use Rattle.std.proofs.Common.{◌≡◌, ◌∷◌, [], rules}
use Rattle.summarize_op.proofs.ItemSteps.{expression-column}
use Rattle.summarize_op.proofs.items.expression_column.Goals as goal

pub returns : goal.returns
returns c =
    let made : c.push.new.self.items ≡ c.in_ok-vector.vector ∷ [] = search rules in
    record { values = expression-column c.args.e.now c.args.t.now c.args.numbers.now c.args.count c.in_ok-vector.vector c.push.new.self.items c.requires.other c.in_ok-vector.ensures.values made }
