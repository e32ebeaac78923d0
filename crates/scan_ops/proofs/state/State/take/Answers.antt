use Rattle.std.proofs.Common.{rules}
use Rattle.scan_ops.proofs.StateFacts.{not-taken, taken-form, taken-seen}
use Rattle.scan_ops.proofs.state.State.take.Goals as goal

pub invariant_of-self : goal.invariant_of-self
invariant_of-self c = taken-form c.self.inside.id c.self.inside.records c.set.new.self c.args.at c.args.row c.self.invariant (rw (← c.self.view_is) at c.requires.held) (rw (← c.self.view_is) at c.requires.within) c.set.ensures.placed (search rules)

pub returns-then-is_some : goal.returns-then-is_some
returns-then-is_some c = record {
  after = rw (← c.self.view_is) (taken-seen c.self.inside.id c.self.inside.records c.set.new.self c.args.at c.args.row c.self.invariant (rw (← c.self.view_is) at c.requires.held) (rw (← c.self.view_is) at c.requires.within) c.set.ensures.placed (search rules));
}

pub returns-else-is_some : goal.returns-else-is_some
returns-else-is_some c = record {
  after = rw (← c.self.view_is) (not-taken c.self.inside.id c.self.inside.records c.args.at c.args.row (search rules));
}
