use Rattle.scan_ops.proofs.StateFacts.{begun-form, begun-seen}
use Rattle.scan_ops.proofs.state.State.begin.Goals as goal

pub invariant_of-self : goal.invariant_of-self
invariant_of-self c = begun-form c.self.inside.id c.args.id c.self.inside.records c.set.new.self c.args.row c.self.invariant (rw (← c.self.view_is) at c.requires.held) (rw (← c.self.view_is) at c.requires.within) c.set.ensures.placed

pub returns : goal.returns
returns c = record {
  after = rw (← c.self.view_is) (begun-seen c.self.inside.id c.args.id c.self.inside.records c.set.new.self c.args.row c.self.invariant (rw (← c.self.view_is) at c.requires.held) (rw (← c.self.view_is) at c.requires.within) c.set.ensures.placed);
}
