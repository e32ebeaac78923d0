use Rattle.std.proofs.Common.{length}
use Rattle.std.specs.Prelude.{None, Some}
use Rattle.scan_ops.specs.States.{held_of}
use Rattle.scan_ops.proofs.StateFacts.{record-seen}
use Rattle.scan_ops.proofs.state.State.record.Goals as goal

pub returns-in-Some : goal.returns-in-Some
returns-in-Some c =
    let rs = c.self.inside.records in
    record {
      line = rw (← c.self.view_is) (record-seen (length rs) c.args.at (held_of c.self.inside.id rs) rs c.as_slice.result.now c.index-as_slice-at.result (Some c.in-Some.row) c.as_slice.ensures.items c.self.invariant (rw (← c.self.view_is) at c.requires.held) (rw (← c.self.view_is) at c.requires.within) c.index-as_slice-at.is c.in-Some.is);
    }

pub returns-in-None : goal.returns-in-None
returns-in-None c =
    let rs = c.self.inside.records in
    record {
      line = rw (← c.self.view_is) (record-seen (length rs) c.args.at (held_of c.self.inside.id rs) rs c.as_slice.result.now c.index-as_slice-at.result None c.as_slice.ensures.items c.self.invariant (rw (← c.self.view_is) at c.requires.held) (rw (← c.self.view_is) at c.requires.within) c.index-as_slice-at.is c.in-None.is);
    }
