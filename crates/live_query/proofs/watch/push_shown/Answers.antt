use Rattle.std.proofs.Common.{◌∙◌}
use Rattle.live_query.proofs.WatchFacts.{pushed}
use Rattle.live_query.proofs.watch.push_shown.Goals as goal

pub returns : goal.returns
returns c = record {
  shown =
      pushed c.args.out.now.items c.as_bytes.result.now c.extend_from_slice.new.self.items c.extend_from_slice-2.new.self.items c.args.text.now c.args.count c.in_ok-extend_from_slice.ensures.items (c.as_bytes.ensures.value ∙ c.in_ok-line.ensures.line)
      c.in_ok-extend_from_slice-2.ensures.items;
}
