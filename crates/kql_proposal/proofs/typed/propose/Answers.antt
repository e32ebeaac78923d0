use Rattle.std.proofs.Common.{◌∙◌}
use Rattle.kql_proposal.proofs.HeaderFacts.{headed}
use Rattle.kql_proposal.proofs.typed.propose.Goals as goal

pub returns-clause-headed : goal.returns-clause-headed
returns-clause-headed c =
    headed c.args.bytes.now c.in_ok-header.header c.in_ok-text.text.items c.extend_from_slice.new.self.items c.in_ok-first.first.end (c.in_ok-text.ensures.items ∙ c.as_slice-2.ensures.items) c.in_ok-extend_from_slice.ensures.items
