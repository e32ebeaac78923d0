use Rattle.std.proofs.Common.{subst, sym}
use Rattle.summarize_pieces.specs.Pieces.{AreGroupsOf}
use Rattle.summarize_pieces_tests.proofs.pieces.kept_groups.Goals as goal

pub returns : goal.returns
returns c = record { groups = subst (AreGroupsOf c.args.g.now c.args.t.now 0 c.args.middle) (sym c.in_ok-kept.ensures.same) (c.in_ok-groups.ensures.groups c.args.g.now c.args.t.now 0 c.args.middle c.in_ok-first.ensures.rows) }
