use Rattle.std.proofs.lemmas.Option.{MatchOption-at_none}
use Rattle.pattern_run.proofs.GridFacts.{all-grids, no-grids}
use Rattle.pattern_run.proofs.grids.know_grids.Goals as goal

pub tables-preserved : goal.tables-preserved
tables-preserved c others =
    c.tables.invariant (all-grids c.tables.left.now c.in-Some.more.now c.in-Some.named.now c.in-Some.ensures.cases.0 c.schema.ensures.fits others)

pub returns : goal.returns
returns c = record { grids = c.tables.invariant (no-grids c.tables.left.now (MatchOption-at_none _ _ c.in_default.is c.split_first.ensures.cases)) }
