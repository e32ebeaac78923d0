use Rattle.std.proofs.Common.{subst}
use Rattle.std.proofs.lemmas.Option.{MatchOption-at_none}
use Rattle.kql_cells.specs.Named.{HasDistinctNames, column_name}
use Rattle.live_query.proofs.KeptFacts.{all-more, all-none}
use Rattle.live_query.proofs.view.know_batches.Goals as goal

pub batches-preserved : goal.batches-preserved
batches-preserved c others =
    let distinct = subst (HasDistinctNames column_name) c.schema.ensures.columns c.columns.ensures.distinct in
    c.batches.invariant (all-more c.batches.left.now c.in-Some.more.now c.in-Some.batch.now c.in-Some.ensures.cases.0 (distinct, c.schema.ensures.fits) others)

pub returns : goal.returns
returns c = record { tables = c.batches.invariant (all-none c.batches.left.now (MatchOption-at_none _ _ c.in_default.is c.split_first.ensures.cases)) }
