use Rattle.scan_ops.proofs.KeyedFacts.{keyed-fits}
use Rattle.scan_ops.proofs.keyed.scan_lists.Goals as goal

pub new-requires : goal.new-requires
new-requires c =
    keyed-fits c.args.s.now c.args.t.now c.args.extended.now c.in_ok-none.none c.into_parts-schema.result.0 c.in_ok-rows.rows c.args.lists.now c.args.from c.args.to
    c.in_ok-none.ensures.names c.in_ok-none.ensures.grid c.requires.fits c.requires.extended c.requires.within c.in_ok-none.ensures.parts c.into_parts-schema.ensures.columns c.in_ok-rows.ensures.rows
