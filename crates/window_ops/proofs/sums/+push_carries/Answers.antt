use Rattle.window_ops.proofs.FitSteps.{fitting_args, fitting_first, fitting_link, fitting_links, fitting_steps, fitting_whole}
use Rattle.window_ops.proofs.SumSteps.{links-turn, push-Call, push-Chain, push-Path, push-RowCumsum, push-RowNumber, several-turn}
use Rattle.window_ops.proofs.sums.+push_carries.Goals as goal

pub push_carries-fit_parts-requires : goal.push_carries-fit_parts-requires
push_carries-fit_parts-requires t c = fitting_args c.args.t.now.columns c.args.e.now _ c.in-Call.args c.requires.fits c.in-Call.is

pub push_carries-fit_part-requires : goal.push_carries-fit_part-requires
push_carries-fit_part-requires t c = fitting_first c.args.t.now.columns c.args.e.now c.in-Chain.first c.in-Chain.links c.requires.fits c.in-Chain.is

pub push_carries-fit_links-requires : goal.push_carries-fit_links-requires
push_carries-fit_links-requires t c = fitting_links c.args.t.now.columns c.args.e.now c.in-Chain.first c.in-Chain.links c.requires.fits c.in-Chain.is

pub push_carries-fit_part-requires-in-Path : goal.push_carries-fit_part-requires-in-Path
push_carries-fit_part-requires-in-Path t c = fitting_whole c.args.t.now.columns c.args.e.now c.in-Path.whole c.in-Path.steps c.requires.fits c.in-Path.is

pub push_carries-fit_parts-requires-in-Path : goal.push_carries-fit_parts-requires-in-Path
push_carries-fit_parts-requires-in-Path t c = fitting_steps c.args.t.now.columns c.args.e.now c.in-Path.whole c.in-Path.steps c.requires.fits c.in-Path.is

pub push_links-fit_link-requires : goal.push_links-fit_link-requires
push_links-fit_link-requires t c = fitting_link c.args.t.now.columns c.args.links.now c.links.link-index c.link-item.result c.requires.fits c.links-test.true c.link-item.is

pub push_carries-returns-in_ok-push_several-in-Call : goal.push_carries-returns-in_ok-push_several-in-Call
push_carries-returns-in_ok-push_several-in-Call t c = record {
  added = push-Call c.args.e.now _ c.in-Call.args c.fit_parts.result.now c.args.t.now c.args.from c.args.to c.args.carries.now c.push_several.new.carries c.in-Call.is c.fit_parts.ensures.items c.in_ok-push_several-in-Call.ensures.added;
}

pub push_carries-returns-in_ok-push_links-in-Chain : goal.push_carries-returns-in_ok-push_links-in-Chain
push_carries-returns-in_ok-push_links-in-Chain t c = record {
  added = push-Chain c.args.e.now c.in-Chain.first c.fit_part.result.now c.in-Chain.links c.fit_links.result.now c.args.t.now c.args.from c.args.to c.args.carries.now c.push_carries.new.carries c.push_links.new.carries c.in-Chain.is c.fit_part.ensures.value c.fit_links.ensures.items c.in_ok-push_carries-in-Chain.ensures.added c.in_ok-push_links-in-Chain.ensures.added;
}

pub push_carries-returns-in_ok-push_several-in-Path : goal.push_carries-returns-in_ok-push_several-in-Path
push_carries-returns-in_ok-push_several-in-Path t c = record {
  added = push-Path c.args.e.now c.in-Path.whole c.fit_part-in-Path.result.now c.in-Path.steps c.fit_parts-in-Path.result.now c.args.t.now c.args.from c.args.to c.args.carries.now c.push_carries-in-Path.new.carries c.push_several-in-Path.new.carries c.in-Path.is c.fit_part-in-Path.ensures.value c.fit_parts-in-Path.ensures.items c.in_ok-push_carries-in-Path.ensures.added c.in_ok-push_several-in-Path.ensures.added;
}

pub push_carries-returns-in_ok-push_carry-in-RowCumsum : goal.push_carries-returns-in_ok-push_carry-in-RowCumsum
push_carries-returns-in_ok-push_carry-in-RowCumsum t c = record {
  added = push-RowCumsum c.args.e.now c.in-Window.f c.in-Window.args c.sum_args-args.result.now c.args.t.now c.args.from c.args.to c.args.carries.now c.push_carry.new.carries c.in-Window.is c.in-RowCumsum.is c.sum_args-args.ensures.items c.in_ok-push_carry-in-RowCumsum.ensures.added;
}

pub push_carries-returns-in_ok-push_carry-in-RowNumber : goal.push_carries-returns-in_ok-push_carry-in-RowNumber
push_carries-returns-in_ok-push_carry-in-RowNumber t c = record {
  added = push-RowNumber c.args.e.now c.in-Window.f c.in-Window.args c.number_args-args.result.now c.args.t.now c.args.from c.args.to c.args.carries.now c.push_carry-in-RowNumber.new.carries c.in-Window.is c.in-RowNumber.is c.number_args-args.ensures.items c.in_ok-push_carry-in-RowNumber.ensures.added;
}

pub push_several-parts-preserved : goal.push_several-parts-preserved
push_several-parts-preserved t c = several-turn c.args.es.now c.parts.e-index c.e-item.result c.args.t.now c.args.from c.args.to c.args.carries.now c.parts.carries c.push_carries.new.carries c.parts-test.true c.e-item.is c.parts.invariant c.in_ok-push_carries.ensures.added

pub push_links-links-preserved : goal.push_links-links-preserved
push_links-links-preserved t c = links-turn c.args.links.now c.links.link-index c.link-item.result c.fit_link.result.now c.args.t.now c.args.from c.args.to c.args.carries.now c.links.carries c.push_carries.new.carries c.links-test.true c.link-item.is c.fit_link.ensures.value c.links.invariant c.in_ok-push_carries.ensures.added
