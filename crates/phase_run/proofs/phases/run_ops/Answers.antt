use Rattle.std.proofs.Common.{◌≡◌, [], refl, subst}
use Rattle.std.proofs.lemmas.List.{nil_from_length}
use Rattle.std.proofs.lemmas.Option.{MatchOption-at_none}
use Rattle.kql_plain.specs.AtHand.{world_of}
use Rattle.kql_plain.specs.Inputs.{input_table}
use Rattle.phase_run.proofs.AloneSteps.{is-alone}
use Rattle.phase_run.proofs.PhaseSteps.{front-rows, front-same, none-left, others-done, others-fit, phase-fits}
use Rattle.phase_run.proofs.ToldSteps.{HoldNone, begins, ends, next-split, none-after, none-first, nothing-told, tells-next}
use Rattle.phase_run.proofs.phases.run_ops.Goals as goal

pub rest-init : goal.rest-init
rest-init g c = record { fit = c.requires.fits; rest = refl; none = c.requires.none; told = begins _ _ }

pub run_phase-requires-clause-fits : goal.run_phase-requires-clause-fits
run_phase-requires-clause-fits g c κs within =
    phase-fits c.rest.left.now c.split_at.result.0.now c.split_at.result.1.now c.look_ahead-next.result.count (world_of c.args.catalogue.now c.args.lets.now) (input_table c.rest.made) c.split_at.ensures.front c.split_at.ensures.back c.rest.invariant.fit

pub run_phase-requires-clause-same : goal.run_phase-requires-clause-same
run_phase-requires-clause-same g c κs within is =
    front-same c.rest.left.now c.in-Some.more.now c.split_at.result.0.now c.in-Some.op.now c.look_ahead-next.result.count c.in-Some.ensures.cases.0 c.split_at.ensures.front (c.look_ahead-next.ensures.same is)

pub run_phase-requires-clause-range : goal.run_phase-requires-clause-range
run_phase-requires-clause-range g c κs within is =
    front-rows c.rest.left.now c.in-Some.more.now c.split_at.result.0.now c.in-Some.op.now c.look_ahead-next.result.count c.in-Some.ensures.cases.0 c.split_at.ensures.front (c.look_ahead-next.ensures.range is)

pub run_phase-requires-clause-alone : goal.run_phase-requires-clause-alone
run_phase-requires-clause-alone g c κs within is =
    is-alone c.rest.left.now c.in-Some.more.now c.split_at.result.0.now c.in-Some.op.now c.look_ahead-next.result.count c.in-Some.ensures.cases.0 c.split_at.ensures.front (c.look_ahead-next.ensures.alone is) (c.look_ahead-next.ensures.goes is)
    (none-first c.in-Some.op.now c.in-Some.more.now (subst HoldNone c.in-Some.ensures.cases.0 c.rest.invariant.none)).0

pub rest-preserved : goal.rest-preserved
rest-preserved g c =
    let w = world_of c.args.catalogue.now c.args.lets.now in
    let t = input_table c.rest.made in
    let made = input_table c.in_ok-table.table in
    record {
      fit = others-fit c.rest.left.now c.split_at.result.0.now c.split_at.result.1.now c.look_ahead-next.result.count w t made c.split_at.ensures.front c.split_at.ensures.back c.rest.invariant.fit c.in_ok-table.ensures.table;
      rest = others-done c.rest.left.now c.split_at.result.0.now c.split_at.result.1.now c.look_ahead-next.result.count w t made _ c.split_at.ensures.front c.split_at.ensures.back c.in_ok-table.ensures.table c.rest.invariant.rest;
      none = none-after c.rest.left.now c.split_at.result.1.now c.look_ahead-next.result.count c.split_at.ensures.back c.rest.invariant.none;
      told = tells-next _ _ _ _ _ _ _ c.rest.invariant.told c.in_ok-table.ensures.told
          (next-split c.rest.left.now c.in-Some.more.now c.split_at.result.0.now c.split_at.result.1.now c.in-Some.op.now c.look_ahead-next.result.count _ c.workers.result c.look_ahead-next.result.form c.in-Some.ensures.cases.0 c.split_at.ensures.front c.split_at.ensures.back c.look_ahead-next.ensures.some c.workers.ensures.workers c.rest.invariant.none c.look_ahead-next.ensures.phases);
    }

pub returns-clause-table : goal.returns-clause-table
returns-clause-table g c =
    let none : c.rest.left.now ≡ [] = nil_from_length c.rest.left.now (MatchOption-at_none _ _ c.in_default.is c.split_first.ensures.cases) in
    none-left c.rest.left.now (world_of c.args.catalogue.now c.args.lets.now) (input_table c.rest.made) _ none c.rest.invariant.rest

pub returns-clause-told : goal.returns-clause-told
returns-clause-told g c =
    let none : c.rest.left.now ≡ [] = nil_from_length c.rest.left.now (MatchOption-at_none _ _ c.in_default.is c.split_first.ensures.cases) in
    ends _ _ _ _ c.rest.invariant.told (nothing-told _ c.rest.left.now none)
