use Rattle.std.proofs.Common.{◌≡◌, ◌∙◌, ap, sym}
use Rattle.std.specs.Prelude.{Some}
use Rattle.kql_plain.specs.Moved.{left_behind, moved_let}
use Rattle.kql_plain.proofs.MovedLaws.{let-fits, let-free, let-inside, let-means, none-left}
use Rattle.phase_run.proofs.ToldSteps.{plan-told}
use Rattle.phase_run.proofs.plans.plan_table.Goals as goal

pub moved_table-requires : goal.moved_table-requires
moved_table-requires g c =
    let p = c.args.plan.now in
    let e : moved_let c.args.is_last p.source ≡ Some c.in-Some.at = sym c.in-Some.ensures.at in
    (c.type_bounds.sync-R, (c.type_bounds.sync-G, (let-inside p c.args.catalogue.now c.args.lets.now c.args.is_last c.in-Some.at e c.requires.fits, (let-fits p c.args.catalogue.now c.args.lets.now c.args.is_last c.in-Some.at c.as_slice.result.now e c.as_slice.ensures.items c.requires.fits, let-free p c.args.is_last c.in-Some.at c.as_slice.result.now e c.as_slice.ensures.items c.requires.last))))

pub returns-in_ok-table-in-Some : goal.returns-in_ok-table-in-Some
returns-in_ok-table-in-Some g c =
    let p = c.args.plan.now in
    let e : moved_let c.args.is_last p.source ≡ Some c.in-Some.at = sym c.in-Some.ensures.at in
    record {
      table = c.in_ok-table-in-Some.ensures.table ∙ let-means p c.args.catalogue.now c.args.lets.now c.args.is_last c.in-Some.at c.as_slice.result.now e c.as_slice.ensures.items;
      lets = c.in_ok-table-in-Some.ensures.lets ∙ ap (λ o. left_behind o c.args.lets.now) (sym e);
      told = plan-told _ _ p c.as_slice.result.now c.as_slice.ensures.items c.in_ok-table-in-Some.ensures.told;
    }

pub returns-in_ok-table-in-None : goal.returns-in_ok-table-in-None
returns-in_ok-table-in-None g c = record {
  table = c.in_ok-table-in-None.ensures.table;
  lets = none-left (moved_let c.args.is_last c.args.plan.now.source) c.args.lets.now (sym c.in-None.ensures.at);
  told = c.in_ok-table-in-None.ensures.told;
}
