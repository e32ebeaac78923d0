use Rattle.std.proofs.Common.{◌∙◌, ap, subst, sym}
use Rattle.kql_cells.specs.Named.{HasDistinctNames, column_name}
use Rattle.live_query.specs.ViewForm.{view_of}
use Rattle.live_query.proofs.KeptFacts.{keeps-opened, opens-fit}
use Rattle.live_query.proofs.view.view_over.Goals as goal

pub new-requires : goal.new-requires
new-requires c =
    let distinct = subst (HasDistinctNames column_name) c.schema-schema.ensures.columns c.columns-distinct.ensures.distinct in
    let is = ap view_of (sym c.get.ensures.value) ∙ sym c.in-Some.ensures.group in
    let columns = c.in_ok-schema.ensures.same ∙ c.schema-schema.ensures.columns in
    record {
      fits = opens-fit c.args.query.now c.in-Some.group.now c.in_ok-plan.plan c.args.table.now c.in_ok-schema.schema (distinct, c.schema-schema.ensures.fits) is c.requires.fits c.in_ok-plan.ensures.same columns;
    }

pub returns : goal.returns
returns c =
    let is = ap view_of (sym c.get.ensures.value) ∙ sym c.in-Some.ensures.group in
    let plan = c.in_ok-view.ensures.plan.0 ∙ c.in_ok-plan.ensures.same in
    let columns = c.in_ok-view.ensures.plan.1 ∙ (c.in_ok-schema.ensures.same ∙ c.schema-schema.ensures.columns) in
    record {
      keeps =
          keeps-opened c.args.query.now c.in-Some.group.now c.args.table.now c.in_ok-view.view c.append.new.self c.requires.fits is plan columns c.in_ok-view.ensures.none c.in_ok-append.ensures.grown c.in_ok-append.ensures.stands;
    }
