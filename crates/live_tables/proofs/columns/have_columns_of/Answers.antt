use Rattle.std.proofs.Common.{◌∙◌, All, refl, subst, sym}
use Rattle.live_tables.specs.Growing.{has_columns_of}
use Rattle.live_tables.proofs.ColumnLaws.{all_first}
use Rattle.live_tables.proofs.columns.have_columns_of.Goals as goal

pub batches-preserved : goal.batches-preserved
batches-preserved c =
    let fits = has_columns_of c.args.table.now in
    let is = c.in-Some.ensures.cases.0 in
    let here = c.columns.ensures.columns ∙ c.schema.ensures.columns in
    let there = c.columns-in-Some.ensures.columns ∙ c.schema-in-Some.ensures.columns in
    let same : fits c.in-Some.batch.now = sym here ∙ (c.if-not-have_equal_columns.ensures.equal.0 refl ∙ there) in
    let first = all_first fits c.in-Some.batch.now c.in-Some.more.now same in
    (λ more. c.batches.invariant.0 (subst (All fits) (sym is) (first.1 more)), λ all. first.0 (subst (All fits) is (c.batches.invariant.1 all)))
