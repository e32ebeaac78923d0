use Rattle.std.proofs.Common.{◌≡◌, ◌∙◌, List, ap, length, refl, subst, sym, take}
use Rattle.kql_cells.specs.Named.{HasDistinctNames, column_name}
use Rattle.agg_folds.specs.Calls.{call_of}
use Rattle.agg_folds.specs.States.{Kept}
use Rattle.summarize_op.specs.Passes.{folded_over}
use Rattle.summarize_op.specs.Picks.{chosen_over}
use Rattle.summarize_op.proofs.ArgumentSteps.{arguments-formed, first-arguments}
use Rattle.summarize_op.proofs.CallSteps.{columns-long}
use Rattle.summarize_op.proofs.PassSteps.{folds-many, same-folds}
use Rattle.summarize_op.proofs.ResultSteps.{chosen-values, folded-values}
use Rattle.summarize_op.proofs.calls.best_of.Goals as goal

pub argument_vectors-requires : goal.argument_vectors-requires
argument_vectors-requires c = record {
  plain = first-arguments c.args.t.now.columns c.args.f c.args.args.now c.first_args.result.now c.needs.result c.requires.call c.first_args.ensures.first;
}

pub fold_groups-requires-clause-long : goal.fold_groups-requires-clause-long
fold_groups-requires-clause-long c =
    columns-long c.args.t.now c.args.numbers.now c.args.count (length c.args.numbers.now) c.first_args.result.now c.as_slice.result.now c.requires.numbers (c.as_slice.ensures.value ∙ c.in_ok-columns.ensures.values) refl

pub fold_groups-requires-clause-form : goal.fold_groups-requires-clause-form
fold_groups-requires-clause-form c =
    let names = subst (HasDistinctNames column_name) c.schema.ensures.columns c.columns.ensures.distinct in
    arguments-formed c.first_args.result.now c.args.t.now c.as_slice.result.now (names, c.schema.ensures.fits) (first-arguments c.args.t.now.columns c.args.f c.args.args.now c.first_args.result.now c.needs.result c.requires.call c.first_args.ensures.first) (c.as_slice.ensures.value ∙ c.in_ok-columns.ensures.values)

pub finish_all-requires : goal.finish_all-requires
finish_all-requires c =
    same-folds c.in_ok-call.call c.as_slice.result.now c.as_slice-3.result.now c.args.numbers.now c.args.count c.in_ok-folds.folds.items c.as_slice-2.result.now c.in_ok-folds.ensures.folds c.as_slice-2.ensures.value (c.as_slice-3.ensures.value ∙ sym c.as_slice.ensures.value)

pub chosen_places-requires : goal.chosen_places-requires
chosen_places-requires c =
    same-folds c.in_ok-call.call c.as_slice.result.now c.as_slice-5.result.now c.args.numbers.now c.args.count c.in_ok-folds.folds.items c.as_slice-4.result.now c.in_ok-folds.ensures.folds c.as_slice-4.ensures.value (c.as_slice-5.ensures.value ∙ sym c.as_slice.ensures.value)

pub returns-clause-values : goal.returns-clause-values
returns-clause-values c =
    let call = c.in_ok-call.call in
    let ns = c.args.numbers.now in
    let many : length c.as_slice-2.result.now ≡ c.args.count = ap (λ (xs : List Kept). length xs) c.as_slice-2.ensures.value ∙ folds-many call c.as_slice.result.now ns c.args.count c.in_ok-folds.folds.items c.in_ok-folds.ensures.folds in
    let named = c.in_ok-call.ensures.call ∙ ap (call_of c.args.f c.args.args.now) (c.columns.ensures.columns ∙ c.schema.ensures.columns) in
    let read = c.first_args.ensures.first ∙ ap (λ n. take n c.args.args.now) c.needs.ensures.count in
    folded-values c.args.f c.args.args.now c.args.t.now ns c.args.count call c.first_args.result.now c.as_slice-3.result.now c.in_ok-values.values c.requires.call c.requires.numbers named read (c.as_slice-3.ensures.value ∙ c.in_ok-columns.ensures.values) (c.in_ok-values.ensures.values ∙ ap (folded_over call c.as_slice-3.result.now ns) many)

pub returns-clause-places : goal.returns-clause-places
returns-clause-places c =
    let call = c.in_ok-call.call in
    let ns = c.args.numbers.now in
    let many : length c.as_slice-4.result.now ≡ c.args.count = ap (λ (xs : List Kept). length xs) c.as_slice-4.ensures.value ∙ folds-many call c.as_slice.result.now ns c.args.count c.in_ok-folds.folds.items c.in_ok-folds.ensures.folds in
    let named = c.in_ok-call.ensures.call ∙ ap (call_of c.args.f c.args.args.now) (c.columns.ensures.columns ∙ c.schema.ensures.columns) in
    let read = c.first_args.ensures.first ∙ ap (λ n. take n c.args.args.now) c.needs.ensures.count in
    chosen-values c.args.f c.args.args.now c.args.t.now ns c.args.count call c.first_args.result.now c.as_slice-5.result.now c.in_ok-places.places c.requires.best c.requires.call c.requires.numbers named read (c.as_slice-5.ensures.value ∙ c.in_ok-columns.ensures.values) (c.in_ok-places.ensures.places ∙ ap (chosen_over call c.as_slice-5.result.now ns) many)
