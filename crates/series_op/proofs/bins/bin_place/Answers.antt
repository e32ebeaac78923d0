use Rattle.std.proofs.Common.{◌∙◌, ◌/◌, ap, refl, rules, sym, FitsSigned, w64}
use Rattle.std.specs.Prelude.{unsigned_abs}
use Rattle.std.proofs.lemmas.Int.{to_z-of_z}
use Rattle.kql_cells.specs.Seen.{seen}
use Rattle.kql_meaning.specs.Values.{number_of}
use Rattle.series_op.proofs.BinSteps.{not-below, place-beyond, place-between, place-found}
use Rattle.series_op.proofs.bins.bin_place.Goals as goal

pub returns-then-place-count : goal.returns-then-place-count
returns-then-place-count c =
    let a : FitsSigned w64 c.number_in-from.result = search rules in
    let s : FitsSigned w64 c.number_in.result = search rules in
    let x : FitsSigned w64 c.in-Some.x = search rules in
    let size = simp to_z-of_z at c.unsigned_abs-step.ensures.value in
    let far = simp to_z-of_z at c.abs_diff-distance.ensures in
    let low = simp to_z-of_z at c.if-x-from.false in
    record {
      place = place-found c.args.series.now c.args.count (number_of (seen c.args.start)) c.number_in-from.result c.in-Some.x c.abs_diff-distance.result c.unsigned_abs-step.result (c.abs_diff-distance.result / c.unsigned_abs-step.result) c.requires.positive (sym c.number_of.ensures.number ∙ c.in-Some.is) c.number_in-from.ensures.number (not-below c.in-Some.x c.number_in-from.result low) far (size ∙ ap unsigned_abs c.number_in.ensures.number) refl c.if-distance-step-eq0.true c.if-place-count.true;
    }

pub returns-else-place-count : goal.returns-else-place-count
returns-else-place-count c =
    let a : FitsSigned w64 c.number_in-from.result = search rules in
    let s : FitsSigned w64 c.number_in.result = search rules in
    let x : FitsSigned w64 c.in-Some.x = search rules in
    let size = simp to_z-of_z at c.unsigned_abs-step.ensures.value in
    let far = simp to_z-of_z at c.abs_diff-distance.ensures in
    record {
      place = place-beyond c.args.series.now c.args.count (number_of (seen c.args.start)) c.number_in-from.result c.in-Some.x c.abs_diff-distance.result c.unsigned_abs-step.result (c.abs_diff-distance.result / c.unsigned_abs-step.result) c.requires.positive (sym c.number_of.ensures.number ∙ c.in-Some.is) c.number_in-from.ensures.number far (size ∙ ap unsigned_abs c.number_in.ensures.number) refl c.if-place-count.false;
    }

pub returns-else-distance-step-eq0 : goal.returns-else-distance-step-eq0
returns-else-distance-step-eq0 c =
    let a : FitsSigned w64 c.number_in-from.result = search rules in
    let s : FitsSigned w64 c.number_in.result = search rules in
    let x : FitsSigned w64 c.in-Some.x = search rules in
    let size = simp to_z-of_z at c.unsigned_abs-step.ensures.value in
    let far = simp to_z-of_z at c.abs_diff-distance.ensures in
    record {
      place = place-between c.args.series.now c.args.count (number_of (seen c.args.start)) c.number_in-from.result c.in-Some.x c.abs_diff-distance.result c.unsigned_abs-step.result c.requires.positive (sym c.number_of.ensures.number ∙ c.in-Some.is) c.number_in-from.ensures.number far (size ∙ ap unsigned_abs c.number_in.ensures.number) c.if-distance-step-eq0.false;
    }
