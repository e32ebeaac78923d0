use Rattle.std.proofs.Common.{◌≡◌, ◌∙◌, ap, arith, rules, subst, sym, FitsSigned, w64}
use Rattle.std.proofs.lemmas.Int.{to_z-of_z}
use Rattle.kql_cells.specs.Seen.{seen}
use Rattle.kql_cells.specs.Values.{IsWellFormed}
use Rattle.kql_meaning.specs.Values.{number_as}
use Rattle.series_op.proofs.BinSteps.{part-more, parts-all, parts_below}
use Rattle.series_op.proofs.bins.axis_parts.Goals as goal

pub element-requires : goal.element-requires
element-requires c =
    let s : FitsSigned w64 c.start_of-start.result = search rules in
    let value = simp to_z-of_z at c.number_as.ensures.number in
    subst IsWellFormed (sym (value ∙ ap (number_as c.args.series.now.from.kind) c.start_of-start.ensures.start)) (c.requires.bins.form c.bins.k c.bins-test.true)

pub bins-preserved : goal.bins-preserved
bins-preserved c =
    let s : FitsSigned w64 c.start_of-start.result = search rules in
    let value = simp to_z-of_z at c.number_as.ensures.number in
    part-more c.args.series.now c.bins.k c.start_of-start.result (seen c.number_as.result) c.in_ok-part.part c.bins.parts c.push.new.self c.start_of-start.ensures.start value c.in_ok-part.ensures.value c.bins.invariant c.in_ok-push.ensures.added

pub returns : goal.returns
returns c =
    let all : c.bins.k ≡ c.args.count = omega (arith, c.bins-test.false, c.bins.auto.k-end) in
    record { parts = parts-all c.args.series.now c.args.count c.bins.parts c.requires.bins (subst (λ n. c.bins.parts ≡ parts_below c.args.series.now n) all c.bins.invariant) }
