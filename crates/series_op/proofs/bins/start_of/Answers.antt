use Rattle.std.proofs.Common.{◌∙◌, ap, ap₂, rules, subst, sym, pos, ◌+ℤ◌, ◌*ℤ◌, of_z, to_z, FitsSigned, w64}
use Rattle.std.proofs.lemmas.Int.{to_z-of_z}
use Rattle.series_op.proofs.BinSteps.{start-cast}
use Rattle.series_op.proofs.bins.start_of.Goals as goal

-- where the bin starts is a number of 64 bits
inside : (c : goal.After-number_in-step) → FitsSigned w64 (c.number_in-from.result +ℤ pos c.args.k *ℤ c.number_in-step.result)
inside c = subst (FitsSigned w64) (sym (ap₂ (λ x y. x +ℤ pos c.args.k *ℤ y) c.number_in-from.ensures.number c.number_in-step.ensures.number)) c.requires.fits

pub overflow_cast-result-4 : goal.overflow_cast-result-4
overflow_cast-result-4 c =
    let a : FitsSigned w64 c.number_in-from.result = search rules in
    let s : FitsSigned w64 c.number_in-step.result = search rules in
    let f = inside c in
    subst (FitsSigned w64) (sym (start-cast c.number_in-from.result c.number_in-step.result c.args.k a s c.ranges.k.fits f)) f

pub returns : goal.returns
returns c =
    let a : FitsSigned w64 c.number_in-from.result = search rules in
    let s : FitsSigned w64 c.number_in-step.result = search rules in
    let f = inside c in
    record {
      start = ap (λ z. to_z w64 (of_z w64 z)) (start-cast c.number_in-from.result c.number_in-step.result c.args.k a s c.ranges.k.fits f)
          ∙ (to_z-of_z w64 (c.number_in-from.result +ℤ pos c.args.k *ℤ c.number_in-step.result) f
          ∙ ap₂ (λ x y. x +ℤ pos c.args.k *ℤ y) c.number_in-from.ensures.number c.number_in-step.ensures.number);
    }
