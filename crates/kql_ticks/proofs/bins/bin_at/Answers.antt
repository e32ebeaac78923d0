use Rattle.std.proofs.Common.{◌≡◌, false, sym, ◌∙◌, arith, rules, pos, ◌-ℤ◌, FitsSigned, w64}
use Rattle.std.specs.Int.{int_rem_euclid, w128}
use Rattle.std.specs.Int.Signed.{le_z}
use Rattle.std.proofs.lemmas.Int.{to_z-of_z}
use Rattle.jiff_core.proofs.SignedLemmas.{signed_arith}
use Rattle.kql_ticks.specs.Bins.{IsBin}
use Rattle.kql_ticks.specs.Ranges.{fit}
use Rattle.kql_ticks.proofs.BinLaws.{bin_at-positive, bin_is, fit_is, fits_less}
use Rattle.kql_ticks.proofs.bins.bin_at.Goals as goal

-- what the code computes, with its casts taken away
start : (c : goal.After-fit) → (le_z c.args.s (pos 0) ≡ false) × (c.fit.result ≡ fit (c.args.x -ℤ int_rem_euclid (c.args.x -ℤ c.args.f) c.args.s))
start c =
    let x = c.args.x in
    let s = c.args.s in
    let f = c.args.f in
    let fx : FitsSigned w64 x = c.ranges.x in
    let fs : FitsSigned w64 s = c.ranges.s in
    let ff : FitsSigned w64 f = c.ranges.f in
    let wx : FitsSigned w128 x = omega (arith, signed_arith) in
    let ws : FitsSigned w128 s = omega (arith, signed_arith) in
    let wf : FitsSigned w128 f = omega (arith, signed_arith) in
    let wd : FitsSigned w128 (x -ℤ f) = omega (arith, signed_arith) in
    let wo : FitsSigned w128 c.rem_euclid-over.result = search rules in
    let below = simp to_z-of_z at c.rem_euclid-over.ensures.upper_bound in
    let wr : FitsSigned w128 (x -ℤ c.rem_euclid-over.result) = fits_less x s _ fx fs below in
    let positive = simp to_z-of_z at c.if-s-le0.false in
    let over = simp to_z-of_z at c.rem_euclid-over.ensures.value in
    let h = simp to_z-of_z at c.fit.ensures in
    (positive, rw over at h)

pub returns-clause-value : goal.returns-clause-value
returns-clause-value c =
    let h = start c in
    h.1 ∙ sym (bin_at-positive c.args.x c.args.s c.args.f h.0)

pub returns-clause-greatest : goal.returns-clause-greatest
returns-clause-greatest c =
    let h = start c in
    rw h.1 (fit_is _ (IsBin c.args.x c.args.s c.args.f) (bin_is c.args.x c.args.s c.args.f h.0))
