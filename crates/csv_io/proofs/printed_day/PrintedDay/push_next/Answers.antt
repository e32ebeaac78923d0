use Rattle.std.proofs.Common.{◌≡◌, ◌+◌, ◌-◌, ◌∙◌, FitsSigned, ap, arith, length, refl, rules, w64}
use Rattle.std.specs.Prelude.{unsigned_abs}
use Rattle.std.proofs.lemmas.Int.{to_z-of_z}
use Rattle.csv_io.proofs.PrintedDayFacts.{date-kept, long-enough}
use Rattle.csv_io.proofs.printed_day.PrintedDay.push_next.Goals as goal

pub slice_bounds-copy_from_slice-end-2 : goal.slice_bounds-copy_from_slice-end-2
slice_bounds-copy_from_slice-end-2 c =
    let long = long-enough c.args.out.now.items _ _ c.in_ok-push_moment.ensures.added in
    omega (arith, long, ap length c.deref.ensures.value, c.len-start.ensures)

pub invariant_of-self : goal.invariant_of-self
invariant_of-self c = λ lt.
    let x = c.args.x in
    let old = c.args.out.now.items in
    let start = c.len-start.result in
    let fits : FitsSigned w64 x = c.ranges.x in
    let added = simp to_z-of_z at c.in_ok-push_moment.ensures.added in
    let dated = simp to_z-of_z at c.in_ok-push_moment.ensures.date in
    let number = simp to_z-of_z at c.unsigned_abs.ensures.value in
    let behind : start ≡ length old = search rules in
    let size : start + 10 - start ≡ 10 = omega arith in
    let kept = date-kept old _ (unsigned_abs x) added in
    let date = c.copy_from_slice.ensures.after ∙ rw (size, behind, c.deref.ensures.value) refl ∙ kept in
    (rw number date, rw number dated)
