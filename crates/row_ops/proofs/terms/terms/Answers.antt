use Rattle.std.proofs.Common.{◌≡◌, ◌<◌, arith, subst, of_z, to_z, FitsSigned, w64}
use Rattle.std.proofs.lemmas.Int.{ints, to_z-of_z}
use Rattle.kql_meaning.specs.Numbers.{count_of_terms}
use Rattle.row_ops.proofs.TermSteps.{term-inside, terms-all, terms_below}
use Rattle.row_ops.proofs.terms.terms.Goals as goal

-- src/terms.rt:43:29
pub overflow_mul-k : goal.overflow_mul-k
overflow_mul-k c =
    let a : FitsSigned w64 c.args.from = c.ranges.from in
    let b : FitsSigned w64 c.args.to = c.ranges.to in
    let s : FitsSigned w64 c.args.step = c.ranges.step in
    let size = simp to_z-of_z at c.unsigned_abs.ensures.value in
    let many = simp to_z-of_z at c.count_of_terms-count.ensures.count in
    let under : c.terms.k < count_of_terms c.args.from c.args.to c.args.step = subst (λ n. c.terms.k < n) many c.terms-test.true in
    let inside = term-inside c.args.from c.args.to c.args.step c.terms.k c.unsigned_abs.result c.requires.positive size under in
    omega (arith, ints, inside, a, b)

-- src/terms.rt:43:13
pub above-n-requires : goal.above-n-requires
above-n-requires c =
    let a : FitsSigned w64 c.args.from = c.ranges.from in
    let b : FitsSigned w64 c.args.to = c.ranges.to in
    let s : FitsSigned w64 c.args.step = c.ranges.step in
    let size = simp to_z-of_z at c.unsigned_abs.ensures.value in
    let many = simp to_z-of_z at c.count_of_terms-count.ensures.count in
    let under : c.terms.k < count_of_terms c.args.from c.args.to c.args.step = subst (λ n. c.terms.k < n) many c.terms-test.true in
    simp to_z-of_z (term-inside c.args.from c.args.to c.args.step c.terms.k c.unsigned_abs.result c.requires.positive size under)

-- src/terms.rt:28:1
pub returns : goal.returns
returns c =
    let a : FitsSigned w64 c.args.from = c.ranges.from in
    let b : FitsSigned w64 c.args.to = c.ranges.to in
    let s : FitsSigned w64 c.args.step = c.ranges.step in
    let many = simp to_z-of_z at c.count_of_terms-count.ensures.count in
    let all : c.terms.k ≡ c.count_of_terms-count.result = omega (arith, c.terms-test.false, c.terms.auto.k-end) in
    let cast : c.terms.made ≡ terms_below c.args.kind (to_z w64 (of_z w64 c.args.from)) (to_z w64 (of_z w64 c.args.step)) c.terms.k = c.terms.invariant in
    let made = subst (λ x. c.terms.made ≡ terms_below c.args.kind x (to_z w64 (of_z w64 c.args.step)) c.terms.k) (to_z-of_z w64 c.args.from a) cast in
    let same = subst (λ x. c.terms.made ≡ terms_below c.args.kind c.args.from x c.terms.k) (to_z-of_z w64 c.args.step s) made in
    record {
      terms = terms-all c.args.kind c.args.from c.args.to c.args.step c.count_of_terms-count.result c.terms.made many (subst (λ n. c.terms.made ≡ terms_below c.args.kind c.args.from c.args.step n) all same);
    }
