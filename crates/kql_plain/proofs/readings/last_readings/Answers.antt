use Rattle.std.proofs.Common.{◌≡◌, ◌-◌, ◌∷◌, ◌++◌, ◌∙◌, ℕ, false, true, [], ap, arith, drop, get_or, length, replicate, reverse, rules, sym}
use Rattle.std.specs.Prelude.{nat_le, ◌||◌}
use Rattle.std.proofs.lemmas.List.{take_at}
use Rattle.kql_plain.specs.Readings.{plans_name}
use Rattle.kql_plain.proofs.ReadingSteps.{all-flags, flag-pushed, main-alone, no-plans, none-behind, one-let-more, plan-marked}
use Rattle.kql_plain.proofs.readings.last_readings.Goals as goal

pub lets-init : goal.lets-init
lets-init c =
    let n = length c.args.lets.now in
    let main = c.args.main.now in
    let fresh : c.in_ok-named.named.items ≡ replicate n false = search rules in
    let before = λ (i : ℕ). ap (λ bs. get_or bs i true) (c.deref_mut.ensures.value ∙ fresh) ∙ none-behind n i in
    let alone = main-alone c.args.lets.now main n (omega arith) in
    let long : length c.mark_plan-is_last.new.named ≡ c.in_ok-named.named.len = omega (arith, c.mark_plan-is_last.auto.named, c.deref_mut.ensures.len) in
    record {
      within = omega arith;
      marked = λ i. ap (λ bs. get_or bs i true) (take_at c.mark_plan-is_last.new.named _ c.in_ok-named.named.len long)
          ∙ plan-marked n i main [] _ (get_or c.deref_mut.result.now i true) (get_or c.mark_plan-is_last.new.named i true) alone (before i) (c.mark_plan-is_last.ensures.marked i);
      flags = flag-pushed n main [] _ (λ i. get_or c.deref_mut.result.now i true) c.mark_plan-is_last.result c.new-last.result c.push.new.self alone before c.mark_plan-is_last.ensures.last (ap reverse c.new-last.ensures.empty ∙ sym (no-plans n)) c.in_ok-push.ensures.added;
    }

pub lets-preserved : goal.lets-preserved
lets-preserved c =
    let n = length c.args.lets.now in
    let lets = c.args.lets.now in
    let main = c.args.main.now in
    let left = c.lets.left - 1 in
    let p = c.index-lets-left.result in
    let behind = drop c.lets.left lets ++ main ∷ [] in
    let before : (i : ℕ) → get_or c.deref_mut-in-lets.result.now i true ≡ (nat_le n i || plans_name i behind) = λ i. ap (λ bs. get_or bs i true) c.deref_mut-in-lets.ensures.value ∙ c.lets.invariant.marked i in
    let more = one-let-more lets main p left c.lets.left (omega (arith, c.lets-test.true)) (omega (arith, c.lets-test.true, c.lets.invariant.within)) c.index-lets-left.is in
    let long : length c.mark_plan-is_last-in-lets.new.named ≡ c.lets.named.len = omega (arith, c.mark_plan-is_last-in-lets.auto.named, c.deref_mut-in-lets.ensures.len) in
    record {
      within = omega (arith, c.lets.invariant.within);
      marked = λ i. ap (λ bs. get_or bs i true) (take_at c.mark_plan-is_last-in-lets.new.named _ c.lets.named.len long)
          ∙ plan-marked n i p behind _ (get_or c.deref_mut-in-lets.result.now i true) (get_or c.mark_plan-is_last-in-lets.new.named i true) more (before i) (c.mark_plan-is_last-in-lets.ensures.marked i);
      flags = flag-pushed n p behind _ (λ i. get_or c.deref_mut-in-lets.result.now i true) c.mark_plan-is_last-in-lets.result c.lets.last c.push-in-lets.new.self more before c.mark_plan-is_last-in-lets.ensures.last c.lets.invariant.flags c.in_ok-push-2.ensures.added;
    }

pub returns : goal.returns
returns c = record { last = all-flags (length c.args.lets.now) c.lets.left c.args.lets.now c.args.main.now c.lets.last (omega (arith, c.lets-test.false)) c.lets.invariant.flags }
