use Rattle.std.proofs.Common.{◌≡◌, ◌∷◌, ◌++◌, ◌∙◌, [], ap, arith, drop, length, reverse, subst, sym}
use Rattle.std.proofs.lemmas.List.{nil_from_length, take_at}
use Rattle.std.proofs.lemmas.Option.{MatchOption-at_none}
use Rattle.kql_meaning.specs.Plans.{plan_means}
use Rattle.kql_plain.specs.AtHand.{FitBehind, PlanFits, means_behind, world_of}
use Rattle.kql_plain.specs.Moved.{left_behind, moved_let}
use Rattle.kql_plain.specs.Readings.{last_readings, reads_last}
use Rattle.kql_plain.proofs.LetLaws.{all-behind, behind-one, let-fits, main-fits, others-fit}
use Rattle.kql_plain.proofs.MovedLaws.{kept, own-free}
use Rattle.kql_plain.proofs.ReadingSteps.{one-more-plan}
use Rattle.kql_plain.proofs.lets.table_behind.Goals as goal

-- A let.

pub plan_table-requires : goal.plan_table-requires
plan_table-requires c =
    let n = length c.args.lets.now in
    let p = c.in-Some.plan.now in
    let more = c.in-Some.more.now in
    let main = c.args.main.now in
    let tables = c.args.catalogue.now in
    let made = c.lets.made.items in
    let fit : FitBehind (p ∷ more) main tables made = subst (λ ps. FitBehind ps main tables made) c.in-Some.ensures.cases.0 c.lets.invariant.fit in
    let flags : reverse c.lets.last ≡ reads_last n p (more ++ main ∷ []) ∷ last_readings n (more ++ main ∷ []) = c.lets.invariant.flags ∙ (ap (λ ps. last_readings n (ps ++ main ∷ [])) c.in-Some.ensures.cases.0 ∙ one-more-plan n p (more ++ main ∷ [])) in
    record {
      fits = subst (λ ts. PlanFits p (world_of tables ts)) (sym c.deref_mut.ensures.value) (let-fits p more main tables made fit);
      last = own-free n p (more ++ main ∷ []) c.next_flag-is_last.result (c.next_flag-is_last.ensures.next (reads_last n p (more ++ main ∷ [])) (last_readings n (more ++ main ∷ [])) flags).0;
    }

pub lets-preserved : goal.lets-preserved
lets-preserved c =
    let n = length c.args.lets.now in
    let p = c.in-Some.plan.now in
    let more = c.in-Some.more.now in
    let main = c.args.main.now in
    let tables = c.args.catalogue.now in
    let made = c.lets.made.items in
    let flag = c.next_flag-is_last.result in
    let fit : FitBehind (p ∷ more) main tables made = subst (λ ps. FitBehind ps main tables made) c.in-Some.ensures.cases.0 c.lets.invariant.fit in
    let flags : reverse c.lets.last ≡ reads_last n p (more ++ main ∷ []) ∷ last_readings n (more ++ main ∷ []) = c.lets.invariant.flags ∙ (ap (λ ps. last_readings n (ps ++ main ∷ [])) c.in-Some.ensures.cases.0 ∙ one-more-plan n p (more ++ main ∷ [])) in
    let next = c.next_flag-is_last.ensures.next (reads_last n p (more ++ main ∷ [])) (last_readings n (more ++ main ∷ [])) flags in
    let long : length c.plan_table.new.lets ≡ c.lets.made.len = omega (arith, c.plan_table.auto.lets, c.deref_mut.ensures.len) in
    let left = take_at c.plan_table.new.lets (drop (length c.plan_table.new.lets) made) c.lets.made.len long ∙ (c.in_ok-table.ensures.lets ∙ ap (λ ts. left_behind (moved_let flag p.source) ts) c.deref_mut.ensures.value) in
    let table = c.in_ok-table.ensures.table ∙ ap (λ ts. plan_means p (world_of tables ts)) c.deref_mut.ensures.value in
    let q = kept n p more main tables made _ c.push.new.self.items flag c.in_ok-table.table next.0 (let-fits p more main tables made fit) (others-fit p more main tables made fit) table left c.in_ok-push.ensures.items in
    record {
      fit = q.0;
      rest = q.1 ∙ (sym (behind-one p more main tables made) ∙ (sym (ap (λ ps. means_behind ps main tables made) c.in-Some.ensures.cases.0) ∙ c.lets.invariant.rest));
      flags = next.1;
    }

-- The plan behind them.

pub plan_table-requires-2 : goal.plan_table-requires-2
plan_table-requires-2 c =
    let n = length c.args.lets.now in
    let main = c.args.main.now in
    let tables = c.args.catalogue.now in
    let made = c.lets.made.items in
    let none : c.lets.left.now ≡ [] = nil_from_length c.lets.left.now (MatchOption-at_none _ _ c.in_default.is c.split_first.ensures.cases) in
    let fit : FitBehind [] main tables made = subst (λ ps. FitBehind ps main tables made) none c.lets.invariant.fit in
    let flags : reverse c.lets.last ≡ reads_last n main [] ∷ last_readings n [] = c.lets.invariant.flags ∙ (ap (λ ps. last_readings n (ps ++ main ∷ [])) none ∙ one-more-plan n main []) in
    record {
      fits = subst (λ ts. PlanFits main (world_of tables ts)) (sym c.deref_mut-2.ensures.value) (main-fits main tables made fit);
      last = own-free n main [] c.next_flag-is_last-2.result (c.next_flag-is_last-2.ensures.next (reads_last n main []) (last_readings n []) flags).0;
    }

pub returns : goal.returns
returns c =
    let main = c.args.main.now in
    let tables = c.args.catalogue.now in
    let none : c.lets.left.now ≡ [] = nil_from_length c.lets.left.now (MatchOption-at_none _ _ c.in_default.is c.split_first.ensures.cases) in
    record {
      table = c.in_ok-table-2.ensures.table ∙ (ap (λ ts. plan_means main (world_of tables ts)) c.deref_mut-2.ensures.value ∙ all-behind c.lets.left.now main tables c.lets.made.items _ none c.lets.invariant.rest);
    }
