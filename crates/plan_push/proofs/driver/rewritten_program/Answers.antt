use Rattle.std.proofs.Common.{◌≡◌, ◌≤◌, ◌<◌, ◌+◌, List, [], length, get_or, drop, refl, sym, ap, ap₂, ◌∙◌, subst, arith, true}
use Rattle.std.specs.Prelude.{IsSome, Some}
use Rattle.kql_bound.specs.declared.plan.Plan.{Plan}
use Rattle.kql_meaning.specs.Fits.{known_of, lets_columns, plan_columns}
use Rattle.kql_meaning.proofs.OperatorFitLaws.{lets-more, lets-start}
use Rattle.plan_rules.specs.Improves.{PlanImproves}
use Rattle.plan_push.specs.Settled.{lets_settled, settled_plan}
use Rattle.kql_fit_laws.proofs.OperatorLaws.{each_plan_keeps}
use Rattle.plan_push.proofs.DriveSteps.{found-none, found-some, plan-made-some}
use Rattle.plan_push.proofs.ProgramSteps.{let-improves, let-there, lets-turn, main-improves, main-there, program-settled, same-at, whole-lets, with_at}
use Rattle.plan_push.proofs.driver.rewritten_program.Goals as goal

pub loop-i-init : goal.loop-i-init
loop-i-init c = record {
  columns = lets-start c.args.p.now.tables ∙ ap (λ l. Some l) (sym c.new-lets.ensures.empty);
  settled = ap (λ l. lets_settled c.args.p.now.tables l c.args.p.now.lets) (sym c.new-lets.ensures.empty);
}

pub rewritten_plan-requires : goal.rewritten_plan-requires
rewritten_plan-requires c =
    let kk : known_of c.schemas-tables.result.now c.as_slice.result.now ≡ known_of c.args.p.now.tables c.loop-i.lets = ap₂ (λ a b. known_of a b) c.schemas-tables.ensures.schemas c.as_slice.ensures.items in
    let lt : c.loop-i.i < length c.args.p.now.lets = subst (λ (xs : List Plan). c.loop-i.i < length xs) c.as_slice-plans.ensures.items c.loop-i-test.true in
    let at : c.index-plans-i.result ≡ get_or c.args.p.now.lets c.loop-i.i c.index-plans-i.result = c.index-plans-i.is ∙ ap (λ (xs : List Plan). get_or xs c.loop-i.i c.index-plans-i.result) c.as_slice-plans.ensures.items in
    subst (λ k. IsSome (plan_columns c.index-plans-i.result k)) (sym kk) (let-there c.args.p.now c.loop-i.i c.index-plans-i.result c.loop-i.lets lt at c.loop-i.invariant.columns c.requires)

pub returns-in-Some : goal.returns-in-Some
returns-in-Some c =
    let kk : known_of c.schemas-tables.result.now c.as_slice.result.now ≡ known_of c.args.p.now.tables c.loop-i.lets = ap₂ (λ a b. known_of a b) c.schemas-tables.ensures.schemas c.as_slice.ensures.items in
    let lt : c.loop-i.i < length c.args.p.now.lets = subst (λ (xs : List Plan). c.loop-i.i < length xs) c.as_slice-plans.ensures.items c.loop-i-test.true in
    let at : c.index-plans-i.result ≡ get_or c.args.p.now.lets c.loop-i.i c.index-plans-i.result = c.index-plans-i.is ∙ ap (λ (xs : List Plan). get_or xs c.loop-i.i c.index-plans-i.result) c.as_slice-plans.ensures.items in
    record { found = let-improves each_plan_keeps c.args.p.now c.in_ok-program.program c.loop-i.i c.index-plans-i.result c.in-Some.made c.in_ok-all.all c.loop-i.lets lt at c.loop-i.invariant.columns (subst (λ k. PlanImproves k c.index-plans-i.result c.in-Some.made) kk (found-some c.in_ok-made.field-0 _ _ c.in-Some.made c.in_ok-made.ensures.found c.in-Some.is)) (c.in_ok-all.ensures.all ∙ ap (λ (xs : List Plan). with_at xs c.loop-i.i c.in-Some.made) c.as_slice-plans.ensures.items) c.in_ok-program.ensures.program }

pub loop-i-preserved : goal.loop-i-preserved
loop-i-preserved c =
    let k1 : known_of c.schemas-tables.result.now c.as_slice.result.now ≡ known_of c.args.p.now.tables c.loop-i.lets = ap₂ (λ a b. known_of a b) c.schemas-tables.ensures.schemas c.as_slice.ensures.items in
    let k2 : known_of c.schemas-tables.result.now c.as_slice-in-loop-i.result.now ≡ known_of c.args.p.now.tables c.loop-i.lets = ap₂ (λ a b. known_of a b) c.schemas-tables.ensures.schemas c.as_slice-in-loop-i.ensures.items in
    let lt : c.loop-i.i < length c.args.p.now.lets = subst (λ (xs : List Plan). c.loop-i.i < length xs) c.as_slice-plans.ensures.items c.loop-i-test.true in
    let atx : c.index-plans-i.result ≡ get_or c.args.p.now.lets c.loop-i.i c.index-plans-i.result = c.index-plans-i.is ∙ ap (λ (xs : List Plan). get_or xs c.loop-i.i c.index-plans-i.result) c.as_slice-plans.ensures.items in
    let aty : c.index-plans-i-in-loop-i.result ≡ get_or c.args.p.now.lets c.loop-i.i c.index-plans-i-in-loop-i.result = c.index-plans-i-in-loop-i.is ∙ ap (λ (xs : List Plan). get_or xs c.loop-i.i c.index-plans-i-in-loop-i.result) c.as_slice-plans.ensures.items in
    let same : c.index-plans-i-in-loop-i.result ≡ c.index-plans-i.result = same-at c.args.p.now.lets c.loop-i.i c.index-plans-i-in-loop-i.result c.index-plans-i.result lt aty atx in
    let made : plan_columns c.index-plans-i.result (known_of c.args.p.now.tables c.loop-i.lets) ≡ Some c.in_ok-columns.columns = ap₂ (λ p k. plan_columns p k) (sym same) (sym k2) ∙ plan-made-some c.index-plans-i-in-loop-i.result (known_of c.schemas-tables.result.now c.as_slice-in-loop-i.result.now) c.in_ok-columns.columns (subst (λ k. IsSome (plan_columns c.index-plans-i-in-loop-i.result k)) (sym k2) (let-there c.args.p.now c.loop-i.i c.index-plans-i-in-loop-i.result c.loop-i.lets lt aty c.loop-i.invariant.columns c.requires)) c.in_ok-columns.ensures.columns in
    let quiet : settled_plan c.index-plans-i.result (known_of c.args.p.now.tables c.loop-i.lets) ≡ true = ap (settled_plan c.index-plans-i.result) (sym k1) ∙ found-none c.in_ok-made.field-0 _ _ c.in_ok-made.ensures.found c.in_default.is in
    record {
      columns = lets-more c.args.p.now.lets c.args.p.now.tables c.loop-i.i c.index-plans-i.result c.loop-i.lets c.push.new.self c.in_ok-columns.columns lt c.loop-i.invariant.columns (ap (λ p. plan_columns p (known_of c.args.p.now.tables c.loop-i.lets)) (sym atx) ∙ made) c.in_ok-push.ensures.added;
      settled = c.loop-i.invariant.settled ∙ (lets-turn c.args.p.now.tables c.args.p.now.lets c.loop-i.i c.index-plans-i.result c.loop-i.lets c.in_ok-columns.columns lt atx quiet made ∙ ap (λ l. lets_settled c.args.p.now.tables l (drop (c.loop-i.i + 1) c.args.p.now.lets)) (sym c.in_ok-push.ensures.added));
    }

pub rewritten_plan-requires-2 : goal.rewritten_plan-requires-2
rewritten_plan-requires-2 c =
    let kk : known_of c.schemas-tables.result.now c.as_slice-2.result.now ≡ known_of c.args.p.now.tables c.loop-i.lets = ap₂ (λ a b. known_of a b) c.schemas-tables.ensures.schemas c.as_slice-2.ensures.items in
    let le : length c.args.p.now.lets ≤ c.loop-i.i = let e = ap length c.as_slice-plans.ensures.items in omega (arith, e) in
    subst (λ k. IsSome (plan_columns c.args.p.now.main k)) (sym kk) (main-there c.args.p.now c.loop-i.lets (whole-lets c.args.p.now c.loop-i.i c.loop-i.lets le c.loop-i.invariant.columns) c.requires)

pub returns-in-Some-2 : goal.returns-in-Some-2
returns-in-Some-2 c =
    let kk : known_of c.schemas-tables.result.now c.as_slice-2.result.now ≡ known_of c.args.p.now.tables c.loop-i.lets = ap₂ (λ a b. known_of a b) c.schemas-tables.ensures.schemas c.as_slice-2.ensures.items in
    let le : length c.args.p.now.lets ≤ c.loop-i.i = let e = ap length c.as_slice-plans.ensures.items in omega (arith, e) in
    record { found = main-improves each_plan_keeps c.args.p.now c.in_ok-program-2.program c.loop-i.i c.in-Some-2.made c.loop-i.lets le c.loop-i.invariant.columns (subst (λ k. PlanImproves k c.args.p.now.main c.in-Some-2.made) kk (found-some c.in_ok-made-2.field-0 _ _ c.in-Some-2.made c.in_ok-made-2.ensures.found c.in-Some-2.is)) c.in_ok-program-2.ensures.program }

pub returns : goal.returns
returns c =
    let kk : known_of c.schemas-tables.result.now c.as_slice-2.result.now ≡ known_of c.args.p.now.tables c.loop-i.lets = ap₂ (λ a b. known_of a b) c.schemas-tables.ensures.schemas c.as_slice-2.ensures.items in
    let le : length c.args.p.now.lets ≤ c.loop-i.i = let e = ap length c.as_slice-plans.ensures.items in omega (arith, e) in
    record { found = program-settled c.args.p.now c.loop-i.i c.loop-i.lets le c.loop-i.invariant.columns c.loop-i.invariant.settled (ap (settled_plan c.args.p.now.main) (sym kk) ∙ found-none c.in_ok-made-2.field-0 _ _ c.in_ok-made-2.ensures.found c.in_default-2.is) }
