use Rattle.std.proofs.Common.{◌≡◌, ◌+◌, ◌∙◌, ap, ap₂, arith, inl, inr, length, subst, sym, ◌∷◌, []}
use Rattle.std.specs.Prelude.{IfOk, false, nat_eq, not, true}
use Rattle.std.proofs.lemmas.Bool.{cases_Bool, eqb-true}
use Rattle.kql_scalar_fns.specs.Applied.{applied}
use Rattle.kql_scalar_fns.specs.Logic.{is_true}
use Rattle.kql_scalar.specs.Shown.{shown}
use Rattle.kql_scalar.specs.Evaluated.{is_restart}
use Rattle.kql_scalar.proofs.ChoiceSteps.{given-found, given-passed}
use Rattle.kql_scalar.proofs.WindowSteps.{last-false, last-true, restart-tested}
use Rattle.kql_scalar.proofs.NodeSteps.{chosen-else, chosen-then, forms-turn, values-turn, values-two}
use Rattle.kql_scalar.proofs.values.+value.Goals as goal

pub chosen-returns-then-is_true-clause-value : goal.chosen-returns-then-is_true-clause-value
chosen-returns-then-is_true-clause-value t c =
    let test = ap is_true (sym c.in_ok-truth_of-in-len3-up.ensures.truth) ∙ (sym c.is_true.ensures ∙ c.if-is_true.true) in
    let e = chosen-then c.args.args.now c.condition-item.result c.a-item.result c.b-item.result c.args.t.now c.args.i c.args.s.now c.in-len3-up.len_at_least c.condition-item.is c.a-item.is c.b-item.is test in
    subst (λ z. IfOk c.value_of.result (λ l. shown l ≡ z)) e c.value_of.ensures.value

pub chosen-returns-else-is_true-clause-value : goal.chosen-returns-else-is_true-clause-value
chosen-returns-else-is_true-clause-value t c =
    let test = ap is_true (sym c.in_ok-truth_of-in-len3-up.ensures.truth) ∙ (sym c.is_true.ensures ∙ c.if-is_true.false) in
    let e = chosen-else c.args.args.now c.condition-item.result c.a-item.result c.b-item.result c.args.t.now c.args.i c.args.s.now c.in-len3-up.len_at_least c.condition-item.is c.a-item.is c.b-item.is test in
    subst (λ z. IfOk c.value_of-else-is_true.result (λ l. shown l ≡ z)) e c.value_of-else-is_true.ensures.value

pub values_of-arguments-preserved : goal.values_of-arguments-preserved
values_of-arguments-preserved t c = record {
  made = values-turn c.args.args.now c.arguments.arg-index c.arg-item.result c.arguments.values.items c.push.new.self.items c.in_ok-value.value c.args.t.now c.args.i c.args.s.now
      (omega (arith, c.arguments-test.true)) c.arg-item.is c.arguments.invariant.made c.in_ok-value.ensures.value c.in_ok-push.ensures.items;
  form = forms-turn c.arguments.values.items c.push.new.self.items c.in_ok-value.value c.arguments.invariant.form c.in_ok-value.ensures.form c.in_ok-push.ensures.items;
}

pub computed-returns-in-Some-leaf-clause-value : goal.computed-returns-in-Some-leaf-clause-value
computed-returns-in-Some-leaf-clause-value t c =
    let a = c.a-item-then-args-lt3 in
    let b = c.b-item in
    let both = ap₂ (λ x y. x ∷ y ∷ []) (c.in-Some.ensures.value c.args.s.now) (c.in-Some-leaf.ensures.value c.args.s.now) in
    let e = both ∙ sym (values-two c.args.args.now a.result b.result c.args.t.now c.args.i c.args.s.now c.in-len2.len_at_least c.in-len2.len_below a.is b.is) in
    subst (λ vs. IfOk c.apply_pair.result (λ v. v ≡ applied c.args.f vs)) e c.apply_pair.ensures.value

pub last_restart-returns-then-is_true-clause-start : goal.last_restart-returns-then-is_true-clause-start
last_restart-returns-then-is_true-clause-start t c =
    let test = restart-tested c.args.restart.now c.args.t.now c.args.s.now c.row_back-row.result c.in_ok-truth.truth c.is_true.result true c.in_ok-truth.ensures.truth c.is_true.ensures c.if-is_true.true in
    sym (last-true (is_restart c.args.restart.now c.args.t.now c.args.s.now) c.args.i c.rows.k c.row_back-row.result c.rows.invariant c.rows-test.true c.row_back-row.ensures.value test)

pub last_restart-rows-preserved : goal.last_restart-rows-preserved
last_restart-rows-preserved t c =
    let test = restart-tested c.args.restart.now c.args.t.now c.args.s.now c.row_back-row.result c.in_ok-truth.truth c.is_true.result false c.in_ok-truth.ensures.truth c.is_true.ensures c.if-is_true.false in
    last-false (is_restart c.args.restart.now c.args.t.now c.args.s.now) c.args.i c.rows.k c.row_back-row.result c.rows.invariant c.rows-test.true c.row_back-row.ensures.value test

pub first_given-returns-then-given-clause-value : goal.first_given-returns-then-given-clause-value
first_given-returns-then-given-clause-value t c =
    given-found c.args.args.now c.arguments.k c.part_at.result.now (shown c.in_ok-value.value) c.is_empty-given.result c.args.t.now c.args.i c.args.s.now
    (omega (arith, c.arguments-test.true)) c.part_at.ensures.item c.arguments.invariant c.in_ok-value.ensures.value c.is_empty-given.ensures (ap not c.if-given.true)

pub first_given-arguments-preserved : goal.first_given-arguments-preserved
first_given-arguments-preserved t c =
    let over = length c.args.args.now in
    let more : nat_eq (c.arguments.k + 1) over ≡ false = elim (cases_Bool (nat_eq (c.arguments.k + 1) over)) [
      | inl e ↦ absurd (c.if-last.false (eqb-true (c.arguments.k + 1) over e))
      | inr e ↦ e
    ] in
    given-passed c.args.args.now c.arguments.k c.part_at.result.now (shown c.in_ok-value.value) c.is_empty-given.result c.args.t.now c.args.i c.args.s.now
    (omega (arith, c.arguments-test.true)) more c.part_at.ensures.item c.arguments.invariant c.in_ok-value.ensures.value c.is_empty-given.ensures (ap not c.if-given.false)
