use Rattle.std.proofs.Common.{◌≡◌, List, None, Some, IfOk, refl, sym, ◌∙◌, subst, arith}
use Rattle.pattern_lift.specs.declared.calls.PatternCall.{PatternCall}
use Rattle.pattern_lift.proofs.ShapeSteps.{own-other, own-none, own-by}
use Rattle.pattern_lift.proofs.pattern_calls.call_of_two.Goals as goal

pub returns-then-args-ne2 : goal.returns-then-args-ne2
returns-then-args-ne2 c = record { own = c.new.ensures.empty ∙ sym (own-other _ _ c.if-args-ne2.true) }

pub returns-in-None : goal.returns-in-None
returns-in-None c = record {
  own = c.new-in-None.ensures.empty ∙ sym (own-none c.args.func c.args.args.now c.index-args-0.result (omega (arith, c.if-args-ne2.false)) c.index-args-0.is c.in-None.ensures.name);
}

pub returns-in-None-literal_text : goal.returns-in-None-literal_text
returns-in-None-literal_text c = record {
  own = c.new-in-None-literal_text.ensures.empty
      ∙ own-by c.args.func c.args.args.now c.index-args-0.result c.index-args-1.result (Some _) None (omega (arith, c.if-args-ne2.false)) c.index-args-0.is c.index-args-1.is
      c.in-Some.ensures.name c.in-None-literal_text.ensures.text;
}

pub returns-in-Some-literal_text : goal.returns-in-Some-literal_text
returns-in-Some-literal_text c = record {
  own = subst (λ (all : List PatternCall). IfOk c.one_call.result (λ cs. cs ≡ all))
      (own-by c.args.func c.args.args.now c.index-args-0.result c.index-args-1.result (Some _) (Some _) (omega (arith, c.if-args-ne2.false)) c.index-args-0.is c.index-args-1.is
      c.in-Some.ensures.name c.in-Some-literal_text.ensures.text)
      c.one_call.ensures.own;
}
