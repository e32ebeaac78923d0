use Rattle.std.proofs.Common.{None, Some, sym, ◌∙◌, arith}
use Rattle.pattern_lift.proofs.LentSteps.{reads-other, reads-none, reads-by}
use Rattle.pattern_lift.proofs.lent.reads_one.Goals as goal

pub returns-then-args-ne2 : goal.returns-then-args-ne2
returns-then-args-ne2 c = record { reads = sym (reads-other _ _ _ c.if-args-ne2.true) }

pub returns-in-None : goal.returns-in-None
returns-in-None c = record {
  reads = sym (reads-none c.args.lent.now c.args.func c.args.args.now c.index-args-0.result (omega (arith, c.if-args-ne2.false)) c.index-args-0.is c.in-None.ensures.name);
}

pub returns-in-None-literal_text : goal.returns-in-None-literal_text
returns-in-None-literal_text c = record {
  reads = reads-by c.args.lent.now c.args.func c.args.args.now c.index-args-0.result c.index-args-1.result (Some _) None (omega (arith, c.if-args-ne2.false)) c.index-args-0.is c.index-args-1.is
      c.in-Some.ensures.name c.in-None-literal_text.ensures.text;
}

pub returns-in-Some-literal_text : goal.returns-in-Some-literal_text
returns-in-Some-literal_text c = record {
  reads = c.is_among.ensures.among
      ∙ reads-by c.args.lent.now c.args.func c.args.args.now c.index-args-0.result c.index-args-1.result (Some _) (Some _) (omega (arith, c.if-args-ne2.false)) c.index-args-0.is c.index-args-1.is
      c.in-Some.ensures.name c.in-Some-literal_text.ensures.text;
}
