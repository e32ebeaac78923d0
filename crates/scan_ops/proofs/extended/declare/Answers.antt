use Rattle.std.proofs.Common.{refl, rules}
use Rattle.scan_ops.proofs.ExtendedFacts.{columns-all, columns-more, columns-start, decl-absent, decl-fits}
use Rattle.scan_ops.proofs.extended.declare.Goals as goal

pub push_declared-requires-clause-fits : goal.push_declared-requires-clause-fits
push_declared-requires-clause-fits c = decl-fits c.args.plan.now.declared c.each.decl-index c.decl-item.result c.requires.fits (search rules) (search rules)

pub push_declared-requires-clause-name : goal.push_declared-requires-clause-name
push_declared-requires-clause-name c = decl-absent c.args.plan.now c.as_slice-declared.result.now c.each.decl-index c.decl-item.result c.args.t.now c.each.t c.requires.names c.as_slice-declared.ensures.items (search rules) c.decl-item.is c.each.invariant

pub each-preserved : goal.each-preserved
each-preserved c = columns-more c.as_slice-declared.result.now c.each.decl-index c.decl-item.result c.args.t.now c.each.t c.push_declared.new.t (search rules) c.decl-item.is c.each.invariant c.in_ok-push_declared.ensures.added

pub each-init : goal.each-init
each-init c = columns-start c.args.t.now c.args.t.now c.as_slice-declared.result.now refl

pub returns : goal.returns
returns c = record {
  rows = columns-all c.args.plan.now c.as_slice-declared.result.now c.each.decl-index c.args.t.now c.each.t c.as_slice-declared.ensures.items (search rules) c.each.invariant;
}
