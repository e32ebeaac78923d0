use Rattle.std.proofs.Common.{take}
use Rattle.bind_expr.specs.Bound.{ands_to, args_to, factors_to, links_to, looks_to, operands_to, ors_to}
use Rattle.bind_expr.specs.Outcome.{Answers}
use Rattle.bind_expr.proofs.bind.+bind.Given as goal

abbrev pub invariant-bind_ors-ors : goal.invariant-bind_ors-ors
invariant-bind_ors-ors l = Answers l.left (ors_to l.scope l.spot l.fn.start (take l.link-index l.more))

abbrev pub invariant-bind_ands-ands : goal.invariant-bind_ands-ands
invariant-bind_ands-ands l = Answers l.left (ands_to l.scope l.spot l.fn.start (take l.link-index l.more))

abbrev pub invariant-bind_operands-operands : goal.invariant-bind_operands-operands
invariant-bind_operands-operands l = Answers l.left (operands_to l.scope l.spot l.fn.start (take l.e-index l.more))

abbrev pub invariant-bind_links-links : goal.invariant-bind_links-links
invariant-bind_links-links l = Answers l.left (links_to l.scope l.spot l.fn.start (take l.link-index l.more))

abbrev pub invariant-bind_factors-factors : goal.invariant-bind_factors-factors
invariant-bind_factors-factors l = Answers l.left (factors_to l.scope l.spot l.fn.start (take l.link-index l.more))

abbrev pub invariant-bind_looks-looks : goal.invariant-bind_looks-looks
invariant-bind_looks-looks l = Answers l.path (looks_to l.scope l.at l.fn.start (take l.access-index l.looks))

abbrev pub invariant-bind_more_args-args-2 : goal.invariant-bind_more_args-args-2
invariant-bind_more_args-args-2 l = Answers l.taken (args_to l.scope l.slot l.fn.start (take l.arg-index l.more))
