use Rattle.std.proofs.Common.{take}
use Rattle.bind_expr.specs.Constants.{AreConstant, AreLinksConstant}
use Rattle.bind_expr.proofs.constants.+is_constant.Given as goal

abbrev pub invariant-are_constant-parts : goal.invariant-are_constant-parts
invariant-are_constant-parts l = AreConstant (take l.e-index l.es)

abbrev pub invariant-are_links_constant-parts : goal.invariant-are_links_constant-parts
invariant-are_links_constant-parts l = AreLinksConstant (take l.link-index l.links)
