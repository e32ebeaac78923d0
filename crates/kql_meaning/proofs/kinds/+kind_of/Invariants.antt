use Rattle.std.proofs.Common.{◌≡◌, take}
use Rattle.std.specs.Prelude.{Some}
use Rattle.kql_meaning.specs.Expressions.{all_known, kind_along, kind_down, kinds_in}
use Rattle.kql_meaning.proofs.kinds.+kind_of.Given as goal

abbrev pub invariant-known_kinds-loop-arg : goal.invariant-known_kinds-loop-arg
invariant-known_kinds-loop-arg l = all_known (kinds_in (take l.arg-index l.args) l.columns) ≡ Some l.kinds

abbrev pub invariant-kind_along-loop-link : goal.invariant-kind_along-loop-link
invariant-kind_along-loop-link l = l.kind ≡ kind_along (take l.link-index l.links) l.columns l.fn.first

abbrev pub invariant-kind_down-loop-step : goal.invariant-kind_down-loop-step
invariant-kind_down-loop-step l = l.kind ≡ kind_down (take l.step-index l.steps) l.columns l.fn.whole
