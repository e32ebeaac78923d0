use Rattle.std.proofs.Common.{◌≡◌, map, take}
use Rattle.pattern_run.specs.Patterned.{AreMade, finds_of}
use Rattle.pattern_run.proofs.making.make_patterns.Given as goal

abbrev pub invariant-loop-call : goal.invariant-loop-call
invariant-loop-call g l = record {
  found : g.P.PatternMaker.found l.patterns ≡ g.P.PatternMaker.found l.initial.patterns;
  count : g.P.PatternMaker.faults l.patterns ≡ g.P.PatternMaker.faults l.initial.patterns;
  made : map g.P.Made.Pattern.finds l.made ≡ map (finds_of (g.P.PatternMaker.found l.initial.patterns)) (take l.call-index l.calls);
  judged : AreMade g.P.PatternMaker.makes (take l.call-index l.calls);
}
