use Rattle.std.proofs.Common.{◌≡◌, take, Some}
use Rattle.kql_lexer.specs.Strings.{in_either, leaves}
use Rattle.kql_lexer.specs.declared.strings.Inside.TheVariants.{Open}
use Rattle.kql_lexer.proofs.strings.string_run.Given as goal

abbrev pub invariant-loop-i : goal.invariant-loop-i
invariant-loop-i l = leaves (in_either l.verbatim l.sign) Open (take l.i l.bytes) ≡ Some l.inside
