use Rattle.std.proofs.Common.{sym, ◌∙◌}
use Rattle.kql_lexer.specs.Strings.{in_either}
use Rattle.kql_lexer.specs.declared.strings.Inside.TheVariants.{Open}
use Rattle.kql_lexer.proofs.StringFacts.{leaves_more}
use Rattle.kql_lexer.proofs.strings.string_run.Goals as goal

pub loop-i-preserved : goal.loop-i-preserved
loop-i-preserved c =
    leaves_more (in_either c.args.verbatim c.args.sign) Open _ _ c.args.bytes.now _ 0 c.loop-i-test.true c.loop-i.invariant (sym c.in_either.ensures ∙ c.in-Some.is)
