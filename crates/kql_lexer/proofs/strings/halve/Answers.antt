use Rattle.std.proofs.Common.{sym, ◌∙◌, subst}
use Rattle.std.specs.Str.{IsUtf8}
use Rattle.kql_lexer.proofs.TextFacts.{halve_end, halved_utf8}
use Rattle.kql_lexer.proofs.strings.halve.Goals as goal

pub text_of-requires : goal.text_of-requires
text_of-requires c =
    subst IsUtf8 (sym (halve_end c.args.bytes.now _ c.args.sign _ _ c.loop-byte-test.false c.loop-byte.invariant))
    (halved_utf8 c.args.sign c.args.bytes.now c.requires.sign c.requires.utf8)

pub returns : goal.returns
returns c = record { text = c.text_of.ensures ∙ halve_end c.args.bytes.now _ c.args.sign _ _ c.loop-byte-test.false c.loop-byte.invariant }
