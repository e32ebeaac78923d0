use Rattle.std.proofs.Common.{sym, ap, ◌∙◌, Some}
use Rattle.kql_lexer.proofs.TextFacts.{unescape_end, unescape_next, unescaped_utf8}
use Rattle.kql_lexer.proofs.strings.unescape.Goals as goal

pub loop-byte-preserved : goal.loop-byte-preserved
loop-byte-preserved c =
    unescape_next c.args.bytes.now _ _ _ 0 _ _ c.loop-byte-test.true c.loop-byte.invariant c.requires.known c.in_ok-kept.ensures.added

pub text_of-requires : goal.text_of-requires
text_of-requires c =
    unescaped_utf8 c.args.bytes.now _ c.requires.utf8 (unescape_end c.args.bytes.now _ _ _ c.loop-byte-test.false c.loop-byte.invariant c.requires.known)

pub returns : goal.returns
returns c = record { text = unescape_end c.args.bytes.now _ _ _ c.loop-byte-test.false c.loop-byte.invariant c.requires.known ∙ ap Some (sym c.text_of.ensures) }
