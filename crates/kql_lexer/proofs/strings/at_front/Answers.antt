use Rattle.std.proofs.Common.{sym, ◌∙◌, arith}
use Rattle.kql_lexer.proofs.StringFronts.{at_is}
use Rattle.kql_lexer.proofs.strings.at_front.Goals as goal

pub returns-then-rest-lt2 : goal.returns-then-rest-lt2
returns-then-rest-lt2 c = at_is c.args.rest.now c.requires.some c.requires.class (λ h. absurd (omega (arith, c.if-rest-lt2.true)))

pub returns-then-not-is_quote : goal.returns-then-not-is_quote
returns-then-not-is_quote c = at_is c.args.rest.now c.requires.some c.requires.class (λ h. sym c.is_quote.ensures ∙ c.if-not-is_quote.true)
