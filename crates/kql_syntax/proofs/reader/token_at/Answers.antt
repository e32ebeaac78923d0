use Rattle.std.proofs.Common.{sym, ◌∙◌, refl}
use Rattle.std.proofs.lemmas.Option.{slice_get_read}
use Rattle.kql_syntax.proofs.ReadingLaws.{token_found, token_other}
use Rattle.kql_syntax.proofs.reader.token_at.Goals as goal

pub returns-then-has-clause-some : goal.returns-then-has-clause-some
returns-then-has-clause-some c = token_found (slice_get_read c.args.ts.now _ c.args.at c.in_ok-token.token.now refl c.in_ok-token.ensures.lookup.3.0 c.in_ok-token.ensures.lookup.1) (sym c.has.ensures ∙ c.if-has.true)

pub returns-clause-none : goal.returns-clause-none
returns-clause-none c = token_other (slice_get_read c.args.ts.now _ c.args.at c.in_ok-token.token.now refl c.in_ok-token.ensures.lookup.3.0 c.in_ok-token.ensures.lookup.1) (sym c.has.ensures ∙ c.if-has.false)
