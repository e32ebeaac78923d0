use Rattle.kql_lexer.proofs.FrontFacts.{comment_is}
use Rattle.kql_lexer.proofs.fronts.slash_front.Goals as goal

pub returns-then-rest-eq47 : goal.returns-then-rest-eq47
returns-then-rest-eq47 c = comment_is c.args.rest.now c.line_len.result c.line_len.ensures c.if-rest-gt1.true c.requires.class c.if-rest-eq47.true
