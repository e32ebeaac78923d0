use Rattle.kql_lexer.proofs.FrontFacts.{blank_is}
use Rattle.kql_lexer.proofs.fronts.blank_front.Goals as goal

pub returns : goal.returns
returns c = blank_is c.args.rest.now c.blank_len.result c.blank_len.ensures c.requires.some c.requires.class
