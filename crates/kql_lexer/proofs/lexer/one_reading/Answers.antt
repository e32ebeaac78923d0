use Rattle.kql_lexer.proofs.ItemLaws.{items_read, strings_items}
use Rattle.kql_lexer.proofs.LexFacts.{told_fault, told_tokens}
use Rattle.kql_lexer.proofs.lexer.one_reading.Goals as goal

pub returns-clause-tokens : goal.returns-clause-tokens
returns-clause-tokens c = told_tokens c.args.text.now c.lex.result c.lex.ensures.tokens

pub returns-clause-refused : goal.returns-clause-refused
returns-clause-refused c = told_fault c.args.text.now c.lex.result c.lex.ensures.refused

pub returns-clause-items : goal.returns-clause-items
returns-clause-items c = items_read

pub returns-clause-strings : goal.returns-clause-strings
returns-clause-strings c = strings_items
