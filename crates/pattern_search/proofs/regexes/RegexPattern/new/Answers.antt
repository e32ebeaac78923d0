use Rattle.pattern_search.proofs.GrammarFacts.{of-grammar}
use Rattle.pattern_search.proofs.RegexFacts.{is_expression}
use Rattle.pattern_search.proofs.regexes.RegexPattern.new.Goals as goal

pub returns-in-Ok-clause-expression : goal.returns-in-Ok-clause-expression
returns-in-Ok-clause-expression c = is_expression c.in-Ok.regex _ c.in-Ok.ensures.config c.in-Ok.ensures.read c.in-Ok.ensures.source

pub returns-in-Err-clause-grammar : goal.returns-in-Err-clause-grammar
returns-in-Err-clause-grammar c = of-grammar _ c.in-Err.error c.in-Err.ensures.by_grammar c.in-Err.ensures.kind c.in-Err.ensures.no_internal
