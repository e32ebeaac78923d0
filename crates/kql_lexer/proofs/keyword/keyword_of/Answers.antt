use Rattle.std.proofs.Common.{refl}
use Rattle.kql_lexer.specs.Words.{keyword_text, rises}
use Rattle.kql_lexer.proofs.keyword.keyword_of.Goals as goal

pub keyword_among-requires : goal.keyword_among-requires
unfolding rises keyword_text
keyword_among-requires c = record { rises = refl }
