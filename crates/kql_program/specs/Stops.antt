-- How an error of a lower room stops the work.
use Rattle.bind_expr.specs.declared.fault.BindFault.{BindFault}
use Rattle.bind_expr.specs.declared.fault.BindFault.TheVariants as bind
use Rattle.catalogue_tables.specs.declared.stop.CatalogueStop.{CatalogueStop}
use Rattle.catalogue_tables.specs.declared.stop.CatalogueStop.TheVariants as catalogue
use Rattle.kql_outside.specs.declared.transfers.ReadError.{ReadError}
use Rattle.kql_outside.specs.declared.transfers.ReadError.TheVariants as read
use Rattle.kql_lexer.specs.declared.lexer.LexFault.{LexFault}
use Rattle.kql_lexer.specs.declared.lexer.LexFault.TheVariants as lex
use Rattle.pattern_run.specs.declared.fault.PatternFault.{PatternFault}
use Rattle.pattern_run.specs.declared.fault.PatternFault.TheVariants as pattern
use Rattle.kql_syntax.specs.declared.parse.SyntaxFault.{SyntaxFault}
use Rattle.kql_syntax.specs.declared.parse.SyntaxFault.TheVariants as syntax
use Rattle.kql_words.specs.declared.refusal.Refusal.TheVariants as refusal
use Rattle.kql_program.specs.Queries.{pattern_here_code}
use Rattle.kql_program.specs.Refusals.{bad_pattern_code}
use Rattle.kql_program.specs.declared.refusal.Stop.{Stop}
use Rattle.kql_program.specs.declared.refusal.Stop.TheVariants as stop

abbrev pub read_stop : ReadError → Stop
read_stop read.Failed = stop.ReadFault
read_stop read.OutOfMemory = stop.OutOfMemory

abbrev pub catalogue_stop : CatalogueStop → Stop
catalogue_stop (catalogue.Refused file code row column) = stop.Refused (refusal.Data file code row column)
catalogue_stop catalogue.ReadFault = stop.ReadFault
catalogue_stop catalogue.OutOfMemory = stop.OutOfMemory

abbrev pub lex_stop : LexFault → Stop
lex_stop (lex.Refused code place) = stop.Refused (refusal.Query code place)
lex_stop lex.OutOfMemory = stop.OutOfMemory

abbrev pub syntax_stop : SyntaxFault → Stop
syntax_stop (syntax.Refused code place) = stop.Refused (refusal.Query code place)
syntax_stop syntax.OutOfMemory = stop.OutOfMemory

abbrev pub bind_stop : BindFault → Stop
bind_stop (bind.Refused code place) = stop.Refused (refusal.Query code place)
bind_stop bind.OutOfMemory = stop.OutOfMemory

abbrev pub pattern_stop : PatternFault → Stop
pattern_stop (pattern.PatternHere word) = stop.Refused (refusal.Query pattern_here_code word)
pattern_stop (pattern.BadPattern literal) = stop.Refused (refusal.Query bad_pattern_code literal)
pattern_stop pattern.OutOfMemory = stop.OutOfMemory
