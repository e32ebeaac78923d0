use Rattle.kql_program.proofs.CallFacts.{raised-stops, stops-behind}
use Rattle.kql_program.proofs.WordFacts.{raised-words, stopped-words}
use Rattle.kql_words.specs.Options.{limit_ungiven}
use Rattle.kql_live.proofs.LiveFileFacts.{tables-first, tables-next, tables-ok}
use Rattle.kql_live.proofs.files.read_live_tables.Goals as goal

pub returns-in_err-opening-clause-tables : goal.returns-in_err-opening-clause-tables
returns-in_err-opening-clause-tables g c = tables-first _ limit_ungiven c.args.path.now c.args.paths.now _ _ c.in_err-opening.ensures.table c.from_residual.ensures.1

pub returns-in_err-opening-clause-words : goal.returns-in_err-opening-clause-words
returns-in_err-opening-clause-words g c = raised-words _ _ c.from_residual.ensures.1 (stopped-words _ c.in_err-opening.ensures.words)

pub returns-in_err-opening-clause-stops : goal.returns-in_err-opening-clause-stops
returns-in_err-opening-clause-stops g c = raised-stops _ _ _ _ c.from_residual.ensures.1 c.in_err-opening.ensures.stops

pub returns-in_err-batches-clause-tables : goal.returns-in_err-batches-clause-tables
returns-in_err-batches-clause-tables g c =
    tables-next _ _ limit_ungiven c.in_ok-opening.room c.args.path.now c.args.paths.now c.in_ok-opening.opening _ _ c.in_ok-opening.ensures.table c.in_ok-opening.ensures.files c.in_err-batches.ensures.batches c.from_residual-in_err-batches.ensures.1

pub returns-in_err-batches-clause-words : goal.returns-in_err-batches-clause-words
returns-in_err-batches-clause-words g c = raised-words _ _ c.from_residual-in_err-batches.ensures.1 (stopped-words _ c.in_err-batches.ensures.words)

pub returns-in_err-batches-clause-stops : goal.returns-in_err-batches-clause-stops
returns-in_err-batches-clause-stops g c = raised-stops _ _ _ _ c.from_residual-in_err-batches.ensures.1 (stops-behind _ _ _ _ c.in_ok-opening.ensures.stops c.in_err-batches.ensures.stops)

pub returns-clause-tables : goal.returns-clause-tables
returns-clause-tables g c =
    tables-ok _ _ limit_ungiven c.in_ok-opening.room c.args.path.now c.args.paths.now c.in_ok-opening.opening c.in_ok-batches.batches c.in_ok-opening.ensures.table c.in_ok-opening.ensures.files c.in_ok-batches.ensures.batches
