use Rattle.kql_program.proofs.CallFacts.{raised-stops}
use Rattle.kql_program.proofs.WordFacts.{raised-words, stopped-words}
use Rattle.kql_live.proofs.LiveFileFacts.{alike-words, batch-differs, batch-ok, batch-stop}
use Rattle.kql_live.proofs.files.read_batch.Goals as goal

pub returns-in_err-table-clause-batch : goal.returns-in_err-table-clause-batch
returns-in_err-table-clause-batch g c = batch-stop _ c.args.opening.now.columns c.args.number c.args.room c.args.path.now _ _ c.in_err-table.ensures.table c.from_residual.ensures.1

pub returns-in_err-table-clause-words : goal.returns-in_err-table-clause-words
returns-in_err-table-clause-words g c = raised-words _ _ c.from_residual.ensures.1 (stopped-words _ c.in_err-table.ensures.words)

pub returns-in_err-table-clause-stops : goal.returns-in_err-table-clause-stops
returns-in_err-table-clause-stops g c = raised-stops _ _ _ _ c.from_residual.ensures.1 c.in_err-table.ensures.stops

pub returns-in_err-batch-clause-batch : goal.returns-in_err-batch-clause-batch
returns-in_err-batch-clause-batch g c =
    batch-differs _ c.args.opening.now.columns c.args.number c.args.room c.in_ok-table.left c.args.path.now c.in_ok-table.table _ _ c.in_ok-table.ensures.table c.in_err-batch.ensures.alike c.from_residual-in_err-batch.ensures.1

pub returns-in_err-batch-clause-words : goal.returns-in_err-batch-clause-words
returns-in_err-batch-clause-words g c =
    raised-words _ _ c.from_residual-in_err-batch.ensures.1 (alike-words c.args.number c.args.opening.now.columns c.in_ok-table.table _ c.in_err-batch.ensures.alike)

pub returns-in_err-batch-clause-stops : goal.returns-in_err-batch-clause-stops
returns-in_err-batch-clause-stops g c = raised-stops _ _ _ _ c.from_residual-in_err-batch.ensures.1 c.in_ok-table.ensures.stops

pub returns-clause-batch : goal.returns-clause-batch
returns-clause-batch g c =
    batch-ok _ c.args.opening.now.columns c.args.number c.args.room c.in_ok-table.left c.args.path.now c.in_ok-table.table c.in_ok-batch.batch c.in_ok-table.ensures.table c.in_ok-batch.ensures.alike
