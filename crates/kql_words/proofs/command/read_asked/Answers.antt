use Rattle.std.proofs.Common.{refl}
use Rattle.kql_words.proofs.UnlessFacts.{raised-refusal}
use Rattle.kql_words.proofs.AskedLaws.{asked-err, asked-ok, asked-tables}
use Rattle.kql_words.proofs.command.read_asked.Goals as goal

pub returns-in_err-check_tables-clause-read : goal.returns-in_err-check_tables-clause-read
returns-in_err-check_tables-clause-read c =
    raised-refusal _ _ c.in_err-check_tables.field-0.0 c.from_residual-in_err-check_tables.ensures.1 (asked-err c.args.may_have_types c.args.words.now _ c.in_ok-asked.asked _ c.in_ok-asked.ensures.read refl c.in_err-check_tables.ensures.checked)

pub returns-clause-read : goal.returns-clause-read
returns-clause-read c = asked-ok c.args.may_have_types c.args.words.now _ c.in_ok-asked.asked _ c.in_ok-asked.ensures.read refl c.in_ok-check_tables.ensures.checked

pub returns-clause-tables : goal.returns-clause-tables
returns-clause-tables c = asked-tables c.args.words.now _ c.in_ok-asked.asked _ refl c.in_ok-check_tables.ensures.checked
