use Rattle.std.proofs.Common.{sym, ◌∙◌}
use Rattle.live_tables.proofs.ColumnLaws.{differ_nowhere, told_none}
use Rattle.live_tables.proofs.columns.have_equal_columns.Goals as goal

pub returns : goal.returns
returns c =
    let none = differ_nowhere c.args.columns.now c.args.others.now in
    let place = c.first_difference.ensures.place in
    let told = told_none _ _ c.is_none.ensures in
    record { equal = (λ t. none.0 (sym place ∙ told.0 t), λ e. told.1 (place ∙ none.1 e)) }
