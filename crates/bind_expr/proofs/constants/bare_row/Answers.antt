use Rattle.std.proofs.Common.{ap, ◌∙◌}
use Rattle.kql_cells.specs.Table.{Grid}
use Rattle.bind_expr.proofs.ConstantSteps.{row-of-none}
use Rattle.bind_expr.proofs.constants.bare_row.Goals as goal

pub push_row-requires : goal.push_row-requires
push_row-requires c = row-of-none c.in_ok-table.table.columns c.new-2.result (ap (λ (t : Grid). t.columns) c.in_ok-table.ensures.parts ∙ c.new.ensures.empty) c.new-2.ensures.empty
