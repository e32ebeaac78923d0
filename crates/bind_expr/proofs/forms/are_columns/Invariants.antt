use Rattle.std.proofs.Common.{◌≡◌, length}
use Rattle.std.specs.List.{list_all}
use Rattle.bind_expr.specs.Forms.{is_column}
use Rattle.bind_expr.proofs.forms.are_columns.Given as goal

abbrev pub invariant-parts : goal.invariant-parts
invariant-parts l = list_all is_column l.left ≡ list_all is_column l.fn.es

abbrev pub decreases-parts : goal.decreases-parts
decreases-parts l = length l.left
