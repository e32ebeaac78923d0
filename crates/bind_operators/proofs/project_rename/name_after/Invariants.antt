use Rattle.std.proofs.Common.{◌≡◌, length}
use Rattle.std.specs.Prelude.{bytes_eq, find}
use Rattle.kql_syntax.specs.declared.tree.Name.{Name}
use Rattle.bind_operators.specs.Project.{name_after, old_name}
use Rattle.bind_operators.proofs.project_rename.name_after.Given as goal

abbrev pub invariant-each : goal.invariant-each
invariant-each l =
    name_after l.fn.c (find (λ (r : Name × Name). bytes_eq (old_name r) l.fn.c.name) l.left) ≡ name_after l.fn.c (find (λ (r : Name × Name). bytes_eq (old_name r) l.fn.c.name) l.fn.renames)

abbrev pub decreases-each : goal.decreases-each
decreases-each l = length l.left
