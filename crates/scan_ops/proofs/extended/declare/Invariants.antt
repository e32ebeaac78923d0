use Rattle.std.proofs.Common.{◌≡◌, take}
use Rattle.scan_ops.specs.Extended.{with_columns}
use Rattle.scan_ops.proofs.extended.declare.Given as goal

-- the columns that were added
abbrev pub invariant-each : goal.invariant-each
invariant-each l = l.t ≡ with_columns (take l.decl-index l.declared) l.fn.t
