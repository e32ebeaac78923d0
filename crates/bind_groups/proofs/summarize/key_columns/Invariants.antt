use Rattle.std.proofs.Common.{◌≡◌, take}
use Rattle.bind_groups.specs.Summarize.{key_columns}
use Rattle.bind_groups.proofs.summarize.key_columns.Given as goal

abbrev pub invariant-loop-key : goal.invariant-loop-key
invariant-loop-key l = l.columns ≡ key_columns l.scope (take l.key-index l.keys)
