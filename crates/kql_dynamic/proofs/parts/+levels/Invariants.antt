use Rattle.std.proofs.Common.{◌≡◌, min, take}
use Rattle.kql_cells.specs.Dynamic.{highest, levels}
use Rattle.kql_dynamic.proofs.parts.+levels.Given as goal

abbrev pub invariant-highest_part-loop-part : goal.invariant-highest_part-loop-part
invariant-highest_part-loop-part l = l.top ≡ min (highest levels (take l.part-index l.parts)) 4294967295

abbrev pub invariant-highest_entry-loop-entry : goal.invariant-highest_entry-loop-entry
invariant-highest_entry-loop-entry l = l.top ≡ min (highest (λ e. levels e.1) (take l.entry-index l.entries)) 4294967295
