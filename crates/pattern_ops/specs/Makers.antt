-- How many texts a maker refused, and calls of which some fail.
use Rattle.std.specs.Prelude.{ℕ, ◌+◌, ◌-◌, ◌^◌, min, List, Contains, Result, Ok, Err}
use Rattle.pattern_ops.specs.declared.pattern.MakeFault.{MakeFault}
use Rattle.pattern_ops.specs.declared.pattern.MakeFault.TheVariants as fault

-- one more, but at a counter's last value, where the count stands still
abbrev pub next_count : ℕ → ℕ
next_count count = min (count + 1) (2 ^ 64 - 1)

-- the count behind a call that answers this: one more where it refused the text, and else the same
abbrev pub count_after : {T : Type 0} → Result T MakeFault → ℕ → ℕ
count_after (Ok made) count = count
count_after (Err fault.Failed) count = next_count count
count_after (Err fault.OutOfMemory) count = count

-- the numbers of the calls that fail, from 0, how many calls there were, and how many failed
pub record MakerState : Type 0 where
  pub failing : List ℕ
  pub made : ℕ
  pub faults : ℕ

-- the next call is one of those that fail
abbrev pub NextFails : MakerState → Type 0
NextFails maker = Contains maker.failing maker.made
