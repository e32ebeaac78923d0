-- The next records of two files.
use Rattle.std.specs.Prelude.{◌≡◌, ℕ, List}
use Rattle.kql_proposal.specs.declared.rows.Pair.{Pair}
use Rattle.kql_proposal.specs.declared.rows.Pair.TheVariants as pair

abbrev pub Records : Type 0
Records = List (List (List ℕ))

-- what is known of the records that were left, where the next ones are so, and these are left now
abbrev pub PairsAs : Pair → Records → Records → Records → Records → Type 0
PairsAs pair.Same a b left right = left ≡ right → a ≡ b
PairsAs pair.End a b left right = a ≡ b
PairsAs pair.Other a b left right = Unit {0}
