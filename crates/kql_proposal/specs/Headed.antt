-- A file under another header.
use Rattle.std.specs.Prelude.{◌≡◌, ℕ, List, [], ◌∷◌, ◌++◌, Result, Ok, Err, drop, length}
use Rattle.csv_io.specs.Faults.{Fault}
use Rattle.csv_io.specs.Text.{names_of}
use Rattle.kql_cells.specs.Table.{Grid}
use Rattle.kql_cells.specs.declared.schema.Column.{Column}
use Rattle.kql_cells.specs.declared.value.Kind.{Kind}
use Rattle.kql_cells.specs.declared.value.Kind.TheVariants as kind

-- a text is a header, and behind it a file from a place on
abbrev pub IsHeaded : List ℕ → List ℕ → List ℕ → Type 0
IsHeaded header file text = (n : ℕ) × (text ≡ header ++ drop n file)

-- what a file loads as, and what the other one does: both load, with columns of the same names and as many rows
abbrev pub IsRetyped : Result Grid Fault → Result Grid Fault → Type 0
IsRetyped (Ok given) (Ok read) = (names_of read.columns ≡ names_of given.columns) × (length read.lines ≡ length given.lines)
IsRetyped (Ok given) (Err fault) = ⊥
IsRetyped (Err fault) read = ⊥

-- columns with other types; a string where no other is given
abbrev pub kinds_given : List Column → List Kind → List Column
kinds_given [] ks = []
kinds_given (c ∷ cs) [] = record { name = c.name; kind = kind.Text } ∷ kinds_given cs []
kinds_given (c ∷ cs) (k ∷ ks) = record { name = c.name; kind = k } ∷ kinds_given cs ks
