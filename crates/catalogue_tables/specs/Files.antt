-- The files that a shelf tells.
use Rattle.std.specs.Prelude.{ℕ, nat_le, List, length, Option, Some, None, Ok, Err, if◌then◌else◌}
use Rattle.kql_outside.specs.Told.{file_of}
use Rattle.kql_words.specs.Refusals.{Answer, ◌>>=◌}
use Rattle.kql_words.specs.declared.refusal.Refusal.TheVariants.{Data}

-- files by their path: the first of a path counts
abbrev pub Files : Type 0
Files = List (List ℕ × List ℕ)

abbrev pub found_as : ℕ → Option (List ℕ) → Answer (List ℕ)
found_as number None = Err (Data number 307 0 0)
found_as number (Some bytes) = Ok bytes

-- the bytes of the file of a path, or 307
unfoldable pub file_bytes : ℕ → Files → List ℕ → Answer (List ℕ)
file_bytes number files path = found_as number (file_of files path)

-- bytes, where there are no more than so many, or a refusal
unfoldable pub within : ℕ → ℕ → ℕ → List ℕ → Answer (List ℕ)
within number code top bytes = if nat_le (length bytes) top then Ok bytes else Err (Data number code 0 0)

-- the bytes of the file of a path, which may have so many
abbrev pub file_within : Files → ℕ → ℕ → ℕ → List ℕ → Answer (List ℕ)
file_within files number code top path = file_bytes number files path >>= within number code top
