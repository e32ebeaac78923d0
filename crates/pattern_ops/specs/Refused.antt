-- What `regex` may say against a text: of one that the grammar takes nothing but that it is too large once compiled, whatever its size.
use Rattle.std.specs.Prelude.{◌≡◌, ◌≢◌, ℕ, List, Option}
use Rattle.regex.specs.declared.error.Error.{Error}
use Rattle.regex.specs.declared.error.Error.TheVariants.{CompiledTooBig, OutOfMemory}
use Rattle.regex.specs.Strings.{IsDefaultFailure}
use Rattle.pattern_search.specs.Regexes.{IsExpression}

-- what may be said against a text; want of memory is no fault of it
abbrev pub IsFault : List ℕ → Error → Type 0
IsFault text error = (error ≢ OutOfMemory) × IsDefaultFailure text error × (IsExpression text → error ≡ CompiledTooBig)

-- something may be said against the text
pub record IsRefusedExpression (text : List ℕ) : Type 0 where
  pub error : Error
  pub fault : IsFault text error

-- how many texts a maker refused, and what was said against the last of them
pub record RegexMakerState : Type 0 where
  pub faults : ℕ
  pub last : Option Error
