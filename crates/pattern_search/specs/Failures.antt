-- What may be said against a text that the grammar takes.
use Rattle.std.specs.Prelude.{◌≡◌, ◌≢◌, ℕ, List}
use Rattle.regex.specs.declared.error.Error.{Error}
use Rattle.regex.specs.declared.error.Error.TheVariants.{CompiledTooBig, OutOfMemory}
use Rattle.pattern_search.specs.Regexes.{IsExpression}

-- Of an expression, nothing but that it is too large once compiled. Want of memory is no fault of the text.
abbrev pub IsOfGrammar : List ℕ → Error → Type 0
IsOfGrammar text error = error ≢ OutOfMemory → IsExpression text → error ≡ CompiledTooBig
