-- What a search reads of a text.
use Rattle.std.specs.Prelude.{ℕ, List}
use Rattle.std.specs.Str.{chars, encode_utf8_all}
use Rattle.caseless.specs.Caseless.{default_case_fold}
use Rattle.kql_texts.specs.declared.folding.Fold.{Fold}
use Rattle.kql_texts.specs.declared.folding.Fold.TheVariants.{Exact, Caseless}

-- the text itself, or its default case fold
abbrev pub folded : Fold → List ℕ → List ℕ
folded Exact t = t
folded Caseless t = encode_utf8_all (default_case_fold (chars t))
