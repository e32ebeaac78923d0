-- Against an expression nothing is said but that it is too large.
use Rattle.std.proofs.Common.{◌≡◌, ◌≢◌, ◌⊎◌, ◌<◌, ◌≤◌, ℕ, List, Option, None, Some, IsSomeAnd, refl, sym, inl, inr, arith}
use Rattle.std.specs.Prelude.{IfSome}
use Rattle.std.specs.Str.{chars}
use Rattle.std.proofs.lemmas.Option.{none-some}
use Rattle.regex_syntax.specs.Brackets.{Nested}
use Rattle.regex_syntax.specs.Grammar.{Names, read}
use Rattle.regex_syntax.specs.Verdict.{Refuses}
use Rattle.regex_syntax.specs.declared.error.ErrorKind.{ErrorKind}
use Rattle.regex_syntax.specs.declared.error.ErrorKind.TheVariants as kind
use Rattle.regex.specs.Failures.{IsRightKind}
use Rattle.regex.specs.Patterns.{Re, default_config}
use Rattle.regex.specs.Sources.{IsRefusal}
use Rattle.regex.specs.declared.error.Error.{Error}
use Rattle.regex.specs.declared.error.Error.TheVariants.{CompiledTooBig, Internal, OutOfMemory, Syntax}
use Rattle.pattern_search.specs.Failures.{IsOfGrammar}
use Rattle.pattern_search.specs.Regexes.{IsExpression}

not-read : (o : Option (Nested Re × Names)) (limit : ℕ) (k : ErrorKind) →
    (k ≡ kind.OutOfMemory) ⊎ ((o ≡ None) ⊎ ((k ≡ kind.NestLimitExceeded) × IfSome o (λ (re, _). limit < re.depth))) →
    k ≢ kind.OutOfMemory → IsSomeAnd o (λ (re, _). re.depth ≤ limit) → ⊥
not-read None limit k h other is = is
not-read (Some (re, names)) limit k (inl e) other is = other e
not-read (Some (re, names)) limit k (inr (inl e)) other is = none-some _ (sym e)
not-read (Some (re, names)) limit k (inr (inr h)) other is = omega (arith, h.1, is)

not-refused : (text : List ℕ) (k : ErrorKind) → Refuses default_config text k → k ≢ kind.OutOfMemory → IsExpression text → ⊥
unfolding Refuses IsExpression
not-refused text k h other is = not-read (read default_config (chars text)) default_config.nest_limit k h other is

pub of-grammar : (text : List ℕ) (error : Error) → IsRefusal default_config text error → IsRightKind default_config text error → error ≢ Internal → IsOfGrammar text error
of-grammar text (Syntax e) refused right other = λ some is. absurd (not-refused text e.kind (refused e refl) right is)
of-grammar text CompiledTooBig refused right other = λ some is. refl
of-grammar text Internal refused right other = λ some is. absurd (other refl)
of-grammar text OutOfMemory refused right other = λ some is. absurd (some refl)
