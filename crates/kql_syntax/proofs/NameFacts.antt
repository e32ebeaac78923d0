-- The numbers of names are those of the words that are not reserved.
use Rattle.std.proofs.Common.{◌≡◌, ℕ, List, ◌&&◌, not, [], ◌∷◌, refl, ◌∙◌, Bool, true, false, ◌||◌, sym}
use Rattle.std.specs.Prelude.{nat_le}
use Rattle.kql_lexer.specs.Words.{is_reserved_keyword}
use Rattle.kql_lexer.specs.declared.keyword.Keyword.{Keyword}
use Rattle.kql_lexer.specs.declared.keyword.Keyword.TheVariants as word
use Rattle.kql_lexer.specs.declared.token.TokenForm.TheVariants as form
use Rattle.kql_syntax.specs.declared.class.Class.TheVariants as class
use Rattle.kql_syntax.specs.Classes.{word_number, has}

name_number : (k : Keyword) → not (is_reserved_keyword k) ≡ (nat_le 100 (word_number k) && nat_le (word_number k) 199)
unfolding is_reserved_keyword
name_number word.Other = refl
name_number _ = refl

or-false : (b : Bool) → (b || false) ≡ b
or-false true = refl
or-false false = refl

-- a word is of the class of names where it is not reserved
pub word_named : (k : Keyword) (t : List ℕ) → not (is_reserved_keyword k) ≡ has (class.Name ∷ []) (form.Word k t)
word_named k t = name_number k ∙ sym (or-false _)
