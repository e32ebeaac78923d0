-- Names and strings that are printed are names and strings of the language, which hold what was printed.
use Rattle.std.specs.Prelude.{◌≡◌, ℕ, true, false, List, [], ◌∷◌, Some, codes}
use Rattle.std.specs.List.{concat}
use Rattle.kql_lexer.specs.Bytes.{is_quote}
use Rattle.kql_lexer.specs.Pieces.{piece_of, token}
use Rattle.kql_lexer.specs.Words.{is_reserved, keyword_of}
use Rattle.kql_lexer.specs.declared.token.TokenForm.TheVariants as form
use Rattle.kql_plan_text.specs.Literals.{name_text, quoted}

-- between two signs of one kind stands one string, which holds the text
abbrev pub StringsReadBack : Type 0
StringsReadBack = (sign : ℕ) (t : List ℕ) → is_quote sign ≡ true → piece_of (quoted sign t) ≡ Some (token (form.Text t))

-- a name is printed as one word, which is not reserved, or as a string that holds it, between square brackets
pub data IsNamed (n : List ℕ) : Type 0 where
  as_word : name_text n ≡ n → piece_of n ≡ Some (token (form.Word (keyword_of n) n)) → is_reserved n ≡ false → IsNamed n
  in_brackets : (string : List ℕ) → name_text n ≡ concat (codes "[" ∷ string ∷ codes "]" ∷ []) → piece_of string ≡ Some (token (form.Text n)) → IsNamed n

abbrev pub NamesReadBack : Type 0
NamesReadBack = (n : List ℕ) → IsNamed n
