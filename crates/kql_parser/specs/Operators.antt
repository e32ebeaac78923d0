-- Which tokens are operators' names.
--
-- In tokens that begin a query an operator stands after each `|` and in the bracket of a `partition`, and nowhere else. The
-- words `range`, `print` and `union` are reserved, so they are words of sources wherever no operator and not any word may
-- stand. Any word may stand after a `.` and a `:`, as the value of a hint, and in the bracket of a `typeof`.
use Rattle.std.specs.Prelude.{ℕ, ◌+◌, ◌≡◌, Bool, true, false, if◌then◌else◌, nat_le, List, [], ◌∷◌, Option, Some, None}
use Rattle.kql_lexer.specs.declared.keyword.Keyword.TheVariants as word
use Rattle.kql_lexer.specs.declared.token.Token.{Token}
use Rattle.kql_lexer.specs.declared.token.TokenForm.{TokenForm}
use Rattle.kql_lexer.specs.declared.token.TokenForm.TheVariants as form
use Rattle.kql_parser.specs.declared.count.Next.{Next}
use Rattle.kql_parser.specs.declared.count.Next.TheVariants as next

-- what is known of the token after this one, where nothing was known of this one
unfoldable pub after_free : TokenForm → Next
after_free form.Bar = next.Operator
after_free form.Dot = next.AnyWord
after_free form.Colon = next.AnyWord
after_free (form.Word word.Hint t) = next.HintSign
after_free (form.Word word.Typeof t) = next.TypeBracket
after_free _ = next.Free

-- the same after an operator's name
unfoldable pub after_operator : TokenForm → Next
after_operator (form.Word word.Partition t) = next.PartBracket
after_operator _ = next.Free

-- the same in a hint
unfoldable pub after_hint : TokenForm → Next
after_hint form.Assign = next.AnyWord
after_hint _ = next.HintSign

-- the same behind `typeof`
unfoldable pub after_typeof : TokenForm → Next
after_typeof form.Open = next.AnyWord
after_typeof _ = next.TypeBracket

-- the same in the head of a partition
unfoldable pub after_head : TokenForm → Next
after_head form.Open = next.Operator
after_head _ = next.PartBracket

-- what is known of the token after this one, from what was known of this one
unfoldable pub after_token : Next → TokenForm → Next
after_token next.Free f = after_free f
after_token next.Operator f = after_operator f
after_token next.AnyWord f = next.Free
after_token next.HintSign f = after_hint f
after_token next.TypeBracket f = after_typeof f
after_token next.PartBracket f = after_head f

-- whether this is the word of a source that is no table's name
unfoldable pub is_source_word : TokenForm → Bool
is_source_word (form.Word word.Range t) = true
is_source_word (form.Word word.Print t) = true
is_source_word (form.Word word.Union t) = true
is_source_word _ = false

unfoldable pub is_word : TokenForm → Bool
is_word (form.Word k t) = true
is_word _ = false

-- whether a token of which this is known is an operator's name
unfoldable pub is_operator : Next → TokenForm → Bool
is_operator next.Free f = is_source_word f
is_operator next.Operator f = is_word f
is_operator _ f = false

-- the index of the first operator's name that has 256 before it, in a list that begins at index i, of whose first token this is
-- known, and before which so many stand
unfoldable pub one_too_many : ℕ → ℕ → Next → List Token → Option ℕ
one_too_many i named n [] = None
one_too_many i named n (t ∷ ts) =
    if is_operator n t.form then (if nat_le 256 named then Some i else one_too_many (i + 1) (named + 1) (after_token n t.form) ts)
    else one_too_many (i + 1) named (after_token n t.form) ts

-- the 257th operator's name stands at w
abbrev pub NamesTooMany : List Token → ℕ → Type 0
NamesTooMany s w = one_too_many 0 0 next.Free s ≡ Some w
