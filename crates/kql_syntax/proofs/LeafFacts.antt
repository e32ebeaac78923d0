-- Each token of a class has a line in the table of what it says.
use Rattle.std.proofs.Common.{◌≡◌, true, List, [], ◌∷◌, refl, sym, true≢false}
use Rattle.std.specs.Prelude.{ℕ, Option, Some, None, is_some, unwrap_or}
use Rattle.kql_lexer.specs.declared.keyword.Keyword.{Keyword}
use Rattle.kql_lexer.specs.declared.keyword.Keyword.TheVariants as word
use Rattle.kql_lexer.specs.declared.place.Place.{Place}
use Rattle.kql_lexer.specs.declared.token.TokenForm.{TokenForm}
use Rattle.kql_lexer.specs.declared.token.TokenForm.TheVariants as form
use Rattle.kql_syntax.specs.declared.class.Class.TheVariants as class
use Rattle.kql_syntax.specs.Classes.{has}
use Rattle.kql_syntax.specs.Leaves.{literal_at, word_op, negated_op, compare_op, in_op, between_op, sum_op, prod_op}
use Rattle.kql_syntax.specs.Levels.{literals, comparisons, memberships, betweens}

-- what is there is what is taken out
pub taken : {A : Type 0} (o : Option A) (d : A) → is_some o ≡ true → o ≡ Some (unwrap_or o d)
taken None d h = absurd (true≢false (sym h))
taken (Some x) d h = refl

literal_word : (p : Place) (k : Keyword) (t : List ℕ) → is_some (literal_at p (form.Word k t)) ≡ has literals (form.Word k t)
unfolding literal_at
literal_word p word.Other t = refl
literal_word p _ t = refl

literal_negated : (p : Place) (k : Keyword) → is_some (literal_at p (form.Negated k)) ≡ has literals (form.Negated k)
unfolding literal_at
literal_negated p word.Other = refl
literal_negated p _ = refl

pub literal_known : (p : Place) (f : TokenForm) → is_some (literal_at p f) ≡ has literals f
unfolding literal_at
literal_known p (form.Word k t) = literal_word p k t
literal_known p (form.Negated k) = literal_negated p k
literal_known p _ = refl

compare_word : (k : Keyword) (t : List ℕ) → is_some (compare_op (form.Word k t)) ≡ has comparisons (form.Word k t)
unfolding compare_op word_op negated_op
compare_word word.Other t = refl
compare_word _ t = refl

compare_negated : (k : Keyword) → is_some (compare_op (form.Negated k)) ≡ has comparisons (form.Negated k)
unfolding compare_op word_op negated_op
compare_negated word.Other = refl
compare_negated _ = refl

pub compare_known : (f : TokenForm) → is_some (compare_op f) ≡ has comparisons f
unfolding compare_op word_op negated_op
compare_known (form.Word k t) = compare_word k t
compare_known (form.Negated k) = compare_negated k
compare_known _ = refl

in_word : (k : Keyword) (t : List ℕ) → is_some (in_op (form.Word k t)) ≡ has memberships (form.Word k t)
unfolding in_op
in_word word.Other t = refl
in_word _ t = refl

in_negated : (k : Keyword) → is_some (in_op (form.Negated k)) ≡ has memberships (form.Negated k)
unfolding in_op
in_negated word.Other = refl
in_negated _ = refl

pub in_known : (f : TokenForm) → is_some (in_op f) ≡ has memberships f
unfolding in_op
in_known (form.Word k t) = in_word k t
in_known (form.Negated k) = in_negated k
in_known _ = refl

between_word : (k : Keyword) (t : List ℕ) → is_some (between_op (form.Word k t)) ≡ has betweens (form.Word k t)
unfolding between_op
between_word word.Other t = refl
between_word _ t = refl

between_negated : (k : Keyword) → is_some (between_op (form.Negated k)) ≡ has betweens (form.Negated k)
unfolding between_op
between_negated word.Other = refl
between_negated _ = refl

pub between_known : (f : TokenForm) → is_some (between_op f) ≡ has betweens f
unfolding between_op
between_known (form.Word k t) = between_word k t
between_known (form.Negated k) = between_negated k
between_known _ = refl

sum_word : (k : Keyword) (t : List ℕ) → is_some (sum_op (form.Word k t)) ≡ has (class.Plus ∷ class.Minus ∷ []) (form.Word k t)
unfolding sum_op
sum_word word.Other t = refl
sum_word _ t = refl

sum_negated : (k : Keyword) → is_some (sum_op (form.Negated k)) ≡ has (class.Plus ∷ class.Minus ∷ []) (form.Negated k)
unfolding sum_op
sum_negated word.Other = refl
sum_negated _ = refl

pub sum_known : (f : TokenForm) → is_some (sum_op f) ≡ has (class.Plus ∷ class.Minus ∷ []) f
unfolding sum_op
sum_known (form.Word k t) = sum_word k t
sum_known (form.Negated k) = sum_negated k
sum_known _ = refl

prod_word : (k : Keyword) (t : List ℕ) → is_some (prod_op (form.Word k t)) ≡ has (class.Star ∷ class.Slash ∷ class.Percent ∷ []) (form.Word k t)
unfolding prod_op
prod_word word.Other t = refl
prod_word _ t = refl

prod_negated : (k : Keyword) → is_some (prod_op (form.Negated k)) ≡ has (class.Star ∷ class.Slash ∷ class.Percent ∷ []) (form.Negated k)
unfolding prod_op
prod_negated word.Other = refl
prod_negated _ = refl

pub prod_known : (f : TokenForm) → is_some (prod_op f) ≡ has (class.Star ∷ class.Slash ∷ class.Percent ∷ []) f
unfolding prod_op
prod_known (form.Word k t) = prod_word k t
prod_known (form.Negated k) = prod_negated k
prod_known _ = refl
