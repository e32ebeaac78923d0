-- Each token of a choice of words has a line in the table of what they say.
use Rattle.std.proofs.Common.{◌≡◌, ◌∙◌, List, refl}
use Rattle.std.specs.Prelude.{ℕ, is_some}
use Rattle.kql_lexer.specs.declared.keyword.Keyword.{Keyword}
use Rattle.kql_lexer.specs.declared.keyword.Keyword.TheVariants as word
use Rattle.kql_lexer.specs.declared.place.Place.{Place}
use Rattle.kql_lexer.specs.declared.token.TokenForm.{TokenForm}
use Rattle.kql_lexer.specs.declared.token.TokenForm.TheVariants as form
use Rattle.kql_syntax.specs.Classes.{has}
use Rattle.kql_syntax.specs.Grammar.{orders, nulls_ends, expand_kinds, parse_kinds, union_kinds, outputs, hint_values, join_kinds}
use Rattle.kql_syntax.specs.Leaves.{sort_order_at, nulls_end_at, expand_kind_at, parse_kind_at, union_kind_at, output_at, hint_value_at, join_kind_at, join_kind_of, sort_order_of, nulls_end_of, expand_kind_of, parse_kind_of, union_kind_of, output_of, hint_value_of}
use Rattle.kql_syntax.specs.Spelled.{IsSpelled}
use Rattle.kql_syntax.proofs.LeafFacts.{taken}

sort_order_word : (p : Place) (k : Keyword) (t : List ℕ) → is_some (sort_order_at p (form.Word k t)) ≡ has orders (form.Word k t)
unfolding sort_order_at
sort_order_word p word.Other t = refl
sort_order_word p _ t = refl

sort_order_negated : (p : Place) (k : Keyword) → is_some (sort_order_at p (form.Negated k)) ≡ has orders (form.Negated k)
unfolding sort_order_at
sort_order_negated p word.Other = refl
sort_order_negated p _ = refl

sort_order_known : (p : Place) (f : TokenForm) → is_some (sort_order_at p f) ≡ has orders f
unfolding sort_order_at
sort_order_known p (form.Word k t) = sort_order_word p k t
sort_order_known p (form.Negated k) = sort_order_negated p k
sort_order_known p _ = refl

pub sort_order_spelled : IsSpelled orders sort_order_at sort_order_of
sort_order_spelled t h = taken _ _ (sort_order_known t.place t.form ∙ h)

nulls_end_word : (p : Place) (k : Keyword) (t : List ℕ) → is_some (nulls_end_at p (form.Word k t)) ≡ has nulls_ends (form.Word k t)
unfolding nulls_end_at
nulls_end_word p word.Other t = refl
nulls_end_word p _ t = refl

nulls_end_negated : (p : Place) (k : Keyword) → is_some (nulls_end_at p (form.Negated k)) ≡ has nulls_ends (form.Negated k)
unfolding nulls_end_at
nulls_end_negated p word.Other = refl
nulls_end_negated p _ = refl

nulls_end_known : (p : Place) (f : TokenForm) → is_some (nulls_end_at p f) ≡ has nulls_ends f
unfolding nulls_end_at
nulls_end_known p (form.Word k t) = nulls_end_word p k t
nulls_end_known p (form.Negated k) = nulls_end_negated p k
nulls_end_known p _ = refl

pub nulls_end_spelled : IsSpelled nulls_ends nulls_end_at nulls_end_of
nulls_end_spelled t h = taken _ _ (nulls_end_known t.place t.form ∙ h)

expand_kind_word : (p : Place) (k : Keyword) (t : List ℕ) → is_some (expand_kind_at p (form.Word k t)) ≡ has expand_kinds (form.Word k t)
unfolding expand_kind_at
expand_kind_word p word.Other t = refl
expand_kind_word p _ t = refl

expand_kind_negated : (p : Place) (k : Keyword) → is_some (expand_kind_at p (form.Negated k)) ≡ has expand_kinds (form.Negated k)
unfolding expand_kind_at
expand_kind_negated p word.Other = refl
expand_kind_negated p _ = refl

expand_kind_known : (p : Place) (f : TokenForm) → is_some (expand_kind_at p f) ≡ has expand_kinds f
unfolding expand_kind_at
expand_kind_known p (form.Word k t) = expand_kind_word p k t
expand_kind_known p (form.Negated k) = expand_kind_negated p k
expand_kind_known p _ = refl

pub expand_kind_spelled : IsSpelled expand_kinds expand_kind_at expand_kind_of
expand_kind_spelled t h = taken _ _ (expand_kind_known t.place t.form ∙ h)

parse_kind_word : (p : Place) (k : Keyword) (t : List ℕ) → is_some (parse_kind_at p (form.Word k t)) ≡ has parse_kinds (form.Word k t)
unfolding parse_kind_at
parse_kind_word p word.Other t = refl
parse_kind_word p _ t = refl

parse_kind_negated : (p : Place) (k : Keyword) → is_some (parse_kind_at p (form.Negated k)) ≡ has parse_kinds (form.Negated k)
unfolding parse_kind_at
parse_kind_negated p word.Other = refl
parse_kind_negated p _ = refl

parse_kind_known : (p : Place) (f : TokenForm) → is_some (parse_kind_at p f) ≡ has parse_kinds f
unfolding parse_kind_at
parse_kind_known p (form.Word k t) = parse_kind_word p k t
parse_kind_known p (form.Negated k) = parse_kind_negated p k
parse_kind_known p _ = refl

pub parse_kind_spelled : IsSpelled parse_kinds parse_kind_at parse_kind_of
parse_kind_spelled t h = taken _ _ (parse_kind_known t.place t.form ∙ h)

union_kind_word : (p : Place) (k : Keyword) (t : List ℕ) → is_some (union_kind_at p (form.Word k t)) ≡ has union_kinds (form.Word k t)
unfolding union_kind_at
union_kind_word p word.Other t = refl
union_kind_word p _ t = refl

union_kind_negated : (p : Place) (k : Keyword) → is_some (union_kind_at p (form.Negated k)) ≡ has union_kinds (form.Negated k)
unfolding union_kind_at
union_kind_negated p word.Other = refl
union_kind_negated p _ = refl

union_kind_known : (p : Place) (f : TokenForm) → is_some (union_kind_at p f) ≡ has union_kinds f
unfolding union_kind_at
union_kind_known p (form.Word k t) = union_kind_word p k t
union_kind_known p (form.Negated k) = union_kind_negated p k
union_kind_known p _ = refl

pub union_kind_spelled : IsSpelled union_kinds union_kind_at union_kind_of
union_kind_spelled t h = taken _ _ (union_kind_known t.place t.form ∙ h)

output_word : (p : Place) (k : Keyword) (t : List ℕ) → is_some (output_at p (form.Word k t)) ≡ has outputs (form.Word k t)
unfolding output_at
output_word p word.Other t = refl
output_word p _ t = refl

output_negated : (p : Place) (k : Keyword) → is_some (output_at p (form.Negated k)) ≡ has outputs (form.Negated k)
unfolding output_at
output_negated p word.Other = refl
output_negated p _ = refl

output_known : (p : Place) (f : TokenForm) → is_some (output_at p f) ≡ has outputs f
unfolding output_at
output_known p (form.Word k t) = output_word p k t
output_known p (form.Negated k) = output_negated p k
output_known p _ = refl

pub output_spelled : IsSpelled outputs output_at output_of
output_spelled t h = taken _ _ (output_known t.place t.form ∙ h)

hint_value_word : (p : Place) (k : Keyword) (t : List ℕ) → is_some (hint_value_at p (form.Word k t)) ≡ has hint_values (form.Word k t)
unfolding hint_value_at
hint_value_word p word.Other t = refl
hint_value_word p _ t = refl

hint_value_negated : (p : Place) (k : Keyword) → is_some (hint_value_at p (form.Negated k)) ≡ has hint_values (form.Negated k)
unfolding hint_value_at
hint_value_negated p word.Other = refl
hint_value_negated p _ = refl

hint_value_known : (p : Place) (f : TokenForm) → is_some (hint_value_at p f) ≡ has hint_values f
unfolding hint_value_at
hint_value_known p (form.Word k t) = hint_value_word p k t
hint_value_known p (form.Negated k) = hint_value_negated p k
hint_value_known p _ = refl

pub hint_value_spelled : IsSpelled hint_values hint_value_at hint_value_of
hint_value_spelled t h = taken _ _ (hint_value_known t.place t.form ∙ h)

join_word : (k : Keyword) (t : List ℕ) → is_some (join_kind_at (form.Word k t)) ≡ has join_kinds (form.Word k t)
unfolding join_kind_at
join_word word.Other t = refl
join_word _ t = refl

join_negated : (k : Keyword) → is_some (join_kind_at (form.Negated k)) ≡ has join_kinds (form.Negated k)
unfolding join_kind_at
join_negated word.Other = refl
join_negated _ = refl

join_known : (f : TokenForm) → is_some (join_kind_at f) ≡ has join_kinds f
unfolding join_kind_at
join_known (form.Word k t) = join_word k t
join_known (form.Negated k) = join_negated k
join_known _ = refl

pub join_spelled : IsSpelled join_kinds (λ _ f. join_kind_at f) (λ t. join_kind_of t.form)
unfolding join_kind_of
join_spelled t h = taken _ _ (join_known t.form ∙ h)
