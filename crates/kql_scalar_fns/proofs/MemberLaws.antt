-- A list by the keys of its values.
use Rattle.std.proofs.Common.{◌≡◌, ◌||◌, Bool, true, false, List, [], ◌∷◌, ◌++◌, ◌∙◌, ap, ap₂, map, refl, sym}
use Rattle.std.specs.Prelude.{ℤ, ℕ}
use Rattle.std.specs.List.{flat_map, list_any}
use Rattle.std.proofs.lemmas.List.Folds.{list_any-append}
use Rattle.kql_texts.specs.Texts.{same}
use Rattle.kql_texts.specs.declared.folding.Fold.{Fold}
use Rattle.kql_texts.specs.declared.folding.Fold.TheVariants.{Caseless, Exact}
use Rattle.kql_cells.specs.Keys.{is_null, same_key}
use Rattle.kql_cells.specs.Values.{IsOfKind}
use Rattle.kql_cells.specs.declared.value.Kind.{Kind}
use Rattle.kql_cells.specs.declared.value.Kind.TheVariants as kind
use Rattle.kql_cells.specs.declared.value.Value.{Value}
use Rattle.kql_cells.specs.declared.value.Value.TheVariants as value
use Rattle.kql_functions.specs.Kinds.{is_dynamic}
use Rattle.kql_scalar_fns.specs.Comparison.{alike, equality, in_kind, in_type_of, is_among, is_match, members, text_equality, values_in}
use Rattle.kql_scalar_fns.specs.Logic.{is_true}

-- A value that is not null and not dynamic is equal to another where it has its key.

equal-bool : (b : Bool) (w : Value) → is_true (equality (value.Bool b) w) ≡ same_key (value.Bool b) w
unfolding equality same_key
equal-bool true (value.Bool c) = refl
equal-bool false (value.Bool c) = refl
equal-bool b value.Null = refl
equal-bool b (value.Long n) = refl
equal-bool b (value.Text t) = refl
equal-bool b (value.Moment n) = refl
equal-bool b (value.Span n) = refl
equal-bool b (value.Dynamic d) = refl

equal-long : (n : ℤ) (w : Value) → is_true (equality (value.Long n) w) ≡ same_key (value.Long n) w
unfolding equality same_key
equal-long n value.Null = refl
equal-long n (value.Bool b) = refl
equal-long n (value.Long m) = refl
equal-long n (value.Text t) = refl
equal-long n (value.Moment m) = refl
equal-long n (value.Span m) = refl
equal-long n (value.Dynamic d) = refl

equal-text : (t : List ℕ) (w : Value) → is_true (equality (value.Text t) w) ≡ same_key (value.Text t) w
unfolding equality same_key same
equal-text t value.Null = refl
equal-text t (value.Bool b) = refl
equal-text t (value.Long n) = refl
equal-text t (value.Text u) = refl
equal-text t (value.Moment n) = refl
equal-text t (value.Span n) = refl
equal-text t (value.Dynamic d) = refl

equal-moment : (n : ℤ) (w : Value) → is_true (equality (value.Moment n) w) ≡ same_key (value.Moment n) w
unfolding equality same_key
equal-moment n value.Null = refl
equal-moment n (value.Bool b) = refl
equal-moment n (value.Long m) = refl
equal-moment n (value.Text t) = refl
equal-moment n (value.Moment m) = refl
equal-moment n (value.Span m) = refl
equal-moment n (value.Dynamic d) = refl

equal-span : (n : ℤ) (w : Value) → is_true (equality (value.Span n) w) ≡ same_key (value.Span n) w
unfolding equality same_key
equal-span n value.Null = refl
equal-span n (value.Bool b) = refl
equal-span n (value.Long m) = refl
equal-span n (value.Text t) = refl
equal-span n (value.Moment m) = refl
equal-span n (value.Span m) = refl
equal-span n (value.Dynamic d) = refl

key-match : (k : Kind) (x v : Value) → is_dynamic k ≡ false → is_null x ≡ false → IsOfKind k x → is_match Exact x v ≡ same_key x (in_kind k v)
unfolding is_match alike in_type_of in_kind is_null
key-match kind.Bool (value.Bool b) v d n h = equal-bool b _
key-match kind.Long (value.Long m) v d n h = equal-long m _
key-match kind.Text (value.Text t) v d n h = equal-text t _
key-match kind.Moment (value.Moment m) v d n h = equal-moment m _
key-match kind.Span (value.Span m) v d n h = equal-span m _
key-match kind.Dynamic x v d n h = absurd cc
key-match k value.Null v d n h = absurd cc
key-match _ x v d n h = absurd h

any-mapped : (p q : Value → Bool) (f : Value → Value) → ((v : Value) → p v ≡ q (f v)) → (vs : List Value) → list_any p vs ≡ list_any q (map f vs)
any-mapped p q f h [] = refl
any-mapped p q f h (v ∷ vs) = ap₂ (λ a b. a || b) (h v) (any-mapped p q f h vs)

pub list-has-keys : (k : Kind) (x : Value) (operands : List Value) → is_dynamic k ≡ false → is_null x ≡ false → IsOfKind k x → is_among Exact x operands ≡ list_any (same_key x) (values_in k operands)
unfolding is_among values_in
list-has-keys k x [] d n h = refl
list-has-keys k x (w ∷ ws) d n h =
    ap₂ (λ a b. a || b) (any-mapped (is_match Exact x) (same_key x) (in_kind k) (λ v. key-match k x v d n h) (members w)) (list-has-keys k x ws d n h)
    ∙ sym (list_any-append (same_key x) (map (in_kind k) (members w)) (values_in k ws))

-- A null is in no list.

null-alike : (fold : Fold) (v : Value) → is_match fold value.Null v ≡ false
unfolding is_match alike in_type_of equality text_equality
null-alike Exact value.Null = refl
null-alike Exact (value.Bool b) = refl
null-alike Exact (value.Long n) = refl
null-alike Exact (value.Text t) = refl
null-alike Exact (value.Moment n) = refl
null-alike Exact (value.Span n) = refl
null-alike Exact (value.Dynamic d) = refl
null-alike Caseless v = refl

none-any : (p : Value → Bool) → ((v : Value) → p v ≡ false) → (vs : List Value) → list_any p vs ≡ false
none-any p h [] = refl
none-any p h (v ∷ vs) = rw (h v) (none-any p h vs)

pub null-in-none : (fold : Fold) (operands : List Value) → is_among fold value.Null operands ≡ false
unfolding is_among
null-in-none fold operands = none-any (λ w. list_any (is_match fold value.Null) (members w)) (λ w. none-any (is_match fold value.Null) (null-alike fold) (members w)) operands
