-- The rows of the greatest and the least value.
use Rattle.std.proofs.Common.{◌≡◌, ◌≢◌, ◌<◌, ◌⊎◌, ℕ, Bool, true, false, List, [], ◌∷◌, length, refl, sym, subst, ap, ◌∙◌, arith, inl, inr, ℤ}
use Rattle.std.specs.Prelude.{fold, if◌then◌else◌}
use Rattle.std.specs.List.{position_or_len}
use Rattle.std.specs.Ordering.{int_cmp, is_lt, ordering_reverse}
use Rattle.std.specs.declared.cmp.Ordering.{Ordering}
use Rattle.std.specs.declared.cmp.Ordering.TheVariants.{Less, Equal, Greater}
use Rattle.std.proofs.lemmas.Bool.{cases_Bool}
use Rattle.std.proofs.lemmas.Cmp.{int_cmp_total}
use Rattle.std.proofs.lemmas.List.Sums.{fails_before_first, passes_at_first}
use Rattle.kql_cells.specs.declared.value.Value.{Value}
use Rattle.kql_cells.specs.declared.value.Value.TheVariants as value
use Rattle.kql_scalar_fns.specs.Choice.{greater, greatest, is_below, is_null, least, lesser}
use Rattle.kql_scalar_fns.specs.Comparison.{order}
use Rattle.kql_meaning.specs.Results.{greatest_row, least_row, row_of}
use Rattle.kql_meaning.specs.LawsOfChoices.{GreatestIsOfRow, GreatestRowIsFirst, IsFirstBest, LeastIsOfRow, LeastRowIsFirst, value_at}
use Rattle.kql_meaning.specs.Values.{same_key}
use Rattle.kql_cells.specs.Keys.{same_key-decides}
use Rattle.kql_meaning.proofs.MemberLaws.{Member, member-contains}

-- The first row of a value that stands among them.

first-within : (p : Value → Bool) (v : Value) (vs : List Value) → Member v vs → p v ≡ true → position_or_len p vs < length vs
first-within p v [] m e = absurd m
first-within p v (w ∷ ws) m e = elim (cases_Bool (p w)) [
  | inl t ↦ rw t (omega arith)
  | inr n ↦ elim m [
    | inl s ↦ absurd (let c : false ≡ true = sym n ∙ (ap p s ∙ e) in cc)
    | inr r ↦ rw n (omega (arith, first-within p v ws r e))
  ]
]

row-within : (v : Value) (vs : List Value) → Member v vs → row_of v vs < length vs
unfolding row_of
row-within v vs m = first-within (same_key v) v vs m ((same_key-decides v v).1 refl)

value-of-row : (v : Value) (vs : List Value) → Member v vs → v ≡ value_at vs (row_of v vs)
unfolding row_of
value-of-row v vs m =
    let at = value_at vs (position_or_len (same_key v) vs) in
    (same_key-decides v at).0 (passes_at_first (same_key v) vs value.Null (first-within (same_key v) v vs m ((same_key-decides v v).1 refl)))

not-before : (v : Value) (vs : List Value) (j : ℕ) → j < row_of v vs → value_at vs j ≢ v
unfolding row_of
not-before v vs j lt e =
    let c : false ≡ true = sym (fails_before_first (same_key v) vs j value.Null lt) ∙ (same_key-decides v (value_at vs j)).1 (sym e) in
    cc

-- Choices from the left, by a test whether a value beats another.

null-is : (v : Value) → is_null v ≡ true → v ≡ value.Null
unfolding is_null
null-is value.Null e = refl
null-is v e = cc

given-value : (a : Value) → is_null a ≡ false → a ≡ value.Null → ⊥
unfolding is_null
given-value a n e = let c : false ≡ true = sym n ∙ ap is_null e in cc

no-contradiction : (b : Bool) → (b ≡ true → ⊥) → b ≡ false
no-contradiction true h = absurd (h refl)
no-contradiction false h = refl

abbrev chosen : (Value → Value → Bool) → Value → Value → Value
chosen beats a b = if is_null a then b else if beats b a then b else a

module _ (beats : Value → Value → Bool) (null-never : (v : Value) → beats value.Null v ≡ false) (not-itself : (v : Value) → beats v v ≡ false) (through : (u v w : Value) → beats u v ≡ true → beats v w ≡ true → beats u w ≡ true) where
  -- A value that does not beat this one, which is null only where that is.
  abbrev Covers : Value → Value → Type 0
  Covers a v = (beats v a ≡ false) × (a ≡ value.Null → v ≡ value.Null)

  keeps : (a b v : Value) → Covers a v → Covers (chosen beats a b) v
  keeps a b v h = elim (cases_Bool (is_null a)) [
    | inl t ↦
        let nothing : v ≡ value.Null = h.1 (null-is a t) in
        rw (t, nothing) (null-never b, λ e. refl)
    | inr n ↦ elim (cases_Bool (beats b a)) [
      | inl t ↦ rw (n, t) (
        no-contradiction (beats v b) (λ u. let c : false ≡ true = sym h.0 ∙ through v b a u t in cc),
        λ e. absurd (let c : false ≡ true = sym (null-never a) ∙ subst (λ w. beats w a ≡ true) e t in cc),
      )
      | inr k ↦ rw (n, k) h
    ]
  ]

  takes-in : (a b : Value) → Covers (chosen beats a b) b
  takes-in a b = elim (cases_Bool (is_null a)) [
    | inl t ↦ rw t (not-itself b, λ e. e)
    | inr n ↦ elim (cases_Bool (beats b a)) [
      | inl t ↦ rw (n, t) (not-itself b, λ e. e)
      | inr k ↦ rw (n, k) (k, λ e. absurd (given-value a n e))
    ]
  ]

  covers-on : (a v : Value) (vs : List Value) → Covers a v → Covers (fold (chosen beats) a vs) v
  covers-on a v [] h = h
  covers-on a v (w ∷ ws) h = covers-on (chosen beats a w) v ws (keeps a w v h)

  covers-all : (a v : Value) (vs : List Value) → Member v vs → Covers (fold (chosen beats) a vs) v
  covers-all a v [] m = absurd m
  covers-all a v (w ∷ ws) (inl e) = covers-on (chosen beats a w) v ws (subst (Covers (chosen beats a w)) e (takes-in a w))
  covers-all a v (w ∷ ws) (inr m) = covers-all (chosen beats a w) v ws m

  one-of-two : (a b : Value) → (chosen beats a b ≡ a) ⊎ (chosen beats a b ≡ b)
  one-of-two a b = elim (cases_Bool (is_null a)) [
    | inl t ↦ inr (rw t refl)
    | inr n ↦ elim (cases_Bool (beats b a)) [
      | inl t ↦ inr (rw (n, t) refl)
      | inr k ↦ inl (rw (n, k) refl)
    ]
  ]

  stands-there : (a : Value) (vs : List Value) → (fold (chosen beats) a vs ≡ a) ⊎ Member (fold (chosen beats) a vs) vs
  stands-there a [] = inl refl
  stands-there a (w ∷ ws) = elim (stands-there (chosen beats a w) ws) [
    | inl e ↦ elim (one-of-two a w) [
      | inl l ↦ inl (e ∙ l)
      | inr r ↦ inr (inl (sym (e ∙ r)))
    ]
    | inr m ↦ inr (inr m)
  ]

  best-stands : (vs : List Value) → 0 < length vs → Member (fold (chosen beats) value.Null vs) vs
  best-stands [] some = absurd (omega arith)
  best-stands (w ∷ ws) some = elim (stands-there value.Null (w ∷ ws)) [
    | inl e ↦ inl ((covers-all value.Null w (w ∷ ws) (inl refl)).1 e ∙ sym e)
    | inr m ↦ m
  ]

  best-row : (vs : List Value) (best : Value) → best ≡ fold (chosen beats) value.Null vs → 0 < length vs → IsFirstBest beats vs (row_of best vs)
  best-row vs best is some =
      let there : Member best vs = subst (λ v. Member v vs) (sym is) (best-stands vs some) in
      let at = value-of-row best vs there in
      record {
        in_range = row-within best vs there;
        unbeaten = λ v c. rw (← at, is) (covers-all value.Null v vs (member-contains vs v c)).0;
        given = λ e v c. (covers-all value.Null v vs (member-contains vs v c)).1 (sym is ∙ (at ∙ e));
        first = λ j lt. rw (← at) (not-before best vs j lt);
      }

  best-of-row : (vs : List Value) (best : Value) → best ≡ fold (chosen beats) value.Null vs → 0 < length vs → best ≡ value_at vs (row_of best vs)
  best-of-row vs best is some = value-of-row best vs (subst (λ v. Member v vs) (sym is) (best-stands vs some))

-- The order of numbers.

same-order : (o : Ordering) → o ≡ ordering_reverse o → is_lt o ≡ false
same-order Less e = cc
same-order Equal e = refl
same-order Greater e = refl

not-below-itself : (n : ℤ) → is_lt (int_cmp n n) ≡ false
not-below-itself n = same-order (int_cmp n n) (int_cmp_total.antisymm n n)

is-less : (o : Ordering) → is_lt o ≡ true → o ≡ Less
is-less Less e = refl
is-less Equal e = cc
is-less Greater e = cc

below-through : (k m n : ℤ) → is_lt (int_cmp k m) ≡ true → is_lt (int_cmp m n) ≡ true → is_lt (int_cmp k n) ≡ true
below-through k m n p q = ap is_lt (int_cmp_total.trans k m n (is-less (int_cmp k m) p) (is-less (int_cmp m n) q))

itself-not-below : (v : Value) → is_below v v ≡ false
unfolding order
itself-not-below value.Null = refl
itself-not-below (value.Bool b) = refl
itself-not-below (value.Long n) = not-below-itself n
itself-not-below (value.Text t) = refl
itself-not-below (value.Moment n) = not-below-itself n
itself-not-below (value.Span n) = not-below-itself n
itself-not-below (value.Dynamic d) = refl

null-not-below : (v : Value) → is_below value.Null v ≡ false
unfolding order
null-not-below v = refl

not-below-null : (v : Value) → is_below v value.Null ≡ false
unfolding order
not-below-null value.Null = refl
not-below-null (value.Bool b) = refl
not-below-null (value.Long n) = refl
not-below-null (value.Text t) = refl
not-below-null (value.Moment n) = refl
not-below-null (value.Span n) = refl
not-below-null (value.Dynamic d) = refl

long-through : (k : ℤ) (v w : Value) → is_below (value.Long k) v ≡ true → is_below v w ≡ true → is_below (value.Long k) w ≡ true
unfolding order
long-through k (value.Long m) (value.Long n) p q = below-through k m n p q
long-through k (value.Long m) w p q = cc
long-through k v w p q = cc

moment-through : (k : ℤ) (v w : Value) → is_below (value.Moment k) v ≡ true → is_below v w ≡ true → is_below (value.Moment k) w ≡ true
unfolding order
moment-through k (value.Moment m) (value.Moment n) p q = below-through k m n p q
moment-through k (value.Moment m) w p q = cc
moment-through k v w p q = cc

span-through : (k : ℤ) (v w : Value) → is_below (value.Span k) v ≡ true → is_below v w ≡ true → is_below (value.Span k) w ≡ true
unfolding order
span-through k (value.Span m) (value.Span n) p q = below-through k m n p q
span-through k (value.Span m) w p q = cc
span-through k v w p q = cc

pub through-below : (u v w : Value) → is_below u v ≡ true → is_below v w ≡ true → is_below u w ≡ true
unfolding order
through-below (value.Long k) v w p q = long-through k v w p q
through-below (value.Moment k) v w p q = moment-through k v w p q
through-below (value.Span k) v w p q = span-through k v w p q
through-below u v w p q = cc

abbrev above : Value → Value → Bool
above v w = is_below w v

through-above : (u v w : Value) → above u v ≡ true → above v w ≡ true → above u w ≡ true
through-above u v w p q = through-below w v u q p

-- The laws.

least-fold : (vs : List Value) → least vs ≡ fold (chosen is_below) value.Null vs
unfolding least lesser
least-fold vs = refl

greatest-fold : (vs : List Value) → greatest vs ≡ fold (chosen above) value.Null vs
unfolding greatest greater
greatest-fold vs = refl

pub greatest_row_is_first : GreatestRowIsFirst
unfolding greatest_row
greatest_row_is_first vs some = best-row above not-below-null itself-not-below through-above vs (greatest vs) (greatest-fold vs) some

pub least_row_is_first : LeastRowIsFirst
unfolding least_row
least_row_is_first vs some = best-row is_below null-not-below itself-not-below through-below vs (least vs) (least-fold vs) some

pub greatest_is_of_row : GreatestIsOfRow
unfolding greatest_row
greatest_is_of_row vs some = best-of-row above not-below-null itself-not-below through-above vs (greatest vs) (greatest-fold vs) some

pub least_is_of_row : LeastIsOfRow
unfolding least_row
least_is_of_row vs some = best-of-row is_below null-not-below itself-not-below through-below vs (least vs) (least-fold vs) some

pub ruleset choice_laws = (greatest_row_is_first, least_row_is_first, greatest_is_of_row, least_is_of_row)
