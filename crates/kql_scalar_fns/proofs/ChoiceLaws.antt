-- The laws of `coalesce`, `min_of` and `max_of`.
use Rattle.std.proofs.Common.{◌≡◌, ◌≢◌, ◌<◌, ◌⊎◌, ◌∙◌, true, false, List, [], ◌∷◌, ◌++◌, refl, sym, ap, inl, inr, arith, subst}
use Rattle.std.specs.Prelude.{All, Contains, ℤ, ◌≤ℤ◌, ◌<ℤ◌, fold, if◌then◌else◌}
use Rattle.std.specs.Cmp.{int_ranks}
use Rattle.std.specs.Ordering.{MatchOrdering, int_cmp, is_lt}
use Rattle.std.specs.declared.cmp.Ordering.{Ordering}
use Rattle.std.specs.declared.cmp.Ordering.TheVariants as ordering
use Rattle.std.proofs.lemmas.Int.{ints}
use Rattle.std.proofs.lemmas.List.Elements.{All-contains, All-head, All-tail, All-weaker}
use Rattle.kql_cells.specs.Values.{IsOfKind}
use Rattle.kql_cells.specs.declared.value.Kind.TheVariants as kind
use Rattle.kql_cells.specs.declared.value.Value.{Value}
use Rattle.kql_cells.specs.declared.value.Value.TheVariants as value
use Rattle.kql_scalar_fns.specs.Applied.{applied}
use Rattle.kql_scalar_fns.specs.Choice.{choice, first_given, greater, greatest, is_empty, is_null, least, lesser}
use Rattle.kql_scalar_fns.specs.Comparison.{order}
use Rattle.kql_scalar_fns.specs.Laws.{FirstIsTaken, GreatestIsTaken, IsAtMost, IsBlank, LastIsTaken, LeastIsTaken}
use Rattle.kql_scalar_fns.proofs.KindLaws.{by-long, by-moment, by-span}
use Rattle.kql_scalar_fns.proofs.ListFacts.{cons-cases, here, later}

-- ---- `coalesce`

blank-empty : (v : Value) → IsBlank v → is_empty v ≡ true
unfolding is_empty
blank-empty v (inl e) = rw e refl
blank-empty v (inr e) = rw e refl

not-blank : (v : Value) → (¬ IsBlank v) → is_empty v ≡ false
unfolding is_empty
not-blank value.Null h = absurd (h (inl refl))
not-blank (value.Bool x) h = refl
not-blank (value.Long x) h = refl
not-blank (value.Text []) h = absurd (h (inr refl))
not-blank (value.Text (c ∷ cs)) h = refl
not-blank (value.Moment x) h = refl
not-blank (value.Span x) h = refl
not-blank (value.Dynamic x) h = refl

skipped : (b w : Value) (more : List Value) → is_empty b ≡ true → first_given (b ∷ w ∷ more) ≡ first_given (w ∷ more)
unfolding first_given
skipped b w more e = rw e refl

-- blanks in front do not count
behind : (before : List Value) (v : Value) (after : List Value) → All IsBlank before → first_given (before ++ v ∷ after) ≡ first_given (v ∷ after)
behind [] v after h = refl
behind (b ∷ []) v after h = skipped b v after (blank-empty b (All-head IsBlank b [] h))
behind (b ∷ c ∷ before) v after h =
    skipped b c (before ++ v ∷ after) (blank-empty b (All-head IsBlank b (c ∷ before) h))
    ∙ behind (c ∷ before) v after (All-tail IsBlank b (c ∷ before) h)

taken : (v : Value) (after : List Value) → is_empty v ≡ false → first_given (v ∷ after) ≡ v
unfolding first_given
taken v [] e = refl
taken v (w ∷ more) e = rw e refl

alone : (v : Value) → first_given (v ∷ []) ≡ v
unfolding first_given
alone v = refl

pub first-is-taken : FirstIsTaken
unfolding applied choice
first-is-taken before after v h n = behind before v after h ∙ taken v after (not-blank v n)

pub last-is-taken : LastIsTaken
unfolding applied choice
last-is-taken before v h = behind before v [] h ∙ alone v

-- ---- the best of several

module _ (make : ℤ → Value) (pick : Value → Value → Value) (R : ℤ → ℤ → Type 0) where
  -- null, or a number of the type
  abbrev IsNumber : Value → Type 0
  IsNumber v = (v ≡ value.Null) ⊎ ((n : ℤ) × (v ≡ make n))

  -- m is a number that is as good as n
  abbrev IsAsGood : Value → ℤ → Type 0
  IsAsGood m n = (k : ℤ) × ((m ≡ make k) × R k n)

  -- what is picked of two, and at last of several
  record IsPicked (b v p : Value) : Type 0 where
    pub number : IsNumber p
    pub one : (p ≡ b) ⊎ (p ≡ v)
    pub first : (n : ℤ) → b ≡ make n → IsAsGood p n
    pub second : (n : ℤ) → v ≡ make n → IsAsGood p n

  record IsBest (b : Value) (vs : List Value) (m : Value) : Type 0 where
    pub among : (m ≡ b) ⊎ Contains vs m
    pub first : (n : ℤ) → b ≡ make n → IsAsGood m n
    pub each : (n : ℤ) → Contains vs (make n) → IsAsGood m n

  module _
      (apart : (n : ℤ) → value.Null ≢ make n)
      (same : (a n : ℤ) → make a ≡ make n → a ≡ n)
      (reflexive : (a : ℤ) → R a a)
      (transitive : (a b c : ℤ) → R a b → R b c → R a c)
      (from-null : (v : Value) → pick value.Null v ≡ v)
      (with-null : (a : ℤ) → pick (make a) value.Null ≡ make a)
      (of-both : (a c : ℤ) → (k : ℤ) × ((pick (make a) (make c) ≡ make k) × (((k ≡ a) ⊎ (k ≡ c)) × (R k a × R k c))))
    where
      picked-null : (v : Value) → IsNumber v → IsPicked value.Null v v
      picked-null v g = record {
        number = g;
        one = inr refl;
        first = λ n e. absurd (apart n e);
        second = λ n e. (n, (e, reflexive n));
      }

      picked-first : (a : ℤ) → IsPicked (make a) value.Null (make a)
      picked-first a = record {
        number = inr (a, refl);
        one = inl refl;
        first = λ n e. (n, (e, reflexive n));
        second = λ n e. absurd (apart n e);
      }

      one-of : (k a c : ℤ) → (k ≡ a) ⊎ (k ≡ c) → (make k ≡ make a) ⊎ (make k ≡ make c)
      one-of k a c (inl e) = inl (ap make e)
      one-of k a c (inr e) = inr (ap make e)

      picked-both : (a c k : ℤ) → (k ≡ a) ⊎ (k ≡ c) → R k a → R k c → IsPicked (make a) (make c) (make k)
      picked-both a c k o ra rc = record {
        number = inr (k, refl);
        one = one-of k a c o;
        first = λ n e. (k, (refl, subst (λ (m : ℤ). R k m) (same a n e) ra));
        second = λ n e. (k, (refl, subst (λ (m : ℤ). R k m) (same c n e) rc));
      }

      picked : (b v : Value) → IsNumber b → IsNumber v → IsPicked b v (pick b v)
      picked b v (inl e) g = rw (e, from-null v) (picked-null v g)
      picked b v (inr (a, e)) (inl f) = rw (e, f, with-null a) (picked-first a)
      picked b v (inr (a, e)) (inr (c, f)) =
          let q = of-both a c in
          rw (e, f, q.1.0) (picked-both a c q.0 q.1.1.0 q.1.1.1.0 q.1.1.1.1)

      chained : (p m : Value) (n : ℤ) → IsAsGood p n → ((k : ℤ) → p ≡ make k → IsAsGood m k) → IsAsGood m n
      chained p m n q f = let r = f q.0 q.1.0 in (r.0, (r.1.0, transitive r.0 q.0 n r.1.1 q.1.1))

      one-among : (b v p m : Value) (vs : List Value) → (p ≡ b) ⊎ (p ≡ v) → (m ≡ p) ⊎ Contains vs m → (m ≡ b) ⊎ Contains (v ∷ vs) m
      one-among b v p m vs (inl e) (inl f) = inl (f ∙ e)
      one-among b v p m vs (inr e) (inl f) = inr (here v m vs (sym (f ∙ e)))
      one-among b v p m vs o (inr c) = inr (later v m vs c)

      best : (vs : List Value) → All IsNumber vs → (b : Value) → IsNumber b → IsBest b vs (fold pick b vs)
      best [] h b g = record {
        among = inl refl;
        first = λ n e. (n, (e, reflexive n));
        each = λ n c. let l : c.0 < 0 = c.1 in absurd (omega arith);
      }
      best (v ∷ vs) h b g =
          let p = picked b v g (All-head IsNumber v vs h) in
          let r = best vs (All-tail IsNumber v vs h) (pick b v) p.number in
          record {
            among = one-among b v (pick b v) (fold pick (pick b v) vs) vs p.one r.among;
            first = λ n e. chained (pick b v) (fold pick (pick b v) vs) n (p.first n e) r.first;
            each = λ n c. elim (cons-cases v (make n) vs c) [
              | inl e ↦ chained (pick b v) (fold pick (pick b v) vs) n (p.second n e) r.first
              | inr t ↦ r.each n t
            ];
          }

      all-null : (vs : List Value) (m : Value) → All (λ v. v ≡ value.Null) vs → (m ≡ value.Null) ⊎ Contains vs m → m ≡ value.Null
      all-null vs m h (inl e) = e
      all-null vs m h (inr c) = All-contains (λ (v : Value). v ≡ value.Null) vs m h c

      number-among : (vs : List Value) (m : Value) (k : ℤ) → m ≡ make k → (m ≡ value.Null) ⊎ Contains vs m → Contains vs m
      number-among vs m k e (inl f) = absurd (apart k (sym f ∙ e))
      number-among vs m k e (inr c) = c

      of-number : (Best : Value → Value → Type 0) → ((k n : ℤ) → R k n → Best (make k) (make n)) → (vs : List Value) (m v : Value) → IsBest value.Null vs m → IsNumber v → Contains vs v → v ≢ value.Null → Contains vs m × Best m v
      of-number Best good vs m v r (inl e) c n = absurd (n e)
      of-number Best good vs m v r (inr (a, e)) c n =
          let q = r.each a (subst (λ (w : Value). Contains vs w) e c) in
          (number-among vs m q.0 q.1.0 r.among, rw (e, q.1.0) (good q.0 a q.1.1))

      pub best-of-all : (Best : Value → Value → Type 0) → ((k n : ℤ) → R k n → Best (make k) (make n)) → (vs : List Value) → All IsNumber vs → (All (λ v. v ≡ value.Null) vs → fold pick value.Null vs ≡ value.Null) × ((v : Value) → Contains vs v → v ≢ value.Null → Contains vs (fold pick value.Null vs) × Best (fold pick value.Null vs) v)
      best-of-all Best good vs h =
          let r = best vs h value.Null (inl refl) in (
            λ a. all-null vs (fold pick value.Null vs) a r.among,
            λ v c n. of-number Best good vs (fold pick value.Null vs) v r (All-contains IsNumber vs v h c) c n,
          )

-- ---- `min_of` and `max_of`, by the order of whole numbers

abbrev Lower : ℤ → ℤ → Type 0
Lower k n = k ≤ℤ n

abbrev Upper : ℤ → ℤ → Type 0
Upper k n = n ≤ℤ k

low-self : (a : ℤ) → a ≤ℤ a
low-self a = omega (arith, ints)

low-chain : (a b c : ℤ) → a ≤ℤ b → b ≤ℤ c → a ≤ℤ c
low-chain a b c p q = omega (arith, ints)

low-of : (make : ℤ → Value) (a c : ℤ) (o : Ordering) → MatchOrdering o (c <ℤ a) (c ≡ a) (a <ℤ c) → (k : ℤ) × (((if is_lt o then make c else make a) ≡ make k) × (((k ≡ a) ⊎ (k ≡ c)) × ((k ≤ℤ a) × (k ≤ℤ c))))
low-of make a c ordering.Less h = (c, (refl, (inr refl, (omega (arith, ints), omega (arith, ints)))))
low-of make a c ordering.Equal h = (a, (refl, (inl refl, (omega (arith, ints), omega (arith, ints)))))
low-of make a c ordering.Greater h = (a, (refl, (inl refl, (omega (arith, ints), omega (arith, ints)))))

high-of : (make : ℤ → Value) (a c : ℤ) (o : Ordering) → MatchOrdering o (a <ℤ c) (a ≡ c) (c <ℤ a) → (k : ℤ) × (((if is_lt o then make c else make a) ≡ make k) × (((k ≡ a) ⊎ (k ≡ c)) × ((a ≤ℤ k) × (c ≤ℤ k))))
high-of make a c ordering.Less h = (c, (refl, (inr refl, (omega (arith, ints), omega (arith, ints)))))
high-of make a c ordering.Equal h = (a, (refl, (inl refl, (omega (arith, ints), omega (arith, ints)))))
high-of make a c ordering.Greater h = (a, (refl, (inl refl, (omega (arith, ints), omega (arith, ints)))))

number-long : (v : Value) → IsOfKind kind.Long v → (v ≡ value.Null) ⊎ ((n : ℤ) × (v ≡ value.Long n))
number-long = by-long (λ (v : Value). (v ≡ value.Null) ⊎ ((n : ℤ) × (v ≡ value.Long n))) (inl refl) (λ n. inr (n, refl))

least-long : (vs : List Value) → All (IsOfKind kind.Long) vs → (All (λ v. v ≡ value.Null) vs → least vs ≡ value.Null) × ((v : Value) → Contains vs v → v ≢ value.Null → Contains vs (least vs) × IsAtMost (least vs) v)
unfolding least lesser is_null order
least-long vs h =
    best-of-all value.Long lesser Lower (λ n e. cc) (λ a n e. cc) low-self low-chain (λ v. refl) (λ a. refl)
    (λ a c. low-of value.Long a c (int_cmp c a) (int_ranks c a))
    IsAtMost (λ k n r. r) vs (All-weaker (IsOfKind kind.Long) (λ (v : Value). (v ≡ value.Null) ⊎ ((n : ℤ) × (v ≡ value.Long n))) number-long vs h)

greatest-long : (vs : List Value) → All (IsOfKind kind.Long) vs → (All (λ v. v ≡ value.Null) vs → greatest vs ≡ value.Null) × ((v : Value) → Contains vs v → v ≢ value.Null → Contains vs (greatest vs) × IsAtMost v (greatest vs))
unfolding greatest greater is_null order
greatest-long vs h =
    best-of-all value.Long greater Upper (λ n e. cc) (λ a n e. cc) low-self (λ a b c p q. low-chain c b a q p) (λ v. refl) (λ a. refl)
    (λ a c. high-of value.Long a c (int_cmp a c) (int_ranks a c))
    (λ (m v : Value). IsAtMost v m) (λ k n r. r) vs (All-weaker (IsOfKind kind.Long) (λ (v : Value). (v ≡ value.Null) ⊎ ((n : ℤ) × (v ≡ value.Long n))) number-long vs h)

number-moment : (v : Value) → IsOfKind kind.Moment v → (v ≡ value.Null) ⊎ ((n : ℤ) × (v ≡ value.Moment n))
number-moment = by-moment (λ (v : Value). (v ≡ value.Null) ⊎ ((n : ℤ) × (v ≡ value.Moment n))) (inl refl) (λ n. inr (n, refl))

least-moment : (vs : List Value) → All (IsOfKind kind.Moment) vs → (All (λ v. v ≡ value.Null) vs → least vs ≡ value.Null) × ((v : Value) → Contains vs v → v ≢ value.Null → Contains vs (least vs) × IsAtMost (least vs) v)
unfolding least lesser is_null order
least-moment vs h =
    best-of-all value.Moment lesser Lower (λ n e. cc) (λ a n e. cc) low-self low-chain (λ v. refl) (λ a. refl)
    (λ a c. low-of value.Moment a c (int_cmp c a) (int_ranks c a))
    IsAtMost (λ k n r. r) vs (All-weaker (IsOfKind kind.Moment) (λ (v : Value). (v ≡ value.Null) ⊎ ((n : ℤ) × (v ≡ value.Moment n))) number-moment vs h)

greatest-moment : (vs : List Value) → All (IsOfKind kind.Moment) vs → (All (λ v. v ≡ value.Null) vs → greatest vs ≡ value.Null) × ((v : Value) → Contains vs v → v ≢ value.Null → Contains vs (greatest vs) × IsAtMost v (greatest vs))
unfolding greatest greater is_null order
greatest-moment vs h =
    best-of-all value.Moment greater Upper (λ n e. cc) (λ a n e. cc) low-self (λ a b c p q. low-chain c b a q p) (λ v. refl) (λ a. refl)
    (λ a c. high-of value.Moment a c (int_cmp a c) (int_ranks a c))
    (λ (m v : Value). IsAtMost v m) (λ k n r. r) vs (All-weaker (IsOfKind kind.Moment) (λ (v : Value). (v ≡ value.Null) ⊎ ((n : ℤ) × (v ≡ value.Moment n))) number-moment vs h)

number-span : (v : Value) → IsOfKind kind.Span v → (v ≡ value.Null) ⊎ ((n : ℤ) × (v ≡ value.Span n))
number-span = by-span (λ (v : Value). (v ≡ value.Null) ⊎ ((n : ℤ) × (v ≡ value.Span n))) (inl refl) (λ n. inr (n, refl))

least-span : (vs : List Value) → All (IsOfKind kind.Span) vs → (All (λ v. v ≡ value.Null) vs → least vs ≡ value.Null) × ((v : Value) → Contains vs v → v ≢ value.Null → Contains vs (least vs) × IsAtMost (least vs) v)
unfolding least lesser is_null order
least-span vs h =
    best-of-all value.Span lesser Lower (λ n e. cc) (λ a n e. cc) low-self low-chain (λ v. refl) (λ a. refl)
    (λ a c. low-of value.Span a c (int_cmp c a) (int_ranks c a))
    IsAtMost (λ k n r. r) vs (All-weaker (IsOfKind kind.Span) (λ (v : Value). (v ≡ value.Null) ⊎ ((n : ℤ) × (v ≡ value.Span n))) number-span vs h)

greatest-span : (vs : List Value) → All (IsOfKind kind.Span) vs → (All (λ v. v ≡ value.Null) vs → greatest vs ≡ value.Null) × ((v : Value) → Contains vs v → v ≢ value.Null → Contains vs (greatest vs) × IsAtMost v (greatest vs))
unfolding greatest greater is_null order
greatest-span vs h =
    best-of-all value.Span greater Upper (λ n e. cc) (λ a n e. cc) low-self (λ a b c p q. low-chain c b a q p) (λ v. refl) (λ a. refl)
    (λ a c. high-of value.Span a c (int_cmp a c) (int_ranks a c))
    (λ (m v : Value). IsAtMost v m) (λ k n r. r) vs (All-weaker (IsOfKind kind.Span) (λ (v : Value). (v ≡ value.Null) ⊎ ((n : ℤ) × (v ≡ value.Span n))) number-span vs h)

pub least-is-taken : LeastIsTaken
unfolding applied choice
least-is-taken kind.Bool vs e h = cc
least-is-taken kind.Long vs e h = least-long vs h
least-is-taken kind.Text vs e h = cc
least-is-taken kind.Moment vs e h = least-moment vs h
least-is-taken kind.Span vs e h = least-span vs h
least-is-taken kind.Dynamic vs e h = cc

pub greatest-is-taken : GreatestIsTaken
unfolding applied choice
greatest-is-taken kind.Bool vs e h = cc
greatest-is-taken kind.Long vs e h = greatest-long vs h
greatest-is-taken kind.Text vs e h = cc
greatest-is-taken kind.Moment vs e h = greatest-moment vs h
greatest-is-taken kind.Span vs e h = greatest-span vs h
greatest-is-taken kind.Dynamic vs e h = cc
