-- One value more behind the best of several, and its place.
use Rattle.std.proofs.Common.{◌≡◌, ◌⊎◌, ◌||◌, ◌&&◌, ◌++◌, ◌∷◌, ◌∙◌, ◌==◌, ◌+◌, ℕ, ℤ, Bool, true, false, not, if◌then◌else◌, List, [], fold, length, refl, sym, ap, inl, inr, arith, subst}
use Rattle.std.specs.Prelude.{◌<ℤ◌, ◌≤ℤ◌}
use Rattle.std.specs.List.{AllByRecursion, list_any, position_or_len}
use Rattle.std.specs.Cmp.{int_ranks}
use Rattle.std.specs.Ordering.{MatchOrdering, int_cmp, is_lt}
use Rattle.std.specs.declared.cmp.Ordering.{Ordering}
use Rattle.std.specs.declared.cmp.Ordering.TheVariants as ordering
use Rattle.std.proofs.lemmas.Bool.{cases_Bool}
use Rattle.std.proofs.lemmas.List.Sums.{fold-append}
use Rattle.kql_cells.specs.Keys.{is_null, same_key, same_key-decides}
use Rattle.kql_cells.specs.Values.{IsOfKind}
use Rattle.kql_cells.specs.declared.value.Kind.{Kind}
use Rattle.kql_cells.specs.declared.value.Kind.TheVariants as kind
use Rattle.kql_cells.specs.declared.value.Value.{Value}
use Rattle.kql_cells.specs.declared.value.Value.TheVariants as value
use Rattle.kql_scalar_fns.specs.Choice.{greater, greatest, is_below, least, lesser}
use Rattle.kql_scalar_fns.specs.Comparison.{order}
use Rattle.kql_scalar_fns.proofs.KindLaws.{by-long, by-moment, by-span}
use Rattle.kql_meaning.specs.Results.{greatest_row, least_row, row_of}
use Rattle.agg_folds.specs.declared.best.Best.{Best}
use Rattle.agg_folds.specs.declared.best.Prefer.{Prefer}
use Rattle.agg_folds.specs.declared.best.Prefer.TheVariants as prefer
use Rattle.agg_folds.specs.Kept.{is_better, joined_best, met}
use Rattle.agg_folds.proofs.ListLaws.{position-behind, position-last, position-more}

-- Null.

pub null-is : (v : Value) → is_null v ≡ true → v ≡ value.Null
unfolding is_null
null-is value.Null e = refl
null-is (value.Bool b) e = cc
null-is (value.Long n) e = cc
null-is (value.Text t) e = cc
null-is (value.Moment n) e = cc
null-is (value.Span n) e = cc
null-is (value.Dynamic d) e = cc

-- The order of numbers of one type.

lt-of : (o : Ordering) (P Q R : Type 0) → MatchOrdering o P Q R → is_lt o ≡ true → P
lt-of ordering.Less P Q R h e = h
lt-of ordering.Equal P Q R h e = cc
lt-of ordering.Greater P Q R h e = cc

of-lt : (o : Ordering) (x y : ℤ) → MatchOrdering o (x <ℤ y) (x ≡ y) (y <ℤ x) → x <ℤ y → is_lt o ≡ true
of-lt ordering.Less x y h l = refl
of-lt ordering.Equal x y h l = absurd (grind (arith, h, l))
of-lt ordering.Greater x y h l = absurd (grind (arith, h, l))

below-of : (x y : ℤ) → is_lt (int_cmp x y) ≡ true → x <ℤ y
below-of x y e = lt-of (int_cmp x y) (x <ℤ y) (x ≡ y) (y <ℤ x) (int_ranks x y) e

of-below : (x y : ℤ) → x <ℤ y → is_lt (int_cmp x y) ≡ true
of-below x y l = of-lt (int_cmp x y) x y (int_ranks x y) l

not-below-self : (x : ℤ) → is_lt (int_cmp x x) ≡ false
not-below-self x = elim (cases_Bool (is_lt (int_cmp x x))) [
  | inl t ↦ let l : x <ℤ x = below-of x x t in absurd (grind (arith, l))
  | inr f ↦ f
]

below-chain : (x y z : ℤ) → is_lt (int_cmp x y) ≡ true → is_lt (int_cmp y z) ≡ true → is_lt (int_cmp x z) ≡ true
below-chain x y z p q = of-below x z (grind (arith, below-of x y p, below-of y z q))

above-long : (x : ℤ) (v : Value) → is_below (value.Long x) v ≡ true → (y : ℤ) × (v ≡ value.Long y) × (is_lt (int_cmp x y) ≡ true)
unfolding order
above-long x value.Null e = cc
above-long x (value.Bool b) e = cc
above-long x (value.Long n) e = (n, refl, e)
above-long x (value.Text t) e = cc
above-long x (value.Moment n) e = cc
above-long x (value.Span n) e = cc
above-long x (value.Dynamic d) e = cc

above-moment : (x : ℤ) (v : Value) → is_below (value.Moment x) v ≡ true → (y : ℤ) × (v ≡ value.Moment y) × (is_lt (int_cmp x y) ≡ true)
unfolding order
above-moment x value.Null e = cc
above-moment x (value.Bool b) e = cc
above-moment x (value.Long n) e = cc
above-moment x (value.Text t) e = cc
above-moment x (value.Moment n) e = (n, refl, e)
above-moment x (value.Span n) e = cc
above-moment x (value.Dynamic d) e = cc

above-span : (x : ℤ) (v : Value) → is_below (value.Span x) v ≡ true → (y : ℤ) × (v ≡ value.Span y) × (is_lt (int_cmp x y) ≡ true)
unfolding order
above-span x value.Null e = cc
above-span x (value.Bool b) e = cc
above-span x (value.Long n) e = cc
above-span x (value.Text t) e = cc
above-span x (value.Moment n) e = cc
above-span x (value.Span n) e = (n, refl, e)
above-span x (value.Dynamic d) e = cc

pub null-below : (v : Value) → is_below value.Null v ≡ false
unfolding order
null-below v = refl

pub below-null : (v : Value) → is_below v value.Null ≡ false
unfolding order
below-null value.Null = refl
below-null (value.Bool b) = refl
below-null (value.Long n) = refl
below-null (value.Text t) = refl
below-null (value.Moment n) = refl
below-null (value.Span n) = refl
below-null (value.Dynamic d) = refl

pub below-self : (v : Value) → is_below v v ≡ false
unfolding order
below-self value.Null = refl
below-self (value.Bool b) = refl
below-self (value.Long n) = not-below-self n
below-self (value.Text t) = refl
below-self (value.Moment n) = not-below-self n
below-self (value.Span n) = not-below-self n
below-self (value.Dynamic d) = refl

pub below-through : (a b c : Value) → is_below a b ≡ true → is_below b c ≡ true → is_below a c ≡ true
unfolding order
below-through value.Null b c p q = cc
below-through (value.Bool x) b c p q = cc
below-through (value.Long x) b c p q =
    let m = above-long x b p in
    let n = above-long m.0 c (rw m.1 at q) in
    rw n.1 (below-chain x m.0 n.0 m.2 n.2)
below-through (value.Text x) b c p q = cc
below-through (value.Moment x) b c p q =
    let m = above-moment x b p in
    let n = above-moment m.0 c (rw m.1 at q) in
    rw n.1 (below-chain x m.0 n.0 m.2 n.2)
below-through (value.Span x) b c p q =
    let m = above-span x b p in
    let n = above-span m.0 c (rw m.1 at q) in
    rw n.1 (below-chain x m.0 n.0 m.2 n.2)
below-through (value.Dynamic x) b c p q = cc

-- The best of several, where a test says that one value is worse than another.

module _
    (worse : Value → Value → Bool)
    (worse-null : (v : Value) → worse v value.Null ≡ false)
    (null-worse : (v : Value) → worse value.Null v ≡ false)
    (worse-self : (v : Value) → worse v v ≡ false)
    (worse-through : (a b c : Value) → worse a b ≡ true → worse b c ≡ true → worse a c ≡ true)
  where
    abbrev pick : Value → Value → Value
    pick b v = if is_null b then v else if worse b v then v else b

    abbrev better : Value → Value → Bool
    better b v = (is_null b && not (is_null v)) || worse b v

    -- Nothing is better than itself, and no null is better than anything.
    not-itself : (v : Value) → better v v ≡ false
    not-itself v = elim (cases_Bool (is_null v)) [ inl t ↦ rw (t, worse-self v) refl | inr f ↦ rw (f, worse-self v) refl ]

    not-null : (b v : Value) → is_null v ≡ true → better b v ≡ false
    not-null b v t =
        let e : v ≡ value.Null = null-is v t in
        let w : worse b v ≡ false = rw e (worse-null b) in
        elim (cases_Bool (is_null b)) [ inl s ↦ rw (s, t, w) refl | inr f ↦ rw (f, w) refl ]

    -- What was picked is not null, where the one it beat was worse.
    given-where-better : (b v : Value) → worse b v ≡ true → is_null v ≡ false
    given-where-better b v e = elim (cases_Bool (is_null v)) [
      | inl t ↦ let n : v ≡ value.Null = null-is v t in let w : worse b v ≡ false = rw n (worse-null b) in let c : true ≡ false = sym e ∙ w in cc
      | inr f ↦ f
    ]

    beaten : (b w : Value) → better (pick b w) w ≡ false
    beaten b w = elim (cases_Bool (is_null b)) [
      | inl t ↦ rw t (not-itself w)
      | inr f ↦ elim (cases_Bool (worse b w)) [
        | inl s ↦ rw (f, s) (not-itself w)
        | inr g ↦ rw (f, g, f, g) refl
      ]
    ]

    still-beaten : (b w x : Value) → better b x ≡ false → better (pick b w) x ≡ false
    still-beaten b w x h = elim (cases_Bool (is_null x)) [
      | inl n ↦ not-null (pick b w) x n
      | inr g ↦ elim (cases_Bool (is_null b)) [
        | inl t ↦ let c : true ≡ false = rw (t, g) at h in cc
        | inr f ↦
            let bx : worse b x ≡ false = rw f at h in
            elim (cases_Bool (worse b w)) [
              | inl s ↦
                  let wn = given-where-better b w s in
                  elim (cases_Bool (worse w x)) [
                    | inl u ↦ let c : true ≡ false = sym (worse-through b w x s u) ∙ bx in cc
                    | inr u ↦ rw (f, s, wn, u) refl
                  ]
              | inr s ↦ rw (f, s, f, bx) refl
            ]
      ]
    ]

    stays-beaten : (vs : List Value) (b x : Value) → better b x ≡ false → better (fold pick b vs) x ≡ false
    stays-beaten [] b x h = h
    stays-beaten (v ∷ vs) b x h = stays-beaten vs (pick b v) x (still-beaten b v x h)

    -- What is better than all is none of them.
    pub not-among : (vs : List Value) (b v : Value) → better (fold pick b vs) v ≡ true → list_any (same_key v) vs ≡ false
    not-among [] b v h = refl
    not-among (w ∷ vs) b v h = elim (cases_Bool (same_key v w)) [
      | inl t ↦
          let e : v ≡ w = (same_key-decides v w).0 t in
          let beat : better (fold pick (pick b w) vs) v ≡ false = rw e (stays-beaten vs (pick b w) w (beaten b w)) in
          let c : true ≡ false = sym h ∙ beat in
          cc
      | inr f ↦ rw f (not-among vs (pick b w) v h)
    ]

    -- The best is one of them.
    among : (vs : List Value) (b : Value) → (fold pick b vs ≡ b) ⊎ (list_any (same_key (fold pick b vs)) vs ≡ true)
    among [] b = inl refl
    among (w ∷ vs) b = elim (among vs (pick b w)) [
      | inr a ↦ elim (cases_Bool (same_key (fold pick (pick b w) vs) w)) [
        | inl t ↦ inr (rw t refl)
        | inr f ↦ inr (rw f a)
      ]
      | inl e ↦ elim (cases_Bool (is_null b)) [
        | inl t ↦
            let p : pick b w ≡ w = rw t refl in
            let s : same_key (fold pick (pick b w) vs) w ≡ true = (same_key-decides (fold pick (pick b w) vs) w).1 (e ∙ p) in
            inr (rw s refl)
        | inr f ↦ elim (cases_Bool (worse b w)) [
          | inl u ↦
              let p : pick b w ≡ w = rw (f, u) refl in
              let s : same_key (fold pick (pick b w) vs) w ≡ true = (same_key-decides (fold pick (pick b w) vs) w).1 (e ∙ p) in
              inr (rw s refl)
          | inr u ↦ let p : pick b w ≡ b = rw (f, u) refl in inl (e ∙ p)
        ]
      ]
    ]

    pub one-of-them : (w : Value) (ws : List Value) → list_any (same_key (fold pick value.Null (w ∷ ws))) (w ∷ ws) ≡ true
    unfolding is_null
    one-of-them w ws = elim (among ws w) [
      | inl e ↦ let s : same_key (fold pick w ws) w ≡ true = (same_key-decides (fold pick w ws) w).1 e in rw s refl
      | inr a ↦ elim (cases_Bool (same_key (fold pick w ws) w)) [ inl t ↦ rw t refl | inr f ↦ rw f a ]
    ]

    abbrev best : List Value → Value
    best vs = fold pick value.Null vs

    abbrev place : List Value → ℕ
    place vs = position_or_len (same_key (best vs)) vs

    picked : (b v : Value) → better b v ≡ true → pick b v ≡ v
    picked b v h = elim (cases_Bool (is_null b)) [
      | inl t ↦ rw t refl
      | inr f ↦ let w : worse b v ≡ true = rw f at h in rw (f, w) refl
    ]

    not-picked : (b v : Value) → better b v ≡ false → pick b v ≡ b
    not-picked b v h = elim (cases_Bool (is_null b)) [
      | inl t ↦ elim (cases_Bool (is_null v)) [
        | inl s ↦ rw t (null-is v s ∙ sym (null-is b t))
        | inr g ↦ let c : true ≡ false = rw (t, g) at h in cc
      ]
      | inr f ↦ let w : worse b v ≡ false = rw f at h in rw (f, w) refl
    ]

    best-push : (vs : List Value) (v : Value) → best (vs ++ v ∷ []) ≡ pick (best vs) v
    best-push vs v = fold-append pick value.Null vs (v ∷ [])

    pub pushed-first : (v : Value) → (best (v ∷ []) ≡ v) × (place (v ∷ []) ≡ 0)
    unfolding is_null
    pushed-first v = let s : same_key v v ≡ true = (same_key-decides v v).1 refl in (refl, rw s refl)

    pub pushed-better : (vs : List Value) (v : Value) → better (best vs) v ≡ true → (best (vs ++ v ∷ []) ≡ v) × (place (vs ++ v ∷ []) ≡ length vs)
    pushed-better vs v h =
        let e : best (vs ++ v ∷ []) ≡ v = best-push vs v ∙ picked (best vs) v h in
        let s : same_key v v ≡ true = (same_key-decides v v).1 refl in
        (e, ap (λ m. position_or_len (same_key m) (vs ++ v ∷ [])) e ∙ position-last (same_key v) vs v (not-among vs value.Null v h) s)

    pub pushed-other : (w : Value) (ws : List Value) (v : Value) → better (best (w ∷ ws)) v ≡ false → (best ((w ∷ ws) ++ v ∷ []) ≡ best (w ∷ ws)) × (place ((w ∷ ws) ++ v ∷ []) ≡ place (w ∷ ws))
    pushed-other w ws v h =
        let vs = w ∷ ws in
        let e : best (vs ++ v ∷ []) ≡ best vs = best-push vs v ∙ not-picked (best vs) v h in
        (e, ap (λ m. position_or_len (same_key m) (vs ++ v ∷ [])) e ∙ position-more (same_key (best vs)) vs (v ∷ []) (one-of-them w ws))

    -- The best of values behind others, where the test tells apart all values of a sort.

    pick-null : (b v : Value) → is_null b ≡ true → pick b v ≡ v
    pick-null b v t = rw t refl

    pick-worse : (b v : Value) → is_null b ≡ false → worse b v ≡ true → pick b v ≡ v
    pick-worse b v f t = rw (f, t) refl

    pick-other : (b v : Value) → is_null b ≡ false → worse b v ≡ false → pick b v ≡ b
    pick-other b v f g = rw (f, g) refl

    pick-end : (b : Value) → pick b value.Null ≡ b
    pick-end b = elim (cases_Bool (is_null b)) [
      | inl t ↦ pick-null b value.Null t ∙ sym (null-is b t)
      | inr f ↦ pick-other b value.Null f (worse-null b)
    ]

    pick-first : (v : Value) → pick value.Null v ≡ v
    unfolding is_null
    pick-first v = refl

    module _ (Of : Value → Type 0) (none : Of value.Null) (open_end : (a b c : Value) → Of a → Of b → Of c → worse a b ≡ false → worse b c ≡ false → is_null b ≡ false → worse a c ≡ false) where
      pick-assoc : (a b c : Value) → Of a → Of b → Of c → pick (pick a b) c ≡ pick a (pick b c)
      pick-assoc a b c p q r = elim (cases_Bool (is_null a)) [
        | inl t ↦ ap (λ x. pick x c) (pick-null a b t) ∙ sym (pick-null a (pick b c) t)
        | inr f ↦ elim (cases_Bool (worse a b)) [
          | inl s ↦
              let g = given-where-better a b s in
              let left : pick (pick a b) c ≡ pick b c = ap (λ x. pick x c) (pick-worse a b f s) in
              elim (cases_Bool (worse b c)) [
                | inl u ↦
                    let e : pick b c ≡ c = pick-worse b c g u in
                    left ∙ (e ∙ sym (ap (pick a) e ∙ pick-worse a c f (worse-through a b c s u)))
                | inr u ↦
                    let e : pick b c ≡ b = pick-other b c g u in
                    left ∙ (e ∙ sym (ap (pick a) e ∙ pick-worse a b f s))
              ]
          | inr s ↦
              let left : pick (pick a b) c ≡ pick a c = ap (λ x. pick x c) (pick-other a b f s) in
              elim (cases_Bool (is_null b)) [
                | inl t ↦ left ∙ sym (ap (pick a) (pick-null b c t))
                | inr g ↦ elim (cases_Bool (worse b c)) [
                  | inl u ↦ left ∙ sym (ap (pick a) (pick-worse b c g u))
                  | inr u ↦ left ∙ (pick-other a c f (open_end a b c p q r s u g) ∙ sym (ap (pick a) (pick-other b c g u) ∙ pick-other a b f s))
                ]
              ]
        ]
      ]

      of-pick : (b v : Value) → Of b → Of v → Of (pick b v)
      of-pick b v p q = elim (cases_Bool (is_null b)) [
        | inl t ↦ subst (λ (x : Value). Of x) (sym (pick-null b v t)) q
        | inr f ↦ elim (cases_Bool (worse b v)) [
          | inl s ↦ subst (λ (x : Value). Of x) (sym (pick-worse b v f s)) q
          | inr s ↦ subst (λ (x : Value). Of x) (sym (pick-other b v f s)) p
        ]
      ]

      of-best : (vs : List Value) (b : Value) → Of b → AllByRecursion Of vs → Of (fold pick b vs)
      of-best [] b p h = p
      of-best (v ∷ vs) b p h = of-best vs (pick b v) (of-pick b v p h.0) h.1

      best-behind : (vs : List Value) (b : Value) → Of b → AllByRecursion Of vs → fold pick b vs ≡ pick b (best vs)
      best-behind [] b p h = sym (pick-end b)
      best-behind (v ∷ vs) b p h =
          let first : best (v ∷ vs) ≡ fold pick v vs = ap (λ x. fold pick x vs) (pick-first v) in
          best-behind vs (pick b v) (of-pick b v p h.0) h.1
          ∙ (pick-assoc b v (best vs) p h.0 (of-best vs value.Null none h.1)
          ∙ sym (ap (pick b) (first ∙ best-behind vs v h.0 h.1)))

      best-join : (vs ws : List Value) → AllByRecursion Of vs → AllByRecursion Of ws → best (vs ++ ws) ≡ pick (best vs) (best ws)
      best-join vs ws h k = fold-append pick value.Null vs ws ∙ best-behind ws (best vs) (of-best vs value.Null none h) k

      pub joined-better : (vs ws : List Value) → AllByRecursion Of vs → AllByRecursion Of ws → better (best vs) (best ws) ≡ true → (best (vs ++ ws) ≡ best ws) × (place (vs ++ ws) ≡ length vs + place ws)
      joined-better vs ws h k t =
          let e : best (vs ++ ws) ≡ best ws = best-join vs ws h k ∙ picked (best vs) (best ws) t in
          (e, ap (λ m. position_or_len (same_key m) (vs ++ ws)) e ∙ position-behind (same_key (best ws)) vs ws (not-among vs value.Null (best ws) t))

      pub joined-other : (w : Value) (more ws : List Value) → AllByRecursion Of (w ∷ more) → AllByRecursion Of ws → better (best (w ∷ more)) (best ws) ≡ false → (best ((w ∷ more) ++ ws) ≡ best (w ∷ more)) × (place ((w ∷ more) ++ ws) ≡ place (w ∷ more))
      joined-other w more ws h k t =
          let vs = w ∷ more in
          let e : best (vs ++ ws) ≡ best vs = best-join vs ws h k ∙ not-picked (best vs) (best ws) t in
          (e, ap (λ m. position_or_len (same_key m) (vs ++ ws)) e ∙ position-more (same_key (best vs)) vs ws (one-of-them w more))

-- The greatest and the least.

abbrev above : Value → Value → Bool
above b v = is_below v b

above-through : (a b c : Value) → above a b ≡ true → above b c ≡ true → above a c ≡ true
above-through a b c p q = below-through c b a q p

abbrev greatest_best : List Value → Best
greatest_best vs = record { prefer = prefer.Greatest; value = greatest vs; place = greatest_row vs }

abbrev least_best : List Value → Best
least_best vs = record { prefer = prefer.Least; value = least vs; place = least_row vs }

abbrev best_as : Prefer → Value → ℕ → Best
best_as p v i = record { prefer = p; value = v; place = i }

same-best : (p : Prefer) (a b : Value) (i j : ℕ) → a ≡ b → i ≡ j → best_as p a i ≡ best_as p b j
same-best p a b i j e f = rw (e, f) refl

pub some-rows : (w : Value) (ws : List Value) → (length (w ∷ ws) == 0) ≡ false
some-rows w ws = grind arith

pub greatest-push : (vs : List Value) (v : Value) → greatest_best (vs ++ v ∷ []) ≡ met (greatest_best vs) (length vs) v
unfolding met is_better greatest greater greatest_row row_of
greatest-push [] v =
    let q = pushed-first is_below below-null null-below below-self below-through v in
    same-best prefer.Greatest _ _ _ _ q.0 q.1
greatest-push (w ∷ ws) v = elim (cases_Bool (is_better prefer.Greatest (greatest (w ∷ ws)) v)) [
  | inl t ↦ let q = pushed-better is_below below-null null-below below-self below-through (w ∷ ws) v t in rw (some-rows w ws, t) (same-best prefer.Greatest _ _ _ _ q.0 q.1)
  | inr f ↦ let q = pushed-other is_below below-null null-below below-self below-through w ws v f in rw (some-rows w ws, f) (same-best prefer.Greatest _ _ _ _ q.0 q.1)
]

pub least-push : (vs : List Value) (v : Value) → least_best (vs ++ v ∷ []) ≡ met (least_best vs) (length vs) v
unfolding met is_better least lesser least_row row_of
least-push [] v =
    let q = pushed-first above null-below below-null below-self above-through v in
    same-best prefer.Least _ _ _ _ q.0 q.1
least-push (w ∷ ws) v = elim (cases_Bool (is_better prefer.Least (least (w ∷ ws)) v)) [
  | inl t ↦ let q = pushed-better above null-below below-null below-self above-through (w ∷ ws) v t in rw (some-rows w ws, t) (same-best prefer.Least _ _ _ _ q.0 q.1)
  | inr f ↦ let q = pushed-other above null-below below-null below-self above-through w ws v f in rw (some-rows w ws, f) (same-best prefer.Least _ _ _ _ q.0 q.1)
]

-- Values of one type: what is not below what is not below a third is not below it.

abbrev pub IsOf : Kind → Value → Type 0
IsOf k v = (is_null v ≡ true) ⊎ IsOfKind k v

ge-of : (o : Ordering) (x y : ℤ) → MatchOrdering o (x <ℤ y) (x ≡ y) (y <ℤ x) → is_lt o ≡ false → y ≤ℤ x
ge-of ordering.Less x y h e = cc
ge-of ordering.Equal x y h e = grind (arith, h)
ge-of ordering.Greater x y h e = grind (arith, h)

not-below-chain : (x y z : ℤ) → is_lt (int_cmp x y) ≡ false → is_lt (int_cmp y z) ≡ false → is_lt (int_cmp x z) ≡ false
not-below-chain x y z p q = elim (cases_Bool (is_lt (int_cmp x z))) [
  | inl t ↦
      let l : x <ℤ z = below-of x z t in
      let m : y ≤ℤ x = ge-of (int_cmp x y) x y (int_ranks x y) p in
      let n : z ≤ℤ y = ge-of (int_cmp y z) y z (int_ranks y z) q in
      absurd (grind (arith, l, m, n))
  | inr f ↦ f
]

kind-long : (k : Kind) (x : ℤ) → IsOfKind k (value.Long x) → k ≡ kind.Long
kind-long kind.Bool x h = absurd h
kind-long kind.Long x h = refl
kind-long kind.Text x h = absurd h
kind-long kind.Moment x h = absurd h
kind-long kind.Span x h = absurd h
kind-long kind.Dynamic x h = absurd h

kind-moment : (k : Kind) (x : ℤ) → IsOfKind k (value.Moment x) → k ≡ kind.Moment
kind-moment kind.Bool x h = absurd h
kind-moment kind.Long x h = absurd h
kind-moment kind.Text x h = absurd h
kind-moment kind.Moment x h = refl
kind-moment kind.Span x h = absurd h
kind-moment kind.Dynamic x h = absurd h

kind-span : (k : Kind) (x : ℤ) → IsOfKind k (value.Span x) → k ≡ kind.Span
kind-span kind.Bool x h = absurd h
kind-span kind.Long x h = absurd h
kind-span kind.Text x h = absurd h
kind-span kind.Moment x h = absurd h
kind-span kind.Span x h = refl
kind-span kind.Dynamic x h = absurd h

abbrev Chained : Value → Value → Value → Type 0
Chained a b c = is_below a b ≡ false → is_below b c ≡ false → is_null b ≡ false → is_below a c ≡ false

of-null : (a b c : Value) → is_null c ≡ true → Chained a b c
of-null a b c t p q n = let e : c ≡ value.Null = null-is c t in rw e (below-null a)

through-null : (a b c : Value) → is_null b ≡ true → Chained a b c
through-null a b c t p q n = let e : true ≡ false = sym t ∙ n in cc

longs : (x : ℤ) (b c : Value) → IsOfKind kind.Long b → IsOfKind kind.Long c → Chained (value.Long x) b c
unfolding order is_null
longs x b c h k = by-long (λ b. Chained (value.Long x) b c) (λ p q n. cc) (λ y. by-long (λ c. Chained (value.Long x) (value.Long y) c) (λ p q n. refl) (λ z p q n. not-below-chain x y z p q) c k) b h

moments : (x : ℤ) (b c : Value) → IsOfKind kind.Moment b → IsOfKind kind.Moment c → Chained (value.Moment x) b c
unfolding order is_null
moments x b c h k = by-moment (λ b. Chained (value.Moment x) b c) (λ p q n. cc) (λ y. by-moment (λ c. Chained (value.Moment x) (value.Moment y) c) (λ p q n. refl) (λ z p q n. not-below-chain x y z p q) c k) b h

spans : (x : ℤ) (b c : Value) → IsOfKind kind.Span b → IsOfKind kind.Span c → Chained (value.Span x) b c
unfolding order is_null
spans x b c h k = by-span (λ b. Chained (value.Span x) b c) (λ p q n. cc) (λ y. by-span (λ c. Chained (value.Span x) (value.Span y) c) (λ p q n. refl) (λ z p q n. not-below-chain x y z p q) c k) b h

of-number : (k : Kind) (a b c : Value) → ((h : IsOfKind k b) → (g : IsOfKind k c) → Chained a b c) → IsOf k b → IsOf k c → Chained a b c
of-number k a b c f (inl s) g = through-null a b c s
of-number k a b c f (inr h) (inl t) = of-null a b c t
of-number k a b c f (inr h) (inr g) = f h g

as-kind : (k j : Kind) (v : Value) → k ≡ j → IsOfKind k v → IsOfKind j v
as-kind k j v e h = subst (λ (i : Kind). IsOfKind i v) e h

below-chained : (k : Kind) (a b c : Value) → IsOf k a → IsOf k b → IsOf k c → Chained a b c
unfolding order is_null
below-chained k value.Null b c i j l p q n = refl
below-chained k (value.Bool x) b c i j l p q n = refl
below-chained k (value.Long x) b c (inl s) j l p q n = cc
below-chained k (value.Long x) b c (inr i) j l p q n =
    let e = kind-long k x i in of-number k (value.Long x) b c (λ h g. longs x b c (as-kind k kind.Long b e h) (as-kind k kind.Long c e g)) j l p q n
below-chained k (value.Text x) b c i j l p q n = refl
below-chained k (value.Moment x) b c (inl s) j l p q n = cc
below-chained k (value.Moment x) b c (inr i) j l p q n =
    let e = kind-moment k x i in of-number k (value.Moment x) b c (λ h g. moments x b c (as-kind k kind.Moment b e h) (as-kind k kind.Moment c e g)) j l p q n
below-chained k (value.Span x) b c (inl s) j l p q n = cc
below-chained k (value.Span x) b c (inr i) j l p q n =
    let e = kind-span k x i in of-number k (value.Span x) b c (λ h g. spans x b c (as-kind k kind.Span b e h) (as-kind k kind.Span c e g)) j l p q n
below-chained k (value.Dynamic x) b c i j l p q n = refl

null-of : (k : Kind) → IsOf k value.Null
unfolding is_null
null-of k = inl refl

-- The other way round: a may be null.
above-chained : (k : Kind) (a b c : Value) → IsOf k a → IsOf k b → IsOf k c → above a b ≡ false → above b c ≡ false → is_null b ≡ false → above a c ≡ false
above-chained k a b c i j l p q n = below-chained k c b a l j i q p n

pub greatest-join : (k : Kind) (vs ws : List Value) → AllByRecursion (IsOf k) vs → AllByRecursion (IsOf k) ws → greatest_best (vs ++ ws) ≡ joined_best (greatest_best vs) (length vs) (greatest_best ws)
unfolding joined_best is_better greatest greater greatest_row row_of
greatest-join k [] ws h g = same-best prefer.Greatest _ _ _ _ refl (omega arith)
greatest-join k (w ∷ more) ws h g = elim (cases_Bool (is_better prefer.Greatest (greatest (w ∷ more)) (greatest ws))) [
  | inl t ↦ let q = joined-better is_below below-null null-below below-self below-through (IsOf k) (null-of k) (below-chained k) (w ∷ more) ws h g t in rw (some-rows w more, t) (same-best prefer.Greatest _ _ _ _ q.0 q.1)
  | inr f ↦ let q = joined-other is_below below-null null-below below-self below-through (IsOf k) (null-of k) (below-chained k) w more ws h g f in rw (some-rows w more, f) (same-best prefer.Greatest _ _ _ _ q.0 q.1)
]

pub least-join : (k : Kind) (vs ws : List Value) → AllByRecursion (IsOf k) vs → AllByRecursion (IsOf k) ws → least_best (vs ++ ws) ≡ joined_best (least_best vs) (length vs) (least_best ws)
unfolding joined_best is_better least lesser least_row row_of
least-join k [] ws h g = same-best prefer.Least _ _ _ _ refl (omega arith)
least-join k (w ∷ more) ws h g = elim (cases_Bool (is_better prefer.Least (least (w ∷ more)) (least ws))) [
  | inl t ↦ let q = joined-better above null-below below-null below-self above-through (IsOf k) (null-of k) (above-chained k) (w ∷ more) ws h g t in rw (some-rows w more, t) (same-best prefer.Least _ _ _ _ q.0 q.1)
  | inr f ↦ let q = joined-other above null-below below-null below-self above-through (IsOf k) (null-of k) (above-chained k) w more ws h g f in rw (some-rows w more, f) (same-best prefer.Least _ _ _ _ q.0 q.1)
]
