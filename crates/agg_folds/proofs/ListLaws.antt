-- One value more in lists and sets of the values that are given, up to a limit.
use Rattle.std.proofs.Common.{◌≡◌, ◌⊎◌, ◌<◌, ◌≤◌, ◌+◌, ◌||◌, ◌++◌, ◌∷◌, ◌∙◌, ℕ, suc, Bool, true, false, not, List, [], filter, length, take, refl, sym, ap, inl, inr, arith}
use Rattle.std.specs.Prelude.{nat_lt, Option, None, Some}
use Rattle.std.specs.Bool.{Decides}
use Rattle.std.specs.List.{list_any, position_or_len}
use Rattle.std.proofs.lemmas.Bool.{cases_Bool}
use Rattle.std.proofs.lemmas.List.{append-nil, length-append, length-take-le, take-append-le, take_all}
use Rattle.std.proofs.lemmas.List.Elements.{filter-append}
use Rattle.std.proofs.lemmas.Map.Views.{any-filter_same}
use Rattle.indexmap.specs.IndexSet.{insert_key}
use Rattle.kql_cells.specs.Keys.{is_null, same_key, same_key-decides}
use Rattle.kql_cells.specs.declared.value.Value.{Value}
use Rattle.kql_meaning.specs.Aggregates.{distinct_given, given}
use Rattle.kql_meaning.specs.Tables.{distinct_by}
use Rattle.agg_folds.specs.Folds.{up_to}
use Rattle.agg_folds.specs.Kept.{has_room, with_listed, with_member}

-- Tests of lists.

pub or-none : (a b : Bool) → (a || b) ≡ false → (a ≡ false) × (b ≡ false)
or-none true b e = cc
or-none false b e = (refl, e)

pub or-right : (a b : Bool) → b ≡ true → (a || b) ≡ true
or-right true b e = refl
or-right false b e = e

pub any-append : {X : Type 0} (p : X → Bool) (xs ys : List X) → list_any p (xs ++ ys) ≡ (list_any p xs || list_any p ys)
any-append p [] ys = refl
any-append p (x ∷ xs) ys = elim (cases_Bool (p x)) [ inl t ↦ rw t refl | inr f ↦ rw f (any-append p xs ys) ]

-- A place among more, and that of one that comes last.
pub position-more : {X : Type 0} (p : X → Bool) (xs more : List X) → list_any p xs ≡ true → position_or_len p (xs ++ more) ≡ position_or_len p xs
position-more p [] more e = cc
position-more p (x ∷ xs) more e = elim (cases_Bool (p x)) [
  | inl t ↦ rw t refl
  | inr f ↦ rw (f, position-more p xs more (rw f at e)) refl
]

pub position-last : {X : Type 0} (p : X → Bool) (xs : List X) (x : X) → list_any p xs ≡ false → p x ≡ true → position_or_len p (xs ++ x ∷ []) ≡ length xs
position-last p [] x e t = rw t refl
position-last p (y ∷ xs) x e t = let q = or-none (p y) (list_any p xs) e in let next : 1 + length xs ≡ suc (length xs) = omega arith in rw q.0 (ap (λ n. 1 + n) (position-last p xs x q.1 t) ∙ next)

pub position-behind : {X : Type 0} (p : X → Bool) (xs ys : List X) → list_any p xs ≡ false → position_or_len p (xs ++ ys) ≡ length xs + position_or_len p ys
position-behind p [] ys e = omega arith
position-behind p (x ∷ xs) ys e = let q = or-none (p x) (list_any p xs) e in let rest = position-behind p xs ys q.1 in rw q.0 (omega (arith, rest))

-- The distinct ones.

module _ {X : Type 0} (same : X → X → Bool) (says : (a b : X) → Decides (same a b) (a ≡ b)) where
  reflexive : (x : X) → same x x ≡ true
  reflexive x = (says x x).1 refl

  apart : (x y : X) → (x ≡ y) ⊎ ((same x y ≡ false) × (same y x ≡ false))
  apart x y = elim (cases_Bool (same x y)) [
    | inl t ↦ inl ((says x y).0 t)
    | inr n ↦ elim (cases_Bool (same y x)) [
      | inl t ↦ inl (sym ((says y x).0 t))
      | inr m ↦ inr (n, m)
    ]
  ]

  -- One more is last among the distinct ones, where it is new.
  pub distinct-push : (xs : List X) (y : X) → distinct_by same (xs ++ y ∷ []) ≡ insert_key same (distinct_by same xs) y
  unfolding distinct_by
  distinct-push [] y = refl
  distinct-push (x ∷ xs) y =
      let D = distinct_by same xs in
      let q = λ (z : X). not (same x z) in
      let less = distinct-push xs y in
      elim (apart x y) [
        | inl e ↦
            let t : same y x ≡ true = rw e (reflexive y) in
            let u : same x y ≡ true = rw e (reflexive y) in
            elim (cases_Bool (list_any (same y) D)) [
              | inl a ↦ rw (less, a, t) refl
              | inr a ↦ rw (less, a, t) (ap (λ l. x ∷ l) (rw (filter-append q D (y ∷ []), u) (append-nil (filter q D))))
            ]
        | inr n ↦
            let kept = any-filter_same (same y) q true (λ z e. let p : y ≡ z = (says y z).0 e in rw (← p, n.0) refl) D in
            elim (cases_Bool (list_any (same y) D)) [
              | inl a ↦ rw (less, a, n.1, kept, a) refl
              | inr a ↦ rw (less, a, n.1, kept, a) (ap (λ l. x ∷ l) (rw (filter-append q D (y ∷ []), n.0) refl))
            ]
      ]

-- The values that are given.

pub given-null : (vs : List Value) (v : Value) → is_null v ≡ true → given (vs ++ v ∷ []) ≡ given vs
unfolding given
given-null vs v e = filter-append (λ w. not (is_null w)) vs (v ∷ []) ∙ rw e (append-nil (filter (λ w. not (is_null w)) vs))

pub given-more : (vs : List Value) (v : Value) → is_null v ≡ false → given (vs ++ v ∷ []) ≡ given vs ++ v ∷ []
unfolding given
given-more vs v e = filter-append (λ w. not (is_null w)) vs (v ∷ []) ∙ rw e refl

-- Up to a number.

pub lt-true : (a b : ℕ) → a < b → nat_lt a b ≡ true
lt-true a b lt = grind arith

pub lt-false : (a b : ℕ) → b ≤ a → nat_lt a b ≡ false
lt-false a b le = grind arith

pub cases-lt : (a b : ℕ) → (a < b) ⊎ (b ≤ a)
cases-lt a b = grind arith

pub listed-push : (limit : Option ℕ) (vs : List Value) (v : Value) → up_to limit (given (vs ++ v ∷ [])) ≡ with_listed limit (up_to limit (given vs)) v
unfolding up_to with_listed has_room
listed-push None vs v = elim (cases_Bool (is_null v)) [
  | inl t ↦ rw t (given-null vs v t)
  | inr f ↦ rw f (given-more vs v f)
]
listed-push (Some n) vs v =
    let G = given vs in
    elim (cases_Bool (is_null v)) [
      | inl t ↦ rw t (ap (take n) (given-null vs v t))
      | inr f ↦ elim (cases-lt (length G) n) [
        | inl lt ↦
            let whole : take n G ≡ G = take_all n G (omega (arith, lt)) in
            let room : nat_lt (length G) n ≡ true = lt-true (length G) n lt in
            let long : length (G ++ v ∷ []) ≤ n = omega (arith, lt, length-append G (v ∷ [])) in
            rw (f, whole, room, given-more vs v f) (take_all n (G ++ v ∷ []) long)
        | inr le ↦
            let full : length (take n G) ≡ n = length-take-le n G le in
            let room : nat_lt n n ≡ false = lt-false n n (omega arith) in
            rw (f, full, room, given-more vs v f) (take-append-le n G (v ∷ []) le)
      ]
    ]

set-push-null : (vs : List Value) (v : Value) → is_null v ≡ true → distinct_given (vs ++ v ∷ []) ≡ distinct_given vs
unfolding distinct_given
set-push-null vs v t = ap (distinct_by same_key) (given-null vs v t)

set-push-more : (vs : List Value) (v : Value) → is_null v ≡ false → distinct_given (vs ++ v ∷ []) ≡ insert_key same_key (distinct_given vs) v
unfolding distinct_given
set-push-more vs v f = ap (distinct_by same_key) (given-more vs v f) ∙ distinct-push same_key same_key-decides (given vs) v

-- An insert into the first n of a list.
pub inserted-within : (n : ℕ) (D : List Value) (v : Value) → length D < n → take n (insert_key same_key D v) ≡ insert_key same_key D v
inserted-within n D v lt = elim (cases_Bool (list_any (same_key v) D)) [
  | inl t ↦ rw t (take_all n D (omega (arith, lt)))
  | inr f ↦ let long : length (D ++ v ∷ []) ≤ n = omega (arith, lt, length-append D (v ∷ [])) in rw f (take_all n (D ++ v ∷ []) long)
]

pub inserted-beyond : (n : ℕ) (D : List Value) (v : Value) → n ≤ length D → take n (insert_key same_key D v) ≡ take n D
inserted-beyond n D v le = elim (cases_Bool (list_any (same_key v) D)) [
  | inl t ↦ rw t refl
  | inr f ↦ rw f (take-append-le n D (v ∷ []) le)
]

pub set-push : (limit : Option ℕ) (vs : List Value) (v : Value) → up_to limit (distinct_given (vs ++ v ∷ [])) ≡ with_member limit (up_to limit (distinct_given vs)) v
unfolding up_to with_member has_room
set-push None vs v = elim (cases_Bool (is_null v)) [
  | inl t ↦ rw t (set-push-null vs v t)
  | inr f ↦ rw f (set-push-more vs v f)
]
set-push (Some n) vs v =
    let D = distinct_given vs in
    elim (cases_Bool (is_null v)) [
      | inl t ↦ rw t (ap (take n) (set-push-null vs v t))
      | inr f ↦ elim (cases-lt (length D) n) [
        | inl lt ↦
            let whole : take n D ≡ D = take_all n D (omega (arith, lt)) in
            let room : nat_lt (length D) n ≡ true = lt-true (length D) n lt in
            rw (f, whole, room) (ap (take n) (set-push-more vs v f) ∙ inserted-within n D v lt)
        | inr le ↦
            let full : length (take n D) ≡ n = length-take-le n D le in
            let room : nat_lt n n ≡ false = lt-false n n (omega arith) in
            rw (f, full, room) (ap (take n) (set-push-more vs v f) ∙ inserted-beyond n D v le)
      ]
    ]

pub distinct-member : (vs : List Value) (v : Value) → distinct_given (vs ++ v ∷ []) ≡ with_member None (distinct_given vs) v
unfolding with_member has_room
distinct-member vs v = elim (cases_Bool (is_null v)) [
  | inl t ↦ rw t (set-push-null vs v t)
  | inr f ↦ rw f (set-push-more vs v f)
]
