-- The first row of each key.
use Rattle.std.proofs.Common.{◌≡◌, ◌≢◌, ◌<◌, ◌≤◌, ℕ, zero, suc, Bool, true, false, not, List, [], ◌∷◌, length, refl, sym, ap, ◌∙◌, arith, inl, inr}
use Rattle.std.specs.List.{list_any, range_with_len}
use Rattle.std.proofs.lemmas.Bool.{cases_Bool}
use Rattle.kql_cells.specs.Table.{Grid}
use Rattle.kql_cells.specs.declared.value.Value.{Value}
use Rattle.kql_meaning.specs.Groups.{firsts_of_keys, is_first_of_key}
use Rattle.kql_meaning.specs.Join.{join_rows}
use Rattle.kql_meaning.specs.Laws.{EachHasItsFirst, FirstsDiffer, InnerUniqueIsInner, first_places}
use Rattle.kql_meaning.specs.Tables.{places, places_below}
use Rattle.kql_meaning.specs.Values.{same_keys}
use Rattle.kql_cells.specs.Keys.{same_keys-decides}
use Rattle.kql_meaning.proofs.MemberLaws.{Member, contains-member, every-of-members, member-filter, member-of-filter, member-of-range, member-range, of-member, pairs-of, Pairwise, pairwise-filter, pairwise-range}

pub pairwise-imply : {X : Type 0} (R S : X → X → Type 0) (xs : List X) → ((x y : X) → Member x xs → Member y xs → R x y → S x y) → Pairwise R xs → Pairwise S xs
pairwise-imply R S [] f h = tt
pairwise-imply R S (x ∷ xs) f h =
    (every-of-members (S x) xs (λ y m. f x y (inl refl) (inr m) (of-member (R x) xs y h.0 m)), pairwise-imply R S xs (λ y z m n r. f y z (inr m) (inr n) r) h.1)

pub any-at : {X : Type 0} (p : X → Bool) (xs : List X) (x : X) → Member x xs → p x ≡ true → list_any p xs ≡ true
any-at p [] x m e = absurd m
any-at p (y ∷ ys) x (inl s) e = let here : p y ≡ true = ap p s ∙ e in rw here refl
any-at p (y ∷ ys) x (inr m) e = elim (cases_Bool (p y)) [
  | inl t ↦ rw t refl
  | inr n ↦ rw n (any-at p ys x m e)
]

pub one-of-any : {X : Type 0} (p : X → Bool) (xs : List X) → list_any p xs ≡ true → (x : X) × Member x xs × (p x ≡ true)
one-of-any p [] e = cc
one-of-any p (y ∷ ys) e = elim (cases_Bool (p y)) [
  | inl t ↦ (y, inl refl, t)
  | inr n ↦ let later : list_any p ys ≡ true = rw n at e in let q = one-of-any p ys later in (q.0, inr q.1, q.2)
]

pub firsts_differ : FirstsDiffer
unfolding places places_below is_first_of_key
firsts_differ key t =
    pairs-of (λ i j. key i ≢ key j) (first_places key t)
    (pairwise-imply (λ i j. i < j) (λ i j. key i ≢ key j) (first_places key t)
    (λ i j m n lt same.
    let first = (member-of-filter (is_first_of_key key) (range_with_len 0 (length t.lines)) j n).1 in
    let earlier = any-at (λ k. same_keys (key k) (key j)) (range_with_len 0 j) i (member-range 0 j i (omega arith) (omega arith)) ((same_keys-decides (key i) (key j)).1 same) in
    let not_first : is_first_of_key key j ≡ false = ap not earlier in
    let c : false ≡ true = sym not_first ∙ first in
    cc)
    (pairwise-filter (λ i j. i < j) (is_first_of_key key) (range_with_len 0 (length t.lines)) (pairwise-range 0 (length t.lines))))

not-true : (b : Bool) → not b ≡ false → b ≡ true
not-true true e = refl
not-true false e = cc

-- By the number of rows up to this one.
its-first : (key : ℕ → List Value) (t : Grid) (n i : ℕ) → i < n → i < length t.lines → (j : ℕ) × Member j (first_places key t) × (j ≤ i) × (key j ≡ key i)
unfolding places places_below is_first_of_key
its-first key t zero i lt in_range = absurd (omega arith)
its-first key t (suc n) i lt in_range = elim (cases_Bool (is_first_of_key key i)) [
  | inl f ↦ (i, member-filter (is_first_of_key key) (range_with_len 0 (length t.lines)) i (member-range 0 (length t.lines) i (omega arith) (omega arith)) f, omega arith, refl)
  | inr g ↦
      let q = one-of-any (λ k. same_keys (key k) (key i)) (range_with_len 0 i) (not-true (list_any (λ k. same_keys (key k) (key i)) (range_with_len 0 i)) g) in
      let below = member-of-range 0 i q.0 q.1 in
      let r = its-first key t n q.0 (omega (arith, below.1)) (omega (arith, below.1)) in
      (r.0, r.1, omega (arith, below.1, r.2), r.3 ∙ (same_keys-decides (key q.0) (key i)).0 q.2)
]

pub each_has_its_first : EachHasItsFirst
each_has_its_first key t i lt = let r = its-first key t (suc i) i (omega arith) lt in (r.0, contains-member (first_places key t) r.0 r.1, r.2, r.3)

pub inner_unique_is_inner : InnerUniqueIsInner
unfolding join_rows firsts_of_keys
inner_unique_is_inner j a b = refl

pub ruleset first_laws = (firsts_differ, each_has_its_first, inner_unique_is_inner)
