-- Tables whose entries have names: what is found in one, and that each entry stands once where each name does.
use Rattle.std.proofs.Common.{◌≡◌, ◌≢◌, ◌<◌, ◌&&◌, ℕ, zero, suc, Bool, true, false, not, List, [], ◌∷◌, length, sym, ap, ◌∙◌, inl, inr, arith}
use Rattle.std.specs.Prelude.{All, Some, Contains, is_some}
use Rattle.std.specs.List.{list_all}
use Rattle.std.specs.Str.{bytes_eq}
use Rattle.std.proofs.lemmas.Bool.{and_parts, cases_Bool}
use Rattle.std.proofs.lemmas.List.Elements.{All-contains}
use Rattle.std.proofs.lemmas.List.Kept.{AllPairs-cons}
use Rattle.std.proofs.lemmas.List.Sums.{AllPass-from_list_all}
use Rattle.std.proofs.lemmas.Slice.Eq.{bytes_eq-Decides}
use Rattle.kql_functions.specs.Find.{AreDistinct, named_among}

pub bytes-same : (a b : List ℕ) → bytes_eq a b ≡ true → a ≡ b
bytes-same a b e = (bytes_eq-Decides a b).0 e

pub among-named : {A : Type 0} (name : A → List ℕ) (xs : List A) (n : List ℕ) (x : A) → named_among name xs n ≡ Some x → name x ≡ n
unfolding named_among
among-named name [] n x e = cc
among-named name (y ∷ xs) n x e = elim (cases_Bool (bytes_eq (name y) n)) [
  | inl t ↦ let q = rw t at e in let s : y ≡ x = cc in ap name (sym s) ∙ bytes-same (name y) n t
  | inr u ↦ among-named name xs n x (rw u at e)
]

later : {A : Type 0} (y x : A) (xs : List A) → Contains xs x → Contains (y ∷ xs) x
later y x xs h = let l : h.0 < length xs = h.1 in (suc h.0, omega arith, h.2)

here : {A : Type 0} (y x : A) (xs : List A) → y ≡ x → Contains (y ∷ xs) x
here y x xs e = (0, omega arith, e)

pub among-held : {A : Type 0} (name : A → List ℕ) (xs : List A) (n : List ℕ) (x : A) → named_among name xs n ≡ Some x → Contains xs x
unfolding named_among
among-held name [] n x e = cc
among-held name (y ∷ xs) n x e = elim (cases_Bool (bytes_eq (name y) n)) [
  | inl t ↦ let q = rw t at e in let s : y ≡ x = cc in here y x xs s
  | inr u ↦ later y x xs (among-held name xs n x (rw u at e))
]

pub all-at : {A : Type 0} (p : A → Bool) (xs : List A) (x : A) → list_all p xs ≡ true → Contains xs x → p x ≡ true
all-at p xs x e c = All-contains (λ y. p y ≡ true) xs x (AllPass-from_list_all p xs e) c

-- entries that are found by their names have names of their own
pub one-name : {A : Type 0} (name : A → List ℕ) (xs : List A) → ((x : A) → named_among name xs (name x) ≡ Some x) → (x y : A) → name x ≡ name y → x ≡ y
one-name name xs own x y e = let u : Some x ≡ Some y = sym (own x) ∙ (ap (named_among name xs) e ∙ own y) in cc

-- no name stands twice
unfoldable pub have_own : {A : Type 0} → (A → List ℕ) → List A → Bool
have_own name [] = true
have_own name (x ∷ xs) = not (is_some (named_among name xs (name x))) && have_own name xs

none-both : {A : Type 0} (name : A → List ℕ) (y : A) (xs : List A) (n : List ℕ) → bytes_eq (name y) n ≡ false → All (λ x. bytes_eq (name x) n ≡ false) xs → All (λ x. bytes_eq (name x) n ≡ false) (y ∷ xs)
none-both name y xs n u h zero d l = u
none-both name y xs n u h (suc k) d l = h k d (omega arith)

none-named : {A : Type 0} (name : A → List ℕ) (xs : List A) (n : List ℕ) → not (is_some (named_among name xs n)) ≡ true → All (λ x. bytes_eq (name x) n ≡ false) xs
unfolding named_among
none-named name [] n e = λ k d l. absurd (omega arith)
none-named name (y ∷ xs) n e = elim (cases_Bool (bytes_eq (name y) n)) [
  | inl t ↦ let q = rw t at e in cc
  | inr u ↦ none-both name y xs n u (none-named name xs n (rw u at e))
]

differ : {A : Type 0} (name : A → List ℕ) (x y : A) → bytes_eq (name y) (name x) ≡ false → x ≢ y
differ name x y u e = let s = (bytes_eq-Decides (name y) (name x)).1 (ap name (sym e)) in cc

pub own-distinct : {A : Type 0} (name : A → List ℕ) (xs : List A) → have_own name xs ≡ true → AreDistinct xs
unfolding have_own
own-distinct name [] e = λ i j d lt in_none. absurd (omega arith)
own-distinct name (x ∷ xs) e =
    let p = and_parts (not (is_some (named_among name xs (name x)))) (have_own name xs) e in
    let apart = none-named name xs (name x) p.0 in
    AllPairs-cons (λ a b. a ≢ b) x xs (λ k d l. differ name x _ (apart k d l)) (own-distinct name xs p.1)
