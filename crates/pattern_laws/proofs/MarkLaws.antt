-- The marks are longer than what any of the names begins with.
use Rattle.std.proofs.Common.{◌≡◌, ◌<◌, ◌≤◌, ℕ, zero, suc, true, List, [], ◌∷◌, length, take, refl, ap, ◌∙◌, inl, inr, arith}
use Rattle.std.specs.Prelude.{fold, nat_lt}
use Rattle.std.specs.List.{repeat}
use Rattle.std.proofs.lemmas.Bool.{cases_Bool}
use Rattle.std.proofs.lemmas.Bool.Decides.{nat_tests}
use Rattle.std.proofs.lemmas.Slice.Eq.{bytes_eq-Decides}
use Rattle.kql_meaning.proofs.MemberLaws.{Member, member-contains}
use Rattle.pattern_lift.specs.Marks.{begins_with, larger, marks_beyond, marks_of, most_marks}
use Rattle.pattern_laws.specs.LawsOfMarks.{MarksAreBeyond}

abbrev hashes : ℕ → List ℕ
hashes k = 35 ∷ repeat k (35 ∷ [])

one-more : (cs : List ℕ) → marks_of (35 ∷ cs) ≡ suc (marks_of cs)
unfolding marks_of
one-more cs = refl

head-same : (c d : ℕ) (cs ds : List ℕ) → c ∷ cs ≡ d ∷ ds → (c ≡ d) × (cs ≡ ds)
head-same c d cs ds e = (cc, cc)

as-many : (k : ℕ) (n : List ℕ) → take (length (hashes k)) n ≡ hashes k → k < marks_of n
as-many k [] e = absurd cc
as-many zero (c ∷ cs) e =
    let h = head-same c 35 (take 0 cs) [] e in
    let m : marks_of (c ∷ cs) ≡ suc (marks_of cs) = ap (λ x. marks_of (x ∷ cs)) h.0 ∙ one-more cs in
    omega (arith, m)
as-many (suc k) (c ∷ cs) e =
    let h = head-same c 35 (take (length (hashes k)) cs) (hashes k) e in
    let m : marks_of (c ∷ cs) ≡ suc (marks_of cs) = ap (λ x. marks_of (x ∷ cs)) h.0 ∙ one-more cs in
    let later = as-many k cs h.1 in
    omega (arith, m, later)

larger-left : (a b : ℕ) → a ≤ larger a b
larger-left a b = elim (cases_Bool (nat_lt a b)) [
  | inl t ↦ rw t (grind (arith, nat_tests))
  | inr f ↦ rw f (omega arith)
]

larger-right : (a b : ℕ) → b ≤ larger a b
larger-right a b = elim (cases_Bool (nat_lt a b)) [
  | inl t ↦ rw t (omega arith)
  | inr f ↦ rw f (grind (arith, nat_tests))
]

abbrev most : ℕ → List (List ℕ) → ℕ
most k names = fold (λ m n. larger m (marks_of n)) k names

most-start : (k : ℕ) (names : List (List ℕ)) → k ≤ most k names
most-start k [] = omega arith
most-start k (n ∷ ns) = let a = larger-left k (marks_of n) in let b = most-start (larger k (marks_of n)) ns in omega (arith, a, b)

most-member : (k : ℕ) (names : List (List ℕ)) (n : List ℕ) → Member n names → marks_of n ≤ most k names
most-member k [] n m = absurd m
most-member k (x ∷ xs) n (inl e) =
    let a = larger-right k (marks_of x) in
    let b = most-start (larger k (marks_of x)) xs in
    let same : marks_of x ≡ marks_of n = ap marks_of e in
    omega (arith, a, b, same)
most-member k (x ∷ xs) n (inr m) = most-member (larger k (marks_of x)) xs n m

begins-same : (marks n : List ℕ) → begins_with marks n ≡ true → take (length marks) n ≡ marks
unfolding begins_with
begins-same marks n h = (bytes_eq-Decides (take (length marks) n) marks).0 h

pub marks_are_beyond : MarksAreBeyond
unfolding marks_beyond most_marks
marks_are_beyond names n c = elim (cases_Bool (begins_with (hashes (most 0 names)) n)) [
  | inl t ↦
      let a = as-many (most 0 names) n (begins-same (hashes (most 0 names)) n t) in
      let b = most-member 0 names n (member-contains names n c) in
      absurd (omega (arith, a, b))
  | inr f ↦ f
]

pub ruleset mark_laws = (marks_are_beyond)
