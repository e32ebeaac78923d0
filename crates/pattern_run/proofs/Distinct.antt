-- Lists in which no two have one name.
use Rattle.std.proofs.Common.{◌≡◌, ◌≢◌, ◌<◌, ℕ, suc, Bool, true, false, not, List, [], ◌∷◌, ◌++◌, map, length, get_or, refl, sym, ap, ◌∙◌, subst, inl, inr, arith}
use Rattle.std.specs.Prelude.{AllPairs, Contains}
use Rattle.std.specs.List.{AllByRecursion}
use Rattle.std.proofs.lemmas.Bool.{and_parts}
use Rattle.kql_cells.specs.Named.{HasDistinctNames, IsAbsent}
use Rattle.kql_meaning.specs.FittingOperators.{are_distinct}
use Rattle.kql_meaning.specs.Tables.{is_name_among}
use Rattle.kql_meaning.proofs.MemberLaws.{Member, Pairwise, every-at, every-of-members, member-contains, member-map, member-right, of-member, pairs-of, pairwise-append}
use Rattle.pattern_lift.specs.Marks.{begins_with}
use Rattle.pattern_laws.proofs.ProgramLaws.{member-name}

every-of-places : {X : Type 0} (P : X → Type 0) (xs : List X) → ((k : ℕ) (d : X) → k < length xs → P (get_or xs k d)) → AllByRecursion P xs
every-of-places P [] h = tt
every-of-places P (x ∷ xs) h = (h 0 x (omega arith), every-of-places P xs (λ k d lt. h (suc k) d (omega arith)))

pairwise-of : {X : Type 0} (R : X → X → Type 0) (xs : List X) → AllPairs R xs → Pairwise R xs
pairwise-of R [] h = tt
pairwise-of R (x ∷ xs) h =
    (every-of-places (R x) xs (λ k d lt. h 0 (suc k) d (omega arith) (omega arith)), pairwise-of R xs (λ i j d lt within. h (suc i) (suc j) d (omega arith) (omega arith)))

pub turned : (b : Bool) → not b ≡ true → b ≡ false
turned true h = sym h
turned false h = refl

module _ {X : Type 0} (name : X → List ℕ) where
  abbrev Differ : X → X → Type 0
  Differ x y = name x ≢ name y

  pairwise-distinct : (xs : List X) → are_distinct (map name xs) ≡ true → Pairwise Differ xs
  unfolding are_distinct
  pairwise-distinct [] h = tt
  pairwise-distinct (x ∷ xs) h =
      let p = and_parts (not (is_name_among (map name xs) (name x))) (are_distinct (map name xs)) h in (
        every-of-members (Differ x) xs (λ y m e.
            let there : is_name_among (map name xs) (name y) ≡ true = member-name (map name xs) (name y) (member-map name xs y m) in
            let no : true ≡ false = sym there ∙ (ap (is_name_among (map name xs)) (sym e) ∙ turned (is_name_among (map name xs) (name x)) p.0) in
            absurd cc),
        pairwise-distinct xs p.1,
      )

  -- Behind others come some whose names begin with the marks, as theirs do not.
  pub distinct-behind : (marks : List ℕ) (front back : List X) → HasDistinctNames name front → are_distinct (map name back) ≡ true → ((x : X) → Member x front → begins_with marks (name x) ≡ false) → ((x : X) → Member x back → begins_with marks (name x) ≡ true) → HasDistinctNames name (front ++ back)
  distinct-behind marks front back h d own marked =
      pairs-of Differ (front ++ back) (pairwise-append Differ front back (pairwise-of Differ front h) (pairwise-distinct back d)
      (λ x y m n e. let no : false ≡ true = sym (own x m) ∙ (ap (begins_with marks) e ∙ marked y n) in absurd cc))

  pub distinct-of : (xs : List X) → are_distinct (map name xs) ≡ true → HasDistinctNames name xs
  distinct-of xs h = pairs-of Differ xs (pairwise-distinct xs h)

  absent-pair : (before : List X) (x : X) (after : List X) → Pairwise Differ (before ++ x ∷ after) → AllByRecursion (λ y. name y ≢ name x) before
  absent-pair [] x after h = tt
  absent-pair (b ∷ bs) x after h = (of-member (Differ b) (bs ++ x ∷ after) x h.0 (member-right bs (x ∷ after) x (inl refl)), absent-pair bs x after h.1)

  -- None before it has the name of one of them.
  pub absent-before : (whole before : List X) (x : X) (after : List X) → whole ≡ before ++ x ∷ after → HasDistinctNames name whole → IsAbsent name (name x) before
  absent-before whole before x after e h k d lt =
      every-at (λ y. name y ≢ name x) before (absent-pair before x after (pairwise-of Differ (before ++ x ∷ after) (subst (HasDistinctNames name) e h))) k d lt

-- What has a name is not absent.

none-of : {X : Type 0} (name : X → List ℕ) (n : List ℕ) (xs : List X) → AllByRecursion (λ x. name x ≢ n) xs → Member n (map name xs) → ⊥
none-of name n [] h m = absurd m
none-of name n (x ∷ xs) h (inl e) = h.0 e
none-of name n (x ∷ xs) h (inr m) = none-of name n xs h.1 m

pub there-not-absent : {X : Type 0} (name : X → List ℕ) (n : List ℕ) (xs : List X) → Contains (map name xs) n → IsAbsent name n xs → ⊥
there-not-absent name n xs there absent = none-of name n xs (every-of-places (λ x. name x ≢ n) xs absent) (member-contains (map name xs) n there)
