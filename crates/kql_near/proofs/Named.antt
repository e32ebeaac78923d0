-- Names, and the numbers of edits that lead to them.
use Rattle.std.proofs.Common.{◌≡◌, ◌≤◌, ◌<◌, ◌∙◌, ℕ, List, Bor, All, map, length, slice_index, slice_index_or, sym, subst, ap}
use Rattle.std.proofs.lemmas.List.{get_or-map, length-map}
use Rattle.std.proofs.lemmas.List.Elements.{All-map}
use Rattle.kql_near.specs.Nearest.{edits, few, texts, IsFirstLeast, IsNearest, NoneIsNear}

-- what holds of the images of some elements holds of the elements
all-before : {X Y : Type 0} (P : Y → Type 0) (f : X → Y) (xs : List X) → All P (map f xs) → All (λ x. P (f x)) xs
all-before P f xs h k d lt = subst P (get_or-map f xs k d (f d) lt) (h k (f d) (subst (λ n. k < n) (sym (length-map xs f)) lt))

-- what holds of the numbers of edits holds of the names
of-texts : (P : ℕ → Type 0) (word : List ℕ) (names : List (Bor (List ℕ))) → All P (map (λ n. edits word n.now) names) → All (λ n. P (edits word n)) (texts names)
of-texts P word names h = All-map (λ n. P (edits word n)) (λ n. n.now) names (all-before P (λ n. edits word n.now) names h)

-- the name at the first least of the numbers is the nearest
pub nearest_at : (word : List ℕ) (names : List (Bor (List ℕ))) (at : ℕ) (d : Bor (List ℕ)) (name : List ℕ)
    → IsFirstLeast (map (λ n. edits word n.now) names) at → slice_index (map (λ n. edits word n.now) names) at ≤ few word
    → name ≡ (slice_index_or names at d).now → IsNearest word (texts names) name
nearest_at word names at d name first few_are is =
    let by : Bor (List ℕ) → ℕ = λ n. edits word n.now in
    let lt : at < length names = subst (λ n. at < n) (length-map names by) first.there in
    let number : slice_index (map by names) at ≡ edits word name = get_or-map by names at d 0 lt ∙ ap (λ n. edits word n) (sym is) in
    record {
      among = (at, subst (λ n. at < n) (sym (length-map names (λ n. n.now))) lt, get_or-map (λ n. n.now) names at d name lt ∙ sym is);
      least = of-texts (λ e. edits word name ≤ e) word names (subst (λ x. All (λ e. x ≤ e) (map by names)) number first.least);
      few_edits = subst (λ x. x ≤ few word) number few_are;
    }

pub none_near : (word : List ℕ) (names : List (Bor (List ℕ))) → All (λ e. few word < e) (map (λ n. edits word n.now) names) → NoneIsNear word (texts names)
none_near word names h = of-texts (λ e. few word < e) word names h
