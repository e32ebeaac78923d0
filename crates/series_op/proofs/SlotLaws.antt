-- What stands in the slots.
use Rattle.std.proofs.Common.{◌≡◌, ◌<◌, ◌≢◌, ◌⊎◌, List, [], ◌∷◌, ℕ, fold, get_or, length, refl, ap, sym, ◌∙◌, subst, inl, inr}
use Rattle.std.specs.Prelude.{None, Option, Some, replicate}
use Rattle.std.proofs.lemmas.Bool.{cases_eq}
use Rattle.std.proofs.lemmas.List.{get_or-replicate, get_or-set_other, get_or-set_same, length-replicate, length-set}
use Rattle.kql_meaning.proofs.MemberLaws.{Member}
use Rattle.series_op.specs.Slots.{put, slots_of}

-- No row.
abbrev pub no_row : Option ℕ
no_row = None

put-length : (place : Option ℕ) (slots : List (Option ℕ)) (r : ℕ) → length (put place slots r) ≡ length slots
unfolding put
put-length None slots r = refl
put-length (Some k) slots r = length-set slots k (Some r)

-- In a slot stands a row whose place it is, or what stood there before and no row has its place.
abbrev Holds : List (Option ℕ) → List ℕ → ℕ → Option ℕ → Option ℕ → Type 0
Holds places rows k before after = ((r : ℕ) × (after ≡ Some r) × Member r rows × (get_or places r None ≡ Some k)) ⊎ ((after ≡ before) × ((r : ℕ) → Member r rows → get_or places r None ≢ Some k))

put-there : (slots : List (Option ℕ)) (r k : ℕ) (place : Option ℕ) → k < length slots → place ≡ Some k → get_or (put place slots r) k None ≡ Some r
unfolding put
put-there slots r k None lt e = cc
put-there slots r k (Some j) lt e = let same : j ≡ k = cc in rw same (get_or-set_same slots k (Some r) None lt)

put-else : (slots : List (Option ℕ)) (r k : ℕ) (place : Option ℕ) → place ≢ Some k → get_or (put place slots r) k None ≡ get_or slots k None
unfolding put
put-else slots r k None e = refl
put-else slots r k (Some j) e = get_or-set_other slots j k (Some r) None (λ same. e (ap Some (sym same)))

inner : (j k : ℕ) → Some j ≡ Some k → j ≡ k
inner j k e = cc

is-place : (o : Option ℕ) (k : ℕ) → (o ≡ Some k) ⊎ (o ≢ Some k)
is-place None k = inr (λ e. cc)
is-place (Some j) k = elim (cases_eq j k) [ inl e ↦ inl (ap Some e) | inr n ↦ inr (λ e. n (inner j k e)) ]

abbrev all_put : List (Option ℕ) → List (Option ℕ) → List ℕ → List (Option ℕ)
all_put places slots rows = fold (λ (s : List (Option ℕ)) (r : ℕ). put (get_or places r None) s r) slots rows

puts-hold : (places : List (Option ℕ)) (rows : List ℕ) (k : ℕ) (slots : List (Option ℕ)) → k < length slots → Holds places rows k (get_or slots k None) (get_or (all_put places slots rows) k None)
puts-hold places [] k slots lt = inr (refl, λ r m. absurd m)
puts-hold places (r ∷ rows) k slots lt =
    let place = get_or places r None in
    let next = put place slots r in
    let inside : k < length next = subst (λ n. k < n) (sym (put-length place slots r)) lt in
    elim (puts-hold places rows k next inside) [
      | inl h ↦ inl (h.0, h.1, inr h.2, h.3)
      | inr h ↦ elim (is-place place k) [
        | inl e ↦ inl (r, h.0 ∙ put-there slots r k place lt e, inl refl, e)
        | inr n ↦ inr (h.0 ∙ put-else slots r k place n, λ s m. elim m [ inl e ↦ (λ f. n (ap (λ i. get_or places i None) e ∙ f)) | inr l ↦ h.1 s l ])
      ]
    ]

all-length : (places : List (Option ℕ)) (rs : List ℕ) (slots : List (Option ℕ)) → length (all_put places slots rs) ≡ length slots
all-length places [] slots = refl
all-length places (r ∷ rs) slots = all-length places rs (put (get_or places r None) slots r) ∙ put-length (get_or places r None) slots r

pub slots-long : (places : List (Option ℕ)) (count : ℕ) (rows : List ℕ) → length (slots_of places count rows) ≡ count
unfolding slots_of
slots-long places count rows = all-length places rows (replicate count None) ∙ length-replicate count None

pub slots-hold : (places : List (Option ℕ)) (count : ℕ) (rows : List ℕ) (k : ℕ) → k < count → ((r : ℕ) × (get_or (slots_of places count rows) k None ≡ Some r) × Member r rows × (get_or places r None ≡ Some k)) ⊎ ((get_or (slots_of places count rows) k None ≡ None) × ((r : ℕ) → Member r rows → get_or places r None ≢ Some k))
unfolding slots_of
slots-hold places count rows k lt =
    elim (puts-hold places rows k (replicate count None) (subst (λ n. k < n) (sym (length-replicate count no_row)) lt)) [
      | inl h ↦ inl h
      | inr h ↦ inr (h.0 ∙ get_or-replicate count k None None lt, h.1)
    ]
