-- The slots of a group, row after row.
use Rattle.std.proofs.Common.{◌≡◌, ◌<◌, ◌≤◌, ◌+◌, List, [], ◌∷◌, ◌++◌, ℕ, fold, get_or, length, take, refl, ap, ap₂, sym, ◌∙◌, subst, inl, inr, arith}
use Rattle.std.specs.Prelude.{All, None, Option, Some, replicate, slice_set}
use Rattle.std.proofs.lemmas.List.{replicate_more, set_past, take_all}
use Rattle.std.proofs.lemmas.List.Elements.{All-from_get_or, All-get_or, recursion_from_All}
use Rattle.std.proofs.lemmas.List.Sums.{fold_more}
use Rattle.kql_values.specs.Moves.{IsWithin}
use Rattle.kql_meaning.proofs.MemberLaws.{of-member}
use Rattle.series_op.specs.Slots.{put, slots_of}
use Rattle.series_op.proofs.SlotLaws.{no_row, slots-hold, slots-long}

-- One row.

pub put-none : (slots : List (Option ℕ)) (place : Option ℕ) (r : ℕ) → place ≡ None → slots ≡ put place slots r
unfolding put
put-none slots place r e = rw e refl

pub put-some : (old new : List (Option ℕ)) (place : Option ℕ) (k r : ℕ) → place ≡ Some k → new ≡ slice_set old k (Some r) → new ≡ put place old r
unfolding put
put-some old new place k r e is = rw e is

pub put-past : (slots : List (Option ℕ)) (place : Option ℕ) (k r : ℕ) → place ≡ Some k → length slots ≤ k → slots ≡ put place slots r
unfolding put
put-past slots place k r e past = rw e (sym (set_past slots k (Some r) past))

pub ruleset put_steps = (put-none, put-some, put-past)

-- No row yet.

pub none-start : replicate 0 no_row ≡ []
none-start = refl

pub none-more : (k : ℕ) (old new : List (Option ℕ)) → old ≡ replicate k None → new ≡ old ++ None ∷ [] → new ≡ replicate (k + 1) None
none-more k old new before after = after ∙ (ap (λ (xs : List (Option ℕ)). xs ++ None ∷ []) before ∙ replicate_more k None)

pub ruleset none_steps = (none-start, none-more)

-- Row after row.

abbrev pub put_all : List (Option ℕ) → ℕ → List ℕ → List (Option ℕ)
put_all places count rows = fold (λ (s : List (Option ℕ)) (r : ℕ). put (get_or places r None) s r) (replicate count None) rows

pub puts-start : (places : List (Option ℕ)) (count : ℕ) (rows : List ℕ) (slots : List (Option ℕ)) → slots ≡ replicate count None → slots ≡ put_all places count (take 0 rows)
puts-start places count rows slots e = e

pub puts-more : (places : List (Option ℕ)) (count i r : ℕ) (rows : List ℕ) (place : Option ℕ) (old new : List (Option ℕ)) → i < length rows → r ≡ get_or rows i r → place ≡ get_or places r None → old ≡ put_all places count (take i rows) → new ≡ put place old r → new ≡ put_all places count (take (i + 1) rows)
puts-more places count i r rows place old new lt is at before after =
    after
    ∙ (ap₂ (λ (o : Option ℕ) (s : List (Option ℕ)). put o s r) at before
    ∙ (ap (λ k. put (get_or places k None) (put_all places count (take i rows)) k) is
    ∙ sym (fold_more (λ (s : List (Option ℕ)) (r : ℕ). put (get_or places r None) s r) (replicate count None) rows i r lt)))

pub puts-all : (places : List (Option ℕ)) (count i : ℕ) (rows : List ℕ) (slots : List (Option ℕ)) → length rows ≤ i → slots ≡ put_all places count (take i rows) → slots ≡ slots_of places count rows
unfolding slots_of
puts-all places count i rows slots all e = e ∙ ap (put_all places count) (take_all i rows all)

pub row-below : (rows : List ℕ) (n i r : ℕ) → All (λ k. k < n) rows → i < length rows → r ≡ get_or rows i r → r < n
row-below rows n i r h lt is = subst (λ k. k < n) (sym is) (All-get_or (λ k. k < n) rows i r lt h)

pub ruleset slot_steps = (puts-start, puts-more, puts-all, row-below)

-- What stands in a slot is one of the rows.

pub slots-within : (places : List (Option ℕ)) (count n : ℕ) (rows : List ℕ) → All (λ r. r < n) rows → All (IsWithin n) (slots_of places count rows)
slots-within places count n rows h =
    let slots = slots_of places count rows in
    All-from_get_or (IsWithin n) slots None
    (λ k lt. elim (slots-hold places count rows k (omega (arith, lt, slots-long places count rows))) [
      | inl q ↦ subst (IsWithin n) (sym q.1) (of-member (λ r. r < n) rows q.0 (recursion_from_All (λ r. r < n) rows h) q.2)
      | inr q ↦ subst (IsWithin n) (sym q.0) tt
    ])
