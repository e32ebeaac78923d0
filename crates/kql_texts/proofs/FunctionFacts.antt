-- The functions of texts answer what the words of this crate say.
use Rattle.std.proofs.Common.{◌≡◌, ◌↔◌, ◌≤◌, ◌-◌, ◌+◌, ◌⊎◌, ℕ, zero, suc, ℤ, pos, negsuc, Bool, true, false, cond, not, ◌&&◌, ◌||◌, IsTrue, Decides, MatchBool, None, List, [], ◌∷◌, ◌++◌, fold, length, drop, take, inl, inr, refl, sym, ap, ap₂, subst, ◌∙◌, arith, ⊎_elim, append_assoc, append-nil, length-append}
use Rattle.std.specs.List.{onto_first}
use Rattle.std.proofs.lemmas.Bool.{and_parts, false≢true}
use Rattle.std.proofs.lemmas.Bool.Decides.{Decides-eqb, same_from_decides}
use Rattle.std.proofs.lemmas.List.{drop_at}
use Rattle.std.specs.Str.Pattern.{FindsTextPrefix, FindsTextSuffix, HasPrefixMatch, HasSuffixMatch}
use Rattle.std.proofs.lemmas.Str.Pattern.{ends_text, starts_text}
use Rattle.std.proofs.lemmas.Slice.Eq.{bytes_eq-Decides, ends_is, starts_is}
use Rattle.std.proofs.Math.Bool.{or-true}
use Rattle.kql_texts.specs.Pieces.{AreCutAt, EndsAtFirst, IsSplit, joined}
use Rattle.kql_texts.specs.Places.{IsIndexOf, StandsAt}
use Rattle.kql_texts.specs.Stands.{Begins, Ends, Holds}
use Rattle.kql_texts.specs.Terms.{HasTerm, are_joined, first_of}
use Rattle.kql_texts.specs.Texts.{begins, begins_with_term, ends, has_term, has_term_after, holds, index_from, pieces_after, same, split_by}
use Rattle.kql_texts.proofs.MarkFacts.{StandsAfter, StandsAfter-cons}
use Rattle.kql_texts.proofs.PieceFacts.{joined-cons}

-- an answer that is true exactly where a fact holds is any other such answer
same_answer : {P : Type 0} (r s : Bool) → IsTrue r ↔ P → Decides s P → r ≡ s
same_answer r s answer decides = same_from_decides r s answer decides

or_parts : (a b : Bool) → (a || b) ≡ true → (a ≡ true) ⊎ (b ≡ true)
or_parts true b h = inl refl
or_parts false b h = inr h

or_left : (a b : Bool) → a ≡ true → (a || b) ≡ true
or_left a b h = ap (λ v. v || b) h

or_right : (a b : Bool) → b ≡ true → (a || b) ≡ true
or_right a b h = ap (λ v. a || v) h ∙ or-true a

not_parts : (b : Bool) → not b ≡ true → b ≡ false
not_parts true h = absurd (false≢true h)
not_parts false h = refl

is_not : (b : Bool) → b ≡ false → not b ≡ true
is_not b h = ap not h

is_false : (b : Bool) → (b ≡ true → ⊥) → b ≡ false
is_false true h = absurd (h refl)
is_false false h = refl

-- ---- same, begins, ends

same-Decides : (t p : List ℕ) → Decides (same t p) (t ≡ p)
unfolding same
same-Decides = bytes_eq-Decides

begins-Decides : (t p : List ℕ) → Decides (begins t p) (Begins t p)
unfolding begins
begins-Decides t p =
    let is = starts_is Decides-eqb t p (begins t p) refl in
    (λ yes. (drop (length p) t, is.0 yes), λ begun. is.1 begun.0 begun.1)

ends-Decides : (t p : List ℕ) → Decides (ends t p) (Ends t p)
unfolding ends
ends-Decides t p =
    let is = ends_is Decides-eqb t p (ends t p) refl in
    (λ yes. (take (length t - length p) t, is.0 yes), λ ended. is.1 ended.0 ended.1)

-- ---- holds

holds_at : (before t p after : List ℕ) → t ≡ before ++ (p ++ after) → holds t p ≡ true
unfolding holds
holds_at [] [] p after e = (begins-Decides [] p).1 (after, e)
holds_at [] (x ∷ xs) p after e = or_left (begins (x ∷ xs) p) (holds xs p) ((begins-Decides (x ∷ xs) p).1 (after, e))
holds_at (y ∷ ys) [] p after e = absurd (cc)
holds_at (y ∷ ys) (x ∷ xs) p after e =
    let rest : xs ≡ ys ++ (p ++ after) = cc in
    or_right (begins (x ∷ xs) p) (holds xs p) (holds_at ys xs p after rest)

held : (t p : List ℕ) → holds t p ≡ true → Holds t p
unfolding holds
held [] p h = let begun = (begins-Decides [] p).0 h in ([], begun.0, begun.1)
held (x ∷ xs) p h =
    ⊎_elim
    (λ here. let begun = (begins-Decides (x ∷ xs) p).0 here in ([], begun.0, begun.1))
    (λ there. let later = held xs p there in (x ∷ later.0, later.1, ap (λ l. x ∷ l) later.2))
    (or_parts (begins (x ∷ xs) p) (holds xs p) h)

holds-Decides : (t p : List ℕ) → Decides (holds t p) (Holds t p)
holds-Decides t p = (held t p, λ h. holds_at h.0 t p h.1 h.2)

pub same-value : (t p : List ℕ) (r : Bool) → IsTrue r ↔ (t ≡ p) → r ≡ same t p
same-value t p r h = same_answer r (same t p) h (same-Decides t p)

pub begins-value : (s n t p : List ℕ) (r : Bool) → MatchBool r (HasPrefixMatch (FindsTextPrefix n) s) (FindsTextPrefix n s None) → s ≡ t → n ≡ p → r ≡ begins t p
unfolding begins
begins-value s n t p r h same_text same_part = starts_text r n s h ∙ ap₂ begins same_text same_part

pub ends-value : (s n t p : List ℕ) (r : Bool) → MatchBool r (HasSuffixMatch (FindsTextSuffix n) s) (FindsTextSuffix n s None) → s ≡ t → n ≡ p → r ≡ ends t p
unfolding ends
ends-value s n t p r h same_text same_part = ends_text r n s h ∙ ap₂ ends same_text same_part

pub holds-value : (t p : List ℕ) (r : Bool) → IsTrue r ↔ Holds t p → r ≡ holds t p
holds-value t p r h = same_answer r (holds t p) h (holds-Decides t p)

-- ---- terms

term_here : (x : ℕ) (t p after : List ℕ) → t ≡ p ++ after → are_joined x (first_of (p ++ after)) ≡ false → are_joined (fold (λ _ y. y) x p) (first_of after) ≡ false → begins_with_term x t p ≡ true
unfolding begins_with_term
term_here x t p after e start end =
    let behind : drop (length p) t ≡ after = ap (drop (length p)) e ∙ drop_at p after (length p) refl in
    ap₂ ◌&&◌ ((begins-Decides t p).1 (after, e))
    (ap₂ ◌&&◌ (is_not _ (ap (λ l. are_joined x (first_of l)) e ∙ start)) (is_not _ (ap (λ l. are_joined (fold (λ _ y. y) x p) (first_of l)) behind ∙ end)))

here_term : (x : ℕ) (t p : List ℕ) → begins_with_term x t p ≡ true → StandsAfter x t p
unfolding begins_with_term
here_term x t p h =
    let parts = and_parts _ _ h in
    let borders = and_parts _ _ parts.1 in
    let begun = (begins-Decides t p).0 parts.0 in
    let after = begun.0 in
    let behind : drop (length p) t ≡ after = ap (drop (length p)) begun.1 ∙ drop_at p after (length p) refl in (
      [],
      after,
      begun.1,
      ap (λ l. are_joined x (first_of l)) (sym begun.1) ∙ not_parts _ borders.0,
      ap (λ l. are_joined (fold (λ _ y. y) x p) (first_of l)) (sym behind) ∙ not_parts _ borders.1,
    )

term_at : (x : ℕ) (before t p after : List ℕ) → t ≡ before ++ (p ++ after) → are_joined (fold (λ _ y. y) x before) (first_of (p ++ after)) ≡ false
    → are_joined (fold (λ _ y. y) x (before ++ p)) (first_of after) ≡ false → has_term_after x t p ≡ true
unfolding has_term_after
term_at x [] [] p after e start end = term_here x [] p after e start end
term_at x [] (y ∷ ys) p after e start end = or_left (begins_with_term x (y ∷ ys) p) (has_term_after y ys p) (term_here x (y ∷ ys) p after e start end)
term_at x (z ∷ zs) [] p after e start end = absurd (cc)
term_at x (z ∷ zs) (y ∷ ys) p after e start end =
    let same_head : z ≡ y = cc in
    let rest : ys ≡ zs ++ (p ++ after) = cc in
    or_right (begins_with_term x (y ∷ ys) p) (has_term_after y ys p)
    (term_at y zs ys p after rest
    (subst (λ h. are_joined (fold (λ _ b. b) h zs) (first_of (p ++ after)) ≡ false) same_head start)
    (subst (λ h. are_joined (fold (λ _ b. b) h (zs ++ p)) (first_of after) ≡ false) same_head end))

term_held : (x : ℕ) (t p : List ℕ) → has_term_after x t p ≡ true → StandsAfter x t p
unfolding has_term_after
term_held x [] p h = here_term x [] p h
term_held x (y ∷ ys) p h =
    ⊎_elim (λ here. here_term x (y ∷ ys) p here) (λ there. StandsAfter-cons x y ys p (term_held y ys p there))
    (or_parts (begins_with_term x (y ∷ ys) p) (has_term_after y ys p) h)

has_term-Decides : (t p : List ℕ) → Decides (has_term t p) (HasTerm t p)
has_term-Decides t p = (term_held 0 t p, λ term. term_at 0 term.0 t p term.1 term.2 term.3 term.4)

pub has_term-value : (s n t p : List ℕ) (r : Bool) → s ≡ t → n ≡ p → IsTrue r ↔ HasTerm s n → r ≡ has_term t p
has_term-value s n t p r same_text same_part h = same_answer r (has_term s n) h (has_term-Decides s n) ∙ ap₂ has_term same_text same_part

-- ---- places

index_none : (k : ℕ) (xs ys : List ℕ) → ¬ (Holds xs ys) → index_from k xs ys ≡ negsuc 0
unfolding index_from
index_none k [] ys lacks =
    let no = is_false (begins [] ys) (λ yes. let begun = (begins-Decides [] ys).0 yes in lacks ([], begun.0, begun.1)) in
    ap (λ b. cond b (pos k) (negsuc 0)) no
index_none k (x ∷ xs) ys lacks =
    let no = is_false (begins (x ∷ xs) ys) (λ yes. let begun = (begins-Decides (x ∷ xs) ys).0 yes in lacks ([], begun.0, begun.1)) in
    ap (λ b. cond b (pos k) (index_from (suc k) xs ys)) no ∙ index_none (suc k) xs ys (λ later. lacks (x ∷ later.0, later.1, ap (λ l. x ∷ l) later.2))

index_first : (k : ℕ) (before xs ys after : List ℕ) → xs ≡ before ++ (ys ++ after) → ((j : ℕ) → StandsAt xs ys j → length before ≤ j) → index_from k xs ys ≡ pos (k + length before)
unfolding index_from
index_first k [] [] ys after e first =
    ap (λ b. cond b (pos k) (negsuc 0)) ((begins-Decides [] ys).1 (after, e)) ∙ ap pos (omega arith)
index_first k [] (x ∷ xs) ys after e first =
    ap (λ b. cond b (pos k) (index_from (suc k) xs ys)) ((begins-Decides (x ∷ xs) ys).1 (after, e)) ∙ ap pos (omega arith)
index_first k (z ∷ zs) [] ys after e first = absurd (cc)
index_first k (z ∷ zs) (x ∷ xs) ys after e first =
    let rest : xs ≡ zs ++ (ys ++ after) = cc in
    let no = is_false (begins (x ∷ xs) ys) (λ yes.
    let begun = (begins-Decides (x ∷ xs) ys).0 yes in
    let low = first 0 ([], begun.0, begun.1, refl) in
    absurd (omega arith)) in
    let later : (j : ℕ) → StandsAt xs ys j → length zs ≤ j = λ j here.
    let low = first (suc j) (x ∷ here.0, here.1, ap (λ l. x ∷ l) here.2, ap suc here.3) in
    omega arith in
    ap (λ b. cond b (pos k) (index_from (suc k) xs ys)) no ∙ index_first (suc k) zs xs ys after rest later ∙ ap pos (omega arith)

pub IsIndexOf-value : (xs ys : List ℕ) (z : ℤ) → IsIndexOf xs ys z → z ≡ index_from 0 xs ys
IsIndexOf-value xs ys (pos k) first =
    let here = first.stands in
    sym (index_first 0 here.0 xs ys here.1 here.2 (λ j there. subst (λ n. n ≤ j) (sym here.3) (first.earliest j there)) ∙ ap pos (omega (arith, here.3)))
IsIndexOf-value xs ys (negsuc n) none = ap negsuc none.0 ∙ sym (index_none 0 xs ys none.1)

-- ---- pieces

-- of two fronts of a list, the longer begins with the shorter
longer_front : (u v r s : List ℕ) → u ++ r ≡ v ++ s → length v ≤ length u → (more : List ℕ) × (u ≡ v ++ more)
longer_front u [] r s e le = (u, refl)
longer_front [] (y ∷ ys) r s e le = absurd (omega arith)
longer_front (x ∷ xs) (y ∷ ys) r s e le =
    let same_head : x ≡ y = cc in
    let inner = longer_front xs ys r s (cc) (omega arith) in
    (inner.0, ap (λ h. h ∷ xs) same_head ∙ ap (λ (l : List ℕ). y ∷ l) inner.1)

module _ (c : ℕ) (cs : List ℕ) where
  pieces_skip : (n : ℕ) (t : List ℕ) → pieces_after (c ∷ cs) n t ≡ pieces_after (c ∷ cs) 0 (drop n t)
  unfolding pieces_after
  pieces_skip zero t = refl
  pieces_skip (suc n) [] = refl
  pieces_skip (suc n) (x ∷ xs) = pieces_skip n xs

  pieces_one : (x : ℕ) (xs : List ℕ) → begins (x ∷ xs) (c ∷ cs) ≡ false → pieces_after (c ∷ cs) 0 (x ∷ xs) ≡ onto_first x (pieces_after (c ∷ cs) 0 xs)
  unfolding pieces_after
  pieces_one x xs apart = ap (λ b. cond b ([] ∷ pieces_after (c ∷ cs) (length (c ∷ cs) - 1) xs) (onto_first x (pieces_after (c ∷ cs) 0 xs))) apart

  pieces_none : (t : List ℕ) → ¬ (Holds t (c ∷ cs)) → pieces_after (c ∷ cs) 0 t ≡ t ∷ []
  unfolding pieces_after
  pieces_none [] lacks = refl
  pieces_none (x ∷ xs) lacks =
      let apart = is_false (begins (x ∷ xs) (c ∷ cs)) (λ yes. let begun = (begins-Decides (x ∷ xs) (c ∷ cs)).0 yes in lacks ([], begun.0, begun.1)) in
      pieces_one x xs apart ∙ ap (onto_first x) (pieces_none xs (λ later. lacks (x ∷ later.0, later.1, ap (λ l. x ∷ l) later.2)))

  pieces_cut : (x rest : List ℕ) → EndsAtFirst (c ∷ cs) x → pieces_after (c ∷ cs) 0 (x ++ (c ∷ cs ++ rest)) ≡ x ∷ pieces_after (c ∷ cs) 0 rest
  unfolding pieces_after
  pieces_cut [] rest first =
      ap (λ b. cond b ([] ∷ pieces_after (c ∷ cs) (length (c ∷ cs) - 1) (cs ++ rest)) (onto_first c (pieces_after (c ∷ cs) 0 (cs ++ rest)))) ((begins-Decides (c ∷ cs ++ rest) (c ∷ cs)).1 (rest, refl))
      ∙ ap (λ l. [] ∷ l) (pieces_skip (length (c ∷ cs) - 1) (cs ++ rest) ∙ ap (pieces_after (c ∷ cs) 0) (drop_at cs rest (length (c ∷ cs) - 1) (omega arith)))
  pieces_cut (y ∷ ys) rest first =
      let apart = is_false (begins (y ∷ ys ++ (c ∷ cs ++ rest)) (c ∷ cs)) (λ yes.
      let begun = (begins-Decides (y ∷ ys ++ (c ∷ cs ++ rest)) (c ∷ cs)).0 yes in
      let front = y ∷ ys ++ c ∷ cs in
      let size : length (c ∷ cs) ≤ length front = omega (arith, length-append (y ∷ ys) (c ∷ cs)) in
      let longer = longer_front front (c ∷ cs) rest begun.0 (append_assoc (y ∷ ys) (c ∷ cs) rest ∙ begun.1) size in
      let none = first [] longer.0 longer.1 in
      absurd (omega (arith, ap length longer.1, length-append (y ∷ ys) (c ∷ cs), length-append (c ∷ cs) longer.0, ap length none))) in
      let inner : EndsAtFirst (c ∷ cs) ys = λ before after e. first (y ∷ before) after (ap (λ l. y ∷ l) e) in
      pieces_one y (ys ++ (c ∷ cs ++ rest)) apart ∙ ap (onto_first y) (pieces_cut ys rest inner)

  cut_value : (pieces : List (List ℕ)) (t : List ℕ) → joined (c ∷ cs) pieces ≡ t → AreCutAt (c ∷ cs) pieces → pieces ≡ pieces_after (c ∷ cs) 0 t
  cut_value [] t e cut = absurd cut
  cut_value (x ∷ []) t e cut = sym (ap (pieces_after (c ∷ cs) 0) (sym e ∙ append-nil x) ∙ pieces_none x cut)
  cut_value (x ∷ y ∷ more) t e cut =
      let rest = joined (c ∷ cs) (y ∷ more) in
      let parts : x ++ (c ∷ cs ++ rest) ≡ t = sym (joined-cons (c ∷ cs) (c ∷ cs) x (y ∷ more) cut.1) ∙ e in
      sym (ap (pieces_after (c ∷ cs) 0) (sym parts) ∙ pieces_cut x rest cut.0 ∙ ap (λ l. x ∷ l) (sym (cut_value (y ∷ more) rest refl cut.1)))

pub IsSplit-value : (t d : List ℕ) (pieces : List (List ℕ)) → IsSplit t d pieces → pieces ≡ split_by t d
unfolding split_by
IsSplit-value t [] pieces split = split
IsSplit-value t (c ∷ cs) pieces split = cut_value c cs pieces t split.0 split.1
