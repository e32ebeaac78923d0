-- The cut that is taken is the least.
use Rattle.std.proofs.Common.{◌≡◌, ◌<◌, ◌≤◌, ◌+◌, ◌-◌, ◌++◌, drop-drop, take-append-drop, ◌&&◌, ℕ, zero, suc, Bool, true, false, List, [], ◌∷◌, map, length, refl, sym, ap, ◌∙◌, arith, inl, inr, subst}
use Rattle.std.specs.Prelude.{Some, None, find, IsTrue, nat_le, slice_range, drop}
use Rattle.std.specs.List.{flat_map, range_with_len}
use Rattle.std.specs.Cmp.{nat_cmp_is}
use Rattle.std.specs.Cmp.Lexicographic.{slice_cmp}
use Rattle.std.specs.Ordering.{is_le, nat_cmp, ordering_reverse, ordering_then}
use Rattle.std.specs.declared.cmp.Ordering.{Ordering}
use Rattle.std.specs.declared.cmp.Ordering.TheVariants.{Less, Equal, Greater}
use Rattle.std.proofs.lemmas.Bool.{and_parts, cases_Bool, eqb-true, leb-true}
use Rattle.std.proofs.lemmas.List.{drop_all}
use Rattle.std.proofs.lemmas.Cmp.{nat_list_cmp_total}
use Rattle.kql_bound.specs.declared.parts.PatItem.{PatItem}
use Rattle.kql_meaning.specs.Cuts.{cut, is_allowed, is_between_characters, is_cut, is_cut_from, is_end, rising_lists}
use Rattle.kql_meaning.specs.Laws.{LeastCutIsLeast, NoCutWhereNone, PiecesAreTheText, pieces}
use Rattle.kql_meaning.proofs.MemberLaws.{Member, Pairwise, member-flat, member-map, member-of-map, member-range, of-member, pairwise-flat, pairwise-map}

-- Ends that are not above others.
abbrev AtMost : List ℕ → List ℕ → Type 0
AtMost es fs = IsTrue (is_le (slice_cmp nat_cmp es fs))

own : (o : Ordering) → o ≡ ordering_reverse o → is_le o ≡ true
own Less e = cc
own Equal e = refl
own Greater e = cc

itself : (es : List ℕ) → AtMost es es
itself es = own (slice_cmp nat_cmp es es) (nat_list_cmp_total.antisymm es es)

-- What a search in a list in which each is at most those behind it finds.
find-least : (p : List ℕ → Bool) (xs : List (List ℕ)) (x : List ℕ) → Pairwise AtMost xs → find p xs ≡ Some x → (p x ≡ true) × ((y : List ℕ) → Member y xs → p y ≡ true → AtMost x y)
find-least p [] x h e = cc
find-least p (z ∷ zs) x h e = elim (cases_Bool (p z)) [
  | inl t ↦
      let found : Some z ≡ Some x = rw t at e in
      let same : z ≡ x = cc in (
        rw (← same) t,
        λ y m passes. elim m [
          | inl s ↦ subst (λ w. AtMost x w) (sym same ∙ s) (itself x)
          | inr r ↦ rw (← same) (of-member (AtMost z) zs y h.0 r)
        ],
      )
  | inr n ↦
      let found : find p zs ≡ Some x = rw n at e in
      let rest = find-least p zs x h.1 found in (
        rest.0,
        λ y m passes. elim m [
          | inl s ↦ absurd (let c : false ≡ true = sym n ∙ (ap p s ∙ passes) in cc)
          | inr r ↦ rest.1 y r passes
        ],
      )
]

find-none : (p : List ℕ → Bool) (xs : List (List ℕ)) (y : List ℕ) → find p xs ≡ None → Member y xs → p y ≡ false
find-none p [] y e m = absurd m
find-none p (z ∷ zs) y e m = elim (cases_Bool (p z)) [
  | inl t ↦ let found : Some z ≡ None = rw t at e in cc
  | inr n ↦
      let found : find p zs ≡ None = rw n at e in
      elim m [
        | inl s ↦ rw (← s) n
        | inr r ↦ find-none p zs y found r
      ]
]

-- The lists come in order.

then-equal : (o : Ordering) → ordering_then Equal o ≡ o
then-equal o = refl

same-number : (e : ℕ) → nat_cmp e e ≡ Equal
same-number e = sym (nat_cmp_is e e Equal refl)

behind-same : (e : ℕ) (es fs : List ℕ) → AtMost es fs → AtMost (e ∷ es) (e ∷ fs)
behind-same e es fs h = rw (same-number e) h

behind-less : (e f : ℕ) (es fs : List ℕ) → e < f → AtMost (e ∷ es) (f ∷ fs)
behind-less e f es fs lt = rw (← nat_cmp_is e f Less lt) refl

rising-in-order : (n size start : ℕ) → Pairwise AtMost (rising_lists n size start)
unfolding rising_lists
rising-in-order zero size start = (tt, tt)
rising-in-order (suc n) size start =
    pairwise-flat AtMost (λ e. map (λ es. e ∷ es) (rising_lists n size e)) start (suc size - start)
    (λ e. pairwise-map AtMost AtMost (λ es. e ∷ es) (rising_lists n size e) (behind-same e) (rising-in-order n size e))
    (λ e f x y lt m k.
    let q = member-of-map (λ es. e ∷ es) (rising_lists n size e) x m in
    let r = member-of-map (λ es. f ∷ es) (rising_lists n size f) y k in
    subst (λ w. AtMost w y) q.2 (subst (λ w. AtMost (e ∷ q.0) w) r.2 (behind-less e f q.0 r.0 lt)))

-- Every cut is among them.

end-parts : (t : List ℕ) (start end : ℕ) → is_end t start end ≡ true → (start ≤ end) × (end ≤ length t)
unfolding is_end
end-parts t start end h =
    let outer = and_parts (nat_le start end) (nat_le end (length t) && is_between_characters t end) h in
    let inner = and_parts (nat_le end (length t)) (is_between_characters t end) outer.1 in
    (leb-true start end outer.0, leb-true end (length t) inner.0)

cut-among : (relaxed : Bool) (ps : List PatItem) (t : List ℕ) (start : ℕ) (ends : List ℕ) → is_cut_from relaxed ps t start ends ≡ true → Member ends (rising_lists (length ps) (length t) start)
unfolding is_cut_from rising_lists
cut-among relaxed [] t start [] h = inl refl
cut-among relaxed [] t start (e ∷ es) h = cc
cut-among relaxed (p ∷ ps) t start [] h = cc
cut-among relaxed (p ∷ ps) t start (e ∷ es) h =
    let outer = and_parts (is_end t start e) (is_allowed relaxed p ps (slice_range t start e) (drop start t) && is_cut_from relaxed ps t e es) h in
    let inner = and_parts (is_allowed relaxed p ps (slice_range t start e) (drop start t)) (is_cut_from relaxed ps t e es) outer.1 in
    let within = end-parts t start e outer.0 in
    member-flat (λ f. map (λ fs. f ∷ fs) (rising_lists (length ps) (length t) f)) (range_with_len start (suc (length t) - start)) e (e ∷ es)
    (member-range start (suc (length t) - start) e within.0 (omega (arith, within.0, within.1)))
    (member-map (λ fs. e ∷ fs) (rising_lists (length ps) (length t) e) es (cut-among relaxed ps t e es inner.1))

pub least_cut_is_least : LeastCutIsLeast
unfolding cut is_cut
least_cut_is_least relaxed pattern t ends e =
    let found = find-least (is_cut relaxed pattern t) (rising_lists (length pattern) (length t) 0) ends (rising-in-order (length pattern) (length t) 0) e in
    (found.0, λ others h. found.1 others (cut-among relaxed pattern t 0 others h) h)

pub no_cut_where_none : NoCutWhereNone
unfolding cut is_cut
no_cut_where_none relaxed pattern t others e = elim (cases_Bool (is_cut relaxed pattern t others)) [
  | inl h ↦ find-none (is_cut relaxed pattern t) (rising_lists (length pattern) (length t) 0) others e (cut-among relaxed pattern t 0 others h)
  | inr n ↦ n
]

-- The pieces of a cut.

rest-of : (t : List ℕ) (start end : ℕ) → start ≤ end → slice_range t start end ++ drop end t ≡ drop start t
rest-of t start end le =
    let e : start + (end - start) ≡ end = omega arith in
    ap (λ n. slice_range t start end ++ drop n t) (sym e) ∙ (ap (λ r. slice_range t start end ++ r) (sym (drop-drop (end - start) start t)) ∙ take-append-drop (end - start) (drop start t))

pieces-are : (relaxed : Bool) (ps : List PatItem) (t : List ℕ) (start : ℕ) (ends : List ℕ) → is_cut_from relaxed ps t start ends ≡ true → (length (pieces t start ends) ≡ length ps) × (flat_map (λ piece. piece) (pieces t start ends) ≡ drop start t)
unfolding is_cut_from
pieces-are relaxed [] t start [] h = (refl, sym (drop_all start t (omega (arith, eqb-true start (length t) h))))
pieces-are relaxed [] t start (e ∷ es) h = cc
pieces-are relaxed (p ∷ ps) t start [] h = cc
pieces-are relaxed (p ∷ ps) t start (e ∷ es) h =
    let outer = and_parts (is_end t start e) (is_allowed relaxed p ps (slice_range t start e) (drop start t) && is_cut_from relaxed ps t e es) h in
    let inner = and_parts (is_allowed relaxed p ps (slice_range t start e) (drop start t)) (is_cut_from relaxed ps t e es) outer.1 in
    let within = end-parts t start e outer.0 in
    let rest = pieces-are relaxed ps t e es inner.1 in
    (ap suc rest.0, ap (λ r. slice_range t start e ++ r) rest.1 ∙ rest-of t start e within.0)

pub pieces_are_the_text : PiecesAreTheText
unfolding is_cut
pieces_are_the_text relaxed pattern t ends h = pieces-are relaxed pattern t 0 ends h

pub ruleset cut_laws = (least_cut_is_least, no_cut_where_none, pieces_are_the_text)
