-- Turns of the search.
use Rattle.std.proofs.Common.{◌≡◌, ◌<◌, ◌≤◌, ◌+◌, ◌-◌, ◌++◌, ◌↔◌, ◌==◌, ℕ, zero, suc, Bool, true, false, List, [], ◌∷◌, length, take, drop, refl, sym, ap, ap₂, ◌∙◌, arith, inl, inr, subst, length-drop, take_all}
use Rattle.std.specs.Prelude.{IsTrue, Some, None, nat_le, option_map, slice_range}
use Rattle.std.specs.Str.{IsCharBoundary}
use Rattle.std.proofs.lemmas.Bool.{cases_Bool, eqb-false, eqb-true, leb-false, leb-true}
use borrow.Rule.Slice.PartMut.{put_mid}
use Rattle.kql_bound.specs.declared.parts.PatItem.{PatItem}
use Rattle.kql_meaning.specs.Cuts.{is_allowed}
use Rattle.parse_op.specs.declared.search.Turn.{Turn}
use Rattle.parse_op.specs.declared.search.Turn.TheVariants as turn
use Rattle.parse_op.specs.declared.slot.Slot.{Slot}
use Rattle.parse_op.specs.Search.{AllowsEnd, Answers, AreRemembered, Fell, HasNoCut, IsChosen, IsNextEnd, IsOpen, IsRemembered, MayEnd, NoneBefore, NoneBehind, Stands, Turned, TurnedAt, choices_fallen, choices_left, cut_from, ends_in, failed_at, first_end, first_start, is_place, passed}
use Rattle.parse_op.proofs.CutSteps.{at-end, boundary-place, by-later, found-at, later-none, no-place, none-at, not-allowed, not-at-end, place-boundary, place-within}
use Rattle.parse_op.proofs.SearchSteps.{no-boundary, tested-place}
use Rattle.parse_op.proofs.StackSteps.{fell-end, fell-pass, fell-put, fell-within, fewer-deeper, fewer-fell, fewer-pass, fewer-put, none-at-first, none-before-next, other-end, put, some-left, top, whole-cut, within-items, within-slots}

-- One end.

pub at-no-begin : (r : Bool) (p : PatItem) (ps : List PatItem) (t : List ℕ) (start end : ℕ) (b : Bool) → (b ≡ false → HasNoCut ps t end) → b ≡ false → MayEnd r p ps t start end false
unfolding MayEnd HasNoCut
at-no-begin r p ps t start end b h e = later-none r p ps t start end (λ here. h e r)

known-failed : (r : Bool) (ps : List PatItem) (t : List ℕ) (place : ℕ) (slots : List Slot) → length slots ≡ length ps → AreRemembered r ps t slots → failed_at slots place ≡ true → is_place t place ≡ true → cut_from r ps t place ≡ None
unfolding AreRemembered IsRemembered failed_at
known-failed r [] t place [] same are set here = cc
known-failed r [] t place (s ∷ ss) same are set here = absurd (omega (arith, same))
known-failed r (p ∷ ps) t place [] same are set here = cc
known-failed r (p ∷ ps) t place (s ∷ ss) same are set here = are.0.1 place set here

pub at-failed : (r : Bool) (p : PatItem) (ps : List PatItem) (t : List ℕ) (start end : ℕ) (b : Bool) (slots : List Slot) → length slots ≡ length ps → AreRemembered r ps t slots → b ≡ failed_at slots end → b ≡ true → MayEnd r p ps t start end false
unfolding MayEnd
at-failed r p ps t start end b slots same are is set = later-none r p ps t start end (known-failed r ps t end slots same are (sym is ∙ set))

pub at-no-place : (r : Bool) (p : PatItem) (ps : List PatItem) (t : List ℕ) (start end : ℕ) (b : Bool) → (IsTrue b ↔ IsCharBoundary t end) → b ≡ false → MayEnd r p ps t start end false
unfolding MayEnd
at-no-place r p ps t start end b h e = no-place r p ps t start end (no-boundary t end b h e)

at-piece : (r : Bool) (p : PatItem) (ps : List PatItem) (t : List ℕ) (start end : ℕ) (b : Bool) → start ≤ end → is_place t end ≡ true → (length ps ≡ 0 → end ≡ length t) → b ≡ is_allowed r p ps (slice_range t start end) (drop start t) → MayEnd r p ps t start end b
unfolding MayEnd AllowsEnd
at-piece r p ps t start end true le here last is = (here, by-later r p ps t start end le here (sym is), last)
at-piece r p ps t start end false le here last is = not-allowed r p ps t start end (sym is)

pub at-end-of-piece : (r : Bool) (p : PatItem) (ps : List PatItem) (t : List ℕ) (start end : ℕ) (begins b : Bool) (piece rest : List ℕ) → start ≤ end → is_place t end ≡ true → (length ps ≡ 0 → begins ≡ (end == length t)) → begins ≡ true → b ≡ is_allowed r p ps piece rest → piece ≡ slice_range t start end → rest ≡ drop start t → MayEnd r p ps t start end b
at-end-of-piece r p ps t start end begins b piece rest le here ends begun h is all =
    at-piece r p ps t start end b le here (λ none. eqb-true end (length t) (sym (ends none) ∙ begun))
    (h ∙ (ap (λ x. is_allowed r p ps x rest) is ∙ ap (is_allowed r p ps (slice_range t start end)) all))

-- All ends.

pub end-taken : (r : Bool) (p : PatItem) (ps : List PatItem) (t : List ℕ) (start first end : ℕ) (b : Bool) → first ≤ end → NoneBefore r p ps t start end → MayEnd r p ps t start end b → b ≡ true → IsNextEnd r p ps t start first end
unfolding MayEnd IsNextEnd
end-taken r p ps t start first end true le none h e = (le, none, h)
end-taken r p ps t start first end false le none h e = cc

pub end-passed : (r : Bool) (p : PatItem) (ps : List PatItem) (t : List ℕ) (start end : ℕ) (b : Bool) → NoneBefore r p ps t start end → MayEnd r p ps t start end b → b ≡ false → NoneBefore r p ps t start (end + 1)
unfolding MayEnd
end-passed r p ps t start end true none h e = cc
end-passed r p ps t start end false none h e = none-before-next r p ps t start end none h

pub all-passed : (r : Bool) (p : PatItem) (ps : List PatItem) (t : List ℕ) (start end beyond : ℕ) → NoneBefore r p ps t start end → beyond ≤ end → NoneBehind r p ps t start beyond → NoneBehind r p ps t start 0
unfolding NoneBefore NoneBehind
all-passed r p ps t start end beyond before le behind = λ i low. elim (cases_Bool (nat_le end i)) [
  | inl far ↦ behind i (omega (arith, le, leb-true end i far))
  | inr near ↦ before i (leb-false end i near)
]

pub ruleset end_steps = (place-boundary, tested-place, at-no-begin, at-failed, at-no-place, at-end-of-piece, end-taken, end-passed, all-passed, place-within)

-- The next end of an held slot.

pub open-place : (r : Bool) (p : PatItem) (ps : List PatItem) (t : List ℕ) (s : Slot) → IsOpen r p ps t s → is_place t s.start ≡ true
unfolding IsOpen
open-place r p ps t s h = h.0

pub open-order : (r : Bool) (p : PatItem) (ps : List PatItem) (t : List ℕ) (s : Slot) → IsOpen r p ps t s → s.start ≤ s.end
unfolding IsOpen
open-order r p ps t s h = h.1

pub open-before : (r : Bool) (p : PatItem) (ps : List PatItem) (t : List ℕ) (s : Slot) → IsOpen r p ps t s → NoneBefore r p ps t s.start s.end
unfolding IsOpen
open-before r p ps t s h = h.3

pub open-behind : (r : Bool) (p : PatItem) (ps : List PatItem) (t : List ℕ) (s : Slot) → IsOpen r p ps t s → NoneBehind r p ps t s.start s.beyond
unfolding IsOpen
open-behind r p ps t s h = h.4

pub next-chosen : (r : Bool) (p : PatItem) (ps : List PatItem) (t : List ℕ) (s : Slot) (end : ℕ) → IsOpen r p ps t s → IsNextEnd r p ps t s.start s.end end → IsChosen r p ps t s (record s { end = end }) true
unfolding IsOpen IsNextEnd AllowsEnd IsChosen
next-chosen r p ps t s end h n =
    let high = place-within t end n.2.0 in
    (n.0, (h.0, omega (arith, h.1, n.0), omega (arith, high), n.1, h.4), n.2)

pub none-chosen : (r : Bool) (p : PatItem) (ps : List PatItem) (t : List ℕ) (s : Slot) → NoneBehind r p ps t s.start 0 → IsChosen r p ps t s s false
unfolding IsChosen
none-chosen r p ps t s h = h

pub ruleset choose_steps = (open-place, open-order, open-before, open-behind, next-chosen, none-chosen)

-- The first slot of those that are left.

pub of-count : (p : PatItem) (ps items : List PatItem) (s : Slot) (ss slots : List Slot) → items ≡ p ∷ ps → slots ≡ s ∷ ss → length slots ≡ length items → length ss ≡ length ps
of-count p ps items s ss slots is are same =
    let a : length slots ≡ length (s ∷ ss) = ap (λ (xs : List Slot). length xs) are in
    let b : length items ≡ length (p ∷ ps) = ap (λ (xs : List PatItem). length xs) is in
    omega (arith, a, b, same)

of-stands : (r : Bool) (p : PatItem) (ps items : List PatItem) (t : List ℕ) (start : ℕ) (s : Slot) (ss slots : List Slot) → items ≡ p ∷ ps → slots ≡ s ∷ ss → Stands r items t start slots 0 → Stands r (p ∷ ps) t start (s ∷ ss) 0
of-stands r p ps items t start s ss slots is are h = subst (λ xs. Stands r (p ∷ ps) t start xs 0) are (subst (λ xs. Stands r xs t start slots 0) is h)

pub of-open : (r : Bool) (p : PatItem) (ps items : List PatItem) (t : List ℕ) (start : ℕ) (s : Slot) (ss slots : List Slot) → items ≡ p ∷ ps → slots ≡ s ∷ ss → Stands r items t start slots 0 → IsOpen r p ps t s
unfolding Stands
of-open r p ps items t start s ss slots is are h = (of-stands r p ps items t start s ss slots is are h).1

pub of-first : (r : Bool) (p : PatItem) (ps items : List PatItem) (t : List ℕ) (start : ℕ) (s : Slot) (ss slots : List Slot) → items ≡ p ∷ ps → slots ≡ s ∷ ss → Stands r items t start slots 0 → IsRemembered r p ps t s
unfolding Stands
of-first r p ps items t start s ss slots is are h = (of-stands r p ps items t start s ss slots is are h).2

pub of-later : (r : Bool) (p : PatItem) (ps items : List PatItem) (t : List ℕ) (start : ℕ) (s : Slot) (ss slots : List Slot) → items ≡ p ∷ ps → slots ≡ s ∷ ss → Stands r items t start slots 0 → AreRemembered r ps t ss
unfolding Stands
of-later r p ps items t start s ss slots is are h = (of-stands r p ps items t start s ss slots is are h).3

pub of-next : (r : Bool) (q : PatItem) (qs ps : List PatItem) (t : List ℕ) (s : Slot) (ss slots : List Slot) → ps ≡ q ∷ qs → slots ≡ s ∷ ss → AreRemembered r ps t slots → IsRemembered r q qs t s × AreRemembered r qs t ss
unfolding AreRemembered
of-next r q qs ps t s ss slots is are h = subst (λ xs. AreRemembered r (q ∷ qs) t xs) are (subst (λ xs. AreRemembered r xs t slots) is h)

pub first-of-next : (r : Bool) (q : PatItem) (qs ps : List PatItem) (t : List ℕ) (s : Slot) (ss slots : List Slot) → ps ≡ q ∷ qs → slots ≡ s ∷ ss → AreRemembered r ps t slots → IsRemembered r q qs t s
first-of-next r q qs ps t s ss slots is are h = (of-next r q qs ps t s ss slots is are h).0

pub kept-memory : (r : Bool) (p : PatItem) (ps : List PatItem) (t : List ℕ) (s s' : Slot) → s' ≡ record s { end = s'.end } → IsRemembered r p ps t s → IsRemembered r p ps t s'
kept-memory r p ps t s s' is h = subst (λ x. IsRemembered r p ps t x) (sym is) (other-end r p ps t s s'.end h)

pub kept-place : (r : Bool) (p : PatItem) (ps : List PatItem) (t : List ℕ) (s s' : Slot) → s' ≡ record s { end = s'.end } → IsOpen r p ps t s → is_place t s'.start ≡ true
unfolding IsOpen
kept-place r p ps t s s' is h = subst (λ (x : Slot). is_place t x.start ≡ true) (sym is) h.0

pub chosen-none : (r : Bool) (p : PatItem) (ps : List PatItem) (t : List ℕ) (s s' : Slot) (b : Bool) → IsChosen r p ps t s s' b → b ≡ false → NoneBehind r p ps t s'.start 0
unfolding IsChosen
chosen-none r p ps t s s' true h e = cc
chosen-none r p ps t s s' false h e = h

chosen : (r : Bool) (p : PatItem) (ps : List PatItem) (t : List ℕ) (s s' : Slot) (b : Bool) → IsChosen r p ps t s s' b → b ≡ true → (s.end ≤ s'.end) × IsOpen r p ps t s' × AllowsEnd r p ps t s'.start s'.end
unfolding IsChosen
chosen r p ps t s s' true h e = h
chosen r p ps t s s' false h e = cc

pub chosen-place : (r : Bool) (p : PatItem) (ps : List PatItem) (t : List ℕ) (s s' : Slot) (b : Bool) → IsChosen r p ps t s s' b → b ≡ true → is_place t s'.end ≡ true
unfolding AllowsEnd
chosen-place r p ps t s s' b h e = (chosen r p ps t s s' b h e).2.0

first-start-is : (s : Slot) (ss slots : List Slot) → slots ≡ s ∷ ss → first_start slots ≡ s.start
unfolding first_start
first-start-is s ss slots are = ap first_start are

-- What a turn says.

pub turn-without-item : (r : Bool) (items : List PatItem) (t : List ℕ) (start : ℕ) (slots new : List Slot) (w : Turn) → length items ≡ 0 → Stands r items t start slots 0 → Turned r items t slots new w
turn-without-item r items t start slots new turn none h = absurd (omega (arith, none, within-items r items t start slots 0 h))

pub turn-without-slot : (r : Bool) (items : List PatItem) (t : List ℕ) (start : ℕ) (slots new : List Slot) (w : Turn) → length slots ≡ 0 → Stands r items t start slots 0 → Turned r items t slots new w
turn-without-slot r items t start slots new turn none h = absurd (omega (arith, none, within-slots r items t start slots 0 h))

pub turn-without-next : (r : Bool) (q : PatItem) (qs ps items : List PatItem) (t : List ℕ) (ss slots new : List Slot) (w : Turn) → ps ≡ q ∷ qs → length ss ≡ length ps → length ss ≡ 0 → Turned r items t slots new w
turn-without-next r q qs ps items t ss slots new w is same none =
    let a : length ps ≡ length (q ∷ qs) = ap (λ (xs : List PatItem). length xs) is in
    absurd (omega (arith, a, same, none))

pub turn-failed : (r : Bool) (p : PatItem) (ps items : List PatItem) (t : List ℕ) (s s' s'' : Slot) (ss slots : List Slot) → items ≡ p ∷ ps → slots ≡ s ∷ ss → Stands r items t (first_start slots) slots 0 → s' ≡ record s { end = s'.end } → NoneBehind r p ps t s'.start 0 → IsRemembered r p ps t s'' → Turned r items t slots (s'' ∷ ss) turn.Failed
unfolding Turned AreRemembered
turn-failed r p ps items t s s' s'' ss slots is are h kept none one =
    let start : s'.start ≡ s.start = ap (λ (x : Slot). x.start) kept in
    let at : first_start slots ≡ s'.start = first-start-is s ss slots are ∙ sym start in
    let gone : cut_from r items t (first_start slots) ≡ None = ap₂ (λ (xs : List PatItem) (n : ℕ). cut_from r xs t n) is at ∙ none-at r p ps t s'.start none in
    (gone, subst (λ xs. AreRemembered r xs t (s'' ∷ ss)) (sym is) (one, of-later r p ps items t (first_start slots) s ss slots is are h), some-left r items t (first_start slots) slots h)

no-slots : (ss : List Slot) → length ss ≡ 0 → ss ≡ []
no-slots [] h = refl
no-slots (s ∷ ss) h = absurd (omega (arith, h))

cut-at-last : (r : Bool) (p : PatItem) (ps : List PatItem) (t : List ℕ) (s : Slot) → length ps ≡ 0 → IsOpen r p ps t s → AllowsEnd r p ps t s.start s.end → cut_from r (p ∷ ps) t s.start ≡ Some (s.end ∷ [])
unfolding IsOpen AllowsEnd
cut-at-last r p [] t s none held may =
    found-at r p [] t s.start s.end (s.end ∷ []) held.3 (may.1 ∙ ap (option_map (λ ends. s.end ∷ ends)) (at-end r t s.end (may.2 none)))
cut-at-last r p (q ∷ qs) t s none held may = absurd (omega (arith, none))

pub turn-found : (r : Bool) (p : PatItem) (ps items : List PatItem) (t : List ℕ) (s s' : Slot) (ss slots : List Slot) (b : Bool) → items ≡ p ∷ ps → slots ≡ s ∷ ss → length ss ≡ length ps → length ps ≡ 0 → s' ≡ record s { end = s'.end } → IsChosen r p ps t s s' b → b ≡ true → Turned r items t slots (s' ∷ ss) turn.Found
unfolding Turned
turn-found r p ps items t s s' ss slots b is are same none kept h e =
    let parts = chosen r p ps t s s' b h e in
    let start : s'.start ≡ s.start = ap (λ (x : Slot). x.start) kept in
    let at : first_start slots ≡ s'.start = first-start-is s ss slots are ∙ sym start in
    let rest : ss ≡ [] = no-slots ss (same ∙ none) in
    ap₂ (λ (xs : List PatItem) (n : ℕ). cut_from r xs t n) is at ∙ (cut-at-last r p ps t s' none parts.1 parts.2 ∙ ap (λ (xs : List Slot). Some (ends_in (s' ∷ xs))) (sym rest))

pub turn-deeper : (r : Bool) (p q : PatItem) (ps qs items : List PatItem) (t : List ℕ) (s s' s2 s2' : Slot) (ss ss2 slots : List Slot) (b : Bool) → items ≡ p ∷ ps → ps ≡ q ∷ qs → slots ≡ s ∷ ss → ss ≡ s2 ∷ ss2 → Stands r items t (first_start slots) slots 0 → s' ≡ record s { end = s'.end } → IsChosen r p ps t s s' b → b ≡ true → s2'.start ≡ s'.end → IsOpen r q qs t s2' → IsRemembered r q qs t s2' → Turned r items t slots (s' ∷ s2' ∷ ss2) turn.Deeper
unfolding Turned Stands choices_left
turn-deeper r p q ps qs items t s s' s2 s2' ss ss2 slots b is later are behind h kept c e begun held one =
    let parts = chosen r p ps t s s' b c e in
    let start : s'.start ≡ first_start slots = ap (λ (x : Slot). x.start) kept ∙ sym (first-start-is s ss slots are) in
    let more = of-next r q qs ps t s2 ss2 ss later behind (of-later r p ps items t (first_start slots) s ss slots is are h) in
    let memory = kept-memory r p ps t s s' kept (of-first r p ps items t (first_start slots) s ss slots is are h) in
    let inside : Stands r ps t s'.end (s2' ∷ ss2) 0 = subst (λ xs. Stands r xs t s'.end (s2' ∷ ss2) 0) (sym later) (begun, held, one, more.1) in
    let all : Stands r (p ∷ ps) t (first_start slots) (s' ∷ s2' ∷ ss2) 1 = (start, parts.1, memory, parts.2, inside) in
    let high = place-within t s'.end (chosen-place r p ps t s s' b c e) in (
      subst (λ xs. Stands r xs t (first_start slots) (s' ∷ s2' ∷ ss2) 1) (sym is) all,
      subst (λ xs. choices_left (length t) (s' ∷ s2' ∷ ss2) 1 < choices_left (length t) xs 0) (sym (are ∙ ap (λ xs. s ∷ xs) behind))
          (fewer-deeper (length t) s.end s'.end s2'.end (length ss2) parts.0 high),
    )

pub ruleset turn_steps = (of-count, of-open, of-first, of-later, first-of-next, kept-memory, kept-place, chosen-none, chosen-place, turn-without-item, turn-without-slot, turn-without-next, turn-failed, turn-found, turn-deeper)

-- A turn at a place.

rest-of : {X : Type 0} (n : ℕ) (xs : List X) → take (length xs - n) (drop n xs) ≡ drop n xs
rest-of n xs = take_all (length xs - n) (drop n xs) (omega (arith, length-drop n xs))

drop-all : {X : Type 0} (n : ℕ) (xs : List X) → length xs ≤ n → drop n xs ≡ []
drop-all zero [] le = refl
drop-all (suc n) [] le = refl
drop-all zero (x ∷ xs) le = absurd (omega (arith, le))
drop-all (suc n) (x ∷ xs) le = drop-all n xs (omega (arith, le))

nil-right : (xs : List Slot) → xs ++ [] ≡ xs
nil-right [] = refl
nil-right (x ∷ xs) = ap (λ ys. x ∷ ys) (nil-right xs)

written : (n : ℕ) (slots new : List Slot) → put_mid n (length slots - n) slots new ≡ take n slots ++ new
written n slots new =
    let none : drop (length slots - n) (drop n slots) ≡ [] = drop-all (length slots - n) (drop n slots) (omega (arith, length-drop n slots)) in
    ap (λ (xs : List Slot). take n slots ++ (new ++ xs)) none ∙ ap (λ (xs : List Slot). take n slots ++ xs) (nil-right new)

pub rest-stands : (r : Bool) (items : List PatItem) (t : List ℕ) (slots : List Slot) (n : ℕ) → Stands r items t 0 slots n → Stands r (take (length items - n) (drop n items)) t (first_start (take (length slots - n) (drop n slots))) (take (length slots - n) (drop n slots)) 0
rest-stands r items t slots n h =
    subst (λ xs. Stands r xs t (first_start (take (length slots - n) (drop n slots))) (take (length slots - n) (drop n slots)) 0) (sym (rest-of n items))
    (subst (λ xs. Stands r (drop n items) t (first_start xs) xs 0) (sym (rest-of n slots)) (top r items t 0 slots n h))

pub rest-count : (items : List PatItem) (slots : List Slot) (n : ℕ) → length slots ≡ length items → length (take (length slots - n) (drop n slots)) ≡ length (take (length items - n) (drop n items))
rest-count items slots n same =
    let a : length (take (length slots - n) (drop n slots)) ≡ length (drop n slots) = ap (λ (xs : List Slot). length xs) (rest-of n slots) in
    let b : length (take (length items - n) (drop n items)) ≡ length (drop n items) = ap (λ (xs : List PatItem). length xs) (rest-of n items) in
    omega (arith, a, b, length-drop n slots, length-drop n items, same)

after : (r : Bool) (items : List PatItem) (t : List ℕ) (slots new : List Slot) (n : ℕ) (w : Turn) → Stands r items t 0 slots n → length new ≡ length (drop n slots) → Turned r (drop n items) t (drop n slots) new w → TurnedAt r items t slots n (take n slots ++ new) w
unfolding Turned TurnedAt
after r items t slots new n turn.Found h len turned = whole-cut r items t 0 slots n new h turned
after r items t slots new n turn.Deeper h len turned =
    (put r items t 0 slots n new 1 (n + 1) refl h turned.0, fewer-put (length t) slots n new 1 (n + 1) refl len turned.1)
after r items t slots new n turn.Failed h len turned =
    (fell-put r items t 0 slots n new h turned.0 turned.1, fewer-fell (length t) slots n new len turned.2)

pub turned-at : (r : Bool) (items : List PatItem) (t : List ℕ) (slots new : List Slot) (n : ℕ) (w : Turn) → Stands r items t 0 slots n → length new ≡ length (take (length slots - n) (drop n slots)) → Turned r (take (length items - n) (drop n items)) t (take (length slots - n) (drop n slots)) new w → TurnedAt r items t slots n (put_mid n (length slots - n) slots new) w
turned-at r items t slots new n w h len turned =
    let len' : length new ≡ length (drop n slots) = len ∙ ap (λ (xs : List Slot). length xs) (rest-of n slots) in
    let turned' : Turned r (drop n items) t (drop n slots) new w = subst (λ xs. Turned r (drop n items) t xs new w) (rest-of n slots) (subst (λ xs. Turned r xs t (take (length slots - n) (drop n slots)) new w) (rest-of n items) turned) in
    subst (λ xs. TurnedAt r items t slots n xs w) (sym (written n slots new)) (after r items t slots new n w h len' turned')

pub at-most-items : (r : Bool) (items : List PatItem) (t : List ℕ) (start : ℕ) (slots : List Slot) (n : ℕ) → Stands r items t start slots n → n ≤ length items
at-most-items r items t start slots n h = omega (arith, within-items r items t start slots n h)

pub at-most-slots : (r : Bool) (items : List PatItem) (t : List ℕ) (start : ℕ) (slots : List Slot) (n : ℕ) → Stands r items t start slots n → n ≤ length slots
at-most-slots r items t start slots n h = omega (arith, within-slots r items t start slots n h)

pub ruleset turn_at_steps = (at-most-items, at-most-slots, rest-stands, rest-count, turned-at)

-- The next end.

pub passed-first : (s : Slot) (ss slots : List Slot) → slots ≡ s ∷ ss → (record s { end = s.end + 1 } ∷ ss) ≡ passed slots
unfolding passed
passed-first s ss slots are = sym (ap passed are)

pub passed-none : (slots : List Slot) → length slots ≡ 0 → slots ≡ passed slots
unfolding passed
passed-none [] h = refl
passed-none (s ∷ ss) h = absurd (omega (arith, h))

pub small-first : (s : Slot) (ss slots : List Slot) (most : ℕ) → slots ≡ s ∷ ss → first_end slots < most → s.end < most
unfolding first_end
small-first s ss slots most are h = subst (λ n. n < most) (ap first_end are) h

pub small-rest : (n : ℕ) (slots : List Slot) (most : ℕ) → first_end (drop n slots) < most → first_end (take (length slots - n) (drop n slots)) < most
small-rest n slots most h = subst (λ (xs : List Slot). first_end xs < most) (sym (rest-of n slots)) h

pub passed-rest : (n : ℕ) (slots new : List Slot) → new ≡ passed (take (length slots - n) (drop n slots)) → put_mid n (length slots - n) slots new ≡ take n slots ++ passed (drop n slots)
passed-rest n slots new is = written n slots new ∙ ap (λ (xs : List Slot). take n slots ++ xs) (is ∙ ap passed (rest-of n slots))

pub ruleset pass_steps = (passed-first, passed-none, small-first, small-rest, passed-rest)

-- All turns.

pub turns-found : (r : Bool) (items : List PatItem) (t : List ℕ) (old new : List Slot) (at : ℕ) (w : Turn) → w ≡ turn.Found → TurnedAt r items t old at new w → Answers true (cut_from r items t 0) (ends_in new)
unfolding TurnedAt Answers
turns-found r items t old new at turn.Found e h = h
turns-found r items t old new at turn.Deeper e h = cc
turns-found r items t old new at turn.Failed e h = cc

deeper : (r : Bool) (items : List PatItem) (t : List ℕ) (old new : List Slot) (at : ℕ) (w : Turn) → w ≡ turn.Deeper → TurnedAt r items t old at new w → Stands r items t 0 new (at + 1) × (choices_left (length t) new (at + 1) < choices_left (length t) old at)
unfolding TurnedAt
deeper r items t old new at turn.Found e h = cc
deeper r items t old new at turn.Deeper e h = h
deeper r items t old new at turn.Failed e h = cc

pub deeper-stands : (r : Bool) (items : List PatItem) (t : List ℕ) (old new : List Slot) (at : ℕ) (w : Turn) → w ≡ turn.Deeper → TurnedAt r items t old at new w → Stands r items t 0 new (at + 1)
deeper-stands r items t old new at w e h = (deeper r items t old new at w e h).0

pub deeper-fewer : (r : Bool) (items : List PatItem) (t : List ℕ) (old new : List Slot) (at : ℕ) (w : Turn) → w ≡ turn.Deeper → TurnedAt r items t old at new w → choices_left (length t) new (at + 1) < choices_left (length t) old at
deeper-fewer r items t old new at w e h = (deeper r items t old new at w e h).1

failed : (r : Bool) (items : List PatItem) (t : List ℕ) (old new : List Slot) (at : ℕ) (w : Turn) → w ≡ turn.Failed → TurnedAt r items t old at new w → Fell r items t 0 new at × (choices_fallen (length t) new at < choices_left (length t) old at)
unfolding TurnedAt
failed r items t old new at turn.Found e h = cc
failed r items t old new at turn.Deeper e h = cc
failed r items t old new at turn.Failed e h = h

pub turns-failed : (r : Bool) (items : List PatItem) (t : List ℕ) (old new : List Slot) (es : List ℕ) (at : ℕ) (w : Turn) → w ≡ turn.Failed → (at == 0) ≡ true → TurnedAt r items t old at new w → Answers false (cut_from r items t 0) es
unfolding Answers
turns-failed r items t old new es at w e z h =
    none-at-first r items t 0 new (subst (λ n. Fell r items t 0 new n) (eqb-true at 0 z) (failed r items t old new at w e h).0)

before-last : (at : ℕ) → (at == 0) ≡ false → at ≡ suc (at - 1)
before-last zero h = cc
before-last (suc n) h = omega arith

fell-before : (r : Bool) (items : List PatItem) (t : List ℕ) (slots : List Slot) (at : ℕ) → (at == 0) ≡ false → Fell r items t 0 slots at → Fell r items t 0 slots (suc (at - 1))
fell-before r items t slots at some h = subst (λ n. Fell r items t 0 slots n) (before-last at some) h

pub pass-within : (r : Bool) (items : List PatItem) (t : List ℕ) (old slots : List Slot) (at : ℕ) (w : Turn) → w ≡ turn.Failed → (at == 0) ≡ false → TurnedAt r items t old at slots w → at - 1 < length slots
pass-within r items t old slots at w e some h = fell-within r items t 0 slots (at - 1) (fell-before r items t slots at some (failed r items t old slots at w e h).0)

pub pass-small : (r : Bool) (items : List PatItem) (t : List ℕ) (old slots : List Slot) (at most : ℕ) (w : Turn) → w ≡ turn.Failed → (at == 0) ≡ false → TurnedAt r items t old at slots w → length t < most → first_end (drop (at - 1) slots) < most
pass-small r items t old slots at most w e some h small =
    omega (arith, small, fell-end r items t 0 slots (at - 1) (fell-before r items t slots at some (failed r items t old slots at w e h).0))

pub pass-stands : (r : Bool) (items : List PatItem) (t : List ℕ) (old slots new : List Slot) (at : ℕ) (w : Turn) → w ≡ turn.Failed → (at == 0) ≡ false → TurnedAt r items t old at slots w → new ≡ take (at - 1) slots ++ passed (drop (at - 1) slots) → Stands r items t 0 new (at - 1)
pass-stands r items t old slots new at w e some h is =
    subst (λ xs. Stands r items t 0 xs (at - 1)) (sym is) (fell-pass r items t 0 slots (at - 1) (fell-before r items t slots at some (failed r items t old slots at w e h).0))

pub pass-fewer : (r : Bool) (items : List PatItem) (t : List ℕ) (old slots new : List Slot) (at : ℕ) (w : Turn) → w ≡ turn.Failed → (at == 0) ≡ false → TurnedAt r items t old at slots w → new ≡ take (at - 1) slots ++ passed (drop (at - 1) slots) → choices_left (length t) new (at - 1) < choices_left (length t) old at
pass-fewer r items t old slots new at w e some h is =
    let fewer = fewer-pass (length t) slots (at - 1) in
    let left : choices_fallen (length t) slots (suc (at - 1)) < choices_left (length t) old at = subst (λ n. choices_fallen (length t) slots n < choices_left (length t) old at) (before-last at some) (failed r items t old slots at w e h).1 in
    subst (λ xs. choices_left (length t) xs (at - 1) < choices_left (length t) old at) (sym is) (omega (arith, fewer, left))

passed-length : (slots : List Slot) → length (passed slots) ≡ length slots
unfolding passed
passed-length [] = refl
passed-length (s ∷ ss) = refl

put-length : (n : ℕ) (slots new : List Slot) → length new ≡ length (drop n slots) → length (take n slots ++ new) ≡ length slots
put-length zero [] new h = h
put-length (suc n) [] new h = h
put-length zero (s ∷ ss) new h = h
put-length (suc n) (s ∷ ss) new h = let more = put-length n ss new h in omega (arith, more)

pub pass-count : (n m : ℕ) (slots new : List Slot) → new ≡ take n slots ++ passed (drop n slots) → length slots ≡ m → length new ≡ m
pass-count n m slots new is same = ap (λ (xs : List Slot). length xs) is ∙ (put-length n slots (passed (drop n slots)) (passed-length (drop n slots)) ∙ same)

pub ruleset turns_steps = (within-slots, turns-found, turns-failed, deeper-stands, deeper-fewer, pass-within, pass-small, pass-stands, pass-fewer, pass-count)

-- The whole.

pub begun : (r : Bool) (p : PatItem) (ps items : List PatItem) (t : List ℕ) (start : ℕ) (s s' : Slot) (ss slots : List Slot) → items ≡ p ∷ ps → slots ≡ s ∷ ss → AreRemembered r items t slots → s'.start ≡ start → IsOpen r p ps t s' → IsRemembered r p ps t s' → Stands r items t start (s' ∷ ss) 0
unfolding Stands
begun r p ps items t start s s' ss slots is are h at held one =
    subst (λ xs. Stands r xs t start (s' ∷ ss) 0) (sym is) (at, held, one, (of-next r p ps items t s ss slots is are h).1)

pub begun-without-slot : (r : Bool) (items : List PatItem) (t : List ℕ) (slots new : List Slot) → length slots ≡ 0 → length slots ≡ length items → (length items ≡ 0 → ⊥) → Stands r items t 0 new 0
begun-without-slot r items t slots new none same some = absurd (some (sym same ∙ none))

pub begun-without-item : (r : Bool) (items : List PatItem) (t : List ℕ) (new : List Slot) → length items ≡ 0 → (length items ≡ 0 → ⊥) → Stands r items t 0 new 0
begun-without-item r items t new none some = absurd (some none)

pub ruleset begin_steps = (first-of-next, begun, begun-without-slot, begun-without-item)

empty-text : (r : Bool) (t : List ℕ) (b : Bool) → b ≡ (length t == 0) → Answers b (cut_from r [] t 0) []
unfolding Answers
empty-text r t b e = elim (cases_Bool b) [
  | inl set ↦ subst (λ x. Answers x (cut_from r [] t 0) []) (sym set) (at-end r t 0 (sym (eqb-true (length t) 0 (sym e ∙ set))))
  | inr unset ↦ subst (λ x. Answers x (cut_from r [] t 0) []) (sym unset) (not-at-end r t 0 (λ z. eqb-false (length t) 0 (sym e ∙ unset) (sym z)))
]

pub no-item : (r : Bool) (ps : List PatItem) (t : List ℕ) (none b : Bool) (slots : List Slot) → length slots ≡ length ps → none ≡ (length ps == 0) → none ≡ true → b ≡ (length t == 0) → Answers b (cut_from r ps t 0) (ends_in slots)
no-item r [] t none b [] same is set e = empty-text r t b e
no-item r [] t none b (s ∷ ss) same is set e = absurd (omega (arith, same))
no-item r (p ∷ ps) t none b slots same is set e = absurd (omega (arith, eqb-true (length (p ∷ ps)) 0 (sym is ∙ set)))

pub some-item : (ps : List PatItem) (none : Bool) → none ≡ (length ps == 0) → none ≡ false → length ps ≡ 0 → ⊥
some-item [] none is set z = let clash : true ≡ false = sym is ∙ set in cc
some-item (p ∷ ps) none is set z = omega (arith, z)

pub ruleset search_steps = (no-item, some-item)
