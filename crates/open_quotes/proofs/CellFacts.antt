-- All behind an open quote is one cell.
use Rattle.std.proofs.Common.{◌≡◌, ◌<◌, ◌≤◌, ◌+◌, ◌∙◌, ◌∷◌, ◌++◌, ℕ, zero, suc, Bool, true, false, List, [], length, take, drop, get_or, refl, ap, subst, sym, add-one, append_assoc, drop-cons, length-drop, ◌-◌, arith, inl, inr}
use Rattle.std.specs.Prelude.{Some, ◌==◌}
use Rattle.std.proofs.lemmas.Bool.{cases_Bool}
use Rattle.std.proofs.lemmas.List.{length-take, take-append-drop}
use Rattle.std.proofs.Math.Seq.{take-add, take-length}
use Rattle.csv.specs.Machine.{field_after, fields_after, in_field, is_end, next_record, start_field, start_record, step, Read}
use Rattle.csv.specs.Reading.{default_config, records, records_from, records_next}
use Rattle.csv.specs.declared.parser.Action.TheVariants as act
use Rattle.csv.specs.declared.parser.State.{State}
use Rattle.csv.specs.declared.parser.State.TheVariants as st
use Rattle.open_quotes.specs.Places.{place_of}
use Rattle.open_quotes.specs.declared.place.Place.TheVariants as at
use Rattle.open_quotes.specs.Laws.{EndsIn, unquoted}
use Rattle.open_quotes.specs.Quotes.{IsOpened, is_quoted, state_at, state_behind}
use Rattle.open_quotes.proofs.QuoteFacts.{bare, behind-append, enters, Enters, state-more}

-- The machine stays in quotes over a text, and ends inside.
Stays : State → List ℕ → Type 0
Stays s [] = s ≡ st.InQuoted
Stays s (c ∷ rest) = (is_quoted (step default_config s c).0 ≡ true) × Stays (step default_config s c).0 rest

-- one more byte of a cell
cell-more : (field rest : List ℕ) (c : ℕ) → (field ++ (c ∷ [])) ++ rest ≡ field ++ (c ∷ rest)
cell-more field rest c = append_assoc field (c ∷ []) rest

no-more : (field : List ℕ) → field ++ [] ≡ field
no-more [] = refl
no-more (c ∷ field) = ap (λ f. c ∷ f) (no-more field)

Last : List (List ℕ) → List ℕ → Read
Last fields cell = (fields ++ (cell ∷ []), st.StartRecord, [])

-- the steps of a machine in quotes
quote-inside : (c : ℕ) → (c == 34) ≡ true → step default_config st.InQuoted c ≡ (st.AfterQuote, act.Skip)
quote-inside c t = rw t refl

other-inside : (c : ℕ) → (c == 34) ≡ false → step default_config st.InQuoted c ≡ (st.InQuoted, act.Copy)
other-inside c n = rw n refl

quote-behind : (c : ℕ) → (c == 34) ≡ true → step default_config st.AfterQuote c ≡ (st.InQuoted, act.Copy)
quote-behind c t = rw t refl

other-behind : (c : ℕ) → (c == 34) ≡ false → is_quoted (step default_config st.AfterQuote c).0 ≡ false
other-behind c n = rw n (bare c)

-- a byte that ends no record
goes-on : (s : State) (fields : List (List ℕ)) (field rest : List ℕ) (c : ℕ) → is_end (step default_config s c).1 ≡ false
    → next_record default_config s fields field (c ∷ rest) ≡ next_record default_config (step default_config s c).0 (fields_after (step default_config s c).1 fields field) (field_after (step default_config s c).1 c field) rest
unfolding next_record
goes-on s fields field rest c n = rw n refl

ends-here : (s : State) (fields : List (List ℕ)) (field rest : List ℕ) (c : ℕ) → is_end (step default_config s c).1 ≡ true
    → next_record default_config s fields field (c ∷ rest) ≡ Some (fields_after (step default_config s c).1 fields field, (step default_config s c).0, rest)
unfolding next_record
ends-here s fields field rest c t = rw t refl

-- a step of the next record
step-skips : (fields : List (List ℕ)) (field rest : List ℕ) (c : ℕ) (s t : State) → step default_config s c ≡ (t, act.Skip)
    → next_record default_config s fields field (c ∷ rest) ≡ next_record default_config t fields field rest
step-skips fields field rest c s t e = let g = goes-on s fields field rest c (rw e refl) in rw e at g

step-copies : (fields : List (List ℕ)) (field rest : List ℕ) (c : ℕ) (s t : State) → step default_config s c ≡ (t, act.Copy)
    → next_record default_config s fields field (c ∷ rest) ≡ next_record default_config t fields (field ++ (c ∷ [])) rest
step-copies fields field rest c s t e = let g = goes-on s fields field rest c (rw e refl) in rw e at g

-- what such a text is as a cell
quote-cell : (c : ℕ) (rest : List ℕ) → (c == 34) ≡ true → unquoted false (c ∷ rest) ≡ unquoted true rest
unfolding unquoted
quote-cell c rest t = rw t refl

other-cell : (c : ℕ) (rest : List ℕ) → (c == 34) ≡ false → unquoted false (c ∷ rest) ≡ c ∷ unquoted false rest
unfolding unquoted
other-cell c rest n = rw n refl

behind-cell : (c : ℕ) (rest : List ℕ) → unquoted true (c ∷ rest) ≡ c ∷ unquoted false rest
unfolding unquoted
behind-cell c rest = refl

at-end : (fields : List (List ℕ)) (field : List ℕ) → next_record default_config st.InQuoted fields field [] ≡ Some (Last fields (field ++ unquoted false []))
unfolding next_record unquoted Last
at-end fields field = rw (no-more field) refl

stays-step : (s t : State) (c : ℕ) (rest : List ℕ) → Stays s (c ∷ rest) → (step default_config s c).0 ≡ t → Stays t rest
unfolding Stays
stays-step s t c rest stays e = subst (λ x. Stays x rest) e stays.1

stays-quoted : (s : State) (c : ℕ) (rest : List ℕ) → Stays s (c ∷ rest) → is_quoted (step default_config s c).0 ≡ true
unfolding Stays
stays-quoted s c rest stays = stays.0

stays-end : (s : State) → Stays s [] → s ≡ st.InQuoted
unfolding Stays
stays-end s stays = stays

mutual
  inside : (fields : List (List ℕ)) (field xs : List ℕ) → Stays st.InQuoted xs → next_record default_config st.InQuoted fields field xs ≡ Some (Last fields (field ++ unquoted false xs))
  inside fields field [] stays = at-end fields field
  inside fields field (c ∷ rest) stays = elim (cases_Bool (c == 34)) [
    | inl t ↦
        let e = quote-inside c t in
        step-skips fields field rest c st.InQuoted st.AfterQuote e
        ∙ (behind fields field rest (stays-step st.InQuoted st.AfterQuote c rest stays (ap (λ p. p.0) e))
        ∙ ap (λ x. Some (Last fields (field ++ x))) (sym (quote-cell c rest t)))
    | inr n ↦
        let e = other-inside c n in
        step-copies fields field rest c st.InQuoted st.InQuoted e
        ∙ (inside fields (field ++ (c ∷ [])) rest (stays-step st.InQuoted st.InQuoted c rest stays (ap (λ p. p.0) e))
        ∙ ap (λ x. Some (Last fields x)) (cell-more field (unquoted false rest) c ∙ ap (λ x. field ++ x) (sym (other-cell c rest n))))
  ]

  behind : (fields : List (List ℕ)) (field xs : List ℕ) → Stays st.AfterQuote xs → next_record default_config st.AfterQuote fields field xs ≡ Some (Last fields (field ++ unquoted true xs))
  behind fields field [] stays = let e = stays-end st.AfterQuote stays in absurd cc
  behind fields field (c ∷ rest) stays = elim (cases_Bool (c == 34)) [
    | inl t ↦
        let e = quote-behind c t in
        step-copies fields field rest c st.AfterQuote st.InQuoted e
        ∙ (inside fields (field ++ (c ∷ [])) rest (stays-step st.AfterQuote st.InQuoted c rest stays (ap (λ p. p.0) e))
        ∙ ap (λ x. Some (Last fields x)) (cell-more field (unquoted false rest) c ∙ ap (λ x. field ++ x) (sym (behind-cell c rest))))
    | inr n ↦ let q = stays-quoted st.AfterQuote c rest stays in let o = other-behind c n in absurd cc
  ]

-- A walk from a state to the quote.

-- a record or a field may begin
begins : State → Bool
begins st.StartRecord = true
begins st.StartField = true
begins st.AfterCr = true
begins st.InComment = true
begins st.InField = false
begins st.InQuoted = false
begins st.AfterQuote = false
begins st.InEscape = false

-- there the field at hand is empty
Fresh : State → List ℕ → Type 0
Fresh s field = begins s ≡ true → field ≡ []

open-step : (s : State) → place_of s ≡ Some at.Start → step default_config s 34 ≡ (st.InQuoted, act.Skip)
open-step st.StartRecord e = refl
open-step st.StartField e = refl
open-step st.AfterCr e = refl
open-step st.InField e = absurd cc
open-step st.InQuoted e = absurd cc
open-step st.AfterQuote e = absurd cc
open-step st.InEscape e = absurd cc
open-step st.InComment e = absurd cc

start-fresh : (s : State) (field : List ℕ) → place_of s ≡ Some at.Start → Fresh s field → field ≡ []
unfolding Fresh begins
start-fresh st.StartRecord field e fresh = fresh refl
start-fresh st.StartField field e fresh = fresh refl
start-fresh st.AfterCr field e fresh = fresh refl
start-fresh st.InField field e fresh = absurd cc
start-fresh st.InQuoted field e fresh = absurd cc
start-fresh st.AfterQuote field e fresh = absurd cc
start-fresh st.InEscape field e fresh = absurd cc
start-fresh st.InComment field e fresh = absurd cc

field-fresh : (c : ℕ) (field : List ℕ) → is_end (in_field default_config c).1 ≡ false → begins (in_field default_config c).0 ≡ true → field_after (in_field default_config c).1 c field ≡ []
unfolding begins
field-fresh c field n b = elim (cases_Bool (c == 44)) [
  | inl t ↦ rw t refl
  | inr m ↦ elim (cases_Bool (c == 13)) [
    | inl t ↦ let q = rw (m, t) at n in absurd cc
    | inr o ↦ elim (cases_Bool (c == 10)) [
      | inl t ↦ let q = rw (m, o, t) at n in absurd cc
      | inr p ↦ let q = rw (m, o, p) at b in absurd cc
    ]
  ]
]

start-field-fresh : (c : ℕ) (field : List ℕ) → is_end (start_field default_config c).1 ≡ false → begins (start_field default_config c).0 ≡ true → field_after (start_field default_config c).1 c field ≡ []
unfolding begins
start-field-fresh c field n b = elim (cases_Bool (c == 34)) [
  | inl t ↦ let q = rw t at b in absurd cc
  | inr m ↦ let e : start_field default_config c ≡ in_field default_config c = rw m refl in rw e (field-fresh c field (ap (λ p. is_end p.1) (sym e) ∙ n) (ap (λ p. begins p.0) (sym e) ∙ b))
]

record-fresh : (c : ℕ) (field : List ℕ) → is_end (start_record default_config c).1 ≡ false → field ≡ [] → begins (start_record default_config c).0 ≡ true → field_after (start_record default_config c).1 c field ≡ []
record-fresh c field n empty b = elim (cases_Bool (c == 13)) [
  | inl t ↦ rw t empty
  | inr m ↦ elim (cases_Bool (c == 10)) [
    | inl t ↦ rw (m, t) empty
    | inr o ↦ let e : start_record default_config c ≡ start_field default_config c = rw (m, o) refl in rw e (start-field-fresh c field (ap (λ p. is_end p.1) (sym e) ∙ n) (ap (λ p. begins p.0) (sym e) ∙ b))
  ]
]

behind-step : (c : ℕ) → (c == 34) ≡ false → step default_config st.AfterQuote c ≡ in_field default_config c
behind-step c m = rw m refl

cr-step : (c : ℕ) → (c == 10) ≡ false → step default_config st.AfterCr c ≡ start_record default_config c
cr-step c m = rw m refl

fresh-step : (s : State) (c : ℕ) (field : List ℕ) → is_end (step default_config s c).1 ≡ false → Fresh s field → Fresh (step default_config s c).0 (field_after (step default_config s c).1 c field)
unfolding Fresh begins
fresh-step st.StartRecord c field n fresh = λ b. record-fresh c field n (fresh refl) b
fresh-step st.StartField c field n fresh = λ b. start-field-fresh c field n b
fresh-step st.InField c field n fresh = λ b. field-fresh c field n b
fresh-step st.InQuoted c field n fresh = λ b. elim (cases_Bool (c == 34)) [
  | inl t ↦ let q = rw t at b in absurd cc
  | inr m ↦ let q = rw m at b in absurd cc
]
fresh-step st.AfterQuote c field n fresh = λ b. elim (cases_Bool (c == 34)) [
  | inl t ↦ let q = rw t at b in absurd cc
  | inr m ↦ let e = behind-step c m in rw e (field-fresh c field (ap (λ p. is_end p.1) (sym e) ∙ n) (ap (λ p. begins p.0) (sym e) ∙ b))
]
fresh-step st.InEscape c field n fresh = λ b. absurd cc
fresh-step st.InComment c field n fresh = λ b. elim (cases_Bool (c == 10)) [
  | inl t ↦ rw t (fresh refl)
  | inr m ↦ rw m (fresh refl)
]
fresh-step st.AfterCr c field n fresh = λ b. elim (cases_Bool (c == 10)) [
  | inl t ↦ rw t (fresh refl)
  | inr m ↦ let e = cr-step c m in rw e (record-fresh c field (ap (λ p. is_end p.1) (sym e) ∙ n) (fresh refl) (ap (λ p. begins p.0) (sym e) ∙ b))
]

ends-cons : (r : List (List ℕ)) (rows : List (List (List ℕ))) (cell : List ℕ) → EndsIn rows cell → EndsIn (r ∷ rows) cell
ends-cons r rows cell x = record { before = r ∷ x.before; fields = x.fields; is = ap (λ rs. r ∷ rs) x.is }

none-after : (n : ℕ) → records_from default_config n st.StartRecord [] ≡ []
unfolding records_from next_record
none-after zero = refl
none-after (suc n) = refl

one-after : (n : ℕ) (fields : List (List ℕ)) (cell : List ℕ) → EndsIn (records_next (records_from default_config n) (Some (Last fields cell))) cell
unfolding Last
one-after n fields cell = record { before = []; fields = fields; is = ap (λ rs. (fields ++ (cell ∷ [])) ∷ rs) (none-after n) }

-- what is left of a text from a state, with a record and a field at hand
Left : ℕ → State → List (List ℕ) → List ℕ → List ℕ → List (List (List ℕ))
Left n s fields field xs = records_next (records_from default_config n) (next_record default_config s fields field xs)

left-from : (m : ℕ) (s : State) (xs : List ℕ) → records_from default_config (suc m) s xs ≡ Left m s [] [] xs
unfolding records_from Left
left-from m s xs = refl

-- the quote that is met opens a cell which the rest does not leave
record Opens (s : State) (before rest : List ℕ) : Type 0 where
  outside : is_quoted (state_behind s before) ≡ false
  enters : is_quoted (step default_config (state_behind s before) 34).0 ≡ true
  stays : Stays (step default_config (state_behind s before) 34).0 rest

opens-on : (s : State) (c : ℕ) (before rest : List ℕ) → Opens s (c ∷ before) rest → Opens (step default_config s c).0 before rest
unfolding state_behind
opens-on s c before rest o = record { outside = o.outside; enters = o.enters; stays = o.stays }

opens-here : (s : State) (rest : List ℕ) → Opens s [] rest → Enters s 34 × Stays (step default_config s 34).0 rest
unfolding state_behind
opens-here s rest o = (enters s 34 o.outside o.enters, o.stays)

here : (n : ℕ) (s : State) (fields : List (List ℕ)) (field rest : List ℕ) → Fresh s field → Opens s [] rest → EndsIn (Left n s fields field (34 ∷ rest)) (unquoted false rest)
unfolding Left
here n s fields field rest fresh o =
    let h = opens-here s rest o in
    let e = open-step s h.0.start in
    let f = start-fresh s field h.0.start fresh in
    let stays : Stays st.InQuoted rest = subst (λ x. Stays x rest) (ap (λ p. p.0) e) h.1 in
    let is : next_record default_config s fields field (34 ∷ rest) ≡ Some (Last fields (unquoted false rest)) = step-skips fields field rest 34 s st.InQuoted e ∙ (inside fields field rest stays ∙ ap (λ x. Some (Last fields (x ++ unquoted false rest))) f) in
    subst (λ r. EndsIn (records_next (records_from default_config n) r) (unquoted false rest)) (sym is) (one-after n fields (unquoted false rest))

walk : (before : List ℕ) (n : ℕ) (s : State) (fields : List (List ℕ)) (field rest : List ℕ) → length before < n → Fresh s field → Opens s before rest
    → EndsIn (Left n s fields field (before ++ (34 ∷ rest))) (unquoted false rest)
unfolding Fresh Left
walk [] n s fields field rest l fresh o = here n s fields field rest fresh o
walk (c ∷ before) zero s fields field rest l fresh o = absurd (omega (arith, l))
walk (c ∷ before) (suc m) s fields field rest l fresh o = elim (cases_Bool (is_end (step default_config s c).1)) [
  | inl t ↦
      let s2 = (step default_config s c).0 in
      let xs = before ++ (34 ∷ rest) in
      let r = fields_after (step default_config s c).1 fields field in
      let more = walk before m s2 [] [] rest (omega (arith, l)) (λ q. refl) (opens-on s c before rest o) in
      let ends = ends-cons r (records_from default_config (suc m) s2 xs) (unquoted false rest) (subst (λ rs. EndsIn rs (unquoted false rest)) (sym (left-from m s2 xs)) more) in
      subst (λ x. EndsIn (records_next (records_from default_config (suc m)) x) (unquoted false rest)) (sym (ends-here s fields field xs c t)) ends
  | inr n ↦
      let xs = before ++ (34 ∷ rest) in
      subst (λ x. EndsIn (records_next (records_from default_config (suc m)) x) (unquoted false rest)) (sym (goes-on s fields field xs c n))
      (walk before (suc m) (step default_config s c).0 (fields_after (step default_config s c).1 fields field) (field_after (step default_config s c).1 c field) rest (omega (arith, l)) (fresh-step s c field n fresh) (opens-on s c before rest o))
]

-- A text whose states are known stays in quotes.
stays-from : (xs : List ℕ) (s : State) → ((i : ℕ) → 0 < i → i ≤ length xs → is_quoted (state_behind s (take i xs)) ≡ true) → state_behind s xs ≡ st.InQuoted → Stays s xs
unfolding Stays state_behind
stays-from [] s h e = e
stays-from (c ∷ xs) s h e = (h 1 (omega arith) (omega arith), stays-from xs (step default_config s c).0 (λ i p l. h (suc i) (omega arith) (omega (arith, l))) e)

state-from : (text : List ℕ) (k i : ℕ) → state_behind (state_at text k) (take i (drop k text)) ≡ state_at text (k + i)
state-from text k i = sym (behind-append st.StartRecord (take k text) (take i (drop k text))) ∙ ap (λ xs. state_behind st.StartRecord xs) (sym (take-add k i text))

quote-at : (text : List ℕ) (k : ℕ) → k < length text → get_or text k 0 ≡ 34 → take k text ++ (34 ∷ drop (k + 1) text) ≡ text
quote-at text k l q =
    let d : drop k text ≡ 34 ∷ drop (k + 1) text = drop-cons text k 0 l ∙ (ap (λ c. c ∷ drop (suc k) text) q ∙ ap (λ n. 34 ∷ drop n text) (sym (add-one k))) in
    ap (λ xs. take k text ++ xs) (sym d) ∙ take-append-drop k text

opened : (text : List ℕ) (k : ℕ) → IsOpened text k (length text) → state_at text (length text) ≡ st.InQuoted → Opens st.StartRecord (take k text) (drop (k + 1) text)
opened text k o e =
    let first : state_at text (k + 1) ≡ (step default_config (state_at text k) 34).0 = state-more text k o.before ∙ ap (λ c. (step default_config (state_at text k) c).0) o.quote in
    let rest = drop (k + 1) text in
    let size : length rest ≡ length text - (k + 1) = length-drop (k + 1) text in
    let quoted : (i : ℕ) → 0 < i → i ≤ length rest → is_quoted (state_behind (state_at text (k + 1)) (take i rest)) ≡ true =
    λ i p l. ap is_quoted (state-from text (k + 1) i) ∙ o.inside (k + 1 + i) (omega arith) (omega (arith, l, size, o.before)) in
    let at-last : state_behind (state_at text (k + 1)) rest ≡ st.InQuoted =
    ap (λ xs. state_behind (state_at text (k + 1)) xs) (sym (take-length rest)) ∙ (state-from text (k + 1) (length rest) ∙ (ap (λ n. state_at text n) (omega (arith, size, o.before)) ∙ e)) in
    record {
      outside = o.outside;
      enters = ap is_quoted (sym first) ∙ o.inside (k + 1) (omega arith) (omega (arith, o.before));
      stays = subst (λ s. Stays s rest) first (stays-from rest (state_at text (k + 1)) quoted at-last);
    }

pub one-cell : (text : List ℕ) (k : ℕ) → IsOpened text k (length text) → state_at text (length text) ≡ st.InQuoted → EndsIn (records default_config text) (unquoted false (drop (k + 1) text))
unfolding Fresh
one-cell text k o e =
    let rest = drop (k + 1) text in
    let shorter : length (take k text) < length text = omega (arith, length-take k text, o.before) in
    let w = walk (take k text) (length text) st.StartRecord [] [] rest shorter (λ q. refl) (opened text k o e) in
    let whole : Left (length text) st.StartRecord [] [] (take k text ++ (34 ∷ rest)) ≡ records default_config text =
    ap (λ xs. Left (length text) st.StartRecord [] [] xs) (quote-at text k o.before o.quote)
    ∙ (sym (left-from (length text) st.StartRecord text) ∙ ap (λ n. records_from default_config n st.StartRecord text) (sym (add-one (length text)))) in
    subst (λ rs. EndsIn rs (unquoted false rest)) whole w
