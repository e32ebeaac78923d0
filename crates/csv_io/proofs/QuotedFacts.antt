-- Records that are read byte by byte.
use Rattle.std.proofs.Common.{◌≡◌, ◌≤◌, ◌<◌, ◌+◌, ◌-◌, ◌==◌, ◌∷◌, ◌++◌, ◌∙◌, ℕ, zero, suc, true, false, List, [], length, drop, get_or, refl, sym, ap, arith, append_assoc, subst, inl, inr}
use Rattle.std.specs.Prelude.{Some, slice_range}
use Rattle.std.proofs.lemmas.Bool.{cases_Bool}
use Rattle.std.proofs.lemmas.List.{append-nil, drop_all, drop_more}
use Rattle.csv.specs.Machine.{ends_at_end, field_after, fields_after, is_end, next_record, step}
use Rattle.csv.specs.Reading.{default_config}
use Rattle.csv.specs.declared.parser.Action.{Action}
use Rattle.csv.specs.declared.parser.Action.TheVariants as act
use Rattle.csv.specs.declared.parser.State.{State}
use Rattle.csv.specs.declared.parser.State.TheVariants as st
use Rattle.csv_io.specs.Cuts.{records_at}
use Rattle.csv_io.specs.Quoted.{IsStep, JoinsBetween, action_of, state_of}
use Rattle.csv_io.specs.Runs.{IsRun, ends_line, is_plain, is_unquoted}
use Rattle.csv_io.specs.declared.quoted.Act.{Act}
use Rattle.csv_io.specs.declared.quoted.Act.TheVariants as does
use Rattle.csv_io.specs.declared.quoted.Within.{Within}
use Rattle.csv_io.specs.declared.quoted.Within.TheVariants as within
use Rattle.csv_io.proofs.CutFacts.{after, go, left-after, left-skipped, line-byte, plain-step, record-first}
use Rattle.csv_io.proofs.LinesFacts.{slice-none, slice-push}
use Rattle.csv_io.proofs.RecordFacts.{left-some}

-- ---- one byte

pub step-plain : (b : ℕ) → is_plain b ≡ true → IsStep within.Plain b within.Plain does.Copy
step-plain b h = plain-step b h

pub step-comma : (b : ℕ) → (b == 44) ≡ true → IsStep within.Plain b within.Start does.EndField
step-comma b h = rw h refl

pub step-line : (b : ℕ) → is_plain b ≡ false → (b == 44) ≡ false → IsStep within.Plain b within.Plain does.EndRecord
step-line b h n = elim (cases_Bool (b == 13)) [
  | inl t ↦ (rw (n, t) refl, rw t refl)
  | inr m ↦ let k = rw m at (line-byte b h n) in (rw (n, m, k) refl, rw (m, k) refl)
]

-- where no quote stands, a field goes on as one without quotes
pub step-start : (b : ℕ) (s : Within) (a : Act) → (b == 34) ≡ false → IsStep within.Plain b s a → IsStep within.Start b s a
step-start b s does.Skip n h = rw n h
step-start b s does.Copy n h = rw n h
step-start b s does.EndField n h = rw n h
step-start b s does.EndRecord n h = rw n h

pub step-closed : (b : ℕ) (s : Within) (a : Act) → (b == 34) ≡ false → IsStep within.Plain b s a → IsStep within.Closed b s a
step-closed b s does.Skip n h = rw n h
step-closed b s does.Copy n h = rw n h
step-closed b s does.EndField n h = rw n h
step-closed b s does.EndRecord n h = rw n h

pub quote-opens : (b : ℕ) → (b == 34) ≡ true → IsStep within.Start b within.Quoted does.Skip
quote-opens b h = rw h refl

pub quote-closes : (b : ℕ) → (b == 34) ≡ true → IsStep within.Quoted b within.Closed does.Skip
quote-closes b h = rw h refl

pub quote-doubles : (b : ℕ) → (b == 34) ≡ true → IsStep within.Closed b within.Quoted does.Copy
quote-doubles b h = rw h refl

pub quoted-joins : (b : ℕ) → (b == 34) ≡ false → IsStep within.Quoted b within.Quoted does.Copy
quoted-joins b h = rw h refl

-- ---- a record

step-next : (s s2 : State) (a : Action) (c : ℕ) (fs : List (List ℕ)) (f rest : List ℕ) → step default_config s c ≡ (s2, a) → is_end a ≡ false
    → go s fs f (c ∷ rest) ≡ go s2 (fields_after a fs f) (field_after a c f) rest
unfolding next_record
step-next s s2 a c fs f rest e n = rw (e, n) refl

step-last : (s s2 : State) (c : ℕ) (fs : List (List ℕ)) (f rest : List ℕ) → step default_config s c ≡ (s2, act.EndRecord)
    → go s fs f (c ∷ rest) ≡ Some (fs ++ f ∷ [], s2, rest)
unfolding next_record
step-last s s2 c fs f rest e = rw e refl

-- what was read of the record that begins at a place, and what is left of the text, give the record
abbrev pub Reading : List ℕ → ℕ → Within → List (List ℕ) → List ℕ → ℕ → Type 0
Reading text start s fs f at = go (state_of s) fs f (drop at text) ≡ go st.StartRecord [] [] (drop start text)

pub reading-first : (text : List ℕ) (start : ℕ) (fs : List (List ℕ)) (f : List ℕ) → fs ≡ [] → f ≡ [] → start < length text → ends_line (get_or text start 0) ≡ false → Reading text start within.Start fs f start
reading-first text start fs f e g lt h =
    rw (e, g, drop_more text start 0 lt) (sym (record-first [] [] (get_or text start 0) (drop (start + 1) text) h))

goes-on : (text : List ℕ) (start at : ℕ) (s s2 : Within) (a : Action) (fs gs : List (List ℕ)) (f g : List ℕ) → at < length text → Reading text start s fs f at
    → step default_config (state_of s) (get_or text at 0) ≡ (state_of s2, a) → is_end a ≡ false → gs ≡ fields_after a fs f → g ≡ field_after a (get_or text at 0) f → Reading text start s2 gs g (at + 1)
goes-on text start at s s2 a fs gs f g lt r e n eg ef =
    rw (eg, ef) (sym (step-next (state_of s) (state_of s2) a (get_or text at 0) fs f (drop (at + 1) text) e n)
    ∙ (ap (λ xs. go (state_of s) fs f xs) (sym (drop_more text at 0 lt)) ∙ r))

-- a byte that does not end it
pub reading-next : (text : List ℕ) (start at : ℕ) (s s2 : Within) (a : Act) (fs gs : List (List ℕ)) (f g : List ℕ) → at < length text → Reading text start s fs f at
    → IsStep s (get_or text at 0) s2 a → is_end (action_of a) ≡ false → gs ≡ fields_after (action_of a) fs f → g ≡ field_after (action_of a) (get_or text at 0) f → Reading text start s2 gs g (at + 1)
reading-next text start at s s2 does.Skip fs gs f g lt r e n eg ef = goes-on text start at s s2 act.Skip fs gs f g lt r e refl eg ef
reading-next text start at s s2 does.Copy fs gs f g lt r e n eg ef = goes-on text start at s s2 act.Copy fs gs f g lt r e refl eg ef
reading-next text start at s s2 does.EndField fs gs f g lt r e n eg ef = goes-on text start at s s2 act.EndField fs gs f g lt r e refl eg ef
reading-next text start at s s2 does.EndRecord fs gs f g lt r e n eg ef = cc n

-- one that does
pub reading-last : (text : List ℕ) (start at : ℕ) (s s2 : Within) (a : Act) (fs gs : List (List ℕ)) (f : List ℕ) → at < length text → Reading text start s fs f at
    → IsStep s (get_or text at 0) s2 a → is_end (action_of a) ≡ true → gs ≡ fields_after (action_of a) fs f → records_at text start ≡ gs ∷ records_at text at
reading-last text start at s s2 does.Skip fs gs f lt r e y eg = cc y
reading-last text start at s s2 does.Copy fs gs f lt r e y eg = cc y
reading-last text start at s s2 does.EndField fs gs f lt r e y eg = cc y
reading-last text start at s s2 does.EndRecord fs gs f lt r e y eg =
    let c = get_or text at 0 in
    let rest = drop (at + 1) text in
    let here = drop_more text at 0 lt in
    rw (eg, here)
    (left-some st.StartRecord (drop start text) (fs ++ f ∷ [], after c, rest) (sym r ∙ (ap (λ xs. go (state_of s) fs f xs) here ∙ step-last (state_of s) (after c) c fs f rest e.0))
    ∙ ap (λ l. (fs ++ f ∷ []) ∷ l) (left-after c rest ∙ sym (left-skipped c rest e.1)))

out-ends : (s : Within) → ends_at_end (state_of s) ≡ true
out-ends within.Start = refl
out-ends within.Plain = refl
out-ends within.Quoted = refl
out-ends within.Closed = refl

out-last : (s : State) (fs : List (List ℕ)) (f : List ℕ) → ends_at_end s ≡ true → go s fs f [] ≡ Some (fs ++ f ∷ [], st.StartRecord, [])
unfolding next_record
out-last s fs f e = rw e refl

-- and the end of the text
pub reading-out : (text : List ℕ) (start at : ℕ) (s : Within) (fs gs : List (List ℕ)) (f : List ℕ) → length text ≤ at → Reading text start s fs f at
    → gs ≡ fs ++ f ∷ [] → records_at text start ≡ gs ∷ records_at text at
reading-out text start at s fs gs f le r eg =
    let here = drop_all at text le in
    rw (eg, here) (left-some st.StartRecord (drop start text) (fs ++ f ∷ [], st.StartRecord, [])
    (sym r ∙ (ap (λ xs. go (state_of s) fs f xs) here ∙ out-last (state_of s) fs f (out-ends s))))

-- ---- bytes that join a field

pub plain-joins : (text : List ℕ) (at end : ℕ) → IsRun is_plain text at end → JoinsBetween within.Plain text at end
plain-joins text at end r k from below = step-plain (get_or text k 0) (r.pass k from below)

pub unquoted-joins : (text : List ℕ) (at end : ℕ) → IsRun is_unquoted text at end → JoinsBetween within.Quoted text at end
unquoted-joins text at end r k from below = elim (cases_Bool (get_or text k 0 == 34)) [
  | inl t ↦ let pass = r.pass k from below in cc (rw t at pass)
  | inr n ↦ quoted-joins (get_or text k 0) n
]

pub nothing-joins : (s : Within) (text : List ℕ) (at : ℕ) → JoinsBetween s text at at
nothing-joins s text at k from below = absurd (omega arith)

pub ruleset run_facts = (plain-joins, unquoted-joins, nothing-joins)

-- so many bytes more
run-on : (n : ℕ) (text : List ℕ) (start at end : ℕ) (s : Within) (fs : List (List ℕ)) (f : List ℕ) → end ≡ at + n → end ≤ length text → Reading text start s fs f at
    → JoinsBetween s text at end → Reading text start s fs (f ++ slice_range text at end) end
run-on zero text start at end s fs f e le r joins =
    let same : end ≡ at = omega arith in
    rw same (subst (λ (g : List ℕ). Reading text start s fs g at) (sym (ap (λ t. f ++ t) (slice-none text at) ∙ append-nil f)) r)
run-on (suc n) text start at end s fs f e le r joins =
    let mid = at + n in
    let last : end ≡ mid + 1 = omega arith in
    let before : Reading text start s fs (f ++ slice_range text at mid) mid = run-on n text start at mid s fs f refl (omega arith) r (λ k from below. joins k from (omega arith)) in
    let step : IsStep s (get_or text mid 0) s does.Copy = joins mid (omega arith) (omega arith) in
    let grown : f ++ slice_range text at (mid + 1) ≡ (f ++ slice_range text at mid) ++ get_or text mid 0 ∷ [] =
    ap (λ t. f ++ t) (slice-push text at mid 0 (omega arith) (omega arith)) ∙ sym (append_assoc f (slice_range text at mid) (get_or text mid 0 ∷ [])) in
    rw last (reading-next text start mid s s does.Copy fs fs (f ++ slice_range text at mid) (f ++ slice_range text at (mid + 1)) (omega arith) before step refl refl grown)

pub reading-run : (text : List ℕ) (start at end : ℕ) (s : Within) (fs : List (List ℕ)) (f g : List ℕ) → at ≤ end → end ≤ length text → Reading text start s fs f at
    → JoinsBetween s text at end → g ≡ f ++ slice_range text at end → Reading text start s fs g end
reading-run text start at end s fs f g order within r joins eg =
    subst (λ (h : List ℕ). Reading text start s fs h end) (sym eg) (run-on (end - at) text start at end s fs f (omega arith) within r joins)

pub ruleset step_facts = (step-plain, step-comma, step-line, step-start, step-closed, quote-opens, quote-closes, quote-doubles, quoted-joins)
