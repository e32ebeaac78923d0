-- What a walk over a file knows.
use Rattle.std.proofs.Common.{◌≡◌, ◌<◌, ◌+◌, ◌∙◌, ◌∷◌, ◌++◌, ℕ, true, false, List, [], length, take, get_or, refl, ap, sym, add-one, arith, inl, inr}
use Rattle.std.specs.Prelude.{Some, ◌==◌}
use Rattle.std.proofs.Math.Seq.{take-suc}
use Rattle.std.proofs.lemmas.Bool.{cases_Bool}
use Rattle.std.proofs.lemmas.Bool.Decides.{eqb_tells}
use Rattle.csv.specs.Machine.{in_field, start_field, start_record, step}
use Rattle.csv.specs.Reading.{default_config}
use Rattle.csv.specs.declared.parser.State.{State}
use Rattle.csv.specs.declared.parser.State.TheVariants as st
use Rattle.open_quotes.specs.Places.{opening, place_of}
use Rattle.open_quotes.specs.Quotes.{IsOpened, OpensIn, is_quoted, line_of, state_at, state_behind}
use Rattle.open_quotes.specs.declared.place.Place.{Place}
use Rattle.open_quotes.specs.declared.place.Place.TheVariants as at

pub behind-append : (s : State) (xs ys : List ℕ) → state_behind s (xs ++ ys) ≡ state_behind (state_behind s xs) ys
unfolding state_behind
behind-append s [] ys = refl
behind-append s (x ∷ xs) ys = behind-append (step default_config s x).0 xs ys

-- a byte more
pub state-more : (text : List ℕ) (i : ℕ) → i < length text → state_at text (i + 1) ≡ (step default_config (state_at text i) (get_or text i 0)).0
unfolding state_behind
state-more text i l = rw (add-one i, take-suc text i 0 l) (behind-append st.StartRecord (take i text) (get_or text i 0 ∷ []))

pub first-stands : (text : List ℕ) → place_of (state_at text 0) ≡ Some at.Start
unfolding state_behind
first-stands text = refl

pub first-opened : (text : List ℕ) (k : ℕ) → is_quoted (state_at text 0) ≡ true → IsOpened text k 0
unfolding state_behind
first-opened text k q = absurd cc

-- only a quote where a cell may begin leads into quotes
pub record Enters (s : State) (c : ℕ) : Type 0 where
  pub quote : c ≡ 34
  pub start : place_of s ≡ Some at.Start
  pub inside : place_of (step default_config s c).0 ≡ Some at.Quoted

pub bare : (c : ℕ) → is_quoted (in_field default_config c).0 ≡ false
bare c = elim (cases_Bool (c == 44)) [
  | inl t ↦ rw t refl
  | inr n ↦ elim (cases_Bool (c == 13)) [
    | inl t ↦ rw (n, t) refl
    | inr m ↦ elim (cases_Bool (c == 10)) [
      | inl t ↦ rw (n, m, t) refl
      | inr o ↦ rw (n, m, o) refl
    ]
  ]
]

-- a byte where a cell may begin
opens : (s : State) (c : ℕ) → place_of s ≡ Some at.Start → is_quoted (start_field default_config c).0 ≡ true → (step default_config s c).0 ≡ (start_field default_config c).0 → Enters s c
opens s c start ins is = elim (eqb_tells c 34) [
  | inl t ↦ record { quote = t.1; start = start; inside = rw (is, t.0) refl }
  | inr n ↦ let b = bare c in let q = rw n.0 at ins in absurd cc
]

ends : (c : ℕ) → is_quoted (start_record default_config c).0 ≡ true → (start_record default_config c).0 ≡ (start_field default_config c).0
ends c ins = elim (cases_Bool (c == 13)) [
  | inl t ↦ let q = rw t at ins in absurd cc
  | inr m ↦ elim (cases_Bool (c == 10)) [
    | inl t ↦ let q = rw (m, t) at ins in absurd cc
    | inr o ↦ rw (m, o) refl
  ]
]

behind-cr : (c : ℕ) → is_quoted (step default_config st.AfterCr c).0 ≡ true → (step default_config st.AfterCr c).0 ≡ (start_record default_config c).0
behind-cr c ins = elim (cases_Bool (c == 10)) [
  | inl t ↦ let q = rw t at ins in absurd cc
  | inr n ↦ rw n refl
]

comment : (c : ℕ) → is_quoted (step default_config st.InComment c).0 ≡ false
comment c = elim (cases_Bool (c == 10)) [
  | inl t ↦ rw t refl
  | inr n ↦ rw n refl
]

pub enters : (s : State) (c : ℕ) → is_quoted s ≡ false → is_quoted (step default_config s c).0 ≡ true → Enters s c
enters st.StartRecord c out ins = opens st.StartRecord c refl (ap is_quoted (sym (ends c ins)) ∙ ins) (ends c ins)
enters st.StartField c out ins = opens st.StartField c refl ins refl
enters st.AfterCr c out ins =
    let b = behind-cr c ins in
    let q : is_quoted (start_record default_config c).0 ≡ true = ap is_quoted (sym b) ∙ ins in
    let e = ends c q in
    opens st.AfterCr c refl (ap is_quoted (sym e) ∙ q) (b ∙ e)
enters st.InField c out ins = let b = bare c in absurd cc
enters st.InComment c out ins = let b = comment c in absurd cc
enters st.InQuoted c out ins = absurd cc
enters st.AfterQuote c out ins = absurd cc
enters st.InEscape c out ins = absurd cc

some-same : (a b : Place) → Some a ≡ Some b → a ≡ b
some-same a b e = cc

-- a quoted state stands in quotes, and no other does
kept : (s : State) (place next : Place) (i k : ℕ) → place_of s ≡ Some place → is_quoted s ≡ true → opening place next i k ≡ k
kept st.StartRecord place next i k e q = absurd cc
kept st.StartField place next i k e q = absurd cc
kept st.AfterCr place next i k e q = absurd cc
kept st.InField place next i k e q = absurd cc
kept st.InComment place next i k e q = absurd cc
kept st.InEscape place next i k e q = absurd cc
kept st.InQuoted place next i k e q = rw (sym (some-same at.Quoted place e)) refl
kept st.AfterQuote place next i k e q = rw (sym (some-same at.Behind place e)) refl

more : (text : List ℕ) (k i : ℕ) → is_quoted (state_at text (i + 1)) ≡ true → IsOpened text k i → IsOpened text k (i + 1)
more text k i q o = record {
  quote = o.quote;
  before = omega (arith, o.before);
  outside = o.outside;
  inside = λ j l m. elim (eqb_tells j (i + 1)) [
    | inl t ↦ rw t.1 q
    | inr n ↦ o.inside j l (omega (arith, m, n.1))
  ];
}

begun : (text : List ℕ) (i : ℕ) → get_or text i 0 ≡ 34 → is_quoted (state_at text i) ≡ false → is_quoted (state_at text (i + 1)) ≡ true → IsOpened text i (i + 1)
begun text i quote out q = record {
  quote = quote;
  before = omega arith;
  outside = out;
  inside = λ j l m. let e : j ≡ i + 1 = omega (arith, l, m) in rw e q;
}

-- a turn of the walk
pub turn : (text : List ℕ) (i k after : ℕ) (place next : Place) → i < length text → place_of (state_at text i) ≡ Some place
    → (is_quoted (state_at text i) ≡ true → IsOpened text k i)
    → ((s : State) → place_of s ≡ Some place → place_of (step default_config s (get_or text i 0)).0 ≡ Some next)
    → after ≡ opening place next i k
    → is_quoted (state_at text (i + 1)) ≡ true → IsOpened text after (i + 1)
turn text i k after place next l stands opened steps is q = elim (cases_Bool (is_quoted (state_at text i))) [
  | inl t ↦ let e : after ≡ k = is ∙ kept (state_at text i) place next i k stands t in rw e (more text k i q (opened t))
  | inr n ↦
      let m = state-more text i l in
      let x = enters (state_at text i) (get_or text i 0) n (ap is_quoted (sym m) ∙ q) in
      let p : place ≡ at.Start = some-same place at.Start (sym stands ∙ x.start) in
      let r : next ≡ at.Quoted = some-same next at.Quoted (sym (steps (state_at text i) stands) ∙ x.inside) in
      let e : after ≡ i = rw (p, r) at is in
      rw e (begun text i x.quote n q)
]

pub stands-more : (text : List ℕ) (i : ℕ) (place next : Place) → i < length text → place_of (state_at text i) ≡ Some place
    → ((s : State) → place_of s ≡ Some place → place_of (step default_config s (get_or text i 0)).0 ≡ Some next)
    → place_of (state_at text (i + 1)) ≡ Some next
stands-more text i place next l stands steps = rw (state-more text i l) (steps (state_at text i) stands)

not-before : (text : List ℕ) (k m n : ℕ) → IsOpened text k n → IsOpened text m n → k < m → ⊥
not-before text k m n a b l = let q = a.inside m l (omega (arith, b.before)) in let o = b.outside in absurd cc

one-place : (text : List ℕ) (k m n : ℕ) → IsOpened text k n → IsOpened text m n → k ≡ m
one-place text k m n a b = let x = not-before text k m n a b in let y = not-before text m k n b a in omega (arith, x, y)

pub one-line : (text : List ℕ) (a b : ℕ) → OpensIn text a → OpensIn text b → a ≡ b
one-line text a b x y = x.is ∙ (ap (line_of text) (one-place text x.place y.place (length text) x.opened y.opened) ∙ sym y.is)
