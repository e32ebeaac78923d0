-- Blanks left out one by one, at either end.
use Rattle.std.proofs.Common.{◌≡◌, ◌<◌, ◌≤◌, ◌-◌, ℕ, suc, true, false, List, [], ◌∷◌, ◌++◌, drop, get_or, length, take, refl, sym, ap, ◌∙◌, subst, arith}
use Rattle.std.specs.Prelude.{reverse, slice_index}
use Rattle.std.specs.List.{slice_range}
use Rattle.std.specs.Str.{IsCharBoundary, IsUtf8}
use Rattle.std.proofs.lemmas.List.{reverse-append, reverse-reverse}
use Rattle.std.proofs.lemmas.Str.{IsCharBoundary-after_ascii, IsCharBoundary-before_ascii}
use Rattle.std.proofs.lemmas.Bool.Decides.{nat_tests}
use Rattle.csv_io.specs.Blanks.{bare, begins_blank, behind_blanks, is_blank, trimmed}
use Rattle.kql_cells.specs.declared.value.Kind.{Kind}
use Rattle.kql_cells.specs.declared.value.Kind.TheVariants as kind

blank-low : (b : ℕ) → is_blank b ≡ true → b < 128
blank-low b h = grind (arith, nat_tests)

pub front-next : (t : List ℕ) → begins_blank t ≡ true → behind_blanks (drop 1 t) ≡ behind_blanks t
unfolding begins_blank behind_blanks
front-next [] h = cc
front-next (b ∷ bs) h = rw h refl

pub front-end : (t : List ℕ) → begins_blank t ≡ false → behind_blanks t ≡ t
unfolding begins_blank behind_blanks
front-end [] h = refl
front-end (b ∷ bs) h = rw h refl

pub front-some : (t : List ℕ) → begins_blank t ≡ true → 1 ≤ length t
unfolding begins_blank
front-some [] h = cc
front-some (b ∷ bs) h = omega arith

front-low : (t : List ℕ) → begins_blank t ≡ true → get_or t 0 0 < 128
unfolding begins_blank
front-low [] h = cc
front-low (b ∷ bs) h = blank-low b h

pub front-cut : (t : List ℕ) → IsUtf8 t → begins_blank t ≡ true → IsCharBoundary t 1
front-cut t u h = IsCharBoundary-after_ascii t 0 u (front-some t h) (front-low t h)

pub ruleset front_steps = (front-next, front-end, front-some, front-cut)

-- The same at the end.

last-cut : (t : List ℕ) → 1 ≤ length t → (d : ℕ) → t ≡ take (length t - 1) t ++ get_or t (length t - 1) d ∷ []
last-cut [] h d = absurd (omega arith)
last-cut (b ∷ []) h d = refl
last-cut (b ∷ c ∷ bs) h d =
    let one : length (b ∷ c ∷ bs) - 1 ≡ suc (length (c ∷ bs) - 1) = omega arith in
    rw one (ap (λ (xs : List ℕ). b ∷ xs) (last-cut (c ∷ bs) (omega arith) d))

last-front : (t : List ℕ) (d : ℕ) → 1 ≤ length t → reverse t ≡ get_or t (length t - 1) d ∷ reverse (take (length t - 1) t)
last-front t d h = ap reverse (last-cut t h d) ∙ reverse-append (take (length t - 1) t) (get_or t (length t - 1) d ∷ [])

length-some : (t : List ℕ) → begins_blank (reverse t) ≡ true → 1 ≤ length t
unfolding begins_blank
length-some [] h = cc
length-some (b ∷ bs) h = omega arith

pub back-next : (t : List ℕ) → begins_blank (reverse t) ≡ true → behind_blanks (reverse (take (length t - 1) t)) ≡ behind_blanks (reverse t)
back-next t h =
    let turned : reverse t ≡ get_or t (length t - 1) 0 ∷ reverse (take (length t - 1) t) = last-front t 0 (length-some t h) in
    front-next (get_or t (length t - 1) 0 ∷ reverse (take (length t - 1) t)) (subst (λ (x : List ℕ). begins_blank x ≡ true) turned h) ∙ ap behind_blanks (sym turned)

pub back-end : (t : List ℕ) → begins_blank (reverse t) ≡ false → t ≡ reverse (behind_blanks (reverse t))
back-end t h = sym (ap reverse (front-end (reverse t) h) ∙ reverse-reverse t)

pub back-some : (t : List ℕ) → begins_blank (reverse t) ≡ true → 1 ≤ length t
back-some t h = length-some t h

pub back-low : (t : List ℕ) → begins_blank (reverse t) ≡ true → get_or t (length t - 1) 0 < 128
back-low t h = front-low (get_or t (length t - 1) 0 ∷ reverse (take (length t - 1) t)) (subst (λ (x : List ℕ). begins_blank x ≡ true) (last-front t 0 (length-some t h)) h)

pub back-cut : (t : List ℕ) → begins_blank (reverse t) ≡ true → IsCharBoundary t (length t - 1)
back-cut t h = let some : 1 ≤ length t = length-some t h in IsCharBoundary-before_ascii t (length t - 1) (omega arith) (back-low t h)

pub last-blank : (t : List ℕ) → 1 ≤ length t → is_blank (slice_index t (length t - 1)) ≡ begins_blank (reverse t)
unfolding begins_blank
last-blank t h = ap begins_blank (sym (last-front t 0 h))

pub none-blank : (t : List ℕ) → t ≡ [] → false ≡ begins_blank (reverse t)
unfolding begins_blank
none-blank t none = rw none refl

pub few-blank : (t bs : List ℕ) → bs ≡ t → length bs < 1 → false ≡ begins_blank (reverse t)
unfolding begins_blank
few-blank t [] is h = rw (sym is) refl
few-blank t (b ∷ bs) is h = absurd (omega arith)

cut-front : (t : List ℕ) (n : ℕ) → slice_range t 0 n ≡ take n t
cut-front t n = let same : n - 0 ≡ n = omega arith in rw same refl

pub back-step : (x t s : List ℕ) → begins_blank (reverse t) ≡ true → s ≡ slice_range t 0 (length t - 1) → behind_blanks (reverse t) ≡ behind_blanks (reverse x) → behind_blanks (reverse s) ≡ behind_blanks (reverse x)
back-step x t s b is inv = rw (is, cut-front t (length t - 1)) (back-next t b ∙ inv)

pub ruleset last_steps = (last-blank, none-blank, few-blank)

pub ruleset back_steps = (back-next, back-end, back-some, back-cut)

-- A text without a blank is itself.

trimmed-by : (t : List ℕ) → begins_blank t ≡ false → begins_blank (reverse t) ≡ false → trimmed t ≡ t
unfolding trimmed
trimmed-by t first last = rw (front-end t first) (sym (back-end t last))

pub trimmed-same : (t : List ℕ) → ((k : ℕ) → k < length t → is_blank (get_or t k 0) ≡ false) → trimmed t ≡ t
unfolding begins_blank
trimmed-same [] none = trimmed-by [] refl refl
trimmed-same (b ∷ bs) none =
    trimmed-by (b ∷ bs) (none 0 (omega arith))
    (sym (last-blank (b ∷ bs) (omega arith)) ∙ none (length (b ∷ bs) - 1) (omega arith))

pub bare-same : (k : Kind) (t : List ℕ) → trimmed t ≡ t → bare k t ≡ t
unfolding bare
bare-same kind.Text t e = refl
bare-same kind.Dynamic t e = refl
bare-same kind.Bool t e = e
bare-same kind.Long t e = e
bare-same kind.Moment t e = e
bare-same kind.Span t e = e
