-- How the text of a line follows what was written.
use Rattle.std.proofs.Common.{◌≡◌, ◌<◌, ◌+◌, ◌==◌, ◌++◌, ◌∙◌, ℕ, false, List, [], ◌∷◌, length, take, get_or, refl, sym, ap, arith, append_assoc, length-append, inl, inr, eq-eqb}
use Rattle.std.specs.Prelude.{if◌then◌else◌}
use Rattle.std.proofs.lemmas.Bool.{cases_Bool, eqb-true, ne_eqb}
use Rattle.std.proofs.lemmas.List.{append-nil, take_more}
use Rattle.csv.proofs.WriteFacts.{escaped-append, row-step}
use Rattle.csv.specs.Writing.{default_writer, escaped, field_text, fields_text, is_blank, next_sep, row_body, row_text}

pub escaped-none : escaped default_writer [] ≡ []
unfolding escaped
escaped-none = refl

-- one byte more between quotes
pub escaped-more : (base out new field : List ℕ) (i : ℕ) → i < length field → out ≡ base ++ escaped default_writer (take i field)
    → new ≡ out ++ escaped default_writer (get_or field i 0 ∷ []) → new ≡ base ++ escaped default_writer (take (i + 1) field)
escaped-more base out new field i lt eo en =
    rw (en, eo, take_more field i 0 lt, escaped-append default_writer (take i field) (get_or field i 0 ∷ [])) (append_assoc base (escaped default_writer (take i field)) (escaped default_writer (get_or field i 0 ∷ [])))

-- one field more of a line
pub line-step : (base out sep new field : List ℕ) (fs : List (List ℕ)) (i : ℕ) → i < length fs → out ≡ base ++ row_body default_writer (take i fs)
    → sep ≡ out ++ next_sep default_writer i → field ≡ get_or fs i [] → new ≡ sep ++ field_text default_writer field → new ≡ base ++ row_body default_writer (take (i + 1) fs)
line-step base out sep new field fs i lt eo es ef en =
    let body = row_body default_writer (take i fs) in
    let before = next_sep default_writer i in
    let text = field_text default_writer (get_or fs i []) in
    rw (en, es, eo, ef) (ap (λ t. t ++ text) (append_assoc base body before) ∙ append_assoc base (body ++ before) text
    ∙ ap (λ t. base ++ t) (append_assoc body before text ∙ sym (row-step default_writer fs i lt)))

same-end : (a b : ℕ) → (a + b == a) ≡ (b == 0)
same-end a b = elim (cases_Bool (b == 0)) [
  | inl t ↦ let none : b ≡ 0 = eqb-true b 0 t in let same : a + b ≡ a = omega arith in rw (eq-eqb (a + b) a same, t) refl
  | inr n ↦ let other : (a + b == a) ≡ false = ne_eqb (a + b) a (λ e. let z : b ≡ 0 = omega arith in let y = eq-eqb b 0 z in cc) in rw (other, n) refl
]

long : (xs ys : List ℕ) → (length (xs ++ 44 ∷ ys) == 0) ≡ false
long xs ys = ne_eqb (length (xs ++ 44 ∷ ys)) 0 (λ e. omega (arith, length-append xs (44 ∷ ys)))

-- a line is blank where it has shown no byte
blank-is : (fs : List (List ℕ)) → is_blank default_writer fs ≡ (length (row_body default_writer fs) == 0)
unfolding is_blank fields_text
blank-is [] = refl
blank-is (f ∷ []) = rw (append-nil (field_text default_writer f)) refl
blank-is (f ∷ g ∷ fs) = sym (long (field_text default_writer f) (field_text default_writer g ++ fields_text default_writer fs))

-- the end of a line
pub line-end : (base out new : List ℕ) (fs : List (List ℕ)) (start : ℕ) → start ≡ length base → out ≡ base ++ row_body default_writer fs
    → new ≡ out ++ ((if length out == start then 34 ∷ 34 ∷ [] else []) ++ 10 ∷ []) → new ≡ base ++ row_text default_writer fs
line-end base out new fs start es eo en =
    let body = row_body default_writer fs in
    let tail = (if is_blank default_writer fs then 34 ∷ 34 ∷ [] else []) ++ 10 ∷ [] in
    let size : (length out == start) ≡ (length body == 0) = rw (eo, es, length-append base body) (same-end (length base) (length body)) in
    let blank : (length out == start) ≡ is_blank default_writer fs = size ∙ sym (blank-is fs) in
    en ∙ rw (blank, eo) (append_assoc base body tail)
