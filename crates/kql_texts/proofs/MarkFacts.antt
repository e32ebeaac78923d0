-- A text stands as a term exactly where it stands with its borders.
use Rattle.std.proofs.Common.{◌≡◌, ◌↔◌, ◌<◌, ◌+◌, ◌/◌, ℕ, Bool, true, false, cond, ◌&&◌, ltb, IsTrue, List, [], ◌∷◌, ◌++◌, Option, Some, None, length, fold, drop, refl, sym, ap, subst, ◌∙◌, arith, ⊎_elim, IsUtf8, length-append}
use Rattle.std.specs.Str.{all_scalars, encode_utf8_all}
use Rattle.std.specs.Option.{is_some}
use Rattle.std.proofs.Math.Utf8.{encode, next, scalar, scalar_cases}
use Rattle.std.proofs.lemmas.Bool.{and_parts, false≢true}
use Rattle.std.proofs.lemmas.List.{drop_at}
use Rattle.std.proofs.lemmas.List.Prefix.{at_from_reads, at_reads}
use Rattle.std.proofs.lemmas.List.Sums.{fold-append}
use Rattle.memchr.specs.Find.{FindsNeedle, OccursAt}
use borrow.Author.Tests.{ltb-true}
use Rattle.kql_texts.specs.Marks.{mark_between, marked, marked_after}
use Rattle.kql_texts.specs.Stands.{Holds}
use Rattle.kql_texts.specs.Terms.{HasTerm, IsBorder, are_joined, first_of, last_of}
use Rattle.kql_texts.proofs.PlaceFacts.{Holds-at}

-- ---- no byte of a text is 255

abbrev Low : List ℕ → Type 0
Low [] = Unit {0}
Low (b ∷ bs) = (b < 255) × Low bs

Low-append : (xs ys : List ℕ) → Low xs → Low ys → Low (xs ++ ys)
Low-append [] ys f g = g
Low-append (x ∷ xs) ys f g = (f.0, Low-append xs ys f.1 g)

Low-cond : (b : Bool) (xs ys : List ℕ) → (b ≡ true → Low xs) → (b ≡ false → Low ys) → Low (cond b xs ys)
Low-cond true xs ys f g = f refl
Low-cond false xs ys f g = g refl

low_next : (n : ℕ) → next n < 255
low_next n = omega arith

Low-encode : (c : ℕ) → scalar c ≡ true → Low (encode c)
unfolding encode
Low-encode c h =
    let small : c < 1114112 = ⊎_elim (λ low. omega arith) (λ high. high.1) (scalar_cases c h) in
    Low-cond (ltb c 128) _ _ (λ t. let lt : c < 128 = ltb-true c 128 t in (omega arith, tt))
    (λ _. Low-cond (ltb c 2048) _ _ (λ t. let lt : c < 2048 = ltb-true c 2048 t in (omega arith, (low_next c, tt)))
    (λ _. Low-cond (ltb c 65536) _ _ (λ t. let lt : c < 65536 = ltb-true c 65536 t in (omega arith, (low_next (c / 64), (low_next c, tt))))
    (λ _. (omega arith, (low_next (c / 4096), (low_next (c / 64), (low_next c, tt)))))))

Low-encodes : (cs : List ℕ) → all_scalars cs ≡ true → Low (encode_utf8_all cs)
Low-encodes [] h = tt
Low-encodes (c ∷ cs) h =
    let parts = and_parts _ _ h in
    Low-append (encode c) (encode_utf8_all cs) (Low-encode c parts.0) (Low-encodes cs parts.1)

Low-text : (bs : List ℕ) → IsUtf8 bs → Low bs
Low-text bs utf8 = subst Low utf8.1.1 (Low-encodes utf8.0 utf8.1.0)

-- ---- marks

abbrev pub last_from : ℕ → List ℕ → ℕ
last_from x xs = fold (λ _ y. y) x xs

border_at_255 : (b : Bool) → ◌≡◌ {A = ℕ} (cond b 254 255) 255 → b ≡ false
border_at_255 true e = absurd (omega arith)
border_at_255 false e = refl

mark-border : (x y : ℕ) → are_joined x y ≡ false → mark_between x y ≡ 255
mark-border x y e = ap (λ b. cond b 254 255) e

and-false : (b : Bool) → (b && false) ≡ false
and-false true = refl
and-false false = refl

border_at_end : (x : ℕ) → are_joined x 0 ≡ false
border_at_end x = and-false _

begins_more : (x y z : ℕ) (ys zs : List ℕ) → y ≡ z → (after : List ℕ) × (ys ≡ zs ++ after) × (are_joined (last_from y zs) (first_of after) ≡ false)
    → (after : List ℕ) × (y ∷ ys ≡ z ∷ zs ++ after) × (are_joined (last_from z zs) (first_of after) ≡ false)
begins_more x y z ys zs same (after, rest, border) =
    (after, ap (λ h. h ∷ ys) same ∙ ap (λ (l : List ℕ). z ∷ l) rest, ap (λ h. are_joined (last_from h zs) (first_of after)) (sym same) ∙ border)

-- what begins with the marks of p begins with p, and a border follows
begins : (x m : ℕ) (t p more : List ℕ) → marked_after x t ≡ marked_after m p ++ more → (after : List ℕ) × (t ≡ p ++ after) × (are_joined (last_from x p) (first_of after) ≡ false)
begins x m [] [] more e = ([], refl, border_at_end x)
begins x m (y ∷ ys) [] more e = (y ∷ ys, refl, border_at_255 (are_joined x y) (cc))
begins x m [] (z ∷ zs) more e = absurd (cc)
begins x m (y ∷ ys) (z ∷ zs) more e =
    let same : y ≡ z = cc in
    let rest : marked_after y ys ≡ marked_after z zs ++ more = cc in
    begins_more x y z ys zs same (begins y z ys zs more rest)

starts : (x : ℕ) (t more : List ℕ) → marked_after x t ≡ 255 ∷ more → are_joined x (first_of t) ≡ false
starts x [] more e = border_at_end x
starts x (y ∷ ys) more e = border_at_255 (are_joined x y) (cc)

first_mark : (p : List ℕ) → (more : List ℕ) × (marked p ≡ 255 ∷ more)
first_mark [] = ([], refl)
first_mark (x ∷ xs) = (x ∷ marked_after x xs, refl)

-- p stands in t with its borders, where x comes before t
abbrev pub StandsAfter : ℕ → List ℕ → List ℕ → Type 0
StandsAfter x t p =
    (before : List ℕ) × (after : List ℕ) × (t ≡ before ++ (p ++ after)) × (are_joined (last_from x before) (first_of (p ++ after)) ≡ false) × (are_joined (last_from x (before ++ p)) (first_of after) ≡ false)

pub StandsAfter-cons : (x y : ℕ) (ys p : List ℕ) → StandsAfter y ys p → StandsAfter x (y ∷ ys) p
StandsAfter-cons x y ys p (before, after, parts, start, end) = (y ∷ before, after, ap (λ l. y ∷ l) parts, start, end)

-- the marks of p stand in those of t only where p stands with its borders
from_marks : (x : ℕ) (front t p back : List ℕ) → Low t → marked_after x t ≡ front ++ (marked p ++ back) → StandsAfter x t p
from_marks x [] t p back low e =
    let behind = begins x 0 t p back e in
    let mark = first_mark p in
    let start = starts x t (mark.0 ++ back) (e ∙ ap (λ l. l ++ back) mark.1) in
    ([], behind.0, behind.1, ap (λ l. are_joined x (first_of l)) (sym behind.1) ∙ start, behind.2)
from_marks x (f ∷ []) [] p back low e =
    let mark = first_mark p in
    let more : 255 ∷ [] ≡ f ∷ (255 ∷ (mark.0 ++ back)) = e ∙ ap (λ l. f ∷ (l ++ back)) mark.1 in
    absurd (cc)
from_marks x (f ∷ []) (y ∷ ys) p back low e =
    let mark = first_mark p in
    let more : mark_between x y ∷ (y ∷ marked_after y ys) ≡ f ∷ (255 ∷ (mark.0 ++ back)) = e ∙ ap (λ l. f ∷ (l ++ back)) mark.1 in
    let high : y ≡ 255 = cc in
    absurd (omega (arith, low.0))
from_marks x (f ∷ g ∷ front) [] p back low e = absurd (cc)
from_marks x (f ∷ g ∷ front) (y ∷ ys) p back low e =
    let rest : marked_after y ys ≡ front ++ (marked p ++ back) = cc in
    StandsAfter-cons x y ys p (from_marks y front ys p back low.1 rest)

marks_before : ℕ → List ℕ → List ℕ
marks_before x [] = []
marks_before x (y ∷ ys) = mark_between x y ∷ (y ∷ marks_before y ys)

marked_after-append : (x : ℕ) (xs ys : List ℕ) → marked_after x (xs ++ ys) ≡ marks_before x xs ++ marked_after (last_from x xs) ys
unfolding marks_before
marked_after-append x [] ys = refl
marked_after-append x (y ∷ xs) ys = ap (λ l. mark_between x y ∷ (y ∷ l)) (marked_after-append y xs ys)

marked_front : (x : ℕ) (p after : List ℕ) → are_joined (last_from x p) (first_of after) ≡ false → (more : List ℕ) × (marked_after x (p ++ after) ≡ marked_after x p ++ more)
marked_front x [] [] h = ([], refl)
marked_front x [] (y ∷ ys) h = (y ∷ marked_after y ys, ap (λ m. m ∷ (y ∷ marked_after y ys)) (mark-border x y h))
marked_front x (y ∷ p) after h =
    let inner = marked_front y p after h in
    (inner.0, ap (λ l. mark_between x y ∷ (y ∷ l)) inner.1)

marked_at_border : (x : ℕ) (s : List ℕ) → are_joined x (first_of s) ≡ false → marked_after x s ≡ marked s
marked_at_border x [] h = refl
marked_at_border x (y ∷ ys) h = ap (λ m. m ∷ (y ∷ marked_after y ys)) (mark-border x y h)

end_border : (before p after : List ℕ) → IsBorder (before ++ p) after → are_joined (last_of p) (first_of after) ≡ false
end_border before [] after h = refl
end_border before (x ∷ xs) after h = ap (λ l. are_joined l (first_of after)) (sym (fold-append (λ _ y. y) 0 before (x ∷ xs))) ∙ h

to_marks : (t p : List ℕ) → HasTerm t p → Holds (marked t) (marked p)
to_marks t p term =
    let before = term.0 in
    let after = term.1 in
    let rest = marked_front 0 p after (end_border before p after term.4) in (
      marks_before 0 before,
      rest.0,
      ap marked term.2 ∙ marked_after-append 0 before (p ++ after)
          ∙ ap (λ l. marks_before 0 before ++ l) (marked_at_border (last_of before) (p ++ after) term.3 ∙ rest.1),
    )

-- ---- the search

occurs : (hay needle before after : List ℕ) → hay ≡ before ++ (needle ++ after) → OccursAt hay needle (length before)
occurs hay needle before after e = record {
  fits = omega (arith, ap length e, length-append before (needle ++ after), length-append needle after);
  reads = λ j lt. at_reads 0 hay needle (length before) after (ap (drop (length before)) e ∙ drop_at before (needle ++ after) (length before) refl) j lt;
}

finds : (hay needle : List ℕ) (r : Option ℕ) → FindsNeedle hay needle 0 r → IsTrue (is_some r) ↔ Holds hay needle
finds hay needle None h = (
  λ t. absurd (false≢true t),
  λ held.
      let here = occurs hay needle held.0 held.1 held.2 in
      let fits = here.fits in
      absurd (h (length held.0) (omega arith) (omega arith) here),
)
finds hay needle (Some k) h = (λ _. Holds-at hay needle k (k + length needle) (at_from_reads 0 hay needle k h.1.fits h.1.reads), λ _. refl)

pub HasTerm-marks : (t p hay needle : List ℕ) (r : Option ℕ) (found : Bool) → IsUtf8 t → hay ≡ marked t → needle ≡ marked p → FindsNeedle hay needle 0 r → found ≡ is_some r → IsTrue found ↔ HasTerm t p
HasTerm-marks t p hay needle r found utf8 hay_is needle_is search is =
    let there : FindsNeedle (marked t) (marked p) 0 r = subst (λ h. FindsNeedle h (marked p) 0 r) hay_is (subst (λ n. FindsNeedle hay n 0 r) needle_is search) in
    let test = finds (marked t) (marked p) r there in (
      (λ yes. let held = test.0 (sym is ∙ yes) in from_marks 0 held.0 t p held.1 (Low-text t utf8) held.2),
      (λ term. is ∙ test.1 (to_marks t p term)),
    )
