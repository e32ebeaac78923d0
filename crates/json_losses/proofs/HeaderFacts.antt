-- What stands behind the last colon of a field.
use Rattle.std.proofs.Common.{◌≡◌, ◌≤◌, ◌<◌, ◌+◌, ◌-◌, ◌==◌, ◌||◌, ◌∷◌, ◌∙◌, ℕ, zero, suc, Bool, true, false, List, [], length, drop, get_or, refl, ap, sym, arith, inl, inr}
use Rattle.std.specs.Prelude.{codes, not}
use Rattle.std.specs.List.{after_last, list_any, suffix_len}
use Rattle.std.specs.Str.{bytes_eq}
use Rattle.std.proofs.lemmas.Bool.{cases_Bool}
use Rattle.std.proofs.lemmas.Slice.Eq.{bytes_eq-Decides}
use Rattle.std.proofs.lemmas.List.Folds.{list_any_none}
use Rattle.std.proofs.lemmas.List.Sums.{suffix_len_is}
use Rattle.std.proofs.lemmas.Grind.{get_or_default_zero}
use Rattle.csv_io.specs.Header.{is_colon, is_refused_word, kind_by, type_of_word}
use Rattle.json_losses.specs.Losses.{is_dynamic, names_dynamic}

any-at : (bs : List ℕ) (end : ℕ) → end < length bs → get_or bs end 0 ≡ 58 → list_any is_colon bs ≡ true
any-at [] end lt e = absurd (omega arith)
any-at (b ∷ bs) zero lt e = rw e refl
any-at (b ∷ bs) (suc end) lt e = rw (any-at bs end (omega arith) e) (or-true (is_colon b)) where
  or-true : (a : Bool) → (a || true) ≡ true
  or-true true = refl
  or-true false = refl

-- the text behind a colon behind which there is none
after-at : (bs : List ℕ) (end : ℕ) → end < length bs → get_or bs end 0 ≡ 58 → ((k : ℕ) → end + 1 ≤ k → k < length bs → (get_or bs k 0 == 58) ≡ false) → after_last is_colon bs ≡ drop (end + 1) bs
after-at bs end lt colon behind =
    let here : (get_or bs end 0 == 58) ≡ true = rw colon refl in
    let size : suffix_len (λ b. not (is_colon b)) bs ≡ length bs - (end + 1) =
    suffix_len_is (λ b. not (is_colon b)) bs (end + 1) 0 (omega arith) (λ k a b. ap not (behind k a b))
    (λ z. let at : end + 1 - 1 ≡ end = omega arith in rw at (ap not here)) in
    let rest : length bs - (length bs - (end + 1)) ≡ end + 1 = omega arith in
    rw (size, rest) refl

dynamic-word : (w : List ℕ) → is_dynamic (kind_by (type_of_word w)) ≡ bytes_eq w (codes "dynamic")
dynamic-word w = elim (cases_Bool (bytes_eq w (codes "bool"))) [
  | inl t ↦ rw ((bytes_eq-Decides w (codes "bool")).0 t) refl
  | inr f1 ↦ elim (cases_Bool (bytes_eq w (codes "long"))) [
    | inl t ↦ rw ((bytes_eq-Decides w (codes "long")).0 t) refl
    | inr f2 ↦ elim (cases_Bool (bytes_eq w (codes "string"))) [
      | inl t ↦ rw ((bytes_eq-Decides w (codes "string")).0 t) refl
      | inr f3 ↦ elim (cases_Bool (bytes_eq w (codes "datetime"))) [
        | inl t ↦ rw ((bytes_eq-Decides w (codes "datetime")).0 t) refl
        | inr f4 ↦ elim (cases_Bool (bytes_eq w (codes "timespan"))) [
          | inl t ↦ rw ((bytes_eq-Decides w (codes "timespan")).0 t) refl
          | inr f5 ↦ elim (cases_Bool (bytes_eq w (codes "dynamic"))) [
            | inl t ↦ rw (f1, f2, f3, f4, f5, t) refl
            | inr f6 ↦ elim (cases_Bool (is_refused_word w)) [
              | inl t ↦ rw (f1, f2, f3, f4, f5, f6, t) refl
              | inr f7 ↦ rw (f1, f2, f3, f4, f5, f6, f7) refl
            ]
          ]
        ]
      ]
    ]
  ]
]

pub named-at : (bs back : List ℕ) (end : ℕ) (b : Bool) → end < length bs → get_or bs end 0 ≡ 58 → ((k : ℕ) → end + 1 ≤ k → k < length bs → (get_or bs k 0 == 58) ≡ false)
    → back ≡ drop (end + 1) bs → b ≡ bytes_eq back (codes "dynamic") → b ≡ names_dynamic bs
unfolding names_dynamic
named-at bs back end b lt colon behind eb is =
    rw (any-at bs end lt colon) (is ∙ (ap (λ w. bytes_eq w (codes "dynamic")) (eb ∙ sym (after-at bs end lt colon behind)) ∙ sym (dynamic-word (after_last is_colon bs))))

pub unnamed : (bs : List ℕ) (end : ℕ) → end ≤ 0 → ((k : ℕ) → end ≤ k → k < length bs → (get_or bs k 0 == 58) ≡ false) → false ≡ names_dynamic bs
unfolding names_dynamic
unnamed bs end first behind =
    let none : list_any is_colon bs ≡ false = list_any_none is_colon bs (λ k d lt. let low : end ≤ k = omega arith in rw (get_or_default_zero bs k d lt) (behind k low lt)) in
    rw none refl
