-- A form read from tokens that are cut after the bracket that opens too deep.
use Rattle.std.proofs.Common.{ℕ, zero, suc, ◌+◌, ◌-◌, ◌≤◌, ◌<◌, ◌≡◌, ◌⊎◌, inl, inr, Bool, true, false, List, [], ◌∷◌, take, drop, length, refl, sym, subst, ◌∙◌, arith}
use native.Mathlib.Decide.{dec_le}
use Rattle.std.specs.Prelude.{Option, Some, None, nat_le, if◌then◌else◌, slice_get}
use Rattle.std.proofs.lemmas.Option.{slice_get_within}
use Rattle.std.proofs.lemmas.List.{length-drop, take_all}
use Rattle.kql_lexer.specs.declared.place.Place.{Place}
use Rattle.kql_lexer.specs.declared.token.Token.{Token}
use Rattle.kql_syntax.specs.declared.class.Class.{Class}
use Rattle.kql_syntax.specs.Classes.{has, apart}
use Rattle.kql_syntax.specs.Forms.{Form, nullable}
use Rattle.kql_syntax.specs.Derives.{Stands, Found, Refused, BeginsForm}
use Rattle.kql_syntax.specs.Parsing.{too_deep, opening, closing, OpensTooDeep, Whole, Unexpected, TooDeep, place_of, Refuses}
use Rattle.kql_syntax.proofs.StartLaws.{stands_apart}
use Rattle.kql_syntax.proofs.EndLaws.{final, form_ends}
use Rattle.kql_syntax.proofs.PrefixLaws.{form_prefix, to_cut, from_cut, is_to_cut, is_from_cut, upto}

-- the steps of the scan
pub too_deep_end : (at n : ℕ) → too_deep at n [] ≡ None
unfolding too_deep
too_deep_end at n = refl

pub too_deep_step : (at n : ℕ) (t : Token) (ts : List Token) → too_deep at n (t ∷ ts) ≡ (if has opening t.form then (if nat_le 64 n then Some at else too_deep (at + 1) (n + 1) ts) else (if has closing t.form then too_deep (at + 1) (n - 1) ts else too_deep (at + 1) n ts))
unfolding too_deep
too_deep_step at n t ts = refl

pick : (at w : ℕ) (a b c : Bool) (X Y Z : Option ℕ) → (if a then (if b then Some at else X) else (if c then Y else Z)) ≡ Some w → ((a ≡ true) × (at ≡ w)) ⊎ ((X ≡ Some w) ⊎ ((Y ≡ Some w) ⊎ (Z ≡ Some w)))
pick at w true true c X Y Z e = inl (refl, cc)
pick at w true false c X Y Z e = inr (inl e)
pick at w false b true X Y Z e = inr (inr (inl e))
pick at w false b false X Y Z e = inr (inr (inr e))

-- a token of these classes stands at w, in tokens that begin at index `at`
abbrev pub Spot : List Class → List Token → ℕ → ℕ → Type 0
Spot cs ts at w = (k : ℕ) × (w ≡ at + k) × Stands ts k cs

pub spot_here : (cs : List Class) (t : Token) (ts : List Token) (at w : ℕ) → has cs t.form ≡ true → at ≡ w → Spot cs (t ∷ ts) at w
spot_here cs t ts at w h e = (0, omega arith, record { it = t; at = refl; of = h })

pub spot_later : {cs : List Class} (t : Token) (ts : List Token) (at w : ℕ) → Spot cs ts (at + 1) w → Spot cs (t ∷ ts) at w
spot_later t ts at w p = (suc p.0, omega arith, record { it = p.2.it; at = p.2.at; of = p.2.of })

pub spot_stands : (cs : List Class) (s : List Token) (w : ℕ) → Spot cs s 0 w → Stands s w cs
spot_stands cs s w p = let same : p.0 ≡ w = omega arith in subst (λ (k : ℕ). Stands s k cs) same p.2

deep_spot : (at n : ℕ) (ts : List Token) (w : ℕ) → too_deep at n ts ≡ Some w → Spot opening ts at w
unfolding too_deep
deep_spot at n [] w e = absurd cc
deep_spot at n (t ∷ ts) w e = elim (pick at w (has opening t.form) (nat_le 64 n) (has closing t.form) _ _ _ e) [
  | inl p ↦ spot_here opening t ts at w p.0 p.1
  | inr q ↦ (elim q [
    | inl h ↦ spot_later t ts at w (deep_spot (at + 1) (n + 1) ts w h)
    | inr r ↦ (elim r [
      | inl h ↦ spot_later t ts at w (deep_spot (at + 1) (n - 1) ts w h)
      | inr h ↦ spot_later t ts at w (deep_spot (at + 1) n ts w h)
    ])
  ])
]

-- a slice from i on, as it is passed on
pub rest_is : (s : List Token) (i : ℕ) → take (length s - i) (drop i s) ≡ drop i s
rest_is s i = let size = length-drop i s in take_all (length s - i) (drop i s) (omega arith)

pub rest_deep : (s : List Token) (i w : ℕ) → too_deep i 0 (take (length s - i) (drop i s)) ≡ Some w → OpensTooDeep s i w
rest_deep s i w e = subst (λ (r : List Token). too_deep i 0 r ≡ Some w) (rest_is s i) e

-- a token behind others
stands_past : (s : List Token) (i k : ℕ) → Stands (drop i s) k opening → Stands s (i + k) opening
stands_past s i k h = record { it = h.it; at = past s i k _ h.at; of = h.of }
  where
    past : (s : List Token) (i k : ℕ) (o : Option Token) → slice_get (drop i s) k ≡ o → slice_get s (i + k) ≡ o
    past s zero k o e = let same : zero + k ≡ k = omega arith in rw same e
    past [] (suc i) k o e = let none : slice_get (drop (suc i) []) k ≡ None = nothing k in let also : slice_get [] (suc i + k) ≡ None = nothing (suc i + k) in also ∙ sym none ∙ e
      where
        nothing : (m : ℕ) → slice_get {X = Token} [] m ≡ None
        nothing zero = refl
        nothing (suc m) = refl
    past (t ∷ s) (suc i) k o e = let same : suc i + k ≡ suc (i + k) = omega arith in rw same (past s i k o e)

module _ (s : List Token) (i w : ℕ) (deep : OpensTooDeep s i w) where
  pub deep_stands : Stands s w opening
  deep_stands = let p = deep_spot i 0 (drop i s) w deep in subst (λ (k : ℕ). Stands s k opening) (sym p.1) (stands_past s i p.0 p.2)

  pub deep_within : w < length s
  deep_within = slice_get_within s w _ deep_stands.at

  pub deep_after : i ≤ w
  deep_after = let p = deep_spot i 0 (drop i s) w deep in let e : w ≡ i + p.0 = p.1 in omega arith

  -- what is found in the cut tokens is found in all
  pub cut_found : {A : Type 0} {a : Form A} {end : ℕ} {x : A} → Found a (take (w + 1) s) i end x → end ≤ w + 1 → apart (final a) opening ≡ true → nullable a ≡ false → Whole a s i end x
  cut_found {a = a} {end = end} {x = x} f o d e =
      let short : end ≤ w = before_bracket in
      record {
        is = is_from_cut s w a i end x o f.is;
        furthest = λ j b. elim (dec_le j (w + 1)) [ yes h ↦ f.furthest j (to_cut s w a i j h b) | no h ↦ absurd (too_far j (omega arith) b) ];
        shallow = λ u q. let same : w ≡ u = cc in subst (λ (k : ℕ). end ≤ k) same short;
      }
    where
      before_bracket : end ≤ w
      before_bracket = elim (form_ends s a i end x (is_from_cut s w a i end x o f.is)) [
        | inl p ↦ (let after = deep_after in omega arith)
        | inr p ↦ (elim (dec_le end w) [
          | yes h ↦ h
          | no h ↦ (let at_end : end ≡ p.at + 1 = p.ends in
              let same : p.at ≡ w = omega arith in
              absurd (stands_apart s w (final a) opening d (subst (λ (k : ℕ). Stands s k (final a)) same p.stands) deep_stands))
        ])
      ]

      too_far : (j : ℕ) → w < j → BeginsForm s a i j → ⊥
      too_far j h b = let after = deep_after in let l : w + 1 ≤ end = f.furthest (w + 1) (upto s w a i j (omega arith) h b) in let short = before_bracket in omega arith

  pub cut_unexpected : {A : Type 0} {a : Form A} {v : ℕ} → Refused a (take (w + 1) s) i v → v ≤ w → Unexpected a s i v
  cut_unexpected {a = a} {v = v} f o = record {
    begins = from_cut s w a i v (omega arith) f.begins;
    furthest = λ j b. elim (dec_le j (w + 1)) [ yes h ↦ f.furthest j (to_cut s w a i j h b) | no h ↦ (let after = deep_after in let l : w + 1 ≤ v = f.furthest (w + 1) (upto s w a i j (omega arith) (omega arith) b) in absurd (omega arith)) ];
    none = λ y h. f.none y (is_to_cut s w a i v y (omega arith) h);
    shallow = λ u q. let same : w ≡ u = cc in subst (λ (k : ℕ). v ≤ k) same o;
  }

  pub cut_deep : {A : Type 0} {a : Form A} {v : ℕ} → Refused a (take (w + 1) s) i v → w < v → TooDeep a s i w
  cut_deep {a = a} {v = v} f o = let after = deep_after in record { deep = deep; begins = from_cut s w a i (w + 1) (omega arith) (form_prefix (take (w + 1) s) a i v (w + 1) (omega arith) (omega arith) f.begins) }

-- where no bracket opens too deep
module _ (s : List Token) (i : ℕ) (none : too_deep i 0 (drop i s) ≡ None) where
  pub all_found : {A : Type 0} {a : Form A} {end : ℕ} {x : A} → Found a s i end x → Whole a s i end x
  all_found f = record { is = f.is; furthest = f.furthest; shallow = λ w q. (let no_place : ⊥ = cc in absurd no_place) }

  pub all_unexpected : {A : Type 0} {a : Form A} {v : ℕ} → Refused a s i v → Unexpected a s i v
  all_unexpected f = record { begins = f.begins; furthest = f.furthest; none = f.none; shallow = λ w q. (let no_place : ⊥ = cc in absurd no_place) }

module _ {A : Type 0} {a : Form A} {s : List Token} {i v : ℕ} {p : Place} where
  pub refuses_unexpected : Unexpected a s i v → p ≡ place_of s v → Refuses a s i 201 p
  refuses_unexpected u q = record { at = v; place = q; cause = inl (refl, u) }

  pub refuses_deep : TooDeep a s i v → p ≡ place_of s v → Refuses a s i 202 p
  refuses_deep u q = record { at = v; place = q; cause = inr (refl, u) }
