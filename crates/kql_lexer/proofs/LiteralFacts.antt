-- The parts of typed literals: gaps, texts between quotes, raw texts.
use Rattle.std.proofs.Common.{◌≡◌, ◌≤◌, ◌<◌, ◌+◌, ◌-◌, ℕ, suc, zero, Bool, true, false, ◌&&◌, List, [], ◌∷◌, length, get_or, take, drop, cond, eqb, Option, Some, None, option_map, unwrap_or, refl, sym, ap, ◌∙◌, subst, arith}
use Rattle.std.specs.Prelude.{not}
use Rattle.std.proofs.lemmas.List.{drop_more, drop_all, drop-drop, length-drop, get_or-drop, get_or-take, get_or_past}
use Rattle.std.proofs.lemmas.Bool.Decides.{nat_tests}
use Rattle.kql_lexer.specs.Bytes.{is_blank}
use Rattle.kql_lexer.specs.Literals.{gap_len, quote_end, quoted_len, raw_len}
use Rattle.kql_lexer.specs.Shapes.{IsPlain, gap_after, quote_after}
use Rattle.kql_lexer.proofs.FrontFacts.{plain_drop}

-- gaps
gap_goes : (comment next : Bool) (b : ℕ) (bs : List ℕ) → gap_after comment b (get_or bs 0 0) ≡ Some next → gap_len comment (b ∷ bs) ≡ suc (gap_len next bs)
unfolding gap_len gap_after
gap_goes true next b bs h =
    elim (eqb b 10) as (λ v. Some (not v) ≡ Some next → suc (cond v (gap_len false bs) (gap_len true bs)) ≡ suc (gap_len next bs)) [
      | true ↦ λ e. let same : false ≡ next = cc in ap (λ v. suc (gap_len v bs)) same
      | false ↦ λ e. let same : true ≡ next = cc in ap (λ v. suc (gap_len v bs)) same
    ] h
gap_goes false next b bs h =
    elim (is_blank b) as (λ v. cond v (Some false) (cond (eqb b 47 && eqb (get_or bs 0 0) 47) (Some true) None) ≡ Some next
    → cond v (suc (gap_len false bs)) (cond (eqb b 47 && eqb (get_or bs 0 0) 47) (suc (gap_len true bs)) 0) ≡ suc (gap_len next bs)) [
      | true ↦ λ e. let same : false ≡ next = cc in ap (λ v. suc (gap_len v bs)) same
      | false ↦ elim (eqb b 47 && eqb (get_or bs 0 0) 47) as (λ v. cond v (Some true) None ≡ Some next → cond v (suc (gap_len true bs)) 0 ≡ suc (gap_len next bs)) [
        | true ↦ λ e. let same : true ≡ next = cc in ap (λ v. suc (gap_len v bs)) same
        | false ↦ λ e. absurd cc
      ]
    ] h

gap_stops : (comment : Bool) (b : ℕ) (bs : List ℕ) → gap_after comment b (get_or bs 0 0) ≡ None → gap_len comment (b ∷ bs) ≡ 0
unfolding gap_len gap_after
gap_stops true b bs h = absurd cc
gap_stops false b bs h =
    elim (is_blank b) as (λ v. cond v (Some false) (cond (eqb b 47 && eqb (get_or bs 0 0) 47) (Some true) None) ≡ None
    → cond v (suc (gap_len false bs)) (cond (eqb b 47 && eqb (get_or bs 0 0) 47) (suc (gap_len true bs)) 0) ≡ 0) [
      | true ↦ λ e. absurd cc
      | false ↦ elim (eqb b 47 && eqb (get_or bs 0 0) 47) as (λ v. cond v (Some true) None ≡ None → cond v (suc (gap_len true bs)) 0 ≡ 0) [
        | true ↦ λ e. absurd cc
        | false ↦ λ e. refl
      ]
    ] h

pub gap_next : (comment next : Bool) (xs : List ℕ) (i : ℕ) → i < length xs → gap_after comment (get_or xs i 0) (get_or xs (i + 1) 0) ≡ Some next
    → i + gap_len comment (drop i xs) ≡ i + 1 + gap_len next (drop (i + 1) xs)
gap_next comment next xs i h e =
    let head : get_or (drop (i + 1) xs) 0 0 ≡ get_or xs (i + 1) 0 = get_or-drop (i + 1) xs 0 0 ∙ ap (λ j. get_or xs j 0) (omega arith) in
    let step : gap_len comment (drop i xs) ≡ suc (gap_len next (drop (i + 1) xs)) =
    ap (gap_len comment) (drop_more xs i 0 h) ∙ gap_goes comment next (get_or xs i 0) (drop (i + 1) xs) (ap (gap_after comment (get_or xs i 0)) head ∙ e) in
    omega arith

pub gap_stop : (comment : Bool) (xs : List ℕ) (i : ℕ) → i < length xs → gap_after comment (get_or xs i 0) (get_or xs (i + 1) 0) ≡ None → i + gap_len comment (drop i xs) ≡ i
gap_stop comment xs i h e =
    let head : get_or (drop (i + 1) xs) 0 0 ≡ get_or xs (i + 1) 0 = get_or-drop (i + 1) xs 0 0 ∙ ap (λ j. get_or xs j 0) (omega arith) in
    let step : gap_len comment (drop i xs) ≡ 0 =
    ap (gap_len comment) (drop_more xs i 0 h) ∙ gap_stops comment (get_or xs i 0) (drop (i + 1) xs) (ap (gap_after comment (get_or xs i 0)) head ∙ e) in
    omega arith

gap_nil : (comment : Bool) → gap_len comment [] ≡ 0
unfolding gap_len
gap_nil true = refl
gap_nil false = refl

pub gap_end : (comment : Bool) (xs : List ℕ) (i : ℕ) → length xs ≤ i → i + gap_len comment (drop i xs) ≡ i
gap_end comment xs i h = let step : gap_len comment (drop i xs) ≡ 0 = ap (gap_len comment) (drop_all i xs h) ∙ gap_nil comment in omega arith

pub ruleset gap_steps = (gap_next, gap_stop, gap_end)

-- texts between quotes
quote_goes : (kept next : Bool) (b : ℕ) (bs : List ℕ) → quote_after kept b ≡ Some next → quote_end kept (b ∷ bs) ≡ option_map suc (quote_end next bs)
unfolding quote_end quote_after
quote_goes true next b bs h = let same : false ≡ next = cc in ap (λ v. option_map suc (quote_end v bs)) same
quote_goes false next b bs h =
    elim (eqb b 34) as (λ v. cond v None (Some (eqb b 92)) ≡ Some next → cond v (Some 1) (option_map suc (quote_end (eqb b 92) bs)) ≡ option_map suc (quote_end next bs)) [
      | true ↦ λ e. absurd cc
      | false ↦ λ e. let same : eqb b 92 ≡ next = cc in ap (λ v. option_map suc (quote_end v bs)) same
    ] h

quote_stops : (kept : Bool) (b : ℕ) (bs : List ℕ) → quote_after kept b ≡ None → quote_end kept (b ∷ bs) ≡ Some 1
unfolding quote_end quote_after
quote_stops true b bs h = absurd cc
quote_stops false b bs h =
    elim (eqb b 34) as (λ v. cond v None (Some (eqb b 92)) ≡ None → cond v (Some 1) (option_map suc (quote_end (eqb b 92) bs)) ≡ Some 1) [
      | true ↦ λ e. refl
      | false ↦ λ e. absurd cc
    ] h

plus_suc : (i : ℕ) (o : Option ℕ) → option_map (λ n. i + n) (option_map suc o) ≡ option_map (λ n. i + 1 + n) o
plus_suc i None = refl
plus_suc i (Some n) = ap Some (omega arith)

pub quote_next : (kept next : Bool) (xs : List ℕ) (i : ℕ) → i < length xs → quote_after kept (get_or xs i 0) ≡ Some next
    → option_map (λ n. i + n) (quote_end kept (drop i xs)) ≡ option_map (λ n. i + 1 + n) (quote_end next (drop (i + 1) xs))
quote_next kept next xs i h e =
    ap (λ ys. option_map (λ n. i + n) (quote_end kept ys)) (drop_more xs i 0 h)
    ∙ ap (option_map (λ n. i + n)) (quote_goes kept next (get_or xs i 0) (drop (i + 1) xs) e) ∙ plus_suc i (quote_end next (drop (i + 1) xs))

pub quote_stop : (kept : Bool) (xs : List ℕ) (i : ℕ) → i < length xs → quote_after kept (get_or xs i 0) ≡ None
    → option_map (λ n. i + n) (quote_end kept (drop i xs)) ≡ Some (i + 1)
quote_stop kept xs i h e =
    ap (λ ys. option_map (λ n. i + n) (quote_end kept ys)) (drop_more xs i 0 h) ∙ ap (option_map (λ n. i + n)) (quote_stops kept (get_or xs i 0) (drop (i + 1) xs) e)

quote_nil : (kept : Bool) → quote_end kept [] ≡ None
unfolding quote_end
quote_nil true = refl
quote_nil false = refl

pub quote_over : (kept : Bool) (xs : List ℕ) (i : ℕ) → length xs ≤ i → option_map (λ n. i + n) (quote_end kept (drop i xs)) ≡ None
quote_over kept xs i h = ap (λ ys. option_map (λ n. i + n) (quote_end kept ys)) (drop_all i xs h) ∙ ap (option_map (λ n. i + n)) (quote_nil kept)

zero_plus : (o : Option ℕ) → option_map (λ n. 0 + n) o ≡ o
zero_plus None = refl
zero_plus (Some n) = ap Some (omega arith)

pub quote_start : (xs : List ℕ) → option_map (λ n. 0 + n) (quote_end false xs) ≡ quote_end false xs
quote_start xs = zero_plus (quote_end false xs)

pub ruleset quote_steps = (quote_next, quote_stop, quote_over, quote_start)

-- where no quote closes a text, none closes one behind it
unmapped : (o : Option ℕ) → option_map suc o ≡ None → o ≡ None
unmapped None h = refl
unmapped (Some n) h = absurd cc

mapped : (o : Option ℕ) (e : ℕ) → option_map suc o ≡ Some e → (d : ℕ) × (o ≡ Some d) × (e ≡ suc d)
mapped None e h = absurd cc
mapped (Some d) e h = (d, refl, let same : suc d ≡ e = cc in sym same)

quote_tail : (b : ℕ) (bs : List ℕ) → quote_end false (b ∷ bs) ≡ None → (b ≡ 34 → ⊥) × (quote_end (eqb b 92) bs ≡ None)
unfolding quote_end
quote_tail b bs h =
    elim (eqb b 34) as (λ v. eqb b 34 ≡ v → cond v (Some 1) (option_map suc (quote_end (eqb b 92) bs)) ≡ None → (b ≡ 34 → ⊥) × (quote_end (eqb b 92) bs ≡ None)) [
      | true ↦ λ e k. absurd cc
      | false ↦ λ e k. (λ q. unlike e q, unmapped (quote_end (eqb b 92) bs) k)
    ] refl h where
      unlike : eqb b 34 ≡ false → b ≡ 34 → ⊥
      unlike e q = let is : eqb b 34 ≡ true = grind (arith, nat_tests) in absurd cc

drop_nil : (n : ℕ) → let E : List ℕ = [] in drop n E ≡ []
drop_nil zero = refl
drop_nil (suc n) = refl

take_nil : (n : ℕ) → let E : List ℕ = [] in take n E ≡ []
take_nil zero = refl
take_nil (suc n) = refl

drop_more_tail : (i b : ℕ) (bs : List ℕ) → drop (suc i + 1) (b ∷ bs) ≡ drop (i + 1) bs
drop_more_tail i b bs = let e : suc i + 1 ≡ suc (i + 1) = omega arith in ap (λ j. drop j (b ∷ bs)) e

none_behind : (kept : Bool) (xs : List ℕ) (i : ℕ) → quote_end kept xs ≡ None → get_or xs i 0 ≡ 34 → quote_end false (drop (i + 1) xs) ≡ None
unfolding quote_end
none_behind kept [] i h e = ap (quote_end false) (drop_nil (i + 1)) ∙ quote_nil false
none_behind true (b ∷ bs) zero h e = unmapped (quote_end false bs) h
none_behind true (b ∷ bs) (suc i) h e = ap (quote_end false) (drop_more_tail i b bs) ∙ none_behind false bs i (unmapped (quote_end false bs) h) e
none_behind false (b ∷ bs) zero h e = absurd ((quote_tail b bs h).0 e)
none_behind false (b ∷ bs) (suc i) h e = ap (quote_end false) (drop_more_tail i b bs) ∙ none_behind (eqb b 92) bs i (quote_tail b bs h).1 e

pub none_plain : (bytes : List ℕ) → quote_end false bytes ≡ None → IsPlain true bytes
none_plain bytes h k i e = none_behind false bytes i h e

pub not_quoted : (b : ℕ) (bs : List ℕ) → (b ≡ 34 → ⊥) → 0 ≡ quoted_len b bs
not_quoted b bs n = sym (ap (λ v. cond v (unwrap_or (quote_end false bs) 0) 0) (unlike b n)) where
  unlike : (b : ℕ) → (b ≡ 34 → ⊥) → eqb b 34 ≡ false
  unlike b n = grind (arith, nat_tests)

pub quoted : (b : ℕ) (bs : List ℕ) (o : Option ℕ) → b ≡ 34 → quote_end false bs ≡ o → unwrap_or o 0 ≡ quoted_len b bs
quoted b bs o e h = sym (ap (λ v. cond v (unwrap_or (quote_end false bs) 0) 0) (like b e) ∙ ap (λ p. unwrap_or p 0) h) where
  like : (b : ℕ) → b ≡ 34 → eqb b 34 ≡ true
  like b e = grind (arith, nat_tests)

pub ruleset quoted_steps = (none_plain, not_quoted, quoted)

-- raw texts
pub quote_within : (kept : Bool) (xs : List ℕ) (e : ℕ) → quote_end kept xs ≡ Some e → (0 < e) × (e ≤ length xs)
unfolding quote_end
quote_within kept [] e h = absurd (nothing kept h) where
  nothing : (kept : Bool) → quote_end kept [] ≡ Some e → ⊥
  nothing true h = cc
  nothing false h = cc
quote_within true (b ∷ bs) e h =
    let m = mapped (quote_end false bs) e h in
    let w = quote_within false bs m.0 m.1 in
    (omega (arith, m.2), omega (arith, m.2, w.1))
quote_within false (b ∷ bs) e h =
    elim (eqb b 34) as (λ v. cond v (Some 1) (option_map suc (quote_end (eqb b 92) bs)) ≡ Some e → (0 < e) × (e ≤ length (b ∷ bs))) [
      | true ↦ λ k. let same : 1 ≡ e = cc in (omega arith, omega arith)
      | false ↦ λ k.
          let m = mapped (quote_end (eqb b 92) bs) e k in
          let w = quote_within (eqb b 92) bs m.0 m.1 in
          (omega (arith, m.2), omega (arith, m.2, w.1))
    ] h

quote_none_take : (kept : Bool) (xs : List ℕ) (m : ℕ) → quote_end kept xs ≡ None → quote_end kept (take m xs) ≡ None
unfolding quote_end
quote_none_take kept [] m h = ap (quote_end kept) (take_nil m) ∙ quote_nil kept
quote_none_take kept (b ∷ bs) zero h = quote_nil kept
quote_none_take true (b ∷ bs) (suc m) h = ap (option_map suc) (quote_none_take false bs m (unmapped (quote_end false bs) h))
quote_none_take false (b ∷ bs) (suc m) h =
    elim (eqb b 34) as (λ v. cond v (Some 1) (option_map suc (quote_end (eqb b 92) bs)) ≡ None → cond v (Some 1) (option_map suc (quote_end (eqb b 92) (take m bs))) ≡ None) [
      | true ↦ λ k. absurd cc
      | false ↦ λ k. ap (option_map suc) (quote_none_take (eqb b 92) bs m (unmapped (quote_end (eqb b 92) bs) k))
    ] h

quote_some_take : (kept : Bool) (xs : List ℕ) (m e : ℕ) → quote_end kept xs ≡ Some e → e ≤ m → quote_end kept (take m xs) ≡ Some e
unfolding quote_end
quote_some_take kept [] m e h l = ap (quote_end kept) (take_nil m) ∙ h
quote_some_take kept (b ∷ bs) zero e h l = absurd (omega (arith, (quote_within kept (b ∷ bs) e h).0))
quote_some_take true (b ∷ bs) (suc m) e h l =
    let p = mapped (quote_end false bs) e h in
    ap (option_map suc) (quote_some_take false bs m p.0 p.1 (omega (arith, p.2))) ∙ ap Some (sym p.2)
quote_some_take false (b ∷ bs) (suc m) e h l =
    elim (eqb b 34) as (λ v. cond v (Some 1) (option_map suc (quote_end (eqb b 92) bs)) ≡ Some e → cond v (Some 1) (option_map suc (quote_end (eqb b 92) (take m bs))) ≡ Some e) [
      | true ↦ λ k. k
      | false ↦ λ k.
          let p = mapped (quote_end (eqb b 92) bs) e k in
          ap (option_map suc) (quote_some_take (eqb b 92) bs m p.0 p.1 (omega (arith, p.2))) ∙ ap Some (sym p.2)
    ] h

raw_ge : (k : ℕ) (xs : List ℕ) → k ≤ length xs → k ≤ raw_len k xs
unfolding raw_len
raw_ge zero xs h = omega arith
raw_ge (suc k) [] h = absurd (omega arith)
raw_ge (suc k) (b ∷ bs) h = let r : k ≤ raw_len k bs = raw_ge k bs (omega arith) in omega arith

pub raw_le : (k : ℕ) (xs : List ℕ) → raw_len k xs ≤ length xs
unfolding raw_len
raw_le k [] = omega arith
raw_le (suc k) (b ∷ bs) = let r : raw_len k bs ≤ length bs = raw_le k bs in omega arith
raw_le zero (b ∷ bs) =
    let r : raw_len (quoted_len b bs) bs ≤ length bs = raw_le (quoted_len b bs) bs in
    elim (eqb b 41) as (λ v. cond v 0 (suc (raw_len (quoted_len b bs) bs)) ≤ length (b ∷ bs)) [ true ↦ omega arith | false ↦ omega arith ]

raw_skip : (k : ℕ) (xs : List ℕ) → k ≤ length xs → raw_len k xs ≡ k + raw_len 0 (drop k xs)
unfolding raw_len
raw_skip zero xs h = omega arith
raw_skip (suc k) [] h = absurd (omega arith)
raw_skip (suc k) (b ∷ bs) h = let r : raw_len k bs ≡ k + raw_len 0 (drop k bs) = raw_skip k bs (omega arith) in omega arith

quoted_take : (b : ℕ) (bs : List ℕ) (m : ℕ) → raw_len (quoted_len b bs) bs < m → quoted_len b (take m bs) ≡ quoted_len b bs
quoted_take b bs m h =
    elim (eqb b 34) as (λ v. raw_len (cond v (unwrap_or (quote_end false bs) 0) 0) bs < m → cond v (unwrap_or (quote_end false (take m bs)) 0) 0 ≡ cond v (unwrap_or (quote_end false bs) 0) 0) [
      | true ↦ λ k. go (quote_end false bs) refl k
      | false ↦ λ k. refl
    ] h where
      go : (o : Option ℕ) → quote_end false bs ≡ o → raw_len (unwrap_or (quote_end false bs) 0) bs < m → unwrap_or (quote_end false (take m bs)) 0 ≡ unwrap_or (quote_end false bs) 0
      go None e k = ap (λ p. unwrap_or p 0) (quote_none_take false bs m e ∙ sym e)
      go (Some n) e k =
          let w = quote_within false bs n e in
          let k' : raw_len n bs < m = subst (λ p. raw_len (unwrap_or p 0) bs < m) e k in
          ap (λ p. unwrap_or p 0) (quote_some_take false bs m n e (omega (arith, raw_ge n bs w.1)) ∙ sym e)

-- the end of a raw text is found in each front that holds it
pub raw_take : (k : ℕ) (xs : List ℕ) (m : ℕ) → raw_len k xs < m → raw_len k (take m xs) ≡ raw_len k xs
unfolding raw_len
raw_take k [] m h = ap (raw_len k) (take_nil m)
raw_take k (b ∷ bs) zero h = absurd (omega arith)
raw_take (suc k) (b ∷ bs) (suc m) h = ap suc (raw_take k bs m (omega arith))
raw_take zero (b ∷ bs) (suc m) h =
    elim (eqb b 41) as (λ v. cond v 0 (suc (raw_len (quoted_len b bs) bs)) < suc m
    → cond v 0 (suc (raw_len (quoted_len b (take m bs)) (take m bs))) ≡ cond v 0 (suc (raw_len (quoted_len b bs) bs))) [
      | true ↦ λ k. refl
      | false ↦ λ k. ap suc (ap (λ n. raw_len n (take m bs)) (quoted_take b bs m (omega arith)) ∙ raw_take (quoted_len b bs) bs m (omega arith))
    ] h

-- a raw text ends at a `)`
pub raw_at : (k : ℕ) (xs : List ℕ) → raw_len k xs < length xs → get_or xs (raw_len k xs) 0 ≡ 41
unfolding raw_len
raw_at k [] h = absurd (omega arith)
raw_at (suc k) (b ∷ bs) h = raw_at k bs (omega arith)
raw_at zero (b ∷ bs) h =
    elim (eqb b 41) as (λ v. eqb b 41 ≡ v → cond v 0 (suc (raw_len (quoted_len b bs) bs)) < length (b ∷ bs) → get_or (b ∷ bs) (cond v 0 (suc (raw_len (quoted_len b bs) bs))) 0 ≡ 41) [
      | true ↦ λ e k. is_byte b e
      | false ↦ λ e k. raw_at (quoted_len b bs) bs (omega arith)
    ] refl h where
      is_byte : (b : ℕ) → eqb b 41 ≡ true → b ≡ 41
      is_byte b h = grind (arith, nat_tests)

-- how far a raw text was read
pub record RawTo (bytes : List ℕ) (i : ℕ) (known : Bool) : Type 0 where
  pub within : i ≤ length bytes
  pub told : i + raw_len 0 (drop i bytes) ≡ raw_len 0 bytes
  pub plain : IsPlain known (drop i bytes)

pub raw_start : (bytes : List ℕ) (known : Bool) → IsPlain known bytes → RawTo bytes 0 known
raw_start bytes known p = record { within = omega arith; told = omega arith; plain = p }

raw_open : (b : ℕ) (bs : List ℕ) → (b ≡ 41 → ⊥) → raw_len 0 (b ∷ bs) ≡ suc (raw_len (quoted_len b bs) bs)
unfolding raw_len
raw_open b bs n = ap (λ v. cond v 0 (suc (raw_len (quoted_len b bs) bs))) (unlike b n) where
  unlike : (b : ℕ) → (b ≡ 41 → ⊥) → eqb b 41 ≡ false
  unlike b n = grind (arith, nat_tests)

raw_shut : (b : ℕ) (bs : List ℕ) → b ≡ 41 → raw_len 0 (b ∷ bs) ≡ 0
unfolding raw_len
raw_shut b bs e = ap (λ c. cond (eqb c 41) 0 (suc (raw_len (quoted_len b bs) bs))) e

pub raw_next : (bytes : List ℕ) (i q : ℕ) (known later : Bool) → RawTo bytes i known → i < length bytes → (get_or bytes i 0 ≡ 41 → ⊥)
    → q ≡ quoted_len (get_or bytes i 0) (drop (i + 1) bytes) → q ≤ length (drop (i + 1) bytes) → IsPlain later (drop (i + 1) bytes)
    → RawTo bytes (i + (1 + q)) later
raw_next bytes i q known later r h n e w p =
    let size : length (drop (i + 1) bytes) ≡ length bytes - (i + 1) = length-drop (i + 1) bytes in
    let rest : drop q (drop (i + 1) bytes) ≡ drop (i + (1 + q)) bytes = drop-drop q (i + 1) bytes ∙ ap (λ j. drop j bytes) (omega arith) in
    let step : raw_len 0 (drop i bytes) ≡ suc (q + raw_len 0 (drop (i + (1 + q)) bytes)) =
    ap (raw_len 0) (drop_more bytes i 0 h) ∙ raw_open (get_or bytes i 0) (drop (i + 1) bytes) n
    ∙ ap (λ k. suc (raw_len k (drop (i + 1) bytes))) (sym e) ∙ ap suc (raw_skip q (drop (i + 1) bytes) w ∙ ap (λ ys. q + raw_len 0 ys) rest) in
    record {
      within = omega arith;
      told = omega (arith, r.told);
      plain = subst (IsPlain later) rest (plain_drop later (drop (i + 1) bytes) q p);
    }

pub raw_stop : (bytes : List ℕ) (i : ℕ) (known : Bool) → RawTo bytes i known → i < length bytes → get_or bytes i 0 ≡ 41 → i ≡ raw_len 0 bytes
raw_stop bytes i known r h e =
    let step : raw_len 0 (drop i bytes) ≡ 0 = ap (raw_len 0) (drop_more bytes i 0 h) ∙ raw_shut (get_or bytes i 0) (drop (i + 1) bytes) e in
    omega (arith, r.told)

raw_nil : raw_len 0 [] ≡ 0
unfolding raw_len
raw_nil = refl

pub raw_over : (bytes : List ℕ) (i : ℕ) (known : Bool) → RawTo bytes i known → length bytes ≤ i → (length bytes ≡ raw_len 0 bytes) × IsPlain known (drop (length bytes) bytes)
raw_over bytes i known r h =
    let step : raw_len 0 (drop i bytes) ≡ 0 = ap (raw_len 0) (drop_all i bytes h) ∙ raw_nil in
    let end : i ≡ length bytes = omega (arith, r.within) in
    (omega (arith, r.told), subst (λ j. IsPlain known (drop j bytes)) end r.plain)

-- a quote where none closes a text
pub plain_head : (bytes : List ℕ) (i : ℕ) (known : Bool) → IsPlain known (drop i bytes) → known ≡ true → get_or bytes i 0 ≡ 34 → quote_end false (drop (i + 1) bytes) ≡ None
plain_head bytes i known p k e =
    sym (ap (quote_end false) (drop-drop 1 i bytes)) ∙ p k 0 (get_or-drop i bytes 0 0 ∙ ap (λ j. get_or bytes j 0) (omega arith) ∙ e)

pub plain_tail : (bytes : List ℕ) (i : ℕ) (known : Bool) → IsPlain known (drop i bytes) → IsPlain known (drop (i + 1) bytes)
plain_tail bytes i known p = subst (IsPlain known) (drop-drop 1 i bytes) (plain_drop known (drop i bytes) 1 p)

-- gaps of fronts
after_cut : (comment next : Bool) (b j : ℕ) (bs : List ℕ) → gap_after comment b (get_or (take j bs) 0 0) ≡ Some next → gap_after comment b (get_or bs 0 0) ≡ Some next
unfolding gap_after
after_cut true next b j bs h = h
after_cut false next b zero bs h =
    elim (is_blank b) as (λ v. cond v (Some false) (cond (eqb b 47 && false) (Some true) None) ≡ Some next
    → cond v (Some false) (cond (eqb b 47 && eqb (get_or bs 0 0) 47) (Some true) None) ≡ Some next) [
      | true ↦ λ e. e
      | false ↦ elim (eqb b 47) as (λ v. cond (v && false) (Some true) None ≡ Some next → cond (v && eqb (get_or bs 0 0) 47) (Some true) None ≡ Some next) [
        | true ↦ λ e. absurd cc
        | false ↦ λ e. absurd cc
      ]
    ] h
after_cut false next b (suc j) [] h = h
after_cut false next b (suc j) (c ∷ cs) h = h

open_after : (c : ℕ) → gap_after false 40 c ≡ None
unfolding gap_after is_blank
open_after c = refl

at_open : (comment : Bool) (b x : ℕ) (bs : List ℕ) → b ≡ 40 → gap_after comment 40 x ≡ None → gap_len comment (b ∷ bs) ≡ 0
unfolding gap_after
at_open true b x bs e n = absurd cc
at_open false b x bs e n = gap_stops false b bs (ap (λ c. gap_after false c (get_or bs 0 0)) e ∙ open_after (get_or bs 0 0))

no_byte : (n : ℕ) → let E : List ℕ = [] in get_or E n 0 ≡ 40 → ⊥
no_byte n h = let past : (let E : List ℕ = [] in get_or E n 0 ≡ 0) = get_or_past [] n 0 (omega arith) in omega arith

pub gap_take : (comment : Bool) (xs : List ℕ) (j : ℕ) → get_or (take j xs) (gap_len comment (take j xs)) 0 ≡ 40 → gap_len comment xs ≡ gap_len comment (take j xs)
gap_take comment [] j h = ap (gap_len comment) (sym (take_nil j))
gap_take comment (b ∷ bs) zero h = absurd (no_byte (gap_len comment []) h)
gap_take comment (b ∷ bs) (suc j) h =
    elim (gap_after comment b (get_or (take j bs) 0 0)) as (λ o. gap_after comment b (get_or (take j bs) 0 0) ≡ o → gap_len comment (b ∷ bs) ≡ gap_len comment (b ∷ take j bs)) [
      | Some next ↦ λ e.
          let cut : gap_len comment (b ∷ take j bs) ≡ suc (gap_len next (take j bs)) = gap_goes comment next b (take j bs) e in
          let whole : gap_len comment (b ∷ bs) ≡ suc (gap_len next bs) = gap_goes comment next b bs (after_cut comment next b j bs e) in
          whole ∙ ap suc (gap_take next bs j (ap (λ n. get_or (b ∷ take j bs) n 0) (sym cut) ∙ h)) ∙ sym cut
      | None ↦ λ e.
          let cut : gap_len comment (b ∷ take j bs) ≡ 0 = gap_stops comment b (take j bs) e in
          let byte : b ≡ 40 = ap (λ n. get_or (b ∷ take j bs) n 0) (sym cut) ∙ h in
          at_open comment b (get_or (take j bs) 0 0) bs byte (subst (λ x. gap_after comment x (get_or (take j bs) 0 0) ≡ None) byte e) ∙ sym cut
    ] refl

pub gap_whole : (comment : Bool) (xs : List ℕ) (j : ℕ) → get_or xs (gap_len comment xs) 0 ≡ 40 → gap_len comment xs < j → gap_len comment (take j xs) ≡ gap_len comment xs
gap_whole comment [] j h l = ap (gap_len comment) (take_nil j)
gap_whole comment (b ∷ bs) zero h l = absurd (omega arith)
gap_whole comment (b ∷ bs) (suc j) h l =
    elim (gap_after comment b (get_or bs 0 0)) as (λ o. gap_after comment b (get_or bs 0 0) ≡ o → gap_len comment (b ∷ take j bs) ≡ gap_len comment (b ∷ bs)) [
      | Some next ↦ λ e.
          let whole : gap_len comment (b ∷ bs) ≡ suc (gap_len next bs) = gap_goes comment next b bs e in
          let more : gap_len next bs < j = omega arith in
          let head : get_or (take j bs) 0 0 ≡ get_or bs 0 0 = get_or-take j bs 0 0 (omega arith) in
          let cut : gap_len comment (b ∷ take j bs) ≡ suc (gap_len next (take j bs)) = gap_goes comment next b (take j bs) (ap (gap_after comment b) head ∙ e) in
          cut ∙ ap suc (gap_whole next bs j (ap (λ n. get_or (b ∷ bs) n 0) (sym whole) ∙ h) more) ∙ sym whole
      | None ↦ λ e.
          let whole : gap_len comment (b ∷ bs) ≡ 0 = gap_stops comment b bs e in
          let byte : b ≡ 40 = ap (λ n. get_or (b ∷ bs) n 0) (sym whole) ∙ h in
          at_open comment b (get_or bs 0 0) (take j bs) byte (subst (λ x. gap_after comment x (get_or bs 0 0) ≡ None) byte e) ∙ sym whole
    ] refl
