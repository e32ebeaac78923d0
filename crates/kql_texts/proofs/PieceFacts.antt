-- The pieces that std's splitting and replacing give.
use Rattle.std.proofs.Common.{◌≡◌, ◌≤◌, ◌<◌, ◌==◌, ℕ, suc, zero, Bool, true, false, List, [], ◌∷◌, ◌++◌, map, Option, Some, None, MatchOption, Bor, length, take, drop, refl, sym, ap, subst, ◌∙◌, arith, ⊎_elim, append-nil, append_assoc, length-append, take-append-drop}
use Rattle.std.specs.Iterator.{Yields}
use Rattle.std.specs.List.{flat_map}
use Rattle.std.specs.Str.Iter.{split_has_more, split_pattern, split_steps, split_text}
use Rattle.std.specs.Str.Pattern.{FindsText, HasTextAt, LacksTextAt}
use Rattle.std.specs.Str.Replace.{ReplacesMatches}
use Rattle.std.specs.declared.str.Split.{Split}
use Rattle.std.proofs.lemmas.Bool.{cases_lt, eqb-true, false≢true}
use Rattle.std.proofs.lemmas.List.{drop_at, length-drop, length-take-le, nil_from_length}
use Rattle.kql_cells.specs.declared.dynamic.Dyn.{Dyn}
use Rattle.kql_cells.specs.declared.dynamic.Dyn.TheVariants as dyn
use Rattle.kql_texts.specs.Pieces.{AreCutAt, EndsAtFirst, IsSplit, joined}
use Rattle.kql_texts.proofs.PlaceFacts.{lacks-Holds}

-- what std looks for, where the pattern is a text
abbrev Text : Type 0
Text = Bor (List ℕ)

abbrev finds : Text → List ℕ → Option (ℕ × ℕ) → Type 0
finds n = FindsText n.now

abbrev keeps : Text → Text → Type 0
keeps n m = m.now ≡ n.now

-- t is these pieces, cut at each d
abbrev IsCut : List ℕ → List ℕ → List (List ℕ) → Type 0
IsCut d t pieces = (joined d pieces ≡ t) × AreCutAt d pieces

pub IsSplit-from_cut : (d t : List ℕ) (pieces : List (List ℕ)) → 0 < length d → IsCut d t pieces → IsSplit t d pieces
IsSplit-from_cut [] t pieces some cut = absurd (omega arith)
IsSplit-from_cut (c ∷ d) t pieces some cut = cut

-- one piece more in front
pub joined-cons : (d sep x : List ℕ) (pieces : List (List ℕ)) → AreCutAt d pieces → joined sep (x ∷ pieces) ≡ x ++ (sep ++ joined sep pieces)
joined-cons d sep x [] cut = absurd cut
joined-cons d sep x (y ∷ ys) cut = ap (λ l. x ++ l) (append_assoc sep y (flat_map (λ piece. sep ++ piece) ys))

AreCutAt-cons : (d x : List ℕ) (pieces : List (List ℕ)) → EndsAtFirst d x → AreCutAt d pieces → AreCutAt d (x ∷ pieces)
AreCutAt-cons d x [] first cut = absurd cut
AreCutAt-cons d x (y ∷ ys) first cut = (first, cut)

last_piece : (d t : List ℕ) → ((i : ℕ) → i ≤ length t → LacksTextAt d t i) → IsCut d t (t ∷ [])
last_piece d t lacks = (append-nil t, lacks-Holds t d lacks)

-- the text before the first match is a piece
module _ (d t : List ℕ) (i j : ℕ) (some : 0 < length d) (earlier : (k : ℕ) → k < i → LacksTextAt d t k) (here : HasTextAt d t i j) where
  inside : i < length t
  inside = omega (arith, ap length here.split, length-append d (drop j t), length-drop i t)

  cut_there : t ≡ take i t ++ (d ++ drop j t)
  cut_there = sym (take-append-drop i t) ∙ ap (λ l. take i t ++ l) here.split

  ends_first : EndsAtFirst d (take i t)
  ends_first before after e =
      let rest = drop j t in
      let whole : t ≡ before ++ (d ++ (after ++ rest)) = cut_there ∙ sym (append_assoc (take i t) d rest) ∙ ap (λ l. l ++ rest) e ∙ append_assoc before (d ++ after) rest ∙ ap (λ l. before ++ l) (append_assoc d after rest) in
      let stands : drop (length before) t ≡ d ++ (after ++ rest) = ap (drop (length before)) whole ∙ drop_at before (d ++ (after ++ rest)) (length before) refl in
      let behind : i ≤ length before = ⊎_elim (λ lt. absurd (earlier (length before) lt (after ++ rest) stands)) (λ le. le) (cases_lt (length before) i) in
      let bound = inside in
      nil_from_length after (omega (arith, ap length e, length-append (take i t) d, length-append before (d ++ after), length-append d after, length-take-le i t))

  cut_first : (pieces : List (List ℕ)) → IsCut d (drop j t) pieces → IsCut d t (take i t ∷ pieces)
  cut_first pieces cut = (
    joined-cons d d (take i t) pieces cut.1 ∙ ap (λ l. take i t ++ (d ++ l)) cut.0 ∙ sym cut_there,
    AreCutAt-cons d (take i t) pieces ends_first cut.1,
  )

-- ---- `split`

ended : (xs : List Text) (s t : Split Text) → split_has_more s ≡ false → Yields (split_steps finds keeps) s xs t → xs ≡ []
ended [] s t none y = refl
ended (x ∷ xs) s t none y = absurd (false≢true (sym none ∙ sym y.1.0))

module _ (d : List ℕ) (some : 0 < length d) where
  -- one step, by what it found
  split_step : (t x rest : List ℕ) (live : Bool) (pieces : List (List ℕ)) (o : Option (ℕ × ℕ)) → FindsText d t o
      → MatchOption o ((x ≡ t) × (live ≡ false)) (λ q. 0 < q.1 → (x ≡ take q.0 t) × (live ≡ true) × (rest ≡ drop q.1 t))
      → (live ≡ false → pieces ≡ []) → (live ≡ true → IsCut d rest pieces) → IsCut d t (x ∷ pieces)
  split_step t x rest live pieces None found step stops goes =
      let one : x ∷ pieces ≡ t ∷ [] = ap (λ l. x ∷ l) (stops step.1) ∙ ap (λ p. p ∷ []) step.0 in
      subst (IsCut d t) (sym one) (last_piece d t found)
  split_step t x rest live pieces (Some q) found step stops goes =
      let ends = found.1.ends in
      let cut = step (omega arith) in
      let more = subst (λ l. IsCut d l pieces) cut.2 (goes cut.1) in
      subst (λ p. IsCut d t (p ∷ pieces)) (sym cut.0) (cut_first d t q.0 q.1 some found.0 found.1 pieces more)

  pub split_run : (xs : List Text) (s t : Split Text) → (split_pattern s).now ≡ d → split_has_more s ≡ true → Yields (split_steps finds keeps) s xs t → split_has_more t ≡ false → IsCut d (split_text s) (map (λ (x : Text). x.now) xs)
  split_run [] s t pattern more y end = absurd (false≢true (sym end ∙ ap split_has_more (sym y) ∙ more))
  split_run (x ∷ xs) s t pattern more y end =
      let next = y.0 in
      let step = y.1.1 in
      let match = step.1.1 in
      split_step (split_text s) x.now (split_text next) (split_has_more next) (map (λ (p : Text). p.now) xs) match.0
      (subst (λ n. FindsText n (split_text s) match.0) pattern match.1) match.2
      (λ none. ap (map (λ (p : Text). p.now)) (ended xs next t none y.2))
      (λ live. split_run xs next t (step.0 ∙ pattern) live y.2 end)

  -- ---- `replace`

  pub replaced_run : (n : ℕ) (to t r : List ℕ) (p : Text) → p.now ≡ d → ReplacesMatches finds keeps to n p t r → (pieces : List (List ℕ)) × IsCut d t pieces × (r ≡ joined to pieces)
  replaced_run zero to t r p pattern run = (t ∷ [], last_piece d t (subst (λ l. FindsText l t None) pattern run.0), run.1 ∙ sym (append-nil t))
  replaced_run (suc n) to t r p pattern run =
      let i = run.0 in
      let j = run.1 in
      let found = subst (λ l. FindsText l t (Some (i, j))) pattern run.4 in
      let ends = found.1.ends in
      ⊎_elim
      (λ on.
      let inner = replaced_run n to (drop j t) run.3 run.2 (run.5 ∙ pattern) on.1 in (
        take i t ∷ inner.0,
        cut_first d t i j some found.0 found.1 inner.0 inner.1,
        run.7 ∙ ap (λ l. take i t ++ (to ++ l)) inner.2 ∙ sym (joined-cons d to (take i t) inner.0 inner.1.1),
      ))
      (λ still. absurd (let same = still.0 in omega arith))
      run.6

-- ---- no pattern, and the elements of an array

pub is_some_text : (r : Bool) (d : List ℕ) → r ≡ (length d == 0) → r ≡ false → 0 < length d
is_some_text r [] is none = absurd (false≢true (sym none ∙ is))
is_some_text r (c ∷ d) is none = omega arith

pub is_no_text : (r : Bool) (d : List ℕ) → r ≡ (length d == 0) → r ≡ true → length d ≡ 0
is_no_text r d is all = eqb-true (length d) 0 (sym is ∙ all)

pub IsSplit-empty : (d t : List ℕ) → length d ≡ 0 → IsSplit t d (t ∷ [])
IsSplit-empty [] t none = refl
IsSplit-empty (c ∷ d) t none = absurd (omega arith)

pub joined-one : (d t : List ℕ) → joined d (t ∷ []) ≡ t
joined-one d t = append-nil t

pub texts-one : (parts old : List Dyn) (t : List ℕ) → parts ≡ old ++ dyn.Text t ∷ [] → old ≡ [] → parts ≡ map dyn.Text (t ∷ [])
texts-one parts old t added empty = added ∙ ap (λ l. l ++ dyn.Text t ∷ []) empty

texts-map : (xs : List Text) → map (λ (x : Text). dyn.Text x.now) xs ≡ map dyn.Text (map (λ (x : Text). x.now) xs)
texts-map [] = refl
texts-map (x ∷ xs) = ap (λ l. dyn.Text x.now ∷ l) (texts-map xs)

-- a whole run of `split`, as what was kept of it
pub split_parts : (d t : List ℕ) (parts : List Dyn) (xs : List Text) (s u : Split Text) → 0 < length d → (split_pattern s).now ≡ d → split_has_more s ≡ true → split_text s ≡ t
    → Yields (split_steps finds keeps) s xs u → split_has_more u ≡ false → parts ≡ map (λ (x : Text). dyn.Text x.now) xs
    → (pieces : List (List ℕ)) × (parts ≡ map dyn.Text pieces) × IsSplit t d pieces × (joined d pieces ≡ t)
split_parts d t parts xs s u some pattern more start run end kept =
    let pieces = map (λ (x : Text). x.now) xs in
    let cut = subst (λ l. IsCut d l pieces) start (split_run d some xs s u pattern more run end) in
    (pieces, kept ∙ texts-map xs, IsSplit-from_cut d t pieces some cut, cut.0)

pub replaced_parts : (n : ℕ) (d to t r : List ℕ) (p : Text) → 0 < length d → p.now ≡ d → ReplacesMatches finds keeps to n p t r
    → (pieces : List (List ℕ)) × IsSplit t d pieces × (r ≡ joined to pieces) × (joined d pieces ≡ t)
replaced_parts n d to t r p some pattern run =
    let parts = replaced_run d some n to t r p pattern run in
    (parts.0, IsSplit-from_cut d t parts.0 some parts.1, parts.2, parts.1.0)
