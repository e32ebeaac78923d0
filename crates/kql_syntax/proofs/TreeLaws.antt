-- Tokens are at most one tree. Two texts of one form that start at one token are the same where they end at one place, and
-- behind the shorter one stands a token that could go on with it.
use Rattle.std.proofs.Common.{ℕ, zero, suc, ◌+◌, ◌≤◌, ◌<◌, ◌≡◌, ◌⊎◌, inl, inr, Bool, true, false, ◌&&◌, not, List, [], ◌∷◌, ◌++◌, refl, sym, ap, subst, ◌∙◌, arith, true≢false}
use native.Mathlib.Decide.{dec_le}
use Rattle.std.specs.Prelude.{Option, Some, None, slice_get}
use Rattle.kql_lexer.specs.declared.token.Token.{Token}
use Rattle.kql_syntax.specs.declared.class.Class.{Class}
use Rattle.kql_syntax.specs.declared.class.Class.TheVariants as class
use Rattle.kql_syntax.specs.declared.tree.Term.{Term}
use Rattle.kql_syntax.specs.declared.tree.Term.TheVariants as term
use Rattle.kql_syntax.specs.declared.tree.Name.{Name}
use Rattle.kql_syntax.specs.declared.tree.Expr.{Expr}
use Rattle.kql_syntax.specs.declared.query.Item.{Item}
use Rattle.kql_syntax.specs.Classes.{among, apart}
use Rattle.kql_syntax.specs.Levels.{Level, may_be_empty, starts, followers, after_term, after_expr, after_item}
use Rattle.kql_syntax.specs.Trees.{Tree}
use Rattle.kql_syntax.specs.Forms.{Form, token, level, pair, either, option, many, makes, mark, before, nullable, first, extends}
use Rattle.kql_syntax.specs.Grammar.{body, literal, called, commas}
use Rattle.kql_syntax.specs.Derives.{Is, Row, Perhaps, Derivable, derives_in, Derives, Stands, IsForm}
use Rattle.kql_syntax.proofs.FormLaws.{later, derives_left, derives_right}
use Rattle.kql_syntax.proofs.NameLaws.{name_expr, name_is_expr}
use Rattle.kql_syntax.proofs.ReadingLaws.{fits_followers}
use Rattle.kql_syntax.proofs.StartLaws.{StartsSo, is_starts, starts_in, consumes, consumes_in, is_order_in, order_in, row_order, stands_left, stands_right, stands_if, stands_else, stands_among, stands_apart, and_left, and_right}

-- texts of one form
pub record One {A : Type 0} (s : List Token) (P : ℕ → ℕ → A → Type 0) (E : List Class) : Type 0 where
  pub same : (i j : ℕ) (x y : A) → P i j x → P i j y → x ≡ y
  pub goes_on : (i j k : ℕ) (x y : A) → j < k → P i j x → P i k y → Stands s j E

-- texts of two forms of one value
pub record Two {A : Type 0} (s : List Token) (P Q : ℕ → ℕ → A → Type 0) (E : List Class) : Type 0 where
  pub same : (i j : ℕ) (x y : A) → P i j x → Q i j y → x ≡ y
  pub left : (i j k : ℕ) (x y : A) → j < k → P i j x → Q i k y → Stands s j E
  pub right : (i j k : ℕ) (x y : A) → k < j → P i j x → Q i k y → Stands s k E

-- which of two places comes first
pub which : (m n : ℕ) → (m < n) ⊎ ((n < m) ⊎ (m ≡ n))
which m n = elim (dec_le (m + 1) n) [ yes h ↦ inl (omega arith) | no h ↦ elim (dec_le (n + 1) m) [ yes g ↦ inr (inl (omega arith)) | no g ↦ inr (inr (omega arith)) ] ]

one_token : (x y : Token) (o : Option Token) → o ≡ Some x → o ≡ Some y → x ≡ y
one_token x y o h g = cc

both_parts : {A B : Type 0} (x y : A × B) → x.0 ≡ y.0 → x.1 ≡ y.1 → x ≡ y
both_parts x y p q = ap (λ u. (u, x.1)) p ∙ ap (λ v. (y.0, v)) q

-- what is known of each level
pub record Sound (s : List Token) (D : Derivable) : Type 0 where
  pub order : (l : Level) (i j : ℕ) (t : Tree l) → D l i j t → i ≤ j
  pub starts : (l : Level) (i j : ℕ) (t : Tree l) → D l i j t → StartsSo s i j (may_be_empty l) (starts l)
  pub consumes : (l : Level) (i j : ℕ) (t : Tree l) → may_be_empty l ≡ false → D l i j t → i + 1 ≤ j

pub sound_in : (s : List Token) (n : ℕ) → Sound s (derives_in s n)
sound_in s n = record { order = order_in s n; starts = starts_in s n; consumes = consumes_in s n }

pub sound : (s : List Token) → Sound s (Derives s)
sound s = record {
  order = λ l i j t d. order_in s d.height l i j t d.within;
  starts = λ l i j t d. starts_in s d.height l i j t d.within;
  consumes = λ l i j t e d. consumes_in s d.height l i j t e d.within;
}

pub wider : {A : Type 0} {s : List Token} {P : ℕ → ℕ → A → Type 0} (E F : List Class) → among E F ≡ true → One s P E → One s P F
wider {s = s} E F d o = record { same = o.same; goes_on = λ i j k x y q h g. stands_among s j E F d (o.goes_on i j k x y q h g) }

beside_left : {A : Type 0} {s : List Token} {P : ℕ → ℕ → A → Type 0} (E F : List Class) → One s P E → One s P (E ++ F)
beside_left {s = s} E F o = record { same = o.same; goes_on = λ i j k x y q h g. stands_left s j E F (o.goes_on i j k x y q h g) }

beside_right : {A : Type 0} {s : List Token} {P : ℕ → ℕ → A → Type 0} (E F : List Class) → One s P F → One s P (E ++ F)
beside_right {s = s} E F o = record { same = o.same; goes_on = λ i j k x y q h g. stands_right s j E F (o.goes_on i j k x y q h g) }

module _ (s : List Token) (D : Derivable) (ok : Sound s D) where
  order : {A : Type 0} (a : Form A) (i j : ℕ) (x : A) → Is s D a i j x → i ≤ j
  order a i j x h = is_order_in s D ok.order a i j x h

  begin : {A : Type 0} (a : Form A) (i j : ℕ) (x : A) → Is s D a i j x → StartsSo s i j (nullable a) (first a)
  begin a i j x h = is_starts s D ok.starts a i j x h

  takes : {A : Type 0} (a : Form A) (i j : ℕ) (x : A) → nullable a ≡ false → Is s D a i j x → i < j
  takes a i j x e h = let u : i + 1 ≤ j = consumes s D ok.order ok.consumes a i j x e h in omega arith

  begins_so : {A : Type 0} (a : Form A) (i j : ℕ) (x : A) → nullable a ≡ false → Is s D a i j x → Stands s i (first a)
  begins_so a i j x e h = elim (begin a i j x h) [ inl q ↦ absurd (true≢false (sym q.1 ∙ e)) | inr q ↦ q ]

  token_one : (cs : List Class) → One s (Is s D (token cs)) []
  unfolding Is
  token_one cs = record { same = λ i j x y h g. one_token x y (slice_get s i) h.0 g.0; goes_on = λ i j k x y o h g. absurd (omega (arith, h.2, g.2)) }

  -- where a second part starts too early, it is empty
  early : {A B : Type 0} (a : Form A) (b : Form B) → One s (Is s D a) (extends a) → apart (extends a) (first b) ≡ true → (i m n j : ℕ) (x y : A) (z : B) → m < n → Is s D a i m x → Is s D a i n y → Is s D b m j z → (j ≡ m) × (nullable b ≡ true) × Stands s m (extends a)
  early a b f d i m n j x y z o h g e =
      let t = f.goes_on i m n x y o h g in
      elim (begin b m j z e) [ inl q ↦ (q.0, q.1, t) | inr q ↦ absurd (stands_apart s m (extends a) (first b) d t q) ]

  module _ {A B : Type 0} (a : Form A) (b : Form B) (f : One s (Is s D a) (extends a)) (g : One s (Is s D b) (extends b)) (d : apart (extends a) (first b) ≡ true) where
    pair_same : (i j : ℕ) (x y : A × B) → Is s D (pair a b) i j x → Is s D (pair a b) i j y → x ≡ y
    unfolding Is
    pair_same i j x y p q = elim (which p.0 q.0) [
      | inl o ↦ (let e = early a b f d i p.0 q.0 j x.0 y.0 x.1 o p.1 q.1 p.2 in let u : q.0 ≤ j = order b q.0 j y.1 q.2 in absurd (omega (arith, e.0)))
      | inr r ↦ elim r [
        | inl o ↦ (let e = early a b f d i q.0 p.0 j y.0 x.0 y.1 o q.1 p.1 q.2 in let u : p.0 ≤ j = order b p.0 j x.1 p.2 in absurd (omega (arith, e.0)))
        | inr e ↦ both_parts x y
            (f.same i q.0 x.0 y.0 (subst (λ (m : ℕ). Is s D a i m x.0) e p.1) q.1)
            (g.same q.0 j x.1 y.1 (subst (λ (m : ℕ). Is s D b m j x.1) e p.2) q.2)
      ]
    ]

    pair_goes_on : (i j k : ℕ) (x y : A × B) → j < k → Is s D (pair a b) i j x → Is s D (pair a b) i k y → Stands s j (extends (pair a b))
    unfolding Is
    pair_goes_on i j k x y o p q = elim (which p.0 q.0) [
      | inl l ↦ (let e = early a b f d i p.0 q.0 j x.0 y.0 x.1 l p.1 q.1 p.2 in stands_if s j (extends b) (extends a) (nullable b) e.1 (subst (λ (m : ℕ). Stands s m (extends a)) (sym e.0) e.2))
      | inr r ↦ elim r [
        | inl l ↦ (let e = early a b f d i q.0 p.0 k y.0 x.0 y.1 l q.1 p.1 q.2 in let u : p.0 ≤ j = order b p.0 j x.1 p.2 in absurd (omega (arith, e.0)))
        | inr e ↦ stands_else s j (extends b) (extends a) (nullable b) (g.goes_on q.0 j k x.1 y.1 o (subst (λ (m : ℕ). Is s D b m j x.1) e p.2) q.2)
      ]
    ]

  pub pair_one : {A B : Type 0} (a : Form A) (b : Form B) → One s (Is s D a) (extends a) → One s (Is s D b) (extends b) → apart (extends a) (first b) ≡ true → One s (Is s D (pair a b)) (extends (pair a b))
  pair_one a b f g d = record { same = pair_same a b f g d; goes_on = pair_goes_on a b f g d }

  module _ {A : Type 0} (E : List Class) (a b : Form A) (f : One s (Is s D a) E) (g : One s (Is s D b) E) (t : Two s (Is s D a) (Is s D b) E) where
    either_same : (i j : ℕ) (x y : A) → Is s D (either a b) i j x → Is s D (either a b) i j y → x ≡ y
    unfolding Is
    either_same i j x y p q = elim p [
      | inl u ↦ elim q [ inl v ↦ f.same i j x y u v | inr v ↦ t.same i j x y u v ]
      | inr u ↦ elim q [ inl v ↦ sym (t.same i j y x v u) | inr v ↦ g.same i j x y u v ]
    ]

    either_goes_on : (i j k : ℕ) (x y : A) → j < k → Is s D (either a b) i j x → Is s D (either a b) i k y → Stands s j E
    unfolding Is
    either_goes_on i j k x y o p q = elim p [
      | inl u ↦ elim q [ inl v ↦ f.goes_on i j k x y o u v | inr v ↦ t.left i j k x y o u v ]
      | inr u ↦ elim q [ inl v ↦ t.right i k j y x o v u | inr v ↦ g.goes_on i j k x y o u v ]
    ]

  pub either_one : {A : Type 0} (E : List Class) (a b : Form A) → One s (Is s D a) E → One s (Is s D b) E → Two s (Is s D a) (Is s D b) E → One s (Is s D (either a b)) E
  either_one E a b f g t = record { same = either_same E a b f g t; goes_on = either_goes_on E a b f g t }

  -- two forms that start otherwise
  pub starts_two : {A : Type 0} (E : List Class) (a b : Form A) → apart (first a) (first b) ≡ true → nullable a ≡ false → nullable b ≡ false → Two s (Is s D a) (Is s D b) E
  starts_two {A = A} E a b d e n = record { same = λ i j x y p q. absurd (never i j j x y p q); left = λ i j k x y o p q. absurd (never i j k x y p q); right = λ i j k x y o p q. absurd (never i j k x y p q) }
    where
      never : (i j k : ℕ) (x y : A) → Is s D a i j x → Is s D b i k y → ⊥
      never i j k x y p q = stands_apart s i (first a) (first b) d (begins_so a i j x e p) (begins_so b i k y n q)

  -- one form beside two
  pub either_two : {A : Type 0} (E : List Class) (a b c : Form A) → Two s (Is s D a) (Is s D b) E → Two s (Is s D a) (Is s D c) E → Two s (Is s D a) (Is s D (either b c)) E
  unfolding Is
  either_two E a b c f g = record {
    same = λ i j x y p q. elim q [ inl u ↦ f.same i j x y p u | inr u ↦ g.same i j x y p u ];
    left = λ i j k x y o p q. elim q [ inl u ↦ f.left i j k x y o p u | inr u ↦ g.left i j k x y o p u ];
    right = λ i j k x y o p q. elim q [ inl u ↦ f.right i j k x y o p u | inr u ↦ g.right i j k x y o p u ];
  }

  module _ {A : Type 0} (a : Form A) (f : One s (Is s D a) (extends a)) (e : nullable a ≡ false) where
    option_same : (i j : ℕ) (x y : Option A) → Perhaps (Is s D a) i j x → Perhaps (Is s D a) i j y → x ≡ y
    option_same i j None None p q = refl
    option_same i j None (Some y) p q = let o : i < j = takes a i j y e q in absurd (omega (arith, p))
    option_same i j (Some x) None p q = let o : i < j = takes a i j x e p in absurd (omega (arith, q))
    option_same i j (Some x) (Some y) p q = ap (λ z. Some z) (f.same i j x y p q)

    option_goes_on : (i j k : ℕ) (x y : Option A) → j < k → Perhaps (Is s D a) i j x → Perhaps (Is s D a) i k y → Stands s j (first a ++ extends a)
    option_goes_on i j k None None o p q = absurd (omega (arith, p, q))
    option_goes_on i j k None (Some y) o p q = stands_left s j (first a) (extends a) (subst (λ (m : ℕ). Stands s m (first a)) (sym p) (begins_so a i k y e q))
    option_goes_on i j k (Some x) None o p q = let l : i < j = takes a i j x e p in absurd (omega (arith, q))
    option_goes_on i j k (Some x) (Some y) o p q = stands_right s j (first a) (extends a) (f.goes_on i j k x y o p q)

  pub option_one : {A : Type 0} (a : Form A) → One s (Is s D a) (extends a) → nullable a ≡ false → One s (Is s D (option a)) (first a ++ extends a)
  unfolding Is
  option_one a f e = record { same = option_same a f e; goes_on = option_goes_on a f e }

  module _ {A : Type 0} (a : Form A) (f : One s (Is s D a) (extends a)) (e : nullable a ≡ false) (d : apart (extends a) (first a) ≡ true) where
    rest_order : (i j : ℕ) (xs : List A) → Row (Is s D a) i j xs → i ≤ j
    rest_order i j xs h = row_order (Is s D a) (order a) i j xs h

    rest_starts : (i j : ℕ) (x : A) (xs : List A) → Row (Is s D a) i j (x ∷ xs) → Stands s i (first a)
    rest_starts i j x xs h = begins_so a i h.0 x e h.1

    -- where the second of two rows goes on from a later place, the first one ends
    ends_early : (i m n j : ℕ) (x y : A) (xs : List A) → m < n → Is s D a i m x → Is s D a i n y → Row (Is s D a) m j xs → (j ≡ m) × Stands s m (extends a)
    ends_early i m n j x y [] o p q r = (r, f.goes_on i m n x y o p q)
    ends_early i m n j x y (z ∷ zs) o p q r = absurd (stands_apart s m (extends a) (first a) d (f.goes_on i m n x y o p q) (rest_starts m j z zs r))

    row_same : (i j : ℕ) (xs ys : List A) → Row (Is s D a) i j xs → Row (Is s D a) i j ys → xs ≡ ys
    row_same i j [] [] p q = refl
    row_same i j [] (y ∷ ys) p q = let o : i < q.0 = takes a i q.0 y e q.1 in let u : q.0 ≤ j = rest_order q.0 j ys q.2 in absurd (omega (arith, p))
    row_same i j (x ∷ xs) [] p q = let o : i < p.0 = takes a i p.0 x e p.1 in let u : p.0 ≤ j = rest_order p.0 j xs p.2 in absurd (omega (arith, q))
    row_same i j (x ∷ xs) (y ∷ ys) p q = elim (which p.0 q.0) [
      | inl o ↦ (let r = ends_early i p.0 q.0 j x y xs o p.1 q.1 p.2 in let u : q.0 ≤ j = rest_order q.0 j ys q.2 in absurd (omega (arith, r.0)))
      | inr r ↦ elim r [
        | inl o ↦ (let r = ends_early i q.0 p.0 j y x ys o q.1 p.1 q.2 in let u : p.0 ≤ j = rest_order p.0 j xs p.2 in absurd (omega (arith, r.0)))
        | inr t ↦
            let head : x ≡ y = f.same i q.0 x y (subst (λ (m : ℕ). Is s D a i m x) t p.1) q.1 in
            let tail : xs ≡ ys = row_same q.0 j xs ys (subst (λ (m : ℕ). Row (Is s D a) m j xs) t p.2) q.2 in
            ap (λ z. z ∷ xs) head ∙ ap (λ zs. y ∷ zs) tail
      ]
    ]

    row_goes_on : (i j k : ℕ) (xs ys : List A) → j < k → Row (Is s D a) i j xs → Row (Is s D a) i k ys → Stands s j (first a ++ extends a)
    row_goes_on i j k [] [] o p q = absurd (omega (arith, p, q))
    row_goes_on i j k [] (y ∷ ys) o p q = stands_left s j (first a) (extends a) (subst (λ (m : ℕ). Stands s m (first a)) (sym p) (rest_starts i k y ys q))
    row_goes_on i j k (x ∷ xs) [] o p q = let l : i < p.0 = takes a i p.0 x e p.1 in let u : p.0 ≤ j = rest_order p.0 j xs p.2 in absurd (omega (arith, q))
    row_goes_on i j k (x ∷ xs) (y ∷ ys) o p q = elim (which p.0 q.0) [
      | inl l ↦ (let r = ends_early i p.0 q.0 j x y xs l p.1 q.1 p.2 in stands_right s j (first a) (extends a) (subst (λ (m : ℕ). Stands s m (extends a)) (sym r.0) r.1))
      | inr r ↦ elim r [
        | inl l ↦ (let r = ends_early i q.0 p.0 k y x ys l q.1 p.1 q.2 in let u : p.0 ≤ j = rest_order p.0 j xs p.2 in absurd (omega (arith, r.0)))
        | inr t ↦ row_goes_on q.0 j k xs ys o (subst (λ (m : ℕ). Row (Is s D a) m j xs) t p.2) q.2
      ]
    ]

  pub many_one : {A : Type 0} (a : Form A) → One s (Is s D a) (extends a) → nullable a ≡ false → apart (extends a) (first a) ≡ true → One s (Is s D (many a)) (first a ++ extends a)
  unfolding Is
  many_one a f e d = record { same = row_same a f e d; goes_on = row_goes_on a f e d }

  pub makes_one : {A B : Type 0} (g : A → B) (E : List Class) (a : Form A) → One s (Is s D a) E → One s (Is s D (makes g a)) E
  unfolding Is
  makes_one g E a f = record {
    same = λ i j x y p q. p.2 ∙ ap g (f.same i j p.0 q.0 p.1 q.1) ∙ sym q.2;
    goes_on = λ i j k x y o p q. f.goes_on i j k p.0 q.0 o p.1 q.1;
  }

-- what makes a form one, but for its levels: parts that do not run into one another, and alternatives that start otherwise
abbrev pub clear : (Level → Bool) → {A : Type 0} → Form A → Bool
clear L (token cs) = true
clear L (level l) = L l
clear L (pair a b) = clear L a && (clear L b && apart (extends a) (first b))
clear L (either a b) = clear L a && (clear L b && (apart (first a) (first b) && (not (nullable a) && not (nullable b))))
clear L (option a) = clear L a && not (nullable a)
clear L (many a) = clear L a && (not (nullable a) && apart (extends a) (first a))
clear L (makes f a) = clear L a

of_not : (a : Bool) → not a ≡ true → a ≡ false
of_not true h = absurd (true≢false (sym h))
of_not false h = refl

module _ (s : List Token) (D : Derivable) (ok : Sound s D) (L : Level → Bool) (ones : (l : Level) → L l ≡ true → One s (D l) (followers l)) where
  pub form_one : {A : Type 0} (a : Form A) → clear L a ≡ true → One s (Is s D a) (extends a)
  unfolding Is
  form_one (token cs) h = token_one s D ok cs
  form_one (level l) h = ones l h
  form_one (pair a b) h =
      let r = and_right _ _ h in
      pair_one s D ok a b (form_one a (and_left _ _ h)) (form_one b (and_left _ _ r)) (and_right _ _ r)
  form_one (either a b) h =
      let r = and_right _ _ h in
      let d = and_right _ _ r in
      let n = and_right _ _ d in
      either_one s D ok (extends a ++ extends b) a b
      (beside_left (extends a) (extends b) (form_one a (and_left _ _ h)))
      (beside_right (extends a) (extends b) (form_one b (and_left _ _ r)))
      (starts_two s D ok (extends a ++ extends b) a b (and_left _ _ d) (of_not _ (and_left _ _ n)) (of_not _ (and_right _ _ n)))
  form_one (option a) h = option_one s D ok a (form_one a (and_left _ _ h)) (of_not _ (and_right _ _ h))
  form_one (many a) h =
      let r = and_right _ _ h in
      many_one s D ok a (form_one a (and_left _ _ h)) (of_not _ (and_left _ _ r)) (and_right _ _ r)
  form_one (makes f a) h = makes_one s D ok f (extends a) a (form_one a h)

  -- the body of a level
  pub body_one : (l : Level) → clear L (body l) ≡ true → One s (Is s D (body l)) (followers l)
  body_one l h = wider (extends (body l)) (followers l) (fits_followers l) (form_one (body l) h)

-- the levels of expressions
abbrev pub is_expression : Level → Bool
is_expression Level.Item = false
is_expression Level.TableArg = false
is_expression Level.Source = false
is_expression Level.Pipe = false
is_expression Level.Op = false
is_expression _ = true

abbrev pub any_level : Level → Bool
any_level _ = true

-- the alternatives of a term behind a name
abbrev group : Form Term
group = makes (λ p. term.Group p.0 p.1) (pair (mark (class.Open ∷ [])) (before (level Level.Expr) (class.Close ∷ [])))

abbrev named : Form Term
named = makes term.Name (level Level.Name)

-- a name of one token, where a word stands that is one
name_short : (s : List Token) (i j n : ℕ) (t : Name) → Stands s i (class.Name ∷ []) → derives_in s n Level.Name i j t → j ≡ i + 1
unfolding derives_in Is
name_short s i j zero t w h = absurd h
name_short s i j (suc n) t w h = elim h [
  | inl p ↦ p.1.1.2
  | inr p ↦ (let q = p.1.1 in absurd (stands_apart s i (class.Name ∷ []) (class.OpenSquare ∷ []) refl w (record { it = q.0; at = q.1.0; of = q.1.1 })))
]

-- what a call has
record Call (s : List Token) (i k : ℕ) : Type 0 where
  word : Stands s i (class.Name ∷ [])
  bracket : Stands s (i + 1) (class.Open ∷ [])
  longer : i + 1 < k

call_has : (s : List Token) (n i k : ℕ) (t : Term) → Is s (derives_in s n) called i k t → Call s i k
unfolding Is
call_has s n i k t h =
    let word = h.1.1 in
    let rest = h.1.2.1.1 in
    let bracket = rest.1 in
    let next : h.1.0 ≡ i + 1 = word.1.2 in
    let past : rest.0 ≡ h.1.0 + 1 = bracket.1.2 in
    let end : rest.0 ≤ k = order s (derives_in s n) (sound_in s n) (before (option (commas (level Level.Arg))) (class.Close ∷ [])) rest.0 k h.1.2.1.0.1 rest.2 in
    record {
      word = record { it = word.0; at = word.1.0; of = word.1.1 };
      bracket = subst (λ (m : ℕ). Stands s m (class.Open ∷ [])) next (record { it = bracket.0; at = bracket.1.0; of = bracket.1.1 });
      longer = omega arith;
    }

name_or_call : (s : List Token) (n : ℕ) → Two s (Is s (derives_in s n) named) (Is s (derives_in s n) called) after_term
unfolding Is
name_or_call s n = record {
  same = λ i j x y p q. (let c = call_has s n i j y q in let e = name_short s i j n p.0 c.word p.1 in let l = c.longer in absurd (omega arith));
  left = λ i j k x y o p q. (let c = call_has s n i k y q in let e = name_short s i j n p.0 c.word p.1 in subst (λ (m : ℕ). Stands s m (class.Open ∷ [])) (sym e) c.bracket);
  right = λ i j k x y o p q. (let c = call_has s n i k y q in let e = name_short s i j n p.0 c.word p.1 in let l = c.longer in absurd (omega arith));
}

abbrev lit : Form Term
lit = makes term.Literal literal

module _ (s : List Token) (n : ℕ) (ones : (l : Level) → is_expression l ≡ true → One s (derives_in s n l) (followers l)) where
  term_part : (a : Form Term) → clear is_expression a ≡ true → among (extends a) after_term ≡ true → One s (Is s (derives_in s n) a) after_term
  term_part a h d = wider (extends a) after_term d (form_one s (derives_in s n) (sound_in s n) is_expression ones a h)

  term_two : (a b : Form Term) → apart (first a) (first b) ≡ true → nullable a ≡ false → nullable b ≡ false → Two s (Is s (derives_in s n) a) (Is s (derives_in s n) b) after_term
  term_two a b d e f = starts_two s (derives_in s n) (sound_in s n) after_term a b d e f

  named_or : One s (Is s (derives_in s n) (either named (either called group))) after_term
  named_or = either_one s (derives_in s n) (sound_in s n) after_term named (either called group) (term_part named refl refl) (term_part (either called group) refl refl) (either_two s (derives_in s n) (sound_in s n) after_term named called group (name_or_call s n) (term_two named group refl refl refl))

  term_one : One s (Is s (derives_in s n) (body Level.Term)) after_term
  term_one = either_one s (derives_in s n) (sound_in s n) after_term lit (either named (either called group)) (term_part lit refl refl) named_or (term_two lit (either named (either called group)) refl refl refl)

  clear_one : (l : Level) → clear is_expression (body l) ≡ true → One s (Is s (derives_in s n) (body l)) (followers l)
  clear_one l h = body_one s (derives_in s n) (sound_in s n) is_expression ones l h

  expression_body : (l : Level) → is_expression l ≡ true → One s (Is s (derives_in s n) (body l)) (followers l)
  expression_body Level.Expr e = clear_one Level.Expr refl
  expression_body Level.And e = clear_one Level.And refl
  expression_body Level.Cmp e = clear_one Level.Cmp refl
  expression_body Level.Sum e = clear_one Level.Sum refl
  expression_body Level.Prod e = clear_one Level.Prod refl
  expression_body Level.Sign e = clear_one Level.Sign refl
  expression_body Level.Post e = clear_one Level.Post refl
  expression_body Level.Access e = clear_one Level.Access refl
  expression_body Level.Term e = term_one
  expression_body Level.Arg e = clear_one Level.Arg refl
  expression_body Level.Name e = clear_one Level.Name refl
  expression_body Level.Item e = absurd (true≢false (sym e))
  expression_body Level.TableArg e = absurd (true≢false (sym e))
  expression_body Level.Source e = absurd (true≢false (sym e))
  expression_body Level.Pipe e = absurd (true≢false (sym e))
  expression_body Level.Op e = absurd (true≢false (sym e))

expression_one : (s : List Token) (n : ℕ) (l : Level) → is_expression l ≡ true → One s (derives_in s n l) (followers l)
unfolding derives_in
expression_one s zero l e = record { same = λ i j x y h g. absurd h; goes_on = λ i j k x y o h g. absurd h }
expression_one s (suc n) l e = expression_body s n (expression_one s n) l e

-- two derivations have one height, the greater
together : (s : List Token) (l : Level) → ((n : ℕ) → One s (derives_in s n l) (followers l)) → One s (Derives s l) (followers l)
together s l f = record {
  same = λ i j x y d e. (f (later d.height e.height)).same i j x y (derives_left s d.height e.height l i j x d.within) (derives_right s d.height e.height l i j y e.within);
  goes_on = λ i j k x y o d e. (f (later d.height e.height)).goes_on i j k x y o (derives_left s d.height e.height l i j x d.within) (derives_right s d.height e.height l i k y e.within);
}

pub expressions_one : (s : List Token) → One s (Derives s Level.Expr) after_expr
expressions_one s = together s Level.Expr (λ n. expression_one s n Level.Expr refl)

-- a name that a token of these classes follows is no part of a longer expression
pub name_stops : (s : List Token) (i m k : ℕ) (n : Name) (e : Expr) (cs : List Class) → apart after_expr cs ≡ true → m < k → Derives s Level.Name i m n → Stands s m cs → Derives s Level.Expr i k e → ⊥
unfolding Is
name_stops s i m k n e cs d o name t h = stands_apart s m after_expr cs d ((expressions_one s).goes_on i m k (name_expr n) e o (name_is_expr s i m n name) h) t

-- an expression and a name
pub beside_name : (s : List Token) (i m k : ℕ) (n : Name) (e : Expr) → k < m → Derives s Level.Name i m n → Derives s Level.Expr i k e → Stands s k after_expr
unfolding Is
beside_name s i m k n e o name h = (expressions_one s).goes_on i k m e (name_expr n) o h (name_is_expr s i m n name)

-- the alternatives of an item
abbrev given : Form Item
given = makes (λ p. record { name = Some p.0; value = p.1 }) (pair (before (level Level.Name) (class.Assign ∷ [])) (level Level.Expr))

abbrev plain : Form Item
plain = makes (λ e. record { name = None; value = e }) (level Level.Expr)

-- what an item with a name has
record Assigned (s : List Token) (i j : ℕ) : Type 0 where
  middle : ℕ
  it : Name
  name : Derives s Level.Name i middle it
  sign : Stands s middle (class.Assign ∷ [])
  longer : middle < j

higher : (s : List Token) (n : ℕ) (l : Level) (i j : ℕ) (t : Tree l) → derives_in s n l i j t → Derives s l i j t
higher s n l i j t h = record { height = n; within = h }

given_has : (s : List Token) (n i j : ℕ) (x : Item) → Is s (derives_in s n) given i j x → Assigned s i j
unfolding Is
given_has s n i j x h =
    let front = h.1.1 in
    let sign = front.1.2 in
    let next : h.1.0 ≡ front.1.0 + 1 = sign.1.2 in
    let end : h.1.0 ≤ j = order_in s n Level.Expr h.1.0 j h.0.1 h.1.2 in
    record {
      middle = front.1.0;
      it = front.0.0;
      name = higher s n Level.Name i front.1.0 front.0.0 front.1.1;
      sign = record { it = sign.0; at = sign.1.0; of = sign.1.1 };
      longer = omega arith;
    }

module _ (s : List Token) (n i j k : ℕ) (x y : Item) (p : Is s (derives_in s n) given i j x) (q : Is s (derives_in s n) plain i k y) where
  no_longer : j ≤ k → ⊥
  unfolding Is
  no_longer o = let c = given_has s n i j x p in let l = c.longer in name_stops s i c.middle k c.it q.0 (class.Assign ∷ []) refl (omega arith) c.name c.sign (higher s n Level.Expr i k q.0 q.1)

  plain_first : Stands s k after_item
  unfolding Is
  plain_first =
      let c = given_has s n i j x p in
      let e = higher s n Level.Expr i k q.0 q.1 in
      elim (which c.middle k) [
        | inl o ↦ absurd (name_stops s i c.middle k c.it q.0 (class.Assign ∷ []) refl o c.name c.sign e)
        | inr r ↦ elim r [
          | inl o ↦ stands_among s k after_expr after_item refl (beside_name s i c.middle k c.it q.0 o c.name e)
          | inr t ↦ stands_among s k (class.Assign ∷ []) after_item refl (subst (λ (m : ℕ). Stands s m (class.Assign ∷ [])) t c.sign)
        ]
      ]

given_or_plain : (s : List Token) (n : ℕ) → Two s (Is s (derives_in s n) given) (Is s (derives_in s n) plain) after_item
given_or_plain s n = record {
  same = λ i j x y p q. absurd (no_longer s n i j j x y p q (omega arith));
  left = λ i j k x y o p q. absurd (no_longer s n i j k x y p q (omega arith));
  right = λ i j k x y o p q. plain_first s n i j k x y p q;
}

module _ (s : List Token) (n : ℕ) (ones : (l : Level) → One s (derives_in s n l) (followers l)) where
  item_part : (a : Form Item) → clear any_level a ≡ true → among (extends a) after_item ≡ true → One s (Is s (derives_in s n) a) after_item
  item_part a h d = wider (extends a) after_item d (form_one s (derives_in s n) (sound_in s n) any_level (λ l e. ones l) a h)

  item_one : One s (Is s (derives_in s n) (body Level.Item)) after_item
  item_one = either_one s (derives_in s n) (sound_in s n) after_item given plain (item_part given refl refl) (item_part plain refl refl) (given_or_plain s n)

  of_expression : (l : Level) → is_expression l ≡ true → One s (Is s (derives_in s n) (body l)) (followers l)
  of_expression l e = expression_body s n (λ m f. ones m) l e

  of_clear : (l : Level) → clear any_level (body l) ≡ true → One s (Is s (derives_in s n) (body l)) (followers l)
  of_clear l h = body_one s (derives_in s n) (sound_in s n) any_level (λ m e. ones m) l h

  level_body : (l : Level) → One s (Is s (derives_in s n) (body l)) (followers l)
  level_body Level.Item = item_one
  level_body Level.TableArg = of_clear Level.TableArg refl
  level_body Level.Source = of_clear Level.Source refl
  level_body Level.Pipe = of_clear Level.Pipe refl
  level_body Level.Op = of_clear Level.Op refl
  level_body Level.Expr = of_expression Level.Expr refl
  level_body Level.And = of_expression Level.And refl
  level_body Level.Cmp = of_expression Level.Cmp refl
  level_body Level.Sum = of_expression Level.Sum refl
  level_body Level.Prod = of_expression Level.Prod refl
  level_body Level.Sign = of_expression Level.Sign refl
  level_body Level.Post = of_expression Level.Post refl
  level_body Level.Access = of_expression Level.Access refl
  level_body Level.Term = of_expression Level.Term refl
  level_body Level.Arg = of_expression Level.Arg refl
  level_body Level.Name = of_expression Level.Name refl

level_one : (s : List Token) (n : ℕ) (l : Level) → One s (derives_in s n l) (followers l)
unfolding derives_in
level_one s zero l = record { same = λ i j x y h g. absurd h; goes_on = λ i j k x y o h g. absurd h }
level_one s (suc n) l = level_body s n (level_one s n) l

-- tokens are at most one tree of a level
pub levels_one : (s : List Token) (l : Level) → One s (Derives s l) (followers l)
levels_one s l = together s l (λ n. level_one s n l)

pub one_tree : (s : List Token) (l : Level) (i j : ℕ) (t u : Tree l) → Derives s l i j t → Derives s l i j u → t ≡ u
one_tree s l i j t u d e = (levels_one s l).same i j t u d e

-- and of a form of levels
pub forms_one : (s : List Token) {A : Type 0} (a : Form A) → clear any_level a ≡ true → One s (IsForm s a) (extends a)
forms_one s a h = form_one s (Derives s) (sound s) any_level (λ l e. levels_one s l) a h
