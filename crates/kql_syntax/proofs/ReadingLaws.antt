-- What is found of a form, from what is found of its parts.
use Rattle.std.proofs.Common.{◌<◌, ℕ, ◌+◌, ◌≤◌, ◌≡◌, ◌⊎◌, inl, inr, Bool, true, false, List, [], ◌∷◌, ◌++◌, append_assoc, append-nil, refl, sym, subst, ◌∙◌, arith, true≢false, le_trans}
use native.Mathlib.Decide.{dec_le}
use Rattle.std.specs.Prelude.{Option, Some, None, Result, Ok, Err, IsErrAnd, slice_get}
use Rattle.kql_lexer.specs.declared.place.Place.{Place}
use Rattle.kql_lexer.specs.declared.token.Token.{Token}
use Rattle.kql_syntax.specs.declared.class.Class.{Class}
use Rattle.kql_syntax.specs.Classes.{has, among, apart}
use Rattle.kql_syntax.specs.Levels.{Level, followers}
use Rattle.kql_syntax.specs.Trees.{Tree}
use Rattle.kql_syntax.specs.Forms.{Form, token, level, pair, mark, after, before, either, option, many, makes, first, nullable, extends, listed, some}
use Rattle.kql_syntax.specs.Grammar.{body}
use Rattle.kql_syntax.specs.Derives.{Is, Begins, Row, Stands, Missing, IsForm, BeginsForm, Found, Refused}
use Rattle.kql_syntax.specs.Reading.{Fails, Reads}
use Rattle.kql_syntax.specs.declared.reader.Fault.{Fault}
use Rattle.kql_syntax.specs.declared.reader.Fault.TheVariants as fault
use Rattle.kql_syntax.proofs.FormLaws.{is_of_begins, begins_empty, opens, closes, begins_opens, begins_closes}
use Rattle.kql_syntax.proofs.StartLaws.{stands_left, stands_right, stands_if, stands_else, stands_among as stands_within, stands_apart, stands_cases, form_starts, form_begins, form_order, form_consumes}

pub fits_followers : (l : Level) → among (extends (body l)) (followers l) ≡ true
fits_followers Level.Expr = refl
fits_followers Level.And = refl
fits_followers Level.Cmp = refl
fits_followers Level.Sum = refl
fits_followers Level.Prod = refl
fits_followers Level.Sign = refl
fits_followers Level.Post = refl
fits_followers Level.Access = refl
fits_followers Level.Term = refl
fits_followers Level.Arg = refl
fits_followers Level.Name = refl
fits_followers Level.Item = refl
fits_followers Level.TableArg = refl
fits_followers Level.Source = refl
fits_followers Level.Pipe = refl
fits_followers Level.Op = refl

-- as many of the form as stand from i to k; what is read from k goes on with them
pub record Ahead {A : Type 0} (a : Form A) (s : List Token) (i k : ℕ) (xs : List A) : Type 0 where
  pub found : (end : ℕ) (ys : List A) → Found (many a) s k end ys → Found (many a) s i end (xs ++ ys)
  pub refused : (end : ℕ) → Refused (many a) s k end → Refused (many a) s i end

-- a list as far as k
pub record Listing {A : Type 0} (cs : List Class) (a : Form A) (s : List Token) (i k : ℕ) (xs : List A) : Type 0 where
  pub found : (end : ℕ) (ys : List A) → Found (many (after cs a)) s k end ys → Found (listed cs a) s i end (xs ++ ys)
  pub refused : (end : ℕ) → Refused (many (after cs a)) s k end → Refused (listed cs a) s i end

-- one or more of the form as far as k
pub record SomeOf {A : Type 0} (a : Form A) (s : List Token) (i k : ℕ) (xs : List A) : Type 0 where
  pub found : (end : ℕ) (ys : List A) → Found (many a) s k end ys → Found (some a) s i end (xs ++ ys)
  pub refused : (end : ℕ) → Refused (many a) s k end → Refused (some a) s i end

-- found and refused, with the classes that can follow a shorter text
pub record FoundIn {A : Type 0} (E : List Class) (a : Form A) (s : List Token) (i end : ℕ) (x : A) : Type 0 where
  pub is : IsForm s a i end x
  pub furthest : (j : ℕ) → BeginsForm s a i j → j ≤ end
  pub others : (j : ℕ) (y : A) → IsForm s a i j y → (j ≡ end) ⊎ Stands s j E

pub record RefusedIn {A : Type 0} (E : List Class) (a : Form A) (s : List Token) (i end : ℕ) : Type 0 where
  pub begins : BeginsForm s a i end
  pub furthest : (j : ℕ) → BeginsForm s a i j → j ≤ end
  pub others : (j : ℕ) (y : A) → IsForm s a i j y → Stands s j E
  pub none : (y : A) → IsForm s a i end y → ⊥

-- what begins the form ends here at the latest, and each text of it is followed by one of the classes
pub record Under {A : Type 0} (E : List Class) (a : Form A) (s : List Token) (i end : ℕ) : Type 0 where
  pub furthest : (j : ℕ) → BeginsForm s a i j → j ≤ end
  pub others : (j : ℕ) (y : A) → IsForm s a i j y → Stands s j E
  pub none : (y : A) → IsForm s a i end y → ⊥

-- each text of the form is followed so, and the longest beginning ends here at the latest
pub record Limits {A : Type 0} (a : Form A) (s : List Token) (i end : ℕ) (P : ℕ → Type 0) : Type 0 where
  pub furthest : (j : ℕ) → BeginsForm s a i j → j ≤ end
  pub others : (j : ℕ) (y : A) → IsForm s a i j y → P j

abbrev Ends : List Token → ℕ → List Class → ℕ → Type 0
Ends s end cs j = (j ≡ end) ⊎ Stands s j cs

option_others : (s : List Token) {A : Type 0} (a : Form A) (i : ℕ) (P : ℕ → Type 0) → P i → ((j : ℕ) (y : A) → IsForm s a i j y → P j) → (j : ℕ) (y : Option A) → IsForm s (option a) i j y → P j
unfolding Is
option_others s a i P p f j None h = subst P (sym h) p
option_others s a i P p f j (Some y) h = f j y h

option_none_here : (s : List Token) {A : Type 0} (a : Form A) (i end : ℕ) → i < end → ((y : A) → IsForm s a i end y → ⊥) → (y : Option A) → IsForm s (option a) i end y → ⊥
unfolding Is
option_none_here s a i end o f None h = omega arith
option_none_here s a i end o f (Some y) h = f y h

module _ {s : List Token} where
  of_found : {A : Type 0} (a : Form A) (i end : ℕ) (x : A) → Found a s i end x → Limits a s i end (Ends s end (extends a))
  of_found a i end x f = record { furthest = f.furthest; others = f.others }

  of_refused : {A : Type 0} (a : Form A) (i end : ℕ) → Refused a s i end → Limits a s i end (λ j. Stands s j (extends a))
  of_refused a i end f = record { furthest = f.furthest; others = f.others }

  found_order : {A : Type 0} (a : Form A) (i end : ℕ) (x : A) → Found a s i end x → i ≤ end
  found_order a i end x f = form_order s a i end x f.is

  starts_so : {A : Type 0} (a : Form A) (i end : ℕ) (x : A) → nullable a ≡ false → Found a s i end x → Stands s i (first a)
  starts_so a i end x e f = elim (form_starts s a i end x f.is) [ inl d ↦ absurd (true≢false (sym d.1 ∙ e)) | inr d ↦ d ]

  -- what does not start here
  moved : {A : Type 0} (a : Form A) (i end : ℕ) → i + 1 ≤ end → Refused a s i end → Stands s i (first a)
  moved a i end o f = elim (form_begins s a i end f.begins) [ inl e ↦ absurd (omega arith) | inr e ↦ e ]

  limits_none : {A : Type 0} (a : Form A) (i end : ℕ) (P : ℕ → Type 0) → nullable a ≡ false → Missing s i (first a) → i ≤ end → Limits a s i end P
  limits_none a i end P e m o = record {
    furthest = λ j b. elim (form_begins s a i j b) [ inl d ↦ omega arith | inr d ↦ absurd (m.never d) ];
    others = λ j y d. elim (form_starts s a i j y d) [ inl q ↦ absurd (true≢false (sym q.1 ∙ e)) | inr q ↦ absurd (m.never q) ];
  }

  pub none_starts : {A : Type 0} {a : Form A} {i : ℕ} → Missing s i (first a) → nullable a ≡ false → Refused a s i i
  none_starts {a} {i} m e =
      let l : Limits a s i i (λ j. Stands s j (extends a)) = limits_none a i i (λ j. Stands s j (extends a)) e m (omega arith) in
      record { begins = begins_empty s a i; furthest = l.furthest; others = l.others; none = (limits_none a i i (λ j. ⊥) e m (omega arith)).others i }

  pub refused_after : {A : Type 0} {a : Form A} {i end : ℕ} → Refused a s i end → i ≤ end
  refused_after {a = a} {i = i} f = f.furthest i (begins_empty s a i)

  -- a token that is found ends here
  pub mark_ends : {cs : List Class} {i k : ℕ} {p : Place} → Found (mark cs) s i k p → k ≡ i + 1
  unfolding Is
  mark_ends f = f.is.1.2

  -- a token
  pub token_found : {cs : List Class} {i : ℕ} {t : Token} → slice_get s i ≡ Some t → has cs t.form ≡ true → Found (token cs) s i (i + 1) t
  unfolding Is Begins
  token_found {cs} {i} {t} g h = record {
    is = (g, h, refl);
    furthest = λ j b. elim b [ inl e ↦ omega arith | inr e ↦ omega arith ];
    others = λ j y d. inl d.2;
  }

  pub token_other : {cs : List Class} {i : ℕ} {t : Token} → slice_get s i ≡ Some t → has cs t.form ≡ false → Missing s i cs
  token_other {cs} {i} {t} e h = record { never = λ g. let same : g.it ≡ t = cc in true≢false (sym (subst (λ (u : Token). has cs u.form ≡ true) same g.of) ∙ h) }

  -- a level
  pub level_found : (l : Level) {i end : ℕ} {t : Tree l} → Found (body l) s i end t → Found (level l) s i end t
  unfolding Is Begins
  level_found l {i} {end} {t} f = record {
    is = closes s l i end t f.is;
    furthest = λ j b. f.furthest j (begins_opens s l i j b);
    others = λ j y d. elim (f.others j y (opens s l i j y d)) [ inl e ↦ inl e | inr e ↦ inr (stands_within s j (extends (body l)) (followers l) (fits_followers l) e) ];
  }

  pub level_refused : (l : Level) {i end : ℕ} → Refused (body l) s i end → Refused (level l) s i end
  unfolding Is Begins
  level_refused l {i} {end} f = record {
    begins = begins_closes s l i end f.begins;
    furthest = λ j b. f.furthest j (begins_opens s l i j b);
    others = λ j y d. stands_within s j (extends (body l)) (followers l) (fits_followers l) (f.others j y (opens s l i j y d));
    none = λ y d. f.none y (opens s l i end y d);
  }

  -- another value
  pub makes_found : {A B : Type 0} {g : A → B} {a : Form A} {i end : ℕ} {x : A} → Found a s i end x → Found (makes g a) s i end (g x)
  unfolding Is Begins
  makes_found {g} {a} {i} {end} {x} f = record { is = (x, f.is, refl); furthest = f.furthest; others = λ j y d. f.others j d.0 d.1 }

  pub makes_refused : {A B : Type 0} {g : A → B} {a : Form A} {i end : ℕ} → Refused a s i end → Refused (makes g a) s i end
  unfolding Is Begins
  makes_refused {g} {a} {i} {end} f = record { begins = f.begins; furthest = f.furthest; others = λ j y d. f.others j d.0 d.1; none = λ y d. f.none d.0 d.1 }

  -- one after another
  pair_limits : {A B : Type 0} (a : Form A) (b : Form B) (i k end : ℕ) (x : A) (P : ℕ → Type 0) → Found a s i k x → apart (extends a) (first b) ≡ true → Limits b s k end P → ((j : ℕ) → nullable b ≡ true → Stands s j (extends a) → P j) → Limits (pair a b) s i end P
  unfolding Is Begins
  pair_limits a b i k end x P f d g n = record {
    furthest = λ j h. elim h [
      | inl p ↦ (let u : j ≤ k = f.furthest j p in let v : k ≤ end = g.furthest k (begins_empty s b k) in omega arith)
      | inr p ↦ (elim (f.others p.0 p.1 p.2) [
        | inl e ↦ g.furthest j (subst (λ (m : ℕ). BeginsForm s b m j) e p.3)
        | inr e ↦ (elim (form_begins s b p.0 j p.3) [
          | inl q ↦ (let u : p.0 ≤ k = f.furthest p.0 (is_of_begins s a i p.0 p.1 p.2) in let v : k ≤ end = g.furthest k (begins_empty s b k) in omega arith)
          | inr q ↦ absurd (stands_apart s p.0 (extends a) (first b) d e q)
        ])
      ])
    ];
    others = λ j y h. elim (f.others h.0 y.0 h.1) [
      | inl e ↦ g.others j y.1 (subst (λ (m : ℕ). IsForm s b m j y.1) e h.2)
      | inr e ↦ (elim (form_starts s b h.0 j y.1 h.2) [
        | inl q ↦ n j q.1 (subst (λ (m : ℕ). Stands s m (extends a)) (sym q.0) e)
        | inr q ↦ absurd (stands_apart s h.0 (extends a) (first b) d e q)
      ])
    ];
  }

  pub pair_found : {A B : Type 0} {a : Form A} {b : Form B} {i k end : ℕ} {x : A} {y : B} → Found a s i k x → Found b s k end y → apart (extends a) (first b) ≡ true → Found (pair a b) s i end (x, y)
  unfolding Is Begins
  pair_found {a} {b} {i} {k} {end} {x} {y} f g d =
      let weak : Limits b s k end (Ends s end (extends (pair a b))) = record { furthest = g.furthest; others = λ j z h. elim (g.others j z h) [ inl e ↦ inl e | inr e ↦ inr (stands_else s j (extends b) (extends a) (nullable b) e) ] } in
      let l : Limits (pair a b) s i end (Ends s end (extends (pair a b))) = pair_limits a b i k end x (Ends s end (extends (pair a b))) f d weak (λ j e h. inr (stands_if s j (extends b) (extends a) (nullable b) e h)) in
      record { is = (k, f.is, g.is); furthest = l.furthest; others = l.others }

  pair_none : {A B : Type 0} (a : Form A) (b : Form B) (i k end : ℕ) (x : A) → Found a s i k x → apart (extends a) (first b) ≡ true → ((y : B) → IsForm s b k end y → ⊥) → k ≤ end → (y : A × B) → IsForm s (pair a b) i end y → ⊥
  unfolding Is
  pair_none a b i k end x f d g o y h = elim (f.others h.0 y.0 h.1) [
    | inl e ↦ g y.1 (subst (λ (m : ℕ). IsForm s b m end y.1) e h.2)
    | inr e ↦ (elim (form_starts s b h.0 end y.1 h.2) [
      | inl q ↦ (let u : h.0 ≤ k = f.furthest h.0 (is_of_begins s a i h.0 y.0 h.1) in
          let same : h.0 ≡ k = omega arith in
          g y.1 (subst (λ (m : ℕ). IsForm s b m end y.1) same h.2))
      | inr q ↦ stands_apart s h.0 (extends a) (first b) d e q
    ])
  ]

  pub pair_refused_late : {A B : Type 0} {a : Form A} {b : Form B} {i k end : ℕ} {x : A} → Found a s i k x → Refused b s k end → apart (extends a) (first b) ≡ true → Refused (pair a b) s i end
  unfolding Is Begins
  pair_refused_late {a} {b} {i} {k} {end} {x} f g d =
      let weak : Limits b s k end (λ j. Stands s j (extends (pair a b))) = record { furthest = g.furthest; others = λ j z h. stands_else s j (extends b) (extends a) (nullable b) (g.others j z h) } in
      let l : Limits (pair a b) s i end (λ j. Stands s j (extends (pair a b))) = pair_limits a b i k end x (λ j. Stands s j (extends (pair a b))) f d weak (λ j e h. stands_if s j (extends b) (extends a) (nullable b) e h) in
      record { begins = inr (k, x, f.is, g.begins); furthest = l.furthest; others = l.others; none = λ y h. pair_none a b i k end x f d g.none (g.furthest k (begins_empty s b k)) y h }

  pub pair_refused : {A B : Type 0} {a : Form A} {b : Form B} {i end : ℕ} → Refused a s i end → apart (extends a) (first b) ≡ true → Refused (pair a b) s i end
  unfolding Is Begins
  pair_refused {a} {b} {i} {end} f d = record {
    begins = inl f.begins;
    furthest = λ j h. elim h [
      | inl p ↦ f.furthest j p
      | inr p ↦ (elim (form_begins s b p.0 j p.3) [
        | inl q ↦ (let u : p.0 ≤ end = f.furthest p.0 (is_of_begins s a i p.0 p.1 p.2) in omega arith)
        | inr q ↦ absurd (stands_apart s p.0 (extends a) (first b) d (f.others p.0 p.1 p.2) q)
      ])
    ];
    others = λ j y h. elim (form_starts s b h.0 j y.1 h.2) [
      | inl q ↦ stands_if s j (extends b) (extends a) (nullable b) q.1 (subst (λ (m : ℕ). Stands s m (extends a)) (sym q.0) (f.others h.0 y.0 h.1))
      | inr q ↦ absurd (stands_apart s h.0 (extends a) (first b) d (f.others h.0 y.0 h.1) q)
    ];
    none = λ y h. elim (form_starts s b h.0 end y.1 h.2) [ inl q ↦ f.none y.0 (subst (λ (m : ℕ). IsForm s a i m y.0) (sym q.0) h.1) | inr q ↦ stands_apart s h.0 (extends a) (first b) d (f.others h.0 y.0 h.1) q ];
  }

  -- a token first
  pub after_found : {A : Type 0} {cs : List Class} {a : Form A} {i k end : ℕ} {t : Place} {x : A} → Found (mark cs) s i k t → Found a s k end x → Found (after cs a) s i end x
  after_found t f = makes_found (pair_found t f refl)

  pub after_refused : {A : Type 0} {cs : List Class} {a : Form A} {i k end : ℕ} {t : Place} → Found (mark cs) s i k t → Refused a s k end → Refused (after cs a) s i end
  after_refused t f = makes_refused (pair_refused_late t f refl)

  pub after_none : {A : Type 0} {cs : List Class} {a : Form A} {i end : ℕ} → Refused (mark cs) s i end → Refused (after cs a) s i end
  after_none f = makes_refused (pair_refused f refl)

  -- a token last
  pub before_found : {A : Type 0} {a : Form A} {cs : List Class} {i k end : ℕ} {x : A} {t : Place} → Found a s i k x → Found (mark cs) s k end t → apart (extends a) cs ≡ true → Found (before a cs) s i end x
  before_found f t d = makes_found (pair_found f t d)

  pub before_none : {A : Type 0} {a : Form A} {cs : List Class} {i k end : ℕ} {x : A} → Found a s i k x → Refused (mark cs) s k end → apart (extends a) cs ≡ true → Refused (before a cs) s i end
  before_none f t d = makes_refused (pair_refused_late f t d)

  pub before_refused : {A : Type 0} {a : Form A} {cs : List Class} {i end : ℕ} → Refused a s i end → apart (extends a) cs ≡ true → Refused (before a cs) s i end
  before_refused f d = makes_refused (pair_refused f d)

  -- at most once
  pub option_none : {A : Type 0} {a : Form A} {i : ℕ} → Missing s i (first a) → nullable a ≡ false → Found (option a) s i i None
  unfolding Is Begins
  option_none {a} {i} m e =
      let l : Limits a s i i (Ends s i (first a ++ extends a)) = limits_none a i i (Ends s i (first a ++ extends a)) e m (omega arith) in
      record { is = refl; furthest = l.furthest; others = option_others s a i (Ends s i (first a ++ extends a)) (inl refl) l.others }

  pub option_some : {A : Type 0} {a : Form A} {i end : ℕ} {x : A} → Found a s i end x → nullable a ≡ false → Found (option a) s i end (Some x)
  unfolding Is Begins
  option_some {a} {i} {end} {x} f e = record {
    is = f.is;
    furthest = f.furthest;
    others = option_others s a i (Ends s end (first a ++ extends a)) (inr (stands_left s i (first a) (extends a) (starts_so a i end x e f))) (λ j y h. elim (f.others j y h) [ inl d ↦ inl d | inr d ↦ inr (stands_right s j (first a) (extends a) d) ]);
  }

  pub option_refused : {A : Type 0} {a : Form A} {i end : ℕ} → i + 1 ≤ end → Refused a s i end → Refused (option a) s i end
  unfolding Is Begins
  option_refused {a = a} {i = i} {end = end} o f = record {
    begins = f.begins;
    furthest = f.furthest;
    others = option_others s a i (λ j. Stands s j (first a ++ extends a)) (stands_left s i (first a) (extends a) (moved a i end o f)) (λ j y h. stands_right s j (first a) (extends a) (f.others j y h));
    none = option_none_here s a i end (omega arith) f.none;
  }

  -- an option whose form is refused at once
  pub option_skipped : {A : Type 0} {a : Form A} {i : ℕ} → Refused a s i i → Found (option a) s i i None
  unfolding Is Begins
  option_skipped {a = a} {i = i} f = record {
    is = refl;
    furthest = f.furthest;
    others = option_others s a i (Ends s i (first a ++ extends a)) (inl refl) (λ j y h. inr (stands_right s j (first a) (extends a) (f.others j y h)));
  }

  -- either of two that start otherwise
  pub either_left : {A : Type 0} {a b : Form A} {i end : ℕ} {x : A} → Found a s i end x → Missing s i (first b) → nullable b ≡ false → Found (either a b) s i end x
  unfolding Is Begins
  either_left {a} {b} {i} {end} {x} f m e =
      let l : Limits b s i end (Ends s end (extends a ++ extends b)) = limits_none b i end (Ends s end (extends a ++ extends b)) e m (found_order a i end x f) in
      record {
        is = inl f.is;
        furthest = λ j h. elim h [ inl p ↦ f.furthest j p | inr p ↦ l.furthest j p ];
        others = λ j y h. elim h [ inl p ↦ (elim (f.others j y p) [ inl d ↦ inl d | inr d ↦ inr (stands_left s j (extends a) (extends b) d) ]) | inr p ↦ l.others j y p ];
      }

  pub either_right : {A : Type 0} {a b : Form A} {i end : ℕ} {x : A} → Found b s i end x → Missing s i (first a) → nullable a ≡ false → Found (either a b) s i end x
  unfolding Is Begins
  either_right {a} {b} {i} {end} {x} f m e =
      let l : Limits a s i end (Ends s end (extends a ++ extends b)) = limits_none a i end (Ends s end (extends a ++ extends b)) e m (found_order b i end x f) in
      record {
        is = inr f.is;
        furthest = λ j h. elim h [ inl p ↦ l.furthest j p | inr p ↦ f.furthest j p ];
        others = λ j y h. elim h [ inl p ↦ l.others j y p | inr p ↦ (elim (f.others j y p) [ inl d ↦ inl d | inr d ↦ inr (stands_right s j (extends a) (extends b) d) ]) ];
      }

  refused_order : {A : Type 0} (a : Form A) (i end : ℕ) → Refused a s i end → i ≤ end
  refused_order a i end f = f.furthest i (begins_empty s a i)

  pub either_refused_left : {A : Type 0} {a b : Form A} {i end : ℕ} → Refused a s i end → Missing s i (first b) → nullable b ≡ false → Refused (either a b) s i end
  unfolding Is Begins
  either_refused_left {a} {b} {i} {end} f m e =
      let l : Limits b s i end (λ j. Stands s j (extends a ++ extends b)) = limits_none b i end (λ j. Stands s j (extends a ++ extends b)) e m (refused_order a i end f) in
      record {
        begins = inl f.begins;
        furthest = λ j h. elim h [ inl p ↦ f.furthest j p | inr p ↦ l.furthest j p ];
        others = λ j y h. elim h [ inl p ↦ stands_left s j (extends a) (extends b) (f.others j y p) | inr p ↦ l.others j y p ];
        none = λ y h. elim h [ inl p ↦ f.none y p | inr p ↦ (limits_none b i end (λ j. ⊥) e m (refused_order a i end f)).others end y p ];
      }

  pub either_refused_right : {A : Type 0} {a b : Form A} {i end : ℕ} → Refused b s i end → Missing s i (first a) → nullable a ≡ false → Refused (either a b) s i end
  unfolding Is Begins
  either_refused_right {a} {b} {i} {end} f m e =
      let l : Limits a s i end (λ j. Stands s j (extends a ++ extends b)) = limits_none a i end (λ j. Stands s j (extends a ++ extends b)) e m (refused_order b i end f) in
      record {
        begins = inr f.begins;
        furthest = λ j h. elim h [ inl p ↦ l.furthest j p | inr p ↦ f.furthest j p ];
        others = λ j y h. elim h [ inl p ↦ l.others j y p | inr p ↦ stands_right s j (extends a) (extends b) (f.others j y p) ];
        none = λ y h. elim h [ inl p ↦ (limits_none a i end (λ j. ⊥) e m (refused_order b i end f)).others end y p | inr p ↦ f.none y p ];
      }

  -- any number of times

  pub many_stops : {A : Type 0} {a : Form A} {i : ℕ} → Missing s i (first a) → nullable a ≡ false → Found (many a) s i i []
  unfolding Is Begins
  many_stops {a} {i} m e = record { is = refl; furthest = λ j h. elim (form_begins s (many a) i j h) [ inl d ↦ omega arith | inr d ↦ absurd (m.never d) ]; others = λ j y h. elim (form_starts s (many a) i j y h) [ inl d ↦ inl d.0 | inr d ↦ absurd (m.never d) ] }

  row_others : {A : Type 0} (a : Form A) (i k : ℕ) (x : A) (P : ℕ → Type 0) → Found a s i k x → apart (extends a) (first a) ≡ true → P i → ((j : ℕ) → Stands s j (extends a) → P j) → ((j : ℕ) (ys : List A) → IsForm s (many a) k j ys → P j) → (j : ℕ) (ys : List A) → IsForm s (many a) i j ys → P j
  unfolding Is
  row_others a i k x P f d p n g j [] h = subst P (sym h) p
  row_others a i k x P f d p n g j (y ∷ ys) h = elim (f.others h.0 y h.1) [
    | inl e ↦ g j ys (subst (λ (m : ℕ). IsForm s (many a) m j ys) e h.2)
    | inr e ↦ (elim (form_starts s (many a) h.0 j ys h.2) [
      | inl q ↦ n j (subst (λ (m : ℕ). Stands s m (extends a)) (sym q.0) e)
      | inr q ↦ absurd (stands_apart s h.0 (extends a) (first a) d e q)
    ])
  ]

  row_furthest : {A : Type 0} (a : Form A) (i k end : ℕ) (x : A) → Found a s i k x → apart (extends a) (first a) ≡ true → ((j : ℕ) → BeginsForm s (many a) k j → j ≤ end) → (m j : ℕ) (ys : List A) → Row (IsForm s a) i m ys → BeginsForm s a m j → j ≤ end
  unfolding Begins
  row_furthest a i k end x f d g m j [] h b =
      let u : j ≤ k = f.furthest j (subst (λ (n : ℕ). BeginsForm s a n j) h b) in
      let v : k ≤ end = g k (begins_empty s (many a) k) in omega arith
  row_furthest a i k end x f d g m j (y ∷ ys) h b = elim (f.others h.0 y h.1) [
    | inl e ↦ g j (subst (λ (n : ℕ). BeginsForm s (many a) n j) e (m, ys, h.2, b))
    | inr e ↦ (elim (form_begins s (many a) h.0 j (m, ys, h.2, b)) [
      | inl q ↦ (let u : h.0 ≤ k = f.furthest h.0 (is_of_begins s a i h.0 y h.1) in let v : k ≤ end = g k (begins_empty s (many a) k) in omega arith)
      | inr q ↦ absurd (stands_apart s h.0 (extends a) (first a) d e q)
    ])
  ]

  pub many_more : {A : Type 0} {a : Form A} {i k end : ℕ} {x : A} {xs : List A} → Found a s i k x → Found (many a) s k end xs → apart (extends a) (first a) ≡ true → nullable a ≡ false → Found (many a) s i end (x ∷ xs)
  unfolding Is Begins
  many_more {a} {i} {k} {end} {x} {xs} f g d e = record {
    is = (k, f.is, g.is);
    furthest = λ j h. row_furthest a i k end x f d g.furthest h.0 j h.1 h.2 h.3;
    others = row_others a i k x (Ends s end (first a ++ extends a)) f d (inr (stands_left s i (first a) (extends a) (starts_so a i k x e f))) (λ j h. inr (stands_right s j (first a) (extends a) h)) g.others;
  }

  row_none : {A : Type 0} (a : Form A) (i k end : ℕ) (x : A) → Found a s i k x → apart (extends a) (first a) ≡ true → nullable a ≡ false → ((ys : List A) → IsForm s (many a) k end ys → ⊥) → k ≤ end → (ys : List A) → IsForm s (many a) i end ys → ⊥
  unfolding Is
  row_none a i k end x f d e g o [] h = let u : i + 1 ≤ k = form_consumes s a i k x e f.is in omega arith
  row_none a i k end x f d e g o (y ∷ ys) h = elim (f.others h.0 y h.1) [
    | inl q ↦ g ys (subst (λ (m : ℕ). IsForm s (many a) m end ys) q h.2)
    | inr q ↦ (elim (form_starts s (many a) h.0 end ys h.2) [
      | inl r ↦ (let u : h.0 ≤ k = f.furthest h.0 (is_of_begins s a i h.0 y h.1) in
          let same : h.0 ≡ k = omega arith in
          g ys (subst (λ (m : ℕ). IsForm s (many a) m end ys) same h.2))
      | inr r ↦ stands_apart s h.0 (extends a) (first a) d q r
    ])
  ]

  pub many_refused_late : {A : Type 0} {a : Form A} {i k end : ℕ} {x : A} → Found a s i k x → Refused (many a) s k end → apart (extends a) (first a) ≡ true → nullable a ≡ false → Refused (many a) s i end
  unfolding Is Begins
  many_refused_late {a} {i} {k} {end} {x} f g d e = record {
    begins = let b = g.begins in (b.0, x ∷ b.1, (k, f.is, b.2), b.3);
    furthest = λ j h. row_furthest a i k end x f d g.furthest h.0 j h.1 h.2 h.3;
    others = row_others a i k x (λ j. Stands s j (first a ++ extends a)) f d (stands_left s i (first a) (extends a) (starts_so a i k x e f)) (λ j h. stands_right s j (first a) (extends a) h) g.others;
    none = row_none a i k end x f d e g.none (g.furthest k (begins_empty s (many a) k));
  }

  first_furthest : {A : Type 0} (a : Form A) (i end : ℕ) → Refused a s i end → apart (extends a) (first a) ≡ true → (m j : ℕ) (ys : List A) → Row (IsForm s a) i m ys → BeginsForm s a m j → j ≤ end
  unfolding Begins
  first_furthest a i end f d m j [] h b = f.furthest j (subst (λ (n : ℕ). BeginsForm s a n j) h b)
  first_furthest a i end f d m j (y ∷ ys) h b = elim (form_begins s (many a) h.0 j (m, ys, h.2, b)) [
    | inl q ↦ (let u : h.0 ≤ end = f.furthest h.0 (is_of_begins s a i h.0 y h.1) in omega arith)
    | inr q ↦ absurd (stands_apart s h.0 (extends a) (first a) d (f.others h.0 y h.1) q)
  ]

  first_others : {A : Type 0} (a : Form A) (i end : ℕ) → Refused a s i end → apart (extends a) (first a) ≡ true → Stands s i (first a) → (j : ℕ) (ys : List A) → IsForm s (many a) i j ys → Stands s j (first a ++ extends a)
  unfolding Is
  first_others a i end f d t j [] h = subst (λ (n : ℕ). Stands s n (first a ++ extends a)) (sym h) (stands_left s i (first a) (extends a) t)
  first_others a i end f d t j (y ∷ ys) h = elim (form_starts s (many a) h.0 j ys h.2) [
    | inl q ↦ stands_right s j (first a) (extends a) (subst (λ (n : ℕ). Stands s n (extends a)) (sym q.0) (f.others h.0 y h.1))
    | inr q ↦ absurd (stands_apart s h.0 (extends a) (first a) d (f.others h.0 y h.1) q)
  ]

  first_none : {A : Type 0} (a : Form A) (i end : ℕ) → Refused a s i end → apart (extends a) (first a) ≡ true → i + 1 ≤ end → (ys : List A) → IsForm s (many a) i end ys → ⊥
  unfolding Is
  first_none a i end f d o [] h = omega arith
  first_none a i end f d o (y ∷ ys) h = elim (form_starts s (many a) h.0 end ys h.2) [
    | inl q ↦ f.none y (subst (λ (m : ℕ). IsForm s a i m y) (sym q.0) h.1)
    | inr q ↦ stands_apart s h.0 (extends a) (first a) d (f.others h.0 y h.1) q
  ]

  pub many_refused : {A : Type 0} {a : Form A} {i end : ℕ} → i + 1 ≤ end → Refused a s i end → apart (extends a) (first a) ≡ true → Refused (many a) s i end
  unfolding Is Begins
  many_refused {a = a} {i = i} {end = end} o f d = record {
    begins = (i, [], refl, f.begins);
    furthest = λ j h. first_furthest a i end f d h.0 j h.1 h.2 h.3;
    others = first_others a i end f d (moved a i end o f);
    none = first_none a i end f d o;
  }

  -- what is found starts with no other token
  pub found_other : {A : Type 0} {a : Form A} {ds : List Class} {i k : ℕ} {x : A} → Found a s i k x → nullable a ≡ false → apart (first a) ds ≡ true → Missing s i ds
  found_other {a = a} {ds = ds} {i = i} {k = k} {x = x} f e d = record { never = λ g. stands_apart s i (first a) ds d (starts_so a i k x e f) g }

  pub missing_among : {cs ds : List Class} {i : ℕ} → Missing s i cs → among ds cs ≡ true → Missing s i ds
  missing_among {cs} {ds} {i} h d = record { never = λ g. h.never (stands_within s i ds cs d g) }

  pub missing_both : {cs ds : List Class} {i : ℕ} → Missing s i cs → Missing s i ds → Missing s i (cs ++ ds)
  missing_both {cs} {ds} {i} h k = record { never = λ g. elim (stands_cases s i cs ds g) [ inl e ↦ h.never e | inr e ↦ k.never e ] }

  -- the loop over many
  pub ahead_start : {A : Type 0} {a : Form A} {i : ℕ} → Ahead a s i i []
  ahead_start = record { found = λ end ys f. f; refused = λ end f. f }

  pub ahead_more : {A : Type 0} {a : Form A} {i m k : ℕ} {xs ys : List A} {x : A} → ys ≡ xs ++ x ∷ [] → Ahead a s i m xs → Found a s m k x → apart (extends a) (first a) ≡ true → nullable a ≡ false → Ahead a s i k ys
  ahead_more {a = a} {i = i} {k = k} {xs = xs} {x = x} q r f d e = subst (Ahead a s i k) (sym q) (record {
    found = λ end ys g. rw append_assoc (r.found end (x ∷ ys) (many_more f g d e));
    refused = λ end g. r.refused end (many_refused_late f g d e);
  })

  pub ahead_end : {A : Type 0} {a : Form A} {i m : ℕ} {xs : List A} → Ahead a s i m xs → Missing s m (first a) → nullable a ≡ false → Found (many a) s i m xs
  ahead_end {a = a} {i = i} {m = m} {xs = xs} r n e = subst (Found (many a) s i m) (append-nil xs) (r.found m [] (many_stops n e))

  pub ahead_refused : {A : Type 0} {a : Form A} {i m end : ℕ} {xs : List A} → Ahead a s i m xs → m + 1 ≤ end → Refused a s m end → apart (extends a) (first a) ≡ true → Refused (many a) s i end
  ahead_refused {end = end} r t f d = r.refused end (many_refused t f d)

  -- the loop over a list
  pub listed_start : {A : Type 0} {a : Form A} {cs : List Class} {i k : ℕ} {x : A} {ys : List A} → ys ≡ x ∷ [] → Found a s i k x → apart (extends a) cs ≡ true → Listing cs a s i k ys
  listed_start {a = a} {cs = cs} {i = i} {k = k} q f d = subst (Listing cs a s i k) (sym q) (record {
    found = λ end zs g. makes_found (pair_found f g d);
    refused = λ end g. makes_refused (pair_refused_late f g d);
  })

  pub listed_more : {A : Type 0} {a : Form A} {cs : List Class} {i m n k : ℕ} {t : Place} {xs ys : List A} {x : A} → ys ≡ xs ++ x ∷ [] → Listing cs a s i m xs → Found (mark cs) s m n t → Found a s n k x → apart (extends (after cs a)) cs ≡ true → Listing cs a s i k ys
  listed_more {a = a} {cs = cs} {i = i} {k = k} {xs = xs} {x = x} q r t f d = subst (Listing cs a s i k) (sym q) (record {
    found = λ end ys g. rw append_assoc (r.found end (x ∷ ys) (many_more (after_found t f) g d refl));
    refused = λ end g. r.refused end (many_refused_late (after_found t f) g d refl);
  })

  pub listed_end : {A : Type 0} {a : Form A} {cs : List Class} {i m : ℕ} {xs : List A} → Listing cs a s i m xs → Missing s m cs → Found (listed cs a) s i m xs
  listed_end {a = a} {cs = cs} {i = i} {m = m} {xs = xs} r n = subst (Found (listed cs a) s i m) (append-nil xs) (r.found m [] (many_stops n refl))

  pub listed_refused : {A : Type 0} {a : Form A} {cs : List Class} {i m n end : ℕ} {t : Place} {xs : List A} → Listing cs a s i m xs → Found (mark cs) s m n t → Refused a s n end → apart (extends (after cs a)) cs ≡ true → Refused (listed cs a) s i end
  listed_refused {end = end} r t f d = r.refused end (many_refused (omega (arith, mark_ends t, refused_after f)) (after_refused t f) d)

  pub listed_refused_first : {A : Type 0} {a : Form A} {cs : List Class} {i end : ℕ} → Refused a s i end → apart (extends a) cs ≡ true → Refused (listed cs a) s i end
  listed_refused_first f d = makes_refused (pair_refused f d)

  -- the loop over one or more
  pub some_start : {A : Type 0} {a : Form A} {i k : ℕ} {x : A} {ys : List A} → ys ≡ x ∷ [] → Found a s i k x → apart (extends a) (first a) ≡ true → SomeOf a s i k ys
  some_start {a = a} {i = i} {k = k} q f d = subst (SomeOf a s i k) (sym q) (record {
    found = λ end zs g. makes_found (pair_found f g d);
    refused = λ end g. makes_refused (pair_refused_late f g d);
  })

  pub some_more : {A : Type 0} {a : Form A} {i m k : ℕ} {xs ys : List A} {x : A} → ys ≡ xs ++ x ∷ [] → SomeOf a s i m xs → Found a s m k x → apart (extends a) (first a) ≡ true → nullable a ≡ false → SomeOf a s i k ys
  some_more {a = a} {i = i} {k = k} {xs = xs} {x = x} q r f d e = subst (SomeOf a s i k) (sym q) (record {
    found = λ end ys g. rw append_assoc (r.found end (x ∷ ys) (many_more f g d e));
    refused = λ end g. r.refused end (many_refused_late f g d e);
  })

  pub some_end : {A : Type 0} {a : Form A} {i m : ℕ} {xs : List A} → SomeOf a s i m xs → Missing s m (first a) → nullable a ≡ false → Found (some a) s i m xs
  some_end {a = a} {i = i} {m = m} {xs = xs} r n e = subst (Found (some a) s i m) (append-nil xs) (r.found m [] (many_stops n e))

  pub some_refused : {A : Type 0} {a : Form A} {i m end : ℕ} {xs : List A} → SomeOf a s i m xs → m + 1 ≤ end → Refused a s m end → apart (extends a) (first a) ≡ true → Refused (some a) s i end
  some_refused {end = end} r t f d = r.refused end (many_refused t f d)

  pub some_refused_first : {A : Type 0} {a : Form A} {i end : ℕ} → Refused a s i end → apart (extends a) (first a) ≡ true → Refused (some a) s i end
  some_refused_first f d = makes_refused (pair_refused f d)

  -- what is found is not refused, and ends at one place
  pub found_refused : {A : Type 0} {a : Form A} {i k e : ℕ} {x : A} → Found a s i k x → Refused a s i e → ⊥
  found_refused {a = a} {i = i} {k = k} {e = e} {x = x} f r =
      let below : k ≤ e = r.furthest k (is_of_begins s a i k x f.is) in
      let above : e ≤ k = f.furthest e r.begins in
      let same : k ≡ e = omega arith in
      r.none x (subst (λ (m : ℕ). IsForm s a i m x) same f.is)

  pub found_end : {A : Type 0} {a : Form A} {i k m : ℕ} {x y : A} → Found a s i k x → Found a s i m y → k ≡ m
  found_end {a = a} {i = i} {k = k} {m = m} {x = x} {y = y} f g =
      let below : k ≤ m = g.furthest k (is_of_begins s a i k x f.is) in
      let above : m ≤ k = f.furthest m (is_of_begins s a i m y g.is) in
      omega arith

  -- alternatives that start alike: the others end before the one that is found
  pub level_found_in : (l : Level) {i end : ℕ} {t : Tree l} → FoundIn (followers l) (body l) s i end t → Found (level l) s i end t
  unfolding Is Begins
  level_found_in l {i} {end} {t} f = record {
    is = closes s l i end t f.is;
    furthest = λ j b. f.furthest j (begins_opens s l i j b);
    others = λ j y d. f.others j y (opens s l i j y d);
  }

  pub level_refused_in : (l : Level) {i end : ℕ} → RefusedIn (followers l) (body l) s i end → Refused (level l) s i end
  unfolding Is Begins
  level_refused_in l {i} {end} f = record {
    begins = begins_closes s l i end f.begins;
    furthest = λ j b. f.furthest j (begins_opens s l i j b);
    others = λ j y d. f.others j y (opens s l i j y d);
    none = λ y d. f.none y (opens s l i end y d);
  }

  pub in_found : {A : Type 0} {E : List Class} {a : Form A} {i end : ℕ} {x : A} → Found a s i end x → among (extends a) E ≡ true → FoundIn E a s i end x
  in_found {E = E} {a = a} f d = record { is = f.is; furthest = f.furthest; others = λ j y h. elim (f.others j y h) [ inl e ↦ inl e | inr e ↦ inr (stands_within s j (extends a) E d e) ] }

  pub in_refused : {A : Type 0} {E : List Class} {a : Form A} {i end : ℕ} → Refused a s i end → among (extends a) E ≡ true → RefusedIn E a s i end
  in_refused {E = E} {a = a} f d = record { begins = f.begins; furthest = f.furthest; others = λ j y h. stands_within s j (extends a) E d (f.others j y h); none = f.none }

  pub in_left : {A : Type 0} {E : List Class} {a b : Form A} {i end : ℕ} {x : A} → FoundIn E a s i end x → Under E b s i end → FoundIn E (either a b) s i end x
  unfolding Is Begins
  in_left f u = record {
    is = inl f.is;
    furthest = λ j h. elim h [ inl p ↦ f.furthest j p | inr p ↦ u.furthest j p ];
    others = λ j y h. elim h [ inl p ↦ f.others j y p | inr p ↦ inr (u.others j y p) ];
  }

  pub in_right : {A : Type 0} {E : List Class} {a b : Form A} {i end : ℕ} {x : A} → FoundIn E b s i end x → Under E a s i end → FoundIn E (either a b) s i end x
  unfolding Is Begins
  in_right f u = record {
    is = inr f.is;
    furthest = λ j h. elim h [ inl p ↦ u.furthest j p | inr p ↦ f.furthest j p ];
    others = λ j y h. elim h [ inl p ↦ inr (u.others j y p) | inr p ↦ f.others j y p ];
  }

  pub in_refused_left : {A : Type 0} {E : List Class} {a b : Form A} {i end : ℕ} → RefusedIn E a s i end → Under E b s i end → RefusedIn E (either a b) s i end
  unfolding Is Begins
  in_refused_left f u = record {
    begins = inl f.begins;
    furthest = λ j h. elim h [ inl p ↦ f.furthest j p | inr p ↦ u.furthest j p ];
    others = λ j y h. elim h [ inl p ↦ f.others j y p | inr p ↦ u.others j y p ];
    none = λ y h. elim h [ inl p ↦ f.none y p | inr p ↦ u.none y p ];
  }

  pub in_refused_right : {A : Type 0} {E : List Class} {a b : Form A} {i end : ℕ} → RefusedIn E b s i end → Under E a s i end → RefusedIn E (either a b) s i end
  unfolding Is Begins
  in_refused_right f u = record {
    begins = inr f.begins;
    furthest = λ j h. elim h [ inl p ↦ u.furthest j p | inr p ↦ f.furthest j p ];
    others = λ j y h. elim h [ inl p ↦ u.others j y p | inr p ↦ f.others j y p ];
    none = λ y h. elim h [ inl p ↦ u.none y p | inr p ↦ f.none y p ];
  }

  pub under_none : {A : Type 0} {E : List Class} {a : Form A} {i end : ℕ} → Missing s i (first a) → nullable a ≡ false → i ≤ end → Under E a s i end
  under_none {E = E} {a = a} {i = i} {end = end} m e o =
      let l : Limits a s i end (λ j. Stands s j E) = limits_none a i end (λ j. Stands s j E) e m o in
      record { furthest = l.furthest; others = l.others; none = (limits_none a i end (λ j. ⊥) e m o).others end }

  pub under_found : {A : Type 0} {E : List Class} {a : Form A} {i k end : ℕ} {x : A} → Found a s i k x → k + 1 ≤ end → Stands s k E → among (extends a) E ≡ true → Under E a s i end
  under_found {E = E} {a = a} {i = i} {k = k} {end = end} f o t d = record {
    furthest = λ j h. (let u : j ≤ k = f.furthest j h in omega arith);
    others = λ j y h. elim (f.others j y h) [ inl e ↦ subst (λ (m : ℕ). Stands s m E) (sym e) t | inr e ↦ stands_within s j (extends a) E d e ];
    none = λ y h. (let u : end ≤ k = f.furthest end (is_of_begins s a i end y h) in omega arith);
  }

  pub under_refused : {A : Type 0} {E : List Class} {a : Form A} {i k end : ℕ} → Refused a s i k → k ≤ end → among (extends a) E ≡ true → Under E a s i end
  under_refused {E = E} {a = a} {i = i} {k = k} {end = end} f o d = record { furthest = λ j h. le_trans (f.furthest j h) o; others = λ j y h. stands_within s j (extends a) E d (f.others j y h); none = λ y h. (let u : end ≤ k = f.furthest end (is_of_begins s a i end y h) in let same : end ≡ k = omega arith in f.none y (subst (λ (m : ℕ). IsForm s a i m y) same h)) }

  pub under_either : {A : Type 0} {E : List Class} {a b : Form A} {i end : ℕ} → Under E a s i end → Under E b s i end → Under E (either a b) s i end
  unfolding Is Begins
  under_either f g = record {
    furthest = λ j h. elim h [ inl p ↦ f.furthest j p | inr p ↦ g.furthest j p ];
    others = λ j y h. elim h [ inl p ↦ f.others j y p | inr p ↦ g.others j y p ];
    none = λ y h. elim h [ inl p ↦ f.none y p | inr p ↦ g.none y p ];
  }

  -- a fault of a part is one of the whole
  pub passes : {A B : Type 0} {a : Form A} {b : Form B} {i k : ℕ} {f : Fault} → ((e : ℕ) → Refused a s i e → Refused b s k e) → Fails a s i f → Fails b s k f
  passes {f = fault.Refused at} g h = record { place = g at h.place }
  passes {f = fault.OutOfMemory} g h = record { place = tt }

  pub stands_among : {cs ds : List Class} {i : ℕ} → Stands s i cs → among cs ds ≡ true → Stands s i ds
  stands_among {cs = cs} {ds = ds} {i = i} h d = stands_within s i cs ds d h

  -- what stands at a place is of the classes or not
  stands_or_of : (cs : List Class) (i : ℕ) (t : Token) → slice_get s i ≡ Some t → (b : Bool) → has cs t.form ≡ b → Stands s i cs ⊎ Missing s i cs
  stands_or_of cs i t e true h = inl (record { it = t; at = e; of = h })
  stands_or_of cs i t e false h = inr (record { never = λ g. let same : g.it ≡ t = cc in true≢false (sym (subst (λ (u : Token). has cs u.form ≡ true) same g.of) ∙ h) })

  stands_or_in : (cs : List Class) (i : ℕ) (o : Option Token) → slice_get s i ≡ o → Stands s i cs ⊎ Missing s i cs
  stands_or_in cs i None e = inr (record { never = λ h. let no_token : ⊥ = cc in no_token })
  stands_or_in cs i (Some t) e = stands_or_of cs i t e (has cs t.form) refl

  pub stands_or : (cs : List Class) (i : ℕ) → Stands s i cs ⊎ Missing s i cs
  stands_or cs i = stands_or_in cs i (slice_get s i) refl

  -- an option before a token that does not stand here
  pub optional_refused : {A : Type 0} {a : Form A} {cs : List Class} {i end : ℕ} → Refused a s i end → Missing s i cs → apart (extends (option a)) cs ≡ true → Refused (before (option a) cs) s i end
  optional_refused {a = a} {cs = cs} {i = i} {end = end} f m d = elim (dec_le (i + 1) end) [
    | yes o ↦ before_refused (option_refused o f) d
    | no o ↦ (let after = refused_after f in
        let same : end ≡ i = omega arith in
        subst (λ (j : ℕ). Refused (before (option a) cs) s i j) (sym same) (before_none (option_skipped (subst (λ (j : ℕ). Refused a s i j) same f)) (none_starts m refl) d))
  ]

  pub stands_other : {cs ds : List Class} {i : ℕ} → Stands s i cs → apart cs ds ≡ true → Missing s i ds
  stands_other {cs = cs} {ds = ds} {i = i} h d = record { never = λ g. stands_apart s i cs ds d h g }

  pub found_after : {A : Type 0} {a : Form A} {i end : ℕ} {x : A} → Found a s i end x → i ≤ end
  found_after {a = a} {i = i} {end = end} {x = x} f = form_order s a i end x f.is

  -- beside what does not start here
  pub in_left_none : {A : Type 0} {E : List Class} {a b : Form A} {i end : ℕ} {x : A} → FoundIn E a s i end x → Missing s i (first b) → nullable b ≡ false → FoundIn E (either a b) s i end x
  in_left_none {a = a} {i = i} {end = end} {x = x} f m e = in_left f (under_none m e (form_order s a i end x f.is))

  pub in_right_none : {A : Type 0} {E : List Class} {a b : Form A} {i end : ℕ} {x : A} → FoundIn E b s i end x → Missing s i (first a) → nullable a ≡ false → FoundIn E (either a b) s i end x
  in_right_none {b = b} {i = i} {end = end} {x = x} f m e = in_right f (under_none m e (form_order s b i end x f.is))

  pub in_refused_left_none : {A : Type 0} {E : List Class} {a b : Form A} {i end : ℕ} → RefusedIn E a s i end → Missing s i (first b) → nullable b ≡ false → RefusedIn E (either a b) s i end
  in_refused_left_none {a = a} {i = i} f m e = in_refused_left f (under_none m e (f.furthest i (begins_empty s a i)))

  pub in_refused_right_none : {A : Type 0} {E : List Class} {a b : Form A} {i end : ℕ} → RefusedIn E b s i end → Missing s i (first a) → nullable a ≡ false → RefusedIn E (either a b) s i end
  in_refused_right_none {b = b} {i = i} f m e = in_refused_right f (under_none m e (f.furthest i (begins_empty s b i)))

  -- the first token of what is found
  pub found_starts : {A : Type 0} {a : Form A} {i end : ℕ} {x : A} → Found a s i end x → nullable a ≡ false → Stands s i (first a)
  found_starts {a = a} {i = i} {end = end} {x = x} f e = starts_so a i end x e f

  -- a fault that is handed on
  pub raises : {A B : Type 0} {a : Form A} {b : Form B} {i k : ℕ} {f : Fault} (r : Result (B × ℕ) Fault) → IsErrAnd r (λ e. e ≡ f) → Fails a s i f → ((e : ℕ) → Refused a s i e → Refused b s k e) → Reads b s k r
  raises {b = b} {k = k} (Ok x) h p g = absurd h
  raises {b = b} {k = k} (Err e) h p g = subst (Fails b s k) (sym h) (passes g p)
