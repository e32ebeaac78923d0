-- How forms start.
use Rattle.std.proofs.Common.{◌+◌, ℕ, zero, suc, ◌≤◌, ◌≡◌, ◌⊎◌, inl, inr, Bool, true, false, ◌||◌, ◌&&◌, not, List, [], ◌∷◌, ◌++◌, refl, sym, subst, ◌∙◌, arith, true≢false}
use Rattle.std.proofs.lemmas.Bool.{leb-true, le-leb}
use Rattle.std.specs.Prelude.{Some, None, nat_le, if◌then◌else◌}
use Rattle.kql_lexer.specs.declared.token.Token.{Token}
use Rattle.kql_syntax.specs.declared.class.Class.{Class}
use Rattle.kql_syntax.specs.Classes.{has, holds, spans, low, high, number, lies_in, apart_from, among, apart}
use Rattle.kql_syntax.specs.Levels.{Level, starts, may_be_empty}
use Rattle.kql_syntax.specs.Trees.{Tree}
use Rattle.kql_syntax.specs.Forms.{Form, token, level, pair, either, option, many, makes, first, nullable}
use Rattle.kql_syntax.specs.Grammar.{body}
use Rattle.kql_syntax.specs.Derives.{Is, Begins, Row, Derivable, Beginnable, derives_in, begins_in, Derives, Starts, Stands, IsForm, BeginsForm}

pub or_left : (a b : Bool) → a ≡ true → (a || b) ≡ true
or_left true b h = refl
or_left false b h = absurd (true≢false (sym h))

pub or_right : (a b : Bool) → b ≡ true → (a || b) ≡ true
or_right true b h = refl
or_right false b h = h

or_cases : (a b : Bool) → (a || b) ≡ true → (a ≡ true) ⊎ (b ≡ true)
or_cases true b h = inl refl
or_cases false b h = inr h

pub and_left : (a b : Bool) → (a && b) ≡ true → a ≡ true
and_left true b h = refl
and_left false b h = h

pub and_right : (a b : Bool) → (a && b) ≡ true → b ≡ true
and_right true b h = h
and_right false b h = absurd (true≢false (sym h))

not_both : (a : Bool) → not a ≡ true → a ≡ true → ⊥
not_both true h e = true≢false (sym h)
not_both false h e = true≢false (sym e)

has_left : (xs ys : List Class) (n : ℕ) → holds xs n ≡ true → holds (xs ++ ys) n ≡ true
has_left [] ys n h = absurd (true≢false (sym h))
has_left (x ∷ xs) ys n h = elim (or_cases (spans x n) (holds xs n) h) [ inl e ↦ or_left _ _ e | inr e ↦ or_right _ _ (has_left xs ys n e) ]

has_right : (xs ys : List Class) (n : ℕ) → holds ys n ≡ true → holds (xs ++ ys) n ≡ true
has_right [] ys n h = h
has_right (x ∷ xs) ys n h = or_right _ _ (has_right xs ys n h)

has_cases : (xs ys : List Class) (n : ℕ) → holds (xs ++ ys) n ≡ true → (holds xs n ≡ true) ⊎ (holds ys n ≡ true)
has_cases [] ys n h = inr h
has_cases (x ∷ xs) ys n h = elim (or_cases (spans x n) (holds (xs ++ ys) n) h) [
  | inl e ↦ inl (or_left _ _ e)
  | inr e ↦ (elim (has_cases xs ys n e) [ inl f ↦ inl (or_right _ _ f) | inr f ↦ inr f ])
]

-- a number between two that lie between two others
wider : (a b c d n : ℕ) → (nat_le c a && nat_le b d) ≡ true → (nat_le a n && nat_le n b) ≡ true → (nat_le c n && nat_le n d) ≡ true
wider a b c d n h g =
    let ca : c ≤ a = leb-true _ _ (and_left _ _ h) in
    let bd : b ≤ d = leb-true _ _ (and_right _ _ h) in
    let an : a ≤ n = leb-true _ _ (and_left _ _ g) in
    let nb : n ≤ b = leb-true _ _ (and_right _ _ g) in
    let cn : nat_le c n ≡ true = le-leb _ _ (omega arith) in
    let nd : nat_le n d ≡ true = le-leb _ _ (omega arith) in
    rw (cn, nd) refl

no_meeting : (a b c d n : ℕ) → not (nat_le a d && nat_le c b) ≡ true → (nat_le a n && nat_le n b) ≡ true → (nat_le c n && nat_le n d) ≡ true → ⊥
no_meeting a b c d n h f g =
    let an : a ≤ n = leb-true _ _ (and_left _ _ f) in
    let nb : n ≤ b = leb-true _ _ (and_right _ _ f) in
    let cn : c ≤ n = leb-true _ _ (and_left _ _ g) in
    let nd : n ≤ d = leb-true _ _ (and_right _ _ g) in
    let ad : nat_le a d ≡ true = le-leb _ _ (omega arith) in
    let cb : nat_le c b ≡ true = le-leb _ _ (omega arith) in
    not_both _ h (rw (ad, cb) refl)

lies_holds : (c : Class) (ds : List Class) (n : ℕ) → lies_in c ds ≡ true → spans c n ≡ true → holds ds n ≡ true
lies_holds c [] n h g = absurd (true≢false (sym h))
lies_holds c (d ∷ ds) n h g = elim (or_cases (nat_le (low d) (low c) && nat_le (high c) (high d)) (lies_in c ds) h) [
  | inl e ↦ or_left _ _ (wider (low c) (high c) (low d) (high d) n e g)
  | inr e ↦ or_right _ _ (lies_holds c ds n e g)
]

has_among : (xs ys : List Class) (n : ℕ) → among xs ys ≡ true → holds xs n ≡ true → holds ys n ≡ true
has_among [] ys n a h = absurd (true≢false (sym h))
has_among (x ∷ xs) ys n a h = elim (or_cases (spans x n) (holds xs n) h) [
  | inl e ↦ lies_holds x ys n (and_left _ _ a) e
  | inr e ↦ has_among xs ys n (and_right _ _ a) e
]

one_apart : (c : Class) (ds : List Class) (n : ℕ) → apart_from c ds ≡ true → spans c n ≡ true → holds ds n ≡ true → ⊥
one_apart c [] n a h g = true≢false (sym g)
one_apart c (d ∷ ds) n a h g = elim (or_cases (spans d n) (holds ds n) g) [
  | inl e ↦ no_meeting (low c) (high c) (low d) (high d) n (and_left _ _ a) h e
  | inr e ↦ one_apart c ds n (and_right _ _ a) h e
]

has_apart : (xs ys : List Class) (n : ℕ) → apart xs ys ≡ true → holds xs n ≡ true → holds ys n ≡ true → ⊥
has_apart [] ys n a h g = true≢false (sym h)
has_apart (x ∷ xs) ys n a h g = elim (or_cases (spans x n) (holds xs n) h) [
  | inl e ↦ one_apart x ys n (and_left _ _ a) e g
  | inr e ↦ has_apart xs ys n (and_right _ _ a) e g
]

module _ (s : List Token) where
  pub stands_left : (i : ℕ) (xs ys : List Class) → Stands s i xs → Stands s i (xs ++ ys)
  stands_left i xs ys h = record { it = h.it; at = h.at; of = has_left xs ys (number h.it.form) h.of }

  pub stands_right : (i : ℕ) (xs ys : List Class) → Stands s i ys → Stands s i (xs ++ ys)
  stands_right i xs ys h = record { it = h.it; at = h.at; of = has_right xs ys (number h.it.form) h.of }

  pub stands_cases : (i : ℕ) (xs ys : List Class) → Stands s i (xs ++ ys) → Stands s i xs ⊎ Stands s i ys
  stands_cases i xs ys h = elim (has_cases xs ys (number h.it.form) h.of) [ inl e ↦ inl (record { it = h.it; at = h.at; of = e }) | inr e ↦ inr (record { it = h.it; at = h.at; of = e }) ]

  pub stands_among : (i : ℕ) (xs ys : List Class) → among xs ys ≡ true → Stands s i xs → Stands s i ys
  stands_among i xs ys a h = record { it = h.it; at = h.at; of = has_among xs ys (number h.it.form) a h.of }

  pub stands_apart : (i : ℕ) (xs ys : List Class) → apart xs ys ≡ true → Stands s i xs → Stands s i ys → ⊥
  stands_apart i xs ys a h g =
      let same : h.it ≡ g.it = cc in
      has_apart xs ys (number g.it.form) a (subst (λ (t : Token). has xs t.form ≡ true) same h.of) g.of

  pub stands_if : (i : ℕ) (xs ys : List Class) (b : Bool) → b ≡ true → Stands s i ys → Stands s i (if b then xs ++ ys else xs)
  stands_if i xs ys true e h = stands_right i xs ys h
  stands_if i xs ys false e h = absurd (true≢false (sym e))

  pub stands_else : (i : ℕ) (xs ys : List Class) (b : Bool) → Stands s i xs → Stands s i (if b then xs ++ ys else xs)
  stands_else i xs ys true h = stands_left i xs ys h
  stands_else i xs ys false h = h

-- a text of the form has no token, or starts so
abbrev pub StartsSo : List Token → ℕ → ℕ → Bool → List Class → Type 0
StartsSo s i j empty cs = ((j ≡ i) × (empty ≡ true)) ⊎ Stands s i cs

row_starts : (s : List Token) {A : Type 0} (P : ℕ → ℕ → A → Type 0) (b : Bool) (cs : List Class) → ((i j : ℕ) (x : A) → P i j x → StartsSo s i j b cs) → (i j : ℕ) (xs : List A) → Row P i j xs → StartsSo s i j true cs
row_starts s P b cs f i j [] r = inl (r, refl)
row_starts s P b cs f i j (x ∷ xs) r = elim (f i r.0 x r.1) [
  | inl e ↦ (elim (row_starts s P b cs f r.0 j xs r.2) [ inl d ↦ inl (d.0 ∙ e.0, refl) | inr d ↦ inr (subst (λ (k : ℕ). Stands s k cs) e.0 d) ])
  | inr e ↦ inr e
]

pub is_starts : (s : List Token) (D : Derivable) → ((l : Level) (i j : ℕ) (t : Tree l) → D l i j t → StartsSo s i j (may_be_empty l) (starts l)) → {A : Type 0} (a : Form A) (i j : ℕ) (x : A) → Is s D a i j x → StartsSo s i j (nullable a) (first a)
unfolding Is
is_starts s D f (token cs) i j x h = inr (record { it = x; at = h.0; of = h.1 })
is_starts s D f (level l) i j x h = f l i j x h
is_starts s D f (pair a b) i j x h = elim (is_starts s D f a i h.0 x.0 h.1) [
  | inl e ↦ (elim (is_starts s D f b h.0 j x.1 h.2) [
    | inl d ↦ inl (d.0 ∙ e.0, rw (e.1, d.1) refl)
    | inr d ↦ inr (stands_if s i (first a) (first b) (nullable a) e.1 (subst (λ (k : ℕ). Stands s k (first b)) e.0 d))
  ])
  | inr e ↦ inr (stands_else s i (first a) (first b) (nullable a) e)
]
is_starts s D f (either a b) i j x h = elim h [
  | inl y ↦ (elim (is_starts s D f a i j x y) [ inl e ↦ inl (e.0, or_left _ _ e.1) | inr e ↦ inr (stands_left s i (first a) (first b) e) ])
  | inr y ↦ (elim (is_starts s D f b i j x y) [ inl e ↦ inl (e.0, or_right _ _ e.1) | inr e ↦ inr (stands_right s i (first a) (first b) e) ])
]
is_starts s D f (option a) i j None h = inl (h, refl)
is_starts s D f (option a) i j (Some x) h = elim (is_starts s D f a i j x h) [ inl e ↦ inl (e.0, refl) | inr e ↦ inr e ]
is_starts s D f (many a) i j x h = row_starts s (Is s D a) (nullable a) (first a) (is_starts s D f a) i j x h
is_starts s D f (makes g a) i j x h = is_starts s D f a i j h.0 h.1

-- the tables of the levels fit the bodies
pub fits_starts : (l : Level) → among (first (body l)) (starts l) ≡ true
fits_starts Level.Expr = refl
fits_starts Level.And = refl
fits_starts Level.Cmp = refl
fits_starts Level.Sum = refl
fits_starts Level.Prod = refl
fits_starts Level.Sign = refl
fits_starts Level.Post = refl
fits_starts Level.Access = refl
fits_starts Level.Term = refl
fits_starts Level.Arg = refl
fits_starts Level.Name = refl
fits_starts Level.Item = refl
fits_starts Level.TableArg = refl
fits_starts Level.Source = refl
fits_starts Level.Pipe = refl
fits_starts Level.Op = refl

pub fits_empty : (l : Level) → nullable (body l) ≡ may_be_empty l
fits_empty Level.Expr = refl
fits_empty Level.And = refl
fits_empty Level.Cmp = refl
fits_empty Level.Sum = refl
fits_empty Level.Prod = refl
fits_empty Level.Sign = refl
fits_empty Level.Post = refl
fits_empty Level.Access = refl
fits_empty Level.Term = refl
fits_empty Level.Arg = refl
fits_empty Level.Name = refl
fits_empty Level.Item = refl
fits_empty Level.TableArg = refl
fits_empty Level.Source = refl
fits_empty Level.Pipe = refl
fits_empty Level.Op = refl

-- the tokens that begin a form are none, or start so
abbrev OpensSo : List Token → ℕ → ℕ → List Class → Type 0
OpensSo s i j cs = (j ≡ i) ⊎ Stands s i cs

opens_row : (s : List Token) {A : Type 0} (P : ℕ → ℕ → A → Type 0) (b : Bool) (cs : List Class) → ((i j : ℕ) (x : A) → P i j x → StartsSo s i j b cs) → (i k j : ℕ) (xs : List A) → Row P i k xs → OpensSo s k j cs → OpensSo s i j cs
opens_row s P b cs f i k j xs r h = elim (row_starts s P b cs f i k xs r) [
  | inl e ↦ subst (λ (m : ℕ). OpensSo s m j cs) e.0 h
  | inr e ↦ inr e
]

begins_starts : (s : List Token) (D : Derivable) (B : Beginnable) → ((l : Level) (i j : ℕ) (t : Tree l) → D l i j t → StartsSo s i j (may_be_empty l) (starts l)) → ((l : Level) (i j : ℕ) → B l i j → OpensSo s i j (starts l)) → {A : Type 0} (a : Form A) (i j : ℕ) → Begins s D B a i j → OpensSo s i j (first a)
unfolding Begins
begins_starts s D B f g (token cs) i j h = elim h [ inl e ↦ inl e | inr e ↦ inr e.0 ]
begins_starts s D B f g (level l) i j h = g l i j h
begins_starts s D B f g (pair a b) i j h = elim h [
  | inl y ↦ (elim (begins_starts s D B f g a i j y) [ inl e ↦ inl e | inr e ↦ inr (stands_else s i (first a) (first b) (nullable a) e) ])
  | inr y ↦ (elim (is_starts s D f a i y.0 y.1 y.2) [
    | inl e ↦ (elim (begins_starts s D B f g b y.0 j y.3) [
      | inl d ↦ inl (d ∙ e.0)
      | inr d ↦ inr (stands_if s i (first a) (first b) (nullable a) e.1 (subst (λ (k : ℕ). Stands s k (first b)) e.0 d))
    ])
    | inr e ↦ inr (stands_else s i (first a) (first b) (nullable a) e)
  ])
]
begins_starts s D B f g (either a b) i j h = elim h [
  | inl y ↦ (elim (begins_starts s D B f g a i j y) [ inl e ↦ inl e | inr e ↦ inr (stands_left s i (first a) (first b) e) ])
  | inr y ↦ (elim (begins_starts s D B f g b i j y) [ inl e ↦ inl e | inr e ↦ inr (stands_right s i (first a) (first b) e) ])
]
begins_starts s D B f g (option a) i j h = begins_starts s D B f g a i j h
begins_starts s D B f g (many a) i j h = opens_row s (Is s D a) (nullable a) (first a) (is_starts s D f a) i h.0 j h.1 h.2 (begins_starts s D B f g a h.0 j h.3)
begins_starts s D B f g (makes k a) i j h = begins_starts s D B f g a i j h

-- texts do not go backwards
pub row_order : {A : Type 0} (P : ℕ → ℕ → A → Type 0) → ((i j : ℕ) (x : A) → P i j x → i ≤ j) → (i j : ℕ) (xs : List A) → Row P i j xs → i ≤ j
row_order P f i j [] r = omega arith
row_order P f i j (x ∷ xs) r = let a : i ≤ r.0 = f i r.0 x r.1 in let b : r.0 ≤ j = row_order P f r.0 j xs r.2 in omega arith

pub is_order_in : (s : List Token) (D : Derivable) → ((l : Level) (i j : ℕ) (t : Tree l) → D l i j t → i ≤ j) → {A : Type 0} (a : Form A) (i j : ℕ) (x : A) → Is s D a i j x → i ≤ j
unfolding Is
is_order_in s D f (token cs) i j x h = omega arith
is_order_in s D f (level l) i j x h = f l i j x h
is_order_in s D f (pair a b) i j x h = let p : i ≤ h.0 = is_order_in s D f a i h.0 x.0 h.1 in let q : h.0 ≤ j = is_order_in s D f b h.0 j x.1 h.2 in omega arith
is_order_in s D f (either a b) i j x h = elim h [ inl y ↦ is_order_in s D f a i j x y | inr y ↦ is_order_in s D f b i j x y ]
is_order_in s D f (option a) i j None h = omega arith
is_order_in s D f (option a) i j (Some x) h = is_order_in s D f a i j x h
is_order_in s D f (many a) i j x h = row_order (Is s D a) (is_order_in s D f a) i j x h
is_order_in s D f (makes g a) i j x h = is_order_in s D f a i j h.0 h.1

pub starts_in : (s : List Token) (n : ℕ) (l : Level) (i j : ℕ) (t : Tree l) → derives_in s n l i j t → StartsSo s i j (may_be_empty l) (starts l)
unfolding derives_in
starts_in s zero l i j t h = absurd h
starts_in s (suc n) l i j t h = elim (is_starts s (derives_in s n) (starts_in s n) (body l) i j t h) [
  | inl e ↦ inl (e.0, sym (fits_empty l) ∙ e.1)
  | inr e ↦ inr (stands_among s i (first (body l)) (starts l) (fits_starts l) e)
]

opens_so_in : (s : List Token) (n : ℕ) (l : Level) (i j : ℕ) → begins_in s n l i j → OpensSo s i j (starts l)
unfolding begins_in
opens_so_in s zero l i j h = inl h
opens_so_in s (suc n) l i j h = elim (begins_starts s (derives_in s n) (begins_in s n) (starts_in s n) (opens_so_in s n) (body l) i j h) [
  | inl e ↦ inl e
  | inr e ↦ inr (stands_among s i (first (body l)) (starts l) (fits_starts l) e)
]

pub order_in : (s : List Token) (n : ℕ) (l : Level) (i j : ℕ) (t : Tree l) → derives_in s n l i j t → i ≤ j
unfolding derives_in
order_in s zero l i j t h = absurd h
order_in s (suc n) l i j t h = is_order_in s (derives_in s n) (order_in s n) (body l) i j t h

pub form_starts : (s : List Token) {A : Type 0} (a : Form A) (i j : ℕ) (x : A) → IsForm s a i j x → ((j ≡ i) × (nullable a ≡ true)) ⊎ Stands s i (first a)
form_starts s a i j x h = is_starts s (Derives s) (λ l p q t d. starts_in s d.height l p q t d.within) a i j x h

pub form_begins : (s : List Token) {A : Type 0} (a : Form A) (i j : ℕ) → BeginsForm s a i j → (j ≡ i) ⊎ Stands s i (first a)
form_begins s a i j h = begins_starts s (Derives s) (Starts s) (λ l p q t d. starts_in s d.height l p q t d.within) (λ l p q d. opens_so_in s d.height l p q d.within) a i j h

pub form_order : (s : List Token) {A : Type 0} (a : Form A) (i j : ℕ) (x : A) → IsForm s a i j x → i ≤ j
form_order s a i j x h = is_order_in s (Derives s) (λ l p q t d. order_in s d.height l p q t d.within) a i j x h

-- a form that is not empty has a token
or_false_left : (a b : Bool) → (a || b) ≡ false → a ≡ false
or_false_left true b h = h
or_false_left false b h = refl

or_false_right : (a b : Bool) → (a || b) ≡ false → b ≡ false
or_false_right true b h = absurd (true≢false h)
or_false_right false b h = h

and_false : (a b : Bool) → (a && b) ≡ false → (a ≡ false) ⊎ (b ≡ false)
and_false true b h = inr h
and_false false b h = inl refl

pub consumes : (s : List Token) (D : Derivable) → ((l : Level) (i j : ℕ) (t : Tree l) → D l i j t → i ≤ j) → ((l : Level) (i j : ℕ) (t : Tree l) → may_be_empty l ≡ false → D l i j t → i + 1 ≤ j) → {A : Type 0} (a : Form A) (i j : ℕ) (x : A) → nullable a ≡ false → Is s D a i j x → i + 1 ≤ j
unfolding Is
consumes s D g f (token cs) i j x e h = omega arith
consumes s D g f (level l) i j x e h = f l i j x e h
consumes s D g f (pair a b) i j x e h =
    let p : i ≤ h.0 = is_order_in s D g a i h.0 x.0 h.1 in
    let q : h.0 ≤ j = is_order_in s D g b h.0 j x.1 h.2 in
    elim (and_false (nullable a) (nullable b) e) [
      | inl d ↦ (let r : i + 1 ≤ h.0 = consumes s D g f a i h.0 x.0 d h.1 in omega arith)
      | inr d ↦ (let r : h.0 + 1 ≤ j = consumes s D g f b h.0 j x.1 d h.2 in omega arith)
    ]
consumes s D g f (either a b) i j x e h = elim h [ inl y ↦ consumes s D g f a i j x (or_false_left _ _ e) y | inr y ↦ consumes s D g f b i j x (or_false_right (nullable a) _ e) y ]
consumes s D g f (option a) i j x e h = absurd (true≢false e)
consumes s D g f (many a) i j x e h = absurd (true≢false e)
consumes s D g f (makes k a) i j x e h = consumes s D g f a i j h.0 e h.1

pub consumes_in : (s : List Token) (n : ℕ) (l : Level) (i j : ℕ) (t : Tree l) → may_be_empty l ≡ false → derives_in s n l i j t → i + 1 ≤ j
unfolding derives_in
consumes_in s zero l i j t e h = absurd h
consumes_in s (suc n) l i j t e h = consumes s (derives_in s n) (order_in s n) (consumes_in s n) (body l) i j t (fits_empty l ∙ e) h

pub form_consumes : (s : List Token) {A : Type 0} (a : Form A) (i j : ℕ) (x : A) → nullable a ≡ false → IsForm s a i j x → i + 1 ≤ j
form_consumes s a i j x e h = consumes s (Derives s) (λ l p q t d. order_in s d.height l p q t d.within) (λ l p q t e d. consumes_in s d.height l p q t e d.within) a i j x e h
