-- Forms over lists that agree at their start, and shorter beginnings.
use Rattle.std.proofs.Common.{ℕ, zero, suc, ◌+◌, ◌≤◌, ◌<◌, ◌≡◌, ◌⊎◌, inl, inr, List, [], ◌∷◌, take, refl, sym, subst, ◌∙◌, arith, le_trans}
use native.Mathlib.Decide.{dec_le}
use Rattle.std.specs.Prelude.{Option, Some, None, slice_get}
use Rattle.kql_lexer.specs.declared.token.Token.{Token}
use Rattle.kql_syntax.specs.declared.class.Class.{Class}
use Rattle.kql_syntax.specs.Levels.{Level}
use Rattle.kql_syntax.specs.Trees.{Tree}
use Rattle.kql_syntax.specs.Forms.{Form, token, level, pair, either, option, many, makes}
use Rattle.kql_syntax.specs.Grammar.{body}
use Rattle.kql_syntax.specs.Derives.{Is, Begins, Row, Perhaps, Derivable, Beginnable, derives_in, begins_in, Derives, Starts, Stands, IsForm, BeginsForm}
use Rattle.kql_syntax.proofs.FormLaws.{is_begins, begins_nothing, begins_start, derives_begins, starts_at, derives_starts}
use Rattle.kql_syntax.proofs.StartLaws.{order_in, is_order_in, row_order}

-- the same tokens stand before n
abbrev pub Agree : List Token → List Token → ℕ → Type 0
Agree s u n = (k : ℕ) → k < n → slice_get s k ≡ slice_get u k

pub agree_take : (s : List Token) (n : ℕ) → Agree s (take n s) n
agree_take s n k h = agree_at n s k h
  where
    agree_at : (n : ℕ) (s : List Token) (k : ℕ) → k < n → slice_get s k ≡ slice_get (take n s) k
    agree_at zero s k h = absurd (omega arith)
    agree_at (suc n) [] k h = refl
    agree_at (suc n) (t ∷ s) zero h = refl
    agree_at (suc n) (t ∷ s) (suc k) h = agree_at n s k (omega arith)

abbrev Local : Derivable → Derivable → ℕ → Type 0
Local D E n = (l : Level) (i j : ℕ) (t : Tree l) → j ≤ n → D l i j t → E l i j t

abbrev StartsLocal : Beginnable → Beginnable → ℕ → Type 0
StartsLocal B C n = (l : Level) (i j : ℕ) → j ≤ n → B l i j → C l i j

abbrev Ordered : Derivable → Type 0
Ordered D = (l : Level) (i j : ℕ) (t : Tree l) → D l i j t → i ≤ j

module _ (s u : List Token) (n : ℕ) (a≡ : Agree s u n) where
  stands_local : (i : ℕ) (cs : List Class) → i < n → Stands s i cs → Stands u i cs
  stands_local i cs o h = record { it = h.it; at = sym (a≡ i o) ∙ h.at; of = h.of }

  row_local : {A : Type 0} (P Q : ℕ → ℕ → A → Type 0) → ((i j : ℕ) (x : A) → j ≤ n → P i j x → Q i j x) → ((i j : ℕ) (x : A) → P i j x → i ≤ j) → (i j : ℕ) (xs : List A) → j ≤ n → Row P i j xs → Row Q i j xs
  row_local P Q f g i j [] o r = r
  row_local P Q f g i j (x ∷ xs) o r = (r.0, f i r.0 x (le_trans (row_order P g r.0 j xs r.2) o) r.1, row_local P Q f g r.0 j xs o r.2)

  perhaps_local : {A : Type 0} (P Q : ℕ → ℕ → A → Type 0) → ((i j : ℕ) (x : A) → j ≤ n → P i j x → Q i j x) → (i j : ℕ) (x : Option A) → j ≤ n → Perhaps P i j x → Perhaps Q i j x
  perhaps_local P Q f i j None o r = r
  perhaps_local P Q f i j (Some x) o r = f i j x o r

  is_local : (D E : Derivable) → Local D E n → Ordered D → {A : Type 0} (a : Form A) (i j : ℕ) (x : A) → j ≤ n → Is s D a i j x → Is u E a i j x
  unfolding Is
  is_local D E f g (token cs) i j x o h = (sym (a≡ i (omega arith)) ∙ h.0, h.1, h.2)
  is_local D E f g (level l) i j x o h = f l i j x o h
  is_local D E f g (pair a b) i j x o h = (h.0, is_local D E f g a i h.0 x.0 (le_trans (is_order_in s D g b h.0 j x.1 h.2) o) h.1, is_local D E f g b h.0 j x.1 o h.2)
  is_local D E f g (either a b) i j x o h = elim h [ inl p ↦ inl (is_local D E f g a i j x o p) | inr q ↦ inr (is_local D E f g b i j x o q) ]
  is_local D E f g (option a) i j x o h = perhaps_local (Is s D a) (Is u E a) (is_local D E f g a) i j x o h
  is_local D E f g (many a) i j x o h = row_local (Is s D a) (Is u E a) (is_local D E f g a) (is_order_in s D g a) i j x o h
  is_local D E f g (makes k a) i j x o h = (h.0, is_local D E f g a i j h.0 o h.1, h.2)

  derives_local : (m : ℕ) → Local (derives_in s m) (derives_in u m) n
  unfolding derives_in
  derives_local zero l i j t o h = h
  derives_local (suc m) l i j t o h = is_local (derives_in s m) (derives_in u m) (derives_local m) (order_in s m) (body l) i j t o h

  pub form_local : {A : Type 0} (a : Form A) (i j : ℕ) (x : A) → j ≤ n → IsForm s a i j x → IsForm u a i j x
  form_local a i j x o h = is_local (Derives s) (Derives u) (λ l p q t r d. record { height = d.height; within = derives_local d.height l p q t r d.within }) (λ l p q t d. order_in s d.height l p q t d.within) a i j x o h

-- beginnings go forward
begins_order : (s : List Token) (D : Derivable) (B : Beginnable) → Ordered D → ((l : Level) (i j : ℕ) → B l i j → i ≤ j) → {A : Type 0} (a : Form A) (i j : ℕ) → Begins s D B a i j → i ≤ j
unfolding Begins
begins_order s D B f g (token cs) i j h = elim h [ inl e ↦ omega arith | inr e ↦ omega arith ]
begins_order s D B f g (level l) i j h = g l i j h
begins_order s D B f g (pair a b) i j h = elim h [ inl p ↦ begins_order s D B f g a i j p | inr p ↦ le_trans (is_order_in s D f a i p.0 p.1 p.2) (begins_order s D B f g b p.0 j p.3) ]
begins_order s D B f g (either a b) i j h = elim h [ inl p ↦ begins_order s D B f g a i j p | inr p ↦ begins_order s D B f g b i j p ]
begins_order s D B f g (option a) i j h = begins_order s D B f g a i j h
begins_order s D B f g (many a) i j h = le_trans (row_order (Is s D a) (is_order_in s D f a) i h.0 h.1 h.2) (begins_order s D B f g a h.0 j h.3)
begins_order s D B f g (makes k a) i j h = begins_order s D B f g a i j h

begins_order_in : (s : List Token) (n : ℕ) (l : Level) (i j : ℕ) → begins_in s n l i j → i ≤ j
unfolding begins_in
begins_order_in s zero l i j h = omega arith
begins_order_in s (suc n) l i j h = begins_order s (derives_in s n) (begins_in s n) (order_in s n) (begins_order_in s n) (body l) i j h

module _ (s u : List Token) (n : ℕ) (a≡ : Agree s u n) where
  begins_local : (D E : Derivable) (B C : Beginnable) → Local D E n → Ordered D → StartsLocal B C n → ((l : Level) (i j : ℕ) → B l i j → i ≤ j) → {A : Type 0} (a : Form A) (i j : ℕ) → j ≤ n → Begins s D B a i j → Begins u E C a i j
  unfolding Begins Is
  begins_local D E B C f g p q (token cs) i j o h = elim h [ inl e ↦ inl e | inr e ↦ inr (stands_local s u n a≡ i cs (omega arith) e.0, e.1) ]
  begins_local D E B C f g p q (level l) i j o h = p l i j o h
  begins_local D E B C f g p q (pair a b) i j o h = elim h [
    | inl y ↦ inl (begins_local D E B C f g p q a i j o y)
    | inr y ↦ inr (y.0, y.1, is_local s u n a≡ D E f g a i y.0 y.1 (le_trans (begins_order s D B g q b y.0 j y.3) o) y.2, begins_local D E B C f g p q b y.0 j o y.3)
  ]
  begins_local D E B C f g p q (either a b) i j o h = elim h [ inl y ↦ inl (begins_local D E B C f g p q a i j o y) | inr y ↦ inr (begins_local D E B C f g p q b i j o y) ]
  begins_local D E B C f g p q (option a) i j o h = begins_local D E B C f g p q a i j o h
  begins_local D E B C f g p q (many a) i j o h = (h.0, h.1, is_local s u n a≡ D E f g (many a) i h.0 h.1 (le_trans (begins_order s D B g q a h.0 j h.3) o) h.2, begins_local D E B C f g p q a h.0 j o h.3)
  begins_local D E B C f g p q (makes k a) i j o h = begins_local D E B C f g p q a i j o h

  begins_local_in : (m : ℕ) → StartsLocal (begins_in s m) (begins_in u m) n
  unfolding begins_in
  begins_local_in zero l i j o h = h
  begins_local_in (suc m) l i j o h = begins_local (derives_in s m) (derives_in u m) (begins_in s m) (begins_in u m) (derives_local s u n a≡ m) (order_in s m) (begins_local_in m) (begins_order_in s m) (body l) i j o h

  pub begins_form_local : {A : Type 0} (a : Form A) (i j : ℕ) → j ≤ n → BeginsForm s a i j → BeginsForm u a i j
  begins_form_local a i j o h = begins_local (Derives s) (Derives u) (Starts s) (Starts u) (λ l p q t r d. record { height = d.height; within = derives_local s u n a≡ d.height l p q t r d.within }) (λ l p q t d. order_in s d.height l p q t d.within) (λ l p q r d. record { height = d.height; within = begins_local_in d.height l p q r d.within }) (λ l p q d. begins_order_in s d.height l p q d.within) a i j o h

-- a beginning of a beginning is one
abbrev Closed : Beginnable → Type 0
Closed B = (l : Level) (i j k : ℕ) → i ≤ k → k ≤ j → B l i j → B l i k

at_or_above : (m k : ℕ) → (m ≤ k) ⊎ (k ≤ m)
at_or_above m k = elim (dec_le m k) [ yes h ↦ inl h | no h ↦ inr (omega arith) ]

many_prefix : (s : List Token) (D : Derivable) (B : Beginnable) {A : Type 0} (a : Form A) → ((i j k : ℕ) → i ≤ k → k ≤ j → Begins s D B a i j → Begins s D B a i k) → ((i j : ℕ) (x : A) → Is s D a i j x → Begins s D B a i j) → (i m k : ℕ) (xs : List A) → i ≤ k → k ≤ m → Row (Is s D a) i m xs → ((j : ℕ) → Begins s D B a j j) → Begins s D B (many a) i k
unfolding Begins
many_prefix s D B a f g i m k [] o p r e = (i, [], refl, subst (λ (j : ℕ). Begins s D B a i j) (let same : i ≡ k = omega arith in same) (e i))
many_prefix s D B a f g i m k (x ∷ xs) o p r e = elim (at_or_above r.0 k) [
  | inl q ↦ (let b = many_prefix s D B a f g r.0 m k xs q p r.2 e in (b.0, x ∷ b.1, (r.0, r.1, b.2), b.3))
  | inr q ↦ (i, [], refl, f i r.0 k o q (g i r.0 x r.1))
]

token_prefix : (s : List Token) (cs : List Class) (i k : ℕ) → i ≤ k → k ≤ i + 1 → Stands s i cs → (k ≡ i) ⊎ (Stands s i cs × (k ≡ i + 1))
token_prefix s cs i k o p h = elim (dec_le (i + 1) k) [ yes q ↦ inr (h, omega arith) | no q ↦ inl (omega arith) ]

prefix : (s : List Token) (D : Derivable) (B : Beginnable) → Closed B → ((l : Level) (i : ℕ) → B l i i) → ((l : Level) (i j : ℕ) (t : Tree l) → D l i j t → B l i j) → {A : Type 0} (a : Form A) (i j k : ℕ) → i ≤ k → k ≤ j → Begins s D B a i j → Begins s D B a i k
unfolding Begins
prefix s D B c g f (token cs) i j k o p h = elim h [ inl e ↦ inl (omega arith) | inr e ↦ token_prefix s cs i k o (omega arith) e.0 ]
prefix s D B c g f (level l) i j k o p h = c l i j k o p h
prefix s D B c g f (pair a b) i j k o p h = elim h [
  | inl y ↦ inl (prefix s D B c g f a i j k o p y)
  | inr y ↦ (elim (at_or_above y.0 k) [
    | inl q ↦ inr (y.0, y.1, y.2, prefix s D B c g f b y.0 j k q p y.3)
    | inr q ↦ inl (prefix s D B c g f a i y.0 k o q (is_begins s D B g f a i y.0 y.1 y.2))
  ])
]
prefix s D B c g f (either a b) i j k o p h = elim h [ inl y ↦ inl (prefix s D B c g f a i j k o p y) | inr y ↦ inr (prefix s D B c g f b i j k o p y) ]
prefix s D B c g f (option a) i j k o p h = prefix s D B c g f a i j k o p h
prefix s D B c g f (many a) i j k o p h = elim (at_or_above h.0 k) [
  | inl q ↦ (h.0, h.1, h.2, prefix s D B c g f a h.0 j k q p h.3)
  | inr q ↦ many_prefix s D B a (prefix s D B c g f a) (is_begins s D B g f a) i h.0 k h.1 o q h.2 (begins_nothing s D B g a)
]
prefix s D B c g f (makes y a) i j k o p h = prefix s D B c g f a i j k o p h

prefix_in : (s : List Token) (n : ℕ) → Closed (begins_in s n)
unfolding begins_in
prefix_in s zero l i j k o p h = omega arith
prefix_in s (suc n) l i j k o p h = prefix s (derives_in s n) (begins_in s n) (prefix_in s n) (begins_start s n) (derives_begins s n) (body l) i j k o p h

pub form_prefix : (s : List Token) {A : Type 0} (a : Form A) (i j k : ℕ) → i ≤ k → k ≤ j → BeginsForm s a i j → BeginsForm s a i k
form_prefix s a i j k o p h = prefix s (Derives s) (Starts s) (λ l x y z u v d. record { height = d.height; within = prefix_in s d.height l x y z u v d.within }) (starts_at s) (derives_starts s) a i j k o p h

-- tokens that are cut behind index w
module _ (s : List Token) (w : ℕ) where
  same_start : Agree (take (w + 1) s) s (w + 1)
  same_start k h = sym (agree_take s (w + 1) k h)

  pub to_cut : {A : Type 0} (a : Form A) (i j : ℕ) → j ≤ w + 1 → BeginsForm s a i j → BeginsForm (take (w + 1) s) a i j
  to_cut a i j o b = begins_form_local s (take (w + 1) s) (w + 1) (agree_take s (w + 1)) a i j o b

  pub from_cut : {A : Type 0} (a : Form A) (i j : ℕ) → j ≤ w + 1 → BeginsForm (take (w + 1) s) a i j → BeginsForm s a i j
  from_cut a i j o b = begins_form_local (take (w + 1) s) s (w + 1) same_start a i j o b

  pub is_to_cut : {A : Type 0} (a : Form A) (i j : ℕ) (x : A) → j ≤ w + 1 → IsForm s a i j x → IsForm (take (w + 1) s) a i j x
  is_to_cut a i j x o h = form_local s (take (w + 1) s) (w + 1) (agree_take s (w + 1)) a i j x o h

  pub is_from_cut : {A : Type 0} (a : Form A) (i j : ℕ) (x : A) → j ≤ w + 1 → IsForm (take (w + 1) s) a i j x → IsForm s a i j x
  is_from_cut a i j x o h = form_local (take (w + 1) s) s (w + 1) same_start a i j x o h

  -- what begins the form behind the cut begins it as far as the cut too
  pub upto : {A : Type 0} (a : Form A) (i j : ℕ) → i ≤ w + 1 → w < j → BeginsForm s a i j → BeginsForm (take (w + 1) s) a i (w + 1)
  upto a i j o h b = to_cut a i (w + 1) (omega arith) (form_prefix s a i j (w + 1) o (omega arith) b)
