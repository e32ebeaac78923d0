-- The laws of forms.
use Rattle.std.proofs.Common.{ℕ, zero, suc, inl, inr, List, [], ◌∷◌, refl, sym, subst}
use Rattle.std.specs.Prelude.{Option, Some, None}
use Rattle.kql_lexer.specs.declared.token.Token.{Token}
use Rattle.kql_syntax.specs.Levels.{Level}
use Rattle.kql_syntax.specs.Trees.{Tree}
use Rattle.kql_syntax.specs.Forms.{Form, token, level, pair, either, option, many, makes}
use Rattle.kql_syntax.specs.Grammar.{body}
use Rattle.kql_syntax.specs.Derives.{Is, Begins, Row, Perhaps, Derivable, Beginnable, derives_in, begins_in, Derives, Starts, IsForm, BeginsForm}

-- one derives no more than another
abbrev pub Below : Derivable → Derivable → Type 0
Below D E = (l : Level) (i j : ℕ) (t : Tree l) → D l i j t → E l i j t

abbrev StartsBelow : Beginnable → Beginnable → Type 0
StartsBelow B C = (l : Level) (i j : ℕ) → B l i j → C l i j

row_mono : {A : Type 0} (P Q : ℕ → ℕ → A → Type 0) (f : (i j : ℕ) (x : A) → P i j x → Q i j x) (i j : ℕ) (xs : List A) → Row P i j xs → Row Q i j xs
row_mono P Q f i j [] r = r
row_mono P Q f i j (x ∷ xs) r = (r.0, f i r.0 x r.1, row_mono P Q f r.0 j xs r.2)

perhaps_mono : {A : Type 0} (P Q : ℕ → ℕ → A → Type 0) (f : (i j : ℕ) (x : A) → P i j x → Q i j x) (i j : ℕ) (x : Option A) → Perhaps P i j x → Perhaps Q i j x
perhaps_mono P Q f i j None r = r
perhaps_mono P Q f i j (Some x) r = f i j x r

is_mono : (s : List Token) (D E : Derivable) → Below D E → {A : Type 0} (a : Form A) (i j : ℕ) (x : A) → Is s D a i j x → Is s E a i j x
unfolding Is
is_mono s D E f (token cs) i j x h = h
is_mono s D E f (level l) i j x h = f l i j x h
is_mono s D E f (pair a b) i j x h = (h.0, is_mono s D E f a i h.0 x.0 h.1, is_mono s D E f b h.0 j x.1 h.2)
is_mono s D E f (either a b) i j x h = elim h [ inl p ↦ inl (is_mono s D E f a i j x p) | inr q ↦ inr (is_mono s D E f b i j x q) ]
is_mono s D E f (option a) i j x h = perhaps_mono (Is s D a) (Is s E a) (is_mono s D E f a) i j x h
is_mono s D E f (many a) i j x h = row_mono (Is s D a) (Is s E a) (is_mono s D E f a) i j x h
is_mono s D E f (makes g a) i j x h = (h.0, is_mono s D E f a i j h.0 h.1, h.2)

begins_mono : (s : List Token) (D E : Derivable) → Below D E → (B C : Beginnable) → StartsBelow B C → {A : Type 0} (a : Form A) (i j : ℕ) → Begins s D B a i j → Begins s E C a i j
unfolding Begins
begins_mono s D E f B C g (token cs) i j h = h
begins_mono s D E f B C g (level l) i j h = g l i j h
begins_mono s D E f B C g (pair a b) i j h = elim h [ inl p ↦ inl (begins_mono s D E f B C g a i j p) | inr q ↦ inr (q.0, q.1, is_mono s D E f a i q.0 q.1 q.2, begins_mono s D E f B C g b q.0 j q.3) ]
begins_mono s D E f B C g (either a b) i j h = elim h [ inl p ↦ inl (begins_mono s D E f B C g a i j p) | inr q ↦ inr (begins_mono s D E f B C g b i j q) ]
begins_mono s D E f B C g (option a) i j h = begins_mono s D E f B C g a i j h
begins_mono s D E f B C g (many a) i j h = (h.0, h.1, row_mono (Is s D a) (Is s E a) (is_mono s D E f a) i h.0 h.1 h.2, begins_mono s D E f B C g a h.0 j h.3)
begins_mono s D E f B C g (makes k a) i j h = begins_mono s D E f B C g a i j h

-- the empty list begins every form
pub begins_nothing : (s : List Token) (D : Derivable) (B : Beginnable) → ((l : Level) (i : ℕ) → B l i i) → {A : Type 0} (a : Form A) (i : ℕ) → Begins s D B a i i
unfolding Begins
begins_nothing s D B g (token cs) i = inl refl
begins_nothing s D B g (level l) i = g l i
begins_nothing s D B g (pair a b) i = inl (begins_nothing s D B g a i)
begins_nothing s D B g (either a b) i = inl (begins_nothing s D B g a i)
begins_nothing s D B g (option a) i = begins_nothing s D B g a i
begins_nothing s D B g (many a) i = (i, [], refl, begins_nothing s D B g a i)
begins_nothing s D B g (makes k a) i = begins_nothing s D B g a i

-- what is of a form begins it
pub is_begins : (s : List Token) (D : Derivable) (B : Beginnable) → ((l : Level) (i : ℕ) → B l i i) → ((l : Level) (i j : ℕ) (t : Tree l) → D l i j t → B l i j) → {A : Type 0} (a : Form A) (i j : ℕ) (x : A) → Is s D a i j x → Begins s D B a i j
unfolding Is Begins
is_begins s D B g f (token cs) i j x h = inr (record { it = x; at = h.0; of = h.1 }, h.2)
is_begins s D B g f (level l) i j x h = f l i j x h
is_begins s D B g f (pair a b) i j x h = inr (h.0, x.0, h.1, is_begins s D B g f b h.0 j x.1 h.2)
is_begins s D B g f (either a b) i j x h = elim h [ inl p ↦ inl (is_begins s D B g f a i j x p) | inr q ↦ inr (is_begins s D B g f b i j x q) ]
is_begins s D B g f (option a) i j None h = subst (λ (k : ℕ). Begins s D B a i k) (sym h) (begins_nothing s D B g a i)
is_begins s D B g f (option a) i j (Some x) h = is_begins s D B g f a i j x h
is_begins s D B g f (many a) i j x h = (j, x, h, begins_nothing s D B g a j)
is_begins s D B g f (makes k a) i j x h = is_begins s D B g f a i j h.0 h.1

-- n levels more
pub later : ℕ → ℕ → ℕ
later zero m = m
later (suc n) m = suc (later n m)

derives_up : (s : List Token) (n : ℕ) → Below (derives_in s n) (derives_in s (suc n))
unfolding derives_in
derives_up s zero l i j t h = absurd h
derives_up s (suc n) l i j t h = is_mono s (derives_in s n) (derives_in s (suc n)) (derives_up s n) (body l) i j t h

pub derives_right : (s : List Token) (n m : ℕ) → Below (derives_in s m) (derives_in s (later n m))
unfolding later
derives_right s zero m l i j t h = h
derives_right s (suc n) m l i j t h = derives_up s (later n m) l i j t (derives_right s n m l i j t h)

pub derives_left : (s : List Token) (n m : ℕ) → Below (derives_in s n) (derives_in s (later n m))
unfolding derives_in later
derives_left s zero m l i j t h = absurd h
derives_left s (suc n) m l i j t h = is_mono s (derives_in s n) (derives_in s (later n m)) (derives_left s n m) (body l) i j t h

pub begins_start : (s : List Token) (n : ℕ) (l : Level) (i : ℕ) → begins_in s n l i i
unfolding begins_in
begins_start s zero l i = refl
begins_start s (suc n) l i = begins_nothing s (derives_in s n) (begins_in s n) (begins_start s n) (body l) i

begins_up : (s : List Token) (n : ℕ) → StartsBelow (begins_in s n) (begins_in s (suc n))
unfolding begins_in
begins_up s zero l i j h = subst (λ (k : ℕ). begins_in s 1 l i k) (sym h) (begins_start s 1 l i)
begins_up s (suc n) l i j h = begins_mono s (derives_in s n) (derives_in s (suc n)) (derives_up s n) (begins_in s n) (begins_in s (suc n)) (begins_up s n) (body l) i j h

begins_right : (s : List Token) (n m : ℕ) → StartsBelow (begins_in s m) (begins_in s (later n m))
unfolding later
begins_right s zero m l i j h = h
begins_right s (suc n) m l i j h = begins_up s (later n m) l i j (begins_right s n m l i j h)

pub derives_begins : (s : List Token) (n : ℕ) (l : Level) (i j : ℕ) (t : Tree l) → derives_in s n l i j t → begins_in s n l i j
unfolding derives_in begins_in
derives_begins s zero l i j t h = absurd h
derives_begins s (suc n) l i j t h = is_begins s (derives_in s n) (begins_in s n) (begins_start s n) (derives_begins s n) (body l) i j t h

-- a form uses finitely many levels
row_height : (s : List Token) {A : Type 0} (a : Form A) → ((i j : ℕ) (x : A) → IsForm s a i j x → (n : ℕ) × Is s (derives_in s n) a i j x) → (i j : ℕ) (xs : List A) → Row (IsForm s a) i j xs → (n : ℕ) × Row (Is s (derives_in s n) a) i j xs
row_height s a f i j [] r = (0, r)
row_height s a f i j (x ∷ xs) r =
    let p = f i r.0 x r.1 in
    let q = row_height s a f r.0 j xs r.2 in (
      later p.0 q.0,
      (
        r.0,
        is_mono s (derives_in s p.0) (derives_in s (later p.0 q.0)) (derives_left s p.0 q.0) a i r.0 x p.1,
        row_mono (Is s (derives_in s q.0) a) (Is s (derives_in s (later p.0 q.0)) a) (is_mono s (derives_in s q.0) (derives_in s (later p.0 q.0)) (derives_right s p.0 q.0) a) r.0 j xs q.1,
      ),
    )

is_height : (s : List Token) {A : Type 0} (a : Form A) (i j : ℕ) (x : A) → IsForm s a i j x → (n : ℕ) × Is s (derives_in s n) a i j x
unfolding Is
is_height s (token cs) i j x h = (0, h)
is_height s (level l) i j x h = (h.height, h.within)
is_height s (pair a b) i j x h =
    let p = is_height s a i h.0 x.0 h.1 in
    let q = is_height s b h.0 j x.1 h.2 in
    (later p.0 q.0, (h.0, is_mono s (derives_in s p.0) (derives_in s (later p.0 q.0)) (derives_left s p.0 q.0) a i h.0 x.0 p.1, is_mono s (derives_in s q.0) (derives_in s (later p.0 q.0)) (derives_right s p.0 q.0) b h.0 j x.1 q.1))
is_height s (either a b) i j x h = elim h [ inl y ↦ (let p = is_height s a i j x y in (p.0, inl p.1)) | inr y ↦ (let p = is_height s b i j x y in (p.0, inr p.1)) ]
is_height s (option a) i j None h = (0, h)
is_height s (option a) i j (Some x) h = is_height s a i j x h
is_height s (many a) i j x h = row_height s a (is_height s a) i j x h
is_height s (makes f a) i j x h = let p = is_height s a i j h.0 h.1 in (p.0, (h.0, p.1, h.2))

-- a level is its body
opens_in : (s : List Token) (l : Level) (i j : ℕ) (t : Tree l) (n : ℕ) → derives_in s n l i j t → IsForm s (body l) i j t
unfolding derives_in
opens_in s l i j t zero h = absurd h
opens_in s l i j t (suc n) h = is_mono s (derives_in s n) (Derives s) (λ m a b x y. record { height = n; within = y }) (body l) i j t h

pub opens : (s : List Token) (l : Level) (i j : ℕ) (t : Tree l) → Derives s l i j t → IsForm s (body l) i j t
opens s l i j t d = opens_in s l i j t d.height d.within

pub closes : (s : List Token) (l : Level) (i j : ℕ) (t : Tree l) → IsForm s (body l) i j t → Derives s l i j t
unfolding derives_in
closes s l i j t h = let p = is_height s (body l) i j t h in record { height = suc p.0; within = p.1 }

begins_left : (s : List Token) (n m : ℕ) → StartsBelow (begins_in s n) (begins_in s (later n m))
unfolding begins_in later
begins_left s zero m l i j h = subst (λ (k : ℕ). begins_in s m l i k) (sym h) (begins_start s m l i)
begins_left s (suc n) m l i j h = begins_mono s (derives_in s n) (derives_in s (later n m)) (derives_left s n m) (begins_in s n) (begins_in s (later n m)) (begins_left s n m) (body l) i j h

abbrev BeginsIn : (s : List Token) (n : ℕ) {A : Type 0} → Form A → ℕ → ℕ → Type 0
BeginsIn s n a i j = Begins s (derives_in s n) (begins_in s n) a i j

begins_both : (s : List Token) (n m : ℕ) {A : Type 0} (a : Form A) (i j : ℕ) → BeginsIn s m a i j → BeginsIn s (later n m) a i j
begins_both s n m a i j h = begins_mono s (derives_in s m) (derives_in s (later n m)) (derives_right s n m) (begins_in s m) (begins_in s (later n m)) (begins_right s n m) a i j h

is_both : (s : List Token) (n m : ℕ) {A : Type 0} (a : Form A) (i j : ℕ) (x : A) → Is s (derives_in s n) a i j x → Is s (derives_in s (later n m)) a i j x
is_both s n m a i j x h = is_mono s (derives_in s n) (derives_in s (later n m)) (derives_left s n m) a i j x h

begins_height : (s : List Token) {A : Type 0} (a : Form A) (i j : ℕ) → BeginsForm s a i j → (n : ℕ) × BeginsIn s n a i j
unfolding Begins Is
begins_height s (token cs) i j h = (0, h)
begins_height s (level l) i j h = (h.height, h.within)
begins_height s (pair a b) i j h = elim h [
  | inl y ↦ (let p = begins_height s a i j y in (p.0, inl p.1))
  | inr y ↦ (let p = is_height s a i y.0 y.1 y.2 in let q = begins_height s b y.0 j y.3 in (later p.0 q.0, inr (y.0, y.1, is_both s p.0 q.0 a i y.0 y.1 p.1, begins_both s p.0 q.0 b y.0 j q.1)))
]
begins_height s (either a b) i j h = elim h [ inl y ↦ (let p = begins_height s a i j y in (p.0, inl p.1)) | inr y ↦ (let p = begins_height s b i j y in (p.0, inr p.1)) ]
begins_height s (option a) i j h = begins_height s a i j h
begins_height s (many a) i j h =
    let p = is_height s (many a) i h.0 h.1 h.2 in let q = begins_height s a h.0 j h.3 in
    (later p.0 q.0, (h.0, h.1, is_both s p.0 q.0 (many a) i h.0 h.1 p.1, begins_both s p.0 q.0 a h.0 j q.1))
begins_height s (makes f a) i j h = begins_height s a i j h

pub starts_at : (s : List Token) (l : Level) (i : ℕ) → Starts s l i i
unfolding begins_in
starts_at s l i = record { height = 0; within = refl }

-- the empty list begins every form
pub begins_empty : (s : List Token) {A : Type 0} (a : Form A) (i : ℕ) → BeginsForm s a i i
begins_empty s a i = begins_nothing s (Derives s) (Starts s) (starts_at s) a i

begins_opens_in : (s : List Token) (l : Level) (i j n : ℕ) → begins_in s n l i j → BeginsForm s (body l) i j
unfolding begins_in
begins_opens_in s l i j zero h = subst (λ (k : ℕ). BeginsForm s (body l) i k) (sym h) (begins_empty s (body l) i)
begins_opens_in s l i j (suc n) h = begins_mono s (derives_in s n) (Derives s) (λ m a b x y. record { height = n; within = y }) (begins_in s n) (Starts s) (λ m a b y. record { height = n; within = y }) (body l) i j h

-- a level begins as its body
pub begins_opens : (s : List Token) (l : Level) (i j : ℕ) → Starts s l i j → BeginsForm s (body l) i j
begins_opens s l i j d = begins_opens_in s l i j d.height d.within

pub begins_closes : (s : List Token) (l : Level) (i j : ℕ) → BeginsForm s (body l) i j → Starts s l i j
unfolding begins_in
begins_closes s l i j h = let p = begins_height s (body l) i j h in record { height = suc p.0; within = p.1 }

pub derives_starts : (s : List Token) (l : Level) (i j : ℕ) (t : Tree l) → Derives s l i j t → Starts s l i j
derives_starts s l i j t d = record { height = d.height; within = derives_begins s d.height l i j t d.within }

-- what is of a form begins it
pub is_of_begins : (s : List Token) {A : Type 0} (a : Form A) (i j : ℕ) (x : A) → IsForm s a i j x → BeginsForm s a i j
is_of_begins s a i j x h = is_begins s (Derives s) (Starts s) (starts_at s) (derives_starts s) a i j x h
