-- How forms end.
use Rattle.std.proofs.Common.{ℕ, zero, suc, ◌+◌, ◌≡◌, ◌⊎◌, inl, inr, Bool, true, List, [], ◌∷◌, ◌++◌, refl, sym, ◌∙◌}
use Rattle.std.specs.Prelude.{Some, None, if◌then◌else◌}
use Rattle.kql_lexer.specs.declared.token.Token.{Token}
use Rattle.kql_syntax.specs.declared.class.Class.{Class}
use Rattle.kql_syntax.specs.declared.class.Class.TheVariants as class
use Rattle.kql_syntax.specs.Classes.{among}
use Rattle.kql_syntax.specs.Levels.{Level, may_be_empty}
use Rattle.kql_syntax.specs.Trees.{Tree}
use Rattle.kql_syntax.specs.Forms.{Form, token, level, pair, either, option, many, makes, nullable}
use Rattle.kql_syntax.specs.Grammar.{body}
use Rattle.kql_syntax.specs.Derives.{Is, Row, Derivable, derives_in, Stands, IsForm, Derives}
use Rattle.kql_syntax.proofs.StartLaws.{or_left, or_right, fits_empty, stands_left, stands_right, stands_if, stands_else, stands_among}

-- how an expression ends
abbrev pub expr_lasts : List Class
expr_lasts = class.Number ∷ class.Span ∷ class.Text ∷ class.Typed ∷ class.Word ∷ class.Close ∷ class.CloseSquare ∷ []

-- the classes with which a level can end
abbrev pub lasts : Level → List Class
lasts Level.Arg = class.Star ∷ expr_lasts
lasts Level.Op = class.Star ∷ expr_lasts
lasts Level.Pipe = class.Star ∷ expr_lasts
lasts _ = expr_lasts

-- the classes with which the form can end
abbrev pub final : {A : Type 0} → Form A → List Class
final (token cs) = cs
final (level l) = lasts l
final (pair a b) = if nullable b then final b ++ final a else final b
final (either a b) = final a ++ final b
final (option a) = final a
final (many a) = final a
final (makes f a) = final a

pub fits_lasts : (l : Level) → among (final (body l)) (lasts l) ≡ true
fits_lasts Level.Expr = refl
fits_lasts Level.And = refl
fits_lasts Level.Cmp = refl
fits_lasts Level.Sum = refl
fits_lasts Level.Prod = refl
fits_lasts Level.Sign = refl
fits_lasts Level.Post = refl
fits_lasts Level.Access = refl
fits_lasts Level.Term = refl
fits_lasts Level.Arg = refl
fits_lasts Level.Name = refl
fits_lasts Level.Item = refl
fits_lasts Level.TableArg = refl
fits_lasts Level.Source = refl
fits_lasts Level.Pipe = refl
fits_lasts Level.Op = refl

-- a token of these classes stands last before j
pub record Last (s : List Token) (j : ℕ) (cs : List Class) : Type 0 where
  pub at : ℕ
  pub ends : j ≡ at + 1
  pub stands : Stands s at cs

-- a text of the form has no token, or ends so
abbrev EndsSo : List Token → ℕ → ℕ → Bool → List Class → Type 0
EndsSo s i j empty cs = ((j ≡ i) × (empty ≡ true)) ⊎ Last s j cs

row_ends : (s : List Token) {A : Type 0} (P : ℕ → ℕ → A → Type 0) (b : Bool) (cs : List Class) → ((i j : ℕ) (x : A) → P i j x → EndsSo s i j b cs) → (i j : ℕ) (xs : List A) → Row P i j xs → EndsSo s i j true cs
row_ends s P b cs f i j [] r = inl (r, refl)
row_ends s P b cs f i j (x ∷ xs) r = elim (row_ends s P b cs f r.0 j xs r.2) [
  | inl e ↦ (elim (f i r.0 x r.1) [ inl d ↦ inl (e.0 ∙ d.0, refl) | inr d ↦ inr (record { at = d.at; ends = e.0 ∙ d.ends; stands = d.stands }) ])
  | inr e ↦ inr e
]

is_ends : (s : List Token) (D : Derivable) → ((l : Level) (i j : ℕ) (t : Tree l) → D l i j t → EndsSo s i j (may_be_empty l) (lasts l)) → {A : Type 0} (a : Form A) (i j : ℕ) (x : A) → Is s D a i j x → EndsSo s i j (nullable a) (final a)
unfolding Is
is_ends s D f (token cs) i j x h = inr (record { at = i; ends = h.2; stands = record { it = x; at = h.0; of = h.1 } })
is_ends s D f (level l) i j x h = f l i j x h
is_ends s D f (pair a b) i j x h = elim (is_ends s D f b h.0 j x.1 h.2) [
  | inl e ↦ (elim (is_ends s D f a i h.0 x.0 h.1) [
    | inl d ↦ inl (e.0 ∙ d.0, rw (d.1, e.1) refl)
    | inr d ↦ inr (record { at = d.at; ends = e.0 ∙ d.ends; stands = stands_if s d.at (final b) (final a) (nullable b) e.1 d.stands })
  ])
  | inr e ↦ inr (record { at = e.at; ends = e.ends; stands = stands_else s e.at (final b) (final a) (nullable b) e.stands })
]
is_ends s D f (either a b) i j x h = elim h [
  | inl y ↦ (elim (is_ends s D f a i j x y) [ inl e ↦ inl (e.0, or_left _ _ e.1) | inr e ↦ inr (record { at = e.at; ends = e.ends; stands = stands_left s e.at (final a) (final b) e.stands }) ])
  | inr y ↦ (elim (is_ends s D f b i j x y) [ inl e ↦ inl (e.0, or_right _ _ e.1) | inr e ↦ inr (record { at = e.at; ends = e.ends; stands = stands_right s e.at (final a) (final b) e.stands }) ])
]
is_ends s D f (option a) i j None h = inl (h, refl)
is_ends s D f (option a) i j (Some x) h = elim (is_ends s D f a i j x h) [ inl e ↦ inl (e.0, refl) | inr e ↦ inr e ]
is_ends s D f (many a) i j x h = row_ends s (Is s D a) (nullable a) (final a) (is_ends s D f a) i j x h
is_ends s D f (makes g a) i j x h = is_ends s D f a i j h.0 h.1

ends_in : (s : List Token) (n : ℕ) (l : Level) (i j : ℕ) (t : Tree l) → derives_in s n l i j t → EndsSo s i j (may_be_empty l) (lasts l)
unfolding derives_in
ends_in s zero l i j t h = absurd h
ends_in s (suc n) l i j t h = elim (is_ends s (derives_in s n) (ends_in s n) (body l) i j t h) [
  | inl e ↦ inl (e.0, sym (fits_empty l) ∙ e.1)
  | inr e ↦ inr (record { at = e.at; ends = e.ends; stands = stands_among s e.at (final (body l)) (lasts l) (fits_lasts l) e.stands })
]

pub form_ends : (s : List Token) {A : Type 0} (a : Form A) (i j : ℕ) (x : A) → IsForm s a i j x → ((j ≡ i) × (nullable a ≡ true)) ⊎ Last s j (final a)
form_ends s a i j x h = is_ends s (Derives s) (λ l p q t d. ends_in s d.height l p q t d.within) a i j x h
