-- What is of a form, and what begins a text of it.
use Rattle.std.specs.Prelude.{ℕ, zero, suc, ◌+◌, ◌≤◌, ◌≡◌, ◌⊎◌, true, List, [], ◌∷◌, Option, Some, None, slice_get}
use Rattle.kql_lexer.specs.declared.token.Token.{Token}
use Rattle.kql_syntax.specs.declared.class.Class.{Class}
use Rattle.kql_syntax.specs.Classes.{has}
use Rattle.kql_syntax.specs.Levels.{Level}
use Rattle.kql_syntax.specs.Trees.{Tree}
use Rattle.kql_syntax.specs.Forms.{Form, token, level, pair, either, option, many, makes, extends}
use Rattle.kql_syntax.specs.Grammar.{body}

-- at i stands a token of one of these classes
pub record Stands (s : List Token) (i : ℕ) (cs : List Class) : Type 0 where
  pub it : Token
  pub at : slice_get s i ≡ Some it
  pub of : has cs it.form ≡ true

-- what derives each level
abbrev pub Derivable : Type 1
Derivable = (l : Level) → ℕ → ℕ → Tree l → Type 0

abbrev pub Beginnable : Type 1
Beginnable = Level → ℕ → ℕ → Type 0

-- the tokens from i to j are texts one after another, with these values
abbrev pub Row : {A : Type 0} → (ℕ → ℕ → A → Type 0) → ℕ → ℕ → List A → Type 0
Row P i j [] = j ≡ i
Row P i j (x ∷ xs) = (k : ℕ) × P i k x × Row P k j xs

-- the value of an option
abbrev pub Perhaps : {A : Type 0} → (ℕ → ℕ → A → Type 0) → ℕ → ℕ → Option A → Type 0
Perhaps P i j None = j ≡ i
Perhaps P i j (Some x) = P i j x

-- the tokens from i to j are of the form, with this value, where the levels are derived so
unfoldable pub Is : (s : List Token) (D : Derivable) {A : Type 0} → Form A → ℕ → ℕ → A → Type 0
Is s D (token cs) i j x = (slice_get s i ≡ Some x) × (has cs x.form ≡ true) × (j ≡ i + 1)
Is s D (level l) i j x = D l i j x
Is s D (pair a b) i j x = (k : ℕ) × Is s D a i k x.0 × Is s D b k j x.1
Is s D (either a b) i j x = Is s D a i j x ⊎ Is s D b i j x
Is s D (option a) i j x = Perhaps (Is s D a) i j x
Is s D (many a) i j x = Row (Is s D a) i j x
Is s D (makes {A} f a) i j x = (y : A) × Is s D a i j y × (x ≡ f y)

-- the tokens from i to j begin a text of the form: the items before one item are there, and the rest begins that item
unfoldable pub Begins : (s : List Token) (D : Derivable) (B : Beginnable) {A : Type 0} → Form A → ℕ → ℕ → Type 0
Begins s D B (token cs) i j = (j ≡ i) ⊎ (Stands s i cs × (j ≡ i + 1))
Begins s D B (level l) i j = B l i j
Begins s D B (pair {A} a b) i j = Begins s D B a i j ⊎ ((k : ℕ) × (x : A) × Is s D a i k x × Begins s D B b k j)
Begins s D B (either a b) i j = Begins s D B a i j ⊎ Begins s D B b i j
Begins s D B (option a) i j = Begins s D B a i j
Begins s D B (many {A} a) i j = (k : ℕ) × (xs : List A) × Row (Is s D a) i k xs × Begins s D B a k j
Begins s D B (makes f a) i j = Begins s D B a i j

-- by at most n levels below one another
unfoldable pub derives_in : List Token → ℕ → Derivable
derives_in s zero l i j t = ⊥
derives_in s (suc n) l i j t = Is s (derives_in s n) (body l) i j t

unfoldable pub begins_in : List Token → ℕ → Beginnable
begins_in s zero l i j = j ≡ i
begins_in s (suc n) l i j = Begins s (derives_in s n) (begins_in s n) (body l) i j

-- the tokens from i to j derive the level with this tree
pub record Derives (s : List Token) (l : Level) (i j : ℕ) (t : Tree l) : Type 0 where
  pub height : ℕ
  pub within : derives_in s height l i j t

-- the tokens from i to j begin the level
pub record Starts (s : List Token) (l : Level) (i j : ℕ) : Type 0 where
  pub height : ℕ
  pub within : begins_in s height l i j

-- the tokens from i to j are of the form, with this value
abbrev pub IsForm : List Token → {A : Type 0} → Form A → ℕ → ℕ → A → Type 0
IsForm s a i j x = Is s (Derives s) a i j x

abbrev pub BeginsForm : List Token → {A : Type 0} → Form A → ℕ → ℕ → Type 0
BeginsForm s a i j = Begins s (Derives s) (Starts s) a i j

-- no token of these classes stands at i
pub record Missing (s : List Token) (i : ℕ) (cs : List Class) : Type 0 where
  pub never : Stands s i cs → ⊥

-- the longest tokens that begin the form are of it; where a shorter text ends stands a token that could extend it
pub record Found {A : Type 0} (a : Form A) (s : List Token) (i end : ℕ) (x : A) : Type 0 where
  pub is : IsForm s a i end x
  pub furthest : (j : ℕ) → BeginsForm s a i j → j ≤ end
  pub others : (j : ℕ) (y : A) → IsForm s a i j y → (j ≡ end) ⊎ Stands s j (extends a)

-- the longest tokens that begin the form end here, and are none
pub record Refused {A : Type 0} (a : Form A) (s : List Token) (i end : ℕ) : Type 0 where
  pub begins : BeginsForm s a i end
  pub furthest : (j : ℕ) → BeginsForm s a i j → j ≤ end
  pub others : (j : ℕ) (y : A) → IsForm s a i j y → Stands s j (extends a)
  pub none : (y : A) → IsForm s a i end y → ⊥
