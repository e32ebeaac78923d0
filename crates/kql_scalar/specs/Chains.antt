-- Chains of longs, over the numbers that columns store.
use Rattle.std.specs.Prelude.{ℕ, ℤ, ◌≡◌, ◌<◌, ◌+ℤ◌, ◌-ℤ◌, ◌*ℤ◌, List, [], ◌∷◌, Option, None, Some, fold, length}
use Rattle.kql_cells.specs.Table.{Grid}
use Rattle.kql_cells.specs.declared.value.Value.{Value}
use Rattle.kql_cells.specs.declared.value.Value.TheVariants as value
use Rattle.kql_scalar_fns.specs.Arguments.{long_or_null}
use Rattle.kql_scalar_fns.specs.Arithmetic.{quotient_of, remainder_of}
use Rattle.kql_bound.specs.declared.expr.ChainSign.{ChainSign}
use Rattle.kql_bound.specs.declared.expr.ChainSign.TheVariants as sign
use Rattle.kql_meaning.specs.Expressions.{val}
use Rattle.kql_meaning.specs.Tables.{cell_in}
use Rattle.kql_ticks.specs.Ranges.{fit}
use Rattle.kql_scalar.specs.Evaluated.{along}
use Rattle.kql_scalar.specs.Means.{means}
use Rattle.kql_scalar.specs.Stores.{number_at}
use Rattle.kql_scalar.specs.declared.chains.LongLink.{LongLink}
use Rattle.kql_scalar.specs.declared.chains.Term.{Term}
use Rattle.kql_scalar.specs.declared.chains.Term.TheVariants as term
use Rattle.kql_scalar.specs.declared.node.Node.{Node}

-- The number that a term is at a row, or null.
unfoldable pub term_at : Term → ℕ → Option ℤ
term_at (term.Constant n) i = Some n
term_at (term.Column ns) i = number_at ns i

-- The value that it is at all rows, if it is one number.
abbrev pub constant_value : Term → Option Value
constant_value (term.Constant n) = Some (value.Long n)
constant_value (term.Column ns) = None

-- It has one for each of so many rows.
unfoldable pub Reaches : ℕ → Term → Type 0
Reaches count (term.Constant n) = Unit {0}
Reaches count (term.Column ns) = (length ns.numbers.now ≡ count) × (length ns.nulls.now ≡ length ns.numbers.now)

-- A term stands for a part of an expression.
pub record IsTermOf (t : Grid) (n : Node) (x : Term) : Type 0 where
  pub values : (i : ℕ) → i < length t.lines → val (means n) t i [] ≡ long_or_null (term_at x i)
  pub reach : Reaches (length t.lines) x

-- What a sign gives for two longs, and for longs that may be null.
abbrev pub long_sign : ChainSign → ℤ → ℤ → Option ℤ
long_sign sign.Add a b = fit (a +ℤ b)
long_sign sign.Subtract a b = fit (a -ℤ b)
long_sign sign.Multiply a b = fit (a *ℤ b)
long_sign sign.Divide a b = quotient_of a b
long_sign sign.Modulo a b = remainder_of a b

abbrev pub long_step : ChainSign → Option ℤ → Option ℤ → Option ℤ
long_step s (Some a) (Some b) = long_sign s a b
long_step s _ _ = None

-- The number of a chain at a row behind a first number.
abbrev pub link_number : ℕ → Option ℤ → LongLink → Option ℤ
link_number i n l = long_step l.sign n (term_at l.term i)

unfoldable pub long_along : List LongLink → ℕ → Option ℤ → Option ℤ
long_along ls i first = fold (link_number i) first ls

-- All terms have a number for each of so many rows.
unfoldable pub AllReach : ℕ → List LongLink → Type 0
AllReach count [] = Unit {0}
AllReach count (l ∷ ls) = Reaches count l.term × AllReach count ls

-- A chain of terms stands for a part of an expression.
pub record IsChainOf (t : Grid) (n : Node) (x : Term) (ks : List LongLink) : Type 0 where
  pub values : (i : ℕ) → i < length t.lines → val (means n) t i [] ≡ long_or_null (long_along ks i (term_at x i))
  pub reach : Reaches (length t.lines) x
  pub each : AllReach (length t.lines) ks

-- The same for a first part with links behind it.
pub record IsAlong (t : Grid) (first : Node) (links : List (ChainSign × Node)) (x : Term) (ks : List LongLink) : Type 0 where
  pub values : (i : ℕ) → i < length t.lines → along links t i [] (val (means first) t i []) ≡ long_or_null (long_along ks i (term_at x i))
  pub reach : Reaches (length t.lines) x
  pub each : AllReach (length t.lines) ks

-- A term stands for the column at a place.
pub record IsColumnTerm (t : Grid) (place : ℕ) (x : Term) : Type 0 where
  pub values : (i : ℕ) → i < length t.lines → cell_in t i (Some place) ≡ long_or_null (term_at x i)
  pub reach : Reaches (length t.lines) x
