-- Which parts are columns that are there.
use Rattle.std.proofs.Common.{◌≡◌, ℕ, Bool, true, false, ◌+◌, List, [], ◌∷◌, map, refl, ap, subst, sym, ◌∙◌, inl, inr}
use Rattle.std.specs.Prelude.{Option, Some, None, bytes_eq, is_some}
use Rattle.std.specs.List.{position_from}
use Rattle.std.proofs.lemmas.Iterator.Adapters.{position_from-zero}
use Rattle.std.proofs.lemmas.Bool.{cases_Bool}
use Rattle.kql_cells.specs.Named.{column_name, place_of}
use Rattle.kql_cells.specs.declared.schema.Column.{Column}
use Rattle.kql_cells.specs.declared.value.Kind.{Kind}
use Rattle.kql_functions.specs.declared.func.Func.{Func}
use Rattle.kql_functions.specs.declared.window.Window.{Window}
use Rattle.kql_bound.specs.declared.expr.BExpr.{BExpr}
use Rattle.kql_bound.specs.declared.expr.BExpr.TheVariants as V
use Rattle.kql_bound.specs.declared.expr.ChainSign.{ChainSign}
use Rattle.kql_bound.specs.declared.expr.StepColumn.{StepColumn}
use Rattle.kql_bound.specs.declared.literal.Lit.{Lit}
use Rattle.kql_meaning.specs.FittingExpressions.{column_of, is_plain_column, stands_in_if_column}
use Rattle.kql_meaning.proofs.ExpressionFitLaws.{column-Call, column-Chain, column-Column, column-Literal, column-Path, column-Step, column-Window}
use Rattle.kql_meaning.specs.Tables.{has_column, is_name_among, names_of}
use Rattle.kql_scalar.specs.Means.{IsPlaced, link_means, means}
use Rattle.kql_scalar.specs.declared.node.Node.{Node}
use Rattle.kql_scalar.specs.declared.node.Node.TheVariants as N
use Rattle.kql_scalar.proofs.MeansSteps.{means-Call, means-Chain, means-Column, means-Literal, means-Missing, means-Path, means-Step, means-Window, parts-Column, parts-Missing}

-- No column, where an expression is another form.
no_column : (columns : List Column) (node other : Node) (e : BExpr) → node ≡ other → means other ≡ e → column_of e ≡ None → false ≡ is_plain_column columns (means node)
unfolding is_plain_column stands_in_if_column
no_column columns node other e is m c = sym (ap (λ x. stands_in_if_column columns (column_of (means x))) is ∙ (ap (λ x. stands_in_if_column columns (column_of x)) m ∙ ap (stands_in_if_column columns) c))

pub lent-Literal : (columns : List Column) (node : Node) (l : Lit) → node ≡ N.Literal l → false ≡ is_plain_column columns (means node)
lent-Literal columns node l is = no_column columns node _ _ is (means-Literal l) (column-Literal l)

pub lent-Step : (columns : List Column) (node : Node) (c : StepColumn) → node ≡ N.Step c → false ≡ is_plain_column columns (means node)
lent-Step columns node c is = no_column columns node _ _ is (means-Step c) (column-Step c)

pub lent-Call : (columns : List Column) (node : Node) (f : Func) (args : List Node) → node ≡ N.Call f args → false ≡ is_plain_column columns (means node)
lent-Call columns node f args is = no_column columns node _ _ is (means-Call f args) (column-Call f (map means args))

pub lent-Chain : (columns : List Column) (node first : Node) (links : List (ChainSign × Node)) → node ≡ N.Chain first links → false ≡ is_plain_column columns (means node)
lent-Chain columns node first links is = no_column columns node _ _ is (means-Chain first links) (column-Chain (means first) (map link_means links))

pub lent-Path : (columns : List Column) (node whole : Node) (steps : List Node) → node ≡ N.Path whole steps → false ≡ is_plain_column columns (means node)
lent-Path columns node whole steps is = no_column columns node _ _ is (means-Path whole steps) (column-Path (means whole) (map means steps))

pub lent-Window : (columns : List Column) (node : Node) (f : Window) (args : List Node) (kind : Option Kind) → node ≡ N.Window f args kind → false ≡ is_plain_column columns (means node)
lent-Window columns node f args kind is = no_column columns node _ _ is (means-Window f args kind) (column-Window f (map means args))

plain-name : (columns : List Column) (node other : Node) (n : List ℕ) (b : Bool) → node ≡ other → means other ≡ V.Column n → has_column n columns ≡ b → b ≡ is_plain_column columns (means node)
unfolding is_plain_column stands_in_if_column
plain-name columns node other n b is m h = sym (ap (λ x. stands_in_if_column columns (column_of (means x))) is ∙ (ap (λ x. stands_in_if_column columns (column_of x)) m ∙ (ap (stands_in_if_column columns) (column-Column n) ∙ h)))

-- A column is there where a place is found for its name.
abbrev is_named : List ℕ → Column → Bool
is_named n c = bytes_eq (column_name c) n

has-from : (n : List ℕ) (i : ℕ) (cs : List Column) → has_column n cs ≡ is_some (position_from (is_named n) i cs)
unfolding has_column is_name_among names_of
has-from n i [] = refl
has-from n i (c ∷ cs) = elim (cases_Bool (bytes_eq c.name n)) [
  | inl t ↦ rw t refl
  | inr f ↦ rw f (has-from n (i + 1) cs)
]

has-there : (n : List ℕ) (cs : List Column) → has_column n cs ≡ is_some (place_of column_name n cs)
has-there n cs = has-from n 0 cs ∙ ap is_some (sym (position_from-zero (is_named n) cs))

has-place : (n : List ℕ) (cs : List Column) (place : ℕ) → place_of column_name n cs ≡ Some place → has_column n cs ≡ true
has-place n cs place is = has-there n cs ∙ ap is_some is

has-none : (n : List ℕ) (cs : List Column) → place_of column_name n cs ≡ None → has_column n cs ≡ false
has-none n cs is = has-there n cs ∙ ap is_some is

pub lent-Column : (columns : List Column) (node : Node) (n : List ℕ) (place : ℕ) → IsPlaced columns node → node ≡ N.Column n place → true ≡ is_plain_column columns (means node)
lent-Column columns node n place h is = plain-name columns node _ n true is (means-Column n place) (has-place n columns place (parts-Column columns n place (subst (IsPlaced columns) is h)))

pub lent-Missing : (columns : List Column) (node : Node) (n : List ℕ) → IsPlaced columns node → node ≡ N.Missing n → false ≡ is_plain_column columns (means node)
lent-Missing columns node n h is = plain-name columns node _ n false is (means-Missing n) (has-none n columns (parts-Missing columns n (subst (IsPlaced columns) is h)))

pub ruleset lent_steps = (lent-Literal, lent-Step, lent-Call, lent-Chain, lent-Path, lent-Window, lent-Column, lent-Missing)
