-- The places that stand in the tree of an expression, and where a refusal is told.
use Rattle.std.specs.Prelude.{◌≡◌, ℕ, List, [], ◌∷◌, ◌++◌, Contains, Err}
use Rattle.std.specs.List.{flat_map}
use Rattle.kql_lexer.specs.declared.place.Place.{Place}
use Rattle.kql_syntax.specs.declared.tree.Access.TheOpen.{Access-F, And-F, Arg-F, Cmp-F, Expr-F, Post-F, Prod-F, Sign-F, Sum-F, Term-F}
use Rattle.kql_syntax.specs.declared.tree.Expr.{Expr, fold-Expr}
use Rattle.kql_syntax.specs.declared.tree.Literal.{Literal}
use Rattle.kql_syntax.specs.declared.tree.Literal.TheVariants as literal
use Rattle.kql_syntax.specs.declared.tree.Name.{Name}
use Rattle.kql_syntax.specs.declared.tree.Name.TheVariants as name
use Rattle.kql_syntax.specs.declared.tree.ProdSign.{ProdSign}
use Rattle.kql_syntax.specs.declared.tree.SumSign.{SumSign}
use Rattle.bind_expr.specs.Bound.{bound_expr}
use Rattle.bind_expr.specs.Names.{name_bound}
use Rattle.bind_expr.specs.declared.fault.BindFault.TheVariants as fault
use Rattle.bind_expr.specs.declared.scope.Scope.{Scope}

abbrev pub name_place : Name → Place
name_place (name.Bare w) = w.place
name_place (name.Quoted place n) = place

abbrev pub literal_place : Literal → Place
literal_place (literal.Number place n) = place
literal_place (literal.Span place n) = place
literal_place (literal.Text place text) = place
literal_place (literal.True place) = place
literal_place (literal.False place) = place
literal_place (literal.Typed place w text) = place

-- The places of a part, in the order of the text.
abbrev pub Places : Type 0
Places = List Place

-- Those of several parts.
abbrev pub places_of_all : List Places → Places
places_of_all parts = flat_map (λ (ps : Places). ps) parts

-- Those of parts behind words.
abbrev pub places_behind : List (Place × Places) → Places
places_behind more = flat_map (λ (l : Place × Places). l.0 ∷ l.1) more

abbrev pub expr_places_step : Expr-F Places Places Places Places Places Places Places Places Places Places → Places
expr_places_step e = e.first ++ places_behind e.more

abbrev pub and_places_step : And-F Places Places Places Places Places Places Places Places Places Places → Places
and_places_step e = e.first ++ places_behind e.more

abbrev pub cmp_places_step : Cmp-F Places Places Places Places Places Places Places Places Places Places → Places
cmp_places_step (Cmp-F.«Cmp::Plain» s) = s
cmp_places_step (Cmp-F.Compared s sign other) = s ++ sign.place ∷ other
cmp_places_step (Cmp-F.In s sign others) = s ++ sign.place ∷ places_of_all others
cmp_places_step (Cmp-F.Between s sign bounds) = s ++ sign.place ∷ (bounds.0 ++ bounds.1)

abbrev pub sum_places_step : Sum-F Places Places Places Places Places Places Places Places Places Places → Places
sum_places_step s = s.first ++ flat_map (λ (l : SumSign × Places). l.0.place ∷ l.1) s.more

abbrev pub prod_places_step : Prod-F Places Places Places Places Places Places Places Places Places Places → Places
prod_places_step p = p.first ++ flat_map (λ (l : ProdSign × Places). l.0.place ∷ l.1) p.more

abbrev pub sign_places_step : Sign-F Places Places Places Places Places Places Places Places Places Places → Places
sign_places_step (Sign-F.«Sign::Plain» p) = p
sign_places_step (Sign-F.Minus place p) = place ∷ p

abbrev pub post_places_step : Post-F Places Places Places Places Places Places Places Places Places Places → Places
post_places_step p = p.first ++ places_of_all p.more

abbrev pub access_places_step : Access-F Places Places Places Places Places Places Places Places Places Places → Places
access_places_step (Access-F.Entry place w) = place ∷ w.place ∷ []
access_places_step (Access-F.Element place e) = place ∷ e

abbrev pub term_places_step : Term-F Places Places Places Places Places Places Places Places Places Places → Places
term_places_step (Term-F.Literal l) = literal_place l ∷ []
term_places_step (Term-F.Name n) = name_place n ∷ []
term_places_step (Term-F.Call w args) = w.place ∷ places_of_all args
term_places_step (Term-F.Group place e) = place ∷ e

abbrev pub arg_places_step : Arg-F Places Places Places Places Places Places Places Places Places Places → Places
arg_places_step (Arg-F.«Arg::Plain» e) = e
arg_places_step (Arg-F.Star place) = place ∷ []

-- All places of an expression: of its names, words, literals, signs, brackets and calls.
unfoldable pub expr_places : Expr → Places
expr_places = fold-Expr Places Places Places Places Places Places Places Places Places Places access_places_step arg_places_step cmp_places_step sign_places_step term_places_step and_places_step expr_places_step post_places_step prod_places_step sum_places_step

-- A refusal is told at a place that stands in the expression.
abbrev pub BoundIsPlaced : Type 0
BoundIsPlaced = (e : Expr) (scope : Scope) (code : ℕ) (place : Place) → bound_expr e scope ≡ Err (fault.Refused code place) → Contains (expr_places e) place

-- That of a name alone is told at the name's own place.
abbrev pub NameIsPlaced : Type 0
NameIsPlaced = (n : Name) (scope : Scope) (code : ℕ) (place : Place) → name_bound n scope ≡ Err (fault.Refused code place) → place ≡ name_place n
