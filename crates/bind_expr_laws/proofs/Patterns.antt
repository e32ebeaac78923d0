-- A call of a pattern that is bound has its type and fits: its arguments are a column of strings and a string.
use Rattle.std.proofs.Common.{◌≡◌, ℕ, Bool, true, false, ◌&&◌, List, [], ◌∷◌, refl}
use Rattle.std.specs.Prelude.{Option, None, Some}
use Rattle.std.proofs.lemmas.Bool.{and_parts}
use Rattle.kql_cells.specs.declared.value.Kind.{Kind}
use Rattle.kql_cells.specs.declared.value.Kind.TheVariants as kind
use Rattle.kql_cells.specs.declared.value.Value.TheVariants as value
use Rattle.kql_functions.specs.declared.func.Func.TheVariants as func
use Rattle.kql_functions.specs.declared.func.PatternFunc.{PatternFunc}
use Rattle.kql_lexer.specs.declared.place.Place.{Place}
use Rattle.kql_bound.specs.declared.expr.BExpr.TheVariants as V
use Rattle.kql_meaning.specs.Expressions.{column_kind}
use Rattle.kql_meaning.specs.FittingExpressions.{is_callable, part_fits}
use Rattle.kql_syntax.specs.declared.tree.Arg.{Arg}
use Rattle.kql_syntax.specs.declared.tree.Literal.{Literal}
use Rattle.kql_syntax.specs.declared.tree.Literal.TheVariants as literal
use Rattle.kql_syntax.specs.declared.tree.Name.{Name}
use Rattle.kql_syntax.specs.declared.tree.Sum.{Sum}
use Rattle.bind_expr.specs.Arguments.{is_among}
use Rattle.bind_expr.specs.Names.{text_of}
use Rattle.bind_expr.specs.Patterns.{arg_literal, arg_name, extract_bound, extract_of, group_if, is_searchable, is_text, match_bound, pattern_func, refused_here, search_of, search_or_refuse, searched, sum_literal, sum_name}
use Rattle.bind_expr.specs.declared.scope.Scope.{Scope}
use Rattle.bind_expr_laws.proofs.Constants.{literal-part, value-literal}
use Rattle.bind_expr_laws.proofs.Outcomes.{Gives}
use Rattle.bind_expr_laws.proofs.Parts.{IsBound, IsPlain, call-bound}
use Rattle.bind_expr_laws.proofs.Shapes.{Spot}
use Rattle.bind_expr_laws.proofs.Terms.{column-part}

plain-pattern : (f : PatternFunc) → IsPlain (func.Pattern f)
unfolding is_callable part_fits
plain-pattern f = record { callable = refl; part = λ es. refl }

refused-bound : (scope : Scope) (spot : Spot) (word : Place) → Gives (IsBound scope spot) (refused_here word)
unfolding refused_here
refused-bound scope spot word = record { holds = tt }

text-is : (o : Option Kind) → is_text o ≡ true → o ≡ Some kind.Text
text-is None e = cc
text-is (Some kind.Text) e = refl
text-is (Some kind.Bool) e = cc
text-is (Some kind.Long) e = cc
text-is (Some kind.Moment) e = cc
text-is (Some kind.Span) e = cc
text-is (Some kind.Dynamic) e = cc

search-bound : (scope : Scope) (spot : Spot) (word : Place) (g : Option ℕ) (c : List ℕ) (place : Place) (text : List ℕ) (b : Bool) → is_searchable scope c ≡ b → Gives (IsBound scope spot) (search_or_refuse word g c place text b)
unfolding is_searchable
search-bound scope spot word g c place text true e =
    call-bound scope spot word (pattern_func g word place) (V.Column c ∷ V.Literal (record { kind = kind.Text; value = value.Text text }) ∷ []) (kind.Text ∷ kind.Text ∷ []) (plain-pattern (record { group = g; word = word; literal = place })) (
      column-part scope spot.position c kind.Text (text-is (column_kind c scope.schema) (and_parts (is_text (column_kind c scope.schema)) (is_among scope.own c) e).0),
      (literal-part scope spot.position (record { kind = kind.Text; value = value.Text text }) (value-literal kind.Text (value.Text text) (tt, tt)), tt),
    )
search-bound scope spot word g c place text false e = refused-bound scope spot word

searched-bound : (scope : Scope) (spot : Spot) (word : Place) (g : Option ℕ) (c : List ℕ) (l : Literal) → Gives (IsBound scope spot) (searched word g scope c l)
unfolding searched
searched-bound scope spot word g c (literal.Text place text) = search-bound scope spot word g c place text (is_searchable scope c) refl
searched-bound scope spot word g c (literal.Number place n) = refused-bound scope spot word
searched-bound scope spot word g c (literal.Span place n) = refused-bound scope spot word
searched-bound scope spot word g c (literal.True place) = refused-bound scope spot word
searched-bound scope spot word g c (literal.False place) = refused-bound scope spot word
searched-bound scope spot word g c (literal.Typed place w text) = refused-bound scope spot word

search-of-bound : (scope : Scope) (spot : Spot) (word : Place) (g : Option ℕ) (n : Option Name) (l : Option Literal) → Gives (IsBound scope spot) (search_of word g scope n l)
search-of-bound scope spot word g (Some n) (Some l) = searched-bound scope spot word g (text_of n) l
search-of-bound scope spot word g (Some n) None = refused-bound scope spot word
search-of-bound scope spot word g None l = refused-bound scope spot word

pub match-bound : (scope : Scope) (spot : Spot) (word : Place) (c p : Sum) → Gives (IsBound scope spot) (match_bound word scope c p)
unfolding match_bound
match-bound scope spot word c p = search-of-bound scope spot word None (sum_name c) (sum_literal p)

extract-of-bound : (scope : Scope) (spot : Spot) (word : Place) (l : Option Literal) (g : Option ℕ) (n : Option Name) → Gives (IsBound scope spot) (extract_of word scope l g n)
extract-of-bound scope spot word l None n = refused-bound scope spot word
extract-of-bound scope spot word l (Some g) n = search-of-bound scope spot word (Some g) n l

pub extract-bound : (scope : Scope) (spot : Spot) (word : Place) (args : List Arg) → Gives (IsBound scope spot) (extract_bound word scope args)
unfolding extract_bound
extract-bound scope spot word [] = refused-bound scope spot word
extract-bound scope spot word (p ∷ []) = refused-bound scope spot word
extract-bound scope spot word (p ∷ n ∷ []) = refused-bound scope spot word
extract-bound scope spot word (p ∷ n ∷ c ∷ []) = extract-of-bound scope spot word (arg_literal p) (group_if (arg_literal n)) (arg_name c)
extract-bound scope spot word (p ∷ n ∷ c ∷ d ∷ more) = refused-bound scope spot word
