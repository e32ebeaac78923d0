-- `parse` in both kinds: a text, and the pattern that it is cut by.
use Rattle.std.specs.Prelude.{Bool, true, false, List, [], ◌∷◌, Option, None, Some, Ok}
use Rattle.kql_cells.specs.declared.value.Kind.{Kind}
use Rattle.kql_cells.specs.declared.value.Kind.TheVariants as kind
use Rattle.kql_lexer.specs.declared.place.Place.{Place}
use Rattle.kql_bound.specs.declared.parts.ParsePlan.{ParsePlan}
use Rattle.kql_bound.specs.declared.parts.PatItem.{PatItem}
use Rattle.kql_bound.specs.declared.parts.PatItem.TheVariants as item
use Rattle.kql_bound.specs.declared.plan.Op.TheVariants as op
use Rattle.kql_meaning.specs.declared.position.Position.TheVariants as position
use Rattle.kql_meaning.specs.Parse.{parse_columns}
use Rattle.kql_syntax.specs.declared.query.ParseKind.{ParseKind}
use Rattle.kql_syntax.specs.declared.query.ParseKind.TheVariants as parse
use Rattle.kql_syntax.specs.declared.query.Pat.{Pat}
use Rattle.kql_syntax.specs.declared.query.Pat.TheVariants as pat
use Rattle.kql_syntax.specs.declared.tree.Expr.{Expr}
use Rattle.kql_syntax.specs.declared.tree.Name.{Name}
use Rattle.bind_expr.specs.Names.{text_of}
use Rattle.bind_expr.specs.Outcome.{Outcome, ◌>>=◌}
use Rattle.bind_expr.specs.declared.typed.Typed.{Typed}
use Rattle.bind_operators.specs.declared.bound.BoundOp.{BoundOp}
use Rattle.bind_operators.specs.declared.known.Known.{Known}
use Rattle.bind_operators.specs.declared.shape.Shape.{Shape}
use Rattle.bind_operators.specs.declared.wanted.Wanted.TheVariants as wanted
use Rattle.bind_operators.specs.Answers.{answer}
use Rattle.bind_operators.specs.Faults.{each_bound}
use Rattle.bind_operators.specs.Items.{names_twice}
use Rattle.bind_operators.specs.Known.{scope_at}
use Rattle.bind_operators.specs.Wanted.{kind_or, typed_bound}

unfoldable pub is_relaxed : Option ParseKind → Bool
is_relaxed None = false
is_relaxed (Some (parse.Simple place)) = false
is_relaxed (Some (parse.Relaxed place)) = true

abbrev pub column_of_type : Name → Kind → PatItem
column_of_type n k = item.Column (text_of n) k

-- Columns are of type string unless another is given.
unfoldable pub pat_bound : Pat → Outcome PatItem
pat_bound (pat.Star place) = Ok item.Star
pat_bound (pat.Text place text) = Ok (item.Literal text)
pat_bound (pat.Column n word) = do
  k ← kind_or kind.Text word
  Ok (column_of_type n k)

-- The names of a pattern's columns.
unfoldable pub pattern_names : List Pat → List Name
pattern_names [] = []
pattern_names (pat.Star place ∷ ps) = pattern_names ps
pattern_names (pat.Text place text ∷ ps) = pattern_names ps
pattern_names (pat.Column n word ∷ ps) = n ∷ pattern_names ps

unfoldable pub parse_plan : Option ParseKind → Typed → List PatItem → ParsePlan
parse_plan form text pattern = record { relaxed = is_relaxed form; text = text.expr; pattern = pattern }

unfoldable pub parsed : Place → Shape → List Pat → ParsePlan → Outcome BoundOp
parsed operator rows pattern plan =
    answer operator (names_twice [] (pattern_names pattern)) (op.Parse plan) (parse_columns plan rows.columns) rows.serial

unfoldable pub parse_bound : Place → Option ParseKind → Expr → List Pat → Known → Shape → Outcome BoundOp
parse_bound operator form e pattern known rows = do
  text ← typed_bound (wanted.Is kind.Text) e (scope_at known rows position.Plain)
  items ← each_bound pat_bound pattern
  parsed operator rows pattern (parse_plan form text items)
