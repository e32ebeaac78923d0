-- A bound `parse` is sound.
use Rattle.std.proofs.Common.{◌≡◌, Bool, false, List, [], ◌∷◌, refl, ap, ◌∙◌}
use Rattle.std.specs.Prelude.{not, Ok, Option}
use Rattle.std.proofs.lemmas.Bool.{and_from}
use Rattle.kql_cells.specs.declared.value.Kind.TheVariants as kind
use Rattle.kql_functions.specs.Kinds.{same_kind}
use Rattle.kql_lexer.specs.declared.place.Place.{Place}
use Rattle.kql_bound.specs.declared.parts.ParsePlan.{ParsePlan}
use Rattle.kql_bound.specs.declared.parts.PatItem.{PatItem}
use Rattle.kql_bound.specs.declared.plan.Op.TheVariants as op
use Rattle.kql_meaning.specs.declared.position.Position.TheVariants as position
use Rattle.kql_meaning.specs.FittingExpressions.{fits_as, scope_of, takes_columns}
use Rattle.kql_meaning.specs.FittingOperators.{is_empty, parse_fits}
use Rattle.kql_meaning.specs.Parse.{parse_columns}
use Rattle.kql_meaning.proofs.OperatorFitLaws.{op-Parse}
use Rattle.kql_syntax.specs.declared.query.ParseKind.{ParseKind}
use Rattle.kql_syntax.specs.declared.query.Pat.{Pat}
use Rattle.kql_syntax.specs.declared.tree.Expr.{Expr}
use Rattle.bind_expr.specs.Outcome.{◌>>=◌}
use Rattle.bind_expr.specs.declared.scope.Scope.{Scope}
use Rattle.bind_expr.specs.declared.typed.Typed.{Typed}
use Rattle.bind_operators.specs.declared.bound.BoundOp.{BoundOp}
use Rattle.bind_operators.specs.declared.known.Known.{Known}
use Rattle.bind_operators.specs.declared.shape.Shape.{Shape}
use Rattle.bind_operators.specs.declared.wanted.Wanted.TheVariants as wanted
use Rattle.bind_operators.specs.Faults.{each_bound}
use Rattle.bind_operators.specs.Items.{names_twice}
use Rattle.bind_operators.specs.Known.{scope_at}
use Rattle.bind_operators.specs.Wanted.{takes, typed_bound}
use Rattle.bind_groups.specs.Parse.{parse_bound, parse_plan, parsed, pat_bound, pattern_names}
use Rattle.bind_groups.proofs.EachLaws.{each-relates}
use Rattle.bind_groups.proofs.ParseLaws.{parse-once, pattern-named}
use Rattle.bind_query_laws.specs.Sound.{AreColumns, IsSoundKnown, IsSoundOp, read_known}
use Rattle.bind_query_laws.proofs.Frame.{after-ok, answer-sound, fits-typed, scope-sound, typed-sound}

-- As many items as are written.

abbrev SameEnd : List Pat → List PatItem → Type 0
SameEnd ps items = is_empty items ≡ is_empty ps

some-more : (p : Pat) (y : PatItem) (ps : List Pat) (items : List PatItem) → pat_bound p ≡ Ok y → SameEnd ps items → SameEnd (p ∷ ps) (y ∷ items)
unfolding is_empty
some-more p y ps items e h = refl

none-more : SameEnd [] []
unfolding is_empty
none-more = refl

pattern-some : (ps : List Pat) (items : List PatItem) → each_bound pat_bound ps ≡ Ok items → is_empty ps ≡ false → is_empty items ≡ false
pattern-some ps items e some = each-relates pat_bound SameEnd none-more some-more ps items e ∙ some

-- The operator. A text of `parse` has a pattern that is not empty.

pub parse_sound : (operator : Place) (form : Option ParseKind) (e : Expr) (pattern : List Pat) (known : Known) (rows : Shape) (b : BoundOp) → IsSoundKnown known → AreColumns rows.columns → is_empty pattern ≡ false → parse_bound operator form e pattern known rows ≡ Ok b → (inside : Bool) → IsSoundOp known inside rows b
unfolding parse_bound parsed parse_fits parse_plan takes takes_columns
parse_sound operator form e pattern known rows b sound names some is inside =
    let scope : Scope = scope_at known rows position.Plain in
    let first = after-ok (typed_bound (wanted.Is kind.Text) e scope) (λ (text : Typed). each_bound pat_bound pattern >>= λ items. parsed operator rows pattern (parse_plan form text items)) b is in
    let text : Typed = first.0 in
    let next = after-ok (each_bound pat_bound pattern) (λ (items : List PatItem). parsed operator rows pattern (parse_plan form text items)) b first.2 in
    let items : List PatItem = next.0 in
    let plan : ParsePlan = parse_plan form text items in
    let h = typed-sound (wanted.Is kind.Text) e scope text (scope-sound known rows position.Plain sound names) first.1 in
    answer-sound known inside rows operator (names_twice [] (pattern_names pattern)) (op.Parse plan) (parse_columns plan rows.columns) rows.serial b
    (parse_fits plan rows.columns)
    (op-Parse plan (read_known known) inside rows.columns)
    (λ none. (
      and_from (fits_as (same_kind kind.Text) text.expr (scope_of rows.columns) position.Plain) (not (is_empty items))
          (fits-typed (same_kind kind.Text) known rows position.Plain text refl h.0 h.1) (ap not (pattern-some pattern items next.1 some)),
      parse-once plan pattern rows.columns (parse_columns plan rows.columns) names (pattern-named (Ok items) items pattern form text plan refl (record { holds = next.1 }) refl) none refl,
    ))
    next.2
