-- `mv-expand`: dynamic items, each with the type that its parts are converted to.
use Rattle.std.specs.Prelude.{Bool, true, false, List, [], ◌∷◌, ◌++◌, Option, None, Some, Ok, fold, map}
use Rattle.kql_cells.specs.declared.value.Kind.{Kind}
use Rattle.kql_cells.specs.declared.value.Kind.TheVariants as kind
use Rattle.kql_lexer.specs.declared.place.Place.{Place}
use Rattle.kql_bound.specs.declared.parts.Expand.{Expand as ExpandPlan}
use Rattle.kql_bound.specs.declared.parts.ExpandItem.{ExpandItem}
use Rattle.kql_bound.specs.declared.plan.Op.TheVariants as op
use Rattle.kql_meaning.specs.declared.position.Position.TheVariants as position
use Rattle.kql_meaning.specs.MvExpand.{expand_columns}
use Rattle.kql_syntax.specs.declared.query.Expand.{Expand}
use Rattle.kql_syntax.specs.declared.query.ExpandKind.{ExpandKind}
use Rattle.kql_syntax.specs.declared.query.ExpandKind.TheVariants as expand
use Rattle.kql_syntax.specs.declared.query.Item.{Item}
use Rattle.bind_expr.specs.Outcome.{Outcome, ◌>>=◌}
use Rattle.bind_expr.specs.declared.fault.BindFault.{BindFault}
use Rattle.bind_expr.specs.declared.scope.Scope.{Scope}
use Rattle.bind_expr.specs.declared.typed.Typed.{Typed}
use Rattle.bind_operators.specs.declared.bound.BoundOp.{BoundOp}
use Rattle.bind_operators.specs.declared.known.Known.{Known}
use Rattle.bind_groups.specs.declared.part.ExpandPart.{ExpandPart}
use Rattle.bind_groups.specs.declared.part.NamedExpands.{NamedExpands}
use Rattle.bind_operators.specs.declared.shape.Shape.{Shape}
use Rattle.bind_operators.specs.declared.wanted.Wanted.TheVariants as wanted
use Rattle.bind_operators.specs.Answers.{answer}
use Rattle.bind_operators.specs.Items.{given_name, names_or_own, number_behind, one_name, twice}
use Rattle.bind_operators.specs.Known.{scope_at}
use Rattle.bind_operators.specs.Places.{item_start}
use Rattle.bind_operators.specs.Wanted.{kind_or, typed_bound}

-- Entries of bags are bags unless `kind=array` is given.
unfoldable pub is_array : Option ExpandKind → Bool
is_array None = false
is_array (Some (expand.Bag place)) = false
is_array (Some (expand.Array place)) = true

abbrev pub expand_part : Typed → Kind → ExpandPart
expand_part t to = record { typed = t; to = to }

-- An item is dynamic, and its parts stay so where no type is given.
unfoldable pub expand_part_bound : Scope → Expand → Outcome ExpandPart
expand_part_bound scope x = do
  t ← typed_bound (wanted.Is kind.Dynamic) x.item.value scope
  to ← kind_or kind.Dynamic x.to
  Ok (expand_part t to)

-- One item more under its name.
unfoldable pub with_expand : NamedExpands → Item → ExpandPart → NamedExpands
with_expand done item x = record {
  items = done.items ++ record { name = one_name (names_or_own done.next (given_name item) x.typed.expr); expr = x.typed.expr; to = x.to } ∷ [];
  places = done.places ++ item_start item ∷ [];
  next = number_behind done.next (given_name item) x.typed.expr;
}

abbrev pub expand_link : Outcome NamedExpands → Item → Outcome ExpandPart → Outcome NamedExpands
expand_link before item next = do
  done ← before
  x ← next
  Ok (with_expand done item x)

unfoldable pub no_expands : NamedExpands
no_expands = record { items = []; places = []; next = 1 }

unfoldable pub expands_bound : Scope → List Expand → Outcome NamedExpands
expands_bound scope items = fold (λ before (x : Expand). expand_link before x.item (expand_part_bound scope x)) (Ok no_expands) items

-- The operator.

unfoldable pub expand_faults : NamedExpands → List BindFault
expand_faults done = twice [] done.places (map (λ (i : ExpandItem). i.name ∷ []) done.items)

abbrev pub expand_answer : Place → Shape → List BindFault → ExpandPlan → Outcome BoundOp
expand_answer operator rows faults plan = answer operator faults (op.MvExpand plan) (expand_columns plan rows.columns) rows.serial

unfoldable pub expanded : Place → Option ExpandKind → Shape → NamedExpands → Outcome BoundOp
expanded operator form rows done = expand_answer operator rows (expand_faults done) (record { array = is_array form; items = done.items })

unfoldable pub mv_expand_bound : Place → Option ExpandKind → List Expand → Known → Shape → Outcome BoundOp
mv_expand_bound operator form items known rows = expands_bound (scope_at known rows position.Plain) items >>= expanded operator form rows
