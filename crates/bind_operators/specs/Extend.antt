-- `extend`, and `serialize`, whose rows count as serialised for its own items too.
use Rattle.std.specs.Prelude.{ℕ, not, List, [], ◌∷◌, filter, Ok}
use Rattle.kql_lexer.specs.declared.place.Place.{Place}
use Rattle.kql_bound.specs.declared.parts.BItem.{BItem}
use Rattle.kql_bound.specs.declared.plan.Op.TheVariants as op
use Rattle.kql_meaning.specs.declared.position.Position.TheVariants as position
use Rattle.kql_meaning.specs.Extend.{extend_columns}
use Rattle.kql_meaning.specs.Items.{items_names}
use Rattle.kql_meaning.specs.Tables.{is_name_among}
use Rattle.kql_syntax.specs.declared.query.Item.{Item}
use Rattle.bind_expr.specs.Outcome.{Outcome, ◌>>=◌}
use Rattle.bind_operators.specs.declared.bound.BoundOp.{BoundOp}
use Rattle.bind_operators.specs.declared.items.NamedItems.{NamedItems}
use Rattle.bind_operators.specs.declared.known.Known.{Known}
use Rattle.bind_operators.specs.declared.shape.Shape.{Shape}
use Rattle.bind_operators.specs.Answers.{answer, over, serialised}
use Rattle.bind_operators.specs.Items.{items_bound, twice_items}
use Rattle.bind_operators.specs.Known.{scope_at}

-- Names that are none of these.
unfoldable pub names_left : List (List ℕ) → List (List ℕ) → List (List ℕ)
names_left set names = filter (λ (n : List ℕ). not (is_name_among set n)) names

-- The columns of the table itself that items leave.
unfoldable pub own_left : List BItem → List (List ℕ) → List (List ℕ)
own_left items own = names_left (items_names items) own

-- The rows behind an operator, of which these columns are still the table's own.
unfoldable pub lending : List (List ℕ) → BoundOp → BoundOp
lending own b = record { op = b.op; after = record { columns = b.after.columns; serial = b.after.serial; own = own } }

abbrev pub lent : List (List ℕ) → Outcome BoundOp → Outcome BoundOp
lent own made = made >>= λ b. Ok (lending own b)

unfoldable pub extended : Place → Shape → NamedItems → Outcome BoundOp
extended operator rows done =
    lent (own_left done.items rows.own) (answer operator (twice_items done) (op.Extend done.items) (extend_columns done.items rows.columns) rows.serial)

unfoldable pub extend_bound : Place → List Item → Known → Shape → Outcome BoundOp
extend_bound operator items known rows = items_bound (scope_at known rows position.Window) items >>= extended operator rows

unfoldable pub serialize_bound : Place → List Item → Known → Shape → Outcome BoundOp
serialize_bound operator [] known rows = Ok (over op.Serialize (serialised rows))
serialize_bound operator (item ∷ items) known rows = extend_bound operator (item ∷ items) known (serialised rows)
