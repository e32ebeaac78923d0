-- A bound `extend`, and a bound `serialize`, is sound.
use Rattle.std.proofs.Common.{◌≡◌, refl, subst}
use Rattle.std.specs.Prelude.{ℕ, Bool, List, [], ◌∷◌, Ok}
use Rattle.kql_lexer.specs.declared.place.Place.{Place}
use Rattle.kql_bound.specs.declared.plan.Op.TheVariants as op
use Rattle.kql_meaning.specs.declared.position.Position.TheVariants as position
use Rattle.kql_meaning.specs.Extend.{extend_columns}
use Rattle.kql_meaning.specs.FittingOperators.{items_fit}
use Rattle.kql_meaning.proofs.OperatorFitLaws.{op-Extend, op-Serialize}
use Rattle.kql_syntax.specs.declared.query.Item.{Item}
use Rattle.bind_expr.specs.declared.scope.Scope.{Scope}
use Rattle.bind_operators.specs.declared.bound.BoundOp.{BoundOp}
use Rattle.bind_operators.specs.declared.items.NamedItems.{NamedItems}
use Rattle.bind_operators.specs.declared.known.Known.{Known}
use Rattle.bind_operators.specs.declared.shape.Shape.{Shape}
use Rattle.bind_operators.specs.Answers.{answer, over, serialised}
use Rattle.bind_operators.specs.Extend.{extend_bound, extended, lending, own_left, serialize_bound}
use Rattle.bind_operators.specs.Items.{items_bound, twice_items}
use Rattle.bind_operators.specs.Known.{scope_at}
use Rattle.bind_operators.proofs.NameLaws.{extended-once}
use Rattle.bind_query_laws.specs.Sound.{AreColumns, IsSoundKnown, IsSoundOp, read_known}
use Rattle.bind_query_laws.proofs.Frame.{after-ok, answer-sound, good, items-sound, ok-same, places-even, window-free}

-- What is said of an operator does not rest on which columns are still a table's own.
of-lending : (known : Known) (inside : Bool) (rows : Shape) (own : List (List ℕ)) (x b : BoundOp) → good (lending own x) ≡ Ok b → IsSoundOp known inside rows x → IsSoundOp known inside rows b
unfolding lending
of-lending known inside rows own x b e h = subst (IsSoundOp known inside rows) (ok-same (lending own x) b e) (record { fits = h.fits; columns = h.columns })

pub extend_sound : (operator : Place) (items : List Item) (known : Known) (rows : Shape) (b : BoundOp) → IsSoundKnown known → AreColumns rows.columns → extend_bound operator items known rows ≡ Ok b → (inside : Bool) → IsSoundOp known inside rows b
unfolding extend_bound extended
extend_sound operator items known rows b sound names is inside =
    let scope : Scope = scope_at known rows position.Window in
    let first = after-ok (items_bound scope items) (extended operator rows) b is in
    let done : NamedItems = first.0 in
    let made = after-ok (answer operator (twice_items done) (op.Extend done.items) (extend_columns done.items rows.columns) rows.serial) (λ x. Ok (lending (own_left done.items rows.own) x)) b first.2 in
    of-lending known inside rows (own_left done.items rows.own) made.0 b made.2
    (answer-sound known inside rows operator (twice_items done) (op.Extend done.items) (extend_columns done.items rows.columns) rows.serial made.0
    (items_fit done.items rows.columns position.Window)
    (op-Extend done.items (read_known known) inside rows.columns)
    (λ none. (
      items-sound known rows position.Window items done window-free sound names first.1,
      extended-once done rows.columns (extend_columns done.items rows.columns) names (places-even scope items done first.1) none refl,
    ))
    made.1)

-- Rows that are serialised have the columns of those before.
of-serialised : (known : Known) (inside : Bool) (rows : Shape) (b : BoundOp) → IsSoundOp known inside (serialised rows) b → IsSoundOp known inside rows b
unfolding serialised
of-serialised known inside rows b h = record { fits = h.fits; columns = h.columns }

pub serialize_sound : (operator : Place) (items : List Item) (known : Known) (rows : Shape) (b : BoundOp) → IsSoundKnown known → AreColumns rows.columns → serialize_bound operator items known rows ≡ Ok b → (inside : Bool) → IsSoundOp known inside rows b
unfolding serialize_bound over serialised
serialize_sound operator [] known rows b sound names is inside =
    subst (IsSoundOp known inside rows) (ok-same (over op.Serialize (serialised rows)) b is) (record {
      fits = op-Serialize (read_known known) inside rows.columns;
      columns = names;
    })
serialize_sound operator (item ∷ items) known rows b sound names is inside =
    of-serialised known inside rows b (extend_sound operator (item ∷ items) known (serialised rows) b sound names is inside)
