-- The items of `print`, one after another.
use Rattle.std.proofs.Common.{◌≡◌, ◌<◌, ◌+◌, ℕ, List, [], get_or, length, take, refl, sym, subst, ap}
use Rattle.std.specs.Prelude.{Ok}
use Rattle.kql_syntax.specs.declared.query.Item.{Item}
use Rattle.bind_expr.specs.Outcome.{Answers, Outcome}
use Rattle.bind_expr.specs.declared.scope.Scope.{Scope}
use Rattle.bind_expr.specs.declared.typed.Typed.{Typed}
use Rattle.bind_operators.specs.declared.items.NamedItems.{NamedItems}
use Rattle.bind_operators.specs.Items.{given_name, item_in, no_items}
use Rattle.bind_operators.specs.Places.{item_start}
use Rattle.bind_operators.specs.Sources.{print_items, print_link, print_names, with_print_item}
use Rattle.bind_operators.proofs.AnswerSteps.{step-turn}
use Rattle.bind_operators.proofs.NameLaws.{names-even, of-ok, steps-even}

pub print-start : (scope : Scope) (done : NamedItems) → done ≡ no_items 0 → Answers (Ok done) (print_items scope [])
unfolding print_items
print-start scope done is = record { holds = ap (λ d. Ok d) (sym is) }

pub print-turn : (scope : Scope) (xs : List Item) (i : ℕ) (d : Item) (before : Outcome NamedItems) (next : Outcome Typed) (result : Outcome NamedItems) → i < length xs → Answers before (print_items scope (take i xs)) → Answers next (item_in scope (get_or xs i d)) → Answers result (print_link before (get_or xs i d) next) → Answers result (print_items scope (take (i + 1) xs))
unfolding print_items
print-turn scope xs i d before next result l a b h = step-turn with_print_item (item_in scope) (Ok (no_items 0)) xs i d before next result l a b h

pub ruleset print_steps = (print-start, print-turn)

pub print-even : (scope : Scope) (items : List Item) (r : Outcome NamedItems) (done : NamedItems) → r ≡ Ok done → Answers r (print_items scope items) → length done.places ≡ length done.items
unfolding print_items no_items with_print_item
print-even scope items r done is a =
    let there : Answers (Ok done) (print_items scope items) = subst (λ s. Answers s (print_items scope items)) is a in
    of-ok (print_items scope items) done (there.holds)
    (steps-even with_print_item (λ d item t h. names-even d (item_start item) (print_names d.next (given_name item)) t.expr (d.next + 1) h) (item_in scope) items (Ok (no_items 0)) refl)

pub ruleset print_even_steps = (print-even)
