-- Key columns, faults of items, and items that have a place each.
use Rattle.std.proofs.Common.{◌≡◌, ◌+◌, ℕ, Bool, true, false, List, [], ◌∷◌, ◌++◌, length, refl, sym, ap, ◌∙◌, subst}
use Rattle.std.specs.Prelude.{IfOk, Ok, Err, fold, option_to_list}
use Rattle.std.proofs.lemmas.List.{length-append}
use Rattle.kql_lexer.specs.declared.place.Place.{Place}
use Rattle.kql_meaning.specs.FittingExpressions.{column_of}
use Rattle.kql_meaning.specs.declared.position.Position.TheVariants as position
use Rattle.kql_syntax.specs.declared.query.Item.{Item}
use Rattle.bind_expr.specs.Outcome.{Answers, Outcome}
use Rattle.bind_expr.specs.declared.fault.BindFault.{BindFault}
use Rattle.bind_expr.specs.declared.fault.BindFault.TheVariants as fault
use Rattle.bind_expr.specs.declared.typed.Typed.{Typed}
use Rattle.bind_operators.specs.declared.items.NamedItems.{NamedItems}
use Rattle.bind_operators.specs.declared.known.Known.{Known}
use Rattle.bind_operators.specs.declared.shape.Shape.{Shape}
use Rattle.bind_operators.specs.Faults.{fault_if, unless}
use Rattle.bind_operators.specs.Items.{given_name, item_link, items_from, names_or_own, no_items, with_item}
use Rattle.bind_operators.specs.Known.{scope_at}
use Rattle.bind_operators.specs.Places.{item_start}
use Rattle.bind_operators.proofs.NameLaws.{from-even}
use Rattle.bind_groups.specs.Summarize.{column_alone, group_item, group_items_bound, group_key, group_keys_bound, group_scope}

-- The column that a key is.

pub alone-bound : (r d : Outcome Typed) (t : Typed) (names : List (List ℕ)) → r ≡ Ok t → Answers r d → names ≡ option_to_list (column_of t.expr) → names ≡ column_alone d
alone-bound r d t names is a e =
    let there : Answers (Ok t) d = subst (λ s. Answers s d) is a in
    e ∙ sym (ap column_alone (there.holds))

pub alone-refused : (r d : Outcome Typed) (code : ℕ) (place : Place) (names : List (List ℕ)) → r ≡ Err (fault.Refused code place) → Answers r d → names ≡ [] → names ≡ column_alone d
alone-refused r d code place names is a e =
    let there : Answers (Err (fault.Refused code place)) d = subst (λ s. Answers s d) is a in
    e ∙ sym (ap column_alone (there.holds))

pub ruleset alone_steps = (alone-bound, alone-refused)

-- Each item has its place.

pub items-even : (operator : Place) (known : Known) (rows : Shape) (items keys : List Item) (r : Outcome NamedItems) (done : NamedItems) → r ≡ Ok done → Answers r (group_items_bound operator known rows items keys) → length done.places ≡ length done.items
unfolding group_items_bound
items-even operator known rows items keys r done is a = from-even (group_item operator (group_scope known rows keys)) 1 items r done is a

pub keys-even : (known : Known) (rows : Shape) (n : ℕ) (keys : List Item) (r : Outcome NamedItems) (done : NamedItems) → r ≡ Ok done → Answers r (group_keys_bound known rows n keys) → length done.places ≡ length done.items
unfolding group_keys_bound
keys-even known rows n keys r done is a = from-even (group_key (scope_at known rows position.Plain)) n keys r done is a

pub ruleset even_steps = (items-even, keys-even)
