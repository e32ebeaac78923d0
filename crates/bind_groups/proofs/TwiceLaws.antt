-- Faults of which the first ones come first, and names that stand twice in parts one behind another.
use Rattle.std.proofs.Common.{◌≡◌, ℕ, Bool, false, List, [], ◌∷◌, ◌++◌, length, map, refl, sym, ap, ◌∙◌, subst, arith}
use Rattle.std.specs.Prelude.{Ok, Err}
use Rattle.std.proofs.lemmas.List.{append-nil, append_assoc}
use Rattle.kql_lexer.specs.declared.place.Place.{Place}
use Rattle.kql_bound.specs.declared.parts.BItem.{BItem}
use Rattle.kql_meaning.specs.Items.{items_names}
use Rattle.kql_syntax.specs.declared.tree.Name.{Name}
use Rattle.bind_expr.specs.Names.{text_of}
use Rattle.bind_expr.specs.Outcome.{Answers, Outcome}
use Rattle.bind_expr.specs.declared.fault.BindFault.{BindFault}
use Rattle.bind_expr.specs.declared.fault.BindFault.TheVariants as fault
use Rattle.bind_operators.specs.declared.items.NamedItems.{NamedItems}
use Rattle.bind_operators.specs.Faults.{fault_if, unless}
use Rattle.bind_operators.specs.Items.{clash, column_as, names_of_items, names_twice, twice, twice_items}
use Rattle.bind_operators.specs.Places.{name_place}
use Rattle.bind_operators.proofs.AnswerSteps.{behind-fault, behind-none, told}

-- One fault, told or not.

pub nothing-told : {X : Type 0} (b : Bool) (code : ℕ) (place : Place) (x : X) → b ≡ false → Answers (Ok x) (unless (fault_if b code place) x)
unfolding unless fault_if
nothing-told b code place x is = rw is (record { holds = refl })

pub ruleset fault_steps = (told, nothing-told)

-- Names as items.

pub names-alone : {X : Type 0} (name : X → List ℕ) (xs : List X) → names_of_items (map (λ x. column_as (name x) (name x)) xs) ≡ map (λ x. name x ∷ []) xs
unfolding column_as
names-alone name [] = refl
names-alone name (x ∷ xs) = ap (λ (rest : List (List (List ℕ))). (name x ∷ []) ∷ rest) (names-alone name xs)

-- Items behind others.

beside-more : (before : List (List ℕ)) (places then : List Place) (items : List BItem) (names : List (List (List ℕ))) → length places ≡ length items → twice before (places ++ then) (names_of_items items ++ names) ≡ twice before places (names_of_items items) ++ twice (before ++ items_names items) then names
unfolding twice items_names
beside-more before [] then [] names l = ap (λ b. twice b then names) (sym (append-nil before))
beside-more before [] then (b ∷ bs) names l = absurd (omega (arith, l))
beside-more before (p ∷ ps) then [] names l = absurd (omega (arith, l))
beside-more before (p ∷ ps) then (b ∷ bs) names l =
    let here : List BindFault = fault_if (clash before b.names) 411 p in
    let mine : List BindFault = twice (before ++ b.names) ps (names_of_items bs) in
    let rest = beside-more (before ++ b.names) ps then bs names (omega (arith, l)) in
    let same = rest ∙ ap (λ (ns : List (List ℕ)). mine ++ twice ns then names) (append_assoc before b.names (items_names bs)) in
    ap (λ (fs : List BindFault). here ++ fs) same ∙ sym (append_assoc here mine (twice (before ++ (b.names ++ items_names bs)) then names))

pub beside-none : (first then : NamedItems) (names : List (List ℕ)) (r result : Outcome (Unit {0})) → length first.places ≡ length first.items → r ≡ Ok tt → Answers r (unless (twice_items first) tt) → names ≡ items_names first.items → Answers result (unless (twice names then.places (names_of_items then.items)) tt) → Answers result (unless (twice [] (first.places ++ then.places) (names_of_items first.items ++ names_of_items then.items)) tt)
unfolding twice_items
beside-none first then names r result l is a same h =
    let front : List BindFault = twice [] first.places (names_of_items first.items) in
    let behind : List BindFault = twice (items_names first.items) then.places (names_of_items then.items) in
    let told : Answers result (unless behind tt) = subst (λ ns. Answers result (unless (twice ns then.places (names_of_items then.items)) tt)) same h in
    subst (λ fs. Answers result (unless fs tt)) (sym (beside-more [] first.places then.places first.items (names_of_items then.items) l)) (behind-none front behind tt r result is a told)

pub beside-told : (first then : NamedItems) (r : Outcome (Unit {0})) (f : BindFault) → length first.places ≡ length first.items → r ≡ Err f → Answers r (unless (twice_items first) tt) → Answers (Err f) (unless {X = Unit {0}} (twice [] (first.places ++ then.places) (names_of_items first.items ++ names_of_items then.items)) tt)
unfolding twice_items
beside-told first then r f l is a =
    let front : List BindFault = twice [] first.places (names_of_items first.items) in
    let behind : List BindFault = twice (items_names first.items) then.places (names_of_items then.items) in
    subst (λ fs. Answers (Err f) (unless fs tt)) (sym (beside-more [] first.places then.places first.items (names_of_items then.items) l)) (behind-fault front behind tt r f is a)

pub ruleset beside_steps = (beside-none, beside-told)
