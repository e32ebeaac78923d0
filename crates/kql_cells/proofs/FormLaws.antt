-- The equations of `has_form`, one for each variant.
use Rattle.std.proofs.Common.{◌≡◌, ℕ, Bool, true, ◌&&◌, List, [], ◌∷◌, map, refl, ap, sym, ◌∙◌}
use Rattle.std.specs.Prelude.{ℤ}
use Rattle.std.specs.List.{list_all}
use Rattle.kql_cells.specs.Dynamic.{has_form, form_step, ascends, rises_to}
use Rattle.kql_cells.specs.declared.dynamic.Dyn.{Dyn, fold-roll-Dyn}
use Rattle.kql_cells.specs.declared.dynamic.Dyn.TheOpen.{Dyn-F}
use Rattle.kql_cells.specs.declared.dynamic.Dyn.TheVariants as V

list_all-map : {X Y : Type 0} (p : Y → Bool) (f : X → Y) (xs : List X) → list_all p (map f xs) ≡ list_all (λ x. p (f x)) xs
list_all-map p f [] = refl
list_all-map p f (x ∷ xs) = ap (λ b. p (f x) && b) (list_all-map p f xs)

-- with what `f` makes of each value
with_form : (Dyn → Bool) → List ℕ × Dyn → List ℕ × Bool
with_form f e = (e.0, f e.1)

rises_to-map : (f : Dyn → Bool) (k : List ℕ) (es : List (List ℕ × Dyn)) → rises_to k (map (with_form f) es) ≡ rises_to k es
unfolding with_form
rises_to-map f k [] = refl
rises_to-map f k (e ∷ es) = refl

ascends-map : (f : Dyn → Bool) (es : List (List ℕ × Dyn)) → ascends (map (with_form f) es) ≡ ascends es
unfolding with_form
ascends-map f [] = refl
ascends-map f (e ∷ es) = λ i. rises_to-map f e.0 es i && ascends-map f es i

pub has_form-Array : (parts : List Dyn) → has_form (V.Array parts) ≡ list_all has_form parts
unfolding has_form
has_form-Array parts = ap has_form (sym (V.rolls-Array parts)) ∙ (fold-roll-Dyn Bool form_step (Dyn-F.Array parts) ∙ list_all-map (λ b. b) has_form parts)

pub has_form-Bag : (es : List (List ℕ × Dyn)) → has_form (V.Bag es) ≡ (ascends es && list_all (λ e. has_form e.1) es)
unfolding has_form with_form
has_form-Bag es =
    ap has_form (sym (V.rolls-Bag es)) ∙ (fold-roll-Dyn Bool form_step (Dyn-F.Bag es)
    ∙ (λ i. ascends-map has_form es i && list_all-map (λ (e : List ℕ × Bool). e.1) (with_form has_form) es i))

pub has_form-Null : has_form V.Null ≡ true
unfolding has_form
has_form-Null = ap has_form (sym V.rolls-Null) ∙ fold-roll-Dyn Bool form_step Dyn-F.Null

pub has_form-Bool : (b : Bool) → has_form (V.Bool b) ≡ true
unfolding has_form
has_form-Bool b = ap has_form (sym (V.rolls-Bool b)) ∙ fold-roll-Dyn Bool form_step (Dyn-F.Bool b)

pub has_form-Long : (n : ℤ) → has_form (V.Long n) ≡ true
unfolding has_form
has_form-Long n = ap has_form (sym (V.rolls-Long n)) ∙ fold-roll-Dyn Bool form_step (Dyn-F.Long n)

pub has_form-Text : (t : List ℕ) → has_form (V.Text t) ≡ true
unfolding has_form
has_form-Text t = ap has_form (sym (V.rolls-Text t)) ∙ fold-roll-Dyn Bool form_step (Dyn-F.Text t)

pub ruleset form_steps = (has_form-Array, has_form-Bag, has_form-Null, has_form-Bool, has_form-Long, has_form-Text)
