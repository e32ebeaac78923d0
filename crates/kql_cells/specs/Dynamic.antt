-- Dynamic values: their levels, and the form of their bags.
use Rattle.std.specs.Prelude.{ℕ, ◌+◌, max, nat_le, Bool, true, false, ◌&&◌, List, [], ◌∷◌}
use Rattle.std.specs.List.{list_all}
use Rattle.std.specs.Cmp.Lexicographic.{slice_cmp}
use Rattle.std.specs.Ordering.{nat_cmp, is_lt}
use Rattle.kql_cells.specs.declared.dynamic.Dyn.{Dyn, fold-Dyn, out-Dyn}
use Rattle.kql_cells.specs.declared.dynamic.Dyn.TheOpen.{Dyn-F}

-- the largest number that these have, or 0
abbrev pub highest : {X : Type 0} → (X → ℕ) → List X → ℕ
highest f [] = 0
highest f (x ∷ xs) = max (f x) (highest f xs)

-- the levels of a value, from those of its parts
abbrev pub levels_step : Dyn-F ℕ → ℕ
levels_step (Dyn-F.Array parts) = highest (λ n. n) parts + 1
levels_step (Dyn-F.Bag entries) = highest (λ e. e.1) entries + 1
levels_step _ = 0

-- a scalar has level 0, and an array or a bag has one more than its highest part
unfoldable pub levels : Dyn → ℕ
levels = fold-Dyn ℕ levels_step

-- a key is below the first of these, if there is one
abbrev pub rises_to : {X : Type 0} → List ℕ → List (List ℕ × X) → Bool
rises_to k [] = true
rises_to k (e ∷ es) = is_lt (slice_cmp nat_cmp k e.0)

-- each key is below the next
abbrev pub ascends : {X : Type 0} → List (List ℕ × X) → Bool
ascends [] = true
ascends (e ∷ es) = rises_to e.0 es && ascends es

-- the form of a value, from that of its parts
abbrev pub form_step : Dyn-F Bool → Bool
form_step (Dyn-F.Array parts) = list_all (λ b. b) parts
form_step (Dyn-F.Bag entries) = ascends entries && list_all (λ e. e.1) entries
form_step _ = true

-- the keys of each bag are distinct and ascend by bytes
unfoldable pub has_form : Dyn → Bool
has_form = fold-Dyn Bool form_step

abbrev pub is_null_step : Dyn-F Dyn → Bool
is_null_step Dyn-F.Null = true
is_null_step _ = false

-- whether it is null itself
abbrev pub is_null : Dyn → Bool
is_null d = is_null_step (out-Dyn d)

-- the form above, and at most 127 levels
abbrev pub is_well_formed_dynamic : Dyn → Bool
is_well_formed_dynamic d = has_form d && nat_le (levels d) 127
