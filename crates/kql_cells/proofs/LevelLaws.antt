-- The equations of `levels`, one for each variant.
use Rattle.std.proofs.Common.{◌≡◌, ℕ, Bool, ◌+◌, ◌-◌, ◌&&◌, nat_le, nat_lt, max, List, [], ◌∷◌, map, refl, ap, sym, ◌∙◌, arith}
use Rattle.std.specs.List.{list_all}
use Rattle.std.proofs.lemmas.Bool.Decides.{nat_tests}
use Rattle.std.specs.Prelude.{ℤ}
use Rattle.kql_cells.specs.Dynamic.{levels, highest, levels_step}
use Rattle.kql_cells.specs.declared.dynamic.Dyn as D
use Rattle.kql_cells.specs.declared.dynamic.Dyn.{Dyn}
use Rattle.kql_cells.specs.declared.dynamic.Dyn.TheOpen.{Dyn-F}
use Rattle.kql_cells.specs.declared.dynamic.Dyn.TheVariants as V

pub highest-map : {X Y : Type 0} (f : Y → ℕ) (h : X → Y) (xs : List X) → highest f (map h xs) ≡ highest (λ x. f (h x)) xs
highest-map f h [] = refl
highest-map f h (x ∷ xs) = ap (max (f (h x))) (highest-map f h xs)

pub levels-Array : (parts : List Dyn) → levels (V.Array parts) ≡ highest levels parts + 1
unfolding levels
levels-Array parts = ap levels (sym (V.rolls-Array parts)) ∙ (D.fold-roll-Dyn ℕ levels_step (Dyn-F.Array parts) ∙ ap (λ n. n + 1) (highest-map (λ n. n) levels parts))

pub levels-Bag : (entries : List (List ℕ × Dyn)) → levels (V.Bag entries) ≡ highest (λ e. levels e.1) entries + 1
unfolding levels
levels-Bag entries = ap levels (sym (V.rolls-Bag entries)) ∙ (D.fold-roll-Dyn ℕ levels_step (Dyn-F.Bag entries) ∙ ap (λ n. n + 1) (highest-map (λ e. e.1) (λ e. (e.0, levels e.1)) entries))

pub levels-Null : levels V.Null ≡ 0
unfolding levels
levels-Null = ap levels (sym V.rolls-Null) ∙ D.fold-roll-Dyn ℕ levels_step Dyn-F.Null

pub levels-Bool : (b : Bool) → levels (V.Bool b) ≡ 0
unfolding levels
levels-Bool b = ap levels (sym (V.rolls-Bool b)) ∙ D.fold-roll-Dyn ℕ levels_step (Dyn-F.Bool b)

pub levels-Long : (n : ℤ) → levels (V.Long n) ≡ 0
unfolding levels
levels-Long n = ap levels (sym (V.rolls-Long n)) ∙ D.fold-roll-Dyn ℕ levels_step (Dyn-F.Long n)

pub levels-Text : (t : List ℕ) → levels (V.Text t) ≡ 0
unfolding levels
levels-Text t = ap levels (sym (V.rolls-Text t)) ∙ D.fold-roll-Dyn ℕ levels_step (Dyn-F.Text t)

le_max : (a b n : ℕ) → nat_le (max a b) n ≡ (nat_le a n && nat_le b n)
le_max a b n = grind (arith, nat_tests)

-- the highest is within a limit exactly where each is
within-highest : {X : Type 0} (f : X → ℕ) (xs : List X) (n : ℕ) → nat_le (highest f xs) n ≡ list_all (λ x. nat_le (f x) n) xs
within-highest f [] n = grind (arith, nat_tests)
within-highest f (x ∷ xs) n = le_max (f x) (highest f xs) n ∙ ap (λ b. nat_le (f x) n && b) (within-highest f xs n)

one_more : (m n : ℕ) → nat_le (m + 1) n ≡ (nat_lt 0 n && nat_le m (n - 1))
one_more m n = grind (arith, nat_tests)

pub within-Array : (parts : List Dyn) (n : ℕ) → nat_le (levels (V.Array parts)) n ≡ (nat_lt 0 n && list_all (λ d. nat_le (levels d) (n - 1)) parts)
within-Array parts n = ap (λ m. nat_le m n) (levels-Array parts) ∙ (one_more (highest levels parts) n ∙ ap (λ b. nat_lt 0 n && b) (within-highest levels parts (n - 1)))

pub within-Bag : (es : List (List ℕ × Dyn)) (n : ℕ) → nat_le (levels (V.Bag es)) n ≡ (nat_lt 0 n && list_all (λ e. nat_le (levels e.1) (n - 1)) es)
within-Bag es n = ap (λ m. nat_le m n) (levels-Bag es) ∙ (one_more (highest (λ e. levels e.1) es) n ∙ ap (λ b. nat_lt 0 n && b) (within-highest (λ e. levels e.1) es (n - 1)))

pub ruleset level_steps = (within-Array, within-Bag, levels-Null, levels-Bool, levels-Long, levels-Text)
