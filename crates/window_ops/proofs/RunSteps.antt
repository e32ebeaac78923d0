-- Running sums and numbers of rows, one row after another.
use Rattle.std.proofs.Common.{◌≡◌, ◌<◌, ◌≤◌, ◌+◌, ◌-◌, ◌^◌, ℕ, Bool, ℤ, List, [], ◌∷◌, ◌++◌, map, length, refl, ap, ap₂, sym, ◌∙◌, arith}
use Rattle.std.specs.Prelude.{IfSome, Option, None, Some, pos}
use Rattle.std.specs.List.{range_with_len}
use Rattle.std.proofs.lemmas.List.FromFn.{map-range_with_len_more}
use Rattle.kql_cells.specs.Seen.{value_at}
use Rattle.kql_cells.specs.declared.value.Kind.{Kind}
use Rattle.kql_cells.specs.declared.value.Value.{Value}
use Rattle.kql_cells.specs.declared.value.Value.TheVariants as value
use Rattle.kql_scalar_fns.specs.Arithmetic.{sum}
use Rattle.kql_meaning.specs.Numbers.{added, fitted}
use Rattle.kql_meaning.specs.Values.{number_of}
use Rattle.window_ops.specs.Carries.{Carried, run_on, stepped}
use Rattle.window_ops.specs.Running.{number_at, restart_at, row_numbers, run_to, running_sums, start_at, sum_at, term_at}
use Rattle.window_ops.proofs.CarryLaws.{run-on-few, run-on-next}

pub within-restarts : (restarts : Option (List Value)) (n i : ℕ) → IfSome restarts (λ rs. length rs ≡ n) → i < n → IfSome restarts (λ rs. i < length rs)
within-restarts None n i h lt = tt
within-restarts (Some rs) n i h lt = omega (arith, h, lt)

-- The carry of the rows so far.

pub run-start : (b : ℕ → Bool) (f : ℕ → ℤ) (c d : Carried) → d ≡ c → d ≡ run_on b f c 0
unfolding run_on
run-start b f c d is = is

pub run-turn : (b : ℕ → Bool) (f : ℕ → ℤ) (c : Carried) (i : ℕ) (old new : Carried) (x : Bool) (y : ℤ) → old ≡ run_on b f c i → x ≡ b i → y ≡ f i → new ≡ stepped x y old → new ≡ run_on b f c (i + 1)
run-turn b f c i old new x y before test number after =
    after
    ∙ (ap₂ (λ (q : Bool) (n : ℤ). stepped q n old) test number
    ∙ (ap (stepped (b i) (f i)) before ∙ sym (run-on-next b f c i)))

pub run-few : (b : ℕ → Bool) (f : ℕ → ℤ) (c : Carried) (i n : ℕ) (run : Carried) → run ≡ run_on b f c i → i < n → c.count + n < 2 ^ 63 → run.count + 1 < 2 ^ 63
run-few b f c i n run is lt small =
    let few : (run_on b f c i).count ≤ c.count + i = run-on-few b f c i in
    let same : run.count ≡ (run_on b f c i).count = ap (λ (x : Carried). x.count) is in
    omega (arith, few, same, lt, small)

pub run-end : (b : ℕ → Bool) (f : ℕ → ℤ) (c : Carried) (i n : ℕ) (run : Carried) → i ≡ n → run ≡ run_on b f c i → run ≡ run_on b f c n
run-end b f c i n run end is = is ∙ ap (run_on b f c) end

-- All sums.

pub sum-turn : (restarts : Option (List Value)) (terms : List Value) (c : Carried) (i : ℕ) (old new : Carried) (x : Bool) (v : Value) (n : Option ℤ) → old ≡ run_on (restart_at restarts) (term_at (Some terms)) c i → x ≡ restart_at restarts i → v ≡ value_at terms i → n ≡ number_of v → new ≡ stepped x (added n) old → new ≡ run_on (restart_at restarts) (term_at (Some terms)) c (i + 1)
unfolding term_at
sum-turn restarts terms c i old new x v n before test is number after =
    run-turn (restart_at restarts) (term_at (Some terms)) c i old new x (added n) before test (ap added (number ∙ ap number_of is)) after

pub sums-none : (kind : Option Kind) (restarts : Option (List Value)) (terms : List Value) (c : Carried) → [] ≡ map (sum_at kind restarts terms c) (range_with_len 0 0)
sums-none kind restarts terms c = refl

pub sums-turn : (kind : Option Kind) (restarts : Option (List Value)) (terms : List Value) (c : Carried) (i : ℕ) (old new : List Value) (run : Carried) (v : Value) → old ≡ map (sum_at kind restarts terms c) (range_with_len 0 i) → run ≡ run_on (restart_at restarts) (term_at (Some terms)) c (i + 1) → v ≡ fitted kind run.sum → new ≡ old ++ v ∷ [] → new ≡ map (sum_at kind restarts terms c) (range_with_len 0 (i + 1))
unfolding sum_at run_to
sums-turn kind restarts terms c i old new run v before is one after =
    let here : v ≡ sum_at kind restarts terms c i = one ∙ ap (λ (x : Carried). fitted kind x.sum) is in
    after ∙ (ap₂ (λ (vs : List Value) (w : Value). vs ++ w ∷ []) before here ∙ sym (map-range_with_len_more (sum_at kind restarts terms c) 0 i i (omega arith)))

pub sums-all : (kind : Option Kind) (restarts : Option (List Value)) (terms : List Value) (c : Carried) (i n : ℕ) (vs : List Value) → n ≡ length terms → i ≡ n → vs ≡ map (sum_at kind restarts terms c) (range_with_len 0 i) → vs ≡ running_sums kind restarts terms c
unfolding running_sums
sums-all kind restarts terms c i n vs len end is = is ∙ ap (λ m. map (sum_at kind restarts terms c) (range_with_len 0 m)) (end ∙ len)

pub ruleset sum_loop = (within-restarts, run-start, sum-turn, sums-none, sums-turn, sums-all)

-- All numbers.

pub number-turn : (restarts : Option (List Value)) (c : Carried) (i : ℕ) (old new : Carried) (x : Bool) → old ≡ run_on (restart_at restarts) (term_at None) c i → x ≡ restart_at restarts i → new ≡ stepped x (added None) old → new ≡ run_on (restart_at restarts) (term_at None) c (i + 1)
unfolding term_at added
number-turn restarts c i old new x before test after =
    run-turn (restart_at restarts) (term_at None) c i old new x (pos 0) before test refl after

pub stepped-some : (b : Bool) (n : ℤ) (c d : Carried) (s : ℕ) → d ≡ stepped b n c → s ≡ d.count → 1 ≤ s
unfolding stepped
stepped-some b n c d s is same =
    let count : d.count ≡ (stepped b n c).count = ap (λ (x : Carried). x.count) is in
    omega (arith, same, count)

pub numbers-turn : (starts restarts : Option (List Value)) (c : Carried) (i : ℕ) (old new : List Value) (run : Carried) (s : ℕ) (first v : Value) → old ≡ map (number_at starts restarts c) (range_with_len 0 i) → run ≡ run_on (restart_at restarts) (term_at None) c (i + 1) → s ≡ run.count → first ≡ start_at starts i → v ≡ sum first (value.Long (pos (s - 1))) → new ≡ old ++ v ∷ [] → new ≡ map (number_at starts restarts c) (range_with_len 0 (i + 1))
unfolding number_at run_to
numbers-turn starts restarts c i old new run s first v before is count start one after =
    let here : v ≡ number_at starts restarts c i = one ∙ ap₂ (λ (w : Value) (n : ℕ). sum w (value.Long (pos (n - 1)))) start (count ∙ ap (λ (x : Carried). x.count) is) in
    after ∙ (ap₂ (λ (vs : List Value) (w : Value). vs ++ w ∷ []) before here ∙ sym (map-range_with_len_more (number_at starts restarts c) 0 i i (omega arith)))

pub numbers-none : (starts restarts : Option (List Value)) (c : Carried) → [] ≡ map (number_at starts restarts c) (range_with_len 0 0)
numbers-none starts restarts c = refl

pub numbers-all : (starts restarts : Option (List Value)) (c : Carried) (i n : ℕ) (vs : List Value) → i ≡ n → vs ≡ map (number_at starts restarts c) (range_with_len 0 i) → vs ≡ row_numbers n starts restarts c
unfolding row_numbers
numbers-all starts restarts c i n vs end is = is ∙ ap (λ m. map (number_at starts restarts c) (range_with_len 0 m)) end

pub ruleset number_loop = (within-restarts, run-start, number-turn, stepped-some, numbers-none, numbers-turn, numbers-all)

pub ruleset carry_loop = (within-restarts, run-start, run-turn, run-end)
