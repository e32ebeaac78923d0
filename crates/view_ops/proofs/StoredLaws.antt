-- Numbers that are stored, as a test and as a fact.
use Rattle.std.proofs.Common.{◌≡◌, ◌<◌, ◌≤◌, ◌+◌, ◌-◌, ◌^◌, ℕ, ℤ, pos, negsuc, zero, suc, Bool, true, List, [], ◌∷◌, length, refl, ap, sym, ◌∙◌, subst, inl, inr, arith}
use Rattle.std.specs.Prelude.{◌&&◌, FitsSigned, None, Option, Some}
use Rattle.std.specs.Int.{w64}
use Rattle.std.specs.List.{AllByRecursion, list_all, range_with_len}
use Rattle.std.proofs.lemmas.Bool.{and_from, and_parts, cases_eq, lt-ltb}
use Rattle.std.proofs.lemmas.Bool.Decides.{nat_tests}
use Rattle.std.proofs.lemmas.Int.{ints}
use Rattle.kql_cells.specs.Table.{Grid}
use Rattle.kql_ticks.specs.Ranges.{is_span}
use Rattle.kql_functions.specs.declared.aggregate.Aggregate.{Aggregate}
use Rattle.kql_bound.specs.declared.expr.BExpr.{BExpr}
use Rattle.kql_bound.specs.declared.parts.GroupPlan.{GroupPlan}
use Rattle.kql_meaning.specs.Values.{number_of}
use Rattle.kql_scalar_fns.specs.Arguments.{argument}
use Rattle.kql_scalar.specs.Rows.{rows}
use Rattle.summarize_pieces.specs.Calls.{calls_of}
use Rattle.summarize_pieces.specs.Pieces.{AreStored, args_of}
use Rattle.view_ops.specs.Views.{are_stored, is_stored}

span-of : (z : ℤ) → FitsSigned w64 z → is_span z ≡ true
span-of (pos n) fits = lt-ltb n (2 ^ 63) (omega (arith, ints))
span-of (negsuc n) fits = lt-ltb n (2 ^ 63) (omega (arith, ints))

of-span : (z : ℤ) → is_span z ≡ true → FitsSigned w64 z
of-span (pos n) is = let lt : n < 2 ^ 63 = grind (arith, nat_tests) in omega (arith, ints, lt)
of-span (negsuc n) is = let lt : n < 2 ^ 63 = grind (arith, nat_tests) in omega (arith, ints, lt)

abbrev HasStored : Option ℤ → Type 0
HasStored o = (n : ℤ) → o ≡ Some n → FitsSigned w64 n

test-of : (o : Option ℤ) → HasStored o → is_stored o ≡ true
test-of None h = refl
test-of (Some n) h = span-of n (h n refl)

of-test : (o : Option ℤ) → is_stored o ≡ true → HasStored o
of-test None is n e = absurd cc
of-test (Some m) is n e = let same : m ≡ n = cc in subst (FitsSigned w64) same (of-span m is)

-- A test of each place of a range.

test-each : (p : ℕ → Bool) (a n : ℕ) → ((i : ℕ) → a ≤ i → i < a + n → p i ≡ true) → list_all p (range_with_len a n) ≡ true
test-each p a zero h = refl
test-each p a (suc n) h = and_from (p a) (list_all p (range_with_len (a + 1) n)) (h a (omega arith) (omega arith)) (test-each p (a + 1) n (λ i low high. h i (omega (arith, low)) (omega (arith, high))))

each-test : (p : ℕ → Bool) (a n : ℕ) → list_all p (range_with_len a n) ≡ true → (i : ℕ) → a ≤ i → i < a + n → p i ≡ true
each-test p a zero is i low high = absurd (omega (arith, low, high))
each-test p a (suc n) is i low high =
    let b = and_parts (p a) (list_all p (range_with_len (a + 1) n)) is in
    elim (cases_eq i a) [
      | inl e ↦ ap p e ∙ b.0
      | inr other ↦ each-test p (a + 1) n b.1 i (omega (arith, low, other)) (omega (arith, high))
    ]

-- Those of the calls of a plan.

abbrev stored_at : Grid → Aggregate × List BExpr → ℕ → Bool
stored_at t c i = is_stored (number_of (argument (args_of c t i) 0))

abbrev IsStored : Grid → ℕ → Aggregate × List BExpr → Type 0
IsStored t m c = (i : ℕ) → 0 ≤ i → i < m → (n : ℤ) → number_of (argument (args_of c t i) 0) ≡ Some n → FitsSigned w64 n

test-calls : (cs : List (Aggregate × List BExpr)) (t : Grid) (m : ℕ) → AllByRecursion (IsStored t m) cs → list_all (λ c. list_all (stored_at t c) (rows 0 m)) cs ≡ true
unfolding rows
test-calls [] t m h = refl
test-calls (c ∷ cs) t m h =
    and_from (list_all (stored_at t c) (range_with_len 0 (m - 0))) (list_all (λ c. list_all (stored_at t c) (range_with_len 0 (m - 0))) cs)
    (test-each (stored_at t c) 0 (m - 0) (λ i low high. test-of (number_of (argument (args_of c t i) 0)) (h.0 i low (omega (arith, high)))))
    (test-calls cs t m h.1)

calls-test : (cs : List (Aggregate × List BExpr)) (t : Grid) (m : ℕ) → list_all (λ c. list_all (stored_at t c) (rows 0 m)) cs ≡ true → AllByRecursion (IsStored t m) cs
unfolding rows
calls-test [] t m is = tt
calls-test (c ∷ cs) t m is =
    let b = and_parts (list_all (stored_at t c) (range_with_len 0 (m - 0))) (list_all (λ c. list_all (stored_at t c) (range_with_len 0 (m - 0))) cs) is in
    (λ i low high. of-test (number_of (argument (args_of c t i) 0)) (each-test (stored_at t c) 0 (m - 0) b.0 i low (omega (arith, high))), calls-test cs t m b.1)

pub stored-test : (g : GroupPlan) (t : Grid) → AreStored g t 0 (length t.lines) → are_stored g t ≡ true
unfolding are_stored
stored-test g t h = test-calls (calls_of g.items) t (length t.lines) h.each

pub test-stored : (g : GroupPlan) (t : Grid) → are_stored g t ≡ true → AreStored g t 0 (length t.lines)
unfolding are_stored
test-stored g t is = record { each = calls-test (calls_of g.items) t (length t.lines) is }
