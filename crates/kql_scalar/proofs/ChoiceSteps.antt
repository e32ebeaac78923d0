-- `case` and `coalesce`, which evaluate one argument after another.
use Rattle.std.proofs.Common.{◌≡◌, ◌<◌, ◌≤◌, ◌+◌, ◌*◌, ◌/◌, ◌%◌, ℕ, zero, suc, Bool, true, false, List, [], ◌∷◌, length, drop, get_or, refl, ap, sym, ◌∙◌, arith}
use Rattle.std.specs.Prelude.{Option, Some, None, nat_eq, not, if◌then◌else◌}
use Rattle.std.proofs.lemmas.Bool.{eqb-true}
use Rattle.std.proofs.lemmas.Bool.Decides.{nat_tests}
use Rattle.std.proofs.lemmas.List.{drop_more, drop_all}
use Rattle.kql_cells.specs.Table.{Grid}
use Rattle.kql_cells.specs.declared.value.Value.{Value}
use Rattle.kql_cells.specs.declared.value.Value.TheVariants as value
use Rattle.kql_functions.specs.declared.func.ChoiceFunc.TheVariants as choice_func
use Rattle.kql_functions.specs.declared.func.Func.TheVariants as func
use Rattle.kql_scalar_fns.specs.Applied.{applied}
use Rattle.kql_scalar_fns.specs.Arguments.{argument}
use Rattle.kql_scalar_fns.specs.Choice.{choice, first_case, first_given, is_empty}
use Rattle.kql_scalar_fns.specs.Logic.{is_true, truth}
use Rattle.kql_meaning.specs.Expressions.{val}
use Rattle.kql_meaning.specs.Readings.{Records}
use Rattle.kql_scalar.specs.Choices.{given_at}
use Rattle.kql_scalar.specs.Evaluated.{values_of}
use Rattle.kql_scalar.specs.Means.{means}
use Rattle.kql_scalar.specs.declared.node.Node.{Node}

off : (b : Bool) → not b ≡ true → b ≡ false
off false e = refl
off true e = cc

on : (b : Bool) → not b ≡ false → b ≡ true
on true e = refl
on false e = cc

zero-of : (n : ℕ) → n < 2 → nat_eq n 1 ≡ false → n ≡ 0
zero-of n l e = grind (arith, nat_tests)

next-inside : (k n : ℕ) → k < n → nat_eq (k + 1) n ≡ false → k + 1 < n
next-inside k n l e = grind (arith, nat_tests)

-- The values of parts, place by place.

values-count : (ns : List Node) (t : Grid) (i : ℕ) (s : Records) → length (values_of ns t i s) ≡ length ns
unfolding values_of
values-count [] t i s = refl
values-count (n ∷ ns) t i s = let e = values-count ns t i s in omega (arith, e)

value-there : (ns : List Node) (j : ℕ) (n : Node) (t : Grid) (i : ℕ) (s : Records) → j < length ns → n ≡ get_or ns j n → argument (values_of ns t i s) j ≡ val (means n) t i s
unfolding values_of argument
value-there [] j n t i s l is = absurd (omega arith)
value-there (m ∷ ns) zero n t i s l is = ap (λ x. val (means x) t i s) (sym is)
value-there (m ∷ ns) (suc j) n t i s l is = value-there ns j n t i s (omega arith) is

at-place : (vs : List Value) (j : ℕ) → j < length vs → get_or vs j value.Null ≡ argument vs j
unfolding argument
at-place [] j l = absurd (omega arith)
at-place (v ∷ vs) zero l = refl
at-place (v ∷ vs) (suc j) l = at-place vs j (omega arith)

one-at : (vs : List Value) (j : ℕ) → j < length vs → drop j vs ≡ argument vs j ∷ drop (j + 1) vs
one-at vs j l = drop_more vs j value.Null l ∙ ap (λ v. v ∷ drop (j + 1) vs) (at-place vs j l)

two-at : (vs : List Value) (j : ℕ) → j + 1 < length vs → drop j vs ≡ argument vs j ∷ argument vs (j + 1) ∷ drop (j + 1 + 1) vs
two-at vs j l = one-at vs j (omega arith) ∙ ap (λ ws. argument vs j ∷ ws) (one-at vs (j + 1) l)

-- `case`: a pair of arguments at a time.

case-opened : (vs : List Value) (j : ℕ) → j + 1 < length vs → first_case (drop j vs) ≡ (if is_true (truth (argument vs j)) then argument vs (j + 1) else first_case (drop (j + 1 + 1) vs))
unfolding first_case
case-opened vs j l = ap first_case (two-at vs j l)

pub case-found : (ns : List Node) (k : ℕ) (n : Node) (o : Option Bool) (b : Bool) (t : Grid) (i : ℕ) (s : Records) → k < length ns / 2 → n ≡ get_or ns (2 * k) n → first_case (values_of ns t i s) ≡ first_case (drop (2 * k) (values_of ns t i s)) → o ≡ truth (val (means n) t i s) → b ≡ is_true o → b ≡ true → given_at (Some (2 * k + 1)) (values_of ns t i s) ≡ first_case (values_of ns t i s)
unfolding given_at
case-found ns k n o b t i s l is made known told test =
    let inside : 2 * k + 1 < length (values_of ns t i s) = let e = values-count ns t i s in omega (arith, e, l) in
    let holds : is_true (truth (val (means n) t i s)) ≡ true = ap is_true (sym known) ∙ (sym told ∙ test) in
    sym (made ∙ (case-opened (values_of ns t i s) (2 * k) inside ∙ rw (value-there ns (2 * k) n t i s (omega (arith, l)) is, holds) refl))

pub case-passed : (ns : List Node) (k : ℕ) (n : Node) (o : Option Bool) (b : Bool) (t : Grid) (i : ℕ) (s : Records) → k < length ns / 2 → n ≡ get_or ns (2 * k) n → first_case (values_of ns t i s) ≡ first_case (drop (2 * k) (values_of ns t i s)) → o ≡ truth (val (means n) t i s) → b ≡ is_true o → b ≡ false → first_case (values_of ns t i s) ≡ first_case (drop (2 * (k + 1)) (values_of ns t i s))
case-passed ns k n o b t i s l is made known told test =
    let inside : 2 * k + 1 < length (values_of ns t i s) = let e = values-count ns t i s in omega (arith, e, l) in
    let holds : is_true (truth (val (means n) t i s)) ≡ false = ap is_true (sym known) ∙ (sym told ∙ test) in
    let behind : 2 * k + 1 + 1 ≡ 2 * (k + 1) = omega arith in
    let opened : first_case (drop (2 * k) (values_of ns t i s)) ≡ first_case (drop (2 * k + 1 + 1) (values_of ns t i s)) =
    case-opened (values_of ns t i s) (2 * k) inside ∙ rw (value-there ns (2 * k) n t i s (omega (arith, l)) is, holds) refl in
    made ∙ (opened ∙ ap (λ d. first_case (drop d (values_of ns t i s))) behind)

pub case-last : (ns : List Node) (k : ℕ) (t : Grid) (i : ℕ) (s : Records) → length ns / 2 ≤ k → k ≤ length ns / 2 → nat_eq (length ns % 2) 1 ≡ true → first_case (values_of ns t i s) ≡ first_case (drop (2 * k) (values_of ns t i s)) → given_at (Some (2 * (length ns / 2))) (values_of ns t i s) ≡ first_case (values_of ns t i s)
unfolding first_case given_at
case-last ns k t i s low high odd made =
    let e = values-count ns t i s in
    let one : length ns % 2 ≡ 1 = eqb-true (length ns % 2) 1 odd in
    let inside : 2 * k < length (values_of ns t i s) = omega (arith, e, one, low, high) in
    let over : length (values_of ns t i s) ≤ 2 * k + 1 = omega (arith, e, one, low, high) in
    let same : 2 * k ≡ 2 * (length ns / 2) = omega (arith, low, high) in
    sym (made ∙ (ap first_case (one-at (values_of ns t i s) (2 * k) inside ∙ ap (λ ws. argument (values_of ns t i s) (2 * k) ∷ ws) (drop_all (2 * k + 1) (values_of ns t i s) over)) ∙ ap (argument (values_of ns t i s)) same))

pub case-none : (ns : List Node) (k : ℕ) (t : Grid) (i : ℕ) (s : Records) → length ns / 2 ≤ k → k ≤ length ns / 2 → nat_eq (length ns % 2) 1 ≡ false → first_case (values_of ns t i s) ≡ first_case (drop (2 * k) (values_of ns t i s)) → given_at None (values_of ns t i s) ≡ first_case (values_of ns t i s)
unfolding first_case given_at
case-none ns k t i s low high even made =
    let e = values-count ns t i s in
    let none : length ns % 2 ≡ 0 = zero-of (length ns % 2) (omega arith) even in
    let over : length (values_of ns t i s) ≤ 2 * k = omega (arith, e, none, low, high) in
    sym (made ∙ ap first_case (drop_all (2 * k) (values_of ns t i s) over))

-- `coalesce`: an argument at a time.

given-alone : (v : Value) → first_given (v ∷ []) ≡ v
unfolding first_given
given-alone v = refl

given-first : (v : Value) (vs : List Value) → is_empty v ≡ false → first_given (v ∷ vs) ≡ v
unfolding first_given
given-first v [] e = refl
given-first v (w ∷ vs) e = rw e refl

given-behind : (v : Value) (vs : List Value) → 0 < length vs → is_empty v ≡ true → first_given (v ∷ vs) ≡ first_given vs
unfolding first_given
given-behind v [] l e = absurd (omega arith)
given-behind v (w ∷ vs) l e = rw e refl

opened : (ns : List Node) (k : ℕ) (n : Node) (t : Grid) (i : ℕ) (s : Records) → k < length ns → n ≡ get_or ns k n → drop k (values_of ns t i s) ≡ val (means n) t i s ∷ drop (k + 1) (values_of ns t i s)
opened ns k n t i s l is =
    let inside : k < length (values_of ns t i s) = let e = values-count ns t i s in omega (arith, e, l) in
    one-at (values_of ns t i s) k inside ∙ ap (λ v. v ∷ drop (k + 1) (values_of ns t i s)) (value-there ns k n t i s l is)

pub given-found : (ns : List Node) (k : ℕ) (n : Node) (v : Value) (b : Bool) (t : Grid) (i : ℕ) (s : Records) → k < length ns → n ≡ get_or ns k n → first_given (values_of ns t i s) ≡ first_given (drop k (values_of ns t i s)) → v ≡ val (means n) t i s → b ≡ is_empty v → not b ≡ true → v ≡ first_given (values_of ns t i s)
given-found ns k n v b t i s l is made read told test =
    let full : is_empty (val (means n) t i s) ≡ false = ap is_empty (sym read) ∙ (sym told ∙ off b test) in
    read ∙ sym (made ∙ (ap first_given (opened ns k n t i s l is) ∙ given-first (val (means n) t i s) (drop (k + 1) (values_of ns t i s)) full))

pub given-last : (ns : List Node) (k : ℕ) (n : Node) (v : Value) (t : Grid) (i : ℕ) (s : Records) → k < length ns → nat_eq (k + 1) (length ns) ≡ true → n ≡ get_or ns k n → first_given (values_of ns t i s) ≡ first_given (drop k (values_of ns t i s)) → v ≡ val (means n) t i s → v ≡ first_given (values_of ns t i s)
given-last ns k n v t i s l end is made read =
    let over : length (values_of ns t i s) ≤ k + 1 = let e = values-count ns t i s in let f : k + 1 ≡ length ns = eqb-true (k + 1) (length ns) end in omega (arith, e, f) in
    read ∙ sym (made ∙ (ap first_given (opened ns k n t i s l is ∙ ap (λ ws. val (means n) t i s ∷ ws) (drop_all (k + 1) (values_of ns t i s) over)) ∙ given-alone (val (means n) t i s)))

pub given-passed : (ns : List Node) (k : ℕ) (n : Node) (v : Value) (b : Bool) (t : Grid) (i : ℕ) (s : Records) → k < length ns → nat_eq (k + 1) (length ns) ≡ false → n ≡ get_or ns k n → first_given (values_of ns t i s) ≡ first_given (drop k (values_of ns t i s)) → v ≡ val (means n) t i s → b ≡ is_empty v → not b ≡ false → first_given (values_of ns t i s) ≡ first_given (drop (k + 1) (values_of ns t i s))
given-passed ns k n v b t i s l end is made read told test =
    let e = values-count ns t i s in
    let next : k + 1 < length ns = next-inside k (length ns) l end in
    let inside : k + 1 < length (values_of ns t i s) = omega (arith, e, next) in
    let some : 0 < length (drop (k + 1) (values_of ns t i s)) = rw (one-at (values_of ns t i s) (k + 1) inside) (omega arith) in
    let empty : is_empty (val (means n) t i s) ≡ true = ap is_empty (sym read) ∙ (sym told ∙ on b test) in
    made ∙ (ap first_given (opened ns k n t i s l is) ∙ given-behind (val (means n) t i s) (drop (k + 1) (values_of ns t i s)) some empty)

pub given-end : (ns : List Node) (k : ℕ) (t : Grid) (i : ℕ) (s : Records) → length ns ≤ k → first_given (values_of ns t i s) ≡ first_given (drop k (values_of ns t i s)) → value.Null ≡ first_given (values_of ns t i s)
unfolding first_given
given-end ns k t i s l made = sym (made ∙ ap first_given (drop_all k (values_of ns t i s) (let e = values-count ns t i s in omega (arith, e, l))))

-- What a place gives.

pub case-value : (ns : List Node) (chosen : Option ℕ) (k : ℕ) (n : Node) (t : Grid) (i : ℕ) (s : Records) → k < length ns → n ≡ get_or ns k n → chosen ≡ Some k → given_at chosen (values_of ns t i s) ≡ first_case (values_of ns t i s) → val (means n) t i s ≡ first_case (values_of ns t i s)
unfolding given_at
case-value ns chosen k n t i s l is found made = sym (value-there ns k n t i s l is) ∙ (ap (λ c. given_at c (values_of ns t i s)) (sym found) ∙ made)

pub case-nothing : (ns : List Node) (chosen : Option ℕ) (t : Grid) (i : ℕ) (s : Records) → chosen ≡ None → given_at chosen (values_of ns t i s) ≡ first_case (values_of ns t i s) → value.Null ≡ first_case (values_of ns t i s)
unfolding given_at
case-nothing ns chosen t i s found made = ap (λ c. given_at c (values_of ns t i s)) (sym found) ∙ made

pub case-call : (vs : List Value) → applied (func.Choice choice_func.Case) vs ≡ first_case vs
unfolding applied choice
case-call vs = refl

pub given-call : (vs : List Value) → applied (func.Choice choice_func.Coalesce) vs ≡ first_given vs
unfolding applied choice
given-call vs = refl

pub ruleset choice_calls = (case-call, given-call)

pub ruleset case_steps = (case-value, case-nothing)

pub ruleset place_steps = (case-found, case-passed, case-last, case-none)

pub ruleset given_steps = (given-found, given-last, given-passed, given-end)
