-- The value of each variant of a tree of places.
use Rattle.std.proofs.Common.{◌≡◌, ◌<◌, ◌≤◌, ◌+◌, ℕ, Bool, true, false, List, [], ◌∷◌, ◌++◌, length, map, take, drop, get_or, refl, ap, ap₂, subst, sym, ◌∙◌, arith}
use Rattle.std.specs.Prelude.{Option, Some, None, fold, if◌then◌else◌}
use Rattle.std.proofs.lemmas.List.{map-append, map_more, take-append-drop}
use Rattle.std.proofs.lemmas.List.Sums.{fold-append, fold_more}
use Rattle.kql_cells.specs.Table.{Grid}
use Rattle.kql_cells.specs.Values.{IsWellFormed}
use Rattle.kql_cells.specs.declared.value.Value.{Value}
use Rattle.kql_cells.specs.declared.value.Value.TheVariants as value
use Rattle.kql_functions.specs.declared.func.Func.{Func}
use Rattle.kql_functions.specs.declared.func.Func.TheVariants as func
use Rattle.kql_functions.specs.declared.func.LogicFunc.{LogicFunc}
use Rattle.kql_functions.specs.declared.func.LogicFunc.TheVariants as logic_func
use Rattle.kql_scalar_fns.specs.Applied.{applied}
use Rattle.kql_scalar_fns.specs.Arguments.{AreWellFormed, argument, bool_or_null}
use Rattle.kql_scalar_fns.specs.Choice.{choice, chosen}
use Rattle.kql_functions.specs.declared.func.ChoiceFunc.TheVariants as choice_func
use Rattle.kql_scalar_fns.specs.Logic.{both, both_known, conjunction, disjunction, either, either_known, is_true, logic, opposite, truth}
use Rattle.kql_bound.specs.declared.expr.BExpr.{BExpr}
use Rattle.kql_bound.specs.declared.expr.ChainSign.{ChainSign}
use Rattle.kql_bound.specs.declared.expr.StepColumn.{StepColumn}
use Rattle.kql_bound.specs.declared.literal.Lit.{Lit}
use Rattle.kql_meaning.specs.Expressions.{chain_value, path_value, reading, step_value, val, value_along, value_down, values_in}
use Rattle.kql_meaning.specs.Readings.{Reading, Records}
use Rattle.kql_meaning.specs.Tables.{cell, cell_in}
use Rattle.kql_meaning.specs.Windows.{windowed}
use Rattle.kql_functions.specs.declared.window.Window.{Window}
use Rattle.kql_cells.specs.declared.value.Kind.{Kind}
use Rattle.kql_meaning.proofs.ValueLaws.{val-Call, val-Chain, val-Column, val-Literal, val-Path, val-Step, val-Window}
use Rattle.kql_scalar.specs.Evaluated.{along, down, link_step, path_step, readings_of, values_of, window_of}
use Rattle.kql_scalar.specs.Means.{IsPlaced, link_means, means}
use Rattle.kql_scalar.specs.Shown.{shown}
use Rattle.kql_scalar.specs.declared.lent.Lent.{Lent}
use Rattle.kql_scalar.specs.declared.node.Node.{Node}
use Rattle.kql_scalar.specs.declared.node.Node.TheVariants as N
use Rattle.kql_scalar.proofs.FormFacts.{forms-along, forms-more}
use Rattle.kql_scalar.proofs.MeansSteps.{means-Call, means-Chain, means-Column, means-Literal, means-Missing, means-Path, means-Step, means-Window, parts-Column, parts-Missing}

-- The value of a tree at a row.
value_at : Grid → ℕ → Records → BExpr → Value
value_at t i s e = val e t i s

pub node-Literal : (l : Lit) (t : Grid) (i : ℕ) (s : Records) → val (means (N.Literal l)) t i s ≡ l.value
unfolding value_at
node-Literal l t i s = ap (value_at t i s) (means-Literal l) ∙ val-Literal l t i s

pub node-Column : (n : List ℕ) (place : ℕ) (t : Grid) (i : ℕ) (s : Records) → IsPlaced t.columns (N.Column n place) → val (means (N.Column n place)) t i s ≡ cell_in t i (Some place)
unfolding value_at cell
node-Column n place t i s h = ap (value_at t i s) (means-Column n place) ∙ (val-Column n t i s ∙ ap (cell_in t i) (parts-Column t.columns n place h))

pub node-Missing : (n : List ℕ) (t : Grid) (i : ℕ) (s : Records) → IsPlaced t.columns (N.Missing n) → val (means (N.Missing n)) t i s ≡ value.Null
unfolding value_at cell cell_in
node-Missing n t i s h = ap (value_at t i s) (means-Missing n) ∙ (val-Column n t i s ∙ ap (cell_in t i) (parts-Missing t.columns n h))

pub node-Step : (c : StepColumn) (t : Grid) (i : ℕ) (s : Records) → val (means (N.Step c)) t i s ≡ step_value c s
unfolding value_at
node-Step c t i s = ap (value_at t i s) (means-Step c) ∙ val-Step c t i s

values-means : (ns : List Node) (t : Grid) (i : ℕ) (s : Records) → values_in (map means ns) t i s ≡ values_of ns t i s
unfolding values_in values_of
values-means [] t i s = refl
values-means (n ∷ ns) t i s = ap (λ vs. val (means n) t i s ∷ vs) (values-means ns t i s)

pub node-Call : (f : Func) (args : List Node) (t : Grid) (i : ℕ) (s : Records) → val (means (N.Call f args)) t i s ≡ applied f (values_of args t i s)
unfolding value_at
node-Call f args t i s = ap (value_at t i s) (means-Call f args) ∙ (val-Call f (map means args) t i s ∙ ap (applied f) (values-means args t i s))

along-means : (links : List (ChainSign × Node)) (t : Grid) (i : ℕ) (s : Records) (v : Value) → value_along (map link_means links) t i s v ≡ along links t i s v
unfolding value_along chain_value along
along-means [] t i s v = refl
along-means (l ∷ ls) t i s v = along-means ls t i s (link_step t i s v l)

pub node-Chain : (first : Node) (links : List (ChainSign × Node)) (t : Grid) (i : ℕ) (s : Records) → val (means (N.Chain first links)) t i s ≡ along links t i s (val (means first) t i s)
unfolding value_at
node-Chain first links t i s = ap (value_at t i s) (means-Chain first links) ∙ (val-Chain (means first) (map link_means links) t i s ∙ along-means links t i s (val (means first) t i s))

down-means : (steps : List Node) (t : Grid) (i : ℕ) (s : Records) (v : Value) → value_down (map means steps) t i s v ≡ down steps t i s v
unfolding value_down path_value values_in down
down-means [] t i s v = refl
down-means (n ∷ ns) t i s v = down-means ns t i s (path_step t i s v n)

pub node-Path : (whole : Node) (steps : List Node) (t : Grid) (i : ℕ) (s : Records) → val (means (N.Path whole steps)) t i s ≡ down steps t i s (val (means whole) t i s)
unfolding value_at
node-Path whole steps t i s = ap (value_at t i s) (means-Path whole steps) ∙ (val-Path (means whole) (map means steps) t i s ∙ down-means steps t i s (val (means whole) t i s))

readings-means : (ns : List Node) → map {B = Reading} reading (map means ns) ≡ readings_of ns
unfolding readings_of
readings-means [] = refl
readings-means (n ∷ ns) = ap (λ (rs : List Reading). reading (means n) ∷ rs) (readings-means ns)

pub node-Window : (f : Window) (args : List Node) (kind : Option Kind) (t : Grid) (i : ℕ) (s : Records) → val (means (N.Window f args kind)) t i s ≡ window_of f args t i s
unfolding value_at window_of
node-Window f args kind t i s = ap (value_at t i s) (means-Window f args kind) ∙ (val-Window f (map means args) t i s ∙ ap (λ rs. windowed f rs t i s) (readings-means args))

-- The same where a match has opened the tree.

pub placed_Column : (node : Node) (n : List ℕ) (place : ℕ) (t : Grid) (i : ℕ) (s : Records) → IsPlaced t.columns node → node ≡ N.Column n place → val (means node) t i s ≡ cell_in t i (Some place)
placed_Column node n place t i s h is = ap (λ x. val (means x) t i s) is ∙ node-Column n place t i s (subst (IsPlaced t.columns) is h)

pub placed_Missing : (node : Node) (n : List ℕ) (t : Grid) (i : ℕ) (s : Records) → IsPlaced t.columns node → node ≡ N.Missing n → val (means node) t i s ≡ value.Null
placed_Missing node n t i s h is = ap (λ x. val (means x) t i s) is ∙ node-Missing n t i s (subst (IsPlaced t.columns) is h)

pub ruleset node_steps = (node-Literal, placed_Column, placed_Missing, node-Step, node-Call, node-Chain, node-Path, node-Window)

-- Loops over parts, up to a place.

pub values-none : (t : Grid) (i : ℕ) (s : Records) → values_of [] t i s ≡ []
unfolding values_of
values-none t i s = refl

pub values-joined : (n : Node) (ns : List Node) (t : Grid) (i : ℕ) (s : Records) → values_of (n ∷ ns) t i s ≡ val (means n) t i s ∷ values_of ns t i s
unfolding values_of
values-joined n ns t i s = refl

pub values-more : (ns : List Node) (k : ℕ) (d : Node) (t : Grid) (i : ℕ) (s : Records) → k < length ns → values_of (take (k + 1) ns) t i s ≡ values_of (take k ns) t i s ++ val (means (get_or ns k d)) t i s ∷ []
unfolding values_of
values-more ns k d t i s l = map_more (λ n. val (means n) t i s) ns k d l

-- One value more in the buffer of arguments.
pub values-turn : (ns : List Node) (k : ℕ) (n : Node) (before after : List Lent) (l : Lent) (t : Grid) (i : ℕ) (s : Records) → k < length ns → n ≡ get_or ns k n → map shown before ≡ values_of (take k ns) t i s → shown l ≡ val (means n) t i s → after ≡ before ++ l ∷ [] → map shown after ≡ values_of (take (k + 1) ns) t i s
values-turn ns k n before after l t i s lt is made one added =
    ap (map shown) added
    ∙ (map-append shown before (l ∷ [])
    ∙ (ap₂ (λ vs v. vs ++ v ∷ []) made (one ∙ ap (λ x. val (means x) t i s) is) ∙ sym (values-more ns k n t i s lt)))

pub forms-turn : (before after : List Lent) (l : Lent) → AreWellFormed (map shown before) → IsWellFormed (shown l) → after ≡ before ++ l ∷ [] → AreWellFormed (map shown after)
forms-turn before after l h f added = forms-along (map shown after) (map shown before ++ shown l ∷ []) (ap (map shown) added ∙ map-append shown before (l ∷ [])) (forms-more (map shown before) (shown l) h f)

pub along-none : (t : Grid) (i : ℕ) (s : Records) (v : Value) → along [] t i s v ≡ v
unfolding along
along-none t i s v = refl

pub along-more : (links : List (ChainSign × Node)) (k : ℕ) (d : ChainSign × Node) (t : Grid) (i : ℕ) (s : Records) (v : Value) → k < length links → along (take (k + 1) links) t i s v ≡ link_step t i s (along (take k links) t i s v) (get_or links k d)
unfolding along
along-more links k d t i s v l = fold_more (link_step t i s) v links k d l

pub down-none : (t : Grid) (i : ℕ) (s : Records) (v : Value) → down [] t i s v ≡ v
unfolding down
down-none t i s v = refl

pub down-more : (steps : List Node) (k : ℕ) (d : Node) (t : Grid) (i : ℕ) (s : Records) (v : Value) → k < length steps → down (take (k + 1) steps) t i s v ≡ path_step t i s (down (take k steps) t i s v) (get_or steps k d)
unfolding down
down-more steps k d t i s v l = fold_more (path_step t i s) v steps k d l

-- Operators on bools.

pub truth-cell : (o : Option Bool) → truth (bool_or_null o) ≡ o
unfolding truth
truth-cell None = refl
truth-cell (Some b) = refl

pub logic-And : (vs : List Value) → truth (logic logic_func.And vs) ≡ conjunction vs
unfolding logic
logic-And vs = truth-cell (conjunction vs)

pub logic-Or : (vs : List Value) → truth (logic logic_func.Or vs) ≡ disjunction vs
unfolding logic
logic-Or vs = truth-cell (disjunction vs)

-- A call of an operator on bools gives its truth as a value.
pub logic-cell : (f : LogicFunc) (vs : List Value) → bool_or_null (truth (logic f vs)) ≡ applied (func.Logic f) vs
unfolding logic applied truth
logic-cell logic_func.And vs = ap bool_or_null (truth-cell (conjunction vs))
logic-cell logic_func.Or vs = ap bool_or_null (truth-cell (disjunction vs))
logic-cell logic_func.Not vs = ap bool_or_null (truth-cell _)

pub conjunction-none : (t : Grid) (i : ℕ) (s : Records) → conjunction (values_of [] t i s) ≡ Some true
unfolding conjunction values_of
conjunction-none t i s = refl

pub conjunction-more : (ns : List Node) (k : ℕ) (d : Node) (t : Grid) (i : ℕ) (s : Records) → k < length ns → conjunction (values_of (take (k + 1) ns) t i s) ≡ both (conjunction (values_of (take k ns) t i s)) (truth (val (means (get_or ns k d)) t i s))
unfolding conjunction
conjunction-more ns k d t i s l = ap (fold both_known (Some true)) (values-more ns k d t i s l) ∙ fold-append both_known (Some true) (values_of (take k ns) t i s) _

false-stays : (vs : List Value) → fold both_known (Some false) vs ≡ Some false
false-stays [] = refl
false-stays (v ∷ vs) = false-stays vs

halves : (ns : List Node) (k : ℕ) (t : Grid) (i : ℕ) (s : Records) → values_of ns t i s ≡ values_of (take k ns) t i s ++ values_of (drop k ns) t i s
unfolding values_of
halves ns k t i s = ap (map (λ n. val (means n) t i s)) (sym (take-append-drop k ns)) ∙ map-append (λ n. val (means n) t i s) (take k ns) (drop k ns)

pub conjunction-false : (ns : List Node) (k : ℕ) (t : Grid) (i : ℕ) (s : Records) → conjunction (values_of (take k ns) t i s) ≡ Some false → conjunction (values_of ns t i s) ≡ Some false
unfolding conjunction
conjunction-false ns k t i s e =
    ap (fold both_known (Some true)) (halves ns k t i s)
    ∙ (fold-append both_known (Some true) (values_of (take k ns) t i s) _ ∙ (ap (λ o. fold both_known o (values_of (drop k ns) t i s)) e ∙ false-stays (values_of (drop k ns) t i s)))

pub disjunction-none : (t : Grid) (i : ℕ) (s : Records) → disjunction (values_of [] t i s) ≡ Some false
unfolding disjunction values_of
disjunction-none t i s = refl

pub disjunction-more : (ns : List Node) (k : ℕ) (d : Node) (t : Grid) (i : ℕ) (s : Records) → k < length ns → disjunction (values_of (take (k + 1) ns) t i s) ≡ either (disjunction (values_of (take k ns) t i s)) (truth (val (means (get_or ns k d)) t i s))
unfolding disjunction
disjunction-more ns k d t i s l = ap (fold either_known (Some false)) (values-more ns k d t i s l) ∙ fold-append either_known (Some false) (values_of (take k ns) t i s) _

true-stays : (vs : List Value) → fold either_known (Some true) vs ≡ Some true
true-stays [] = refl
true-stays (v ∷ vs) = true-stays vs

pub disjunction-true : (ns : List Node) (k : ℕ) (t : Grid) (i : ℕ) (s : Records) → disjunction (values_of (take k ns) t i s) ≡ Some true → disjunction (values_of ns t i s) ≡ Some true
unfolding disjunction
disjunction-true ns k t i s e =
    ap (fold either_known (Some false)) (halves ns k t i s)
    ∙ (fold-append either_known (Some false) (values_of (take k ns) t i s) _ ∙ (ap (λ o. fold either_known o (values_of (drop k ns) t i s)) e ∙ true-stays (values_of (drop k ns) t i s)))

-- Not of the first argument.
pub logic-Not : (vs : List Value) → truth (logic logic_func.Not vs) ≡ opposite (truth (argument vs 0))
unfolding logic
logic-Not vs = truth-cell _

pub not-none : (ns : List Node) (t : Grid) (i : ℕ) (s : Records) → length ns < 1 → truth (logic logic_func.Not (values_of ns t i s)) ≡ None
unfolding values_of argument truth logic
not-none [] t i s l = refl
not-none (n ∷ ns) t i s l = absurd (omega arith)

pub not-first : (ns : List Node) (n : Node) (t : Grid) (i : ℕ) (s : Records) → 1 ≤ length ns → n ≡ get_or ns 0 n → truth (logic logic_func.Not (values_of ns t i s)) ≡ opposite (truth (val (means n) t i s))
unfolding values_of argument
not-first [] n t i s l is = absurd (omega arith)
not-first (m ∷ ns) n t i s l is = logic-Not _ ∙ ap (λ x. opposite (truth (val (means x) t i s))) (sym is)

-- The values of one argument, and of two.
pub values-one : (ns : List Node) (a : Node) (t : Grid) (i : ℕ) (s : Records) → 1 ≤ length ns → length ns < 2 → a ≡ get_or ns 0 a → values_of ns t i s ≡ val (means a) t i s ∷ []
unfolding values_of
values-one [] a t i s l m is = absurd (omega arith)
values-one (n ∷ []) a t i s l m is = ap (λ x. val (means x) t i s ∷ []) (sym is)
values-one (n ∷ o ∷ ns) a t i s l m is = absurd (omega arith)

pub values-two : (ns : List Node) (a b : Node) (t : Grid) (i : ℕ) (s : Records) → 2 ≤ length ns → length ns < 3 → a ≡ get_or ns 0 a → b ≡ get_or ns 1 b → values_of ns t i s ≡ val (means a) t i s ∷ val (means b) t i s ∷ []
unfolding values_of
values-two [] a b t i s l m p q = absurd (omega arith)
values-two (n ∷ []) a b t i s l m p q = absurd (omega arith)
values-two (n ∷ o ∷ []) a b t i s l m p q = rw (← p, ← q) refl
values-two (n ∷ o ∷ k ∷ ns) a b t i s l m p q = absurd (omega arith)

-- What a call of an operator on bools gives.
pub applied-Logic : (f : LogicFunc) (vs : List Value) → applied (func.Logic f) vs ≡ logic f vs
unfolding applied
applied-Logic f vs = refl

pub ruleset applied_steps = (applied-Logic)

pub iff-values : (ns : List Node) (c a b : Node) (t : Grid) (i : ℕ) (s : Records) → 3 ≤ length ns → c ≡ get_or ns 0 c → a ≡ get_or ns 1 a → b ≡ get_or ns 2 b → choice choice_func.Iff (values_of ns t i s) ≡ (if is_true (truth (val (means c) t i s)) then val (means a) t i s else val (means b) t i s)
unfolding choice chosen values_of argument
iff-values [] c a b t i s l p q r = absurd (omega arith)
iff-values (n ∷ []) c a b t i s l p q r = absurd (omega arith)
iff-values (n ∷ o ∷ []) c a b t i s l p q r = absurd (omega arith)
iff-values (n ∷ o ∷ k ∷ ns) c a b t i s l p q r = rw (← p, ← q, ← r) refl

pub chosen-then : (ns : List Node) (c a b : Node) (t : Grid) (i : ℕ) (s : Records) → 3 ≤ length ns → c ≡ get_or ns 0 c → a ≡ get_or ns 1 a → b ≡ get_or ns 2 b → is_true (truth (val (means c) t i s)) ≡ true → val (means a) t i s ≡ choice choice_func.Iff (values_of ns t i s)
chosen-then ns c a b t i s l p q r e = rw (iff-values ns c a b t i s l p q r, e) refl

pub chosen-else : (ns : List Node) (c a b : Node) (t : Grid) (i : ℕ) (s : Records) → 3 ≤ length ns → c ≡ get_or ns 0 c → a ≡ get_or ns 1 a → b ≡ get_or ns 2 b → is_true (truth (val (means c) t i s)) ≡ false → val (means b) t i s ≡ choice choice_func.Iff (values_of ns t i s)
chosen-else ns c a b t i s l p q r e = rw (iff-values ns c a b t i s l p q r, e) refl

pub iff-call : (vs : List Value) → applied (func.Choice choice_func.Iff) vs ≡ choice choice_func.Iff vs
unfolding applied
iff-call vs = refl

pub ruleset values_steps = (values-none, values-more)

pub ruleset argument_steps = (values-one, values-two)

pub ruleset along_steps = (along-none, along-more)

pub ruleset down_steps = (down-none, down-more)

pub ruleset logic_steps = (logic-cell, iff-call)

pub ruleset truth_steps = (logic-And, logic-Or, not-none, not-first)

pub ruleset and_steps = (conjunction-none, conjunction-more, conjunction-false)

pub ruleset or_steps = (disjunction-none, disjunction-more, disjunction-true)

pub ruleset choice_steps = (iff-values, iff-call)

pub ruleset leaf_steps = (node-Literal, placed_Column)
