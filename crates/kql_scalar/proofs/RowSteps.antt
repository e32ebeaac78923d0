-- Values at the rows of a range, and the places at which parts are true.
use Rattle.std.proofs.Common.{◌≡◌, ◌<◌, ◌≤◌, ◌+◌, ◌-◌, ◌&&◌, ℕ, zero, suc, Bool, true, false, cond, List, [], ◌∷◌, ◌++◌, length, map, take, get_or, filter, refl, ap, ap₂, subst, sym, ◌∙◌, arith, inl, inr}
use Rattle.std.specs.Prelude.{All, Option, Some, None, fold, if◌then◌else◌}
use Rattle.std.specs.List.{list_all}
use Rattle.std.proofs.Math.Bool.{and-true, and_assoc}
use Rattle.std.proofs.lemmas.Bool.{cases_Bool}
use Rattle.std.proofs.lemmas.List.{take_more}
use Rattle.std.proofs.lemmas.List.Elements.{filter-append}
use Rattle.std.specs.List.{range_with_len}
use Rattle.std.proofs.lemmas.List.FromFn.{get_or-range_with_len, length-range_with_len, map-range_with_len_more}
use Rattle.std.proofs.lemmas.List.Sums.{fold_more}
use Rattle.kql_cells.specs.Table.{Grid}
use Rattle.kql_cells.specs.declared.value.Value.{Value}
use Rattle.kql_functions.specs.declared.func.ComparisonFunc.{ComparisonFunc}
use Rattle.kql_functions.specs.declared.func.Func.{Func}
use Rattle.kql_functions.specs.declared.func.Func.TheVariants as func
use Rattle.kql_functions.specs.declared.func.LogicFunc.TheVariants as logic_func
use Rattle.kql_scalar_fns.specs.Applied.{applied}
use Rattle.kql_scalar_fns.specs.Logic.{both, both_known, conjunction, is_true, truth}
use Rattle.kql_bound.specs.declared.literal.Lit.{Lit}
use Rattle.kql_meaning.specs.Expressions.{val}
use Rattle.kql_meaning.specs.Tables.{cell_in}
use Rattle.kql_meaning.specs.Values.{holds}
use Rattle.kql_scalar.specs.Evaluated.{AreSound, values_of}
use Rattle.kql_scalar.specs.Means.{ArePlaced, means}
use Rattle.kql_scalar.specs.Rows.{AreBelow, IsColumnTest, call_passes, cell_compares, compares, passes, passing_all, rows}
use Rattle.kql_scalar.specs.declared.node.Node.{Node}
use Rattle.kql_scalar.specs.declared.node.Node.TheVariants as N
use Rattle.kql_scalar.proofs.FormFacts.{column_within, literal_form}
use Rattle.kql_scalar.proofs.MeansSteps.{parts-item}
use Rattle.kql_scalar.proofs.NodeSteps.{logic-And, node-Call, node-Literal, placed_Column, values-two}

-- No step record is sound.
pub sound_none : AreSound []
sound_none = record { each = λ k d l. absurd (omega arith) }

-- One row more.

pub values_more : (f : ℕ → Value) (from i : ℕ) → from ≤ i → map f (rows from (i + 1)) ≡ map f (rows from i) ++ f i ∷ []
unfolding rows
values_more f from i h =
    let on : (i + 1) - from ≡ (i - from) + 1 = omega arith in
    let at : from + (i - from) ≡ i = omega arith in
    rw on (map-range_with_len_more f from (i - from) i at)

identity : (xs : List ℕ) → map (λ x. x) xs ≡ xs
identity [] = refl
identity (x ∷ xs) = ap (λ ys. x ∷ ys) (identity xs)

pub rows_more : (from i : ℕ) → from ≤ i → rows from (i + 1) ≡ rows from i ++ i ∷ []
unfolding rows
rows_more from i h =
    let on : (i + 1) - from ≡ (i - from) + 1 = omega arith in
    let at : from + (i - from) ≡ i = omega arith in
    let e = map-range_with_len_more (λ x. x) from (i - from) i at in
    rw on (sym (identity _) ∙ (e ∙ ap (λ xs. xs ++ i ∷ []) (identity _)))

pub rows_none : (from : ℕ) → rows from from ≡ []
unfolding rows
rows_none from = let none : from - from ≡ 0 = omega arith in rw none refl

pub rows_end : (from i to : ℕ) → to ≤ i → i ≤ to → rows from i ≡ rows from to
rows_end from i to h k = let same : i ≡ to = omega arith in rw same refl

one : (p : ℕ → Bool) (i : ℕ) → filter p (i ∷ []) ≡ cond (p i) (i ∷ []) []
one p i = elim (cases_Bool (p i)) [ inl e ↦ rw e refl | inr e ↦ rw e refl ]

pub values_none : (f : ℕ → Value) (from : ℕ) → map f (rows from from) ≡ []
values_none f from = rw (rows_none from) refl

pub kept_at : (p : ℕ → Bool) (xs : List ℕ) (k d : ℕ) → k < length xs → filter p (take (k + 1) xs) ≡ filter p (take k xs) ++ cond (p (get_or xs k d)) (get_or xs k d ∷ []) []
kept_at p xs k d l = ap (filter p) (take_more xs k d l) ∙ (filter-append p (take k xs) (get_or xs k d ∷ []) ∙ ap (λ ys. filter p (take k xs) ++ ys) (one p (get_or xs k d)))

pub passing-none : (t : Grid) (places : List ℕ) → passing_all [] t places ≡ places
unfolding passing_all
passing-none t places = refl

pub passing-more : (ns : List Node) (k : ℕ) (d : Node) (t : Grid) (places : List ℕ) → k < length ns → passing_all (take (k + 1) ns) t places ≡ filter (passes (means (get_or ns k d)) t) (passing_all (take k ns) t places)
unfolding passing_all
passing-more ns k d t places l = fold_more (λ left n. filter (passes (means n) t) left) places ns k d l

-- A conjunction is true where all of its parts are.

true-both : (o q : Option Bool) → is_true (both o q) ≡ (is_true o && is_true q)
true-both (Some true) q = refl
true-both (Some false) q = refl
true-both None (Some true) = refl
true-both None (Some false) = refl
true-both None None = refl

true-all : (o : Option Bool) (vs : List Value) → is_true (fold both_known o vs) ≡ (is_true o && list_all holds vs)
unfolding holds
true-all o [] = sym (and-true (is_true o))
true-all o (v ∷ vs) = true-all (both o (truth v)) vs ∙ (ap (λ b. b && list_all holds vs) (true-both o (truth v)) ∙ and_assoc (is_true o) (is_true (truth v)) (list_all holds vs))

filter-same : (p q : ℕ → Bool) (xs : List ℕ) → ((i : ℕ) → p i ≡ q i) → filter p xs ≡ filter q xs
filter-same p q [] h = refl
filter-same p q (x ∷ xs) h = elim (cases_Bool (q x)) [
  | inl e ↦ rw (h x, e, filter-same p q xs h) refl
  | inr e ↦ rw (h x, e, filter-same p q xs h) refl
]

filter-true : (xs : List ℕ) → filter (λ i. true) xs ≡ xs
filter-true [] = refl
filter-true (x ∷ xs) = ap (λ ys. x ∷ ys) (filter-true xs)

filter-twice : (p q : ℕ → Bool) (xs : List ℕ) → filter q (filter p xs) ≡ filter (λ i. p i && q i) xs
filter-twice p q [] = refl
filter-twice p q (x ∷ xs) = elim (cases_Bool (p x)) [
  | inl e ↦ elim (cases_Bool (q x)) [
    | inl f ↦ rw (e, f, filter-twice p q xs) refl
    | inr f ↦ rw (e, f, filter-twice p q xs) refl
  ]
  | inr e ↦ rw (e, filter-twice p q xs) refl
]

all_hold : List Node → Grid → ℕ → Bool
all_hold ns t i = list_all holds (values_of ns t i [])

narrowed : (ns : List Node) (t : Grid) (places : List ℕ) → passing_all ns t places ≡ filter (all_hold ns t) places
unfolding passing_all passes values_of all_hold
narrowed [] t places = sym (filter-true places)
narrowed (n ∷ ns) t places =
    narrowed ns t (filter (passes (means n) t) places)
    ∙ filter-twice (passes (means n) t) (all_hold ns t) places

and-passes : (args : List Node) (t : Grid) (i : ℕ) → call_passes (func.Logic logic_func.And) args t i ≡ all_hold args t i
unfolding call_passes holds all_hold applied conjunction
and-passes args t i = ap is_true (logic-And (values_of args t i [])) ∙ true-all (Some true) (values_of args t i [])

pub and-call : (args : List Node) (t : Grid) (places : List ℕ) → filter (call_passes (func.Logic logic_func.And) args t) places ≡ passing_all args t places
and-call args t places = filter-same (call_passes (func.Logic logic_func.And) args t) (all_hold args t) places (and-passes args t) ∙ sym (narrowed args t places)

call-at : (n : Node) (f : Func) (args : List Node) (t : Grid) → n ≡ N.Call f args → (i : ℕ) → passes (means n) t i ≡ call_passes f args t i
unfolding passes call_passes
call-at n f args t is i = ap (λ x. holds (val (means x) t i [])) is ∙ ap holds (node-Call f args t i [])

pub node-call : (n : Node) (f : Func) (args : List Node) (t : Grid) (places : List ℕ) → n ≡ N.Call f args → filter (passes (means n) t) places ≡ filter (call_passes f args t) places
node-call n f args t places is = filter-same (passes (means n) t) (call_passes f args t) places (call-at n f args t is)

-- A comparison of a column with a constant.

pub cell_kept : (f : ComparisonFunc) (t : Grid) (place : ℕ) (w : Value) (xs : List ℕ) (k d : ℕ) → k < length xs → filter (cell_compares f t place w) (take (k + 1) xs) ≡ filter (cell_compares f t place w) (take k xs) ++ cond (compares f (cell_in t (get_or xs k d) (Some place)) w) (get_or xs k d ∷ []) []
unfolding cell_compares
cell_kept f t place w xs k d l = kept_at (cell_compares f t place w) xs k d l

compares-at : (f : ComparisonFunc) (args : List Node) (t : Grid) (place : ℕ) (v : Value) → IsColumnTest args t place v → (i : ℕ) → call_passes (func.Comparison f) args t i ≡ cell_compares f t place v i
unfolding call_passes cell_compares compares
compares-at f args t place v h i = ap (λ vs. holds (applied (func.Comparison f) vs)) (h.values i)

pub column-compares : (f : ComparisonFunc) (args : List Node) (t : Grid) (place : ℕ) (v : Value) (places : List ℕ) → IsColumnTest args t place v → filter (call_passes (func.Comparison f) args t) places ≡ filter (cell_compares f t place v) places
column-compares f args t place v places h = filter-same (call_passes (func.Comparison f) args t) (cell_compares f t place v) places (compares-at f args t place v h)

pub column-test : (args : List Node) (t : Grid) (a b : Node) (name : List ℕ) (place : ℕ) (l : Lit) → ArePlaced t.columns args → 2 ≤ length args → length args < 3 → a ≡ get_or args 0 a → b ≡ get_or args 1 b → a ≡ N.Column name place → b ≡ N.Literal l → IsColumnTest args t place l.value
column-test args t a b name place l h low high p q is lit =
    let ha = parts-item t.columns args 0 a p (omega arith) h in
    let hb = parts-item t.columns args 1 b q (omega arith) h in
    record {
      within = column_within t.columns a name place ha is;
      form = literal_form t.columns b l hb lit;
      values = λ i. values-two args a b t i [] low high p q ∙ ap₂ (λ v w. v ∷ w ∷ []) (placed_Column a name place t i [] ha is) (ap (λ n. val (means n) t i []) lit ∙ node-Literal l t i []);
    }

-- Places that are below a count.

pub below-item : (n : ℕ) (xs : List ℕ) (k d : ℕ) → AreBelow n xs → k < length xs → get_or xs k d < n
below-item n xs k d h l = h.each k d l

pub below-none : (n : ℕ) → AreBelow n []
below-none n = record { each = λ k d l. absurd (omega arith) }

all-push : (n : ℕ) (xs : List ℕ) (x : ℕ) → All (λ i. i < n) xs → x < n → All (λ i. i < n) (xs ++ x ∷ [])
all-push n [] x h l zero d m = l
all-push n [] x h l (suc k) d m = absurd (omega arith)
all-push n (y ∷ ys) x h l zero d m = h zero d (omega arith)
all-push n (y ∷ ys) x h l (suc k) d m = all-push n ys x (λ j e b. h (suc j) e (omega arith)) l k d (omega arith)

pub below-more : (n : ℕ) (xs : List ℕ) (x : ℕ) → AreBelow n xs → x < n → AreBelow n (xs ++ x ∷ [])
below-more n xs x h l = record { each = all-push n xs x h.each l }

below-if : (n x : ℕ) (b : Bool) (ys : List ℕ) → x < n → AreBelow n ys → AreBelow n (if b then x ∷ ys else ys)
below-if n x false ys l h = h
below-if n x true ys l h = record { each = at } where
  at : All (λ i. i < n) (x ∷ ys)
  at zero d m = l
  at (suc k) d m = h.each k d (omega arith)

below-tail : (n x : ℕ) (xs : List ℕ) → AreBelow n (x ∷ xs) → AreBelow n xs
below-tail n x xs h = record { each = λ k d l. h.each (suc k) d (omega arith) }

pub below-kept : (n : ℕ) (p : ℕ → Bool) (xs : List ℕ) → AreBelow n xs → AreBelow n (filter p xs)
below-kept n p [] h = h
below-kept n p (x ∷ xs) h = below-if n x (p x) (filter p xs) (h.each zero x (omega arith)) (below-kept n p xs (below-tail n x xs h))

pub below-along : (n : ℕ) (p : ℕ → Bool) (xs ys : List ℕ) → AreBelow n xs → ys ≡ filter p xs → AreBelow n ys
below-along n p xs ys h e = subst (AreBelow n) (sym e) (below-kept n p xs h)

pub places-more : (from i : ℕ) (xs ys : List ℕ) → from ≤ i → xs ≡ rows from i → ys ≡ xs ++ i ∷ [] → ys ≡ rows from (i + 1)
places-more from i xs ys l e added = added ∙ (ap (λ zs. zs ++ i ∷ []) e ∙ sym (rows_more from i l))

pub below-added : (n i : ℕ) (xs ys : List ℕ) → AreBelow n xs → i < n → ys ≡ xs ++ i ∷ [] → AreBelow n ys
below-added n i xs ys h l added = subst (AreBelow n) (sym added) (below-more n xs i h l)

pub narrowed-more : (ns : List Node) (k : ℕ) (n : Node) (t : Grid) (places left after : List ℕ) → k < length ns → n ≡ get_or ns k n → left ≡ passing_all (take k ns) t places → after ≡ filter (passes (means n) t) left → after ≡ passing_all (take (k + 1) ns) t places
narrowed-more ns k n t places left after l is made e =
    e ∙ (ap₂ (λ m xs. filter (passes (means m) t) xs) is made ∙ sym (passing-more ns k n t places l))

pub within-of : (p : ℕ → Bool) (from to n : ℕ) (ps : List ℕ) → from ≤ to → to ≤ n → ps ≡ filter p (rows from to) → All (λ i. i < n) ps
unfolding rows
within-of p from to n ps l m is = (below-along n p (range_with_len from (to - from)) ps (record {
  each = λ k d b.
      let below : k < to - from = subst (λ z. k < z) (length-range_with_len from (to - from)) b in
      let at : get_or (range_with_len from (to - from)) k d ≡ from + k = get_or-range_with_len from (to - from) k d below in
      rw at (omega arith);
}) is).each

pub ruleset within_steps = (within-of)

pub ruleset row_steps = (rows_none, rows_more, rows_end, below-none, below-more)

pub ruleset kept_steps = (kept_at, below-item)

pub ruleset narrow_steps = (passing-none, narrowed-more, below-along)

pub ruleset place_steps = (node-call)

pub ruleset call_steps = (and-call)

pub ruleset cell_steps = (cell_kept, below-item)

pub ruleset test_steps = (column-test)

pub ruleset comparison_steps = (column-compares)
