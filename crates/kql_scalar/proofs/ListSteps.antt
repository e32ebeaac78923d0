-- A column looked for in a list of constants.
use Rattle.std.proofs.Common.{◌≡◌, ◌<◌, ◌≤◌, ◌+◌, ◌-◌, ◌||◌, ℕ, zero, suc, Bool, cond, true, false, List, [], ◌∷◌, ◌++◌, length, map, take, drop, get_or, refl, ap, ap₂, subst, sym, ◌∙◌, arith}
use Rattle.std.specs.Prelude.{IsTrue, ◌↔◌, Some}
use Rattle.std.specs.Bool.{one_answer}
use Rattle.std.specs.List.{list_any}
use Rattle.std.proofs.lemmas.List.{map-append}
use Rattle.std.proofs.lemmas.List.Folds.{list_any-append}
use Rattle.kql_cells.specs.Keys.{is_null, same_key, same_key-decides}
use Rattle.kql_cells.specs.Seen.{seen}
use Rattle.kql_cells.specs.Table.{Grid}
use Rattle.kql_cells.specs.declared.cell.CellRef.{CellRef}
use Rattle.kql_cells.specs.Values.{IsOfKind}
use Rattle.kql_cells.specs.declared.value.Kind.{Kind}
use Rattle.kql_cells.specs.declared.value.Value.{Value}
use Rattle.kql_cells.specs.declared.value.Value.TheVariants as value
use Rattle.kql_functions.specs.Kinds.{is_dynamic}
use Rattle.kql_functions.specs.declared.func.ComparisonFunc.{ComparisonFunc}
use Rattle.kql_functions.specs.declared.func.ComparisonFunc.TheVariants as comparison_func
use Rattle.kql_functions.specs.declared.func.Func.TheVariants as func
use Rattle.kql_texts.specs.declared.folding.Fold.TheVariants.{Exact}
use Rattle.kql_scalar_fns.specs.Applied.{applied}
use Rattle.kql_scalar_fns.specs.Arguments.{AreWellFormed, argument}
use Rattle.kql_scalar_fns.specs.Comparison.{comparison, is_among, values_in}
use Rattle.kql_scalar_fns.specs.Logic.{truth}
use Rattle.kql_scalar_fns.proofs.MemberLaws.{list-has-keys, null-in-none}
use Rattle.kql_bound.specs.declared.literal.Lit.{Lit}
use Rattle.kql_meaning.specs.Expressions.{val}
use Rattle.kql_meaning.specs.Tables.{cell_in}
use Rattle.kql_meaning.specs.Values.{holds}
use Rattle.kql_scalar.specs.Evaluated.{values_of}
use Rattle.kql_scalar.specs.Lists.{AreConstants, IsListTest, list_sign, turned}
use Rattle.kql_scalar.specs.Means.{ArePlaced, IsPlaced, means}
use Rattle.kql_scalar.specs.Rows.{call_passes}
use Rattle.kql_scalar.specs.declared.node.Node.{Node}
use Rattle.kql_scalar.specs.declared.node.Node.TheVariants as N
use Rattle.kql_scalar.proofs.FormFacts.{column_within, forms-more, forms-none, literal_form}
use Rattle.kql_scalar.proofs.MeansSteps.{parts-item}
use Rattle.kql_scalar.proofs.NodeSteps.{node-Literal, placed_Column, values-joined, values-more, values-none}

-- Keys.

pub same-answer : (a b : Value) (r : Bool) → (IsTrue r ↔ (a ≡ b)) → r ≡ same_key a b
same-answer a b r h = one_answer r (same_key a b) (h.0, h.1) (same_key-decides a b)

symmetric : (x v : Value) → same_key x v ≡ same_key v x
symmetric x v = one_answer (same_key x v) (same_key v x) (same_key-decides x v) (λ e. sym ((same_key-decides v x).0 e), λ p. (same_key-decides v x).1 (sym p))

or-swapped : (a b : Bool) → (a || b) ≡ (b || a)
or-swapped true true = refl
or-swapped true false = refl
or-swapped false true = refl
or-swapped false false = refl

or-false : (a : Bool) → (a || false) ≡ a
or-false true = refl
or-false false = refl

either : (a b : Bool) → cond a true b ≡ (a || b)
either true b = refl
either false b = refl

pub key-more : (vs : List Value) (x v : Value) → cond (same_key x v) true (list_any (same_key v) vs) ≡ list_any (same_key v) (vs ++ x ∷ [])
key-more vs x v =
    either (same_key x v) (list_any (same_key v) vs) ∙ (ap (λ b. b || list_any (same_key v) vs) (symmetric x v)
    ∙ (or-swapped (same_key v x) (list_any (same_key v) vs)
    ∙ (ap (λ b. list_any (same_key v) vs || b) (sym (or-false (same_key v x))) ∙ sym (list_any-append (same_key v) vs (x ∷ [])))))

-- Constants.

pub constants-none : (t : Grid) → AreConstants [] t []
constants-none t = record { values = λ i. values-none t i []; form = forms-none }

pub constants-more : (ns : List Node) (k : ℕ) (n : Node) (l : Lit) (t : Grid) (vs : List Value) → ArePlaced t.columns ns → k < length ns → n ≡ get_or ns k n → n ≡ N.Literal l → AreConstants (take k ns) t vs → AreConstants (take (k + 1) ns) t (vs ++ l.value ∷ [])
constants-more ns k n l t vs placed lt is lit h = record {
  values = λ i. values-more ns k n t i [] lt
      ∙ ap₂ (λ ws w. ws ++ w ∷ []) (h.values i) (ap (λ m. val (means m) t i []) (sym is ∙ lit) ∙ node-Literal l t i []);
  form = forms-more vs l.value h.form (literal_form t.columns n l (parts-item t.columns ns k n is lt placed) lit);
}

pub constants-form : (ns : List Node) (t : Grid) (vs : List Value) → AreConstants ns t vs → AreWellFormed vs
constants-form ns t vs h = h.form

pub constants-turn : (ns : List Node) (k : ℕ) (n : Node) (l : Lit) (t : Grid) (before after : List CellRef) (x : CellRef) → ArePlaced t.columns ns → k < length ns → n ≡ get_or ns k n → n ≡ N.Literal l → seen x ≡ l.value → after ≡ before ++ x ∷ [] → AreConstants (take k ns) t (map seen before) → AreConstants (take (k + 1) ns) t (map seen after)
constants-turn ns k n l t before after x placed lt is lit shows added h =
    let e : map seen after ≡ map seen before ++ l.value ∷ [] = ap (map seen) added ∙ (map-append seen before (x ∷ []) ∙ ap (λ v. map seen before ++ v ∷ []) shows) in
    subst (AreConstants (take (k + 1) ns) t) (sym e) (constants-more ns k n l t (map seen before) placed lt is lit h)

pub ruleset form_steps = (constants-form)

-- A column and the parts behind it.

take-whole : (ns : List Node) (k : ℕ) → k ≡ length ns → take k ns ≡ ns
take-whole [] k e = rw e refl
take-whole (n ∷ ns) zero e = absurd (omega arith)
take-whole (n ∷ ns) (suc k) e = ap (λ (ms : List Node). n ∷ ms) (take-whole ns k (omega arith))

behind : (n : Node) (ns : List Node) → take (length (n ∷ ns) - 1) (drop 1 (n ∷ ns)) ≡ ns
behind n ns = take-whole ns (length (n ∷ ns) - 1) (omega arith)

pub list-test : (args : List Node) (t : Grid) (a : Node) (name : List ℕ) (place : ℕ) (vs : List Value) → ArePlaced t.columns args → 1 ≤ length args → a ≡ get_or args 0 a → a ≡ N.Column name place → AreConstants (take (length args - 1) (drop 1 args)) t vs → IsListTest args t place vs
list-test [] t a name place vs placed l is column h = absurd (omega arith)
list-test (n ∷ ns) t a name place vs placed l is column h =
    let here : IsPlaced t.columns a = parts-item t.columns (n ∷ ns) 0 a is (omega arith) placed in
    record {
      within = column_within t.columns a name place here column;
      values = λ i. values-joined n ns t i []
          ∙ ap₂ (λ w ws. w ∷ ws) (ap (λ m. val (means m) t i []) (sym is) ∙ placed_Column a name place t i [] here column)
          (ap (λ ms. values_of ms t i []) (sym (behind n ns)) ∙ h.values i);
    }

-- Whether the cell passes.

pub list-passes : (f : ComparisonFunc) (args : List Node) (t : Grid) (place : ℕ) (vs : List Value) (negated : Bool) → IsListTest args t place vs → list_sign f ≡ Some negated → (i : ℕ) → call_passes (func.Comparison f) args t i ≡ turned negated (is_among Exact (cell_in t i (Some place)) vs)
unfolding call_passes holds applied comparison argument truth list_sign turned
list-passes comparison_func.In args t place vs negated h e i = let is : false ≡ negated = cc in rw (h.values i, ← is) refl
list-passes comparison_func.NotIn args t place vs negated h e i = let is : true ≡ negated = cc in rw (h.values i, ← is) refl
list-passes _ args t place vs negated h e i = absurd cc

null-passes : (v : Value) (vs : List Value) → is_null v ≡ true → is_among Exact v vs ≡ false
unfolding is_null
null-passes value.Null vs e = null-in-none Exact vs
null-passes _ vs e = absurd cc

turned-false : (negated : Bool) → turned negated false ≡ negated
unfolding turned
turned-false true = refl
turned-false false = refl

pub null-kept : (f : ComparisonFunc) (args : List Node) (t : Grid) (place : ℕ) (vs : List Value) (negated : Bool) (v : Value) (i : ℕ) → IsListTest args t place vs → list_sign f ≡ Some negated → v ≡ cell_in t i (Some place) → is_null v ≡ true → negated ≡ call_passes (func.Comparison f) args t i
null-kept f args t place vs negated v i h sign is null =
    sym (list-passes f args t place vs negated h sign i
    ∙ (ap (λ w. turned negated (is_among Exact w vs)) (sym is) ∙ (ap (turned negated) (null-passes v vs null) ∙ turned-false negated)))

pub key-kept : (f : ComparisonFunc) (args : List Node) (t : Grid) (place : ℕ) (vs : List Value) (negated found : Bool) (k : Kind) (v : Value) (i : ℕ) → IsListTest args t place vs → list_sign f ≡ Some negated → v ≡ cell_in t i (Some place) → is_dynamic k ≡ false → is_null v ≡ false → IsOfKind k v → found ≡ list_any (same_key v) (values_in k vs) → turned negated found ≡ call_passes (func.Comparison f) args t i
key-kept f args t place vs negated found k v i h sign is simple there kind e =
    sym (list-passes f args t place vs negated h sign i
    ∙ (ap (λ w. turned negated (is_among Exact w vs)) (sym is) ∙ ap (turned negated) (list-has-keys k v vs simple there kind ∙ sym e)))
