-- Items one after another, and expressions at all rows.
use Rattle.std.proofs.Common.{◌≡◌, ◌<◌, ◌≤◌, ◌+◌, ℕ, zero, suc, true, List, [], ◌∷◌, ◌++◌, length, get_or, take, drop, refl, ap, ap₂, sym, ◌∙◌, subst, arith}
use Rattle.std.specs.List.{list_all}
use Rattle.std.proofs.lemmas.Bool.{and_parts}
use Rattle.std.proofs.lemmas.List.{drop_more, map_more}
use Rattle.kql_cells.specs.Table.{Grid}
use Rattle.kql_cells.specs.declared.schema.Column.{Column}
use Rattle.kql_cells.specs.declared.value.Value.{Value}
use Rattle.kql_bound.specs.declared.expr.BExpr.{BExpr}
use Rattle.kql_bound.specs.declared.parts.BItem.{BItem}
use Rattle.kql_meaning.specs.declared.position.Position.TheVariants as position
use Rattle.kql_meaning.specs.Expressions.{val}
use Rattle.kql_meaning.specs.FittingExpressions.{expr_fits, scope_of}
use Rattle.kql_meaning.specs.FittingOperators.{has_its_names, item_fits, items_fit}
use Rattle.kql_meaning.specs.Tables.{places, places_below}
use Rattle.kql_scalar.specs.Scalar.{is_of_rows}
use Rattle.row_ops.specs.ItemColumns.{item_columns, values_down}
use Rattle.row_ops.proofs.ItemColumnFacts.{map-range-same}
use Rattle.window_ops.specs.Calls.{AreBefore, calls_of, calls_of_items}
use Rattle.window_ops.specs.Carries.{Carried}
use Rattle.window_ops.specs.Columns.{columns_of_items, values_from}
use Rattle.window_ops.specs.Fitting.{FitsRows, IsReady}
use Rattle.window_ops.proofs.CallLaws.{before-first, before-parts}

window-of-rows : is_of_rows position.Window ≡ true
unfolding is_of_rows
window-of-rows = refl

pub item-fitting : (items : List BItem) (cs : List Column) (i : ℕ) (b : BItem) → items_fit items cs position.Window ≡ true → i < length items → b ≡ get_or items i b → FitsRows cs b.expr
unfolding items_fit item_fits
item-fitting [] cs i b fits lt is = absurd (omega arith)
item-fitting (c ∷ ds) cs zero b fits lt is =
    let parts = and_parts (item_fits (scope_of cs) position.Window c) (list_all (item_fits (scope_of cs) position.Window) ds) fits in
    let own = and_parts (expr_fits c.expr (scope_of cs) position.Window) (has_its_names c cs) parts.0 in
    subst (λ (x : BItem). FitsRows cs x.expr) (sym is) (record { at = position.Window; rows = window-of-rows; fits = own.0 })
item-fitting (c ∷ ds) cs (suc i) b fits lt is =
    item-fitting ds cs i b (and_parts (item_fits (scope_of cs) position.Window c) (list_all (item_fits (scope_of cs) position.Window) ds) fits).1 (omega (arith, lt)) is

pub items-start : (t : Grid) (from n : ℕ) → columns_of_items [] t from n ≡ []
unfolding columns_of_items
items-start t from n = refl

pub items-step : (items : List BItem) (t : Grid) (from n i : ℕ) (b : BItem) (old new : List (List Value)) (v : List Value) → i < length items → b ≡ get_or items i b → old ≡ columns_of_items (take i items) t from n → v ≡ values_from b.expr t from n → new ≡ old ++ v ∷ [] → new ≡ columns_of_items (take (i + 1) items) t from n
unfolding columns_of_items
items-step items t from n i b old new v lt is before value after =
    after
    ∙ (ap₂ (λ (vs : List (List Value)) (w : List Value). vs ++ w ∷ []) before (value ∙ ap (λ (x : BItem). values_from x.expr t from n) is)
    ∙ sym (map_more (λ (x : BItem). values_from x.expr t from n) items i b lt))

-- The carries of the calls in the items that are left.

carries-at : (items : List BItem) (t : Grid) (from i : ℕ) (b : BItem) (cs : List Carried) → i < length items → b ≡ get_or items i b → AreBefore (calls_of_items (drop i items)) t from cs → AreBefore (calls_of b.expr) t from cs × AreBefore (calls_of_items (drop (i + 1) items)) t from (drop (length (calls_of b.expr)) cs)
unfolding calls_of_items
carries-at items t from i b cs lt is h =
    before-parts (calls_of b.expr) (calls_of_items (drop (i + 1) items)) t from cs
    (subst (λ xs. AreBefore (calls_of_items xs) t from cs) (drop_more items i b lt ∙ ap (λ (x : BItem). x ∷ drop (i + 1) items) (sym is)) h)

pub carries-start : (items : List BItem) (t : Grid) (from : ℕ) (cs : List Carried) → AreBefore (calls_of_items items) t from cs → AreBefore (calls_of_items (drop 0 items)) t from cs
carries-start items t from cs h = h

pub item-ready : (items : List BItem) (t : Grid) (from n i : ℕ) (b : BItem) (cs : List Carried) → items_fit items t.columns position.Window ≡ true → from + n ≤ length t.lines → i < length items → b ≡ get_or items i b → AreBefore (calls_of_items (drop i items)) t from cs → IsReady b.expr t from n cs
item-ready items t from n i b cs fits range lt is h = record {
  fits = item-fitting items t.columns i b fits lt is;
  range = range;
  carries = (carries-at items t from i b cs lt is h).0;
}

pub carries-next : (items : List BItem) (t : Grid) (from i : ℕ) (b : BItem) (cs rest : List Carried) → i < length items → b ≡ get_or items i b → AreBefore (calls_of_items (drop i items)) t from cs → rest ≡ drop (length (calls_of b.expr)) cs → AreBefore (calls_of_items (drop (i + 1) items)) t from rest
carries-next items t from i b cs rest lt is h behind = subst (AreBefore (calls_of_items (drop (i + 1) items)) t from) (sym behind) (carries-at items t from i b cs lt is h).1

pub ruleset fitting_steps = (item-fitting)

pub ruleset item_steps = (items-start, items-step, carries-start, item-ready, carries-next)

-- All rows.

down-whole : (e : BExpr) (t : Grid) → values_from e t 0 (length t.lines) ≡ values_down e t
unfolding values_from values_down places places_below
down-whole e t = map-range-same (λ k. val e t (0 + k) []) (λ k. val e t k []) 0 (length t.lines) (λ k lt. let same : 0 + k ≡ k = omega arith in ap (λ j. val e t j []) same)

items-whole : (items : List BItem) (t : Grid) → columns_of_items items t 0 (length t.lines) ≡ item_columns items t
unfolding columns_of_items item_columns
items-whole [] t = refl
items-whole (b ∷ bs) t = ap₂ (λ (v : List Value) (vs : List (List Value)). v ∷ vs) (down-whole b.expr t) (items-whole bs t)

pub all-items : (items : List BItem) (t : Grid) (n : ℕ) (vs : List (List Value)) → n ≡ length t.lines → vs ≡ columns_of_items items t 0 n → vs ≡ item_columns items t
all-items items t n vs len is = is ∙ (ap (columns_of_items items t 0) len ∙ items-whole items t)

pub all-values-down : (e : BExpr) (t : Grid) (n : ℕ) (v : List Value) → n ≡ length t.lines → v ≡ values_from e t 0 n → v ≡ values_down e t
all-values-down e t n v len is = is ∙ (ap (values_from e t 0) len ∙ down-whole e t)

pub all-range : (t : Grid) (n : ℕ) → n ≡ length t.lines → 0 + n ≤ length t.lines
all-range t n len = omega (arith, len)

pub all-carries : (items : List BItem) (t : Grid) → AreBefore (calls_of_items items) t 0 []
all-carries items t = before-first (calls_of_items items) t

pub all-ready : (e : BExpr) (t : Grid) (n : ℕ) → FitsRows t.columns e → n ≡ length t.lines → IsReady e t 0 n []
all-ready e t n h len = record { fits = h; range = all-range t n len; carries = before-first (calls_of e) t }

pub ruleset whole_steps = (all-items, all-values-down, all-range, all-carries, all-ready)
