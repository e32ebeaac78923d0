-- The values of an expression at so many rows of a table from a row on, from the columns of its parts.
use Rattle.std.proofs.Common.{◌≡◌, ◌<◌, ◌≤◌, ◌+◌, ℕ, true, List, [], ◌∷◌, ◌++◌, map, length, get_or, take, refl, ap, ap₂, sym, ◌∙◌, subst, arith}
use Rattle.std.specs.Prelude.{fold, None, Option, Some}
use Rattle.std.specs.List.{list_all, range_with_len}
use Rattle.std.proofs.lemmas.Bool.{and_parts}
use Rattle.std.proofs.lemmas.List.{map_more}
use Rattle.std.proofs.lemmas.List.FromFn.{get_or-map-range_with_len}
use Rattle.std.proofs.lemmas.List.Sums.{fold-append}
use Rattle.kql_cells.specs.Named.{HasDistinctNames, column_name}
use Rattle.kql_cells.specs.Seen.{value_at}
use Rattle.kql_cells.specs.Table.{Grid, IsGrid}
use Rattle.kql_cells.specs.Values.{IsWellFormed}
use Rattle.kql_cells.specs.declared.schema.Column.{Column}
use Rattle.kql_cells.specs.declared.value.Kind.{Kind}
use Rattle.kql_cells.specs.declared.value.Value.{Value}
use Rattle.kql_functions.specs.declared.func.Func.{Func}
use Rattle.kql_functions.specs.declared.window.Window.{Window}
use Rattle.kql_scalar_fns.specs.Applied.{applied}
use Rattle.kql_scalar_fns.specs.Arguments.{AreWellFormed}
use Rattle.kql_bound.specs.Signs.{sign_func}
use Rattle.kql_bound.specs.declared.expr.BExpr.{BExpr}
use Rattle.kql_bound.specs.declared.expr.BExpr.TheVariants as V
use Rattle.kql_bound.specs.declared.expr.ChainSign.{ChainSign}
use Rattle.kql_meaning.specs.declared.position.Position.{Position}
use Rattle.kql_meaning.specs.Expressions.{chain_value, kind_of, look, path_value, reading, val, value_along, value_down, values_in}
use Rattle.kql_meaning.specs.FittingExpressions.{expr_fits, scope_of}
use Rattle.kql_meaning.specs.Windows.{windowed}
use Rattle.kql_meaning.proofs.ValueLaws.{val-Call, val-Chain, val-Path, val-Window}
use Rattle.kql_values.specs.Grids.{row_of}
use Rattle.kql_fit_laws.specs.LawsOfExpressions.{FitsKnown, RecordsFit, no_steps}
use Rattle.kql_fit_laws.specs.LawsOfRows.{IsTable}
use Rattle.kql_fit_laws.proofs.ExpressionLaws.{expressions_keep}
use Rattle.kql_scalar.specs.Scalar.{is_of_rows}
use Rattle.window_ops.specs.Columns.{AreColumns, IsColumn, applied_down, call_down, chain_down, columns_of, linked_down, path_down, values_from, window_down}
use Rattle.window_ops.specs.Carries.{Carried}
use Rattle.window_ops.specs.Fitting.{AreReady, FitsRows, IsReady}
use Rattle.row_ops.proofs.ItemColumnFacts.{map-range-same}
use Rattle.window_ops.proofs.RangeFacts.{all-values, at-row, long-range}

-- Values at rows.

pub down-at : (e : BExpr) (t : Grid) (from n k : ℕ) → k < n → value_at (values_from e t from n) k ≡ val e t (from + k) []
unfolding values_from
down-at e t from n k lt = at-row (λ k. val e t (from + k) []) n k lt

pub down-long : (e : BExpr) (t : Grid) (from n : ℕ) → length (values_from e t from n) ≡ n
unfolding values_from
down-long e t from n = long-range (λ k. val e t (from + k) []) n

-- Each is well formed.

no-records : (columns : List Column) → RecordsFit columns []
no-records columns k d l = absurd (omega arith)

known-form : (o : Option Kind) (v : Value) → FitsKnown o v → IsWellFormed v
known-form None v h = absurd h
known-form (Some k) v h = h.1

pub value-form : (e : BExpr) (t : Grid) (i : ℕ) → FitsRows t.columns e → IsTable t → i < length t.lines → IsWellFormed (val e t i [])
value-form e t i h is lt = known-form (kind_of e t.columns) (val e t i []) (expressions_keep e h.at t i no_steps is (no-records t.columns) (λ x. lt) h.fits)

pub forms-down : (e : BExpr) (t : Grid) (from n : ℕ) → FitsRows t.columns e → IsTable t → from + n ≤ length t.lines → AreWellFormed (values_from e t from n)
unfolding values_from
forms-down e t from n h is range = record {
  each = λ k d lt.
      let f = λ (k : ℕ). val e t (from + k) [] in
      let below : k < n = subst (λ m. k < m) (long-range f n) lt in
      subst IsWellFormed (sym (get_or-map-range_with_len f 0 n k k d below (omega arith))) (value-form e t (from + k) h is (omega (arith, below, range)));
}

down-column : (e : BExpr) (t : Grid) (from n : ℕ) (v : List Value) → FitsRows t.columns e → from + n ≤ length t.lines → HasDistinctNames column_name t.columns → IsGrid t → v ≡ values_from e t from n → IsColumn n v
down-column e t from n v h range names fits is = record {
  count = ap length is ∙ down-long e t from n;
  form = subst AreWellFormed (sym is) (forms-down e t from n h (names, fits) range);
}

pub column-of-down : (e : BExpr) (t : Grid) (from n : ℕ) (cs : List Carried) (v : List Value) → IsReady e t from n cs → HasDistinctNames column_name t.columns → IsGrid t → v ≡ values_from e t from n → IsColumn n v
column-of-down e t from n cs v h names fits is = down-column e t from n v h.fits h.range names fits is

pub ruleset formed_steps = (column-of-down)

-- Several expressions.

pub columns-none : (t : Grid) (from n : ℕ) → columns_of [] t from n ≡ []
unfolding columns_of
columns-none t from n = refl

pub columns-turn : (es : List BExpr) (t : Grid) (from n k : ℕ) (e x : BExpr) (old new : List (List Value)) (v : List Value) → k < length es → e ≡ get_or es k e → x ≡ e → old ≡ columns_of (take k es) t from n → v ≡ values_from x t from n → new ≡ old ++ v ∷ [] → new ≡ columns_of (take (k + 1) es) t from n
unfolding columns_of
columns-turn es t from n k e x old new v lt is same before value after =
    after ∙ (ap₂ (λ (vs : List (List Value)) (w : List Value). vs ++ w ∷ []) before (value ∙ ap (λ y. values_from y t from n) (same ∙ is)) ∙ sym (map_more (λ e. values_from e t from n) es k e lt))

pub ruleset list_steps = (columns-none, columns-turn)

-- A call.

pub row-values : (es : List BExpr) (t : Grid) (from n k : ℕ) → k < n → row_of (columns_of es t from n) k ≡ values_in es t (from + k) []
unfolding columns_of row_of values_in
row-values [] t from n k lt = refl
row-values (e ∷ es) t from n k lt = ap₂ (λ (v : Value) (vs : List Value). v ∷ vs) (down-at e t from n k lt) (row-values es t from n k lt)

columns-fit : (es : List BExpr) (t : Grid) (from n : ℕ) (at : Position) → is_of_rows at ≡ true → list_all (λ e. expr_fits e (scope_of t.columns) at) es ≡ true → IsTable t → from + n ≤ length t.lines → AreColumns n (columns_of es t from n)
unfolding columns_of AreColumns
columns-fit [] t from n at rows h is range = tt
columns-fit (e ∷ es) t from n at rows h is range =
    let parts = and_parts (expr_fits e (scope_of t.columns) at) (list_all (λ e. expr_fits e (scope_of t.columns) at) es) h in
    ((down-long e t from n, forms-down e t from n (record { at = at; rows = rows; fits = parts.0 }) is range), columns-fit es t from n at rows parts.1 is range)

pub call-columns : (es : List BExpr) (t : Grid) (from n : ℕ) (cs : List Carried) (vs : List (List Value)) → AreReady es t from n cs → HasDistinctNames column_name t.columns → IsGrid t → vs ≡ columns_of es t from n → AreColumns n vs
call-columns es t from n cs vs h names fits is =
    subst (AreColumns n) (sym is) (columns-fit es t from n h.fits.at h.fits.rows h.fits.each (names, fits) h.range)

pub call-down : (f : Func) (es : List BExpr) (t : Grid) (from n : ℕ) (vs : List (List Value)) (v : List Value) → vs ≡ columns_of es t from n → v ≡ applied_down f n vs → v ≡ call_down f es t from n
unfolding applied_down call_down
call-down f es t from n vs v is made =
    made
    ∙ (ap (λ (cs : List (List Value)). map (λ k. applied f (row_of cs k)) (range_with_len 0 n)) is
    ∙ map-range-same (λ k. applied f (row_of (columns_of es t from n) k)) (λ k. applied f (values_in es t (from + k) [])) 0 n (λ k lt. ap (applied f) (row-values es t from n k (omega (arith, lt)))))

pub ruleset call_steps = (call-columns, call-down)

-- A function of a column and an expression.

pub linked-columns : (e : BExpr) (t : Grid) (from n : ℕ) (cs : List Carried) (left right : List Value) (both : List (List Value)) → IsReady e t from n cs → HasDistinctNames column_name t.columns → IsGrid t → IsColumn n left → right ≡ values_from e t from n → both ≡ left ∷ right ∷ [] → AreColumns n both
unfolding AreColumns
linked-columns e t from n cs left right both h names fits l is two =
    let r = column-of-down e t from n cs right h names fits is in
    subst (AreColumns n) (sym two) ((l.count, l.form), ((r.count, r.form), tt))

pub linked-down : (f : Func) (e : BExpr) (t : Grid) (from n : ℕ) (left right v : List Value) (both : List (List Value)) → right ≡ values_from e t from n → both ≡ left ∷ right ∷ [] → v ≡ applied_down f n both → v ≡ linked_down f e t from n left
unfolding applied_down linked_down row_of
linked-down f e t from n left right v both is two made =
    made
    ∙ (ap (λ (cs : List (List Value)). map (λ k. applied f (row_of cs k)) (range_with_len 0 n)) (two ∙ ap (λ r. left ∷ r ∷ []) is)
    ∙ map-range-same (λ k. applied f (value_at left k ∷ value_at (values_from e t from n) k ∷ [])) (λ k. applied f (value_at left k ∷ val e t (from + k) [] ∷ [])) 0 n (λ k lt. ap (λ w. applied f (value_at left k ∷ w ∷ [])) (down-at e t from n k (omega (arith, lt)))))

pub linked-column : (f : Func) (n : ℕ) (v : List Value) (both : List (List Value)) → v ≡ applied_down f n both → AreWellFormed v → IsColumn n v
unfolding applied_down
linked-column f n v both made h = record { count = ap length made ∙ long-range (λ k. applied f (row_of both k)) n; form = h }

pub ruleset linked_steps = (linked-columns, linked-down, linked-column)

-- A chain.

abbrev linked : BExpr → Grid → ℕ → Func → Value → Value
linked e t i f v = applied f (v ∷ val e t i [] ∷ [])

along-more : (links : List (ChainSign × BExpr)) (k : ℕ) (l : ChainSign × BExpr) (t : Grid) (i : ℕ) (v : Value) → k < length links → l ≡ get_or links k l → value_along (take (k + 1) links) t i [] v ≡ linked l.1 t i (sign_func l.0) (value_along (take k links) t i [] v)
unfolding value_along chain_value
along-more links k l t i v lt is =
    let values : ChainSign × BExpr → ChainSign × Value = λ (l : ChainSign × BExpr). (l.0, val l.1 t i []) in
    let step : Value → ChainSign × Value → Value = λ v link. applied (sign_func link.0) (v ∷ link.1 ∷ []) in
    ap (fold step v) (map_more values links k l lt)
    ∙ (fold-append step v (map values (take k links)) (values (get_or links k l) ∷ [])
    ∙ ap (λ (x : ChainSign × BExpr). linked x.1 t i (sign_func x.0) (fold step v (map values (take k links)))) (sym is))

pub chain-none : (t : Grid) (from n : ℕ) (first : List Value) → IsColumn n first → first ≡ chain_down [] t from n first
unfolding chain_down value_along chain_value
chain-none t from n first h = sym (ap (λ m. map (value_at first) (range_with_len 0 m)) (sym h.count) ∙ all-values first)

pub chain-turn : (links : List (ChainSign × BExpr)) (k : ℕ) (l : ChainSign × BExpr) (t : Grid) (from n : ℕ) (f : Func) (first old new : List Value) → k < length links → l ≡ get_or links k l → f ≡ sign_func l.0 → old ≡ chain_down (take k links) t from n first → new ≡ linked_down f l.1 t from n old → new ≡ chain_down (take (k + 1) links) t from n first
unfolding chain_down linked_down
chain-turn links k l t from n f first old new lt is sign before after =
    let at : ℕ → Value = λ i. value_along (take k links) t (from + i) [] (value_at first i) in
    after
    ∙ (ap₂ (λ (g : Func) (vs : List Value). map (λ i. linked l.1 t (from + i) g (value_at vs i)) (range_with_len 0 n)) sign before
    ∙ map-range-same (λ i. linked l.1 t (from + i) (sign_func l.0) (value_at (map at (range_with_len 0 n)) i)) (λ i. value_along (take (k + 1) links) t (from + i) [] (value_at first i)) 0 n
    (λ i lt2. ap (linked l.1 t (from + i) (sign_func l.0)) (at-row at n i (omega (arith, lt2))) ∙ sym (along-more links k l t (from + i) (value_at first i) lt is)))

pub ruleset chain_steps = (chain-none, chain-turn)

-- A path.

abbrev row_values_of : Grid → ℕ → BExpr → Value
row_values_of t i e = val e t i []

down-more : (steps : List BExpr) (k : ℕ) (e : BExpr) (t : Grid) (i : ℕ) (v : Value) → k < length steps → e ≡ get_or steps k e → value_down (take (k + 1) steps) t i [] v ≡ linked e t i look (value_down (take k steps) t i [] v)
unfolding value_down path_value values_in
down-more steps k e t i v lt is =
    let step : Value → Value → Value = λ v w. applied look (v ∷ w ∷ []) in
    ap (fold step v) (map_more (row_values_of t i) steps k e lt)
    ∙ (fold-append step v (map (row_values_of t i) (take k steps)) (val (get_or steps k e) t i [] ∷ [])
    ∙ ap (λ (x : BExpr). linked x t i look (fold step v (map (row_values_of t i) (take k steps)))) (sym is))

pub path-none : (t : Grid) (from n : ℕ) (whole : List Value) → IsColumn n whole → whole ≡ path_down [] t from n whole
unfolding path_down value_down path_value values_in
path-none t from n whole h = sym (ap (λ m. map (value_at whole) (range_with_len 0 m)) (sym h.count) ∙ all-values whole)

pub path-turn : (steps : List BExpr) (k : ℕ) (e x : BExpr) (t : Grid) (from n : ℕ) (whole old new : List Value) → k < length steps → e ≡ get_or steps k e → x ≡ e → old ≡ path_down (take k steps) t from n whole → new ≡ linked_down look x t from n old → new ≡ path_down (take (k + 1) steps) t from n whole
unfolding path_down linked_down
path-turn steps k e x t from n whole old new lt is same before after =
    let at : ℕ → Value = λ i. value_down (take k steps) t (from + i) [] (value_at whole i) in
    after
    ∙ (ap₂ (λ (y : BExpr) (vs : List Value). map (λ i. linked y t (from + i) look (value_at vs i)) (range_with_len 0 n)) same before
    ∙ map-range-same (λ i. linked e t (from + i) look (value_at (map at (range_with_len 0 n)) i)) (λ i. value_down (take (k + 1) steps) t (from + i) [] (value_at whole i)) 0 n
    (λ i lt2. ap (linked e t (from + i) look) (at-row at n i (omega (arith, lt2))) ∙ sym (down-more steps k e t (from + i) (value_at whole i) lt is)))

pub ruleset path_steps = (path-none, path-turn)

-- Each form of an expression.

whole : (e x : BExpr) (t : Grid) (from n : ℕ) → e ≡ x → map (λ k. val x t (from + k) []) (range_with_len 0 n) ≡ values_from e t from n
unfolding values_from
whole e x t from n is = ap (λ y. map (λ k. val y t (from + k) []) (range_with_len 0 n)) (sym is)

pub down-Call : (e : BExpr) (f : Func) (args : List BExpr) (t : Grid) (from n : ℕ) (v : List Value) → e ≡ V.Call f args → v ≡ call_down f args t from n → v ≡ values_from e t from n
unfolding call_down
down-Call e f args t from n v is made =
    made ∙ (map-range-same (λ k. applied f (values_in args t (from + k) [])) (λ k. val (V.Call f args) t (from + k) []) 0 n (λ k lt. sym (val-Call f args t (from + k) []))
    ∙ whole e (V.Call f args) t from n is)

pub down-Chain : (e first : BExpr) (links : List (ChainSign × BExpr)) (t : Grid) (from n : ℕ) (left v : List Value) → e ≡ V.Chain first links → left ≡ values_from first t from n → v ≡ chain_down links t from n left → v ≡ values_from e t from n
unfolding chain_down
down-Chain e first links t from n left v is here made =
    made
    ∙ (ap (λ vs. map (λ k. value_along links t (from + k) [] (value_at vs k)) (range_with_len 0 n)) here
    ∙ (map-range-same (λ k. value_along links t (from + k) [] (value_at (values_from first t from n) k)) (λ k. val (V.Chain first links) t (from + k) []) 0 n
    (λ k lt. ap (value_along links t (from + k) []) (down-at first t from n k (omega (arith, lt))) ∙ sym (val-Chain first links t (from + k) []))
    ∙ whole e (V.Chain first links) t from n is))

pub down-Path : (e w : BExpr) (steps : List BExpr) (t : Grid) (from n : ℕ) (left v : List Value) → e ≡ V.Path w steps → left ≡ values_from w t from n → v ≡ path_down steps t from n left → v ≡ values_from e t from n
unfolding path_down
down-Path e w steps t from n left v is here made =
    made
    ∙ (ap (λ vs. map (λ k. value_down steps t (from + k) [] (value_at vs k)) (range_with_len 0 n)) here
    ∙ (map-range-same (λ k. value_down steps t (from + k) [] (value_at (values_from w t from n) k)) (λ k. val (V.Path w steps) t (from + k) []) 0 n
    (λ k lt. ap (value_down steps t (from + k) []) (down-at w t from n k (omega (arith, lt))) ∙ sym (val-Path w steps t (from + k) []))
    ∙ whole e (V.Path w steps) t from n is))

pub down-Window : (e : BExpr) (f g : Window) (args : List BExpr) (t : Grid) (from n : ℕ) (v : List Value) → e ≡ V.Window f args → f ≡ g → v ≡ window_down g args t from n → v ≡ values_from e t from n
unfolding window_down
down-Window e f g args t from n v is same made =
    made
    ∙ (ap (λ h. map (λ k. windowed h (map reading args) t (from + k) []) (range_with_len 0 n)) (sym same)
    ∙ (map-range-same (λ k. windowed f (map reading args) t (from + k) []) (λ k. val (V.Window f args) t (from + k) []) 0 n (λ k lt. sym (val-Window f args t (from + k) []))
    ∙ whole e (V.Window f args) t from n is))

pub ruleset down_steps = (down-Call, down-Chain, down-Path)

pub ruleset window_steps = (down-Window)
