-- A filter, and `take`, in front of `extend`.
use Rattle.std.proofs.Common.{◌≡◌, ℕ, Bool, true, false, List, [], ◌∷◌, refl, sym, ap, ◌∙◌, inl, inr, arith}
use Rattle.std.specs.Prelude.{◌&&◌, not, Some}
use Rattle.std.proofs.lemmas.Bool.{and_parts}
use Rattle.kql_cells.specs.Table.{Grid}
use Rattle.kql_cells.specs.declared.schema.Column.{Column}
use Rattle.kql_cells.specs.declared.value.Kind.TheVariants as kind
use Rattle.kql_cells.specs.declared.value.Value.{Value}
use Rattle.kql_functions.specs.Kinds.{same_kind}
use Rattle.kql_bound.specs.declared.expr.BExpr.{BExpr}
use Rattle.kql_bound.specs.declared.parts.BItem.{BItem}
use Rattle.kql_bound.specs.declared.plan.Op.{Op}
use Rattle.kql_bound.specs.declared.plan.Op.TheVariants as V
use Rattle.kql_meaning.specs.declared.position.Position.TheVariants as position
use Rattle.kql_meaning.specs.Extend.{extend_columns, extend_table}
use Rattle.kql_meaning.specs.Fits.{Known, op_columns}
use Rattle.kql_meaning.specs.FittingOperators.{answer_if, columns_if, items_fit, where_fits}
use Rattle.kql_meaning.specs.Items.{items_columns, items_names, items_values}
use Rattle.kql_meaning.specs.Plans.{op_means}
use Rattle.kql_meaning.specs.Tables.{cell, is_name_among}
use Rattle.kql_meaning.specs.TakeAndCount.{take_table}
use Rattle.kql_meaning.specs.Values.{holds}
use Rattle.kql_meaning.specs.Where.{where_table}
use Rattle.kql_meaning.proofs.MemberLaws.{Member}
use Rattle.kql_meaning.proofs.OperatorFitLaws.{op-Extend, op-Take, op-Where}
use Rattle.kql_fit_laws.proofs.RowFacts.{columns-some}
use Rattle.kql_meaning.proofs.NamedCells.{items-not}
use Rattle.plan_rules.proofs.ReadFits.{SameColumns, fits-as-alike}
use Rattle.plan_rules.proofs.ReadValues.{id_names, plain-of, same-names, val-agrees}
use Rattle.plan_rules.proofs.RowWise.{extend-wise, take-below, where-below}
use Rattle.plan_rules.proofs.RuleViews.{both-some, extend-is, filter-is, pair-along, pair-becomes, take-is, two-fit, when-some}
use Rattle.plan_rules.proofs.ShortRules.{extend-means, take-means, where-means}
use Rattle.plan_rules.proofs.Weights.{swap-lighter, weight-Extend, weight-Take, weight-Where}
use Rattle.plan_rules.specs.Becomes.{Becomes}
use Rattle.plan_rules.specs.Improves.{Improves}
use Rattle.plan_rules.specs.Reads.{reads_only}
use Rattle.plan_rules.specs.Rules.{extend_then_filter, extend_then_take, when}
use Rattle.plan_rules.specs.Views.{extend_of, filter_of, take_of}
use Rattle.plan_rules.specs.Weight.{other}
use Rattle.kql_meaning.specs.RowByRow.{are_plain}
use Rattle.plan_rules.proofs.ReplacedColumns.{left-cell, left-columns, not-among}
use Rattle.kql_meaning.proofs.RowByRowLaws.{extended_row, passes, alone}

-- Not one of these names.
abbrev pub unset : List BItem → List ℕ → Bool
unset items n = not (is_name_among (items_names items) n)

not-set : (items : List BItem) (n : List ℕ) → unset items n ≡ true → is_name_among (items_names items) n ≡ false
not-set items n h = not-among (items_names items) n h

-- A column that the items do not set is as before.

pub extended-cell : (items : List BItem) (cs : List Column) (row : List Value) (n : List ℕ) → unset items n ≡ true → cell (alone (extend_columns items cs) (extended_row items cs row)) 0 n ≡ cell (alone cs row) 0 n
unfolding extend_columns
extended-cell items cs row n h =
    let gone = not-set items n h in
    left-cell (items_names items) (items_columns items cs) cs row (items_values items (alone cs row) 0) n gone (items-not items cs n gone)

pub extended-columns : (items : List BItem) (cs : List Column) → SameColumns (unset items) id_names cs (extend_columns items cs)
unfolding extend_columns
extended-columns items cs n h =
    let gone = not-set items n h in
    left-columns (items_names items) (items_columns items cs) cs n gone (items-not items cs n gone)

pub kept-if : (b : Bool) (cs : List Column) → b ≡ true → columns_if b cs ≡ Some cs
unfolding columns_if
kept-if b cs e = rw e refl

-- A filter in front.

extended-passes : (items : List BItem) (q : BExpr) → reads_only (unset items) q ≡ true → (cs : List Column) (row out : List Value) → Member out (extended_row items cs row ∷ []) → passes q (extend_columns items cs) out ≡ passes q cs row
extended-passes items q r cs row out (inl e) = ap (λ (o : List Value). passes q (extend_columns items cs) o) (sym e) ∙ ap holds (val-agrees q (unset items) r (alone (extend_columns items cs) (extended_row items cs row)) (alone cs row) 0 0 [] (λ n h. extended-cell items cs row n h))
extended-passes items q r cs row out (inr m) = absurd m

pub extend-filter : (items : List BItem) (q : BExpr) → are_plain items ≡ true → reads_only (unset items) q ≡ true → (t : Grid) → where_table q (extend_table items t) ≡ extend_table items (where_table q t)
extend-filter items q p r t =
    where-below q q (plain-of (unset items) q r) (plain-of (unset items) q r) (extend_table items) (extend_columns items) (λ cs row. extended_row items cs row ∷ []) (extend-wise items p) t
    (λ row m out n. extended-passes items q r t.columns row out n)

where-unset : (items : List BItem) (q : BExpr) → reads_only (unset items) q ≡ true → (cs : List Column) → where_fits q cs ≡ where_fits q (extend_columns items cs)
unfolding where_fits
where-unset items q r cs =
    ap (λ e. where_fits e cs) (sym (same-names q)) ∙ fits-as-alike (same_kind kind.Bool) q (unset items) id_names r cs (extend_columns items cs) (extended-columns items cs) position.Window

-- The columns that `extend` makes.
pub made-some : (b : Bool) (made mid : List Column) → answer_if b made ≡ Some mid → made ≡ mid
unfolding answer_if columns_if
made-some b made mid e = (columns-some _ made mid e).1

pub extend-filter-becomes : (k : Known) (inside : Bool) (cs : List Column) (items : List BItem) (q : BExpr) → are_plain items ≡ true → reads_only (unset items) q ≡ true → Becomes k inside cs (V.Extend items ∷ V.Where q ∷ []) (V.Where q ∷ V.Extend items ∷ [])
extend-filter-becomes k inside cs items q p r = pair-becomes k inside cs (V.Extend items) (V.Where q) (V.Where q ∷ V.Extend items ∷ []) (λ mid ds e f.
    let made = made-some (items_fit items cs position.Window) (extend_columns items cs) mid (sym (op-Extend items k inside cs) ∙ e) in
    let kept = columns-some (where_fits q mid) mid ds (sym (op-Where q k inside mid) ∙ f) in
    let fit : where_fits q cs ≡ true = where-unset items q r cs ∙ (ap (where_fits q) made ∙ kept.0) in
    let first : op_columns (V.Where q) k inside cs ≡ Some cs = op-Where q k inside cs ∙ kept-if (where_fits q cs) cs fit in (
      two-fit k inside cs cs (V.Where q) (V.Extend items) ds first (e ∙ ap (λ c. Some c) kept.1),
      λ w t s h.
          extend-means items w (op_means (V.Where q) w t) ∙ (ap (extend_table items) (where-means q w t) ∙ (sym (extend-filter items q p r t) ∙ (ap (where_table q) (sym (extend-means items w t)) ∙ sym (where-means q w (op_means (V.Extend items) w t))))),
    ))

pub extend_then_filter-improves : (k : Known) (inside : Bool) (cs : List Column) (x y : Op) (zs : List Op) → extend_then_filter x y ≡ Some zs → Improves k inside cs (x ∷ y ∷ []) zs
unfolding extend_then_filter
extend_then_filter-improves k inside cs x y zs e =
    let r = both-some (extend_of x) (filter_of y) (λ items q. when (are_plain items && reads_only (unset items) q) (V.Where q ∷ V.Extend items ∷ [])) zs e in
    let s = when-some (are_plain r.0 && reads_only (unset r.0) r.1) (V.Where r.1 ∷ V.Extend r.0 ∷ []) zs r.4 in
    let b = and_parts (are_plain r.0) (reads_only (unset r.0) r.1) s.0 in
    pair-along k inside cs x y (V.Extend r.0) (V.Where r.1) zs (V.Where r.1 ∷ V.Extend r.0 ∷ []) (extend-is x r.0 r.2) (filter-is y r.1 r.3) s.1 (record {
      becomes = extend-filter-becomes k inside cs r.0 r.1 b.0 b.1;
      lighter = swap-lighter (V.Extend r.0) (V.Where r.1) other (weight-Where r.1) (weight-Extend r.0) (omega arith);
      no_longer = omega arith;
      no_larger = omega arith;
    })

-- `take` in front.

pub extend-take-becomes : (k : Known) (inside : Bool) (cs : List Column) (items : List BItem) (n : ℕ) → are_plain items ≡ true → Becomes k inside cs (V.Extend items ∷ V.Take n ∷ []) (V.Take n ∷ V.Extend items ∷ [])
extend-take-becomes k inside cs items n p = pair-becomes k inside cs (V.Extend items) (V.Take n) (V.Take n ∷ V.Extend items ∷ []) (λ mid ds e f.
    let kept : Some mid ≡ Some ds = sym (op-Take n k inside mid) ∙ f in (
      two-fit k inside cs cs (V.Take n) (V.Extend items) ds (op-Take n k inside cs) (e ∙ kept),
      λ w t s h.
          extend-means items w (op_means (V.Take n) w t) ∙ (ap (extend_table items) (take-means n w t) ∙ (sym (take-below n (extend_table items) (extend_columns items) (extended_row items) (extend-wise items p) t) ∙ (ap (take_table n) (sym (extend-means items w t)) ∙ sym (take-means n w (op_means (V.Extend items) w t))))),
    ))

pub extend_then_take-improves : (k : Known) (inside : Bool) (cs : List Column) (x y : Op) (zs : List Op) → extend_then_take x y ≡ Some zs → Improves k inside cs (x ∷ y ∷ []) zs
unfolding extend_then_take
extend_then_take-improves k inside cs x y zs e =
    let r = both-some (extend_of x) (take_of y) (λ items n. when (are_plain items) (V.Take n ∷ V.Extend items ∷ [])) zs e in
    let s = when-some (are_plain r.0) (V.Take r.1 ∷ V.Extend r.0 ∷ []) zs r.4 in
    pair-along k inside cs x y (V.Extend r.0) (V.Take r.1) zs (V.Take r.1 ∷ V.Extend r.0 ∷ []) (extend-is x r.0 r.2) (take-is y r.1 r.3) s.1 (record {
      becomes = extend-take-becomes k inside cs r.0 r.1 s.0;
      lighter = swap-lighter (V.Extend r.0) (V.Take r.1) other (weight-Take r.1) (weight-Extend r.0) (omega arith);
      no_longer = omega arith;
      no_larger = omega arith;
    })
