-- A filter in front of `mv-expand`.
use Rattle.std.proofs.Common.{◌≡◌, ℕ, Bool, true, false, not, List, [], ◌∷◌, ◌++◌, map, refl, sym, ap, ◌∙◌, inl, inr, arith}
use Rattle.std.specs.Prelude.{bytes_eq, cond, Option, None, Some, option_map}
use Rattle.std.specs.List.{list_all}
use Rattle.std.proofs.lemmas.Bool.{and_parts, cases_Bool}
use Rattle.std.proofs.lemmas.Slice.Eq.{bytes_eq-Decides}
use Rattle.kql_cells.specs.Table.{Grid}
use Rattle.kql_cells.specs.declared.schema.Column.{Column}
use Rattle.kql_cells.specs.declared.value.Kind.{Kind}
use Rattle.kql_cells.specs.declared.value.Kind.TheVariants as kind
use Rattle.kql_cells.specs.declared.value.Value.{Value}
use Rattle.kql_functions.specs.Kinds.{same_kind}
use Rattle.kql_bound.specs.declared.expr.BExpr.{BExpr}
use Rattle.kql_bound.specs.declared.parts.Expand.{Expand}
use Rattle.kql_bound.specs.declared.parts.ExpandItem.{ExpandItem}
use Rattle.kql_bound.specs.declared.plan.Op.{Op}
use Rattle.kql_bound.specs.declared.plan.Op.TheVariants as V
use Rattle.kql_meaning.specs.declared.position.Position.TheVariants as position
use Rattle.kql_meaning.specs.Expressions.{column_kind, kind_of}
use Rattle.kql_meaning.specs.Fits.{Known, op_columns}
use Rattle.kql_meaning.specs.FittingExpressions.{expr_fits, fits_as, has_kind, scope_of}
use Rattle.kql_meaning.specs.FittingOperators.{are_distinct, expand_fits, expand_item_fits, expand_names, where_fits}
use Rattle.kql_meaning.specs.MvExpand.{expand_columns, expand_table, expanded_row, item_named, kind_named, new_columns, new_items, part_at, replaced_cell, replaced_column, replaced_columns, rows_given}
use Rattle.kql_meaning.specs.RowByRow.{are_plain_parts}
use Rattle.kql_meaning.specs.Tables.{cell, has_column, is_name_among, places_below}
use Rattle.kql_meaning.specs.Values.{holds}
use Rattle.kql_meaning.specs.Where.{where_table}
use Rattle.kql_meaning.proofs.MemberLaws.{Member, member-of-map}
use Rattle.kql_meaning.proofs.OperatorFitLaws.{op-MvExpand}
use Rattle.kql_meaning.proofs.PartRowLaws.{expand-of-each, rows_of_row}
use Rattle.kql_meaning.proofs.PlainFitLaws.{plain_where_fits}
use Rattle.kql_meaning.proofs.RowByRowLaws.{alone, passes}
use Rattle.kql_fit_laws.proofs.RowFacts.{answer-some}
use Rattle.kql_meaning.proofs.NamedCells.{cell-named, has-cons, has-none, kind-cons, named, named-absent}
use Rattle.plan_rules.proofs.ReadFits.{SameColumns, fits-as-alike}
use Rattle.plan_rules.proofs.ReadValues.{id_names, plain-of, same-names, val-agrees}
use Rattle.plan_rules.proofs.ReplacedColumns.{chosen, front-same, not-among}
use Rattle.plan_rules.proofs.RowWise.{RowWise, where-below}
use Rattle.plan_rules.proofs.RuleViews.{both-some, expand-is, filter-is, pair-along, when-some}
use Rattle.plan_rules.proofs.ShortRules.{expand-means}
use Rattle.plan_rules.proofs.Swaps.{filter-front}
use Rattle.plan_rules.proofs.Weights.{swap-lighter, weight-MvExpand, weight-Where}
use Rattle.plan_rules.specs.Becomes.{Becomes}
use Rattle.plan_rules.specs.Improves.{Improves}
use Rattle.plan_rules.specs.Reads.{reads_only}
use Rattle.plan_rules.specs.Rules.{expand_then_filter, when}
use Rattle.plan_rules.specs.Views.{expand_of, filter_of}
use Rattle.plan_rules.specs.Weight.{other}

-- Not a name of an item.
abbrev pub unset_by : Expand → List ℕ → Bool
unset_by x n = not (is_name_among (expand_names x.items) n)

not-named : (items : List ExpandItem) (n : List ℕ) → is_name_among (expand_names items) n ≡ false → item_named items n ≡ None
unfolding is_name_among expand_names item_named
not-named [] n h = refl
not-named (i ∷ is) n h = elim (cases_Bool (bytes_eq i.name n)) [
  | inl t ↦ let no : true ≡ false = rw t at h in absurd cc
  | inr f ↦ let rest : is_name_among (expand_names is) n ≡ false = rw f at h in rw f (not-named is n rest)
]

-- The item of a column whose name is this one: there is none.
none-here : (x : Expand) (c : Column) (n : List ℕ) → bytes_eq c.name n ≡ true → is_name_among (expand_names x.items) n ≡ false → item_named x.items c.name ≡ None
none-here x c n t h = ap (item_named x.items) ((bytes_eq-Decides c.name n).0 t) ∙ not-named x.items n h

same-name : (c : Column) (o : Option Kind) → (replaced_column c o).name ≡ c.name
unfolding replaced_column
same-name c None = refl
same-name c (Some k) = refl

abbrev replaced : Expand → Column → Column
replaced x c = replaced_column c (kind_named x.items c.name)

abbrev cells_of : Expand → Grid → ℕ → Column → Value
cells_of x t k c = replaced_cell x t 0 k c (item_named x.items c.name)

along : (x : Expand) (t : Grid) (k : ℕ) (cs ds : List Column) (more : List Value) (n : List ℕ) → is_name_among (expand_names x.items) n ≡ false → named (map (replaced x) cs ++ ds) (map (cells_of x t k) cs ++ more) n ≡ cond (has_column n cs) (cell t 0 n) (named ds more n)
unfolding named replaced_cell
along x t k [] ds more n h = rw (has-none n) refl
along x t k (c ∷ cs) ds more n h = elim (cases_Bool (bytes_eq c.name n)) [
  | inl t1 ↦ rw (same-name c (kind_named x.items c.name), has-cons c cs n, t1) (ap (replaced_cell x t 0 k c) (none-here x c n t1 h) ∙ ap (cell t 0) ((bytes_eq-Decides c.name n).0 t1))
  | inr f ↦ rw (same-name c (kind_named x.items c.name), has-cons c cs n, f) (along x t k cs ds more n h)
]

new-not : (items : List ExpandItem) (cs : List Column) (n : List ℕ) → is_name_among (expand_names items) n ≡ false → has_column n (new_columns items cs) ≡ false
unfolding is_name_among expand_names new_columns new_items
new-not [] cs n h = has-none n
new-not (i ∷ is) cs n h = elim (cases_Bool (bytes_eq i.name n)) [
  | inl t ↦ let no : true ≡ false = rw t at h in absurd cc
  | inr f ↦
      let rest : is_name_among (expand_names is) n ≡ false = rw f at h in
      elim (cases_Bool (not (has_column i.name cs))) [
        | inl yes_here ↦ rw yes_here (has-cons (record { name = i.name; kind = i.to }) (new_columns is cs) n ∙ rw f (new-not is cs n rest))
        | inr no_here ↦ rw no_here (new-not is cs n rest)
      ]
]

expanded-cell : (x : Expand) (cs : List Column) (row : List Value) (k : ℕ) (n : List ℕ) → unset_by x n ≡ true → cell (alone (expand_columns x cs) (expanded_row x (alone cs row) 0 k)) 0 n ≡ cell (alone cs row) 0 n
unfolding expand_columns replaced_columns expanded_row
expanded-cell x cs row k n h =
    let gone = not-among (expand_names x.items) n h in
    let new = new_columns x.items cs in
    let more = map (part_at x (alone cs row) 0 k) (new_items x.items cs) in
    cell-named (map (replaced x) cs ++ new) (map (cells_of x (alone cs row) k) cs ++ more) n
    ∙ (along x (alone cs row) k cs new more n gone
    ∙ chosen (has_column n cs) (cell (alone cs row) 0 n) (named new more n) (cell (alone cs row) 0 n) (λ t. refl)
    (λ f. (named-absent new more n (new-not x.items cs n gone)).0 ∙ sym (cell-named cs row n ∙ (named-absent cs row n f).0)))

-- The columns.

kind-kept : (x : Expand) (c : Column) (n : List ℕ) → bytes_eq c.name n ≡ true → is_name_among (expand_names x.items) n ≡ false → replaced x c ≡ c
unfolding kind_named replaced_column
kind-kept x c n t h = ap (λ (o : Option ExpandItem). replaced_column c (option_map (λ (item : ExpandItem). item.to) o)) (none-here x c n t h)

replaced-alike : (x : Expand) (cs : List Column) (n : List ℕ) → is_name_among (expand_names x.items) n ≡ false → (has_column n (map (replaced x) cs) ≡ has_column n cs) × (column_kind n (map (replaced x) cs) ≡ column_kind n cs)
replaced-alike x [] n h = (refl, refl)
replaced-alike x (c ∷ cs) n h = elim (cases_Bool (bytes_eq c.name n)) [
  | inl t ↦ let same = kind-kept x c n t h in
      (has-cons (replaced x c) (map (replaced x) cs) n ∙ rw (same, has-cons c cs n, t) refl, kind-cons (replaced x c) (map (replaced x) cs) n ∙ rw (same, kind-cons c cs n, t) refl)
  | inr f ↦
      let q = replaced-alike x cs n h in
      (has-cons (replaced x c) (map (replaced x) cs) n ∙ rw (same-name c (kind_named x.items c.name), has-cons c cs n, f) q.0, kind-cons (replaced x c) (map (replaced x) cs) n ∙ rw (same-name c (kind_named x.items c.name), kind-cons c cs n, f) q.1)
]

expanded-columns : (x : Expand) (cs : List Column) → SameColumns (unset_by x) id_names cs (expand_columns x cs)
unfolding expand_columns replaced_columns
expanded-columns x cs n h =
    let gone = not-among (expand_names x.items) n h in
    let q = replaced-alike x cs n gone in
    front-same (map (replaced x) cs) (new_columns x.items cs) cs n q.0 q.1 (new-not x.items cs n gone)

-- The filter.

parts-plain : (items : List ExpandItem) (cs : List Column) → list_all (expand_item_fits cs) items ≡ true → are_plain_parts items ≡ true
unfolding expand_item_fits fits_as are_plain_parts
parts-plain [] cs e = refl
parts-plain (i ∷ is) cs e =
    let b = and_parts (expand_item_fits cs i) (list_all (expand_item_fits cs) is) e in
    let c = and_parts (expr_fits i.expr (scope_of cs) position.Plain) (has_kind (same_kind kind.Dynamic) (kind_of i.expr cs)) b.0 in
    rw (plain_where_fits i.expr (scope_of cs) c.0) (parts-plain is cs b.1)

expand-wise : (x : Expand) → are_plain_parts x.items ≡ true → RowWise (expand_table x) (expand_columns x) (rows_of_row x)
expand-wise x r = record { rows = λ t. expand-of-each x r t }

expanded-passes : (x : Expand) (q : BExpr) → reads_only (unset_by x) q ≡ true → (cs : List Column) (row out : List Value) → Member out (rows_of_row x cs row) → passes q (expand_columns x cs) out ≡ passes q cs row
expanded-passes x q r cs row out m =
    let given = member-of-map (expanded_row x (alone cs row) 0) (places_below (rows_given x (alone cs row) 0)) out m in
    let k = given.0 in
    ap (λ (o : List Value). passes q (expand_columns x cs) o) (sym given.2) ∙ ap holds (val-agrees q (unset_by x) r (alone (expand_columns x cs) (expanded_row x (alone cs row) 0 k)) (alone cs row) 0 0 [] (λ n h. expanded-cell x cs row k n h))

pub expand-filter : (x : Expand) (q : BExpr) → are_plain_parts x.items ≡ true → reads_only (unset_by x) q ≡ true → (t : Grid) → where_table q (expand_table x t) ≡ expand_table x (where_table q t)
expand-filter x q l r t =
    let plain = plain-of (unset_by x) q r in
    where-below q q plain plain (expand_table x) (expand_columns x) (rows_of_row x) (expand-wise x l) t
    (λ row m out n. expanded-passes x q r t.columns row out n)

where-unset : (x : Expand) (q : BExpr) → reads_only (unset_by x) q ≡ true → (cs : List Column) → where_fits q cs ≡ where_fits q (expand_columns x cs)
unfolding where_fits
where-unset x q r cs = ap (λ e. where_fits e cs) (sym (same-names q)) ∙ fits-as-alike (same_kind kind.Bool) q (unset_by x) id_names r cs (expand_columns x cs) (expanded-columns x cs) position.Window

made : (x : Expand) (k : Known) (inside : Bool) (cs mid : List Column) → op_columns (V.MvExpand x) k inside cs ≡ Some mid → (are_plain_parts x.items ≡ true) × (expand_columns x cs ≡ mid)
unfolding expand_fits
made x k inside cs mid e =
    let a = answer-some (expand_fits x cs) (expand_columns x cs) mid (sym (op-MvExpand x k inside cs) ∙ e) in
    let b = and_parts (list_all (expand_item_fits cs) x.items) (are_distinct (expand_names x.items)) a.0 in
    (parts-plain x.items cs b.0, a.1)

pub expand-filter-becomes : (k : Known) (inside : Bool) (cs : List Column) (x : Expand) (q : BExpr) → reads_only (unset_by x) q ≡ true → Becomes k inside cs (V.MvExpand x ∷ V.Where q ∷ []) (V.Where q ∷ V.MvExpand x ∷ [])
expand-filter-becomes k inside cs x q r =
    filter-front k inside cs (V.MvExpand x) q q (λ w t. expand_table x t) (expand-means x)
    (λ mid e f. where-unset x q r cs ∙ (ap (where_fits q) (made x k inside cs mid e).1 ∙ f))
    (λ mid e w t s h. expand-filter x q (made x k inside cs mid e).0 r t)

pub expand_then_filter-improves : (k : Known) (inside : Bool) (cs : List Column) (x y : Op) (zs : List Op) → expand_then_filter x y ≡ Some zs → Improves k inside cs (x ∷ y ∷ []) zs
unfolding expand_then_filter
expand_then_filter-improves k inside cs x y zs e =
    let r = both-some (expand_of x) (filter_of y) (λ e q. when (reads_only (unset_by e) q) (V.Where q ∷ V.MvExpand e ∷ [])) zs e in
    let s = when-some (reads_only (unset_by r.0) r.1) (V.Where r.1 ∷ V.MvExpand r.0 ∷ []) zs r.4 in
    pair-along k inside cs x y (V.MvExpand r.0) (V.Where r.1) zs (V.Where r.1 ∷ V.MvExpand r.0 ∷ []) (expand-is x r.0 r.2) (filter-is y r.1 r.3) s.1 (record {
      becomes = expand-filter-becomes k inside cs r.0 r.1 s.0;
      lighter = swap-lighter (V.MvExpand r.0) (V.Where r.1) other (weight-Where r.1) (weight-MvExpand r.0) (omega arith);
      no_longer = omega arith;
      no_larger = omega arith;
    })
