-- A filter or a `take` in front of `parse`, and a `take` in front of `project`.
use Rattle.std.proofs.Common.{◌≡◌, ℕ, Bool, true, false, not, List, [], ◌∷◌, sym, ap, ◌∙◌, inl, inr, arith}
use Rattle.std.specs.Prelude.{Some}
use Rattle.std.proofs.lemmas.Bool.{and_parts}
use Rattle.kql_cells.specs.Ordered.{text_in}
use Rattle.kql_cells.specs.Table.{Grid}
use Rattle.kql_cells.specs.declared.schema.Column.{Column}
use Rattle.kql_cells.specs.declared.value.Kind.TheVariants as kind
use Rattle.kql_cells.specs.declared.value.Value.{Value}
use Rattle.kql_functions.specs.Kinds.{same_kind}
use Rattle.kql_bound.specs.declared.expr.BExpr.{BExpr}
use Rattle.kql_bound.specs.declared.parts.ParsePlan.{ParsePlan}
use Rattle.kql_bound.specs.declared.plan.Op.{Op}
use Rattle.kql_bound.specs.declared.plan.Op.TheVariants as V
use Rattle.kql_meaning.specs.declared.position.Position.TheVariants as position
use Rattle.kql_meaning.specs.Expressions.{kind_of, val}
use Rattle.kql_meaning.specs.Fits.{Known, op_columns}
use Rattle.kql_meaning.specs.FittingExpressions.{expr_fits, fits_as, has_kind, scope_of}
use Rattle.kql_meaning.specs.FittingOperators.{is_empty, parse_fits, where_fits}
use Rattle.kql_meaning.specs.Items.{items_columns}
use Rattle.kql_meaning.specs.Parse.{parse_columns, parse_table, parsed_values, pattern_columns, pattern_names}
use Rattle.kql_meaning.specs.Project.{project_table}
use Rattle.kql_meaning.specs.RowByRow.{are_plain, is_plain}
use Rattle.kql_meaning.specs.Tables.{cell, has_column, is_name_among}
use Rattle.kql_meaning.specs.Values.{holds}
use Rattle.kql_meaning.specs.Where.{where_table}
use Rattle.kql_meaning.proofs.MemberLaws.{Member}
use Rattle.kql_meaning.proofs.OperatorFitLaws.{op-Parse}
use Rattle.kql_meaning.proofs.PartRowLaws.{parse-of-each, parsed_row}
use Rattle.kql_meaning.proofs.PlainFitLaws.{plain_where_fits}
use Rattle.kql_meaning.proofs.RowByRowLaws.{alone, passes, projected_row}
use Rattle.kql_fit_laws.proofs.RowFacts.{answer-some}
use Rattle.plan_rules.proofs.ReadFits.{SameColumns, fits-as-alike}
use Rattle.plan_rules.proofs.ReadValues.{id_names, plain-of, same-names, val-agrees}
use Rattle.plan_rules.proofs.ReplacedColumns.{left-cell, left-columns, not-among}
use Rattle.plan_rules.proofs.RowWise.{RowWise, project-wise, take-below, where-below, wise-of-each}
use Rattle.plan_rules.proofs.RuleViews.{both-some, filter-is, pair-along, parse-is, project-is, take-is, when-some}
use Rattle.plan_rules.proofs.ShortRules.{parse-means, project-means}
use Rattle.plan_rules.proofs.Swaps.{filter-front, take-front}
use Rattle.plan_rules.proofs.Weights.{swap-lighter, weight-Parse, weight-Project, weight-Take, weight-Where}
use Rattle.plan_rules.specs.Becomes.{Becomes}
use Rattle.plan_rules.specs.Improves.{Improves}
use Rattle.plan_rules.specs.Reads.{reads_only}
use Rattle.plan_rules.specs.Rules.{parse_then_filter, parse_then_take, project_then_take, when}
use Rattle.plan_rules.specs.Views.{filter_of, parse_of, project_of, take_of}
use Rattle.plan_rules.specs.Weight.{other}

-- Not a name of the pattern.
abbrev pub unparsed : ParsePlan → List ℕ → Bool
unparsed p n = not (is_name_among (pattern_names p.pattern) n)

no-column : (p : ParsePlan) (n : List ℕ) → is_name_among (pattern_names p.pattern) n ≡ false → has_column n (pattern_columns p.pattern) ≡ false
unfolding pattern_names has_column
no-column p n h = h

parsed-cell : (p : ParsePlan) (cs : List Column) (row : List Value) (n : List ℕ) → unparsed p n ≡ true → cell (alone (parse_columns p cs) (parsed_row p cs row)) 0 n ≡ cell (alone cs row) 0 n
unfolding parse_columns
parsed-cell p cs row n h =
    let gone = not-among (pattern_names p.pattern) n h in
    left-cell (pattern_names p.pattern) (pattern_columns p.pattern) cs row (parsed_values p (text_in (val p.text (alone cs row) 0 []))) n gone (no-column p n gone)

parsed-columns : (p : ParsePlan) (cs : List Column) → SameColumns (unparsed p) id_names cs (parse_columns p cs)
unfolding parse_columns
parsed-columns p cs n h =
    let gone = not-among (pattern_names p.pattern) n h in
    left-columns (pattern_names p.pattern) (pattern_columns p.pattern) cs n gone (no-column p n gone)

parse-plain : (p : ParsePlan) (cs : List Column) → parse_fits p cs ≡ true → is_plain p.text ≡ true
unfolding parse_fits fits_as
parse-plain p cs e =
    let b = and_parts (fits_as (same_kind kind.Text) p.text (scope_of cs) position.Plain) (not (is_empty p.pattern)) e in
    let c = and_parts (expr_fits p.text (scope_of cs) position.Plain) (has_kind (same_kind kind.Text) (kind_of p.text cs)) b.0 in
    plain_where_fits p.text (scope_of cs) c.0

parse-wise : (p : ParsePlan) → is_plain p.text ≡ true → RowWise (parse_table p) (parse_columns p) (λ cs row. parsed_row p cs row ∷ [])
parse-wise p r = wise-of-each (parse_table p) (parse_columns p) (parsed_row p) (parse-of-each p r)

parsed-passes : (p : ParsePlan) (q : BExpr) → reads_only (unparsed p) q ≡ true → (cs : List Column) (row out : List Value) → Member out (parsed_row p cs row ∷ []) → passes q (parse_columns p cs) out ≡ passes q cs row
parsed-passes p q r cs row out (inl e) = ap (λ (o : List Value). passes q (parse_columns p cs) o) (sym e) ∙ ap holds (val-agrees q (unparsed p) r (alone (parse_columns p cs) (parsed_row p cs row)) (alone cs row) 0 0 [] (λ n h. parsed-cell p cs row n h))
parsed-passes p q r cs row out (inr m) = absurd m

pub parse-filter : (p : ParsePlan) (q : BExpr) → is_plain p.text ≡ true → reads_only (unparsed p) q ≡ true → (t : Grid) → where_table q (parse_table p t) ≡ parse_table p (where_table q t)
parse-filter p q l r t =
    let plain = plain-of (unparsed p) q r in
    where-below q q plain plain (parse_table p) (parse_columns p) (λ cs row. parsed_row p cs row ∷ []) (parse-wise p l) t
    (λ row m out n. parsed-passes p q r t.columns row out n)

where-unparsed : (p : ParsePlan) (q : BExpr) → reads_only (unparsed p) q ≡ true → (cs : List Column) → where_fits q cs ≡ where_fits q (parse_columns p cs)
unfolding where_fits
where-unparsed p q r cs = ap (λ e. where_fits e cs) (sym (same-names q)) ∙ fits-as-alike (same_kind kind.Bool) q (unparsed p) id_names r cs (parse_columns p cs) (parsed-columns p cs) position.Window

made : (p : ParsePlan) (k : Known) (inside : Bool) (cs mid : List Column) → op_columns (V.Parse p) k inside cs ≡ Some mid → (is_plain p.text ≡ true) × (parse_columns p cs ≡ mid)
made p k inside cs mid e =
    let a = answer-some (parse_fits p cs) (parse_columns p cs) mid (sym (op-Parse p k inside cs) ∙ e) in
    (parse-plain p cs a.0, a.1)

pub parse-filter-becomes : (k : Known) (inside : Bool) (cs : List Column) (p : ParsePlan) (q : BExpr) → reads_only (unparsed p) q ≡ true → Becomes k inside cs (V.Parse p ∷ V.Where q ∷ []) (V.Where q ∷ V.Parse p ∷ [])
parse-filter-becomes k inside cs p q r =
    filter-front k inside cs (V.Parse p) q q (λ w t. parse_table p t) (parse-means p)
    (λ mid e f. where-unparsed p q r cs ∙ (ap (where_fits q) (made p k inside cs mid e).1 ∙ f))
    (λ mid e w t s h. parse-filter p q (made p k inside cs mid e).0 r t)

pub parse_then_filter-improves : (k : Known) (inside : Bool) (cs : List Column) (x y : Op) (zs : List Op) → parse_then_filter x y ≡ Some zs → Improves k inside cs (x ∷ y ∷ []) zs
unfolding parse_then_filter
parse_then_filter-improves k inside cs x y zs e =
    let r = both-some (parse_of x) (filter_of y) (λ p q. when (reads_only (unparsed p) q) (V.Where q ∷ V.Parse p ∷ [])) zs e in
    let s = when-some (reads_only (unparsed r.0) r.1) (V.Where r.1 ∷ V.Parse r.0 ∷ []) zs r.4 in
    pair-along k inside cs x y (V.Parse r.0) (V.Where r.1) zs (V.Where r.1 ∷ V.Parse r.0 ∷ []) (parse-is x r.0 r.2) (filter-is y r.1 r.3) s.1 (record {
      becomes = parse-filter-becomes k inside cs r.0 r.1 s.0;
      lighter = swap-lighter (V.Parse r.0) (V.Where r.1) other (weight-Where r.1) (weight-Parse r.0) (omega arith);
      no_longer = omega arith;
      no_larger = omega arith;
    })

-- `take` in front.

pub parse_then_take-improves : (k : Known) (inside : Bool) (cs : List Column) (x y : Op) (zs : List Op) → parse_then_take x y ≡ Some zs → Improves k inside cs (x ∷ y ∷ []) zs
unfolding parse_then_take
parse_then_take-improves k inside cs x y zs e =
    let r = both-some (parse_of x) (take_of y) (λ p n. when true (V.Take n ∷ V.Parse p ∷ [])) zs e in
    let s = when-some true (V.Take r.1 ∷ V.Parse r.0 ∷ []) zs r.4 in
    let p = r.0 in
    pair-along k inside cs x y (V.Parse p) (V.Take r.1) zs (V.Take r.1 ∷ V.Parse p ∷ []) (parse-is x p r.2) (take-is y r.1 r.3) s.1 (record {
      becomes = take-front k inside cs (V.Parse p) r.1 (parse_table p) (parse-means p) (λ mid f t. take-below r.1 (parse_table p) (parse_columns p) (parsed_row p) (parse-wise p (made p k inside cs mid f).0) t);
      lighter = swap-lighter (V.Parse p) (V.Take r.1) other (weight-Take r.1) (weight-Parse p) (omega arith);
      no_longer = omega arith;
      no_larger = omega arith;
    })

pub project_then_take-improves : (k : Known) (inside : Bool) (cs : List Column) (x y : Op) (zs : List Op) → project_then_take x y ≡ Some zs → Improves k inside cs (x ∷ y ∷ []) zs
unfolding project_then_take
project_then_take-improves k inside cs x y zs e =
    let r = both-some (project_of x) (take_of y) (λ items n. when (are_plain items) (V.Take n ∷ V.Project items ∷ [])) zs e in
    let s = when-some (are_plain r.0) (V.Take r.1 ∷ V.Project r.0 ∷ []) zs r.4 in
    let items = r.0 in
    pair-along k inside cs x y (V.Project items) (V.Take r.1) zs (V.Take r.1 ∷ V.Project items ∷ []) (project-is x items r.2) (take-is y r.1 r.3) s.1 (record {
      becomes = take-front k inside cs (V.Project items) r.1 (project_table items) (project-means items) (λ mid f t. take-below r.1 (project_table items) (items_columns items) (projected_row items) (project-wise items s.0) t);
      lighter = swap-lighter (V.Project items) (V.Take r.1) other (weight-Take r.1) (weight-Project items) (omega arith);
      no_longer = omega arith;
      no_larger = omega arith;
    })
