-- The table of `parse`: the columns that stay, and those of the pattern beside them.
use Rattle.std.proofs.Common.{◌≡◌, ◌≢◌, ◌<◌, ◌-◌, ◌++◌, ℕ, suc, true, List, [], ◌∷◌, map, length, refl, sym, ap, ◌∙◌, subst, arith}
use Rattle.std.specs.Prelude.{All, AllPairs, not}
use Rattle.std.specs.List.{range_with_len}
use Rattle.std.proofs.lemmas.Bool.{and_parts}
use Rattle.std.proofs.lemmas.List.{length-map}
use Rattle.std.proofs.lemmas.List.FromFn.{length-map-range_with_len}
use Rattle.kql_cells.specs.Named.{HasDistinctNames, column_name}
use Rattle.kql_cells.specs.Ordered.{text_in}
use Rattle.kql_cells.specs.Table.{Grid, IsGrid}
use Rattle.kql_cells.specs.declared.schema.Column.{Column}
use Rattle.kql_cells.specs.declared.value.Kind.TheVariants as kind
use Rattle.kql_cells.specs.declared.value.Value.{Value}
use Rattle.kql_functions.specs.Kinds.{same_kind}
use Rattle.kql_bound.specs.declared.expr.BExpr.{BExpr}
use Rattle.kql_bound.specs.declared.parts.ParsePlan.{ParsePlan}
use Rattle.kql_meaning.specs.declared.position.Position.TheVariants as position
use Rattle.kql_meaning.specs.Expressions.{kind_of, val}
use Rattle.kql_meaning.specs.FittingExpressions.{expr_fits, fits_as, has_kind, scope_of}
use Rattle.kql_meaning.specs.FittingOperators.{is_empty, parse_fits}
use Rattle.kql_meaning.specs.Items.{without}
use Rattle.kql_meaning.specs.Parse.{parse_columns, parse_table, parsed_values, pattern_columns, pattern_names}
use Rattle.kql_meaning.specs.Tables.{names_of, places, places_below}
use Rattle.kql_meaning.proofs.JoinLaws.{map-map}
use Rattle.kql_scalar.specs.Rows.{rows}
use Rattle.kql_scalar.specs.Scalar.{IsScalar, is_of_rows}
use Rattle.kql_scalar.proofs.ScalarFitLaws.{scalar_where_fits}
use Rattle.kql_values.specs.Moves.{column_of, picked, selected, side_by_side}
use Rattle.parse_op.specs.Filled.{parsed_grid, places_without, values_down}
use Rattle.parse_op.proofs.KeptSteps.{columns-kept, others-beside, places-differ, places-inside}

-- The texts.

plain-of-rows : is_of_rows position.Plain ≡ true
unfolding is_of_rows
plain-of-rows = refl

pub text-scalar : (p : ParsePlan) (cs : List Column) → parse_fits p cs ≡ true → IsScalar p.text
unfolding parse_fits fits_as
text-scalar p cs fits =
    let outer = and_parts (fits_as (same_kind kind.Text) p.text (scope_of cs) position.Plain) (not (is_empty p.pattern)) fits in
    let parts = and_parts (expr_fits p.text (scope_of cs) position.Plain) (has_kind (same_kind kind.Text) (kind_of p.text cs)) outer.0 in
    scalar_where_fits p.text (scope_of cs) position.Plain plain-of-rows parts.0

all-rows : (t : Grid) (n : ℕ) → n ≡ length t.lines → rows 0 n ≡ places t
unfolding rows places places_below
all-rows t n e = let same : n - 0 ≡ length t.lines = omega (arith, e) in ap (range_with_len 0) same

pub column-down : (e : BExpr) (t : Grid) (n : ℕ) (v : List Value) → n ≡ length t.lines → v ≡ map (λ i. val e t i []) (rows 0 n) → v ≡ values_down e t
unfolding values_down
column-down e t n v len is = is ∙ ap (map (λ i. val e t i [])) (all-rows t n len)

pub of-texts : (p : ParsePlan) (t made : Grid) (texts : List Value) → texts ≡ values_down p.text t → made ≡ parsed_grid p texts → made ≡ parsed_grid p (values_down p.text t)
of-texts p t made texts is e = e ∙ ap (parsed_grid p) is

pub ruleset text_steps = (text-scalar, column-down, of-texts)

-- The columns.

last-differ : (cs ds : List Column) → HasDistinctNames column_name (cs ++ ds) → HasDistinctNames column_name ds
last-differ [] ds h = h
last-differ (c ∷ cs) ds h = last-differ cs ds (λ i j d lt in_range. h (suc i) (suc j) d (omega (arith, lt)) (omega (arith, in_range)))

pub pattern-differs : (p : ParsePlan) (cs : List Column) → HasDistinctNames column_name (parse_columns p cs) → HasDistinctNames column_name (pattern_columns p.pattern)
unfolding parse_columns
pattern-differs p cs h = last-differ (without (pattern_names p.pattern) cs) (pattern_columns p.pattern) h

pub kept-inside : (made cs : List Column) (ps : List ℕ) → ps ≡ places_without made cs → All (λ j. j < length cs) ps
kept-inside made cs ps is = subst (All (λ j. j < length cs)) (sym is) (places-inside made cs)

pub kept-differ : (made cs : List Column) (ps : List ℕ) → ps ≡ places_without made cs → AllPairs (λ i j. i ≢ j) ps
kept-differ made cs ps is = subst (AllPairs (λ i j. i ≢ j)) (sym is) (places-differ made cs)

added-rows : (p : ParsePlan) (t : Grid) → parsed_grid p (values_down p.text t) ≡ record { columns = pattern_columns p.pattern; lines = map (λ i. parsed_values p (text_in (val p.text t i []))) (places t) }
unfolding parsed_grid values_down
added-rows p t =
    ap (λ (ls : List (List Value)). record { columns = pattern_columns p.pattern; lines = ls }) (map-map (λ (v : Value). parsed_values p (text_in v)) (λ i. val p.text t i []) (places t))

added-columns : (p : ParsePlan) (t added : Grid) → added ≡ parsed_grid p (values_down p.text t) → added.columns ≡ pattern_columns p.pattern
unfolding parsed_grid
added-columns p t added a = ap (λ (g : Grid). g.columns) a

pub same-count : (p : ParsePlan) (t kept added : Grid) (ps : List ℕ) → kept ≡ selected t ps → added ≡ parsed_grid p (values_down p.text t) → length kept.lines ≡ length added.lines
unfolding places places_below
same-count p t kept added ps k a =
    ap (λ (g : Grid). length g.lines) k
    ∙ (length-map t.lines (picked ps)
    ∙ sym (ap (λ (g : Grid). length g.lines) (a ∙ added-rows p t) ∙ length-map-range_with_len (λ i. parsed_values p (text_in (val p.text t i []))) 0 (length t.lines)))

both-columns : (p : ParsePlan) (t kept added : Grid) (made : List Column) (ps : List ℕ) → kept ≡ selected t ps → added ≡ parsed_grid p (values_down p.text t) → made ≡ added.columns → ps ≡ places_without made t.columns → kept.columns ++ added.columns ≡ parse_columns p t.columns
unfolding parse_columns pattern_names
both-columns p t kept added made ps k a m is =
    let same = m ∙ added-columns p t added a in
    ap (λ (g : Grid). g.columns ++ added.columns) k
    ∙ (ap (λ (cs : List Column). map (column_of t.columns) ps ++ cs) (added-columns p t added a)
    ∙ ap (λ (cs : List Column). cs ++ pattern_columns p.pattern) (ap (map (column_of t.columns)) is ∙ (columns-kept made t.columns ∙ ap (λ (cs : List Column). without (names_of cs) t.columns) same)))

pub both-differ : (p : ParsePlan) (t kept added : Grid) (made : List Column) (ps : List ℕ) → kept ≡ selected t ps → added ≡ parsed_grid p (values_down p.text t) → made ≡ added.columns → ps ≡ places_without made t.columns → HasDistinctNames column_name (parse_columns p t.columns) → HasDistinctNames column_name (kept.columns ++ added.columns)
both-differ p t kept added made ps k a m is h = subst (HasDistinctNames column_name) (sym (both-columns p t kept added made ps k a m is)) h

-- The table.

beside-pieces : (p : ParsePlan) (t : Grid) → HasDistinctNames column_name t.columns → IsGrid t → side_by_side (selected t (places_without (pattern_columns p.pattern) t.columns)) (parsed_grid p (values_down p.text t)) ≡ parse_table p t
unfolding parse_table parse_columns pattern_names
beside-pieces p t names fits =
    ap (λ g. side_by_side (selected t (places_without (pattern_columns p.pattern) t.columns)) g) (added-rows p t)
    ∙ others-beside (pattern_columns p.pattern) (pattern_columns p.pattern) t (λ i. parsed_values p (text_in (val p.text t i []))) names fits

pub parsed-table : (p : ParsePlan) (t kept added result : Grid) (made : List Column) (ps : List ℕ) → kept ≡ selected t ps → added ≡ parsed_grid p (values_down p.text t) → made ≡ added.columns → ps ≡ places_without made t.columns → HasDistinctNames column_name t.columns → IsGrid t → result ≡ side_by_side kept added → result ≡ parse_table p t
parsed-table p t kept added result made ps k a m is names fits e =
    let places = is ∙ ap (λ (cs : List Column). places_without cs t.columns) (m ∙ added-columns p t added a) in
    e ∙ (ap (λ g. side_by_side g added) (k ∙ ap (selected t) places)
    ∙ (ap (side_by_side (selected t (places_without (pattern_columns p.pattern) t.columns))) a ∙ beside-pieces p t names fits))

pub ruleset parse_steps = (pattern-differs, kept-inside, kept-differ, same-count, both-differ, parsed-table)
