-- The table of places that lead and of those beside them.
use Rattle.std.proofs.Common.{◌≡◌, ◌<◌, ℕ, Bool, true, false, List, [], ◌∷◌, ◌++◌, map, length, refl, ap, ap₂, sym, ◌∙◌, subst}
use Rattle.std.specs.Prelude.{All, Option, Some}
use Rattle.std.specs.List.{AllByRecursion}
use Rattle.std.proofs.lemmas.List.{length-map}
use Rattle.std.proofs.lemmas.List.Elements.{All-from_recursion, recursion_from_All}
use Rattle.kql_cells.specs.Named.{HasDistinctNames, column_name}
use Rattle.kql_cells.specs.Seen.{row_at}
use Rattle.kql_cells.specs.Table.{Grid, gathered}
use Rattle.kql_cells.specs.declared.schema.Column.{Column}
use Rattle.kql_cells.specs.declared.value.Value.{Value}
use Rattle.kql_bound.specs.declared.parts.JoinPlan.{JoinPlan}
use Rattle.kql_meaning.specs.Join.{both_columns}
use Rattle.kql_meaning.proofs.JoinLaws.{map-map}
use Rattle.kql_values.specs.Moves.{IsWithin, beside, gathered_or_absent, row_or_absent}
use Rattle.join_op.specs.Led.{columns_led, pairs_table, places_table}
use Rattle.join_op.specs.Shown.{row_shown, shown_at}
use Rattle.join_op.specs.declared.sides.Side.{Side}
use Rattle.join_op.specs.declared.sides.Side.TheVariants as side
use Rattle.join_op.proofs.ListSteps.{beside-pairs}
use Rattle.join_op.proofs.RowSteps.{lead, other}

abbrev pub grid : List Column → List (List Value) → Grid
grid cs ls = record { columns = cs; lines = ls }

-- What is asked of the places.

pub left-long : (a kept : Grid) (leads : List ℕ) (others : List (Option ℕ)) → length leads ≡ length others → kept ≡ gathered a leads → length kept.lines ≡ length others
left-long a kept leads others size e = ap (λ (g : Grid). length g.lines) e ∙ (length-map leads (row_at a.lines) ∙ size)

pub right-long : (a kept : Grid) (leads : List ℕ) (others somes : List (Option ℕ)) → length leads ≡ length others → somes ≡ map (λ i. Some i) leads → kept ≡ gathered_or_absent a others → length kept.lines ≡ length somes
right-long a kept leads others somes size es e =
    ap (λ (g : Grid). length g.lines) e
    ∙ (length-map others (row_or_absent a) ∙ (sym size ∙ (sym (length-map leads (λ i. Some i)) ∙ ap length (sym es))))

each-within : (n : ℕ) (leads : List ℕ) → AllByRecursion (λ i. i < n) leads → AllByRecursion (IsWithin n) (map (λ i. Some i) leads)
each-within n [] h = tt
each-within n (i ∷ is) h = (h.0, each-within n is h.1)

pub somes-within : (n : ℕ) (leads : List ℕ) (somes : List (Option ℕ)) → somes ≡ map (λ i. Some i) leads → All (λ i. i < n) leads → All (IsWithin n) somes
somes-within n leads somes e h =
    subst (All (IsWithin n)) (sym e) (All-from_recursion (IsWithin n) (map (λ i. Some i) leads) (each-within n leads (recursion_from_All (λ i. i < n) leads h)))

pub gathered-columns : (a kept : Grid) (leads : List ℕ) → kept ≡ gathered a leads → kept.columns ≡ a.columns
gathered-columns a kept leads e = ap (λ (g : Grid). g.columns) e

pub absent-columns : (a kept : Grid) (others : List (Option ℕ)) → kept ≡ gathered_or_absent a others → kept.columns ≡ a.columns
absent-columns a kept others e = ap (λ (g : Grid). g.columns) e

pub names-kept : (j : JoinPlan) (a b kept : Grid) → kept.columns ≡ a.columns → HasDistinctNames column_name (both_columns j a.columns b.columns) → HasDistinctNames column_name (both_columns j kept.columns b.columns)
names-kept j a b kept e h = subst (λ (cs : List Column). HasDistinctNames column_name (both_columns j cs b.columns)) (sym e) h

pub ruleset left_steps = (left-long)

pub ruleset right_steps = (right-long, somes-within)

-- The table.

pub left-both : (j : JoinPlan) (a b kept made : Grid) (both : Bool) (leads : List ℕ) (others : List (Option ℕ)) → both ≡ true → kept ≡ gathered a leads
    → made ≡ record { columns = both_columns j kept.columns b.columns; lines = beside kept.lines (map (shown_at j b) others) } → made ≡ places_table both side.Left j a b leads others
unfolding places_table
left-both j a b kept made both leads others t ek em =
    em
    ∙ (ap (λ (g : Grid). grid (both_columns j g.columns b.columns) (beside g.lines (map (shown_at j b) others))) ek
    ∙ ap (λ (x : Bool). places_table x side.Left j a b leads others) (sym t))

pub left-one : (j : JoinPlan) (a b kept : Grid) (both : Bool) (leads : List ℕ) (others : List (Option ℕ)) → both ≡ false → kept ≡ gathered a leads → kept ≡ places_table both side.Left j a b leads others
unfolding places_table
left-one j a b kept both leads others f ek = ek ∙ ap (λ (x : Bool). places_table x side.Left j a b leads others) (sym f)

pub right-both : (j : JoinPlan) (a b kept made : Grid) (both : Bool) (leads : List ℕ) (others somes : List (Option ℕ)) → both ≡ true → somes ≡ map (λ i. Some i) leads → kept ≡ gathered_or_absent a others
    → made ≡ record { columns = both_columns j kept.columns b.columns; lines = beside kept.lines (map (shown_at j b) somes) } → made ≡ places_table both side.Right j a b leads others
unfolding places_table
right-both j a b kept made both leads others somes t es ek em =
    em
    ∙ (ap₂ (λ (g : Grid) (os : List (Option ℕ)). grid (both_columns j g.columns b.columns) (beside g.lines (map (shown_at j b) os))) ek es
    ∙ ap (λ (x : Bool). places_table x side.Right j a b leads others) (sym t))

pub right-one : (j : JoinPlan) (a b kept : Grid) (both : Bool) (leads : List ℕ) (others : List (Option ℕ)) → both ≡ false → kept ≡ gathered b leads → kept ≡ places_table both side.Right j a b leads others
unfolding places_table
right-one j a b kept both leads others f ek = ek ∙ ap (λ (x : Bool). places_table x side.Right j a b leads others) (sym f)

-- Each row of it is that of its pair.

pub rows-of-left : (j : JoinPlan) (a b : Grid) (ps : List (ℕ × Option ℕ)) → beside (map (row_at a.lines) (map lead ps)) (map (shown_at j b) (map other ps)) ≡ map (row_shown true side.Left j a b) ps
unfolding row_shown
rows-of-left j a b ps =
    ap₂ (λ (xs ys : List (List Value)). beside xs ys) (map-map (row_at a.lines) lead ps) (map-map (shown_at j b) other ps)
    ∙ beside-pairs (λ (p : ℕ × Option ℕ). row_at a.lines p.0) (λ (p : ℕ × Option ℕ). shown_at j b p.1) ps

pub rows-of-right : (j : JoinPlan) (a b : Grid) (ps : List (ℕ × Option ℕ)) → beside (map (row_or_absent a) (map other ps)) (map (shown_at j b) (map (λ i. Some i) (map lead ps))) ≡ map (row_shown true side.Right j a b) ps
unfolding row_shown
rows-of-right j a b ps =
    ap₂ (λ (xs ys : List (List Value)). beside xs ys) (map-map (row_or_absent a) other ps) (map-map (shown_at j b) (λ i. Some i) (map lead ps) ∙ map-map (λ i. shown_at j b (Some i)) lead ps)
    ∙ beside-pairs (λ (p : ℕ × Option ℕ). row_or_absent a p.1) (λ (p : ℕ × Option ℕ). shown_at j b (Some p.0)) ps

pub paired : (both : Bool) (s : Side) (j : JoinPlan) (a b : Grid) (ps : List (ℕ × Option ℕ)) → places_table both s j a b (map lead ps) (map other ps) ≡ pairs_table both s j a b ps
unfolding places_table pairs_table columns_led row_shown
paired true side.Left j a b ps = ap (grid (both_columns j a.columns b.columns)) (rows-of-left j a b ps)
paired true side.Right j a b ps = ap (grid (both_columns j a.columns b.columns)) (rows-of-right j a b ps)
paired false side.Left j a b ps = ap (grid a.columns) (map-map (row_at a.lines) lead ps)
paired false side.Right j a b ps = ap (grid b.columns) (map-map (row_at b.lines) lead ps)
