-- What a scan that fits gives.
use Rattle.std.proofs.Common.{◌≡◌, ◌++◌, ℕ, zero, suc, Bool, true, false, List, [], ◌∷◌, refl, sym, ap, ◌∙◌, subst, arith, rules, append_assoc, length-append}
use Rattle.std.specs.Prelude.{◌&&◌, All, Some, is_some}
use Rattle.std.specs.List.{list_all}
use Rattle.std.proofs.lemmas.Bool.{and_from, and_parts}
use Rattle.std.proofs.lemmas.List.{get_or_append_left}
use Rattle.kql_cells.specs.Named.{HasDistinctNames, column_name}
use Rattle.kql_cells.specs.Table.{Grid, IsGrid}
use Rattle.kql_cells.specs.declared.schema.Column.{Column}
use Rattle.kql_cells.specs.declared.value.Kind.TheVariants as kind
use Rattle.kql_functions.specs.Kinds.{same_kind}
use Rattle.kql_bound.specs.declared.expr.BExpr.{BExpr}
use Rattle.kql_bound.specs.declared.parts.BItem.{BItem}
use Rattle.kql_bound.specs.declared.parts.ScanPlan.{ScanPlan}
use Rattle.kql_bound.specs.declared.parts.ScanStep.{ScanStep}
use Rattle.kql_bound.specs.declared.plan.Op.{the_lemmas}
use Rattle.kql_bound.specs.declared.plan.Op.TheOpen.{Op-F}
use Rattle.kql_bound.specs.declared.plan.Op.TheVariants as O
use Rattle.kql_meaning.specs.declared.position.Position.TheVariants as position
use Rattle.kql_meaning.specs.Expressions.{column_kind, kind_of}
use Rattle.kql_meaning.specs.FittingExpressions.{Scope, expr_fits, fits_as, has_kind, same_known}
use Rattle.kql_meaning.specs.FittingOperators.{answer_if, are_distinct, assigns, assigns_one, columns_if, defaults_fit, is_empty, scan_fits, scan_scope, scan_step_fits, set_fits, step_names}
use Rattle.kql_meaning.specs.Items.{items_names}
use Rattle.kql_meaning.specs.Fits.{Known, known_of}
use Rattle.kql_meaning.specs.Plans.{World, op_means}
use Rattle.kql_meaning.specs.RowByRow.{are_plain, is_plain}
use Rattle.kql_meaning.specs.Scan.{declared_columns, id_columns, scan_columns, scan_table}
use Rattle.kql_meaning.proofs.OperatorFitLaws.{op-Scan}
use Rattle.kql_meaning.proofs.PlainFitLaws.{plain_where_fits}
use Rattle.kql_scalar.specs.Scalar.{IsScalar, is_of_rows}
use Rattle.kql_scalar.proofs.ScalarFitLaws.{scalar_where_fits}
use Rattle.kql_fit_laws.specs.LawsOfRows.{IsTable, IsTableOf}
use Rattle.kql_fit_laws.proofs.RowFacts.{answer-some}
use Rattle.kql_fit_laws.proofs.RowLaws.{means}
use Rattle.kql_fit_laws.proofs.ScanRows.{each_scan_keeps}
use Rattle.scan_ops.specs.Scans.{is_plain_step}
use Rattle.scan_ops.specs.Steps.{AreStepsScalar, IsStepScalar, scan_answers}

-- What fits.

some-columns : (b : Bool) (cs : List Column) → is_some (columns_if b cs) ≡ true → columns_if b cs ≡ Some cs
unfolding columns_if
some-columns true cs e = refl
some-columns false cs e = absurd cc

there : (b : Bool) (cs : List Column) → is_some (answer_if b cs) ≡ true → answer_if b cs ≡ Some cs
unfolding answer_if
there b cs e = some-columns (b && _) cs e

answer-columns : (p : ScanPlan) (cs : List Column) → scan_answers p cs ≡ true → answer_if (scan_fits p cs) (scan_columns p cs) ≡ Some (scan_columns p cs)
unfolding scan_answers
answer-columns p cs e = there (scan_fits p cs) (scan_columns p cs) e

answer-parts : (p : ScanPlan) (cs : List Column) → scan_answers p cs ≡ true → (scan_fits p cs ≡ true) × HasDistinctNames column_name (scan_columns p cs)
answer-parts p cs e = let q = answer-some (scan_fits p cs) (scan_columns p cs) (scan_columns p cs) (answer-columns p cs e) in (q.0, q.2)

pub answer-differ : (p : ScanPlan) (cs ds : List Column) → scan_answers p cs ≡ true → ds ≡ scan_columns p cs → HasDistinctNames column_name ds
answer-differ p cs ds e is = subst (HasDistinctNames column_name) (sym is) (answer-parts p cs e).1

differ-left : (cs ds : List Column) → HasDistinctNames column_name (cs ++ ds) → HasDistinctNames column_name cs
differ-left cs ds h = λ i j d lt inside.
    let a = get_or_append_left cs ds d i (omega (arith, lt, inside)) in
    let b = get_or_append_left cs ds d j inside in
    λ e. h i j d lt (omega (arith, inside, length-append cs ds)) (ap column_name a ∙ (e ∙ sym (ap column_name b)))

pub declared-differ : (p : ScanPlan) (cs : List Column) → scan_answers p cs ≡ true → HasDistinctNames column_name (cs ++ declared_columns p)
unfolding scan_columns
declared-differ p cs e =
    differ-left (cs ++ declared_columns p) (id_columns p.match_id) (subst (HasDistinctNames column_name) (sym (append_assoc cs (declared_columns p) (id_columns p.match_id))) (answer-parts p cs e).1)

pub declared-fit : (p : ScanPlan) (cs : List Column) → scan_answers p cs ≡ true → defaults_fit p.declared ≡ true
unfolding scan_fits
declared-fit p cs e = (and_parts (defaults_fit p.declared) (are_distinct (step_names p.steps) && list_all (scan_step_fits (declared_columns p) (scan_scope p cs)) p.steps) (answer-parts p cs e).0).0

-- Steps are scalar.

plain-of-rows : is_of_rows position.Plain ≡ true
unfolding is_of_rows
plain-of-rows = refl

plain-scalar : (e : BExpr) (scope : Scope) → expr_fits e scope position.Plain ≡ true → IsScalar e
plain-scalar e scope fits = scalar_where_fits e scope position.Plain plain-of-rows fits

assigned-scalar : (declared : List Column) (scope : Scope) (e : BExpr) (ns : List (List ℕ)) → assigns declared scope e ns ≡ true → IsScalar e
unfolding assigns assigns_one
assigned-scalar declared scope e [] h = absurd cc
assigned-scalar declared scope e (n ∷ ns) h =
    let parts = and_parts (is_empty ns) (expr_fits e scope position.Plain && same_known (column_kind n declared) (kind_of e scope.columns)) h in
    plain-scalar e scope (and_parts (expr_fits e scope position.Plain) (same_known (column_kind n declared) (kind_of e scope.columns)) parts.1).0

sets-scalar : (declared : List Column) (scope : Scope) (sets : List BItem) → list_all (set_fits declared scope) sets ≡ true → All (λ (b : BItem). IsScalar b.expr) sets
unfolding set_fits
sets-scalar declared scope [] h k d lt = absurd (omega (arith, lt))
sets-scalar declared scope (b ∷ sets) h zero d lt = assigned-scalar declared scope b.expr b.names (and_parts (assigns declared scope b.expr b.names) (list_all (λ (b : BItem). assigns declared scope b.expr b.names) sets) h).0
sets-scalar declared scope (b ∷ sets) h (suc k) d lt = sets-scalar declared scope sets (and_parts (assigns declared scope b.expr b.names) (list_all (λ (b : BItem). assigns declared scope b.expr b.names) sets) h).1 k d (omega (arith, lt))

step-scalar : (declared : List Column) (scope : Scope) (s : ScanStep) → scan_step_fits declared scope s ≡ true → IsStepScalar s
unfolding scan_step_fits fits_as
step-scalar declared scope s h =
    let parts = and_parts (expr_fits s.condition scope position.Plain && has_kind (same_kind kind.Bool) (kind_of s.condition scope.columns)) (list_all (set_fits declared scope) s.sets && are_distinct (items_names s.sets)) h in
    let condition = and_parts (expr_fits s.condition scope position.Plain) (has_kind (same_kind kind.Bool) (kind_of s.condition scope.columns)) parts.0 in
    let sets = and_parts (list_all (set_fits declared scope) s.sets) (are_distinct (items_names s.sets)) parts.1 in
    record { condition = plain-scalar s.condition scope condition.0; sets = record { each = sets-scalar declared scope s.sets sets.0 } }

steps-scalar : (declared : List Column) (scope : Scope) (steps : List ScanStep) → list_all (scan_step_fits declared scope) steps ≡ true → All IsStepScalar steps
steps-scalar declared scope [] h k d lt = absurd (omega (arith, lt))
steps-scalar declared scope (s ∷ steps) h zero d lt = step-scalar declared scope s (and_parts (scan_step_fits declared scope s) (list_all (scan_step_fits declared scope) steps) h).0
steps-scalar declared scope (s ∷ steps) h (suc k) d lt = steps-scalar declared scope steps (and_parts (scan_step_fits declared scope s) (list_all (scan_step_fits declared scope) steps) h).1 k d (omega (arith, lt))

pub scan-scalar : (p : ScanPlan) (cs : List Column) → scan_answers p cs ≡ true → AreStepsScalar p.steps
unfolding scan_fits
scan-scalar p cs e =
    let rest = (and_parts (defaults_fit p.declared) (are_distinct (step_names p.steps) && list_all (scan_step_fits (declared_columns p) (scan_scope p cs)) p.steps) (answer-parts p cs e).0).1 in
    let fits = (and_parts (are_distinct (step_names p.steps)) (list_all (scan_step_fits (declared_columns p) (scan_scope p cs)) p.steps) rest).1 in
    record { each = steps-scalar (declared_columns p) (scan_scope p cs) p.steps fits }

-- Steps read one row alone.

assigned-plain : (declared : List Column) (scope : Scope) (e : BExpr) (ns : List (List ℕ)) → assigns declared scope e ns ≡ true → is_plain e ≡ true
unfolding assigns assigns_one
assigned-plain declared scope e [] h = absurd cc
assigned-plain declared scope e (n ∷ ns) h =
    let parts = and_parts (is_empty ns) (expr_fits e scope position.Plain && same_known (column_kind n declared) (kind_of e scope.columns)) h in
    plain_where_fits e scope (and_parts (expr_fits e scope position.Plain) (same_known (column_kind n declared) (kind_of e scope.columns)) parts.1).0

sets-plain : (declared : List Column) (scope : Scope) (sets : List BItem) → list_all (set_fits declared scope) sets ≡ true → list_all (λ (b : BItem). is_plain b.expr) sets ≡ true
unfolding set_fits
sets-plain declared scope [] h = refl
sets-plain declared scope (b ∷ sets) h =
    let parts = and_parts (assigns declared scope b.expr b.names) (list_all (λ (b : BItem). assigns declared scope b.expr b.names) sets) h in
    and_from (is_plain b.expr) (list_all (λ (b : BItem). is_plain b.expr) sets) (assigned-plain declared scope b.expr b.names parts.0) (sets-plain declared scope sets parts.1)

step-plain : (declared : List Column) (scope : Scope) (s : ScanStep) → scan_step_fits declared scope s ≡ true → is_plain_step s ≡ true
unfolding scan_step_fits fits_as is_plain_step are_plain
step-plain declared scope s h =
    let parts = and_parts (expr_fits s.condition scope position.Plain && has_kind (same_kind kind.Bool) (kind_of s.condition scope.columns)) (list_all (set_fits declared scope) s.sets && are_distinct (items_names s.sets)) h in
    let condition = and_parts (expr_fits s.condition scope position.Plain) (has_kind (same_kind kind.Bool) (kind_of s.condition scope.columns)) parts.0 in
    let sets = and_parts (list_all (set_fits declared scope) s.sets) (are_distinct (items_names s.sets)) parts.1 in
    and_from (is_plain s.condition) (list_all (λ (b : BItem). is_plain b.expr) s.sets) (plain_where_fits s.condition scope condition.0) (sets-plain declared scope s.sets sets.0)

all-plain : (declared : List Column) (scope : Scope) (steps : List ScanStep) → list_all (scan_step_fits declared scope) steps ≡ true → list_all is_plain_step steps ≡ true
all-plain declared scope [] h = refl
all-plain declared scope (s ∷ steps) h =
    let parts = and_parts (scan_step_fits declared scope s) (list_all (scan_step_fits declared scope) steps) h in
    and_from (is_plain_step s) (list_all is_plain_step steps) (step-plain declared scope s parts.0) (all-plain declared scope steps parts.1)

pub steps-plain : (p : ScanPlan) (cs : List Column) → scan_answers p cs ≡ true → list_all is_plain_step p.steps ≡ true
unfolding scan_fits
steps-plain p cs e =
    let rest = (and_parts (defaults_fit p.declared) (are_distinct (step_names p.steps) && list_all (scan_step_fits (declared_columns p) (scan_scope p cs)) p.steps) (answer-parts p cs e).0).1 in
    let fits = (and_parts (are_distinct (step_names p.steps)) (list_all (scan_step_fits (declared_columns p) (scan_scope p cs)) p.steps) rest).1 in
    all-plain (declared_columns p) (scan_scope p cs) p.steps fits

-- The table.

abbrev nowhere : World
nowhere = record { tables = []; lets = [] }

abbrev nothing_known : Known
nothing_known = known_of [] []

made-table : (p : ScanPlan) (t : Grid) → IsTable t → scan_answers p t.columns ≡ true → IsTableOf (scan_columns p t.columns) (op_means (O.Scan p) nowhere t)
made-table p t h e = each_scan_keeps nothing_known nowhere p false t (scan_columns p t.columns) h (op-Scan p nothing_known false t.columns ∙ answer-columns p t.columns e)

means-Scan : (p : ScanPlan) (w : World) (t : Grid) → op_means (O.Scan p) w t ≡ scan_table p t
means-Scan p w t = means (O.Scan p) (Op-F.Scan p) (search (rules, the_lemmas)) w t

pub scan-grid : (p : ScanPlan) (t : Grid) → HasDistinctNames column_name t.columns → IsGrid t → scan_answers p t.columns ≡ true → IsGrid (scan_table p t)
scan-grid p t names fits e = subst IsGrid (means-Scan p nowhere t) (made-table p t (names, fits) e).1.1
