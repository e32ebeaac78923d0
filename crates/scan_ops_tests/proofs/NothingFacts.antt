-- A scan without steps fits all columns that have distinct names.
use Rattle.std.proofs.Common.{◌≡◌, ◌<◌, Bool, true, List, [], ◌∷◌, ℕ, length, ap₂, ◌∙◌, subst, refl, arith, append-nil}
use Rattle.std.specs.Prelude.{None, is_some}
use Rattle.kql_cells.specs.declared.schema.Column.{Column}
use Rattle.kql_bound.specs.declared.parts.ScanPlan.{ScanPlan}
use Rattle.kql_meaning.specs.FittingOperators.{answer_if, are_distinct, columns_if, defaults_fit, is_empty, scan_fits, step_names}
use Rattle.kql_meaning.specs.Scan.{declared_columns, id_columns, scan_columns}
use Rattle.kql_meaning.specs.Tables.{names_of}
use Rattle.kql_cells.specs.declared.value.Value.{Value}
use Rattle.kql_values.specs.Grids.{HaveLength}
use Rattle.scan_ops.specs.Steps.{scan_answers}
use Rattle.scan_ops.proofs.RunFacts.{width-start}

abbrev nothing : ScanPlan
nothing = record { match_id = None; declared = []; steps = [] }

fits-nothing : (cs : List Column) → scan_fits nothing cs ≡ true
unfolding scan_fits defaults_fit step_names are_distinct
fits-nothing cs = refl

same-columns : (cs : List Column) → scan_columns nothing cs ≡ cs
unfolding scan_columns declared_columns id_columns
same-columns cs = append-nil cs

made : (cs : List Column) → 0 < length cs → are_distinct (names_of cs) ≡ true → is_some (answer_if true cs) ≡ true
unfolding answer_if columns_if is_empty
made [] lt e = absurd (omega (arith, lt))
made (c ∷ cs) lt e = rw e refl

pub nothing-answers : (cs : List Column) (names : List (List ℕ)) → names ≡ names_of cs → are_distinct names ≡ true → 0 < length cs → scan_answers nothing cs ≡ true
unfolding scan_answers
nothing-answers cs names is distinct lt =
    ap₂ (λ (b : Bool) (ds : List Column). is_some (answer_if b ds)) (fits-nothing cs) (same-columns cs) ∙ made cs lt (subst (λ (ns : List (List ℕ)). are_distinct ns ≡ true) is distinct)

-- No rows are of any width.
pub none-wide : (w : ℕ) (rows : List (List Value)) → rows ≡ [] → HaveLength w rows
none-wide w rows is = width-start w rows is

pub ruleset machine_facts = (none-wide)

pub ruleset nothing_facts = (nothing-answers)
