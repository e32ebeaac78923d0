-- `scan`: declared columns, and steps whose expressions read the input rows with them and the records of steps.
use Rattle.std.specs.Prelude.{ℕ, ◌+◌, nat_le, Bool, true, not, ◌||◌, List, [], ◌∷◌, ◌++◌, Option, None, Some, Ok, bytes_eq, find, map, option_map, option_to_list}
use Rattle.kql_cells.specs.declared.schema.Column.{Column}
use Rattle.kql_cells.specs.declared.value.Kind.{Kind}
use Rattle.kql_cells.specs.declared.value.Kind.TheVariants as kind
use Rattle.kql_cells.specs.declared.value.Value.{Value}
use Rattle.kql_lexer.specs.declared.place.Place.{Place}
use Rattle.kql_bound.specs.declared.literal.Lit.{Lit}
use Rattle.kql_bound.specs.declared.parts.BItem.{BItem}
use Rattle.kql_bound.specs.declared.parts.Decl.{Decl as BoundDecl}
use Rattle.kql_bound.specs.declared.parts.Output.{Output as BoundOutput}
use Rattle.kql_bound.specs.declared.parts.Output.TheVariants as output
use Rattle.kql_bound.specs.declared.parts.ScanPlan.{ScanPlan}
use Rattle.kql_bound.specs.declared.parts.ScanStep.{ScanStep}
use Rattle.kql_bound.specs.declared.plan.Op.TheVariants as op
use Rattle.kql_meaning.specs.declared.position.Position.TheVariants as position
use Rattle.kql_meaning.specs.Scan.{scan_columns}
use Rattle.kql_meaning.specs.Tables.{distinct_by, is_name_among, names_of}
use Rattle.kql_meaning.specs.Values.{absent}
use Rattle.kql_syntax.specs.declared.query.Decl.{Decl}
use Rattle.kql_syntax.specs.declared.query.Output.{Output}
use Rattle.kql_syntax.specs.declared.query.Output.TheVariants as written
use Rattle.kql_syntax.specs.declared.query.Scan.{Scan}
use Rattle.kql_syntax.specs.declared.query.Step.{Step}
use Rattle.kql_syntax.specs.declared.tree.Expr.{Expr}
use Rattle.kql_syntax.specs.declared.tree.Name.{Name}
use Rattle.bind_expr.specs.Names.{text_of}
use Rattle.bind_expr.specs.Outcome.{Outcome, ◌>>=◌}
use Rattle.bind_expr.specs.declared.fault.BindFault.{BindFault}
use Rattle.bind_expr.specs.declared.scope.Scope.{Scope}
use Rattle.bind_expr.specs.declared.typed.Typed.{Typed}
use Rattle.bind_operators.specs.declared.bound.BoundOp.{BoundOp}
use Rattle.bind_operators.specs.declared.known.Known.{Known}
use Rattle.bind_operators.specs.declared.shape.Shape.{Shape}
use Rattle.bind_operators.specs.declared.wanted.Wanted.{Wanted}
use Rattle.bind_operators.specs.declared.wanted.Wanted.TheVariants as wanted
use Rattle.bind_operators.specs.Answers.{answer}
use Rattle.bind_operators.specs.Faults.{each_bound, fault_if}
use Rattle.bind_operators.specs.Items.{names_twice}
use Rattle.bind_operators.specs.Known.{scope_at}
use Rattle.bind_operators.specs.Places.{name_place}
use Rattle.bind_operators.specs.Wanted.{constant_bound, kind_bound, typed_bound}

-- Declared columns.

-- A default is a constant of the column's type, over the input rows: no step stands there yet. Without one it is what is absent.
unfoldable pub declared_default : Place → Known → Shape → Kind → Option Expr → Outcome Lit
declared_default operator known rows k None = Ok (record { kind = k; value = absent k })
declared_default operator known rows k (Some e) = constant_bound operator (wanted.Is k) known rows e

abbrev pub decl_of : Decl → Lit → BoundDecl
decl_of d default = record { name = text_of d.name; default = default }

unfoldable pub decl_bound : Place → Known → Shape → Decl → Outcome BoundDecl
decl_bound operator known rows d = do
  k ← kind_bound d.kind
  default ← declared_default operator known rows k d.default
  Ok (decl_of d default)

-- Records.

-- A column of a record, and what an absent record gives.
abbrev pub RecordCell : Type 0
RecordCell = Column × Value

abbrev pub input_cell : Column → RecordCell
input_cell c = (c, absent c.kind)

abbrev pub declared_cell : BoundDecl → RecordCell
declared_cell d = (record { name = d.name; kind = d.default.kind }, d.default.value)

abbrev pub of_one_name : RecordCell → RecordCell → Bool
of_one_name a b = bytes_eq a.0.name b.0.name

-- The columns of the input, and those that are declared. Of two of one name the first is read.
unfoldable pub record_cells : List Column → List BoundDecl → List RecordCell
record_cells columns declared = distinct_by of_one_name (map input_cell columns ++ map declared_cell declared)

abbrev pub cell_columns : List RecordCell → List Column
cell_columns cells = map (λ (c : RecordCell). c.0) cells

abbrev pub cell_defaults : List RecordCell → List Value
cell_defaults cells = map (λ (c : RecordCell). c.1) cells

abbrev pub step_name : Step → List ℕ
step_name s = text_of s.name

abbrev pub with_records : List (List ℕ) → List RecordCell → Scope → Scope
with_records steps cells scope = record scope {
  schema = cell_columns cells;
  steps = record { names = steps; columns = cell_columns cells; defaults = cell_defaults cells };
}

-- Where the expressions of steps stand.
unfoldable pub step_scope : Known → Shape → List Step → List BoundDecl → Scope
step_scope known rows steps declared =
    with_records (map step_name steps) (record_cells rows.columns declared) (scope_at known rows position.Plain)

-- Steps.

unfoldable pub bound_output : Option Output → BoundOutput
bound_output None = output.All
bound_output (Some (written.All place)) = output.All
bound_output (Some (written.Last place)) = output.Last
bound_output (Some (written.Nothing place)) = output.Nothing

-- An assignment, and what is assigned.
abbrev pub Assignment : Type 0
Assignment = Name × Expr

abbrev pub assigned_name : Assignment → List ℕ
assigned_name a = text_of a.0

unfoldable pub declared_kind : List BoundDecl → List ℕ → Option Kind
declared_kind declared n = option_map (λ (d : BoundDecl). d.default.kind) (find (λ (d : BoundDecl). bytes_eq d.name n) declared)

-- What is assigned has its column's type. Where no such column is declared any type is let through, since the operator refuses that itself.
unfoldable pub wanted_of : Option Kind → Wanted
wanted_of None = wanted.Any
wanted_of (Some k) = wanted.Is k

abbrev pub assignment_item : Assignment → Typed → BItem
assignment_item a t = record { names = assigned_name a ∷ []; expr = t.expr }

unfoldable pub assignment_bound : Scope → List BoundDecl → Assignment → Outcome BItem
assignment_bound scope declared a = do
  t ← typed_bound (wanted_of (declared_kind declared (assigned_name a))) a.1 scope
  Ok (assignment_item a t)

abbrev pub scan_step : Step → Typed → List BItem → ScanStep
scan_step s condition sets = record { name = step_name s; output = bound_output s.output; condition = condition.expr; sets = sets }

unfoldable pub step_bound : Scope → List BoundDecl → Step → Outcome ScanStep
step_bound scope declared s = do
  condition ← typed_bound (wanted.Is kind.Bool) s.condition scope
  sets ← each_bound (assignment_bound scope declared) s.sets
  Ok (scan_step s condition sets)

-- The operator's own faults.

-- The names of the new columns, in the order of the text.
unfoldable pub new_names : Option Name → List Decl → List Name
new_names id declared = option_to_list id ++ map (λ (d : Decl). d.name) declared

-- 417 at each step of a name that a step before it has.
unfoldable pub step_name_faults : List (List ℕ) → List Step → List BindFault
step_name_faults before [] = []
step_name_faults before (s ∷ ss) =
    fault_if (is_name_among before (step_name s)) 417 (name_place s.name) ++ step_name_faults (before ++ step_name s ∷ []) ss

-- 413 at each assignment to a column that is not declared, or that the step assigns already.
unfoldable pub assignment_faults : List (List ℕ) → List (List ℕ) → List Assignment → List BindFault
assignment_faults declared done [] = []
assignment_faults declared done (a ∷ more) =
    fault_if (not (is_name_among declared (assigned_name a)) || is_name_among done (assigned_name a)) 413 (name_place a.0)
    ++ assignment_faults declared (done ++ assigned_name a ∷ []) more

-- The same of steps, and 413 at each step behind the 64th, where so many stand before these.
unfoldable pub step_faults : List (List ℕ) → ℕ → List Step → List BindFault
step_faults declared before [] = []
step_faults declared before (s ∷ ss) =
    fault_if (nat_le 64 before) 413 (name_place s.name) ++ (assignment_faults declared [] s.sets ++ step_faults declared (before + 1) ss)

abbrev pub declared_names : List Decl → List (List ℕ)
declared_names declared = map (λ (d : Decl). text_of d.name) declared

unfoldable pub scan_faults : Place → Scan → Shape → List BindFault
scan_faults operator s rows =
    fault_if (not rows.serial) 407 operator
    ++ (names_twice (names_of rows.columns) (new_names s.match_id s.declared)
    ++ (step_name_faults [] s.steps ++ step_faults (declared_names s.declared) 0 s.steps))

-- The operator.

unfoldable pub scan_plan : Scan → List BoundDecl → List ScanStep → ScanPlan
scan_plan s declared steps = record { match_id = option_map text_of s.match_id; declared = declared; steps = steps }

-- Rows of a scan are serialised: those before it have to be.
unfoldable pub scanned : Place → Scan → Shape → ScanPlan → Outcome BoundOp
scanned operator s rows plan = answer operator (scan_faults operator s rows) (op.Scan plan) (scan_columns plan rows.columns) true

unfoldable pub scan_bound : Place → Scan → Known → Shape → Outcome BoundOp
scan_bound operator s known rows = do
  declared ← each_bound (decl_bound operator known rows) s.declared
  steps ← each_bound (step_bound (step_scope known rows s.steps declared) declared) s.steps
  scanned operator s rows (scan_plan s declared steps)
