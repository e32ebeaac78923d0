-- Which phases a program has, and which of them go by pieces.
use Rattle.std.specs.Prelude.{Bool, true, false, ◌&&◌, not, is_some, if◌then◌else◌, List, [], ◌∷◌, ◌++◌, flat_map, map}
use Rattle.std.specs.List.{list_all}
use Rattle.kql_bound.specs.declared.expr.WinCall.{WinCall}
use Rattle.kql_bound.specs.declared.parts.BItem.{BItem}
use Rattle.kql_bound.specs.declared.plan.Op.{Op, fold-Op}
use Rattle.kql_bound.specs.declared.plan.Op.TheFolds.{map-Op}
use Rattle.kql_bound.specs.declared.plan.Op.TheOpen.{Op-F, Plan-F}
use Rattle.kql_bound.specs.declared.plan.Plan.{Plan, fold-Plan}
use Rattle.kql_bound.specs.declared.plan.Program.{Program}
use Rattle.kql_meaning.specs.FittingExpressions.{column_of}
use Rattle.kql_meaning.specs.RowByRow.{are_plain_parts, is_plain}
use Rattle.window_ops.specs.Calls.{calls_of_items}
use Rattle.phase_laws.specs.Runs.{is_by_row_step}
use Rattle.phase_forms.specs.declared.ahead.Form.{Form}
use Rattle.phase_forms.specs.declared.ahead.Form.TheVariants as phase_form

-- The phases of one that goes so: none, or one that goes by pieces or does not. By pieces of its own it tells each of its rounds.
abbrev pub told : Form → List Bool → List Bool
told phase_form.Same rounds = []
told phase_form.Range rounds = true ∷ []
told phase_form.Alone rounds = rounds
told phase_form.Whole rounds = false ∷ []

-- Whether those behind may go in the same ranges.
abbrev pub goes_on : Form → Bool
goes_on phase_form.Same = false
goes_on phase_form.Range = true
goes_on phase_form.Alone = false
goes_on phase_form.Whole = false

-- By ranges, or as one piece.
abbrev pub range_if : Bool → Form
range_if goes = if goes then phase_form.Range else phase_form.Whole

-- By pieces of its own, or as one piece.
abbrev pub alone_if : Bool → Form
alone_if goes = if goes then phase_form.Alone else phase_form.Whole

-- Whether items are columns, which are moved in their turn and not computed.
unfoldable pub are_columns : List BItem → Bool
are_columns items = list_all (λ (b : BItem). is_some (column_of b.expr)) items

-- How an operator goes that begins a phase, by whether there are several workers.
abbrev pub form_step : {A B : Type 0} → Bool → Op-F A B → Form
form_step many (Op-F.Where e) = range_if (is_plain e)
form_step many (Op-F.Extend items) = alone_if many
form_step many (Op-F.Project items) = alone_if (many && not (are_columns items))
form_step many (Op-F.Take n) = phase_form.Whole
form_step many Op-F.Count = phase_form.Whole
form_step many Op-F.Serialize = phase_form.Same
form_step many (Op-F.Sort keys) = phase_form.Whole
form_step many (Op-F.Top n keys) = alone_if many
form_step many (Op-F.Summarize g) = alone_if many
form_step many (Op-F.MakeSeries s) = alone_if many
form_step many (Op-F.MvExpand x) = range_if (many && are_plain_parts x.items)
form_step many (Op-F.Parse p) = range_if (many && is_plain p.text)
form_step many (Op-F.Join j right) = alone_if many
form_step many (Op-F.Union inner others) = phase_form.Whole
form_step many (Op-F.Scan s) = phase_form.Whole
form_step many (Op-F.Partition column ops) = alone_if many

-- The rounds of an operator that goes by pieces of its own: one, and another before it where running sums stand in what is computed.

unfoldable pub rounds_for : List WinCall → List Bool
rounds_for [] = true ∷ []
rounds_for (w ∷ ws) = true ∷ true ∷ []

abbrev pub rounds_step : {A B : Type 0} → Op-F A B → List Bool
rounds_step (Op-F.Extend items) = rounds_for (calls_of_items items)
rounds_step (Op-F.Project items) = rounds_for (calls_of_items items)
rounds_step _ = true ∷ []

-- The phases of the plans in an operator.
abbrev pub inner_step : {A : Type 0} → Op-F A (List Bool) → List Bool
inner_step (Op-F.Join j right) = right
inner_step (Op-F.Union inner others) = flat_map (λ (phases : List Bool). phases) others
inner_step _ = []

-- What an operator is among those of a plan: its form where it begins a phase, its rounds where it goes by pieces of its own, whether it reads one row at
-- a time, and the phases of the plans in it.
pub record Part : Type 0 where
  pub form : Form
  pub rounds : List Bool
  pub by_row : Bool
  pub inner : List Bool

abbrev pub never : {X : Type 0} → X → Bool
never x = false

abbrev pub part_step : Bool → Op-F Part (List Bool) → Part
part_step many o = record {
  form = form_step many o;
  rounds = rounds_step o;
  by_row = is_by_row_step (map-Op Part (List Bool) Bool Bool never never o);
  inner = inner_step o;
}

-- The phases of operators one after another. One that reads one row at a time goes in the ranges of those before it; any other begins a phase, which
-- comes behind those of the plans in it.
unfoldable pub phases_from : Bool → List Part → List Bool
phases_from in_ranges [] = []
phases_from in_ranges (o ∷ os) = if in_ranges && o.by_row then phases_from true os else o.inner ++ (told o.form o.rounds ++ phases_from (goes_on o.form) os)

abbrev pub plan_step : Plan-F Part (List Bool) → List Bool
plan_step p = phases_from false p.ops

unfoldable pub part_of : Bool → Op → Part
part_of many = fold-Op Part (List Bool) (part_step many) plan_step

-- The phases of a plan, in the order in which they run, each with whether it goes by pieces.
unfoldable pub plan_phases : Bool → Plan → List Bool
plan_phases many = fold-Plan Part (List Bool) (part_step many) plan_step

-- Those of plans, one after another.
abbrev pub plans_phases : Bool → List Plan → List Bool
plans_phases many plans = flat_map (plan_phases many) plans

-- The rounds of the first of operators.
abbrev pub first_rounds : Bool → List Op → List Bool
first_rounds many [] = []
first_rounds many (o ∷ os) = (part_of many o).rounds

-- Those of operators: where they begin, and behind ranges in which they go.

abbrev pub ops_phases : Bool → List Op → List Bool
ops_phases many ops = phases_from false (map (part_of many) ops)

abbrev pub ops_behind : Bool → List Op → List Bool
ops_behind many ops = phases_from true (map (part_of many) ops)

-- Those of a program: of its lets in order, and then of its main plan.
abbrev pub program_phases : Bool → Program → List Bool
program_phases many p = plans_phases many p.lets ++ plan_phases many p.main
