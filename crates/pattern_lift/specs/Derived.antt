-- The derived tables of a program: one for each prefix with calls.
use Rattle.std.specs.Prelude.{ℕ, List, [], ◌∷◌, ◌++◌, map, Option, None, Some, codes, decimal, find, option_map, unwrap_or, bytes_eq}
use Rattle.std.specs.List.{flat_map}
use Rattle.kql_cells.specs.Catalogues.{schema_name}
use Rattle.kql_cells.specs.declared.schema.Column.{Column}
use Rattle.kql_cells.specs.declared.schemas.NamedSchema.{NamedSchema}
use Rattle.kql_functions.specs.Kinds.{pattern_kind}
use Rattle.kql_lexer.specs.declared.place.Place.{Place}
use Rattle.kql_bound.specs.declared.plan.Op.{Op, para-Op}
use Rattle.kql_bound.specs.declared.plan.Op.TheOpen.{Op-F, Plan-F}
use Rattle.kql_bound.specs.declared.plan.Plan.{Plan, para-Plan}
use Rattle.kql_bound.specs.declared.plan.Program.{Program}
use Rattle.pattern_lift.specs.declared.calls.Derived.{Derived}
use Rattle.pattern_lift.specs.declared.calls.PatternCall.{PatternCall}
use Rattle.pattern_lift.specs.Prefixes.{prefix_calls, table_read}

-- Texts one after another.
abbrev joined : List (List ℕ) → List ℕ
joined [] = []
joined (t ∷ ts) = t ++ joined ts

-- The name of an added column, and of a derived table by its first call: the marks, and the line and column of the call's word.
unfoldable pub named : List ℕ → Place → List ℕ
named marks place = joined (marks ∷ decimal place.line ∷ codes ":" ∷ decimal place.column ∷ [])

abbrev pub name_of_call : List ℕ → PatternCall → List ℕ
name_of_call marks c = named marks c.func.word

-- The table that stands in the place of a prefix over a table, where it has calls.
unfoldable pub derived_over : List ℕ → List ℕ → List PatternCall → List Derived
derived_over marks table [] = []
derived_over marks table (c ∷ cs) = record { name = name_of_call marks c; table = table; calls = c ∷ cs } ∷ []

unfoldable pub derived_at : List ℕ → Option (List ℕ) → List PatternCall → List Derived
derived_at marks None cs = []
derived_at marks (Some table) cs = derived_over marks table cs

abbrev pub OpPart : Type 0
OpPart = Op × List Derived

abbrev pub PlanPart : Type 0
PlanPart = Plan × List Derived

-- The derived tables of the plans in an operator.
abbrev pub derived_op_step : Op-F OpPart PlanPart → List Derived
derived_op_step (Op-F.Join j right) = right.1
derived_op_step (Op-F.Union inner others) = flat_map (λ (p : PlanPart). p.1) others
derived_op_step (Op-F.Partition c ops) = flat_map (λ (o : OpPart). o.1) ops
derived_op_step _ = []

abbrev pub derived_plan_step : List ℕ → Plan-F OpPart PlanPart → List Derived
derived_plan_step marks p = derived_at marks (table_read p.source) (prefix_calls (map (λ (o : OpPart). o.0) p.ops)) ++ flat_map (λ (o : OpPart). o.1) p.ops

unfoldable pub derived_in_op : List ℕ → Op → List Derived
derived_in_op marks = para-Op (List Derived) (List Derived) derived_op_step (derived_plan_step marks)

-- Those of a plan: that of its own prefix, and then those of the plans in its operators.
unfoldable pub derived_in : List ℕ → Plan → List Derived
derived_in marks = para-Plan (List Derived) (List Derived) derived_op_step (derived_plan_step marks)

unfoldable pub derived_in_ops : List ℕ → List Op → List Derived
derived_in_ops marks ops = flat_map (derived_in_op marks) ops

unfoldable pub derived_in_plans : List ℕ → List Plan → List Derived
derived_in_plans marks plans = flat_map (derived_in marks) plans

-- Those of a program, in the order of its text: the lets, and then the plan of the answer.
unfoldable pub derived : List ℕ → Program → List Derived
derived marks p = derived_in_plans marks p.lets ++ derived_in marks p.main

-- The calls of a program, in the order of its text.
unfoldable pub uses : List ℕ → Program → List PatternCall
uses marks p = flat_map (λ (d : Derived). d.calls) (derived marks p)

-- The columns of a table of a program.
unfoldable pub columns_of_table : List NamedSchema → List ℕ → List Column
columns_of_table tables name = unwrap_or (option_map (λ (s : NamedSchema). s.schema) (find (λ s. bytes_eq (schema_name s) name) tables)) []

-- The columns that the calls add.
unfoldable pub added_columns : List ℕ → List PatternCall → List Column
added_columns marks cs = map (λ (c : PatternCall). record { name = name_of_call marks c; kind = pattern_kind c.func.group }) cs

-- The schema of a derived table: the columns of its table, followed by the added ones.
unfoldable pub derived_schema : List ℕ → List NamedSchema → Derived → NamedSchema
derived_schema marks tables d = record { name = d.name; schema = columns_of_table tables d.table ++ added_columns marks d.calls }
