-- The lifted program: each prefix with calls reads a derived table, each call is an added column of it, and the prefix ends with a
-- `project` of the columns that were there without it.
use Rattle.std.specs.Prelude.{ℕ, List, [], ◌∷◌, ◌++◌, map, Option, None, Some}
use Rattle.kql_cells.specs.declared.schema.Column.{Column}
use Rattle.kql_cells.specs.declared.schemas.NamedSchema.{NamedSchema}
use Rattle.kql_functions.specs.declared.func.Func.TheVariants as func
use Rattle.kql_bound.specs.declared.expr.BExpr.{BExpr, fold-BExpr}
use Rattle.kql_bound.specs.declared.expr.BExpr.TheOpen.{BExpr-F}
use Rattle.kql_bound.specs.declared.expr.BExpr.TheVariants as V
use Rattle.kql_bound.specs.declared.expr.ChainSign.{ChainSign}
use Rattle.kql_bound.specs.declared.parts.BItem.{BItem}
use Rattle.kql_bound.specs.declared.plan.Op.{Op, fold-Op, out-Op, roll-Op}
use Rattle.kql_bound.specs.declared.plan.Op.TheOpen.{Op-F, Plan-F}
use Rattle.kql_bound.specs.declared.plan.Op.TheVariants as op
use Rattle.kql_bound.specs.declared.plan.Plan.{Plan, fold-Plan}
use Rattle.kql_bound.specs.declared.plan.Program.{Program}
use Rattle.kql_bound.specs.declared.plan.Source.{Source}
use Rattle.kql_bound.specs.declared.plan.Source.TheVariants as source
use Rattle.pattern_lift.specs.declared.calls.PatternCall.{PatternCall}
use Rattle.pattern_lift.specs.Derived.{columns_of_table, derived, derived_schema, name_of_call, named}
use Rattle.pattern_lift.specs.Prefixes.{behind, names_behind, prefix, prefix_calls, table_read}

-- An expression with a column in the place of each pattern call.
abbrev pub lifted_step : List ℕ → BExpr-F BExpr → BExpr
lifted_step marks (BExpr-F.Literal l) = V.Literal l
lifted_step marks (BExpr-F.Column n) = V.Column n
lifted_step marks (BExpr-F.Step c) = V.Step c
lifted_step marks (BExpr-F.Call (func.Pattern f) args) = V.Column (named marks f.word)
lifted_step marks (BExpr-F.Call f args) = V.Call f args
lifted_step marks (BExpr-F.Chain first links) = V.Chain first links
lifted_step marks (BExpr-F.Path whole steps) = V.Path whole steps
lifted_step marks (BExpr-F.Window f args) = V.Window f args
lifted_step marks (BExpr-F.Aggregate f args) = V.Aggregate f args

unfoldable pub lifted : List ℕ → BExpr → BExpr
lifted marks = fold-BExpr BExpr (lifted_step marks)

-- The same of a link of a chain.
abbrev pub lifted_link : List ℕ → ChainSign × BExpr → ChainSign × BExpr
lifted_link marks l = (l.0, lifted marks l.1)

abbrev pub lifted_item : List ℕ → BItem → BItem
lifted_item marks b = record { names = b.names; expr = lifted marks b.expr }

unfoldable pub lifted_items : List ℕ → List BItem → List BItem
lifted_items marks items = map (lifted_item marks) items

-- An operator of a prefix.
abbrev pub inside_step : List ℕ → Op → Op-F Op Plan → Op
inside_step marks o (Op-F.Where e) = op.Where (lifted marks e)
inside_step marks o (Op-F.Extend items) = op.Extend (lifted_items marks items)
inside_step marks o _ = o

unfoldable pub inside : List ℕ → Op → Op
inside marks o = inside_step marks o (out-Op o)

-- The `project` of columns under their names.
abbrev pub kept_item : List ℕ → BItem
kept_item n = record { names = n ∷ []; expr = V.Column n }

unfoldable pub kept : List (List ℕ) → List BItem
kept names = map kept_item names

-- A plan over a table of these columns, with these calls in its prefix.
abbrev pub names_of_columns : List Column → List (List ℕ)
names_of_columns columns = map (λ (c : Column). c.name) columns

unfoldable pub over_derived : List ℕ → List Column → List Op → List Op
over_derived marks columns ops =
    map (inside marks) (prefix ops) ++ op.Project (kept (names_behind (names_of_columns columns) (prefix ops))) ∷ behind ops

unfoldable pub lifted_over : List ℕ → List Column → Source → List PatternCall → List Op → Plan
lifted_over marks columns s [] ops = record { source = s; ops = ops }
lifted_over marks columns s (c ∷ cs) ops = record { source = source.Table (name_of_call marks c); ops = over_derived marks columns ops }

unfoldable pub lifted_from : List ℕ → List NamedSchema → Source → Option (List ℕ) → List Op → Plan
lifted_from marks tables s None ops = record { source = s; ops = ops }
lifted_from marks tables s (Some name) ops = lifted_over marks (columns_of_table tables name) s (prefix_calls ops) ops

-- A plan whose operators hold lifted plans.
abbrev pub lifted_plan_step : List ℕ → List NamedSchema → Plan-F Op Plan → Plan
lifted_plan_step marks tables p = lifted_from marks tables p.source (table_read p.source) p.ops

-- An operator with the plans in it lifted.
unfoldable pub lifted_op : List ℕ → List NamedSchema → Op → Op
lifted_op marks tables = fold-Op Op Plan roll-Op (lifted_plan_step marks tables)

unfoldable pub lifted_plan : List ℕ → List NamedSchema → Plan → Plan
lifted_plan marks tables = fold-Plan Op Plan roll-Op (lifted_plan_step marks tables)

-- A program, with the schemas of the derived tables behind its own.
unfoldable pub lifted_program : List ℕ → Program → Program
lifted_program marks p = record {
  tables = p.tables ++ map (derived_schema marks p.tables) (derived marks p);
  lets = map (lifted_plan marks p.tables) p.lets;
  main = lifted_plan marks p.tables p.main;
}
