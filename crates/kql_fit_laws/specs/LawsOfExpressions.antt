-- What expressions, items and keys that fit give, whatever their form, and so what is made of items.
use Rattle.std.specs.Prelude.{◌<◌, ℕ, List, [], All, IfSome, IsTrue, Option, None, Some, length}
use Rattle.kql_cells.specs.Table.{Grid, RowFits}
use Rattle.kql_cells.specs.declared.schema.Column.{Column}
use Rattle.kql_cells.specs.declared.value.Kind.{Kind}
use Rattle.kql_cells.specs.declared.value.Value.{Value}
use Rattle.kql_bound.specs.declared.expr.BExpr.{BExpr}
use Rattle.kql_bound.specs.declared.parts.BItem.{BItem}
use Rattle.kql_bound.specs.declared.parts.GroupPlan.{GroupPlan}
use Rattle.kql_bound.specs.declared.plan.Op.TheVariants as op
use Rattle.kql_bound.specs.declared.plan.Source.TheVariants as source
use Rattle.kql_meaning.specs.declared.position.Position.{Position}
use Rattle.kql_meaning.specs.Expressions.{kind_of, val}
use Rattle.kql_meaning.specs.Fits.{Known}
use Rattle.kql_meaning.specs.FittingExpressions.{Scope, expr_fits, takes_columns}
use Rattle.kql_meaning.specs.Plans.{World}
use Rattle.kql_meaning.specs.Readings.{Records}
use Rattle.kql_fit_laws.specs.LawsOfCalls.{FitsKind}
use Rattle.kql_fit_laws.specs.LawsOfGroupRows.{GroupItemKeeps, KeyItemKeeps}
use Rattle.kql_fit_laws.specs.LawsOfPrograms.{ItemKeeps, SourceKeeps}
use Rattle.kql_fit_laws.specs.LawsOfRows.{IsTable, OpKeeps}

-- There is a type, and the value fits it.
abbrev pub FitsKnown : Option Kind → Value → Type 0
FitsKnown None v = ⊥
FitsKnown (Some k) v = FitsKind k v

-- What an expression in scan may read beside its columns: the steps by name, what each column of an absent record gives, and the
-- record that is held for each step, or none.
pub record Steps : Type 0 where
  pub names : List (List ℕ)
  pub defaults : List Value
  pub records : Records

-- Everywhere outside scan.
abbrev pub no_steps : Steps
no_steps = record { names = []; defaults = []; records = [] }

abbrev pub scope_with : List Column → Steps → Scope
scope_with columns s = record { columns = columns; steps = s.names; defaults = s.defaults }

-- Each record that is held fits the columns.
abbrev pub RecordsFit : List Column → Records → Type 0
RecordsFit columns records = All (λ held. IfSome held (RowFits columns)) records

-- Where an expression fits the columns of a table, it has at each row a type over them, and its value there fits that type. In a
-- position where no columns may stand, as over a group, there need be no such row.
abbrev pub GivesItsKind : BExpr → Type 0
GivesItsKind e = (at : Position) (t : Grid) (i : ℕ) (s : Steps) → IsTable t → RecordsFit t.columns s.records → (IsTrue (takes_columns at) → i < length t.lines) → IsTrue (expr_fits e (scope_with t.columns s) at) → FitsKnown (kind_of e t.columns) (val e t i s.records)

-- Every expression: literals, columns, steps, calls, chains, paths, window functions and aggregates.
abbrev pub ExpressionsKeep : Type 0
ExpressionsKeep = (e : BExpr) → GivesItsKind e

-- Every item, every key, and every item of a group, also where it has several result columns.

abbrev pub ItemsKeep : Type 0
ItemsKeep = (at : Position) (b : BItem) → ItemKeeps at b

abbrev pub KeyItemsKeep : Type 0
KeyItemsKeep = (b : BItem) → KeyItemKeeps b

abbrev pub GroupItemsKeep : Type 0
GroupItemsKeep = (b : BItem) → GroupItemKeeps b

-- What is made of items, whatever they are.

abbrev pub EachProjectKeeps : Type 0
EachProjectKeeps = (k : Known) (w : World) (items : List BItem) → OpKeeps k w (op.Project items)

abbrev pub EachExtendKeeps : Type 0
EachExtendKeeps = (k : Known) (w : World) (items : List BItem) → OpKeeps k w (op.Extend items)

abbrev pub EachSummarizeKeeps : Type 0
EachSummarizeKeeps = (k : Known) (w : World) (g : GroupPlan) → OpKeeps k w (op.Summarize g)

abbrev pub EachPrintKeeps : Type 0
EachPrintKeeps = (k : Known) (w : World) (items : List BItem) → SourceKeeps k w (source.Print items)
