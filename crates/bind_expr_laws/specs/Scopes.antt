-- When a scope is sound: what its constants, its step records, its moment and its names are.
use Rattle.std.specs.Prelude.{◌≡◌, true, List, [], ◌∷◌, IfSome}
use Rattle.std.specs.List.{list_all}
use Rattle.kql_cells.specs.Named.{HasDistinctNames, column_name}
use Rattle.kql_cells.specs.Values.{IsMoment}
use Rattle.kql_cells.specs.declared.schema.Column.{Column}
use Rattle.kql_cells.specs.declared.value.Value.{Value}
use Rattle.kql_bound.specs.declared.literal.Lit.{Lit}
use Rattle.kql_meaning.specs.FittingExpressions.{Scope as ReadScope}
use Rattle.kql_meaning.specs.Literals.{literal_fits}
use Rattle.bind_expr.specs.declared.scope.Const.{Const}
use Rattle.bind_expr.specs.declared.scope.Scope.{Scope}

-- What an expression may read that is bound in a scope.
abbrev pub read_scope : Scope → ReadScope
read_scope scope = record { columns = scope.schema; steps = scope.steps.names; defaults = scope.steps.defaults }

-- A constant as a literal.
abbrev pub const_literal : Const → Lit
const_literal c = record { kind = c.kind; value = c.value }

-- A column's default as a literal.
abbrev pub default_literal : Column → Value → Lit
default_literal c v = record { kind = c.kind; value = v }

-- The columns of records are the first of the scope's columns, each with a default of its type.
abbrev pub AreRecorded : List Column → List Column → List Value → Type 0
AreRecorded columns [] [] = Unit {0}
AreRecorded (c ∷ columns) (d ∷ ds) (v ∷ vs) = (c ≡ d) × (literal_fits (default_literal d v) ≡ true) × AreRecorded columns ds vs
AreRecorded _ _ _ = ⊥

-- No two columns have one name, each constant and each default is null or of its type, and well formed, and the moment is in range.
pub record IsSoundScope (scope : Scope) : Type 0 where
  pub names : HasDistinctNames column_name scope.schema
  pub consts : list_all (λ (c : Const). literal_fits (const_literal c)) scope.consts ≡ true
  pub records : AreRecorded scope.schema scope.steps.columns scope.steps.defaults
  pub moment : IfSome scope.moment IsMoment
