-- When what a query may name is sound, and when what is bound is.
use Rattle.std.specs.Prelude.{◌≡◌, All, Bool, true, List, Some, IfSome, map}
use Rattle.std.specs.List.{list_all}
use Rattle.kql_cells.specs.Named.{HasDistinctNames, column_name}
use Rattle.kql_cells.specs.Values.{IsMoment}
use Rattle.kql_cells.specs.declared.schema.Column.{Column}
use Rattle.kql_cells.specs.declared.schemas.NamedSchema.{NamedSchema}
use Rattle.kql_meaning.specs.Fits.{Known as ReadKnown, known_of, op_columns, plan_columns}
use Rattle.kql_meaning.specs.Literals.{literal_fits}
use Rattle.bind_expr.specs.declared.scope.Const.{Const}
use Rattle.bind_expr_laws.specs.Scopes.{const_literal}
use Rattle.bind_operators.specs.declared.bound.BoundOp.{BoundOp}
use Rattle.bind_operators.specs.declared.bound.BoundPlan.{BoundPlan}
use Rattle.bind_operators.specs.declared.known.Known.{Known}
use Rattle.bind_operators.specs.declared.known.LetTable.{LetTable}
use Rattle.bind_operators.specs.declared.shape.Shape.{Shape}

-- No two columns have one name.
abbrev pub AreColumns : List Column → Type 0
AreColumns columns = HasDistinctNames column_name columns

abbrev pub columns_of_let : LetTable → List Column
columns_of_let l = l.columns

-- What a plan may read that is bound under what is known: the tables that are handed in, and those of the lets.
unfoldable pub read_known : Known → ReadKnown
read_known known = known_of known.tables (map columns_of_let known.lets)

-- Each table has columns of different names, each constant is null or of its type and well formed, and the moment is in range.
pub record IsSoundKnown (known : Known) : Type 0 where
  pub tables : All (λ (s : NamedSchema). AreColumns s.schema) known.tables
  pub lets : All (λ (l : LetTable). AreColumns l.columns) known.lets
  pub consts : list_all (λ (c : Const). literal_fits (const_literal c)) known.consts ≡ true
  pub moment : IfSome known.moment IsMoment

-- An operator, in a subquery or not, makes the columns that binding tells of those before it.
pub record IsSoundOp (known : Known) (inside : Bool) (rows : Shape) (b : BoundOp) : Type 0 where
  pub fits : op_columns b.op (read_known known) inside rows.columns ≡ Some b.after.columns
  pub columns : AreColumns b.after.columns

-- A plan has the columns that binding tells.
pub record IsSoundPlan (known : Known) (p : BoundPlan) : Type 0 where
  pub fits : plan_columns p.plan (read_known known) ≡ Some p.after.columns
  pub columns : AreColumns p.after.columns
