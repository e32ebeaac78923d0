-- What the rule on the nodes of expressions keeps.
use Rattle.std.specs.Prelude.{◌≡◌, [], IsSome, IsTrue, Some}
use Rattle.kql_cells.specs.declared.value.Kind.{Kind}
use Rattle.kql_bound.specs.declared.expr.BExpr.{BExpr}
use Rattle.kql_bound.specs.declared.expr.BExpr.TheVariants as V
use Rattle.kql_bound.specs.declared.plan.Program.{Program}
use Rattle.kql_meaning.specs.declared.position.Position.{Position}
use Rattle.kql_meaning.specs.Expressions.{kind_of, reading, val}
use Rattle.kql_meaning.specs.Fits.{program_columns}
use Rattle.kql_meaning.specs.FittingExpressions.{Scope, expr_fits}
use Rattle.kql_meaning.specs.Tables.{nothing}
use Rattle.plan_rules.specs.Becomes.{ProgramBecomes}
use Rattle.plan_rules.specs.Constants.{is_constant}
use Rattle.plan_rules.specs.FoldedPlans.{folded_program, is_program_folded}
use Rattle.plan_rules.specs.Folding.{folded, is_folded}
use Rattle.plan_rules.specs.Improves.{IsNoLonger}
use Rattle.plan_rules.specs.Weight.{program_weight}

-- An expression reads as it did: it has its type over all columns, and its value at each row of every table.
abbrev pub FoldingReads : Type 0
FoldingReads = (e : BExpr) → reading (folded e) ≡ reading e

-- It fits where it fitted, and then no node of it is a constant, but for literals.
abbrev pub FoldingFits : Type 0
FoldingFits = (e : BExpr) (scope : Scope) (at : Position) → IsTrue (expr_fits e scope at) → IsTrue (expr_fits (folded e) scope at) × IsTrue (is_folded (folded e))

-- A constant that fits becomes the literal of its value, which is the same at every row of every table.
abbrev pub FoldingConstants : Type 0
FoldingConstants = (e : BExpr) (scope : Scope) (at : Position) (k : Kind) → IsTrue (is_constant e) → IsTrue (expr_fits e scope at) → kind_of e scope.columns ≡ Some k → folded e ≡ V.Literal (record { kind = k; value = val e nothing 0 [] })

-- A program that fits its own tables still fits them and all that it fitted, and means the same, has as many operators of the same weight,
-- and then no node of an expression anywhere in it is a constant, but for literals.
abbrev pub FoldingPrograms : Type 0
FoldingPrograms = (p : Program) → IsSome (program_columns p) → IsSome (program_columns (folded_program p)) × ProgramBecomes p (folded_program p) × IsNoLonger (folded_program p) p × (program_weight (folded_program p) ≡ program_weight p) × IsTrue (is_program_folded (folded_program p))
