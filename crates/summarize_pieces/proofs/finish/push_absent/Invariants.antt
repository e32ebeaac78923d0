use Rattle.std.proofs.Common.{◌≡◌, ◌++◌, map, take}
use Rattle.kql_bound.specs.declared.expr.BExpr.{BExpr}
use Rattle.kql_meaning.specs.Expressions.{kind_of}
use Rattle.kql_meaning.specs.Values.{absent_as}
use Rattle.summarize_pieces.proofs.finish.push_absent.Given as goal

-- what stands in the columns so far
abbrev pub invariant-absent : goal.invariant-absent
invariant-absent l = l.line ≡ l.fn.line ++ map (λ (e : BExpr). absent_as (kind_of e l.schema)) (take l.column-index l.columns)
