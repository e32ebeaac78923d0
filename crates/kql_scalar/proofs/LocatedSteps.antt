-- A located expression, opened.
use Rattle.std.proofs.Common.{◌≡◌, ◌-◌, ℕ, Bool, List, length, map, ap, ap₂, subst, sym, ◌∙◌}
use Rattle.std.proofs.lemmas.List.FromFn.{length-map-range_with_len}
use Rattle.kql_cells.specs.declared.schema.Column.{Column}
use Rattle.kql_cells.specs.declared.value.Value.{Value}
use Rattle.kql_meaning.specs.FittingExpressions.{is_plain_column}
use Rattle.kql_scalar.specs.Means.{IsPlaced, means}
use Rattle.kql_scalar.specs.Placed.{Placed}
use Rattle.kql_scalar.specs.Rows.{rows}
use Rattle.kql_scalar.specs.declared.node.Node.{Node}

pub opened-expr : (n : Node) (cs : List Column) (p : Placed) → record { expr = means n; columns = cs } ≡ p → means n ≡ p.expr
opened-expr n cs p is = ap (λ (q : Placed). q.expr) is

pub opened-placed : (n : Node) (cs : List Column) (p : Placed) (ts : List Column) → record { expr = means n; columns = cs } ≡ p → ts ≡ p.columns → IsPlaced cs n → IsPlaced ts n
opened-placed n cs p ts is same h = subst (λ (xs : List Column). IsPlaced xs n) (ap (λ (q : Placed). q.columns) is ∙ sym same) h

pub count-of : (f : ℕ → Value) (from to : ℕ) (vs : List Value) → vs ≡ map f (rows from to) → length vs ≡ to - from
unfolding rows
count-of f from to vs is = ap length is ∙ length-map-range_with_len f from (to - from)

-- What is said of the columns of a table is said of those that were placed.
pub opened-lent : (n : Node) (cs : List Column) (p : Placed) (ts : List Column) (b : Bool) → record { expr = means n; columns = cs } ≡ p → ts ≡ p.columns → b ≡ is_plain_column ts (means n) → b ≡ is_plain_column p.columns p.expr
opened-lent n cs p ts b is same h = h ∙ ap₂ is_plain_column same (opened-expr n cs p is)

pub ruleset located_steps = (opened-expr, opened-placed, opened-lent, count-of)
