use Rattle.std.proofs.Common.{◌≡◌, ◌∙◌, ◌-◌, [], ap, map, subst}
use Rattle.std.specs.Prelude.{IfOk, IfSome, replicate}
use Rattle.kql_meaning.specs.Expressions.{val}
use Rattle.kql_scalar.specs.Evaluated.{along}
use Rattle.kql_scalar.specs.Means.{means}
use Rattle.kql_scalar.specs.Rows.{rows}
use Rattle.kql_scalar.proofs.ChainSteps.{chain-node}
use Rattle.kql_scalar.proofs.ColumnSteps.{column-values, literal-values}
use Rattle.kql_scalar.proofs.values_at.values_at.Goals as goal

pub returns-in-Column : goal.returns-in-Column
returns-in-Column c = record {
  values = subst (λ vs. IfOk c.column_at.result (λ v. v ≡ vs))
      (column-values c.args.node.now _ c.in-Column.place c.args.t.now c.args.from c.args.to c.requires.placed c.in-Column.is)
      c.column_at.ensures.values;
}

pub returns-in-Literal : goal.returns-in-Literal
returns-in-Literal c = record {
  values = subst (λ vs. IfOk c.repeated.result (λ v. v ≡ vs))
      (ap (replicate (c.args.to - c.args.from)) c.as_cell.ensures.same ∙ literal-values c.args.node.now c.in-Literal.lit c.args.t.now c.args.from c.args.to c.in-Literal.is)
      c.repeated.ensures.cells;
}

pub returns-in-Some : goal.returns-in-Some
returns-in-Some c =
    let first = c.part-first.result.now in
    let links = c.link_parts-links.result.now in
    let values = subst (λ o. IfSome o (λ v. v ≡ map (λ i. along links c.args.t.now i [] (val (means first) c.args.t.now i [])) (rows c.args.from c.args.to))) c.in-Some.is c.in_ok-values-in-Chain.ensures.values in
    record { values = values ∙ chain-node c.args.node.now c.in-Chain.first first c.in-Chain.links links c.args.t.now c.args.from c.args.to c.in-Chain.is c.part-first.ensures.value c.link_parts-links.ensures.items }
