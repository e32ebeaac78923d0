use Rattle.std.proofs.Common.{List, ◌∙◌, ap}
use Rattle.kql_bound.specs.declared.expr.BExpr.{BExpr}
use Rattle.kql_cells.specs.declared.schema.Column.{Column}
use Rattle.kql_meaning.specs.Expressions.{kind_of}
use Rattle.kql_meaning.specs.Values.{absent_as}
use Rattle.summarize_pieces.proofs.ItemSteps.{map-end, map-more, map-start}
use Rattle.summarize_pieces.proofs.finish.push_absent.Goals as goal

pub absent-init : goal.absent-init
absent-init c = map-start (λ (e : BExpr). absent_as (kind_of e c.args.schema.now)) c.args.columns.now c.args.line.now

pub absent-preserved : goal.absent-preserved
absent-preserved c =
    let f = λ (e : BExpr). absent_as (kind_of e c.args.schema.now) in
    let kind = c.in_ok-kind.ensures.kind ∙ ap (λ (cs : List Column). kind_of c.column-item.result cs) c.columns.ensures.columns in
    map-more f c.args.columns.now c.absent.column-index c.column-item.result c.in_ok-value.value c.args.line.now c.absent.line c.push.new.self c.absent-test.true c.absent.invariant (c.in_ok-value.ensures.same ∙ (c.absent_as.ensures.value ∙ (ap absent_as kind ∙ ap f c.column-item.is))) c.in_ok-push.ensures.added

pub returns : goal.returns
returns c = record { pushed = map-end (λ (e : BExpr). absent_as (kind_of e c.args.schema.now)) c.args.columns.now c.absent.column-index c.args.line.now c.absent.line c.absent-test.false c.absent.invariant }
