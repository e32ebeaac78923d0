use Rattle.std.proofs.Common.{List, ◌∙◌, ap, map, refl, subst}
use Rattle.kql_bound.specs.declared.parts.BItem.{BItem}
use Rattle.kql_cells.specs.Named.{HasDistinctNames, column_name}
use Rattle.summarize_pieces.specs.Calls.{calls_of}
use Rattle.summarize_pieces.specs.Pieces.{called, columns_along}
use Rattle.summarize_pieces.proofs.ColumnSteps.{key_exprs}
use Rattle.summarize_pieces.proofs.PlanSteps.{found-fit, keys-long, read-fits, read-piece}
use Rattle.summarize_pieces.proofs.piece.piece_rows.Goals as goal

pub from_columns-keys-requires-clause-long : goal.from_columns-keys-requires-clause-long
from_columns-keys-requires-clause-long c =
    let t = c.args.t.now in
    let is = c.in_ok-columns.ensures.values ∙ ap (λ (ks : List BItem). columns_along (key_exprs ks) t c.args.from c.args.to) c.as_slice.ensures.items in
    keys-long c.args.g.now.keys t c.args.from c.args.to _ c.in_ok-columns.columns.items is refl

pub call_rows-requires-clause-fits : goal.call_rows-requires-clause-fits
call_rows-requires-clause-fits c =
    found-fit c.args.g.now c.args.t.now.columns c.as_slice-3.result.now c.as_slice-2.result.now c.requires.fits c.as_slice-2.ensures.items (c.as_slice-3.ensures.value ∙ c.in_ok-found.ensures.calls)

pub invariant_of-result : goal.invariant_of-result
invariant_of-result c =
    let t = c.args.t.now in
    let g = c.args.g.now in
    let from = c.args.from in
    let to = c.args.to in
    let is = c.in_ok-columns.ensures.values ∙ ap (λ (ks : List BItem). columns_along (key_exprs ks) t from to) c.as_slice.ensures.items in
    let calls = c.in_ok-calls.ensures.calls ∙ (ap (map (called t from to)) (c.as_slice-3.ensures.value ∙ c.in_ok-found.ensures.calls) ∙ ap (λ (bs : List BItem). map (called t from to) (calls_of bs)) c.as_slice-2.ensures.items) in
    let piece = read-piece g t from to c.len.result _ c.in_ok-columns.columns.items c.from_columns-keys.result c.in_ok-calls.calls.items c.len.ensures.count is refl c.from_columns-keys.ensures.rows calls in
    let names = subst (HasDistinctNames column_name) c.schema.ensures.columns c.columns-columns.ensures.distinct in
    read-fits g t from to _ c.requires.fits names c.schema.ensures.fits c.requires.order c.requires.range piece

pub returns : goal.returns
returns c =
    let t = c.args.t.now in
    let g = c.args.g.now in
    let from = c.args.from in
    let to = c.args.to in
    let is = c.in_ok-columns.ensures.values ∙ ap (λ (ks : List BItem). columns_along (key_exprs ks) t from to) c.as_slice.ensures.items in
    let calls = c.in_ok-calls.ensures.calls ∙ (ap (map (called t from to)) (c.as_slice-3.ensures.value ∙ c.in_ok-found.ensures.calls) ∙ ap (λ (bs : List BItem). map (called t from to) (calls_of bs)) c.as_slice-2.ensures.items) in
    record {
      rows = read-piece g t from to c.len.result _ c.in_ok-columns.columns.items c.from_columns-keys.result c.in_ok-calls.calls.items c.len.ensures.count is refl c.from_columns-keys.ensures.rows calls;
    }
