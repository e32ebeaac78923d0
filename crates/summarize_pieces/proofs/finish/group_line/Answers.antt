use Rattle.std.proofs.Common.{List, [], ◌<◌, ◌∙◌, ◌++◌, ap, length, subst, sym}
use Rattle.std.specs.Prelude.{slice_index_or}
use Rattle.std.specs.List.{list_all}
use Rattle.kql_cells.specs.Seen.{row_at}
use Rattle.kql_cells.specs.Table.{gathered}
use Rattle.kql_cells.specs.declared.schema.Column.{Column}
use Rattle.kql_bound.specs.declared.parts.BItem.{BItem}
use Rattle.kql_meaning.specs.FittingOperators.{group_item_fits}
use Rattle.kql_meaning.specs.Items.{items_values}
use Rattle.summarize_pieces.specs.Calls.{AreFurther, AreGiven, calls_of}
use Rattle.summarize_pieces.specs.Pieces.{Grouped, kept_rows, rows_with}
use Rattle.summarize_pieces.proofs.FinishSteps.{aligned, calls-of-groups, further-given, line-is, states-by-keys, values-formed, values-given, values-many}
use Rattle.summarize_pieces.proofs.PlanSteps.{Fits, items-fit}
use Rattle.summarize_pieces.proofs.finish.group_line.Goals as goal

pub call_values-requires : goal.call_values-requires
call_values-requires c = record {
  aligned = aligned c.args.g.now c.args.schema.now c.args.x.now c.args.k c.as_slice.result.now c.as_slice-folds.result.now c.requires.groups c.requires.within (c.as_slice.ensures.value ∙ ap (λ (y : Grouped). y.calls) c.x.view_is) (c.as_slice-folds.ensures.value ∙ ap (λ (y : Grouped). y.states) c.x.view_is);
}

pub copy_row-requires : goal.copy_row-requires
copy_row-requires c = subst (λ (y : Grouped). c.args.k < length y.keys) (sym c.x.view_is) c.requires.within

pub item_values-requires-clause-fits : goal.item_values-requires-clause-fits
item_values-requires-clause-fits c = ap (list_all (group_item_fits c.args.schema.now)) c.as_slice-items.ensures.items ∙ items-fit c.args.g.now c.args.schema.now c.requires.fits

pub item_values-requires-clause-form : goal.item_values-requires-clause-form
item_values-requires-clause-form c =
    let g = c.args.g.now in
    let x = c.args.x.now in
    let h = c.requires.groups in
    let t = h.table in
    let calls = c.as_slice.ensures.value ∙ (ap (λ (y : Grouped). y.calls) c.x.view_is ∙ calls-of-groups g t x h.groups) in
    let states = c.as_slice-folds.ensures.value ∙ (ap (λ (y : Grouped). y.states) c.x.view_is ∙ states-by-keys g t x h.groups) in
    values-formed g t (slice_index_or x.keys c.args.k []) c.as_slice-2.result.now h.whole (subst (Fits g) (sym h.named) c.requires.fits) (c.as_slice-2.ensures.items ∙ c.in_ok-values.ensures.values (calls_of g.items) g.keys t 0 (length t.lines) x.keys calls states)

pub item_values-requires-clause-many : goal.item_values-requires-clause-many
item_values-requires-clause-many c =
    let g = c.args.g.now in
    let x = c.args.x.now in
    let h = c.requires.groups in
    let t = h.table in
    let calls = c.as_slice.ensures.value ∙ (ap (λ (y : Grouped). y.calls) c.x.view_is ∙ calls-of-groups g t x h.groups) in
    let states = c.as_slice-folds.ensures.value ∙ ap (λ (y : Grouped). y.states) c.x.view_is in
    values-many g t x (slice_index_or x.keys c.args.k []) c.as_slice-folds.result.now c.as_slice-2.result.now h.groups states (c.as_slice-2.ensures.items ∙ c.in_ok-values.ensures.values (calls_of g.items) g.keys t 0 (length t.lines) x.keys calls (states ∙ states-by-keys g t x h.groups))

pub returns : goal.returns
returns c = record {
  line = λ t whole named is.
      let g = c.args.g.now in
      let x = c.args.x.now in
      let k = slice_index_or x.keys c.args.k [] in
      let u = gathered t (rows_with g.keys t 0 (length t.lines) k) in
      let vs = c.as_slice-2.result.now in
      let rows = kept_rows c.as_slice-folds.result.now c.args.k in
      let fits = subst (Fits g) (sym named) c.requires.fits in
      let calls = c.as_slice.ensures.value ∙ (ap (λ (y : Grouped). y.calls) c.x.view_is ∙ calls-of-groups g t x is) in
      let states = c.as_slice-folds.ensures.value ∙ ap (λ (y : Grouped). y.states) c.x.view_is in
      let given = values-given g t k vs fits (c.as_slice-2.ensures.items ∙ c.in_ok-values.ensures.values (calls_of g.items) g.keys t 0 (length t.lines) x.keys calls (states ∙ states-by-keys g t x is)) in
      let further = subst (λ (cs : List Column). AreFurther cs (calls_of g.items) u rows) named (further-given g t x c.args.k c.as_slice-folds.result.now is fits c.requires.within states) in
      let key = c.in_ok-key.ensures.same ∙ ap (λ (y : Grouped). row_at y.keys c.args.k) c.x.view_is in
      line-is g t x c.args.k c.in_ok-key.key c.in_ok-line.line key
      (c.in_ok-line.ensures.line u
      (subst (λ (bs : List BItem). AreGiven (calls_of bs) u vs) (sym c.as_slice-items.ensures.items) given)
      (subst (λ (bs : List BItem). AreFurther c.args.schema.now (calls_of bs) u rows) (sym c.as_slice-items.ensures.items) further)
      ∙ ap (λ (bs : List BItem). c.in_ok-key.key ++ items_values bs u 0) c.as_slice-items.ensures.items);
}
