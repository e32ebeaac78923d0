use Rattle.std.proofs.Common.{◌<◌, ℕ, List, map, length, sym, ap, ap₂, ◌∙◌, subst, arith, take_all}
use Rattle.std.specs.Prelude.{Contains}
use Rattle.kql_cells.specs.Named.{column_name, place_of}
use Rattle.kql_cells.specs.Table.{Grid}
use Rattle.kql_cells.specs.declared.schema.Column.{Column}
use Rattle.pattern_lift.specs.declared.calls.PatternCall.{PatternCall}
use Rattle.pattern_laws.specs.Tables.{derived_table}
use Rattle.pattern_ops.specs.Answers.{answer_to}
use Rattle.pattern_run.specs.Patterned.{told_by}
use Rattle.pattern_run.proofs.AnsweredColumns.{answers-fit, as-many, columns-more, columns-none, finds-at, name-absent, table-more, table-none}
use Rattle.pattern_run.proofs.answers.derived_table.Goals as goal

pub loop-i-init : goal.loop-i-init
loop-i-init g c = record {
  columns = ap (λ (t : Grid). t.columns) c.in_ok-table.ensures.same ∙ columns-none c.args.marks.now c.args.base.now.columns;
  count = ap (λ (t : Grid). length t.lines) c.in_ok-table.ensures.same;
  told = λ found e. c.in_ok-table.ensures.same ∙ table-none found c.args.marks.now c.args.base.now;
}

pub loop-i-preserved : goal.loop-i-preserved
loop-i-preserved g c = record {
  columns = columns-more c.args.marks.now c.args.base.now c.args.calls.now c.loop-i.i c.index-calls-i.result c.loop-i-test.true c.index-calls-i.is c.loop-i.table.columns _ c.in_ok-column.column
      c.in_ok-column.ensures.column c.loop-i.invariant.columns (ap (λ (t : Grid). t.columns) c.in_ok-push_column.ensures.added);
  count = ap (λ (t : Grid). length t.lines) c.in_ok-push_column.ensures.added
      ∙ (as-many c.loop-i.table.lines c.in_ok-values.values (c.in_ok-values.ensures.fits.0 ∙ (c.column-cells.ensures.count ∙ sym c.loop-i.invariant.count)) ∙ c.loop-i.invariant.count);
  told = λ found e. table-more c.args.marks.now c.args.base.now c.args.calls.now c.loop-i.i c.index-calls-i.result c.loop-i-test.true c.index-calls-i.is found
      (g.M.Pattern.finds c.index-made-i.result) c.loop-i.table c.push_column.new.self c.in_ok-column.column c.in_ok-values.values c.place_of-place.result
      c.schema.ensures.fits
      (sym (ap₂ (λ (n : List ℕ) (cs : List Column). place_of column_name n cs) c.as_str.ensures.same c.schema.ensures.columns) ∙ c.place_of-place.ensures.place)
      (subst (λ (cs : List Column). c.place_of-place.result < length cs) c.schema.ensures.columns c.place_of-place.ensures.within)
      (finds-at g.M.Pattern.finds found c.args.made.now c.args.calls.now c.loop-i.i c.index-made-i.result c.index-calls-i.result e (let n = c.requires.count in omega (arith, n)) c.loop-i-test.true c.index-made-i.is c.index-calls-i.is)
      (c.in_ok-values.ensures.values ∙ ap (map (answer_to (g.M.Pattern.finds c.index-made-i.result) c.index-calls-i.result.func.group)) c.column-cells.ensures.cells)
      c.in_ok-column.ensures.column (c.loop-i.invariant.told found e) c.in_ok-push_column.ensures.added;
}

pub place_of-place-requires : goal.place_of-place-requires
place_of-place-requires g c = record {
  there = subst (λ (cs : List Column). Contains (map column_name cs) c.as_str.result.now) (sym c.schema.ensures.columns)
      (subst (λ (n : List ℕ). Contains (map column_name c.args.base.now.columns) n) (sym c.as_str.ensures.same) (c.requires.ready.there c.index-calls-i.result (c.loop-i.i, c.loop-i-test.true, sym c.index-calls-i.is)));
}

pub push_column-requires : goal.push_column-requires
push_column-requires g c = record {
  name = name-absent c.args.marks.now c.args.base.now c.args.calls.now c.loop-i.i c.index-calls-i.result c.loop-i-test.true c.index-calls-i.is c.loop-i.table.columns c.in_ok-column.column
      c.requires.ready c.in_ok-column.ensures.column c.loop-i.invariant.columns;
  count = c.in_ok-values.ensures.fits.0 ∙ (c.column-cells.ensures.count ∙ sym c.loop-i.invariant.count);
  fits = answers-fit c.args.marks.now c.index-calls-i.result c.in_ok-column.column c.in_ok-values.values c.in_ok-column.ensures.column c.in_ok-values.ensures.fits.1;
}

pub returns : goal.returns
returns g c = record {
  table = λ found e. c.loop-i.invariant.told found e ∙ ap (λ (cs : List PatternCall). derived_table (told_by found) c.args.marks.now cs c.args.base.now) (take_all c.loop-i.i c.args.calls.now (omega arith));
}
