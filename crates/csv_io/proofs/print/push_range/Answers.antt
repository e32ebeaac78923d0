use Rattle.std.proofs.Common.{◌≡◌, ◌<◌, ◌++◌, ◌∙◌, [], ap, arith, length, subst, sym}
use Rattle.std.specs.Prelude.{All, slice_range}
use Rattle.csv_io.specs.Reload.{ReadsBack}
use Rattle.csv_io.specs.Text.{line_text, lines_text}
use Rattle.csv_io.proofs.LentFacts.{all-longer, row-is}
use Rattle.csv_io.proofs.LinesFacts.{back-more, back-none, lines-more, lines-none}
use Rattle.csv_io.proofs.Reloaded.{row-forms}
use Rattle.kql_cells.specs.Seen.{row_at}
use Rattle.kql_cells.specs.Values.{IsWellFormed}
use Rattle.kql_values.specs.Grids.{row_of}
use Rattle.csv_io.proofs.print.push_range.Goals as goal

pub loop-i-init : goal.loop-i-init
loop-i-init c = record {
  order = omega arith;
  within = c.requires.order;
  text = lines-none c.args.t.now c.args.from c.args.out.now.items;
  back = back-none c.args.t.now.lines c.args.from;
}

pub push_line-requires-clause-within : goal.push_line-requires-clause-within
push_line-requires-clause-within c =
    let t = c.args.t.now in
    let lt : c.loop-i.i < length t.lines = omega (arith, c.loop-i-test.true, c.requires.within) in
    let columns : c.as_slice.result.now ≡ c.columns.result.now = c.as_slice.ensures.value ∙ c.in_ok-lent.ensures in
    subst (λ vs. All (λ v. c.loop-i.i < length v) vs) (sym columns) (all-longer t.columns (length t.lines) c.loop-i.i c.columns.result.now c.columns.ensures.fits lt)

pub push_line-requires-clause-forms : goal.push_line-requires-clause-forms
push_line-requires-clause-forms c =
    let t = c.args.t.now in
    let lt : c.loop-i.i < length t.lines = omega (arith, c.loop-i-test.true, c.requires.within) in
    let columns : c.as_slice.result.now ≡ c.columns.result.now = c.as_slice.ensures.value ∙ c.in_ok-lent.ensures in
    let same = ap (λ vs. row_of vs c.loop-i.i) columns ∙ row-is (length t.lines) c.columns.result.now t.lines c.loop-i.i c.columns.ensures.lines lt in
    subst (λ row. All IsWellFormed row) (sym same) (row-forms t.columns (row_at t.lines c.loop-i.i) (c.schema.ensures.fits c.loop-i.i [] lt))

pub loop-i-preserved : goal.loop-i-preserved
loop-i-preserved c =
    let t = c.args.t.now in
    let i = c.loop-i.i in
    let lt : i < length t.lines = omega (arith, c.loop-i-test.true, c.requires.within) in
    let columns : c.as_slice.result.now ≡ c.columns.result.now = c.as_slice.ensures.value ∙ c.in_ok-lent.ensures in
    let same : row_of c.as_slice.result.now i ≡ row_at t.lines i = ap (λ vs. row_of vs i) columns ∙ row-is (length t.lines) c.columns.result.now t.lines i c.columns.ensures.lines lt in
    let added = subst (λ row. c.push_line.new.out.items ≡ c.loop-i.out.items ++ line_text row) same c.in_ok-push_line.ensures.text in
    let back = subst (λ row. All ReadsBack row) same c.in_ok-push_line.ensures.back in
    record {
      order = omega (arith, c.loop-i.invariant.order);
      within = omega (arith, c.loop-i-test.true);
      text = lines-more t c.args.from i c.args.out.now.items c.loop-i.out.items _ c.loop-i.invariant.order lt c.loop-i.invariant.text added;
      back = back-more t.lines c.args.from i c.loop-i.invariant.order lt c.loop-i.invariant.back back;
    }

pub returns : goal.returns
returns c =
    let last : c.loop-i.i ≡ c.args.to = omega (arith, c.loop-i.invariant.within, c.loop-i-test.false) in
    record {
      text = subst (λ n. c.loop-i.out.items ≡ c.args.out.now.items ++ lines_text c.args.t.now c.args.from n) last c.loop-i.invariant.text;
      back = subst (λ n. All (All ReadsBack) (slice_range c.args.t.now.lines c.args.from n)) last c.loop-i.invariant.back;
    }
