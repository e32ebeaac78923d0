use Rattle.std.proofs.Common.{◌≡◌, ◌≤◌, ◌<◌, ◌∙◌, [], ap, arith, get_or, length, map, rules, subst, sym}
use Rattle.std.proofs.lemmas.List.{get_or-map, length-map, take_all}
use Rattle.std.proofs.lemmas.List.Elements.{All-more}
use Rattle.csv_io.specs.Reload.{ReadsBack}
use Rattle.csv_io.specs.Text.{cell_text}
use Rattle.csv_io.proofs.OutputFacts.{line-end, line-step}
use Rattle.kql_cells.specs.Seen.{value_at}
use Rattle.kql_cells.specs.Values.{IsWellFormed}
use Rattle.kql_cells.specs.declared.value.Value.TheVariants as value
use Rattle.kql_values.proofs.GridLaws.{row_of-at, row_of-length}
use Rattle.kql_values.specs.Grids.{row_of}
use Rattle.csv_io.proofs.print.push_line.Goals as goal

pub push_lent-requires-clause-within : goal.push_lent-requires-clause-within
push_lent-requires-clause-within c =
    subst (λ vs. c.args.i < length vs) (sym c.index-columns-j.is) (c.requires.within c.loop-j.j c.index-columns-j.result c.loop-j-test.true)

pub push_lent-requires-clause-form : goal.push_lent-requires-clause-form
push_lent-requires-clause-form c =
    let columns = c.args.columns.now in
    let j = c.loop-j.j in
    let column = c.index-columns-j.result in
    let lt : j < length columns = c.loop-j-test.true in
    let width = row_of-length columns c.args.i in
    let form = c.requires.forms j value.Null (omega (arith, lt, width)) in
    let same = row_of-at columns c.args.i j column value.Null lt ∙ ap (λ vs. value_at vs c.args.i) (sym c.index-columns-j.is) in
    subst IsWellFormed same form

pub loop-j-preserved : goal.loop-j-preserved
loop-j-preserved c =
    let columns = c.args.columns.now in
    let row = row_of columns c.args.i in
    let texts = map cell_text row in
    let j = c.loop-j.j in
    let column = c.index-columns-j.result in
    let lt : j < length columns = c.loop-j-test.true in
    let here : j < length row = omega (arith, lt, row_of-length columns c.args.i) in
    let within : j < length texts = omega (arith, here, length-map row cell_text) in
    let same : get_or row j value.Null ≡ value_at column c.args.i = row_of-at columns c.args.i j column value.Null lt ∙ ap (λ vs. value_at vs c.args.i) (sym c.index-columns-j.is) in
    let text : cell_text (value_at column c.args.i) ≡ get_or texts j [] = ap cell_text (sym same) ∙ sym (get_or-map cell_text row j value.Null [] here) in
    record {
      text = line-step c.args.out.now.items _ _ _ (cell_text (value_at column c.args.i)) texts j within c.loop-j.invariant.text c.in_ok-push_separator.ensures text c.in_ok-push_lent.ensures.added;
      back = All-more ReadsBack row j value.Null here c.loop-j.invariant.back (subst ReadsBack (sym same) c.in_ok-push_lent.ensures.back);
    }

pub returns-clause-text : goal.returns-clause-text
returns-clause-text c =
    let columns = c.args.columns.now in
    let row = row_of columns c.args.i in
    let texts = map cell_text row in
    let all : length texts ≤ c.loop-j.j = omega (arith, length-map row cell_text, row_of-length columns c.args.i, c.loop-j-test.false) in
    let start : c.len-start.result ≡ length c.args.out.now.items = search rules in
    let text = rw (take_all c.loop-j.j texts all) at c.loop-j.invariant.text in
    line-end c.args.out.now.items _ _ texts c.len-start.result start text c.in_ok-end_line.ensures

pub returns-clause-back : goal.returns-clause-back
returns-clause-back c =
    let columns = c.args.columns.now in
    let row = row_of columns c.args.i in
    let all : length row ≤ c.loop-j.j = omega (arith, row_of-length columns c.args.i, c.loop-j-test.false) in
    rw (take_all c.loop-j.j row all) at c.loop-j.invariant.back
