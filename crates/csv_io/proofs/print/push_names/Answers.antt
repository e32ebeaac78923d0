use Rattle.std.proofs.Common.{◌≡◌, ◌≤◌, ◌<◌, ◌∙◌, [], arith, get_or, length, refl, rules, sym, take}
use Rattle.std.proofs.lemmas.List.{append-nil, get_or-map, length-map, take_all, take_more}
use Rattle.csv_io.specs.Text.{names_of}
use Rattle.csv_io.proofs.OutputFacts.{line-end, line-step}
use Rattle.csv_io.proofs.TextFacts.{no-fields, text-push}
use Rattle.csv_io.proofs.print.push_names.Goals as goal

pub loop-j-init : goal.loop-j-init
loop-j-init c = record { text = sym (append-nil _); utf8 = no-fields [] refl }

pub loop-j-preserved : goal.loop-j-preserved
loop-j-preserved c =
    let columns = c.args.columns.now in
    let names = names_of columns in
    let j = c.loop-j.j in
    let lt : j < length columns = c.loop-j-test.true in
    let within : j < length names = omega (arith, length-map columns (λ column. column.name)) in
    let here = get_or-map (λ column. column.name) columns j c.index-columns-j.result [] lt in
    let name : c.as_str.result.now ≡ get_or names j [] = c.as_str.ensures.same ∙ sym here in
    record {
      text = line-step c.args.out.now.items _ _ _ c.as_str.result.now names j within c.loop-j.invariant.text c.in_ok-push_separator.ensures name c.in_ok-push_field.ensures.added;
      utf8 = rw (take_more names j [] within, ← name) (text-push (take j names) c.as_str.result.now c.loop-j.invariant.utf8 c.as_str.utf8);
    }

pub returns-clause-text : goal.returns-clause-text
returns-clause-text c =
    let names = names_of c.args.columns.now in
    let all : length names ≤ c.loop-j.j = omega (arith, length-map c.args.columns.now (λ column. column.name), c.loop-j-test.false) in
    let start : c.len-start.result ≡ length c.args.out.now.items = search rules in
    let text = rw (take_all c.loop-j.j names all) at c.loop-j.invariant.text in
    line-end c.args.out.now.items _ _ names c.len-start.result start text c.in_ok-end_line.ensures
