use Rattle.std.proofs.Common.{◌≡◌, ◌≤◌, ◌<◌, ◌∙◌, [], ap, arith, get_or, length, refl, rules, sym, take}
use Rattle.std.proofs.lemmas.List.{append-nil, get_or-map, length-map, take_all, take_more}
use Rattle.std.specs.Prelude.{map}
use Rattle.csv_io.specs.Reload.{typed_name}
use Rattle.csv_io.specs.Text.{names_of}
use Rattle.kql_cells.specs.declared.schema.Column.{Column}
use Rattle.csv_io.proofs.OutputFacts.{line-end, line-step}
use Rattle.csv_io.proofs.TextFacts.{no-fields, text-push}
use Rattle.csv_io.proofs.print.push_typed_names.Goals as goal

pub loop-j-init : goal.loop-j-init
loop-j-init c = record { text = sym (append-nil _); utf8 = no-fields [] refl }

pub loop-j-preserved : goal.loop-j-preserved
loop-j-preserved c =
    let columns = c.args.columns.now in
    let names = names_of columns in
    let fields = map typed_name columns in
    let j = c.loop-j.j in
    let lt : j < length columns = c.loop-j-test.true in
    let within : j < length names = omega (arith, length-map columns (λ column. column.name)) in
    let among : j < length fields = omega (arith, length-map columns typed_name) in
    let here = get_or-map typed_name columns j c.index-columns-j.result [] lt in
    let field : c.as_str.result.now ≡ get_or fields j [] = c.as_str.ensures.value ∙ (c.in_ok-field.ensures.field ∙ (ap typed_name c.index-columns-j.is ∙ sym here)) in
    let name = get_or-map (λ column. column.name) columns j c.index-columns-j.result [] lt in
    record {
      text = line-step c.args.out.now.items _ _ _ c.as_str.result.now fields j among c.loop-j.invariant.text c.in_ok-push_separator.ensures field c.in_ok-push_field.ensures.added;
      utf8 = rw (take_more names j [] within, name, ← ap (λ (column : Column). column.name) c.index-columns-j.is) (text-push (take j names) c.index-columns-j.result.name c.loop-j.invariant.utf8 c.in_ok-field.ensures.utf8);
    }

pub returns-clause-text : goal.returns-clause-text
returns-clause-text c =
    let fields = map typed_name c.args.columns.now in
    let all : length fields ≤ c.loop-j.j = omega (arith, length-map c.args.columns.now typed_name, c.loop-j-test.false) in
    let start : c.len-start.result ≡ length c.args.out.now.items = search rules in
    let text = rw (take_all c.loop-j.j fields all) at c.loop-j.invariant.text in
    line-end c.args.out.now.items _ _ fields c.len-start.result start text c.in_ok-end_line.ensures
