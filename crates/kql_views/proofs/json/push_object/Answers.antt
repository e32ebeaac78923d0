use Rattle.std.proofs.Common.{◌≡◌, ◌≤◌, ◌<◌, ◌++◌, ◌∷◌, ◌∙◌, [], ap, append_assoc, arith, get_or, length, rules, sym}
use Rattle.std.proofs.lemmas.List.{append-nil, take_all}
use Rattle.std.proofs.lemmas.List.Elements.{All-more}
use Rattle.kql_cells.proofs.RowLaws.{length-RowFits}
use Rattle.kql_cells.specs.Seen.{row_at, seen}
use Rattle.kql_cells.specs.declared.value.Value.TheVariants as value
use Rattle.kql_views.specs.Json.{ReadsBack, listed, member_text, members}
use Rattle.kql_views.proofs.JsonFacts.{listed-step, members-at, members-count}
use Rattle.kql_views.proofs.json.push_object.Goals as goal

pub loop-j-init : goal.loop-j-init
unfolding listed
loop-j-init c = record { text = sym (append-nil c.push.new.self.items); back = search rules }

pub loop-j-preserved : goal.loop-j-preserved
loop-j-preserved c =
    let cs = c.args.table.now.columns in
    let row = row_at c.args.table.now.lines c.args.i in
    let j = c.loop-j.j in
    let column = c.index-columns-j.result in
    let columns = c.columns-columns.ensures.columns ∙ c.schema.ensures.columns in
    let width : length row ≡ length cs = length-RowFits cs row (c.schema.ensures.fits c.args.i [] c.requires.row) in
    let size : length c.columns-columns.result.now ≡ length cs = ap length columns in
    let lt : j < length cs = omega (arith, c.loop-j-test.true, size) in
    let within : j < length (members cs row) = omega (arith, lt, members-count cs row width) in
    let here : column ≡ get_or cs j column = c.index-columns-j.is ∙ ap (λ xs. get_or xs j column) columns in
    let item : member_text column (seen c.cell_of.result) ≡ get_or (members cs row) j [] =
    ap (λ k. member_text k (seen c.cell_of.result)) here ∙ ap (λ v. member_text (get_or cs j column) v) c.cell_of.ensures.same
    ∙ sym (members-at cs row j column width lt) in
    record {
      text = listed-step c.push.new.self.items _ _ _ _ (members cs row) j within c.loop-j.invariant.text c.in_ok-push_separator.ensures item c.in_ok-push_member.ensures.text;
      back = All-more ReadsBack row j value.Null (omega (arith, lt, width)) c.loop-j.invariant.back (rw c.cell_of.ensures.same at c.in_ok-push_member.ensures.reads_back);
    }

pub returns : goal.returns
returns c =
    let cs = c.args.table.now.columns in
    let row = row_at c.args.table.now.lines c.args.i in
    let columns = c.columns-columns.ensures.columns ∙ c.schema.ensures.columns in
    let width : length row ≡ length cs = length-RowFits cs row (c.schema.ensures.fits c.args.i [] c.requires.row) in
    let size : length c.columns-columns.result.now ≡ length cs = ap length columns in
    let all : length (members cs row) ≤ c.loop-j.j = omega (arith, c.loop-j-test.false, size, members-count cs row width) in
    let text = rw (take_all c.loop-j.j (members cs row) all) at c.loop-j.invariant.text in
    let base = c.args.out.now.items in
    let middle = listed (members cs row) in
    record {
      text = rw (c.in_ok-push-2.ensures.items, text, c.in_ok-push.ensures.items) (append_assoc (base ++ 123 ∷ []) middle (125 ∷ []) ∙ append_assoc base (123 ∷ []) (middle ++ 125 ∷ []));
      reads_back = rw (take_all c.loop-j.j row (omega (arith, c.loop-j-test.false, size, width))) at c.loop-j.invariant.back;
    }
