use Rattle.std.proofs.Common.{◌≡◌, ◌<◌, ◌≤◌, ◌++◌, ◌∷◌, ◌∙◌, ℕ, List, [], ap, append_assoc, arith, get_or, length, map, rules, sym}
use Rattle.std.specs.Prelude.{All}
use Rattle.std.proofs.lemmas.List.{get_or-map, length-map, take_all}
use Rattle.std.proofs.lemmas.List.Elements.{All-more}
use Rattle.kql_cells.specs.Seen.{row_at}
use Rattle.kql_cells.specs.declared.value.Value.{Value}
use Rattle.kql_views.specs.Json.{ReadsBack, listed, object_text}
use Rattle.kql_views.proofs.JsonFacts.{listed-step}
use Rattle.kql_views.proofs.json.json_text.Goals as goal

pub loop-i-init : goal.loop-i-init
unfolding listed
loop-i-init c = record { text = c.in_ok-push.ensures.items ∙ ap (λ t. t ++ 91 ∷ []) c.new-out.ensures.items; back = search rules }

pub loop-i-preserved : goal.loop-i-preserved
loop-i-preserved c =
    let lines = c.args.table.now.lines in
    let cs = c.args.table.now.columns in
    let i = c.loop-i.i in
    let text : List Value → List ℕ = λ row. 10 ∷ object_text cs row in
    let texts = map text lines in
    let lt : i < length lines = omega (arith, c.loop-i-test.true, c.len-i-end.ensures.count) in
    let within : i < length texts = omega (arith, lt, length-map lines text) in
    let item : text (row_at lines i) ≡ get_or texts i [] = sym (get_or-map text lines i [] [] lt) in
    let before = c.push_separator.new.out.items in
    let object = object_text cs (row_at lines i) in
    let new : c.push_object.new.out.items ≡ before ++ text (row_at lines i) =
    c.in_ok-push_object.ensures.text ∙ ap (λ t. t ++ object) c.in_ok-push-2.ensures.items ∙ append_assoc before (10 ∷ []) object in
    record {
      text = listed-step (91 ∷ []) _ _ _ _ texts i within c.loop-i.invariant.text c.in_ok-push_separator.ensures item new;
      back = All-more (All ReadsBack) lines i [] lt c.loop-i.invariant.back c.in_ok-push_object.ensures.reads_back;
    }

pub returns-clause-reads_back : goal.returns-clause-reads_back
returns-clause-reads_back c =
    let lines = c.args.table.now.lines in
    let all : length lines ≤ c.loop-i.i = omega (arith, c.loop-i-test.false, c.len-i-end.ensures.count) in
    rw (take_all c.loop-i.i lines all) at c.loop-i.invariant.back
