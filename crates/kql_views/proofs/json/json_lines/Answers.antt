use Rattle.std.proofs.Common.{◌<◌, [], arith, length, rules}
use Rattle.std.specs.Prelude.{All}
use Rattle.std.proofs.lemmas.Grind.{common_steps}
use Rattle.std.proofs.lemmas.List.Elements.{All-more}
use Rattle.kql_views.specs.Json.{ReadsBack}
use Rattle.kql_views.proofs.json.json_lines.Goals as goal

pub loop-i-preserved : goal.loop-i-preserved
loop-i-preserved c =
    let lines = c.args.table.now.lines in
    let lt : c.loop-i.i < length lines = omega (arith, c.loop-i-test.true, c.len-i-end.ensures.count) in
    record {
      text = first_of (search rules, grind (arith, common_steps));
      back = All-more (All ReadsBack) lines c.loop-i.i [] lt c.loop-i.invariant.back c.in_ok-push_object.ensures.reads_back;
    }
