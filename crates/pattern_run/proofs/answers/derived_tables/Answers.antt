use Rattle.std.proofs.Common.{◌+◌, ℕ, map, take, drop, length, sym, ap, ◌∙◌, arith, length-append}
use Rattle.kql_values.specs.Kept.{all_named}
use Rattle.pattern_laws.specs.Tables.{derived_named}
use Rattle.pattern_run.specs.Patterned.{finds_of, told_by}
use Rattle.pattern_run.proofs.FrontPatterns.{behind-same, called-next, front-same, tables-more}
use Rattle.pattern_run.proofs.SameCalls.{called}
use Rattle.pattern_run.proofs.answers.derived_tables.Goals as goal

pub loop-prefix-init : goal.loop-prefix-init
loop-prefix-init g c = record {
  count = c.requires.count;
  finds = λ found e. e;
  tables = λ found e. ap all_named c.in_ok-tables.ensures.empty;
}

pub loop-prefix-preserved : goal.loop-prefix-preserved
loop-prefix-preserved g c =
    let next = called-next c.args.prefixes.now c.loop-prefix.prefix-index c.prefix-item.result c.loop-prefix-test.true c.prefix-item.is in
    let rest = called (drop (c.loop-prefix.prefix-index + 1) c.args.prefixes.now) in
    let left = c.loop-prefix.left.now in
    record {
      count =
          let whole = c.loop-prefix.invariant.count ∙ (ap length next ∙ length-append c.prefix-item.result.calls rest) in
          let first = c.len.ensures.count in
          let behind = c.split_at.ensures.back_len in
          omega (arith, whole, first, behind);
      finds = λ found e.
          ap (map g.M.Pattern.finds) (c.split_at.ensures.back ∙ ap (λ (n : ℕ). drop n left) c.len.ensures.count)
          ∙ behind-same g.M.Pattern.finds (finds_of found) left c.prefix-item.result.calls rest (c.loop-prefix.invariant.finds found e ∙ ap (map (finds_of found)) next);
      tables = λ found e.
          tables-more (derived_named (told_by found) c.args.marks.now (all_named c.args.known.now)) c.args.prefixes.now c.loop-prefix.prefix-index c.prefix-item.result c.loop-prefix.tables c.push.new.self c.in_ok-table.table
          c.loop-prefix-test.true c.prefix-item.is (c.loop-prefix.invariant.tables found e)
          (c.in_ok-table.ensures.table found (ap (map g.M.Pattern.finds) (c.split_at.ensures.front ∙ ap (λ (n : ℕ). take n left) c.len.ensures.count)
          ∙ front-same g.M.Pattern.finds (finds_of found) left c.prefix-item.result.calls rest (c.loop-prefix.invariant.finds found e ∙ ap (map (finds_of found)) next)))
          c.in_ok-push.ensures.added;
    }

pub derived_named-requires-clause-ready : goal.derived_named-requires-clause-ready
derived_named-requires-clause-ready g c κs within = c.requires.ready c.prefix-item.result (c.loop-prefix.prefix-index, c.loop-prefix-test.true, sym c.prefix-item.is)
