use Rattle.std.proofs.Common.{◌≡◌, rules}
use Rattle.series_op.proofs.GroupSteps.{grouped-lent}
use Rattle.series_op.proofs.groups.group_rows.Goals as goal

pub returns-clause-groups : goal.returns-clause-groups
returns-clause-groups c =
    let numbers-are = c.as_slice-2.ensures.items in
    let firsts-are = c.as_slice-firsts.ensures.items in
    let ns = c.in_ok-numbers.numbers-is in
    let fs = c.in_ok-numbers.firsts-is in
    let numbered : c.as_slice-2.result.now ≡ c.in_ok-numbers.field-0.numbers = first_of (search rules, cc) in
    let first : c.as_slice-firsts.result.now ≡ c.in_ok-numbers.field-0.firsts = first_of (search rules, cc) in
    grouped-lent c.args.columns.now c.args.count c.in_ok-lent.lent.items c.as_slice.result.now c.in_ok-numbers.field-0.numbers c.in_ok-numbers.field-0.firsts c.as_slice-2.result.now c.as_slice-firsts.result.now c.in_ok-keys.keys.items c.in_ok-rows.rows c.requires.long c.in_ok-lent.ensures.same c.as_slice.ensures.value c.in_ok-numbers.ensures.numbers c.in_ok-numbers.ensures.first_keys numbered first c.in_ok-keys.ensures.values c.in_ok-rows.ensures.lists
