use Rattle.std.proofs.Common.{◌<◌, ◌∙◌, length, arith}
use Rattle.std.proofs.lemmas.Grind.{common_steps}
use Rattle.kql_dynamic.proofs.PrintFacts.{members-step, null-view}
use Rattle.kql_dynamic.proofs.ReadBack.{array-back, members-back, object-back}
use Rattle.kql_dynamic.proofs.print.+json_of.Goals as goal

pub members_of-loop-entry-preserved : goal.members_of-loop-entry-preserved
members_of-loop-entry-preserved t c =
    let lt : c.loop-entry.entry-index < length c.args.entries.now = grind (arith, common_steps) in
    let name = c.in_ok-name.ensures.ok ∙ c.as_str.ensures.same in
    let step = members-step c.args.entries.now c.loop-entry.entry-index c.entry-item.result c.loop-entry.members.entries c.insert.new.self.entries c.in_ok-name.name c.in_ok-value.value
    lt c.entry-item.is c.loop-entry.invariant.data' c.loop-entry.invariant.whole c.in_ok-insert.ensures.entries name c.in_ok-value.ensures.data c.in_ok-value.ensures.whole in
    record {
      data' = step.0;
      whole = step.1;
      back = members-back c.args.entries.now c.loop-entry.entry-index c.entry-item.result c.loop-entry.members.entries c.insert.new.self.entries c.in_ok-name.name c.in_ok-value.value
          lt c.entry-item.is c.loop-entry.invariant.back c.in_ok-insert.ensures.entries name c.in_ok-value.ensures.back;
    }

pub json_of-returns-in-Null-clause-data : goal.json_of-returns-in-Null-clause-data
json_of-returns-in-Null-clause-data t c = rw c.in-Null.is null-view

pub json_of-returns-in_ok-items_of-in-Array-clause-back :
    goal.json_of-returns-in_ok-items_of-in-Array-clause-back
json_of-returns-in_ok-items_of-in-Array-clause-back t c =
    λ h. rw c.in-Array.is (array-back _ c.in-Array.parts (rw c.as_slice.ensures.items at c.in_ok-items_of-in-Array.ensures.back) (rw c.in-Array.is at h))

pub json_of-returns-in_ok-members_of-in-Bag-clause-back :
    goal.json_of-returns-in_ok-members_of-in-Bag-clause-back
json_of-returns-in_ok-members_of-in-Bag-clause-back t c =
    λ h. rw c.in-Bag.is (object-back _ c.in-Bag.entries (rw c.as_slice-in-Bag.ensures.items at c.in_ok-members_of-in-Bag.ensures.back) (rw c.in-Bag.is at h))
