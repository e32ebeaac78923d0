use Rattle.std.proofs.Common.{◌≡◌, ◌<◌, ◌-◌, Bor, map, take, sym, arith}
use Rattle.std.proofs.lemmas.Grind.{common_steps}
use Rattle.kql_cells.specs.declared.dynamic.Dyn.{Dyn}
use Rattle.kql_dynamic.specs.Bags.{bag, bag_merge, entries_seen}
use Rattle.kql_dynamic.proofs.ArrayFormLaws.{formed, lent, lent-last}
use Rattle.kql_dynamic.proofs.BagFormLaws.{merge-form, merge-none, merge-step}
use Rattle.kql_dynamic.proofs.bags.bag_merge.Goals as goal

pub returns-in_default-clause-value : goal.returns-in_default-clause-value
returns-in_default-clause-value c =
    let some : 0 < c.bags.count = grind (arith, common_steps) in
    let args = c.args.args.now in
    let last = c.index-args-last.result in
    merge-none (entries_seen c.bags.merged.entries) (lent args) (lent (take c.bags.count args)) (lent (take (c.bags.count - 1) args)) last.now
    (lent-last args c.bags.count last some c.bags.invariant.within c.index-args-last.is) (sym c.in_default.ensures) c.bags.invariant.merged

pub bags-preserved : goal.bags-preserved
bags-preserved c =
    let some : 0 < c.bags.count = grind (arith, common_steps) in
    let args = c.args.args.now in
    let last = c.index-args-last.result in
    record {
      within = omega (arith, c.bags.invariant.within);
      merged = merge-step (entries_seen c.bags.merged.entries) (entries_seen c.put_copies.new.bag.entries) c.in-Some.entries.now (lent (take c.bags.count args)) (lent (take (c.bags.count - 1) args)) last.now _
          (lent-last args c.bags.count last some c.bags.invariant.within c.index-args-last.is) (sym c.in-Some.ensures) c.in_ok-put_copies.ensures c.bags.invariant.merged;
    }

pub returns-clause-form : goal.returns-clause-form
returns-clause-form c =
    let args = map (λ (d : Bor Dyn). d.now) c.args.args.now in
    let e : bag c.in_ok-bag_from.field-0 ≡ bag_merge args = grind (arith, common_steps) in
    formed _ _ e (merge-form args c.requires)
