use Rattle.std.proofs.Common.{rules, subst}
use Rattle.kql_meaning.specs.Items.{items_values}
use Rattle.summarize_op.specs.Columns.{AreColumns}
use Rattle.summarize_op.specs.Groups.{AreGroups, group_at}
use Rattle.summarize_op.proofs.TableSteps.{both-long, table-fits, table-is}
use Rattle.summarize_op.proofs.summarize.summarize_rows.Goals as goal

pub from_columns-rows-requires-clause-long : goal.from_columns-rows-requires-clause-long
from_columns-rows-requires-clause-long c =
    let t = c.args.t.now in
    let g = c.args.g.now in
    let made = c.in_ok-columns.field-0 in
    let items = c.in_ok-items.items.items in
    let a = subst (λ ks. AreGroups ks t made.columns.items made.numbers made.count) c.as_slice.ensures.items c.in_ok-columns.ensures.groups in
    let b = subst (λ ns. AreColumns made.count (λ n. items_values g.items (group_at t ns n) 0) items) c.as_slice-3.ensures.items (subst (λ is. AreColumns made.count (λ n. items_values is (group_at t c.as_slice-3.result.now n) 0) items) c.as_slice-2.ensures.items c.in_ok-items.ensures.values) in
    both-long g t made.count made.columns.items items c.append.new.self.items made.numbers a b c.in_ok-append.ensures.items

pub new-requires : goal.new-requires
new-requires c =
    let t = c.args.t.now in
    let g = c.args.g.now in
    let made = c.in_ok-columns.field-0 in
    let items = c.in_ok-items.items.items in
    let a = subst (λ ks. AreGroups ks t made.columns.items made.numbers made.count) c.as_slice.ensures.items c.in_ok-columns.ensures.groups in
    let b = subst (λ ns. AreColumns made.count (λ n. items_values g.items (group_at t ns n) 0) items) c.as_slice-3.ensures.items (subst (λ is. AreColumns made.count (λ n. items_values is (group_at t c.as_slice-3.result.now n) 0) items) c.as_slice-2.ensures.items c.in_ok-items.ensures.values) in
    table-fits g t made.count made.columns.items items c.append.new.self.items c.from_columns-rows.result made.numbers c.from_items.result c.requires.fits (search rules) (search rules) a b c.in_ok-append.ensures.items c.from_columns-rows.ensures.rows (search rules)

pub returns : goal.returns
returns c =
    let t = c.args.t.now in
    let g = c.args.g.now in
    let made = c.in_ok-columns.field-0 in
    let items = c.in_ok-items.items.items in
    let a = subst (λ ks. AreGroups ks t made.columns.items made.numbers made.count) c.as_slice.ensures.items c.in_ok-columns.ensures.groups in
    let b = subst (λ ns. AreColumns made.count (λ n. items_values g.items (group_at t ns n) 0) items) c.as_slice-3.ensures.items (subst (λ is. AreColumns made.count (λ n. items_values is (group_at t c.as_slice-3.result.now n) 0) items) c.as_slice-2.ensures.items c.in_ok-items.ensures.values) in
    record {
      rows = table-is g t c.in_ok-made.made made.count made.columns.items items c.append.new.self.items c.from_columns-rows.result made.numbers c.from_items.result a b c.in_ok-append.ensures.items c.from_columns-rows.ensures.rows (search rules) c.in_ok-made.ensures.parts;
    }
