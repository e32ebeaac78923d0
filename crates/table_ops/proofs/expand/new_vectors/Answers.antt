use Rattle.std.proofs.Common.{◌∙◌, ◌<◌, ℕ, List, ap, arith, get_or, length, rules}
use Rattle.kql_bound.specs.declared.parts.ExpandItem.{ExpandItem}
use Rattle.kql_cells.specs.declared.value.Value.{Value}
use Rattle.table_ops.specs.Parts.{parts_below}
use Rattle.table_ops.proofs.ExpandFacts.{item-made, new-added, new-left}
use Rattle.table_ops.proofs.expand.new_vectors.Goals as goal
use Rattle.table_ops.proofs.expand.new_vectors.Goals.{then-not-has_column+in_ok-vector+in_ok-push, else-not-has_column}

pub items-preserved : goal.items-preserved
items-preserved c =
    let x = c.args.x.now in
    let t = c.args.t.now in
    let parts = c.args.parts.now in
    let item = c.index-as_slice-at.result in
    let inside : c.items.at < length c.args.x.now.items = omega (arith, c.items-test.true, c.len-at-end.ensures.count) in
    let is = c.index-as_slice-at.is ∙ ap (λ (items : List ExpandItem). get_or items c.items.at item) c.as_slice.ensures.items in
    elim c.if-not-has_column.branch [
      | then-not-has_column+in_ok-vector+in_ok-push w ↦
          let values = w.index-as_slice-at-then-not-has_column.result in
          let there = w.index-as_slice-at-then-not-has_column.is ∙ ap (λ (vs : List (List Value)). get_or vs c.items.at values) w.as_slice-then-not-has_column.ensures.items in
          let made = w.in_ok-vector.ensures.parts ∙ ap (λ (ns : List ℕ). parts_below c.args.x.now.array item.to values ns (length ns)) w.as_slice-then-not-has_column-2.ensures.items in
          new-added x t c.items.at item c.items.vectors c.if-not-has_column.vectors w.in_ok-vector.vector inside is (search rules)
          (item-made x t parts c.items.at item values w.in_ok-vector.vector c.requires.parts inside is there made)
          c.items.invariant (w.vectors-is ∙ w.in_ok-push.ensures.added)
      | else-not-has_column w ↦ new-left x t c.items.at item c.items.vectors c.if-not-has_column.vectors inside is (search rules) c.items.invariant w.vectors-is
    ]
