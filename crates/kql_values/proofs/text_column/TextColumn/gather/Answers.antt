use Rattle.std.proofs.Common.{◌≤◌, [], get_or, arith}
use Rattle.kql_values.proofs.TextFacts.{block-more}
use Rattle.kql_values.proofs.text_column.TextColumn.gather.Goals as goal

pub blocks-2-preserved : goal.blocks-2-preserved
blocks-2-preserved c =
    let on : c.blocks-2.from ≤ c.block_end-to.result = omega (arith, c.block_end-to.ensures.later) in
    record {
      within = c.block_end-to.ensures.within;
      made =
          block-more (λ i. get_or c.args.self.now i []) (λ t. t.now) c.args.places.now _ _ c.in_ok-texts.texts.items _ _ _
          on c.blocks-2.invariant.made c.in_ok-texts.ensures.texts c.as_slice.ensures.value c.in_ok-gathered.ensures.added;
    }
