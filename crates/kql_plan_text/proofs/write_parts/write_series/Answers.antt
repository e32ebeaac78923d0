use Rattle.std.proofs.Common.{refl}
use Rattle.kql_plan_text.specs.Operators.{series_text}
use Rattle.kql_plan_text.proofs.Separated.{four, on_ok}
use Rattle.kql_plan_text.proofs.write_parts.write_series.Goals as goal

pub returns : goal.returns
unfolding series_text
returns c = record {
  added = on_ok _ _ _ (four _ _ _ _ _ _ _ _ _ _ refl c.in_ok-push_str.ensures.added
      (rw c.as_slice.ensures.items at c.in_ok-write_series_items.ensures.added) c.in_ok-write_bins.ensures.added)
      (rw c.as_slice-2.ensures.items at c.write_by.ensures.added);
}
