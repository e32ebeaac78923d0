use Rattle.kql_meaning.proofs.SortLaws.{first_key_decides, keys_in_direction, nulls_at_their_end, sort_is_stable, sort_is_the_one, sort_orders, sort_rearranges, top_is_first_of_sorted}
use Rattle.kql_meaning.proofs.laws.law_of_sort.Goals as goal

pub returns : goal.returns
returns c = record { rearranged = sort_rearranges; ordered = sort_orders; stable = sort_is_stable; only = sort_is_the_one; nulls = nulls_at_their_end; direction = keys_in_direction; first = first_key_decides; top = top_is_first_of_sorted }
