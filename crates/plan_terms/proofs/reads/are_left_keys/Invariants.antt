use Rattle.std.proofs.Common.{◌≡◌, length, not}
use Rattle.std.specs.List.{list_all}
use Rattle.kql_meaning.specs.Tables.{has_column, is_name_among}
use Rattle.plan_rules.specs.Rules.{is_left_key}
use Rattle.plan_terms.proofs.reads.are_left_keys.Given as goal

abbrev pub invariant-names : goal.invariant-names
invariant-names l = list_all (λ n. is_left_key l.on l.columns n) l.left ≡ list_all (λ n. is_left_key l.fn.on l.fn.columns n) l.fn.read

abbrev pub decreases-names : goal.decreases-names
decreases-names l = length l.left
