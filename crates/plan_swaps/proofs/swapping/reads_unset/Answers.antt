use Rattle.std.proofs.Common.{◌≡◌, ◌∙◌, ap, not, subst}
use Rattle.std.specs.Prelude.{IfOk}
use Rattle.kql_meaning.specs.Tables.{is_name_among}
use Rattle.kql_meaning.specs.Items.{items_names}
use Rattle.plan_rules.specs.Reads.{reads_only}
use Rattle.plan_swaps.proofs.swapping.reads_unset.Goals as goal

pub returns : goal.returns
returns c = record { unset = subst (λ ns. IfOk c.reads_others.result (λ b. b ≡ reads_only (λ n. not (is_name_among ns n)) c.args.q.now)) (c.as_slice-2.ensures.items ∙ (c.in_ok-names.ensures.names ∙ ap items_names c.as_slice.ensures.items)) c.reads_others.ensures.reads }
