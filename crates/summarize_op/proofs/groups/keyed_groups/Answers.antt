use Rattle.std.proofs.Common.{◌≡◌, ◌∙◌, List, ap, length, map, sym}
use Rattle.kql_cells.specs.Seen.{value_at}
use Rattle.kql_cells.specs.declared.value.Value.{Value}
use Rattle.kql_scalar.specs.Held.{held}
use Rattle.summarize_op.specs.Groups.{key_columns}
use Rattle.summarize_op.proofs.KeyedGroups.{keyed}
use Rattle.summarize_op.proofs.groups.keyed_groups.Goals as goal

pub returns-clause-groups : goal.returns-clause-groups
returns-clause-groups c =
    let firsts = c.in_ok-numbers.field-0.firsts in
    let vs = map (λ c. c.now) c.as_slice-2.result.now in
    let is : vs ≡ key_columns c.args.keys.now c.args.t.now = ap (map (λ c. c.now)) c.as_slice-2.ensures.value ∙ (c.in_ok-vectors.ensures.same ∙ (ap (map held) c.as_slice.ensures.value ∙ c.in_ok-held.ensures.values)) in
    let ec : c.in_ok-columns.columns.items ≡ map (λ (v : List Value). map (value_at v) firsts) vs =
    c.in_ok-columns.ensures.values
    ∙ (ap (λ ps. map (λ (v : List Value). map (value_at v) ps) (map (λ c. c.now) c.as_slice-3.result.now)) c.as_slice-4.ensures.items
    ∙ ap (λ ls. map (λ (v : List Value). map (value_at v) firsts) (map (λ c. c.now) ls)) (c.as_slice-3.ensures.value ∙ sym c.as_slice-2.ensures.value)) in
    keyed c.args.keys.now c.args.t.now c.len.result (length c.as_slice-count.result.now) vs c.in_ok-columns.columns.items c.in_ok-numbers.field-0.numbers firsts c.requires.some c.len.ensures.count is c.in_ok-numbers.ensures.numbers c.in_ok-numbers.ensures.first_keys c.in_ok-numbers.ensures.within ec (ap length c.as_slice-count.ensures.items)
