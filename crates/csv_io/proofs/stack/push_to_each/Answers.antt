use Rattle.std.proofs.Common.{◌≡◌, ◌<◌, ◌+◌, length, refl, ap, sym, ◌∙◌, rules, arith, vec_len}
use Rattle.std.proofs.Math.ListN.{set}
use Rattle.std.proofs.lemmas.List.{length_push}
use Rattle.std.proofs.lemmas.Iterator.Adapters.{YieldsList-from_vec}
use Rattle.std.proofs.lemmas.Iterator.Consumers.{YieldsList-turn}
use Rattle.kql_values.proofs.GridLaws.{joined-length, joined-nil, joined-step}
use Rattle.csv_io.proofs.stack.push_to_each.Goals as goal

pub loop-vector-init : goal.loop-vector-init
loop-vector-init c = record { at = refl; added = sym (joined-nil _) }

pub index_mut-column-requires : goal.index_mut-column-requires
index_mut-column-requires c =
    let given = c.into_iter-vector-iterator.ensures.into_iter_gives in
    let turn = YieldsList-turn (YieldsList-from_vec {s = c.into_iter-vector-iterator.result} c.args.more.items given.0 (given.1 ∙ c.args.more.ok.0)) c.loop-vector.yielded _ c.loop-vector.yielded_by _ c.next.new.self c.in-Some.vector c.in-Some.is c.next.ensures.steps in
    let within : length c.loop-vector.yielded < length c.args.more.items = turn.0 in
    let count : length c.loop-vector.parts.items ≡ vec_len c.loop-vector.parts = search rules in
    let size : length c.loop-vector.parts.items ≡ length c.args.parts.now.items = ap length c.loop-vector.invariant.added ∙ joined-length _ _ in
    omega (arith, c.requires, c.loop-vector.invariant.at)

pub loop-vector-preserved : goal.loop-vector-preserved
loop-vector-preserved c =
    let given = c.into_iter-vector-iterator.ensures.into_iter_gives in
    let turn = YieldsList-turn (YieldsList-from_vec {s = c.into_iter-vector-iterator.result} c.args.more.items given.0 (given.1 ∙ c.args.more.ok.0)) c.loop-vector.yielded _ c.loop-vector.yielded_by _ c.next.new.self c.in-Some.vector c.in-Some.is c.next.ensures.steps in
    let within : length c.loop-vector.yielded < length c.args.more.items = turn.0 in
    let fits : c.loop-vector.j < length c.args.parts.now.items = omega (arith, c.requires, c.loop-vector.invariant.at) in
    record {
      at = ap (λ n. n + 1) c.loop-vector.invariant.at ∙ sym (length_push c.loop-vector.yielded c.in-Some.vector);
      added = joined-step c.args.parts.now.items c.loop-vector.yielded c.loop-vector.parts.items _ _ c.index_mut-column.result.now c.loop-vector.j c.loop-vector.invariant.added c.loop-vector.invariant.at fits c.index_mut-column.ensures.value (ap (set c.loop-vector.parts.items c.loop-vector.j) c.in_ok-push.ensures.added);
    }
