use Rattle.std.proofs.Common.{◌≡◌, ◌∙◌, length, sym, rules}
use Rattle.kql_keys.specs.NumberKeys.{first_numbers, number_at, same_numbers, same_numbers-decides}
use Rattle.kql_keys.proofs.NumberFacts.{firsts-nil, numbers-nil, numbered-step}
use Rattle.kql_keys.proofs.NumberKeyFacts.{first-length, first-more, first-none}
use Rattle.kql_keys.proofs.number_key.number_by_numbers.Goals as goal

pub loop-i-init : goal.loop-i-init
loop-i-init c =
    let none = first-none c.args.numbers in
    record {
      keys = rw none (search rules);
      places = rw none (c.in_ok-places.ensures.empty ∙ sym (numbers-nil same_numbers same_numbers-decides));
      firsts = rw none (c.new-firsts.ensures.empty ∙ sym (firsts-nil same_numbers same_numbers-decides));
    }

pub loop-i-preserved : goal.loop-i-preserved
loop-i-preserved c =
    let i = c.loop-i.i in
    let ks = first_numbers c.args.numbers i in
    let k = number_at c.args.numbers i in
    let more = first-more c.args.numbers i in
    let count : i ≡ length ks = sym (first-length c.args.numbers i) in
    let key = c.number_key-key.ensures.number in
    let e = c.in_ok-place.ensures in
    let step = numbered-step same_numbers same_numbers-decides ks k c.loop-i.seen.keys c.insert_full.new.self.keys c.loop-i.places c.push.new.self c.loop-i.firsts c.push_if.new.places c.in_ok-place.place i c.in_ok-place.added
    c.loop-i.invariant.keys c.loop-i.invariant.places c.loop-i.invariant.firsts (rw key at e.added) (rw key at e.keys) (rw key at e.index) count c.in_ok-push.ensures.added c.in_ok-push_if.ensures in
    record { keys = rw more step.0; places = rw more step.1; firsts = rw more step.2 }
