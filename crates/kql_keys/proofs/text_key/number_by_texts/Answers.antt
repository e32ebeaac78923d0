use Rattle.std.proofs.Common.{◌≡◌, ◌<◌, ◌∙◌, [], get_or, length, take, sym, arith, rules}
use Rattle.std.specs.Prelude.{bytes_eq}
use Rattle.std.proofs.lemmas.List.{length-take-le, take_more}
use Rattle.std.proofs.lemmas.Slice.Eq.{bytes_eq-Decides}
use Rattle.kql_keys.proofs.NumberFacts.{firsts-nil, numbers-nil, numbered-step}
use Rattle.kql_keys.proofs.TextKeyFacts.{short-at}
use Rattle.kql_keys.proofs.text_key.number_by_texts.Goals as goal

pub loop-i-init : goal.loop-i-init
loop-i-init c = record {
  keys = search rules;
  places = c.in_ok-places.ensures.empty ∙ sym (numbers-nil bytes_eq bytes_eq-Decides);
  firsts = c.new-firsts.ensures.empty ∙ sym (firsts-nil bytes_eq bytes_eq-Decides);
}

pub new-key-requires : goal.new-key-requires
new-key-requires c = record { short = rw c.get.ensures.same (short-at c.args.texts.now c.args.count c.loop-i.i c.requires.short c.loop-i-test.true) }

pub loop-i-preserved : goal.loop-i-preserved
loop-i-preserved c =
    let i = c.loop-i.i in
    let texts = c.args.texts.now in
    let there : i < length texts = omega (arith, c.loop-i-test.true, c.requires.within) in
    let ks = take i texts in
    let k = get_or texts i [] in
    let more = take_more texts i [] there in
    let count : i ≡ length ks = sym (length-take-le i texts (omega (arith, there))) in
    let key = c.new-key.ensures.text ∙ c.get.ensures.same in
    let e = c.in_ok-place.ensures in
    let step = numbered-step bytes_eq bytes_eq-Decides ks k c.loop-i.seen.keys c.insert_full.new.self.keys c.loop-i.places c.push.new.self c.loop-i.firsts c.push_if.new.places c.in_ok-place.place i c.in_ok-place.added
    c.loop-i.invariant.keys c.loop-i.invariant.places c.loop-i.invariant.firsts (rw key at e.added) (rw key at e.keys) (rw key at e.index) count c.in_ok-push.ensures.added c.in_ok-push_if.ensures in
    record { keys = rw more step.0; places = rw more step.1; firsts = rw more step.2 }
