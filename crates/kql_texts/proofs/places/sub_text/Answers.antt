use Rattle.std.proofs.Common.{◌≡◌, ◌-◌, ap, ap₂, ◌∙◌, take, drop, length, min, w64}
use Rattle.std.specs.Str.{chars, encode_utf8_all}
use Rattle.std.proofs.lemmas.Int.{to_z-of_z}
use Rattle.std.proofs.lemmas.Result.{IfOk-weaker}
use Rattle.kql_texts.specs.Places.{or_zero, place_in}
use Rattle.kql_texts.proofs.CharFacts.{middle_bytes, middle_count}
use Rattle.kql_texts.proofs.places.sub_text.Goals as goal

pub returns-clause-value : goal.returns-clause-value
returns-clause-value c =
    let cs = chars c.args.text.now in
    let bytes = middle_bytes _ _ _ _ _ c.utf8.text c.chars_from-rest.ensures c.chars_up_to.ensures in
    let places = ap₂ (λ n k. encode_utf8_all (take n (drop k cs)))
    (c.not_negative.ensures ∙ ap or_zero (to_z-of_z w64 c.args.count c.ranges.count))
    (c.place_of.ensures ∙ ap (place_in (length cs)) (to_z-of_z w64 c.args.start c.ranges.start)) in
    IfOk-weaker c.from_str.result (λ r. r ≡ c.chars_up_to.result.now) _ (λ r e. e ∙ bytes ∙ places) c.from_str.ensures.same

pub returns-clause-counted : goal.returns-clause-counted
returns-clause-counted c =
    let all = length (chars c.args.text.now) in
    let count = middle_count _ _ _ _ _ c.utf8.text c.chars_from-rest.ensures c.chars_up_to.ensures in
    let places = ap₂ (λ n k. min n (all - k))
    (c.not_negative.ensures ∙ ap or_zero (to_z-of_z w64 c.args.count c.ranges.count))
    (c.place_of.ensures ∙ ap (place_in all) (to_z-of_z w64 c.args.start c.ranges.start)) in
    IfOk-weaker c.from_str.result (λ r. r ≡ c.chars_up_to.result.now) _ (λ r e. ap (λ l. length (chars l)) e ∙ count ∙ places) c.from_str.ensures.same
