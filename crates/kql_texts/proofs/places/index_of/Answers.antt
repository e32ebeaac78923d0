use Rattle.std.proofs.Common.{refl, ap, ◌∙◌, ◌≡◌, pos, negsuc, length, arith, to_z, w64}
use Rattle.std.specs.Str.{chars}
use Rattle.std.proofs.lemmas.Int.{ints, to_z_pos}
use Rattle.std.proofs.lemmas.Slice.{between_from_start}
use Rattle.kql_texts.proofs.FunctionFacts.{IsIndexOf-value}
use Rattle.kql_texts.proofs.PlaceFacts.{IsIndexOf-first, first_place, lacks-Holds, Holds-at, Holds-from_chars}
use Rattle.kql_texts.proofs.places.index_of.Goals as goal

pub returns-in-Some-clause-value : goal.returns-in-Some-clause-value
returns-in-Some-clause-value c =
    let found = c.in-Some.ensures.cases in
    let match = found.1 in
    let place = first_place _ _ _ found.0 c.utf8.text c.utf8.part found.3 match.1.split match.0 in
    IsIndexOf-value _ _ _
    (IsIndexOf-first _ _ _ _ _ (to_z_pos w64 c.char_count.result (omega arith)) (c.char_count.ensures.count ∙ ap (λ l. length (chars l)) (c.range.ensures.value ∙ between_from_start _ _)) place)

pub returns-in-Some-clause-place : goal.returns-in-Some-clause-place
returns-in-Some-clause-place c =
    let found = c.in-Some.ensures.cases in
    let match = found.1 in
    let place = first_place _ _ _ found.0 c.utf8.text c.utf8.part found.3 match.1.split match.0 in
    IsIndexOf-first _ _ _ _ _ (to_z_pos w64 c.char_count.result (omega arith)) (c.char_count.ensures.count ∙ ap (λ l. length (chars l)) (c.range.ensures.value ∙ between_from_start _ _)) place

pub returns-in-Some-clause-held : goal.returns-in-Some-clause-held
returns-in-Some-clause-held c =
    let found = c.in-Some.ensures.cases in
    let signed : to_z w64 c.char_count.result ≡ pos c.char_count.result = to_z_pos w64 c.char_count.result (omega arith) in
    (λ _. Holds-at _ _ _ found.0 found.1.1.split, λ _. rw signed (omega (arith, ints)))

pub returns-in-None-clause-value : goal.returns-in-None-clause-value
returns-in-None-clause-value c =
    IsIndexOf-value (chars c.args.text.now) (chars c.args.part.now) (negsuc 0)
    (refl, λ held. lacks-Holds _ _ c.in-None.ensures.cases (Holds-from_chars _ _ c.utf8.text c.utf8.part held))

pub returns-in-None-clause-place : goal.returns-in-None-clause-place
returns-in-None-clause-place c =
    (refl, λ held. lacks-Holds _ _ c.in-None.ensures.cases (Holds-from_chars _ _ c.utf8.text c.utf8.part held))

pub returns-in-None-clause-held : goal.returns-in-None-clause-held
returns-in-None-clause-held c = (λ low. absurd (omega (arith, ints)), λ held. absurd (lacks-Holds _ _ c.in-None.ensures.cases held))
