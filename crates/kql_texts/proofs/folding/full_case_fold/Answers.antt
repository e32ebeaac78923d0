use Rattle.std.proofs.Common.{◌≡◌, ◌++◌, ℕ, List, ap, subst, sym, ◌∙◌}
use Rattle.std.specs.Str.{chars, encode_utf8_all}
use Rattle.std.specs.Str.Iter.{chars_steps}
use Rattle.std.specs.Iterator.{Drains}
use Rattle.std.proofs.lemmas.Iterator.{YieldsList-from_chars, items_from_drains}
use Rattle.std.proofs.lemmas.List.{map-id}
use Rattle.caseless.specs.CaseFold.{CaseFoldSteps}
use Rattle.caseless.specs.Caseless.{default_case_fold}
use Rattle.caseless.proofs.CaselessLemmas.{Spells-CaseFold}
use Rattle.kql_texts.proofs.folding.full_case_fold.Goals as goal

pub returns : goal.returns
returns c =
    let ran = c.in_ok-extend.ensures.ran in
    let xs : List ℕ = ran.1 in
    let run = subst (λ it. Drains (CaseFoldSteps chars_steps) it xs) ran.2 ran.4 in
    let all : xs ≡ default_case_fold (chars c.args.text.now) =
    sym (map-id xs)
    ∙ items_from_drains {steps = CaseFoldSteps chars_steps} {s = c.default_case_fold.result} xs (run.1.0, run.1.1, λ _. (run.0, run.1.2))
    (record { runs = Spells-CaseFold (c.default_case_fold.ensures.text _ (YieldsList-from_chars _ c.utf8.text c.chars.ensures.rest).runs) }) in
    ran.3 ∙ ap (λ l. l ++ encode_utf8_all xs) c.in_ok-folded.ensures.bytes ∙ ap encode_utf8_all all
