use Rattle.std.proofs.Common.{◌∙◌, ap}
use Rattle.std.specs.Prelude.{string_bytes}
use Rattle.kql_program.proofs.StepFacts.{catalogue-at}
use Rattle.kql_program.proofs.steps.catalogue_path.Goals as goal

pub returns-in-Some : goal.returns-in-Some
returns-in-Some c =
    let path = c.as_str.ensures.value ∙ ap string_bytes c.index-words-k.is in
    record { path = catalogue-at c.args.words.now c.args.asked c.in-Some.k c.index-words-k.result c.as_str.result.now c.in-Some.is (rw c.in-Some.is at c.requires.within) path }
