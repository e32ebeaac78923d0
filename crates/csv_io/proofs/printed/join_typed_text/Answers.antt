use Rattle.std.proofs.Common.{◌≡◌, ◌∙◌, arith, rules}
use Rattle.std.proofs.lemmas.Grind.{common_steps}
use Rattle.csv.specs.Records.{AllText}
use Rattle.csv_io.specs.Reload.{typed_text}
use Rattle.csv_io.specs.Text.{names_of}
use Rattle.csv_io.proofs.Reloaded.{typed-loads}
use Rattle.csv_io.proofs.printed.join_typed_text.Goals as goal

pub returns-clause-loads : goal.returns-clause-loads
returns-clause-loads c =
    let t = c.args.t.now in
    let text : c.from_vec.result ≡ typed_text t = first_of (search rules, grind (arith, common_steps)) in
    let columns = c.columns.ensures.columns ∙ c.schema.ensures.columns in
    let names : AllText (names_of t.columns) = rw columns at c.in_ok-push_typed_names.ensures.utf8 in
    let distinct = rw c.schema.ensures.columns at c.columns.ensures.distinct in
    typed-loads t c.from_vec.result text names distinct c.schema.ensures.fits c.in_ok-push_printed.ensures.back
