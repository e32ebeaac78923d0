use Rattle.std.proofs.Common.{◌<◌, ◌∙◌, ap, arith, length, sym}
use Rattle.std.proofs.lemmas.Grind.{common_steps}
use Rattle.std.specs.Prelude.{string_bytes}
use Rattle.kql_words.proofs.UnlessFacts.{raised-refusal}
use Rattle.kql_words.proofs.CommandLaws.{check-fault, check-next}
use Rattle.kql_words.proofs.command.check_tables.Goals as goal

pub returns-in_err-check_table : goal.returns-in_err-check_table
returns-in_err-check_table c =
    let words = c.args.words.now in
    let i = c.loop-i.i in
    let lt : i < length words = grind (arith, common_steps) in
    let word = c.as_str.ensures.value ∙ ap string_bytes c.index-words-i.is in
    let fault = check-fault words c.args.first i c.index-words-i.result c.as_str.result.now c.in_err-check_table.field-0.0 _ lt word c.in_err-check_table.ensures.checked c.loop-i.invariant.left in
    record { checked = raised-refusal _ c.from_residual.result c.in_err-check_table.field-0.0 c.from_residual.ensures.1 (sym fault) }

pub loop-i-preserved : goal.loop-i-preserved
loop-i-preserved c =
    let words = c.args.words.now in
    let i = c.loop-i.i in
    let lt : i < length words = grind (arith, common_steps) in
    let word = c.as_str.ensures.value ∙ ap string_bytes c.index-words-i.is in
    record {
      few = grind (arith, common_steps);
      left = check-next words c.args.first i c.index-words-i.result c.as_str.result.now _ lt word c.in_ok-check_table.ensures.checked c.loop-i.invariant.left;
    }
