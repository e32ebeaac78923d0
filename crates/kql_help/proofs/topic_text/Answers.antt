-- The text is that of the first family that has the topic, one family after another.
use Rattle.kql_help.specs.Index.{topics}
use Rattle.kql_help.proofs.FamilyLaws.{found_in_both, in_family}
use Rattle.kql_help.proofs.topic_text.Goals as goal

pub returns : goal.returns
unfolding topics
returns c =
    let one = in_family _ _ _ _ c.text_in.ensures c.overview.ensures in
    let two = found_in_both _ _ _ _ _ _ one (in_family _ _ _ _ c.text_in-2.ensures c.shell.ensures) c.or.ensures in
    let three = found_in_both _ _ _ _ _ _ two (in_family _ _ _ _ c.text_in-3.ensures c.queries.ensures) c.or-2.ensures in
    let four = found_in_both _ _ _ _ _ _ three (in_family _ _ _ _ c.text_in-4.ensures c.operators.ensures) c.or-3.ensures in
    let five = found_in_both _ _ _ _ _ _ four (in_family _ _ _ _ c.text_in-5.ensures c.functions.ensures) c.or-4.ensures in
    let six = found_in_both _ _ _ _ _ _ five (in_family _ _ _ _ c.text_in-6.ensures c.values.ensures) c.or-5.ensures in
    let seven = found_in_both _ _ _ _ _ _ six (in_family _ _ _ _ c.text_in-7.ensures c.rows.ensures) c.or-6.ensures in
    let eight = found_in_both _ _ _ _ _ _ seven (in_family _ _ _ _ c.text_in-8.ensures c.word_codes.ensures) c.or-7.ensures in
    let nine = found_in_both _ _ _ _ _ _ eight (in_family _ _ _ _ c.text_in-9.ensures c.query_codes.ensures) c.or-8.ensures in
    let ten = found_in_both _ _ _ _ _ _ nine (in_family _ _ _ _ c.text_in-10.ensures c.name_codes.ensures) c.or-9.ensures in
    record { text = found_in_both _ _ _ _ _ _ ten (in_family _ _ _ _ c.text_in-11.ensures c.file_codes.ensures) c.or-10.ensures }
