use Rattle.std.proofs.Common.{◌<◌, ◌≤◌, length, arith}
use Rattle.kql_texts.proofs.TermFacts.{IsBorder-at}
use Rattle.kql_texts.proofs.terms.is_border.Goals as goal

pub returns-else-at-bytes : goal.returns-else-at-bytes
returns-else-at-bytes c =
    let some : 0 < c.args.at = omega arith in
    let within : c.args.at ≤ length c.args.bytes.now = omega arith in
    IsBorder-at c.args.bytes.now c.args.at _ some within c.are_joined.ensures
