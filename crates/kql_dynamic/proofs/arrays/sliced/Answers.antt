use Rattle.std.proofs.Common.{rules}
use mir.Val.{SFits}
use mir.Syntax.{w64}
use Rattle.std.proofs.lemmas.Int.{to_z-of_z}
use Rattle.kql_dynamic.proofs.ArrayFormLaws.{slice-cut}
use Rattle.kql_dynamic.proofs.arrays.sliced.Goals as goal

pub returns : goal.returns
returns c =
    let end_fits : SFits w64 c.from_start.result = search rules in
    let start_fits : SFits w64 c.from_start-2.result = search rules in
    let behind = rw (to_z-of_z w64 c.from_start.result end_fits, c.from_start.ensures, to_z-of_z w64 c.args.end c.ranges.end) at c.place_behind.ensures in
    let first = rw (to_z-of_z w64 c.from_start-2.result start_fits, c.from_start-2.ensures, to_z-of_z w64 c.args.start c.ranges.start) at c.at_or_after_first.ensures in
    rw (c.min-first.ensures, c.min-behind.ensures, behind, first) (slice-cut c.args.parts.now _ _)
