use Rattle.std.proofs.Common.{ap, sym, Ok, rules}
use mir.Val.{SFits}
use mir.Syntax.{w64}
use Rattle.std.proofs.lemmas.Int.{to_z-of_z}
use Rattle.kql_dynamic.proofs.ArrayFormLaws.{index-value}
use Rattle.kql_dynamic.proofs.arrays.array_index_of.Goals as goal

pub returns-in-Some-clause-value : goal.returns-in-Some-clause-value
returns-in-Some-clause-value c =
    let fits : SFits w64 c.place_in.result = search rules in
    rw (to_z-of_z w64 c.place_in.result fits) (ap Ok (rw (c.argument.ensures, c.argument-in-Some.ensures) at (index-value c.argument.result.now c.argument-in-Some.result.now c.in-Some.parts.now c.place_in.result (sym c.in-Some.ensures) c.place_in.ensures)))
