use Rattle.std.proofs.Common.{Some, FitsSigned, w64, ap, arith}
use Rattle.std.proofs.lemmas.Int.{ints, to_z-of_z}
use Rattle.kql_ticks.proofs.BackLemmas.{moment_back, size_is}
use Rattle.kql_ticks.proofs.ByteLemmas.{moment-bytes}
use Rattle.kql_ticks.proofs.printing.push_moment.Goals as goal

pub returns-in_err-reserve-clause-bytes : goal.returns-in_err-reserve-clause-bytes
returns-in_err-reserve-clause-bytes c = moment-bytes _

pub returns-clause-read_back : goal.returns-clause-read_back
returns-clause-read_back c =
    let n = c.ticks-ticks.result in
    let fits : FitsSigned w64 c.args.x = c.ranges.x in
    let size = simp to_z-of_z at c.ticks-ticks.ensures.value in
    rw (← size, moment_back n (omega (arith, ints, c.requires, size)) c.append_moment.ensures.date) (ap Some (size_is c.args.x n c.requires.0 size))

pub returns-clause-bytes : goal.returns-clause-bytes
returns-clause-bytes c = moment-bytes _
