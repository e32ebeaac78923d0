use Rattle.std.proofs.Common.{◌≤◌, ◌<◌, ◌+◌, arith, length}
use Rattle.catalogue_tables.proofs.CallFacts.{raised-stops}
use Rattle.catalogue_tables.proofs.FileFacts.{too-long, unread, whole}
use Rattle.catalogue_tables.proofs.files.read_within.Goals as goal

pub returns-in_err-bytes-clause-bytes : goal.returns-in_err-bytes-clause-bytes
returns-in_err-bytes-clause-bytes g c = unread _ c.args.number c.args.code c.args.top (c.args.top + 1) c.args.path.now _ _ c.in_err-bytes.ensures.front c.from_residual.ensures.1

pub returns-then-len-top-clause-bytes : goal.returns-then-len-top-clause-bytes
returns-then-len-top-clause-bytes g c =
    let over : c.args.top < length c.in_ok-bytes.bytes = omega (arith, c.len.ensures.count) in
    too-long _ c.args.number c.args.code c.args.top c.args.path.now c.in_ok-bytes.bytes c.in_ok-bytes.ensures.front over

pub returns-clause-bytes : goal.returns-clause-bytes
returns-clause-bytes g c =
    let upto : length c.in_ok-bytes.bytes ≤ c.args.top = omega (arith, c.len.ensures.count) in
    whole _ c.args.number c.args.code c.args.top c.args.path.now c.in_ok-bytes.bytes c.in_ok-bytes.ensures.front upto

pub returns-in_err-bytes-clause-stops : goal.returns-in_err-bytes-clause-stops
returns-in_err-bytes-clause-stops g c = raised-stops _ _ _ _ c.from_residual.ensures.1 c.in_err-bytes.ensures.stops
