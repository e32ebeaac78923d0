use Rattle.std.proofs.Common.{◌≤◌, length, arith}
use Rattle.csv_io.proofs.PartFacts.{first-none, first-read}
use Rattle.csv_io.proofs.first.read_first.Goals as goal

pub returns-then-start-bytes : goal.returns-then-start-bytes
returns-then-start-bytes c =
    let over : length c.as_bytes-bytes.result.now ≤ c.text_start-start.result = omega (arith, c.if-start-bytes.true) in
    first-none c.args.text.now c.as_bytes-bytes.result.now c.text_start-start.result c.as_bytes-bytes.ensures.value c.text_start-start.ensures.first over

pub returns : goal.returns
returns c =
    first-read c.args.text.now c.as_bytes-bytes.result.now c.text_start-start.result c.in_ok-end.end c.read.new.self c.as_bytes-bytes.ensures.value c.utf8.text c.text_start-start.ensures.first c.in_ok-end.ensures
