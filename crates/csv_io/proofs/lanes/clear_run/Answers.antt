use Rattle.std.proofs.Common.{refl, arith}
use Rattle.std.proofs.lemmas.Simd.{zip2_splat, length-chunk}
use lib.Lanes.{chunk}
use Rattle.csv_io.specs.Runs.{is_clear}
use Rattle.csv_io.proofs.LaneFacts.{joined, run-of}
use Rattle.csv_io.proofs.lanes.clear_run.Goals as goal

pub returns : goal.returns
returns c =
    let v = chunk c.args.at 16 c.args.text.now in
    let long = length-chunk c.args.at 16 c.args.text.now c.requires in
    run-of is_clear c.args.text.now c.args.at 16 _ _ c.requires (omega arith) c.type_inv.text c.first_set.ensures _
    (joined _ _ _ v (joined _ _ _ v (zip2_splat _ v 16 44 long) (zip2_splat _ v 16 34 long)) (joined _ _ _ v (zip2_splat _ v 16 13 long) (zip2_splat _ v 16 10 long))) refl
