use denote.Param.Send.{sendable}
use Rattle.std.proofs.Crossing
use Rattle.csv_workers.proofs.AnswerFacts.{all-answers}
use Rattle.csv_workers.proofs.CrossingLaws.{piece_send}
use Rattle.csv_workers.proofs.loading.rows_by_workers.Goals as goal

pub run_pieces-requires-send-T : goal.run_pieces-requires-send-T
run_pieces-requires-send-T g c κs within = search (piece_send, Crossing.crosses, sendable) depth 60 fits 20000

pub stack-requires : goal.stack-requires
stack-requires g c = record { of_text = all-answers c.args.head _ _ c.in_ok-read.ensures.results }
