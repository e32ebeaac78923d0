use denote.Param.Send.{sendable}
use Rattle.std.proofs.Crossing
use Rattle.crossing_laws.proofs.TableLaws.{table_sync}
use Rattle.csv_workers.proofs.AnswerFacts.{all-answers}
use Rattle.csv_workers.proofs.CrossingLaws.{printed_send}
use Rattle.csv_workers.proofs.printing.print_by_workers.Goals as goal

pub run_pieces-requires-send-T : goal.run_pieces-requires-send-T
run_pieces-requires-send-T g c κs within = search (printed_send, Crossing.crosses, sendable) depth 60 fits 20000

pub run_pieces-requires-sync-W : goal.run_pieces-requires-sync-W
run_pieces-requires-sync-W g c κs within = search (table_sync, Crossing.crosses, sendable) depth 60 fits 20000

pub returns : goal.returns
returns g c = record { of_table = all-answers c.args.t.now _ _ c.in_ok-printed.ensures.results }
