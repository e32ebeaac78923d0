use Rattle.csv_workers.proofs.AnswerFacts.{all-answers}
use Rattle.csv_workers.proofs.checked.check_by_workers.Goals as goal

pub are_all_text-requires : goal.are_all_text-requires
are_all_text-requires g c = all-answers c.args.bytes.now _ _ c.in_ok-checked.ensures.results
