use Rattle.kql_cells.specs.Table.{Grid}
use Rattle.live_run.proofs.RunLaws.{value_so}
use Rattle.live_run.proofs.question.query_value.Goals as goal

pub ask_value-requires : goal.ask_value-requires
ask_value-requires g c = record {
  stands =
      value_so g.V.Grows.grown g.K.Promise.promised (λ v. (t : Grid) × g.Q.Question.stands c.args.query.now t v) c.args.reader.now.opening c.snapshot.new.self.opening c.snapshot.new.self.batches c.in_ok-batches.field-0.value
      c.requires.asked c.in_ok-batches.ensures.same.0 c.in_ok-batches.ensures.promise c.in_ok-batches.ensures.value;
}
