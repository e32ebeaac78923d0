use Rattle.kql_program.proofs.MemoryFacts.{clean-ends, files-of}
use Rattle.kql_program.proofs.memory.kql_in_memory.Goals as goal

pub returns : goal.returns
returns g c = record { files = files-of _ _ c.kql.ensures.files; patterns = c.kql.ensures.patterns; outcome = c.kql.ensures.outcome; answers = λ room. clean-ends _ _ _ _ _ _ _ _ _ _ c.kql.ensures.outcome.ends room; workers = c.kql.ensures.workers; one = c.kql.ensures.one; judged = c.kql.ensures.judged }
