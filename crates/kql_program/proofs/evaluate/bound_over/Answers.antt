use Rattle.kql_program.proofs.JudgedFacts.{over-judged, over-made, over-unbound}
use Rattle.kql_program.proofs.BoundFacts.{lifted-over, over-fault, over-stop}
use Rattle.kql_program.proofs.PatternFacts.{made-pattern, never-blames, raised-pattern, stopped-pattern}
use Rattle.kql_program.proofs.WordFacts.{pattern-words, raised-words, stopped-words}
use Rattle.pattern_run.specs.declared.lifted.Lifted.{Lifted}
use Rattle.kql_program.proofs.evaluate.bound_over.Goals as goal

pub returns-in_err-program-clause-bound : goal.returns-in_err-program-clause-bound
returns-in_err-program-clause-bound g c = over-stop _ c.args.tokens.now c.args.query.now c.args.moment c.args.catalogue _ _ c.from_residual.ensures.1 c.in_err-program.ensures.program

pub returns-in_err-lifted-clause-bound : goal.returns-in_err-lifted-clause-bound
returns-in_err-lifted-clause-bound g c =
    over-fault _ c.args.tokens.now c.args.query.now c.args.moment c.args.catalogue _ _ _ c.from_residual-in_err-lifted.ensures.1 c.in_ok-program.ensures.program c.in_err-lifted.ensures.lifted

pub returns-clause-bound : goal.returns-clause-bound
returns-clause-bound g c = lifted-over _ c.args.tokens.now c.args.query.now c.args.moment c.args.catalogue _ _ c.in_ok-program.ensures.program c.in_ok-lifted.ensures.lifted

pub returns-in_err-program-clause-pattern : goal.returns-in_err-program-clause-pattern
returns-in_err-program-clause-pattern g c = raised-pattern _ _ _ c.from_residual.ensures.1 (never-blames _ _ (stopped-pattern ⊥ _ c.in_err-program.ensures.patterns))

pub returns-in_err-lifted-clause-pattern : goal.returns-in_err-lifted-clause-pattern
returns-in_err-lifted-clause-pattern g c = raised-pattern _ _ _ c.from_residual-in_err-lifted.ensures.1 (made-pattern Lifted _ _ _ c.in_err-lifted.ensures.counted)

pub returns-in_err-program-clause-words : goal.returns-in_err-program-clause-words
returns-in_err-program-clause-words g c = raised-words _ _ c.from_residual.ensures.1 (stopped-words _ c.in_err-program.ensures.words)

pub returns-in_err-lifted-clause-words : goal.returns-in_err-lifted-clause-words
returns-in_err-lifted-clause-words g c = raised-words _ _ c.from_residual-in_err-lifted.ensures.1 (pattern-words _)

pub returns-in_err-program-clause-judged : goal.returns-in_err-program-clause-judged
returns-in_err-program-clause-judged g c = over-unbound g.P.PatternMaker.makes g.P.PatternMaker.refuses c.args.query.now c.args.moment c.args.catalogue _ _ c.from_residual.ensures.1 (stopped-pattern ⊥ _ c.in_err-program.ensures.patterns)

pub returns-in_err-lifted-clause-judged : goal.returns-in_err-lifted-clause-judged
returns-in_err-lifted-clause-judged g c = over-judged g.P.PatternMaker.makes g.P.PatternMaker.refuses c.args.query.now c.args.moment c.args.catalogue _ _ _ c.from_residual-in_err-lifted.ensures.1 c.in_ok-program.ensures.program c.in_err-lifted.ensures.judged

pub returns-clause-judged : goal.returns-clause-judged
returns-clause-judged g c = over-made g.P.PatternMaker.makes g.P.PatternMaker.refuses c.args.query.now c.args.moment c.args.catalogue _ c.in_ok-program.ensures.program c.in_ok-lifted.ensures.judged
