use Rattle.std.proofs.Common.{◌∙◌, All, ap, arith, length, refl, subst, sym}
use Rattle.std.proofs.lemmas.Grind.{common_steps}
use Rattle.std.proofs.lemmas.List.Elements.{All-nil, All-push}
use Rattle.std.proofs.lemmas.Option.{MatchOption-at_none}
use Rattle.live_tables.specs.Growing.{has_columns_of}
use Rattle.kql_program.proofs.CallFacts.{raised-stops, stops-behind}
use Rattle.kql_program.proofs.WordFacts.{raised-words, stopped-words}
use Rattle.kql_live.proofs.LiveFileFacts.{told-begin, told-end, told-next, told-stop}
use Rattle.kql_live.proofs.files.read_batches.Goals as goal

pub files-init : goal.files-init
files-init g c =
    let fits = has_columns_of c.args.opening.now in
    let none = c.new-batches.ensures.empty in
    let size = ap length none in
    record {
      spare = c.requires.room;
      number = refl;
      count = omega (arith, size);
      columns = subst (All fits) (sym none) (All-nil fits);
      told = refl;
      calls = refl;
      later = omega arith;
      rest = told-begin _ c.args.opening.now.columns c.args.room c.args.paths.now _ none;
    }

pub returns-in_err-batch-clause-batches : goal.returns-in_err-batch-clause-batches
returns-in_err-batch-clause-batches g c =
    let word = c.as_str.ensures.value in
    told-stop _ _ c.args.opening.now.columns c.files.number c.files.spare c.args.room c.files.left.now c.in-Some.more.now c.args.paths.now c.in-Some.path.now c.as_str.result.now c.files.batches _ _
    c.in-Some.ensures.cases.0 word c.files.invariant.told c.in_err-batch.ensures.batch c.files.invariant.rest c.from_residual.ensures.1

pub returns-in_err-batch-clause-words : goal.returns-in_err-batch-clause-words
returns-in_err-batch-clause-words g c = raised-words _ _ c.from_residual.ensures.1 (stopped-words _ c.in_err-batch.ensures.words)

pub returns-in_err-batch-clause-stops : goal.returns-in_err-batch-clause-stops
returns-in_err-batch-clause-stops g c = raised-stops _ _ _ _ c.from_residual.ensures.1 (stops-behind _ _ _ _ c.files.invariant.calls c.in_err-batch.ensures.stops)

pub files-preserved : goal.files-preserved
files-preserved g c =
    let word = c.as_str.ensures.value in
    let is = c.in-Some.ensures.cases.0 in
    let fits = has_columns_of c.args.opening.now in
    let more = c.in_ok-push.ensures.added in
    record {
      spare = c.in_ok-batch.ensures.room;
      number = grind (arith, common_steps);
      count = grind (arith, common_steps);
      columns = subst (All fits) (sym more) (All-push fits c.files.batches c.in_ok-batch.batch c.files.invariant.columns c.in_ok-batch.ensures.columns);
      told = c.in_ok-batch.ensures.files ∙ c.files.invariant.told;
      calls = c.in_ok-batch.ensures.stops ∙ c.files.invariant.calls;
      later = grind (arith, common_steps);
      rest =
          told-next _ _ c.args.opening.now.columns c.files.number c.files.spare c.in_ok-batch.less c.args.room c.files.left.now c.in-Some.more.now c.args.paths.now c.in-Some.path.now c.as_str.result.now c.in_ok-batch.batch c.files.batches c.push.new.self
          is word c.files.invariant.told c.in_ok-batch.ensures.batch more c.files.invariant.rest;
    }

pub returns-clause-batches : goal.returns-clause-batches
returns-clause-batches g c =
    told-end _ c.args.opening.now.columns c.files.number c.files.spare c.args.room c.files.left.now c.args.paths.now c.files.batches (MatchOption-at_none _ _ c.in_default.is c.split_first.ensures.cases) c.files.invariant.rest
