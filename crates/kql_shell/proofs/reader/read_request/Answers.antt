use Rattle.std.proofs.Common.{ap, arith, length, sym}
use Rattle.std.proofs.lemmas.Option.{MatchOption-at_none}
use Rattle.kql_shell.proofs.ReadsLaws.{all-read, one-read, one-refused, raised}
use Rattle.kql_shell.proofs.reader.read_request.Goals as goal

pub returns-in_err-reader : goal.returns-in_err-reader
returns-in_err-reader c = record {
  read = raised _ c.from_residual.result c.in_err-reader.field-0.0 c.from_residual.ensures.1
      (one-refused c.words.number (length c.args.words.now) c.words.left.now c.in-Some.more.now _ c.as_str.result.now c.words.reader _ _ c.in-Some.ensures.cases.0 (sym c.as_str.ensures.value) c.words.invariant.left c.in_err-reader.ensures);
}

pub words-preserved : goal.words-preserved
words-preserved c = record {
  left = one-read c.words.number (length c.args.words.now) c.words.left.now c.in-Some.more.now _ c.as_str.result.now c.words.reader c.in_ok-reader.reader _ c.in-Some.ensures.cases.0 (sym c.as_str.ensures.value) c.words.invariant.left c.in_ok-reader.ensures;
  within = omega (arith, c.words.invariant.within, ap length c.in-Some.ensures.cases.0);
}

pub returns : goal.returns
returns c = record {
  read = all-read c.words.number (length c.args.words.now) c.words.left.now c.words.reader _ c.finish.result (MatchOption-at_none _ _ c.in_default.is c.split_first.ensures.cases) c.words.invariant.left c.finish.ensures;
}
