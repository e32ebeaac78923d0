use Rattle.std.proofs.Common.{◌≡◌, ◌+◌, length}
use Rattle.kql_words.specs.Command.{texts}
use Rattle.kql_words.specs.Refusals.{◌>>=◌}
use Rattle.kql_shell.specs.Asked.{all_taken, finished, request_of}
use Rattle.kql_shell.proofs.reader.read_request.Given as goal

abbrev pub invariant-words : goal.invariant-words
invariant-words l = record {
  left : (all_taken l.number (texts l.left) l.reader >>= finished (length l.words)) ≡ request_of l.fn.verb (texts l.words);
  within : l.number + length l.left ≡ length l.words;
}

abbrev pub decreases-words : goal.decreases-words
decreases-words l = length l.left
