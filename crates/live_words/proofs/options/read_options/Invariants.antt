use Rattle.std.proofs.Common.{◌≡◌, ◌+◌, length}
use Rattle.kql_cells.specs.Values.{IsMoment}
use Rattle.kql_words.specs.Command.{texts}
use Rattle.live_words.specs.LiveOptionWords.{IfGiven, live_from, no_live_options, words_in}
use Rattle.live_words.specs.LiveReaders.{AreReaders}
use Rattle.live_words.proofs.options.read_options.Given as goal

abbrev pub invariant-words : goal.invariant-words
invariant-words l = record {
  left : live_from l.number l.options (texts l.left) ≡ live_from 1 no_live_options (texts l.words);
  number : l.number ≡ 1 + words_in l.options;
  within : l.number + length l.left ≡ 1 + length l.words;
  moment : IfGiven IsMoment l.options.moment;
  readers : IfGiven AreReaders l.options.readers;
}

abbrev pub decreases-words : goal.decreases-words
decreases-words l = length l.left
