use Rattle.std.proofs.Common.{◌≡◌, ◌≤◌, ◌<◌, ◌+◌, length}
use Rattle.kql_cells.specs.Values.{IsMoment}
use Rattle.kql_words.specs.Command.{texts}
use Rattle.kql_words.specs.Sizes.{size_top}
use Rattle.kql_words.specs.Options.{AreWorkers, IfGiven, asked_from, no_options, words_in}
use Rattle.kql_words.proofs.options.read_options.Given as goal

abbrev pub invariant-words : goal.invariant-words
invariant-words l = record {
  left : asked_from l.may_have_types l.number l.options (texts l.left) ≡ asked_from l.may_have_types 1 no_options (texts l.words);
  number : l.number ≡ 1 + words_in l.options;
  within : l.number + length l.left ≡ 1 + length l.words;
  moment : IfGiven IsMoment l.options.moment;
  workers : IfGiven AreWorkers l.options.workers;
  limit : IfGiven (λ n. n ≤ size_top) l.options.limit;
  catalogue : IfGiven (λ k. k < 1 + length l.words) l.options.catalogue;
}

abbrev pub decreases-words : goal.decreases-words
decreases-words l = length l.left
