use Rattle.std.proofs.Common.{◌≡◌, ◌++◌, flat_map, take}
use Rattle.kql_words.specs.Command.{texts}
use Rattle.kql_shell.specs.RunTexts.{file_number, file_word}
use Rattle.kql_shell.proofs.call_words.push_files.Given as goal

abbrev pub invariant-loop-number : goal.invariant-loop-number
invariant-loop-number l = record {
  words : texts l.made.words.items ≡ texts l.initial.made.words.items ++ flat_map (file_word (texts l.words)) (take l.number-index l.files);
  origins : l.made.origins.items ≡ l.initial.made.origins.items ++ flat_map (file_number (texts l.words)) (take l.number-index l.files);
}
