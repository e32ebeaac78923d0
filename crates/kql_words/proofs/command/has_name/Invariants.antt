use Rattle.std.proofs.Common.{◌≡◌, false, map, take}
use Rattle.std.specs.List.{list_any}
use Rattle.std.specs.Str.{bytes_eq}
use Rattle.kql_words.specs.Command.{name_in, texts}
use Rattle.kql_words.proofs.command.has_name.Given as goal

abbrev pub invariant-loop-word : goal.invariant-loop-word
invariant-loop-word l = list_any (bytes_eq l.name) (map name_in (texts (take l.word-index l.words))) ≡ false
