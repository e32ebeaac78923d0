use Rattle.std.proofs.Common.{◌≡◌, ◌<◌, ◌∙◌, true, [], length, map, get_or, sym, ap, arith}
use Rattle.std.proofs.lemmas.Grind.{common_steps}
use Rattle.std.proofs.lemmas.List.{length-map}
use Rattle.std.proofs.lemmas.List.Folds.{list_any_at}
use Rattle.std.specs.Prelude.{string_bytes}
use Rattle.std.specs.Str.{bytes_eq}
use Rattle.kql_words.specs.Command.{name_in, texts}
use Rattle.kql_words.proofs.CommandLaws.{name-at}
use Rattle.kql_words.proofs.command.has_name.Goals as goal

pub returns-then-eq : goal.returns-then-eq
returns-then-eq c =
    let words = c.args.words.now in
    let i = c.loop-word.word-index in
    let lt : i < length words = grind (arith, common_steps) in
    let inner = length-map words string_bytes in
    let outer = length-map (texts words) name_in in
    let within : i < length (map name_in (texts words)) = omega arith in
    let read : c.name_of.result.now ≡ get_or (map name_in (texts words)) i [] =
    c.name_of.ensures ∙ (ap name_in (c.as_str.ensures.value ∙ ap string_bytes c.word-item.is) ∙ sym (name-at words i c.word-item.result lt)) in
    let found : bytes_eq c.args.name.now (get_or (map name_in (texts words)) i []) ≡ true = rw (← read) (sym c.eq.ensures ∙ c.if-eq.true) in
    sym (list_any_at (bytes_eq c.args.name.now) (map name_in (texts words)) i [] within found)
