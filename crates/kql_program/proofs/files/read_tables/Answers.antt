use Rattle.std.proofs.Common.{◌≤◌, ◌<◌, ◌∙◌, [], ◌∷◌, ◌++◌, ap, arith, length, map, sym, take}
use Rattle.std.proofs.lemmas.Grind.{common_steps}
use Rattle.std.specs.Prelude.{option_map, string_bytes}
use Rattle.kql_words.specs.Command.{name_in, texts}
use Rattle.kql_words.proofs.CommandLaws.{names-more}
use Rattle.kql_program.proofs.TableFacts.{absent, all-few, clean, few-tables, few-words, told-catalogue, told-end, told-next, told-no_catalogue, told-stop}
use Rattle.kql_program.proofs.CallFacts.{raised-stops, stops-behind}
use Rattle.kql_program.proofs.StartFacts.{lead-catalogue, lead-end, lead-next, lead-stop}
use Rattle.kql_program.proofs.files.read_tables.Goals as goal

pub overflow_cast-number : goal.overflow_cast-number
overflow_cast-number g c =
    let few = few-words c.args.words.now c.loop-i.i c.requires.tables c.loop-i-test.true in
    grind (arith, common_steps)

pub overflow_add-number : goal.overflow_add-number
overflow_add-number g c =
    let few = few-words c.args.words.now c.loop-i.i c.requires.tables c.loop-i-test.true in
    grind (arith, common_steps)

pub add_table-requires-clause-names : goal.add_table-requires-clause-names
add_table-requires-clause-names g c κs within =
    let word = c.as_str.ensures.value ∙ ap string_bytes c.index-words-i.is in
    (clean c.args.words.now c.loop-i.i c.index-words-i.result c.as_str.result.now c.requires.tables c.loop-i-test.true word).names

pub add_table-requires-clause-fresh : goal.add_table-requires-clause-fresh
add_table-requires-clause-fresh g c κs within =
    let word = c.as_str.ensures.value ∙ ap string_bytes c.index-words-i.is in
    let fresh = (clean c.args.words.now c.loop-i.i c.index-words-i.result c.as_str.result.now c.requires.tables c.loop-i-test.true word).fresh in
    absent c.loop-i.tables (name_in c.as_str.result.now) (rw (← c.loop-i.invariant.names) at fresh)

pub returns-in_err-room-clause-tables : goal.returns-in_err-room-clause-tables
returns-in_err-room-clause-tables g c =
    let lt : c.loop-i.i < length c.args.words.now = grind (arith, common_steps) in
    let word = c.as_str.ensures.value ∙ ap string_bytes c.index-words-i.is in
    told-stop _ _ c.args.limit c.loop-i.i c.loop-i.room _ c.args.words.now c.index-words-i.result c.as_str.result.now c.loop-i.tables c.add_table.new.catalogue _ _ lt word c.loop-i.invariant.files c.in_err-room.ensures.table c.loop-i.invariant.left c.from_residual.ensures.1

pub loop-i-preserved : goal.loop-i-preserved
loop-i-preserved g c =
    let lt : c.loop-i.i < length c.args.words.now = grind (arith, common_steps) in
    let word = c.as_str.ensures.value ∙ ap string_bytes c.index-words-i.is in
    record {
      few = c.in_ok-room.ensures.few;
      names = c.in_ok-room.ensures.names ∙ (ap (λ names. names ++ name_in c.as_str.result.now ∷ []) c.loop-i.invariant.names
          ∙ (ap (λ name. map name_in (texts (take c.loop-i.i c.args.words.now)) ++ name_in name ∷ []) word ∙ sym (names-more c.args.words.now c.loop-i.i c.index-words-i.result lt)));
      files = c.in_ok-room.ensures.files ∙ c.loop-i.invariant.files;
      calls = c.in_ok-room.ensures.stops ∙ c.loop-i.invariant.calls;
      starts = lead-next _ _ _ c.args.limit c.loop-i.i c.loop-i.room c.in_ok-room.room c.args.words.now c.index-words-i.result c.as_str.result.now c.loop-i.tables c.add_table.new.catalogue _ _ _ lt word c.loop-i.invariant.files c.in_ok-room.ensures.table c.in_ok-room.ensures.starts c.loop-i.invariant.starts;
      later = grind (arith, common_steps, c.in_ok-room.ensures.later);
      left = told-next _ _ c.args.limit c.loop-i.i c.loop-i.room c.in_ok-room.room _ c.args.words.now c.index-words-i.result c.as_str.result.now c.loop-i.tables c.add_table.new.catalogue lt word c.loop-i.invariant.files c.in_ok-room.ensures.table c.loop-i.invariant.left;
    }

pub returns-in_err-room-clause-stops : goal.returns-in_err-room-clause-stops
returns-in_err-room-clause-stops g c = raised-stops _ _ _ _ c.from_residual.ensures.1 (stops-behind _ _ _ _ c.loop-i.invariant.calls c.in_err-room.ensures.stops)

pub catalogue_tables-requires-clause-few : goal.catalogue_tables-requires-clause-few
catalogue_tables-requires-clause-few g c κs within =
    let all = all-few c.args.words.now c.requires.tables in
    let few : c.loop-i.i ≤ 64 = grind (arith, common_steps, all) in
    few-tables c.args.words.now c.loop-i.i c.loop-i.tables few c.loop-i.invariant.names

pub returns-in_err-catalogue_tables-in-Some-clause-tables : goal.returns-in_err-catalogue_tables-in-Some-clause-tables
returns-in_err-catalogue_tables-in-Some-clause-tables g c =
    let over : length c.args.words.now ≤ c.loop-i.i = grind (arith, common_steps) in
    told-no_catalogue _ _ c.args.limit c.loop-i.i c.loop-i.room _ c.in-Some.path.now c.args.words.now c.loop-i.tables _ _ over c.loop-i.invariant.names (ap (option_map (λ path. path.now)) c.in-Some.is) c.loop-i.invariant.files
    c.in_err-catalogue_tables-in-Some.ensures.tables c.loop-i.invariant.left c.from_residual-in_err-catalogue_tables-in-Some.ensures.1

pub returns-in_ok-catalogue_tables-in-Some-clause-tables : goal.returns-in_ok-catalogue_tables-in-Some-clause-tables
returns-in_ok-catalogue_tables-in-Some-clause-tables g c =
    let over : length c.args.words.now ≤ c.loop-i.i = grind (arith, common_steps) in
    told-catalogue _ _ c.args.limit c.loop-i.i c.loop-i.room _ c.in-Some.path.now c.args.words.now c.loop-i.tables _ over c.loop-i.invariant.names (ap (option_map (λ path. path.now)) c.in-Some.is) c.loop-i.invariant.files
    c.in_ok-catalogue_tables-in-Some.ensures.tables c.loop-i.invariant.left

pub returns-in-None-clause-tables : goal.returns-in-None-clause-tables
returns-in-None-clause-tables g c =
    let over : length c.args.words.now ≤ c.loop-i.i = grind (arith, common_steps) in
    told-end _ c.args.limit c.loop-i.i c.loop-i.room _ c.args.words.now c.loop-i.tables over (ap (option_map (λ path. path.now)) c.in-None.is) c.loop-i.invariant.left

pub returns-in_err-room-clause-starts : goal.returns-in_err-room-clause-starts
returns-in_err-room-clause-starts g c =
    let lt : c.loop-i.i < length c.args.words.now = grind (arith, common_steps) in
    lead-stop _ _ c.args.limit c.loop-i.i c.loop-i.room c.args.words.now _ _ _ lt c.in_err-room.ensures.starts c.loop-i.invariant.starts

pub returns-in_err-catalogue_tables-in-Some-clause-starts : goal.returns-in_err-catalogue_tables-in-Some-clause-starts
returns-in_err-catalogue_tables-in-Some-clause-starts g c =
    let over : length c.args.words.now ≤ c.loop-i.i = grind (arith, common_steps) in
    lead-catalogue _ _ _ c.in-Some.path.now c.args.limit c.loop-i.i c.loop-i.room c.args.words.now c.loop-i.tables _ _ _ over c.loop-i.invariant.names (ap (option_map (λ path. path.now)) c.in-Some.is) c.loop-i.invariant.files
    c.in_err-catalogue_tables-in-Some.ensures.starts c.loop-i.invariant.starts

pub returns-in_ok-catalogue_tables-in-Some-clause-starts : goal.returns-in_ok-catalogue_tables-in-Some-clause-starts
returns-in_ok-catalogue_tables-in-Some-clause-starts g c =
    let over : length c.args.words.now ≤ c.loop-i.i = grind (arith, common_steps) in
    lead-catalogue _ _ _ c.in-Some.path.now c.args.limit c.loop-i.i c.loop-i.room c.args.words.now c.loop-i.tables _ _ _ over c.loop-i.invariant.names (ap (option_map (λ path. path.now)) c.in-Some.is) c.loop-i.invariant.files
    c.in_ok-catalogue_tables-in-Some.ensures.starts c.loop-i.invariant.starts

pub returns-in-None-clause-starts : goal.returns-in-None-clause-starts
returns-in-None-clause-starts g c =
    let over : length c.args.words.now ≤ c.loop-i.i = grind (arith, common_steps) in
    lead-end _ _ c.args.limit c.loop-i.i c.loop-i.room c.args.words.now _ _ over c.loop-i.invariant.starts
