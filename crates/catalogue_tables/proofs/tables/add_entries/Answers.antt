use Rattle.std.proofs.Common.{◌≡◌, ◌≤◌, ◌+◌, ◌∷◌, ◌∙◌, ap, arith, length, None}
use Rattle.std.proofs.lemmas.Grind.{common_steps}
use Rattle.std.proofs.lemmas.Option.{MatchOption-at_none}
use Rattle.std.specs.Prelude.{map}
use Rattle.kql_cells.specs.Catalogues.{table_name}
use Rattle.catalogue_tables.specs.Entries.{entry_code}
use Rattle.catalogue_tables.specs.Tables.{after, entries_tables}
use Rattle.catalogue_tables.proofs.EntryFacts.{clean, first-clean, others-clean}
use Rattle.catalogue_tables.proofs.TableFacts.{entries-end, entries-next, entries-stop}
use Rattle.catalogue_tables.proofs.tables.add_entries.Goals as goal

pub add_entry-requires-clause-clean : goal.add_entry-requires-clause-clean
add_entry-requires-clause-clean g c κs within = first-clean (map table_name c.entries.tables) c.entries.count c.in-Some.entry.now c.in-Some.more.now c.entries.left.now c.in-Some.ensures.cases.0 c.entries.invariant.clean

pub returns-in_err-room-clause-tables : goal.returns-in_err-room-clause-tables
returns-in_err-room-clause-tables g c =
    entries-stop _ _ c.entries.count c.entries.room c.in-Some.entry.now c.in-Some.more.now c.entries.left.now c.entries.tables c.add_entry.new.tables (λ files. after c.args.tables (entries_tables files c.args.count c.args.room c.args.entries.now)) _ _
    c.in-Some.ensures.cases.0 c.entries.invariant.files c.in_err-room.ensures.table c.entries.invariant.left c.from_residual.ensures.1

pub overflow_add-count : goal.overflow_add-count
overflow_add-count g c =
    let none = first-clean (map table_name c.entries.tables) c.entries.count c.in-Some.entry.now c.in-Some.more.now c.entries.left.now c.in-Some.ensures.cases.0 c.entries.invariant.clean in
    let found = (clean (map table_name c.entries.tables) c.entries.count c.in-Some.entry.now none).files in
    let few : c.entries.count + c.len-count.result ≤ 256 = rw c.len-count.ensures.count found in
    grind (arith, few)

pub entries-preserved : goal.entries-preserved
entries-preserved g c =
    let left = c.in-Some.ensures.cases.0 in
    let none = first-clean (map table_name c.entries.tables) c.entries.count c.in-Some.entry.now c.in-Some.more.now c.entries.left.now left c.entries.invariant.clean in
    let found = (clean (map table_name c.entries.tables) c.entries.count c.in-Some.entry.now none).files in
    record {
      clean = rw c.len-count.ensures.count (others-clean (map table_name c.entries.tables) (map table_name c.add_entry.new.tables) c.entries.count c.in-Some.entry.now c.in-Some.more.now c.entries.left.now left c.in_ok-room.ensures.names c.entries.invariant.clean);
      few = rw c.len-count.ensures.count found;
      room = c.in_ok-room.ensures.room;
      files = c.in_ok-room.ensures.files ∙ c.entries.invariant.files;
      calls = c.in_ok-room.ensures.stops ∙ c.entries.invariant.calls;
      later = grind (arith, common_steps, c.in_ok-room.ensures.later);
      left = rw c.len-count.ensures.count (entries-next _ _ c.entries.count c.entries.room c.in_ok-room.room c.in-Some.entry.now c.in-Some.more.now c.entries.left.now c.entries.tables c.add_entry.new.tables (λ files. after c.args.tables (entries_tables files c.args.count c.args.room c.args.entries.now))
          left c.entries.invariant.files c.in_ok-room.ensures.table c.entries.invariant.left);
    }

pub returns-clause-tables : goal.returns-clause-tables
returns-clause-tables g c =
    entries-end _ c.entries.count c.entries.room c.entries.left.now c.entries.tables (λ files. after c.args.tables (entries_tables files c.args.count c.args.room c.args.entries.now))
    (MatchOption-at_none _ _ c.in_default.is c.split_first.ensures.cases) c.entries.invariant.left
