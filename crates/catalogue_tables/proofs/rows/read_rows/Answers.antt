use Rattle.std.proofs.Common.{◌≡◌, ◌≤◌, ◌+◌, ◌∷◌, ◌∙◌, ap, arith, length, sym}
use Rattle.std.proofs.lemmas.Grind.{common_steps}
use Rattle.std.proofs.lemmas.Option.{MatchOption-at_none}
use Rattle.catalogue_tables.specs.Tables.{files_rows, no_rows}
use Rattle.catalogue_tables.proofs.CallFacts.{memory-stops, raised-stops, stops-behind}
use Rattle.catalogue_tables.proofs.RowFacts.{files-end, files-next, files-stop}
use Rattle.catalogue_tables.proofs.rows.read_rows.Goals as goal

pub returns-in_err-room-clause-rows : goal.returns-in_err-room-clause-rows
returns-in_err-room-clause-rows g c =
    files-stop _ _ c.files.number c.files.room c.as_str.result.now c.in-Some.more.now c.files.left.now c.files.table c.add_rows.new.table (λ files. files_rows files c.args.first c.args.room (no_rows c.args.entry.now.schema) c.args.entry.now.files) _ _
    (c.in-Some.ensures.cases.0 ∙ ap (λ path. path ∷ c.in-Some.more.now) (sym c.as_str.ensures.same)) c.files.invariant.files c.in_err-room.ensures.rows c.files.invariant.left c.from_residual-in_err-room.ensures.1

pub files-preserved : goal.files-preserved
files-preserved g c =
    let left = c.in-Some.ensures.cases.0 in
    let size = ap length left in
    let numbers = c.files.invariant.numbers in
    record {
      few = c.in_ok-room.ensures.few;
      numbers = omega (arith, size, numbers);
      files = c.in_ok-room.ensures.files ∙ c.files.invariant.files;
      calls = c.in_ok-room.ensures.stops ∙ c.files.invariant.calls;
      later = grind (arith, common_steps, c.in_ok-room.ensures.later);
      left = files-next _ _ c.files.number c.files.room c.in_ok-room.room c.as_str.result.now c.in-Some.more.now c.files.left.now c.files.table c.add_rows.new.table (λ files. files_rows files c.args.first c.args.room (no_rows c.args.entry.now.schema) c.args.entry.now.files)
          (left ∙ ap (λ path. path ∷ c.in-Some.more.now) (sym c.as_str.ensures.same)) c.files.invariant.files c.in_ok-room.ensures.rows c.files.invariant.left;
    }

pub returns-clause-rows : goal.returns-clause-rows
returns-clause-rows g c =
    files-end _ c.files.number c.files.room c.files.left.now c.files.table (λ files. files_rows files c.args.first c.args.room (no_rows c.args.entry.now.schema) c.args.entry.now.files)
    (MatchOption-at_none _ _ c.in_default.is c.split_first.ensures.cases) c.files.invariant.left
