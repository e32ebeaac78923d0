use Rattle.std.proofs.Common.{◌∙◌, sym}
use Rattle.catalogue_file.proofs.JsonFacts.{columns-some}
use Rattle.catalogue_file.proofs.columns.read_columns.Goals as goal

pub returns-then-is_count : goal.returns-then-is_count
returns-then-is_count c =
    let within = sym c.is_count.ensures.count ∙ c.if-is_count.true in
    record { columns = rw (columns-some c.args.items.now within) c.push_columns.ensures.columns }
