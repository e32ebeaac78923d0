use Rattle.catalogue_file.proofs.JsonFacts.{files-some}
use Rattle.catalogue_file.proofs.entry.read_files.Goals as goal

pub returns-else-items-eq0 : goal.returns-else-items-eq0
returns-else-items-eq0 c = record { files = rw (files-some c.args.items.now c.if-items-eq0.false) c.push_files.ensures.files }
