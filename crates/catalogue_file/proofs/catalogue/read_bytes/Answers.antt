use Rattle.std.proofs.Common.{refl, subst, sym, ◌∙◌}
use Rattle.std.specs.Prelude.{Result}
use Rattle.catalogue_file.proofs.CatalogueFacts.{other-read, text-read}
use Rattle.catalogue_file.proofs.catalogue.read_bytes.Goals as goal
use Rattle.catalogue_file.specs.Catalogue.{Reads, text_tables, without_mark}

pub returns-in-Ok : goal.returns-in-Ok
returns-in-Ok c =
    let q = c.in-Ok.ensures.cases in
    rw (text-read c.args.bytes.now q.1, ← q.0, ← c.without_mark.ensures.rest) c.read_text.ensures

pub returns-in-Err : goal.returns-in-Err
returns-in-Err c =
    rw (other-read c.args.bytes.now c.in-Err.ensures.cases.0, c.refused.ensures, c.valid_up_to.ensures, c.in-Err.ensures.valid_len) refl
