use Rattle.std.proofs.Common.{◌≡◌, true}
use Rattle.catalogue_file.specs.Catalogue.{has_mark}
use Rattle.catalogue_file.proofs.CatalogueFacts.{marked}
use Rattle.catalogue_file.proofs.catalogue.without_mark.Goals as goal

pub range_from-requires : goal.range_from-requires
range_from-requires c =
    let found : has_mark c.args.text.now ≡ true = rw (← c.as_bytes.ensures.value, ← c.has_mark.ensures.mark) c.if-has_mark.true in
    λ _. marked c.args.text.now c.utf8.text found
