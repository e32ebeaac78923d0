use Rattle.catalogue_file.proofs.CatalogueFacts.{text-none, text-some}
use Rattle.std.proofs.Common.{refl}
use Rattle.catalogue_file.proofs.catalogue.read_text.Goals as goal

pub returns-in-Some : goal.returns-in-Some
returns-in-Some c = text-some c.args.text.now _ c.in-Some.json _ c.in_ok-json.ensures.data c.in-Some.is c.read_data.ensures

pub returns-in-None : goal.returns-in-None
returns-in-None c = rw (text-none c.args.text.now _ c.in_ok-json.ensures.data c.in-None.is, c.refused.ensures) refl
