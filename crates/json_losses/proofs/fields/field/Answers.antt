use Rattle.csv.specs.Records.{fields_of}
use Rattle.json_losses.proofs.FieldFacts.{found, found-value}
use Rattle.json_losses.proofs.fields.field.Goals as goal

pub unwrap-requires : goal.unwrap-requires
unwrap-requires c = found c.get.result (fields_of c.args.row.now) c.args.j c.get.ensures.value c.requires

pub returns : goal.returns
returns c = found-value c.get.result c.unwrap.result (fields_of c.args.row.now) c.args.j c.get.ensures.value c.requires c.unwrap.ensures
