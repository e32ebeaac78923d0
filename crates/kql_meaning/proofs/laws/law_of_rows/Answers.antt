use Rattle.kql_meaning.proofs.PartRowLaws.{expand_takes_each_row, parse_of_gathered, parse_takes_each_row}
use Rattle.kql_meaning.proofs.PlainFitLaws.{plain_where_fits}
use Rattle.kql_meaning.proofs.RowByRowLaws.{extend_of_gathered, extend_takes_each_row, plain_of_gathered, plain_reads_its_row, project_of_gathered, project_takes_each_row, where_of_gathered, where_takes_each_row}
use Rattle.kql_meaning.proofs.laws.law_of_rows.Goals as goal

pub returns : goal.returns
returns c = record {
  row = plain_reads_its_row;
  gathered = plain_of_gathered;
  fits = plain_where_fits;
  kept = where_of_gathered;
  extended = extend_of_gathered;
  projected = project_of_gathered;
  parsed = parse_of_gathered;
  kept_apart = where_takes_each_row;
  extended_apart = extend_takes_each_row;
  projected_apart = project_takes_each_row;
  parsed_apart = parse_takes_each_row;
  expanded_apart = expand_takes_each_row;
}
