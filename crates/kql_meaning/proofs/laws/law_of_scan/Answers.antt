use Rattle.kql_meaning.proofs.ScanLaws.{scan_takes_every_row}
use Rattle.kql_meaning.proofs.SmallLaws.{scan_of_no_rows}
use Rattle.kql_meaning.proofs.laws.law_of_scan.Goals as goal

pub returns : goal.returns
returns c = record { none = scan_of_no_rows; every = scan_takes_every_row }
