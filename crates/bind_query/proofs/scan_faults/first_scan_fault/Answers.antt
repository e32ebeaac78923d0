use Rattle.std.proofs.Common.{rules}
use Rattle.bind_query.proofs.ScanLaws.{fault_steps}
use Rattle.bind_query.specs.Scan.{scan_faults}
use Rattle.bind_query.proofs.scan_faults.first_scan_fault.Goals as goal

pub returns-in-Err : goal.returns-in-Err
unfolding scan_faults
returns-in-Err c = record { exact = search (rules, fault_steps) }

pub returns-in-Err-step_names_once : goal.returns-in-Err-step_names_once
unfolding scan_faults
returns-in-Err-step_names_once c = record { exact = search (rules, fault_steps) }
