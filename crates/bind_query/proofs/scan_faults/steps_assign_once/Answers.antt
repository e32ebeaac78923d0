use Rattle.bind_query.proofs.ScanLaws.{step-late}
use Rattle.bind_query.proofs.scan_faults.steps_assign_once.Goals as goal

pub returns-then-before-ge64 : goal.returns-then-before-ge64
returns-then-before-ge64 c = record { exact = step-late _ _ _ _ _ _ _ c.in-Some.ensures.cases.0 c.name_place.ensures.place c.if-before-ge64.true c.each.invariant }
