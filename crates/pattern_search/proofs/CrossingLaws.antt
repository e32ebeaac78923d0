-- Threads may share a regular expression: each takes a search of its own. A tree, which holds itself, has no proof of its own that a search over other
-- types finds, so each type that holds one has its lemma here, as a row and as a field of another.
use denote.Param.Send.{IsSync, sendable}
use Rattle.std.proofs.Crossing
use Rattle.regex_hir.proofs.hir.Hir.TheLaws.TheKnot as knot
use Rattle.regex_hir.specs.contracts.hir.Hir as Hir
use Rattle.regex_meta.specs.contracts.plan.Plan as Plan
use Rattle.regex_meta.specs.contracts.signs.Signs as Signs
use Rattle.regex_meta.specs.contracts.program.Program as Program
use Rattle.regex.specs.contracts.string.regex.Regex as Regex
use Rattle.pattern_search.specs.contracts.regexes.RegexPattern as RegexPattern

hir_sync : IsSync Hir.the_row
hir_sync = search (knot.crosses, Crossing.crosses, sendable) depth 60 fits 20000

hir_field_sync : IsSync (Hir.the_field).row
hir_field_sync = search (knot.crosses, Crossing.crosses, sendable) depth 60 fits 20000

plan_sync : IsSync Plan.the_row
plan_sync = search (hir_sync, hir_field_sync, Crossing.crosses, sendable) depth 60 fits 20000

plan_field_sync : IsSync (Plan.the_field).row
plan_field_sync = search (plan_sync, hir_sync, hir_field_sync, Crossing.crosses, sendable) depth 60 fits 20000

signs_sync : IsSync Signs.the_row
signs_sync = search (hir_sync, hir_field_sync, Crossing.crosses, sendable) depth 60 fits 20000

signs_field_sync : IsSync (Signs.the_field).row
signs_field_sync = search (signs_sync, hir_sync, hir_field_sync, Crossing.crosses, sendable) depth 60 fits 20000

program_sync : IsSync Program.the_row
program_sync = search (hir_sync, hir_field_sync, plan_sync, plan_field_sync, signs_sync, signs_field_sync, Crossing.crosses, sendable) depth 60 fits 20000

program_field_sync : IsSync (Program.the_field).row
program_field_sync = search (program_sync, hir_sync, hir_field_sync, plan_sync, plan_field_sync, signs_sync, signs_field_sync, Crossing.crosses, sendable) depth 60 fits 20000

regex_sync : IsSync Regex.the_row
regex_sync = search (program_sync, program_field_sync, Crossing.crosses, sendable) depth 60 fits 20000

regex_field_sync : IsSync (Regex.the_field).row
regex_field_sync = search (regex_sync, program_sync, program_field_sync, Crossing.crosses, sendable) depth 60 fits 20000

pub regex_pattern_sync : IsSync RegexPattern.the_row
regex_pattern_sync = search (regex_sync, regex_field_sync, Crossing.crosses, sendable) depth 60 fits 20000
