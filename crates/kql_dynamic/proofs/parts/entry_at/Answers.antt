use Rattle.std.proofs.Common.{◌<◌, ◌≡◌, ◌∙◌, true, false, length, sym, arith}
use Rattle.std.proofs.lemmas.Grind.{common_steps}
use Rattle.std.specs.Str.{bytes_eq}
use Rattle.kql_dynamic.proofs.PartLaws.{entry_found, entry_passed}
use Rattle.kql_dynamic.proofs.parts.entry_at.Goals as goal

pub returns-then-eq : goal.returns-then-eq
returns-then-eq c =
    let lt : c.loop-entry.entry-index < length c.args.entries.now = grind (arith, common_steps) in
    let found : bytes_eq c.entry-item.result.0 c.args.n.now ≡ true = rw (← c.as_str.ensures.same) (sym c.eq.ensures ∙ c.if-eq.true) in
    sym (entry_found c.args.n.now c.args.entries.now c.loop-entry.entry-index c.entry-item.result lt c.entry-item.is c.loop-entry.invariant found)

pub loop-entry-preserved : goal.loop-entry-preserved
loop-entry-preserved c =
    let lt : c.loop-entry.entry-index < length c.args.entries.now = grind (arith, common_steps) in
    let passed : bytes_eq c.entry-item.result.0 c.args.n.now ≡ false = rw (← c.as_str.ensures.same) (sym c.eq.ensures ∙ c.if-eq.false) in
    entry_passed c.args.n.now c.args.entries.now c.loop-entry.entry-index c.entry-item.result lt c.entry-item.is c.loop-entry.invariant passed
