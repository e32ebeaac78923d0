use Rattle.std.proofs.Common.{◌≡◌, ◌<◌, Bor, None, Some, length, map, sym, arith}
use Rattle.std.proofs.lemmas.Grind.{common_steps}
use Rattle.kql_cells.specs.declared.dynamic.Dyn.{Dyn}
use Rattle.kql_dynamic.specs.Arrays.{array, array_concat, joined}
use Rattle.kql_dynamic.specs.Parts.{elements}
use Rattle.kql_dynamic.proofs.ArrayFormLaws.{concat-form, formed, joined-more, joined-none}
use Rattle.kql_dynamic.proofs.arrays.array_concat.Goals as goal

pub returns-in_default-clause-value : goal.returns-in_default-clause-value
returns-in_default-clause-value c =
    let lt : c.loop-d.d-index < length c.args.args.now = grind (arith, common_steps) in
    let none : elements c.d-item.result.now ≡ None = sym c.in_default.ensures in
    rw (joined-none c.args.args.now c.loop-d.d-index c.d-item.result lt c.d-item.is none)

pub loop-d-preserved : goal.loop-d-preserved
loop-d-preserved c =
    let lt : c.loop-d.d-index < length c.args.args.now = grind (arith, common_steps) in
    rw c.in_ok-push_copies.ensures (joined-more c.args.args.now c.loop-d.d-index c.d-item.result c.loop-d.all c.in-Some.parts.now lt c.d-item.is c.loop-d.invariant (sym c.in-Some.ensures))

pub returns-clause-form : goal.returns-clause-form
returns-clause-form c =
    let args = map (λ (d : Bor Dyn). d.now) c.args.args.now in
    let all : joined args ≡ Some c.loop-d.all = grind (arith, common_steps) in
    let e : array c.loop-d.all ≡ array_concat args = rw all in
    formed _ _ e (concat-form args c.requires)
