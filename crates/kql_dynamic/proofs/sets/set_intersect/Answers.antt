use Rattle.std.proofs.Common.{◌≡◌, Bor, map, arith}
use Rattle.std.proofs.lemmas.Grind.{common_steps}
use Rattle.kql_cells.specs.declared.dynamic.Dyn.{Dyn}
use Rattle.kql_dynamic.specs.Arrays.{array}
use Rattle.kql_dynamic.specs.Sets.{set_intersect}
use Rattle.kql_dynamic.proofs.ArrayFormLaws.{formed}
use Rattle.kql_dynamic.proofs.SetFormLaws.{intersect-form}
use Rattle.kql_dynamic.proofs.sets.set_intersect.Goals as goal

pub returns-clause-form : goal.returns-clause-form
returns-clause-form c =
    let args = map (λ (d : Bor Dyn). d.now) c.args.args.now in
    let e : array c.in_ok-list.list ≡ set_intersect args = grind (arith, common_steps) in
    formed _ _ e (intersect-form args c.requires.form)
