use Rattle.std.proofs.Common.{◌≡◌, Bor, map, arith}
use Rattle.std.proofs.lemmas.Grind.{common_steps}
use Rattle.kql_cells.specs.declared.dynamic.Dyn.{Dyn}
use Rattle.kql_dynamic.specs.Arrays.{array}
use Rattle.kql_dynamic.specs.Sets.{set_union}
use Rattle.kql_dynamic.proofs.ArrayFormLaws.{formed}
use Rattle.kql_dynamic.proofs.SetFormLaws.{union-form}
use Rattle.kql_dynamic.proofs.sets.set_union.Goals as goal

pub returns-clause-form : goal.returns-clause-form
returns-clause-form c =
    let args = map (λ (d : Bor Dyn). d.now) c.args.args.now in
    let e : array c.in_ok-list.list ≡ set_union args = grind (arith, common_steps) in
    formed _ _ e (union-form args c.requires.form)
