use Rattle.std.proofs.Common.{◌≡◌, Bor, map, rules}
use Rattle.kql_cells.specs.declared.dynamic.Dyn.{Dyn}
use Rattle.kql_dynamic.specs.Arrays.{array, array_slice}
use Rattle.kql_dynamic.proofs.ArrayFormLaws.{formed, slice-form}
use Rattle.kql_dynamic.proofs.arrays.array_slice.Goals as goal

pub returns-clause-form : goal.returns-clause-form
returns-clause-form c =
    let args = map (λ (d : Bor Dyn). d.now) c.args.args.now in
    let e : array c.push_copies.new.list ≡ array_slice args = search rules in
    formed _ _ e (slice-form args c.requires.form)
