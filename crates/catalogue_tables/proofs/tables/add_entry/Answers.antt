use Rattle.std.proofs.Common.{◌≤◌, ◌+◌, arith, length}
use Rattle.kql_cells.specs.Catalogues.{table_name}
use Rattle.std.specs.Prelude.{map}
use Rattle.catalogue_tables.proofs.EntryFacts.{absent, clean}
use Rattle.catalogue_tables.proofs.tables.add_entry.Goals as goal

pub overflow_cast-first : goal.overflow_cast-first
overflow_cast-first g c =
    let few = (clean (map table_name c.args.tables.now) c.args.count c.args.entry.now c.requires.clean).files in
    let small : c.args.count ≤ 256 = omega (arith, few) in
    grind (arith, small)

pub overflow_add-first : goal.overflow_add-first
overflow_add-first g c =
    let few = (clean (map table_name c.args.tables.now) c.args.count c.args.entry.now c.requires.clean).files in
    let small : c.args.count + 2 ≤ 258 = omega (arith, few) in
    grind (arith, small)

pub read_rows-requires-clause-numbers : goal.read_rows-requires-clause-numbers
read_rows-requires-clause-numbers g c κs within =
    let few = (clean (map table_name c.args.tables.now) c.args.count c.args.entry.now c.requires.clean).files in
    omega (arith, few)

pub push-requires : goal.push-requires
push-requires g c =
    let fresh = (clean (map table_name c.args.tables.now) c.args.count c.args.entry.now c.requires.clean).fresh in
    rw c.in_ok-name.ensures.same (absent c.args.tables.now c.args.entry.now.name fresh)
