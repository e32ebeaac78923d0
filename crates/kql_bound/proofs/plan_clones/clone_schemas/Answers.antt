use Rattle.std.proofs.Common.{sym, subst, arith}
use Rattle.kql_cells.specs.Catalogues.{schema_name}
use Rattle.kql_cells.specs.Named.{HasDistinctNames}
use Rattle.kql_bound.proofs.SchemaLemmas.{absent_in_copies}
use Rattle.kql_bound.proofs.plan_clones.clone_schemas.Goals as goal

pub push-requires : goal.push-requires
push-requires c =
    absent_in_copies c.schemas-named.result.now c.loop-i.copies c.loop-i.i c.index-named-i.result c.in_ok-copy.copy
    (subst (HasDistinctNames schema_name) (sym c.schemas-named.ensures.schemas) c.schemas-named.ensures.distinct) (omega arith) c.index-named-i.is c.in_ok-copy.ensures.same c.loop-i.invariant
