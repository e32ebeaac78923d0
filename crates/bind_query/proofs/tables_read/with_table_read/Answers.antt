use Rattle.std.proofs.Common.{◌≡◌, sym, subst}
use Rattle.std.specs.Prelude.{None}
use Rattle.bind_query.specs.TablesRead.{schema_named}
use Rattle.bind_query.proofs.ReadSteps.{absent-name}
use Rattle.bind_query.proofs.tables_read.with_table_read.Goals as goal

pub push-requires : goal.push-requires
push-requires c =
    absent-name c.args.made c.args.schemas.now c.args.name.now c.in-Some-schema_named.named.now c.in_ok-copy-in-Some-schema_named.copy
    (subst (λ m. schema_named m c.args.name.now ≡ None) c.schemas.ensures.schemas (sym c.in-None.ensures.schema))
    (sym c.in-Some-schema_named.ensures.schema) c.in_ok-copy-in-Some-schema_named.ensures.same
