use Rattle.std.proofs.Common.{◌++◌, List, refl, sym, ap₂, ◌∙◌, subst, rules}
use Rattle.kql_cells.specs.Catalogues.{schema_name, schemas_of}
use Rattle.kql_cells.specs.Named.{HasDistinctNames}
use Rattle.kql_cells.specs.declared.schemas.NamedSchema.{NamedSchema}
use Rattle.kql_values.specs.Kept.{all_named}
use Rattle.kql_values.specs.declared.catalogue.Named.{Named}
use Rattle.pattern_run.proofs.Lifting.{distinct-schemas, distinct-tables, fits-at}
use Rattle.pattern_run.proofs.lift.lift.Goals as goal

pub from_items-schemas-requires : goal.from_items-schemas-requires
from_items-schemas-requires c =
    let all = c.in_ok-schemas.ensures.schemas ∙ ap₂ (λ (ss : List NamedSchema) (ts : List Named). ss ++ schemas_of (all_named ts)) c.schemas.ensures.schemas c.as_slice.ensures.items in
    subst (HasDistinctNames schema_name) (sym all)
    (distinct-schemas c.args.marks.now c.args.program.now (schemas_of c.args.catalogue) c.requires.ready (schemas_of (all_named c.args.tables)) c.requires.tables c.schemas.ensures.distinct)

pub with_tables-requires : goal.with_tables-requires
with_tables-requires c = record {
  distinct = distinct-tables c.args.marks.now c.args.program.now (schemas_of c.args.catalogue) c.requires.ready c.args.catalogue (all_named c.args.tables) refl c.requires.tables c.requires.names;
}

pub returns-clause-fits : goal.returns-clause-fits
returns-clause-fits c =
    fits-at c.args.marks.now c.args.program.now (schemas_of c.args.catalogue) c.requires.ready c.args.catalogue (all_named c.args.tables) _ _ refl c.requires.tables (search rules) (search rules)
