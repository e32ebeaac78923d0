use Rattle.std.proofs.Common.{sym, ◌∙◌}
use Rattle.kql_values.proofs.CatalogueLaws.{absent-named, place-named}
use Rattle.kql_values.proofs.catalogue.Catalogue.find.Goals as goal

pub returns-clause-place : goal.returns-clause-place
returns-clause-place c = rw (← c.self.view_is) (c.find_named.ensures.place ∙ sym (place-named c.args.name.now c.self.inside.tables))

pub returns-clause-absent : goal.returns-clause-absent
returns-clause-absent c =
    let seen = absent-named c.args.name.now c.self.inside.tables in
    let found = c.find_named.ensures.absent in
    rw (← c.self.view_is) (λ e. seen.0 (found.0 e), λ h. found.1 (seen.1 h))
