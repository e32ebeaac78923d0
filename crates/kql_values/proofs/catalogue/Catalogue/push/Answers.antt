use Rattle.kql_values.proofs.CatalogueLaws.{distinct-push}
use Rattle.kql_values.proofs.catalogue.Catalogue.push.Goals as goal

pub invariant_of-self-2 : goal.invariant_of-self-2
invariant_of-self-2 c =
    distinct-push c.self.inside.tables c.push.new.self c.args.named c.self.invariant (rw (← c.self.view_is) at c.requires) c.in_ok-push.ensures.added
