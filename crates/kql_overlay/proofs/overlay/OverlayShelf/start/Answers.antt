use Rattle.kql_overlay.proofs.AboveFacts.{started-below}
use Rattle.kql_overlay.proofs.overlay.OverlayShelf.start.Goals as goal

pub returns-then-there-clause-started : goal.returns-then-there-clause-started
returns-then-there-clause-started g c =
    started-below c.args.self.now.above.files (g.F.Shelf.files c.args.self.now.below) c.args.path.now (g.F.Shelf.rest c.start.new.self) c.start_above.result c.in-Ok.there c.if-start_above.false c.start_above.ensures.found c.in-Ok.ensures.started
