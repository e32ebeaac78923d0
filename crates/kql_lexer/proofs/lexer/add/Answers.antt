use Rattle.std.proofs.Common.{◌≡◌, ◌+◌, ◌-◌, take, drop, sym, ◌∙◌, subst, arith}
use Rattle.kql_lexer.specs.Shapes.{Reads}
use Rattle.kql_lexer.proofs.LexFacts.{reads}
use Rattle.kql_lexer.proofs.lexer.add.Goals as goal

pub push_form-requires-clause-reads : goal.push_form-requires-clause-reads
push_form-requires-clause-reads c =
    let size : c.args.front.size ≡ c.args.at + c.args.front.size - c.args.at = omega arith in
    subst (λ j. Reads c.args.front.shape (take j (drop c.args.at c.args.text.now))) size
    (reads c.args.text.now c.args.valid _ c.args.at c.args.front.size c.args.front.shape c.requires.utf8 c.requires.within c.requires.front.longest.within c.requires.front.fits
    (sym c.halt.ensures ∙ c.in-None.is))
