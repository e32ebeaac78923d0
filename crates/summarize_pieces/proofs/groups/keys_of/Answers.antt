use Rattle.std.proofs.Common.{◌≡◌, ◌∙◌, ap, length, subst, sym}
use Rattle.std.specs.Prelude.{IfOk}
use Rattle.summarize_pieces.specs.Pieces.{Piece}
use Rattle.summarize_pieces.proofs.KeySteps.{none-numbered}
use Rattle.summarize_pieces.proofs.groups.keys_of.Goals as goal

pub returns-then-len-eq0-clause-numbers : goal.returns-then-len-eq0-clause-numbers
returns-then-len-eq0-clause-numbers c =
    subst (λ ns. IfOk c.one_group.result (λ k. k.numbers ≡ ns)) (none-numbered c.args.p.now.keys (ap (λ (p : Piece). length p.keys) (sym c.p.view_is) ∙ (sym c.len.ensures.count ∙ c.if-len-eq0.true))) c.one_group.ensures.numbers
