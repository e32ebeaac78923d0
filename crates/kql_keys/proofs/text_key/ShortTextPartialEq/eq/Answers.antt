use Rattle.std.proofs.Common.{◌∙◌, sym}
use Rattle.std.proofs.lemmas.Bool.Decides.{Decides-eqb}
use Rattle.kql_keys.proofs.TextKeyFacts.{first-decides, second-decides, third-decides}
use Rattle.kql_keys.proofs.text_key.ShortTextPartialEq.eq.Goals as goal
use Rattle.kql_keys.proofs.text_key.ShortTextPartialEq.eq.Goals.{then-self-other, else-self-other}

pub returns-then-self-other-2 : goal.returns-then-self-other-2
returns-then-self-other-2 c = elim c.if-self-other.branch [
  | then-self-other w ↦ third-decides c.args.self.now c.args.other.now c.self.inside.first c.self.inside.second c.self.inside.third c.other.inside.first c.other.inside.second c.other.inside.third c.self.view_is c.other.view_is c.self.invariant c.other.invariant w.if-self-other.true (sym w.value-is ∙ c.if-self-other-2.true)
  | else-self-other w ↦ absurd (w.if-self-other.false ((Decides-eqb c.self.inside.first c.other.inside.first).0 (sym w.value-is ∙ c.if-self-other-2.true)))
]

pub returns-else-self-other-2 : goal.returns-else-self-other-2
returns-else-self-other-2 c = elim c.if-self-other.branch [
  | then-self-other w ↦ c.if-self-other-2.false ∙ second-decides c.args.self.now c.args.other.now c.self.inside.first c.self.inside.second c.self.inside.third c.other.inside.first c.other.inside.second c.other.inside.third c.self.view_is c.other.view_is c.self.invariant c.other.invariant (sym w.value-is ∙ c.if-self-other-2.false)
  | else-self-other w ↦ c.if-self-other-2.false ∙ first-decides c.args.self.now c.args.other.now c.self.inside.first c.self.inside.second c.self.inside.third c.other.inside.first c.other.inside.second c.other.inside.third c.self.view_is c.other.view_is c.self.invariant c.other.invariant w.if-self-other.false
]
