use Rattle.std.proofs.Common.{◌∙◌, ap, sym}
use Rattle.bind_operators.specs.Known.{table_named}
use Rattle.bind_query.proofs.LetSteps.{name-constant}
use Rattle.bind_query.proofs.lets.name_let.Goals as goal

pub returns-in-Ok-None : goal.returns-in-Ok-None
returns-in-Ok-None c = record {
  exact = name-constant c.args.statement c.args.n.now c.args.done c.args.other.now c.constant_named-l.result c.constant_let.result
      (sym c.in-Ok-None.field-0-is ∙ (c.in-Ok-None.ensures.table ∙ ap (table_named c.args.done.known) c.text_of.ensures.text))
      c.constant_named-l.ensures.exact c.constant_let.ensures.exact;
}
