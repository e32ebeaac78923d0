use Rattle.std.proofs.Common.{◌<◌, length, subst, sym}
use Rattle.csv_io.specs.Lending.{held}
use Rattle.csv_io.proofs.LentFacts.{lent-within}
use Rattle.csv_io.proofs.print.push_lent.Goals as goal

pub push_number-requires-clause-within : goal.push_number-requires-clause-within
push_number-requires-clause-within c =
    let within : c.args.i < length (held c.column.inside.stored) = subst (λ vs. c.args.i < length vs) (sym c.column.view_is) c.requires.within in
    lent-within c.column.inside.stored c.in-Numbers.numbers c.args.i c.in-Numbers.is c.column.invariant within
