use Rattle.csv_io.proofs.PartFacts.{joined-columns, joined-fault, joined-table}
use Rattle.csv_io.proofs.head.Head.stack.Goals as goal

pub returns-clause-table : goal.returns-clause-table
returns-clause-table c =
    joined-table c.self.inside.schema c.self.inside.text.now c.as_bytes.result.now c.self.inside.end c.args.self c.join_pieces.result c.self.view_is c.as_bytes.ensures.value c.self.invariant c.join_pieces.ensures

pub returns-clause-columns : goal.returns-clause-columns
returns-clause-columns c = joined-columns c.self.inside.schema c.self.inside.text.now _ _ c.args.self c.join_pieces.result c.self.view_is c.join_pieces.ensures

pub returns-clause-fault : goal.returns-clause-fault
returns-clause-fault c =
    joined-fault c.self.inside.schema c.self.inside.text.now c.as_bytes.result.now c.self.inside.end c.args.self c.join_pieces.result c.self.view_is c.as_bytes.ensures.value c.self.invariant c.join_pieces.ensures
