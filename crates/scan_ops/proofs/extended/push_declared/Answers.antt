use Rattle.std.proofs.Common.{rules}
use Rattle.scan_ops.proofs.ExtendedFacts.{column-added, column-fits}
use Rattle.scan_ops.proofs.extended.push_declared.Goals as goal

pub push_column-requires-clause-fits : goal.push_column-requires-clause-fits
push_column-requires-clause-fits c =
    column-fits c.args.decl.now (record { name = c.in_ok-name.name; kind = c.args.decl.now.default.kind }) c.in_ok-values.values c.len-count.result c.requires.fits (search rules) (search rules)

pub returns : goal.returns
returns c = record {
  added = column-added c.args.decl.now c.args.t.now c.push_column.new.self (record { name = c.in_ok-name.name; kind = c.args.decl.now.default.kind }) c.in_ok-values.values c.len-count.result (search rules) (search rules) (search rules) c.in_ok-push_column.ensures.added;
}
