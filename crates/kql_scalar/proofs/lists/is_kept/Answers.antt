use Rattle.std.proofs.Common.{◌∙◌, map, sym}
use Rattle.kql_cells.specs.Seen.{seen}
use Rattle.kql_scalar.proofs.ListSteps.{key-kept, null-kept}
use Rattle.kql_scalar.proofs.lists.is_kept.Goals as goal

pub returns-then-is_null : goal.returns-then-is_null
returns-then-is_null c = record {
  truth = null-kept c.args.f c.args.args.now c.args.t.now c.args.list.now.column (map seen c.args._cells.now) c.args.list.now.negated (seen c.cell_in-cell.result) c.args.i
      c.requires.test c.requires.sign c.cell_in-cell.ensures.value (sym c.is_null.ensures.null ∙ c.if-is_null.true);
}

pub returns-then-is_of_kind : goal.returns-then-is_of_kind
returns-then-is_of_kind c =
    let found = rw c.new.ensures at (c.contains-found.ensures ∙ c.requires.keys _) in
    record {
      truth = c.turned.ensures ∙ key-kept c.args.f c.args.args.now c.args.t.now c.args.list.now.column (map seen c.args._cells.now) c.args.list.now.negated c.contains-found.result c.args.list.now.kind (seen c.cell_in-cell.result) c.args.i
          c.requires.test c.requires.sign c.cell_in-cell.ensures.value c.requires.kind (sym c.is_null.ensures.null ∙ c.if-is_null.false) (c.is_of_kind.ensures.fits.0 c.if-is_of_kind.true) found;
    }
