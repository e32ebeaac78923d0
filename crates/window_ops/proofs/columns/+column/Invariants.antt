use Rattle.std.proofs.Common.{◌≡◌, drop, take}
use Rattle.window_ops.specs.Columns.{IsColumn, chain_down, columns_of, path_down}
use Rattle.window_ops.specs.Fitting.{AreReady, LinksReady}
use Rattle.window_ops.proofs.columns.+column.Given as goal

abbrev pub invariant-columns-parts : goal.invariant-columns-parts
invariant-columns-parts l = record {
  made : l.vectors.items ≡ columns_of (take l.e-index l.es) l.t l.from l.count;
  ready : AreReady (drop l.e-index l.es) l.t l.from l.count l.rest;
}

abbrev pub invariant-chain_column-links : goal.invariant-chain_column-links
invariant-chain_column-links l = record {
  made : l.left ≡ chain_down (take l.link-index l.links) l.t l.from l.count l.fn.first;
  column : IsColumn l.count l.left;
  ready : LinksReady (drop l.link-index l.links) l.t l.from l.count l.rest;
}

abbrev pub invariant-path_column-steps : goal.invariant-path_column-steps
invariant-path_column-steps l = record {
  made : l.left ≡ path_down (take l.step-index l.steps) l.t l.from l.count l.fn.whole;
  column : IsColumn l.count l.left;
  ready : AreReady (drop l.step-index l.steps) l.t l.from l.count l.rest;
}
