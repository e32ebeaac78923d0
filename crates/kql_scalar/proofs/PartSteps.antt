-- The parts of an expression that a match has opened.
use Rattle.std.proofs.Common.{◌≡◌, List, subst}
use Rattle.std.specs.Prelude.{Option}
use Rattle.kql_cells.specs.declared.schema.Column.{Column}
use Rattle.kql_cells.specs.declared.value.Kind.{Kind}
use Rattle.kql_functions.specs.declared.func.Func.{Func}
use Rattle.kql_functions.specs.declared.window.Window.{Window}
use Rattle.kql_bound.specs.declared.expr.BExpr.{BExpr}
use Rattle.kql_bound.specs.declared.expr.BExpr.TheVariants as V
use Rattle.kql_bound.specs.declared.expr.ChainSign.{ChainSign}
use Rattle.kql_scalar.specs.Means.{AreLinksPlaced, ArePlaced, IsOfFirst, IsPlaced}
use Rattle.kql_scalar.specs.Scalar.{AreLinksScalar, AreScalar, IsScalar}
use Rattle.kql_scalar.specs.declared.node.Node.{Node}
use Rattle.kql_scalar.specs.declared.node.Node.TheVariants as N
use Rattle.kql_scalar.proofs.MeansSteps.{parts-Call, parts-first, parts-kind, parts-links, parts-steps, parts-whole, parts-window}
use Rattle.kql_scalar.proofs.ScalarSteps.{scalar-Call, scalar-Window, scalar-first, scalar-links, scalar-steps, scalar-whole}

pub scalar_args : (e : BExpr) (f : Func) (args : List BExpr) → IsScalar e → e ≡ V.Call f args → AreScalar args
scalar_args e f args h is = scalar-Call f args (subst IsScalar is h)

pub scalar_first : (e : BExpr) (first : BExpr) (links : List (ChainSign × BExpr)) → IsScalar e → e ≡ V.Chain first links → IsScalar first
scalar_first e first links h is = scalar-first first links (subst IsScalar is h)

pub scalar_links : (e : BExpr) (first : BExpr) (links : List (ChainSign × BExpr)) → IsScalar e → e ≡ V.Chain first links → AreLinksScalar links
scalar_links e first links h is = scalar-links first links (subst IsScalar is h)

pub scalar_whole : (e : BExpr) (whole : BExpr) (steps : List BExpr) → IsScalar e → e ≡ V.Path whole steps → IsScalar whole
scalar_whole e whole steps h is = scalar-whole whole steps (subst IsScalar is h)

pub scalar_steps : (e : BExpr) (whole : BExpr) (steps : List BExpr) → IsScalar e → e ≡ V.Path whole steps → AreScalar steps
scalar_steps e whole steps h is = scalar-steps whole steps (subst IsScalar is h)

pub placed_args : (columns : List Column) (n : Node) (f : Func) (args : List Node) → IsPlaced columns n → n ≡ N.Call f args → ArePlaced columns args
placed_args columns n f args h is = parts-Call columns f args (subst (IsPlaced columns) is h)

pub placed_first : (columns : List Column) (n : Node) (first : Node) (links : List (ChainSign × Node)) → IsPlaced columns n → n ≡ N.Chain first links → IsPlaced columns first
placed_first columns n first links h is = parts-first columns first links (subst (IsPlaced columns) is h)

pub placed_links : (columns : List Column) (n : Node) (first : Node) (links : List (ChainSign × Node)) → IsPlaced columns n → n ≡ N.Chain first links → AreLinksPlaced columns links
placed_links columns n first links h is = parts-links columns first links (subst (IsPlaced columns) is h)

pub placed_whole : (columns : List Column) (n : Node) (whole : Node) (steps : List Node) → IsPlaced columns n → n ≡ N.Path whole steps → IsPlaced columns whole
placed_whole columns n whole steps h is = parts-whole columns whole steps (subst (IsPlaced columns) is h)

pub placed_steps : (columns : List Column) (n : Node) (whole : Node) (steps : List Node) → IsPlaced columns n → n ≡ N.Path whole steps → ArePlaced columns steps
placed_steps columns n whole steps h is = parts-steps columns whole steps (subst (IsPlaced columns) is h)

pub scalar_window : (e : BExpr) (f : Window) (args : List BExpr) → IsScalar e → e ≡ V.Window f args → AreScalar args
scalar_window e f args h is = scalar-Window f args (subst IsScalar is h)

pub placed_window : (columns : List Column) (n : Node) (f : Window) (args : List Node) (kind : Option Kind) → IsPlaced columns n → n ≡ N.Window f args kind → ArePlaced columns args
placed_window columns n f args kind h is = parts-window columns f args kind (subst (IsPlaced columns) is h)

pub placed_kind : (columns : List Column) (n : Node) (f : Window) (args : List Node) (kind : Option Kind) → IsPlaced columns n → n ≡ N.Window f args kind → IsOfFirst columns args kind
placed_kind columns n f args kind h is = parts-kind columns f args kind (subst (IsPlaced columns) is h)

pub ruleset scalar_parts = (scalar_args, scalar_window, scalar_first, scalar_links, scalar_whole, scalar_steps)

pub ruleset placed_parts = (placed_args, placed_window, placed_kind, placed_first, placed_links, placed_whole, placed_steps)
