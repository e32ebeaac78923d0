-- What a tree of places stands for, and when its places are right.
use Rattle.std.specs.Prelude.{◌≡◌, ℕ, ◌==◌, Bool, true, false, ◌&&◌, List, Option, None, Some, map}
use Rattle.std.specs.List.{list_all}
use Rattle.kql_cells.specs.Named.{column_name, place_of}
use Rattle.kql_cells.specs.declared.schema.Column.{Column}
use Rattle.kql_cells.specs.declared.value.Kind.{Kind}
use Rattle.kql_functions.specs.Kinds.{same_kind}
use Rattle.kql_bound.specs.declared.expr.BExpr.{BExpr}
use Rattle.kql_bound.specs.declared.expr.BExpr.TheVariants as V
use Rattle.kql_bound.specs.declared.expr.ChainSign.{ChainSign}
use Rattle.kql_meaning.specs.Expressions.{first_kind, kind_of}
use Rattle.kql_meaning.specs.Literals.{is_well_formed}
use Rattle.kql_scalar.specs.declared.node.Node.{Node, fold-Node, para-Node}
use Rattle.kql_scalar.specs.declared.node.Node.TheOpen.{Node-F}

-- The expression that a tree of places was made of.
abbrev pub means_step : Node-F BExpr → BExpr
means_step (Node-F.Literal l) = V.Literal l
means_step (Node-F.Column name place) = V.Column name
means_step (Node-F.Missing name) = V.Column name
means_step (Node-F.Step c) = V.Step c
means_step (Node-F.Call f args) = V.Call f args
means_step (Node-F.Chain first links) = V.Chain first links
means_step (Node-F.Path whole steps) = V.Path whole steps
means_step (Node-F.Window f args kind) = V.Window f args

unfoldable pub means : Node → BExpr
means = fold-Node BExpr means_step

abbrev pub link_means : ChainSign × Node → ChainSign × BExpr
link_means l = (l.0, means l.1)

-- Whether a place was found, and whether none was.
abbrev pub is_at : ℕ → Option ℕ → Bool
is_at place None = false
is_at place (Some found) = place == found

abbrev pub is_nowhere : Option ℕ → Bool
is_nowhere None = true
is_nowhere (Some found) = false

-- The type of the first of these parts, and whether two types, or none, are the same.
unfoldable pub kind_of_first : List Column → List Node → Option Kind
kind_of_first columns args = first_kind (map (λ n. kind_of (means n) columns) args)

abbrev pub is_this : Option Kind → Option Kind → Bool
is_this None None = true
is_this (Some k) (Some l) = same_kind k l
is_this _ _ = false

-- A part, and whether it is placed.
abbrev pub Tested : Type 0
Tested = Node × Bool

abbrev pub part_of : Tested → Node
part_of a = a.0

abbrev pub is_right : Tested → Bool
is_right a = a.1

-- Whether each column is at its place among these, each window function has the type of its first argument, and each literal is well
-- formed.
abbrev pub is_placed_step : List Column → Node-F Tested → Bool
is_placed_step columns (Node-F.Literal l) = is_well_formed l.value
is_placed_step columns (Node-F.Column name place) = is_at place (place_of column_name name columns)
is_placed_step columns (Node-F.Missing name) = is_nowhere (place_of column_name name columns)
is_placed_step columns (Node-F.Step c) = is_well_formed c.default.value
is_placed_step columns (Node-F.Call f args) = list_all is_right args
is_placed_step columns (Node-F.Chain first links) = is_right first && list_all (λ (l : ChainSign × Tested). is_right l.1) links
is_placed_step columns (Node-F.Path whole steps) = is_right whole && list_all is_right steps
is_placed_step columns (Node-F.Window f args kind) = list_all is_right args && is_this kind (kind_of_first columns (map part_of args))

unfoldable pub is_placed : List Column → Node → Bool
is_placed columns = para-Node Bool (is_placed_step columns)

pub record IsPlaced (columns : List Column) (n : Node) : Type 0 where
  pub holds : is_placed columns n ≡ true

pub record ArePlaced (columns : List Column) (ns : List Node) : Type 0 where
  pub each : list_all (is_placed columns) ns ≡ true

pub record AreLinksPlaced (columns : List Column) (links : List (ChainSign × Node)) : Type 0 where
  pub each : list_all (λ (l : ChainSign × Node). is_placed columns l.1) links ≡ true

-- The type of the first of these parts.
pub record IsOfFirst (columns : List Column) (ns : List Node) (kind : Option Kind) : Type 0 where
  pub same : kind ≡ kind_of_first columns ns
