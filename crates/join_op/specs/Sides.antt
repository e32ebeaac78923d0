-- The sides of a join: which one leads, and the keys of each.
use Rattle.std.specs.Prelude.{ℕ, Bool, List, is_some, map}
use Rattle.std.specs.List.{list_all}
use Rattle.kql_cells.specs.Named.{column_name, place_of}
use Rattle.kql_cells.specs.Table.{Grid}
use Rattle.kql_cells.specs.declared.schema.Column.{Column}
use Rattle.kql_cells.specs.declared.value.Value.{Value}
use Rattle.kql_bound.specs.declared.parts.JoinKind.{JoinKind}
use Rattle.kql_bound.specs.declared.parts.JoinKind.TheVariants as join
use Rattle.kql_bound.specs.declared.parts.OnPair.{OnPair}
use Rattle.kql_meaning.specs.Join.{matches_left, matches_right}
use Rattle.kql_meaning.specs.Tables.{cell, places}
use Rattle.join_op.specs.declared.sides.Side.{Side}
use Rattle.join_op.specs.declared.sides.Side.TheVariants as side

-- The side that leads: the rows of the answer come in the order of its rows. After those of fullouter that the left side leads, the
-- rows that stand for right ones come.
unfoldable pub lead_side : JoinKind → Side
lead_side join.RightOuter = side.Right
lead_side join.RightSemi = side.Right
lead_side join.RightAnti = side.Right
lead_side _ = side.Left

-- The table of the side that leads, and the other, of a left and a right one.
unfoldable pub lead_of : Side → Grid → Grid → Grid
lead_of side.Left a b = a
lead_of side.Right a b = b

unfoldable pub opposite : Side → Side
opposite side.Left = side.Right
opposite side.Right = side.Left

-- The name of a key's column on a side.
unfoldable pub key_name : Side → OnPair → List ℕ
key_name side.Left pair = pair.left
key_name side.Right pair = pair.right

-- Whether each key has its column on a side.
unfoldable pub have_keys : Side → List OnPair → List Column → Bool
have_keys s on columns = list_all (λ (pair : OnPair). is_some (place_of column_name (key_name s pair) columns)) on

-- The cells of a column at all rows, and those of each key.
unfoldable pub column_cells : Grid → List ℕ → List Value
column_cells t name = map (λ i. cell t i name) (places t)

unfoldable pub key_cells : Side → List OnPair → Grid → List (List Value)
key_cells s on t = map (λ (pair : OnPair). column_cells t (key_name s pair)) on

-- The rows of the other side that match a row of the one that leads.
unfoldable pub matches_of : Side → List OnPair → Grid → Grid → ℕ → List ℕ
matches_of side.Left on lead other i = matches_right on lead other i
matches_of side.Right on lead other i = matches_left on other lead i
