-- The words that the text of a plan has for types, kinds of join and outputs.
use Rattle.std.specs.Prelude.{ℕ, List, codes}
use Rattle.kql_cells.specs.declared.value.Kind.{Kind}
use Rattle.kql_cells.specs.declared.value.Kind.TheVariants as kind
use Rattle.kql_bound.specs.declared.parts.JoinKind.{JoinKind}
use Rattle.kql_bound.specs.declared.parts.JoinKind.TheVariants as join
use Rattle.kql_bound.specs.declared.parts.Output.{Output}
use Rattle.kql_bound.specs.declared.parts.Output.TheVariants as output

-- the word of a type
unfoldable pub kind_word : Kind → List ℕ
kind_word kind.Bool = codes "bool"
kind_word kind.Long = codes "long"
kind_word kind.Text = codes "string"
kind_word kind.Moment = codes "datetime"
kind_word kind.Span = codes "timespan"
kind_word kind.Dynamic = codes "dynamic"

-- the word of a kind of join
unfoldable pub join_word : JoinKind → List ℕ
join_word join.InnerUnique = codes "innerunique"
join_word join.Inner = codes "inner"
join_word join.LeftOuter = codes "leftouter"
join_word join.RightOuter = codes "rightouter"
join_word join.FullOuter = codes "fullouter"
join_word join.LeftSemi = codes "leftsemi"
join_word join.RightSemi = codes "rightsemi"
join_word join.LeftAnti = codes "leftanti"
join_word join.RightAnti = codes "rightanti"

-- which records of a step are emitted
unfoldable pub output_word : Output → List ℕ
output_word output.All = codes "all"
output_word output.Last = codes "last"
output_word output.Nothing = codes "none"
