-- What trees keep of single tokens.
--
-- Each table has one line for each token that the grammar reads there, and `None` for all others. What stands behind
-- `unwrap_or` is for those others alone, so nothing is ever read as that.
use Rattle.std.specs.Prelude.{ℕ, List, [], Option, Some, None, unwrap_or}
use Rattle.kql_lexer.specs.declared.keyword.Keyword.{Keyword}
use Rattle.kql_lexer.specs.declared.keyword.Keyword.TheVariants as word
use Rattle.kql_lexer.specs.declared.place.Place.{Place}
use Rattle.kql_lexer.specs.declared.token.Token.{Token}
use Rattle.kql_lexer.specs.declared.token.TokenForm.{TokenForm}
use Rattle.kql_lexer.specs.declared.token.TokenForm.TheVariants as form
use Rattle.kql_syntax.specs.declared.tree.Word.{Word}
use Rattle.kql_syntax.specs.declared.tree.Literal.{Literal}
use Rattle.kql_syntax.specs.declared.tree.Literal.TheVariants as literal
use Rattle.kql_syntax.specs.declared.tree.CompareSign.{CompareSign}
use Rattle.kql_syntax.specs.declared.tree.CompareOp.{CompareOp}
use Rattle.kql_syntax.specs.declared.tree.CompareOp.TheVariants as compare
use Rattle.kql_syntax.specs.declared.tree.InSign.{InSign}
use Rattle.kql_syntax.specs.declared.tree.InOp.{InOp}
use Rattle.kql_syntax.specs.declared.tree.InOp.TheVariants as inside
use Rattle.kql_syntax.specs.declared.tree.BetweenSign.{BetweenSign}
use Rattle.kql_syntax.specs.declared.tree.BetweenOp.{BetweenOp}
use Rattle.kql_syntax.specs.declared.tree.BetweenOp.TheVariants as between
use Rattle.kql_syntax.specs.declared.tree.SumSign.{SumSign}
use Rattle.kql_syntax.specs.declared.tree.SumOp.{SumOp}
use Rattle.kql_syntax.specs.declared.tree.SumOp.TheVariants as sum
use Rattle.kql_syntax.specs.declared.tree.ProdSign.{ProdSign}
use Rattle.kql_syntax.specs.declared.tree.ProdOp.{ProdOp}
use Rattle.kql_syntax.specs.declared.tree.ProdOp.TheVariants as prod
use Rattle.kql_syntax.specs.declared.query.HintValue.{HintValue}
use Rattle.kql_syntax.specs.declared.query.HintValue.TheVariants as value
use Rattle.kql_syntax.specs.declared.query.SortOrder.{SortOrder}
use Rattle.kql_syntax.specs.declared.query.SortOrder.TheVariants as order
use Rattle.kql_syntax.specs.declared.query.NullsEnd.{NullsEnd}
use Rattle.kql_syntax.specs.declared.query.NullsEnd.TheVariants as nulls
use Rattle.kql_syntax.specs.declared.query.ExpandKind.{ExpandKind}
use Rattle.kql_syntax.specs.declared.query.ExpandKind.TheVariants as expand
use Rattle.kql_syntax.specs.declared.query.ParseKind.{ParseKind}
use Rattle.kql_syntax.specs.declared.query.ParseKind.TheVariants as parse
use Rattle.kql_syntax.specs.declared.query.UnionKind.{UnionKind}
use Rattle.kql_syntax.specs.declared.query.UnionKind.TheVariants as union
use Rattle.kql_syntax.specs.declared.query.Output.{Output}
use Rattle.kql_syntax.specs.declared.query.Output.TheVariants as output
use Rattle.kql_syntax.specs.declared.query.JoinSign.{JoinSign}
use Rattle.kql_syntax.specs.declared.query.JoinKind.{JoinKind}
use Rattle.kql_syntax.specs.declared.query.JoinKind.TheVariants as join

-- the text of a word or string
unfoldable pub text_in : TokenForm → List ℕ
text_in (form.Word k t) = t
text_in (form.Text t) = t
text_in _ = []

-- a word with its place
abbrev pub word_of : Token → Word
word_of t = record { place = t.place; text = text_in t.form }

-- literals, with their place
unfoldable pub literal_at : Place → TokenForm → Option Literal
literal_at p (form.Number n) = Some (literal.Number p n)
literal_at p (form.Span n) = Some (literal.Span p n)
literal_at p (form.Text t) = Some (literal.Text p t)
literal_at p (form.Typed k t) = Some (literal.Typed p k t)
literal_at p (form.Word word.True t) = Some (literal.True p)
literal_at p (form.Word word.False t) = Some (literal.False p)
literal_at p _ = None

abbrev pub literal_of : Token → Literal
literal_of t = unwrap_or (literal_at t.place t.form) (literal.True t.place)

-- words of comparison
unfoldable pub word_op : Keyword → Option CompareOp
word_op word.Contains = Some compare.Contains
word_op word.ContainsCs = Some compare.ContainsCs
word_op word.Startswith = Some compare.Startswith
word_op word.StartswithCs = Some compare.StartswithCs
word_op word.Endswith = Some compare.Endswith
word_op word.EndswithCs = Some compare.EndswithCs
word_op word.Has = Some compare.Has
word_op word.HasCs = Some compare.HasCs
word_op _ = None

-- the same words with `!`
unfoldable pub negated_op : Keyword → Option CompareOp
negated_op word.Contains = Some compare.NotContains
negated_op word.ContainsCs = Some compare.NotContainsCs
negated_op word.Startswith = Some compare.NotStartswith
negated_op word.StartswithCs = Some compare.NotStartswithCs
negated_op word.Endswith = Some compare.NotEndswith
negated_op word.EndswithCs = Some compare.NotEndswithCs
negated_op word.Has = Some compare.NotHas
negated_op word.HasCs = Some compare.NotHasCs
negated_op _ = None

-- signs and words of comparison
unfoldable pub compare_op : TokenForm → Option CompareOp
compare_op form.Equal = Some compare.Equal
compare_op form.NotEqual = Some compare.NotEqual
compare_op form.Alike = Some compare.Alike
compare_op form.NotAlike = Some compare.NotAlike
compare_op form.Less = Some compare.Less
compare_op form.LessEqual = Some compare.LessEqual
compare_op form.Greater = Some compare.Greater
compare_op form.GreaterEqual = Some compare.GreaterEqual
compare_op (form.Word k t) = word_op k
compare_op (form.Negated k) = negated_op k
compare_op _ = None

abbrev pub compare_sign : Token → CompareSign
compare_sign t = record { place = t.place; op = unwrap_or (compare_op t.form) compare.Equal }

-- `in` and its like
unfoldable pub in_op : TokenForm → Option InOp
in_op (form.Word word.In t) = Some inside.In
in_op (form.Word word.InTilde t) = Some inside.InTilde
in_op (form.Negated word.In) = Some inside.NotIn
in_op (form.Negated word.InTilde) = Some inside.NotInTilde
in_op _ = None

abbrev pub in_sign : Token → InSign
in_sign t = record { place = t.place; op = unwrap_or (in_op t.form) inside.In }

-- `between` or `!between`
unfoldable pub between_op : TokenForm → Option BetweenOp
between_op (form.Word word.Between t) = Some between.Between
between_op (form.Negated word.Between) = Some between.NotBetween
between_op _ = None

abbrev pub between_sign : Token → BetweenSign
between_sign t = record { place = t.place; op = unwrap_or (between_op t.form) between.Between }

-- `+` or `-`
unfoldable pub sum_op : TokenForm → Option SumOp
sum_op form.Plus = Some sum.Plus
sum_op form.Minus = Some sum.Minus
sum_op _ = None

abbrev pub sum_sign : Token → SumSign
sum_sign t = record { place = t.place; op = unwrap_or (sum_op t.form) sum.Plus }

-- `*`, `/` or `%`
unfoldable pub prod_op : TokenForm → Option ProdOp
prod_op form.Star = Some prod.Times
prod_op form.Slash = Some prod.Over
prod_op form.Percent = Some prod.Modulo
prod_op _ = None

abbrev pub prod_sign : Token → ProdSign
prod_sign t = record { place = t.place; op = unwrap_or (prod_op t.form) prod.Times }

-- the value of a hint
unfoldable pub hint_value_at : Place → TokenForm → Option HintValue
hint_value_at p (form.Number n) = Some (value.Number p n)
hint_value_at p (form.Word k t) = Some (value.Word (record { place = p; text = text_in (form.Word k t) }))
hint_value_at p _ = None

abbrev pub hint_value_of : Token → HintValue
hint_value_of t = unwrap_or (hint_value_at t.place t.form) (value.Word (word_of t))

-- `asc` or `desc`
unfoldable pub sort_order_at : Place → TokenForm → Option SortOrder
sort_order_at p (form.Word word.Asc t) = Some (order.Asc p)
sort_order_at p (form.Word word.Desc t) = Some (order.Desc p)
sort_order_at p _ = None

abbrev pub sort_order_of : Token → SortOrder
sort_order_of t = unwrap_or (sort_order_at t.place t.form) (order.Asc t.place)

-- `first` or `last`
unfoldable pub nulls_end_at : Place → TokenForm → Option NullsEnd
nulls_end_at p (form.Word word.First t) = Some (nulls.First p)
nulls_end_at p (form.Word word.Last t) = Some (nulls.Last p)
nulls_end_at p _ = None

abbrev pub nulls_end_of : Token → NullsEnd
nulls_end_of t = unwrap_or (nulls_end_at t.place t.form) (nulls.First t.place)

-- `bag` or `array`
unfoldable pub expand_kind_at : Place → TokenForm → Option ExpandKind
expand_kind_at p (form.Word word.Bag t) = Some (expand.Bag p)
expand_kind_at p (form.Word word.Array t) = Some (expand.Array p)
expand_kind_at p _ = None

abbrev pub expand_kind_of : Token → ExpandKind
expand_kind_of t = unwrap_or (expand_kind_at t.place t.form) (expand.Bag t.place)

-- `simple` or `relaxed`
unfoldable pub parse_kind_at : Place → TokenForm → Option ParseKind
parse_kind_at p (form.Word word.Simple t) = Some (parse.Simple p)
parse_kind_at p (form.Word word.Relaxed t) = Some (parse.Relaxed p)
parse_kind_at p _ = None

abbrev pub parse_kind_of : Token → ParseKind
parse_kind_of t = unwrap_or (parse_kind_at t.place t.form) (parse.Simple t.place)

-- `outer` or `inner`
unfoldable pub union_kind_at : Place → TokenForm → Option UnionKind
union_kind_at p (form.Word word.Outer t) = Some (union.Outer p)
union_kind_at p (form.Word word.Inner t) = Some (union.Inner p)
union_kind_at p _ = None

abbrev pub union_kind_of : Token → UnionKind
union_kind_of t = unwrap_or (union_kind_at t.place t.form) (union.Outer t.place)

-- `all`, `last` or `none`
unfoldable pub output_at : Place → TokenForm → Option Output
output_at p (form.Word word.All t) = Some (output.All p)
output_at p (form.Word word.Last t) = Some (output.Last p)
output_at p (form.Word word.None t) = Some (output.Nothing p)
output_at p _ = None

abbrev pub output_of : Token → Output
output_of t = unwrap_or (output_at t.place t.form) (output.All t.place)

-- the kind of a join
unfoldable pub join_kind_at : TokenForm → Option JoinKind
join_kind_at (form.Word word.Innerunique t) = Some join.InnerUnique
join_kind_at (form.Word word.Inner t) = Some join.Inner
join_kind_at (form.Word word.Leftouter t) = Some join.LeftOuter
join_kind_at (form.Word word.Rightouter t) = Some join.RightOuter
join_kind_at (form.Word word.Fullouter t) = Some join.FullOuter
join_kind_at (form.Word word.Leftsemi t) = Some join.LeftSemi
join_kind_at (form.Word word.Rightsemi t) = Some join.RightSemi
join_kind_at (form.Word word.Leftanti t) = Some join.LeftAnti
join_kind_at (form.Word word.Rightanti t) = Some join.RightAnti
join_kind_at _ = None

unfoldable pub join_kind_of : TokenForm → JoinKind
unfolding join_kind_at
join_kind_of f = unwrap_or (join_kind_at f) join.InnerUnique

abbrev pub join_sign_of : Token → JoinSign
join_sign_of t = record { place = t.place; kind = join_kind_of t.form }
