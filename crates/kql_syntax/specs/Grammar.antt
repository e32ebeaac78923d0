-- The grammar: what each level consists of.
use Rattle.std.specs.Prelude.{ℕ, Option, Some, None, List, [], ◌∷◌}
use Rattle.kql_lexer.specs.declared.keyword.Keyword.TheVariants as word
use Rattle.kql_lexer.specs.declared.place.Place.{Place}
use Rattle.kql_syntax.specs.declared.class.Class.{Class}
use Rattle.kql_syntax.specs.declared.class.Class.TheVariants as class
use Rattle.kql_syntax.specs.declared.tree.Word.{Word}
use Rattle.kql_syntax.specs.declared.tree.CompareSign.{CompareSign}
use Rattle.kql_syntax.specs.declared.tree.CompareOp.TheVariants as compare
use Rattle.kql_syntax.specs.declared.tree.InSign.{InSign}
use Rattle.kql_syntax.specs.declared.tree.BetweenSign.{BetweenSign}
use Rattle.kql_syntax.specs.declared.tree.SumSign.{SumSign}
use Rattle.kql_syntax.specs.declared.tree.ProdSign.{ProdSign}
use Rattle.kql_syntax.specs.declared.tree.Literal.{Literal}
use Rattle.kql_syntax.specs.declared.tree.Expr.{Expr, roll-Expr}
use Rattle.kql_syntax.specs.declared.tree.And.{And, roll-And}
use Rattle.kql_syntax.specs.declared.tree.Cmp.{Cmp}
use Rattle.kql_syntax.specs.declared.tree.Cmp.TheVariants as cmp
use Rattle.kql_syntax.specs.declared.tree.Sum.{Sum, roll-Sum}
use Rattle.kql_syntax.specs.declared.tree.Prod.{Prod, roll-Prod}
use Rattle.kql_syntax.specs.declared.tree.Sign.{Sign}
use Rattle.kql_syntax.specs.declared.tree.Sign.TheVariants as sign
use Rattle.kql_syntax.specs.declared.tree.Post.{roll-Post}
use Rattle.kql_syntax.specs.declared.tree.Access.TheVariants as access
use Rattle.kql_syntax.specs.declared.tree.Term.{Term}
use Rattle.kql_syntax.specs.declared.tree.Term.TheVariants as term
use Rattle.kql_syntax.specs.declared.tree.Arg.{Arg}
use Rattle.kql_syntax.specs.declared.tree.Arg.TheVariants as arg
use Rattle.kql_syntax.specs.declared.tree.Name.{Name}
use Rattle.kql_syntax.specs.declared.tree.Name.TheVariants as name
use Rattle.kql_syntax.specs.declared.query.Pipe.{roll-Pipe}
use Rattle.kql_syntax.specs.declared.query.Source.TheVariants as source
use Rattle.kql_syntax.specs.declared.query.Range.{Range}
use Rattle.kql_syntax.specs.declared.query.Op.TheVariants as op
use Rattle.kql_syntax.specs.declared.query.ColumnOp.{ColumnOp}
use Rattle.kql_syntax.specs.declared.query.ColumnOp.TheVariants as column
use Rattle.kql_syntax.specs.declared.query.RowOp.{RowOp}
use Rattle.kql_syntax.specs.declared.query.RowOp.TheVariants as row
use Rattle.kql_syntax.specs.declared.query.GroupOp.{GroupOp}
use Rattle.kql_syntax.specs.declared.query.GroupOp.TheVariants as group
use Rattle.kql_syntax.specs.declared.query.TableOp.{TableOp}
use Rattle.kql_syntax.specs.declared.query.TableOp.TheVariants as table
use Rattle.kql_syntax.specs.declared.query.Item.{Item}
use Rattle.kql_syntax.specs.declared.query.Key.{Key}
use Rattle.kql_syntax.specs.declared.query.SortOrder.{SortOrder}
use Rattle.kql_syntax.specs.declared.query.NullsEnd.{NullsEnd}
use Rattle.kql_syntax.specs.declared.query.Distinct.{Distinct}
use Rattle.kql_syntax.specs.declared.query.Distinct.TheVariants as distinct
use Rattle.kql_syntax.specs.declared.query.Hint.{Hint}
use Rattle.kql_syntax.specs.declared.query.HintValue.{HintValue}
use Rattle.kql_syntax.specs.declared.query.Summarize.{Summarize}
use Rattle.kql_syntax.specs.declared.query.Groups.{Groups}
use Rattle.kql_syntax.specs.declared.query.Groups.TheVariants as groups_of
use Rattle.kql_syntax.specs.declared.query.MakeSeries.{MakeSeries}
use Rattle.kql_syntax.specs.declared.query.Series.{Series}
use Rattle.kql_syntax.specs.declared.query.ExpandKind.{ExpandKind}
use Rattle.kql_syntax.specs.declared.query.Expand.{Expand}
use Rattle.kql_syntax.specs.declared.query.ParseKind.{ParseKind}
use Rattle.kql_syntax.specs.declared.query.Pat.{Pat}
use Rattle.kql_syntax.specs.declared.query.Pat.TheVariants as pat
use Rattle.kql_syntax.specs.declared.query.Join.{Join, roll-Join}
use Rattle.kql_syntax.specs.declared.query.JoinSign.{JoinSign}
use Rattle.kql_syntax.specs.declared.query.On.{On}
use Rattle.kql_syntax.specs.declared.query.On.TheVariants as «on»
use Rattle.kql_syntax.specs.declared.query.OnPair.{OnPair}
use Rattle.kql_syntax.specs.declared.query.Union.{Union, roll-Union}
use Rattle.kql_syntax.specs.declared.query.UnionKind.{UnionKind}
use Rattle.kql_syntax.specs.declared.query.TableArg.TheVariants as tablearg
use Rattle.kql_syntax.specs.declared.query.Scan.{Scan}
use Rattle.kql_syntax.specs.declared.query.Decl.{Decl}
use Rattle.kql_syntax.specs.declared.query.Step.{Step}
use Rattle.kql_syntax.specs.declared.query.Output.{Output}
use Rattle.kql_syntax.specs.declared.query.Partition.{Partition, roll-Partition}
use Rattle.kql_syntax.specs.Leaves.{text_in, word_of, literal_of, compare_sign, in_sign, between_sign, sum_sign, prod_sign, hint_value_of, sort_order_of, nulls_end_of, expand_kind_of, parse_kind_of, union_kind_of, output_of, join_sign_of}
use Rattle.kql_syntax.specs.Levels.{Level, literals, comparisons, memberships, betweens}
use Rattle.kql_syntax.specs.Trees.{Tree}
use Rattle.kql_syntax.specs.Forms.{Form, token, level, pair, mark, after, before, either, option, many, makes, listed, some}

-- a form in brackets
abbrev pub round : {A : Type 0} → Form A → Form A
round a = after (class.Open ∷ []) (before a (class.Close ∷ []))

-- with commas between
abbrev pub commas : {A : Type 0} → Form A → Form (List A)
commas a = listed (class.Comma ∷ []) a

-- what an optional list holds
abbrev pub or_none : {A : Type 0} → Option (List A) → List A
or_none None = []
or_none (Some xs) = xs

-- a list, or nothing
abbrev pub maybe : {A : Type 0} → Form (List A) → Form (List A)
maybe a = makes or_none (option a)

-- any word, and one that is not reserved
abbrev pub any_word : Form Word
any_word = makes word_of (token (class.Word ∷ []))

abbrev pub name_word : Form Word
name_word = makes word_of (token (class.Name ∷ []))

-- a string
abbrev pub string : Form (List ℕ)
string = makes (λ t. text_in t.form) (token (class.Text ∷ []))

abbrev pub literal : Form Literal
literal = makes literal_of (token literals)

abbrev pub or_more : Form (Place × And)
or_more = pair (mark (class.Key word.Or ∷ [])) (level Level.And)

abbrev pub and_more : Form (Place × Cmp)
and_more = pair (mark (class.Key word.And ∷ [])) (level Level.Cmp)

-- a sum, and what may stand after it
abbrev pub compared : Sum → Option (Sum → Cmp) → Cmp
compared a None = cmp.Plain a
compared a (Some f) = f a

abbrev pub comparison : Form CompareSign
comparison = makes compare_sign (token comparisons)

abbrev pub compares : Form (Sum → Cmp)
compares = makes (λ p a. cmp.Compared a p.0 p.1) (pair comparison (level Level.Sum))

-- `regex` and what is searched for, behind a `matches`
abbrev pub regex_sum : Form Sum
regex_sum = after (class.Key word.Regex ∷ []) (level Level.Sum)

abbrev pub matches_sign : Place → CompareSign
matches_sign p = record { place = p; op = compare.MatchesRegex }

abbrev pub searches : Form (Sum → Cmp)
searches = makes (λ p a. cmp.Compared a (matches_sign p.0) p.1) (pair (mark (class.Key word.Matches ∷ [])) regex_sum)

abbrev pub membership : Form InSign
membership = makes in_sign (token memberships)

abbrev pub within_list : Form (Sum → Cmp)
within_list = makes (λ p a. cmp.In a p.0 p.1) (pair membership (round (commas (level Level.Expr))))

abbrev pub betweenness : Form BetweenSign
betweenness = makes between_sign (token betweens)

abbrev pub low_sum : Form Sum
low_sum = before (level Level.Sum) (class.DotDot ∷ [])

abbrev pub two_sums : Form (Sum × Sum)
two_sums = pair low_sum (level Level.Sum)

abbrev pub bounds : Form (Sum × Sum)
bounds = round two_sums

abbrev pub within_bounds : Form (Sum → Cmp)
within_bounds = makes (λ p a. cmp.Between a p.0 p.1) (pair betweenness bounds)

abbrev pub plus_or_minus : Form SumSign
plus_or_minus = makes sum_sign (token (class.Plus ∷ class.Minus ∷ []))

abbrev pub sum_more : Form (SumSign × Prod)
sum_more = pair plus_or_minus (level Level.Prod)

abbrev pub times_or_over : Form ProdSign
times_or_over = makes prod_sign (token (class.Star ∷ class.Slash ∷ class.Percent ∷ []))

abbrev pub prod_more : Form (ProdSign × Sign)
prod_more = pair times_or_over (level Level.Sign)

abbrev pub arguments : Form (List Arg)
arguments = makes or_none (round (option (commas (level Level.Arg))))

abbrev pub called : Form Term
called = makes (λ p. term.Call p.0 p.1) (pair name_word arguments)

abbrev pub names : Form (List Name)
names = commas (level Level.Name)

abbrev pub items : Form (List Item)
items = commas (level Level.Item)

abbrev pub by_items : Form (List Item)
by_items = after (class.Key word.By ∷ []) items

-- a choice of words after `kind =`
abbrev pub of_kind : {A : Type 0} → Form A → Form A
of_kind a = after (class.Key word.Kind ∷ []) (after (class.Assign ∷ []) a)

-- what may be the value of a hint
abbrev pub hint_values : List Class
hint_values = class.Word ∷ class.Number ∷ []

abbrev pub hint_value : Form HintValue
hint_value = makes hint_value_of (token hint_values)

abbrev pub hint : Form Hint
hint =
    makes (λ p. record { place = p.0; name = p.1.0; value = p.1.1 })
    (pair (mark (class.Key word.Hint ∷ [])) (pair (after (class.Dot ∷ []) any_word) (after (class.Assign ∷ []) hint_value)))

-- the kinds of a union
abbrev pub union_kinds : List Class
union_kinds = class.Key word.Outer ∷ class.Key word.Inner ∷ []

abbrev pub union_kind : Form UnionKind
union_kind = makes union_kind_of (token union_kinds)

abbrev pub union : Form Union
union = makes (λ p. roll-Union (record { kind = p.0; tables = p.1 })) (pair (option (of_kind union_kind)) (commas (level Level.TableArg)))

abbrev pub range : Form Range
range =
    makes (λ p. record { column = p.0; from = p.1.0; to = p.1.1.0; step = p.1.1.1 })
    (pair (level Level.Name)
    (pair (after (class.Key word.From ∷ []) (level Level.Expr))
    (pair (after (class.Key word.To ∷ []) (level Level.Expr))
    (after (class.Key word.Step ∷ []) (level Level.Expr)))))

abbrev pub renaming : Form (Name × Name)
renaming = pair (before (level Level.Name) (class.Assign ∷ [])) (level Level.Name)

-- how keys are ordered
abbrev pub orders : List Class
orders = class.Key word.Asc ∷ class.Key word.Desc ∷ []

abbrev pub sort_order : Form SortOrder
sort_order = makes sort_order_of (token orders)

-- where nulls stand
abbrev pub nulls_ends : List Class
nulls_ends = class.Key word.First ∷ class.Key word.Last ∷ []

abbrev pub nulls_end : Form NullsEnd
nulls_end = makes nulls_end_of (token nulls_ends)

abbrev pub key : Form Key
key =
    makes (λ p. record { value = p.0; order = p.1.0; nulls = p.1.1 })
    (pair (level Level.Expr) (pair (option sort_order) (option (after (class.Key word.Nulls ∷ []) nulls_end))))

abbrev pub by_keys : Form (List Key)
by_keys = after (class.Key word.By ∷ []) (commas key)

abbrev pub distinct_columns : Form Distinct
distinct_columns = either (makes distinct.Star (mark (class.Star ∷ []))) (makes distinct.Columns names)

abbrev pub groups : Form Groups
groups = either (makes (λ p. groups_of.Aggregates p.0 p.1) (pair items (maybe by_items))) (makes groups_of.Keys by_items)

abbrev pub summarize : Form Summarize
summarize = makes (λ p. record { hints = p.0; groups = p.1 }) (pair (many hint) groups)

abbrev pub series : Form Series
series =
    makes (λ p. record { item = p.0; default = p.1 })
    (pair (level Level.Item) (option (after (class.Key word.Default ∷ []) (after (class.Assign ∷ []) (level Level.Expr)))))

abbrev pub make_series : Form MakeSeries
make_series =
    makes (λ p. record { items = p.0; axis = p.1.0; from = p.1.1.0; to = p.1.1.1.0; step = p.1.1.1.1.0; keys = p.1.1.1.1.1 })
    (pair (commas series)
    (pair (after (class.Key word.On ∷ []) (level Level.Name))
    (pair (after (class.Key word.From ∷ []) (level Level.Expr))
    (pair (after (class.Key word.To ∷ []) (level Level.Expr))
    (pair (after (class.Key word.Step ∷ []) (level Level.Expr)) (maybe by_items))))))

-- the kinds of an expansion
abbrev pub expand_kinds : List Class
expand_kinds = class.Key word.Bag ∷ class.Key word.Array ∷ []

abbrev pub expand_kind : Form ExpandKind
expand_kind = makes expand_kind_of (token expand_kinds)

abbrev pub expand : Form Expand
expand =
    makes (λ p. record { item = p.0; to = p.1 })
    (pair (level Level.Item) (option (after (class.Key word.To ∷ []) (after (class.Key word.Typeof ∷ []) (round any_word)))))

-- the kinds of a pattern
abbrev pub parse_kinds : List Class
parse_kinds = class.Key word.Simple ∷ class.Key word.Relaxed ∷ []

abbrev pub parse_kind : Form ParseKind
parse_kind = makes parse_kind_of (token parse_kinds)

abbrev pub pattern : Form Pat
pattern =
    either (makes pat.Star (mark (class.Star ∷ [])))
    (either (makes (λ t. pat.Text t.place (text_in t.form)) (token (class.Text ∷ [])))
    (makes (λ p. pat.Column p.0 p.1) (pair (level Level.Name) (option (after (class.Colon ∷ []) any_word)))))

abbrev pub on_pair : Form OnPair
on_pair =
    makes (λ p. record { left_place = p.0; left = p.1.0; sign = p.1.1.0; right_place = p.1.1.1.0; right = p.1.1.1.1 })
    (pair (mark (class.Key word.DollarLeft ∷ []))
    (pair (after (class.Dot ∷ []) (level Level.Name))
    (pair (mark (class.Equal ∷ []))
    (pair (mark (class.Key word.DollarRight ∷ [])) (after (class.Dot ∷ []) (level Level.Name))))))

abbrev pub join_key : Form On
join_key = either (makes «on».Column (level Level.Name)) (makes «on».Pair on_pair)

abbrev pub join_kinds : List Class
join_kinds =
    class.Key word.Innerunique ∷ class.Key word.Inner ∷ class.Key word.Leftouter ∷ class.Key word.Rightouter ∷ class.Key word.Fullouter ∷
    class.Key word.Leftsemi ∷ class.Key word.Rightsemi ∷ class.Key word.Leftanti ∷ class.Key word.Rightanti ∷ []

abbrev pub lookup_kinds : List Class
lookup_kinds = class.Key word.Leftouter ∷ class.Key word.Inner ∷ []

abbrev pub join_sign : List Class → Form JoinSign
join_sign cs = makes join_sign_of (token cs)

abbrev pub join : List Class → Form Join
join cs =
    makes (λ p. roll-Join (record { hints = p.0; kind = p.1.0; table = p.1.1.0; «on» = p.1.1.1 }))
    (pair (many hint)
    (pair (option (pair (of_kind (join_sign cs)) (many hint)))
    (pair (level Level.TableArg) (after (class.Key word.On ∷ []) (commas join_key)))))

abbrev pub decl : Form Decl
decl =
    makes (λ p. record { name = p.0; kind = p.1.0; default = p.1.1 })
    (pair (level Level.Name) (pair (after (class.Colon ∷ []) any_word) (option (after (class.Assign ∷ []) (level Level.Expr)))))

abbrev pub setting : Form (Name × Expr)
setting = pair (before (level Level.Name) (class.Assign ∷ [])) (level Level.Expr)

-- which rows a step of a scan gives
abbrev pub outputs : List Class
outputs = class.Key word.All ∷ class.Key word.Last ∷ class.Key word.None ∷ []

abbrev pub output_word : Form Output
output_word = makes output_of (token outputs)

abbrev pub step : Form Step
step =
    makes (λ p. record { place = p.0; name = p.1.0; output = p.1.1.0; condition = p.1.1.1.0; sets = p.1.1.1.1 })
    (pair (mark (class.Key word.Step ∷ []))
    (pair (level Level.Name)
    (pair (option (after (class.Key word.Output ∷ []) (after (class.Assign ∷ []) output_word)))
    (pair (after (class.Colon ∷ []) (level Level.Expr))
    (before (maybe (after (class.Arrow ∷ []) (commas setting))) (class.Semicolon ∷ []))))))

abbrev pub scan : Form Scan
scan =
    makes (λ p. record { match_id = p.0; declared = p.1.0; steps = p.1.1 })
    (pair (option (after (class.Key word.WithMatchId ∷ []) (after (class.Assign ∷ []) (level Level.Name))))
    (pair (maybe (after (class.Key word.Declare ∷ []) (round (commas decl))))
    (after (class.Key word.With ∷ []) (round (some step)))))

abbrev pub partition : Form Partition
partition =
    makes (λ p. roll-Partition (record { hints = p.0; column = p.1.0; ops = p.1.1 }))
    (pair (many hint)
    (pair (after (class.Key word.By ∷ []) (level Level.Name)) (round (listed (class.Bar ∷ []) (level Level.Op)))))

abbrev pub column_op : Form ColumnOp
column_op =
    either (makes (λ p. column.Where p.0 p.1) (pair (mark (class.Key word.Where ∷ [])) (level Level.Expr)))
    (either (makes (λ p. column.Extend p.0 p.1) (pair (mark (class.Key word.Extend ∷ [])) items))
    (either (makes (λ p. column.Project p.0 p.1) (pair (mark (class.Key word.Project ∷ [])) items))
    (either (makes (λ p. column.Serialize p.0 p.1) (pair (mark (class.Key word.Serialize ∷ [])) (maybe items)))
    (either (makes (λ p. column.ProjectAway p.0 p.1) (pair (mark (class.Key word.ProjectAway ∷ [])) names))
    (either (makes (λ p. column.ProjectKeep p.0 p.1) (pair (mark (class.Key word.ProjectKeep ∷ [])) names))
    (makes (λ p. column.ProjectRename p.0 p.1) (pair (mark (class.Key word.ProjectRename ∷ [])) (commas renaming))))))))

abbrev pub row_op : Form RowOp
row_op =
    either (makes (λ p. row.Take p.0 p.1) (pair (mark (class.Key word.Take ∷ [])) (level Level.Expr)))
    (either (makes (λ p. row.Limit p.0 p.1) (pair (mark (class.Key word.Limit ∷ [])) (level Level.Expr)))
    (either (makes row.Count (mark (class.Key word.Count ∷ [])))
    (either (makes (λ p. row.Sort p.0 p.1) (pair (mark (class.Key word.Sort ∷ [])) by_keys))
    (either (makes (λ p. row.Order p.0 p.1) (pair (mark (class.Key word.Order ∷ [])) by_keys))
    (either (makes (λ p. row.Top p.0 p.1) (pair (mark (class.Key word.Top ∷ [])) (pair (level Level.Expr) (after (class.Key word.By ∷ []) key))))
    (makes (λ p. row.Distinct p.0 p.1) (pair (mark (class.Key word.Distinct ∷ [])) distinct_columns)))))))

abbrev pub group_op : Form GroupOp
group_op =
    either (makes (λ p. group.Summarize p.0 p.1) (pair (mark (class.Key word.Summarize ∷ [])) summarize))
    (either (makes (λ p. group.MakeSeries p.0 p.1) (pair (mark (class.Key word.MakeSeries ∷ [])) make_series))
    (either (makes (λ p. group.MvExpand p.0 p.1.0 p.1.1) (pair (mark (class.Key word.MvExpand ∷ [])) (pair (option (of_kind expand_kind)) (commas expand))))
    (makes (λ p. group.Parse p.0 p.1.0 p.1.1.0 p.1.1.1)
    (pair (mark (class.Key word.Parse ∷ []))
    (pair (option (of_kind parse_kind)) (pair (level Level.Expr) (after (class.Key word.With ∷ []) (some pattern))))))))

abbrev pub table_op : Form TableOp
table_op =
    either (makes (λ p. table.Join p.0 p.1) (pair (mark (class.Key word.Join ∷ [])) (join join_kinds)))
    (either (makes (λ p. table.Lookup p.0 p.1) (pair (mark (class.Key word.Lookup ∷ [])) (join lookup_kinds)))
    (either (makes (λ p. table.Union p.0 p.1) (pair (mark (class.Key word.Union ∷ [])) union))
    (either (makes (λ p. table.Scan p.0 p.1) (pair (mark (class.Key word.Scan ∷ [])) scan))
    (makes (λ p. table.Partition p.0 p.1) (pair (mark (class.Key word.Partition ∷ [])) partition)))))

abbrev pub body : (l : Level) → Form (Tree l)
body Level.Expr = makes (λ p. roll-Expr (record { first = p.0; more = p.1 })) (pair (level Level.And) (many or_more))
body Level.And = makes (λ p. roll-And (record { first = p.0; more = p.1 })) (pair (level Level.Cmp) (many and_more))
body Level.Cmp = makes (λ p. compared p.0 p.1) (pair (level Level.Sum) (option (either compares (either searches (either within_list within_bounds)))))
body Level.Sum = makes (λ p. roll-Sum (record { first = p.0; more = p.1 })) (pair (level Level.Prod) (many sum_more))
body Level.Prod = makes (λ p. roll-Prod (record { first = p.0; more = p.1 })) (pair (level Level.Sign) (many prod_more))
body Level.Sign =
    either (makes sign.Plain (level Level.Post))
    (makes (λ p. sign.Minus p.0 p.1) (pair (mark (class.Minus ∷ [])) (level Level.Post)))
body Level.Post = makes (λ p. roll-Post (record { first = p.0; more = p.1 })) (pair (level Level.Term) (many (level Level.Access)))
body Level.Access =
    either (makes (λ p. access.Entry p.0 p.1) (pair (mark (class.Dot ∷ [])) any_word))
    (makes (λ p. access.Element p.0 p.1) (pair (mark (class.OpenSquare ∷ [])) (before (level Level.Expr) (class.CloseSquare ∷ []))))
body Level.Term =
    either (makes term.Literal literal)
    (either (makes term.Name (level Level.Name))
    (either called
    (makes (λ p. term.Group p.0 p.1) (pair (mark (class.Open ∷ [])) (before (level Level.Expr) (class.Close ∷ []))))))
body Level.Arg = either (makes arg.Plain (level Level.Expr)) (makes arg.Star (mark (class.Star ∷ [])))
body Level.Name =
    either (makes name.Bare name_word)
    (makes (λ p. name.Quoted p.0 p.1) (pair (mark (class.OpenSquare ∷ [])) (before string (class.CloseSquare ∷ []))))
body Level.Item =
    either (makes (λ p. record { name = Some p.0; value = p.1 }) (pair (before (level Level.Name) (class.Assign ∷ [])) (level Level.Expr)))
    (makes (λ e. record { name = None; value = e }) (level Level.Expr))
body Level.TableArg =
    either (makes tablearg.Table (level Level.Name))
    (makes (λ p. tablearg.Pipe p.0 p.1) (pair (mark (class.Open ∷ [])) (before (level Level.Pipe) (class.Close ∷ []))))
body Level.Source =
    either (makes source.Table (level Level.Name))
    (either (makes (λ p. source.Range p.0 p.1) (pair (mark (class.Key word.Range ∷ [])) range))
    (either (makes (λ p. source.Print p.0 p.1) (pair (mark (class.Key word.Print ∷ [])) items))
    (makes (λ p. source.Union p.0 p.1) (pair (mark (class.Key word.Union ∷ [])) union))))
body Level.Pipe = makes (λ p. roll-Pipe (record { source = p.0; ops = p.1 })) (pair (level Level.Source) (many (after (class.Bar ∷ []) (level Level.Op))))
body Level.Op =
    either (makes op.Columns column_op)
    (either (makes op.Rows row_op)
    (either (makes op.Groups group_op)
    (makes op.Tables table_op)))
