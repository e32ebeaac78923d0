-- The levels of the grammar, and how they start and go on.
use Rattle.std.specs.Prelude.{Bool, false, List, [], ◌∷◌, ◌++◌}
use Rattle.kql_lexer.specs.declared.keyword.Keyword.TheVariants as word
use Rattle.kql_syntax.specs.declared.class.Class.{Class}
use Rattle.kql_syntax.specs.declared.class.Class.TheVariants as class

pub data Level : Type 0 where
  Expr : Level
  And : Level
  Cmp : Level
  Sum : Level
  Prod : Level
  Sign : Level
  Post : Level
  Access : Level
  Term : Level
  Arg : Level
  Name : Level
  Item : Level
  TableArg : Level
  Source : Level
  Pipe : Level
  Op : Level

-- literals
abbrev pub literals : List Class
literals = class.Number ∷ class.Span ∷ class.Text ∷ class.Typed ∷ class.Key word.True ∷ class.Key word.False ∷ []

-- what compares two sums
abbrev pub comparisons : List Class
comparisons =
    class.Equal ∷ class.NotEqual ∷ class.Alike ∷ class.NotAlike ∷ class.Less ∷ class.LessEqual ∷ class.Greater ∷ class.GreaterEqual ∷
    class.Key word.Contains ∷ class.Key word.ContainsCs ∷ class.Key word.Startswith ∷ class.Key word.StartswithCs ∷
    class.Key word.Endswith ∷ class.Key word.EndswithCs ∷ class.Key word.Has ∷ class.Key word.HasCs ∷
    class.Not word.Contains ∷ class.Not word.ContainsCs ∷ class.Not word.Startswith ∷ class.Not word.StartswithCs ∷
    class.Not word.Endswith ∷ class.Not word.EndswithCs ∷ class.Not word.Has ∷ class.Not word.HasCs ∷ []

-- what asks whether a value is in a list
abbrev pub memberships : List Class
memberships = class.Key word.In ∷ class.Key word.InTilde ∷ class.Not word.In ∷ class.Not word.InTilde ∷ []

-- what asks whether a value is between bounds
abbrev pub betweens : List Class
betweens = class.Key word.Between ∷ class.Not word.Between ∷ []

-- whether a level may have no token
abbrev pub may_be_empty : Level → Bool
may_be_empty _ = false

-- how a name starts
abbrev pub name_starts : List Class
name_starts = class.Name ∷ class.OpenSquare ∷ []

-- how a term starts
abbrev pub term_starts : List Class
term_starts = literals ++ class.Open ∷ name_starts

-- how an expression, and so an item, starts
abbrev pub expr_starts : List Class
expr_starts = class.Minus ∷ term_starts

-- how a source that is no table's name starts
abbrev pub source_words : List Class
source_words = class.Key word.Range ∷ class.Key word.Print ∷ class.Key word.Union ∷ []

-- the names of operators
abbrev pub column_ops : List Class
column_ops =
    class.Key word.Where ∷ class.Key word.Extend ∷ class.Key word.Project ∷ class.Key word.Serialize ∷
    class.Key word.ProjectAway ∷ class.Key word.ProjectKeep ∷ class.Key word.ProjectRename ∷ []

abbrev pub row_ops : List Class
row_ops =
    class.Key word.Take ∷ class.Key word.Limit ∷ class.Key word.Count ∷ class.Key word.Sort ∷ class.Key word.Order ∷
    class.Key word.Top ∷ class.Key word.Distinct ∷ []

abbrev pub group_ops : List Class
group_ops = class.Key word.Summarize ∷ class.Key word.MakeSeries ∷ class.Key word.MvExpand ∷ class.Key word.Parse ∷ []

abbrev pub table_ops : List Class
table_ops =
    class.Key word.Join ∷ class.Key word.Lookup ∷ class.Key word.Union ∷ class.Key word.Scan ∷ class.Key word.Partition ∷ []

-- the classes with which a level can start
abbrev pub starts : Level → List Class
starts Level.Access = class.Dot ∷ class.OpenSquare ∷ []
starts Level.Name = name_starts
starts Level.Term = term_starts
starts Level.Post = term_starts
starts Level.Arg = class.Star ∷ expr_starts
starts Level.TableArg = class.Open ∷ name_starts
starts Level.Source = source_words ++ name_starts
starts Level.Pipe = source_words ++ name_starts
starts Level.Op = column_ops ++ row_ops ++ group_ops ++ table_ops
starts _ = expr_starts

-- what goes on after a term
abbrev pub after_term : List Class
after_term = class.Open ∷ []

abbrev pub after_post : List Class
after_post = class.Dot ∷ class.OpenSquare ∷ after_term

abbrev pub after_prod : List Class
after_prod = class.Star ∷ class.Slash ∷ class.Percent ∷ after_post

abbrev pub after_sum : List Class
after_sum = class.Plus ∷ class.Minus ∷ after_prod

abbrev pub after_cmp : List Class
after_cmp = class.ExprSign ∷ class.CompareWord ∷ class.Negated ∷ class.Key word.Matches ∷ []

abbrev pub after_expr : List Class
after_expr = class.Key word.Or ∷ class.Key word.And ∷ after_cmp

abbrev pub after_item : List Class
after_item = class.Assign ∷ after_expr

abbrev pub after_source : List Class
after_source = class.Comma ∷ after_item

abbrev pub after_op : List Class
after_op =
    class.Key word.By ∷ class.Key word.Asc ∷ class.Key word.Desc ∷ class.Key word.Nulls ∷ class.Key word.To ∷ class.Colon ∷
    expr_starts ++ after_source

-- the classes that can follow a text of a level that is not the longest
abbrev pub followers : Level → List Class
followers Level.Expr = after_expr
followers Level.Arg = after_expr
followers Level.And = class.Key word.And ∷ after_cmp
followers Level.Cmp = after_cmp
followers Level.Sum = after_sum
followers Level.Prod = after_prod
followers Level.Sign = after_post
followers Level.Post = after_post
followers Level.Access = []
followers Level.Term = after_term
followers Level.Name = []
followers Level.Item = after_item
followers Level.TableArg = []
followers Level.Source = after_source
followers Level.Pipe = class.Bar ∷ after_op
followers Level.Op = after_op
