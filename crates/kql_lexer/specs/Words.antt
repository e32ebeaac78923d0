-- The words of the language: their texts, and which of them are reserved.
use Rattle.std.specs.Prelude.{ℕ, Bool, true, false, ◌&&◌, codes, nat_le, List, [], ◌∷◌, take, length, Option, Some, None, if◌then◌else◌}
use Rattle.std.specs.List.{list_all}
use Rattle.std.specs.Str.{bytes_eq}
use Rattle.kql_lexer.specs.Bytes.{is_word_start, is_word_char}
use Rattle.kql_lexer.specs.declared.keyword.Keyword.{Keyword}
use Rattle.kql_lexer.specs.declared.keyword.Keyword.TheVariants as word

-- the text of a keyword
unfoldable pub keyword_text : Keyword → List ℕ
keyword_text word.Other = []
keyword_text word.Or = codes "or"
keyword_text word.In = codes "in"
keyword_text word.By = codes "by"
keyword_text word.On = codes "on"
keyword_text word.To = codes "to"
keyword_text word.And = codes "and"
keyword_text word.Has = codes "has"
keyword_text word.Asc = codes "asc"
keyword_text word.Let = codes "let"
keyword_text word.InTilde = codes "in~"
keyword_text word.Bag = codes "bag"
keyword_text word.All = codes "all"
keyword_text word.Int = codes "int"
keyword_text word.Top = codes "top"
keyword_text word.True = codes "true"
keyword_text word.From = codes "from"
keyword_text word.Step = codes "step"
keyword_text word.With = codes "with"
keyword_text word.Kind = codes "kind"
keyword_text word.Hint = codes "hint"
keyword_text word.Desc = codes "desc"
keyword_text word.Take = codes "take"
keyword_text word.Sort = codes "sort"
keyword_text word.Scan = codes "scan"
keyword_text word.Join = codes "join"
keyword_text word.Last = codes "last"
keyword_text word.None = codes "none"
keyword_text word.Long = codes "long"
keyword_text word.Time = codes "time"
keyword_text word.Bool = codes "bool"
keyword_text word.Real = codes "real"
keyword_text word.Guid = codes "guid"
keyword_text word.False = codes "false"
keyword_text word.Nulls = codes "nulls"
keyword_text word.Range = codes "range"
keyword_text word.Print = codes "print"
keyword_text word.Union = codes "union"
keyword_text word.Where = codes "where"
keyword_text word.Limit = codes "limit"
keyword_text word.Count = codes "count"
keyword_text word.Order = codes "order"
keyword_text word.Parse = codes "parse"
keyword_text word.Array = codes "array"
keyword_text word.First = codes "first"
keyword_text word.Outer = codes "outer"
keyword_text word.Inner = codes "inner"
keyword_text word.DollarLeft = codes "$left"
keyword_text word.Regex = codes "regex"
keyword_text word.Typeof = codes "typeof"
keyword_text word.DollarRight = codes "$right"
keyword_text word.Extend = codes "extend"
keyword_text word.Lookup = codes "lookup"
keyword_text word.Simple = codes "simple"
keyword_text word.Output = codes "output"
keyword_text word.Double = codes "double"
keyword_text word.String = codes "string"
keyword_text word.HasCs = codes "has_cs"
keyword_text word.Between = codes "between"
keyword_text word.Matches = codes "matches"
keyword_text word.Default = codes "default"
keyword_text word.Project = codes "project"
keyword_text word.Relaxed = codes "relaxed"
keyword_text word.Declare = codes "declare"
keyword_text word.Decimal = codes "decimal"
keyword_text word.Dynamic = codes "dynamic"
keyword_text word.Contains = codes "contains"
keyword_text word.Endswith = codes "endswith"
keyword_text word.Distinct = codes "distinct"
keyword_text word.Datetime = codes "datetime"
keyword_text word.Timespan = codes "timespan"
keyword_text word.Leftsemi = codes "leftsemi"
keyword_text word.Leftanti = codes "leftanti"
keyword_text word.Serialize = codes "serialize"
keyword_text word.Summarize = codes "summarize"
keyword_text word.Partition = codes "partition"
keyword_text word.MvExpand = codes "mv-expand"
keyword_text word.Leftouter = codes "leftouter"
keyword_text word.Fullouter = codes "fullouter"
keyword_text word.Rightsemi = codes "rightsemi"
keyword_text word.Rightanti = codes "rightanti"
keyword_text word.Startswith = codes "startswith"
keyword_text word.Rightouter = codes "rightouter"
keyword_text word.ContainsCs = codes "contains_cs"
keyword_text word.EndswithCs = codes "endswith_cs"
keyword_text word.MakeSeries = codes "make-series"
keyword_text word.Innerunique = codes "innerunique"
keyword_text word.ProjectAway = codes "project-away"
keyword_text word.ProjectKeep = codes "project-keep"
keyword_text word.StartswithCs = codes "startswith_cs"
keyword_text word.WithMatchId = codes "with_match_id"
keyword_text word.ProjectRename = codes "project-rename"

-- the first of these keywords that has this text, or `Other`
unfoldable pub keyword_among : List Keyword → List ℕ → Keyword
keyword_among [] text = word.Other
keyword_among (k ∷ ks) text = if bytes_eq (keyword_text k) text then k else keyword_among ks text

-- each of these keywords has at least as many bytes as the one before it, and the first at least n
unfoldable pub rises : ℕ → List Keyword → Bool
rises n [] = true
rises n (k ∷ ks) = nat_le n (length (keyword_text k)) && rises (length (keyword_text k)) ks

-- every keyword but `Other`, the shorter ones first
unfoldable pub keywords : List Keyword
keywords =
    word.Or ∷ word.In ∷ word.By ∷ word.On ∷ word.To ∷ word.And ∷ word.Has ∷ word.Asc ∷
    word.Let ∷ word.InTilde ∷ word.Bag ∷ word.All ∷ word.Int ∷ word.Top ∷ word.True ∷ word.From ∷
    word.Step ∷ word.With ∷ word.Kind ∷ word.Hint ∷ word.Desc ∷ word.Take ∷ word.Sort ∷ word.Scan ∷
    word.Join ∷ word.Last ∷ word.None ∷ word.Long ∷ word.Time ∷ word.Bool ∷ word.Real ∷ word.Guid ∷
    word.False ∷ word.Nulls ∷ word.Range ∷ word.Print ∷ word.Union ∷ word.Where ∷ word.Limit ∷ word.Count ∷
    word.Order ∷ word.Parse ∷ word.Array ∷ word.First ∷ word.Outer ∷ word.Inner ∷ word.DollarLeft ∷ word.Regex ∷
    word.Typeof ∷ word.DollarRight ∷ word.Extend ∷ word.Lookup ∷ word.Simple ∷ word.Output ∷ word.Double ∷ word.String ∷
    word.HasCs ∷ word.Between ∷ word.Matches ∷ word.Default ∷ word.Project ∷ word.Relaxed ∷ word.Declare ∷ word.Decimal ∷
    word.Dynamic ∷ word.Contains ∷ word.Endswith ∷ word.Distinct ∷ word.Datetime ∷ word.Timespan ∷ word.Leftsemi ∷ word.Leftanti ∷
    word.Serialize ∷ word.Summarize ∷ word.Partition ∷ word.MvExpand ∷ word.Leftouter ∷ word.Fullouter ∷ word.Rightsemi ∷ word.Rightanti ∷
    word.Startswith ∷ word.Rightouter ∷ word.ContainsCs ∷ word.EndswithCs ∷ word.MakeSeries ∷ word.Innerunique ∷ word.ProjectAway ∷ word.ProjectKeep ∷
    word.StartswithCs ∷ word.WithMatchId ∷ word.ProjectRename ∷ []

-- the keyword with this text, or `Other`
unfoldable pub keyword_of : List ℕ → Keyword
keyword_of text = keyword_among keywords text

-- the keywords that are no names
unfoldable pub is_reserved_keyword : Keyword → Bool
is_reserved_keyword word.And = true
is_reserved_keyword word.Or = true
is_reserved_keyword word.In = true
is_reserved_keyword word.InTilde = true
is_reserved_keyword word.Between = true
is_reserved_keyword word.Contains = true
is_reserved_keyword word.ContainsCs = true
is_reserved_keyword word.Startswith = true
is_reserved_keyword word.StartswithCs = true
is_reserved_keyword word.Endswith = true
is_reserved_keyword word.EndswithCs = true
is_reserved_keyword word.Has = true
is_reserved_keyword word.HasCs = true
is_reserved_keyword word.Matches = true
is_reserved_keyword word.True = true
is_reserved_keyword word.False = true
is_reserved_keyword word.By = true
is_reserved_keyword word.On = true
is_reserved_keyword word.Asc = true
is_reserved_keyword word.Desc = true
is_reserved_keyword word.Nulls = true
is_reserved_keyword word.From = true
is_reserved_keyword word.To = true
is_reserved_keyword word.Step = true
is_reserved_keyword word.With = true
is_reserved_keyword word.Kind = true
is_reserved_keyword word.Hint = true
is_reserved_keyword word.Default = true
is_reserved_keyword word.Typeof = true
is_reserved_keyword word.Let = true
is_reserved_keyword word.Range = true
is_reserved_keyword word.Print = true
is_reserved_keyword word.Union = true
is_reserved_keyword word.DollarLeft = true
is_reserved_keyword word.DollarRight = true
is_reserved_keyword word.MvExpand = true
is_reserved_keyword word.MakeSeries = true
is_reserved_keyword word.ProjectAway = true
is_reserved_keyword word.ProjectKeep = true
is_reserved_keyword word.ProjectRename = true
is_reserved_keyword _ = false

-- an ASCII letter or `_`, then letters, digits and `_`
unfoldable pub is_word : List ℕ → Bool
is_word [] = false
is_word (b ∷ bs) = is_word_start b && list_all is_word_char bs

-- a reserved word, as the whole text
unfoldable pub is_reserved : List ℕ → Bool
is_reserved text = is_reserved_keyword (keyword_of text)

-- the words that a typed literal begins with
unfoldable pub is_literal_keyword : Keyword → Bool
is_literal_keyword word.Bool = true
is_literal_keyword word.Long = true
is_literal_keyword word.Datetime = true
is_literal_keyword word.Timespan = true
is_literal_keyword word.Time = true
is_literal_keyword word.Dynamic = true
is_literal_keyword word.Int = true
is_literal_keyword word.Real = true
is_literal_keyword word.Double = true
is_literal_keyword word.Decimal = true
is_literal_keyword word.Guid = true
is_literal_keyword _ = false

-- the words that begin with a letter and have another sign in them, the longer ones first
abbrev pub joined_words : List Keyword
joined_words = word.ProjectRename ∷ word.ProjectAway ∷ word.ProjectKeep ∷ word.MakeSeries ∷ word.MvExpand ∷ word.InTilde ∷ []

-- the words that begin with `$`
abbrev pub side_words : List Keyword
side_words = word.DollarRight ∷ word.DollarLeft ∷ []

-- the words that may stand directly behind `!`, the longer ones first
abbrev pub negated_words : List Keyword
negated_words =
    word.StartswithCs ∷ word.ContainsCs ∷ word.EndswithCs ∷ word.Startswith ∷ word.Contains ∷ word.Endswith ∷ word.Between ∷
    word.HasCs ∷ word.InTilde ∷ word.Has ∷ word.In ∷ []

-- the first of these keywords that has this text
unfoldable pub word_in : List Keyword → List ℕ → Option Keyword
word_in [] text = None
word_in (k ∷ ks) text = if bytes_eq (keyword_text k) text then Some k else word_in ks text

-- the first of these keywords that the bytes begin with
unfoldable pub word_before : List Keyword → List ℕ → Option Keyword
word_before [] bytes = None
word_before (k ∷ ks) bytes = if bytes_eq (keyword_text k) (take (length (keyword_text k)) bytes) then Some k else word_before ks bytes
