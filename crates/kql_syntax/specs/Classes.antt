-- Classes of tokens. Each token has a number, and a class has the tokens from one number to another.
use Rattle.std.specs.Prelude.{ℕ, ℤ, ◌+◌, ◌≡◌, Bool, true, false, ◌||◌, ◌&&◌, not, List, [], ◌∷◌, nat_le}
use Rattle.kql_lexer.specs.Words.{is_reserved_keyword}
use Rattle.kql_lexer.specs.declared.keyword.Keyword.{Keyword}
use Rattle.kql_lexer.specs.declared.keyword.Keyword.TheVariants as word
use Rattle.kql_lexer.specs.declared.token.TokenForm.{TokenForm}
use Rattle.kql_lexer.specs.declared.token.TokenForm.TheVariants as form
use Rattle.kql_syntax.specs.declared.class.Class.{Class}
use Rattle.kql_syntax.specs.declared.class.Class.TheVariants as class

-- the number of a word: from 100 on the names, from 200 on the reserved words, those that compare first
abbrev pub word_number : Keyword → ℕ
word_number word.Other = 100
word_number word.Bag = 101
word_number word.All = 102
word_number word.Int = 103
word_number word.Top = 104
word_number word.Take = 105
word_number word.Sort = 106
word_number word.Scan = 107
word_number word.Join = 108
word_number word.Last = 109
word_number word.None = 110
word_number word.Long = 111
word_number word.Time = 112
word_number word.Bool = 113
word_number word.Real = 114
word_number word.Guid = 115
word_number word.Where = 116
word_number word.Limit = 117
word_number word.Count = 118
word_number word.Order = 119
word_number word.Parse = 120
word_number word.Array = 121
word_number word.First = 122
word_number word.Outer = 123
word_number word.Inner = 124
word_number word.Regex = 125
word_number word.Extend = 126
word_number word.Lookup = 127
word_number word.Simple = 128
word_number word.Output = 129
word_number word.Double = 130
word_number word.String = 131
word_number word.Project = 132
word_number word.Relaxed = 133
word_number word.Declare = 134
word_number word.Decimal = 135
word_number word.Dynamic = 136
word_number word.Distinct = 137
word_number word.Datetime = 138
word_number word.Timespan = 139
word_number word.Leftsemi = 140
word_number word.Leftanti = 141
word_number word.Serialize = 142
word_number word.Summarize = 143
word_number word.Partition = 144
word_number word.Leftouter = 145
word_number word.Fullouter = 146
word_number word.Rightsemi = 147
word_number word.Rightanti = 148
word_number word.Rightouter = 149
word_number word.Innerunique = 150
word_number word.WithMatchId = 151
word_number word.In = 200
word_number word.InTilde = 201
word_number word.Between = 202
word_number word.Contains = 203
word_number word.ContainsCs = 204
word_number word.Startswith = 205
word_number word.StartswithCs = 206
word_number word.Endswith = 207
word_number word.EndswithCs = 208
word_number word.Has = 209
word_number word.HasCs = 210
word_number word.And = 211
word_number word.Or = 212
word_number word.Matches = 213
word_number word.True = 214
word_number word.False = 215
word_number word.By = 216
word_number word.On = 217
word_number word.Asc = 218
word_number word.Desc = 219
word_number word.Nulls = 220
word_number word.From = 221
word_number word.To = 222
word_number word.Step = 223
word_number word.With = 224
word_number word.Kind = 225
word_number word.Hint = 226
word_number word.Default = 227
word_number word.Typeof = 228
word_number word.Let = 229
word_number word.Range = 230
word_number word.Print = 231
word_number word.Union = 232
word_number word.DollarLeft = 233
word_number word.DollarRight = 234
word_number word.MvExpand = 235
word_number word.MakeSeries = 236
word_number word.ProjectAway = 237
word_number word.ProjectKeep = 238
word_number word.ProjectRename = 239

-- the number of a token, one for each kind and each keyword
abbrev pub number : TokenForm → ℕ
number form.End = 0
number (form.Number n) = 1
number (form.Span n) = 2
number (form.Text t) = 3
number (form.Typed k t) = 4
number form.Open = 10
number form.OpenSquare = 11
number form.Dot = 12
number form.Equal = 13
number form.NotEqual = 14
number form.Alike = 15
number form.NotAlike = 16
number form.Less = 17
number form.LessEqual = 18
number form.Greater = 19
number form.GreaterEqual = 20
number form.Plus = 21
number form.Minus = 22
number form.Star = 23
number form.Slash = 24
number form.Percent = 25
number form.Bar = 30
number form.Close = 31
number form.CloseSquare = 32
number form.Comma = 33
number form.Semicolon = 34
number form.Colon = 35
number form.DotDot = 36
number form.Assign = 37
number form.Arrow = 38
number (form.Word k t) = word_number k
number (form.Negated k) = 1000 + word_number k

-- the least number of a class
abbrev pub low : Class → ℕ
low class.End = 0
low class.Number = 1
low class.Span = 2
low class.Text = 3
low class.Typed = 4
low class.Open = 10
low class.OpenSquare = 11
low class.Dot = 12
low class.Equal = 13
low class.NotEqual = 14
low class.Alike = 15
low class.NotAlike = 16
low class.Less = 17
low class.LessEqual = 18
low class.Greater = 19
low class.GreaterEqual = 20
low class.Plus = 21
low class.Minus = 22
low class.Star = 23
low class.Slash = 24
low class.Percent = 25
low class.Bar = 30
low class.Close = 31
low class.CloseSquare = 32
low class.Comma = 33
low class.Semicolon = 34
low class.Colon = 35
low class.DotDot = 36
low class.Assign = 37
low class.Arrow = 38
low class.Name = 100
low class.Word = 100
low (class.Key k) = word_number k
low (class.Not k) = 1000 + word_number k
low class.ExprSign = 10
low class.CompareWord = 200
low class.Negated = 1000

-- the greatest number of a class
abbrev pub high : Class → ℕ
high class.Name = 199
high class.Word = 299
high class.ExprSign = 29
high class.CompareWord = 210
high class.Negated = 1299
high c = low c

-- whether the number is one of the class
abbrev pub spans : Class → ℕ → Bool
spans c n = nat_le (low c) n && nat_le n (high c)

-- whether a number is one of these classes
abbrev pub holds : List Class → ℕ → Bool
holds [] n = false
holds (c ∷ cs) n = spans c n || holds cs n

-- whether a token is of one of these classes
abbrev pub has : List Class → TokenForm → Bool
has cs f = holds cs (number f)

-- whether no token is of a class of both lists
abbrev pub apart_from : Class → List Class → Bool
apart_from c [] = true
apart_from c (d ∷ ds) = not (nat_le (low c) (high d) && nat_le (low d) (high c)) && apart_from c ds

abbrev pub apart : List Class → List Class → Bool
apart [] ds = true
apart (c ∷ cs) ds = apart_from c ds && apart cs ds

-- whether each class of the first list lies in one of the second
abbrev pub lies_in : Class → List Class → Bool
lies_in c [] = false
lies_in c (d ∷ ds) = (nat_le (low d) (low c) && nat_le (high c) (high d)) || lies_in c ds

abbrev pub among : List Class → List Class → Bool
among [] ds = true
among (c ∷ cs) ds = lies_in c ds && among cs ds

-- a word that is not reserved
unfoldable pub is_name : TokenForm → Bool
is_name (form.Word k t) = not (is_reserved_keyword k)
is_name _ = false

-- a sign that can go on an expression
unfoldable pub goes_on : TokenForm → Bool
goes_on form.Open = true
goes_on form.OpenSquare = true
goes_on form.Dot = true
goes_on form.Equal = true
goes_on form.NotEqual = true
goes_on form.Alike = true
goes_on form.NotAlike = true
goes_on form.Less = true
goes_on form.LessEqual = true
goes_on form.Greater = true
goes_on form.GreaterEqual = true
goes_on form.Plus = true
goes_on form.Minus = true
goes_on form.Star = true
goes_on form.Slash = true
goes_on form.Percent = true
goes_on _ = false

-- a word that compares
unfoldable pub compares : Keyword → Bool
compares word.In = true
compares word.InTilde = true
compares word.Between = true
compares word.Contains = true
compares word.ContainsCs = true
compares word.Startswith = true
compares word.StartswithCs = true
compares word.Endswith = true
compares word.EndswithCs = true
compares word.Has = true
compares word.HasCs = true
compares _ = false

-- what it means that a token is of a class
unfoldable pub IsOf : Class → TokenForm → Type 0
IsOf class.End f = f ≡ form.End
IsOf class.Number f = (n : ℤ) × (f ≡ form.Number n)
IsOf class.Span f = (n : ℤ) × (f ≡ form.Span n)
IsOf class.Text f = (t : List ℕ) × (f ≡ form.Text t)
IsOf class.Typed f = (k : Keyword) × (t : List ℕ) × (f ≡ form.Typed k t)
IsOf class.Open f = f ≡ form.Open
IsOf class.OpenSquare f = f ≡ form.OpenSquare
IsOf class.Dot f = f ≡ form.Dot
IsOf class.Equal f = f ≡ form.Equal
IsOf class.NotEqual f = f ≡ form.NotEqual
IsOf class.Alike f = f ≡ form.Alike
IsOf class.NotAlike f = f ≡ form.NotAlike
IsOf class.Less f = f ≡ form.Less
IsOf class.LessEqual f = f ≡ form.LessEqual
IsOf class.Greater f = f ≡ form.Greater
IsOf class.GreaterEqual f = f ≡ form.GreaterEqual
IsOf class.Plus f = f ≡ form.Plus
IsOf class.Minus f = f ≡ form.Minus
IsOf class.Star f = f ≡ form.Star
IsOf class.Slash f = f ≡ form.Slash
IsOf class.Percent f = f ≡ form.Percent
IsOf class.Bar f = f ≡ form.Bar
IsOf class.Close f = f ≡ form.Close
IsOf class.CloseSquare f = f ≡ form.CloseSquare
IsOf class.Comma f = f ≡ form.Comma
IsOf class.Semicolon f = f ≡ form.Semicolon
IsOf class.Colon f = f ≡ form.Colon
IsOf class.DotDot f = f ≡ form.DotDot
IsOf class.Assign f = f ≡ form.Assign
IsOf class.Arrow f = f ≡ form.Arrow
IsOf class.Name f = (k : Keyword) × (t : List ℕ) × (f ≡ form.Word k t) × (is_reserved_keyword k ≡ false)
IsOf class.Word f = (k : Keyword) × (t : List ℕ) × (f ≡ form.Word k t)
IsOf (class.Key k) f = (t : List ℕ) × (f ≡ form.Word k t)
IsOf (class.Not k) f = f ≡ form.Negated k
IsOf class.ExprSign f = goes_on f ≡ true
IsOf class.CompareWord f = (k : Keyword) × (t : List ℕ) × (f ≡ form.Word k t) × (compares k ≡ true)
IsOf class.Negated f = (k : Keyword) × (f ≡ form.Negated k)
