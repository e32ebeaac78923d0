-- What may be known of a token, and what the classes of tokens lead to.
use Rattle.std.proofs.Common.{◌≡◌, Bool, true, false, ◌&&◌, List, [], ◌∷◌, refl, sym, true≢false}
use Rattle.kql_lexer.specs.declared.keyword.Keyword.TheVariants as word
use Rattle.kql_lexer.specs.declared.token.TokenForm.{TokenForm}
use Rattle.kql_lexer.specs.declared.token.TokenForm.TheVariants as form
use Rattle.kql_syntax.specs.declared.class.Class.{Class}
use Rattle.kql_syntax.specs.declared.class.Class.TheVariants as class
use Rattle.kql_parser.specs.Operators.{after_free, after_operator, after_token, is_operator}
use Rattle.kql_parser_laws.specs.Counted.{Next, at_first}

pub data State : Type 0 where
  Free : State
  Operator : State
  AnyWord : State
  HintSign : State
  TypeBracket : State
  PartBracket : State

-- that of the parser
unfoldable pub next : State → Next
next State.Free = at_first
next State.Operator = after_free form.Bar
next State.AnyWord = after_free form.Dot
next State.HintSign = after_free (form.Word word.Hint [])
next State.TypeBracket = after_free (form.Word word.Typeof [])
next State.PartBracket = after_operator (form.Word word.Partition [])

-- what is known behind a token of the class, and where all words are one behind any
abbrev pub behind : State → Class → State
behind State.Free class.Bar = State.Operator
behind State.Free class.Dot = State.AnyWord
behind State.Free class.Colon = State.AnyWord
behind State.Free (class.Key word.Hint) = State.HintSign
behind State.Free (class.Key word.Typeof) = State.TypeBracket
behind State.Free _ = State.Free
behind State.Operator (class.Key word.Partition) = State.PartBracket
behind State.Operator _ = State.Free
behind State.AnyWord _ = State.Free
behind State.HintSign class.Assign = State.AnyWord
behind State.HintSign _ = State.HintSign
behind State.TypeBracket class.Open = State.AnyWord
behind State.TypeBracket _ = State.TypeBracket
behind State.PartBracket class.Open = State.Operator
behind State.PartBracket _ = State.PartBracket

-- whether no token of the class is an operator's name, and all lead to one state
abbrev pub calm : State → Class → Bool
calm n class.ExprSign = false
calm n class.CompareWord = false
calm n class.Negated = false
calm State.Free class.Word = false
calm State.Free (class.Key word.Range) = false
calm State.Free (class.Key word.Print) = false
calm State.Free (class.Key word.Union) = false
calm State.Operator class.Name = false
calm State.Operator class.Word = false
calm State.Operator (class.Key k) = false
calm _ _ = true

-- whether two are the same
abbrev pub same : State → State → Bool
same State.Free State.Free = true
same State.Operator State.Operator = true
same State.AnyWord State.AnyWord = true
same State.HintSign State.HintSign = true
same State.TypeBracket State.TypeBracket = true
same State.PartBracket State.PartBracket = true
same _ _ = false

pub same_means : (n m : State) → same n m ≡ true → n ≡ m
same_means State.Free State.Free e = refl
same_means State.Operator State.Operator e = refl
same_means State.AnyWord State.AnyWord e = refl
same_means State.HintSign State.HintSign e = refl
same_means State.TypeBracket State.TypeBracket e = refl
same_means State.PartBracket State.PartBracket e = refl
same_means _ _ e = absurd (true≢false (sym e))

-- whether tokens of these classes are no operators' names, and lead to this
abbrev pub all_calm : State → State → List Class → Bool
all_calm n m [] = true
all_calm n m (c ∷ cs) = calm n c && (same (behind n c) m && all_calm n m cs)

-- whether a token of which this is known is an operator's name, and what is known behind it
abbrev pub told : State → TokenForm → Bool
told n f = is_operator (next n) f

abbrev pub follow : State → TokenForm → Next
follow n f = after_token (next n) f
