-- The texts of names and literals.
use Rattle.std.specs.Prelude.{ℕ, ◌==◌, true, false, ◌&&◌, not, unsigned_abs, List, [], ◌∷◌, ◌++◌, codes, if◌then◌else◌}
use Rattle.std.specs.Char.{encode_utf8}
use Rattle.std.specs.Fmt.{signed_decimal}
use Rattle.std.specs.List.{concat, flat_map}
use Rattle.kql_cells.specs.Dynamic.{is_well_formed_dynamic}
use Rattle.kql_cells.specs.declared.value.Kind.{Kind}
use Rattle.kql_cells.specs.declared.value.Kind.TheVariants as kind
use Rattle.kql_cells.specs.declared.value.Value.{Value}
use Rattle.kql_cells.specs.declared.value.Value.TheVariants as value
use Rattle.kql_ticks.specs.Ranges.{is_moment}
use Rattle.kql_ticks.specs.Texts.{moment_text, span_text}
use Rattle.kql_dynamic.specs.Printed.{printed}
use Rattle.kql_lexer.specs.Words.{is_reserved, is_word}
use Rattle.kql_plan_text.specs.Words.{kind_word}
use Rattle.kql_bound.specs.declared.literal.Lit.{Lit}

-- the signs `"` and `'`, and the backslash
abbrev pub double_quote : ℕ
double_quote = 34

abbrev pub single_quote : ℕ
single_quote = 39

abbrev pub backslash : ℕ
backslash = 92

-- a byte of a string between two of these signs: a backslash stands before the sign and before a backslash, and a line
-- feed, a carriage return and a tab are `\n`, `\r` and `\t`
unfoldable pub escaped_byte : ℕ → ℕ → List ℕ
escaped_byte sign b =
    if b == backslash then backslash ∷ backslash ∷ []
    else if b == sign then backslash ∷ sign ∷ []
    else if b == 10 then backslash ∷ codes "n"
    else if b == 13 then backslash ∷ codes "r"
    else if b == 9 then backslash ∷ codes "t"
    else b ∷ []

-- a character of such a string, which is escaped as its bytes are: none of those that stand for it but ASCII needs it
unfoldable pub escaped_char : ℕ → ℕ → List ℕ
escaped_char sign c =
    if c == backslash then backslash ∷ backslash ∷ []
    else if c == sign then backslash ∷ sign ∷ []
    else if c == 10 then backslash ∷ codes "n"
    else if c == 13 then backslash ∷ codes "r"
    else if c == 9 then backslash ∷ codes "t"
    else encode_utf8 c

-- a string between two of these signs
unfoldable pub quoted : ℕ → List ℕ → List ℕ
quoted sign t = concat ((sign ∷ []) ∷ flat_map (escaped_byte sign) t ∷ (sign ∷ []) ∷ [])

-- a name is itself where it is a word that is not reserved, and else `['name']`
unfoldable pub name_text : List ℕ → List ℕ
name_text n = if is_word n && not (is_reserved n) then n else concat (codes "[" ∷ quoted single_quote n ∷ codes "]" ∷ [])

-- `long(null)` and the like
unfoldable pub null_text : Kind → List ℕ
null_text k = concat (kind_word k ∷ codes "(null)" ∷ [])

-- a value behind the word of its type
unfoldable pub typed_text : Kind → List ℕ → List ℕ
typed_text k t = concat (kind_word k ∷ codes "(" ∷ t ∷ codes ")" ∷ [])

-- the text of a value, which has this type where it is null; one that is not well formed is no value of its type, and
-- stands as null
unfoldable pub value_text : Kind → Value → List ℕ
value_text k value.Null = null_text k
value_text k (value.Bool true) = codes "true"
value_text k (value.Bool false) = codes "false"
value_text k (value.Long n) = signed_decimal n
value_text k (value.Text t) = quoted double_quote t
value_text k (value.Moment x) = if is_moment x then typed_text kind.Moment (moment_text (unsigned_abs x)) else null_text kind.Moment
value_text k (value.Span x) = typed_text kind.Span (span_text x)
value_text k (value.Dynamic d) = if is_well_formed_dynamic d then typed_text kind.Dynamic (printed d) else null_text kind.Dynamic

abbrev pub lit_text : Lit → List ℕ
lit_text l = value_text l.kind l.value
