-- The functions of texts. A character is a Unicode scalar value.
use Rattle.std.specs.Prelude.{ℕ, ℤ, pos, negsuc, ◌==◌, List, [], drop, length, map, reverse, if◌then◌else◌}
use Rattle.std.specs.Char.{to_ascii_lowercase, to_ascii_uppercase}
use Rattle.std.specs.Cmp.Lexicographic.{slice_cmp}
use Rattle.std.specs.List.{flat_map, join_by}
use Rattle.std.specs.Ordering.{nat_cmp}
use Rattle.std.specs.Str.{chars, encode_utf8_all}
use Rattle.std.specs.declared.cmp.Ordering.{Ordering}
use Rattle.std.specs.declared.cmp.Ordering.TheVariants.{Less, Equal, Greater}
use Rattle.kql_texts.specs.Texts.{elements, index_of, replace, split_by, sub_text}
use Rattle.kql_cells.specs.declared.dynamic.Dyn.TheVariants as dyn
use Rattle.kql_cells.specs.declared.value.Value.{Value}
use Rattle.kql_cells.specs.declared.value.Value.TheVariants as value
use Rattle.kql_functions.specs.declared.func.TextFunc.{TextFunc}
use Rattle.kql_functions.specs.declared.func.TextFunc.TheVariants as func
use Rattle.kql_scalar_fns.specs.Arguments.{argument}
use Rattle.kql_scalar_fns.specs.Readings.{text_of}

-- how many characters a text has
unfoldable pub char_count : Value → Value
char_count (value.Text t) = value.Long (pos (length (chars t)))
char_count _ = value.Null

-- so many characters from a place on; a null place or number gives the empty text
unfoldable pub part : Value → Value → Value → Value
part (value.Text t) (value.Long start) (value.Long count) = value.Text (sub_text t start count)
part (value.Text t) _ _ = value.Text []
part _ _ _ = value.Null

-- all characters from a place on: a text has no more characters than bytes
unfoldable pub rest_from : Value → Value → Value
rest_from (value.Text t) (value.Long start) = value.Text (sub_text t start (pos (length t)))
rest_from (value.Text t) _ = value.Text []
rest_from _ _ = value.Null

-- the place in characters of the first p, or -1
unfoldable pub place_of : Value → Value → Value
place_of (value.Text t) (value.Text p) = value.Long (index_of t p)
place_of _ _ = value.Null

-- ASCII letters in upper case, and in lower case
unfoldable pub raised : Value → Value
raised (value.Text t) = value.Text (map to_ascii_uppercase t)
raised _ = value.Null

unfoldable pub lowered : Value → Value
lowered (value.Text t) = value.Text (map to_ascii_lowercase t)
lowered _ = value.Null

-- the characters from the last to the first
unfoldable pub reversed : Value → Value
reversed (value.Text t) = value.Text (encode_utf8_all (reverse (chars t)))
reversed _ = value.Null

-- the texts of these, one after another
unfoldable pub joined : List Value → List ℕ
joined vs = flat_map text_of vs

-- the same with a text between each two
unfoldable pub joined_with : List ℕ → List Value → List ℕ
joined_with d vs = join_by text_of d vs

-- the text with b in the place of each a
unfoldable pub replaced : Value → Value → Value → Value
replaced (value.Text t) (value.Text a) (value.Text b) = value.Text (replace t a b)
replaced _ _ _ = value.Null

-- the array of the texts between each d
unfoldable pub pieces : Value → Value → Value
pieces (value.Text t) (value.Text d) = value.Dynamic (dyn.Array (elements (split_by t d)))
pieces _ _ = value.Null

-- -1, 0 or 1
abbrev pub order_number : Ordering → ℤ
order_number Less = negsuc 0
order_number Equal = pos 0
order_number Greater = pos 1

-- the order of two texts by their bytes
unfoldable pub text_order : Value → Value → Value
text_order (value.Text a) (value.Text b) = value.Long (order_number (slice_cmp nat_cmp a b))
text_order _ _ = value.Null

-- what each function gives
unfoldable pub text_call : TextFunc → List Value → Value
text_call func.Length args = char_count (argument args 0)
text_call func.Substring args = if length args == 2 then rest_from (argument args 0) (argument args 1) else part (argument args 0) (argument args 1) (argument args 2)
text_call func.IndexOf args = place_of (argument args 0) (argument args 1)
text_call func.ToUpper args = raised (argument args 0)
text_call func.ToLower args = lowered (argument args 0)
text_call func.Reverse args = reversed (argument args 0)
text_call func.Concat args = value.Text (joined args)
text_call func.ConcatDelimited args = value.Text (joined_with (text_of (argument args 0)) (drop 1 args))
text_call func.Replace args = replaced (argument args 0) (argument args 1) (argument args 2)
text_call func.Split args = pieces (argument args 0) (argument args 1)
text_call func.Compare args = text_order (argument args 0) (argument args 1)
