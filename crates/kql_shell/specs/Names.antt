-- The tables that words name.
use Rattle.std.specs.Prelude.{ℕ, ◌==◌, ◌&&◌, not, Bool, List, ◌∷◌, ◌++◌, codes, if◌then◌else◌}
use Rattle.std.specs.List.{after_last, before_last, list_any}
use Rattle.std.specs.Str.{bytes_eq}
use Rattle.kql_lexer.specs.Words.{is_reserved, is_word}
use Rattle.kql_words.specs.Command.{name_in, names_table, path_in}

abbrev pub is_byte : ℕ → ℕ → Bool
is_byte byte b = b == byte

-- what stands behind the last slash
abbrev pub without_folder : List ℕ → List ℕ
without_folder path = if list_any (is_byte 47) path then after_last (is_byte 47) path else path

-- what stands before the last point
abbrev pub without_ending : List ℕ → List ℕ
without_ending name = if list_any (is_byte 46) name then before_last (is_byte 46) name else name

-- the name of the table of a file: the file's, without folder and ending, where that is a word, and else T
abbrev pub table_name : List ℕ → List ℕ
table_name path =
    let stem = without_ending (without_folder path) in
    if is_word stem && not (is_reserved stem) then stem else codes "T"

-- `-` is the standard input
abbrev pub path_given : List ℕ → List ℕ
path_given path = if bytes_eq path (codes "-") then codes "/dev/stdin" else path

-- the word NAME=PATH of a file
abbrev pub table_word : List ℕ → List ℕ
table_word word =
    if names_table word then name_in word ++ 61 ∷ path_given (path_in word) else table_name word ++ 61 ∷ path_given word
