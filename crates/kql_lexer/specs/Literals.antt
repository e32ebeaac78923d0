-- Typed literals: a word, blanks or none, `(`, and raw text up to the first `)` that is not between double quotes.
use Rattle.std.specs.Prelude.{ℕ, suc, zero, ◌+◌, Bool, true, false, ◌&&◌, ◌==◌, List, [], ◌∷◌, take, drop, slice_index, Option, Some, None, option_map, unwrap_or, if◌then◌else◌}
use Rattle.std.specs.List.{prefix_len}
use Rattle.kql_lexer.specs.Bytes.{is_blank, is_word_char}
use Rattle.kql_lexer.specs.Words.{is_literal_keyword, keyword_of}
use Rattle.kql_lexer.specs.declared.keyword.Keyword.{Keyword}

-- How many bytes of blanks and comments stand first; in a comment they go on to the line's end.
unfoldable pub gap_len : Bool → List ℕ → ℕ
gap_len comment [] = 0
gap_len true (b ∷ bs) = suc (if b == 10 then gap_len false bs else gap_len true bs)
gap_len false (b ∷ bs) =
    if is_blank b then suc (gap_len false bs)
    else (if b == 47 && slice_index bs 0 == 47 then suc (gap_len true bs) else 0)

-- how many bytes stand up to the next double quote, itself included, that is not behind a backslash; `kept` says that
-- a backslash stands before them
unfoldable pub quote_end : Bool → List ℕ → Option ℕ
quote_end kept [] = None
quote_end true (b ∷ bs) = option_map suc (quote_end false bs)
quote_end false (b ∷ bs) = if b == 34 then Some 1 else option_map suc (quote_end (b == 92) bs)

-- how many bytes behind a byte belong to a text between quotes that the byte opens: up to and with the next quote, and
-- none where none follows
abbrev pub quoted_len : ℕ → List ℕ → ℕ
quoted_len b bs = if b == 34 then unwrap_or (quote_end false bs) 0 else 0

-- How many bytes stand before the first `)` that is not between two double quotes, all if there is none. The next k
-- bytes are between quotes, or the second quote.
unfoldable pub raw_len : ℕ → List ℕ → ℕ
raw_len k [] = 0
raw_len zero (b ∷ bs) = if b == 41 then 0 else suc (raw_len (quoted_len b bs) bs)
raw_len (suc k) (b ∷ bs) = suc (raw_len k bs)

-- the keyword that the first word characters are
unfoldable pub literal_keyword : List ℕ → Keyword
literal_keyword bytes = keyword_of (take (prefix_len is_word_char bytes) bytes)

-- where the `(` of a literal stands: behind the word, and behind blanks and comments
unfoldable pub literal_open : List ℕ → ℕ
literal_open bytes = prefix_len is_word_char bytes + gap_len false (drop (prefix_len is_word_char bytes) bytes)

-- a word that begins literals, and the `(`
unfoldable pub opens_literal : List ℕ → Bool
opens_literal bytes = is_literal_keyword (literal_keyword bytes) && slice_index bytes (literal_open bytes) == 40
