-- Strings with escapes, and verbatim strings.
use Rattle.std.specs.Prelude.{ℕ, ◌+◌, ◌-◌, Bool, true, false, ◌||◌, ◌==◌, List, [], ◌∷◌, length, take, drop, Option, Some, None, option_map, option_and_then, if◌then◌else◌}
use Rattle.kql_lexer.specs.declared.strings.Inside.{Inside}
use Rattle.kql_lexer.specs.declared.strings.Inside.TheVariants.{Open, Kept, Closed}

-- What a byte leaves of a string that has this sign. A string goes on to the next such sign that is not behind a
-- backslash, and it stands on one line.
unfoldable pub in_string : ℕ → Inside → ℕ → Option Inside
in_string sign Open b = if b == 10 then None else (if b == 92 then Some Kept else (if b == sign then Some Closed else Some Open))
in_string sign Kept b = if b == 10 then None else Some Open
in_string sign Closed b = None

-- The same of a verbatim string: a backslash is itself, and a doubled sign does not close.
unfoldable pub in_verbatim : ℕ → Inside → ℕ → Option Inside
in_verbatim sign Open b = if b == 10 then None else (if b == sign then Some Closed else Some Open)
in_verbatim sign Kept b = None
in_verbatim sign Closed b = if b == sign then Some Open else None

-- of the one or the other
abbrev pub in_either : Bool → ℕ → Inside → ℕ → Option Inside
in_either false sign = in_string sign
in_either true sign = in_verbatim sign

-- what all these bytes leave
unfoldable pub leaves : (Inside → ℕ → Option Inside) → Inside → List ℕ → Option Inside
leaves step inside [] = Some inside
leaves step inside (b ∷ bs) = option_and_then (λ next. leaves step next bs) (step inside b)

-- the bytes between byte k and the last byte
abbrev pub between : ℕ → List ℕ → List ℕ
between k bytes = take (length bytes - (k + 2)) (drop (k + 1) bytes)

-- what a backslash and this byte stand for
unfoldable pub escape : ℕ → Option ℕ
escape b =
    if b == 92 || b == 34 || b == 39 then Some b
    else (if b == 110 then Some 10
    else (if b == 114 then Some 13
    else (if b == 116 then Some 9
    else None)))

-- The text of a string's bytes, with each backslash and the byte behind it as what they stand for; `kept` says that
-- a backslash stands before them.
unfoldable pub unescaped : Bool → List ℕ → Option (List ℕ)
unescaped false [] = Some []
unescaped true [] = None
unescaped false (b ∷ bs) = if b == 92 then unescaped true bs else option_map (λ text. b ∷ text) (unescaped false bs)
unescaped true (b ∷ bs) = option_and_then (λ c. option_map (λ text. c ∷ text) (unescaped false bs)) (escape b)

-- The text of a verbatim string's bytes, with each doubled sign as one; `half` says that the first of two stands
-- before them.
unfoldable pub halved : ℕ → Bool → List ℕ → List ℕ
halved sign half [] = []
halved sign false (b ∷ bs) = b ∷ halved sign (b == sign) bs
halved sign true (b ∷ bs) = if b == sign then halved sign false bs else b ∷ halved sign false bs
