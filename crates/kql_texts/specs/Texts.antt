-- The calls of this crate as functions of texts, for definitions that stand on them. The other files say what they mean.
use Rattle.std.specs.Prelude.{ℕ, zero, suc, ℤ, pos, negsuc, ◌-◌, Bool, ◌&&◌, ◌||◌, not, nat_eq, List, [], ◌∷◌, fold, length, drop, map, if◌then◌else◌}
use Rattle.std.specs.List.{ends_with, onto_first, starts_with}
use Rattle.std.specs.Str.{bytes_eq, chars, encode_utf8_all}
use Rattle.kql_cells.specs.declared.dynamic.Dyn.{Dyn}
use Rattle.kql_cells.specs.declared.dynamic.Dyn.TheVariants as dyn
use Rattle.kql_texts.specs.Pieces.{joined}
use Rattle.kql_texts.specs.Places.{sub_list}
use Rattle.kql_texts.specs.Terms.{are_joined, first_of}

-- whether two texts are the same, and whether t begins or ends with p
unfoldable pub same : List ℕ → List ℕ → Bool
same = bytes_eq

unfoldable pub begins : List ℕ → List ℕ → Bool
begins = starts_with nat_eq

unfoldable pub ends : List ℕ → List ℕ → Bool
ends = ends_with nat_eq

-- whether p stands in t
unfoldable pub holds : List ℕ → List ℕ → Bool
holds [] p = begins [] p
holds (x ∷ xs) p = begins (x ∷ xs) p || holds xs p

-- whether t begins with p, with borders; x comes before t
unfoldable pub begins_with_term : ℕ → List ℕ → List ℕ → Bool
begins_with_term x t p = begins t p && (not (are_joined x (first_of t)) && not (are_joined (fold (λ _ y. y) x p) (first_of (drop (length p) t))))

unfoldable pub has_term_after : ℕ → List ℕ → List ℕ → Bool
has_term_after x [] p = begins_with_term x [] p
has_term_after x (y ∷ ys) p = begins_with_term x (y ∷ ys) p || has_term_after y ys p

-- whether p stands in t as a term
abbrev pub has_term : List ℕ → List ℕ → Bool
has_term = has_term_after 0

-- the first place of ys in xs, or -1; xs begins at place k
unfoldable pub index_from : ℕ → List ℕ → List ℕ → ℤ
index_from k [] ys = if begins [] ys then pos k else negsuc 0
index_from k (x ∷ xs) ys = if begins (x ∷ xs) ys then pos k else index_from (suc k) xs ys

-- the place in characters of the first p in t
abbrev pub index_of : List ℕ → List ℕ → ℤ
index_of t p = index_from 0 (chars t) (chars p)

-- the characters from a place on
abbrev pub sub_text : List ℕ → ℤ → ℤ → List ℕ
sub_text t start count = encode_utf8_all (sub_list (chars t) start count)

-- the pieces between each d, after so many bytes of a d
unfoldable pub pieces_after : List ℕ → ℕ → List ℕ → List (List ℕ)
pieces_after d skip [] = [] ∷ []
pieces_after d (suc skip) (x ∷ xs) = pieces_after d skip xs
pieces_after d zero (x ∷ xs) =
    if begins (x ∷ xs) d then [] ∷ pieces_after d (length d - 1) xs
    else onto_first x (pieces_after d 0 xs)

-- the pieces of t between each d
unfoldable pub split_by : List ℕ → List ℕ → List (List ℕ)
split_by t [] = t ∷ []
split_by t (c ∷ d) = pieces_after (c ∷ d) 0 t

-- t with b in the place of each a
abbrev pub replace : List ℕ → List ℕ → List ℕ → List ℕ
replace t a b = joined b (split_by t a)

-- texts as the elements of an array
abbrev pub elements : List (List ℕ) → List Dyn
elements = map dyn.Text
