-- The calls on bags, as functions on the entries. Each takes its arguments as one list.
use Rattle.std.specs.Prelude.{ℕ, List, [], ◌∷◌, ◌++◌, map, fold, is_some, String, string_bytes, Option, Some, None, option_map, option_and_then}
use Rattle.std.specs.BTreeMap.{insert_entry}
use Rattle.std.specs.Cmp.Lexicographic.{slice_cmp}
use Rattle.std.specs.Ordering.{nat_cmp}
use Rattle.std.specs.declared.alloc.Global.{Global}
use Rattle.kql_cells.specs.declared.dynamic.Dyn.{Dyn}
use Rattle.kql_cells.specs.declared.dynamic.Dyn.TheVariants as V
use Rattle.kql_cells.specs.declared.value.Value.{Value}
use Rattle.kql_cells.specs.declared.value.Value.TheVariants as value
use Rattle.kql_dynamic.specs.Arrays.{array}
use Rattle.kql_dynamic.specs.Parts.{argument, entries, entry_at, text, value_or_null, value_within_levels}

-- a bag as a value
abbrev pub bag : List (List ℕ × Dyn) → Value
bag es = value.Dynamic (V.Bag es)

-- the entries once one more is put, in the place of its key by bytes; it replaces one of an equal key
unfoldable pub put : List (List ℕ × Dyn) → List ℕ × Dyn → List (List ℕ × Dyn)
put es e = insert_entry (slice_cmp nat_cmp) es e.0 e.1

-- the entries of a bag into which these are put, one after another
abbrev pub bag_of : List (List ℕ × Dyn) → List (List ℕ × Dyn)
bag_of es = fold put [] es

-- the keys, in order
abbrev pub bag_keys : List Dyn → Value
bag_keys args = value_or_null (entries (argument args 0)) (λ es. array (map (λ e. V.Text e.0) es))

-- whether the bag has this key; null where it is no bag, or the key no text
abbrev pub bag_has_key : List Dyn → Value
bag_has_key args = value_or_null (entries (argument args 0)) (λ es. value_or_null (text (argument args 1)) (λ k. value.Bool (is_some (entry_at k es))))

-- the entries of all of these, those of the last bag first; none where one is no bag
abbrev pub entries_backwards : List Dyn → Option (List (List ℕ × Dyn))
entries_backwards [] = Some []
entries_backwards (d ∷ ds) = option_and_then (λ es. option_map (λ later. later ++ es) (entries_backwards ds)) (entries d)

-- one bag of all keys, so that the first bag that has a key gives its value
abbrev pub bag_merge : List Dyn → Value
bag_merge args = value_or_null (entries_backwards args) (λ es. bag (bag_of es))

-- keys and values in turn, as entries; none where a key is no text, or the last key has no value
abbrev pub pairs : List Dyn → Option (List (List ℕ × Dyn))
pairs [] = Some []
pairs (k ∷ []) = None
pairs (k ∷ d ∷ ds) = option_and_then (λ t. option_map (λ es. (t, d) ∷ es) (pairs ds)) (text k)

-- the bag of these entries, where a later one replaces one of an equal key; null where it would have more than
-- 127 levels
abbrev pub bag_pack : List Dyn → Value
bag_pack args = value_or_null (pairs args) (λ es. value_within_levels (V.Bag (bag_of es)))

-- the entries of a map of the program
abbrev pub entry_seen : String Global × Dyn → List ℕ × Dyn
entry_seen e = (string_bytes e.0, e.1)

abbrev pub entries_seen : List (String Global × Dyn) → List (List ℕ × Dyn)
entries_seen es = map entry_seen es
