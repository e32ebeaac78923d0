-- The lists of rows of keys.
use Rattle.std.proofs.Common.{◌≡◌, ◌<◌, ◌≤◌, ◌*◌, ◌+◌, ◌^◌, ℕ, Bool, List, [], ◌∷◌, length, map, sym, ◌∙◌, subst, ap, arith}
use Rattle.std.specs.Prelude.{Some, filter, not}
use Rattle.std.proofs.lemmas.List.{length-map}
use Rattle.std.proofs.lemmas.List.FromFn.{length-map-range_with_len}
use Rattle.std.proofs.lemmas.List.Sums.{count_by-le-length, length-filter}
use Rattle.kql_cells.specs.Named.{column_name, place_of}
use Rattle.kql_cells.specs.Table.{Grid}
use Rattle.kql_cells.specs.declared.schema.Column.{Column}
use Rattle.kql_cells.specs.declared.value.Value.{Value}
use Rattle.kql_meaning.specs.Groups.{distinct_keys}
use Rattle.kql_meaning.specs.Partition.{key_in_column}
use Rattle.kql_meaning.specs.Tables.{distinct_by, places, places_below}
use Rattle.kql_meaning.specs.Values.{same_keys}
use Rattle.phase_pieces.specs.Reports.{IsCutFor}
use Rattle.phase_pieces.specs.Sizes.{ArePieces}
use Rattle.phase_scans.specs.Keys.{keys_of_piece}
use Rattle.scan_ops.specs.Scans.{rows_by_key, rows_of_key}
use Rattle.worker_board.specs.Views.{WholeClaims}

-- There are no more keys than rows.

filter-short : {X : Type 0} (p : X → Bool) (xs : List X) → length (filter p xs) ≤ length xs
filter-short p xs = let some = count_by-le-length p xs in let same = length-filter p xs in omega (arith, some, same)

distinct-short : {X : Type 0} (same : X → X → Bool) (xs : List X) → length (distinct_by same xs) ≤ length xs
unfolding distinct_by
distinct-short same [] = omega arith
distinct-short same (x ∷ xs) =
    let rest = distinct-short same xs in
    let less = filter-short (λ y. not (same x y)) (distinct_by same xs) in
    omega (arith, rest, less)

pub few-lists : (c : List ℕ) (t : Grid) (lists : List (List ℕ)) (count : ℕ) → lists ≡ rows_by_key c t → count ≡ length t.lines → count < 2 ^ 63 → length lists < 2 ^ 63
unfolding rows_by_key distinct_keys places places_below
few-lists c t lists count is same small =
    let keys = map (key_in_column c t) (places t) in
    let n = ap length is ∙ length-map (distinct_keys (key_in_column c t) t) (rows_of_key c t) in
    let m = distinct-short same_keys keys in
    let k = length-map-range_with_len (key_in_column c t) 0 (length t.lines) in
    omega (arith, n, m, k, same, small)

pub few-named : (c : List ℕ) (t : Grid) (cs : List Column) (k : ℕ) (lists : List (List ℕ)) (count : ℕ) → Some k ≡ place_of column_name c cs → cs ≡ t.columns → ((n : List ℕ) → place_of column_name n t.columns ≡ Some k → lists ≡ rows_by_key n t) → count ≡ length t.lines → count < 2 ^ 63 → length lists < 2 ^ 63
few-named c t cs k lists count place same named long small = few-lists c t lists count (named c (ap (place_of column_name c) (sym same) ∙ sym place)) long small

pub cut-all : (count n pieces rows : ℕ) → count ≡ n → count ≤ pieces * rows → n ≤ pieces * rows
cut-all count n pieces rows is le = subst (λ (k : ℕ). k ≤ pieces * rows) is le

pub cut-each : (count n pieces rows : ℕ) → count ≡ n → pieces * rows < count + rows → pieces * rows < n + rows
cut-each count n pieces rows is lt = subst (λ (k : ℕ). pieces * rows < k + rows) is lt

-- The pieces of keys that a phase tells of.

pub keys-told : (count n rows m asked pieces told : ℕ) → ArePieces count (keys_of_piece count rows asked) pieces → count ≡ n → rows ≡ m → told ≡ pieces → ArePieces n (keys_of_piece n m asked) told
keys-told count n rows m asked pieces told p keys all is =
    subst (λ (k : ℕ). ArePieces k (keys_of_piece k m asked) told) keys
    (subst (λ (k : ℕ). ArePieces count (keys_of_piece count k asked) told) all (subst (λ (k : ℕ). ArePieces count (keys_of_piece count rows asked) k) (sym is) p))

pub lists-told : (a b : List (List ℕ)) (rows asked : ℕ) (g : WholeClaims) → a ≡ b → IsCutFor (length a) (keys_of_piece (length a) rows asked) g → IsCutFor (length b) (keys_of_piece (length b) rows asked) g
lists-told a b rows asked g is p = subst (λ (ls : List (List ℕ)). IsCutFor (length ls) (keys_of_piece (length ls) rows asked) g) is p

pub ruleset told_steps = (lists-told)

pub ruleset key_steps = (few-lists)
