-- The groups of the rows of the summary.
use Rattle.std.proofs.Common.{◌≡◌, ◌<◌, ◌≤◌, ℕ, List, [], ◌∷◌, filter, length, map, get_or, refl, ap, ap₂, sym, ◌∙◌, subst, arith, Bor}
use Rattle.std.specs.Prelude.{All, not}
use Rattle.std.specs.List.{AllByRecursion, range_with_len}
use Rattle.std.proofs.lemmas.List.{get_or-map, length-map}
use Rattle.std.proofs.lemmas.List.Elements.{All-filter, All-from_recursion}
use Rattle.std.proofs.lemmas.List.FromFn.{length-map-range_with_len}
use Rattle.kql_cells.specs.Keys.{same_keys, same_keys-decides}
use Rattle.kql_cells.specs.Seen.{value_at}
use Rattle.kql_cells.specs.declared.value.Value.{Value}
use Rattle.kql_cells.specs.declared.value.Value.TheVariants as value
use Rattle.kql_values.specs.Grids.{HaveLength, row_of, rows_of}
use Rattle.kql_values.proofs.GridLaws.{HaveLength-at, HaveLength-gathered, rows_of-are}
use Rattle.kql_keys.specs.Numbers.{distinct, first_places, numbers_of}
use Rattle.kql_keys.specs.Places.{places_by, places_of}
use Rattle.kql_keys.proofs.KeyLaws.{group-rows}
use Rattle.kql_keys.proofs.NumberLaws.{firsts-are, is_first}
use Rattle.kql_meaning.specs.Tables.{distinct_by}
use Rattle.kql_meaning.proofs.ListLaws.{every-range}
use Rattle.kql_row_laws.proofs.GatheredLaws.{at-each}
use Rattle.series_op.specs.Grouped.{AreGrouped, places_like, rows_once}

-- The columns as they are lent.

lent-each : (xs : List (Bor (List Value))) (n : ℕ) → HaveLength n (map (λ (c : Bor (List Value)). c.now) xs) → AllByRecursion (λ (c : Bor (List Value)). n ≤ length c.now) xs
unfolding HaveLength
lent-each [] n h = tt
lent-each (x ∷ xs) n h = (omega (arith, h.0), lent-each xs n h.1)

pub lent-long : (n : ℕ) (vs : List (List Value)) (xs : List (Bor (List Value))) → HaveLength n vs → map (λ (c : Bor (List Value)). c.now) xs ≡ vs → All (λ (c : Bor (List Value)). n ≤ length c.now) xs
lent-long n vs xs h lent = All-from_recursion (λ (c : Bor (List Value)). n ≤ length c.now) xs (lent-each xs n (subst (HaveLength n) (sym lent) h))

range-inside : (n : ℕ) → All (λ i. i < n) (range_with_len 0 n)
range-inside n = All-from_recursion (λ i. i < n) (range_with_len 0 n) (every-range (λ i. i < n) 0 n (λ i low high. omega (arith, high)))

pub firsts-inside : (n : ℕ) (vs : List (List Value)) (firsts : List ℕ) → firsts ≡ first_places same_keys (rows_of n vs) → All (λ i. i < n) firsts
unfolding rows_of
firsts-inside n vs firsts is =
    subst (All (λ i. i < n)) (sym (is ∙ firsts-are same_keys same_keys-decides (row_of vs) n))
    (All-filter (is_first same_keys same_keys-decides (row_of vs)) (λ i. i < n) (range_with_len 0 n) (range-inside n))

-- Places inside a vector.
pub inside : (count : ℕ) (vs : List (List Value)) (ps : List ℕ) (i : ℕ) (v : List Value) → HaveLength count vs → All (λ p. p < count) ps → i < length vs → v ≡ get_or vs i v → All (λ p. p < length v) ps
inside count vs ps i v long within lt is =
    let same : length v ≡ count = ap (λ (x : List Value). length x) is ∙ HaveLength-at count vs i v long lt in
    subst (λ n. All (λ p. p < n) ps) (sym same) within

pub ruleset gather_steps = (inside)

-- The groups.

distinct-same : (ks : List (List Value)) → distinct same_keys ks ≡ distinct_by same_keys ks
unfolding distinct_by
distinct-same [] = refl
distinct-same (k ∷ ks) = ap (λ (js : List (List Value)). k ∷ filter (λ j. not (same_keys k j)) js) (distinct-same ks)

gathered-row : (vs : List (List Value)) (ps : List ℕ) (g : ℕ) → g < length ps → row_of (map (λ v. map (value_at v) ps) vs) g ≡ row_of vs (get_or ps g 0)
unfolding row_of
gathered-row [] ps g lt = refl
gathered-row (v ∷ vs) ps g lt = ap₂ (λ (x : Value) (xs : List Value). x ∷ xs) (get_or-map (value_at v) ps g 0 value.Null lt) (gathered-row vs ps g lt)

group-places : (vs : List (List Value)) (n g : ℕ) → g < length (distinct same_keys (rows_of n vs)) → places_of (numbers_of same_keys (rows_of n vs)) g ≡ places_like vs n (get_or (distinct same_keys (rows_of n vs)) g [])
unfolding rows_of places_like
group-places vs n g lt = group-rows same_keys same_keys-decides (row_of vs) n g [] lt

pub grouped-are : (vs : List (List Value)) (n : ℕ) (numbers firsts : List ℕ) (keys : List (List Value)) (rows : List (List ℕ)) → HaveLength n vs → numbers ≡ numbers_of same_keys (rows_of n vs) → map (row_of vs) firsts ≡ distinct same_keys (rows_of n vs) → keys ≡ map (λ v. map (value_at v) firsts) vs → rows ≡ places_by numbers (length firsts) → AreGrouped vs n keys rows
unfolding rows_once places_by
grouped-are vs n numbers firsts keys rows h en ef ek er =
    let ds = distinct same_keys (rows_of n vs) in
    let wide : length ds ≡ length firsts = sym (ap length ef) ∙ length-map firsts (row_of vs) in
    let size : length rows ≡ length firsts = ap length er ∙ length-map-range_with_len (places_of numbers) 0 (length firsts) in
    let once : rows_of (length firsts) keys ≡ ds =
    rows_of-are (length firsts) keys ds wide
    (λ g lt.
    sym (ap (λ (cs : List (List Value)). row_of cs g) ek
    ∙ (gathered-row vs firsts g lt ∙ (sym (get_or-map (row_of vs) firsts g 0 [] lt) ∙ ap (λ (ks : List (List Value)). get_or ks g []) ef)))) in
    let each : rows ≡ map (places_like vs n) ds =
    er
    ∙ (ap (λ m. map (places_of numbers) (range_with_len 0 m)) (sym wide)
    ∙ at-each [] (places_of numbers) (places_like vs n) ds (λ g lt. ap (λ ns. places_of ns g) en ∙ group-places vs n g lt)) in
    record {
      long = subst (HaveLength (length rows)) (sym ek) (subst (λ m. HaveLength m (map (λ v. map (value_at v) firsts) vs)) (sym size) (HaveLength-gathered n vs firsts h));
      keys_once = ap (λ m. rows_of m keys) size ∙ (once ∙ distinct-same (rows_of n vs));
      places = each ∙ ap (map (places_like vs n)) (distinct-same (rows_of n vs));
    }

pub grouped-lent : (vs : List (List Value)) (n : ℕ) (ls ms : List (Bor (List Value))) (numbers firsts ns fs : List ℕ) (keys : List (List Value)) (rows : List (List ℕ)) → HaveLength n vs → map (λ (c : Bor (List Value)). c.now) ls ≡ vs → ms ≡ ls → numbers ≡ numbers_of same_keys (rows_of n (map (λ (c : Bor (List Value)). c.now) ms)) → map (row_of (map (λ (c : Bor (List Value)). c.now) ms)) firsts ≡ distinct same_keys (rows_of n (map (λ (c : Bor (List Value)). c.now) ms)) → ns ≡ numbers → fs ≡ firsts → keys ≡ map (λ v. map (value_at v) fs) vs → rows ≡ places_by ns (length fs) → AreGrouped vs n keys rows
grouped-lent vs n ls ms numbers firsts ns fs keys rows h lent same en ef numbered first ek er =
    let here : map (λ (c : Bor (List Value)). c.now) ms ≡ vs = ap (λ (xs : List (Bor (List Value))). map (λ (c : Bor (List Value)). c.now) xs) same ∙ lent in
    grouped-are vs n numbers firsts keys rows h
    (en ∙ ap (λ (cs : List (List Value)). numbers_of same_keys (rows_of n cs)) here)
    (subst (λ (cs : List (List Value)). map (row_of cs) firsts ≡ distinct same_keys (rows_of n cs)) here ef)
    (ek ∙ ap (λ (ps : List ℕ). map (λ (v : List Value). map (value_at v) ps) vs) first)
    (er ∙ ap₂ (λ (xs ys : List ℕ). places_by xs (length ys)) numbered first)

pub lists-many : (ns : List ℕ) (count : ℕ) (lists : List (List ℕ)) → lists ≡ places_by ns count → length lists ≡ count
unfolding places_by
lists-many ns count lists e = ap length e ∙ length-map-range_with_len (places_of ns) 0 count

pub ruleset group_steps = (lent-long, firsts-inside, lists-many)
