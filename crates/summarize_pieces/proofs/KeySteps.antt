-- The numbers of rows that are keys.
use Rattle.std.proofs.Common.{◌≡◌, ◌<◌, ◌≤◌, ℕ, List, [], ◌∷◌, length, map, refl, ap, ap₂, sym, ◌∙◌, subst, arith, Bor}
use Rattle.std.specs.Prelude.{All, slice_index_or}
use Rattle.std.specs.List.{AllByRecursion, range_with_len}
use Rattle.std.proofs.lemmas.List.Elements.{All-filter, All-from_recursion, recursion_from_All}
use Rattle.std.proofs.lemmas.List.FromFn.{get_or-map-range_with_len}
use Rattle.kql_cells.specs.Keys.{same_keys, same_keys-decides}
use Rattle.kql_cells.specs.Seen.{row_at}
use Rattle.kql_cells.specs.declared.value.Value.{Value}
use Rattle.kql_values.specs.Grids.{HaveLength, row_of, rows_of}
use Rattle.kql_keys.specs.Numbers.{distinct, first_places, numbers_of}
use Rattle.kql_keys.proofs.NumberLaws.{firsts-are, is_first}
use Rattle.kql_meaning.proofs.ListLaws.{every-range}

lent-each : (xs : List (Bor (List Value))) (n : ℕ) → HaveLength n (map (λ (c : Bor (List Value)). c.now) xs) → AllByRecursion (λ (c : Bor (List Value)). n ≤ length c.now) xs
unfolding HaveLength
lent-each [] n h = tt
lent-each (x ∷ xs) n h = (omega (arith, h.0), lent-each xs n h.1)

pub lent-long : (n m : ℕ) (vs : List (List Value)) (xs : List (Bor (List Value))) → HaveLength m vs → n ≡ m → map (λ (c : Bor (List Value)). c.now) xs ≡ vs → All (λ (c : Bor (List Value)). n ≤ length c.now) xs
lent-long n m vs xs h len lent =
    All-from_recursion (λ (c : Bor (List Value)). n ≤ length c.now) xs (lent-each xs n (subst (λ k. HaveLength k (map (λ (c : Bor (List Value)). c.now) xs)) (sym len) (subst (HaveLength m) (sym lent) h)))

range-inside : (n : ℕ) → All (λ i. i < n) (range_with_len 0 n)
range-inside n = All-from_recursion (λ i. i < n) (range_with_len 0 n) (every-range (λ i. i < n) 0 n (λ i low high. omega (arith, high)))

pub firsts-inside : (n m : ℕ) (vs : List (List Value)) (firsts : List ℕ) → n ≡ m → firsts ≡ first_places same_keys (rows_of n vs) → All (λ i. i < m) firsts
unfolding rows_of
firsts-inside n m vs firsts len is =
    subst (λ k. All (λ i. i < k) firsts) len
    (subst (All (λ i. i < n)) (sym (is ∙ firsts-are same_keys same_keys-decides (row_of vs) n))
    (All-filter (is_first same_keys same_keys-decides (row_of vs)) (λ i. i < n) (range_with_len 0 n) (range-inside n)))

pub ruleset key_steps = (lent-long, firsts-inside)

-- One row of no columns.

pub long-nothing : HaveLength {X = Value} 1 []
unfolding HaveLength
long-nothing = tt

pub one-nothing : rows_of 1 [] ≡ [] ∷ []
unfolding rows_of row_of
one-nothing = refl

-- The keys at the first places of rows.

row-is : (vs rows : List (List Value)) (i : ℕ) → rows_of (length rows) vs ≡ rows → i < length rows → row_at rows i ≡ row_of vs i
unfolding rows_of
row-is vs rows i e lt =
    ap (λ (rs : List (List Value)). slice_index_or rs i []) (sym e) ∙ get_or-map-range_with_len (row_of vs) 0 (length rows) i i [] lt (omega arith)

rows-are : (vs rows : List (List Value)) (ps : List ℕ) → rows_of (length rows) vs ≡ rows → AllByRecursion (λ i. i < length rows) ps → map (row_at rows) ps ≡ map (row_of vs) ps
rows-are vs rows [] e h = refl
rows-are vs rows (p ∷ ps) e h = ap₂ (λ (k : List Value) (ks : List (List Value)). k ∷ ks) (row-is vs rows p e h.0) (rows-are vs rows ps e h.1)

pub gathered-keys : (rows vs cs keys : List (List Value)) (n : ℕ) (firsts ps : List ℕ) → rows_of (length rows) vs ≡ rows → n ≡ length rows → cs ≡ vs → firsts ≡ first_places same_keys (rows_of n cs) → map (row_of cs) firsts ≡ distinct same_keys (rows_of n cs) → ps ≡ firsts → keys ≡ map (row_at rows) ps → keys ≡ distinct same_keys rows
gathered-keys rows vs cs keys n firsts ps made len same placed own gathered is =
    let within = firsts-inside n (length rows) cs firsts len placed in
    let whole : rows_of n cs ≡ rows = ap₂ rows_of len same ∙ made in
    is
    ∙ (ap (map (row_at rows)) gathered
    ∙ (rows-are vs rows firsts made (recursion_from_All (λ i. i < length rows) firsts within)
    ∙ (ap (λ (us : List (List Value)). map (row_of us) firsts) (sym same)
    ∙ (own ∙ ap (distinct same_keys) whole))))

pub numbered-rows : (rows vs cs : List (List Value)) (n : ℕ) (numbers : List ℕ) → rows_of (length rows) vs ≡ rows → n ≡ length rows → cs ≡ vs → numbers ≡ numbers_of same_keys (rows_of n cs) → numbers ≡ numbers_of same_keys rows
numbered-rows rows vs cs n numbers made len same is = is ∙ ap (numbers_of same_keys) (ap₂ rows_of len same ∙ made)

pub none-numbered : (ks : List (List Value)) → length ks ≡ 0 → [] ≡ numbers_of same_keys ks
unfolding numbers_of
none-numbered [] e = refl
none-numbered (k ∷ ks) e = absurd (omega (arith, e))
