-- Rows that are stored by columns: reading, adding, cutting and picking.
use Rattle.std.proofs.Common.{◌≡◌, ◌<◌, ◌≤◌, ◌+◌, ◌-◌, ℕ, zero, suc, get_or, List, [], ◌∷◌, ◌++◌, take, drop, map, length, refl, sym, ap, arith, ◌∙◌}
use Rattle.std.specs.Prelude.{All}
use Rattle.std.specs.List.{range_with_len}
use Rattle.std.proofs.Math.ListN.{set}
use Rattle.std.proofs.lemmas.List.{ext_get_or, get_or-map, get_or-take, get_or-drop, get_or_append_left, get_or-append-add, length-drop, length-take-le, length-map, set-get_or, take_more, take_all, take_at, get_or-append_right, map-append}
use Rattle.std.proofs.lemmas.List.Edits.{map_over_more}
use Rattle.std.proofs.lemmas.Bool.{cases_lt}
use Rattle.std.proofs.Common.{◌⊎◌, inl, inr}
use Rattle.std.proofs.Common.{length-append}
use Rattle.std.proofs.lemmas.List.FromFn.{length-map-range_with_len, get_or-map-range_with_len}
use Rattle.std.proofs.lemmas.List.Elements.{All-head, All-tail}
use Rattle.kql_cells.specs.Seen.{value_at, row_at}
use Rattle.kql_values.specs.Grids.{HaveLength, row_of, rows_of, column_at, joined, singletons}
use Rattle.kql_values.specs.Moves.{beside, picked}
use Rattle.kql_cells.specs.declared.value.Value.{Value}
use Rattle.kql_cells.specs.declared.value.Value.TheVariants as val

-- ---- lengths

pub HaveLength-at : {X : Type 0} (n : ℕ) (cs : List (List X)) (j : ℕ) (d : List X) → HaveLength n cs → j < length cs → length (get_or cs j d) ≡ n
unfolding HaveLength
HaveLength-at n [] j d h lt = absurd (omega arith)
HaveLength-at n (c ∷ cs) zero d h lt = h.0
HaveLength-at n (c ∷ cs) (suc j) d h lt = HaveLength-at n cs j d h.1 (omega arith)

pub HaveLength-nil : (n : ℕ) → HaveLength {X = Value} n []
unfolding HaveLength
HaveLength-nil n = tt

pub HaveLength-push : {X : Type 0} (n : ℕ) (cs : List (List X)) (c : List X) → HaveLength n cs → length c ≡ n → HaveLength n (cs ++ c ∷ [])
unfolding HaveLength
HaveLength-push n [] c h e = (e, tt)
HaveLength-push n (b ∷ cs) c h e = (h.0, HaveLength-push n cs c h.1 e)

pub HaveLength-from : {X : Type 0} (n : ℕ) (cs : List (List X)) → ((j : ℕ) → j < length cs → length (get_or cs j []) ≡ n) → HaveLength n cs
unfolding HaveLength
HaveLength-from n [] h = tt
HaveLength-from n (c ∷ cs) h = (h 0 (omega arith), HaveLength-from n cs (λ j lt. h (suc j) (omega arith)))

pub HaveLength-map : {X Y : Type 0} (n m : ℕ) (f : List X → List Y) (cs : List (List X)) → ((c : List X) → length c ≡ n → length (f c) ≡ m) → HaveLength n cs → HaveLength m (map f cs)
unfolding HaveLength
HaveLength-map n m f [] h e = tt
HaveLength-map n m f (c ∷ cs) h e = (h c e.0, HaveLength-map n m f cs h e.1)

pub HaveLength-append : {X : Type 0} (n : ℕ) (cs ds : List (List X)) → HaveLength n cs → HaveLength n ds → HaveLength n (cs ++ ds)
unfolding HaveLength
HaveLength-append n [] ds h e = e
HaveLength-append n (c ∷ cs) ds h e = (h.0, HaveLength-append n cs ds h.1 e)

-- ---- the rows of columns

pub row_of-length : (cs : List (List Value)) (i : ℕ) → length (row_of cs i) ≡ length cs
unfolding row_of
row_of-length [] i = refl
row_of-length (c ∷ cs) i = ap suc (row_of-length cs i)

pub row_of-at : (cs : List (List Value)) (i j : ℕ) (d : List Value) (e : Value) → j < length cs → get_or (row_of cs i) j e ≡ get_or (get_or cs j d) i val.Null
unfolding row_of
row_of-at [] i j d e lt = absurd (omega arith)
row_of-at (c ∷ cs) i zero d e lt = refl
row_of-at (c ∷ cs) i (suc j) d e lt = row_of-at cs i j d e (omega arith)

pub rows_of-length : (n : ℕ) (cs : List (List Value)) → length (rows_of n cs) ≡ n
unfolding rows_of
rows_of-length n cs = length-map-range_with_len (row_of cs) 0 n

pub rows_of-at : (n : ℕ) (cs : List (List Value)) (i : ℕ) (d : List Value) → i < n → get_or (rows_of n cs) i d ≡ row_of cs i
unfolding rows_of
rows_of-at n cs i d lt = get_or-map-range_with_len (row_of cs) 0 n i i d lt (omega arith)

pub rows_of-none : (cs : List (List Value)) → rows_of 0 cs ≡ []
unfolding rows_of
rows_of-none cs = refl

-- the rows are these, if they are so many and each is what the columns have there
pub rows_of-are : (n : ℕ) (cs rows : List (List Value)) → length rows ≡ n → ((i : ℕ) → i < n → get_or rows i [] ≡ row_of cs i) → rows_of n cs ≡ rows
rows_of-are n cs rows size each =
    let many = rows_of-length n cs in
    let sizes : length (rows_of n cs) ≡ length rows = omega arith in
    ext_get_or [] (rows_of n cs) rows sizes (λ i lt.
    let within : i < n = omega arith in
    rows_of-at n cs i [] within ∙ sym (each i within))

-- what a column has is what the rows have at its place
pub column_of : (n : ℕ) (cs : List (List Value)) (j : ℕ) (d : List Value) → HaveLength n cs → j < length cs → get_or cs j d ≡ column_at (rows_of n cs) j
column_of n cs j d h lt =
    let size = HaveLength-at n cs j d h lt in
    let many = rows_of-length n cs in
    let mapped = length-map (rows_of n cs) (λ row. value_at row j) in
    let sizes : length (get_or cs j d) ≡ length (column_at (rows_of n cs) j) = omega arith in
    ext_get_or val.Null (get_or cs j d) (column_at (rows_of n cs) j) sizes (λ i in'.
    let within : i < n = omega arith in
    let here : i < length (rows_of n cs) = omega arith in
    rw (get_or-map (λ row. value_at row j) (rows_of n cs) i [] val.Null here, rows_of-at n cs i [] within, row_of-at cs i j d val.Null lt) refl)

-- ---- adding

pub joined-length : {X : Type 0} (cs ds : List (List X)) → length (joined cs ds) ≡ length cs
unfolding joined
joined-length [] ds = refl
joined-length (c ∷ cs) [] = refl
joined-length (c ∷ cs) (d ∷ ds) = ap suc (joined-length cs ds)

pub joined-nil : {X : Type 0} (cs : List (List X)) → joined cs [] ≡ cs
unfolding joined
joined-nil [] = refl
joined-nil (c ∷ cs) = refl

-- one more list is joined
pub joined-more : {X : Type 0} (cs ys : List (List X)) (y d : List X) → length ys < length cs
    → set (joined cs ys) (length ys) (get_or (joined cs ys) (length ys) d ++ y) ≡ joined cs (ys ++ y ∷ [])
unfolding joined
joined-more [] ys y d lt = absurd (omega arith)
joined-more (c ∷ cs) [] y d lt = ap (λ l. (c ++ y) ∷ l) (sym (joined-nil cs))
joined-more (c ∷ cs) (z ∷ ys) y d lt = ap (λ l. (c ++ z) ∷ l) (joined-more cs ys y d (omega arith))

pub joined-step : {X : Type 0} (cs ys old new : List (List X)) (y last : List X) (k : ℕ) → old ≡ joined cs ys → k ≡ length ys → k < length cs
    → last ≡ get_or old k last → new ≡ set old k (last ++ y) → new ≡ joined cs (ys ++ y ∷ [])
joined-step cs ys old new y last k eo ek lt el en =
    let at : last ≡ get_or (joined cs ys) (length ys) last = rw (← eo, ← ek) el in
    let whole : new ≡ set (joined cs ys) (length ys) (last ++ y) = rw (← eo, ← ek) en in
    let fits : length ys < length cs = omega arith in
    let more = joined-more cs ys y last fits in
    whole ∙ ap (λ l. set (joined cs ys) (length ys) (l ++ y)) at ∙ more

pub take-HaveLength : {X : Type 0} (n : ℕ) (cs : List (List X)) → HaveLength n cs → map (take n) cs ≡ cs
unfolding HaveLength
take-HaveLength n [] h = refl
take-HaveLength n (c ∷ cs) h = rw (take_all n c (omega (arith, h.0)), take-HaveLength n cs h.1) refl

-- what was joined is cut off again
pub joined-cut : {X : Type 0} (n : ℕ) (cs ds : List (List X)) → HaveLength n cs → map (take n) (joined cs ds) ≡ cs
unfolding joined HaveLength
joined-cut n [] ds h = refl
joined-cut n (c ∷ cs) [] h = rw (take_all n c (omega (arith, h.0)), take-HaveLength n cs h.1) refl
joined-cut n (c ∷ cs) (d ∷ ds) h = rw (take_at c d n h.0, joined-cut n cs ds h.1) refl

pub joined-HaveLength : {X : Type 0} (n m : ℕ) (cs ds : List (List X)) → length cs ≡ length ds → HaveLength n cs → HaveLength m ds → HaveLength (n + m) (joined cs ds)
unfolding joined HaveLength
joined-HaveLength n m [] ds e h g = tt
joined-HaveLength n m (c ∷ cs) [] e h g = absurd (omega arith)
joined-HaveLength n m (c ∷ cs) (d ∷ ds) e h g = (omega (arith, length-append c d, h.0, g.0), joined-HaveLength n m cs ds (omega arith) h.1 g.1)

row_of-left : (n : ℕ) (cs ds : List (List Value)) (i : ℕ) → length cs ≡ length ds → HaveLength n cs → i < n → row_of (joined cs ds) i ≡ row_of cs i
unfolding joined HaveLength row_of
row_of-left n [] ds i e h lt = refl
row_of-left n (c ∷ cs) [] i e h lt = absurd (omega arith)
row_of-left n (c ∷ cs) (d ∷ ds) i e h lt =
    let within : i < length c = omega (arith, h.0) in
    rw (get_or_append_left c d val.Null i within, row_of-left n cs ds i (omega arith) h.1 lt) refl

row_of-right : (n : ℕ) (cs ds : List (List Value)) (i k : ℕ) → length cs ≡ length ds → HaveLength n cs → i ≡ n + k → row_of (joined cs ds) i ≡ row_of ds k
unfolding joined HaveLength row_of
row_of-right n [] [] i k e h at = refl
row_of-right n [] (d ∷ ds) i k e h at = absurd (omega arith)
row_of-right n (c ∷ cs) [] i k e h at = absurd (omega arith)
row_of-right n (c ∷ cs) (d ∷ ds) i k e h at =
    let place : i ≡ length c + k = omega (arith, h.0) in
    let rest = row_of-right n cs ds i k (omega arith) h.1 at in
    let head : get_or (c ++ d) i val.Null ≡ get_or d k val.Null = rw place (get_or-append-add c d k val.Null) in
    rw (head, rest) refl

joined-at : (n m : ℕ) (cs ds : List (List Value)) (i : ℕ) → length cs ≡ length ds → HaveLength n cs → i < n + m → (i < n) ⊎ (n ≤ i)
    → get_or (rows_of n cs ++ rows_of m ds) i [] ≡ row_of (joined cs ds) i
joined-at n m cs ds i e h lt (inl low) =
    let here : i < length (rows_of n cs) = omega (arith, rows_of-length n cs) in
    get_or_append_left (rows_of n cs) (rows_of m ds) [] i here ∙ rows_of-at n cs i [] low ∙ sym (row_of-left n cs ds i e h low)
joined-at n m cs ds i e h lt (inr high) =
    let rest : i - n < m = omega arith in
    let place : i ≡ n + (i - n) = omega arith in
    get_or-append_right (rows_of n cs) (rows_of m ds) n i [] (rows_of-length n cs) high ∙ rows_of-at m ds (i - n) [] rest ∙ sym (row_of-right n cs ds i (i - n) e h place)

-- the rows of joined columns are the rows of the first and then those of the second
pub rows_of-joined : (n m : ℕ) (cs ds : List (List Value)) → length cs ≡ length ds → HaveLength n cs → rows_of (n + m) (joined cs ds) ≡ rows_of n cs ++ rows_of m ds
rows_of-joined n m cs ds e h =
    let first = rows_of-length n cs in
    let second = rows_of-length m ds in
    let both = length-append (rows_of n cs) (rows_of m ds) in
    let size : length (rows_of n cs ++ rows_of m ds) ≡ n + m = omega arith in
    rows_of-are (n + m) (joined cs ds) (rows_of n cs ++ rows_of m ds) size (λ i lt. joined-at n m cs ds i e h lt (cases_lt i n))

pub singletons-HaveLength : {X : Type 0} (vs : List X) → HaveLength 1 (singletons vs)
unfolding HaveLength
singletons-HaveLength [] = tt
singletons-HaveLength (v ∷ vs) = (refl, singletons-HaveLength vs)

row_of-singletons : (vs : List Value) → row_of (singletons vs) 0 ≡ vs
unfolding row_of
row_of-singletons [] = refl
row_of-singletons (v ∷ vs) = ap (λ l. v ∷ l) (row_of-singletons vs)

pub rows_of-singletons : (vs : List Value) → rows_of 1 (singletons vs) ≡ vs ∷ []
unfolding rows_of
rows_of-singletons vs = ap (λ l. l ∷ []) (row_of-singletons vs)

-- a row that is added to the columns
pub pushed : (n : ℕ) (cs new : List (List Value)) (vs : List Value) → length cs ≡ length vs → HaveLength n cs → new ≡ joined cs (singletons vs)
    → HaveLength (n + 1) new × (rows_of (n + 1) new ≡ rows_of n cs ++ vs ∷ [])
pushed n cs new vs e h en =
    let size : length cs ≡ length (singletons vs) = e ∙ sym (length-map vs (λ v. v ∷ [])) in (
      rw en (joined-HaveLength n 1 cs (singletons vs) size h (singletons-HaveLength vs)),
      rw en (rows_of-joined n 1 cs (singletons vs) size h ∙ ap (λ l. rows_of n cs ++ l) (rows_of-singletons vs)),
    )

-- all rows of two grids, one after the other
pub appended : (n m : ℕ) (cs ds new : List (List Value)) → length cs ≡ length ds → HaveLength n cs → HaveLength m ds → new ≡ joined cs ds
    → HaveLength (n + m) new × (rows_of (n + m) new ≡ rows_of n cs ++ rows_of m ds)
appended n m cs ds new e h g en = (rw en (joined-HaveLength n m cs ds e h g), rw en (rows_of-joined n m cs ds e h))

-- ---- picking

row_of-gathered : (cs : List (List Value)) (places : List ℕ) (k : ℕ) → k < length places → row_of (map (λ c. map (value_at c) places) cs) k ≡ row_of cs (get_or places k 0)
unfolding row_of
row_of-gathered [] places k lt = refl
row_of-gathered (c ∷ cs) places k lt = rw (get_or-map (value_at c) places k 0 val.Null lt, row_of-gathered cs places k lt) refl

-- the rows at places
pub rows_of-gathered : (n : ℕ) (cs : List (List Value)) (places : List ℕ) → All (λ i. i < n) places
    → rows_of (length places) (map (λ c. map (value_at c) places) cs) ≡ map (row_at (rows_of n cs)) places
rows_of-gathered n cs places h =
    rows_of-are (length places) (map (λ c. map (value_at c) places) cs) (map (row_at (rows_of n cs)) places) (length-map places (row_at (rows_of n cs))) (λ k lt.
    let within : get_or places k 0 < n = h k 0 lt in
    get_or-map (row_at (rows_of n cs)) places k 0 [] lt ∙ rows_of-at n cs (get_or places k 0) [] within ∙ sym (row_of-gathered cs places k lt))

row_of-part : (cs : List (List Value)) (from size k : ℕ) → k < size → row_of (map (λ c. take size (drop from c)) cs) k ≡ row_of cs (from + k)
unfolding row_of
row_of-part [] from size k lt = refl
row_of-part (c ∷ cs) from size k lt = rw (get_or-take size (drop from c) k val.Null lt, get_or-drop from c k val.Null, row_of-part cs from size k lt) refl

-- one more column is read
pub row_of-more : (cs : List (List Value)) (i : ℕ) (c : List Value) → row_of (cs ++ c ∷ []) i ≡ row_of cs i ++ get_or c i val.Null ∷ []
unfolding row_of
row_of-more [] i c = refl
row_of-more (b ∷ cs) i c = ap (λ l. value_at b i ∷ l) (row_of-more cs i c)

pub row_of-none : (i : ℕ) → row_of [] i ≡ []
unfolding row_of
row_of-none i = refl

-- the rows from a place to another
pub rows_of-part : (n : ℕ) (cs : List (List Value)) (from to : ℕ) → from ≤ to → to ≤ n
    → rows_of (to - from) (map (λ c. take (to - from) (drop from c)) cs) ≡ take (to - from) (drop from (rows_of n cs))
rows_of-part n cs from to low up =
    let many = rows_of-length n cs in
    let left = length-drop from (rows_of n cs) in
    let fits : to - from ≤ length (drop from (rows_of n cs)) = omega arith in
    rows_of-are (to - from) (map (λ c. take (to - from) (drop from c)) cs) (take (to - from) (drop from (rows_of n cs))) (length-take-le (to - from) (drop from (rows_of n cs)) fits) (λ k lt.
    let within : from + k < n = omega arith in
    get_or-take (to - from) (drop from (rows_of n cs)) k [] lt ∙ get_or-drop from (rows_of n cs) k [] ∙ rows_of-at n cs (from + k) [] within ∙ sym (row_of-part cs from (to - from) k lt))

row_of-selected : (cs : List (List Value)) (places : List ℕ) (i : ℕ) → All (λ j. j < length cs) places → row_of (map (λ j. get_or cs j []) places) i ≡ picked places (row_of cs i)
unfolding row_of
row_of-selected cs [] i h = refl
row_of-selected cs (j ∷ places) i h =
    let lt : j < length cs = All-head (λ k. k < length cs) j places h in
    rw (row_of-at cs i j [] val.Null lt, row_of-selected cs places i (All-tail (λ k. k < length cs) j places h)) refl

-- the columns at places
pub rows_of-selected : (n : ℕ) (cs : List (List Value)) (places : List ℕ) → All (λ j. j < length cs) places
    → rows_of n (map (λ j. get_or cs j []) places) ≡ map (picked places) (rows_of n cs)
rows_of-selected n cs places h =
    let many = rows_of-length n cs in
    let size : length (map (picked places) (rows_of n cs)) ≡ n = length-map (rows_of n cs) (picked places) ∙ many in
    rows_of-are n (map (λ j. get_or cs j []) places) (map (picked places) (rows_of n cs)) size (λ i lt.
    let here : i < length (rows_of n cs) = omega arith in
    get_or-map (picked places) (rows_of n cs) i [] [] here ∙ ap (picked places) (rows_of-at n cs i [] lt) ∙ sym (row_of-selected cs places i h))

row_of-append : (cs ds : List (List Value)) (i : ℕ) → row_of (cs ++ ds) i ≡ row_of cs i ++ row_of ds i
unfolding row_of
row_of-append [] ds i = refl
row_of-append (c ∷ cs) ds i = ap (λ l. value_at c i ∷ l) (row_of-append cs ds i)

map-beside : (f g h : ℕ → List Value) (places : List ℕ) → ((i : ℕ) → h i ≡ f i ++ g i) → map h places ≡ beside (map f places) (map g places)
unfolding beside
map-beside f g h [] e = refl
map-beside f g h (i ∷ places) e = rw (e i, map-beside f g h places e) refl

-- the columns of two grids
pub rows_of-beside : (n : ℕ) (cs ds : List (List Value)) → rows_of n (cs ++ ds) ≡ beside (rows_of n cs) (rows_of n ds)
unfolding rows_of
rows_of-beside n cs ds = map-beside (row_of cs) (row_of ds) (row_of (cs ++ ds)) (range_with_len 0 n) (row_of-append cs ds)

-- ---- for the search

-- the length of a row, by the rows
pub width_of : (n : ℕ) (cs : List (List Value)) (i : ℕ) → i < n → length (get_or (rows_of n cs) i []) ≡ length cs
width_of n cs i lt = ap length (rows_of-at n cs i [] lt) ∙ row_of-length cs i

pub cell_of : (n : ℕ) (cs : List (List Value)) (i j : ℕ) (d : List Value) → i < n → j < length cs
    → get_or (get_or (rows_of n cs) i []) j val.Null ≡ get_or (get_or cs j d) i val.Null
cell_of n cs i j d lt in' = ap (λ row. get_or row j val.Null) (rows_of-at n cs i [] lt) ∙ row_of-at cs i j d val.Null in'

-- each row has a cell for each column
pub rows_of-width : (n : ℕ) (cs : List (List Value)) → HaveLength (length cs) (rows_of n cs)
rows_of-width n cs = HaveLength-from (length cs) (rows_of n cs) (λ i lt.
    let low : i < n = rw (rows_of-length n cs) at lt in
    ap length (rows_of-at n cs i [] low) ∙ row_of-length cs i)

pub ruleset grid_reads = (rows_of-length, rows_of-none, rows_of-width, width_of, cell_of, column_of, HaveLength-at, HaveLength-nil, HaveLength-push)

-- where there is a row, it is as wide as there are columns
pub width_known : (n w : ℕ) (cs : List (List Value)) → HaveLength w (rows_of n cs) → 0 < n → length cs ≡ w
width_known n w cs h lt =
    let here : 0 < length (rows_of n cs) = omega (arith, rows_of-length n cs) in
    sym (width_of n cs 0 lt) ∙ HaveLength-at w (rows_of n cs) 0 [] h here

pub ruleset grid_fits = (HaveLength-nil, HaveLength-push, rows_of-none, width_known)

pub ruleset row_steps = (row_of-more, row_of-none)

-- one more cell of a row
pub row-step : (cs : List (List Value)) (k i : ℕ) (d old new : List Value) (v : Value) → k < length cs → old ≡ row_of (take k cs) i
    → v ≡ get_or (get_or cs k d) i val.Null → new ≡ old ++ v ∷ [] → new ≡ row_of (take (k + 1) cs) i
row-step cs k i d old new v lt eo ev en =
    rw (take_more cs k d lt, row_of-more (take k cs) i (get_or cs k d), ← eo, ← ev) en

-- one more column is cut
pub truncate-step : {X : Type 0} (n : ℕ) (xs ys : List (List X)) (i : ℕ) (x cut : List X) → i < length xs → ys ≡ map (take n) (take i xs) ++ drop i xs
    → x ≡ get_or ys i x → cut ≡ take n (get_or ys i x) → set ys i cut ≡ map (take n) (take (i + 1) xs) ++ drop (i + 1) xs
truncate-step n xs ys i x cut lt ey ex ec = rw (ec, ← ex) (map_over_more (take n) xs ys i x lt ey ex)

pub singletons-more : {X Y : Type 0} (f : X → Y) (xs : List X) (j : ℕ) (x : X) → j < length xs → x ≡ get_or xs j x
    → singletons (map f (take (j + 1) xs)) ≡ singletons (map f (take j xs)) ++ (f x ∷ []) ∷ []
singletons-more f xs j x lt e =
    rw (take_more xs j x lt, ← e, map-append f (take j xs) (x ∷ []), map-append (λ y. y ∷ []) (map f (take j xs)) (f x ∷ [])) refl

-- a step that failed leaves all to be cut off
pub restored : {X : Type 0} (n k : ℕ) (cs ds cols new : List (List X)) (x r : List X) → HaveLength n cs → cols ≡ joined cs ds → x ≡ r → r ≡ get_or cols k r
    → new ≡ map (take n) (set cols k x) → new ≡ cs
restored n k cs ds cols new x r h ec ex er en =
    let kept : set cols k x ≡ cols = ap (set cols k) (ex ∙ er) ∙ set-get_or cols k r in
    en ∙ ap (map (take n)) (kept ∙ ec) ∙ joined-cut n cs ds h

pub HaveLength-gathered : (n : ℕ) (cs : List (List Value)) (places : List ℕ) → HaveLength n cs → HaveLength (length places) (map (λ c. map (value_at c) places) cs)
HaveLength-gathered n cs places h = HaveLength-map n (length places) (λ c. map (value_at c) places) cs (λ c e. length-map places (value_at c)) h

pub HaveLength-part : (n : ℕ) (cs : List (List Value)) (from to : ℕ) → from ≤ to → to ≤ n → HaveLength n cs
    → HaveLength (to - from) (map (λ c. take (to - from) (drop from c)) cs)
HaveLength-part n cs from to low up h = HaveLength-map n (to - from) (λ c. take (to - from) (drop from c)) cs (λ c e.
    let left = length-drop from c in
    let fits : to - from ≤ length (drop from c) = omega arith in
    length-take-le (to - from) (drop from c) fits) h

pub HaveLength-selected : (n : ℕ) (cs : List (List Value)) (places : List ℕ) → All (λ j. j < length cs) places → HaveLength n cs → HaveLength n (map (λ j. get_or cs j []) places)
unfolding HaveLength
HaveLength-selected n cs [] w h = tt
HaveLength-selected n cs (j ∷ places) w h =
    (HaveLength-at n cs j [] h (All-head (λ k. k < length cs) j places w), HaveLength-selected n cs places (All-tail (λ k. k < length cs) j places w) h)

-- places in each row are places of columns
pub places-within : (n : ℕ) (cs : List (List Value)) (places : List ℕ) → 0 < n → All (λ row. All (λ j. j < length row) places) (rows_of n cs) → All (λ j. j < length cs) places
places-within n cs places lt h =
    let here : 0 < length (rows_of n cs) = omega (arith, rows_of-length n cs) in
    let first : All (λ j. j < length (get_or (rows_of n cs) 0 [])) places = h 0 [] here in
    rw (width_of n cs 0 lt) at first

-- where rows are as wide as others, so many columns have each
pub widths-same : (n m : ℕ) (cs ds : List (List Value)) → 0 < n → 0 < m → All (λ row. HaveLength (length row) (rows_of n cs)) (rows_of m ds) → length cs ≡ length ds
widths-same n m cs ds ln lm h =
    let here : 0 < length (rows_of m ds) = omega (arith, rows_of-length m ds) in
    let first = h 0 [] here in
    width_known n (length (get_or (rows_of m ds) 0 [])) cs first ln ∙ width_of m ds 0 lm

-- columns that stand beside others
pub beside-of : (n : ℕ) (cs ds new : List (List Value)) → HaveLength n cs → HaveLength n ds → new ≡ cs ++ ds
    → HaveLength n new × (rows_of n new ≡ beside (rows_of n cs) (rows_of n ds))
beside-of n cs ds new h g e = (rw e (HaveLength-append n cs ds h g), rw e (rows_of-beside n cs ds))
