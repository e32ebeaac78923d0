-- The first of the first places of pieces.
use Rattle.std.proofs.Common.{◌≡◌, ◌<◌, ◌≤◌, ◌*◌, ℕ, List, [], ◌∷◌, ◌++◌, length, map, refl, ap, ap₂, sym, ◌∙◌, subst, arith}
use Rattle.std.specs.Prelude.{All, flat_map, min}
use Rattle.std.specs.List.{range_with_len}
use Rattle.std.specs.declared.cmp.Ordering.{Ordering}
use Rattle.std.proofs.lemmas.List.FromFn.{length-range_with_len}
use Rattle.kql_cells.specs.Table.{Grid, gathered}
use Rattle.kql_bound.specs.declared.parts.BKey.{BKey}
use Rattle.kql_meaning.specs.Sort.{top_table}
use Rattle.kql_meaning.specs.Tables.{places_below}
use Rattle.order_ops.specs.Order.{key_columns, places_cmp}
use Rattle.order_ops.specs.Tops.{TopOfPlaces, TopsOfTops, TopsWithin, top_of}
use Rattle.order_ops.specs.declared.keys.KeyColumn.{KeyColumn}
use Rattle.phase_laws.specs.Pieces.{slice_of}
use Rattle.phase_laws.proofs.PieceLaws.{of_pieces_of_list}

flat-mapped : {X : Type 0} (f : List ℕ → List ℕ) (g : X → List ℕ) (xs : List X) → flat_map f (map g xs) ≡ flat_map (λ x. f (g x)) xs
flat-mapped f g [] = refl
flat-mapped f g (x ∷ xs) = ap (λ (ys : List ℕ). f (g x) ++ ys) (flat-mapped f g xs)

map-mapped : (f : List ℕ → List ℕ) (g : ℕ → List ℕ) (xs : List ℕ) → map (λ x. f (g x)) xs ≡ map f (map g xs)
map-mapped f g [] = refl
map-mapped f g (x ∷ xs) = ap (λ (ys : List (List ℕ)). f (g x) ∷ ys) (map-mapped f g xs)

-- The pieces hold all places.
all-places : (n rows pieces : ℕ) → n ≤ pieces * rows → flat_map (λ is. is) (map (slice_of rows (places_below n)) (range_with_len 0 pieces)) ≡ places_below n
unfolding places_below
all-places n rows pieces le =
    let size : length (range_with_len 0 n) ≡ n = length-range_with_len 0 n in
    flat-mapped (λ is. is) (slice_of rows (range_with_len 0 n)) (range_with_len 0 pieces)
    ∙ sym (of_pieces_of_list (λ (is : List ℕ). is) (λ xs ys. refl) (range_with_len 0 n) rows pieces (omega (arith, size, le)))

pub tops-are : (law : TopsOfTops) (cs : List KeyColumn) (k n rows pieces : ℕ) (results : List (List ℕ)) (all given made : List ℕ) → n ≤ pieces * rows
    → results ≡ map (λ p. top_of (places_cmp cs) k (slice_of rows (places_below n) p)) (range_with_len 0 pieces) → all ≡ flat_map (λ is. is) results → given ≡ all → made ≡ top_of (places_cmp cs) k given
    → made ≡ top_of (places_cmp cs) k (places_below n)
tops-are law cs k n rows pieces results all given made le is listed same top =
    let first = top_of (places_cmp cs) k in
    let parts = map (slice_of rows (places_below n)) (range_with_len 0 pieces) in
    let firsts : results ≡ map first parts = is ∙ map-mapped first (slice_of rows (places_below n)) (range_with_len 0 pieces) in
    top
    ∙ (ap first (same ∙ (listed ∙ (ap (flat_map (λ is. is)) firsts ∙ flat-mapped (λ is. is) first parts)))
    ∙ (law cs k parts ∙ ap first (all-places n rows pieces le)))

pub tops-inside : (law : TopsWithin) (cs : List KeyColumn) (t : Grid) (k n : ℕ) (places given : List ℕ) → n ≡ length t.lines → given ≡ places → places ≡ top_of (places_cmp cs) k (places_below n) → All (λ i. i < length t.lines) given
tops-inside law cs t k n places given size same is =
    subst (λ (m : ℕ). All (λ i. i < m) given) size (subst (All (λ i. i < n)) (sym (same ∙ is)) (law cs k n))

pub top-made : (law : TopOfPlaces) (keys : List BKey) (t made : Grid) (cs : List KeyColumn) (n k count : ℕ) (places given : List ℕ) → cs ≡ key_columns keys t → count ≡ length t.lines → k ≡ min n count
    → places ≡ top_of (places_cmp cs) k (places_below count) → given ≡ places → made ≡ gathered t given → made ≡ top_table n keys t
top-made law keys t made cs n k count places given ec size least is same e =
    e
    ∙ (ap (gathered t) (same ∙ (is
    ∙ (ap (λ (ds : List KeyColumn). top_of (places_cmp ds) k (places_below count)) ec
    ∙ (ap (λ (m : ℕ). top_of (places_cmp (key_columns keys t)) m (places_below count)) least
    ∙ ap (λ (m : ℕ). top_of (places_cmp (key_columns keys t)) (min n m) (places_below m)) size))))
    ∙ sym (law n keys t))

pub ruleset top_steps = (tops-inside, top-made)
