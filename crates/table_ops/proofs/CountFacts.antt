-- How many rows each row gives, and from which row each row of the answer is.
use Rattle.std.proofs.Common.{◌≡◌, ◌<◌, ◌+◌, ◌++◌, ℕ, zero, suc, max, Bool, true, List, [], ◌∷◌, map, length, get_or, take, replicate, refl, sym, ap, ap₂, ◌∙◌, subst, arith}
use Rattle.std.specs.Prelude.{All, fold, slice_index_or}
use Rattle.std.specs.List.{AllByRecursion, flat_map, list_all, range_with_len}
use Rattle.std.proofs.lemmas.Bool.{and_parts}
use Rattle.std.proofs.lemmas.Grind.{flat_map-append, fold-append}
use Rattle.std.proofs.lemmas.List.{append-nil, length-map, map-append, take_more}
use Rattle.std.proofs.lemmas.List.Elements.{All-from_recursion}
use Rattle.std.proofs.lemmas.List.FromFn.{get_or-map-range_with_len, length-map-range_with_len, map-range_with_len_more}
use Rattle.kql_cells.specs.Seen.{value_at}
use Rattle.kql_cells.specs.Table.{Grid}
use Rattle.kql_cells.specs.declared.value.Value.{Value}
use Rattle.kql_cells.specs.declared.value.Value.TheVariants as value
use Rattle.kql_cells.specs.declared.dynamic.Dyn.{Dyn, out-Dyn}
use Rattle.kql_cells.specs.declared.dynamic.Dyn.TheOpen.{Dyn-F}
use Rattle.kql_bound.specs.declared.expr.BExpr.{BExpr}
use Rattle.kql_bound.specs.declared.parts.Expand.{Expand}
use Rattle.kql_bound.specs.declared.parts.ExpandItem.{ExpandItem}
use Rattle.kql_meaning.specs.Expressions.{val}
use Rattle.kql_meaning.specs.FittingOperators.{are_distinct, expand_fits, expand_item_fits, expand_names}
use Rattle.kql_meaning.specs.MvExpand.{dynamic_parts_step, entry_part, item_parts, parts_of, rows_given}
use Rattle.kql_meaning.specs.Tables.{places, places_below}
use Rattle.kql_values.specs.Grids.{HaveLength}
use Rattle.table_ops.specs.Parts.{ArePartsOf, item_values, most_parts, part_count, row_times, times, times_at, times_below, values_down}
use Rattle.table_ops.proofs.Transposed.{map-range-same}

-- The items fit.

pub items-fit : (x : Expand) (t : Grid) → expand_fits x t.columns ≡ true → list_all (expand_item_fits t.columns) x.items ≡ true
unfolding expand_fits
items-fit x t fits = (and_parts (list_all (expand_item_fits t.columns) x.items) (are_distinct (expand_names x.items)) fits).0

-- Their values are as many as there are rows.

pub down-long : (e : BExpr) (t : Grid) → length (values_down e t) ≡ length t.lines
unfolding values_down places places_below
down-long e t = length-map-range_with_len (λ i. val e t i []) 0 (length t.lines)

long-items : (items : List ExpandItem) (t : Grid) → HaveLength (length t.lines) (item_values items t)
unfolding item_values HaveLength
long-items [] t = tt
long-items (b ∷ bs) t = (down-long b.expr t, long-items bs t)

pub values-long : (items : List ExpandItem) (t : Grid) (n : ℕ) (vs : List (List Value)) → n ≡ length t.lines → vs ≡ item_values items t → HaveLength n vs
values-long items t n vs many is = subst (λ m. HaveLength m vs) (sym many) (subst (HaveLength (length t.lines)) (sym is) (long-items items t))

-- Either way an entry is shown there are as many parts.

dynamic-count : (array : Bool) (v : Value) (f : Dyn-F Dyn) → length (dynamic_parts_step array v f) ≡ length (dynamic_parts_step true v f)
dynamic-count array v (Dyn-F.Array xs) = refl
dynamic-count array v (Dyn-F.Bag es) = length-map es (entry_part array) ∙ sym (length-map es (entry_part true))
dynamic-count array v _ = refl

parts-count : (array : Bool) (v : Value) → length (parts_of array v) ≡ part_count v
unfolding parts_of part_count
parts-count array (value.Dynamic d) = dynamic-count array (value.Dynamic d) (out-Dyn d)
parts-count array _ = refl

-- What a row gives.

most-fold : (array : Bool) (items : List ExpandItem) (t : Grid) (i m : ℕ) → i < length t.lines → fold (λ n (vs : List Value). max n (part_count (value_at vs i))) m (item_values items t) ≡ fold (λ n (item : ExpandItem). max n (length (parts_of array (val item.expr t i [])))) m items
unfolding item_values values_down places places_below
most-fold array [] t i m lt = refl
most-fold array (b ∷ bs) t i m lt =
    let here : part_count (value_at (map (λ i. val b.expr t i []) (range_with_len 0 (length t.lines))) i) ≡ length (parts_of array (val b.expr t i [])) =
    ap part_count (get_or-map-range_with_len (λ i. val b.expr t i []) 0 (length t.lines) i i value.Null lt (omega arith)) ∙ sym (parts-count array (val b.expr t i [])) in
    ap (λ k. fold (λ n (vs : List Value). max n (part_count (value_at vs i))) (max m k) (item_values bs t)) here
    ∙ most-fold array bs t i (max m (length (parts_of array (val b.expr t i [])))) lt

most-given : (x : Expand) (t : Grid) (i : ℕ) → i < length t.lines → most_parts (item_values x.items t) i ≡ rows_given x t i
unfolding most_parts rows_given item_parts
most-given x t i lt = most-fold x.array x.items t i 0 lt

given-counts : (x : Expand) (t : Grid) (n : ℕ) (vs : List (List Value)) (counts : List ℕ) → n ≡ length t.lines → vs ≡ item_values x.items t → counts ≡ map (most_parts vs) (places_below n) → counts ≡ map (rows_given x t) (places t)
unfolding places places_below
given-counts x t n vs counts many is made =
    made ∙ (ap₂ (λ us m. map (most_parts us) (range_with_len 0 m)) is many
    ∙ map-range-same (most_parts (item_values x.items t)) (rows_given x t) 0 (length t.lines) (λ i lt. most-given x t i (omega (arith, lt))))

-- The rows of the answer.

flat-range-same : {X : Type 0} (f g : ℕ → List X) (a n : ℕ) → ((i : ℕ) → i < a + n → f i ≡ g i) → flat_map f (range_with_len a n) ≡ flat_map g (range_with_len a n)
flat-range-same f g a zero h = refl
flat-range-same f g a (suc n) h = ap₂ (λ xs ys. xs ++ ys) (h a (omega arith)) (flat-range-same f g (a + 1) n (λ i lt. h i (omega (arith, lt))))

pub times-same : (x : Expand) (t : Grid) (counts : List ℕ) → counts ≡ map (rows_given x t) (places t) → times_below counts (length counts) ≡ times x t
unfolding times_below times_at times row_times places places_below
times-same x t counts is =
    let n = length t.lines in
    let long : length counts ≡ n = ap length is ∙ length-map-range_with_len (rows_given x t) 0 n in
    ap (λ m. flat_map (λ i. map (λ k. (i, k)) (range_with_len 0 (slice_index_or counts i 0))) (range_with_len 0 m)) long
    ∙ flat-range-same (λ i. map (λ k. (i, k)) (range_with_len 0 (slice_index_or counts i 0))) (λ i. map (λ k. (i, k)) (range_with_len 0 (rows_given x t i))) 0 n
    (λ i lt. ap (λ m. map (λ k. (i, k)) (range_with_len 0 m)) (ap (λ ns. get_or ns i 0) is ∙ get_or-map-range_with_len (rows_given x t) 0 n i i 0 (omega (arith, lt)) (omega arith)))

pub parts-made : (x : Expand) (t : Grid) (n : ℕ) (values : List (List Value)) (counts ps : List ℕ) → n ≡ length t.lines → values ≡ item_values x.items t → counts ≡ map (most_parts values) (places_below n) → ps ≡ map (λ (p : ℕ × ℕ). p.0) (times_below counts (length counts)) → ArePartsOf x t (record { values = values; counts = counts; places = ps })
unfolding ArePartsOf
parts-made x t n values counts ps many is made there =
    let given = given-counts x t n values counts many is made in
    (is, given, there ∙ ap (map (λ (p : ℕ × ℕ). p.0)) (times-same x t counts given))

pub ruleset part_facts = (items-fit, values-long, parts-made)

-- Counts, row by row.

pub counts-start : (columns : List (List Value)) → map (most_parts columns) (places_below 0) ≡ []
unfolding places_below
counts-start columns = refl

pub counts-step : (columns : List (List Value)) (i m : ℕ) (old new : List ℕ) → m ≡ most_parts columns i → old ≡ map (most_parts columns) (places_below i) → new ≡ old ++ m ∷ [] → new ≡ map (most_parts columns) (places_below (i + 1))
unfolding places_below
counts-step columns i m old new is before after =
    after ∙ (ap₂ (λ (ns : List ℕ) (k : ℕ). ns ++ k ∷ []) before is ∙ sym (map-range_with_len_more (most_parts columns) 0 i i (omega arith)))

inside-each : (n i : ℕ) (columns : List (List Value)) → HaveLength n columns → i < n → AllByRecursion (λ vs. i < length vs) columns
unfolding HaveLength
inside-each n i [] h lt = tt
inside-each n i (vs ∷ columns) h lt = (omega (arith, h.0, lt), inside-each n i columns h.1 lt)

pub inside-all : (n i : ℕ) (columns : List (List Value)) → HaveLength n columns → i < n → All (λ vs. i < length vs) columns
inside-all n i columns h lt = All-from_recursion (λ vs. i < length vs) columns (inside-each n i columns h lt)

pub ruleset count_steps = (counts-start, counts-step, inside-all)

-- The most of a row, column by column.

pub most-start : (i : ℕ) → most_parts [] i ≡ 0
unfolding most_parts
most-start i = refl

pub most-step : (columns : List (List Value)) (i k m n new : ℕ) (vs : List Value) (v : Value) → k < length columns → vs ≡ get_or columns k vs → v ≡ value_at vs i → n ≡ part_count v → m ≡ most_parts (take k columns) i → new ≡ max n m → new ≡ most_parts (take (k + 1) columns) i
unfolding most_parts
most-step columns i k m n new vs v lt is here count before after =
    let step = λ (a : ℕ) (us : List Value). max a (part_count (value_at us i)) in
    let one : n ≡ part_count (value_at vs i) = count ∙ ap part_count here in
    let more : take (k + 1) columns ≡ take k columns ++ vs ∷ [] = take_more columns k vs lt ∙ ap (λ (us : List Value). take k columns ++ us ∷ []) (sym is) in
    let turned : max n m ≡ max m n = omega arith in
    after ∙ (turned ∙ (ap₂ (λ (a b : ℕ). max a b) before one
    ∙ (sym (fold-append step 0 (take k columns) (vs ∷ [])) ∙ ap (fold step 0) (sym more))))

pub column-inside : (columns : List (List Value)) (i k : ℕ) (vs : List Value) → All (λ us. i < length us) columns → k < length columns → vs ≡ get_or columns k vs → i < length vs
column-inside columns i k vs h lt is = subst (λ (us : List Value). i < length us) (sym is) (h k vs lt)

pub ruleset most_steps = (most-start, most-step, column-inside)

-- Places, row by row.

pub places-start : (counts ps : List ℕ) → ps ≡ [] → ps ≡ map (λ (p : ℕ × ℕ). p.0) (times_below counts 0)
unfolding times_below places_below
places-start counts ps e = e

map-self : {X : Type 0} (xs : List X) → map (λ x. x) xs ≡ xs
map-self [] = refl
map-self (x ∷ xs) = ap (λ ys. x ∷ ys) (map-self xs)

pub range-more : (i : ℕ) → range_with_len 0 (i + 1) ≡ range_with_len 0 i ++ i ∷ []
range-more i = sym (map-self (range_with_len 0 (i + 1))) ∙ (map-range_with_len_more (λ k. k) 0 i i (omega arith) ∙ ap (λ (ks : List ℕ). ks ++ i ∷ []) (map-self (range_with_len 0 i)))

pub times-step : (counts : List ℕ) (i : ℕ) → times_below counts (i + 1) ≡ times_below counts i ++ times_at counts i
unfolding times_below places_below
times-step counts i =
    ap (flat_map (times_at counts)) (range-more i)
    ∙ (flat_map-append (times_at counts) (range_with_len 0 i) (i ∷ []) ∙ ap (λ (ps : List (ℕ × ℕ)). flat_map (times_at counts) (range_with_len 0 i) ++ ps) (append-nil (times_at counts i)))

same-place : (i a n : ℕ) → map (λ (p : ℕ × ℕ). p.0) (map (λ k. (i, k)) (range_with_len a n)) ≡ replicate n i
same-place i a zero = refl
same-place i a (suc n) = ap (λ ks. i ∷ ks) (same-place i (a + 1) n)

pub same-default : {X : Type 0} (xs : List X) (i : ℕ) (d e : X) → i < length xs → get_or xs i d ≡ get_or xs i e
same-default [] i d e lt = absurd (omega (arith, lt))
same-default (x ∷ xs) zero d e lt = refl
same-default (x ∷ xs) (suc i) d e lt = same-default xs i d e (omega (arith, lt))

pub places-step : (counts : List ℕ) (i : ℕ) (old new : List ℕ) → old ≡ map (λ (p : ℕ × ℕ). p.0) (times_below counts i) → new ≡ old ++ replicate (slice_index_or counts i 0) i → new ≡ map (λ (p : ℕ × ℕ). p.0) (times_below counts (i + 1))
unfolding times_at places_below
places-step counts i old new before after =
    after ∙ (ap₂ (λ (xs ys : List ℕ). xs ++ ys) before (sym (same-place i 0 (slice_index_or counts i 0)))
    ∙ (sym (map-append (λ (p : ℕ × ℕ). p.0) (times_below counts i) (times_at counts i)) ∙ ap (map (λ (p : ℕ × ℕ). p.0)) (sym (times-step counts i))))

pub ruleset place_steps = (places-start, places-step)
