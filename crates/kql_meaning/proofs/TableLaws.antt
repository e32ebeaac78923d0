-- What `union` and `mv-expand` give.
use Rattle.std.proofs.Common.{◌≡◌, ◌≢◌, ◌≤◌, ◌+◌, ◌⊎◌, ◌++◌, ℕ, List, [], ◌∷◌, map, max, length, refl, sym, ap, ap₂, ◌∙◌, arith, inl, inr}
use Rattle.std.specs.Bool.{Decides}
use Rattle.std.specs.Prelude.{fold, nat_le}
use Rattle.std.specs.List.{flat_map, range_with_len, sum_by}
use Rattle.std.proofs.lemmas.Bool.{cases_Bool, leb-true, leb-false}
use Rattle.std.proofs.lemmas.List.{length-append}
use Rattle.std.proofs.lemmas.List.FromFn.{length-map-range_with_len}
use Rattle.std.proofs.lemmas.List.Sums.{sum_by-cons}
use Rattle.std.proofs.lemmas.Slice.Eq.{bytes_eq-Decides}
use Rattle.kql_cells.specs.Table.{Grid}
use Rattle.kql_cells.specs.declared.schema.Column.{Column}
use Rattle.kql_bound.specs.declared.parts.ExpandItem.{ExpandItem}
use Rattle.kql_meaning.specs.LawsOfTables.{ExpandCounts, RowsGivenAreLongest, UnionHasAllRows, UnionHasEachColumn, UnionHasNoOther, UnionNamesDiffer}
use Rattle.kql_meaning.specs.MvExpand.{expand_table, expanded_row, item_parts, rows_given}
use Rattle.kql_meaning.specs.Tables.{distinct_by, places, places_below}
use Rattle.kql_meaning.specs.Union.{all_in_order, rows_in_columns, same_name, union_columns, union_table}
use Rattle.kql_meaning.proofs.GroupLaws.{distinct-differ, in-distinct, of-distinct}
use Rattle.kql_meaning.proofs.MemberLaws.{Member, contains-member, member-contains, member-flat, member-of-flat, pairs-of}

-- Union.

name_of : Column → List ℕ
name_of c = c.name

same_name-decides : (c d : Column) → Decides (same_name c d) (name_of c ≡ name_of d)
unfolding same_name name_of
same_name-decides c d = bytes_eq-Decides c.name d.name

pub union_names_differ : UnionNamesDiffer
unfolding union_columns all_in_order name_of
union_names_differ first others =
    let all = first ++ flat_map (λ columns. columns) others in
    pairs-of (λ c d. c.name ≢ d.name) (distinct_by same_name all) (distinct-differ name_of same_name same_name-decides all)

pub union_has_each_column : UnionHasEachColumn
unfolding union_columns all_in_order name_of
union_has_each_column first others columns c there here =
    let all = first ++ flat_map (λ columns. columns) others in
    let q = in-distinct name_of same_name same_name-decides all c (among (member-contains (first ∷ others) columns there) (member-contains columns c here)) in
    (q.0, contains-member (distinct_by same_name all) q.0 q.1, q.2)
  where
    among : Member columns (first ∷ others) → Member c columns → Member c (first ++ flat_map (λ columns. columns) others)
    among m n = member-flat (λ columns. columns) (first ∷ others) columns c m n

pub union_has_no_other : UnionHasNoOther
unfolding union_columns all_in_order name_of
union_has_no_other first others d c =
    let all = first ++ flat_map (λ columns. columns) others in
    let m = of-distinct name_of same_name same_name-decides all d (member-contains (distinct_by same_name all) d c) in
    let q = member-of-flat (λ columns. columns) (first ∷ others) d m in
    (q.0, contains-member (first ∷ others) q.0 q.1, contains-member q.0 d q.2)

-- Rows.

flat-count : {X Y : Type 0} (f : X → List Y) (g : X → ℕ) (xs : List X) → ((x : X) → length (f x) ≡ g x) → length (flat_map f xs) ≡ sum_by g xs
flat-count f g [] h = refl
flat-count f g (x ∷ xs) h = length-append (f x) (flat_map f xs) ∙ (ap₂ (λ m n. m + n) (h x) (flat-count f g xs h) ∙ sym (sum_by-cons g x xs))

rows-kept : (columns : List Column) (t : Grid) → length (rows_in_columns columns t) ≡ length t.lines
unfolding rows_in_columns places places_below
rows-kept columns t = length-map-range_with_len _ 0 (length t.lines)

pub union_has_all_rows : UnionHasAllRows
unfolding union_table
union_has_all_rows inner a others =
    let columns = union_columns inner a.columns (map (λ (t : Grid). t.columns) others) in
    flat-count (rows_in_columns columns) (λ (t : Grid). length t.lines) (a ∷ others) (rows-kept columns)

-- The greatest of a start and of what a function gives of each element.
module _ {X : Type 0} (f : X → ℕ) where
  abbrev top : ℕ → List X → ℕ
  top n xs = fold (λ m x. max m (f x)) n xs

  top-from : (n : ℕ) (xs : List X) → n ≤ top n xs
  top-from n [] = omega arith
  top-from n (x ∷ xs) = omega (arith, top-from (max n (f x)) xs)

  top-above : (n : ℕ) (xs : List X) (x : X) → Member x xs → f x ≤ top n xs
  top-above n [] x m = absurd m
  top-above n (y ∷ ys) x (inl e) = let same : f y ≡ f x = ap f e in omega (arith, top-from (max n (f y)) ys)
  top-above n (y ∷ ys) x (inr m) = top-above (max n (f y)) ys x m

  either-max : (a b : ℕ) → (max a b ≡ a) ⊎ (max a b ≡ b)
  either-max a b = elim (cases_Bool (nat_le a b)) [
    | inl t ↦ inr (omega (arith, leb-true a b t))
    | inr n ↦ inl (omega (arith, leb-false a b n))
  ]

  top-reached : (n : ℕ) (xs : List X) → (top n xs ≡ n) ⊎ ((x : X) × Member x xs × (f x ≡ top n xs))
  top-reached n [] = inl refl
  top-reached n (y ∷ ys) = elim (top-reached (max n (f y)) ys) [
    | inl e ↦ elim (either-max n (f y)) [
      | inl l ↦ inl (e ∙ l)
      | inr r ↦ inr (y, inl refl, sym (e ∙ r))
    ]
    | inr q ↦ inr (q.0, inr q.1, q.2)
  ]

pub rows_given_are_longest : RowsGivenAreLongest
unfolding rows_given
rows_given_are_longest x t i =
    let f = λ (item : ExpandItem). length (item_parts x t i item) in (
      λ item c. top-above f 0 x.items item (member-contains x.items item c),
      elim (top-reached f 0 x.items) [
        | inl e ↦ inl e
        | inr q ↦ inr (q.0, contains-member x.items q.0 q.1, q.2)
      ],
    )

pub expand_counts : ExpandCounts
unfolding expand_table places_below
expand_counts x t = flat-count (λ i. map (expanded_row x t i) (range_with_len 0 (rows_given x t i))) (rows_given x t) (places t) (λ i. length-map-range_with_len (expanded_row x t i) 0 (rows_given x t i))

pub ruleset table_laws = (union_names_differ, union_has_each_column, union_has_no_other, union_has_all_rows, rows_given_are_longest, expand_counts)
