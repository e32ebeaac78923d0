-- Places that rise: two lists of them that have the same members are one.
use Rattle.std.proofs.Common.{◌≡◌, ◌<◌, ℕ, zero, suc, Bool, true, List, [], ◌∷◌, map, filter, length, get_or, refl, sym, ap, ap₂, ◌∙◌, subst, inl, inr, arith}
use Rattle.std.specs.List.{AllByRecursion, list_all}
use Rattle.std.specs.List.Sorted.{IsStrictlySortedBy}
use Rattle.std.specs.Cmp.{IsTotalOrder}
use Rattle.std.specs.Ordering.{ordering_reverse, ordering_then}
use Rattle.std.specs.declared.cmp.Ordering.{Ordering}
use Rattle.std.specs.declared.cmp.Ordering.TheVariants.{Less, Equal, Greater}
use Rattle.std.proofs.lemmas.Bool.{and_parts, cases_Bool}
use Rattle.std.proofs.lemmas.List.{length-map}
use Rattle.std.proofs.lemmas.List.Sorted.{Contains-permutation, IsPermutation-sym}
use Rattle.kql_cells.specs.Seen.{row_at}
use Rattle.kql_cells.specs.Table.{Grid, gathered}
use Rattle.kql_bound.specs.declared.expr.BExpr.{BExpr}
use Rattle.kql_bound.specs.declared.parts.BKey.{BKey}
use Rattle.kql_meaning.specs.Expressions.{val}
use Rattle.kql_meaning.specs.RowByRow.{is_plain}
use Rattle.kql_meaning.specs.Sort.{key_cmp, keys_cmp, pair_cmp, sorted_places}
use Rattle.kql_meaning.specs.Tables.{places}
use Rattle.kql_meaning.proofs.ListLaws.{every-filter}
use Rattle.kql_meaning.proofs.MemberLaws.{Member, contains-member, member-contains, of-member}
use Rattle.kql_meaning.proofs.RowByRowLaws.{plain_of_gathered}
use Rattle.kql_meaning.proofs.SortLaws.{sort_orders, sort_rearranges, sorted-of-pairs}

module _ (cmp : ℕ → ℕ → Ordering) (o : IsTotalOrder cmp) where
  both-ways : (x y : ℕ) → cmp x y ≡ Less → cmp y x ≡ Less → ⊥
  both-ways x y e f = let t : Less ≡ Greater = sym e ∙ (o.antisymm x y ∙ ap ordering_reverse f) in cc

  first-same : (x y : ℕ) (xs ys : List ℕ) → AllByRecursion (λ z. cmp x z ≡ Less) xs → AllByRecursion (λ z. cmp y z ≡ Less) ys → Member y (x ∷ xs) → Member x (y ∷ ys) → x ≡ y
  first-same x y xs ys h k (inl e) n = e
  first-same x y xs ys h k (inr m) (inl e) = sym e
  first-same x y xs ys h k (inr m) (inr n) = absurd (both-ways x y (of-member (λ z. cmp x z ≡ Less) xs y h m) (of-member (λ z. cmp y z ≡ Less) ys x k n))

  in-rest : (x z : ℕ) (ys : List ℕ) → cmp x z ≡ Less → Member z (x ∷ ys) → Member z ys
  in-rest x z ys e (inl p) = let same : cmp x x ≡ Less = subst (λ w. cmp x w ≡ Less) (sym p) e in absurd (both-ways x x same same)
  in-rest x z ys e (inr m) = m

  pub one-sorted : (xs ys : List ℕ) → IsStrictlySortedBy cmp xs → IsStrictlySortedBy cmp ys → ((z : ℕ) → Member z xs → Member z ys) → ((z : ℕ) → Member z ys → Member z xs) → xs ≡ ys
  unfolding IsStrictlySortedBy
  one-sorted [] [] h k there back = refl
  one-sorted [] (y ∷ ys) h k there back = absurd (back y (inl refl))
  one-sorted (x ∷ xs) [] h k there back = absurd (there x (inl refl))
  one-sorted (x ∷ xs) (y ∷ ys) h k there back =
      let same = first-same x y xs ys h.0 k.0 (back y (inl refl)) (there x (inl refl)) in
      ap₂ (λ a as_. a ∷ as_) same (one-sorted xs ys h.1 k.1
      (λ z m. in-rest x z ys (of-member (λ w. cmp x w ≡ Less) xs z h.0 m) (rw same (there z (inr m))))
      (λ z m. in-rest y z xs (of-member (λ w. cmp y w ≡ Less) ys z k.0 m) (rw (← same) (back z (inr m)))))

  pub filter-sorted : (p : ℕ → Bool) (xs : List ℕ) → IsStrictlySortedBy cmp xs → IsStrictlySortedBy cmp (filter p xs)
  unfolding IsStrictlySortedBy
  filter-sorted p [] h = tt
  filter-sorted p (x ∷ xs) h = elim (cases_Bool (p x)) [
    | inl t ↦ rw t (every-filter (λ z. cmp x z ≡ Less) p xs h.0, filter-sorted p xs h.1)
    | inr f ↦ rw f (filter-sorted p xs h.1)
  ]

every-map : (P Q : ℕ → Type 0) (f : ℕ → ℕ) (xs : List ℕ) → ((y : ℕ) → Member y xs → P y → Q (f y)) → AllByRecursion P xs → AllByRecursion Q (map f xs)
every-map P Q f [] h a = tt
every-map P Q f (x ∷ xs) h a = (h x (inl refl) a.0, every-map P Q f xs (λ y m. h y (inr m)) a.1)

pub map-sorted : (below above : ℕ → ℕ → Ordering) (f : ℕ → ℕ) (xs : List ℕ) → ((x y : ℕ) → Member x xs → Member y xs → below x y ≡ Less → above (f x) (f y) ≡ Less) → IsStrictlySortedBy below xs → IsStrictlySortedBy above (map f xs)
unfolding IsStrictlySortedBy
map-sorted below above f [] keep h = tt
map-sorted below above f (x ∷ xs) keep h =
    (every-map (λ y. below x y ≡ Less) (λ y. above (f x) y ≡ Less) f xs (λ y m e. keep x y (inl refl) (inr m) e) h.0, map-sorted below above f xs (λ y z m n. keep y z (inr m) (inr n)) h.1)

-- Elements by their places.

pub map-at : {X Y : Type 0} (g : X → Y) (xs : List X) (j : ℕ) (d : X) (e : Y) → j < length xs → get_or (map g xs) j e ≡ g (get_or xs j d)
map-at g [] j d e lt = absurd (omega arith)
map-at g (x ∷ xs) zero d e lt = refl
map-at g (x ∷ xs) (suc j) d e lt = map-at g xs j d e (omega arith)

pub member-get : (xs : List ℕ) (j : ℕ) → j < length xs → Member (get_or xs j 0) xs
member-get [] j lt = absurd (omega arith)
member-get (x ∷ xs) zero lt = inl refl
member-get (x ∷ xs) (suc j) lt = inr (member-get xs j (omega arith))

pub get-member : (xs : List ℕ) (z : ℕ) → Member z xs → (j : ℕ) × (j < length xs) × (get_or xs j 0 ≡ z)
get-member [] z m = absurd m
get-member (x ∷ xs) z (inl e) = (0, omega arith, e)
get-member (x ∷ xs) z (inr m) = let r = get-member xs z m in (suc r.0, omega (arith, r.1), r.2)

-- The places of a sorted table.

pub in-places : (keys : List BKey) (s : Grid) (z : ℕ) → Member z (sorted_places keys s) → Member z (places s)
in-places keys s z m = member-contains (places s) z (Contains-permutation (sorted_places keys s) (places s) z (IsPermutation-sym (places s) (sorted_places keys s) (sort_rearranges keys s)) (contains-member (sorted_places keys s) z m))

pub in-sorted : (keys : List BKey) (s : Grid) (z : ℕ) → Member z (places s) → Member z (sorted_places keys s)
in-sorted keys s z m = member-contains (sorted_places keys s) z (Contains-permutation (places s) (sorted_places keys s) z (sort_rearranges keys s) (contains-member (places s) z m))

pub sorted-of : (keys : List BKey) (s : Grid) → IsStrictlySortedBy (pair_cmp keys s) (sorted_places keys s)
sorted-of keys s = sorted-of-pairs (pair_cmp keys s) (sorted_places keys s) (sort_orders keys s)

pub then-less : (a b c : Ordering) → (b ≡ Less → c ≡ Less) → ordering_then a b ≡ Less → ordering_then a c ≡ Less
then-less Less b c h e = refl
then-less Equal b c h e = h e
then-less Greater b c h e = cc

abbrev pub plain_keys : List BKey → Bool
plain_keys keys = list_all (λ (k : BKey). is_plain k.expr) keys

-- Rows that are gathered read as they do at their places.
module _ (t : Grid) (kept : List ℕ) where
  abbrev pub at_kept : ℕ → ℕ
  at_kept j = get_or kept j 0

  pub count-kept : length (gathered t kept).lines ≡ length kept
  count-kept = length-map kept (row_at t.lines)

  pub rows-alike : (j : ℕ) → j < length kept → row_at (gathered t kept).lines j ≡ row_at t.lines (at_kept j)
  rows-alike j lt = map-at (row_at t.lines) kept j 0 [] lt

  pub val-alike : (e : BExpr) → is_plain e ≡ true → (j : ℕ) → j < length kept → val e (gathered t kept) j [] ≡ val e t (at_kept j) []
  val-alike e r j lt = plain_of_gathered e t kept j [] r lt

  pub keys-alike : (ks : List BKey) → plain_keys ks ≡ true → (i j : ℕ) → i < length kept → j < length kept → keys_cmp ks (gathered t kept) i j ≡ keys_cmp ks t (at_kept i) (at_kept j)
  unfolding keys_cmp
  keys-alike [] r i j li lj = refl
  keys-alike (k ∷ ks) r i j li lj =
      let b = and_parts (is_plain k.expr) (plain_keys ks) r in
      ap₂ ordering_then (ap₂ (key_cmp k) (val-alike k.expr b.0 i li) (val-alike k.expr b.0 j lj)) (keys-alike ks b.1 i j li lj)
