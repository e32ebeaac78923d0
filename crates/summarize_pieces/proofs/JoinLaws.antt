-- What is kept of two neighbouring ranges together.
use Rattle.std.proofs.Common.{◌≡◌, ◌<◌, ◌≤◌, ◌+◌, ◌++◌, ℕ, suc, true, false, List, [], ◌∷◌, filter, length, map, get_or, set, refl, ap, ap₂, sym, ◌∙◌, inl, inr, arith}
use Rattle.std.specs.Prelude.{nat_lt, if◌then◌else◌}
use Rattle.std.specs.List.{list_any, position_or_len}
use Rattle.std.proofs.lemmas.Bool.{cases_Bool}
use Rattle.std.proofs.lemmas.Bool.Decides.{nat_tests}
use Rattle.std.proofs.lemmas.List.{append-nil, append_assoc, map-append}
use Rattle.kql_cells.specs.Keys.{same_keys, same_keys-decides}
use Rattle.kql_cells.specs.declared.value.Value.{Value}
use Rattle.kql_keys.specs.Numbers.{distinct}
use Rattle.summarize_pieces.specs.Joined.{further_numbers, with_group, with_groups, with_kept}
use Rattle.summarize_pieces.specs.Pieces.{GroupKept}
use Rattle.summarize_pieces.proofs.KeyLists.{Distinct, absent, distinct-both, further-are, number-known, number-new, number_among, or-none, position-low, turned}

abbrev Key : Type 0
Key = List Value

abbrev Apart : List Key → Type 0
Apart ks = Distinct same_keys ks

-- Functions that agree at all keys but one are the same over keys without it.
map-apart : (f g : Key → GroupKept) (k : Key) (l : List Key) → list_any (same_keys k) l ≡ false → ((j : Key) → same_keys k j ≡ false → f j ≡ g j) → map f l ≡ map g l
map-apart f g k [] e h = refl
map-apart f g k (j ∷ l) e h =
    let q = or-none (same_keys k j) (list_any (same_keys k) l) e in
    ap₂ (λ (x : GroupKept) (xs : List GroupKept). x ∷ xs) (h j q.0) (map-apart f g k l q.1 h)

map-each : (f g : Key → GroupKept) (l : List Key) → ((j : Key) → f j ≡ g j) → map f l ≡ map g l
map-each f g [] h = refl
map-each f g (j ∷ l) h = ap₂ (λ (x : GroupKept) (xs : List GroupKept). x ∷ xs) (h j) (map-each f g l h)

-- What a key has, and another thing in its place.

get-next : (x : GroupKept) (xs : List GroupKept) (n : ℕ) (d : GroupKept) → get_or (x ∷ xs) (1 + n) d ≡ get_or xs n d
get-next x xs n d = let e : 1 + n ≡ suc n = omega arith in ap (λ m. get_or (x ∷ xs) m d) e

set-next : (x : GroupKept) (xs : List GroupKept) (n : ℕ) (v : GroupKept) → set (x ∷ xs) (1 + n) v ≡ x ∷ set xs n v
set-next x xs n v = let e : 1 + n ≡ suc n = omega arith in ap (λ m. set (x ∷ xs) m v) e

get-at : (f : Key → GroupKept) (k : Key) (l : List Key) (more : List GroupKept) (d : GroupKept) → list_any (same_keys k) l ≡ true → get_or (map f l ++ more) (position_or_len (same_keys k) l) d ≡ f k
get-at f k [] more d t = cc
get-at f k (j ∷ l) more d t = elim (cases_Bool (same_keys k j)) [
  | inl s ↦ rw s (ap f (sym ((same_keys-decides k j).0 s)))
  | inr n ↦ rw n (get-next (f j) (map f l ++ more) (position_or_len (same_keys k) l) d ∙ get-at f k l more d (rw n at t))
]

set-at : (f g : Key → GroupKept) (k : Key) (l : List Key) (more : List GroupKept) (v : GroupKept) → Apart l → list_any (same_keys k) l ≡ true → v ≡ g k → ((j : Key) → same_keys k j ≡ false → f j ≡ g j) → set (map f l ++ more) (position_or_len (same_keys k) l) v ≡ map g l ++ more
set-at f g k [] more v d t is h = cc
set-at f g k (j ∷ l) more v d t is h = elim (cases_Bool (same_keys k j)) [
  | inl s ↦
      let e : k ≡ j = (same_keys-decides k j).0 s in
      let apart : list_any (same_keys k) l ≡ false = ap (λ (x : Key). list_any (same_keys x) l) e ∙ d.0 in
      rw s (ap₂ (λ (x : GroupKept) (xs : List GroupKept). x ∷ (xs ++ more)) (is ∙ ap g e) (map-apart f g k l apart h))
  | inr n ↦ rw n (set-next (f j) (map f l ++ more) (position_or_len (same_keys k) l) v ∙ ap₂ (λ (x : GroupKept) (xs : List GroupKept). x ∷ xs) (h j n) (set-at f g k l more v d.1 (rw n at t) is h))
]

group-known : (first : ℕ) (states : List GroupKept) (n : ℕ) (k : GroupKept) → n < first → with_group first states n k ≡ set states n (with_kept (get_or states n k) k)
unfolding with_group
group-known first states n k lt = let t : nat_lt n first ≡ true = grind (arith, nat_tests) in rw t refl

group-new : (first : ℕ) (states : List GroupKept) (n : ℕ) (k : GroupKept) → first ≤ n → with_group first states n k ≡ states ++ k ∷ []
unfolding with_group
group-new first states n k le = let t : nat_lt n first ≡ false = grind (arith, nat_tests) in rw t refl

-- The states of keys, where those of further keys are joined to them.
abbrev with_more : (Key → GroupKept) → (Key → GroupKept) → List Key → Key → GroupKept
with_more f h b k = if list_any (same_keys k) b then with_kept (f k) (h k) else f k

-- One of them.
abbrev with_one : (Key → GroupKept) → (Key → GroupKept) → Key → Key → GroupKept
with_one f h k j = if same_keys j k then with_kept (f j) (h j) else f j

module _ (a : List Key) (apart : Apart a) (number : Key → ℕ)
    (known : (k : Key) → list_any (same_keys k) a ≡ true → number k ≡ position_or_len (same_keys k) a)
    (new : (k : Key) → list_any (same_keys k) a ≡ false → length a ≤ number k) where
  one-known : (f h : Key → GroupKept) (more : List GroupKept) (k : Key) → list_any (same_keys k) a ≡ true → with_group (length a) (map f a ++ more) (number k) (h k) ≡ map (with_one f h k) a ++ more
  one-known f h more k t =
      let at = known k t in
      let low = position-low same_keys same_keys-decides (same_keys k) a t in
      let n = position_or_len (same_keys k) a in
      let itself : same_keys k k ≡ true = (same_keys-decides k k).1 refl in
      ap (λ m. with_group (length a) (map f a ++ more) m (h k)) at
      ∙ (group-known (length a) (map f a ++ more) n (h k) low
      ∙ set-at f (with_one f h k) k a more (with_kept (get_or (map f a ++ more) n (h k)) (h k)) apart t
      (ap (λ (s : GroupKept). with_kept s (h k)) (get-at f k a more (h k) t) ∙ sym (rw itself refl))
      (λ j e. let back : same_keys j k ≡ false = turned same_keys same_keys-decides j k ∙ e in rw back refl))

  pub groups-are : (f h : Key → GroupKept) (more : List GroupKept) (b : List Key) → Apart b → with_groups (length a) (map f a ++ more) (map number b) (map h b) ≡ map (with_more f h b) a ++ (more ++ map h (filter (absent same_keys a) b))
  unfolding with_groups
  groups-are f h more [] d = ap (λ (xs : List GroupKept). map f a ++ xs) (sym (append-nil more))
  groups-are f h more (k ∷ b) d = elim (cases_Bool (list_any (same_keys k) a)) [
    | inl t ↦
        let rest = groups-are (with_one f h k) h more b d.1 in
        let same : (j : Key) → with_more (with_one f h k) h b j ≡ with_more f h (k ∷ b) j = λ j. elim (cases_Bool (same_keys j k)) [
          | inl s ↦
              let e : j ≡ k = (same_keys-decides j k).0 s in
              let gone : list_any (same_keys j) b ≡ false = ap (λ (x : Key). list_any (same_keys x) b) e ∙ d.0 in
              rw (s, gone) refl
          | inr n ↦ rw n refl
        ] in
        rw t (ap (λ (xs : List GroupKept). with_groups (length a) xs (map number b) (map h b)) (one-known f h more k t)
        ∙ (rest ∙ ap (λ (xs : List GroupKept). xs ++ (more ++ map h (filter (absent same_keys a) b))) (map-each (with_more (with_one f h k) h b) (with_more f h (k ∷ b)) a same)))
    | inr n ↦
        let rest = groups-are f h (more ++ h k ∷ []) b d.1 in
        let last : with_group (length a) (map f a ++ more) (number k) (h k) ≡ map f a ++ (more ++ h k ∷ []) = group-new (length a) (map f a ++ more) (number k) (h k) (new k n) ∙ append_assoc (map f a) more (h k ∷ []) in
        let same = map-apart (with_more f h b) (with_more f h (k ∷ b)) k a n (λ j e. let back : same_keys j k ≡ false = turned same_keys same_keys-decides j k ∙ e in rw back refl) in
        rw n (ap (λ (xs : List GroupKept). with_groups (length a) xs (map number b) (map h b)) last
        ∙ (rest ∙ ap₂ (λ (xs ys : List GroupKept). xs ++ ys) same (append_assoc more (h k ∷ []) (map h (filter (absent same_keys a) b)))))
  ]

-- The states of the keys of two lists: where what is kept of a key is what both keep of it, and where one of them has not the key what the other
-- keeps, they are those of the distinct keys of both.

filter-map : (h g : Key → GroupKept) (a l : List Key) → ((k : Key) → list_any (same_keys k) a ≡ false → h k ≡ g k) → map h (filter (absent same_keys a) l) ≡ map g (filter (absent same_keys a) l)
filter-map h g a [] e = refl
filter-map h g a (k ∷ l) e = elim (cases_Bool (list_any (same_keys k) a)) [
  | inl t ↦ rw t (filter-map h g a l e)
  | inr n ↦ rw n (ap₂ (λ (x : GroupKept) (xs : List GroupKept). x ∷ xs) (e k n) (filter-map h g a l e))
]

pub states-joined : (f h g : Key → GroupKept) (a b : List Key) → Apart a → Apart b
    → ((k : Key) → with_kept (f k) (h k) ≡ g k) → ((k : Key) → list_any (same_keys k) b ≡ false → f k ≡ g k) → ((k : Key) → list_any (same_keys k) a ≡ false → h k ≡ g k)
    → with_groups (length a) (map f a) (further_numbers a b) (map h b) ≡ map g (distinct same_keys (a ++ b))
unfolding further_numbers
states-joined f h g a b d e both left right =
    let number = number_among same_keys a b in
    let made = groups-are a d number (λ k t. number-known same_keys same_keys-decides a b k d e t) (λ k t. number-new same_keys same_keys-decides a b k d e t) f h [] b e in
    let each : (k : Key) → with_more f h b k ≡ g k = λ k. elim (cases_Bool (list_any (same_keys k) b)) [
      | inl t ↦ rw t (both k)
      | inr n ↦ rw n (left k n)
    ] in
    ap₂ (λ (xs : List GroupKept) (ns : List ℕ). with_groups (length a) xs ns (map h b)) (sym (append-nil (map f a))) (further-are same_keys same_keys-decides a b)
    ∙ (made
    ∙ (ap₂ (λ (xs ys : List GroupKept). xs ++ ys) (map-each (with_more f h b) g a each) (filter-map h g a b right)
    ∙ (sym (map-append g a (filter (absent same_keys a) b)) ∙ ap (map g) (sym (distinct-both same_keys same_keys-decides a b d e)))))
