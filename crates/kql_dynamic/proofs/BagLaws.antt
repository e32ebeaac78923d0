-- The laws of bags that are made of several.
use Rattle.std.proofs.Common.{◌≡◌, ◌++◌, ◌∷◌, ◌∙◌, ℕ, Bool, true, false, cond, if◌then◌else◌, List, [], fold, Option, Some, None, option_and_then, refl, sym, ap, inl, inr}
use Rattle.std.specs.Prelude.{nat_le, reverse}
use Rattle.std.specs.BTreeMap.{insert_entry}
use Rattle.std.specs.List.{list_all}
use Rattle.std.specs.Option.{option_or}
use Rattle.std.specs.Str.{bytes_eq}
use Rattle.std.specs.Cmp.Lexicographic.{slice_cmp}
use Rattle.std.specs.Ordering.{nat_cmp, is_eq, is_lt, match_ordering}
use Rattle.std.specs.declared.cmp.Ordering.{Ordering}
use Rattle.std.specs.declared.cmp.Ordering.TheVariants.{Less, Equal, Greater}
use Rattle.std.proofs.lemmas.Bool.{cases_Bool, and_parts}
use Rattle.std.proofs.lemmas.Cmp.{nat_list_cmp_total}
use Rattle.std.proofs.lemmas.List.{reverse-append}
use Rattle.std.proofs.lemmas.Map.Text.{is_eq-slice_cmp}
use Rattle.std.proofs.lemmas.Slice.Eq.{bytes_eq-Decides}
use Rattle.kql_cells.specs.Dynamic.{ascends, is_null, levels, rises_to}
use Rattle.kql_cells.specs.declared.dynamic.Dyn.{Dyn}
use Rattle.kql_cells.specs.declared.dynamic.Dyn.TheVariants as V
use Rattle.kql_cells.specs.declared.value.Value.{Value}
use Rattle.kql_cells.specs.declared.value.Value.TheVariants as value
use Rattle.kql_dynamic.specs.Bags.{bag, bag_of, entries_backwards, put}
use Rattle.kql_dynamic.specs.Laws.{FirstBagWins, LastPairWins, first_value}
use Rattle.kql_dynamic.specs.Parts.{entries, entry_at, value_or_null}
use Rattle.kql_dynamic.proofs.BagFormLaws.{backwards-parts}
use Rattle.kql_dynamic.proofs.FormLaws.{fits, null-Bag}
use Rattle.kql_dynamic.proofs.PartLaws.{entries-Bag, entries-fit}
use Rattle.kql_dynamic.proofs.ReadBack.{less_from}

abbrev Entries : Type 0
Entries = List (List ℕ × Dyn)

-- ---- one entry more

bytes-of : (o : Ordering) (k l : List ℕ) → slice_cmp nat_cmp k l ≡ o → bytes_eq k l ≡ is_eq o
bytes-of o k l e = sym (is_eq-slice_cmp k l) ∙ ap is_eq e

same-key : (k l : List ℕ) → slice_cmp nat_cmp k l ≡ Equal → k ≡ l
same-key k l e = (bytes_eq-Decides k l).0 (bytes-of Equal k l e)

-- two tests that do not both hold may change places
swapped : {X : Type 0} (a b : Bool) (x y z : X) → (a ≡ true → b ≡ true → ⊥) → cond a x (cond b y z) ≡ cond b y (cond a x z)
swapped true true x y z n = absurd (n refl refl)
swapped true false x y z n = refl
swapped false true x y z n = refl
swapped false false x y z n = refl

twice : {X : Type 0} (a : Bool) (x y z : X) → cond a x z ≡ cond a x (cond a y z)
twice true x y z = refl
twice false x y z = refl

found-by : (o : Ordering) (q k : List ℕ) (d : Dyn) (e : List ℕ × Dyn) (es : Entries) → slice_cmp nat_cmp k e.0 ≡ o
    → entry_at q (insert_entry (slice_cmp nat_cmp) es k d) ≡ cond (bytes_eq k q) (Some d) (entry_at q es)
    → entry_at q (match_ordering o ((k, d) ∷ e ∷ es) ((e.0, d) ∷ es) (e ∷ insert_entry (slice_cmp nat_cmp) es k d)) ≡ cond (bytes_eq k q) (Some d) (entry_at q (e ∷ es))
found-by Less q k d e es is later = refl
found-by Equal q k d e es is later =
    ap (λ l. cond (bytes_eq l q) (Some d) (entry_at q es)) (sym (same-key k e.0 is)) ∙ (twice (bytes_eq k q) (Some d) (Some e.1) (entry_at q es)
    ∙ ap (λ l. cond (bytes_eq k q) (Some d) (cond (bytes_eq l q) (Some e.1) (entry_at q es))) (same-key k e.0 is))
found-by Greater q k d e es is later =
    ap (λ r. cond (bytes_eq e.0 q) (Some e.1) r) later
    ∙ swapped (bytes_eq e.0 q) (bytes_eq k q) (Some e.1) (Some d) (entry_at q es)
    (λ a b. let same : k ≡ e.0 = (bytes_eq-Decides k q).0 b ∙ sym ((bytes_eq-Decides e.0 q).0 a) in
    let yes' : bytes_eq k e.0 ≡ true = (bytes_eq-Decides k e.0).1 same in
    let no' : bytes_eq k e.0 ≡ false = bytes-of Greater k e.0 is in
    absurd (cc (yes', no')))

found-insert : (q k : List ℕ) (d : Dyn) (es : Entries) → entry_at q (insert_entry (slice_cmp nat_cmp) es k d) ≡ cond (bytes_eq k q) (Some d) (entry_at q es)
found-insert q k d [] = refl
found-insert q k d (e ∷ es) = found-by (slice_cmp nat_cmp k e.0) q k d e es refl (found-insert q k d es)

found-put : (q : List ℕ) (m : Entries) (e : List ℕ × Dyn) → entry_at q (put m e) ≡ cond (bytes_eq e.0 q) (Some e.1) (entry_at q m)
unfolding put
found-put q m e = found-insert q e.0 e.1 m

-- ---- several

found-join : (q : List ℕ) (xs ys : Entries) → entry_at q (xs ++ ys) ≡ option_or (entry_at q xs) (entry_at q ys)
found-join q [] ys = refl
found-join q (x ∷ xs) ys = elim (cases_Bool (bytes_eq x.0 q)) [ inl t ↦ rw t refl | inr f ↦ rw f (found-join q xs ys) ]

or-by : (a : Option Dyn) (b : Bool) (x : Dyn) (c : Option Dyn) → option_or a (cond b (Some x) c) ≡ option_or (option_or a (cond b (Some x) None)) c
or-by None true x c = refl
or-by None false x c = refl
or-by (Some a) b x c = refl

found-reverse : (q : List ℕ) (e : List ℕ × Dyn) (es : Entries) → entry_at q (reverse (e ∷ es)) ≡ option_or (entry_at q (reverse es)) (cond (bytes_eq e.0 q) (Some e.1) None)
found-reverse q e es = ap (entry_at q) (reverse-append (e ∷ []) es) ∙ found-join q (reverse es) (e ∷ [])

found-puts : (q : List ℕ) (m es : Entries) → entry_at q (fold put m es) ≡ option_or (entry_at q (reverse es)) (entry_at q m)
found-puts q m [] = refl
found-puts q m (e ∷ es) =
    found-puts q (put m e) es ∙ (ap (option_or (entry_at q (reverse es))) (found-put q m e) ∙ (or-by (entry_at q (reverse es)) (bytes_eq e.0 q) e.1 (entry_at q m)
    ∙ ap (λ o. option_or o (entry_at q m)) (sym (found-reverse q e es))))

or-none : (a : Option Dyn) → option_or a None ≡ a
or-none None = refl
or-none (Some x) = refl

-- the last of equal keys
found-bag_of : (q : List ℕ) (es : Entries) → entry_at q (bag_of es) ≡ entry_at q (reverse es)
found-bag_of q es = found-puts q [] es ∙ or-none (entry_at q (reverse es))

-- ---- keys that ascend stand once

rises-later : (k : List ℕ) (y : List ℕ × Dyn) (es : Entries) → slice_cmp nat_cmp k y.0 ≡ Less → rises_to y.0 es ≡ true → rises_to k es ≡ true
rises-later k y [] up h = refl
rises-later k y (z ∷ es) up h = ap is_lt (nat_list_cmp_total.trans k y.0 z.0 up (less_from (slice_cmp nat_cmp y.0 z.0) h))

other-key : (k l : List ℕ) → slice_cmp nat_cmp k l ≡ Less → bytes_eq l k ≡ false
other-key k l up = elim (cases_Bool (bytes_eq l k)) [
  | inl t ↦
      let same : l ≡ k = (bytes_eq-Decides l k).0 t in
      let yes' : bytes_eq k l ≡ true = (bytes_eq-Decides k l).1 (sym same) in
      let no' : bytes_eq k l ≡ false = bytes-of Less k l up in
      absurd (cc (yes', no'))
  | inr f ↦ f
]

absent-above : (k : List ℕ) (es : Entries) → rises_to k es ≡ true → ascends es ≡ true → entry_at k es ≡ None
absent-above k [] r h = refl
absent-above k (y ∷ es) r h =
    let up = less_from (slice_cmp nat_cmp k y.0) r in
    let p = and_parts (rises_to y.0 es) (ascends es) h in
    rw (other-key k y.0 up) (absent-above k es (rises-later k y es up p.0) p.1)

once-by : (a : Option Dyn) (b : Bool) (x : Dyn) → (b ≡ true → a ≡ None) → option_or a (cond b (Some x) None) ≡ cond b (Some x) a
once-by None true x h = refl
once-by None false x h = refl
once-by (Some a) true x h = absurd (cc (h refl))
once-by (Some a) false x h = refl

found-either-way : (q : List ℕ) (es : Entries) → ascends es ≡ true → entry_at q (reverse es) ≡ entry_at q es
found-either-way q [] h = refl
found-either-way q (e ∷ es) h =
    let p = and_parts (rises_to e.0 es) (ascends es) h in
    found-reverse q e es ∙ (ap (λ o. option_or o (cond (bytes_eq e.0 q) (Some e.1) None)) (found-either-way q es p.1)
    ∙ once-by (entry_at q es) (bytes_eq e.0 q) e.1 (λ t. let same : e.0 ≡ q = (bytes_eq-Decides e.0 q).0 t in rw (← same) (absent-above e.0 es p.0 p.1)))

-- ---- merge

first-by : (k : List ℕ) (o : Option Entries) (es : Entries) → o ≡ Some es → option_and_then (entry_at k) o ≡ entry_at k es
first-by k o es e = rw e refl

firsts : (k : List ℕ) (ds : List Dyn) (zs : Entries) → list_all (fits 127) ds ≡ true → entries_backwards ds ≡ Some zs → entry_at k (reverse zs) ≡ first_value k ds
firsts k [] zs h e = let none : [] ≡ zs = cc in rw (← none) refl
firsts k (d ∷ ds) zs h e =
    let q = and_parts (fits 127 d) (list_all (fits 127) ds) h in
    let p = backwards-parts (entries d) (entries_backwards ds) zs e in
    let keys = (entries-fit d p.0 q.0 p.2).0 in
    ap (λ l. entry_at k (reverse l)) (sym p.4) ∙ (ap (entry_at k) (reverse-append p.1 p.0) ∙ (found-join k (reverse p.0) (reverse p.1)
    ∙ (ap (λ o. option_or o (entry_at k (reverse p.1))) (found-either-way k p.0 keys ∙ sym (first-by k (entries d) p.0 p.2)) ∙ ap (option_or (option_and_then (entry_at k) (entries d))) (firsts k ds p.1 q.1 p.3))))

abbrev dyn_in : Value → Dyn
dyn_in (value.Dynamic d) = d
dyn_in _ = V.Null

bag-same : (xs ys : Entries) → bag xs ≡ bag ys → xs ≡ ys
bag-same xs ys e = let some : Some xs ≡ Some ys = sym (entries-Bag xs) ∙ (ap (λ v. entries (dyn_in v)) e ∙ entries-Bag ys) in cc

merge-by : (k : List ℕ) (args : List Dyn) (o : Option Entries) (es : Entries) → list_all (fits 127) args ≡ true → entries_backwards args ≡ o → value_or_null o (λ zs. bag (bag_of zs)) ≡ bag es → entry_at k es ≡ first_value k args
merge-by k args None es h is e = absurd cc
merge-by k args (Some zs) es h is e = ap (entry_at k) (sym (bag-same (bag_of zs) es e)) ∙ (found-bag_of k zs ∙ firsts k args zs h is)

pub first-bag-wins : FirstBagWins
first-bag-wins args es k h e = merge-by k args (entries_backwards args) es h refl e

-- ---- pack

limit-by : (b : Bool) (xs es : Entries) → (if b then (if is_null (V.Bag xs) then value.Null else bag xs) else value.Null) ≡ bag es → bag xs ≡ bag es
limit-by true xs es e = rw (null-Bag xs) at e
limit-by false xs es e = absurd cc

pub last-pair-wins : LastPairWins
last-pair-wins args ps es k is e =
    let made = rw is at e in
    ap (entry_at k) (sym (bag-same (bag_of ps) es (limit-by (nat_le (levels (V.Bag (bag_of ps))) 127) (bag_of ps) es made))) ∙ found-bag_of k ps
