-- What the calls on bags give, and its form.
use Rattle.std.proofs.Common.{◌≡◌, ℕ, true, false, nat_le, List, [], ◌∷◌, ◌++◌, map, fold, append_assoc, Option, Some, None, option_map, option_and_then, refl, sym, ap, ◌∙◌}
use Rattle.std.specs.List.{list_all}
use Rattle.std.proofs.lemmas.Bool.{and_parts, and_from}
use Rattle.std.proofs.lemmas.List.{append-nil}
use Rattle.std.proofs.lemmas.List.Folds.{list_all-append}
use Rattle.kql_cells.specs.Dynamic.{ascends, has_form, is_well_formed_dynamic, levels}
use Rattle.kql_cells.specs.Values.{IsWellFormed}
use Rattle.kql_cells.proofs.FormLaws.{has_form-Bag}
use Rattle.kql_cells.specs.declared.dynamic.Dyn.{Dyn}
use Rattle.kql_cells.specs.declared.dynamic.Dyn.TheVariants as V
use Rattle.kql_cells.specs.declared.value.Value.{Value}
use Rattle.kql_cells.specs.declared.value.Value.TheVariants as value
use Rattle.kql_dynamic.specs.Bags.{bag, bag_merge, bag_of, bag_pack, entries_backwards, pairs, put}
use Rattle.kql_dynamic.specs.Parts.{entries, text, value_or_null, value_within_levels}
use Rattle.kql_dynamic.proofs.FormLaws.{array-form, bag-form, fits, fits-Text, null-Bag}
use Rattle.kql_dynamic.proofs.PartLaws.{entries-fit, or-null-form}
use Rattle.kql_dynamic.proofs.BagPutLaws.{ascends-bag_of, each-bag_of}

abbrev pub Entries : Type 0
Entries = List (List ℕ × Dyn)

-- ---- keys

keys-fit : (es : Entries) → list_all (fits 126) (map (λ e. V.Text e.0) es) ≡ true
keys-fit [] = refl
keys-fit (e ∷ es) = and_from (fits 126 (V.Text e.0)) (list_all (fits 126) (map (λ e. V.Text e.0) es)) (fits-Text 126 e.0) (keys-fit es)

pub keys-form : (es : Entries) → IsWellFormed (value.Dynamic (V.Array (map (λ e. V.Text e.0) es)))
keys-form es = array-form (map (λ e. V.Text e.0) es) (keys-fit es)

-- ---- merge

pub backwards-parts : (o p : Option Entries) (zs : Entries) → option_and_then (λ es. option_map (λ later. later ++ es) p) o ≡ Some zs
    → (es : Entries) × (later : Entries) × (o ≡ Some es) × (p ≡ Some later) × (later ++ es ≡ zs)
backwards-parts None p zs e = absurd cc
backwards-parts (Some es) None zs e = absurd cc
backwards-parts (Some es) (Some later) zs e = (es, later, refl, refl, cc)

last-by : (es : Entries) (o p : Option Entries) → option_and_then (λ x. option_map (λ later. later ++ x) (option_map (λ b. es ++ b) p)) o ≡ option_map (λ b. es ++ b) (option_and_then (λ x. option_map (λ later. later ++ x) p) o)
last-by es None p = refl
last-by es (Some x) None = refl
last-by es (Some x) (Some b) = ap Some (append_assoc es b x)

last-first : (before : List Dyn) (d : Dyn) (es : Entries) → entries d ≡ Some es → entries_backwards (before ++ d ∷ []) ≡ option_map (λ b. es ++ b) (entries_backwards before)
last-first [] d es e = rw e (ap Some (sym (append-nil es)))
last-first (x ∷ before) d es e = rw (last-first before d es e) (last-by es (entries x) (entries_backwards before))

none-by : (o : Option Entries) → option_and_then (λ x. option_map (λ later. later ++ x) None) o ≡ None
none-by None = refl
none-by (Some x) = refl

last-none : (before : List Dyn) (d : Dyn) → entries d ≡ None → entries_backwards (before ++ d ∷ []) ≡ None
last-none [] d e = rw e refl
last-none (x ∷ before) d e = rw (last-none before d e) (none-by (entries x))

fold-more : (m xs ys : Entries) → fold put m (xs ++ ys) ≡ fold put (fold put m xs) ys
fold-more m [] ys = refl
fold-more m (x ∷ xs) ys = fold-more (put m x) xs ys

more-by : (m es : Entries) (p : Option Entries) → option_map (fold put (fold put m es)) p ≡ option_map (fold put m) (option_map (λ b. es ++ b) p)
more-by m es None = refl
more-by m es (Some b) = ap Some (sym (fold-more m es b))

-- one bag more, from the last on
pub merge-step : (m now es : Entries) (left before : List Dyn) (d : Dyn) (goal : Option Entries) → left ≡ before ++ d ∷ [] → entries d ≡ Some es → now ≡ fold put m es
    → option_map (fold put m) (entries_backwards left) ≡ goal → option_map (fold put now) (entries_backwards before) ≡ goal
merge-step m now es left before d goal is e en h =
    rw en (more-by m es (entries_backwards before) ∙ ap (option_map (fold put m)) (sym (last-first before d es e)) ∙ rw is at h)

null-by : (o : Option Entries) (make : Entries → Value) → None ≡ option_map bag_of o → value.Null ≡ value_or_null o make
null-by None make e = refl
null-by (Some x) make e = absurd cc

pub merge-none : (m : Entries) (args left before : List Dyn) (d : Dyn) → left ≡ before ++ d ∷ [] → entries d ≡ None
    → option_map (fold put m) (entries_backwards left) ≡ option_map bag_of (entries_backwards args) → value.Null ≡ bag_merge args
merge-none m args left before d is e h =
    null-by (entries_backwards args) (λ es. bag (bag_of es)) (sym (ap (option_map (fold put m)) (last-none before d e)) ∙ rw is at h)

each-join : (xs ys : Entries) → list_all (λ e. fits 126 e.1) xs ≡ true → list_all (λ e. fits 126 e.1) ys ≡ true → list_all (λ e. fits 126 e.1) (xs ++ ys) ≡ true
each-join xs ys f g = list_all-append (λ (e : List ℕ × Dyn). fits 126 e.1) xs ys ∙ and_from (list_all (λ e. fits 126 e.1) xs) (list_all (λ e. fits 126 e.1) ys) f g

backwards-fit : (ds : List Dyn) (zs : Entries) → list_all (fits 127) ds ≡ true → entries_backwards ds ≡ Some zs → list_all (λ e. fits 126 e.1) zs ≡ true
backwards-fit [] zs h e = let none : [] ≡ zs = cc in rw (← none) refl
backwards-fit (d ∷ ds) zs h e =
    let q = and_parts (fits 127 d) (list_all (fits 127) ds) h in
    let p = backwards-parts (entries d) (entries_backwards ds) zs e in
    rw (← p.4) (each-join p.1 p.0 (backwards-fit ds p.1 q.1 p.3) (entries-fit d p.0 q.0 p.2).1)

pub merge-form : (args : List Dyn) → list_all is_well_formed_dynamic args ≡ true → IsWellFormed (bag_merge args)
merge-form args h = or-null-form (entries_backwards args) _ (λ es e. bag-form (bag_of es) (ascends-bag_of es) (each-bag_of (fits 126) es (backwards-fit args es h e)))

merged-by : (o : Option Entries) (m : Entries) → Some m ≡ option_map bag_of o → bag m ≡ value_or_null o (λ es. bag (bag_of es))
merged-by None m e = absurd cc
merged-by (Some x) m e = let same : m ≡ bag_of x = cc in ap bag same

pub merged-value : (args : List Dyn) (m : Entries) → Some m ≡ option_map bag_of (entries_backwards args) → bag m ≡ bag_merge args
merged-value args m e = merged-by (entries_backwards args) m e

-- ---- pack

packed-by : (o : Option Entries) (m : Entries) → Some m ≡ option_map bag_of o → value_or_null o (λ es. value_within_levels (V.Bag (bag_of es))) ≡ value_within_levels (V.Bag m)
packed-by None m e = absurd cc
packed-by (Some x) m e = let same : m ≡ bag_of x = cc in ap (λ l. value_within_levels (V.Bag l)) (sym same)

pub pack-none : (args : List Dyn) → None ≡ option_map bag_of (pairs args) → value.Null ≡ bag_pack args
pack-none args e = null-by (pairs args) (λ es. value_within_levels (V.Bag (bag_of es))) e

within : (m : Entries) → nat_le (levels (V.Bag m)) 127 ≡ true → bag m ≡ value_within_levels (V.Bag m)
within m h = rw (h, null-Bag m) refl

beyond : (m : Entries) → nat_le (levels (V.Bag m)) 127 ≡ false → value.Null ≡ value_within_levels (V.Bag m)
beyond m h = rw h refl

pub pack-within : (args : List Dyn) (m : Entries) → Some m ≡ option_map bag_of (pairs args) → nat_le (levels (V.Bag m)) 127 ≡ true → bag m ≡ bag_pack args
pack-within args m e h = within m h ∙ sym (packed-by (pairs args) m e)

pub pack-beyond : (args : List Dyn) (m : Entries) → Some m ≡ option_map bag_of (pairs args) → nat_le (levels (V.Bag m)) 127 ≡ false → value.Null ≡ bag_pack args
pack-beyond args m e h = beyond m h ∙ sym (packed-by (pairs args) m e)

pairs-parts : (o : Option (List ℕ)) (d : Dyn) (p : Option Entries) (zs : Entries) → option_and_then (λ t. option_map (λ es. (t, d) ∷ es) p) o ≡ Some zs
    → (t : List ℕ) × (es : Entries) × (p ≡ Some es) × ((t, d) ∷ es ≡ zs)
pairs-parts None d p zs e = absurd cc
pairs-parts (Some t) d None zs e = absurd cc
pairs-parts (Some t) d (Some es) zs e = (t, es, refl, cc)

pairs-forms : (args : List Dyn) (zs : Entries) → list_all (fits 127) args ≡ true → pairs args ≡ Some zs → list_all (λ e. has_form e.1) zs ≡ true
pairs-forms [] zs h e = let none : [] ≡ zs = cc in rw (← none) refl
pairs-forms (k ∷ []) zs h e = absurd cc
pairs-forms (k ∷ d ∷ ds) zs h e =
    let q = and_parts (fits 127 k) (list_all (fits 127) (d ∷ ds)) h in
    let r = and_parts (fits 127 d) (list_all (fits 127) ds) q.1 in
    let p = pairs-parts (text k) d (pairs ds) zs e in
    rw (← p.3) (and_from (has_form d) (list_all (λ e. has_form e.1) p.1) (and_parts (has_form d) (nat_le (levels d) 127) r.0).0 (pairs-forms ds p.1 r.1 p.2))

pack-form-by : (args : List Dyn) (o : Option Entries) (m : Entries) → list_all (fits 127) args ≡ true → pairs args ≡ o → Some m ≡ option_map bag_of o → has_form (V.Bag m) ≡ true
pack-form-by args None m h is e = absurd cc
pack-form-by args (Some x) m h is e =
    let same : m ≡ bag_of x = cc in
    rw same (has_form-Bag (bag_of x) ∙ and_from (ascends (bag_of x)) (list_all (λ e. has_form e.1) (bag_of x)) (ascends-bag_of x) (each-bag_of has_form x (pairs-forms args x h is)))

pub pack-form : (args : List Dyn) (m : Entries) → list_all is_well_formed_dynamic args ≡ true → Some m ≡ option_map bag_of (pairs args) → nat_le (levels (V.Bag m)) 127 ≡ true → IsWellFormed (bag m)
pack-form args m h e deep = (null-Bag m, and_from (has_form (V.Bag m)) (nat_le (levels (V.Bag m)) 127) (pack-form-by args (pairs args) m h refl e) deep)
