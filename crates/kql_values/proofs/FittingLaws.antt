-- When cells fit columns, and when the columns of two schemas stand beside each other.
use Rattle.std.proofs.Common.{◌≡◌, ◌≢◌, ◌<◌, ◌≤◌, ◌+◌, ◌-◌, ◌↔◌, ℕ, Bool, true, false, get_or, List, ◌++◌, length, take, refl, sym, ◌∙◌, arith, ◌⊎◌, inl, inr, length-append}
use Rattle.std.specs.Prelude.{All, IsTrue}
use Rattle.std.proofs.lemmas.List.{take_all, take_more}
use Rattle.std.proofs.lemmas.List.Elements.{All-push}
use Rattle.kql_cells.specs.Seen.{value_at}
use Rattle.kql_cells.specs.Table.{CellFits}
use Rattle.kql_cells.specs.declared.value.Value.{Value}
use Rattle.kql_cells.specs.declared.value.Value.TheVariants as val
use Rattle.std.proofs.lemmas.Bool.{cases_lt}
use Rattle.std.proofs.lemmas.List.{get_or-append-add, get_or-append_right, get_or_append_left, get_or_default}
use Rattle.kql_cells.specs.Named.{HasDistinctNames, IsAbsent, column_name}
use Rattle.kql_cells.specs.declared.schema.Column.{Column}

-- the name of each of these is none of those
abbrev pub AreApart : List Column → List Column → Type 0
AreApart xs ys = All (λ c. IsAbsent column_name (column_name c) xs) ys

both-right : (xs ys : List Column) (i j : ℕ) (d : Column) → HasDistinctNames column_name ys → length xs ≤ i → i < j → j < length (xs ++ ys)
    → column_name (get_or (xs ++ ys) i d) ≢ column_name (get_or (xs ++ ys) j d)
both-right xs ys i j d h from lt within =
    let size = length-append xs ys in
    rw (get_or-append_right xs ys (length xs) i d refl from, get_or-append_right xs ys (length xs) j d refl (omega arith))
    (h (i - length xs) (j - length xs) d (omega arith) (omega arith))

later-right : (xs ys : List Column) (i j : ℕ) (d : Column) → HasDistinctNames column_name ys → AreApart xs ys → length xs ≤ j → i < j → j < length (xs ++ ys) → (i < length xs) ⊎ (length xs ≤ i)
    → column_name (get_or (xs ++ ys) i d) ≢ column_name (get_or (xs ++ ys) j d)
later-right xs ys i j d h apart from lt within (inl low) =
    let size = length-append xs ys in
    rw (get_or_append_left xs ys d i low, get_or-append_right xs ys (length xs) j d refl from)
    (apart (j - length xs) d (omega arith) i d low)
later-right xs ys i j d h apart from lt within (inr high) = both-right xs ys i j d h high lt within

any-two : (xs ys : List Column) (i j : ℕ) (d : Column) → HasDistinctNames column_name xs → HasDistinctNames column_name ys → AreApart xs ys → i < j → j < length (xs ++ ys) → (j < length xs) ⊎ (length xs ≤ j)
    → column_name (get_or (xs ++ ys) i d) ≢ column_name (get_or (xs ++ ys) j d)
any-two xs ys i j d hx hy apart lt within (inl low) =
    rw (get_or_append_left xs ys d i (omega arith), get_or_append_left xs ys d j low) (hx i j d lt low)
any-two xs ys i j d hx hy apart lt within (inr high) = later-right xs ys i j d hy apart high lt within (cases_lt i (length xs))

-- columns of distinct names, none of which has the name of another's, have distinct names together
pub names-together : (xs ys : List Column) → HasDistinctNames column_name xs → HasDistinctNames column_name ys → AreApart xs ys → HasDistinctNames column_name (xs ++ ys)
names-together xs ys hx hy apart i j d lt within = any-two xs ys i j d hx hy apart lt within (cases_lt j (length xs))

-- and the other way round
pub names-apart : (xs ys : List Column) (k : ℕ) (c : Column) → HasDistinctNames column_name (xs ++ ys) → k < length ys → c ≡ get_or ys k c → IsAbsent column_name (column_name c) xs
names-apart xs ys k c h lt e i d low =
    let size = length-append xs ys in
    let differ : column_name (get_or (xs ++ ys) i c) ≢ column_name (get_or (xs ++ ys) (length xs + k) c) = h i (length xs + k) c (omega arith) (omega arith) in
    let apart : column_name (get_or xs i c) ≢ column_name (get_or ys k c) = rw (get_or_append_left xs ys c i low, get_or-append-add xs ys k c) at differ in
    λ same. apart (rw (get_or_default xs i c d low, ← e) same)

-- what a test of all columns of another schema tells
pub are-apart : (xs ys : List Column) (i : ℕ) → HasDistinctNames column_name xs → HasDistinctNames column_name ys → length ys ≤ i → AreApart xs (take i ys) → IsTrue true ↔ HasDistinctNames column_name (xs ++ ys)
are-apart xs ys i hx hy le apart =
    let all : AreApart xs ys = rw (take_all i ys le) at apart in
    (λ t. names-together xs ys hx hy all, λ h. refl)

pub are-not-apart : (xs ys : List Column) (k : ℕ) (c : Column) (n : List ℕ) (b : Bool) → k < length ys → c ≡ get_or ys k c → n ≡ c.name → (IsTrue b ↔ IsAbsent column_name n xs) → b ≡ false
    → IsTrue false ↔ HasDistinctNames column_name (xs ++ ys)
are-not-apart xs ys k c n b lt e en test off =
    (λ t. absurd cc, λ h. let on : b ≡ true = test.1 (rw en (names-apart xs ys k c h lt e)) in sym off ∙ on)

pub apart-more : (xs ys : List Column) (k : ℕ) (c : Column) (n : List ℕ) (b : Bool) → k < length ys → c ≡ get_or ys k c → n ≡ c.name → (IsTrue b ↔ IsAbsent column_name n xs) → b ≡ true
    → AreApart xs (take k ys) → AreApart xs (take (k + 1) ys)
apart-more xs ys k c n b lt e en test on apart =
    let here : IsAbsent column_name (column_name c) xs = rw en at (test.0 on) in
    rw (take_more ys k c lt, ← e) (All-push (λ d. IsAbsent column_name (column_name d) xs) (take k ys) c apart here)

-- one cell more fits
pub fits-more : (c : Column) (vs : List Value) (i : ℕ) (v : Value) (b : Bool) → i < length vs → v ≡ value_at vs i → (IsTrue b ↔ CellFits c v) → b ≡ true → All (CellFits c) (take i vs) → All (CellFits c) (take (i + 1) vs)
fits-more c vs i v b lt e test on all =
    let here : CellFits c (value_at vs i) = rw e at (test.0 on) in
    rw (take_more vs i val.Null lt) (All-push (CellFits c) (take i vs) (value_at vs i) all here)

-- all cells fit
pub all-fit : (c : Column) (vs : List Value) (i : ℕ) → length vs ≤ i → All (CellFits c) (take i vs) → IsTrue true ↔ All (CellFits c) vs
all-fit c vs i le h =
    let all : All (CellFits c) vs = rw (take_all i vs le) at h in
    (λ t. all, λ a. refl)
