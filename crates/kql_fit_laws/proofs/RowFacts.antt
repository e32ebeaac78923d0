-- Rows and cells that fit their columns.
use Rattle.std.proofs.Common.{◌≡◌, ◌≢◌, ◌<◌, ℕ, zero, suc, Bool, true, false, List, [], ◌∷◌, ◌++◌, length, get_or, refl, sym, ap, ◌∙◌, subst, arith, inl, inr}
use Rattle.std.specs.Prelude.{not, ◌&&◌, bytes_eq, find, nat_lt, All, AllPairs, None, Some, slice_get}
use Rattle.std.specs.List.{position_or_len}
use Rattle.std.proofs.lemmas.Bool.{and_parts, cases_Bool}
use Rattle.std.proofs.lemmas.List.Elements.{All-from_recursion, recursion_from_All}
use Rattle.std.proofs.lemmas.List.Folds.{find_at}
use Rattle.std.proofs.lemmas.Option.{slice_get_within, slice_get-get_or}
use Rattle.std.proofs.lemmas.Slice.Eq.{bytes_eq-Decides}
use Rattle.kql_cells.specs.Named.{HasDistinctNames, column_name, place_of}
use Rattle.kql_cells.specs.Seen.{row_at}
use Rattle.kql_cells.specs.Table.{CellFits, Grid, IsGrid, RowFits, gathered}
use Rattle.kql_cells.specs.Values.{IsOfKind, IsWellFormed}
use Rattle.kql_cells.specs.declared.schema.Column.{Column}
use Rattle.kql_cells.specs.declared.value.Kind.{Kind}
use Rattle.kql_cells.specs.declared.value.Kind.TheVariants as kind
use Rattle.kql_cells.specs.declared.value.Value.{Value}
use Rattle.kql_cells.proofs.RowLaws.{all-gathered}
use Rattle.kql_meaning.specs.FittingOperators.{answer_if, are_distinct, columns_if, is_empty}
use Rattle.kql_meaning.specs.Items.{cells_in}
use Rattle.kql_meaning.specs.Join.{free_name, renamed}
use Rattle.kql_meaning.specs.Tables.{absent_in, absent_row, cell, cell_in, is_name_among, names_of, places, places_below}
use Rattle.kql_meaning.specs.Values.{absent}
use Rattle.kql_meaning.proofs.FirstLaws.{any-at}
use Rattle.kql_meaning.proofs.MemberLaws.{Member, Pairwise, every-of-members, member-map, member-of-range, of-member, pairs-of}
use Rattle.kql_fit_laws.specs.LawsOfRows.{IsTable}

-- Columns that an operator makes.

pub columns-some : (b : Bool) (cs after : List Column) → columns_if b cs ≡ Some after → (b ≡ true) × (cs ≡ after)
unfolding columns_if
columns-some true cs after e = (refl, cc)
columns-some false cs after e = cc

abbrev pub different : Column → Column → Type 0
different c d = c.name ≢ d.name

among : (names : List (List ℕ)) (n : List ℕ) → Member n names → is_name_among names n ≡ true
unfolding is_name_among
among names n m = any-at (λ k. bytes_eq k n) names n m ((bytes_eq-Decides n n).1 refl)

turned : (b : Bool) → not b ≡ true → b ≡ true → ⊥
turned true e f = cc
turned false e f = cc

pub names-pairwise : (cs : List Column) → are_distinct (names_of cs) ≡ true → Pairwise different cs
unfolding are_distinct names_of
names-pairwise [] e = tt
names-pairwise (c ∷ cs) e =
    let parts = and_parts (not (is_name_among (names_of cs) c.name)) (are_distinct (names_of cs)) e in (
      every-of-members (different c) cs (λ d m same. turned (is_name_among (names_of cs) c.name) parts.0 (among (names_of cs) c.name (subst (λ n. Member n (names_of cs)) (sym same) (member-map (λ (x : Column). x.name) cs d m)))),
      names-pairwise cs parts.1,
    )

place-of : {X : Type 0} (xs : List X) (y : X) → Member y xs → (k : ℕ) × (k < length xs) × (get_or xs k y ≡ y)
place-of [] y m = absurd m
place-of (z ∷ zs) y (inl e) = (0, omega arith, e)
place-of (z ∷ zs) y (inr m) = let q = place-of zs y m in (suc q.0, omega (arith, q.1), q.2)

first-of : {X : Type 0} (R : X → X → Type 0) (x : X) (xs : List X) → AllPairs R (x ∷ xs) → (y : X) → Member y xs → R x y
first-of R x xs h y m = let q = place-of xs y m in subst (R x) q.2 (h 0 (suc q.0) y (omega arith) (omega (arith, q.1)))

pairwise-of : {X : Type 0} (R : X → X → Type 0) (xs : List X) → AllPairs R xs → Pairwise R xs
pairwise-of R [] h = tt
pairwise-of R (x ∷ xs) h =
    (every-of-members (R x) xs (first-of R x xs h), pairwise-of R xs (λ i j d lt in_range. h (suc i) (suc j) d (omega arith) (omega arith)))

pub names-differ : (cs : List Column) → are_distinct (names_of cs) ≡ true → HasDistinctNames column_name cs
names-differ cs e = pairs-of different cs (names-pairwise cs e)

pub pairwise-names : (cs : List Column) → HasDistinctNames column_name cs → Pairwise different cs
pairwise-names cs h = pairwise-of different cs h

pub answer-some : (b : Bool) (cs after : List Column) → answer_if b cs ≡ Some after → (b ≡ true) × (cs ≡ after) × HasDistinctNames column_name cs
unfolding answer_if
answer-some b cs after e =
    let made = columns-some (b && (not (is_empty cs) && are_distinct (names_of cs))) cs after e in
    let parts = and_parts b (not (is_empty cs) && are_distinct (names_of cs)) made.0 in
    let names = and_parts (not (is_empty cs)) (are_distinct (names_of cs)) parts.1 in
    (parts.0, made.1, names-differ cs names.1)

-- Rows.

pub all-members : {X : Type 0} (P : X → Type 0) (xs : List X) → ((x : X) → Member x xs → P x) → All P xs
all-members P xs h = All-from_recursion P xs (every-of-members P xs h)

pub of-all : {X : Type 0} (P : X → Type 0) (xs : List X) (x : X) → All P xs → Member x xs → P x
of-all P xs x h m = of-member P xs x (recursion_from_All P xs h) m

pub rows-append : (cs ds : List Column) (us vs : List Value) → RowFits cs us → RowFits ds vs → RowFits (cs ++ ds) (us ++ vs)
unfolding RowFits
rows-append [] ds [] vs h k = k
rows-append [] ds (u ∷ us) vs h k = absurd h
rows-append (c ∷ cs) ds [] vs h k = absurd h
rows-append (c ∷ cs) ds (u ∷ us) vs h k = (h.0, rows-append cs ds us vs h.1 k)

pub absent-fits : (k : Kind) → IsOfKind k (absent k) × IsWellFormed (absent k)
unfolding absent
absent-fits kind.Bool = (tt, tt)
absent-fits kind.Long = (tt, tt)
absent-fits kind.Text = (tt, tt)
absent-fits kind.Moment = (tt, tt)
absent-fits kind.Span = (tt, tt)
absent-fits kind.Dynamic = (tt, tt)

pub absent-row-fits : (cs : List Column) → RowFits cs (absent_row cs)
unfolding RowFits absent_row
absent-row-fits [] = tt
absent-row-fits (c ∷ cs) = (absent-fits c.kind, absent-row-fits cs)

pub renamed-fits : (taken : List (List ℕ)) (cs : List Column) (vs : List Value) → RowFits cs vs → RowFits (renamed taken cs) vs
unfolding RowFits renamed
renamed-fits taken [] [] h = h
renamed-fits taken [] (v ∷ vs) h = absurd h
renamed-fits taken (c ∷ cs) [] h = absurd h
renamed-fits taken (c ∷ cs) (v ∷ vs) h = (h.0, renamed-fits (taken ++ free_name taken c.name ∷ []) cs vs h.1)

-- Cells.

pub row-cell : (cs : List Column) (vs : List Value) (j : ℕ) (c : Column) (d : Value) → RowFits cs vs → slice_get cs j ≡ Some c → CellFits c (get_or vs j d)
unfolding RowFits
row-cell [] vs j c d f e = cc
row-cell (b ∷ cs) [] j c d f e = absurd f
row-cell (b ∷ cs) (v ∷ vs) zero c d f e = let same : b ≡ c = cc in rw (← same) f.0
row-cell (b ∷ cs) (v ∷ vs) (suc j) c d f e = row-cell cs vs j c d f.1 e

pub row-fits : (t : Grid) (i : ℕ) → IsGrid t → i < length t.lines → RowFits t.columns (row_at t.lines i)
row-fits t i h lt = h i [] lt

pub place-found : (cs : List Column) (n : List ℕ) (c : Column) → find (λ d. bytes_eq (column_name d) n) cs ≡ Some c → (place_of column_name n cs ≡ Some (position_or_len (λ d. bytes_eq (column_name d) n) cs)) × (slice_get cs (position_or_len (λ d. bytes_eq (column_name d) n) cs) ≡ Some c)
place-found cs n c e =
    let p = λ (d : Column). bytes_eq (column_name d) n in
    let got : slice_get cs (position_or_len p cs) ≡ Some c = sym (find_at p cs) ∙ e in
    let below = slice_get_within cs (position_or_len p cs) c got in
    let test : nat_lt (position_or_len p cs) (length cs) ≡ true = grind (arith, below) in
    (rw test refl, got)

pub found-place : (cs : List Column) (n : List ℕ) (j : ℕ) → place_of column_name n cs ≡ Some j → (c : Column) × (slice_get cs j ≡ Some c) × (find (λ d. bytes_eq (column_name d) n) cs ≡ Some c)
found-place cs n j e = elim (cases_Bool (nat_lt (position_or_len (λ (d : Column). bytes_eq (column_name d) n) cs) (length cs))) [
  | inl t ↦
      let p = λ (d : Column). bytes_eq (column_name d) n in
      let known : Some (position_or_len p cs) ≡ Some j = rw t at e in
      let same : position_or_len p cs ≡ j = cc in
      let below : position_or_len p cs < length cs = grind (arith, t) in
      let d = get_or cs (position_or_len p cs) (record { name = []; kind = kind.Bool }) in
      let got = slice_get-get_or cs (position_or_len p cs) (record { name = []; kind = kind.Bool }) below in
      (d, subst (λ m. slice_get cs m ≡ Some d) same got, find_at p cs ∙ got)
  | inr f ↦ let none : None ≡ Some j = rw f at e in cc
]

pub cell-at-fits : (t : Grid) (i j : ℕ) (c : Column) → IsGrid t → i < length t.lines → slice_get t.columns j ≡ Some c → CellFits c (cell_in t i (Some j))
unfolding cell_in
cell-at-fits t i j c h lt e = row-cell t.columns (row_at t.lines i) j c (absent_in (slice_get t.columns j)) (row-fits t i h lt) e

pub cell-named-fits : (t : Grid) (i : ℕ) (n : List ℕ) (c : Column) → IsGrid t → i < length t.lines → find (λ d. bytes_eq (column_name d) n) t.columns ≡ Some c → CellFits c (cell t i n)
unfolding cell
cell-named-fits t i n c h lt e =
    let q = place-found t.columns n c e in
    rw q.0 (cell-at-fits t i (position_or_len (λ (d : Column). bytes_eq (column_name d) n) t.columns) c h lt q.1)

-- The column of a name, where no other has it.
pub column-found : (cs : List Column) (c : Column) → Pairwise different cs → Member c cs → find (λ d. bytes_eq (column_name d) c.name) cs ≡ Some c
column-found [] c h m = absurd m
column-found (d ∷ cs) c h (inl e) =
    let same : bytes_eq d.name c.name ≡ true = (bytes_eq-Decides d.name c.name).1 (ap column_name e) in
    rw same (ap (λ x. Some x) e)
column-found (d ∷ cs) c h (inr m) = elim (cases_Bool (bytes_eq d.name c.name)) [
  | inl t ↦ absurd (of-member (different d) cs c h.0 m ((bytes_eq-Decides d.name c.name).0 t))
  | inr f ↦ rw f (column-found cs c h.1 m)
]

pub cells-fit : (t : Grid) (i : ℕ) → IsTable t → i < length t.lines → (cs : List Column) → ((c : Column) → Member c cs → Member c t.columns) → RowFits cs (cells_in cs t i)
unfolding RowFits cells_in
cells-fit t i h lt [] among = tt
cells-fit t i h lt (c ∷ cs) among =
    (cell-named-fits t i c.name c h.1 lt (column-found t.columns c (pairwise-names t.columns h.0) (among c (inl refl))), cells-fit t i h lt cs (λ d m. among d (inr m)))

-- Places of a table.

pub place-below : (t : Grid) (i : ℕ) → Member i (places t) → i < length t.lines
unfolding places places_below
place-below t i m = omega (arith, (member-of-range 0 (length t.lines) i m).1)

pub places-inside : (t : Grid) → All (λ i. i < length t.lines) (places t)
places-inside t = all-members (λ i. i < length t.lines) (places t) (place-below t)

pub gathered-table : (t : Grid) (ps : List ℕ) → IsTable t → All (λ i. i < length t.lines) ps → IsTable (gathered t ps)
gathered-table t ps h w = (h.0, all-gathered (RowFits t.columns) t.lines ps h.1 w)
