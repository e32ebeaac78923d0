-- A field at a place, and where its last colon stands.
use Rattle.std.proofs.Common.{◌≡◌, ◌≤◌, ◌<◌, ◌+◌, ◌-◌, ◌==◌, ◌∙◌, ℕ, zero, suc, Bool, true, false, List, [], ◌∷◌, length, drop, get_or, refl, sym, ap, arith}
use Rattle.std.specs.Prelude.{◌≢◌, Option, Some, None, IsSome, IsSomeAnd, not, option_map, slice_get, slice_range}
use Rattle.std.specs.Borrow.{Bor}
use Rattle.std.specs.List.{after_last, before_last, list_any, suffix_len}
use Rattle.std.proofs.lemmas.Bool.{eqb-true}
use Rattle.std.proofs.lemmas.List.Folds.{list_any_none}
use Rattle.std.proofs.lemmas.List.Sums.{suffix_len_is}
use Rattle.std.proofs.lemmas.Grind.{get_or_default_zero}
use Rattle.csv.specs.Records.{field_at}
use Rattle.csv_io.specs.Blanks.{bare}
use Rattle.csv_io.specs.Cells.{FitsKind, read_bare, read_filled}
use Rattle.csv_io.specs.Faults.{bad_cell, fault_at}
use Rattle.csv_io.specs.Header.{is_colon}
use Rattle.csv_io.specs.Load.{cell_faults, cell_of}
use Rattle.csv_io.specs.Next.{IsNext}
use Rattle.kql_dynamic.specs.Json.{parsed}
use Rattle.kql_cells.specs.Keys.{absent}
use Rattle.kql_cells.specs.Table.{CellFits, Grid}
use Rattle.kql_cells.specs.declared.schema.Column.{Column}
use Rattle.kql_cells.specs.declared.value.Kind.{Kind}
use Rattle.kql_cells.specs.declared.value.Kind.TheVariants as kind
use Rattle.kql_cells.specs.declared.value.Value.{Value}
use Rattle.kql_values.specs.Growing.{Growing}

-- the field at a place within
pub field_at-within : (fs : List (List ℕ)) (j : ℕ) → j < length fs → field_at fs j ≡ Some (get_or fs j [])
unfolding field_at
field_at-within [] j lt = absurd (omega arith)
field_at-within (f ∷ fs) zero lt = refl
field_at-within (f ∷ fs) (suc j) lt = field_at-within fs j (omega arith)

-- so a look at it finds one
pub found : (r : Option (Bor (List ℕ))) (fs : List (List ℕ)) (j : ℕ) → option_map (λ s. s.now) r ≡ field_at fs j → j < length fs → IsSome r
found None fs j e lt = let w = field_at-within fs j lt in cc
found (Some b) fs j e lt = refl

pub found-value : (r : Option (Bor (List ℕ))) (b : Bor (List ℕ)) (fs : List (List ℕ)) (j : ℕ) → option_map (λ s. s.now) r ≡ field_at fs j → j < length fs → r ≡ Some b → b.now ≡ get_or fs j []
found-value r b fs j e lt s =
    let w = field_at-within fs j lt in
    let q = rw (s, w) at e in
    cc q

-- the text before and after a colon behind which there is none
pub at-last : (bs front back : List ℕ) (end : ℕ) → end < length bs → get_or bs end 0 ≡ 58 → ((k : ℕ) → end + 1 ≤ k → k < length bs → (get_or bs k 0 == 58) ≡ false)
    → front ≡ slice_range bs 0 end → back ≡ drop (end + 1) bs → (front ≡ before_last is_colon bs) × (back ≡ after_last is_colon bs)
at-last bs front back end lt colon behind ef eb =
    let here : (get_or bs end 0 == 58) ≡ true = rw colon refl in
    let size : suffix_len (λ b. not (is_colon b)) bs ≡ length bs - (end + 1) =
    suffix_len_is (λ b. not (is_colon b)) bs (end + 1) 0 (omega arith) (λ k a b. ap not (behind k a b))
    (λ z. let at : end + 1 - 1 ≡ end = omega arith in rw at (ap not here)) in
    let first : length bs - (length bs - (end + 1)) - 1 ≡ end = omega arith in
    let rest : length bs - (length bs - (end + 1)) ≡ end + 1 = omega arith in
    let none : end - 0 ≡ end = omega arith in
    (rw (size, first, ef, none) refl, rw (size, rest, eb) refl)

pub none-at-all : (bs : List ℕ) (end : ℕ) → end ≤ 0 → ((k : ℕ) → end ≤ k → k < length bs → (get_or bs k 0 == 58) ≡ false) → list_any is_colon bs ≡ false
none-at-all bs end first behind =
    list_any_none is_colon bs (λ k d lt. let low : end ≤ k = omega arith in rw (get_or_default_zero bs k d lt) (behind k low lt))

-- ---- the cell of a field

-- a value of the type of a column fits it
pub kind-fits : (o : Option Column) (k : Kind) (v : Value) → IsSomeAnd o (λ c. c.kind ≡ k) → FitsKind k v → IsSomeAnd o (λ c. CellFits c v)
kind-fits None k v h f = absurd h
kind-fits (Some c) k v h f = rw h f

pub absent-fits : (k : Kind) → FitsKind k (absent k)
unfolding absent
absent-fits kind.Bool = (tt, tt)
absent-fits kind.Long = (tt, tt)
absent-fits kind.Text = (tt, tt)
absent-fits kind.Moment = (tt, tt)
absent-fits kind.Span = (tt, tt)
absent-fits kind.Dynamic = (tt, tt)

-- the next column is of the type of the column at this place
pub next-kind : (cs : List Column) (j : ℕ) (d : Column) → j < length cs → IsSomeAnd (slice_get cs j) (λ c. c.kind ≡ (get_or cs j d).kind)
next-kind [] j d lt = absurd (omega arith)
next-kind (c ∷ cs) zero d lt = refl
next-kind (c ∷ cs) (suc j) d lt = next-kind cs j d (omega arith)

pub next-at : (now : Growing) (g : Grid) (cs : List Column) (j : ℕ) (d : Column) → j < length g.columns → now.grid ≡ g → length now.row ≡ j → cs ≡ now.grid.columns → IsNext now (get_or cs j d).kind
next-at now g cs j d lt eg size ec =
    let within : j < length now.grid.columns = rw eg lt in
    rw (ec, size) (next-kind now.grid.columns j d within)

-- an empty field
pub read-empty : (k : Kind) (n at : ℕ) (t : List ℕ) → bare k t ≡ [] → (cell_faults k n at t ≡ []) × (cell_of k t ≡ absent k)
unfolding cell_of cell_faults
read-empty k n at t e = rw e (refl, refl)

-- a field that reads
filled-bare : (k : Kind) (t : List ℕ) (o : Option Value) → t ≢ [] → read_filled k t ≡ o → read_bare k t ≡ o
filled-bare k [] o some e = absurd (some refl)
filled-bare k (b ∷ t) o some e = e

pub read-value : (k : Kind) (n at : ℕ) (t : List ℕ) (v : Value) → bare k t ≢ [] → read_filled k (bare k t) ≡ Some v → (cell_faults k n at t ≡ []) × (cell_of k t ≡ v)
unfolding cell_of cell_faults
read-value k n at t v some e = rw (filled-bare k (bare k t) (Some v) some e) (refl, refl)

-- and one that does not
pub read-none : (k : Kind) (n at : ℕ) (t : List ℕ) → bare k t ≢ [] → read_filled k (bare k t) ≡ None → cell_faults k n at t ≡ fault_at bad_cell n at ∷ []
unfolding cell_faults
read-none k n at t some e = rw (filled-bare k (bare k t) None some e) refl

is-empty-list : (t : List ℕ) → length t ≡ 0 → t ≡ []
is-empty-list [] e = refl
is-empty-list (b ∷ t) e = cc

pub is-empty : (t : List ℕ) (b : Bool) → b ≡ (length t == 0) → b ≡ true → t ≡ []
is-empty t b e y = is-empty-list t (eqb-true (length t) 0 (sym e ∙ y))

pub is-filled : (t : List ℕ) (b : Bool) → b ≡ (length t == 0) → b ≡ false → t ≢ []
is-filled [] b e n m = cc
is-filled (c ∷ t) b e n m = cc

-- a filled field of a column of dynamic values
pub read-dynamic : (k : Kind) (n at : ℕ) (t : List ℕ) (v : Value) → bare k t ≢ [] → k ≡ kind.Dynamic → v ≡ parsed (bare k t) → (cell_faults k n at t ≡ []) × (cell_of k t ≡ v)
read-dynamic k n at t v some e p = read-value k n at t v some (rw e (ap Some (sym (rw e at p))))

pub ruleset cell_facts = (kind-fits, absent-fits, next-kind, read-empty, read-value, read-none)
