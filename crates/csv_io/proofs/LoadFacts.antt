-- Faults one after another, and one more cell without a fault.
use Rattle.std.proofs.Common.{◌≡◌, ◌≤◌, ◌<◌, ◌==◌, ◌+◌, ◌++◌, ◌∙◌, ℕ, zero, suc, true, false, List, [], ◌∷◌, length, drop, take, get_or, refl, sym, ap, arith, drop-cons, eq-eqb, inl, inr}
use Rattle.std.proofs.lemmas.List.{append-nil, take_all, take_more}
use Rattle.std.proofs.lemmas.Bool.{cases_Bool, ne_eqb}
use Rattle.std.specs.Prelude.{Some, Result, Ok, Err, IfOk, IfErr, IsUtf8}
use Rattle.std.proofs.lemmas.Str.{IsUtf8-from_is_utf8, is_utf8-from_IsUtf8}
use Rattle.std.specs.Str.Lossy.{utf8_valid_len}
use Rattle.std.specs.Str.{is_utf8}
use Rattle.csv_io.specs.Faults.{Fault, bad_length, not_utf8, fault_at, IsFaultOf, IsFirstOf, Reads, unless}
use Rattle.csv_io.specs.Load.{cell_faults, cells_faults, cells_of, faults_of, file_records, grid_of, loaded, row_faults}
use Rattle.csv_io.specs.declared.fault.DataFault.{DataFault}
use Rattle.csv_io.specs.declared.fault.DataFault.TheVariants as fault
use Rattle.kql_cells.specs.Table.{CellFits, RowFits}
use Rattle.kql_cells.specs.declared.schema.Column.{Column}
use Rattle.kql_cells.specs.declared.value.Value.{Value}

inside : (f g : Fault) → Some f ≡ Some g → f ≡ g
inside f g e = cc e

-- the first of some faults is the first with others behind them
pub first-append : (fs gs : List Fault) (e : DataFault) → IsFirstOf fs e → IsFirstOf (fs ++ gs) e
first-append [] gs (fault.Refused c r k) h = cc h
first-append (f ∷ fs) gs (fault.Refused c r k) h = h
first-append fs gs fault.OutOfMemory h = tt

-- what was read is what is loaded
pub table-read : {X : Type 0} (fs : List Fault) (x : X) (answer : Result X Fault) (r : Result X DataFault) → answer ≡ unless fs x → Reads fs x r → IfOk r (λ t. answer ≡ Ok t)
table-read fs x answer (Ok y) e r = e ∙ rw (r.0, r.1) refl
table-read fs x answer (Err d) e r = tt

pub refused-at : {X : Type 0} (fs : List Fault) (x : X) (d : DataFault) → IsFirstOf fs d → IsFaultOf (unless fs x) d
refused-at [] x (fault.Refused c r k) h = cc h
refused-at (f ∷ fs) x (fault.Refused c r k) h = ap Err (inside f (fault_at c r k) h)
refused-at fs x fault.OutOfMemory h = tt

pub fault-read : {X : Type 0} (fs : List Fault) (x : X) (answer : Result X Fault) (r : Result X DataFault) → answer ≡ unless fs x → Reads fs x r → IfErr r (IsFaultOf answer)
fault-read fs x answer (Ok y) e r = tt
fault-read fs x answer (Err d) e r = rw e (refused-at fs x d r)

-- of a text the faults are those of its records
pub loaded-text : (bytes : List ℕ) → IsUtf8 bytes → loaded bytes ≡ unless (faults_of (file_records bytes)) (grid_of (file_records bytes))
unfolding loaded
loaded-text bytes u = rw (is_utf8-from_IsUtf8 bytes u) refl

-- and other bytes are refused where they stop being a text
pub loaded-other : (bytes : List ℕ) → (IsUtf8 bytes → ⊥) → loaded bytes ≡ Err (fault_at not_utf8 0 (utf8_valid_len bytes))
unfolding loaded
loaded-other bytes n =
    let other : is_utf8 bytes ≡ false = elim (cases_Bool (is_utf8 bytes)) [ inl t ↦ absurd (n (IsUtf8-from_is_utf8 bytes t)) | inr f ↦ f ] in
    rw other refl

-- a row with one value more
fits-push : (columns : List Column) (c : Column) (row : List Value) (v : Value) → RowFits columns row → CellFits c v → RowFits (columns ++ c ∷ []) (row ++ v ∷ [])
unfolding RowFits
fits-push [] c [] v h f = (f, tt)
fits-push [] c (w ∷ row) v h f = absurd h
fits-push (b ∷ columns) c [] v h f = absurd h
fits-push (b ∷ columns) c (w ∷ row) v h f = (h.0, fits-push columns c row v h.1 f)

pub fits-more : (columns : List Column) (j : ℕ) (d : Column) (row : List Value) (v : Value) → j < length columns → RowFits (take j columns) row → CellFits (get_or columns j d) v
    → RowFits (take (j + 1) columns) (row ++ v ∷ [])
fits-more columns j d row v lt h f = rw (take_more columns j d lt) (fits-push (take j columns) (get_or columns j d) row v h f)

pub fits-all : (columns : List Column) (j : ℕ) (row : List Value) → length columns ≤ j → RowFits (take j columns) row → RowFits columns row
fits-all columns j row all h = rw (take_all j columns all) at h

pub fits-none : (columns : List Column) (row : List Value) → row ≡ [] → RowFits (take 0 columns) row
unfolding RowFits
fits-none columns row e = rw e tt

-- the faults of the first field that is left, and of the others
faults-at : (columns : List Column) (fields : List (List ℕ)) (row at j : ℕ) (d : Column) → j < length columns → j < length fields
    → cells_faults row at (drop j columns) (drop j fields)
    ≡ cell_faults (get_or columns j d).kind row at (get_or fields j []) ++ cells_faults row (at + 1) (drop (suc j) columns) (drop (suc j) fields)
faults-at columns fields row at j d k f = rw (drop-cons columns j d, drop-cons fields j []) refl

-- a field that does not read
pub cells-fault : (columns : List Column) (fields : List (List ℕ)) (row j : ℕ) (d : Column) (faults : List Fault) (e : DataFault)
    → j < length columns → j < length fields → cells_faults row (j + 1) (drop j columns) (drop j fields) ≡ faults
    → IsFirstOf (cell_faults (get_or columns j d).kind row (j + 1) (get_or fields j [])) e → IsFirstOf faults e
cells-fault columns fields row j d faults e k f g first =
    rw (← g, faults-at columns fields row (j + 1) j d k f) (first-append _ _ e first)

drop-all : {X : Type 0} (xs : List X) (n : ℕ) → length xs ≤ n → drop n xs ≡ []
drop-all [] zero e = refl
drop-all [] (suc n) e = refl
drop-all (x ∷ xs) zero e = absurd (omega arith)
drop-all (x ∷ xs) (suc n) e = drop-all xs n (omega arith)

-- the fields that are left behind the last column have none
pub cells-end : (columns : List Column) (fields : List (List ℕ)) (row j : ℕ) (faults : List Fault) → length columns ≤ j
    → cells_faults row (j + 1) (drop j columns) (drop j fields) ≡ faults → faults ≡ []
cells-end columns fields row j faults e g =
    let none : drop j columns ≡ [] = drop-all columns j e in
    sym g ∙ rw none refl

-- and no cell
pub cells-all : (columns : List Column) (fields : List (List ℕ)) (j : ℕ) (cells all : List Value) → length columns ≤ j
    → cells ++ cells_of (drop j columns) (drop j fields) ≡ all → cells ≡ all
cells-all columns fields j cells all e h =
    let none : drop j columns ≡ [] = drop-all columns j e in
    sym (append-nil cells) ∙ rw none at h

-- a row of as many fields as there are columns
pub row-even : (columns : List Column) (row : ℕ) (fields : List (List ℕ)) → length fields ≡ length columns → row_faults columns row fields ≡ cells_faults row 1 columns fields
unfolding row_faults
row-even columns row fields e = let same : (length fields == length columns) ≡ true = eq-eqb _ _ e in rw same refl

-- and of another number
pub row-uneven : (columns : List Column) (row : ℕ) (fields : List (List ℕ)) → (length fields ≡ length columns → ⊥) → row_faults columns row fields ≡ fault_at bad_length row (length fields) ∷ []
unfolding row_faults
row-uneven columns row fields n = let other : (length fields == length columns) ≡ false = ne_eqb _ _ n in rw other refl
