-- The header of a file whose columns are known.
use Rattle.std.proofs.Common.{◌≡◌, ◌≤◌, ◌<◌, ◌+◌, ℕ, zero, suc, true, false, List, [], ◌∷◌, length, drop, get_or, refl, arith, drop-cons, inl, inr, ◌∙◌, sym, ap}
use Rattle.std.proofs.lemmas.List.{drop_all}
use Rattle.std.proofs.lemmas.Bool.{cases_Bool}
use Rattle.std.proofs.lemmas.Str.{IsUtf8-from_is_utf8, is_utf8-from_IsUtf8}
use Rattle.std.specs.Prelude.{Err, IsUtf8}
use Rattle.std.specs.Str.{is_utf8}
use Rattle.std.specs.Str.Lossy.{utf8_valid_len}
use Rattle.csv_io.specs.Faults.{Fault, IsFirstOf, fault_at, not_utf8, unless}
use Rattle.csv_io.specs.Load.{file_records}
use Rattle.csv_io.specs.TypedLoad.{differences, header_differs, heads, loaded_typed, typed_faults_of, typed_grid_of}
use Rattle.csv_io.specs.declared.fault.DataFault.{DataFault}
use Rattle.csv_io.specs.declared.fault.DataFault.TheVariants as fault
use Rattle.kql_cells.specs.declared.schema.Column.{Column}

-- of a text the faults are those of its records
pub typed-text : (columns : List Column) (bytes : List ℕ) → IsUtf8 bytes → loaded_typed columns bytes ≡ unless (typed_faults_of columns (file_records bytes)) (typed_grid_of columns (file_records bytes))
unfolding loaded_typed
typed-text columns bytes u = rw (is_utf8-from_IsUtf8 bytes u) refl

-- and other bytes are refused where they stop being a text
pub typed-other : (columns : List Column) (bytes : List ℕ) → (IsUtf8 bytes → ⊥) → loaded_typed columns bytes ≡ Err (fault_at not_utf8 0 (utf8_valid_len bytes))
unfolding loaded_typed
typed-other columns bytes n =
    let other : is_utf8 bytes ≡ false = elim (cases_Bool (is_utf8 bytes)) [ inl t ↦ absurd (n (IsUtf8-from_is_utf8 bytes t)) | inr f ↦ f ] in
    rw other refl

-- one field more that heads its column
pub differ-step : (columns : List Column) (fields : List (List ℕ)) (j : ℕ) (d : Column) (all : List Fault) → j < length columns → j < length fields
    → heads (get_or columns j d) (get_or fields j []) ≡ true → differences (j + 1) (drop j columns) (drop j fields) ≡ all
    → differences (j + 1 + 1) (drop (j + 1) columns) (drop (j + 1) fields) ≡ all
unfolding differences
differ-step columns fields j d all k f h e =
    let next : j + 1 ≡ suc j = omega arith in
    let here : differences (j + 1) (drop j columns) (drop j fields) ≡ differences (j + 1 + 1) (drop (suc j) columns) (drop (suc j) fields) =
    rw (drop-cons columns j d, drop-cons fields j [], h) refl in
    let same : differences (j + 1 + 1) (drop (j + 1) columns) (drop (j + 1) fields) ≡ differences (j + 1 + 1) (drop (suc j) columns) (drop (suc j) fields) = ap (λ n. differences (j + 1 + 1) (drop n columns) (drop n fields)) next in
    same ∙ (sym here ∙ e)

-- a field that does not
pub differ-here : (columns : List Column) (fields : List (List ℕ)) (j : ℕ) (d : Column) (all : List Fault) → j < length columns → j < length fields
    → heads (get_or columns j d) (get_or fields j []) ≡ false → differences (j + 1) (drop j columns) (drop j fields) ≡ all
    → all ≡ fault_at header_differs 0 (j + 1) ∷ []
unfolding differences
differ-here columns fields j d all k f h e = sym e ∙ (rw (drop-cons columns j d, drop-cons fields j [], h) refl)

-- one too few
missing-at : (columns : List Column) (fields : List (List ℕ)) (j at : ℕ) → j < length columns → fields ≡ [] → differences at (drop j columns) fields ≡ fault_at header_differs 0 at ∷ []
unfolding differences
missing-at [] fields j at k e = absurd (omega arith)
missing-at (c ∷ columns) fields zero at k e = rw e refl
missing-at (c ∷ columns) fields (suc j) at k e = missing-at columns fields j at (omega arith) e

pub differ-missing : (columns : List Column) (fields : List (List ℕ)) (j : ℕ) (all : List Fault) → j < length columns → length fields ≤ j
    → differences (j + 1) (drop j columns) (drop j fields) ≡ all → all ≡ fault_at header_differs 0 (j + 1) ∷ []
differ-missing columns fields j all k f e = sym e ∙ missing-at columns (drop j fields) j (j + 1) k (drop_all j fields f)

-- one too many
pub differ-more : (columns : List Column) (fields : List (List ℕ)) (j : ℕ) (all : List Fault) → length columns ≤ j → j < length fields
    → differences (j + 1) (drop j columns) (drop j fields) ≡ all → all ≡ fault_at header_differs 0 (j + 1) ∷ []
unfolding differences
differ-more columns fields j all k f e = sym e ∙ (rw (drop_all j columns k, drop-cons fields j []) refl)

-- and none
pub differ-none : (columns : List Column) (fields : List (List ℕ)) (j : ℕ) (all : List Fault) → length columns ≤ j → length fields ≤ j
    → differences (j + 1) (drop j columns) (drop j fields) ≡ all → all ≡ []
unfolding differences
differ-none columns fields j all k f e = sym e ∙ (rw (drop_all j columns k, drop_all j fields f) refl)

-- the fault that is alone is the first
pub alone : (all : List Fault) (row column : ℕ) (e : DataFault) → all ≡ fault_at header_differs row column ∷ [] → e ≡ fault.Refused header_differs row column → IsFirstOf all e
alone all row column e h r = rw (h, r) refl
