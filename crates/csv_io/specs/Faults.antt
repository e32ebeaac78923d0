-- What a file is refused for, and where.
use Rattle.std.specs.Prelude.{◌≡◌, ℕ, List, [], ◌∷◌, Some, Result, Ok, Err, ⊤, slice_get}
use Rattle.csv_io.specs.declared.fault.DataFault.{DataFault}
use Rattle.csv_io.specs.declared.fault.DataFault.TheVariants.{Refused, OutOfMemory}

-- a code, a row, where 0 is the header, and a column
pub record Fault : Type 0 where
  pub code : ℕ
  pub row : ℕ
  pub column : ℕ

abbrev pub fault_at : ℕ → ℕ → ℕ → Fault
fault_at code row column = record { code = code; row = row; column = column }

-- the codes
abbrev pub not_utf8 : ℕ
not_utf8 = 301

abbrev pub no_header : ℕ
no_header = 302

abbrev pub bad_column : ℕ
bad_column = 303

abbrev pub column_twice : ℕ
column_twice = 304

abbrev pub bad_length : ℕ
bad_length = 305

abbrev pub bad_cell : ℕ
bad_cell = 306

-- the first of the faults, or the value where there is none
abbrev pub unless : {X : Type 0} → List Fault → X → Result X Fault
unless [] x = Ok x
unless (fault ∷ faults) x = Err fault

-- a refusal tells the fault that was to be answered; want of memory may come at any time
abbrev pub IsFaultOf : {X : Type 0} → Result X Fault → DataFault → Type 0
IsFaultOf answer (Refused code row column) = answer ≡ Err (fault_at code row column)
IsFaultOf answer OutOfMemory = ⊤

-- a refusal tells the first of these faults
abbrev pub IsFirstOf : List Fault → DataFault → Type 0
IsFirstOf faults (Refused code row column) = slice_get faults 0 ≡ Some (fault_at code row column)
IsFirstOf faults OutOfMemory = ⊤

-- this value where there is none of these faults, and else a refusal for the first
abbrev pub Reads : {X : Type 0} → List Fault → X → Result X DataFault → Type 0
Reads faults x (Ok y) = (faults ≡ []) × (y ≡ x)
Reads faults x (Err e) = IsFirstOf faults e
