-- One more column of a header.
use Rattle.std.proofs.Common.{◌≡◌, ◌≤◌, ◌<◌, ◌+◌, ◌++◌, ◌∷◌, ℕ, suc, Bool, true, false, List, [], length, drop, get_or, refl, arith, drop-cons, inl, inr}
use Rattle.std.specs.Prelude.{Option, Some, None, is_some, not, nat_lt}
use Rattle.std.proofs.lemmas.Bool.{cases_Bool}
use Rattle.std.proofs.lemmas.Bool.Decides.{nat_tests}
use Rattle.std.proofs.lemmas.List.Sums.{prefix_len_passes}
use Rattle.std.proofs.lemmas.Slice.Eq.{bytes_eq-Decides}
use Rattle.std.specs.List.{position_or_len}
use Rattle.std.specs.Str.{bytes_eq}
use Rattle.csv_io.specs.Faults.{Fault, IsFirstOf}
use Rattle.csv_io.specs.Header.{column_faults, column_of, header_faults, is_bad_column, name_of}
use Rattle.csv_io.specs.declared.fault.DataFault.{DataFault}
use Rattle.csv_io.proofs.LoadFacts.{first-append}
use Rattle.kql_cells.specs.Named.{IsAbsent, column_name, place_of}
use Rattle.kql_cells.specs.declared.schema.Column.{Column}

negated : (b : Bool) → not b ≡ true → b ≡ false
negated false e = refl
negated true e = cc e

is-none : {X : Type 0} (o : Option X) → is_some o ≡ false → o ≡ None
is-none None e = refl
is-none (Some x) e = cc e

-- where no place is found, none has the name
pub place_of-None : {X : Type 0} (name : X → List ℕ) (n : List ℕ) (xs : List X) → place_of name n xs ≡ None → IsAbsent name n xs
place_of-None {X = X} name n xs e k d lt same =
    let p : X → Bool = λ x. bytes_eq (name x) n in
    elim (cases_Bool (nat_lt (position_or_len p xs) (length xs))) [
      | inl t ↦ cc (rw t at e)
      | inr f ↦
          let all : length xs ≤ position_or_len p xs = grind (arith, nat_tests) in
          let none = negated _ (prefix_len_passes (λ x. not (p x)) xs k d (omega arith)) in
          let has = (bytes_eq-Decides (name (get_or xs k d)) n).1 same in
          cc (none, has)
    ]

-- a name without a fault stands in no column before
pub no-faults-absent : (before : List Column) (field : List ℕ) → column_faults before field ≡ [] → IsAbsent column_name (name_of field) before
unfolding column_faults
no-faults-absent before field e = elim (cases_Bool (is_bad_column (length before + 1) field)) [
  | inl t ↦ cc (rw t at e)
  | inr f ↦ elim (cases_Bool (is_some (place_of column_name (name_of field) before))) [
    | inl u ↦ cc (rw (f, u) at e)
    | inr v ↦ place_of-None column_name (name_of field) before (is-none _ v)
  ]
]

pub absent-of : (before : List Column) (field : List ℕ) (column : Column) → column_faults before field ≡ [] → column ≡ column_of field → IsAbsent column_name column.name before
unfolding column_of
absent-of before field column e same = rw same (no-faults-absent before field e)

-- the faults behind a column without one
header-at : (before : List Column) (fields : List (List ℕ)) (j : ℕ) → j < length fields
    → header_faults before (drop j fields) ≡ column_faults before (get_or fields j []) ++ header_faults (before ++ column_of (get_or fields j []) ∷ []) (drop (suc j) fields)
header-at before fields j lt = rw (drop-cons fields j []) refl

pub header-step : (before new : List Column) (fields : List (List ℕ)) (j : ℕ) (all : List Fault) → j < length fields → header_faults before (drop j fields) ≡ all
    → column_faults before (get_or fields j []) ≡ [] → new ≡ before ++ column_of (get_or fields j []) ∷ [] → header_faults new (drop (j + 1) fields) ≡ all
header-step before new fields j all lt h none e =
    let here = header-at before fields j lt in
    let next : j + 1 ≡ suc j = omega arith in
    rw (e, next) (rw (here, none) at h)

pub header-fault : (before : List Column) (fields : List (List ℕ)) (j : ℕ) (all : List Fault) (e : DataFault) → j < length fields → header_faults before (drop j fields) ≡ all
    → IsFirstOf (column_faults before (get_or fields j [])) e → IsFirstOf all e
header-fault before fields j all e lt h first =
    let here = header-at before fields j lt in
    rw (← h, here) (first-append (column_faults before (get_or fields j [])) (header_faults (before ++ column_of (get_or fields j []) ∷ []) (drop (suc j) fields)) e first)
