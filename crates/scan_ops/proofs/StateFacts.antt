-- The records of a state, as expressions read them.
use Rattle.std.proofs.Common.{◌≡◌, ◌≢◌, ◌<◌, ◌≤◌, ◌+◌, ◌-◌, ◌++◌, ℕ, zero, suc, true, false, List, [], ◌∷◌, map, length, replicate, take, get_or, refl, sym, ap, ap₂, ◌∙◌, arith, inl, inr, length-append}
use Rattle.std.specs.Prelude.{◌==◌, IfSome, None, Option, Some, is_some, option_map, slice_set}
use Rattle.std.proofs.lemmas.Bool.{cases_Bool}
use Rattle.std.proofs.lemmas.Bool.Decides.{nat_tests}
use Rattle.std.proofs.lemmas.List.{get_or-replicate, get_or-set_other, get_or-set_same, length-map, length-replicate}
use Rattle.kql_cells.specs.declared.value.Value.{Value}
use Rattle.kql_meaning.specs.Readings.{Records}
use Rattle.kql_meaning.specs.Scan.{Held, records_of}
use Rattle.scan_ops.specs.States.{IsHeld, StateSeen, begun_with, held_of, held_with, id_in, present, record_in}

abbrev seen : Option ℕ → Records → StateSeen
seen id rs = record { size = length rs; held = held_of id rs }

abbrev of-parts : ℕ → Option Held → StateSeen
of-parts n h = record { size = n; held = h }

abbrev none-seen : ℕ → StateSeen
none-seen size = record { size = size; held = None }

abbrev holding : List (List Value) → ℕ → Held
holding rows id = record { records = rows; id = id }

abbrev form : List (List Value) → ℕ → Records
form rows more = map Some rows ++ replicate more None

present-form : (rows : List (List Value)) (more : ℕ) → present (form rows more) ≡ rows
unfolding present
present-form [] zero = refl
present-form [] (suc more) = refl
present-form (r ∷ rows) more = ap (λ (xs : List (List Value)). r ∷ xs) (present-form rows more)

form-length : (rows : List (List Value)) (more : ℕ) → length (form rows more) ≡ length rows + more
form-length rows more = length-append (map Some rows) (replicate more None) ∙ (let a = length-map rows Some in let b = length-replicate {A = Option (List Value)} more None in omega (arith, a, b))

-- What a state is whose records stand so.
pub formed : (rs : Records) (rows : List (List Value)) (more id : ℕ) → rs ≡ form rows more → (rs ≡ records_of (length rs) (held_of (Some id) rs)) × (held_of (Some id) rs ≡ Some (holding rows id))
unfolding held_of records_of
formed rs rows more id is =
    let there : present rs ≡ rows = ap present is ∙ present-form rows more in
    let count : length rs ≡ length rows + more = ap length is ∙ form-length rows more in
    let left : length rs - length rows ≡ more = omega (arith, count) in
    (is ∙ (rw (there, left) refl), ap (λ (xs : List (List Value)). Some (holding xs id)) there)

-- The empty state.

pub empty-form : (rs : Records) (size : ℕ) → rs ≡ replicate size None → rs ≡ records_of (length rs) (held_of None rs)
unfolding held_of records_of
empty-form rs size is =
    let count : length rs ≡ size = ap length is ∙ length-replicate size None in
    is ∙ ap (λ n. replicate n None) (sym count)

pub empty-seen : (rs : Records) (size : ℕ) → rs ≡ replicate size None → seen None rs ≡ record { size = size; held = None }
unfolding held_of
empty-seen rs size is =
    let count : length rs ≡ size = ap length is ∙ length-replicate size None in
    ap (λ n. none-seen n) count

pub id-seen : (o : Option ℕ) (rs : Records) → o ≡ id_in (held_of o rs)
unfolding held_of id_in
id-seen None rs = refl
id-seen (Some id) rs = refl

-- A record.

at-form : (rows : List (List Value)) (more at : ℕ) (o : Option (List Value)) → at < length rows → get_or (form rows more) at o ≡ Some (get_or rows at [])
at-form [] more at o lt = absurd (omega (arith, lt))
at-form (r ∷ rows) more zero o lt = refl
at-form (r ∷ rows) more (suc at) o lt = at-form rows more at o (omega (arith, lt))

record-of : (n at : ℕ) (h : Option Held) (o : Option (List Value)) → IsHeld at h → at < n → get_or (records_of n h) at o ≡ record_in at h
unfolding records_of record_in
record-of n at None o held lt = get_or-replicate n at None o lt
record-of n at (Some h) o held lt = at-form h.records (n - length h.records) at o held

pub record-seen : (n at : ℕ) (h : Option Held) (rs xs : Records) (x o : Option (List Value)) → xs ≡ rs → rs ≡ records_of n h → IsHeld at h → at < n → x ≡ get_or xs at x → x ≡ o → o ≡ record_in at h
record-seen n at h rs xs x o same is held lt found that =
    sym that ∙ (found ∙ (ap (λ (ys : Records). get_or ys at x) (same ∙ is) ∙ record-of n at h x held lt))

-- A record more.

set-form : (rows : List (List Value)) (more at : ℕ) (row : List Value) → at ≤ length rows → length rows ≤ at + 1 → at < length rows + more → (rest : ℕ) → rest + (at + 1) ≡ length rows + more → slice_set (form rows more) at (Some row) ≡ form (take at rows ++ row ∷ []) rest
set-form [] zero zero row low high lt rest e = absurd (omega (arith, lt))
set-form [] (suc more) zero row low high lt rest e = let same : rest ≡ more = omega (arith, e) in rw same refl
set-form [] more (suc at) row low high lt rest e = absurd (omega (arith, low))
set-form (x ∷ []) more zero row low high lt rest e = let same : rest ≡ more = omega (arith, e) in rw same refl
set-form (x ∷ y ∷ rows) more zero row low high lt rest e = absurd (omega (arith, high))
set-form (x ∷ rows) more (suc at) row low high lt rest e =
    ap (λ (xs : Records). Some x ∷ xs) (set-form rows more at row (omega (arith, low)) (omega (arith, high)) (omega (arith, lt)) rest (omega (arith, e)))

length-set-of : (rs : Records) (at : ℕ) (o : Option (List Value)) → length (slice_set rs at o) ≡ length rs
length-set-of [] at o = refl
length-set-of (r ∷ rs) zero o = refl
length-set-of (r ∷ rs) (suc at) o = ap suc (length-set-of rs at o)

abbrev IsForm : Option ℕ → Records → Type 0
IsForm id rs = rs ≡ records_of (length rs) (held_of id rs)

-- The rows and the room of a state that is not empty.
some-form : (id : ℕ) (rs : Records) → IsForm (Some id) rs → rs ≡ form (present rs) (length rs - length (present rs))
unfolding held_of records_of
some-form id rs h = h

none-form : (rs : Records) → IsForm None rs → rs ≡ form [] (length rs)
unfolding held_of records_of
none-form rs h = h

rows-fit : (rs : Records) → rs ≡ form (present rs) (length rs - length (present rs)) → length (present rs) ≤ length rs
rows-fit rs is =
    let count = ap length is ∙ form-length (present rs) (length rs - length (present rs)) in
    omega (arith, count)

set-known : (id : ℕ) (rs new : Records) (rows : List (List Value)) (more at : ℕ) (row : List Value) → rs ≡ form rows more → length rs ≡ length rows + more → at ≤ length rows → length rows ≤ at + 1 → at < length rs → new ≡ slice_set rs at (Some row)
    → IsForm (Some id) new × (seen (Some id) new ≡ record { size = length rs; held = Some (holding (take at rows ++ row ∷ []) id) })
set-known id rs new rows more at row is count low high lt e =
    let rest = length rows + more - (at + 1) in
    let sum : rest + (at + 1) ≡ length rows + more = omega (arith, count, lt) in
    let made : new ≡ form (take at rows ++ row ∷ []) rest = e ∙ (ap (λ (xs : Records). slice_set xs at (Some row)) is ∙ set-form rows more at row low high (omega (arith, count, lt)) rest sum) in
    let size : length new ≡ length rs = ap length e ∙ length-set-of rs at (Some row) in
    let f = formed new (take at rows ++ row ∷ []) rest id made in
    (f.0, ap (λ (h : Option Held). of-parts (length new) h) f.1 ∙ ap (λ n. of-parts n (Some (holding (take at rows ++ row ∷ []) id))) size)

taken : (id : Option ℕ) (rs new : Records) (at : ℕ) (row : List Value) → IsForm id rs → IfSome (held_of id rs) (λ h. (at ≤ length h.records) × (length h.records ≤ at + 1)) → at < length rs → new ≡ slice_set rs at (Some row) → is_some id ≡ true
    → IsForm id new × (seen id new ≡ record { size = length rs; held = option_map (held_with at row) (held_of id rs) })
unfolding held_of
taken None rs new at row h held lt e some = absurd cc
taken (Some id) rs new at row h held lt e some =
    let is = some-form id rs h in
    let fit = rows-fit rs is in
    let count : length rs ≡ length (present rs) + (length rs - length (present rs)) = omega (arith, fit) in
    set-known id rs new (present rs) (length rs - length (present rs)) at row is count held.0 held.1 lt e

pub taken-form : (id : Option ℕ) (rs new : Records) (at : ℕ) (row : List Value) → rs ≡ records_of (length rs) (held_of id rs) → IfSome (held_of id rs) (λ h. (at ≤ length h.records) × (length h.records ≤ at + 1)) → at < length rs → new ≡ slice_set rs at (Some row) → is_some id ≡ true → new ≡ records_of (length new) (held_of id new)
taken-form id rs new at row h held lt e some = (taken id rs new at row h held lt e some).0

pub taken-seen : (id : Option ℕ) (rs new : Records) (at : ℕ) (row : List Value) → rs ≡ records_of (length rs) (held_of id rs) → IfSome (held_of id rs) (λ h. (at ≤ length h.records) × (length h.records ≤ at + 1)) → at < length rs → new ≡ slice_set rs at (Some row) → is_some id ≡ true → seen id new ≡ record { size = length rs; held = option_map (held_with at row) (held_of id rs) }
taken-seen id rs new at row h held lt e some = (taken id rs new at row h held lt e some).1

pub not-taken : (id : Option ℕ) (rs : Records) (at : ℕ) (row : List Value) → is_some id ≡ false → seen id rs ≡ record { size = length rs; held = option_map (held_with at row) (held_of id rs) }
unfolding held_of
not-taken None rs at row e = refl
not-taken (Some id) rs at row e = absurd cc

-- A sequence that begins.

begun : (old : Option ℕ) (id : ℕ) (rs new : Records) (row : List Value) → IsForm old rs → IfSome (held_of old rs) (λ h. length h.records ≤ 1) → 0 < length rs → new ≡ slice_set rs 0 (Some row)
    → IsForm (Some id) new × (seen (Some id) new ≡ record { size = length rs; held = Some (begun_with id row) })
unfolding held_of
begun None id rs new row h held lt e = set-known id rs new [] (length rs) 0 row (none-form rs h) (omega arith) (omega arith) (omega arith) lt e
begun (Some old) id rs new row h held lt e =
    let is = some-form old rs h in
    let fit = rows-fit rs is in
    let count : length rs ≡ length (present rs) + (length rs - length (present rs)) = omega (arith, fit) in
    set-known id rs new (present rs) (length rs - length (present rs)) 0 row is count (omega arith) held lt e

pub begun-form : (old : Option ℕ) (id : ℕ) (rs new : Records) (row : List Value) → rs ≡ records_of (length rs) (held_of old rs) → IfSome (held_of old rs) (λ h. length h.records ≤ 1) → 0 < length rs → new ≡ slice_set rs 0 (Some row) → new ≡ records_of (length new) (held_of (Some id) new)
begun-form old id rs new row h held lt e = (begun old id rs new row h held lt e).0

pub begun-seen : (old : Option ℕ) (id : ℕ) (rs new : Records) (row : List Value) → rs ≡ records_of (length rs) (held_of old rs) → IfSome (held_of old rs) (λ h. length h.records ≤ 1) → 0 < length rs → new ≡ slice_set rs 0 (Some row) → seen (Some id) new ≡ record { size = length rs; held = Some (begun_with id row) }
begun-seen old id rs new row h held lt e = (begun old id rs new row h held lt e).1

-- Records that are let go of, the first ones first.
pub record AreNone (n : ℕ) (rs : Records) : Type 0 where
  pub each : (k : ℕ) (d : Option (List Value)) → k < n → get_or rs k d ≡ None

pub none-start : (n : ℕ) (rs : Records) → n ≡ 0 → AreNone n rs
none-start n rs none = record { each = λ k d lt. absurd (omega (arith, lt, none)) }

pub none-more : (n : ℕ) (rs new : Records) → n < length rs → AreNone n rs → new ≡ slice_set rs n None → AreNone (n + 1) new
none-more n rs new inside h e = record {
  each = λ k d lt. ap (λ (xs : Records). get_or xs k d) e ∙ elim (cases_Bool (k == n)) [
    | inl y ↦
        let same : k ≡ n = grind (arith, y, nat_tests) in
        ap (λ j. get_or (slice_set rs n None) j d) same ∙ get_or-set_same rs n None d inside
    | inr f ↦
        let other : k ≢ n = grind (arith, f, nat_tests) in
        get_or-set_other rs n k None d other ∙ h.each k d (omega (arith, lt, other))
  ];
}

none-all : (rs : Records) → ((k : ℕ) (d : Option (List Value)) → k < length rs → get_or rs k d ≡ None) → rs ≡ replicate (length rs) None
none-all [] h = refl
none-all (r ∷ rs) h = ap₂ (λ (x : Option (List Value)) (xs : Records). x ∷ xs) (h 0 r (omega arith)) (none-all rs (λ k d lt. h (suc k) d (omega (arith, lt))))

pub none-whole : (n : ℕ) (rs old : Records) → length rs ≡ length old → length old ≤ n → AreNone n rs → rs ≡ replicate (length old) None
none-whole n rs old size le h = none-all rs (λ k d lt. h.each k d (omega (arith, lt, size, le))) ∙ ap (λ m. replicate m None) size

pub none-size : (n m : ℕ) (rs new : Records) → length rs ≡ m → new ≡ slice_set rs n None → length new ≡ m
none-size n m rs new size e = ap length e ∙ (length-set-of rs n None ∙ size)

pub ruleset clear_facts = (none-start, none-more, none-whole, none-size)

pub ruleset state_facts = (empty-form, empty-seen, id-seen)
