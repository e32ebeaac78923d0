-- Two readings that are the same over two tables with as many rows: of one type, and of one value at each row.
use Rattle.std.proofs.Common.{◌≡◌, ◌<◌, ◌≤◌, ◌+◌, ◌-◌, ℕ, zero, suc, Bool, true, false, List, [], ◌∷◌, length, map, refl, ap, ap₂, arith}
use Rattle.std.specs.Prelude.{Option, None, Some, nat_le, nat_lt, if◌then◌else◌, pos, slice_get}
use Rattle.std.specs.List.{range_with_len}
use Rattle.std.proofs.lemmas.Bool.Decides.{nat_tests}
use Rattle.kql_cells.specs.Table.{Grid}
use Rattle.kql_cells.specs.declared.value.Kind.{Kind}
use Rattle.kql_cells.specs.declared.value.Value.{Value}
use Rattle.kql_cells.specs.declared.value.Value.TheVariants as value
use Rattle.kql_bound.specs.declared.expr.ChainSign.{ChainSign}
use Rattle.kql_functions.specs.declared.window.Window.{Window}
use Rattle.kql_functions.specs.declared.window.Window.TheVariants as window
use Rattle.kql_scalar_fns.specs.Arithmetic.{sum}
use Rattle.kql_meaning.specs.Numbers.{fitted, sum_of}
use Rattle.kql_meaning.specs.Readings.{Reading, Records, kinds_of, no_reading, reading_at, values_at, values_over}
use Rattle.kql_meaning.specs.Values.{absent_as, holds}
use Rattle.kql_meaning.specs.Windows.{count_in, first_number, last_where, rows_away, run_start, running_sum, value_after, value_before, where_none, windowed}

pub record SameReading (t u : Grid) (r q : Reading) : Type 0 where
  pub type : q.kind u.columns ≡ r.kind t.columns
  pub at : (i : ℕ) → i < length t.lines → (s : Records) → q.at u i s ≡ r.at t i s

abbrev pub AllSame : Grid → Grid → List Reading → List Reading → Type 0
AllSame t u [] [] = Unit {0}
AllSame t u (r ∷ rs) (q ∷ qs) = SameReading t u r q × AllSame t u rs qs
AllSame t u _ _ = ⊥

abbrev pub AllLinked : Grid → Grid → List (ChainSign × Reading) → List (ChainSign × Reading) → Type 0
AllLinked t u [] [] = Unit {0}
AllLinked t u (r ∷ rs) (q ∷ qs) = (q.0 ≡ r.0) × SameReading t u r.1 q.1 × AllLinked t u rs qs
AllLinked t u _ _ = ⊥

-- Lists of arguments.

pub kinds-same : (t u : Grid) (rs qs : List Reading) → AllSame t u rs qs → kinds_of qs u.columns ≡ kinds_of rs t.columns
unfolding kinds_of
kinds-same t u [] [] h = refl
kinds-same t u [] (q ∷ qs) h = absurd h
kinds-same t u (r ∷ rs) [] h = absurd h
kinds-same t u (r ∷ rs) (q ∷ qs) h = ap₂ (λ (k : Option Kind) (ks : List (Option Kind)). k ∷ ks) h.0.type (kinds-same t u rs qs h.1)

pub values-same : (t u : Grid) (rs qs : List Reading) → AllSame t u rs qs → (i : ℕ) → i < length t.lines → (s : Records) → values_at qs u i s ≡ values_at rs t i s
unfolding values_at
values-same t u [] [] h i lt s = refl
values-same t u [] (q ∷ qs) h i lt s = absurd h
values-same t u (r ∷ rs) [] h i lt s = absurd h
values-same t u (r ∷ rs) (q ∷ qs) h i lt s = ap₂ (λ (v : Value) (vs : List Value). v ∷ vs) (h.0.at i lt s) (values-same t u rs qs h.1 i lt s)

pub link-kinds-same : (t u : Grid) (rs qs : List (ChainSign × Reading)) → AllLinked t u rs qs → map {B = ChainSign × Option Kind} (λ (l : ChainSign × Reading). (l.0, l.1.kind u.columns)) qs ≡ map {B = ChainSign × Option Kind} (λ (l : ChainSign × Reading). (l.0, l.1.kind t.columns)) rs
link-kinds-same t u [] [] h = refl
link-kinds-same t u [] (q ∷ qs) h = absurd h
link-kinds-same t u (r ∷ rs) [] h = absurd h
link-kinds-same t u (r ∷ rs) (q ∷ qs) h =
    ap₂ (λ (l : ChainSign × Option Kind) (ls : List (ChainSign × Option Kind)). l ∷ ls) (ap₂ (λ (c : ChainSign) (k : Option Kind). (c, k)) h.0 h.1.type) (link-kinds-same t u rs qs h.2)

pub link-values-same : (t u : Grid) (rs qs : List (ChainSign × Reading)) → AllLinked t u rs qs → (i : ℕ) → i < length t.lines → (s : Records) → map {B = ChainSign × Value} (λ (l : ChainSign × Reading). (l.0, l.1.at u i s)) qs ≡ map {B = ChainSign × Value} (λ (l : ChainSign × Reading). (l.0, l.1.at t i s)) rs
link-values-same t u [] [] h i lt s = refl
link-values-same t u [] (q ∷ qs) h i lt s = absurd h
link-values-same t u (r ∷ rs) [] h i lt s = absurd h
link-values-same t u (r ∷ rs) (q ∷ qs) h i lt s =
    ap₂ (λ (l : ChainSign × Value) (ls : List (ChainSign × Value)). l ∷ ls) (ap₂ (λ (c : ChainSign) (v : Value). (c, v)) h.0 (h.1.at i lt s)) (link-values-same t u rs qs h.2 i lt s)

-- One argument, which may not be there.

abbrev SameMaybe : Grid → Grid → Option Reading → Option Reading → Type 0
SameMaybe t u None None = Unit {0}
SameMaybe t u (Some r) (Some q) = SameReading t u r q
SameMaybe t u _ _ = ⊥

no-reading-same : (t u : Grid) → SameReading t u no_reading no_reading
no-reading-same t u = record { type = refl; at = λ i lt s. refl }

argument-same : (t u : Grid) (rs qs : List Reading) → AllSame t u rs qs → (n : ℕ) → SameReading t u (reading_at rs n) (reading_at qs n)
unfolding reading_at
argument-same t u [] [] h n = no-reading-same t u
argument-same t u [] (q ∷ qs) h n = absurd h
argument-same t u (r ∷ rs) [] h n = absurd h
argument-same t u (r ∷ rs) (q ∷ qs) h zero = h.0
argument-same t u (r ∷ rs) (q ∷ qs) h (suc n) = argument-same t u rs qs h.1 n

maybe-same : (t u : Grid) (rs qs : List Reading) → AllSame t u rs qs → (n : ℕ) → SameMaybe t u (slice_get rs n) (slice_get qs n)
maybe-same t u [] [] h n = tt
maybe-same t u [] (q ∷ qs) h n = absurd h
maybe-same t u (r ∷ rs) [] h n = absurd h
maybe-same t u (r ∷ rs) (q ∷ qs) h zero = h.0
maybe-same t u (r ∷ rs) (q ∷ qs) h (suc n) = maybe-same t u rs qs h.1 n

-- Rows that are looked at.

lt-from : (a b : ℕ) → nat_lt a b ≡ true → a < b
lt-from a b e = grind (arith, nat_tests)

away-same : (t u : Grid) (r q : Option Reading) → SameMaybe t u r q → (i : ℕ) → i < length t.lines → (s : Records) → rows_away q u i s ≡ rows_away r t i s
unfolding rows_away
away-same t u None None h i lt s = refl
away-same t u None (Some q) h i lt s = absurd h
away-same t u (Some r) None h i lt s = absurd h
away-same t u (Some r) (Some q) h i lt s = ap count_in (h.at i lt s)

none-same : (t u : Grid) (c d : Reading) (r q : Option Reading) → SameReading t u c d → SameMaybe t u r q → (i : ℕ) → i < length t.lines → (s : Records) → where_none d q u i s ≡ where_none c r t i s
unfolding where_none
none-same t u c d None None one h i lt s = ap absent_as one.type
none-same t u c d None (Some q) one h i lt s = absurd h
none-same t u c d (Some r) None one h i lt s = absurd h
none-same t u c d (Some r) (Some q) one h i lt s = h.at i lt s

before-same : (t u : Grid) (c d : Reading) → SameReading t u c d → (k l : ℕ) (v w : Value) → l ≡ k → w ≡ v → (i : ℕ) → i < length t.lines → (s : Records) → value_before d l w u i s ≡ value_before c k v t i s
unfolding value_before
before-same t u c d one k l v w e f i lt s =
    rw (e, f) (ap (λ (x : Value). if nat_le k i then x else v) (one.at (i - k) (omega (arith, lt)) s))

chosen-same : (b : Bool) (n : ℕ) (c d : ℕ → Value) (m : ℕ) (v : Value) → (b ≡ true → d m ≡ c m) → (if b then d m else v) ≡ (if b then c m else v)
chosen-same true n c d m v h = h refl
chosen-same false n c d m v h = refl

after-same : (t u : Grid) → length u.lines ≡ length t.lines → (c d : Reading) → SameReading t u c d → (k l : ℕ) (v w : Value) → l ≡ k → w ≡ v → (i : ℕ) → i < length t.lines → (s : Records) → value_after d l w u i s ≡ value_after c k v t i s
unfolding value_after
after-same t u rows c d one k l v w e f i lt s =
    rw (e, f, rows) (chosen-same (nat_lt (i + k) (length t.lines)) i (λ j. c.at t j s) (λ j. d.at u j s) (i + k) v (λ b. one.at (i + k) (lt-from (i + k) (length t.lines) b) s))

-- Runs.

last-same : (f g : ℕ → Bool) (i : ℕ) → ((j : ℕ) → j ≤ i → f j ≡ g j) → last_where f i ≡ last_where g i
unfolding last_where
last-same f g zero h = refl
last-same f g (suc i) h = ap₂ (λ (b : Bool) (n : ℕ). if b then suc i else n) (h (suc i) (omega arith)) (last-same f g i (λ j le. h j (omega arith)))

run-same : (t u : Grid) (r q : Option Reading) → SameMaybe t u r q → (i : ℕ) → i < length t.lines → (s : Records) → run_start q u i s ≡ run_start r t i s
unfolding run_start
run-same t u None None h i lt s = refl
run-same t u None (Some q) h i lt s = absurd h
run-same t u (Some r) None h i lt s = absurd h
run-same t u (Some r) (Some q) h i lt s = last-same (λ j. holds (q.at u j s)) (λ j. holds (r.at t j s)) i (λ j le. ap holds (h.at j (omega (arith, lt, le)) s))

map-range-same : {Y : Type 0} (f g : ℕ → Y) (a n : ℕ) → ((j : ℕ) → a ≤ j → j < a + n → f j ≡ g j) → map f (range_with_len a n) ≡ map g (range_with_len a n)
map-range-same f g a zero h = refl
map-range-same f g a (suc n) h = ap₂ (λ y ys. y ∷ ys) (h a (omega arith) (omega arith)) (map-range-same f g (a + 1) n (λ j low high. h j (omega arith) (omega arith)))

over-same : (t u : Grid) (c d : Reading) → SameReading t u c d → (b i : ℕ) → i < length t.lines → (s : Records) → values_over d (range_with_len b (i + 1 - b)) u s ≡ values_over c (range_with_len b (i + 1 - b)) t s
unfolding values_over
over-same t u c d one b i lt s = map-range-same (λ j. d.at u j s) (λ j. c.at t j s) b (i + 1 - b) (λ j low high. one.at j (omega (arith, lt, low, high)) s)

sum-same : (t u : Grid) (c d : Reading) (r q : Option Reading) → SameReading t u c d → SameMaybe t u r q → (i : ℕ) → i < length t.lines → (s : Records) → running_sum d q u i s ≡ running_sum c r t i s
unfolding running_sum
sum-same t u c d r q one h i lt s =
    let b = run_start r t i s in
    rw (run-same t u r q h i lt s) (ap₂ (λ (k : Option Kind) (vs : List Value). fitted k (sum_of vs)) one.type (over-same t u c d one b i lt s))

number-same : (t u : Grid) (r q : Option Reading) → SameMaybe t u r q → (i : ℕ) → i < length t.lines → (s : Records) → first_number q u i s ≡ first_number r t i s
unfolding first_number
number-same t u None None h i lt s = refl
number-same t u None (Some q) h i lt s = absurd h
number-same t u (Some r) None h i lt s = absurd h
number-same t u (Some r) (Some q) h i lt s = h.at i lt s

-- Window functions.

pub windowed-same : (f : Window) (t u : Grid) → length u.lines ≡ length t.lines → (rs qs : List Reading) → AllSame t u rs qs → (i : ℕ) → i < length t.lines → (s : Records) → windowed f qs u i s ≡ windowed f rs t i s
unfolding windowed
windowed-same window.Prev t u rows rs qs h i lt s =
    before-same t u (reading_at rs 0) (reading_at qs 0) (argument-same t u rs qs h 0)
    (rows_away (slice_get rs 1) t i s) (rows_away (slice_get qs 1) u i s)
    (where_none (reading_at rs 0) (slice_get rs 2) t i s) (where_none (reading_at qs 0) (slice_get qs 2) u i s)
    (away-same t u (slice_get rs 1) (slice_get qs 1) (maybe-same t u rs qs h 1) i lt s)
    (none-same t u (reading_at rs 0) (reading_at qs 0) (slice_get rs 2) (slice_get qs 2) (argument-same t u rs qs h 0) (maybe-same t u rs qs h 2) i lt s) i lt s
windowed-same window.Next t u rows rs qs h i lt s =
    after-same t u rows (reading_at rs 0) (reading_at qs 0) (argument-same t u rs qs h 0)
    (rows_away (slice_get rs 1) t i s) (rows_away (slice_get qs 1) u i s)
    (where_none (reading_at rs 0) (slice_get rs 2) t i s) (where_none (reading_at qs 0) (slice_get qs 2) u i s)
    (away-same t u (slice_get rs 1) (slice_get qs 1) (maybe-same t u rs qs h 1) i lt s)
    (none-same t u (reading_at rs 0) (reading_at qs 0) (slice_get rs 2) (slice_get qs 2) (argument-same t u rs qs h 0) (maybe-same t u rs qs h 2) i lt s) i lt s
windowed-same window.RowCumsum t u rows rs qs h i lt s =
    sum-same t u (reading_at rs 0) (reading_at qs 0) (slice_get rs 1) (slice_get qs 1) (argument-same t u rs qs h 0) (maybe-same t u rs qs h 1) i lt s
windowed-same window.RowNumber t u rows rs qs h i lt s =
    ap₂ (λ (v : Value) (n : ℕ). sum v (value.Long (pos (i - n)))) (number-same t u (slice_get rs 0) (slice_get qs 0) (maybe-same t u rs qs h 0) i lt s)
    (run-same t u (slice_get rs 1) (slice_get qs 1) (maybe-same t u rs qs h 1) i lt s)
