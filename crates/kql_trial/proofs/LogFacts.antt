-- The log, a row more at a time.
use Rattle.std.proofs.Common.{◌≡◌, ◌≢◌, ◌∙◌, ◌+◌, ◌/◌, ◌^◌, ◌<◌, ℕ, suc, List, [], ◌∷◌, ◌++◌, get_or, refl, ap, subst, sym, arith}
use Rattle.std.specs.Prelude.{codes, pos}
use Rattle.std.specs.List.{AllPairs}
use Rattle.std.proofs.lemmas.Int.{ints}
use Rattle.std.proofs.lemmas.List.Elements.{All-cons, All-nil}
use Rattle.std.proofs.lemmas.List.FromFn.{map-range_with_len_more}
use Rattle.std.proofs.lemmas.List.Kept.{AllPairs-cons}
use Rattle.kql_cells.specs.Named.{HasDistinctNames, column_name}
use Rattle.kql_cells.specs.Table.{Grid, RowFits}
use Rattle.kql_cells.specs.Values.{IsMoment}
use Rattle.kql_cells.specs.declared.schema.Column.{Column}
use Rattle.kql_cells.specs.declared.value.Kind.TheVariants as kind
use Rattle.kql_cells.specs.declared.value.Value.{Value}
use Rattle.kql_trial.specs.Log.{draw_of, log_column, log_columns, log_row, log_row_of, log_table, moment_of, next_state, state_after}

pub state-first : (seed : ℕ) → seed ≡ state_after seed 0
unfolding state_after
state-first seed = refl

pub state-more : (seed i state : ℕ) → state ≡ state_after seed i → next_state state ≡ state_after seed (i + 1)
unfolding state_after
state-more seed i state e = let next : i + 1 ≡ suc i = omega arith in rw (next, e) refl

-- the log of no rows
pub log-first : (seed : ℕ) (columns : List Column) (log : Grid) → columns ≡ log_columns → log ≡ record { columns = columns; lines = [] } → log ≡ log_table 0 seed
unfolding log_table
log-first seed columns log c e = e ∙ ap (λ (cs : List Column). record { columns = cs; lines = [] }) c

-- and of a row more
pub log-more : (seed i state : ℕ) (before now : Grid) → state ≡ state_after seed i → before ≡ log_table i seed
    → now ≡ record { columns = log_columns; lines = before.lines ++ log_row_of i (next_state state / 2 ^ 33) ∷ [] } → now ≡ log_table (i + 1) seed
unfolding log_table log_row draw_of
log-more seed i state before now e b n =
    let more = map-range_with_len_more (log_row seed) 0 i i (omega arith) in
    rw (n, b, e, more) refl

pub log-columns : (i seed : ℕ) (log : Grid) → log ≡ log_table i seed → log.columns ≡ log_columns
unfolding log_table
log-columns i seed log e = ap (λ (g : Grid). g.columns) e

-- No two columns have one name: their first letters differ.
abbrev Apart : Column → Column → Type 0
Apart c d = column_name c ≢ column_name d

letters : (c d : Column) (x y : ℕ) → get_or c.name 0 0 ≡ x → get_or d.name 0 0 ≡ y → (x ≡ y → ⊥) → Apart c d
letters c d x y p q n e = n (sym p ∙ (ap (λ (t : List ℕ). get_or t 0 0) e ∙ q))

abbrev ts : Column
ts = log_column (codes "Ts") kind.Moment

abbrev host : Column
host = log_column (codes "Host") kind.Text

abbrev level : Column
level = log_column (codes "Level") kind.Text

abbrev message : Column
message = log_column (codes "Message") kind.Text

abbrev bytes : Column
bytes = log_column (codes "Bytes") kind.Long

pub columns-differ : HasDistinctNames column_name log_columns
columns-differ =
    let t-h : Apart ts host = letters ts host 84 72 refl refl (λ e. absurd (omega (arith, e))) in
    let t-l : Apart ts level = letters ts level 84 76 refl refl (λ e. absurd (omega (arith, e))) in
    let t-m : Apart ts message = letters ts message 84 77 refl refl (λ e. absurd (omega (arith, e))) in
    let t-b : Apart ts bytes = letters ts bytes 84 66 refl refl (λ e. absurd (omega (arith, e))) in
    let h-l : Apart host level = letters host level 72 76 refl refl (λ e. absurd (omega (arith, e))) in
    let h-m : Apart host message = letters host message 72 77 refl refl (λ e. absurd (omega (arith, e))) in
    let h-b : Apart host bytes = letters host bytes 72 66 refl refl (λ e. absurd (omega (arith, e))) in
    let l-m : Apart level message = letters level message 76 77 refl refl (λ e. absurd (omega (arith, e))) in
    let l-b : Apart level bytes = letters level bytes 76 66 refl refl (λ e. absurd (omega (arith, e))) in
    let m-b : Apart message bytes = letters message bytes 77 66 refl refl (λ e. absurd (omega (arith, e))) in
    let none : AllPairs Apart [] = λ i j d lt le. absurd (omega (arith, lt, le)) in
    AllPairs-cons Apart ts (host ∷ level ∷ message ∷ bytes ∷ [])
    (All-cons (Apart ts) host (level ∷ message ∷ bytes ∷ []) t-h (All-cons (Apart ts) level (message ∷ bytes ∷ []) t-l (All-cons (Apart ts) message (bytes ∷ []) t-m (All-cons (Apart ts) bytes [] t-b (All-nil (Apart ts))))))
    (AllPairs-cons Apart host (level ∷ message ∷ bytes ∷ [])
    (All-cons (Apart host) level (message ∷ bytes ∷ []) h-l (All-cons (Apart host) message (bytes ∷ []) h-m (All-cons (Apart host) bytes [] h-b (All-nil (Apart host)))))
    (AllPairs-cons Apart level (message ∷ bytes ∷ [])
    (All-cons (Apart level) message (bytes ∷ []) l-m (All-cons (Apart level) bytes [] l-b (All-nil (Apart level))))
    (AllPairs-cons Apart message (bytes ∷ []) (All-cons (Apart message) bytes [] m-b (All-nil (Apart message)))
    (AllPairs-cons Apart bytes [] (All-nil (Apart bytes)) none))))

pub distinct : (columns : List Column) → columns ≡ log_columns → HasDistinctNames column_name columns
distinct columns e = subst (λ (cs : List Column). HasDistinctNames column_name cs) (sym e) columns-differ

-- A row of the log fits the columns.

moment-in : (i : ℕ) → i < 2 ^ 32 → IsMoment (pos (moment_of i))
moment-in i lt = (omega (arith, ints), omega (arith, ints))

pub row-fits : (columns : List Column) (row : List Value) (i draw : ℕ) → columns ≡ log_columns → row ≡ log_row_of i draw → i < 2 ^ 32 → RowFits columns row
unfolding RowFits
row-fits columns row i draw c r lt =
    let there : RowFits log_columns (log_row_of i draw) = ((tt, moment-in i lt), ((tt, tt), ((tt, tt), ((tt, tt), ((tt, tt), tt))))) in
    subst (λ (cs : List Column). RowFits cs row) (sym c) (subst (λ (v : List Value). RowFits log_columns v) (sym r) there)

pub ruleset log_facts = (state-more, log-first, log-more, log-columns, distinct, row-fits)
