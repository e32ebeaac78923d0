-- `scan`, folded: it fits where it fitted, and means the same.
use Rattle.std.proofs.Common.{◌≡◌, ◌+◌, ◌-◌, ℕ, zero, suc, Bool, true, List, [], ◌∷◌, ◌++◌, length, map, refl, ap, ap₂, sym, ◌∙◌, inl, inr}
use mathlib.Core.List.{reverse-cons}
use Rattle.std.proofs.Math.Path.{fun_ext}
use Rattle.std.proofs.lemmas.List.{map-append}
use Rattle.std.specs.Prelude.{◌&&◌, ◌==◌, Option, None, Some, find, fold, option_map, replicate, reverse, slice_get, if◌then◌else◌}
use Rattle.std.specs.List.{enumerate_from, flat_map, list_all, range_with_len}
use Rattle.std.proofs.lemmas.Bool.{and_from, and_parts, cases_Bool}
use Rattle.kql_cells.specs.Table.{Grid}
use Rattle.kql_cells.specs.declared.schema.Column.{Column}
use Rattle.kql_cells.specs.declared.value.Kind.TheVariants as kind
use Rattle.kql_cells.specs.declared.value.Value.{Value}
use Rattle.kql_functions.specs.Kinds.{same_kind}
use Rattle.kql_bound.specs.declared.expr.BExpr.{BExpr}
use Rattle.kql_bound.specs.declared.parts.BItem.{BItem}
use Rattle.kql_bound.specs.declared.parts.ScanPlan.{ScanPlan}
use Rattle.kql_bound.specs.declared.parts.ScanStep.{ScanStep}
use Rattle.kql_meaning.specs.declared.position.Position.TheVariants as position
use Rattle.kql_meaning.specs.Expressions.{column_kind, kind_of, val}
use Rattle.kql_meaning.specs.FittingExpressions.{Scope, expr_fits, fits_as, same_known}
use Rattle.kql_meaning.specs.FittingOperators.{are_distinct, assigns, assigns_one, defaults_fit, is_empty, scan_fits, scan_scope, scan_step_fits, set_fits, step_names}
use Rattle.kql_meaning.specs.Items.{items_names}
use Rattle.kql_meaning.specs.Readings.{Records}
use Rattle.kql_meaning.specs.Scan.{Held, Machine, Turn, after, all_rows, assigned, begun_anew, check_one, check_two, comes_true, declared_columns, declared_defaults, emitted_at_once, emitted_if_last, first_outcome, held_rows, machine_at_start, new_record, promoted, records_of, renewed, replaced, row_after, row_of_record, row_turn, rows_at_end, scan_columns, scan_rows, scan_table, state_before, state_of, steps_down, tried, with_declared}
use Rattle.kql_meaning.specs.Tables.{is_name_among, places}
use Rattle.kql_meaning.specs.Values.{holds}
use Rattle.plan_rules.specs.Folding.{folded, is_folded}
use Rattle.plan_rules.specs.FoldedPlans.{are_folded, folded_item, folded_items, folded_scan, folded_step, is_step_folded}
use Rattle.plan_rules.proofs.FoldedExpressions.{folds, folds-as}
use Rattle.plan_rules.proofs.FoldedItems.{names-folded}
use Rattle.plan_rules.proofs.FoldedReadings.{folded-kind, folded-val}

-- Fitting.

assigns-good : (declared : List Column) (scope : Scope) (e : BExpr) (ns : List (List ℕ)) → assigns declared scope e ns ≡ true → (assigns declared scope (folded e) ns ≡ true) × (is_folded (folded e) ≡ true)
unfolding assigns assigns_one
assigns-good declared scope e [] h = absurd cc
assigns-good declared scope e (n ∷ ns) h =
    let p = and_parts (is_empty ns) (assigns_one declared scope e n) h in
    let q = and_parts (expr_fits e scope position.Plain) (same_known (column_kind n declared) (kind_of e scope.columns)) p.1 in
    let one = folds e scope position.Plain q.0 in
    (rw (p.0, one.0, folded-kind e scope.columns, q.1) refl, one.1)

sets-good : (declared : List Column) (scope : Scope) (sets : List BItem) → list_all (set_fits declared scope) sets ≡ true → (list_all (set_fits declared scope) (folded_items sets) ≡ true) × (are_folded (folded_items sets) ≡ true)
unfolding set_fits folded_items are_folded
sets-good declared scope [] h = (refl, refl)
sets-good declared scope (b ∷ bs) h =
    let p = and_parts (set_fits declared scope b) (list_all (set_fits declared scope) bs) h in
    let one = assigns-good declared scope b.expr b.names p.0 in
    let more = sets-good declared scope bs p.1 in
    (rw (one.0, more.0) refl, rw (one.1, more.1) refl)

step-good : (declared : List Column) (scope : Scope) (s : ScanStep) → scan_step_fits declared scope s ≡ true → (scan_step_fits declared scope (folded_step s) ≡ true) × (is_step_folded (folded_step s) ≡ true)
unfolding scan_step_fits is_step_folded
step-good declared scope s h =
    let sets = list_all (set_fits declared scope) s.sets in
    let p = and_parts (fits_as (same_kind kind.Bool) s.condition scope position.Plain) (sets && are_distinct (items_names s.sets)) h in
    let q = and_parts sets (are_distinct (items_names s.sets)) p.1 in
    let one = folds-as (same_kind kind.Bool) s.condition scope position.Plain p.0 in
    let more = sets-good declared scope s.sets q.0 in
    (rw (one.0, more.0, names-folded s.sets, q.1) refl, rw (one.1, more.1) refl)

steps-good : (declared : List Column) (scope : Scope) (steps : List ScanStep) → list_all (scan_step_fits declared scope) steps ≡ true → (list_all (scan_step_fits declared scope) (map folded_step steps) ≡ true) × (list_all is_step_folded (map folded_step steps) ≡ true)
steps-good declared scope [] h = (refl, refl)
steps-good declared scope (s ∷ ss) h =
    let p = and_parts (scan_step_fits declared scope s) (list_all (scan_step_fits declared scope) ss) h in
    let one = step-good declared scope s p.0 in
    let more = steps-good declared scope ss p.1 in
    (rw (one.0, more.0) refl, rw (one.1, more.1) refl)

names-same : (steps : List ScanStep) → step_names (map folded_step steps) ≡ step_names steps
unfolding step_names
names-same [] = refl
names-same (s ∷ ss) = ap (λ (ns : List (List ℕ)). s.name ∷ ns) (names-same ss)

pub scan-columns-folded : (p : ScanPlan) (cs : List Column) → scan_columns (folded_scan p) cs ≡ scan_columns p cs
unfolding scan_columns declared_columns folded_scan
scan-columns-folded p cs = refl

declared-same : (p : ScanPlan) → declared_columns (folded_scan p) ≡ declared_columns p
unfolding declared_columns folded_scan
declared-same p = refl

steps-of : (p : ScanPlan) → (folded_scan p).steps ≡ map folded_step p.steps
unfolding folded_scan
steps-of p = refl

scope-same : (p : ScanPlan) (cs : List Column) → scan_scope (folded_scan p) cs ≡ scan_scope p cs
unfolding scan_scope declared_columns declared_defaults folded_scan
scope-same p cs = ap (λ (ns : List (List ℕ)). record { columns = (scan_scope p cs).columns; steps = ns; defaults = (scan_scope p cs).defaults }) (names-same p.steps)

defaults-same : (p : ScanPlan) → defaults_fit (folded_scan p).declared ≡ defaults_fit p.declared
unfolding folded_scan
defaults-same p = refl

pub scan-good : (p : ScanPlan) (cs : List Column) → scan_fits p cs ≡ true → (scan_fits (folded_scan p) cs ≡ true) × (list_all is_step_folded (folded_scan p).steps ≡ true)
unfolding scan_fits
scan-good p cs h =
    let steps = list_all (scan_step_fits (declared_columns p) (scan_scope p cs)) p.steps in
    let q = and_parts (defaults_fit p.declared) (are_distinct (step_names p.steps) && steps) h in
    let r = and_parts (are_distinct (step_names p.steps)) steps q.1 in
    let all = steps-good (declared_columns p) (scan_scope p cs) p.steps r.1 in
    let s = folded_scan p in
    let defaults : defaults_fit s.declared ≡ true = defaults-same p ∙ q.0 in
    let names : are_distinct (step_names s.steps) ≡ true = ap (λ (ss : List ScanStep). are_distinct (step_names ss)) (steps-of p) ∙ (ap are_distinct (names-same p.steps) ∙ r.0) in
    let fit : list_all (scan_step_fits (declared_columns s) (scan_scope s cs)) s.steps ≡ true =
    ap (list_all (scan_step_fits (declared_columns s) (scan_scope s cs))) (steps-of p)
    ∙ (ap₂ (λ (d : List Column) (scope : Scope). list_all (scan_step_fits d scope) (map folded_step p.steps)) (declared-same p) (scope-same p cs) ∙ all.0) in (
      and_from (defaults_fit s.declared) (are_distinct (step_names s.steps) && list_all (scan_step_fits (declared_columns s) (scan_scope s cs)) s.steps) defaults
          (and_from (are_distinct (step_names s.steps)) (list_all (scan_step_fits (declared_columns s) (scan_scope s cs)) s.steps) names fit),
      ap (list_all is_step_folded) (steps-of p) ∙ all.1,
    )

-- The parts of a turn.

count-same : (p : ScanPlan) → length (folded_scan p).steps ≡ length p.steps
count-same p = ap length (steps-of p) ∙ count p.steps
  where
    count : (steps : List ScanStep) → length (map folded_step steps) ≡ length steps
    count [] = refl
    count (s ∷ ss) = ap suc (count ss)

find-same : (n : List ℕ) (sets : List BItem) → find (λ (b : BItem). is_name_among b.names n) (folded_items sets) ≡ option_map folded_item (find (λ (b : BItem). is_name_among b.names n) sets)
unfolding folded_items
find-same n [] = refl
find-same n (b ∷ bs) = elim (cases_Bool (is_name_among b.names n)) [
  | inl t ↦ rw t refl
  | inr f ↦ rw f (find-same n bs)
]

assigned-same : (o : Option BItem) (c : Column) (t : Grid) (i : ℕ) (r : Records) → assigned (option_map folded_item o) c t i r ≡ assigned o c t i r
unfolding assigned
assigned-same None c t i r = refl
assigned-same (Some b) c t i r = folded-val b.expr t i r

record-same : (s : ScanStep) (t : Grid) (i : ℕ) (r : Records) → new_record (folded_step s) t i r ≡ new_record s t i r
unfolding new_record
record-same s t i r = ap (λ (f : Column → Value). map f t.columns) (fun_ext (λ (c : Column). ap (λ o. assigned o c t i r) (find-same c.name s.sets) ∙ assigned-same (find (λ (b : BItem). is_name_among b.names c.name) s.sets) c t i r))

once-same : (p : ScanPlan) (s : ScanStep) (line : List Value) (id : ℕ) → emitted_at_once (folded_scan p) (folded_step s) line id ≡ emitted_at_once p s line id
unfolding emitted_at_once row_of_record folded_scan
once-same p s line id = refl

last-same : (p : ScanPlan) (k : ℕ) (o : Option ScanStep) (h : Option Held) → emitted_if_last (folded_scan p) k (option_map folded_step o) h ≡ emitted_if_last p k o h
unfolding emitted_if_last row_of_record folded_scan
last-same p k None h = refl
last-same p k (Some s) None = refl
last-same p k (Some s) (Some h) = refl

get-same : (steps : List ScanStep) (n : ℕ) → slice_get (map folded_step steps) n ≡ option_map folded_step (slice_get steps n)
get-same [] n = refl
get-same (s ∷ ss) zero = refl
get-same (s ∷ ss) (suc n) = get-same ss n

held-same : (p : ScanPlan) (k : ℕ) (h : Option Held) → held_rows (folded_scan p) k h ≡ held_rows p k h
unfolding held_rows
held-same p k h =
    ap (λ (steps : List ScanStep). emitted_if_last (folded_scan p) k (slice_get steps (k - 1)) h) (steps-of p)
    ∙ (ap (λ (o : Option ScanStep). emitted_if_last (folded_scan p) k o h) (get-same p.steps (k - 1)) ∙ last-same p k (slice_get p.steps (k - 1)) h)

comes-same : (p : ScanPlan) (s : ScanStep) (t : Grid) (i : ℕ) (h : Option Held) → comes_true (folded_scan p) (folded_step s) t i h ≡ comes_true p s t i h
unfolding comes_true
comes-same p s t i h = ap holds (folded-val s.condition t i (records_of (length (folded_scan p).steps) h) ∙ ap (λ n. val s.condition t i (records_of n h)) (count-same p))

line-same : (p : ScanPlan) (s : ScanStep) (t : Grid) (i : ℕ) (h : Option Held) → new_record (folded_step s) t i (records_of (length (folded_scan p).steps) h) ≡ new_record s t i (records_of (length p.steps) h)
line-same p s t i h = record-same s t i (records_of (length (folded_scan p).steps) h) ∙ ap (λ n. new_record s t i (records_of n h)) (count-same p)

-- The checks of a step.

promoted-same : (p : ScanPlan) (s : ScanStep) (t : Grid) (i k : ℕ) (m : Machine) (h : Held) → promoted (folded_scan p) (folded_step s) t i k m h ≡ promoted p s t i k m h
unfolding promoted
promoted-same p s t i k m h = rw (line-same p s t i (Some h), held-same p k (state_of m k), held-same p (k - 1) (Some h), once-same p s (new_record s t i (records_of (length p.steps) (Some h))) h.id) refl

one-same : (p : ScanPlan) (s : ScanStep) (t : Grid) (i k : ℕ) (m : Machine) (h : Option Held) → check_one (folded_scan p) (folded_step s) t i k m h ≡ check_one p s t i k m h
unfolding check_one
one-same p s t i k m None = refl
one-same p s t i k m (Some h) = ap₂ (λ (b : Bool) (turn : Turn). if b then Some turn else None) (comes-same p s t i (Some h)) (promoted-same p s t i k m h)

begun-same : (p : ScanPlan) (s : ScanStep) (t : Grid) (i : ℕ) (m : Machine) (old : Option Held) → begun_anew (folded_scan p) (folded_step s) t i m old ≡ begun_anew p s t i m old
unfolding begun_anew
begun-same p s t i m old = rw (line-same p s t i old, held-same p 1 old, once-same p s (new_record s t i (records_of (length p.steps) old)) m.begun) refl

replaced-same : (p : ScanPlan) (s : ScanStep) (t : Grid) (i k : ℕ) (m : Machine) (h : Held) → replaced (folded_scan p) (folded_step s) t i k m h ≡ replaced p s t i k m h
unfolding replaced
replaced-same p s t i k m h = rw (line-same p s t i (Some h), once-same p s (new_record s t i (records_of (length p.steps) (Some h))) h.id) refl

renewed-same : (p : ScanPlan) (s : ScanStep) (t : Grid) (i k : ℕ) (m : Machine) (h : Option Held) → renewed (folded_scan p) (folded_step s) t i k m h ≡ renewed p s t i k m h
unfolding renewed
renewed-same p s t i k m h = ap₂ (λ (a : Turn) (b : Option Turn). if k == 1 then Some a else b) (begun-same p s t i m h) (ap (λ (f : Held → Turn). option_map f h) (fun_ext (λ (x : Held). replaced-same p s t i k m x)))

two-same : (p : ScanPlan) (s : ScanStep) (t : Grid) (i k : ℕ) (m : Machine) → check_two (folded_scan p) (folded_step s) t i k m ≡ check_two p s t i k m
unfolding check_two
two-same p s t i k m = ap₂ (λ (b : Bool) (o : Option Turn). if b then o else None) (comes-same p s t i (state_of m k)) (renewed-same p s t i k m (state_of m k))

abbrev folded_numbered : ℕ × ScanStep → ℕ × ScanStep
folded_numbered n = (n.0, folded_step n.1)

tried-same : (p : ScanPlan) (t : Grid) (i : ℕ) (turn : Turn) (n : ℕ × ScanStep) → tried (folded_scan p) t i turn (folded_numbered n) ≡ tried p t i turn n
unfolding tried
tried-same p t i turn n = ap₂ (λ (a b : Option Turn). first_outcome turn a b) (one-same p n.1 t i n.0 turn.machine (state_before turn.machine n.0)) (two-same p n.1 t i n.0 turn.machine)

-- Rows.

map-reverse : (f : ℕ × ScanStep → ℕ × ScanStep) (xs : List (ℕ × ScanStep)) → map f (reverse xs) ≡ reverse (map f xs)
map-reverse f [] = refl
map-reverse f (x ∷ xs) = ap (map f) (reverse-cons x xs) ∙ (map-append f (reverse xs) (x ∷ []) ∙ (ap (λ (ys : List (ℕ × ScanStep)). ys ++ f x ∷ []) (map-reverse f xs) ∙ sym (reverse-cons (f x) (map f xs))))

numbered-same : (steps : List ScanStep) (n : ℕ) → enumerate_from n (map folded_step steps) ≡ map folded_numbered (enumerate_from n steps)
numbered-same [] n = refl
numbered-same (s ∷ ss) n = ap (λ (xs : List (ℕ × ScanStep)). (n, folded_step s) ∷ xs) (numbered-same ss (n + 1))

down-same : (p : ScanPlan) → steps_down (folded_scan p) ≡ map folded_numbered (steps_down p)
unfolding steps_down
down-same p = ap (λ (steps : List ScanStep). reverse (enumerate_from 1 steps)) (steps-of p) ∙ (ap reverse (numbered-same p.steps 1) ∙ sym (map-reverse folded_numbered (enumerate_from 1 p.steps)))

turn-along : (p : ScanPlan) (t : Grid) (i : ℕ) (ns : List (ℕ × ScanStep)) (turn : Turn) → fold (tried (folded_scan p) t i) turn (map folded_numbered ns) ≡ fold (tried p t i) turn ns
turn-along p t i [] turn = refl
turn-along p t i (n ∷ ns) turn = ap (λ (x : Turn). fold (tried (folded_scan p) t i) x (map folded_numbered ns)) (tried-same p t i turn n) ∙ turn-along p t i ns (tried p t i turn n)

turn-same : (p : ScanPlan) (t : Grid) (m : Machine) (i : ℕ) → row_turn (folded_scan p) t m i ≡ row_turn p t m i
unfolding row_turn
turn-same p t m i = ap (λ (ns : List (ℕ × ScanStep)). fold (tried (folded_scan p) t i) (record { machine = m; emitted = [] }) ns) (down-same p) ∙ turn-along p t i (steps_down p) (record { machine = m; emitted = [] })

after-same : (p : ScanPlan) (t : Grid) (turn : Turn) (i : ℕ) → row_after (folded_scan p) t turn i ≡ row_after p t turn i
unfolding row_after
after-same p t turn i = ap (after turn.emitted) (turn-same p t turn.machine i)

start-same : (p : ScanPlan) → machine_at_start (folded_scan p) ≡ machine_at_start p
unfolding machine_at_start
start-same p = ap (λ n. record { states = replicate n None; begun = 0 }) (count-same p)

rows-along : (p : ScanPlan) (t : Grid) (is : List ℕ) (turn : Turn) → fold (row_after (folded_scan p) t) turn is ≡ fold (row_after p t) turn is
rows-along p t [] turn = refl
rows-along p t (i ∷ is) turn = ap (λ (x : Turn). fold (row_after (folded_scan p) t) x is) (after-same p t turn i) ∙ rows-along p t is (row_after p t turn i)

all-same : (p : ScanPlan) (t : Grid) → all_rows (folded_scan p) t ≡ all_rows p t
unfolding all_rows
all-same p t = ap (λ (m : Machine). fold (row_after (folded_scan p) t) (record { machine = m; emitted = [] }) (places t)) (start-same p) ∙ rows-along p t (places t) (record { machine = machine_at_start p; emitted = [] })

end-same : (p : ScanPlan) (m : Machine) → rows_at_end (folded_scan p) m ≡ rows_at_end p m
unfolding rows_at_end
end-same p m = ap₂ (λ (f : ℕ → List (List Value)) n. flat_map f (range_with_len 1 n)) (fun_ext (λ k. held-same p k (state_of m k))) (count-same p)

rows-same : (p : ScanPlan) (t : Grid) → scan_rows (folded_scan p) t ≡ scan_rows p t
unfolding scan_rows
rows-same p t = ap (λ (turn : Turn). turn.emitted ++ rows_at_end (folded_scan p) turn.machine) (all-same p t) ∙ ap (λ (rows : List (List Value)). (all_rows p t).emitted ++ rows) (end-same p (all_rows p t).machine)

with-same : (p : ScanPlan) (t : Grid) → with_declared (folded_scan p) t ≡ with_declared p t
unfolding with_declared declared_columns declared_defaults folded_scan
with-same p t = refl

pub scan-folded : (p : ScanPlan) (t : Grid) → scan_table (folded_scan p) t ≡ scan_table p t
unfolding scan_table
scan-folded p t =
    ap₂ (λ (cs : List Column) (ls : List (List Value)). record { columns = cs; lines = ls }) (scan-columns-folded p t.columns)
    (ap (scan_rows (folded_scan p)) (with-same p t) ∙ rows-same p (with_declared p t))
