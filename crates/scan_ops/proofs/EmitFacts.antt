-- The rows that are emitted, and how wide they are.
use Rattle.std.proofs.Common.{◌≡◌, ◌<◌, ◌+◌, ◌-◌, ◌++◌, ℕ, zero, suc, Bool, true, false, List, [], ◌∷◌, map, length, get_or, refl, sym, ap, ◌∙◌, subst, arith, append_assoc, append-nil, length-append}
use Rattle.std.specs.Prelude.{All, IfSome, None, Option, Some, pos, slice_get, slice_index_or, if◌then◌else◌}
use Rattle.std.specs.List.{flat_map, range_with_len}
use Rattle.std.proofs.lemmas.Grind.{flat_map-append}
use Rattle.std.proofs.lemmas.List.{get_or-map, length-map, map-id}
use Rattle.std.proofs.lemmas.List.FromFn.{map-range_with_len_more}
use Rattle.std.proofs.lemmas.Option.{slice_get-get_or}
use Rattle.kql_cells.specs.Seen.{seen}
use Rattle.kql_cells.specs.declared.cell.CellRef.{CellRef}
use Rattle.kql_cells.specs.declared.value.Value.{Value}
use Rattle.kql_cells.specs.declared.value.Value.TheVariants as value
use Rattle.kql_bound.specs.declared.parts.Output.TheVariants as output
use Rattle.kql_bound.specs.declared.parts.ScanPlan.{ScanPlan}
use Rattle.kql_bound.specs.declared.parts.ScanStep.{ScanStep}
use Rattle.kql_meaning.specs.Scan.{Held, Machine, emitted_at_once, emitted_if_last, held_rows, id_cells, is_all, is_last, row_of_record, rows_at_end, state_of}
use Rattle.kql_values.specs.Grids.{HaveLength}
use Rattle.kql_values.proofs.GridLaws.{HaveLength-append}
use Rattle.scan_ops.specs.Runs.{AreStates, IsStateAt, IsWide, emitted_by_move, emitted_with, held_in, id_width, machine_of, width_of}
use Rattle.scan_ops.specs.States.{IsHeld, StateSeen, id_in, record_in, rows_held}

-- One row.

id-cells : (o : Option (List ℕ)) (id : ℕ) → length (id_cells o id) ≡ id_width o
unfolding id_cells
id-cells None id = refl
id-cells (Some n) id = refl

pub row-width : (p : ScanPlan) (record_ : List Value) (id : ℕ) → length (row_of_record p record_ id) ≡ width_of p (length record_)
unfolding row_of_record width_of
row-width p r id = let ids = id-cells p.match_id id in omega (arith, length-append r (id_cells p.match_id id), ids)

pub cells-plain : (p : ScanPlan) (r cells : List Value) (id : ℕ) → p.match_id ≡ None → cells ≡ r → cells ≡ row_of_record p r id
unfolding row_of_record id_cells
cells-plain p r cells id none is = rw none (is ∙ sym (append-nil r))

pub cells-named : (p : ScanPlan) (r : List Value) (id : ℕ) (n : List ℕ) (cells more : List CellRef) (c : CellRef) → p.match_id ≡ Some n → map seen cells ≡ r → seen c ≡ value.Long (pos id) → more ≡ cells ++ c ∷ [] → map seen more ≡ row_of_record p r id
unfolding row_of_record id_cells
cells-named p r id n cells more c some is last e =
    rw some (ap (map seen) e ∙ (pushed cells c ∙ (ap (λ (vs : List Value). vs ++ seen c ∷ []) is ∙ ap (λ (v : Value). r ++ v ∷ []) last)))
  where
    pushed : (cells : List CellRef) (c : CellRef) → map seen (cells ++ c ∷ []) ≡ map seen cells ++ seen c ∷ []
    pushed [] c = refl
    pushed (d ∷ cells) c = ap (λ (vs : List Value). seen d ∷ vs) (pushed cells c)

pub cells-wide : (p : ScanPlan) (r : List Value) (id : ℕ) (cells : List CellRef) (emitted : List (List Value)) → map seen cells ≡ row_of_record p r id → HaveLength (width_of p (length r)) emitted → HaveLength (length cells) emitted
cells-wide p r id cells emitted is h =
    let size : width_of p (length r) ≡ length cells = sym (row-width p r id) ∙ (ap length (sym is) ∙ length-map cells seen) in
    subst (λ n. HaveLength n emitted) size h

pub row-added : (p : ScanPlan) (r : List Value) (id : ℕ) (cells : List CellRef) (old new : List (List Value)) → map seen cells ≡ row_of_record p r id → new ≡ old ++ map seen cells ∷ [] → new ≡ old ++ row_of_record p r id ∷ []
row-added p r id cells old new is e = e ∙ ap (λ (row : List Value). old ++ row ∷ []) is

pub ruleset cell_facts = (cells-plain, cells-named)

pub ruleset row_facts = (cells-wide, row-added)

-- A new record.

nothing-more : (old new : List (List Value)) (more : List (List Value)) → more ≡ [] → new ≡ old → new ≡ old ++ more
nothing-more old new more none e = e ∙ (sym (append-nil old) ∙ ap (λ (rows : List (List Value)). old ++ rows) (sym none))

pub all-once : (p : ScanPlan) (s : ScanStep) (r : List Value) (id : ℕ) (old new : List (List Value)) → s.output ≡ output.All → new ≡ old ++ row_of_record p r id ∷ [] → new ≡ old ++ emitted_at_once p s r id
unfolding emitted_at_once is_all
all-once p s r id old new is e = rw is e

pub last-once : (p : ScanPlan) (s : ScanStep) (r : List Value) (id : ℕ) (old : List (List Value)) → s.output ≡ output.Last → old ≡ old ++ emitted_at_once p s r id
unfolding emitted_at_once is_all
last-once p s r id old is = rw is (sym (append-nil old))

pub nothing-once : (p : ScanPlan) (s : ScanStep) (r : List Value) (id : ℕ) (old : List (List Value)) → s.output ≡ output.Nothing → old ≡ old ++ emitted_at_once p s r id
unfolding emitted_at_once is_all
nothing-once p s r id old is = rw is (sym (append-nil old))

pub ruleset once_facts = (all-once, last-once, nothing-once)

pub with-some : (p : ScanPlan) (s : ScanStep) (r : List Value) (h : Option Held) (id : ℕ) (old new : List (List Value)) → id_in h ≡ Some id → new ≡ old ++ emitted_at_once p s r id → new ≡ old ++ emitted_with p s r h
unfolding emitted_with id_in
with-some p s r None id old new is e = absurd cc
with-some p s r (Some h) id old new is e = let same : h.id ≡ id = cc in rw same e

pub with-none : (p : ScanPlan) (s : ScanStep) (r : List Value) (h : Option Held) (old : List (List Value)) → id_in h ≡ None → old ≡ old ++ emitted_with p s r h
unfolding emitted_with id_in
with-none p s r None old is = sym (append-nil old)
with-none p s r (Some h) old is = absurd cc

pub ruleset with_facts = (with-some, with-none)

-- A record that is held.

step-at : (p : ScanPlan) (at : ℕ) (s : ScanStep) → at < length p.steps → s ≡ get_or p.steps at s → slice_get p.steps (at + 1 - 1) ≡ Some s
step-at p at s lt is =
    let same : at + 1 - 1 ≡ at = omega arith in
    ap (slice_get p.steps) same ∙ (slice_get-get_or p.steps at s lt ∙ ap Some (sym is))

last-of : (p : ScanPlan) (at : ℕ) (s : ScanStep) (h : Option Held) → s.output ≡ output.Last → emitted_if_last p (at + 1) (Some s) h ≡ rows_held p at h
unfolding emitted_if_last rows_held is_last
last-of p at s None is = refl
last-of p at s (Some h) is =
    let same : at + 1 - 1 ≡ at = omega arith in
    rw (is, same) refl

none-of-all : (p : ScanPlan) (k : ℕ) (s : ScanStep) (h : Option Held) → s.output ≡ output.All → emitted_if_last p k (Some s) h ≡ []
unfolding emitted_if_last is_last
none-of-all p k s None is = refl
none-of-all p k s (Some h) is = rw is refl

none-of-nothing : (p : ScanPlan) (k : ℕ) (s : ScanStep) (h : Option Held) → s.output ≡ output.Nothing → emitted_if_last p k (Some s) h ≡ []
unfolding emitted_if_last is_last
none-of-nothing p k s None is = refl
none-of-nothing p k s (Some h) is = rw is refl

pub last-held : (p : ScanPlan) (at : ℕ) (s : ScanStep) (h : Option Held) (old new : List (List Value)) → at < length p.steps → s ≡ get_or p.steps at s → s.output ≡ output.Last → new ≡ old ++ rows_held p at h → new ≡ old ++ held_rows p (at + 1) h
unfolding held_rows
last-held p at s h old new lt is last e =
    e ∙ ap (λ (rows : List (List Value)). old ++ rows) (sym (ap (λ (o : Option ScanStep). emitted_if_last p (at + 1) o h) (step-at p at s lt is) ∙ last-of p at s h last))

pub all-held : (p : ScanPlan) (at : ℕ) (s : ScanStep) (h : Option Held) (old : List (List Value)) → at < length p.steps → s ≡ get_or p.steps at s → s.output ≡ output.All → old ≡ old ++ held_rows p (at + 1) h
unfolding held_rows
all-held p at s h old lt is all =
    nothing-more old old (emitted_if_last p (at + 1) (slice_get p.steps (at + 1 - 1)) h) (ap (λ (o : Option ScanStep). emitted_if_last p (at + 1) o h) (step-at p at s lt is) ∙ none-of-all p (at + 1) s h all) refl

pub nothing-held : (p : ScanPlan) (at : ℕ) (s : ScanStep) (h : Option Held) (old : List (List Value)) → at < length p.steps → s ≡ get_or p.steps at s → s.output ≡ output.Nothing → old ≡ old ++ held_rows p (at + 1) h
unfolding held_rows
nothing-held p at s h old lt is none =
    nothing-more old old (emitted_if_last p (at + 1) (slice_get p.steps (at + 1 - 1)) h) (ap (λ (o : Option ScanStep). emitted_if_last p (at + 1) o h) (step-at p at s lt is) ∙ none-of-nothing p (at + 1) s h none) refl

pub ruleset held_facts = (last-held, all-held, nothing-held)

pub record-wide : (p : ScanPlan) (at : ℕ) (h : Option Held) (r : List Value) (emitted : List (List Value)) → IsHeld at h → IsWide p emitted h → Some r ≡ record_in at h → HaveLength (width_of p (length r)) emitted
unfolding record_in
record-wide p at None r emitted held wide is = absurd cc
record-wide p at (Some h) r emitted held wide is =
    let same : r ≡ slice_index_or h.records at [] = cc in
    subst (λ (x : List Value). HaveLength (width_of p (length x)) emitted) (sym same) (wide at [] held)

pub record-added : (p : ScanPlan) (at id : ℕ) (h : Option Held) (r : List Value) (old new : List (List Value)) → Some r ≡ record_in at h → Some id ≡ id_in h → new ≡ old ++ row_of_record p r id ∷ [] → new ≡ old ++ rows_held p at h
unfolding record_in id_in rows_held
record-added p at id None r old new is named e = absurd cc
record-added p at id (Some h) r old new is named e =
    let same : r ≡ slice_index_or h.records at [] = cc in
    let one : id ≡ h.id = cc in
    e ∙ (ap (λ (x : List Value). old ++ row_of_record p x id ∷ []) same ∙ ap (λ n. old ++ row_of_record p (slice_index_or h.records at []) n ∷ []) one)

pub no-id : (p : ScanPlan) (at : ℕ) (h : Option Held) (old : List (List Value)) → None ≡ id_in h → old ≡ old ++ rows_held p at h
unfolding id_in rows_held
no-id p at None old is = sym (append-nil old)
no-id p at (Some h) old is = absurd cc

pub no-record : (p : ScanPlan) (at : ℕ) (h : Option Held) (old : List (List Value)) → None ≡ record_in at h → old ≡ old ++ rows_held p at h
unfolding record_in rows_held
no-record p at None old is = sym (append-nil old)
no-record p at (Some h) old is = absurd cc

pub ruleset record_facts = (record-wide, record-added, no-id, no-record)

-- A state that moves on.

pub state-held : (size width at : ℕ) (s : StateSeen) → IsStateAt size width at s → IsHeld at s.held
state-held size width at s h = held at s.held h.count
  where
    held : (at : ℕ) (o : Option Held) → IfSome o (λ h. length h.records ≡ at + 1) → IsHeld at o
    held at None e = tt
    held at (Some h) e = omega (arith, e)

pub state-wide : (p : ScanPlan) (size width at : ℕ) (s : StateSeen) (emitted : List (List Value)) → IsStateAt size width at s → HaveLength (width_of p width) emitted → IsWide p emitted s.held
state-wide p size width at s emitted h long = wide s.held h.width
  where
    wide : (o : Option Held) → IfSome o (λ h. All (λ r. length r ≡ width) h.records) → IsWide p emitted o
    wide None e = tt
    wide (Some s) e = λ k d lt. subst (λ n. HaveLength (width_of p n) emitted) (sym (e k d lt)) long

if-wide : (b : Bool) (w : ℕ) (row : List Value) → length row ≡ w → HaveLength w (if b then row ∷ [] else [])
unfolding HaveLength
if-wide true w row e = (e, tt)
if-wide false w row e = tt

last-wide : (p : ScanPlan) (at width : ℕ) (o : Option ScanStep) (h : Option Held) → IsHeld at h → IfSome h (λ s. All (λ r. length r ≡ width) s.records) → HaveLength (width_of p width) (emitted_if_last p (at + 1) o h)
unfolding emitted_if_last HaveLength
last-wide p at width None h held e = tt
last-wide p at width (Some s) None held e = tt
last-wide p at width (Some s) (Some h) held e =
    if-wide (is_last s.output) (width_of p width) (row_of_record p (slice_index_or h.records (at + 1 - 1) []) h.id)
    (row-width p (slice_index_or h.records (at + 1 - 1) []) h.id ∙ ap (width_of p) (e (at + 1 - 1) [] (omega (arith, held))))

pub held-wide : (p : ScanPlan) (size width at : ℕ) (s : StateSeen) → IsStateAt size width at s → HaveLength (width_of p width) (held_rows p (at + 1) s.held)
unfolding held_rows
held-wide p size width at s h = last-wide p at width (slice_get p.steps (at + 1 - 1)) s.held (state-held size width at s h) h.width

pub with-wide : (p : ScanPlan) (s : ScanStep) (r : List Value) (h : Option Held) → HaveLength (width_of p (length r)) (emitted_with p s r h)
unfolding emitted_with emitted_at_once HaveLength
with-wide p s r None = tt
with-wide p s r (Some h) = if-wide (is_all s.output) (width_of p (length r)) (row_of_record p r h.id) (row-width p r h.id)

pub more-wide : (w : ℕ) (old new more : List (List Value)) → HaveLength w old → HaveLength w more → new ≡ old ++ more → HaveLength w new
more-wide w old new more h k e = subst (HaveLength w) (sym e) (HaveLength-append w old more h k)

pub same-wide : (w : ℕ) (old new : List (List Value)) → HaveLength w old → new ≡ old → HaveLength w new
same-wide w old new h e = subst (HaveLength w) (sym e) h

pub once-wide : (p : ScanPlan) (s : ScanStep) (r : List Value) (id : ℕ) → HaveLength (width_of p (length r)) (emitted_at_once p s r id)
unfolding emitted_at_once
once-wide p s r id = if-wide (is_all s.output) (width_of p (length r)) (row_of_record p r id) (row-width p r id)

pub move-added : (p : ScanPlan) (s : ScanStep) (at : ℕ) (r : List Value) (before old : Option Held) (e0 e1 e2 e3 : List (List Value)) → 0 < at → e1 ≡ e0 ++ held_rows p (at + 1) old → e2 ≡ e1 ++ held_rows p (at - 1 + 1) before → e3 ≡ e2 ++ emitted_with p s r before → e3 ≡ e0 ++ emitted_by_move p s at r before old
unfolding emitted_by_move
move-added p s at r before old e0 e1 e2 e3 above a second c =
    let next : at - 1 + 1 ≡ at = omega (arith, above) in
    let b : e2 ≡ e1 ++ held_rows p at before = second ∙ ap (λ n. e1 ++ held_rows p n before) next in
    let x = held_rows p (at + 1) old in
    let y = held_rows p at before in
    let z = emitted_with p s r before in
    c ∙ (ap (λ (rows : List (List Value)). rows ++ z) (b ∙ (ap (λ (rows : List (List Value)). rows ++ y) a ∙ append_assoc e0 x y))
    ∙ (append_assoc e0 (x ++ y) z ∙ ap (λ (rows : List (List Value)). e0 ++ rows) (append_assoc x y z)))

pub held-added-wide : (p : ScanPlan) (size width at : ℕ) (s : StateSeen) (old new : List (List Value)) → IsStateAt size width at s → HaveLength (width_of p width) old → new ≡ old ++ held_rows p (at + 1) s.held → HaveLength (width_of p width) new
held-added-wide p size width at s old new h long e = more-wide (width_of p width) old new (held_rows p (at + 1) s.held) long (held-wide p size width at s h) e

pub line-wide : (p : ScanPlan) (width : ℕ) (r line : List Value) (emitted : List (List Value)) → r ≡ line → length line ≡ width → HaveLength (width_of p width) emitted → HaveLength (width_of p (length r)) emitted
line-wide p width r line emitted same long h = subst (λ n. HaveLength (width_of p n) emitted) (sym (ap length same ∙ long)) h

pub wide-line : (p : ScanPlan) (width : ℕ) (r line : List Value) (emitted : List (List Value)) → r ≡ line → length line ≡ width → HaveLength (width_of p (length r)) emitted → HaveLength (width_of p width) emitted
wide-line p width r line emitted same long h = subst (λ n. HaveLength (width_of p n) emitted) (ap length same ∙ long) h

pub ruleset move_facts = (state-held, state-wide, held-wide, with-wide, more-wide, same-wide, move-added)

-- The end.

pub state-there : (size width k : ℕ) (ss : List StateSeen) (s : StateSeen) → AreStates size width ss → k < length ss → s ≡ get_or ss k s → IsStateAt size width k s
state-there size width k ss s h lt is = subst (IsStateAt size width k) (sym is) (h.each k s lt)

pub state-in : (size width k : ℕ) (ss xs : List StateSeen) (s : StateSeen) → AreStates size width ss → xs ≡ ss → k < length ss → s ≡ get_or xs k s → IsStateAt size width k s
state-in size width k ss xs s h same lt is = state-there size width k ss s h lt (is ∙ ap (λ (ys : List StateSeen). get_or ys k s) same)

pub state-at : (k : ℕ) (ss xs : List StateSeen) (s : StateSeen) → xs ≡ ss → s ≡ get_or xs k s → s ≡ get_or ss k s
state-at k ss xs s same is = is ∙ ap (λ (ys : List StateSeen). get_or ys k s) same

read-same : (k : ℕ) (ss : List StateSeen) (d e : StateSeen) → k < length ss → get_or ss k d ≡ get_or ss k e
read-same k [] d e lt = absurd (omega (arith, lt))
read-same zero (s ∷ ss) d e lt = refl
read-same (suc k) (s ∷ ss) d e lt = read-same k ss d e (omega (arith, lt))

pub state-same : (k : ℕ) (ss : List StateSeen) (a b : StateSeen) → k < length ss → a ≡ get_or ss k a → b ≡ get_or ss k b → a ≡ b
state-same k ss a b lt one two = one ∙ (read-same k ss a b lt ∙ sym two)

pub state-room : (size width at k : ℕ) (s : StateSeen) → IsStateAt size width at s → k < size → k < s.size
state-room size width at k s h lt = omega (arith, h.size, lt)

-- What the states of the steps before one emit.
unfoldable pub ends_before : ScanPlan → Machine → ℕ → List (List Value)
ends_before p m n = flat_map (λ k. held_rows p k (state_of m k)) (range_with_len 1 n)

range-more : (n : ℕ) → range_with_len 1 (n + 1) ≡ range_with_len 1 n ++ (n + 1) ∷ []
range-more n = sym (map-id (range_with_len 1 (n + 1))) ∙ (map-range_with_len_more (λ (x : ℕ). x) 1 n (n + 1) (omega arith) ∙ ap (λ xs. xs ++ (n + 1) ∷ []) (map-id (range_with_len 1 n)))

pub state-of : (ss : List StateSeen) (begun k : ℕ) (s : StateSeen) → k < length ss → s ≡ get_or ss k s → state_of (machine_of ss begun) (k + 1) ≡ s.held
unfolding state_of
state-of ss begun k s lt is =
    let same : k + 1 - 1 ≡ k = omega arith in
    ap (λ j. slice_index_or (map held_in ss) j None) same ∙ (get_or-map held_in ss k s None lt ∙ ap held_in (sym is))

pub ends-start : (p : ScanPlan) (m : Machine) (old : List (List Value)) → old ≡ old ++ ends_before p m 0
unfolding ends_before
ends-start p m old = sym (append-nil old)

pub ends-more : (p : ScanPlan) (ss : List StateSeen) (begun k : ℕ) (s : StateSeen) (all old new : List (List Value)) → k < length ss → s ≡ get_or ss k s → old ≡ all ++ ends_before p (machine_of ss begun) k → new ≡ old ++ held_rows p (k + 1) s.held → new ≡ all ++ ends_before p (machine_of ss begun) (k + 1)
unfolding ends_before
ends-more p ss begun k s all old new lt is before e =
    let m = machine_of ss begun in
    let f = λ (k : ℕ). held_rows p k (state_of m k) in
    let one : flat_map f ((k + 1) ∷ []) ≡ held_rows p (k + 1) s.held = append-nil (f (k + 1)) ∙ ap (held_rows p (k + 1)) (state-of ss begun k s lt is) in
    let more : flat_map f (range_with_len 1 (k + 1)) ≡ flat_map f (range_with_len 1 k) ++ held_rows p (k + 1) s.held = ap (flat_map f) (range-more k) ∙ (flat_map-append f (range_with_len 1 k) ((k + 1) ∷ []) ∙ ap (λ (rows : List (List Value)). flat_map f (range_with_len 1 k) ++ rows) one) in
    e ∙ (ap (λ (rows : List (List Value)). rows ++ held_rows p (k + 1) s.held) before
    ∙ (append_assoc all (flat_map f (range_with_len 1 k)) (held_rows p (k + 1) s.held) ∙ ap (λ (rows : List (List Value)). all ++ rows) (sym more)))

pub ends-all : (p : ScanPlan) (m : Machine) (n : ℕ) (all new : List (List Value)) → n ≡ length p.steps → new ≡ all ++ ends_before p m n → new ≡ all ++ rows_at_end p m
unfolding ends_before rows_at_end
ends-all p m n all new size e = e ∙ ap (λ k. all ++ flat_map (λ k. held_rows p k (state_of m k)) (range_with_len 1 k)) size

pub ruleset end_facts = (state-held, state-wide, state-there, state-room, held-wide, more-wide)
