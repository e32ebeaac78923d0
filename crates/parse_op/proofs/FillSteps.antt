-- Pieces as the cells of a row.
use Rattle.std.proofs.Common.{◌≡◌, ◌<◌, ◌≤◌, ◌+◌, ◌++◌, ◌&&◌, ◌==◌, ℕ, zero, suc, Bool, true, false, List, [], ◌∷◌, map, length, take, drop, refl, sym, ap, ◌∙◌, arith, inl, inr, subst, append_assoc, take_all}
use Rattle.std.specs.Prelude.{IsSomeAnd, None, Ok, Err, OnOk, Option, Result, Some, find, slice_get, slice_range}
use Rattle.std.proofs.lemmas.Bool.{and_parts, cases_Bool, eqb-true}
use Rattle.std.proofs.lemmas.List.{length-map, map-append, take_more}
use Rattle.kql_cells.specs.Keys.{absent}
use Rattle.kql_cells.specs.Ordered.{text_in}
use Rattle.kql_cells.specs.Seen.{value_at}
use Rattle.kql_cells.specs.Table.{CellFits, Grid}
use Rattle.kql_cells.specs.Values.{IsOfKind, IsWellFormed}
use Rattle.kql_cells.specs.declared.schema.Column.{Column}
use Rattle.kql_cells.specs.declared.value.Kind.{Kind}
use Rattle.kql_cells.specs.declared.value.Kind.TheVariants as kind
use Rattle.kql_cells.specs.declared.value.Value.{Value}
use Rattle.kql_cells.specs.declared.value.Value.TheVariants as value
use Rattle.kql_dynamic.specs.Json.{parsed}
use Rattle.kql_bound.specs.declared.parts.ParsePlan.{ParsePlan}
use Rattle.kql_bound.specs.declared.parts.PatItem.{PatItem}
use Rattle.kql_bound.specs.declared.parts.PatItem.TheVariants as item
use Rattle.kql_meaning.specs.Cuts.{cut, filled_piece_read, is_allowed, is_cut, is_cut_from, is_end, piece_read, rising_lists}
use Rattle.kql_meaning.specs.Parse.{cut_values, parsed_values, pattern_columns, piece_value, pieces_values}
use Rattle.kql_meaning.specs.Tables.{absent_row}
use Rattle.kql_values.specs.Growing.{Growing, closed, started, with_cell}
use Rattle.parse_op.specs.Filled.{AreEnds, IsNextColumn, grown, has_row, item_absent, item_values, parsed_grid}
use Rattle.parse_op.specs.Search.{Answers, ends_in, is_place}
use Rattle.parse_op.specs.declared.slot.Slot.{Slot}
use Rattle.parse_op.proofs.CutSteps.{end-parts, place-boundary}
use Rattle.parse_op.proofs.SlotSteps.{first-place}

-- One cell.

pub fits-next : (o : Option Column) (k : Kind) (v : Value) → IsSomeAnd o (λ c. c.kind ≡ k) → IsOfKind k v → IsWellFormed v → IsSomeAnd o (λ c. CellFits c v)
fits-next None k v h of form = h
fits-next (Some c) k v h of form = (subst (λ x. IsOfKind x v) (sym h) of, form)

pub empty-piece : (k : Kind) (piece : List ℕ) → piece ≡ [] → absent k ≡ piece_value k piece
unfolding piece_value piece_read absent
empty-piece kind.Text piece is = ap value.Text (sym is)
empty-piece kind.Bool piece is = rw is refl
empty-piece kind.Long piece is = rw is refl
empty-piece kind.Moment piece is = rw is refl
empty-piece kind.Span piece is = rw is refl
empty-piece kind.Dynamic piece is = rw is refl

filled-dynamic : (piece : List ℕ) → (piece ≡ [] → ⊥) → parsed piece ≡ piece_value kind.Dynamic piece
unfolding piece_value piece_read filled_piece_read
filled-dynamic [] h = absurd (h refl)
filled-dynamic (b ∷ bs) h = refl

pub dynamic-piece : (k : Kind) (piece : List ℕ) (v : Value) → k ≡ kind.Dynamic → (piece ≡ [] → ⊥) → v ≡ parsed piece → v ≡ piece_value k piece
dynamic-piece k piece v is h e = e ∙ (filled-dynamic piece h ∙ ap (λ x. piece_value x piece) (sym is))

pub absent-kind : (k : Kind) → IsOfKind k (absent k)
unfolding absent
absent-kind kind.Text = tt
absent-kind kind.Bool = tt
absent-kind kind.Long = tt
absent-kind kind.Moment = tt
absent-kind kind.Span = tt
absent-kind kind.Dynamic = tt

pub absent-form : (k : Kind) → IsWellFormed (absent k)
unfolding absent
absent-form kind.Text = tt
absent-form kind.Bool = tt
absent-form kind.Long = tt
absent-form kind.Moment = tt
absent-form kind.Span = tt
absent-form kind.Dynamic = tt

pub shows-kind : (k : Kind) (v : Value) → v ≡ absent k → IsOfKind k v
shows-kind k v e = subst (IsOfKind k) (sym e) (absent-kind k)

pub shows-form : (k : Kind) (v : Value) → v ≡ absent k → IsWellFormed v
shows-form k v e = subst IsWellFormed (sym e) (absent-form k)

no-bytes : (piece : List ℕ) → length piece ≡ 0 → piece ≡ []
no-bytes [] h = refl
no-bytes (b ∷ bs) h = absurd (omega (arith, h))

pub empty-cell : {A E : Type 0} (r : Result A E) (old new : Growing) (v : Value) (k : Kind) (piece : List ℕ) (b : Bool) → b ≡ (length piece == 0) → b ≡ true → v ≡ absent k → OnOk r (new ≡ with_cell old v) → OnOk r (new ≡ with_cell old (piece_value k piece))
empty-cell r old new v k piece b test holds shown h =
    let none = no-bytes piece (eqb-true (length piece) 0 (sym test ∙ holds)) in
    subst (λ x. OnOk r (new ≡ with_cell old x)) (shown ∙ empty-piece k piece none) h

pub ruleset cell_steps = (fits-next, empty-piece, dynamic-piece, shows-kind, shows-form)

-- The columns that are left.

get-there : (cs more : List Column) (n : ℕ) (c : Column) → drop n cs ≡ c ∷ more → slice_get cs n ≡ Some c
get-there [] more zero c e = cc
get-there [] more (suc n) c e = cc
get-there (d ∷ cs) more zero c e = let same : d ≡ c = cc in ap Some same
get-there (d ∷ cs) more (suc n) c e = get-there cs more n c e

rest-there : (cs more : List Column) (n : ℕ) (c : Column) → drop n cs ≡ c ∷ more → drop (suc n) cs ≡ more
rest-there [] more zero c e = cc
rest-there [] more (suc n) c e = cc
rest-there (d ∷ cs) more zero c e = cc
rest-there (d ∷ cs) more (suc n) c e = rest-there cs more n c e

of-column : (items later : List PatItem) (p : PatItem) (name : List ℕ) (k : Kind) → items ≡ p ∷ later → p ≡ item.Column name k → pattern_columns items ≡ record { name = name; kind = k } ∷ pattern_columns later
unfolding pattern_columns
of-column items later p name k is at = ap pattern_columns (is ∙ ap (λ q. q ∷ later) at)

pub column-next : (cs : List Column) (row : List Value) (items later : List PatItem) (p : PatItem) (name : List ℕ) (k : Kind) → drop (length row) cs ≡ pattern_columns items → items ≡ p ∷ later → p ≡ item.Column name k → IsSomeAnd (slice_get cs (length row)) (λ c. c.kind ≡ k)
column-next cs row items later p name k left is at =
    rw (get-there cs (pattern_columns later) (length row) (record { name = name; kind = k }) (left ∙ of-column items later p name k is at)) refl

one-longer : (row : List Value) (v : Value) → length (row ++ v ∷ []) ≡ suc (length row)
one-longer [] v = refl
one-longer (w ∷ row) v = ap suc (one-longer row v)

pub columns-behind : (old mid : Growing) (v : Value) (items later : List PatItem) (p : PatItem) (name : List ℕ) (k : Kind) → drop (length old.row) old.grid.columns ≡ pattern_columns items → items ≡ p ∷ later → p ≡ item.Column name k → mid ≡ with_cell old v → drop (length mid.row) mid.grid.columns ≡ pattern_columns later
columns-behind old mid v items later p name k left is at e =
    ap (λ (g : Growing). drop (length g.row) g.grid.columns) e
    ∙ (ap (λ n. drop n old.grid.columns) (one-longer old.row v)
    ∙ rest-there old.grid.columns (pattern_columns later) (length old.row) (record { name = name; kind = k }) (left ∙ of-column items later p name k is at))

pub columns-past-star : (cs : List Column) (items later : List PatItem) (p : PatItem) → cs ≡ pattern_columns items → items ≡ p ∷ later → p ≡ item.Star → cs ≡ pattern_columns later
unfolding pattern_columns
columns-past-star cs items later p left is at = left ∙ ap pattern_columns (is ∙ ap (λ q. q ∷ later) at)

pub columns-past-literal : (cs : List Column) (items later : List PatItem) (p : PatItem) (x : List ℕ) → cs ≡ pattern_columns items → items ≡ p ∷ later → p ≡ item.Literal x → cs ≡ pattern_columns later
unfolding pattern_columns
columns-past-literal cs items later p x left is at = left ∙ ap pattern_columns (is ∙ ap (λ q. q ∷ later) at)

-- Ends.

pub first-order : (t : List ℕ) (start : ℕ) (slot : Slot) (slots behind : List Slot) → AreEnds t start (ends_in slots) → slots ≡ slot ∷ behind → start ≤ slot.end
unfolding AreEnds
first-order t start slot slots behind h is = (end-parts t start slot.end (subst (λ ss. AreEnds t start (ends_in ss)) is h).0).0

pub slot-place : (t : List ℕ) (start : ℕ) (slot : Slot) (slots behind : List Slot) → AreEnds t start (ends_in slots) → slots ≡ slot ∷ behind → is_place t slot.end ≡ true
unfolding AreEnds
slot-place t start slot slots behind h is = (end-parts t start slot.end (subst (λ ss. AreEnds t start (ends_in ss)) is h).0).1

pub later-ends : (t : List ℕ) (start : ℕ) (slot : Slot) (slots behind : List Slot) → AreEnds t start (ends_in slots) → slots ≡ slot ∷ behind → AreEnds t slot.end (ends_in behind)
unfolding AreEnds
later-ends t start slot slots behind h is = (subst (λ ss. AreEnds t start (ends_in ss)) is h).1

-- Rows.

on-ok : {A E : Type 0} (P Q : Type 0) (r : Result A E) → (P → Q) → OnOk r P → OnOk r Q
on-ok P Q (Ok x) f h = f h
on-ok P Q (Err e) f h = tt

nothing-more : (xs : List Value) → xs ≡ xs ++ []
nothing-more [] = refl
nothing-more (x ∷ xs) = ap (λ ys. x ∷ ys) (nothing-more xs)

-- One item.

pub star-adds : (g : Growing) (p : PatItem) (piece : List ℕ) → p ≡ item.Star → g ≡ has_row g (g.row ++ item_values p piece)
unfolding has_row item_values
star-adds g p piece at = ap (λ r. has_row g r) (nothing-more g.row) ∙ ap (λ q. has_row g (g.row ++ item_values q piece)) (sym at)

pub literal-adds : (g : Growing) (p : PatItem) (x piece : List ℕ) → p ≡ item.Literal x → g ≡ has_row g (g.row ++ item_values p piece)
unfolding has_row item_values
literal-adds g p x piece at = ap (λ r. has_row g r) (nothing-more g.row) ∙ ap (λ q. has_row g (g.row ++ item_values q piece)) (sym at)

pub column-adds : {A E : Type 0} (r : Result A E) (old new : Growing) (p : PatItem) (name : List ℕ) (k : Kind) (piece : List ℕ) → p ≡ item.Column name k → OnOk r (new ≡ with_cell old (piece_value k piece)) → OnOk r (new ≡ has_row old (old.row ++ item_values p piece))
unfolding has_row item_values
column-adds r old new p name k piece at h =
    on-ok (new ≡ with_cell old (piece_value k piece)) (new ≡ has_row old (old.row ++ item_values p piece)) r (λ e. e ∙ ap (λ q. has_row old (old.row ++ item_values q piece)) (sym at)) h

pub star-lacks : (g : Growing) (p : PatItem) → p ≡ item.Star → g ≡ has_row g (g.row ++ item_absent p)
unfolding has_row item_absent
star-lacks g p at = ap (λ r. has_row g r) (nothing-more g.row) ∙ ap (λ q. has_row g (g.row ++ item_absent q)) (sym at)

pub literal-lacks : (g : Growing) (p : PatItem) (x : List ℕ) → p ≡ item.Literal x → g ≡ has_row g (g.row ++ item_absent p)
unfolding has_row item_absent
literal-lacks g p x at = ap (λ r. has_row g r) (nothing-more g.row) ∙ ap (λ q. has_row g (g.row ++ item_absent q)) (sym at)

pub column-lacks : {A E : Type 0} (r : Result A E) (old new : Growing) (v : Value) (p : PatItem) (name : List ℕ) (k : Kind) → p ≡ item.Column name k → v ≡ absent k → OnOk r (new ≡ with_cell old v) → OnOk r (new ≡ has_row old (old.row ++ item_absent p))
unfolding has_row item_absent
column-lacks r old new v p name k at shown h =
    on-ok (new ≡ with_cell old v) (new ≡ has_row old (old.row ++ item_absent p)) r (λ e. e ∙ (ap (λ x. with_cell old x) shown ∙ ap (λ q. has_row old (old.row ++ item_absent q)) (sym at))) h

pub its-column : (g : Growing) (p : PatItem) (name : List ℕ) (k : Kind) → p ≡ item.Column name k → IsNextColumn g p → IsSomeAnd (slice_get g.grid.columns (length g.row)) (λ c. c.kind ≡ k)
unfolding IsNextColumn
its-column g p name k at h = subst (IsNextColumn g) at h

pub ruleset item_steps = (star-adds, literal-adds, column-adds, star-lacks, literal-lacks, column-lacks, its-column, shows-kind, shows-form)

-- All items.

next-of : (g : Growing) (items later : List PatItem) (p : PatItem) → drop (length g.row) g.grid.columns ≡ pattern_columns items → items ≡ p ∷ later → IsNextColumn g p
unfolding IsNextColumn
next-of g items later item.Star left is = tt
next-of g items later (item.Literal x) left is = tt
next-of g items later (item.Column name k) left is = column-next g.grid.columns g.row items later (item.Column name k) name k left is refl

pub next-column : (g : Growing) (items later : List PatItem) (p : PatItem) → drop (length g.row) g.grid.columns ≡ pattern_columns items → items ≡ p ∷ later → IsNextColumn g p
next-column g items later p left is = next-of g items later p left is

same-columns : (g mid : Growing) (cs : List Column) → drop (length g.row) g.grid.columns ≡ cs → mid ≡ has_row g (g.row ++ []) → drop (length mid.row) mid.grid.columns ≡ cs
unfolding has_row
same-columns g mid cs left made =
    ap (λ (h : Growing). drop (length h.row) h.grid.columns) made ∙ (ap (λ (r : List Value). drop (length r) g.grid.columns) (sym (nothing-more g.row)) ∙ left)

pub columns-left : (g mid : Growing) (p : PatItem) (piece : List ℕ) (items later : List PatItem) → drop (length g.row) g.grid.columns ≡ pattern_columns items → items ≡ p ∷ later → mid ≡ has_row g (g.row ++ item_values p piece) → drop (length mid.row) mid.grid.columns ≡ pattern_columns later
unfolding has_row item_values
columns-left g mid item.Star piece items later left is made = same-columns g mid (pattern_columns later) (columns-past-star (drop (length g.row) g.grid.columns) items later item.Star left is refl) made
columns-left g mid (item.Literal x) piece items later left is made = same-columns g mid (pattern_columns later) (columns-past-literal (drop (length g.row) g.grid.columns) items later (item.Literal x) x left is refl) made
columns-left g mid (item.Column name k) piece items later left is made = columns-behind g mid (piece_value k piece) items later (item.Column name k) name k left is refl made

by-item : (p : PatItem) (later : List PatItem) (t : List ℕ) (start end : ℕ) (es : List ℕ) → item_values p (slice_range t start end) ++ pieces_values later t end es ≡ pieces_values (p ∷ later) t start (end ∷ es)
unfolding item_values pieces_values
by-item item.Star later t start end es = refl
by-item (item.Literal x) later t start end es = refl
by-item (item.Column name k) later t start end es = refl

pub pieces-left : (g mid total : Growing) (p : PatItem) (t : List ℕ) (start : ℕ) (piece : List ℕ) (items later : List PatItem) (slot : Slot) (slots behind : List Slot) → items ≡ p ∷ later → slots ≡ slot ∷ behind → piece ≡ slice_range t start slot.end → mid ≡ has_row g (g.row ++ item_values p piece) → has_row g (g.row ++ pieces_values items t start (ends_in slots)) ≡ total → has_row mid (mid.row ++ pieces_values later t slot.end (ends_in behind)) ≡ total
unfolding has_row
pieces-left g mid total p t start piece items later slot slots behind is are cut made whole =
    let rest = pieces_values later t slot.end (ends_in behind) in
    let all : item_values p piece ++ rest ≡ pieces_values items t start (ends_in slots) =
    ap (λ x. item_values p x ++ rest) cut ∙ (by-item p later t start slot.end (ends_in behind) ∙ sym (ap (λ xs. pieces_values xs t start (ends_in slots)) is ∙ ap (λ ss. pieces_values (p ∷ later) t start (ends_in ss)) are)) in
    ap (λ (h : Growing). has_row h (h.row ++ rest)) made ∙ (ap (λ r. has_row g r) (append_assoc g.row (item_values p piece) rest) ∙ (ap (λ x. has_row g (g.row ++ x)) all ∙ whole))

pub pieces-done : (g total : Growing) (items : List PatItem) (t : List ℕ) (start : ℕ) (es : List ℕ) → length items ≡ 0 → has_row g (g.row ++ pieces_values items t start es) ≡ total → g ≡ total
unfolding has_row pieces_values
pieces-done g total [] t start es none whole = ap (λ r. has_row g r) (nothing-more g.row) ∙ whole
pieces-done g total (p ∷ ps) t start es none whole = absurd (omega (arith, none))

pub pieces-without-slot : (g total : Growing) (items later : List PatItem) (p : PatItem) (slots : List Slot) → items ≡ p ∷ later → length slots ≡ length items → length slots ≡ 0 → g ≡ total
pieces-without-slot g total [] later p slots is same none = cc
pieces-without-slot g total (q ∷ items) later p slots is same none = absurd (omega (arith, same, none))

pub count-left : (items later : List PatItem) (p : PatItem) (slot : Slot) (slots behind : List Slot) → items ≡ p ∷ later → slots ≡ slot ∷ behind → length slots ≡ length items → length behind ≡ length later
count-left items later p slot slots behind is are same =
    let a : length slots ≡ length (slot ∷ behind) = ap (λ (xs : List Slot). length xs) are in
    let b : length items ≡ length (p ∷ later) = ap (λ (xs : List PatItem). length xs) is in
    omega (arith, a, b, same)

pub ruleset piece_steps = (next-column, columns-left, first-order, slot-place, later-ends, place-boundary, pieces-left, pieces-done, pieces-without-slot, count-left)

-- Absent rows.

pub columns-lacked : (g mid : Growing) (p : PatItem) (items later : List PatItem) → drop (length g.row) g.grid.columns ≡ pattern_columns items → items ≡ p ∷ later → mid ≡ has_row g (g.row ++ item_absent p) → drop (length mid.row) mid.grid.columns ≡ pattern_columns later
unfolding has_row item_absent
columns-lacked g mid item.Star items later left is made = same-columns g mid (pattern_columns later) (columns-past-star (drop (length g.row) g.grid.columns) items later item.Star left is refl) made
columns-lacked g mid (item.Literal x) items later left is made = same-columns g mid (pattern_columns later) (columns-past-literal (drop (length g.row) g.grid.columns) items later (item.Literal x) x left is refl) made
columns-lacked g mid (item.Column name k) items later left is made = columns-behind g mid (absent k) items later (item.Column name k) name k left is refl made

absent-by-item : (p : PatItem) (later : List PatItem) → item_absent p ++ absent_row (pattern_columns later) ≡ absent_row (pattern_columns (p ∷ later))
unfolding item_absent absent_row pattern_columns
absent-by-item item.Star later = refl
absent-by-item (item.Literal x) later = refl
absent-by-item (item.Column name k) later = refl

pub absent-left : (g mid total : Growing) (p : PatItem) (items later : List PatItem) → items ≡ p ∷ later → mid ≡ has_row g (g.row ++ item_absent p) → has_row g (g.row ++ absent_row (pattern_columns items)) ≡ total → has_row mid (mid.row ++ absent_row (pattern_columns later)) ≡ total
unfolding has_row
absent-left g mid total p items later is made whole =
    let rest = absent_row (pattern_columns later) in
    let all : item_absent p ++ rest ≡ absent_row (pattern_columns items) = absent-by-item p later ∙ sym (ap (λ xs. absent_row (pattern_columns xs)) is) in
    ap (λ (h : Growing). has_row h (h.row ++ rest)) made ∙ (ap (λ r. has_row g r) (append_assoc g.row (item_absent p) rest) ∙ (ap (λ x. has_row g (g.row ++ x)) all ∙ whole))

pub absent-done : (g total : Growing) (items : List PatItem) → length items ≡ 0 → has_row g (g.row ++ absent_row (pattern_columns items)) ≡ total → g ≡ total
unfolding has_row absent_row pattern_columns
absent-done g total [] none whole = ap (λ r. has_row g r) (nothing-more g.row) ∙ whole
absent-done g total (p ∷ ps) none whole = absurd (omega (arith, none))

pub ruleset absent_steps = (next-column, columns-lacked, absent-left, absent-done)

-- A row.

find-holds : (p : List ℕ → Bool) (xs : List (List ℕ)) (x : List ℕ) → find p xs ≡ Some x → p x ≡ true
find-holds p [] x e = cc
find-holds p (z ∷ zs) x e = elim (cases_Bool (p z)) [
  | inl t ↦ let found : Some z ≡ Some x = rw t at e in let same : z ≡ x = cc in rw (← same) t
  | inr n ↦ let found : find p zs ≡ Some x = rw n at e in find-holds p zs x found
]

ends-of : (relaxed : Bool) (ps : List PatItem) (t : List ℕ) (start : ℕ) (es : List ℕ) → is_cut_from relaxed ps t start es ≡ true → AreEnds t start es
unfolding is_cut_from AreEnds
ends-of relaxed ps t start [] h = tt
ends-of relaxed [] t start (e ∷ es) h = cc
ends-of relaxed (p ∷ ps) t start (e ∷ es) h =
    let outer = and_parts (is_end t start e) (is_allowed relaxed p ps (slice_range t start e) (drop start t) && is_cut_from relaxed ps t e es) h in
    (outer.0, ends-of relaxed ps t e es (and_parts (is_allowed relaxed p ps (slice_range t start e) (drop start t)) (is_cut_from relaxed ps t e es) outer.1).1)

cut-some : (b : Bool) (o : Option (List ℕ)) (es : List ℕ) → b ≡ true → Answers b o es → o ≡ Some es
unfolding Answers
cut-some b o es e h = subst (λ x. Answers x o es) e h

cut-none : (b : Bool) (o : Option (List ℕ)) (es : List ℕ) → b ≡ false → Answers b o es → o ≡ None
unfolding Answers
cut-none b o es e h = subst (λ x. Answers x o es) e h

pub are-ends : (b relaxed : Bool) (ps : List PatItem) (t es : List ℕ) → b ≡ true → Answers b (cut relaxed ps t) es → AreEnds t 0 es
unfolding cut is_cut
are-ends b relaxed ps t es e h =
    ends-of relaxed ps t 0 es (find-holds (is_cut relaxed ps t) (rising_lists (length ps) (length t) 0) es (cut-some b (cut relaxed ps t) es e h))

pub all-columns : (old : Growing) (cs : List Column) → old.grid.columns ≡ cs → old.row ≡ [] → drop (length old.row) old.grid.columns ≡ cs
all-columns old cs is bare = ap (λ (r : List Value). drop (length r) old.grid.columns) bare ∙ is

pub row-of-pieces : (b : Bool) (p : ParsePlan) (t es : List ℕ) (old mid : Growing) → b ≡ true → Answers b (cut p.relaxed p.pattern t) es → old.row ≡ [] → mid ≡ has_row old (old.row ++ pieces_values p.pattern t 0 es) → mid ≡ has_row old (parsed_values p t)
unfolding has_row parsed_values cut_values
row-of-pieces b p t es old mid e h bare is =
    is ∙ (ap (λ (r : List Value). has_row old (r ++ pieces_values p.pattern t 0 es)) bare ∙ ap (λ o. has_row old (cut_values p.pattern t o)) (sym (cut-some b (cut p.relaxed p.pattern t) es e h)))

pub row-of-absent : (b : Bool) (p : ParsePlan) (t es : List ℕ) (old mid : Growing) → b ≡ false → Answers b (cut p.relaxed p.pattern t) es → old.row ≡ [] → mid ≡ has_row old (old.row ++ absent_row (pattern_columns p.pattern)) → mid ≡ has_row old (parsed_values p t)
unfolding has_row parsed_values cut_values
row-of-absent b p t es old mid e h bare is =
    is ∙ (ap (λ (r : List Value). has_row old (r ++ absent_row (pattern_columns p.pattern))) bare ∙ ap (λ o. has_row old (cut_values p.pattern t o)) (sym (cut-none b (cut p.relaxed p.pattern t) es e h)))

pieces-count : (ps : List PatItem) (t : List ℕ) (start : ℕ) (es : List ℕ) → length es ≡ length ps → length (pieces_values ps t start es) ≡ length (pattern_columns ps)
unfolding pieces_values pattern_columns
pieces-count [] t start es len = refl
pieces-count (p ∷ ps) t start [] len = absurd (omega (arith, len))
pieces-count (item.Star ∷ ps) t start (e ∷ es) len = pieces-count ps t e es (omega (arith, len))
pieces-count (item.Literal x ∷ ps) t start (e ∷ es) len = pieces-count ps t e es (omega (arith, len))
pieces-count (item.Column name k ∷ ps) t start (e ∷ es) len = ap suc (pieces-count ps t e es (omega (arith, len)))

pub pieces-whole : (ps : List PatItem) (t : List ℕ) (slots : List Slot) (old mid : Growing) → length slots ≡ length ps → old.grid.columns ≡ pattern_columns ps → old.row ≡ [] → mid ≡ has_row old (old.row ++ pieces_values ps t 0 (ends_in slots)) → length mid.row ≡ length mid.grid.columns
unfolding has_row
pieces-whole ps t slots old mid count is bare e =
    ap (λ (g : Growing). length g.row) e
    ∙ (ap (λ (r : List Value). length (r ++ pieces_values ps t 0 (ends_in slots))) bare
    ∙ (pieces-count ps t 0 (ends_in slots) (length-map slots (λ (s : Slot). s.end) ∙ count) ∙ sym (ap (λ (g : Growing). length g.grid.columns) e ∙ ap (λ (cs : List Column). length cs) is)))

pub absent-whole : (ps : List PatItem) (old mid : Growing) → old.grid.columns ≡ pattern_columns ps → old.row ≡ [] → mid ≡ has_row old (old.row ++ absent_row (pattern_columns ps)) → length mid.row ≡ length mid.grid.columns
unfolding has_row absent_row
absent-whole ps old mid is bare e =
    ap (λ (g : Growing). length g.row) e
    ∙ (ap (λ (r : List Value). length (r ++ absent_row (pattern_columns ps))) bare
    ∙ (length-map (pattern_columns ps) (λ (c : Column). absent c.kind) ∙ sym (ap (λ (g : Growing). length g.grid.columns) e ∙ ap (λ (cs : List Column). length cs) is)))

pub row-closed : {A E : Type 0} (r : Result A E) (old mid new : Growing) (row : List Value) → mid ≡ has_row old row → OnOk r (new ≡ closed mid) → OnOk r (new ≡ closed (has_row old row))
row-closed r old mid new row is h = on-ok (new ≡ closed mid) (new ≡ closed (has_row old row)) r (λ e. e ∙ ap (λ (g : Growing). closed g) is) h

pub ruleset row_steps = (first-place, are-ends, all-columns, row-of-pieces, row-of-absent, pieces-whole, absent-whole, row-closed)

-- A table.

pub grown-start : (p : ParsePlan) (values : List Value) (cs : List Column) (b : Growing) → cs ≡ pattern_columns p.pattern → b ≡ started cs → b ≡ grown p values 0
unfolding grown parsed_grid
grown-start p values cs b is e = e ∙ ap started is

pub grown-columns : (p : ParsePlan) (values : List Value) (i : ℕ) (b : Growing) → b ≡ grown p values i → b.grid.columns ≡ pattern_columns p.pattern
unfolding grown parsed_grid
grown-columns p values i b e = ap (λ (g : Growing). g.grid.columns) e

pub grown-bare : (p : ParsePlan) (values : List Value) (i : ℕ) (b : Growing) → b ≡ grown p values i → b.row ≡ []
unfolding grown
grown-bare p values i b e = ap (λ (g : Growing). g.row) e

pub grown-more : (p : ParsePlan) (values : List Value) (i : ℕ) (v : Value) (t : List ℕ) (old new : Growing) → i < length values → v ≡ value_at values i → t ≡ text_in v → old ≡ grown p values i → new ≡ closed (has_row old (parsed_values p t)) → new ≡ grown p values (i + 1)
unfolding has_row grown parsed_grid
grown-more p values i v t old new lt at is before after =
    let f = λ (w : Value). parsed_values p (text_in w) in
    let lines : map f (take i values) ++ parsed_values p t ∷ [] ≡ map f (take (i + 1) values) =
    ap (λ x. map f (take i values) ++ parsed_values p x ∷ []) (is ∙ ap text_in at)
    ∙ sym (ap (map f) (take_more values i value.Null lt) ∙ map-append f (take i values) (value_at values i ∷ [])) in
    after ∙ (ap (λ (g : Growing). closed (has_row g (parsed_values p t))) before
    ∙ ap (λ (ls : List (List Value)). record { grid = record { columns = pattern_columns p.pattern; lines = ls }; row = [] }) lines)

pub grown-all : (p : ParsePlan) (values : List Value) (i : ℕ) (b : Growing) (t : Grid) → b ≡ grown p values i → length values ≤ i → t ≡ b.grid → t ≡ parsed_grid p values
unfolding grown
grown-all p values i b t e le is = is ∙ (ap (λ (g : Growing). g.grid) e ∙ ap (parsed_grid p) (take_all i values le))

pub ruleset table_steps = (grown-start, grown-columns, grown-bare, grown-more, grown-all)
