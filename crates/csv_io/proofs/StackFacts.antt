-- Tables one behind another, and columns in parts.
use Rattle.std.proofs.Common.{◌≡◌, ◌+◌, ◌++◌, ◌∷◌, ◌∙◌, ℕ, List, [], length, reverse, sym, ap, subst, append_assoc, length-append}
use Rattle.std.specs.Prelude.{All, Some, flat_map}
use Rattle.std.proofs.lemmas.Grind.{flat_map-append}
use Rattle.std.proofs.lemmas.List.{append-nil, reverse-append, reverse-reverse}
use Rattle.std.proofs.lemmas.List.Elements.{All-append, All-cons, All-head, All-nil, All-pop, All-tail}
use Rattle.csv_io.specs.Stacks.{cells_in, lines_of, stacked}
use Rattle.kql_cells.specs.Table.{Grid}
use Rattle.kql_cells.specs.declared.schema.Column.{Column}
use Rattle.kql_cells.specs.declared.value.Value.{Value}

-- ---- columns in parts

pub cells-none : (first : List Value) → cells_in first [] ≡ first
cells-none first = append-nil first

pub cells-more : (first : List Value) (more : List (List Value)) (part : List Value) → cells_in first (more ++ part ∷ []) ≡ cells_in first more ++ part
cells-more first more part =
    let last = append-nil part in
    ap (λ r. first ++ r) (flat_map-append (λ (p : List Value). p) more (part ∷ []) ∙ ap (λ r. flat_map (λ (p : List Value). p) more ++ r) last)
    ∙ sym (append_assoc first (flat_map (λ (p : List Value). p) more) part)

pub ruleset part_steps = (cells-none, cells-more)

-- the parts that are left come next
pub cells-start : (first all : List Value) (more left : List (List Value)) → left ≡ reverse more → cells_in first more ≡ all → cells_in first (reverse left) ≡ all
cells-start first all more left e h = ap (cells_in first) (ap reverse e ∙ reverse-reverse more) ∙ h

pub cells-next : (first new part all : List Value) (left rest : List (List Value)) → left ≡ rest ++ part ∷ [] → new ≡ first ++ part → cells_in first (reverse left) ≡ all → cells_in new (reverse rest) ≡ all
cells-next first new part all left rest e en h =
    let turned : reverse left ≡ part ∷ reverse rest = ap reverse e ∙ reverse-append rest (part ∷ []) in
    ap (λ n. cells_in n (reverse rest)) en ∙ (append_assoc first part (flat_map (λ (p : List Value). p) (reverse rest)) ∙ (ap (cells_in first) (sym turned) ∙ h))

pub cells-last : (first all : List Value) (left : List (List Value)) → left ≡ [] → cells_in first (reverse left) ≡ all → first ≡ all
cells-last first all left e h = sym (cells-none first) ∙ (ap (λ l. cells_in first (reverse l)) (sym e) ∙ h)

-- ---- tables

lines-push : (first : Grid) (more : List Grid) (t : Grid) → (stacked first (more ++ t ∷ [])).lines ≡ (stacked first more).lines ++ t.lines
lines-push first more t =
    let last = append-nil t.lines in
    ap (λ r. first.lines ++ r) (flat_map-append (λ (g : Grid). g.lines) more (t ∷ []) ∙ ap (λ r. lines_of more ++ r) last)
    ∙ sym (append_assoc first.lines (lines_of more) t.lines)

pub stack-none : (first : Grid) → stacked first [] ≡ first
stack-none first = ap (λ ls. record first { lines = ls }) (append-nil first.lines)

pub stack-push : (first : Grid) (more new : List Grid) (t : Grid) → new ≡ more ++ t ∷ [] → (stacked first new).lines ≡ (stacked first more).lines ++ t.lines
stack-push first more new t e = ap (λ ts. (stacked first ts).lines) e ∙ lines-push first more t

pub stack-count : (first : Grid) (more new : List Grid) (t : Grid) (count rows sum : ℕ) → new ≡ more ++ t ∷ [] → count ≡ length (stacked first more).lines → rows ≡ length t.lines → sum ≡ count + rows
    → sum ≡ length (stacked first new).lines
stack-count first more new t count rows sum e ec er es =
    rw (es, ec, er, stack-push first more new t e) (sym (length-append (stacked first more).lines t.lines))

turned : {X : Type 0} (P : X → Type 0) (xs : List X) → All P xs → All P (reverse xs)
turned P [] h = h
turned P (x ∷ xs) h = subst (All P) (sym (reverse-append (x ∷ []) xs)) (All-append P (reverse xs) (x ∷ []) (turned P xs (All-tail P x xs h)) (All-cons P x [] (All-head P x xs h) (All-nil P)))

pub alike-start : (cs ds : List Column) (more left : List Grid) → left ≡ reverse more → cs ≡ ds → All (λ (t : Grid). t.columns ≡ ds) more → All (λ (t : Grid). t.columns ≡ cs) left
alike-start cs ds more left e ec h = rw (e, ec) (turned (λ (t : Grid). t.columns ≡ ds) more h)

-- the lines of the tables that are left come next
pub tables-start : (old all : List (List Value)) (more left : List Grid) → left ≡ reverse more → old ++ lines_of more ≡ all → old ++ lines_of (reverse left) ≡ all
tables-start old all more left e h = ap (λ ts. old ++ lines_of ts) (ap reverse e ∙ reverse-reverse more) ∙ h

pub tables-next : (old new all : List (List Value)) (u : Grid) (left rest : List Grid) → left ≡ rest ++ u ∷ [] → new ≡ old ++ u.lines → old ++ lines_of (reverse left) ≡ all → new ++ lines_of (reverse rest) ≡ all
tables-next old new all u left rest e en h =
    let turned : reverse left ≡ u ∷ reverse rest = ap reverse e ∙ reverse-append rest (u ∷ []) in
    ap (λ n. n ++ lines_of (reverse rest)) en ∙ (append_assoc old u.lines (lines_of (reverse rest)) ∙ (ap (λ ts. old ++ lines_of ts) (sym turned) ∙ h))

pub tables-last : (old all : List (List Value)) (left : List Grid) → left ≡ [] → old ++ lines_of (reverse left) ≡ all → old ≡ all
tables-last old all left e h = sym (append-nil old) ∙ (ap (λ ts. old ++ lines_of (reverse ts)) (sym e) ∙ h)

pub alike-next : (cs : List Column) (left rest : List Grid) (u : Grid) → left ≡ rest ++ u ∷ [] → All (λ (t : Grid). t.columns ≡ cs) left → All (λ (t : Grid). t.columns ≡ cs) rest × (u.columns ≡ cs)
alike-next cs left rest u e h = All-pop (λ (t : Grid). t.columns ≡ cs) left rest (Some u) e h

-- the table of columns in parts
pub stack-is : (cs : List Column) (rows new : List (List Value)) (first all : Grid) (more : List Grid) → cs ≡ first.columns → rows ≡ first.lines → new ≡ rows ++ lines_of more → stacked first more ≡ all
    → record { columns = cs; lines = new } ≡ all
stack-is cs rows new first all more ec er en h = rw (ec, en, er) h
