-- The columns of a record: the first of each name.
use Rattle.std.proofs.Common.{◌≡◌, ◌≢◌, ℕ, Bool, true, false, List, [], ◌∷◌, ◌++◌, append-nil, append_assoc, filter, map, refl, sym, ap, ◌∙◌, inl, inr, subst}
use Rattle.std.specs.Prelude.{not, ◌&&◌, ◌||◌, bytes_eq, fold, if◌then◌else◌}
use Rattle.std.specs.Bool.{Decides}
use Rattle.std.specs.List.{list_any}
use Rattle.std.proofs.lemmas.Bool.{cases_Bool}
use Rattle.std.proofs.lemmas.List.{map-append}
use Rattle.std.proofs.lemmas.List.Folds.{fold-map, list_any-append}
use Rattle.std.proofs.lemmas.List.Sums.{fold-append}
use Rattle.std.proofs.lemmas.Slice.Eq.{bytes_eq-Decides}
use Rattle.kql_cells.specs.Named.{HasDistinctNames, column_name}
use Rattle.kql_cells.specs.declared.schema.Column.{Column}
use Rattle.kql_bound.specs.declared.parts.Decl.{Decl}
use Rattle.kql_meaning.specs.Tables.{distinct_by, has_column, is_name_among, names_of}
use Rattle.kql_meaning.proofs.GroupLaws.{distinct-differ}
use Rattle.kql_meaning.proofs.MemberLaws.{pairs-of, pairwise-map}
use Rattle.kql_meaning.specs.declared.position.Position.TheVariants as position
use Rattle.kql_syntax.specs.declared.query.Step.{Step}
use Rattle.bind_expr.specs.declared.scope.Scope.{Scope}
use Rattle.bind_operators.specs.Known.{scope_at}
use Rattle.bind_operators.specs.declared.known.Known.{Known}
use Rattle.bind_operators.specs.declared.shape.Shape.{Shape}
use Rattle.bind_query.specs.Scan.{RecordCell, cell_columns, declared_cell, input_cell, of_one_name, record_cells, step_name, step_scope}
use Rattle.bind_query.specs.ScanRecords.{two_lists, with_cell, with_lists}
use Rattle.bind_query.specs.declared.scan_records.RecordCells.{RecordCells}

abbrev cell_name : RecordCell → List ℕ
cell_name c = c.0.name

abbrev is_seen : List RecordCell → RecordCell → Bool
is_seen done c = is_name_among (map cell_name done) (cell_name c)

-- A cell more, where there is none of its name, and those whose names are not seen.
abbrev and_one : List RecordCell → RecordCell → List RecordCell
and_one done c = if is_seen done c then done else done ++ c ∷ []

abbrev unseen : List RecordCell → List RecordCell → List RecordCell
unseen done cells = filter (λ c. not (is_seen done c)) cells

filter-both : {X : Type 0} (p q r : X → Bool) → ((y : X) → (q y && p y) ≡ r y) → (xs : List X) → filter p (filter q xs) ≡ filter r xs
filter-both p q r h [] = refl
filter-both p q r h (x ∷ xs) =
    let rest = filter-both p q r h xs in
    let here = h x in
    elim (cases_Bool (q x)) [
      | inl t ↦ elim (cases_Bool (p x)) [
        | inl u ↦ let s : r x ≡ true = sym here ∙ rw (t, u) refl in rw (t, u, s, rest) refl
        | inr u ↦ let s : r x ≡ false = sym here ∙ rw (t, u) refl in rw (t, u, s, rest) refl
      ]
      | inr f ↦ let s : r x ≡ false = sym here ∙ rw f refl in rw (f, s, rest) refl
    ]

seen-more : (done : List RecordCell) (c d : RecordCell) → is_seen (done ++ c ∷ []) d ≡ (is_seen done d || of_one_name c d)
unfolding is_name_among
seen-more done c d =
    ap (λ names. list_any (λ m. bytes_eq m (cell_name d)) names) (map-append cell_name done (c ∷ []))
    ∙ (list_any-append (λ m. bytes_eq m (cell_name d)) (map cell_name done) (cell_name c ∷ []) ∙ ap (λ b. is_seen done d || b) (alone (of_one_name c d)))
  where
    alone : (b : Bool) → (b || false) ≡ b
    alone true = refl
    alone false = refl

seen-same : (done : List RecordCell) (c d : RecordCell) → is_seen done c ≡ true → (not (of_one_name c d) && not (is_seen done d)) ≡ not (is_seen done d)
seen-same done c d t = elim (cases_Bool (of_one_name c d)) [
  | inl s ↦ let h : is_seen done d ≡ true = subst (λ n. is_name_among (map cell_name done) n ≡ true) ((bytes_eq-Decides (cell_name c) (cell_name d)).0 s) t in rw (s, h) refl
  | inr f ↦ rw f refl
]

unseen-more : (done : List RecordCell) (c d : RecordCell) → (not (of_one_name c d) && not (is_seen done d)) ≡ not (is_seen (done ++ c ∷ []) d)
unseen-more done c d = rw (seen-more done c d) (either (of_one_name c d) (is_seen done d))
  where
    either : (a b : Bool) → (not a && not b) ≡ not (b || a)
    either true true = refl
    either true false = refl
    either false true = refl
    either false false = refl

firsts-from : (done cells : List RecordCell) → fold and_one done cells ≡ done ++ unseen done (distinct_by of_one_name cells)
unfolding distinct_by
firsts-from done [] = sym (append-nil done)
firsts-from done (c ∷ cs) = elim (cases_Bool (is_seen done c)) [
  | inl t ↦ rw t (firsts-from done cs ∙ ap (λ more. done ++ more) (sym (filter-both (λ d. not (is_seen done d)) (λ d. not (of_one_name c d)) (λ d. not (is_seen done d)) (λ d. seen-same done c d t) (distinct_by of_one_name cs))))
  | inr f ↦ rw f (firsts-from (done ++ c ∷ []) cs ∙ (append_assoc done (c ∷ []) (unseen (done ++ c ∷ []) (distinct_by of_one_name cs)) ∙ ap (λ more. done ++ c ∷ more) (sym (filter-both (λ d. not (is_seen done d)) (λ d. not (of_one_name c d)) (λ d. not (is_seen (done ++ c ∷ []) d)) (λ d. unseen-more done c d) (distinct_by of_one_name cs)))))
]

none-seen : (cells : List RecordCell) → unseen [] cells ≡ cells
unfolding is_name_among
none-seen [] = refl
none-seen (c ∷ cs) = ap (λ more. c ∷ more) (none-seen cs)

-- The same as two lists.

names-are : (cells : List RecordCell) → names_of (cell_columns cells) ≡ map cell_name cells
unfolding names_of
names-are [] = refl
names-are (c ∷ cs) = ap (λ more. cell_name c ∷ more) (names-are cs)

one-more : (done : List RecordCell) (c : RecordCell) → with_cell (two_lists done) c ≡ two_lists (and_one done c)
unfolding with_cell two_lists has_column
one-more done c = rw (names-are done) (elim (cases_Bool (is_seen done c)) [
  | inl t ↦ rw t refl
  | inr f ↦ rw (f, map-append (λ (d : RecordCell). d.0) done (c ∷ []), map-append (λ (d : RecordCell). d.1) done (c ∷ [])) refl
])

lists-from : (done cells : List RecordCell) → fold with_cell (two_lists done) cells ≡ two_lists (fold and_one done cells)
lists-from done [] = refl
lists-from done (c ∷ cs) = ap (λ r. fold with_cell r cs) (one-more done c) ∙ lists-from (and_one done c) cs

pub lists-are : (columns : List Column) (declared : List Decl) → fold (λ r d. with_cell r (declared_cell d)) (fold (λ r c. with_cell r (input_cell c)) (two_lists []) columns) declared ≡ two_lists (record_cells columns declared)
unfolding record_cells
lists-are columns declared =
    let all : List RecordCell = map input_cell columns ++ map declared_cell declared in
    let first : fold with_cell (two_lists []) (map input_cell columns) ≡ fold (λ r c. with_cell r (input_cell c)) (two_lists []) columns = fold-map with_cell input_cell (two_lists []) columns in
    ap (λ start. fold (λ r d. with_cell r (declared_cell d)) start declared) (sym first)
    ∙ (sym (fold-map with_cell declared_cell (fold with_cell (two_lists []) (map input_cell columns)) declared)
    ∙ (sym (fold-append with_cell (two_lists []) (map input_cell columns) (map declared_cell declared))
    ∙ (lists-from [] all ∙ ap two_lists (firsts-from [] all ∙ none-seen (distinct_by of_one_name all)))))

pub record-made : (columns : List Column) (declared : List Decl) (first made : RecordCells) → first ≡ fold (λ r c. with_cell r (input_cell c)) (two_lists []) columns → made ≡ fold (λ r d. with_cell r (declared_cell d)) first declared → made ≡ two_lists (record_cells columns declared)
record-made columns declared first made a b = b ∙ (ap (λ start. fold (λ r d. with_cell r (declared_cell d)) start declared) a ∙ lists-are columns declared)

pub ruleset record_steps = (record-made)

-- The scope of steps.

one_name-decides : (c d : RecordCell) → Decides (of_one_name c d) (cell_name c ≡ cell_name d)
one_name-decides c d = bytes_eq-Decides (cell_name c) (cell_name d)

pub record-once : (columns : List Column) (declared : List Decl) (r : RecordCells) → r ≡ two_lists (record_cells columns declared) → HasDistinctNames column_name r.columns
unfolding two_lists record_cells
record-once columns declared r is =
    let all : List RecordCell = map input_cell columns ++ map declared_cell declared in
    let cells : List RecordCell = distinct_by of_one_name all in
    rw is (pairs-of (λ (c d : Column). c.name ≢ d.name) (cell_columns cells)
    (pairwise-map (λ c d. cell_name c ≢ cell_name d) (λ (c d : Column). c.name ≢ d.name) (λ (c : RecordCell). c.0) cells (λ c d differ. differ) (distinct-differ cell_name of_one_name one_name-decides all)))

pub scope-made : (known : Known) (rows : Shape) (steps : List Step) (declared : List Decl) (r : RecordCells) (names : List (List ℕ)) (scope made : Scope) → r ≡ two_lists (record_cells rows.columns declared) → names ≡ map step_name steps → scope ≡ scope_at known rows position.Plain → made ≡ with_lists names r scope → made ≡ step_scope known rows steps declared
unfolding step_scope two_lists
scope-made known rows steps declared r names scope made a b c is = rw is (rw a (rw b (rw c refl)))

pub ruleset scope_steps = (record-once, scope-made)
