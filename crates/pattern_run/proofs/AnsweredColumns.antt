-- A derived table with one column more.
use Rattle.std.proofs.Common.{◌≡◌, ◌<◌, ◌+◌, ℕ, suc, List, [], ◌∷◌, ◌++◌, map, take, drop, length, get_or, refl, sym, ap, ap₂, ◌∙◌, subst, append_assoc, append-nil, arith}
use Rattle.std.specs.Prelude.{All, Option, None, Some}
use Rattle.std.proofs.Math.Seq.{split_at}
use Rattle.std.proofs.lemmas.List.{get_or-map, map-append, take_more}
use Rattle.kql_cells.specs.Named.{IsAbsent, column_name, place_of}
use Rattle.kql_cells.specs.Seen.{row_at}
use Rattle.kql_cells.specs.Table.{CellFits, Grid, IsGrid}
use Rattle.kql_cells.specs.Values.{IsOfKind}
use Rattle.kql_cells.specs.declared.schema.Column.{Column}
use Rattle.kql_cells.specs.declared.value.Kind.{Kind}
use Rattle.kql_cells.specs.declared.value.Value.{Value}
use Rattle.kql_cells.specs.declared.value.Value.TheVariants as val
use Rattle.kql_cells.proofs.RowLaws.{length-RowFits}
use Rattle.kql_functions.specs.Kinds.{pattern_kind}
use Rattle.kql_values.specs.Grids.{column_at}
use Rattle.kql_values.specs.Moves.{beside, widened}
use Rattle.pattern_search.specs.declared.span.Span.{Span}
use Rattle.pattern_ops.specs.Answers.{answer, answer_kind, answer_to, text_of}
use Rattle.pattern_lift.specs.declared.calls.PatternCall.{PatternCall}
use Rattle.pattern_lift.specs.Derived.{added_columns, name_of_call}
use Rattle.pattern_laws.specs.AddedColumns.{column_of_call, with_column}
use Rattle.pattern_laws.specs.Meaning.{answer_to as told_answer, text_shown}
use Rattle.pattern_laws.specs.Tables.{derived_table}
use Rattle.pattern_laws.proofs.AddedColumnLaws.{none_is_added, one_is_added}
use Rattle.pattern_run.specs.Patterned.{Found, finds_of, told_by}
use Rattle.pattern_run.specs.Ready.{IsReady}
use Rattle.pattern_run.proofs.Distinct.{absent-before}

-- What is told of a cell is what the pattern answers to it.

same-text : (v : Value) → text_of v ≡ text_shown v
same-text val.Null = refl
same-text (val.Bool b) = refl
same-text (val.Long n) = refl
same-text (val.Text t) = refl
same-text (val.Moment n) = refl
same-text (val.Span n) = refl
same-text (val.Dynamic d) = refl

told-answers : (found : Found) (c : PatternCall) (vs : List Value) → map (answer_to (finds_of found c) c.func.group) vs ≡ map (told_answer (told_by found) c.func c.pattern) vs
told-answers found c [] = refl
told-answers found c (v ∷ vs) = ap₂ (λ (w : Value) (ws : List Value). w ∷ ws) (ap (answer (found c.pattern) c.func.group) (same-text v)) (told-answers found c vs)

-- The answers fit the column of the call.

same-kind : (group : Option ℕ) → answer_kind group ≡ pattern_kind group
same-kind None = refl
same-kind (Some number) = refl

pub call-column : (marks name : List ℕ) (c : PatternCall) (kind : Kind) → name ≡ name_of_call marks c → kind ≡ answer_kind c.func.group → record { name = name; kind = kind } ≡ column_of_call marks c
call-column marks name c kind n k = ap₂ (λ (m : List ℕ) (j : Kind). record { name = m; kind = j }) n (k ∙ same-kind c.func.group)

answer-fits : (group : Option ℕ) (name : List ℕ) (v : Value) → IsOfKind (answer_kind group) v → CellFits (record { name = name; kind = pattern_kind group }) v
answer-fits None name val.Null h = (tt, tt)
answer-fits None name (val.Bool b) h = (tt, tt)
answer-fits None name (val.Long n) h = absurd h
answer-fits None name (val.Text t) h = absurd h
answer-fits None name (val.Moment n) h = absurd h
answer-fits None name (val.Span n) h = absurd h
answer-fits None name (val.Dynamic d) h = absurd h
answer-fits (Some g) name val.Null h = absurd h
answer-fits (Some g) name (val.Bool b) h = absurd h
answer-fits (Some g) name (val.Long n) h = absurd h
answer-fits (Some g) name (val.Text t) h = (tt, tt)
answer-fits (Some g) name (val.Moment n) h = absurd h
answer-fits (Some g) name (val.Span n) h = absurd h
answer-fits (Some g) name (val.Dynamic d) h = absurd h

pub answers-fit : (marks : List ℕ) (c : PatternCall) (column : Column) (vs : List Value) → column ≡ column_of_call marks c → All (IsOfKind (answer_kind c.func.group)) vs → All (CellFits column) vs
answers-fit marks c column vs e h = subst (λ (x : Column). All (CellFits x) vs) (sym e) (λ k d lt. answer-fits c.func.group (name_of_call marks c) (get_or vs k d) (h k d lt))

-- Columns added so far.

added-more : (marks : List ℕ) (cs : List PatternCall) (c : PatternCall) → added_columns marks (cs ++ c ∷ []) ≡ added_columns marks cs ++ column_of_call marks c ∷ []
unfolding added_columns
added-more marks cs c = map-append (column_of_call marks) cs (c ∷ [])

added-split : (marks : List ℕ) (calls : List PatternCall) (i : ℕ) (d : PatternCall) → i < length calls → added_columns marks calls ≡ added_columns marks (take i calls) ++ column_of_call marks (get_or calls i d) ∷ added_columns marks (drop (suc i) calls)
unfolding added_columns
added-split marks calls i d lt = ap (map (column_of_call marks)) (split_at calls i d lt) ∙ map-append (column_of_call marks) (take i calls) (get_or calls i d ∷ drop (suc i) calls)

pub columns-none : (marks : List ℕ) (columns : List Column) → columns ≡ columns ++ added_columns marks []
unfolding added_columns
columns-none marks columns = sym (append-nil columns)

module _ (marks : List ℕ) (base : Grid) (calls : List PatternCall) (i : ℕ) (call : PatternCall) (lt : i < length calls) (is : call ≡ get_or calls i call) where
  next-calls : take (i + 1) calls ≡ take i calls ++ call ∷ []
  next-calls = take_more calls i call lt ∙ ap (λ (c : PatternCall). take i calls ++ c ∷ []) (sym is)

  pub columns-more : (before after : List Column) (column : Column) → column ≡ column_of_call marks call → before ≡ base.columns ++ added_columns marks (take i calls) → after ≡ before ++ column ∷ [] → after ≡ base.columns ++ added_columns marks (take (i + 1) calls)
  columns-more before after column e b a =
      a ∙ (ap₂ (λ (xs : List Column) (x : Column). xs ++ x ∷ []) b e
      ∙ (append_assoc base.columns (added_columns marks (take i calls)) (column_of_call marks call ∷ [])
      ∙ ap (λ (xs : List Column). base.columns ++ xs) (sym (added-more marks (take i calls) call) ∙ ap (added_columns marks) (sym next-calls))))

  pub name-absent : (before : List Column) (column : Column) → IsReady marks base calls → column ≡ column_of_call marks call → before ≡ base.columns ++ added_columns marks (take i calls) → IsAbsent column_name column.name before
  name-absent before column ready e b =
      let behind = added_columns marks (drop (suc i) calls) in
      let whole : base.columns ++ added_columns marks calls ≡ before ++ column ∷ behind =
      ap (λ (xs : List Column). base.columns ++ xs) (added-split marks calls i call lt)
      ∙ (sym (append_assoc base.columns (added_columns marks (take i calls)) (column_of_call marks (get_or calls i call) ∷ behind))
      ∙ (ap (λ (xs : List Column). xs ++ column_of_call marks (get_or calls i call) ∷ behind) (sym b)
      ∙ ap (λ (x : Column). before ++ x ∷ behind) (ap (column_of_call marks) (sym is) ∙ sym e))) in
      absent-before column_name (base.columns ++ added_columns marks calls) before column behind whole ready.names

  row-full : IsGrid base → (k : ℕ) → k < length base.lines → length (row_at base.lines k) ≡ length base.columns
  row-full grid k within = length-RowFits base.columns (row_at base.lines k) (grid k [] within)

  -- The table with the answers of the next call.
  pub table-more : (found : Found) (find : List ℕ → Option (List (Option Span))) (before after : Grid) (column : Column) (values : List Value) (j : ℕ) → IsGrid base → place_of column_name call.column base.columns ≡ Some j → j < length base.columns → find ≡ finds_of found call → values ≡ map (answer_to find call.func.group) (column_at base.lines j) → column ≡ column_of_call marks call → before ≡ derived_table (told_by found) marks (take i calls) base → after ≡ record { columns = before.columns ++ column ∷ []; lines = widened before.lines values } → after ≡ derived_table (told_by found) marks (take (i + 1) calls) base
  table-more found find before after column values j grid at within f v e b a =
      let told : values ≡ map (told_answer (told_by found) call.func call.pattern) (column_at base.lines j) =
      v ∙ (ap (λ (g : List ℕ → Option (List (Option Span))). map (answer_to g call.func.group) (column_at base.lines j)) f ∙ told-answers found call (column_at base.lines j)) in
      a
      ∙ (ap₂ (λ (t : Grid) (x : Column). with_column t x values) b e
      ∙ (one_is_added (told_by found) marks (take i calls) call base j values at within (row-full grid) told
      ∙ ap (λ (cs : List PatternCall). derived_table (told_by found) marks cs base) (sym next-calls)))

pub table-none : (found : Found) (marks : List ℕ) (base : Grid) → base ≡ derived_table (told_by found) marks [] base
table-none found marks base = sym (none_is_added (told_by found) marks base)

-- As many rows.

pub as-many : (lines : List (List Value)) (values : List Value) → length values ≡ length lines → length (widened lines values) ≡ length lines
unfolding beside
as-many [] values e = refl
as-many (row ∷ rows) [] e = absurd (omega (arith, e))
as-many (row ∷ rows) (v ∷ vs) e = ap suc (as-many rows vs (omega (arith, e)))

-- The pattern at a place.

pub finds-at : {M : Type 0} (finds : M → List ℕ → Option (List (Option Span))) (found : Found) (made : List M) (calls : List PatternCall) (i : ℕ) (m : M) (c : PatternCall) → map finds made ≡ map (finds_of found) calls → i < length made → i < length calls → m ≡ get_or made i m → c ≡ get_or calls i c → finds m ≡ finds_of found c
finds-at finds found made calls i m c e lt ltc is isc =
    ap finds is
    ∙ (sym (get_or-map finds made i m (finds m) lt)
    ∙ (ap (λ (xs : List (List ℕ → Option (List (Option Span)))). get_or xs i (finds m)) e
    ∙ (get_or-map (finds_of found) calls i c (finds m) ltc ∙ ap (finds_of found) (sym isc))))
