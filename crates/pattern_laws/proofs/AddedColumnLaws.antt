-- A derived table, column by column.
use Rattle.std.proofs.Common.{◌≡◌, ◌<◌, ℕ, zero, suc, List, [], ◌∷◌, ◌++◌, length, map, refl, sym, ap, ap₂, ◌∙◌, append_assoc, append-nil, arith}
use Rattle.std.specs.Prelude.{Some, slice_get, slice_index_or}
use Rattle.kql_cells.specs.Named.{column_name, place_of}
use Rattle.kql_cells.specs.Seen.{row_at, value_at}
use Rattle.kql_cells.specs.Table.{Grid}
use Rattle.kql_cells.specs.declared.schema.Column.{Column}
use Rattle.kql_cells.specs.declared.value.Value.{Value}
use Rattle.kql_cells.specs.declared.value.Value.TheVariants as value
use Rattle.kql_values.specs.Grids.{column_at}
use Rattle.kql_values.specs.Moves.{beside, widened}
use Rattle.kql_meaning.specs.Tables.{absent_in, cell, cell_in, places}
use Rattle.kql_meaning.proofs.RowByRowLaws.{rows-at-all}
use Rattle.pattern_lift.specs.declared.calls.PatternCall.{PatternCall}
use Rattle.pattern_lift.specs.Derived.{added_columns}
use Rattle.pattern_laws.specs.AddedColumns.{NoneIsAdded, OneIsAdded, column_of_call}
use Rattle.pattern_laws.specs.Meaning.{Told, answer_to}
use Rattle.pattern_laws.specs.Tables.{call_answer, derived_table, row_answers}
use Rattle.pattern_laws.proofs.BesideLaws.{map-members, place-below}

map-append-of : {X Y : Type 0} (f : X → Y) (xs ys : List X) → map f (xs ++ ys) ≡ map f xs ++ map f ys
map-append-of f [] ys = refl
map-append-of f (x ∷ xs) ys = ap (λ zs. f x ∷ zs) (map-append-of f xs ys)

map-twice : {X Y Z : Type 0} (f : X → Y) (g : Y → Z) (xs : List X) → map g (map f xs) ≡ map (λ x. g (f x)) xs
map-twice f g [] = refl
map-twice f g (x ∷ xs) = ap (λ zs. g (f x) ∷ zs) (map-twice f g xs)

beside-maps : {X Y : Type 0} (f g : X → List Y) (xs : List X) → beside (map f xs) (map g xs) ≡ map (λ x. f x ++ g x) xs
unfolding beside
beside-maps f g [] = refl
beside-maps f g (x ∷ xs) = ap (λ zs. (f x ++ g x) ∷ zs) (beside-maps f g xs)

index-default : (xs : List Value) (j : ℕ) (d e : Value) → j < length xs → slice_index_or xs j d ≡ slice_index_or xs j e
index-default [] j d e lt = absurd (omega arith)
index-default (x ∷ xs) zero d e lt = refl
index-default (x ∷ xs) (suc j) d e lt = index-default xs j d e (omega arith)

pub none_is_added : NoneIsAdded
unfolding derived_table added_columns row_answers
none_is_added told marks t =
    ap₂ (λ (cs : List Column) (ls : List (List Value)). record { columns = cs; lines = ls }) (append-nil t.columns)
    (map-members (λ i. row_at t.lines i ++ []) (row_at t.lines) (places t) (λ i m. append-nil (row_at t.lines i)) ∙ rows-at-all t)

module _ (told : Told) (marks : List ℕ) (cs : List PatternCall) (c : PatternCall) (t : Grid) (j : ℕ) (at : place_of column_name c.column t.columns ≡ Some j) (within : j < length t.columns) (full : (i : ℕ) → i < length t.lines → length (row_at t.lines i) ≡ length t.columns) where
  abbrev told_of : Value → Value
  told_of v = answer_to told c.func c.pattern v

  cell-read : (i : ℕ) → i < length t.lines → cell t i c.column ≡ value_at (row_at t.lines i) j
  unfolding cell cell_in
  cell-read i lt =
      let long = full i lt in
      ap (cell_in t i) at ∙ index-default (row_at t.lines i) j (absent_in (slice_get t.columns j)) value.Null (omega (arith, long, within))

  answers-behind : (i : ℕ) → row_answers told (cs ++ c ∷ []) t i ≡ row_answers told cs t i ++ call_answer told t i c ∷ []
  unfolding row_answers
  answers-behind i = map-append-of (call_answer told t i) cs (c ∷ [])

  row-longer : (i : ℕ) → i < length t.lines → (row_at t.lines i ++ row_answers told cs t i) ++ told_of (value_at (row_at t.lines i) j) ∷ [] ≡ row_at t.lines i ++ row_answers told (cs ++ c ∷ []) t i
  row-longer i lt =
      ap (λ (v : Value). (row_at t.lines i ++ row_answers told cs t i) ++ told_of v ∷ []) (sym (cell-read i lt))
      ∙ (append_assoc (row_at t.lines i) (row_answers told cs t i) (call_answer told t i c ∷ []) ∙ ap (λ (vs : List Value). row_at t.lines i ++ vs) (sym (answers-behind i)))

  values-by-place : map (λ (v : Value). v ∷ []) (map told_of (column_at t.lines j)) ≡ map (λ (i : ℕ). told_of (value_at (row_at t.lines i) j) ∷ []) (places t)
  values-by-place =
      map-twice told_of (λ (v : Value). v ∷ []) (column_at t.lines j)
      ∙ (map-twice (λ (row : List Value). value_at row j) (λ (v : Value). told_of v ∷ []) t.lines
      ∙ (ap (map (λ (row : List Value). told_of (value_at row j) ∷ [])) (sym (rows-at-all t))
      ∙ map-twice (row_at t.lines) (λ (row : List Value). told_of (value_at row j) ∷ []) (places t)))

  lines-longer : widened (derived_table told marks cs t).lines (map told_of (column_at t.lines j)) ≡ (derived_table told marks (cs ++ c ∷ []) t).lines
  unfolding derived_table
  lines-longer =
      ap (beside (map (λ i. row_at t.lines i ++ row_answers told cs t i) (places t))) values-by-place
      ∙ (beside-maps (λ i. row_at t.lines i ++ row_answers told cs t i) (λ (i : ℕ). told_of (value_at (row_at t.lines i) j) ∷ []) (places t)
      ∙ map-members (λ i. (row_at t.lines i ++ row_answers told cs t i) ++ told_of (value_at (row_at t.lines i) j) ∷ []) (λ i. row_at t.lines i ++ row_answers told (cs ++ c ∷ []) t i) (places t)
      (λ i m. row-longer i (place-below t i m)))

  columns-longer : (derived_table told marks cs t).columns ++ column_of_call marks c ∷ [] ≡ (derived_table told marks (cs ++ c ∷ []) t).columns
  unfolding derived_table added_columns
  columns-longer = append_assoc t.columns (map (column_of_call marks) cs) (column_of_call marks c ∷ []) ∙ ap (λ (ds : List Column). t.columns ++ ds) (sym (map-append-of (column_of_call marks) cs (c ∷ [])))

pub one_is_added : OneIsAdded
one_is_added told marks cs c t j values at within full is =
    ap₂ (λ (ds : List Column) (ls : List (List Value)). record { columns = ds; lines = ls }) (columns-longer told marks cs c t j at within full)
    (ap (widened (derived_table told marks cs t).lines) is ∙ lines-longer told marks cs c t j at within full)
