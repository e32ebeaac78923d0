-- Columns that an operator leaves as they are: those whose names it does not set.
use Rattle.std.proofs.Common.{◌≡◌, ℕ, Bool, true, false, not, List, [], ◌++◌, refl, sym, ◌∙◌, inl, inr}
use Rattle.std.specs.Prelude.{cond}
use Rattle.std.proofs.lemmas.Bool.{cases_Bool}
use Rattle.kql_cells.specs.declared.schema.Column.{Column}
use Rattle.kql_cells.specs.declared.value.Value.{Value}
use Rattle.kql_meaning.specs.Expressions.{column_kind}
use Rattle.kql_meaning.specs.Items.{cells_in, without}
use Rattle.kql_meaning.specs.Tables.{cell, has_column, is_name_among}
use Rattle.kql_meaning.proofs.RowByRowLaws.{alone}
use Rattle.kql_meaning.proofs.NamedCells.{cell-named, has-append, kind-append, named, named-absent, named-made, without-alike}

pub not-among : (names : List (List ℕ)) (n : List ℕ) → not (is_name_among names n) ≡ true → is_name_among names n ≡ false
not-among names n h = elim (cases_Bool (is_name_among names n)) [
  | inl t ↦ let no : false ≡ true = rw t at h in absurd cc
  | inr f ↦ f
]

pub chosen : (b : Bool) (u v w : Value) → (b ≡ true → u ≡ w) → (b ≡ false → v ≡ w) → cond b u v ≡ w
chosen true u v w f g = f refl
chosen false u v w f g = g refl

chosen-bool : (b c : Bool) → c ≡ false → cond b true c ≡ b
chosen-bool true c e = refl
chosen-bool false c e = e

-- Columns in front of others of other names.
pub front-same : (ws ds cs : List Column) (n : List ℕ) → has_column n ws ≡ has_column n cs → column_kind n ws ≡ column_kind n cs → has_column n ds ≡ false → (has_column n cs ≡ has_column n (ws ++ ds)) × (column_kind n cs ≡ column_kind n (ws ++ ds))
front-same ws ds cs n has kind none =
    (sym (has-append ws ds n ∙ (chosen-bool (has_column n ws) (has_column n ds) none ∙ has)), sym (kind-append ws ds n ∙ (kinds (has_column n ws) refl ∙ kind)))
  where
    kinds : (b : Bool) → has_column n ws ≡ b → cond b (column_kind n ws) (column_kind n ds) ≡ column_kind n ws
    kinds true e = refl
    kinds false e = (named-absent ds [] n none).1 ∙ sym (named-absent ws [] n e).1

-- The columns that have none of these names, in front of others.

pub left-columns : (names : List (List ℕ)) (made cs : List Column) (n : List ℕ) → is_name_among names n ≡ false → has_column n made ≡ false → (has_column n cs ≡ has_column n (without names cs ++ made)) × (column_kind n cs ≡ column_kind n (without names cs ++ made))
left-columns names made cs n gone none = let q = without-alike names cs n gone in front-same (without names cs) made cs n q.0 q.1 none

pub left-cell : (names : List (List ℕ)) (made cs : List Column) (row more : List Value) (n : List ℕ) → is_name_among names n ≡ false → has_column n made ≡ false → cell (alone (without names cs ++ made) (cells_in (without names cs) (alone cs row) 0 ++ more)) 0 n ≡ cell (alone cs row) 0 n
unfolding cells_in
left-cell names made cs row more n gone none =
    let ws = without names cs in
    let there : has_column n ws ≡ has_column n cs = (without-alike names cs n gone).0 in
    cell-named (ws ++ made) (cells_in ws (alone cs row) 0 ++ more) n
    ∙ (named-made (λ m. cell (alone cs row) 0 m) ws made more n
    ∙ chosen (has_column n ws) (cell (alone cs row) 0 n) (named made more n) (cell (alone cs row) 0 n) (λ t. refl)
    (λ f. (named-absent made more n none).0 ∙ sym (cell-named cs row n ∙ (named-absent cs row n (sym there ∙ f)).0)))
