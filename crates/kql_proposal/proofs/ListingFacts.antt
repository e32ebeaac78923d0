-- The columns of the listing, and that its rows fit them.
use Rattle.std.proofs.Common.{◌≡◌, ◌≢◌, ◌∙◌, ℕ, ℤ, List, [], ◌∷◌, get_or, refl, ap, subst, sym, arith}
use Rattle.std.specs.Prelude.{Option, None, Some, codes}
use Rattle.std.specs.List.{AllPairs}
use Rattle.std.proofs.lemmas.List.Elements.{All-cons, All-nil}
use Rattle.std.proofs.lemmas.List.Kept.{AllPairs-cons}
use Rattle.kql_cells.specs.Named.{HasDistinctNames, column_name}
use Rattle.kql_cells.specs.Table.{RowFits}
use Rattle.kql_cells.specs.declared.schema.Column.{Column}
use Rattle.kql_cells.specs.declared.value.Kind.TheVariants as kind
use Rattle.kql_cells.specs.declared.value.Value.{Value}
use Rattle.kql_proposal.specs.Listing.{column, count_value, listing_columns, row_of}

-- No two columns have one name: letters at one place differ.
abbrev Apart : Column → Column → Type 0
Apart c d = column_name c ≢ column_name d

letters : (c d : Column) (k x y : ℕ) → get_or c.name k 0 ≡ x → get_or d.name k 0 ≡ y → (x ≡ y → ⊥) → Apart c d
letters c d k x y p q n e = n (sym p ∙ (ap (λ (t : List ℕ). get_or t k 0) e ∙ q))

abbrev table : Column
table = column (codes "Table") kind.Text

abbrev name : Column
name = column (codes "Column") kind.Text

abbrev type : Column
type = column (codes "Type") kind.Text

abbrev rows : Column
rows = column (codes "Rows") kind.Long

columns-differ : HasDistinctNames column_name listing_columns
columns-differ =
    let t-n : Apart table name = letters table name 0 84 67 refl refl (λ e. absurd (omega (arith, e))) in
    let t-t : Apart table type = letters table type 1 97 121 refl refl (λ e. absurd (omega (arith, e))) in
    let t-r : Apart table rows = letters table rows 0 84 82 refl refl (λ e. absurd (omega (arith, e))) in
    let n-t : Apart name type = letters name type 0 67 84 refl refl (λ e. absurd (omega (arith, e))) in
    let n-r : Apart name rows = letters name rows 0 67 82 refl refl (λ e. absurd (omega (arith, e))) in
    let y-r : Apart type rows = letters type rows 0 84 82 refl refl (λ e. absurd (omega (arith, e))) in
    let none : AllPairs Apart [] = λ i j d lt le. absurd (omega (arith, lt, le)) in
    AllPairs-cons Apart table (name ∷ type ∷ rows ∷ [])
    (All-cons (Apart table) name (type ∷ rows ∷ []) t-n (All-cons (Apart table) type (rows ∷ []) t-t (All-cons (Apart table) rows [] t-r (All-nil (Apart table)))))
    (AllPairs-cons Apart name (type ∷ rows ∷ [])
    (All-cons (Apart name) type (rows ∷ []) n-t (All-cons (Apart name) rows [] n-r (All-nil (Apart name))))
    (AllPairs-cons Apart type (rows ∷ []) (All-cons (Apart type) rows [] y-r (All-nil (Apart type)))
    (AllPairs-cons Apart rows [] (All-nil (Apart rows)) none)))

pub distinct : (columns : List Column) → columns ≡ listing_columns → HasDistinctNames column_name columns
distinct columns e = subst (λ (cs : List Column). HasDistinctNames column_name cs) (sym e) columns-differ

fits : (table : List ℕ) (count : Option ℤ) (c : Column) → RowFits listing_columns (row_of table (count_value count) c)
unfolding RowFits
fits table None c = ((tt, tt), ((tt, tt), ((tt, tt), ((tt, tt), tt))))
fits table (Some n) c = ((tt, tt), ((tt, tt), ((tt, tt), ((tt, tt), tt))))

pub row-fits : (columns : List Column) (row : List Value) (table : List ℕ) (count : Option ℤ) (c : Column) → columns ≡ listing_columns → row ≡ row_of table (count_value count) c → RowFits columns row
row-fits columns row table count c e r =
    subst (λ (cs : List Column). RowFits cs row) (sym e) (subst (λ (v : List Value). RowFits listing_columns v) (sym r) (fits table count c))

pub ruleset listing_facts = (distinct, row-fits)
