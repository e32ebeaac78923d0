-- The count of rows.
use Rattle.std.proofs.Common.{◌≡◌, ◌<◌, ◌^◌, true, List, [], ◌∷◌, ◌++◌, length, refl, sym, ap, ◌∙◌, arith}
use Rattle.std.specs.Prelude.{codes, pos, ℤ, nat_lt}
use Rattle.kql_ticks.specs.Ranges.{fit}
use Rattle.kql_cells.specs.Named.{HasDistinctNames, column_name}
use Rattle.kql_cells.specs.Table.{Grid, RowFits}
use Rattle.kql_cells.specs.declared.schema.Column.{Column}
use Rattle.kql_cells.specs.declared.value.Kind.TheVariants as kind
use Rattle.kql_cells.specs.declared.value.Value.TheVariants as value
use Rattle.kql_meaning.specs.Numbers.{counted}
use Rattle.kql_meaning.specs.TakeAndCount.{count_columns, count_table}
use Rattle.kql_meaning.proofs.MemberLaws.{pairs-of}

names-differ : HasDistinctNames column_name count_columns
unfolding count_columns
names-differ = pairs-of (λ c d. column_name c ≡ column_name d → ⊥) (record { name = codes "Count"; kind = kind.Long } ∷ []) (tt, tt)

pub count-names : (cs : List Column) → cs ≡ count_columns → HasDistinctNames column_name cs
count-names cs is = rw is names-differ

pub count-fits : (cs : List Column) (n : ℤ) → cs ≡ count_columns → RowFits cs (value.Long n ∷ [])
unfolding count_columns RowFits
count-fits cs n is = rw is ((tt, tt), tt)

pub count-value : {X : Type 0} (xs : List X) → length xs < 2 ^ 63 → counted xs ≡ value.Long (pos (length xs))
unfolding counted fit
count-value xs lt = let test : nat_lt (length xs) (2 ^ 63) ≡ true = grind (arith, lt) in rw test refl

pub counted-table : (t empty made : Grid) (cs : List Column) (n : ℤ) → cs ≡ count_columns → n ≡ pos (length t.lines) → length t.lines < 2 ^ 63 → empty ≡ record { columns = cs; lines = [] } → made ≡ record empty { lines = empty.lines ++ (value.Long n ∷ []) ∷ [] } → made ≡ count_table t
unfolding count_table
counted-table t empty made cs n is number lt none e =
    e ∙ (ap (λ (g : Grid). record g { lines = g.lines ++ (value.Long n ∷ []) ∷ [] }) none
    ∙ (ap (λ ds. record { columns = ds; lines = (value.Long n ∷ []) ∷ [] }) is
    ∙ ap (λ v. record { columns = count_columns; lines = (v ∷ []) ∷ [] }) (ap (λ m. value.Long m) number ∙ sym (count-value t.lines lt))))

pub ruleset count_steps = (count-names, count-fits)
