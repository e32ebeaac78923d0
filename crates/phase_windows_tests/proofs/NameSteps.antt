-- Columns whose names a test found to be different.
use Rattle.std.proofs.Common.{◌≡◌, ◌∙◌, ℕ, Bool, List, ap, subst, sym, true}
use Rattle.kql_cells.specs.Named.{HasDistinctNames, column_name}
use Rattle.kql_cells.specs.declared.schema.Column.{Column}
use Rattle.kql_meaning.specs.FittingOperators.{are_distinct}
use Rattle.kql_meaning.specs.Tables.{names_of}
use Rattle.kql_fit_laws.proofs.RowFacts.{names-differ}

pub names-found : (cs ds : List Column) (ns : List (List ℕ)) (b : Bool) → cs ≡ ds → ns ≡ names_of cs → b ≡ are_distinct ns → b ≡ true → HasDistinctNames column_name ds
names-found cs ds ns b same named is so = names-differ ds (ap (λ (es : List Column). are_distinct (names_of es)) (sym same) ∙ (ap are_distinct (sym named) ∙ (sym is ∙ so)))

pub ruleset name_steps = (names-found)
