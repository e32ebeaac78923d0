-- Tables whose rows fit their columns, one after another.
use Rattle.std.proofs.Common.{◌≡◌, ℕ, List, [], ◌∷◌, length, sym, subst}
use Rattle.std.specs.Prelude.{All}
use Rattle.std.proofs.lemmas.List.{nil_from_length}
use Rattle.std.proofs.lemmas.List.Elements.{All-cons, All-nil}
use Rattle.kql_cells.specs.Catalogues.{Named}
use Rattle.kql_cells.specs.Table.{IsGrid}
use Rattle.kql_values.specs.Kept.{all_named, named_of}
use Rattle.kql_values.specs.declared.catalogue.Named as kept
use Rattle.pattern_run.specs.LawOfPatterns.{AreGrids}

pub all-grids : (left more : List kept.Named) (n : kept.Named) → left ≡ n ∷ more → IsGrid n.table → AreGrids (all_named more) → AreGrids (all_named left)
all-grids left more n is first others =
    subst (λ ns. AreGrids (all_named ns)) (sym is) (All-cons (λ (m : Named). IsGrid m.table) (named_of n) (all_named more) first others)

pub no-grids : (left : List kept.Named) → length left ≡ 0 → AreGrids (all_named left)
no-grids left none = subst (λ ns. AreGrids (all_named ns)) (sym (nil_from_length left none)) (All-nil (λ (m : Named). IsGrid m.table))
