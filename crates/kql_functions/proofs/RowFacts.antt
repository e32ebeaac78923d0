-- A search through the rows of a table.
use Rattle.std.proofs.Common.{◌≡◌, List, [], ◌∷◌, refl}
use Rattle.std.specs.Prelude.{None, Some}
use Rattle.kql_cells.specs.declared.value.Kind.{Kind}
use Rattle.kql_functions.specs.Kinds.{row, rows}

-- the first row fits
pub row-fits : (ks : List Kind) (r : List Kind × Kind) (more : List (List Kind × Kind)) (k : Kind) → row ks r.0 r.1 ≡ Some k → rows ks (r ∷ more) ≡ Some k
row-fits ks r [] k e = e
row-fits ks r (s ∷ more) k e = rw e refl

-- the first row does not
pub row-passed : (ks : List Kind) (r : List Kind × Kind) (more : List (List Kind × Kind)) → row ks r.0 r.1 ≡ None → rows ks (r ∷ more) ≡ rows ks more
row-passed ks r [] e = e
row-passed ks r (s ∷ more) e = rw e refl

pub ruleset row_facts = (row-fits, row-passed)
