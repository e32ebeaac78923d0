-- Elements are well formed where the values are.
use Rattle.std.proofs.Common.{ℕ, Bool, List, rules}
use Rattle.std.specs.Prelude.{ℤ, IsTrue}
use Rattle.kql_dynamic.proofs.FormLaws.{fits-Null, fits-Bool, fits-Long, fits-Text}
use Rattle.kql_cells.specs.Dynamic.{is_well_formed_dynamic}
use Rattle.kql_cells.specs.declared.dynamic.Dyn.TheVariants as V

pub form-Null : IsTrue (is_well_formed_dynamic V.Null)
form-Null = search (rules, fits-Null 127)

pub form-Bool : (b : Bool) → IsTrue (is_well_formed_dynamic (V.Bool b))
form-Bool b = search (rules, fits-Bool 127 b)

pub form-Long : (n : ℤ) → IsTrue (is_well_formed_dynamic (V.Long n))
form-Long n = search (rules, fits-Long 127 n)

pub form-Text : (t : List ℕ) → IsTrue (is_well_formed_dynamic (V.Text t))
form-Text t = search (rules, fits-Text 127 t)

pub ruleset element_facts = (form-Null, form-Bool, form-Long, form-Text)
