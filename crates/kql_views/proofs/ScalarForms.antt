-- Scalars are well formed.
use Rattle.std.proofs.Common.{◌≡◌, Bool, true, ◌&&◌, ℕ, List, ap, ◌∙◌}
use Rattle.std.specs.Prelude.{ℤ, IsTrue, nat_le}
use Rattle.kql_cells.specs.Dynamic.{has_form, is_well_formed_dynamic, levels}
use Rattle.kql_cells.specs.declared.dynamic.Dyn.{Dyn}
use Rattle.kql_cells.specs.declared.dynamic.Dyn.TheVariants as V
use Rattle.kql_cells.proofs.FormLaws.{has_form-Bool, has_form-Long, has_form-Null, has_form-Text}
use Rattle.kql_cells.proofs.LevelLaws.{levels-Bool, levels-Long, levels-Null, levels-Text}

both : (d : Dyn) → has_form d ≡ true → levels d ≡ 0 → IsTrue (is_well_formed_dynamic d)
both d f l = ap (λ b. b && nat_le (levels d) 127) f ∙ ap (λ n. nat_le n 127) l

pub null-form : IsTrue (is_well_formed_dynamic V.Null)
null-form = both V.Null has_form-Null levels-Null

pub bool-form : (b : Bool) → IsTrue (is_well_formed_dynamic (V.Bool b))
bool-form b = both (V.Bool b) (has_form-Bool b) (levels-Bool b)

pub long-form : (n : ℤ) → IsTrue (is_well_formed_dynamic (V.Long n))
long-form n = both (V.Long n) (has_form-Long n) (levels-Long n)

pub text-form : (t : List ℕ) → IsTrue (is_well_formed_dynamic (V.Text t))
text-form t = both (V.Text t) (has_form-Text t) (levels-Text t)

pub ruleset scalar_forms = (null-form, bool-form, long-form, text-form)
