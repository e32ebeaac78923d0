-- The elements of an array that is well formed are well formed, and one operand of a list.
use Rattle.std.proofs.Common.{◌≡◌, ◌<◌, ◌-◌, ◌||◌, Bool, true, false, List, [], ◌∷◌, ◌∙◌, length, map, take, drop, refl, sym, arith}
use Rattle.std.specs.Prelude.{IsTrue, slice_index_or}
use Rattle.std.specs.List.{list_all, list_any}
use Rattle.std.proofs.lemmas.Bool.{and_from, and_parts}
use Rattle.kql_cells.specs.Dynamic.{is_well_formed_dynamic}
use Rattle.kql_cells.specs.Seen.{seen}
use Rattle.kql_cells.specs.declared.cell.CellRef.{CellRef}
use Rattle.kql_cells.specs.declared.dynamic.Dyn.{Dyn}
use Rattle.kql_cells.specs.declared.dynamic.Dyn.TheVariants as V
use Rattle.kql_cells.specs.declared.value.Value.{Value}
use Rattle.kql_dynamic.proofs.FormLaws.{fits, fits-Array, fits-weaker, value-form}
use Rattle.kql_scalar_fns.proofs.ArgumentFacts.{take-whole}

parts-weaker : (ds : List Dyn) → list_all (fits 126) ds ≡ true → list_all is_well_formed_dynamic ds ≡ true
parts-weaker [] h = refl
parts-weaker (d ∷ ds) h =
    let both = and_parts (fits 126 d) (list_all (fits 126) ds) h in
    and_from (is_well_formed_dynamic d) (list_all is_well_formed_dynamic ds) (fits-weaker d both.0) (parts-weaker ds both.1)

pub parts-form : (ds : List Dyn) → IsTrue (is_well_formed_dynamic (V.Array ds)) → IsTrue (list_all is_well_formed_dynamic ds)
parts-form ds h = parts-weaker ds (sym (fits-Array ds) ∙ h)

pub ruleset element_facts = (parts-form)

pub ruleset cell_facts = (value-form)

-- An operand of which nothing is alike.
pub none-step : (p : Value → Bool) (cells : List CellRef) (x : CellRef) → x ≡ slice_index_or cells 0 x → 0 < length cells → p (seen x) ≡ false → list_any p (map seen (take (length cells - 1) (drop 1 cells))) ≡ list_any p (map seen cells)
none-step p [] x e l f = absurd (omega arith)
none-step p (c ∷ cs) x e l f = rw (take-whole cs (length (c ∷ cs) - 1) (omega arith), ← e, f) refl
