-- An array of texts is well formed.
use Rattle.std.proofs.Common.{◌≡◌, ℕ, true, List, [], ◌∷◌, map, refl}
use Rattle.std.specs.List.{list_all}
use Rattle.std.proofs.lemmas.Bool.{and_from}
use Rattle.kql_dynamic.proofs.FormLaws.{array-form, fits, fits-Text}
use Rattle.kql_texts.specs.Texts.{elements}
use Rattle.kql_cells.specs.Values.{IsWellFormed}
use Rattle.kql_cells.specs.declared.dynamic.Dyn.{Dyn}
use Rattle.kql_cells.specs.declared.dynamic.Dyn.TheVariants as V
use Rattle.kql_cells.specs.declared.value.Value.TheVariants as value

texts_fit : (ts : List (List ℕ)) → list_all (fits 126) (map V.Text ts) ≡ true
texts_fit [] = refl
texts_fit (t ∷ ts) = and_from (fits 126 (V.Text t)) (list_all (fits 126) (map V.Text ts)) (fits-Text 126 t) (texts_fit ts)

pub texts_form : (ts : List (List ℕ)) → IsWellFormed (value.Dynamic (V.Array (elements ts)))
texts_form ts = array-form (elements ts) (texts_fit ts)

pub pieces_form : (ts : List (List ℕ)) (ds : List Dyn) → ds ≡ elements ts → IsWellFormed (value.Dynamic (V.Array ds))
pieces_form ts ds e = rw e (texts_form ts)
