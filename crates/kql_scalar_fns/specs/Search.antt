-- Searches for a text in another.
use Rattle.std.specs.Prelude.{ℕ, Bool, true, false, not, List, Option, None, Some, option_map}
use Rattle.kql_texts.specs.declared.folding.Fold.{Fold}
use Rattle.kql_texts.specs.Folding.{folded}
use Rattle.kql_texts.specs.Texts.{begins, ends, has_term, holds}
use Rattle.kql_cells.specs.declared.value.Value.{Value}
use Rattle.kql_cells.specs.declared.value.Value.TheVariants as value
use Rattle.kql_functions.specs.declared.func.SearchFunc.{SearchFunc}
use Rattle.kql_functions.specs.declared.func.SearchPlace.{SearchPlace}
use Rattle.kql_functions.specs.declared.func.SearchPlace.TheVariants as place
use Rattle.kql_scalar_fns.specs.Arguments.{argument, bool_or_null}

-- whether p stands at its place in t
unfoldable pub stands : SearchPlace → List ℕ → List ℕ → Bool
stands place.Anywhere t p = holds t p
stands place.Start t p = begins t p
stands place.End t p = ends t p
stands place.Term t p = has_term t p

-- whether one text stands in another, read with case or without
unfoldable pub found : SearchPlace → Fold → Value → Value → Option Bool
found place fold (value.Text t) (value.Text p) = Some (stands place (folded fold t) (folded fold p))
found place fold _ _ = None

abbrev pub turned_if : Bool → Bool → Bool
turned_if true b = not b
turned_if false b = b

-- what each search gives
unfoldable pub search_call : SearchFunc → List Value → Value
search_call f args = bool_or_null (option_map (turned_if f.negated) (found f.place f.fold (argument args 0) (argument args 1)))
