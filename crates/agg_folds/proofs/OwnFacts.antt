-- Different values that are put into a set one by one are its values.
use Rattle.std.proofs.Common.{◌≡◌, Bool, false, not, List, [], ◌∷◌, filter, refl, ap, sym, ◌∙◌}
use Rattle.std.specs.Prelude.{fold}
use Rattle.std.specs.List.{AllByRecursion, IsDistinct}
use Rattle.indexmap.specs.IndexSet.{insert_key}
use Rattle.kql_cells.specs.Keys.{same_key}
use Rattle.kql_cells.specs.declared.value.Value.{Value}
use Rattle.kql_meaning.specs.Tables.{distinct_by}
use Rattle.agg_folds.proofs.JoinLaws.{distinct-append}

all-differ : (x : Value) (vs : List Value) → AllByRecursion (λ y. same_key x y ≡ false) vs → filter (λ y. not (same_key x y)) vs ≡ vs
all-differ x [] h = refl
all-differ x (v ∷ vs) h = rw h.0 (ap (λ ws. v ∷ ws) (all-differ x vs h.1))

distinct-stay : (vs : List Value) → IsDistinct same_key vs → distinct_by same_key vs ≡ vs
unfolding distinct_by IsDistinct
distinct-stay [] h = refl
distinct-stay (v ∷ vs) h = ap (λ ws. v ∷ filter (λ y. not (same_key v y)) ws) (distinct-stay vs h.1) ∙ ap (λ ws. v ∷ ws) (all-differ v vs h.0)

pub put-again : (vs : List Value) → IsDistinct same_key vs → fold (insert_key same_key) [] vs ≡ vs
unfolding distinct_by
put-again vs h = sym (distinct-append [] vs) ∙ distinct-stay vs h

pub ruleset own_facts = (put-again)
