-- The string columns: one column, and one more.
use Rattle.std.proofs.Common.{◌≡◌, ◌<◌, ◌+◌, ◌++◌, ℕ, Bool, true, false, List, [], ◌∷◌, map, filter, take, get_or, length, append-nil, refl, sym, ap, ◌∙◌}
use Rattle.std.proofs.lemmas.List.{map-append}
use Rattle.std.specs.Prelude.{cond}
use Rattle.std.proofs.lemmas.List.Elements.{filter_more}
use Rattle.kql_cells.specs.declared.schema.Column.{Column}
use Rattle.kql_cells.specs.declared.value.Kind.TheVariants as kind
use Rattle.kql_functions.specs.Kinds.{same_kind}
use Rattle.pattern_laws.specs.Liftable.{text_columns}

abbrev named : List Column → List (List ℕ)
named = map (λ (c : Column). c.name)

one-by : (c : Column) (b : Bool) → same_kind c.kind kind.Text ≡ b → text_columns (c ∷ []) ≡ named (cond b (c ∷ []) [])
unfolding text_columns
one-by c b e = ap (λ x. named (cond x (c ∷ []) [])) e

-- A column that is none.
pub no-text : (c : Column) (names : List (List ℕ)) (b : Bool) → b ≡ same_kind c.kind kind.Text → b ≡ false → names ≡ names ++ text_columns (c ∷ [])
no-text c names b is f = sym (ap (λ ts. names ++ ts) (one-by c false (sym is ∙ f)) ∙ append-nil names)

-- One that is.
pub one-text : (c : Column) (names : List (List ℕ)) (b : Bool) → b ≡ same_kind c.kind kind.Text → b ≡ true → names ++ c.name ∷ [] ≡ names ++ text_columns (c ∷ [])
one-text c names b is t = sym (ap (λ ts. names ++ ts) (one-by c true (sym is ∙ t)))

pub ruleset text_steps = (no-text, one-text)

-- None, and one column more.
pub text-none : text_columns [] ≡ []
unfolding text_columns
text-none = refl

pub text-turn : (cs : List Column) (i : ℕ) (d : Column) (all next : List (List ℕ)) → i < length cs → all ≡ text_columns (take i cs) → next ≡ all ++ text_columns (get_or cs i d ∷ []) → next ≡ text_columns (take (i + 1) cs)
unfolding text_columns
text-turn cs i d all next l is made =
    made
    ∙ (ap (λ ns. ns ++ text_columns (get_or cs i d ∷ [])) is
    ∙ sym (ap named (filter_more (λ (c : Column). same_kind c.kind kind.Text) cs i d l)
    ∙ map-append (λ (c : Column). c.name) (filter (λ (c : Column). same_kind c.kind kind.Text) (take i cs)) (cond (same_kind (get_or cs i d).kind kind.Text) (get_or cs i d ∷ []) [])))

pub ruleset texts_steps = (text-none)
