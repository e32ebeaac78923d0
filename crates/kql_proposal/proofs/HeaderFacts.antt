-- Columns with other types have the same names.
use Rattle.std.proofs.Common.{◌≡◌, ◌<◌, ◌-◌, ◌∙◌, ℕ, zero, suc, List, [], ◌∷◌, ◌++◌, drop, take, length, get_or, refl, ap, subst, sym, arith}
use Rattle.std.proofs.lemmas.List.{length-drop, take_all}
use Rattle.kql_cells.specs.Named.{HasDistinctNames, column_name}
use Rattle.kql_cells.specs.declared.schema.Column.{Column}
use Rattle.kql_cells.specs.declared.value.Kind.{Kind}
use Rattle.kql_proposal.specs.Headed.{kinds_given}

given-length : (cs : List Column) (ks : List Kind) → length (kinds_given cs ks) ≡ length cs
given-length [] ks = refl
given-length (c ∷ cs) [] = ap suc (given-length cs [])
given-length (c ∷ cs) (k ∷ ks) = ap suc (given-length cs ks)

given-name : (cs : List Column) (ks : List Kind) (i : ℕ) (d : Column) → i < length cs → column_name (get_or (kinds_given cs ks) i d) ≡ column_name (get_or cs i d)
given-name [] ks i d lt = absurd (omega (arith, lt))
given-name (c ∷ cs) [] zero d lt = refl
given-name (c ∷ cs) (k ∷ ks) zero d lt = refl
given-name (c ∷ cs) [] (suc i) d lt = given-name cs [] i d (omega (arith, lt))
given-name (c ∷ cs) (k ∷ ks) (suc i) d lt = given-name cs ks i d (omega (arith, lt))

pub given-distinct : (cs : List Column) (ks : List Kind) (made : List Column) → made ≡ kinds_given cs ks → HasDistinctNames column_name cs → HasDistinctNames column_name made
given-distinct cs ks made e h =
    let there : HasDistinctNames column_name (kinds_given cs ks) = λ i j d lt le same.
    let within : j < length cs = omega (arith, le, given-length cs ks) in
    h i j d lt within (sym (given-name cs ks i d (omega (arith, lt, within))) ∙ (same ∙ given-name cs ks j d within)) in
    subst (λ (xs : List Column). HasDistinctNames column_name xs) (sym e) there

-- a file from a place on
rest-of : (bytes : List ℕ) (n : ℕ) → take (length bytes - n) (drop n bytes) ≡ drop n bytes
rest-of bytes n =
    let size = length-drop n bytes in
    take_all (length bytes - n) (drop n bytes) (omega arith)

-- a header and a file from a place on
pub headed : (bytes header base text : List ℕ) (n : ℕ) → base ≡ header → text ≡ base ++ take (length bytes - n) (drop n bytes) → (x : ℕ) × (text ≡ header ++ drop x bytes)
headed bytes header base text n e h = (n, h ∙ ap (λ t. t ++ take (length bytes - n) (drop n bytes)) e ∙ ap (λ t. header ++ t) (rest-of bytes n))

pub ruleset header_facts = (given-distinct)
