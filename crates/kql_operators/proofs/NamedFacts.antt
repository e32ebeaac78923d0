-- Names that an `=` follows.
use Rattle.std.proofs.Common.{ℕ, ◌≡◌, List, [], ◌∷◌, subst}
use Rattle.kql_lexer.specs.declared.token.Token.{Token}
use Rattle.kql_syntax.specs.declared.class.Class.TheVariants as class
use Rattle.kql_syntax.specs.declared.tree.Name.{Name}
use Rattle.kql_syntax.specs.Levels.{Level}
use Rattle.kql_syntax.specs.Forms.{level, mark}
use Rattle.kql_syntax.specs.Derives.{Found, Refused}
use Rattle.kql_syntax.proofs.ReadingLaws.{found_end, found_refused}
use Rattle.kql_operators.specs.Named.{Named}

-- where a name and an `=` stand, no `=` is missing after the name
pub named_refused : {s : List Token} {i k e : ℕ} {m : Name} → Named s i → Found (level Level.Name) s i k m → Refused (mark (class.Assign ∷ [])) s k e → ⊥
named_refused {s = s} {k = k} {e = e} n f r =
    let same : k ≡ n.middle = found_end f n.name in
    found_refused n.assign (subst (λ (j : ℕ). Refused (mark (class.Assign ∷ [])) s j e) same r)
