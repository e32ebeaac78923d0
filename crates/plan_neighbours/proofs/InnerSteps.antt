-- A filter under inner names, from the names that it reads.
use Rattle.std.proofs.Common.{◌≡◌, ℕ, Bool, true, false, List, [], ◌∷◌, refl, sym, ap, ap₂, ◌∙◌}
use Rattle.std.specs.Prelude.{Option, None, Some, is_some}
use Rattle.kql_bound.specs.declared.expr.BExpr.{BExpr}
use Rattle.kql_bound.specs.declared.parts.BItem.{BItem}
use Rattle.kql_bound.specs.declared.plan.Op.{Op}
use Rattle.kql_meaning.specs.RowByRow.{is_plain}
use Rattle.plan_rules.specs.OwnNames.{inner_name}
use Rattle.plan_rules.specs.Reads.{reads_only}
use Rattle.plan_rules.specs.Rules.{when}
use Rattle.plan_terms.specs.NamesRead.{names_read}
use Rattle.plan_terms.specs.Renames.{inner_names}
use Rattle.plan_terms.proofs.RenameLaws.{inner-none}

quiet : (b : Bool) (w : List Op) → b ≡ false → None ≡ when b w
quiet true w e = absurd cc
quiet false w e = refl

pub inside-none : (items now : List BItem) (e : BExpr) (read : List (List ℕ)) (o : Option (List (List ℕ))) (w : List Op) → now ≡ items → read ≡ names_read e → is_plain e ≡ true → o ≡ inner_names now read → o ≡ None → None ≡ when (reads_only (λ n. is_some (inner_name items n)) e) w
inside-none items now e read o w a b r h n =
    quiet (reads_only (λ n. is_some (inner_name items n)) e) w (inner-none items e r (ap₂ inner_names (sym a) (sym b) ∙ (sym h ∙ n)))
