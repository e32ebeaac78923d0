-- A filter or a `take` in front of an operator in place of one behind it.
use Rattle.std.proofs.Common.{◌≡◌, ℕ, Bool, true, List, [], ◌∷◌, sym, ap, ◌∙◌}
use Rattle.std.specs.Prelude.{Some}
use Rattle.kql_cells.specs.Table.{Grid}
use Rattle.kql_cells.specs.declared.schema.Column.{Column}
use Rattle.kql_bound.specs.declared.expr.BExpr.{BExpr}
use Rattle.kql_bound.specs.declared.plan.Op.{Op}
use Rattle.kql_bound.specs.declared.plan.Op.TheVariants as V
use Rattle.kql_meaning.specs.Fits.{Known, op_columns}
use Rattle.kql_meaning.specs.FittingOperators.{where_fits}
use Rattle.kql_meaning.specs.Plans.{World, op_means}
use Rattle.kql_meaning.specs.TakeAndCount.{take_table}
use Rattle.kql_meaning.specs.Where.{where_table}
use Rattle.kql_meaning.proofs.OperatorFitLaws.{op-Take, op-Where}
use Rattle.kql_fit_laws.proofs.RowFacts.{columns-some}
use Rattle.kql_fit_laws.specs.LawsOfPrograms.{Stands}
use Rattle.kql_fit_laws.specs.LawsOfRows.{IsTableOf}
use Rattle.plan_rules.proofs.PushExtend.{kept-if}
use Rattle.plan_rules.proofs.RuleViews.{pair-becomes, two-fit}
use Rattle.plan_rules.proofs.ShortRules.{take-means, where-means}
use Rattle.plan_rules.specs.Becomes.{Becomes}

-- The filter in front may be another, as under other names; what the operator makes may depend on the tables of a plan in it.
pub filter-front : (k : Known) (inside : Bool) (cs : List Column) (x : Op) (q r : BExpr) (f : World → Grid → Grid) → ((w : World) (t : Grid) → op_means x w t ≡ f w t) → ((mid : List Column) → op_columns x k inside cs ≡ Some mid → where_fits q mid ≡ true → where_fits r cs ≡ true) → ((mid : List Column) → op_columns x k inside cs ≡ Some mid → (w : World) (t : Grid) → Stands k w → IsTableOf cs t → where_table q (f w t) ≡ f w (where_table r t)) → Becomes k inside cs (x ∷ V.Where q ∷ []) (V.Where r ∷ x ∷ [])
filter-front k inside cs x q r f mean fit same = pair-becomes k inside cs x (V.Where q) (V.Where r ∷ x ∷ []) (λ mid ds e g.
    let b = columns-some (where_fits q mid) mid ds (sym (op-Where q k inside mid) ∙ g) in
    let first : op_columns (V.Where r) k inside cs ≡ Some cs = op-Where r k inside cs ∙ kept-if (where_fits r cs) cs (fit mid e b.0) in (
      two-fit k inside cs cs (V.Where r) x ds first (e ∙ ap (λ c. Some c) b.1),
      λ w t s h. mean w (op_means (V.Where r) w t) ∙ (ap (f w) (where-means r w t) ∙ (sym (same mid e w t s h) ∙ (ap (where_table q) (sym (mean w t)) ∙ sym (where-means q w (op_means x w t))))),
    ))

pub take-front : (k : Known) (inside : Bool) (cs : List Column) (x : Op) (n : ℕ) (f : Grid → Grid) → ((w : World) (t : Grid) → op_means x w t ≡ f t) → ((mid : List Column) → op_columns x k inside cs ≡ Some mid → (t : Grid) → take_table n (f t) ≡ f (take_table n t)) → Becomes k inside cs (x ∷ V.Take n ∷ []) (V.Take n ∷ x ∷ [])
take-front k inside cs x n f mean same = pair-becomes k inside cs x (V.Take n) (V.Take n ∷ x ∷ []) (λ mid ds e g.
    let kept : Some mid ≡ Some ds = sym (op-Take n k inside mid) ∙ g in (
      two-fit k inside cs cs (V.Take n) x ds (op-Take n k inside cs) (e ∙ kept),
      λ w t s h. mean w (op_means (V.Take n) w t) ∙ (ap f (take-means n w t) ∙ (sym (same mid e t) ∙ (ap (take_table n) (sym (mean w t)) ∙ sym (take-means n w (op_means x w t))))),
    ))
