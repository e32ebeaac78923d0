-- A partition, by pieces of its own.
use mathlib.Core.Path.{fun_ext}
use Rattle.std.proofs.Common.{◌≡◌, ℕ, true, List, [], ◌∷◌, ap, ap₂, sym, ◌∙◌, subst}
use Rattle.std.specs.Prelude.{Err, IfOk, Ok, Result, is_some}
use Rattle.kql_cells.specs.Named.{column_name, place_of}
use Rattle.kql_cells.specs.Table.{Grid}
use Rattle.kql_bound.specs.declared.parts.ScanPlan.{ScanPlan}
use Rattle.kql_bound.specs.declared.plan.Op.{Op}
use Rattle.kql_bound.specs.declared.plan.Op.TheVariants as V
use Rattle.kql_meaning.specs.Partition.{partition_table}
use Rattle.kql_meaning.specs.Plans.{World, op_means}
use Rattle.kql_meaning.specs.Scan.{scan_table}
use Rattle.kql_plain.specs.AtHand.{OpFits, OpsFit}
use Rattle.kql_plain.proofs.FitLaws.{answers-Scan}
use Rattle.kql_plain.proofs.OperatorLaws.{first-fits, means-Scan, no-more, one-more}
use Rattle.kql_plain.proofs.PartitionSteps.{key-there, means-Partition, subquery-fits}
use Rattle.phase_laws.specs.Runs.{made_of}
use Rattle.scan_ops.specs.Steps.{scan_answers}

pub key-at-hand : (o : Op) (key seen : List ℕ) (ops : List Op) (w : World) (t a : Grid) → o ≡ V.Partition key ops → seen ≡ key → a ≡ t → OpFits o w t → is_some (place_of column_name seen a.columns) ≡ true
key-at-hand o key seen ops w t a is same here f =
    ap₂ (λ (n : List ℕ) (u : Grid). is_some (place_of column_name n u.columns)) same here ∙ key-there o key ops w t is f

pub ops-at-hand : (o : Op) (key : List ℕ) (ops seen : List Op) (w : World) (t a : Grid) → o ≡ V.Partition key ops → seen ≡ ops → a ≡ t → OpFits o w t → OpsFit seen w a
ops-at-hand o key ops seen w t a is same here f =
    subst (λ (os : List Op). OpsFit os w a) (sym same) (subst (λ (u : Grid). OpsFit ops w u) (sym here) (subquery-fits o key ops w t is f))

pub partition-made : (o : Op) (key name : List ℕ) (ops seen : List Op) (w : World) (t a : Grid) → o ≡ V.Partition key ops → name ≡ key → seen ≡ ops → a ≡ t → partition_table name (made_of seen w) a ≡ op_means o w t
partition-made o key name ops seen w t a is called same here =
    ap (λ (n : List ℕ). partition_table n (made_of seen w) a) called
    ∙ (ap₂ (λ (os : List Op) (u : Grid). partition_table key (made_of os w) u) same here
    ∙ sym (ap (λ (p : Op). op_means p w t) is ∙ means-Partition key ops w t))

pub known : {E : Type 0} {x y : Grid} (r : Result Grid E) → x ≡ y → IfOk r (λ t. t ≡ x) → IfOk r (λ t. t ≡ y)
known (Ok t) is h = h ∙ is
known (Err e) is h = tt

pub scan-asks : (ops : List Op) (s : ScanPlan) (w : World) (t : Grid) → ops ≡ V.Scan s ∷ [] → OpsFit ops w t → scan_answers s t.columns ≡ true
scan-asks ops s w t is f = answers-Scan s w t (first-fits (V.Scan s) [] w t (subst (λ (os : List Op). OpsFit os w t) is f))

pub scan-made : (ops : List Op) (s : ScanPlan) (key : List ℕ) (w : World) (t : Grid) → ops ≡ V.Scan s ∷ [] → partition_table key (scan_table s) t ≡ partition_table key (made_of ops w) t
scan-made ops s key w t is =
    ap (λ (f : Grid → Grid). partition_table key f t)
    (fun_ext (λ u. sym (ap (λ (os : List Op). made_of os w u) is ∙ (one-more (V.Scan s) [] w u ∙ (no-more w (op_means (V.Scan s) w u) ∙ means-Scan s w u)))))

pub ruleset part_steps = (scan-asks, scan-made)
