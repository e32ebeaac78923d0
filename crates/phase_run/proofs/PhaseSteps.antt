-- Phases, one after another.
use Rattle.std.proofs.Common.{◌≡◌, ℕ, true, List, [], ◌∷◌, ◌++◌, drop, take, ap, sym, ◌∙◌, subst}
use Rattle.std.proofs.lemmas.List.{take-append-drop}
use Rattle.kql_cells.specs.Table.{Grid}
use Rattle.kql_bound.specs.declared.plan.Op.{Op}
use Rattle.kql_bound.specs.declared.plan.Op.TheVariants as V
use Rattle.kql_meaning.specs.Plans.{World, op_means}
use Rattle.phase_laws.specs.Runs.{are_by_row, made_of}
use Rattle.kql_plain.specs.AtHand.{OpsFit}
use Rattle.kql_plain.proofs.OperatorLaws.{means-Serialize, no-more, one-more}
use Rattle.phase_run.proofs.RunSteps.{behind-fit, made-parted, run-fits}

-- A phase of `serialize` alone.
pub same-made : (ops : List Op) (w : World) (t : Grid) → ops ≡ V.Serialize ∷ [] → t ≡ made_of ops w t
same-made ops w t is = sym (ap (λ (os : List Op). made_of os w t) is ∙ (one-more V.Serialize [] w t ∙ (no-more w (op_means V.Serialize w t) ∙ means-Serialize w t)))

-- The operators of the next phase, and those behind it.

whole : (left phase behind : List Op) (n : ℕ) → phase ≡ take n left → behind ≡ drop n left → left ≡ phase ++ behind
whole left phase behind n first rest = sym (ap (λ (os : List Op). os ++ behind) first ∙ (ap (λ (os : List Op). take n left ++ os) rest ∙ take-append-drop n left))

pub phase-fits : (left phase behind : List Op) (n : ℕ) (w : World) (t : Grid) → phase ≡ take n left → behind ≡ drop n left → OpsFit left w t → OpsFit phase w t
phase-fits left phase behind n w t first rest f = run-fits phase behind w t (subst (λ (os : List Op). OpsFit os w t) (whole left phase behind n first rest) f)

pub others-fit : (left phase behind : List Op) (n : ℕ) (w : World) (t made : Grid) → phase ≡ take n left → behind ≡ drop n left → OpsFit left w t → made ≡ made_of phase w t → OpsFit behind w made
others-fit left phase behind n w t made first rest f is =
    subst (OpsFit behind w) (sym is) (behind-fit phase behind w t (subst (λ (os : List Op). OpsFit os w t) (whole left phase behind n first rest) f))

pub others-done : (left phase behind : List Op) (n : ℕ) (w : World) (t made all : Grid) → phase ≡ take n left → behind ≡ drop n left → made ≡ made_of phase w t → made_of left w t ≡ all → made_of behind w made ≡ all
others-done left phase behind n w t made all first rest is done =
    ap (made_of behind w) is ∙ (sym (made-parted phase behind w t) ∙ (sym (ap (λ (os : List Op). made_of os w t) (whole left phase behind n first rest)) ∙ done))

pub front-same : (left more phase : List Op) (o : Op) (n : ℕ) → left ≡ o ∷ more → phase ≡ take n left → take n (o ∷ more) ≡ V.Serialize ∷ [] → phase ≡ V.Serialize ∷ []
front-same left more phase o n is first one = first ∙ (ap (take n) is ∙ one)

pub front-rows : (left more phase : List Op) (o : Op) (n : ℕ) → left ≡ o ∷ more → phase ≡ take n left → are_by_row (take n (o ∷ more)) ≡ true → are_by_row phase ≡ true
front-rows left more phase o n is first rows = ap are_by_row (first ∙ ap (take n) is) ∙ rows

pub none-left : (left : List Op) (w : World) (t all : Grid) → left ≡ [] → made_of left w t ≡ all → t ≡ all
none-left left w t all none done = sym (ap (λ (os : List Op). made_of os w t) none ∙ no-more w t) ∙ done
