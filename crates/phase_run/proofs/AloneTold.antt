-- What a phase of one operator tells.
use Rattle.std.proofs.Common.{◌≡◌, List, get_or, ap, sym, ◌∙◌}
use Rattle.kql_bound.specs.declared.plan.Op.{Op}
use Rattle.phase_forms.specs.Phases.{first_rounds, part_of, told}
use Rattle.phase_forms.specs.declared.ahead.Form.{Form}
use Rattle.phase_forms.specs.declared.ahead.Form.TheVariants as phase_form
use Rattle.phase_run.proofs.AloneSteps.{alone-is}
use Rattle.phase_run.proofs.ToldSteps.{told-as}
use Rattle.phase_run.specs.Reports.{PhasesSeen, Tells}
use Rattle.phase_run.specs.Works.{IsAlone}

pub alone-told : (old new : PhasesSeen) (ops : List Op) (x : Op) (f : Form) → IsAlone ops → x ≡ get_or ops 0 x → f ≡ phase_form.Alone → Tells old new (λ m. (part_of m x).rounds) → Tells old new (λ m. told f (first_rounds m ops))
alone-told old new ops x f alone is form t =
    told-as old new (λ m. (part_of m x).rounds) (λ m. told f (first_rounds m ops)) t
    (λ m. sym (ap (λ (g : Form). told g (first_rounds m ops)) form ∙ ap (first_rounds m) (alone-is ops x alone is)))
