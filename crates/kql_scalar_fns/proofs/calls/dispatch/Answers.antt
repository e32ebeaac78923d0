use Rattle.kql_scalar_fns.proofs.ChoiceFormLaws.{choice_form}
use Rattle.kql_scalar_fns.proofs.calls.dispatch.Goals as goal

pub returns-in-Choice-clause-form : goal.returns-in-Choice-clause-form
returns-in-Choice-clause-form c = choice_form _ _ _ c.requires c.apply_choice.ensures.value
