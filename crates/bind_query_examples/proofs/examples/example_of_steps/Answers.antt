use Rattle.bind_query_examples.proofs.ExamplesOfOperators.{sixty_five_steps, sixty_four_steps}
use Rattle.bind_query_examples.proofs.examples.example_of_steps.Goals as goal

pub returns-clause-most : goal.returns-clause-most
returns-clause-most c = sixty_four_steps

pub returns-clause-many : goal.returns-clause-many
returns-clause-many c = sixty_five_steps
