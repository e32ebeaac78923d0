use Rattle.std.proofs.Common.{◌∙◌, ℕ, refl}
use Rattle.kql_outside.proofs.CallFacts.{last-failed, none-failed}
use Rattle.catalogue_tables.proofs.CallFacts.{read-stops, start-stops}
use Rattle.catalogue_tables.proofs.FileFacts.{front-found, front-missing}
use Rattle.catalogue_tables.proofs.files.read_front.Goals as goal

pub returns-in_ok-read_up_to-clause-front : goal.returns-in_ok-read_up_to-clause-front
returns-in_ok-read_up_to-clause-front g c =
    let found = rw c.if-branch.true at c.in_ok-start.ensures.found in
    let started = rw c.if-branch.true at c.in_ok-start.ensures.started in
    rw c.from_vec.ensures.items (front-found _ _ c.args.path.now c.args.number c.args.limit _ found started c.in_ok-read_up_to.ensures.bytes)

pub returns-else-branch-clause-front : goal.returns-else-branch-clause-front
returns-else-branch-clause-front g c =
    let found = rw c.if-branch.false at c.in_ok-start.ensures.found in
    front-missing _ c.args.path.now c.args.number c.args.limit found

pub returns-in_err-start-clause-stops : goal.returns-in_err-start-clause-stops
returns-in_err-start-clause-stops g c = start-stops _ _ _ c.from_residual.ensures.1 (last-failed _ _ _ c.in_err-start.ensures.calls refl)

pub returns-in_err-read_up_to-clause-stops : goal.returns-in_err-read_up_to-clause-stops
returns-in_err-read_up_to-clause-stops g c = read-stops ℕ _ _ _ _ _ (none-failed _ _ _ c.in_ok-start.ensures.calls refl) c.in_err-read_up_to.ensures.stops c.from_residual-in_err-read_up_to.ensures.1

pub returns-in_ok-read_up_to-clause-stops : goal.returns-in_ok-read_up_to-clause-stops
returns-in_ok-read_up_to-clause-stops g c = c.in_ok-read_up_to.ensures.stops ∙ none-failed _ _ _ c.in_ok-start.ensures.calls refl

pub returns-else-branch-clause-stops : goal.returns-else-branch-clause-stops
returns-else-branch-clause-stops g c = none-failed _ _ _ c.in_ok-start.ensures.calls refl
