use Rattle.kql_scalar.proofs.lists.kept_by_list.Goals as goal

pub kept_by_keys-requires-clause-test : goal.kept_by_keys-requires-clause-test
kept_by_keys-requires-clause-test c =
    let constants = rw c.in-Some-2.is at c.in_ok-cells.ensures.constants in
    let test = c.in-Some-column_and_parts.ensures.test _ constants in
    rw c.deref-3.ensures.value test
