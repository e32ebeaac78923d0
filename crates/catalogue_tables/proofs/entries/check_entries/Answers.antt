use Rattle.std.proofs.Common.{◌≡◌, ◌≤◌, ◌<◌, ◌+◌, ◌++◌, ◌∷◌, ◌∙◌, [], None, ap, arith, length, length-append, refl, sym}
use Rattle.std.proofs.lemmas.Grind.{common_steps}
use Rattle.std.proofs.lemmas.Option.{MatchOption-at_none}
use Rattle.catalogue_tables.specs.Entries.{entry_code}
use Rattle.catalogue_tables.proofs.EntryFacts.{checked-end, checked-next, checked-stop, clean, clean-end, clean-next}
use Rattle.catalogue_tables.proofs.entries.check_entries.Goals as goal

pub returns-in-Some-entry_code-clause-checked : goal.returns-in-Some-entry_code-clause-checked
returns-in-Some-entry_code-clause-checked c =
    let code = sym c.entry_code.ensures.code ∙ c.in-Some-entry_code.is in
    checked-stop c.args.number c.entries.at c.entries.count c.in-Some-entry_code.code c.entries.names c.in-Some.entry.now c.in-Some.more.now c.entries.left.now _ c.in-Some.ensures.cases.0 code c.entries.invariant.checked

pub overflow_add-count : goal.overflow_add-count
overflow_add-count c =
    let none : entry_code c.entries.names c.entries.count c.in-Some.entry.now ≡ None = sym c.entry_code.ensures.code ∙ c.in_default-entry_code.is in
    let found = clean c.entries.names c.entries.count c.in-Some.entry.now none in
    let few : c.entries.count + c.len.result ≤ 256 = rw c.len.ensures.count found.files in
    grind (arith, few)

pub entries-preserved : goal.entries-preserved
entries-preserved c =
    let none : entry_code c.entries.names c.entries.count c.in-Some.entry.now ≡ None = sym c.entry_code.ensures.code ∙ c.in_default-entry_code.is in
    let found = clean c.entries.names c.entries.count c.in-Some.entry.now none in
    let added : c.push.new.self ≡ c.entries.names ++ c.in-Some.entry.now.name ∷ [] = c.in_ok-push.ensures.added ∙ ap (λ name. c.entries.names ++ name ∷ []) c.in_ok-copy.ensures.same in
    let size : length c.push.new.self ≡ length c.entries.names + 1 = ap length added ∙ length-append c.entries.names (c.in-Some.entry.now.name ∷ []) in
    let few = found.tables in
    let at = c.entries.invariant.at in
    record {
      few = omega (arith, size, few);
      count = rw c.len.ensures.count found.files;
      at = omega (arith, size, at);
      checked = rw c.len.ensures.count (checked-next c.args.number c.entries.at c.entries.count c.entries.names c.push.new.self c.in-Some.entry.now c.in-Some.more.now c.entries.left.now _ c.in-Some.ensures.cases.0 added none c.entries.invariant.checked);
      clean = λ h. c.entries.invariant.clean (clean-next c.entries.names c.push.new.self c.entries.count c.in-Some.entry.now c.in-Some.more.now c.entries.left.now c.in-Some.ensures.cases.0 added none (rw c.len.ensures.count at h));
    }

pub returns-clause-checked : goal.returns-clause-checked
returns-clause-checked c =
    checked-end c.args.number c.entries.at c.entries.count c.entries.names c.entries.left.now _ (MatchOption-at_none _ _ c.in_default.is c.split_first.ensures.cases) c.entries.invariant.checked

pub returns-clause-clean : goal.returns-clause-clean
returns-clause-clean c =
    c.entries.invariant.clean (clean-end c.entries.names c.entries.count c.entries.left.now (MatchOption-at_none _ _ c.in_default.is c.split_first.ensures.cases))
