use Rattle.std.proofs.Common.{◌≡◌, ◌∙◌, map, length, sym, rules}
use Rattle.kql_values.specs.Grids.{row_of, rows_of}
use Rattle.kql_cells.specs.Keys.{same_keys, same_keys-decides}
use Rattle.kql_keys.proofs.KeyLaws.{first-keys, numbers-within, rows-more}
use Rattle.kql_values.proofs.GridLaws.{rows_of-length, rows_of-none}
use Rattle.kql_keys.proofs.NumberFacts.{firsts-nil, numbers-nil, numbered-step}
use Rattle.kql_keys.proofs.numbering.index_keys.Goals as goal

pub loop-i-init : goal.loop-i-init
loop-i-init c =
    let none = rows_of-none (map (λ c. c.now) c.args.columns.now) in
    record {
      keys = rw none (search rules);
      numbers = rw none (c.in_ok-numbers.ensures.empty ∙ sym (numbers-nil same_keys same_keys-decides));
      firsts = rw none (c.new-firsts.ensures.empty ∙ sym (firsts-nil same_keys same_keys-decides));
    }

pub loop-i-preserved : goal.loop-i-preserved
loop-i-preserved c =
    let columns = map (λ c. c.now) c.args.columns.now in
    let i = c.loop-i.i in
    let ks = rows_of i columns in
    let k = row_of columns i in
    let more = rows-more columns i in
    let count : i ≡ length ks = sym (rows_of-length i columns) in
    let key = c.new-key.ensures.cells in
    let e = c.in_ok-place.ensures in
    let step = numbered-step same_keys same_keys-decides ks k c.loop-i.seen.keys c.insert_full.new.self.keys c.loop-i.numbers c.push.new.self c.loop-i.firsts c.push_if.new.places c.in_ok-place.place i c.in_ok-place.added
    c.loop-i.invariant.keys c.loop-i.invariant.numbers c.loop-i.invariant.firsts (rw key at e.added) (rw key at e.keys) (rw key at e.index) count c.in_ok-push.ensures.added c.in_ok-push_if.ensures in
    record { keys = rw more step.0; numbers = rw more step.1; firsts = rw more step.2 }

pub returns-clause-first_keys : goal.returns-clause-first_keys
returns-clause-first_keys c = first-keys (map (λ c. c.now) c.args.columns.now) c.args.count _ (search rules)

pub returns-clause-within : goal.returns-clause-within
returns-clause-within c = numbers-within (map (λ c. c.now) c.args.columns.now) c.args.count _ _ (search rules) (search rules)
