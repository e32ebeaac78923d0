use Rattle.std.proofs.Common.{◌≡◌, ◌∙◌, map, length, ap}
use Rattle.kql_values.specs.Grids.{rows_of}
use Rattle.kql_keys.specs.Numbers.{distinct, numbers_of}
use Rattle.kql_cells.specs.Keys.{same_keys, same_keys-decides}
use Rattle.kql_keys.proofs.ProbeFacts.{numbers-low}
use Rattle.kql_keys.proofs.probe.Probe.new.Goals as goal

pub places_by_number-requires : goal.places_by_number-requires
places_by_number-requires c = λ k d.
    let ks = rows_of c.args.count (map (λ c. c.now) c.args.columns.now) in
    let e : c.as_slice.result.now ≡ numbers_of same_keys ks = c.as_slice.ensures.items ∙ c.in_ok-seen.ensures.numbers in
    let n : c.len.result ≡ length (distinct same_keys ks) = c.len.ensures.len ∙ ap length c.in_ok-seen.ensures.keys in
    rw (e, n) (numbers-low same_keys same_keys-decides ks k d)
