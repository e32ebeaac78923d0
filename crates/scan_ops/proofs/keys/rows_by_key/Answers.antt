use Rattle.std.proofs.Common.{◌≡◌, ◌∷◌, [], ap₂, refl, subst}
use Rattle.std.specs.Prelude.{IfOk}
use Rattle.std.proofs.lemmas.Result.{IfOk-weaker}
use Rattle.kql_keys.specs.Places.{places_by}
use Rattle.scan_ops.specs.Scans.{name_at}
use Rattle.scan_ops.proofs.KeySteps.{lists-within, numbered, rows-named}
use Rattle.scan_ops.proofs.keys.rows_by_key.Goals as goal

pub returns : goal.returns
returns c =
    let t = c.args.t.now in
    let k = c.args.key in
    let same = numbered (name_at k t.columns) t c.key_column.result (c.key_column.result ∷ []) c.len.result c.in_ok-numbers.field-0.numbers c.in_ok-numbers.field-0.firsts
    (places_by c.as_slice.result.now c.len-2.result) c.key_column.ensures.cells refl c.len.ensures.count c.in_ok-numbers.ensures.numbers c.in_ok-numbers.ensures.first_keys
    (ap₂ places_by c.as_slice.ensures.items c.len-2.ensures.count) in
    let made = subst (λ u. IfOk c.places_by_number.result (λ ls. ls ≡ u)) same c.places_by_number.ensures.lists in
    record {
      rows = made;
      named = IfOk-weaker c.places_by_number.result _ _ (λ ls e. rows-named t k ls e) made;
      within = IfOk-weaker c.places_by_number.result _ _ (λ ls e. lists-within (name_at k t.columns) t ls e) made;
    }
