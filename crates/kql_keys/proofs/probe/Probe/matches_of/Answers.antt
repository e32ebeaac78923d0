use Rattle.std.proofs.Common.{◌∙◌, map, ap, sym}
use Rattle.std.specs.Prelude.{is_some}
use Rattle.kql_values.specs.Grids.{rows_of}
use Rattle.kql_keys.specs.Matches.{has_null, matches_in}
use Rattle.kql_keys.proofs.ProbeFacts.{found-none, found-some, null-matches}
use Rattle.kql_keys.proofs.probe.Probe.matches_of.Goals as goal

pub returns-then-has_null : goal.returns-then-has_null
returns-then-has_null c =
    record { places = c.none.ensures ∙ sym (null-matches c.args.self.now _ (ap has_null (sym c.new-key.ensures.cells) ∙ (sym c.has_null.ensures.null ∙ c.if-has_null.true))) }

pub get-requires : goal.get-requires
get-requires c =
    let ks = rows_of c.self.inside.count (map (λ c. c.now) c.self.inside.columns.now) in
    (found-some ks c.self.inside.seen.keys c.new-key.result c.self.inside.places c.in-Some.number c.self.invariant.0 c.self.invariant.1 (sym c.has_null.ensures.null ∙ c.if-has_null.false) (sym c.get_index_of.ensures.index ∙ c.in-Some.is)).0

pub returns-in-Some : goal.returns-in-Some
returns-in-Some c =
    let ks = rows_of c.self.inside.count (map (λ c. c.now) c.self.inside.columns.now) in
    let f = found-some ks c.self.inside.seen.keys c.new-key.result c.self.inside.places c.in-Some.number c.self.invariant.0 c.self.invariant.1 (sym c.has_null.ensures.null ∙ c.if-has_null.false) (sym c.get_index_of.ensures.index ∙ c.in-Some.is) in
    record { places = c.get.ensures.same ∙ (f.1 ∙ (ap (λ s. matches_in s c.new-key.result) c.self.view_is ∙ ap (matches_in c.args.self.now) c.new-key.ensures.cells)) }

pub returns-in-None : goal.returns-in-None
returns-in-None c =
    let ks = rows_of c.self.inside.count (map (λ c. c.now) c.self.inside.columns.now) in
    let gone = sym c.get_index_of.ensures.found ∙ ap is_some c.in-None.is in
    record { places = c.none-in-None.ensures ∙ (sym (found-none ks c.self.inside.seen.keys c.new-key.result c.self.invariant.0 gone) ∙ (ap (λ s. matches_in s c.new-key.result) c.self.view_is ∙ ap (matches_in c.args.self.now) c.new-key.ensures.cells)) }
