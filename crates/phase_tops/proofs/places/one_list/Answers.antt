use Rattle.std.proofs.Common.{◌∙◌, ◌++◌, ap, reverse}
use Rattle.std.specs.Prelude.{flat_map}
use Rattle.phase_tops.proofs.PlaceSteps.{all-listed, next-rest, start-rest}
use Rattle.phase_tops.proofs.places.one_list.Goals as goal

pub lists-init : goal.lists-init
lists-init c = ap (λ xs. xs ++ flat_map (λ is. is) (reverse c.reverse.new.self)) c.new-places.ensures.empty ∙ start-rest c.args.lists c.reverse.new.self c.reverse.ensures.turned

pub lists-preserved : goal.lists-preserved
lists-preserved c = next-rest c.lists.places c.append.new.self c.in-Some.next _ c.lists.left c.pop.new.self c.in-Some.ensures.last c.in_ok-append.ensures.added c.lists.invariant

pub returns : goal.returns
returns c = record { places = all-listed c.lists.places _ c.lists.left c.in_default.ensures.last.0 c.lists.invariant }
