-- What a test of values says, as the tests of literals.
use Rattle.std.proofs.Common.{◌≡◌, ◌↔◌, Bool}
use Rattle.std.specs.Bool.{one_answer}
use Rattle.std.specs.Prelude.{IsTrue}
use Rattle.kql_cells.specs.Values.{IsOfKind, IsWellFormed}
use Rattle.kql_cells.specs.declared.value.Kind.{Kind}
use Rattle.kql_cells.specs.declared.value.Value.{Value}
use Rattle.kql_meaning.specs.Literals.{is_of_kind, is_well_formed}
use Rattle.kql_meaning.specs.Values.{same_key}
use Rattle.kql_cells.specs.Keys.{same_key-decides}
use Rattle.kql_meaning.proofs.LiteralLaws.{is_of_kind-decides, is_well_formed-decides}

pub kind-told : (r : Bool) (k : Kind) (v : Value) → IsTrue r ↔ IsOfKind k v → r ≡ is_of_kind k v
kind-told r k v told = one_answer r (is_of_kind k v) told (is_of_kind-decides k v)

pub form-told : (r : Bool) (v : Value) → IsTrue r ↔ IsWellFormed v → r ≡ is_well_formed v
form-told r v told = one_answer r (is_well_formed v) told (is_well_formed-decides v)

pub key-told : (r : Bool) (v w : Value) → IsTrue r ↔ (v ≡ w) → r ≡ same_key v w
key-told r v w told = one_answer r (same_key v w) told (same_key-decides v w)
