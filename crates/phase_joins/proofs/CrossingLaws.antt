-- An index of rows by their keys may be shared by threads.
use denote.Param.Send.{IsSync, sendable}
use denote.Ref.{NamedLft}
use Rattle.std.proofs.Crossing
use Rattle.indexmap.proofs.set.IndexSet.TheSendSync as sets
use Rattle.kql_keys.proofs.places.PlaceLists.TheSendSync as lists
use Rattle.kql_keys.specs.contracts.key.KeyRef as KeyRef
use Rattle.kql_keys.specs.contracts.probe.Probe as Probe
use Rattle.crossing_laws.proofs.TableLaws.{vector_field_sync, vector_sync}

pub key_sync : (κ : NamedLft) → IsSync (KeyRef.the_row κ)
key_sync κ = search (vector_sync, vector_field_sync, Crossing.crosses, sendable) depth 60 fits 20000

pub key_field_sync : (κ : NamedLft) → IsSync (KeyRef.the_field κ).row
key_field_sync κ = search (vector_sync, vector_field_sync, Crossing.crosses, sendable) depth 60 fits 20000

pub probe_sync : (κ : NamedLft) → IsSync (Probe.the_row κ)
probe_sync κ = search (key_sync, key_field_sync, sets.the_sync, lists.the_sync, vector_sync, vector_field_sync, Crossing.crosses, sendable) depth 60 fits 20000
