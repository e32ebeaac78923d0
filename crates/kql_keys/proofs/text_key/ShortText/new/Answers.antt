use Rattle.std.proofs.Common.{◌∙◌}
use Rattle.kql_keys.proofs.TextKeyFacts.{bytes-each, key-is, key-stands}
use Rattle.kql_keys.proofs.text_key.ShortText.new.Goals as goal

pub invariant_of-result : goal.invariant_of-result
invariant_of-result c =
    let bytes = bytes-each c.as_bytes-bytes.result.now c.number_from.ensures.bytes in
    key-stands c.as_bytes-bytes.result.now c.number_from.result c.number_from-2.result c.number_from-3.result bytes (rw c.as_bytes-bytes.ensures.value c.requires.short) c.number_from.ensures.number c.number_from-2.ensures.number c.number_from-3.ensures.number

pub returns : goal.returns
returns c =
    let bytes = bytes-each c.as_bytes-bytes.result.now c.number_from.ensures.bytes in
    record { text = key-is c.as_bytes-bytes.result.now c.number_from.result c.number_from-2.result c.number_from-3.result bytes (rw c.as_bytes-bytes.ensures.value c.requires.short) c.number_from.ensures.number c.number_from-2.ensures.number c.number_from-3.ensures.number ∙ c.as_bytes-bytes.ensures.value }
