use Rattle.std.proofs.Common.{◌<◌, ◌≤◌, ◌-◌, length, take, drop, arith}
use Rattle.kql_values.specs.Pieces.{pieces}
use Rattle.kql_values.proofs.PieceLaws.{end-of, part, pieces-length, rises-above, rises-low, rises-part}
use Rattle.kql_values.proofs.byte_pieces.BytePieces.slice.Goals as goal

pub lowered-requires : goal.lowered-requires
lowered-requires c =
    let ends = c.self.inside.ends.items in
    let within : c.args.to ≤ length (pieces 0 ends c.self.inside.bytes.items) = rw (← c.self.view_is) at c.requires.within in
    let up : c.args.to ≤ length ends = rw (pieces-length 0 ends c.self.inside.bytes.items) at within in
    let lt : c.args.from < c.args.to = omega (arith, c.if-from-to.false, c.requires.order) in
    let end = end-of ends c.args.to c.bounds-end.result.1 c.args.from lt up c.bounds-end.ensures.end in
    rw c.as_slice.ensures.value
    (rises-above c.bounds-start.result.0 (take (c.args.to - c.args.from) (drop c.args.from ends)) c.bounds-end.result.1
    (rises-part ends (length c.self.inside.bytes.items) c.args.from c.args.to c.bounds-start.result.0 c.bounds-end.result.1 c.self.invariant c.requires.order up c.bounds-start.ensures.start end))

pub bytes_of-requires-clause-order : goal.bytes_of-requires-clause-order
bytes_of-requires-clause-order c =
    let ends = c.self.inside.ends.items in
    let within : c.args.to ≤ length (pieces 0 ends c.self.inside.bytes.items) = rw (← c.self.view_is) at c.requires.within in
    let up : c.args.to ≤ length ends = rw (pieces-length 0 ends c.self.inside.bytes.items) at within in
    let lt : c.args.from < c.args.to = omega (arith, c.if-from-to.false, c.requires.order) in
    let end = end-of ends c.args.to c.bounds-end.result.1 c.args.from lt up c.bounds-end.ensures.end in
    rises-low c.bounds-start.result.0 (take (c.args.to - c.args.from) (drop c.args.from ends)) c.bounds-end.result.1
    (rises-part ends (length c.self.inside.bytes.items) c.args.from c.args.to c.bounds-start.result.0 c.bounds-end.result.1 c.self.invariant c.requires.order up c.bounds-start.ensures.start end)

pub invariant_of-result : goal.invariant_of-result
invariant_of-result c =
    let ends = c.self.inside.ends.items in
    let within : c.args.to ≤ length (pieces 0 ends c.self.inside.bytes.items) = rw (← c.self.view_is) at c.requires.within in
    let up : c.args.to ≤ length ends = rw (pieces-length 0 ends c.self.inside.bytes.items) at within in
    let lt : c.args.from < c.args.to = omega (arith, c.if-from-to.false, c.requires.order) in
    let moved = rw c.as_slice.ensures.value at c.in_ok-ends.ensures in
    (part ends c.in_ok-ends.ends.items c.self.inside.bytes.items c.in_ok-bytes.bytes.items c.args.from c.args.to c.bounds-start.result.0 c.bounds-end.result.1 c.self.invariant lt up
    c.bounds-start.ensures.start c.bounds-end.ensures.end moved c.in_ok-bytes.ensures).0

pub returns : goal.returns
returns c =
    let ends = c.self.inside.ends.items in
    let within : c.args.to ≤ length (pieces 0 ends c.self.inside.bytes.items) = rw (← c.self.view_is) at c.requires.within in
    let up : c.args.to ≤ length ends = rw (pieces-length 0 ends c.self.inside.bytes.items) at within in
    let lt : c.args.from < c.args.to = omega (arith, c.if-from-to.false, c.requires.order) in
    let moved = rw c.as_slice.ensures.value at c.in_ok-ends.ensures in
    record {
      part = rw (← c.self.view_is) (part ends c.in_ok-ends.ends.items c.self.inside.bytes.items c.in_ok-bytes.bytes.items c.args.from c.args.to c.bounds-start.result.0 c.bounds-end.result.1 c.self.invariant lt up
          c.bounds-start.ensures.start c.bounds-end.ensures.end moved c.in_ok-bytes.ensures).1;
    }
