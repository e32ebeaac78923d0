use Rattle.std.proofs.Common.{◌≡◌, ◌-◌, arith, drop, length, length-drop, length-take-le, refl, take}
use Rattle.std.specs.Prelude.{min}
use Rattle.parse_op.proofs.BoundSteps.{literal-before, literal-behind, number-before, number-behind, rest-is, typed-before, typed-behind}
use Rattle.parse_op.proofs.pieces.ends_between.Goals as goal

pub returns-in-Literal-clause-before : goal.returns-in-Literal-clause-before
returns-in-Literal-clause-before c =
    literal-before c.args.relaxed c.args.item.now c.args.later.now c.args.text.now c.args.start (length c.as_str-size.result.now) c.in-Literal.literal c.as_str-size.result.now c.in-Literal.is refl c.as_str-size.ensures.same

pub returns-in-Literal-clause-behind : goal.returns-in-Literal-clause-behind
returns-in-Literal-clause-behind c =
    literal-behind c.args.relaxed c.args.item.now c.args.later.now c.args.text.now c.args.start (length c.as_str-size.result.now) c.in-Literal.literal c.as_str-size.result.now c.in-Literal.is refl c.as_str-size.ensures.same

pub returns-then-is_number_before_star-clause-before : goal.returns-then-is_number_before_star-clause-before
returns-then-is_number_before_star-clause-before c =
    number-before c.args.relaxed c.args.item.now c.in-Column.name c.in-Column.kind c.args.later.now c.args.text.now c.args.start c.number_length-size.result c.is_number_before_star.result _ c.in-Column.is c.is_number_before_star.ensures c.if-is_number_before_star.true (rest-is c.as_bytes.result.now c.args.text.now c.args.start c.as_bytes.ensures.value) c.number_length-size.ensures

pub returns-then-is_number_before_star-clause-behind : goal.returns-then-is_number_before_star-clause-behind
returns-then-is_number_before_star-clause-behind c =
    number-behind c.args.relaxed c.args.item.now c.in-Column.name c.in-Column.kind c.args.later.now c.args.text.now c.args.start c.number_length-size.result c.is_number_before_star.result _ c.in-Column.is c.is_number_before_star.ensures c.if-is_number_before_star.true (rest-is c.as_bytes.result.now c.args.text.now c.args.start c.as_bytes.ensures.value) c.number_length-size.ensures

pub returns-else-relaxed-clause-before : goal.returns-else-relaxed-clause-before
returns-else-relaxed-clause-before c =
    let bytes = c.as_bytes.result.now in
    typed-before c.args.relaxed c.args.item.now c.in-Column.name c.in-Column.kind c.args.later.now c.args.text.now c.args.start c.piece_sizes-least.result.0 (take (length bytes - c.args.start) (drop c.args.start bytes)) c.in-Column.is c.if-relaxed.false
    (rest-is bytes c.args.text.now c.args.start c.as_bytes.ensures.value) c.piece_sizes-least.ensures.least

pub returns-else-relaxed-clause-behind : goal.returns-else-relaxed-clause-behind
returns-else-relaxed-clause-behind c =
    let bytes = c.as_bytes.result.now in
    let cut = length-take-le (length bytes - c.args.start) (drop c.args.start bytes) (omega (arith, length-drop c.args.start bytes)) in
    let least : c.min-size.result ≡ min c.piece_sizes-least.result.1 (length (take (length bytes - c.args.start) (drop c.args.start bytes))) = omega (arith, c.min-size.ensures, cut) in
    typed-behind c.args.relaxed c.args.item.now c.in-Column.name c.in-Column.kind c.args.later.now c.args.text.now c.args.start c.piece_sizes-least.result.1 c.min-size.result (take (length bytes - c.args.start) (drop c.args.start bytes)) c.in-Column.is c.if-relaxed.false
    (rest-is bytes c.args.text.now c.args.start c.as_bytes.ensures.value) c.piece_sizes-least.ensures.most least
