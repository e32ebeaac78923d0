use Rattle.std.proofs.Common.{sym, ◌∙◌, ap, false}
use Rattle.std.proofs.lemmas.List.{take_rest}
use Rattle.kql_lexer.specs.Literals.{gap_len}
use Rattle.kql_lexer.proofs.WordFronts.{not_literal_at, yes_literal_at}
use Rattle.kql_lexer.proofs.literals.literal_at.Goals as goal

pub returns-then-byte_at-eq40 : goal.returns-then-byte_at-eq40
returns-then-byte_at-eq40 c = record {
  value = yes_literal_at c.args.rest.now c.args.size c.gap_len.result c.args.keyword c.requires.keyword (sym c.is_literal.ensures.literal ∙ c.if-not-is_literal.false) c.requires.size
      (c.gap_len.ensures.len ∙ ap (gap_len false) (take_rest c.args.rest.now c.args.size)) (sym c.byte_at.ensures ∙ c.if-byte_at-eq40.true);
}

pub returns-else-byte_at-eq40 : goal.returns-else-byte_at-eq40
returns-else-byte_at-eq40 c = record {
  value = not_literal_at c.args.rest.now c.args.size c.gap_len.result c.requires.size
      (c.gap_len.ensures.len ∙ ap (gap_len false) (take_rest c.args.rest.now c.args.size)) (λ e. c.if-byte_at-eq40.false (c.byte_at.ensures ∙ e));
}
