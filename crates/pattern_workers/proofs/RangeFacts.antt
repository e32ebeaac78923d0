-- What is answered to ranges of a column.
use Rattle.std.proofs.Common.{◌≡◌, ℕ, List, [], ◌∷◌, map, Option, Some, None, refl, arith}
use Rattle.std.specs.Prelude.{All, slice_range}
use Rattle.std.proofs.lemmas.List.{length-map}
use Rattle.std.proofs.lemmas.List.Elements.{All-cons, All-nil}
use Rattle.kql_cells.specs.Values.{IsOfKind}
use Rattle.kql_cells.specs.declared.value.Value.{Value}
use Rattle.pattern_ops.specs.Answers.{FitAnswers, answer, answer_kind, answer_to, text_of}
use Rattle.pattern_workers.specs.Ranges.{Finds, IsRanged, range_at, ranged, within}
use Rattle.pattern_workers.specs.declared.answers.Range.{Range}
use Rattle.pattern_workers.specs.declared.answers.Ranged.{Ranged}

answer-kind : (find : Finds) (group : Option ℕ) (text : List ℕ) → IsOfKind (answer_kind group) (answer find group text)
answer-kind find None text = tt
answer-kind find (Some number) text = tt

answers-kinds : (find : Finds) (group : Option ℕ) (cells : List Value) → All (IsOfKind (answer_kind group)) (map (answer_to find group) cells)
answers-kinds find group [] = All-nil (IsOfKind (answer_kind group))
answers-kinds find group (v ∷ vs) =
    All-cons (IsOfKind (answer_kind group)) (answer_to find group v) (map (answer_to find group) vs) (answer-kind find group (text_of v)) (answers-kinds find group vs)

answers-fit : (find : Finds) (group : Option ℕ) (cells : List Value) → FitAnswers group cells (map (answer_to find group) cells)
answers-fit find group cells = (length-map cells (answer_to find group), answers-kinds find group cells)

is-ranged : (find : Finds) (group : Option ℕ) (cells : List Value) (r : Range) → IsRanged find group cells (ranged find group cells r)
unfolding ranged
is-ranged find group cells r =
    let places : Range = within cells r in
    record {
      order = omega arith;
      inside = omega arith;
      values = refl;
      fits = answers-fit find group (slice_range cells places.from places.to);
    }

all-ranged : (find : Finds) (group : Option ℕ) (cells : List Value) (ranges : List Range) (ns : List ℕ) → All (IsRanged find group cells) (map (λ piece. ranged find group cells (range_at ranges piece)) ns)
all-ranged find group cells ranges [] = All-nil (IsRanged find group cells)
all-ranged find group cells ranges (n ∷ ns) =
    All-cons (IsRanged find group cells) (ranged find group cells (range_at ranges n)) (map (λ piece. ranged find group cells (range_at ranges piece)) ns)
    (is-ranged find group cells (range_at ranges n)) (all-ranged find group cells ranges ns)

-- each of the parts that pieces give is the answers to a range
pub parts-ranged : (find : Finds) (group : Option ℕ) (cells : List Value) (ranges : List Range) (ns : List ℕ) (parts : List Ranged) →
    parts ≡ map (λ piece. ranged find group cells (range_at ranges piece)) ns → All (IsRanged find group cells) parts
parts-ranged find group cells ranges ns parts e = rw e (all-ranged find group cells ranges ns)
