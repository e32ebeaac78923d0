-- One answer more, and the answers to two ranges.
use Rattle.std.proofs.Common.{◌≡◌, ℕ, ◌+◌, ◌-◌, ◌<◌, ◌≤◌, List, [], ◌∷◌, ◌++◌, map, take, drop, get_or, length, Option, Some, None, IfSome, refl, sym, ap, ap₂, ◌∙◌, subst, arith, length-drop, get_or-drop}
use Rattle.std.specs.Prelude.{slice_range}
use Rattle.std.proofs.Math.Seq.{take-add}
use Rattle.std.proofs.lemmas.List.{map-append, length-append, drop-drop, take_all, take_more, map_push}
use Rattle.std.proofs.lemmas.List.Elements.{All-append}
use Rattle.kql_cells.specs.Seen.{value_at}
use Rattle.kql_cells.specs.Values.{IsOfKind}
use Rattle.kql_cells.specs.declared.value.Value.{Value}
use Rattle.kql_cells.specs.declared.value.Value.TheVariants as val
use Rattle.pattern_search.specs.declared.span.Span.{Span}
use Rattle.pattern_ops.specs.Answers.{text_of, answer, answer_to, answer_kind, AreAnswers}
use Rattle.pattern_ops.specs.Ranges.{AnswersJoin, FittingJoins, WholeIsRange}

slice-none : {X : Type 0} (xs : List X) (from : ℕ) → slice_range xs from from ≡ []
slice-none xs from = let none : from - from ≡ 0 = omega arith in rw none refl

slice-push : {X : Type 0} (xs : List X) (from i : ℕ) (d : X) → from ≤ i → i < length xs → slice_range xs from (i + 1) ≡ slice_range xs from i ++ get_or xs i d ∷ []
slice-push xs from i d order lt =
    let count : i + 1 - from ≡ (i - from) + 1 = omega arith in
    let place : from + (i - from) ≡ i = omega arith in
    let inside : i - from < length (drop from xs) = omega (arith, length-drop from xs) in
    rw count (take_more (drop from xs) (i - from) d inside ∙ ap (λ x. take (i - from) (drop from xs) ++ x ∷ []) (rw (get_or-drop, place) refl))

slice-join : {X : Type 0} (xs : List X) (from at to : ℕ) → from ≤ at → at ≤ to → slice_range xs from at ++ slice_range xs at to ≡ slice_range xs from to
slice-join xs from at to order next =
    let sum : to - from ≡ (at - from) + (to - at) = omega arith in
    let place : from + (at - from) ≡ at = omega arith in
    sym (ap (λ n. take n (drop from xs)) sum ∙ take-add (at - from) (to - at) (drop from xs)
    ∙ ap (λ back. take (at - from) (drop from xs) ++ take (to - at) back) (drop-drop (at - from) from xs ∙ ap (λ n. drop n xs) place))

pub whole-is-range : WholeIsRange
whole-is-range cells = let all : length cells - 0 ≡ length cells = omega arith in rw all (take_all (length cells) cells (omega arith))

-- no answer yet
pub none_yet : (told : Option (List ℕ → Option (List (Option Span)))) (group : Option ℕ) (cells : List Value) (from : ℕ) → AreAnswers told group (slice_range cells from from) []
none_yet None group cells from = tt
none_yet (Some find) group cells from = sym (ap (map (answer_to find group)) (slice-none cells from))

one_more : (told : Option (List ℕ → Option (List (Option Span)))) (group : Option ℕ) (cells answers : List Value) (from i : ℕ) (v : Value) (text : List ℕ) → from ≤ i → i < length cells →
    text ≡ text_of (value_at cells i) → AreAnswers told group (slice_range cells from i) answers → IfSome told (λ find. v ≡ answer find group text) →
    AreAnswers told group (slice_range cells from (i + 1)) (answers ++ v ∷ [])
one_more None group cells answers from i v text order lt is so_far one = tt
one_more (Some find) group cells answers from i v text order lt is so_far one =
    ap₂ (λ (xs : List Value) (x : Value). xs ++ x ∷ []) so_far (one ∙ ap (answer find group) is)
    ∙ sym (ap (map (answer_to find group)) (slice-push cells from i val.Null order lt) ∙ map_push (answer_to find group) (slice_range cells from i) (value_at cells i))

pub answered : (now told : Option (List ℕ → Option (List (Option Span)))) (group : Option ℕ) (cells answers : List Value) (from i : ℕ) (v : Value) (text : List ℕ) → now ≡ told →
    from ≤ i → i < length cells → text ≡ text_of (value_at cells i) → AreAnswers told group (slice_range cells from i) answers → IfSome now (λ find. v ≡ answer find group text) →
    AreAnswers told group (slice_range cells from (i + 1)) (answers ++ v ∷ [])
answered now told group cells answers from i v text e order lt is so_far one =
    one_more told group cells answers from i v text order lt is so_far
    (subst (λ (o : Option (List ℕ → Option (List (Option Span)))). IfSome o (λ find. v ≡ answer find group text)) e one)

pub answers-join : AnswersJoin
answers-join None group cells front back from at to order next f b = tt
answers-join (Some find) group cells front back from at to order next f b =
    ap₂ (λ (xs ys : List Value). xs ++ ys) f b
    ∙ sym (map-append (answer_to find group) (slice_range cells from at) (slice_range cells at to))
    ∙ ap (map (answer_to find group)) (slice-join cells from at to order next)

pub fitting-joins : FittingJoins
fitting-joins group cells front back from at to order next f b = (
  length-append front back ∙ ap₂ (λ (m n : ℕ). m + n) f.0 b.0
      ∙ sym (ap length (sym (slice-join cells from at to order next)) ∙ length-append (slice_range cells from at) (slice_range cells at to)),
  All-append (IsOfKind (answer_kind group)) front back f.1 b.1,
)

-- as many answers as cells
pub none_counted : (cells : List Value) (from : ℕ) → 0 ≡ length (slice_range cells from from)
none_counted cells from = sym (ap length (slice-none cells from))

pub one_counted : (cells answers : List Value) (from i : ℕ) (v : Value) → from ≤ i → i < length cells → length answers ≡ length (slice_range cells from i) →
    length (answers ++ v ∷ []) ≡ length (slice_range cells from (i + 1))
one_counted cells answers from i v order lt so_far =
    length-append answers (v ∷ []) ∙ ap (λ n. n + 1) so_far
    ∙ sym (ap length (slice-push cells from i val.Null order lt) ∙ length-append (slice_range cells from i) (value_at cells i ∷ []))
