-- Results of which each piece has one fill each slot.
use Rattle.std.proofs.Common.{◌≡◌, ℕ, zero, suc, ◌+◌, ◌<◌, inl, inr, List, [], ◌∷◌, ◌++◌, map, length, get_or, set, replicate, reverse, Option, Some, None, IsSome, Result, Ok, Err, IfOk, All, sym, refl, ap, ◌∙◌, ⊎_elim, length-set, arith}
use Rattle.std.specs.List.{range_with_len}
use Rattle.std.proofs.lemmas.List.{length-replicate, map-append, reverse-append, append_assoc}
use Rattle.std.proofs.lemmas.List.Elements.{All-pop, All-map}
use Rattle.std.proofs.lemmas.List.Sums.{sum_by-cons}
use mathlib.Core.Option.{some, some-injective}
use mathlib.Core.Logic.{dite}
use native.Mathlib.Decide.{ℕ_discrete}
use lib.ListN.{get_elem?}
use Rattle.atomic_table.proofs.Lists.{set_here, set_else}
use Rattle.board_core.specs.declared.events.Claim.{Claim}
use Rattle.worker_board.specs.Counts.{times_claimed}
use Rattle.worker_board.specs.declared.work.PieceResult.{PieceResult}
use Rattle.worker_board.specs.Results.{times_made, NamesAll, IsNamedBelow, IsRight, filled, result_of, results_of}
use Rattle.worker_board.specs.Placing.{IsFilling}
use Rattle.worker_board.proofs.Sums.{same, sum_push, same_else}

pub nothing_left : {X : Type 0} (xs : List X) → length xs ≡ 0 → xs ≡ []
nothing_left [] e = refl
nothing_left (x ∷ xs) e = absurd (omega arith)

-- a list is known by its elements
from_points : {X : Type 0} (f : ℕ → X) (n a : ℕ) (xs : List X) → length xs ≡ n → ((x : ℕ) → x < n → get_elem? xs x ≡ some (f (a + x))) → xs ≡ map f (range_with_len a n)
from_points f zero a [] e h = refl
from_points f (suc n) a [] e h = absurd (omega arith)
from_points f zero a (y ∷ xs) e h = absurd (omega arith)
from_points f (suc n) a (y ∷ xs) e h = λ i. some-injective y (f a) (h 0 (omega arith) ∙ ap (λ z. some (f z)) (let z : a + 0 ≡ a = omega arith in z)) i
    ∷ from_points f n (a + 1) xs (omega arith) (λ x lt. h (suc x) (omega arith) ∙ ap (λ z. some (f z)) (let z : a + suc x ≡ a + 1 + x = omega arith in z)) i

module _ {T : Type 0} (answer : ℕ → T) (pieces : ℕ) where
  pub fills_none : (slots : List (Option T)) (results : List (PieceResult T)) → slots ≡ replicate pieces None → NamesAll pieces results → All (IsNamedBelow pieces) results → All (IsRight answer) results → IsFilling answer pieces slots results
  fills_none slots results empty all below right =
      record {
        count = ap length empty ∙ length-replicate pieces None;
        filled = λ p lt. inr (omega (arith, all p lt));
        below = below;
        right = right;
      }

  -- the last result is put into its slot
  module _ (slots : List (Option T)) (before after : List (PieceResult T)) (r : PieceResult T) (last : before ≡ after ++ r ∷ []) (h : IsFilling answer pieces slots before) where
    counted : (p : ℕ) → times_made p before ≡ times_made p after + same p r.piece
    counted p = ap (times_made p) last ∙ sum_push (λ (d : PieceResult T). same p d.piece) after r

    belows : All (IsNamedBelow pieces) after × IsNamedBelow pieces r
    belows = All-pop (IsNamedBelow pieces) before after (Some r) last h.below

    rights : All (IsRight answer) after × IsRight answer r
    rights = All-pop (IsRight answer) before after (Some r) last h.right

    pub slot_there : r.piece < length slots
    slot_there = omega (arith, h.count, belows.1)

    pub fills_one : IsFilling answer pieces (set slots r.piece (Some r.value)) after
    fills_one =
        record {
          count = length-set slots r.piece (Some r.value) ∙ h.count;
          filled = λ p lt.
              dite (ℕ_discrete p r.piece)
              (λ e. inl (ap (get_elem? (set slots r.piece (Some r.value))) e ∙ set_here slots r.piece (Some r.value) slot_there ∙ ap (λ v. some (Some v)) (rights.1 ∙ ap answer (sym e))))
              (λ ne. ⊎_elim (λ was. inl (set_else slots r.piece p (Some r.value) ne ∙ was)) (λ more. inr (omega (arith, more, counted p, same_else p r.piece ne))) (h.filled p lt));
          below = belows.0;
          right = rights.0;
        }

  pub all_filled : (slots : List (Option T)) → IsFilling answer pieces slots [] → slots ≡ filled answer pieces
  all_filled slots h =
      from_points (λ p. Some (answer p)) pieces 0 slots h.count
      (λ p lt. ⊎_elim (λ was. was ∙ ap (λ z. some (Some (answer z))) (let z : p ≡ 0 + p = omega arith in z)) (λ more. absurd (omega arith)) (h.filled p lt))

rest_of : {X : Type 0} → List X → List X
rest_of [] = []
rest_of (x ∷ xs) = xs

some_value : {X : Type 0} (a b : X) → Some a ≡ Some b → a ≡ b
some_value a b e = cc

module _ {T : Type 0} (answer : ℕ → T) where
  -- the results of the claims are of the pieces of the claims
  pub times-results : (p : ℕ) (claims : List Claim) → times_made p (results_of answer claims) ≡ times_claimed p claims
  times-results p [] = refl
  times-results p (c ∷ claims) =
      sum_by-cons (λ (d : PieceResult T). same p d.piece) (result_of answer c) (results_of answer claims)
      ∙ ap (λ n. same p c.piece + n) (times-results p claims)
      ∙ sym (sum_by-cons (λ (d : Claim). same p d.piece) c claims)

  pub right_results : (claims : List Claim) → All (IsRight answer) (results_of answer claims)
  right_results claims = All-map (IsRight answer) (result_of answer) claims (λ k d lt. refl)

  -- where each slot is filled
  pub some_filled : (ns : List ℕ) → All IsSome (map (λ p. Some (answer p)) ns)
  some_filled ns = All-map IsSome (λ p. Some (answer p)) ns (λ k d lt. refl)

  pub answers_from : (ns : List ℕ) (values : List T) → map Some values ≡ map (λ p. Some (answer p)) ns → values ≡ map answer ns
  unfolding rest_of
  answers_from [] [] e = refl
  answers_from [] (v ∷ vs) e = absurd (let n = ap length e in omega (arith, n))
  answers_from (n ∷ ns) [] e = absurd (let n = ap length e in omega (arith, n))
  answers_from (n ∷ ns) (v ∷ vs) e = λ i. some_value v (answer n) (ap (λ l. get_or l 0 (Some v)) e) i ∷ answers_from ns vs (ap rest_of e) i

  pub values_given : {E : Type 0} (ns : List ℕ) (slots : List (Option T)) → slots ≡ map (λ p. Some (answer p)) ns → (r : Result (List T) E) → IfOk r (λ values. map Some values ≡ slots) → IfOk r (λ values. values ≡ map answer ns)
  values_given ns slots e (Ok values) h = answers_from ns values (h ∙ e)
  values_given ns slots e (Err x) h = tt

-- slots are emptied from the last on
module _ {T : Type 0} (before after : List (Option T)) (slot : Option T) (last : before ≡ after ++ slot ∷ []) where
  pub last_filled : All IsSome before → All IsSome after × IsSome slot
  last_filled filled = All-pop IsSome before after (Some slot) last filled

  pub one_more : (all : List (Option T)) (values : List T) (value : T) → slot ≡ Some value → (more : List T) → more ≡ values ++ value ∷ [] → before ++ reverse (map Some values) ≡ all → after ++ reverse (map Some more) ≡ all
  one_more all values value is more pushed taken =
      ap (λ vs. after ++ reverse (map Some vs)) pushed
      ∙ ap (λ os. after ++ reverse os) (map-append Some values (value ∷ []))
      ∙ ap (λ os. after ++ os) (reverse-append (map Some values) (Some value ∷ []))
      ∙ ap (λ o. after ++ o ∷ reverse (map Some values)) (sym is)
      ∙ sym (append_assoc after (slot ∷ []) (reverse (map Some values)))
      ∙ ap (λ os. os ++ reverse (map Some values)) (sym last)
      ∙ taken

map-reverse : {X Y : Type 0} (f : X → Y) (xs : List X) → map f (reverse xs) ≡ reverse (map f xs)
map-reverse f [] = refl
map-reverse f (x ∷ xs) =
    ap (map f) (reverse-append (x ∷ []) xs) ∙ map-append f (reverse xs) (x ∷ []) ∙ ap (λ ys. ys ++ f x ∷ []) (map-reverse f xs) ∙ sym (reverse-append (f x ∷ []) (map f xs))

pub all_taken : {T : Type 0} (slots all : List (Option T)) (values turned : List T) → length slots ≡ 0 → slots ++ reverse (map Some values) ≡ all → turned ≡ reverse values → map Some turned ≡ all
all_taken slots all values turned none taken is =
    ap (map Some) is ∙ map-reverse Some values ∙ ap (λ os. os ++ reverse (map Some values)) (sym (nothing_left slots none)) ∙ taken
