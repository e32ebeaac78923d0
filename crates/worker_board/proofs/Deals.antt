-- The seats are dealt one by one.
use Rattle.std.proofs.Common.{◌≡◌, ℕ, zero, suc, ◌+◌, ◌-◌, ◌<◌, List, [], ◌∷◌, ◌++◌, map, sym, refl, ap, subst, ◌∙◌, arith}
use Rattle.std.specs.List.{range_with_len}
use Rattle.worker_board.specs.declared.known.Size.{Size}
use Rattle.worker_board.specs.declared.known.Known.{Known}
use Rattle.worker_board.specs.Moves.{newly, only, from_worker, all_but_first, first_alone, IsFresh}
use Rattle.worker_board.specs.Views.{BoardView, SeatView, seat_of}

range-push : (a n : ℕ) → range_with_len a (suc n) ≡ range_with_len a n ++ (a + n) ∷ []
range-push a zero = λ i. (let e : a ≡ a + 0 = omega arith in e i) ∷ []
range-push a (suc n) = λ i. a ∷ (range-push (a + 1) n ∙ ap (λ x. range_with_len (a + 1) n ++ x ∷ []) (let e : a + 1 + n ≡ a + suc n = omega arith in e)) i

map-push : {X Y : Type 0} (f : X → Y) (xs : List X) (x : X) → map f (xs ++ x ∷ []) ≡ map f xs ++ f x ∷ []
map-push f [] x = refl
map-push f (y ∷ xs) x = λ i. f y ∷ map-push f xs x i

pub dealt_more : (board : BoardView) (n m : ℕ) (seats : List SeatView) (seat : SeatView) → m ≡ n + 1 → seats ≡ map (seat_of board) (range_with_len 0 n) → seat.board ≡ board.id → seat.known ≡ only board.size n
    → seats ++ seat ∷ [] ≡ map (seat_of board) (range_with_len 0 m)
dealt_more board n m seats seat one_more before table known =
    let s : seat ≡ seat_of board n = λ i. record { board = table i; known = known i } in
    let r : range_with_len 0 n ++ n ∷ [] ≡ range_with_len 0 m = ap (λ x. range_with_len 0 n ++ x ∷ []) (let e : n ≡ 0 + n = omega arith in e) ∙ sym (range-push 0 n) ∙ ap (range_with_len 0) (let e : suc n ≡ m = omega arith in e) in
    (λ i. before i ++ s i ∷ []) ∙ sym (map-push (seat_of board) (range_with_len 0 n) n) ∙ ap (map (seat_of board)) r

module _ (k : Size) (w : ℕ) (v : Known) (is : v ≡ from_worker k w) where
  numbers_left : (n m : ℕ) → k.workers - w ≡ suc n → n ≡ m → range_with_len w (k.workers - w) ≡ w ∷ range_with_len (w + 1) m
  numbers_left n m e f = ap (range_with_len w) e ∙ ap (λ z. w ∷ range_with_len (w + 1) z) f

  pub fresh_left : IsFresh v
  fresh_left = subst IsFresh (sym is) (refl, refl, refl)

  pub size_left : v.size ≡ k
  size_left = ap (λ (u : Known). u.size) is

  pub others_left : w < k.workers → all_but_first v ≡ from_worker k (w + 1)
  others_left lt = let e : k.workers - w ≡ suc (k.workers - (w + 1)) = omega arith in
      ap all_but_first is ∙ ap (λ l. all_but_first (newly k l)) (numbers_left _ _ e refl)

  pub first_left : w < k.workers → first_alone v ≡ only k w
  first_left lt = let e : k.workers - w ≡ suc (k.workers - (w + 1)) = omega arith in
      ap first_alone is ∙ ap (λ l. first_alone (newly k l)) (numbers_left _ _ e refl)

  pub last_left : w + 1 ≡ k.workers → v ≡ only k w
  last_left last = let e : k.workers - w ≡ suc 0 = omega arith in
      is ∙ ap (newly k) (ap (range_with_len w) e)
