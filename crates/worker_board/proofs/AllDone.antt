-- From the seats that were dealt to the results of all pieces.
use Rattle.std.proofs.Common.{◌≡◌, ℕ, ◌<◌, true, false, List, [], ◌∷◌, ◌++◌, map, length, get_or, All, sym, refl, ap, subst, ◌∙◌, ⊎_elim}
use Rattle.std.specs.List.{range_with_len}
use Rattle.std.proofs.lemmas.List.{length-map}
use Rattle.std.proofs.lemmas.List.Elements.{All-map, All-push}
use Rattle.board_core.specs.declared.events.Claim.{Claim}
use Rattle.worker_board.specs.declared.known.Size.{Size}
use Rattle.worker_board.specs.Views.{BoardView, SeatView, IsDone, HasStopped, NamesEach, seat_of, seats_of}
use Rattle.worker_board.specs.declared.work.Desk.{Desk}
use Rattle.worker_board.specs.Results.{IsReady, IsWaiting, Leaves, NamesAll, IsNamedBelow, IsRight, times_made, result_of, results_of}
use Rattle.worker_board.proofs.Sums.{length-range}
use Rattle.worker_board.proofs.Filled.{times-results, right_results}

pub all_ready : (board : BoardView) (ns : List ℕ) (seats : List SeatView) → seats ≡ map (seat_of board) ns → All (IsReady board) seats
all_ready board ns seats dealt =
    subst (All (IsReady board)) (sym dealt)
    (All-map (IsReady board) (seat_of board) ns (λ k d l. record { of_board = record { table = refl; pieces = refl; workers = refl }; one_number = refl; no_claim = refl; no_mark = refl }))

pub seats_counted : (board : BoardView) (n : ℕ) (seats : List SeatView) → seats ≡ seats_of board n → length seats ≡ n
seats_counted board n seats dealt = ap length dealt ∙ length-map (range_with_len 0 n) (seat_of board) ∙ length-range 0 n

-- a desk more
pub one_waiting : {T : Type 0} (board : BoardView) (desks more : List (Desk T)) (desk : Desk T) → more ≡ desks ++ desk ∷ [] → All (IsWaiting board) desks → IsWaiting board desk → All (IsWaiting board) more
one_waiting board desks more desk is each one = subst (All (IsWaiting board)) (sym is) (All-push (IsWaiting board) desks desk each one)

-- what is left where no worker has stopped
module _ {T : Type 0} (answer : ℕ → T) (board : BoardView) (desk : Desk T) (leaves : Leaves answer board desk) (unstopped : HasStopped desk.seat → false ≡ true) where
  pub all_done : IsDone desk.seat × (desk.results.items ≡ results_of answer desk.seat.known.claims)
  all_done = ⊎_elim (λ s. let e = unstopped s in cc) (λ d. d) leaves.left

  module _ (size : Size) (claims : List Claim) (pieces : ℕ) (same : claims ≡ desk.seat.known.claims) (each : NamesEach size claims) (count : size.pieces ≡ pieces) where
    results_are : desk.results.items ≡ results_of answer claims
    results_are = all_done.1 ∙ sym (ap (results_of answer) same)

    pub names_all : NamesAll pieces desk.results.items
    names_all p lt = ap (times_made p) results_are ∙ times-results answer p claims ∙ each.once p (subst (λ n. p < n) (sym count) lt)

    pub names_below : All (IsNamedBelow pieces) desk.results.items
    names_below =
        subst (All (IsNamedBelow pieces)) (sym results_are)
        (All-map (IsNamedBelow pieces) (result_of answer) claims (λ k d lt. subst (λ n. (get_or claims k d).piece < n) count (each.known k d lt).0))

  pub right_all : All (IsRight answer) desk.results.items
  right_all = subst (All (IsRight answer)) (sym all_done.1) (right_results answer desk.seat.known.claims)
