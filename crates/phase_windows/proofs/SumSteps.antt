-- The round that sums up, and the carries of the rows before each piece.
use Rattle.std.proofs.Common.{◌≡◌, ◌≢◌, ◌<◌, ◌≤◌, ◌+◌, ◌*◌, ◌-◌, ◌^◌, ℕ, zero, suc, Bool, List, [], ◌∷◌, ◌++◌, get_or, length, map, take, refl, ap, ap₂, sym, ◌∙◌, subst, arith}
use Rattle.std.specs.Prelude.{All, filter, min}
use Rattle.std.specs.List.{list_any, range_with_len}
use Rattle.std.proofs.Math.Nat.{le-min, min-eq_right, min-le_left}
use Rattle.std.proofs.lemmas.List.{get_or-map, length-map, take_all, take_more}
use Rattle.std.proofs.lemmas.List.Elements.{All-cons, All-nil}
use Rattle.std.proofs.lemmas.List.FromFn.{get_or-map-range_with_len, length-map-range_with_len, length-range_with_len, map-range_with_len_more}
use Rattle.std.proofs.lemmas.List.Sums.{count_by-le-length, length-filter}
use Rattle.kql_cells.specs.Table.{Grid}
use Rattle.kql_bound.specs.declared.expr.WinCall.{WinCall}
use Rattle.kql_bound.specs.declared.parts.BItem.{BItem}
use Rattle.kql_scalar.specs.Rows.{rows}
use Rattle.phase_pieces.specs.Reports.{IsWholeFor}
use Rattle.phase_pieces.proofs.CutLaws.{begins, to-within}
use Rattle.phase_windows.specs.Rounds.{AreRoundsBefore, rounds_for}
use Rattle.phase_windows.specs.Works.{AreBeforePieces, carries_before, carries_of_piece, end_of, sums_before_pieces, sums_of_pieces}
use Rattle.window_ops.specs.Calls.{calls_of_items, carries_of, carry_of}
use Rattle.window_ops.specs.Carries.{Carried, carried, last_run}
use Rattle.worker_board.specs.Views.{WholeClaims}

-- A piece.

pub piece-sums : (items : List BItem) (t : Grid) (n piece count from to : ℕ) (cs : List Carried) → count ≡ length t.lines → from ≡ piece * n → to ≡ min count (piece * n + n) → cs ≡ carries_of (calls_of_items items) t from to → cs ≡ carries_of_piece items t n piece
unfolding carries_of_piece
piece-sums items t n piece count from to cs is f e made =
    made
    ∙ (ap (λ (i : ℕ). carries_of (calls_of_items items) t i to) f
    ∙ ap (λ (i : ℕ). carries_of (calls_of_items items) t (piece * n) i) (e ∙ ap (λ (i : ℕ). min i (piece * n + n)) is))

pub ruleset piece_steps = (piece-sums, to-within)

-- Whether there is a call.

no-calls : (calls : List WinCall) (t : Grid) (i j : ℕ) (cs : List Carried) → cs ≡ carries_of calls t i j → cs ≡ [] → calls ≡ []
unfolding carries_of
no-calls [] t i j cs is none = refl
no-calls (w ∷ ws) t i j cs is none = let e : suc (length (carries_of ws t i j)) ≡ 0 = ap length (sym is ∙ none) in absurd (omega (arith, e))

some-calls : (calls : List WinCall) (t : Grid) (i j : ℕ) (cs : List Carried) → cs ≡ carries_of calls t i j → cs ≢ [] → rounds_for calls ≡ 2
unfolding carries_of rounds_for
some-calls [] t i j cs is some = absurd (some is)
some-calls (w ∷ ws) t i j cs is some = refl

pub none-before : (items : List BItem) (t : Grid) (n pieces : ℕ) (cs : List Carried) → cs ≡ carries_of (calls_of_items items) t 0 0 → cs ≡ [] → AreBeforePieces items t n pieces []
unfolding AreBeforePieces carries_before carries_of
none-before items t n pieces cs is none = λ piece lt. sym (ap (λ (ws : List WinCall). map (λ w. carry_of w t 0 (piece * n)) ws) (no-calls (calls_of_items items) t 0 0 cs is none))

pub no-rounds : (workers : ℕ) (items : List BItem) (t : Grid) (cs : List Carried) → cs ≡ carries_of (calls_of_items items) t 0 0 → cs ≡ [] → AreRoundsBefore workers items []
unfolding rounds_for
no-rounds workers items t cs is none = record { count = sym (ap rounds_for (no-calls (calls_of_items items) t 0 0 cs is none)); whole = All-nil (IsWholeFor workers) }

pub one-round : (workers : ℕ) (items : List BItem) (t : Grid) (cs : List Carried) (g : WholeClaims) (gs : List WholeClaims) → cs ≡ carries_of (calls_of_items items) t 0 0 → cs ≢ [] → gs ≡ [] ++ g ∷ [] → IsWholeFor workers g → AreRoundsBefore workers items gs
one-round workers items t cs g gs is some one whole = subst (AreRoundsBefore workers items) (sym one) (record {
  count = sym (some-calls (calls_of_items items) t 0 0 cs is some);
  whole = All-cons (IsWholeFor workers) g [] whole (All-nil (IsWholeFor workers));
})

pub sums-are : (items : List BItem) (t : Grid) (n pieces : ℕ) (sums : List (List Carried)) → sums ≡ map (λ piece. carries_of_piece items t n piece) (range_with_len 0 pieces) → sums ≡ sums_of_pieces items t n pieces
unfolding sums_of_pieces
sums-are items t n pieces sums is = is

pub all-before : (items : List BItem) (t : Grid) (n pieces : ℕ) (lists : List (List Carried)) → lists ≡ sums_before_pieces items t n pieces → AreBeforePieces items t n pieces lists
unfolding AreBeforePieces sums_before_pieces
all-before items t n pieces lists is = λ piece lt. ap (λ (ls : List (List Carried)). get_or ls piece []) is ∙ get_or-map-range_with_len (carries_before items t n) 0 pieces piece piece [] lt (omega arith)

pub ruleset round_steps = (none-before, no-rounds, all-before)

-- The walk from the left.

pub walk-start : (items : List BItem) (t : Grid) (n : ℕ) → [] ≡ sums_before_pieces items t n 0
unfolding sums_before_pieces
walk-start items t n = refl

pub walk-first : (items : List BItem) (t : Grid) (n : ℕ) (first : List Carried) → first ≡ carries_of (calls_of_items items) t 0 0 → first ≡ carries_of (calls_of_items items) t 0 (min (length t.lines) (0 * n))
walk-first items t n first is =
    let none : min (length t.lines) (0 * n) ≡ 0 = omega arith in
    is ∙ ap (carries_of (calls_of_items items) t 0) (sym none)

sums-long : (items : List BItem) (t : Grid) (n pieces : ℕ) (sums : List (List Carried)) → sums ≡ sums_of_pieces items t n pieces → length sums ≡ pieces
unfolding sums_of_pieces
sums-long items t n pieces sums is = ap length is ∙ length-map-range_with_len (carries_of_piece items t n) 0 pieces

pub walk-begins : (items : List BItem) (t : Grid) (n pieces piece count : ℕ) (sums : List (List Carried)) → sums ≡ sums_of_pieces items t n pieces → count ≡ length sums → piece < count → pieces * n < length t.lines + n → piece * n ≤ length t.lines
walk-begins items t n pieces piece count sums is long lt each =
    let k = sums-long items t n pieces sums is in
    begins piece pieces n (length t.lines) (omega (arith, k, long, lt)) each

pub walk-before : (items : List BItem) (t : Grid) (n piece : ℕ) (so_far : List Carried) → piece * n ≤ length t.lines → so_far ≡ carries_of (calls_of_items items) t 0 (min (length t.lines) (piece * n)) → so_far ≡ carries_before items t n piece
unfolding carries_before
walk-before items t n piece so_far le is = is ∙ ap (carries_of (calls_of_items items) t 0) (min-eq_right le)

pub walk-sums : (items : List BItem) (t : Grid) (n pieces piece count : ℕ) (sums : List (List Carried)) (sum : List Carried) → sums ≡ sums_of_pieces items t n pieces → count ≡ length sums → piece < count → sum ≡ get_or sums piece sum → sum ≡ carries_of_piece items t n piece
unfolding sums_of_pieces
walk-sums items t n pieces piece count sums sum is long lt at =
    let k = sums-long items t n pieces sums is in
    at
    ∙ (ap (λ (ls : List (List Carried)). get_or ls piece sum) is
    ∙ get_or-map-range_with_len (carries_of_piece items t n) 0 pieces piece piece sum (omega (arith, k, long, lt)) (omega arith))

pub walk-pushed : (items : List BItem) (t : Grid) (n piece : ℕ) (old new : List (List Carried)) (so_far : List Carried) → old ≡ sums_before_pieces items t n piece → so_far ≡ carries_before items t n piece → new ≡ old ++ so_far ∷ [] → new ≡ sums_before_pieces items t n (piece + 1)
unfolding sums_before_pieces
walk-pushed items t n piece old new so_far is last added =
    added
    ∙ (ap₂ (λ (ls : List (List Carried)) (c : List Carried). ls ++ c ∷ []) is last
    ∙ sym (map-range_with_len_more (carries_before items t n) 0 piece piece (omega arith)))

pub walk-next : (items : List BItem) (t : Grid) (n piece : ℕ) (next : List Carried) → next ≡ carries_of (calls_of_items items) t 0 (end_of (length t.lines) n piece) → next ≡ carries_of (calls_of_items items) t 0 (min (length t.lines) ((piece + 1) * n))
walk-next items t n piece next is =
    let more : piece * n + n ≡ (piece + 1) * n = omega arith in
    is ∙ ap (λ (i : ℕ). carries_of (calls_of_items items) t 0 (min (length t.lines) i)) more

pub walk-end : (items : List BItem) (t : Grid) (n pieces piece count : ℕ) (sums before : List (List Carried)) → sums ≡ sums_of_pieces items t n pieces → count ≡ length sums → piece ≡ count → before ≡ sums_before_pieces items t n piece → before ≡ sums_before_pieces items t n pieces
walk-end items t n pieces piece count sums before is long all made =
    made ∙ ap (sums_before_pieces items t n) (all ∙ (long ∙ sums-long items t n pieces sums is))

pub ruleset walk_steps = (walk-start, walk-first, walk-begins, walk-before, walk-sums, walk-pushed, walk-next, walk-end)

-- Carries joined, call by call.

-- The rows of a last run are some of the rows.
filter-short : (p : ℕ → Bool) (i n : ℕ) → length (filter p (range_with_len i n)) ≤ n
filter-short p i n =
    let all = length-range_with_len i n in
    let some = count_by-le-length p (range_with_len i n) in
    let same = length-filter p (range_with_len i n) in
    omega (arith, all, some, same)

count-within : (w : WinCall) (t : Grid) (i j : ℕ) → (carry_of w t i j).count ≤ j - i
unfolding carry_of carried last_run rows
count-within w t i j = filter-short _ i (j - i)

abbrev call : WinCall
call = record { name = []; args = [] }

pub long-carries : (calls : List WinCall) (t : Grid) (i j : ℕ) (cs : List Carried) → cs ≡ carries_of calls t i j → length cs ≡ length calls
unfolding carries_of
long-carries calls t i j cs is = ap length is ∙ length-map calls (λ w. carry_of w t i j)

pub carry-at : (calls : List WinCall) (t : Grid) (i j k : ℕ) (cs : List Carried) (c d : Carried) → cs ≡ carries_of calls t i j → k < length cs → c ≡ get_or cs k d → c ≡ carry_of (get_or calls k call) t i j
unfolding carries_of
carry-at calls t i j k cs c d is lt at =
    let n = long-carries calls t i j cs is in
    at
    ∙ (ap (λ (xs : List Carried). get_or xs k d) is
    ∙ get_or-map (λ w. carry_of w t i j) calls k call d (omega (arith, n, lt)))

pub join-few : (w : WinCall) (t : Grid) (i j count : ℕ) (a b : Carried) → i ≤ j → j ≤ length t.lines → count ≡ length t.lines → count < 2 ^ 63 → a ≡ carry_of w t 0 i → b ≡ carry_of w t i j → a.count + b.count < 2 ^ 63
join-few w t i j count a b order within same small first second =
    let m : a.count ≤ i - 0 = subst (λ (c : Carried). c.count ≤ i - 0) (sym first) (count-within w t 0 i) in
    let n : b.count ≤ j - i = subst (λ (c : Carried). c.count ≤ j - i) (sym second) (count-within w t i j) in
    omega (arith, order, within, same, small, m, n)

pub join-step : (calls : List WinCall) (t : Grid) (j k : ℕ) (old new : List Carried) (c : Carried) → k < length calls → old ≡ take k (carries_of calls t 0 j) → c ≡ carry_of (get_or calls k call) t 0 j → new ≡ old ++ c ∷ [] → new ≡ take (k + 1) (carries_of calls t 0 j)
join-step calls t j k old new c lt is one added =
    let n = long-carries calls t 0 j (carries_of calls t 0 j) refl in
    let at : get_or (carries_of calls t 0 j) k c ≡ c = carry-at calls t 0 j k (carries_of calls t 0 j) (get_or (carries_of calls t 0 j) k c) c refl (omega (arith, n, lt)) refl ∙ sym one in
    added
    ∙ (ap (λ (xs : List Carried). xs ++ c ∷ []) is
    ∙ sym (take_more (carries_of calls t 0 j) k c (omega (arith, n, lt)) ∙ ap (λ (x : Carried). take k (carries_of calls t 0 j) ++ x ∷ []) at))

pub join-end : (calls : List WinCall) (t : Grid) (i j k : ℕ) (before made : List Carried) → before ≡ carries_of calls t 0 i → k ≡ length before → made ≡ take k (carries_of calls t 0 j) → made ≡ carries_of calls t 0 j
join-end calls t i j k before made is all so_far =
    let m = long-carries calls t 0 i before is in
    let n = long-carries calls t 0 j (carries_of calls t 0 j) refl in
    so_far ∙ take_all k (carries_of calls t 0 j) (omega (arith, m, n, all))

-- The carries of a piece, and those before it, at a call.

end-within : (count n piece : ℕ) → end_of count n piece ≤ count
end-within count n piece = min-le_left count (piece * n + n)

start-below : (count n piece : ℕ) → piece * n ≤ count → piece * n ≤ end_of count n piece
start-below count n piece le = le-min le (omega arith)

pub both-long : (items : List BItem) (t : Grid) (n piece k : ℕ) (before sums : List Carried) → before ≡ carries_before items t n piece → sums ≡ carries_of_piece items t n piece → k < length before → k < length sums
unfolding carries_before carries_of_piece
both-long items t n piece k before sums first second lt =
    let m = long-carries (calls_of_items items) t 0 (piece * n) before first in
    let l = long-carries (calls_of_items items) t (piece * n) (end_of (length t.lines) n piece) sums second in
    omega (arith, m, l, lt)

pub both-few : (items : List BItem) (t : Grid) (n piece count k : ℕ) (before sums : List Carried) (a b : Carried) → before ≡ carries_before items t n piece → sums ≡ carries_of_piece items t n piece → piece * n ≤ length t.lines → count ≡ length t.lines → count < 2 ^ 63 → k < length before → a ≡ get_or before k a → b ≡ get_or sums k b → a.count + b.count < 2 ^ 63
unfolding carries_before carries_of_piece
both-few items t n piece count k before sums a b first second le same small lt one two =
    let calls = calls_of_items items in
    let end = end_of (length t.lines) n piece in
    join-few (get_or calls k call) t (piece * n) end count a b (start-below (length t.lines) n piece le) (end-within (length t.lines) n piece) same small
    (carry-at calls t 0 (piece * n) k before a a first lt one)
    (carry-at calls t (piece * n) end k sums b b second (both-long items t n piece k before sums first second lt) two)

pub both-step : (items : List BItem) (t : Grid) (n piece k : ℕ) (before sums old new : List Carried) (a b c : Carried) → before ≡ carries_before items t n piece → sums ≡ carries_of_piece items t n piece → piece * n ≤ length t.lines → k < length before → a ≡ get_or before k a → b ≡ get_or sums k b → ((w : WinCall) (u : Grid) (i j m : ℕ) → i ≤ j → j ≤ m → a ≡ carry_of w u i j → b ≡ carry_of w u j m → c ≡ carry_of w u i m) → old ≡ take k (carries_of (calls_of_items items) t 0 (end_of (length t.lines) n piece)) → new ≡ old ++ c ∷ [] → new ≡ take (k + 1) (carries_of (calls_of_items items) t 0 (end_of (length t.lines) n piece))
unfolding carries_before carries_of_piece
both-step items t n piece k before sums old new a b c first second le lt one two both is added =
    let calls = calls_of_items items in
    let end = end_of (length t.lines) n piece in
    let m = long-carries calls t 0 (piece * n) before first in
    let joined = both (get_or calls k call) t 0 (piece * n) end (omega arith) (start-below (length t.lines) n piece le)
    (carry-at calls t 0 (piece * n) k before a a first lt one)
    (carry-at calls t (piece * n) end k sums b b second (both-long items t n piece k before sums first second lt) two) in
    join-step calls t end k old new c (omega (arith, m, lt)) is joined added

pub both-end : (items : List BItem) (t : Grid) (n piece k : ℕ) (before made : List Carried) → before ≡ carries_before items t n piece → k ≡ length before → made ≡ take k (carries_of (calls_of_items items) t 0 (end_of (length t.lines) n piece)) → made ≡ carries_of (calls_of_items items) t 0 (end_of (length t.lines) n piece)
unfolding carries_before
both-end items t n piece k before made first all is = join-end (calls_of_items items) t (piece * n) (end_of (length t.lines) n piece) k before made first all is

pub ruleset join_steps = (both-long, both-few, both-step, both-end)
