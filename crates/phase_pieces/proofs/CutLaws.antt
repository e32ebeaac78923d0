-- Rows cut into pieces.
use Rattle.std.proofs.Common.{◌≡◌, ◌⊎◌, inl, inr, ◌≢◌, ◌<◌, ◌≤◌, ◌+◌, ◌*◌, ◌/◌, ◌%◌, ◌-◌, ◌^◌, ℕ, zero, suc, length, ap, sym, ◌∙◌, subst, arith}
use Rattle.std.specs.Prelude.{min, slice_range}
use Rattle.std.proofs.Math.Nat.{le-min, mul_assoc, le_of_mul-le-mul_right, min-le_left, mod-lt, mul-le-mul_right}
use Rattle.std.proofs.lemmas.Grind.{pow_more}
use Rattle.std.proofs.lemmas.Nat.{div-add-mod'}
use Rattle.kql_cells.specs.Table.{Grid}
use Rattle.phase_laws.specs.Pieces.{piece_of}
use Rattle.phase_pieces.specs.Reports.{IsCutFor}
use Rattle.phase_pieces.specs.Sizes.{ArePieces, IsPieceSize}
use Rattle.worker_board.specs.Views.{WholeClaims}

-- Enough rows in a piece.

pub enough : (count least rows : ℕ) → least ≡ (count + 2147483646) / 2147483647 → least ≤ rows → count ≤ 2147483647 * rows
enough count least rows is le =
    let d = div-add-mod' (count + 2147483646) 2147483647 in
    let m : (count + 2147483646) % 2147483647 < 2147483647 = mod-lt (count + 2147483646) (omega arith) in
    omega (arith, d, m, is, le)

pub least-small : (count least : ℕ) → least ≡ (count + 2147483646) / 2147483647 → count < 2 ^ 63 → least < 2 ^ 34
least-small count least is small =
    let d = div-add-mod' (count + 2147483646) 2147483647 in
    omega (arith, d, is, small)

-- Whole pieces, and the rows behind them.

pub whole-few : (count rows : ℕ) → 0 < rows → count ≤ 2147483647 * rows → count / rows ≤ 2147483647
whole-few count rows some le =
    let d = div-add-mod' count rows in
    let t : count / rows * rows ≤ 2147483647 * rows = omega (arith, d, le) in
    le_of_mul-le-mul_right t some

pub none-behind : (count rows : ℕ) → count % rows ≡ 0 → count ≤ count / rows * rows
none-behind count rows none = let d = div-add-mod' count rows in omega (arith, d, none)

pub none-more : (count rows : ℕ) → 0 < rows → count / rows * rows < count + rows
none-more count rows some = let d = div-add-mod' count rows in omega (arith, d, some)

next : (w rows : ℕ) → (w + 1) * rows ≡ w * rows + rows
next w rows = omega arith

pub some-behind : (count rows : ℕ) → 0 < rows → count ≤ (count / rows + 1) * rows
some-behind count rows some = let d = div-add-mod' count rows in let n = next (count / rows) rows in let lt = mod-lt count some in omega (arith, d, n, lt)

pub some-more : (count rows : ℕ) → count % rows ≢ 0 → (count / rows + 1) * rows < count + rows
some-more count rows some = let d = div-add-mod' count rows in let n = next (count / rows) rows in omega (arith, d, n, some)

-- Rows doubled.

cases-lt : (a b : ℕ) → (a < b) ⊎ (b ≤ a)
cases-lt a b = grind arith

one-times : (n : ℕ) → n * 2 ^ 0 ≡ n
one-times n = omega arith

-- What is asked, or twice as many, and so on, where no smaller one of these sizes is enough.
pub record IsDoubled (count asked rows : ℕ) : Type 0 where
  pub times : ℕ
  pub doubled : rows ≡ asked * 2 ^ times
  pub needed : (fewer : ℕ) → fewer < times → 2147483647 * (asked * 2 ^ fewer) < count

pub size-asked : (count asked : ℕ) → IsDoubled count asked asked
size-asked count asked = record { times = 0; doubled = sym (one-times asked); needed = λ fewer lt. absurd (omega (arith, lt)) }

twice : (n times : ℕ) → n * 2 ^ times * 2 ≡ n * 2 ^ (times + 1)
twice n times = mul_assoc n (2 ^ times) 2 ∙ ap (λ (k : ℕ). n * k) (sym (pow_more 2 times))

too-few : (count least rows : ℕ) → least ≡ (count + 2147483646) / 2147483647 → rows < least → 2147483647 * rows < count
too-few count least rows is lt =
    let d = div-add-mod' (count + 2147483646) 2147483647 in
    let m : (count + 2147483646) % 2147483647 < 2147483647 = mod-lt (count + 2147483646) (omega arith) in
    omega (arith, d, m, is, lt)

pub size-doubled : (count least asked rows : ℕ) → least ≡ (count + 2147483646) / 2147483647 → rows < least → IsDoubled count asked rows → IsDoubled count asked (rows * 2)
size-doubled count least asked rows is lt s = record {
  times = s.times + 1;
  doubled = ap (λ (k : ℕ). k * 2) s.doubled ∙ twice asked s.times;
  needed = λ fewer before. elim (cases-lt fewer s.times) [
    | inl less ↦ s.needed fewer less
    | inr most ↦
        let same : fewer ≡ s.times = omega (arith, before, most) in
        let few : 2147483647 * rows < count = too-few count least rows is lt in
        rw (same, ← s.doubled) few
  ];
}

pub size-found : (count least asked rows : ℕ) → least ≡ (count + 2147483646) / 2147483647 → least ≤ rows → IsDoubled count asked rows → IsPieceSize count asked rows
size-found count least asked rows is le s = record {
  times = s.times;
  doubled = s.doubled;
  needed = s.needed;
  enough = enough count least rows is le;
}

pub pieces-found : (count asked rows pieces : ℕ) → IsPieceSize count asked rows → count ≤ pieces * rows → pieces * rows < count + rows → ArePieces count asked pieces
pieces-found count asked rows pieces s all each = record { rows = rows; size = s; all = all; each = each }

-- The pieces that a phase tells of.
pub pieces-told : (count n asked pieces told : ℕ) → ArePieces count asked pieces → count ≡ n → told ≡ pieces → ArePieces n asked told
pieces-told count n asked pieces told p same is = subst (λ (k : ℕ). ArePieces k asked told) same (subst (λ (k : ℕ). ArePieces count asked k) (sym is) p)

pub cut-same : (count n asked : ℕ) (g : WholeClaims) → IsCutFor count asked g → count ≡ n → IsCutFor n asked g
cut-same count n asked g p same = subst (λ (k : ℕ). IsCutFor k asked g) same p

pub ruleset told_steps = (cut-same)

pub ruleset cut_steps = (enough, least-small, size-asked, size-doubled, size-found)

pub ruleset piece_steps = (whole-few, none-behind, none-more, some-behind, some-more)

-- The bounds of a piece.

pub end-behind : (count from rows : ℕ) → from ≤ count → from ≤ min count (from + rows)
end-behind count from rows le = le-min le (omega arith)

pub end-within : (count end : ℕ) → min count end ≤ count
end-within count end = min-le_left count end

pub ruleset bound_steps = (end-behind, end-within)

pub to-within : (to count n : ℕ) → to ≤ count → count ≡ n → to ≤ n
to-within to count n le is = omega (arith, le, is)

pub piece-is : (t r : Grid) (rows piece count from to : ℕ) → count ≡ length t.lines → from ≡ piece * rows → to ≡ min count (piece * rows + rows) → r ≡ record t { lines = slice_range t.lines from to } → r ≡ piece_of rows t piece
unfolding piece_of
piece-is t r rows piece count from to is f e same =
    same
    ∙ (ap (λ (n : ℕ). record t { lines = slice_range t.lines n to }) f
    ∙ ap (λ (n : ℕ). record t { lines = slice_range t.lines (piece * rows) n }) (e ∙ ap (λ (n : ℕ). min n (piece * rows + rows)) is))

pub ruleset table_steps = (to-within, piece-is)

pub begins : (piece pieces rows n : ℕ) → piece < pieces → pieces * rows < n + rows → piece * rows ≤ n
begins piece zero rows n lt each = absurd (omega (arith, lt))
begins piece (suc more) rows n lt each =
    let whole = next more rows in
    let up : suc more * rows ≡ (more + 1) * rows = ap (λ (k : ℕ). k * rows) (omega arith) in
    let less : piece * rows ≤ more * rows = mul-le-mul_right rows (omega (arith, lt)) in
    omega (arith, whole, up, less, each)
