-- `extend` and `project` in rounds.
use Rattle.std.proofs.Common.{◌≡◌, ◌<◌, ◌≤◌, ◌+◌, ◌*◌, ℕ, List, [], ◌∷◌, ◌++◌, length, ap, sym, ◌∙◌, subst, arith}
use Rattle.std.specs.Prelude.{All}
use Rattle.std.proofs.lemmas.List.{length-append}
use Rattle.std.proofs.lemmas.List.Elements.{All-append, All-cons, All-head, All-nil, All-tail}
use Rattle.kql_bound.specs.declared.parts.BItem.{BItem}
use Rattle.phase_pieces.specs.Reports.{IsCutFor, IsWholeFor}
use Rattle.phase_pieces.specs.Sizes.{ArePieces}
use Rattle.phase_windows.specs.Rounds.{AreRounds, AreRoundsBefore, HasPieces, HavePieces}
use Rattle.worker_board.specs.Views.{WholeClaims}

pub cut-all : (count n pieces rows : ℕ) → count ≡ n → count ≤ pieces * rows → n ≤ pieces * rows
cut-all count n pieces rows is le = subst (λ (k : ℕ). k ≤ pieces * rows) is le

pub cut-each : (count n pieces rows : ℕ) → count ≡ n → pieces * rows < count + rows → pieces * rows < n + rows
cut-each count n pieces rows is lt = subst (λ (k : ℕ). pieces * rows < k + rows) is lt

pub last-round : (n : ℕ) (items : List BItem) (old new : List WholeClaims) (g : WholeClaims) → AreRoundsBefore n items old → new ≡ old ++ g ∷ [] → IsWholeFor n g → AreRounds n items new
last-round n items old new g before added whole = record {
  count = ap length added ∙ (length-append old (g ∷ []) ∙ before.count);
  whole = subst (All (IsWholeFor n)) (sym added) (All-append (IsWholeFor n) old (g ∷ []) before.whole (All-cons (IsWholeFor n) g [] whole (All-nil (IsWholeFor n))));
}

-- The pieces of each round.

pub no-pieces : (p : ℕ) (gs : List WholeClaims) → gs ≡ [] → HavePieces p gs
no-pieces p gs none = subst (HavePieces p) (sym none) (All-nil (HasPieces p))

pub one-has : (p : ℕ) (old new : List WholeClaims) (g : WholeClaims) → HavePieces p old → new ≡ old ++ g ∷ [] → g.size.pieces ≡ p → HavePieces p new
one-has p old new g before added is =
    subst (HavePieces p) (sym added) (All-append (HasPieces p) old (g ∷ []) before (All-cons (HasPieces p) g [] is (All-nil (HasPieces p))))

each-cut : (p n asked : ℕ) (gs : List WholeClaims) → ArePieces n asked p → HavePieces p gs → All (IsCutFor n asked) gs
each-cut p n asked [] cut h = All-nil (IsCutFor n asked)
each-cut p n asked (g ∷ gs) cut h =
    All-cons (IsCutFor n asked) g gs (subst (ArePieces n asked) (sym (All-head (HasPieces p) g gs h)) cut) (each-cut p n asked gs cut (All-tail (HasPieces p) g gs h))

pub all-cut : (count n asked p : ℕ) (old new : List WholeClaims) (g : WholeClaims) → ArePieces count asked p → count ≡ n → HavePieces p old → new ≡ old ++ g ∷ [] → g.size.pieces ≡ p → All (IsCutFor n asked) new
all-cut count n asked p old new g cut same before added is =
    each-cut p n asked new (subst (λ (k : ℕ). ArePieces k asked p) same cut) (one-has p old new g before added is)

pub ruleset item_steps = (cut-all, cut-each, last-round)
