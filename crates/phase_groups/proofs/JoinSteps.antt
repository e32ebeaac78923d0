-- Groups of pieces joined in order.
use Rattle.std.proofs.Common.{◌≡◌, ◌<◌, ◌≤◌, ◌+◌, ◌*◌, ◌-◌, ◌^◌, ℕ, zero, suc, List, [], ◌∷◌, ◌++◌, length, reverse, refl, ap, sym, ◌∙◌, subst, arith}
use Rattle.std.specs.Prelude.{Bool, false, is_some, min, true}
use Rattle.std.proofs.Math.Nat.{le-min, min-eq_left, min-eq_right, min-le_left, min-le_right, mul-le-mul_right}
use Rattle.std.proofs.lemmas.List.{reverse-append, reverse-reverse}
use Rattle.kql_cells.specs.Table.{Grid}
use Rattle.kql_cells.specs.declared.schema.Column.{Column}
use Rattle.kql_bound.specs.declared.parts.GroupPlan.{GroupPlan}
use Rattle.kql_meaning.specs.FittingOperators.{answer_if, columns_if, summarize_fits}
use Rattle.kql_meaning.specs.Summarize.{group_columns}
use Rattle.summarize_pieces.specs.Pieces.{AreGroupsOf, AreNeighbours, Grouped, groups_in}
use Rattle.phase_pieces.proofs.CutLaws.{begins}
use Rattle.phase_groups.specs.Works.{GroupsSeen, IsGroupRun, RangeSeen, all_seen, behind, ends, seen_at, starts}

-- What is left is taken from the front.

pub start-left : (r : GroupsSeen) (more left : List RangeSeen) → left ≡ reverse more → more ≡ all_seen r 0 r.cut.pieces → reverse left ≡ all_seen r 0 (r.cut.pieces - 0)
start-left r more left turned is =
    let whole : r.cut.pieces ≡ r.cut.pieces - 0 = omega arith in
    ap reverse turned ∙ (reverse-reverse more ∙ (is ∙ ap (all_seen r 0) whole))

-- Of pieces from one on the first and the others.
parted : (r : GroupsSeen) (x : RangeSeen) (xs : List RangeSeen) (a n : ℕ) → x ∷ xs ≡ all_seen r a n → (0 < n) × (x ≡ seen_at r a) × (xs ≡ all_seen r (a + 1) (n - 1))
parted r x xs a zero is = absurd cc
parted r x xs a (suc n) is =
    let same : suc n - 1 ≡ n = omega arith in
    let first : x ≡ seen_at r a = cc in
    let rest : xs ≡ all_seen r (a + 1) n = cc in
    (omega arith, first, rest ∙ ap (all_seen r (a + 1)) (sym same))

one-off : (r : GroupsSeen) (left rest : List RangeSeen) (x : RangeSeen) (a n : ℕ) → left ≡ rest ++ x ∷ [] → reverse left ≡ all_seen r a n → (0 < n) × (x ≡ seen_at r a) × (reverse rest ≡ all_seen r (a + 1) (n - 1))
one-off r left rest x a n is h = parted r x (reverse rest) a n (sym (reverse-append rest (x ∷ [])) ∙ (sym (ap reverse is) ∙ h))

pub next-is : (r : GroupsSeen) (left rest : List RangeSeen) (x : RangeSeen) (a : ℕ) → left ≡ rest ++ x ∷ [] → reverse left ≡ all_seen r a (r.cut.pieces - a) → x ≡ seen_at r a
next-is r left rest x a is h = (one-off r left rest x a (r.cut.pieces - a) is h).1

pub next-rest : (r : GroupsSeen) (left rest : List RangeSeen) (x : RangeSeen) (a : ℕ) → left ≡ rest ++ x ∷ [] → reverse left ≡ all_seen r a (r.cut.pieces - a) → reverse rest ≡ all_seen r (a + 1) (r.cut.pieces - (a + 1))
next-rest r left rest x a is h =
    let same : r.cut.pieces - a - 1 ≡ r.cut.pieces - (a + 1) = omega arith in
    (one-off r left rest x a (r.cut.pieces - a) is h).2 ∙ ap (all_seen r (a + 1)) same

none-there : (r : GroupsSeen) (a n : ℕ) → 0 < n → [] ≡ all_seen r a n → ⊥
none-there r a zero lt is = absurd (omega (arith, lt))
none-there r a (suc n) lt is = cc

pub next-there : (r : GroupsSeen) (left : List RangeSeen) (a : ℕ) → a < r.cut.pieces → left ≡ [] → reverse left ≡ all_seen r a (r.cut.pieces - a) → ⊥
next-there r left a lt none h = none-there r a (r.cut.pieces - a) (omega (arith, lt)) (sym (ap reverse none) ∙ h)

-- Where the pieces up to one end.

next : (w rows : ℕ) → (w + 1) * rows ≡ w * rows + rows
next w rows = omega arith

none-behind : (r : GroupsSeen) → behind r 0 ≡ 0
none-behind r =
    let none : 0 * r.cut.rows ≡ 0 = omega arith in
    ap (λ (n : ℕ). min (length r.table.lines) n) none ∙ min-eq_right (omega arith)

all-behind : (r : GroupsSeen) → IsGroupRun r → behind r r.cut.pieces ≡ length r.table.lines
all-behind r h = min-eq_left h.all

behind-within : (r : GroupsSeen) (a : ℕ) → behind r a ≤ length r.table.lines
behind-within r a = min-le_left (length r.table.lines) (a * r.cut.rows)

behind-up : (r : GroupsSeen) (a b : ℕ) → a ≤ b → behind r a ≤ behind r b
behind-up r a b le =
    let up : a * r.cut.rows ≤ b * r.cut.rows = mul-le-mul_right r.cut.rows le in
    let down : behind r a ≤ a * r.cut.rows = min-le_right (length r.table.lines) (a * r.cut.rows) in
    le-min (behind-within r a) (omega (arith, up, down))

-- A piece begins where those before it end, and ends where those up to it do.

starts-behind : (r : GroupsSeen) (piece : ℕ) → IsGroupRun r → piece < r.cut.pieces → starts r piece ≡ behind r piece
starts-behind r piece h lt = sym (min-eq_right (begins piece r.cut.pieces r.cut.rows (length r.table.lines) lt h.each))

ends-behind : (r : GroupsSeen) (piece : ℕ) → ends r piece ≡ behind r (piece + 1)
ends-behind r piece = ap (λ (n : ℕ). min (length r.table.lines) n) (sym (next piece r.cut.rows))

pub piece-groups : (r : GroupsSeen) (piece : ℕ) (x : RangeSeen) (y : Grouped) → IsGroupRun r → piece < r.cut.pieces → x ≡ seen_at r piece → AreGroupsOf x.plan x.table x.from x.to y → AreGroupsOf r.plan r.table (behind r piece) (behind r (piece + 1)) y
piece-groups r piece x y h lt is own =
    let here : AreGroupsOf r.plan r.table (starts r piece) (ends r piece) y = subst (λ (s : RangeSeen). AreGroupsOf s.plan s.table s.from s.to y) is own in
    subst (λ (n : ℕ). AreGroupsOf r.plan r.table (behind r piece) n y) (ends-behind r piece)
    (subst (λ (n : ℕ). AreGroupsOf r.plan r.table n (ends r piece) y) (starts-behind r piece h lt) here)

-- Groups of pieces from one on and before another.
abbrev pub AreBetween : GroupsSeen → ℕ → ℕ → Grouped → Type 0
AreBetween r a b x = AreGroupsOf r.plan r.table (behind r a) (behind r b) x

pub to-here : (r : GroupsSeen) (a b c : ℕ) (x : Grouped) → b ≡ c → AreBetween r a b x → AreBetween r a c x
to-here r a b c x is h = subst (λ (n : ℕ). AreBetween r a n x) is h

-- Those of all are of all rows, and so are those of no rows where there is no piece.

pub all-between : (r : GroupsSeen) (b : ℕ) (x : Grouped) → IsGroupRun r → b ≡ r.cut.pieces → AreBetween r 0 b x → AreGroupsOf r.plan r.table 0 (length r.table.lines) x
all-between r b x h is far =
    subst (λ (n : ℕ). AreGroupsOf r.plan r.table n (length r.table.lines) x) (none-behind r)
    (subst (λ (n : ℕ). AreGroupsOf r.plan r.table (behind r 0) n x) (all-behind r h) (to-here r 0 b r.cut.pieces x is far))

pub no-rows : (r : GroupsSeen) → IsGroupRun r → r.cut.pieces ≡ 0 → 0 ≡ length r.table.lines
no-rows r h none =
    let is : r.cut.pieces * r.cut.rows ≡ 0 * r.cut.rows = ap (λ (n : ℕ). n * r.cut.rows) none in
    let zero_rows : 0 * r.cut.rows ≡ 0 = omega arith in
    omega (arith, is, zero_rows, h.all)

pub none-are-all : (r : GroupsSeen) (x : Grouped) → IsGroupRun r → r.cut.pieces ≡ 0 → AreGroupsOf r.plan r.table 0 0 x → AreGroupsOf r.plan r.table 0 (length r.table.lines) x
none-are-all r x h none are = subst (λ (n : ℕ). AreGroupsOf r.plan r.table 0 n x) (no-rows r h none) are

-- Groups of pieces, and those of the pieces behind them.

answered : (b : Bool) (cs : List Column) → is_some (answer_if b cs) ≡ true → b ≡ true
unfolding answer_if columns_if
answered true cs e = refl
answered false cs e = let no : false ≡ true = e in absurd cc

fits-parted : (g : GroupPlan) (t : Grid) → is_some (answer_if (summarize_fits g t.columns) (group_columns g t.columns)) ≡ true → summarize_fits g t.columns ≡ true
fits-parted g t e = answered (summarize_fits g t.columns) (group_columns g t.columns) e

pub neighbours : (r : GroupsSeen) (a b c : ℕ) (x y : Grouped) → IsGroupRun r → a ≤ b → b ≤ c → AreBetween r a b x → AreBetween r b c y → AreNeighbours x y
neighbours r a b c x y h first second left right = record {
  plan = r.plan;
  table = r.table;
  from = behind r a;
  middle = behind r b;
  to = behind r c;
  fits = fits-parted r.plan r.table h.fits;
  whole = h.whole;
  first = behind-up r a b first;
  second = behind-up r b c second;
  range = behind-within r c;
  left = left;
  right = right;
}

pub both-between : (r : GroupsSeen) (a b c : ℕ) (x y z : Grouped) → IsGroupRun r → a ≤ b → b ≤ c → AreBetween r a b x → AreBetween r b c y → ((n : AreNeighbours x y) → AreGroupsOf n.plan n.table n.from n.to z) → AreBetween r a c z
unfolding neighbours
both-between r a b c x y z h first second left right range = range (neighbours r a b c x y h first second left right)

counts : (g : GroupPlan) (t : Grid) (from to : ℕ) (x : Grouped) → AreGroupsOf g t from to x → x.count ≡ to - from
unfolding groups_in
counts g t from to x h = ap (λ (y : Grouped). y.count) h.groups

pub few : (r : GroupsSeen) (a b c : ℕ) (x y : Grouped) → IsGroupRun r → a ≤ b → b ≤ c → AreBetween r a b x → AreBetween r b c y → x.count + y.count < 2 ^ 63
few r a b c x y h first second left right =
    let m = counts r.plan r.table (behind r a) (behind r b) x left in
    let n = counts r.plan r.table (behind r b) (behind r c) y right in
    let d = behind-up r a b first in
    let e = behind-up r b c second in
    let f = behind-within r c in
    omega (arith, m, n, d, e, f, h.small)

pub rest-here : (r : GroupsSeen) (left : List RangeSeen) (b c : ℕ) → b ≡ c → reverse left ≡ all_seen r b (r.cut.pieces - b) → reverse left ≡ all_seen r c (r.cut.pieces - c)
rest-here r left b c is h = h ∙ ap (λ (n : ℕ). all_seen r n (r.cut.pieces - n)) is

pub ruleset all_steps = (start-left, all-between, none-are-all)

pub ruleset next_steps = (next-is, next-rest, piece-groups)

pub ruleset join_steps = (to-here, rest-here)
