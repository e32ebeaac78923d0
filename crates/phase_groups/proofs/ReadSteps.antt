-- What is read of a piece, and its groups.
use Rattle.std.proofs.Common.{◌≡◌, ◌<◌, ◌≤◌, ◌+◌, ◌*◌, ℕ, List, get_or, length, ap, ap₂, sym, ◌∙◌, subst, arith}
use Rattle.std.specs.Prelude.{min}
use Rattle.std.proofs.lemmas.List.FromFn.{get_or-map-range_with_len, length-map-range_with_len}
use Rattle.summarize_pieces.specs.Pieces.{AreGroupsOf, Grouped, Piece, groups_in, piece_of}
use Rattle.phase_pieces.proofs.CutLaws.{begins}
use Rattle.phase_groups.specs.Works.{GroupsSeen, IsGroupRun, IsReadRun, RangeSeen, ReadSeen, ends, read_at, seen_at, starts}

-- A piece begins at a row.
pub begins-within : (r : GroupsSeen) (piece count : ℕ) → IsGroupRun r → piece < r.cut.pieces → count ≡ length r.table.lines → piece * r.cut.rows ≤ count
begins-within r piece count h lt is = subst (λ (n : ℕ). piece * r.cut.rows ≤ n) (sym is) (begins piece r.cut.pieces r.cut.rows (length r.table.lines) lt h.each)

-- A piece that is read by its bounds.
pub read-is : (r : GroupsSeen) (piece from to count : ℕ) (p : Piece) → count ≡ length r.table.lines → from ≡ piece * r.cut.rows → to ≡ min count (piece * r.cut.rows + r.cut.rows) → p ≡ piece_of r.plan r.table from to → p ≡ read_at r piece
read-is r piece from to count p is f e same =
    same ∙ ap₂ (λ (a b : ℕ). piece_of r.plan r.table a b) f (e ∙ ap (λ (n : ℕ). min n (piece * r.cut.rows + r.cut.rows)) is)

-- What stands at a number among what was read.
pub read-there : (r : ReadSeen) (piece : ℕ) → IsReadRun r → piece < r.run.cut.pieces → piece < length r.read
read-there r piece h lt = let n = ap length h.read ∙ length-map-range_with_len (read_at r.run) 0 r.run.cut.pieces in omega (arith, n, lt)

pub read-found : (r : ReadSeen) (piece : ℕ) (d : Piece) → IsReadRun r → piece < r.run.cut.pieces → get_or r.read piece d ≡ read_at r.run piece
read-found r piece d h lt = ap (λ (ps : List Piece). get_or ps piece d) h.read ∙ get_or-map-range_with_len (read_at r.run) 0 r.run.cut.pieces piece piece d lt (omega arith)

-- The groups of a piece by its bounds.
pub groups-are : (r : GroupsSeen) (piece from to count : ℕ) (x : Grouped) → count ≡ length r.table.lines → from ≡ piece * r.cut.rows → to ≡ min count (piece * r.cut.rows + r.cut.rows) → AreGroupsOf r.plan r.table (starts r piece) (ends r piece) x → AreGroupsOf r.plan r.table from to x
groups-are r piece from to count x is f e h =
    subst (λ (a : ℕ). AreGroupsOf r.plan r.table a to x) (sym f)
    (subst (λ (b : ℕ). AreGroupsOf r.plan r.table (starts r piece) b x) (sym (e ∙ ap (λ (n : ℕ). min n (piece * r.cut.rows + r.cut.rows)) is)) h)

pub seen-is : (r : GroupsSeen) (piece from to count : ℕ) (x : Grouped) (s : RangeSeen) → count ≡ length r.table.lines → from ≡ piece * r.cut.rows → to ≡ min count (piece * r.cut.rows + r.cut.rows) → AreGroupsOf r.plan r.table (starts r piece) (ends r piece) x → s ≡ record { groups = x; plan = r.plan; table = r.table; from = from; to = to } → s ≡ seen_at r piece
seen-is r piece from to count x s is f e h same =
    same
    ∙ (ap (λ (y : Grouped). record { groups = y; plan = r.plan; table = r.table; from = from; to = to }) h.groups
    ∙ ap₂ (λ (a b : ℕ). record { groups = groups_in r.plan r.table (starts r piece) (ends r piece); plan = r.plan; table = r.table; from = a; to = b }) f (e ∙ ap (λ (n : ℕ). min n (piece * r.cut.rows + r.cut.rows)) is))

pub ruleset read_steps = (begins-within, read-is)

pub ruleset group_steps = (begins-within, read-there, groups-are)
