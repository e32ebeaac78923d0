-- How many rows a piece has, and what is told of the pieces.
use Rattle.std.proofs.Common.{◌≡◌, ◌≤◌, ◌<◌, ◌/◌, ◌∙◌, ℕ, Bool, true, false, List, ap, arith, length, subst, sym}
use Rattle.std.specs.Prelude.{if◌then◌else◌, max, min, nat_le, nat_lt, Option, None, Some}
use Rattle.std.proofs.lemmas.Bool.Decides.{nat_tests}
use Rattle.kql_bound.specs.declared.parts.GroupPlan.{GroupPlan}
use Rattle.kql_cells.specs.Table.{Grid}
use Rattle.kql_meaning.specs.Summarize.{summarize_table}
use Rattle.phase_pieces.specs.Reports.{IsCutFor}
use Rattle.phase_groups.specs.Shares.{AreCutBy, first_rows, rows_wanted, share_of}
use Rattle.worker_board.specs.Views.{WholeClaims}

is-le : (a b : ℕ) → a ≤ b → nat_le a b ≡ true
is-le a b le = grind (arith, nat_tests)

not-le : (a b : ℕ) → b < a → nat_le a b ≡ false
not-le a b lt = grind (arith, nat_tests)

is-lt : (a b : ℕ) → a < b → nat_lt a b ≡ true
is-lt a b lt = grind (arith, nat_tests)

not-lt : (a b : ℕ) → b ≤ a → nat_lt a b ≡ false
not-lt a b le = grind (arith, nat_tests)

abbrev chosen : (b c : Bool) (x y z : Option ℕ) → Option ℕ
chosen b c x y z = if b then x else (if c then y else z)

pub wanted-asked : (w asked count : ℕ) (g : GroupPlan) (t : Grid) → count ≡ length t.lines → count ≤ 16384 → Some asked ≡ rows_wanted w asked g t
unfolding rows_wanted
wanted-asked w asked count g t is le =
    let small : length t.lines ≤ 16384 = subst (λ (n : ℕ). n ≤ 16384) is le in
    sym (ap (λ (b : Bool). chosen b (nat_lt 2048 (length (summarize_table g (first_rows t)).lines)) (Some asked) None (Some (share_of w asked (length t.lines)))) (is-le (length t.lines) 16384 small))

large : (w asked : ℕ) (g : GroupPlan) (t : Grid) (c : Bool) → 16384 < length t.lines → nat_lt 2048 (length (summarize_table g (first_rows t)).lines) ≡ c → rows_wanted w asked g t ≡ (if c then None else Some (share_of w asked (length t.lines)))
unfolding rows_wanted
large w asked g t c lt is =
    ap (λ (b : Bool). chosen b (nat_lt 2048 (length (summarize_table g (first_rows t)).lines)) (Some asked) None (Some (share_of w asked (length t.lines)))) (not-le (length t.lines) 16384 lt)
    ∙ ap (λ (b : Bool). if b then None else Some (share_of w asked (length t.lines))) is

groups-of : (g : GroupPlan) (t first groups : Grid) (n : ℕ) → first ≡ first_rows t → groups ≡ summarize_table g first → n ≡ length groups.lines → n ≡ length (summarize_table g (first_rows t)).lines
groups-of g t first groups n is made count = count ∙ (ap (λ (u : Grid). length u.lines) made ∙ ap (λ (u : Grid). length (summarize_table g u).lines) is)

pub wanted-none : (w asked count n : ℕ) (g : GroupPlan) (t first groups : Grid) → count ≡ length t.lines → 16384 < count → first ≡ first_rows t → groups ≡ summarize_table g first → n ≡ length groups.lines → 2048 < n → None ≡ rows_wanted w asked g t
wanted-none w asked count n g t first groups is many front made long lt =
    let few = groups-of g t first groups n front made long in
    sym (large w asked g t true (subst (λ (k : ℕ). 16384 < k) is many) (is-lt 2048 _ (subst (λ (k : ℕ). 2048 < k) few lt)))

pub wanted-share : (w asked count n rows share : ℕ) (g : GroupPlan) (t first groups : Grid) → count ≡ length t.lines → 16384 < count → first ≡ first_rows t → groups ≡ summarize_table g first → n ≡ length groups.lines → n ≤ 2048 → share ≡ count / 4 / w → rows ≡ max asked (min share 4294967295) → Some rows ≡ rows_wanted w asked g t
wanted-share w asked count n rows share g t first groups is many front made long le quotient larger =
    let few = groups-of g t first groups n front made long in
    ap (λ (k : ℕ). Some k) (larger ∙ (ap (λ (k : ℕ). max asked (min k 4294967295)) quotient ∙ ap (share_of w asked) is))
    ∙ sym (large w asked g t false (subst (λ (k : ℕ). 16384 < k) is many) (not-lt 2048 _ (subst (λ (k : ℕ). k ≤ 2048) few le)))

pub ruleset wanted_steps = (wanted-asked, wanted-none, wanted-share)

-- The pieces that are told.

pub cut-some : (w asked rows : ℕ) (g : GroupPlan) (t : Grid) (x : WholeClaims) → Some rows ≡ rows_wanted w asked g t → IsCutFor (length t.lines) rows x → AreCutBy (rows_wanted w asked g t) (length t.lines) x
cut-some w asked rows g t x is cut = subst (λ (o : Option ℕ). AreCutBy o (length t.lines) x) is cut

pub cut-none : (w asked : ℕ) (g : GroupPlan) (t : Grid) (x : WholeClaims) → None ≡ rows_wanted w asked g t → x.size.pieces ≡ 1 → AreCutBy (rows_wanted w asked g t) (length t.lines) x
cut-none w asked g t x is one = subst (λ (o : Option ℕ). AreCutBy o (length t.lines) x) is one

pub ruleset cut_steps = (cut-some, cut-none)
