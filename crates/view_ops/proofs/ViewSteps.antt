-- What a view keeps as it takes tables, and what it gives.
use Rattle.std.proofs.Common.{◌≡◌, ◌<◌, ◌≤◌, ◌+◌, ◌-◌, ◌^◌, ◌++◌, ℕ, true, List, [], ◌∷◌, fold, length, refl, ap, ap₂, sym, ◌∙◌, subst, arith}
use Rattle.std.specs.Prelude.{All}
use Rattle.std.proofs.lemmas.List.{length-append}
use Rattle.kql_cells.specs.Table.{Grid}
use Rattle.kql_cells.specs.declared.value.Value.{Value}
use Rattle.kql_bound.specs.declared.parts.GroupPlan.{GroupPlan}
use Rattle.kql_meaning.specs.Summarize.{summarize_table}
use Rattle.kql_fit_laws.specs.LawsOfRows.{IsTable, IsTableOf}
use Rattle.summarize_pieces.specs.Joined.{joined_groups}
use Rattle.summarize_pieces.specs.Pieces.{AreAllGroups, AreGroupsOf, AreNeighbours, AreStored, Grouped, Piece, groups_in, piece_of}
use Rattle.live_tables.specs.Growing.{with_rows}
use Rattle.view_ops.specs.Views.{IsView, PlanFits, StandsFor, Viewed, are_stored, can_take, grown, table_of}
use Rattle.view_ops.proofs.GrowingLaws.{columns-grown, neighbours, plan-grown, stands-all, stands-grown}
use Rattle.view_ops.proofs.StoredLaws.{stored-test}

-- The groups of a view, with those of the rows of a table.

pub are-neighbours : (v : Viewed) (t : Grid) (x y : Grouped) → IsView v → can_take v t → x ≡ v.groups → AreGroupsOf v.plan t 0 (length t.lines) y → AreNeighbours x y
are-neighbours v t x y h own is groups = subst (λ (z : Grouped). AreNeighbours z y) (sym is) (neighbours v h.lines t y h.stands own groups)

-- The groups of what was read of all rows of a table.
pub own-groups : (w v : Viewed) (t : Grid) (p : Piece) (y : Grouped) → v ≡ w → p ≡ piece_of w.plan t 0 (length t.lines) → ((g : GroupPlan) (u : Grid) (from to : ℕ) → p ≡ piece_of g u from to → AreGroupsOf g u from to y) → AreGroupsOf v.plan t 0 (length t.lines) y
own-groups w v t p y same read groups = subst (λ (z : Viewed). AreGroupsOf z.plan t 0 (length t.lines) y) (sym same) (groups w.plan t 0 (length t.lines) read)

counts : (g : GroupPlan) (t : Grid) (x : Grouped) → AreGroupsOf g t 0 (length t.lines) x → x.count ≡ length t.lines
unfolding groups_in
counts g t x h = let n : length t.lines - 0 ≡ length t.lines = omega arith in ap (λ (y : Grouped). y.count) h.groups ∙ n

pub few-together : (v : Viewed) (t : Grid) (x y : Grouped) → IsView v → x ≡ v.groups → AreGroupsOf v.plan t 0 (length t.lines) y → v.fed + length t.lines < 2 ^ 63 → x.count + y.count < 2 ^ 63
few-together v t x y h is groups few =
    let a : x.count ≡ length h.lines = ap (λ (z : Grouped). z.count) is ∙ counts v.plan (table_of v.columns h.lines) v.groups h.stands.groups in
    let b : y.count ≡ length t.lines = counts v.plan t y groups in
    let c : v.fed ≡ length h.lines = h.stands.count in
    omega (arith, a, b, c, few)

-- A view that takes a table, and what its groups are with those of the table's rows.
pub record Takes (v : Viewed) (t : Grid) (x : Grouped) : Type 0 where
  pub takes : can_take v t
  pub joined : x ≡ joined_groups v.groups (groups_in v.plan t 0 (length t.lines))
  pub stored : AreStored v.plan t 0 (length t.lines)
  pub few : v.fed + length t.lines < 2 ^ 63

-- The view that it becomes.

abbrev pub taken : Viewed → Grouped → ℕ → Viewed
taken v x n = record { plan = v.plan; columns = v.columns; groups = x; fed = v.fed + n; stored = true }

pub is-grown : (v : Viewed) (t : Grid) (x : Grouped) (n : ℕ) → v.stored ≡ true → Takes v t x → n ≡ length t.lines → taken v x n ≡ grown v t
unfolding grown
is-grown v t x n numbers h many =
    let test = stored-test v.plan t h.stored in
    rw (h.joined, many, numbers, test) refl

pub stands-with : (v : Viewed) (t : Grid) (x : Grouped) (n : ℕ) (lines : List (List Value)) → v.stored ≡ true → Takes v t x → n ≡ length t.lines → StandsFor v lines → StandsFor (taken v x n) (lines ++ t.lines)
stands-with v t x n lines numbers h many own =
    subst (λ (w : Viewed). StandsFor w (lines ++ t.lines)) (sym (is-grown v t x n numbers h many)) (stands-grown v lines t own h.takes (stored-test v.plan t h.stored))

pub is-view : (v : Viewed) (t : Grid) (x : Grouped) (n : ℕ) → IsView v → v.stored ≡ true → Takes v t x → n ≡ length t.lines → IsView (taken v x n)
is-view v t x n own numbers h many = record {
  lines = own.lines ++ t.lines;
  stands = stands-with v t x n own.lines numbers h many own.stands;
  few = omega (arith, many, h.few);
}

-- The table.

pub all-groups : (v : Viewed) (x : Grouped) → IsView v → x ≡ v.groups → AreAllGroups v.plan v.columns x
all-groups v x h is = record {
  table = table_of v.columns h.lines;
  whole = h.stands.table;
  named = refl;
  groups = is ∙ h.stands.groups.groups;
}

stands-after : (w v : Viewed) (t : Grid) (bs : List Grid) → w.stored ≡ true → t.columns ≡ v.columns → StandsFor v t.lines → All (can_take v) bs → w ≡ fold grown v bs → StandsFor w (fold with_rows t bs).lines
stands-after w v t bs numbers same h takes is =
    subst (λ (x : Viewed). StandsFor x (fold with_rows t bs).lines) (sym is)
    (stands-all v t bs same h takes (sym (ap (λ (x : Viewed). x.stored) is) ∙ numbers))

same-table : (w v : Viewed) (t : Grid) (bs : List Grid) → t.columns ≡ v.columns → w ≡ fold grown v bs → summarize_table w.plan (table_of w.columns (fold with_rows t bs).lines) ≡ summarize_table v.plan (fold with_rows t bs)
same-table w v t bs same is =
    let plan : w.plan ≡ v.plan = ap (λ (x : Viewed). x.plan) is ∙ (plan-grown bs v).0 in
    let columns : w.columns ≡ (fold with_rows t bs).columns = ap (λ (x : Viewed). x.columns) is ∙ ((plan-grown bs v).1 ∙ (sym same ∙ sym (columns-grown bs t))) in
    ap₂ (λ (g : GroupPlan) (u : Grid). summarize_table g u) plan (ap (λ cs. table_of cs (fold with_rows t bs).lines) columns)

-- What is made of the groups of a view is the summarize of each table that it stands for.
abbrev pub MakesOf : Viewed → Grouped → Grid → Type 0
MakesOf w x made = (u : Grid) → IsTable u → u.columns ≡ w.columns → x ≡ groups_in w.plan u 0 (length u.lines) → made ≡ summarize_table w.plan u

pub made-after : (w v : Viewed) (t : Grid) (bs : List Grid) (x : Grouped) (made : Grid) → w.stored ≡ true → x ≡ w.groups → MakesOf w x made → t.columns ≡ v.columns → StandsFor v t.lines → All (can_take v) bs → w ≡ fold grown v bs → made ≡ summarize_table v.plan (fold with_rows t bs)
made-after w v t bs x made numbers lent makes same h takes is =
    let s = stands-after w v t bs numbers same h takes is in
    makes (table_of w.columns (fold with_rows t bs).lines) s.table refl (lent ∙ s.groups.groups) ∙ same-table w v t bs same is
