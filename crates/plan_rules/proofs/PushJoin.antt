-- A filter of left columns in front of a join whose rows go by the left rows.
use Rattle.std.proofs.Common.{◌≡◌, ℕ, Bool, true, false, List, [], ◌∷◌, ◌++◌, map, filter, refl, sym, ap, ap₂, ◌∙◌, inl, inr, arith}
use Rattle.std.specs.Prelude.{◌&&◌, not, cond, Option, None, Some, if◌then◌else◌}
use Rattle.std.specs.List.{flat_map, list_any}
use Rattle.std.proofs.lemmas.Bool.{and_parts, cases_Bool}
use Rattle.kql_cells.specs.Seen.{row_at}
use Rattle.kql_cells.specs.Table.{Grid, RowFits}
use Rattle.kql_cells.specs.declared.schema.Column.{Column}
use Rattle.kql_cells.specs.declared.value.Kind.TheVariants as kind
use Rattle.kql_cells.specs.declared.value.Value.{Value}
use Rattle.kql_functions.specs.Kinds.{same_kind}
use Rattle.kql_bound.specs.declared.expr.BExpr.{BExpr}
use Rattle.kql_bound.specs.declared.parts.JoinKind.{JoinKind}
use Rattle.kql_bound.specs.declared.parts.JoinKind.TheVariants as join
use Rattle.kql_bound.specs.declared.parts.JoinPlan.{JoinPlan}
use Rattle.kql_bound.specs.declared.parts.OnPair.{OnPair}
use Rattle.kql_bound.specs.declared.plan.Op.{Op}
use Rattle.kql_bound.specs.declared.plan.Op.TheVariants as V
use Rattle.kql_bound.specs.declared.plan.Plan.{Plan}
use Rattle.kql_meaning.specs.declared.position.Position.TheVariants as position
use Rattle.kql_meaning.specs.Fits.{Known, joined_columns, op_columns, outside_subqueries, plan_columns}
use Rattle.kql_meaning.specs.FittingOperators.{join_fits, where_fits}
use Rattle.kql_meaning.specs.Join.{both_columns, both_rows, has_right, inner_rows, join_columns, join_rows, join_table, keys_match, left_alone, left_outer_rows, matches_right, or_one, pairs_of_left, renamed, rows_match, shown_columns, shown_row}
use Rattle.kql_meaning.specs.Plans.{op_means, plan_means}
use Rattle.kql_meaning.specs.Tables.{absent_row, cell, has_column, names_of, places}
use Rattle.kql_meaning.specs.Values.{holds}
use Rattle.kql_meaning.specs.Where.{where_table}
use Rattle.kql_meaning.proofs.MemberLaws.{Member, member-of-map}
use Rattle.kql_meaning.proofs.OperatorFitLaws.{join-out, op-Where}
use Rattle.kql_fit_laws.proofs.RowFacts.{columns-some, of-all}
use Rattle.kql_fit_laws.specs.LawsOfRows.{IsTable}
use Rattle.kql_meaning.proofs.NamedCells.{cell-named, has-append, kind-append, named-append}
use Rattle.plan_rules.proofs.PushExtend.{kept-if, made-some}
use Rattle.plan_rules.proofs.ReadFits.{SameColumns, fits-as-alike}
use Rattle.plan_rules.proofs.ReadValues.{id_names, plain-of, same-names, val-agrees}
use Rattle.plan_rules.proofs.RowWise.{filter-same, where-below}
use Rattle.plan_rules.proofs.RuleViews.{both-some, filter-is, join-is, pair-along, pair-becomes, two-fit, when-some}
use Rattle.plan_rules.proofs.ShortRules.{where-means}
use Rattle.plan_rules.proofs.Subplans.{join-means}
use Rattle.plan_rules.proofs.Weights.{swap-lighter, weight-Join, weight-Where}
use Rattle.plan_rules.specs.Becomes.{Becomes}
use Rattle.plan_rules.specs.Improves.{Improves}
use Rattle.plan_rules.specs.Reads.{reads_only}
use Rattle.plan_rules.specs.Rules.{goes_by_left, join_then_filter, reads_some, when}
use Rattle.plan_rules.specs.Views.{filter_of, join_of}
use Rattle.plan_rules.specs.Weight.{and_then, other, plan_weight}
use Rattle.plan_rules.proofs.RowWise.{RowWise}
use Rattle.kql_meaning.proofs.RowByRowLaws.{cell-alone, rows-at-all, passes, alone}

-- Rows, from left rows.

pub flat-same : {X Y : Type 0} (f g : X → List Y) (xs : List X) → ((x : X) → f x ≡ g x) → flat_map f xs ≡ flat_map g xs
flat-same f g [] h = refl
flat-same f g (x ∷ xs) h = ap₂ (λ a b. a ++ b) (h x) (flat-same f g xs h)

flat-map : {X Y Z : Type 0} (f : Y → List Z) (g : X → Y) (xs : List X) → flat_map f (map g xs) ≡ flat_map (λ x. f (g x)) xs
flat-map f g [] = refl
flat-map f g (x ∷ xs) = ap (λ ys. f (g x) ++ ys) (flat-map f g xs)

pub flat-of-rows : (t : Grid) (f : ℕ → List (List Value)) (g : List Value → List (List Value)) → ((i : ℕ) → f i ≡ g (row_at t.lines i)) → flat_map f (places t) ≡ flat_map g t.lines
flat-of-rows t f g h = flat-same f (λ i. g (row_at t.lines i)) (places t) h ∙ (sym (flat-map g (row_at t.lines) (places t)) ∙ ap (flat_map g) (rows-at-all t))

pub filter-flat-one : {X Y : Type 0} (f : X → Y) (p : X → Bool) (xs : List X) → map f (filter p xs) ≡ flat_map (λ x. if p x then f x ∷ [] else []) xs
filter-flat-one f p [] = refl
filter-flat-one f p (x ∷ xs) = elim (cases_Bool (p x)) [
  | inl t ↦ rw t (ap (λ ys. f x ∷ ys) (filter-flat-one f p xs))
  | inr n ↦ rw n (filter-flat-one f p xs)
]

-- The table of one left row.
abbrev of_row : Grid → ℕ → Grid
of_row a i = alone a.columns (row_at a.lines i)

match-row : (on : List OnPair) (a b : Grid) (i k : ℕ) → rows_match on a b i k ≡ rows_match on (of_row a i) b 0 k
unfolding rows_match
match-row [] a b i k = refl
match-row (p ∷ ps) a b i k = ap₂ (λ x y. x && y) (ap (λ v. keys_match v (cell b k p.right)) (cell-alone a i p.left)) (match-row ps a b i k)

matches-row : (on : List OnPair) (a b : Grid) (i : ℕ) → matches_right on a b i ≡ matches_right on (of_row a i) b 0
unfolding matches_right
matches-row on a b i = filter-same (rows_match on a b i) (rows_match on (of_row a i) b 0) (places b) (λ k m. match-row on a b i k)

pub any-same : (p q : ℕ → Bool) (xs : List ℕ) → ((x : ℕ) → p x ≡ q x) → list_any p xs ≡ list_any q xs
any-same p q [] h = refl
any-same p q (x ∷ xs) h = elim (cases_Bool (q x)) [
  | inl t ↦ rw (h x, t) refl
  | inr f ↦ rw (h x, f) (any-same p q xs h)
]

has-row : (on : List OnPair) (a b : Grid) (i : ℕ) → has_right on a b i ≡ has_right on (of_row a i) b 0
unfolding has_right
has-row on a b i = any-same (rows_match on a b i) (rows_match on (of_row a i) b 0) (places b) (match-row on a b i)

pairs-row : (j : JoinPlan) (a b : Grid) (i : ℕ) → pairs_of_left j a b i ≡ pairs_of_left j (of_row a i) b 0
unfolding pairs_of_left both_rows
pairs-row j a b i = ap (map (λ k. row_at a.lines i ++ shown_row j b k)) (matches-row j.on a b i)

-- What a left row gives.
abbrev pub rows_by_left : JoinKind → JoinPlan → Grid → List Column → List Value → List (List Value)
rows_by_left join.Inner j b cs row = pairs_of_left j (alone cs row) b 0
rows_by_left join.LeftOuter j b cs row = or_one (pairs_of_left j (alone cs row) b 0) (left_alone j (alone cs row) b 0)
rows_by_left join.LeftSemi j b cs row = if has_right j.on (alone cs row) b 0 then row ∷ [] else []
rows_by_left join.LeftAnti j b cs row = if not (has_right j.on (alone cs row) b 0) then row ∷ [] else []
rows_by_left _ j b cs row = []

pub inner : (j : JoinPlan) (a b : Grid) → join_rows join.Inner j a b ≡ flat_map (rows_by_left join.Inner j b a.columns) a.lines
unfolding join_rows inner_rows
inner j a b = flat-of-rows a (pairs_of_left j a b) (rows_by_left join.Inner j b a.columns) (pairs-row j a b)

outer : (j : JoinPlan) (a b : Grid) → join_rows join.LeftOuter j a b ≡ flat_map (rows_by_left join.LeftOuter j b a.columns) a.lines
unfolding join_rows left_outer_rows left_alone
outer j a b = flat-of-rows a (λ i. or_one (pairs_of_left j a b i) (left_alone j a b i)) (rows_by_left join.LeftOuter j b a.columns) (λ i. ap (λ rows. or_one rows (left_alone j a b i)) (pairs-row j a b i))

semi : (j : JoinPlan) (a b : Grid) → join_rows join.LeftSemi j a b ≡ flat_map (rows_by_left join.LeftSemi j b a.columns) a.lines
unfolding join_rows
semi j a b = filter-flat-one (row_at a.lines) (has_right j.on a b) (places a) ∙ flat-of-rows a (λ i. if has_right j.on a b i then row_at a.lines i ∷ [] else []) (rows_by_left join.LeftSemi j b a.columns) (λ i. ap (λ x. if x then row_at a.lines i ∷ [] else []) (has-row j.on a b i))

anti : (j : JoinPlan) (a b : Grid) → join_rows join.LeftAnti j a b ≡ flat_map (rows_by_left join.LeftAnti j b a.columns) a.lines
unfolding join_rows
anti j a b = filter-flat-one (row_at a.lines) (λ i. not (has_right j.on a b i)) (places a) ∙ flat-of-rows a (λ i. if not (has_right j.on a b i) then row_at a.lines i ∷ [] else []) (rows_by_left join.LeftAnti j b a.columns) (λ i. ap (λ x. if not x then row_at a.lines i ∷ [] else []) (has-row j.on a b i))

by-left : (kind : JoinKind) → goes_by_left kind ≡ true → (j : JoinPlan) (a b : Grid) → join_rows kind j a b ≡ flat_map (rows_by_left kind j b a.columns) a.lines
by-left join.Inner e j a b = inner j a b
by-left join.LeftOuter e j a b = outer j a b
by-left join.LeftSemi e j a b = semi j a b
by-left join.LeftAnti e j a b = anti j a b
by-left _ e j a b = absurd cc

pub join-wise : (j : JoinPlan) → goes_by_left j.kind ≡ true → (b : Grid) → RowWise (λ a. join_table j a b) (λ cs. join_columns j.kind j cs b.columns) (rows_by_left j.kind j b)
unfolding join_table
join-wise j e b = record {
  rows = λ a. ap (λ (ls : List (List Value)). record { columns = join_columns j.kind j a.columns b.columns; lines = ls }) (by-left j.kind e j a b);
}

-- A row that a left row gives begins with it, and the left columns come first.

if-member : (b : Bool) (row out : List Value) → Member out (if b then row ∷ [] else []) → (more : List Value) × (out ≡ row ++ more)
if-member true row out (inl e) = ([], sym e ∙ sym (append-nil row))
  where
    append-nil : (xs : List Value) → xs ++ [] ≡ xs
    append-nil [] = refl
    append-nil (x ∷ xs) = ap (λ ys. x ∷ ys) (append-nil xs)
if-member true row out (inr m) = absurd m
if-member false row out m = absurd m

pairs-begin : (j : JoinPlan) (b : Grid) (cs : List Column) (row out : List Value) → Member out (pairs_of_left j (alone cs row) b 0) → (more : List Value) × (out ≡ row ++ more)
unfolding pairs_of_left both_rows
pairs-begin j b cs row out m =
    let q = member-of-map (λ k. row ++ shown_row j b k) (matches_right j.on (alone cs row) b 0) out m in
    (shown_row j b q.0, sym q.2)

pub or-one-begin : (rows : List (List Value)) (row alone out : List Value) → ((o : List Value) → Member o rows → (more : List Value) × (o ≡ row ++ more)) → ((more : List Value) × (alone ≡ row ++ more)) → Member out (or_one rows alone) → (more : List Value) × (out ≡ row ++ more)
unfolding or_one
or-one-begin [] row alone out each one (inl e) = (one.0, sym e ∙ one.1)
or-one-begin [] row alone out each one (inr m) = absurd m
or-one-begin (r ∷ rs) row alone out each one m = each out m

pub begins : (kind : JoinKind) (j : JoinPlan) (b : Grid) (cs : List Column) (row out : List Value) → Member out (rows_by_left kind j b cs row) → (more : List Value) × (out ≡ row ++ more)
unfolding left_alone
begins join.Inner j b cs row out m = pairs-begin j b cs row out m
begins join.LeftOuter j b cs row out m = or-one-begin (pairs_of_left j (alone cs row) b 0) row (left_alone j (alone cs row) b 0) out (pairs-begin j b cs row) (absent_row (shown_columns j b.columns), refl) m
begins join.LeftSemi j b cs row out m = if-member (has_right j.on (alone cs row) b 0) row out m
begins join.LeftAnti j b cs row out m = if-member (not (has_right j.on (alone cs row) b 0)) row out m
begins _ j b cs row out m = absurd m

left-first : (kind : JoinKind) → goes_by_left kind ≡ true → (j : JoinPlan) (cs ds : List Column) → (more : List Column) × (join_columns kind j cs ds ≡ cs ++ more)
unfolding join_columns both_columns
left-first join.Inner e j cs ds = (renamed (names_of cs) (shown_columns j ds), refl)
left-first join.LeftOuter e j cs ds = (renamed (names_of cs) (shown_columns j ds), refl)
left-first join.LeftSemi e j cs ds = ([], sym (append-nil cs))
  where
    append-nil : (xs : List Column) → xs ++ [] ≡ xs
    append-nil [] = refl
    append-nil (x ∷ xs) = ap (λ ys. x ∷ ys) (append-nil xs)
left-first join.LeftAnti e j cs ds = ([], sym (append-nil cs))
  where
    append-nil : (xs : List Column) → xs ++ [] ≡ xs
    append-nil [] = refl
    append-nil (x ∷ xs) = ap (λ ys. x ∷ ys) (append-nil xs)
left-first _ e j cs ds = absurd cc

-- The filter.

abbrev pub among : List Column → List ℕ → Bool
among cs n = has_column n cs

pub front-passes : (cs more : List Column) (row rest : List Value) (q : BExpr) → RowFits cs row → reads_only (among cs) q ≡ true → passes q (cs ++ more) (row ++ rest) ≡ passes q cs row
front-passes cs more row rest q f r =
    ap holds (val-agrees q (among cs) r (alone (cs ++ more) (row ++ rest)) (alone cs row) 0 0 [] (λ n h. cell-named (cs ++ more) (row ++ rest) n ∙ (named-append cs more row rest n f h ∙ sym (cell-named cs row n))))

join-passes : (j : JoinPlan) → goes_by_left j.kind ≡ true → (b : Grid) (cs : List Column) (q : BExpr) → reads_only (among cs) q ≡ true → (row out : List Value) → RowFits cs row → Member out (rows_by_left j.kind j b cs row) → passes q (join_columns j.kind j cs b.columns) out ≡ passes q cs row
join-passes j e b cs q r row out f m =
    let o = begins j.kind j b cs row out m in
    let c = left-first j.kind e j cs b.columns in
    ap₂ (λ ds x. passes q ds x) c.1 o.1 ∙ front-passes cs c.0 row o.0 q f r

pub join-filter : (j : JoinPlan) → goes_by_left j.kind ≡ true → (b t : Grid) (q : BExpr) → IsTable t → reads_only (among t.columns) q ≡ true → where_table q (join_table j t b) ≡ join_table j (where_table q t) b
join-filter j e b t q h r =
    let plain = plain-of (among t.columns) q r in
    where-below q q plain plain (λ a. join_table j a b) (λ cs. join_columns j.kind j cs b.columns) (rows_by_left j.kind j b) (join-wise j e b) t
    (λ row m out n. join-passes j e b t.columns q r row out (of-all (RowFits t.columns) t.lines row h.1 m) n)

first-bool : (b c : Bool) → b ≡ true → cond b true c ≡ b
first-bool b c e = rw e refl

front-columns : (cs more : List Column) → SameColumns (among cs) id_names cs (cs ++ more)
front-columns cs more n h = (sym (has-append cs more n ∙ first-bool (has_column n cs) (has_column n more) h), sym (kind-append cs more n ∙ rw h refl))

pub where-front : (cs more : List Column) (q : BExpr) → reads_only (among cs) q ≡ true → where_fits q cs ≡ where_fits q (cs ++ more)
unfolding where_fits
where-front cs more q r = ap (λ e. where_fits e cs) (sym (same-names q)) ∙ fits-as-alike (same_kind kind.Bool) q (among cs) id_names r cs (cs ++ more) (front-columns cs more) position.Window

pub outside-some : (inside : Bool) (columns : Option (List Column)) (cs : List Column) → outside_subqueries inside columns ≡ Some cs → columns ≡ Some cs
unfolding outside_subqueries
outside-some true columns cs e = cc
outside-some false columns cs e = e

pub joined-some : (j : JoinPlan) (cs mid : List Column) (o : Option (List Column)) → joined_columns j cs o ≡ Some mid → (rc : List Column) × (join_columns j.kind j cs rc ≡ mid)
unfolding joined_columns
joined-some j cs mid None e = cc
joined-some j cs mid (Some rc) e = (rc, made-some (join_fits j cs rc) (join_columns j.kind j cs rc) mid e)

pub join-filter-becomes : (k : Known) (inside : Bool) (cs : List Column) (j : JoinPlan) (p : Plan) (q : BExpr) → goes_by_left j.kind ≡ true → reads_only (among cs) q ≡ true → Becomes k inside cs (V.Join j p ∷ V.Where q ∷ []) (V.Where q ∷ V.Join j p ∷ [])
join-filter-becomes k inside cs j p q g r = pair-becomes k inside cs (V.Join j p) (V.Where q) (V.Where q ∷ V.Join j p ∷ []) (λ mid ds e f.
    let rc = joined-some j cs mid (plan_columns p k) (outside-some inside (joined_columns j cs (plan_columns p k)) mid (sym (join-out j p k inside cs) ∙ e)) in
    let c = left-first j.kind g j cs rc.0 in
    let b = columns-some (where_fits q mid) mid ds (sym (op-Where q k inside mid) ∙ f) in
    let fit : where_fits q cs ≡ true = where-front cs c.0 q r ∙ (ap (where_fits q) (sym c.1 ∙ rc.1) ∙ b.0) in
    let first : op_columns (V.Where q) k inside cs ≡ Some cs = op-Where q k inside cs ∙ kept-if (where_fits q cs) cs fit in (
      two-fit k inside cs cs (V.Where q) (V.Join j p) ds first (e ∙ ap (λ c. Some c) b.1),
      λ w t s h.
          let right = plan_means p w in
          let reads : reads_only (among t.columns) q ≡ true = ap (λ c. reads_only (among c) q) h.0 ∙ r in
          join-means j p w (op_means (V.Where q) w t) ∙ (ap (λ a. join_table j a right) (where-means q w t) ∙ (sym (join-filter j g right t q h.1 reads) ∙ (ap (where_table q) (sym (join-means j p w t)) ∙ sym (where-means q w (op_means (V.Join j p) w t))))),
    ))

pub join_then_filter-improves : (k : Known) (inside : Bool) (cs : List Column) (x y : Op) (zs : List Op) → join_then_filter cs x y ≡ Some zs → Improves k inside cs (x ∷ y ∷ []) zs
unfolding join_then_filter
join_then_filter-improves k inside cs x y zs e =
    let r = both-some (join_of x) (filter_of y) (λ j q. when (goes_by_left j.0.kind && (reads_only (λ n. has_column n cs) q && reads_some q)) (V.Where q ∷ V.Join j.0 j.1 ∷ [])) zs e in
    let j = r.0.0 in
    let p = r.0.1 in
    let s = when-some (goes_by_left j.kind && (reads_only (among cs) r.1 && reads_some r.1)) (V.Where r.1 ∷ V.Join j p ∷ []) zs r.4 in
    let a = and_parts (goes_by_left j.kind) (reads_only (among cs) r.1 && reads_some r.1) s.0 in
    let b = and_parts (reads_only (among cs) r.1) (reads_some r.1) a.1 in
    pair-along k inside cs x y (V.Join j p) (V.Where r.1) zs (V.Where r.1 ∷ V.Join j p ∷ []) (join-is x r.0 r.2) (filter-is y r.1 r.3) s.1 (record {
      becomes = join-filter-becomes k inside cs j p r.1 a.0 b.0;
      lighter = swap-lighter (V.Join j p) (V.Where r.1) (and_then (plan_weight p) other) (weight-Where r.1) (weight-Join j p) (omega arith);
      no_longer = omega arith;
      no_larger = omega arith;
    })
