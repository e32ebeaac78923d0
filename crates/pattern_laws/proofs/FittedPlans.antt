-- What every operator and plan becomes fits the tables of the program and the derived ones, with the same columns: by induction over
-- operators and plans.
use Rattle.std.proofs.Common.{◌≡◌, ℕ, Bool, true, false, List, [], ◌∷◌, ◌++◌, map, refl, sym, ap, ap₂, ◌∙◌, subst, inl, inr, arith}
use Rattle.std.specs.Prelude.{◌&&◌, fold, Option, None, Some, option_and_then, option_map, slice_get, unwrap_or}
use Rattle.std.specs.List.{flat_map, list_all}
use Rattle.std.proofs.lemmas.Bool.{and_parts}
use Rattle.kql_cells.specs.Table.{Grid}
use Rattle.kql_cells.specs.declared.schema.Column.{Column}
use Rattle.kql_cells.specs.declared.schemas.NamedSchema.{NamedSchema}
use Rattle.kql_cells.specs.declared.value.Value.TheVariants as value
use Rattle.kql_bound.specs.declared.parts.JoinPlan.{JoinPlan}
use Rattle.kql_bound.specs.declared.plan.Op.{Op, roll-Op}
use Rattle.kql_bound.specs.declared.plan.Op.TheFolds.{map-Op, map-Plan}
use Rattle.kql_bound.specs.declared.plan.Op.TheOpen.{Op-F, Plan-F}
use Rattle.kql_bound.specs.declared.plan.Op.TheVariants as V
use Rattle.kql_bound.specs.declared.plan.Plan.{Plan, ind-Plan, roll-Plan}
use Rattle.kql_bound.specs.declared.plan.Source.{Source}
use Rattle.kql_bound.specs.declared.plan.Source.TheVariants as source
use Rattle.kql_meaning.specs.declared.position.Position.TheVariants as position
use Rattle.kql_meaning.specs.Expressions.{column_kind}
use Rattle.kql_meaning.specs.Extend.{extend_columns}
use Rattle.kql_meaning.specs.Fits.{Known, all_columns, by_key, joined_columns, op_columns, ops_columns, outside_subqueries, plan_columns, plans_columns, source_columns, table_columns, united_columns}
use Rattle.kql_meaning.specs.FittingExpressions.{has_kind, is_key}
use Rattle.kql_meaning.specs.FittingOperators.{answer_if, are_distinct, columns_if, expand_fits, is_empty, items_fit, parse_fits, scan_fits, series_fits, sort_fits, summarize_fits, where_fits}
use Rattle.kql_meaning.specs.Items.{items_columns}
use Rattle.kql_meaning.specs.MakeSeries.{series_columns}
use Rattle.kql_meaning.specs.MvExpand.{expand_columns}
use Rattle.kql_meaning.specs.Parse.{parse_columns}
use Rattle.kql_meaning.specs.Plans.{World}
use Rattle.kql_meaning.specs.Scan.{scan_columns}
use Rattle.kql_meaning.specs.Summarize.{group_columns}
use Rattle.kql_meaning.specs.Tables.{has_column, names_of}
use Rattle.kql_meaning.specs.TakeAndCount.{count_columns}
use Rattle.kql_meaning.proofs.MemberLaws.{Member, member-flat, member-left, member-of-map, member-right}
use Rattle.kql_meaning.proofs.OperatorFitLaws.{after, after-none, join-out, op-Count, op-Extend, op-MakeSeries, op-MvExpand, op-Parse, op-Project, op-Scan, op-Serialize, op-Sort, op-Summarize, op-Take, op-Top, op-Where, ops-fold, ops-start, partition-out, plan-none, plan-some, stays-none, union-out}
use Rattle.pattern_lift.specs.declared.calls.Derived.{Derived}
use Rattle.pattern_lift.specs.declared.calls.PatternCall.{PatternCall}
use Rattle.pattern_lift.specs.Calls.{is_among}
use Rattle.pattern_lift.specs.Derived.{added_columns, columns_of_table, derived_at, derived_in, derived_in_op, derived_in_ops, derived_in_plans, derived_over, name_of_call}
use Rattle.pattern_lift.specs.Lifted.{inside, kept, lifted_from, lifted_op, lifted_over, lifted_plan, names_of_columns, over_derived}
use Rattle.pattern_lift.specs.Marks.{begins_with}
use Rattle.pattern_lift.specs.Prefixes.{behind, calls_along, names_behind, prefix, prefix_calls, table_read}
use Rattle.pattern_lift.proofs.PlanSteps.{derived-Join, derived-Partition, derived-Union, derived-plan, lifts-Count, lifts-Extend, lifts-Join, lifts-MakeSeries, lifts-MvExpand, lifts-Parse, lifts-Partition, lifts-Project, lifts-Scan, lifts-Serialize, lifts-Sort, lifts-Summarize, lifts-Take, lifts-Top, lifts-Union, lifts-Where, lifts-plan}
use Rattle.pattern_laws.specs.Liftable.{columns_read, has_no_calls, ops_are_liftable, plan_is_liftable, prefix_is_liftable, source_is_own, text_columns, within_is_liftable}
use Rattle.pattern_laws.specs.Meaning.{Told}
use Rattle.pattern_laws.specs.Tables.{derived_table}
use Rattle.pattern_laws.proofs.BesideLaws.{AreApart, IsOwn, has-member}
use Rattle.pattern_laws.proofs.CalledColumns.{prefix-lent}
use Rattle.pattern_laws.proofs.FittedPrefixes.{fold-next, prefix-fits}
use Rattle.pattern_laws.proofs.LiftableSteps.{liftable-plan, within-Join, within-Partition, within-Union}
use Rattle.pattern_laws.proofs.PlanLaws.{behind-same, calls-same, fold-append, prefix-and-behind, prefix-same}
use Rattle.pattern_laws.proofs.PrefixLaws.{apart-append}
use Rattle.pattern_laws.proofs.StartLaws.{added-apart, call-marked, derived-answers, derived-beside, none-here, not-added}

-- What a plan may name, and what it may name once it is lifted.
pub record Knowns (tables : List NamedSchema) (k l : Known) : Type 0 where
  pub own : k.tables ≡ tables
  pub lets : l.lets ≡ k.lets
  pub keeps : (n : List ℕ) (cs : List Column) → table_columns k.tables n ≡ Some cs → table_columns l.tables n ≡ Some cs

-- A derived table there.
pub record Stands (marks : List ℕ) (tables : List NamedSchema) (l : Known) (d : Derived) : Type 0 where
  pub apart : AreApart (columns_of_table tables d.table)
  pub unmarked : (n : List ℕ) → has_column n (columns_of_table tables d.table) ≡ true → begins_with marks n ≡ false
  pub calls : are_distinct (map (name_of_call marks) d.calls) ≡ true
  pub table : table_columns l.tables d.name ≡ Some (columns_of_table tables d.table ++ added_columns marks d.calls)

-- What is asked of the parts of a plan.
record Parts (marks : List ℕ) (tables : List NamedSchema) (l : Known) (s : Source) (ops : List Op) : Type 0 where
  here : ops_are_liftable marks (columns_read tables (table_read s)) ops ≡ true
  within : list_all (within_is_liftable marks tables) ops ≡ true
  first : (d : Derived) → Member d (derived_at marks (table_read s) (prefix_calls ops)) → Stands marks tables l d
  later : (d : Derived) → Member d (derived_in_ops marks ops) → Stands marks tables l d

abbrev nothing_told : Told
nothing_told g p x = value.Null

abbrev nowhere : World
nowhere = record { tables = []; lets = [] }

outside-some : (inside : Bool) (columns : Option (List Column)) (cs : List Column) → outside_subqueries inside columns ≡ Some cs → columns ≡ Some cs
unfolding outside_subqueries
outside-some true columns cs e = absurd cc
outside-some false columns cs e = e

key-some : (b : Bool) (o : Option (List Column)) (cs : List Column) → by_key b o ≡ Some cs → o ≡ Some cs
unfolding by_key
key-some true o cs e = e
key-some false o cs e = absurd cc

all-member : (q : Op → Bool) (ops : List Op) → list_all q ops ≡ true → (o : Op) → Member o ops → q o ≡ true
all-member q [] l o m = absurd m
all-member q (p ∷ ps) l o (inl e) = ap q (sym e) ∙ (and_parts (q p) (list_all q ps) l).0
all-member q (p ∷ ps) l o (inr m) = all-member q ps (and_parts (q p) (list_all q ps) l).1 o m

texts-some : (cs : List Column) (n : List ℕ) → is_among (text_columns cs) n ≡ true → is_empty cs ≡ false
unfolding is_empty text_columns
texts-some [] n h = absurd (none-here n h)
texts-some (c ∷ cs) n h = refl

pub columns-found : (tables : List NamedSchema) (n : List ℕ) (cs : List Column) → table_columns tables n ≡ Some cs → columns_of_table tables n ≡ cs
unfolding table_columns columns_of_table
columns-found tables n cs h = ap (λ (o : Option (List Column)). unwrap_or o []) h

lost : (k : Known) (inside : Bool) (os : List Op) (cs : List Column) → fold (after k inside) None os ≡ Some cs → ⊥
lost k inside os cs h = let none : None ≡ Some cs = sym (stays-none (after k inside) (after-none k inside) os) ∙ h in cc

module _ (marks : List ℕ) (tables : List NamedSchema) (k l : Known) (knowns : Knowns tables k l) where
  abbrev lift_op : Op → Op
  lift_op = lifted_op marks tables

  abbrev lift_plan : Plan → Plan
  lift_plan = lifted_plan marks tables

  abbrev AllStand : List Derived → Type 0
  AllStand ds = (d : Derived) → Member d ds → Stands marks tables l d

  abbrev OneKept : Op → Type 0
  OneKept o = (within : Bool) (cs ds : List Column) → op_columns o k within cs ≡ Some ds → op_columns (lift_op o) l within cs ≡ Some ds

  abbrev OpKept : Op → Type 0
  OpKept o = within_is_liftable marks tables o ≡ true → AllStand (derived_in_op marks o) → OneKept o

  abbrev PlanKept : Plan → Type 0
  PlanKept p = plan_is_liftable marks tables p ≡ true → AllStand (derived_in marks p) → (ds : List Column) → plan_columns p k ≡ Some ds → plan_columns (lift_plan p) l ≡ Some ds

  -- Operators one after another.

  ops-next : (o : Op) (os : List Op) → OneKept o → (within : Bool) (cs ds : List Column) → ((mid : List Column) → ops_columns os k within mid ≡ Some ds → ops_columns (map lift_op os) l within mid ≡ Some ds) → (m : Option (List Column)) → op_columns o k within cs ≡ m → fold (after k within) m os ≡ Some ds → ops_columns (lift_op o ∷ map lift_op os) l within cs ≡ Some ds
  ops-next o os one within cs ds more None e h = absurd (lost k within os ds h)
  ops-next o os one within cs ds more (Some mid) e h =
      fold-next (lift_op o) (map lift_op os) l within cs
      ∙ (ap (λ (z : Option (List Column)). fold (after l within) z (map lift_op os)) (one within cs mid e)
      ∙ (sym (ops-fold (map lift_op os) l within mid) ∙ more mid (ops-fold os k within mid ∙ h)))

  ops-kept : (ops : List Op) → ((o : Op) → Member o ops → OneKept o) → (within : Bool) (cs ds : List Column) → ops_columns ops k within cs ≡ Some ds → ops_columns (map lift_op ops) l within cs ≡ Some ds
  ops-kept [] each within cs ds h = ops-start l within cs ∙ (sym (ops-start k within cs) ∙ h)
  ops-kept (o ∷ os) each within cs ds h =
      ops-next o os (each o (inl refl)) within cs ds (λ mid q. ops-kept os (λ z m. each z (inr m)) within mid ds q) (op_columns o k within cs) refl (sym (fold-next o os k within cs) ∙ h)

  -- Several plans.

  plans-next : (p : Plan) (ps : List Plan) → ((c : List Column) → plan_columns p k ≡ Some c → plan_columns (lift_plan p) l ≡ Some c) → ((ms : List (List Column)) → all_columns (map plan_columns ps) k ≡ Some ms → all_columns (map plan_columns (map lift_plan ps)) l ≡ Some ms) → (all : List (List Column)) (o : Option (List Column)) (r : Option (List (List Column))) → plan_columns p k ≡ o → all_columns (map plan_columns ps) k ≡ r → option_and_then (λ one. option_map (λ more. one ∷ more) r) o ≡ Some all → option_and_then (λ one. option_map (λ more. one ∷ more) (all_columns (map plan_columns (map lift_plan ps)) l)) (plan_columns (lift_plan p) l) ≡ Some all
  plans-next p ps one more all None r e f h = absurd cc
  plans-next p ps one more all (Some c) None e f h = absurd cc
  plans-next p ps one more all (Some c) (Some ms) e f h = rw (one c e, more ms f) h

  plans-kept : (ps : List Plan) → ((p : Plan) → Member p ps → PlanKept p) → list_all (plan_is_liftable marks tables) ps ≡ true → AllStand (derived_in_plans marks ps) → (all : List (List Column)) → all_columns (map plan_columns ps) k ≡ Some all → all_columns (map plan_columns (map lift_plan ps)) l ≡ Some all
  unfolding all_columns derived_in_plans
  plans-kept [] each a b all h = h
  plans-kept (p ∷ ps) each a b all h =
      let q = and_parts (plan_is_liftable marks tables p) (list_all (plan_is_liftable marks tables) ps) a in
      plans-next p ps (each p (inl refl) q.0 (λ d m. b d (member-left (derived_in marks p) (flat_map (derived_in marks) ps) d m)))
      (λ ms f. plans-kept ps (λ z m. each z (inr m)) q.1 (λ d m. b d (member-right (derived_in marks p) (flat_map (derived_in marks) ps) d m)) ms f)
      all (plan_columns p k) (all_columns (map plan_columns ps) k) refl refl h

  -- Operators with plans and operators in them.

  joined : (j : JoinPlan) (right : Plan) → ((c : List Column) → plan_columns right k ≡ Some c → plan_columns (lift_plan right) l ≡ Some c) → (cs ds : List Column) (o : Option (List Column)) → plan_columns right k ≡ o → joined_columns j cs o ≡ Some ds → plan_columns (lift_plan right) l ≡ plan_columns right k
  unfolding joined_columns
  joined j right keep cs ds None e h = absurd cc
  joined j right keep cs ds (Some c) e h = keep c e ∙ sym e

  join-kept : (j : JoinPlan) (right : Plan) → PlanKept right → OpKept (V.Join j right)
  join-kept j right kept a b within cs ds h =
      let f = outside-some within (joined_columns j cs (plan_columns right k)) ds (sym (join-out j right k within cs) ∙ h) in
      let same = joined j right (kept (sym (within-Join marks tables j right) ∙ a) (subst AllStand (derived-Join marks j right) b)) cs ds (plan_columns right k) refl f in
      ap (λ (z : Op). op_columns z l within cs) (lifts-Join marks tables j right)
      ∙ (join-out j (lift_plan right) l within cs
      ∙ (ap (λ (o : Option (List Column)). outside_subqueries within (joined_columns j cs o)) same ∙ (sym (join-out j right k within cs) ∙ h)))

  united : (inner : Bool) (ps : List Plan) → ((all : List (List Column)) → all_columns (map plan_columns ps) k ≡ Some all → all_columns (map plan_columns (map lift_plan ps)) l ≡ Some all) → (cs ds : List Column) (o : Option (List (List Column))) → plans_columns ps k ≡ o → united_columns inner cs o ≡ Some ds → plans_columns (map lift_plan ps) l ≡ plans_columns ps k
  unfolding united_columns plans_columns
  united inner ps keep cs ds None e h = absurd cc
  united inner ps keep cs ds (Some all) e h = keep all e ∙ sym e

  union-kept : (inner : Bool) (others : List Plan) → ((p : Plan) → Member p others → PlanKept p) → OpKept (V.Union inner others)
  union-kept inner others each a b within cs ds h =
      let f = outside-some within (united_columns inner cs (plans_columns others k)) ds (sym (union-out inner others k within cs) ∙ h) in
      let same = united inner others (plans-kept others each (sym (within-Union marks tables inner others) ∙ a) (subst AllStand (derived-Union marks inner others) b)) cs ds (plans_columns others k) refl f in
      ap (λ (z : Op). op_columns z l within cs) (lifts-Union marks tables inner others)
      ∙ (union-out inner (map lift_plan others) l within cs
      ∙ (ap (λ (o : Option (List (List Column))). outside_subqueries within (united_columns inner cs o)) same ∙ (sym (union-out inner others k within cs) ∙ h)))

  each-apart : (ops : List Op) → ((o : Op) → Member o ops → OpKept o) → list_all (λ (o : Op). has_no_calls o && within_is_liftable marks tables o) ops ≡ true → AllStand (derived_in_ops marks ops) → (o : Op) → Member o ops → OneKept o
  unfolding derived_in_ops
  each-apart ops each a b o m =
      let q = and_parts (has_no_calls o) (within_is_liftable marks tables o) (all-member (λ (z : Op). has_no_calls z && within_is_liftable marks tables z) ops a o m) in
      each o m q.1 (λ d n. b d (member-flat (derived_in_op marks) ops o d m n))

  partition-kept : (c : List ℕ) (ops : List Op) → ((o : Op) → Member o ops → OpKept o) → OpKept (V.Partition c ops)
  partition-kept c ops each a b within cs ds h =
      let by = has_kind is_key (column_kind c cs) in
      let f = key-some by (ops_columns ops k true cs) ds (outside-some within (by_key by (ops_columns ops k true cs)) ds (sym (partition-out c ops k within cs) ∙ h)) in
      let made = ops-kept ops (each-apart ops each (sym (within-Partition marks tables c ops) ∙ a) (subst AllStand (derived-Partition marks c ops) b)) true cs ds f in
      ap (λ (z : Op). op_columns z l within cs) (lifts-Partition marks tables c ops)
      ∙ (partition-out c (map lift_op ops) l within cs
      ∙ (ap (λ (o : Option (List Column)). outside_subqueries within (by_key by o)) (made ∙ sym f) ∙ (sym (partition-out c ops k within cs) ∙ h)))

  -- An operator that names nothing.
  still : (o : Op) (f : Bool → List Column → Option (List Column)) → lift_op o ≡ o → ((m : Known) (within : Bool) (cs : List Column) → op_columns o m within cs ≡ f within cs) → OpKept o
  still o f lifts out a b within cs ds h = ap (λ (z : Op). op_columns z l within cs) lifts ∙ (out l within cs ∙ (sym (out k within cs) ∙ h))

  -- Plans.

  abbrev plan_of : Source → List Op → Plan
  plan_of s ops = record { source = s; ops = ops }

  of-member : (ops : List Op) → ((o : Op) → Member o ops → OpKept o) → list_all (within_is_liftable marks tables) ops ≡ true → AllStand (derived_in_ops marks ops) → (o : Op) → Member o ops → OneKept o
  unfolding derived_in_ops
  of-member ops each a b o m = each o m (all-member (within_is_liftable marks tables) ops a o m) (λ d n. b d (member-flat (derived_in_op marks) ops o d m n))

  parts : (s : Source) (ops : List Op) → plan_is_liftable marks tables (plan_of s ops) ≡ true → AllStand (derived_in marks (plan_of s ops)) → Parts marks tables l s ops
  parts s ops a h =
      let b = and_parts (source_is_own marks (table_read s)) (ops_are_liftable marks (columns_read tables (table_read s)) ops && list_all (within_is_liftable marks tables) ops) (sym (liftable-plan marks tables (plan_of s ops)) ∙ a) in
      let c = and_parts (ops_are_liftable marks (columns_read tables (table_read s)) ops) (list_all (within_is_liftable marks tables) ops) b.1 in
      let q : AllStand (derived_at marks (table_read s) (prefix_calls ops) ++ derived_in_ops marks ops) = subst AllStand (derived-plan marks (plan_of s ops)) h in
      record {
        here = c.0;
        within = c.1;
        first = λ d m. q d (member-left (derived_at marks (table_read s) (prefix_calls ops)) (derived_in_ops marks ops) d m);
        later = λ d m. q d (member-right (derived_at marks (table_read s) (prefix_calls ops)) (derived_in_ops marks ops) d m);
      }

  -- A plan that reads its source as it is.
  source-next : (s : Source) (ops : List Op) → ((cs : List Column) → source_columns s k ≡ Some cs → source_columns s l ≡ Some cs) → ((o : Op) → Member o ops → OneKept o) → (ds : List Column) (m : Option (List Column)) → source_columns s k ≡ m → plan_columns (plan_of s ops) k ≡ Some ds → plan_columns (plan_of s (map lift_op ops)) l ≡ Some ds
  source-next s ops keep each ds None e h = let none : None ≡ Some ds = sym (plan-none (plan_of s ops) k e) ∙ h in absurd cc
  source-next s ops keep each ds (Some cs) e h =
      plan-some (plan_of s (map lift_op ops)) l cs (keep cs e) ∙ ops-kept ops each false cs ds (sym (plan-some (plan_of s ops) k cs e) ∙ h)

  as-it-is : (s : Source) (ops : List Op) → lift_plan (plan_of s ops) ≡ plan_of s (map lift_op ops) → ((cs : List Column) → source_columns s k ≡ Some cs → source_columns s l ≡ Some cs) → ((o : Op) → Member o ops → OneKept o) → (ds : List Column) → plan_columns (plan_of s ops) k ≡ Some ds → plan_columns (lift_plan (plan_of s ops)) l ≡ Some ds
  as-it-is s ops lifts keep each ds h = ap (λ (p : Plan). plan_columns p l) lifts ∙ source-next s ops keep each ds (source_columns s k) refl h

  no-table : (s : Source) (ops : List Op) → table_read s ≡ None → ((cs : List Column) → source_columns s k ≡ Some cs → source_columns s l ≡ Some cs) → Parts marks tables l s ops → ((o : Op) → Member o ops → OpKept o) → (ds : List Column) → plan_columns (plan_of s ops) k ≡ Some ds → plan_columns (lift_plan (plan_of s ops)) l ≡ Some ds
  unfolding lifted_from
  no-table s ops none keep p each ds h =
      as-it-is s ops (lifts-plan marks tables (plan_of s ops) ∙ ap (λ (n : Option (List ℕ)). lifted_from marks tables s n (map lift_op ops)) none) keep (of-member ops each p.within p.later) ds h

  -- A plan over a table.

  in-behind : (ops : List Op) (o : Op) → Member o (behind ops) → Member o ops
  in-behind ops o m = subst (λ (os : List Op). Member o os) (prefix-and-behind ops) (member-right (prefix ops) (behind ops) o m)

  prefix-ready : (n : List ℕ) (ops : List Op) → Parts marks tables l (source.Table n) ops → prefix_is_liftable marks (text_columns (columns_of_table tables n)) (prefix ops) ≡ true
  unfolding ops_are_liftable
  prefix-ready n ops p = (and_parts (prefix_is_liftable marks (text_columns (columns_of_table tables n)) (prefix ops)) (list_all has_no_calls (behind ops)) p.here).0

  lifts-table : (n : List ℕ) (ops : List Op) (cs : List PatternCall) → prefix_calls ops ≡ cs → lift_plan (plan_of (source.Table n) ops) ≡ lifted_over marks (columns_of_table tables n) (source.Table n) cs (map lift_op ops)
  unfolding lifted_from
  lifts-table n ops cs e =
      lifts-plan marks tables (plan_of (source.Table n) ops)
      ∙ ap (λ (z : List PatternCall). lifted_over marks (columns_of_table tables n) (source.Table n) z (map lift_op ops)) (calls-same nothing_told marks tables ops ∙ e)

  over-out : (columns : List Column) (ops : List Op) → over_derived marks columns (map lift_op ops) ≡ map (inside marks) (prefix ops) ++ V.Project (kept (names_behind (names_of_columns columns) (prefix ops))) ∷ map lift_op (behind ops)
  unfolding over_derived
  over-out columns ops =
      ap₂ (λ (a b : List Op). map (inside marks) a ++ V.Project (kept (names_behind (names_of_columns columns) a)) ∷ b) (prefix-same nothing_told marks tables ops) (behind-same nothing_told marks tables ops)

  without-calls : (n : List ℕ) (ops : List Op) → prefix_calls ops ≡ [] → Parts marks tables l (source.Table n) ops → ((o : Op) → Member o ops → OpKept o) → (ds : List Column) → plan_columns (plan_of (source.Table n) ops) k ≡ Some ds → plan_columns (lift_plan (plan_of (source.Table n) ops)) l ≡ Some ds
  unfolding lifted_over source_columns
  without-calls n ops e p each ds h = as-it-is (source.Table n) ops (lifts-table n ops [] e) (knowns.keeps n) (of-member ops each p.within p.later) ds h

  abbrev bare_table : List Column → Grid
  bare_table cs = record { columns = cs; lines = [] }

  abbrev with_answers : List Column → List PatternCall → Grid
  with_answers cs calls = derived_table nothing_told marks calls (bare_table cs)

  answer-columns : (cs : List Column) (calls : List PatternCall) → (with_answers cs calls).columns ≡ cs ++ added_columns marks calls
  unfolding derived_table
  answer-columns cs calls = refl

  own-table : (cs : List Column) → AreApart cs → ((n : List ℕ) → has_column n cs ≡ true → begins_with marks n ≡ false) → IsOwn marks (bare_table cs)
  own-table cs apart unmarked = record { apart = apart; full = λ i lt. absurd (omega (arith, lt)); unmarked = unmarked }

  both-apart : (cs : List Column) (calls : List PatternCall) → IsOwn marks (bare_table cs) → are_distinct (map (name_of_call marks) calls) ≡ true → AreApart (cs ++ added_columns marks calls)
  both-apart cs calls own d = apart-append cs (added_columns marks calls) own.apart (added-apart marks calls d) (λ c m. not-added marks calls c.name (own.unmarked c.name (has-member cs c m)))

  -- The prefix over the derived table, and the `project` behind it.
  prefix-made : (n : List ℕ) (ops : List Op) (c : PatternCall) (cs : List PatternCall) → prefix_calls ops ≡ c ∷ cs → Parts marks tables l (source.Table n) ops → (d : Derived) → d.table ≡ n → d.calls ≡ c ∷ cs → Stands marks tables l d → (mid : List Column) → ops_columns (prefix ops) k false (columns_of_table tables n) ≡ Some mid → after l false (fold (after l false) (Some (columns_of_table tables n ++ added_columns marks (c ∷ cs))) (map (inside marks) (prefix ops))) (V.Project (kept (names_behind (names_of_columns (columns_of_table tables n)) (prefix ops)))) ≡ Some mid
  unfolding prefix_calls calls_along names_of
  prefix-made n ops c cs e p d f g s mid h =
      let columns = columns_of_table tables n in
      let t = bare_table columns in
      let u = with_answers columns (c ∷ cs) in
      let own : IsOwn marks (bare_table (columns_of_table tables n)) =
      subst (λ (m : List ℕ). IsOwn marks (bare_table (columns_of_table tables m))) f (own-table (columns_of_table tables d.table) s.apart s.unmarked) in
      let differ : are_distinct (map (name_of_call marks) (c ∷ cs)) ≡ true = ap (λ (zs : List PatternCall). are_distinct (map (name_of_call marks) zs)) (sym g) ∙ s.calls in
      let ready = prefix-ready n ops p in
      let some = texts-some columns c.column (prefix-lent marks (text_columns columns) (prefix ops) ready c (subst (Member c) (sym e) (inl refl))) in
      ap (λ (z : List Column). after l false (fold (after l false) (Some z) (map (inside marks) (prefix ops))) (V.Project (kept (names_behind (names_of_columns columns) (prefix ops))))) (sym (answer-columns columns (c ∷ cs)))
      ∙ prefix-fits nothing_told marks nowhere nowhere k l (call-marked marks) (text_columns columns) (prefix ops) t u ready own (derived-beside nothing_told marks t own (c ∷ cs))
      (subst AreApart (sym (answer-columns columns (c ∷ cs))) (both-apart columns (c ∷ cs) own differ)) some
      (λ x m a. derived-answers nothing_told marks t own (c ∷ cs) differ x (subst (Member x) e m) a) mid h

  behind-next : (n : List ℕ) (ops : List Op) (c : PatternCall) (cs : List PatternCall) → prefix_calls ops ≡ c ∷ cs → Parts marks tables l (source.Table n) ops → ((o : Op) → Member o ops → OpKept o) → (d : Derived) → d.table ≡ n → d.calls ≡ c ∷ cs → Stands marks tables l d → (ds : List Column) (m : Option (List Column)) → ops_columns (prefix ops) k false (columns_of_table tables n) ≡ m → fold (after k false) m (behind ops) ≡ Some ds → ops_columns (over_derived marks (columns_of_table tables n) (map lift_op ops)) l false (columns_of_table tables n ++ added_columns marks (c ∷ cs)) ≡ Some ds
  behind-next n ops c cs e p each d f g s ds None q h = absurd (lost k false (behind ops) ds h)
  behind-next n ops c cs e p each d f g s ds (Some mid) q h =
      let columns = columns_of_table tables n in
      let whole = columns ++ added_columns marks (c ∷ cs) in
      let inner = map (inside marks) (prefix ops) in
      let last = V.Project (kept (names_behind (names_of_columns columns) (prefix ops))) in
      let rest = map lift_op (behind ops) in
      ap (λ (os : List Op). ops_columns os l false whole) (over-out columns ops)
      ∙ (ops-fold (inner ++ last ∷ rest) l false whole
      ∙ (fold-append (after l false) (Some whole) inner (last ∷ rest)
      ∙ (ap (λ (z : Option (List Column)). fold (after l false) z rest) (prefix-made n ops c cs e p d f g s mid q)
      ∙ (sym (ops-fold rest l false mid)
      ∙ ops-kept (behind ops) (λ o m. of-member ops each p.within p.later o (in-behind ops o m)) false mid ds (ops-fold (behind ops) k false mid ∙ h)))))

  split : (ops : List Op) (cs ds : List Column) → ops_columns ops k false cs ≡ Some ds → fold (after k false) (ops_columns (prefix ops) k false cs) (behind ops) ≡ Some ds
  split ops cs ds h =
      ap (λ (z : Option (List Column)). fold (after k false) z (behind ops)) (ops-fold (prefix ops) k false cs)
      ∙ (sym (fold-append (after k false) (Some cs) (prefix ops) (behind ops))
      ∙ (ap (λ (os : List Op). fold (after k false) (Some cs) os) (prefix-and-behind ops) ∙ (sym (ops-fold ops k false cs) ∙ h)))

  with-calls : (n : List ℕ) (ops : List Op) (c : PatternCall) (cs : List PatternCall) → prefix_calls ops ≡ c ∷ cs → Parts marks tables l (source.Table n) ops → ((o : Op) → Member o ops → OpKept o) → (d : Derived) → d.name ≡ name_of_call marks c → d.table ≡ n → d.calls ≡ c ∷ cs → Stands marks tables l d → (ds : List Column) (m : Option (List Column)) → table_columns k.tables n ≡ m → plan_columns (plan_of (source.Table n) ops) k ≡ Some ds → plan_columns (lift_plan (plan_of (source.Table n) ops)) l ≡ Some ds
  unfolding lifted_over source_columns
  with-calls n ops c cs e p each d a f g s ds None q h = let none : None ≡ Some ds = sym (plan-none (plan_of (source.Table n) ops) k q) ∙ h in absurd cc
  with-calls n ops c cs e p each d a f g s ds (Some start) q h =
      let columns = columns_of_table tables n in
      let whole = columns ++ added_columns marks (c ∷ cs) in
      let same : columns_of_table tables n ≡ start = columns-found tables n start (ap (λ (ts : List NamedSchema). table_columns ts n) (sym knowns.own) ∙ q) in
      let table : table_columns l.tables (name_of_call marks c) ≡ Some (columns_of_table tables n ++ added_columns marks (c ∷ cs)) =
      ap (table_columns l.tables) (sym a) ∙ (s.table ∙ ap₂ (λ (m : List ℕ) (zs : List PatternCall). Some (columns_of_table tables m ++ added_columns marks zs)) f g) in
      let before = sym (plan-some (plan_of (source.Table n) ops) k start q) ∙ h in
      ap (λ (z : Plan). plan_columns z l) (lifts-table n ops (c ∷ cs) e)
      ∙ (plan-some (plan_of (source.Table (name_of_call marks c)) (over_derived marks columns (map lift_op ops))) l whole table
      ∙ behind-next n ops c cs e p each d f g s ds (ops_columns (prefix ops) k false columns) refl (split ops columns ds (ap (ops_columns ops k false) same ∙ before)))

  of-calls : (n : List ℕ) (ops : List Op) (cs : List PatternCall) → prefix_calls ops ≡ cs → Parts marks tables l (source.Table n) ops → ((o : Op) → Member o ops → OpKept o) → (ds : List Column) → plan_columns (plan_of (source.Table n) ops) k ≡ Some ds → plan_columns (lift_plan (plan_of (source.Table n) ops)) l ≡ Some ds
  unfolding derived_at derived_over
  of-calls n ops [] e p each ds h = without-calls n ops e p each ds h
  of-calls n ops (c ∷ cs) e p each ds h =
      let d : Derived = record { name = name_of_call marks c; table = n; calls = c ∷ cs } in
      let s : Stands marks tables l d = p.first d (subst (λ (zs : List PatternCall). Member d (derived_over marks n zs)) (sym e) (inl refl)) in
      with-calls n ops c cs e p each d refl refl refl s ds (table_columns k.tables n) refl h

  of-source : (s : Source) (ops : List Op) → ((o : Op) → Member o ops → OpKept o) → PlanKept (plan_of s ops)
  unfolding source_columns
  of-source (source.Table n) ops each a b ds h = of-calls n ops (prefix_calls ops) refl (parts (source.Table n) ops a b) each ds h
  of-source (source.Let i) ops each a b ds h = no-table (source.Let i) ops refl (λ cs q. ap (λ (ts : List (List Column)). slice_get ts i) knowns.lets ∙ q) (parts (source.Let i) ops a b) each ds h
  of-source (source.Range column from to step) ops each a b ds h = no-table (source.Range column from to step) ops refl (λ cs q. q) (parts (source.Range column from to step) ops a b) each ds h
  of-source (source.Print items) ops each a b ds h = no-table (source.Print items) ops refl (λ cs q. q) (parts (source.Print items) ops a b) each ds h

  -- By induction over operators and plans.

  abbrev GivenOp : Type 0
  GivenOp = (o : Op) × OpKept o

  abbrev GivenPlan : Type 0
  GivenPlan = (p : Plan) × PlanKept p

  abbrev bare_op : GivenOp → Op
  bare_op g = g.0

  abbrev bare_plan : GivenPlan → Plan
  bare_plan g = g.0

  each-op : (gs : List GivenOp) (o : Op) → Member o (map bare_op gs) → OpKept o
  each-op gs o m = let q = member-of-map bare_op gs o m in subst OpKept q.2 q.0.1

  each-plan : (gs : List GivenPlan) (p : Plan) → Member p (map bare_plan gs) → PlanKept p
  each-plan gs p m = let q = member-of-map bare_plan gs p m in subst PlanKept q.2 q.0.1

  of-op : (y : Op-F GivenOp GivenPlan) → OpKept (roll-Op (map-Op GivenOp GivenPlan Op Plan bare_op bare_plan y))
  of-op (Op-F.Where e) = subst OpKept (sym (V.rolls-Where e)) (still (V.Where e) (λ b cs. columns_if (where_fits e cs) cs) (lifts-Where marks tables e) (op-Where e))
  of-op (Op-F.Extend items) = subst OpKept (sym (V.rolls-Extend items)) (still (V.Extend items) (λ b cs. answer_if (items_fit items cs position.Window) (extend_columns items cs)) (lifts-Extend marks tables items) (op-Extend items))
  of-op (Op-F.Project items) = subst OpKept (sym (V.rolls-Project items)) (still (V.Project items) (λ b cs. answer_if (items_fit items cs position.Window) (items_columns items cs)) (lifts-Project marks tables items) (op-Project items))
  of-op (Op-F.Take n) = subst OpKept (sym (V.rolls-Take n)) (still (V.Take n) (λ b cs. Some cs) (lifts-Take marks tables n) (op-Take n))
  of-op Op-F.Count = subst OpKept (sym V.rolls-Count) (still V.Count (λ b cs. Some count_columns) (lifts-Count marks tables) op-Count)
  of-op Op-F.Serialize = subst OpKept (sym V.rolls-Serialize) (still V.Serialize (λ b cs. Some cs) (lifts-Serialize marks tables) op-Serialize)
  of-op (Op-F.Sort keys) = subst OpKept (sym (V.rolls-Sort keys)) (still (V.Sort keys) (λ b cs. columns_if (sort_fits keys cs) cs) (lifts-Sort marks tables keys) (op-Sort keys))
  of-op (Op-F.Top n keys) = subst OpKept (sym (V.rolls-Top n keys)) (still (V.Top n keys) (λ b cs. columns_if (sort_fits keys cs) cs) (lifts-Top marks tables n keys) (op-Top n keys))
  of-op (Op-F.Summarize g) = subst OpKept (sym (V.rolls-Summarize g)) (still (V.Summarize g) (λ b cs. answer_if (summarize_fits g cs) (group_columns g cs)) (lifts-Summarize marks tables g) (op-Summarize g))
  of-op (Op-F.MakeSeries p) = subst OpKept (sym (V.rolls-MakeSeries p)) (still (V.MakeSeries p) (λ b cs. answer_if (series_fits p cs) (series_columns p cs)) (lifts-MakeSeries marks tables p) (op-MakeSeries p))
  of-op (Op-F.MvExpand x) = subst OpKept (sym (V.rolls-MvExpand x)) (still (V.MvExpand x) (λ b cs. answer_if (expand_fits x cs) (expand_columns x cs)) (lifts-MvExpand marks tables x) (op-MvExpand x))
  of-op (Op-F.Parse p) = subst OpKept (sym (V.rolls-Parse p)) (still (V.Parse p) (λ b cs. answer_if (parse_fits p cs) (parse_columns p cs)) (lifts-Parse marks tables p) (op-Parse p))
  of-op (Op-F.Scan p) = subst OpKept (sym (V.rolls-Scan p)) (still (V.Scan p) (λ b cs. answer_if (scan_fits p cs) (scan_columns p cs)) (lifts-Scan marks tables p) (op-Scan p))
  of-op (Op-F.Join j right) = subst OpKept (sym (V.rolls-Join j right.0)) (join-kept j right.0 right.1)
  of-op (Op-F.Union inner others) = subst OpKept (sym (V.rolls-Union inner (map bare_plan others))) (union-kept inner (map bare_plan others) (each-plan others))
  of-op (Op-F.Partition c ops) = subst OpKept (sym (V.rolls-Partition c (map bare_op ops))) (partition-kept c (map bare_op ops) (each-op ops))

  of-plan : (y : Plan-F GivenOp GivenPlan) → PlanKept (roll-Plan (map-Plan GivenOp GivenPlan Op Plan bare_op bare_plan y))
  of-plan y = of-source y.source (map bare_op y.ops) (each-op y.ops)

  pub every-plan-fits : (p : Plan) → PlanKept p
  every-plan-fits =
      ind-Plan OpKept PlanKept (λ y z is. subst (λ (f : Op-F Op Plan). OpKept (roll-Op f)) is (of-op z))
      (λ y z is. subst (λ (f : Plan-F Op Plan). PlanKept (roll-Plan f)) is (of-plan z))
