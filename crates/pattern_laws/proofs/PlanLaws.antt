-- What every operator and plan becomes means what it means by what is told: by induction over operators and plans.
use Rattle.std.proofs.Common.{◌≡◌, ℕ, Bool, true, false, not, List, [], ◌∷◌, ◌++◌, map, filter, refl, sym, ap, ap₂, ◌∙◌, subst, inl, inr, rules}
use Rattle.std.proofs.Math.Path.{fun_ext}
use Rattle.std.specs.Prelude.{◌&&◌, fold, Option, None}
use Rattle.std.specs.List.{flat_map, list_all}
use Rattle.std.proofs.lemmas.Bool.{and_parts, cases_Bool}
use Rattle.kql_cells.specs.Table.{Grid, gathered}
use Rattle.kql_cells.specs.declared.schema.Column.{Column}
use Rattle.kql_cells.specs.declared.schemas.NamedSchema.{NamedSchema}
use Rattle.kql_cells.specs.declared.value.Value.{Value}
use Rattle.kql_bound.specs.declared.expr.BExpr.{BExpr, out-BExpr}
use Rattle.kql_bound.specs.declared.parts.BItem.{BItem}
use Rattle.kql_bound.specs.declared.parts.JoinPlan.{JoinPlan}
use Rattle.kql_bound.specs.declared.plan.Op.{Op, out-Op, roll-Op, roll-out-Op, the_lemmas}
use Rattle.kql_bound.specs.declared.plan.Op.TheFolds.{map-Op, map-Plan}
use Rattle.kql_bound.specs.declared.plan.Op.TheOpen.{Op-F, Plan-F}
use Rattle.kql_bound.specs.declared.plan.Op.TheVariants as V
use Rattle.kql_bound.specs.declared.plan.Plan.{Plan, fold_out-Plan, ind-Plan, roll-Plan}
use Rattle.kql_bound.specs.declared.plan.Source.{Source}
use Rattle.kql_bound.specs.declared.plan.Source.TheVariants as source
use Rattle.kql_meaning.specs.Extend.{extend_columns, extend_table}
use Rattle.kql_meaning.specs.FittingOperators.{are_distinct}
use Rattle.kql_meaning.specs.Items.{cells_in, items_names, items_values, without}
use Rattle.kql_meaning.specs.Join.{join_table}
use Rattle.kql_meaning.specs.MakeSeries.{series_table}
use Rattle.kql_meaning.specs.MvExpand.{expand_table}
use Rattle.kql_meaning.specs.Parse.{parse_table}
use Rattle.kql_meaning.specs.Partition.{partition_table}
use Rattle.kql_meaning.specs.Plans.{Gives, Makes, World, one_after_another, op_means, plan_means, plan_step, source_table}
use Rattle.kql_meaning.specs.Project.{project_table}
use Rattle.kql_meaning.specs.Readings.{Reading}
use Rattle.kql_meaning.specs.Results.{results, results_step}
use Rattle.kql_meaning.specs.Scan.{scan_table}
use Rattle.kql_meaning.specs.Sort.{sort_table, top_table}
use Rattle.kql_meaning.specs.Sources.{let_table, named_table}
use Rattle.kql_meaning.specs.Summarize.{summarize_table}
use Rattle.kql_meaning.specs.Tables.{names_of, places}
use Rattle.kql_meaning.specs.TakeAndCount.{count_table, take_table}
use Rattle.kql_meaning.specs.Union.{union_table}
use Rattle.kql_meaning.specs.Values.{holds}
use Rattle.kql_meaning.specs.Where.{where_table}
use Rattle.kql_meaning.specs.Expressions.{val}
use Rattle.kql_meaning.proofs.MemberLaws.{Member, member-either, member-flat, member-left, member-of-map, member-right}
use Rattle.kql_meaning.proofs.PlanLaws.{plan_means-out}
use Rattle.pattern_lift.specs.declared.calls.Derived.{Derived}
use Rattle.pattern_lift.specs.declared.calls.PatternCall.{PatternCall}
use Rattle.pattern_lift.specs.Calls.{calls, calls_are_lent, calls_in_items, is_among}
use Rattle.pattern_lift.specs.Derived.{columns_of_table, derived_at, derived_in, derived_in_op, derived_in_ops, derived_in_plans, derived_over, name_of_call}
use Rattle.pattern_lift.specs.Lifted.{inside, kept, lifted_from, lifted_op, lifted_over, lifted_plan, names_of_columns, over_derived}
use Rattle.pattern_lift.specs.Marks.{begins_with}
use Rattle.pattern_lift.specs.Prefixes.{behind, calls_along, calls_at, calls_at_step, joins, joins_step, left_of, names_behind, names_set, prefix, prefix_calls, sets, table_read}
use Rattle.pattern_lift.proofs.PlanSteps.{derived-Join, derived-Partition, derived-Union, derived-plan, lifted-out, lifts-Count, lifts-Extend, lifts-Join, lifts-MakeSeries, lifts-MvExpand, lifts-Parse, lifts-Partition, lifts-Project, lifts-Scan, lifts-Serialize, lifts-Sort, lifts-Summarize, lifts-Take, lifts-Top, lifts-Union, lifts-Where, lifts-plan}
use Rattle.pattern_laws.specs.Liftable.{columns_read, has_no_calls, is_readable, item_is_liftable, no_calls_step, op_is_liftable, op_liftable_step, ops_are_liftable, plan_is_liftable, prefix_is_liftable, source_is_own, text_columns, within_is_liftable}
use Rattle.pattern_laws.specs.Meaning.{Told, told_extend, told_op, told_op_step, told_plan, told_results, told_val, told_values, told_where}
use Rattle.pattern_laws.specs.Tables.{derived_table}
use Rattle.pattern_laws.proofs.BesideLaws.{IsOwn, map-members}
use Rattle.pattern_laws.proofs.ItemLaws.{AllGood, good-items}
use Rattle.pattern_laws.proofs.LiftableSteps.{liftable-plan, within-Join, within-Partition, within-Union}
use Rattle.pattern_laws.proofs.PrefixLaws.{means-Extend, means-Project, means-Where, means-out, prefix-lifts, told-out}
use Rattle.pattern_laws.proofs.StartLaws.{call-marked, derived-answers, derived-beside}
use Rattle.pattern_laws.proofs.ToldReadings.{told-alike}

-- Without calls, `where` and `extend` read nothing that is told.

abbrev NoneOf : List (List ℕ) → List PatternCall → Type 0
NoneOf lent cs = (c : PatternCall) → Member c cs → is_among lent c.column ≡ true → ⊥

nothing-lent : (n : List ℕ) → is_among [] n ≡ true → ⊥
unfolding is_among
nothing-lent n e = cc

where-alike : (told : Told) (lent : List (List ℕ)) (e : BExpr) → calls_are_lent lent e ≡ true → NoneOf lent (calls e) → (t : Grid) → told_where told e t ≡ where_table e t
unfolding told_where where_table told_val val
where-alike told lent e l h t = ap (λ (r : Reading). gathered t (filter (λ i. holds (r.at t i [])) (places t))) (told-alike told lent e l h)

values-alike : (told : Told) (lent : List (List ℕ)) (items : List BItem) → list_all (λ (b : BItem). calls_are_lent lent b.expr) items ≡ true → NoneOf lent (calls_in_items items) → (t : Grid) (i : ℕ) → told_values told items t i ≡ items_values items t i
unfolding told_values items_values told_results results told_val val calls_in_items
values-alike told lent [] l h t i = refl
values-alike told lent (b ∷ bs) l h t i =
    let p = and_parts (calls_are_lent lent b.expr) (list_all (λ (x : BItem). calls_are_lent lent x.expr) bs) l in
    ap₂ (λ (xs ys : List Value). xs ++ ys)
    (ap (λ (r : Reading). results_step (out-BExpr b.expr) (r.at t i []) t []) (told-alike told lent b.expr p.0 (λ c m. h c (member-left (calls b.expr) (flat_map (λ (x : BItem). calls x.expr) bs) c m))))
    (values-alike told lent bs p.1 (λ c m. h c (member-right (calls b.expr) (flat_map (λ (x : BItem). calls x.expr) bs) c m)) t i)

extend-alike : (told : Told) (lent : List (List ℕ)) (items : List BItem) → list_all (λ (b : BItem). calls_are_lent lent b.expr) items ≡ true → NoneOf lent (calls_in_items items) → (t : Grid) → told_extend told items t ≡ extend_table items t
unfolding told_extend extend_table
extend-alike told lent items l h t =
    ap (λ (ls : List (List Value)). record { columns = extend_columns items t.columns; lines = ls })
    (map-members (λ i. cells_in (without (items_names items) t.columns) t i ++ told_values told items t i) (λ i. cells_in (without (items_names items) t.columns) t i ++ items_values items t i) (places t)
    (λ i m. ap (λ (vs : List Value). cells_in (without (items_names items) t.columns) t i ++ vs) (values-alike told lent items l h t i)))

lent-items : (marks : List ℕ) (lent : List (List ℕ)) (items : List BItem) → AllGood marks lent items → list_all (λ (b : BItem). calls_are_lent lent b.expr) items ≡ true
lent-items marks lent [] g = refl
lent-items marks lent (b ∷ bs) g = rw (g.0.lent_calls, lent-items marks lent bs g.1) refl

-- Prefixes of operators whose plans are lifted.

pub prefix-and-behind : (ops : List Op) → prefix ops ++ behind ops ≡ ops
unfolding prefix behind
prefix-and-behind [] = refl
prefix-and-behind (o ∷ os) = elim (cases_Bool (joins o)) [
  | inl t ↦ rw t (ap (λ (xs : List Op). o ∷ xs) (prefix-and-behind os))
  | inr f ↦ rw f refl
]

pub fold-append : {X Z : Type 0} (f : Z → X → Z) (z : Z) (xs ys : List X) → fold f z (xs ++ ys) ≡ fold f (fold f z xs) ys
fold-append f z [] ys = refl
fold-append f z (x ∷ xs) ys = fold-append f (f z x) xs ys

-- Two worlds: that of the program, and that with the derived tables.

pub record Worlds (marks : List ℕ) (w x : World) : Type 0 where
  pub lets : x.lets ≡ w.lets
  pub tables : (n : List ℕ) → begins_with marks n ≡ false → named_table x.tables n ≡ named_table w.tables n

pub record Standing (told : Told) (marks : List ℕ) (tables : List NamedSchema) (w x : World) (d : Derived) : Type 0 where
  pub columns : columns_of_table tables d.table ≡ (named_table w.tables d.table).columns
  pub own : IsOwn marks (named_table w.tables d.table)
  pub apart : are_distinct (map (name_of_call marks) d.calls) ≡ true
  pub table : named_table x.tables d.name ≡ derived_table told marks d.calls (named_table w.tables d.table)

-- What is asked of the parts of a plan.
record Parts (told : Told) (marks : List ℕ) (tables : List NamedSchema) (w x : World) (s : Source) (ops : List Op) : Type 0 where
  own : source_is_own marks (table_read s) ≡ true
  here : ops_are_liftable marks (columns_read tables (table_read s)) ops ≡ true
  within : list_all (within_is_liftable marks tables) ops ≡ true
  first : (d : Derived) → Member d (derived_at marks (table_read s) (prefix_calls ops)) → Standing told marks tables w x d
  later : (d : Derived) → Member d (derived_in_ops marks ops) → Standing told marks tables w x d

module _ (told : Told) (marks : List ℕ) (tables : List NamedSchema) where
  abbrev lift_op : Op → Op
  lift_op = lifted_op marks tables

  abbrev lift_plan : Plan → Plan
  lift_plan = lifted_plan marks tables

  joins-of : (o : Op) (f : Op-F Op Plan) → out-Op o ≡ f → (joins (lift_op o) ≡ joins_step f) × (joins_step f ≡ true → lift_op o ≡ o)
  unfolding joins
  joins-of o (Op-F.Where e) s =
      let lifts : lift_op o ≡ o = lifted-out marks tables o (Op-F.Where e) s ∙ (ap roll-Op (sym s) ∙ roll-out-Op o) in
      (ap (λ (x : Op). joins_step (out-Op x)) lifts ∙ ap joins_step s, λ t. lifts)
  joins-of o (Op-F.Extend items) s =
      let lifts : lift_op o ≡ o = lifted-out marks tables o (Op-F.Extend items) s ∙ (ap roll-Op (sym s) ∙ roll-out-Op o) in
      (ap (λ (x : Op). joins_step (out-Op x)) lifts ∙ ap joins_step s, λ t. lifts)
  joins-of o (Op-F.Project items) s = let q : out-Op (V.Project items) ≡ Op-F.Project items = search (rules, the_lemmas) in (ap (λ (x : Op). joins_step (out-Op x)) (lifted-out marks tables o (Op-F.Project items) s ∙ V.rolls-Project items) ∙ ap joins_step q, λ t. absurd cc)
  joins-of o (Op-F.Take n) s = let q : out-Op (V.Take n) ≡ Op-F.Take n = search (rules, the_lemmas) in (ap (λ (x : Op). joins_step (out-Op x)) (lifted-out marks tables o (Op-F.Take n) s ∙ V.rolls-Take n) ∙ ap joins_step q, λ t. absurd cc)
  joins-of o Op-F.Count s = let q : out-Op (V.Count) ≡ Op-F.Count = search (rules, the_lemmas) in (ap (λ (x : Op). joins_step (out-Op x)) (lifted-out marks tables o Op-F.Count s ∙ V.rolls-Count) ∙ ap joins_step q, λ t. absurd cc)
  joins-of o Op-F.Serialize s = let q : out-Op (V.Serialize) ≡ Op-F.Serialize = search (rules, the_lemmas) in (ap (λ (x : Op). joins_step (out-Op x)) (lifted-out marks tables o Op-F.Serialize s ∙ V.rolls-Serialize) ∙ ap joins_step q, λ t. absurd cc)
  joins-of o (Op-F.Sort keys) s = let q : out-Op (V.Sort keys) ≡ Op-F.Sort keys = search (rules, the_lemmas) in (ap (λ (x : Op). joins_step (out-Op x)) (lifted-out marks tables o (Op-F.Sort keys) s ∙ V.rolls-Sort keys) ∙ ap joins_step q, λ t. absurd cc)
  joins-of o (Op-F.Top n keys) s = let q : out-Op (V.Top n keys) ≡ Op-F.Top n keys = search (rules, the_lemmas) in (ap (λ (x : Op). joins_step (out-Op x)) (lifted-out marks tables o (Op-F.Top n keys) s ∙ V.rolls-Top n keys) ∙ ap joins_step q, λ t. absurd cc)
  joins-of o (Op-F.Summarize g) s = let q : out-Op (V.Summarize g) ≡ Op-F.Summarize g = search (rules, the_lemmas) in (ap (λ (x : Op). joins_step (out-Op x)) (lifted-out marks tables o (Op-F.Summarize g) s ∙ V.rolls-Summarize g) ∙ ap joins_step q, λ t. absurd cc)
  joins-of o (Op-F.MakeSeries p) s = let q : out-Op (V.MakeSeries p) ≡ Op-F.MakeSeries p = search (rules, the_lemmas) in (ap (λ (x : Op). joins_step (out-Op x)) (lifted-out marks tables o (Op-F.MakeSeries p) s ∙ V.rolls-MakeSeries p) ∙ ap joins_step q, λ t. absurd cc)
  joins-of o (Op-F.MvExpand e) s = let q : out-Op (V.MvExpand e) ≡ Op-F.MvExpand e = search (rules, the_lemmas) in (ap (λ (x : Op). joins_step (out-Op x)) (lifted-out marks tables o (Op-F.MvExpand e) s ∙ V.rolls-MvExpand e) ∙ ap joins_step q, λ t. absurd cc)
  joins-of o (Op-F.Parse p) s = let q : out-Op (V.Parse p) ≡ Op-F.Parse p = search (rules, the_lemmas) in (ap (λ (x : Op). joins_step (out-Op x)) (lifted-out marks tables o (Op-F.Parse p) s ∙ V.rolls-Parse p) ∙ ap joins_step q, λ t. absurd cc)
  joins-of o (Op-F.Join j right) s = let q : out-Op (V.Join j (lift_plan right)) ≡ Op-F.Join j (lift_plan right) = search (rules, the_lemmas) in (ap (λ (x : Op). joins_step (out-Op x)) (lifted-out marks tables o (Op-F.Join j right) s ∙ V.rolls-Join j (lift_plan right)) ∙ ap joins_step q, λ t. absurd cc)
  joins-of o (Op-F.Union inner others) s = let q : out-Op (V.Union inner (map lift_plan others)) ≡ Op-F.Union inner (map lift_plan others) = search (rules, the_lemmas) in (ap (λ (x : Op). joins_step (out-Op x)) (lifted-out marks tables o (Op-F.Union inner others) s ∙ V.rolls-Union inner (map lift_plan others)) ∙ ap joins_step q, λ t. absurd cc)
  joins-of o (Op-F.Scan p) s = let q : out-Op (V.Scan p) ≡ Op-F.Scan p = search (rules, the_lemmas) in (ap (λ (x : Op). joins_step (out-Op x)) (lifted-out marks tables o (Op-F.Scan p) s ∙ V.rolls-Scan p) ∙ ap joins_step q, λ t. absurd cc)
  joins-of o (Op-F.Partition c ops) s = let q : out-Op (V.Partition c (map lift_op ops)) ≡ Op-F.Partition c (map lift_op ops) = search (rules, the_lemmas) in (ap (λ (x : Op). joins_step (out-Op x)) (lifted-out marks tables o (Op-F.Partition c ops) s ∙ V.rolls-Partition c (map lift_op ops)) ∙ ap joins_step q, λ t. absurd cc)

  joins-same : (o : Op) → joins (lift_op o) ≡ joins o
  unfolding joins
  joins-same o = (joins-of o (out-Op o) refl).0

  joins-stays : (o : Op) → joins o ≡ true → lift_op o ≡ o
  unfolding joins
  joins-stays o t = (joins-of o (out-Op o) refl).1 t

  pub prefix-same : (ops : List Op) → prefix (map lift_op ops) ≡ prefix ops
  unfolding prefix
  prefix-same [] = refl
  prefix-same (o ∷ os) = elim (cases_Bool (joins o)) [
    | inl t ↦ rw (joins-same o, t) (ap₂ (λ (x : Op) (xs : List Op). x ∷ xs) (joins-stays o t) (prefix-same os))
    | inr f ↦ rw (joins-same o, f) refl
  ]

  pub behind-same : (ops : List Op) → behind (map lift_op ops) ≡ map lift_op (behind ops)
  unfolding behind
  behind-same [] = refl
  behind-same (o ∷ os) = elim (cases_Bool (joins o)) [
    | inl t ↦ rw (joins-same o, t) (behind-same os)
    | inr f ↦ rw (joins-same o, f) refl
  ]

  pub calls-same : (ops : List Op) → prefix_calls (map lift_op ops) ≡ prefix_calls ops
  unfolding prefix_calls
  calls-same ops = ap calls_along (prefix-same ops)

  prefix-stays : (ops : List Op) → map lift_op (prefix ops) ≡ prefix ops
  unfolding prefix
  prefix-stays [] = refl
  prefix-stays (o ∷ os) = elim (cases_Bool (joins o)) [
    | inl t ↦ rw t (ap₂ (λ (x : Op) (xs : List Op). x ∷ xs) (joins-stays o t) (prefix-stays os))
    | inr f ↦ rw f refl
  ]

  -- Two worlds: that of the program, and that with the derived tables.

  module _ (w x : World) (worlds : Worlds marks w x) where
    abbrev AllStand : List Derived → Type 0
    AllStand ds = (d : Derived) → Member d ds → Standing told marks tables w x d

    abbrev Same : Op → Type 0
    Same o = (t : Grid) → op_means (lift_op o) x t ≡ told_op told o w t

    abbrev OpSame : Op → Type 0
    OpSame o = within_is_liftable marks tables o ≡ true → has_no_calls o ≡ true → AllStand (derived_in_op marks o) → Same o

    abbrev PlanSame : Plan → Type 0
    PlanSame p = plan_is_liftable marks tables p ≡ true → AllStand (derived_in marks p) → plan_means (lift_plan p) x ≡ told_plan told p w

    -- Operators one after another.

    folds-same : (ops : List Op) → ((o : Op) → Member o ops → Same o) → (t : Grid) → fold (λ before (o : Op). op_means o x before) t (map lift_op ops) ≡ fold (λ before (o : Op). told_op told o w before) t ops
    folds-same [] each t = refl
    folds-same (o ∷ os) each t =
        ap (λ (u : Grid). fold (λ before (z : Op). op_means z x before) u (map lift_op os)) (each o (inl refl) t) ∙ folds-same os (λ z m. each z (inr m)) (told_op told o w t)

    ops-same : (ops : List Op) → ((o : Op) → Member o ops → Same o) → (t : Grid) → one_after_another (map op_means (map lift_op ops)) x t ≡ one_after_another (map (told_op told) ops) w t
    unfolding one_after_another
    ops-same [] each t = refl
    ops-same (o ∷ os) each t =
        ap (λ (u : Grid). fold (λ before (z : Makes). z x before) u (map op_means (map lift_op os))) (each o (inl refl) t) ∙ ops-same os (λ z m. each z (inr m)) (told_op told o w t)

    plans-same : (ps : List Plan) → ((p : Plan) → Member p ps → PlanSame p) → list_all (plan_is_liftable marks tables) ps ≡ true → AllStand (derived_in_plans marks ps) → map (λ (z : Gives). z x) (map plan_means (map lift_plan ps)) ≡ map (λ (z : Gives). z w) (map (told_plan told) ps)
    unfolding derived_in_plans
    plans-same [] each l h = refl
    plans-same (p ∷ ps) each l h =
        let a = and_parts (plan_is_liftable marks tables p) (list_all (plan_is_liftable marks tables) ps) l in
        ap₂ (λ (g : Grid) (gs : List Grid). g ∷ gs) (each p (inl refl) a.0 (λ d m. h d (member-left (derived_in marks p) (flat_map (derived_in marks) ps) d m)))
        (plans-same ps (λ z m. each z (inr m)) a.1 (λ d m. h d (member-right (derived_in marks p) (flat_map (derived_in marks) ps) d m)))

    each-apart : (ops : List Op) → ((o : Op) → Member o ops → OpSame o) → list_all (λ (o : Op). has_no_calls o && within_is_liftable marks tables o) ops ≡ true → AllStand (derived_in_ops marks ops) → (o : Op) → Member o ops → Same o
    unfolding derived_in_ops
    each-apart [] each l h o m = absurd m
    each-apart (p ∷ ps) each l h o (inl e) =
        let a = and_parts (has_no_calls p && within_is_liftable marks tables p) (list_all (λ (z : Op). has_no_calls z && within_is_liftable marks tables z) ps) l in
        let b = and_parts (has_no_calls p) (within_is_liftable marks tables p) a.0 in
        subst Same e (each p (inl refl) b.1 b.0 (λ d n. h d (member-left (derived_in_op marks p) (flat_map (derived_in_op marks) ps) d n)))
    each-apart (p ∷ ps) each l h o (inr m) =
        let a = and_parts (has_no_calls p && within_is_liftable marks tables p) (list_all (λ (z : Op). has_no_calls z && within_is_liftable marks tables z) ps) l in
        each-apart ps (λ z n. each z (inr n)) a.1 (λ d n. h d (member-right (derived_in_op marks p) (flat_map (derived_in_op marks) ps) d n)) o m

    -- An operator whose meaning reads no table and no call.
    fixed : (o : Op) (f : Grid → Grid) → lift_op o ≡ o → ((t : Grid) → op_means o x t ≡ f t) → ((t : Grid) → told_op told o w t ≡ f t) → Same o
    fixed o f l a b t = ap (λ (z : Op). op_means z x t) l ∙ (a t ∙ sym (b t))

    where-same : (lent : List (List ℕ)) (e : BExpr) → calls_are_lent lent e ≡ true → NoneOf lent (calls e) → Same (V.Where e)
    where-same lent e l h = fixed (V.Where e) (where_table e) (lifts-Where marks tables e) (means-Where e x) (λ t. told-out told (V.Where e) (Op-F.Where e) (search (rules, the_lemmas)) w t ∙ where-alike told lent e l h t)

    extend-same : (lent : List (List ℕ)) (items : List BItem) → list_all (λ (b : BItem). calls_are_lent lent b.expr) items ≡ true → NoneOf lent (calls_in_items items) → Same (V.Extend items)
    extend-same lent items l h = fixed (V.Extend items) (extend_table items) (lifts-Extend marks tables items) (means-Extend items x) (λ t. told-out told (V.Extend items) (Op-F.Extend items) (search (rules, the_lemmas)) w t ∙ extend-alike told lent items l h t)

    where-op : (e : BExpr) → OpSame (V.Where e)
    unfolding has_no_calls
    where-op e a b h =
        let o : out-Op (V.Where e) ≡ Op-F.Where e = search (rules, the_lemmas) in
        where-same [] e (sym (ap no_calls_step o) ∙ b) (λ c m l. nothing-lent c.column l)

    extend-op : (items : List BItem) → OpSame (V.Extend items)
    unfolding has_no_calls
    extend-op items a b h =
        let o : out-Op (V.Extend items) ≡ Op-F.Extend items = search (rules, the_lemmas) in
        extend-same [] items (sym (ap no_calls_step o) ∙ b) (λ c m l. nothing-lent c.column l)

    join-op : (j : JoinPlan) (right : Plan) → PlanSame right → OpSame (V.Join j right)
    join-op j right same a b h t =
        ap (λ (z : Op). op_means z x t) (lifts-Join marks tables j right)
        ∙ (means-out (V.Join j (lift_plan right)) (Op-F.Join j (lift_plan right)) (search (rules, the_lemmas)) x t
        ∙ (ap (λ (g : Grid). join_table j t g) (same (sym (within-Join marks tables j right) ∙ a) (subst AllStand (derived-Join marks j right) h))
        ∙ sym (told-out told (V.Join j right) (Op-F.Join j right) (search (rules, the_lemmas)) w t)))

    union-op : (inner : Bool) (others : List Plan) → ((p : Plan) → Member p others → PlanSame p) → OpSame (V.Union inner others)
    union-op inner others each a b h t =
        ap (λ (z : Op). op_means z x t) (lifts-Union marks tables inner others)
        ∙ (means-out (V.Union inner (map lift_plan others)) (Op-F.Union inner (map lift_plan others)) (search (rules, the_lemmas)) x t
        ∙ (ap (λ (gs : List Grid). union_table inner t gs) (plans-same others each (sym (within-Union marks tables inner others) ∙ a) (subst AllStand (derived-Union marks inner others) h))
        ∙ sym (told-out told (V.Union inner others) (Op-F.Union inner others) (search (rules, the_lemmas)) w t)))

    partition-op : (c : List ℕ) (ops : List Op) → ((o : Op) → Member o ops → OpSame o) → OpSame (V.Partition c ops)
    partition-op c ops each a b h t =
        let kept = each-apart ops each (sym (within-Partition marks tables c ops) ∙ a) (subst AllStand (derived-Partition marks c ops) h) in
        ap (λ (z : Op). op_means z x t) (lifts-Partition marks tables c ops)
        ∙ (means-out (V.Partition c (map lift_op ops)) (Op-F.Partition c (map lift_op ops)) (search (rules, the_lemmas)) x t
        ∙ (ap (λ (f : Grid → Grid). partition_table c f t) (fun_ext (λ g. ops-same ops kept g))
        ∙ sym (told-out told (V.Partition c ops) (Op-F.Partition c ops) (search (rules, the_lemmas)) w t)))

    -- Plans.

    told-fold : (ops : List Op) (t : Grid) → one_after_another (map (told_op told) ops) w t ≡ fold (λ before (o : Op). told_op told o w before) t ops
    unfolding one_after_another
    told-fold [] t = refl
    told-fold (o ∷ os) t = told-fold os (told_op told o w t)

    told-plan-out : (p : Plan) → told_plan told p w ≡ fold (λ before (o : Op). told_op told o w before) (source_table p.source w) p.ops
    unfolding told_plan told_op
    told-plan-out p = ap (λ (f : Gives). f w) (fold_out-Plan Makes Gives (told_op_step told) plan_step p) ∙ told-fold p.ops (source_table p.source w)

    all-member : (q : Op → Bool) (ops : List Op) → list_all q ops ≡ true → (o : Op) → Member o ops → q o ≡ true
    all-member q [] l o m = absurd m
    all-member q (p ∷ ps) l o (inl e) = ap q (sym e) ∙ (and_parts (q p) (list_all q ps) l).0
    all-member q (p ∷ ps) l o (inr m) = all-member q ps (and_parts (q p) (list_all q ps) l).1 o m

    of-member : (ops : List Op) → ((o : Op) → Member o ops → OpSame o) → list_all (within_is_liftable marks tables) ops ≡ true → AllStand (derived_in_ops marks ops) → (o : Op) → Member o ops → has_no_calls o ≡ true → Same o
    unfolding derived_in_ops
    of-member ops each l h o m free = each o m (all-member (within_is_liftable marks tables) ops l o m) free (λ d n. h d (member-flat (derived_in_op marks) ops o d m n))

    no-append : {X : Type 0} (xs ys : List X) → xs ++ ys ≡ [] → (xs ≡ []) × (ys ≡ [])
    no-append [] ys e = (refl, e)
    no-append (y ∷ xs) ys e = absurd cc

    none-of : (lent : List (List ℕ)) (cs : List PatternCall) → cs ≡ [] → NoneOf lent cs
    none-of lent cs e c m l = subst (Member c) e m

    -- An operator of a prefix without calls.
    plain-one : (lent : List (List ℕ)) (o : Op) (f : Op-F Op Plan) → out-Op o ≡ f → op_liftable_step marks lent f ≡ true → calls_at_step f ≡ [] → Same o
    plain-one lent o (Op-F.Where e) s l n = subst Same (sym (sym (roll-out-Op o) ∙ (ap roll-Op s ∙ V.rolls-Where e))) (where-same lent e (and_parts (calls_are_lent lent e) (is_readable marks e) l).0 (none-of lent (calls e) n))
    plain-one lent o (Op-F.Extend items) s l n =
        let p = and_parts (list_all (item_is_liftable marks lent) items) (are_distinct (names_set items)) l in
        subst Same (sym (sym (roll-out-Op o) ∙ (ap roll-Op s ∙ V.rolls-Extend items))) (extend-same lent items (lent-items marks lent items (good-items marks lent items p.0)) (none-of lent (calls_in_items items) n))
    plain-one lent o (Op-F.Project items) s l n = absurd cc
    plain-one lent o (Op-F.Take k) s l n = absurd cc
    plain-one lent o Op-F.Count s l n = absurd cc
    plain-one lent o Op-F.Serialize s l n = absurd cc
    plain-one lent o (Op-F.Sort keys) s l n = absurd cc
    plain-one lent o (Op-F.Top k keys) s l n = absurd cc
    plain-one lent o (Op-F.Summarize g) s l n = absurd cc
    plain-one lent o (Op-F.MakeSeries p) s l n = absurd cc
    plain-one lent o (Op-F.MvExpand e) s l n = absurd cc
    plain-one lent o (Op-F.Parse p) s l n = absurd cc
    plain-one lent o (Op-F.Join j right) s l n = absurd cc
    plain-one lent o (Op-F.Union inner others) s l n = absurd cc
    plain-one lent o (Op-F.Scan p) s l n = absurd cc
    plain-one lent o (Op-F.Partition c ops) s l n = absurd cc

    plain-prefix : (lent : List (List ℕ)) (ops : List Op) → prefix_is_liftable marks lent ops ≡ true → flat_map calls_at ops ≡ [] → (o : Op) → Member o ops → Same o
    unfolding prefix_is_liftable op_is_liftable calls_at
    plain-prefix lent [] l n o m = absurd m
    plain-prefix lent (p ∷ ps) l n o (inl e) =
        let a = and_parts (op_is_liftable marks lent p) (prefix_is_liftable marks (left_of lent (sets p)) ps) l in
        let b = no-append (calls_at p) (flat_map calls_at ps) n in
        subst Same e (plain-one lent p (out-Op p) refl a.0 b.0)
    plain-prefix lent (p ∷ ps) l n o (inr m) =
        let a = and_parts (op_is_liftable marks lent p) (prefix_is_liftable marks (left_of lent (sets p)) ps) l in
        let b = no-append (calls_at p) (flat_map calls_at ps) n in
        plain-prefix (left_of lent (sets p)) ps a.1 b.1 o m

    -- A plan that reads its source as it is.
    abbrev plan_of : Source → List Op → Plan
    plan_of s ops = record { source = s; ops = ops }

    as-it-is : (s : Source) (ops : List Op) → lift_plan (plan_of s ops) ≡ plan_of s (map lift_op ops) → source_table s x ≡ source_table s w → ((o : Op) → Member o ops → Same o) → plan_means (lift_plan (plan_of s ops)) x ≡ told_plan told (plan_of s ops) w
    as-it-is s ops l e each =
        ap (λ (p : Plan). plan_means p x) l
        ∙ (plan_means-out (plan_of s (map lift_op ops)) x
        ∙ (folds-same ops each (source_table s x)
        ∙ (ap (λ (t : Grid). fold (λ before (o : Op). told_op told o w before) t ops) e
        ∙ sym (told-plan-out (plan_of s ops)))))

    parts : (s : Source) (ops : List Op) → plan_is_liftable marks tables (plan_of s ops) ≡ true → AllStand (derived_in marks (plan_of s ops)) → Parts told marks tables w x s ops
    parts s ops l h =
        let a = and_parts (source_is_own marks (table_read s)) (ops_are_liftable marks (columns_read tables (table_read s)) ops && list_all (within_is_liftable marks tables) ops) (sym (liftable-plan marks tables (plan_of s ops)) ∙ l) in
        let b = and_parts (ops_are_liftable marks (columns_read tables (table_read s)) ops) (list_all (within_is_liftable marks tables) ops) a.1 in
        let k : AllStand (derived_at marks (table_read s) (prefix_calls ops) ++ derived_in_ops marks ops) = subst AllStand (derived-plan marks (plan_of s ops)) h in
        record {
          own = a.0;
          here = b.0;
          within = b.1;
          first = λ d m. k d (member-left (derived_at marks (table_read s) (prefix_calls ops)) (derived_in_ops marks ops) d m);
          later = λ d m. k d (member-right (derived_at marks (table_read s) (prefix_calls ops)) (derived_in_ops marks ops) d m);
        }

    no-table : (s : Source) (ops : List Op) → table_read s ≡ None → source_table s x ≡ source_table s w → Parts told marks tables w x s ops → ((o : Op) → Member o ops → OpSame o) → plan_means (lift_plan (plan_of s ops)) x ≡ told_plan told (plan_of s ops) w
    unfolding lifted_from ops_are_liftable
    no-table s ops none e p each =
        let free : list_all has_no_calls ops ≡ true = ap (λ (n : Option (List ℕ)). ops_are_liftable marks (columns_read tables n) ops) (sym none) ∙ p.here in
        as-it-is s ops (lifts-plan marks tables (plan_of s ops) ∙ ap (λ (n : Option (List ℕ)). lifted_from marks tables s n (map lift_op ops)) none) e
        (λ o m. of-member ops each p.within p.later o m (all-member has_no_calls ops free o m))

    -- A plan over a table.

    in-behind : (ops : List Op) (o : Op) → Member o (behind ops) → Member o ops
    in-behind ops o m = subst (λ (os : List Op). Member o os) (prefix-and-behind ops) (member-right (prefix ops) (behind ops) o m)

    behind-each : (n : List ℕ) (ops : List Op) → Parts told marks tables w x (source.Table n) ops → ((o : Op) → Member o ops → OpSame o) → (o : Op) → Member o (behind ops) → Same o
    unfolding ops_are_liftable
    behind-each n ops p each o m =
        let b = and_parts (prefix_is_liftable marks (text_columns (columns_of_table tables n)) (prefix ops)) (list_all has_no_calls (behind ops)) p.here in
        of-member ops each p.within p.later o (in-behind ops o m) (all-member has_no_calls (behind ops) b.1 o m)

    prefix-ready : (n : List ℕ) (ops : List Op) → Parts told marks tables w x (source.Table n) ops → prefix_is_liftable marks (text_columns (columns_of_table tables n)) (prefix ops) ≡ true
    unfolding ops_are_liftable
    prefix-ready n ops p = (and_parts (prefix_is_liftable marks (text_columns (columns_of_table tables n)) (prefix ops)) (list_all has_no_calls (behind ops)) p.here).0

    lifts-table : (n : List ℕ) (ops : List Op) (cs : List PatternCall) → prefix_calls ops ≡ cs → lift_plan (plan_of (source.Table n) ops) ≡ lifted_over marks (columns_of_table tables n) (source.Table n) cs (map lift_op ops)
    unfolding lifted_from
    lifts-table n ops cs e =
        lifts-plan marks tables (plan_of (source.Table n) ops)
        ∙ ap (λ (z : List PatternCall). lifted_over marks (columns_of_table tables n) (source.Table n) z (map lift_op ops)) (calls-same ops ∙ e)

    turned : (b : Bool) → not b ≡ true → b ≡ false
    turned true h = sym h
    turned false h = refl

    same-table : (n : List ℕ) (ops : List Op) → Parts told marks tables w x (source.Table n) ops → source_table (source.Table n) x ≡ source_table (source.Table n) w
    unfolding source_table
    same-table n ops p = worlds.tables n (turned (begins_with marks n) p.own)

    without-calls : (n : List ℕ) (ops : List Op) → prefix_calls ops ≡ [] → Parts told marks tables w x (source.Table n) ops → ((o : Op) → Member o ops → OpSame o) → plan_means (lift_plan (plan_of (source.Table n) ops)) x ≡ told_plan told (plan_of (source.Table n) ops) w
    unfolding lifted_over prefix_calls calls_along
    without-calls n ops e p each =
        as-it-is (source.Table n) ops (lifts-table n ops [] e) (same-table n ops p)
        (λ o m. elim (member-either (prefix ops) (behind ops) o (subst (λ (os : List Op). Member o os) (sym (prefix-and-behind ops)) m)) [
          | inl l ↦ plain-prefix (text_columns (columns_of_table tables n)) (prefix ops) (prefix-ready n ops p) e o l
          | inr r ↦ behind-each n ops p each o r
        ])

    over-out : (columns : List Column) (ops : List Op) → over_derived marks columns (map lift_op ops) ≡ map (inside marks) (prefix ops) ++ V.Project (kept (names_behind (names_of_columns columns) (prefix ops))) ∷ map lift_op (behind ops)
    unfolding over_derived
    over-out columns ops =
        ap₂ (λ (a b : List Op). map (inside marks) a ++ V.Project (kept (names_behind (names_of_columns columns) a)) ∷ b) (prefix-same ops) (behind-same ops)

    abbrev op_fold : Grid → List Op → Grid
    op_fold t ops = fold (λ before (o : Op). op_means o x before) t ops

    abbrev told_all : Grid → List Op → Grid
    told_all t ops = fold (λ before (o : Op). told_op told o w before) t ops

    prefix-kept : (n : List ℕ) (ops : List Op) (c : PatternCall) (cs : List PatternCall) → prefix_calls ops ≡ c ∷ cs → Parts told marks tables w x (source.Table n) ops → (d : Derived) → d.table ≡ n → d.calls ≡ c ∷ cs → Standing told marks tables w x d → project_table (kept (names_behind (names_of_columns (columns_of_table tables n)) (prefix ops))) (op_fold (named_table x.tables d.name) (map (inside marks) (prefix ops))) ≡ told_all (named_table w.tables n) (prefix ops)
    unfolding prefix_calls calls_along names_of
    prefix-kept n ops c cs e p d f g s =
        let t = named_table w.tables n in
        let u = derived_table told marks (c ∷ cs) t in
        let own : IsOwn marks t = subst (λ (m : List ℕ). IsOwn marks (named_table w.tables m)) f s.own in
        let same : columns_of_table tables n ≡ t.columns = subst (λ (m : List ℕ). columns_of_table tables m ≡ (named_table w.tables m).columns) f s.columns in
        let apart : are_distinct (map (name_of_call marks) (c ∷ cs)) ≡ true = ap (λ (zs : List PatternCall). are_distinct (map (name_of_call marks) zs)) (sym g) ∙ s.apart in
        let table : named_table x.tables d.name ≡ u = s.table ∙ ap₂ (λ (zs : List PatternCall) (m : List ℕ). derived_table told marks zs (named_table w.tables m)) g f in
        let lent : prefix_is_liftable marks (text_columns t.columns) (prefix ops) ≡ true = ap (λ (ds : List Column). prefix_is_liftable marks (text_columns ds) (prefix ops)) (sym same) ∙ prefix-ready n ops p in
        ap₂ (λ (ds : List Column) (v : Grid). project_table (kept (names_behind (names_of_columns ds) (prefix ops))) (op_fold v (map (inside marks) (prefix ops)))) same table
        ∙ prefix-lifts told marks w x (call-marked marks) (text_columns t.columns) (prefix ops) t u lent own (derived-beside told marks t own (c ∷ cs))
        (λ k m l. derived-answers told marks t own (c ∷ cs) apart k (subst (Member k) e m) l)

    with-calls : (n : List ℕ) (ops : List Op) (c : PatternCall) (cs : List PatternCall) → prefix_calls ops ≡ c ∷ cs → Parts told marks tables w x (source.Table n) ops → ((o : Op) → Member o ops → OpSame o) → (d : Derived) → d.name ≡ name_of_call marks c → d.table ≡ n → d.calls ≡ c ∷ cs → Standing told marks tables w x d → plan_means (lift_plan (plan_of (source.Table n) ops)) x ≡ told_plan told (plan_of (source.Table n) ops) w
    unfolding lifted_over source_table
    with-calls n ops c cs e p each d a f g s =
        let columns = columns_of_table tables n in
        let inner = map (inside marks) (prefix ops) in
        let last = V.Project (kept (names_behind (names_of_columns columns) (prefix ops))) in
        let rest = map lift_op (behind ops) in
        let start = named_table x.tables (name_of_call marks c) in
        ap (λ (z : Plan). plan_means z x) (lifts-table n ops (c ∷ cs) e)
        ∙ (plan_means-out (plan_of (source.Table (name_of_call marks c)) (over_derived marks columns (map lift_op ops))) x
        ∙ (ap (λ (os : List Op). op_fold start os) (over-out columns ops)
        ∙ (fold-append (λ before (o : Op). op_means o x before) start inner (last ∷ rest)
        ∙ (ap (λ (v : Grid). op_fold v rest) (means-Project (kept (names_behind (names_of_columns columns) (prefix ops))) x (op_fold start inner)
        ∙ (ap (λ (m : List ℕ). project_table (kept (names_behind (names_of_columns columns) (prefix ops))) (op_fold (named_table x.tables m) inner)) (sym a)
        ∙ prefix-kept n ops c cs e p d f g s))
        ∙ (folds-same (behind ops) (behind-each n ops p each) (told_all (named_table w.tables n) (prefix ops))
        ∙ (sym (fold-append (λ before (o : Op). told_op told o w before) (named_table w.tables n) (prefix ops) (behind ops))
        ∙ (ap (λ (os : List Op). told_all (named_table w.tables n) os) (prefix-and-behind ops)
        ∙ sym (told-plan-out (plan_of (source.Table n) ops)))))))))

    of-calls : (n : List ℕ) (ops : List Op) (cs : List PatternCall) → prefix_calls ops ≡ cs → Parts told marks tables w x (source.Table n) ops → ((o : Op) → Member o ops → OpSame o) → plan_means (lift_plan (plan_of (source.Table n) ops)) x ≡ told_plan told (plan_of (source.Table n) ops) w
    unfolding derived_at derived_over
    of-calls n ops [] e p each = without-calls n ops e p each
    of-calls n ops (c ∷ cs) e p each =
        let d : Derived = record { name = name_of_call marks c; table = n; calls = c ∷ cs } in
        let s : Standing told marks tables w x d = p.first d (subst (λ (zs : List PatternCall). Member d (derived_over marks n zs)) (sym e) (inl refl)) in
        with-calls n ops c cs e p each d refl refl refl s

    of-source : (s : Source) (ops : List Op) → ((o : Op) → Member o ops → OpSame o) → PlanSame (plan_of s ops)
    unfolding source_table
    of-source (source.Table n) ops each l h = of-calls n ops (prefix_calls ops) refl (parts (source.Table n) ops l h) each
    of-source (source.Let i) ops each l h = no-table (source.Let i) ops refl (ap (λ (ts : List Grid). let_table ts i) worlds.lets) (parts (source.Let i) ops l h) each
    of-source (source.Range column from to step) ops each l h = no-table (source.Range column from to step) ops refl refl (parts (source.Range column from to step) ops l h) each
    of-source (source.Print items) ops each l h = no-table (source.Print items) ops refl refl (parts (source.Print items) ops l h) each

    -- By induction over operators and plans.

    abbrev GivenOp : Type 0
    GivenOp = (o : Op) × OpSame o

    abbrev GivenPlan : Type 0
    GivenPlan = (p : Plan) × PlanSame p

    abbrev bare_op : GivenOp → Op
    bare_op g = g.0

    abbrev bare_plan : GivenPlan → Plan
    bare_plan g = g.0

    each-op : (gs : List GivenOp) (o : Op) → Member o (map bare_op gs) → OpSame o
    each-op gs o m = let q = member-of-map bare_op gs o m in subst OpSame q.2 q.0.1

    each-plan : (gs : List GivenPlan) (p : Plan) → Member p (map bare_plan gs) → PlanSame p
    each-plan gs p m = let q = member-of-map bare_plan gs p m in subst PlanSame q.2 q.0.1

    -- An operator that is the same, whatever is told.
    still : (o : Op) (f : Grid → Grid) → lift_op o ≡ o → ((t : Grid) → op_means o x t ≡ f t) → ((t : Grid) → told_op told o w t ≡ f t) → OpSame o
    still o f l a b c d e = fixed o f l a b

    of-op : (y : Op-F GivenOp GivenPlan) → OpSame (roll-Op (map-Op GivenOp GivenPlan Op Plan bare_op bare_plan y))
    of-op (Op-F.Where e) = subst OpSame (sym (V.rolls-Where e)) (where-op e)
    of-op (Op-F.Extend items) = subst OpSame (sym (V.rolls-Extend items)) (extend-op items)
    of-op (Op-F.Project items) = subst OpSame (sym (V.rolls-Project items)) (still (V.Project items) (project_table items) (lifts-Project marks tables items) (means-out (V.Project items) (Op-F.Project items) (search (rules, the_lemmas)) x) (told-out told (V.Project items) (Op-F.Project items) (search (rules, the_lemmas)) w))
    of-op (Op-F.Take n) = subst OpSame (sym (V.rolls-Take n)) (still (V.Take n) (take_table n) (lifts-Take marks tables n) (means-out (V.Take n) (Op-F.Take n) (search (rules, the_lemmas)) x) (told-out told (V.Take n) (Op-F.Take n) (search (rules, the_lemmas)) w))
    of-op Op-F.Count = subst OpSame (sym V.rolls-Count) (still V.Count count_table (lifts-Count marks tables) (means-out V.Count Op-F.Count (search (rules, the_lemmas)) x) (told-out told V.Count Op-F.Count (search (rules, the_lemmas)) w))
    of-op Op-F.Serialize = subst OpSame (sym V.rolls-Serialize) (still V.Serialize (λ t. t) (lifts-Serialize marks tables) (means-out V.Serialize Op-F.Serialize (search (rules, the_lemmas)) x) (told-out told V.Serialize Op-F.Serialize (search (rules, the_lemmas)) w))
    of-op (Op-F.Sort keys) = subst OpSame (sym (V.rolls-Sort keys)) (still (V.Sort keys) (sort_table keys) (lifts-Sort marks tables keys) (means-out (V.Sort keys) (Op-F.Sort keys) (search (rules, the_lemmas)) x) (told-out told (V.Sort keys) (Op-F.Sort keys) (search (rules, the_lemmas)) w))
    of-op (Op-F.Top n keys) = subst OpSame (sym (V.rolls-Top n keys)) (still (V.Top n keys) (top_table n keys) (lifts-Top marks tables n keys) (means-out (V.Top n keys) (Op-F.Top n keys) (search (rules, the_lemmas)) x) (told-out told (V.Top n keys) (Op-F.Top n keys) (search (rules, the_lemmas)) w))
    of-op (Op-F.Summarize g) = subst OpSame (sym (V.rolls-Summarize g)) (still (V.Summarize g) (summarize_table g) (lifts-Summarize marks tables g) (means-out (V.Summarize g) (Op-F.Summarize g) (search (rules, the_lemmas)) x) (told-out told (V.Summarize g) (Op-F.Summarize g) (search (rules, the_lemmas)) w))
    of-op (Op-F.MakeSeries p) = subst OpSame (sym (V.rolls-MakeSeries p)) (still (V.MakeSeries p) (series_table p) (lifts-MakeSeries marks tables p) (means-out (V.MakeSeries p) (Op-F.MakeSeries p) (search (rules, the_lemmas)) x) (told-out told (V.MakeSeries p) (Op-F.MakeSeries p) (search (rules, the_lemmas)) w))
    of-op (Op-F.MvExpand e) = subst OpSame (sym (V.rolls-MvExpand e)) (still (V.MvExpand e) (expand_table e) (lifts-MvExpand marks tables e) (means-out (V.MvExpand e) (Op-F.MvExpand e) (search (rules, the_lemmas)) x) (told-out told (V.MvExpand e) (Op-F.MvExpand e) (search (rules, the_lemmas)) w))
    of-op (Op-F.Parse p) = subst OpSame (sym (V.rolls-Parse p)) (still (V.Parse p) (parse_table p) (lifts-Parse marks tables p) (means-out (V.Parse p) (Op-F.Parse p) (search (rules, the_lemmas)) x) (told-out told (V.Parse p) (Op-F.Parse p) (search (rules, the_lemmas)) w))
    of-op (Op-F.Scan p) = subst OpSame (sym (V.rolls-Scan p)) (still (V.Scan p) (scan_table p) (lifts-Scan marks tables p) (means-out (V.Scan p) (Op-F.Scan p) (search (rules, the_lemmas)) x) (told-out told (V.Scan p) (Op-F.Scan p) (search (rules, the_lemmas)) w))
    of-op (Op-F.Join j right) = subst OpSame (sym (V.rolls-Join j right.0)) (join-op j right.0 right.1)
    of-op (Op-F.Union inner others) = subst OpSame (sym (V.rolls-Union inner (map bare_plan others))) (union-op inner (map bare_plan others) (each-plan others))
    of-op (Op-F.Partition c ops) = subst OpSame (sym (V.rolls-Partition c (map bare_op ops))) (partition-op c (map bare_op ops) (each-op ops))

    of-plan : (y : Plan-F GivenOp GivenPlan) → PlanSame (roll-Plan (map-Plan GivenOp GivenPlan Op Plan bare_op bare_plan y))
    of-plan y = of-source y.source (map bare_op y.ops) (each-op y.ops)

    pub every-plan : (p : Plan) → PlanSame p
    every-plan =
        ind-Plan OpSame PlanSame (λ y z is. subst (λ (f : Op-F Op Plan). OpSame (roll-Op f)) is (of-op z))
        (λ y z is. subst (λ (f : Plan-F Op Plan). PlanSame (roll-Plan f)) is (of-plan z))
