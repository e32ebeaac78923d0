-- A program without a call in its prefixes, of which none stands elsewhere, means the same whatever is told: by induction over operators and
-- plans.
use Rattle.std.proofs.Common.{◌≡◌, ℕ, Bool, true, false, List, [], ◌∷◌, ◌++◌, map, filter, refl, sym, ap, ap₂, ◌∙◌, subst, inl, inr, rules}
use Rattle.std.proofs.Math.Path.{fun_ext}
use Rattle.std.specs.Prelude.{◌&&◌, fold, Option, None, Some}
use Rattle.std.specs.List.{flat_map, list_all}
use Rattle.std.proofs.lemmas.Bool.{and_parts, cases_Bool}
use Rattle.kql_cells.specs.Catalogues.{Named}
use Rattle.kql_cells.specs.Table.{Grid, gathered}
use Rattle.kql_cells.specs.declared.schemas.NamedSchema.{NamedSchema}
use Rattle.kql_cells.specs.declared.value.Value.{Value}
use Rattle.kql_bound.specs.declared.expr.BExpr.{BExpr, out-BExpr}
use Rattle.kql_bound.specs.declared.parts.BItem.{BItem}
use Rattle.kql_bound.specs.declared.parts.JoinPlan.{JoinPlan}
use Rattle.kql_bound.specs.declared.plan.Op.{Op, out-Op, roll-Op, roll-out-Op, the_lemmas}
use Rattle.kql_bound.specs.declared.plan.Op.TheFolds.{map-Op, map-Plan}
use Rattle.kql_bound.specs.declared.plan.Op.TheOpen.{Op-F, Plan-F}
use Rattle.kql_bound.specs.declared.plan.Op.TheVariants as V
use Rattle.kql_bound.specs.declared.plan.Plan.{Plan, fold_out-Plan, ind-Plan, roll-Plan}
use Rattle.kql_bound.specs.declared.plan.Program.{Program}
use Rattle.kql_bound.specs.declared.plan.Source.{Source}
use Rattle.kql_meaning.specs.Expressions.{val}
use Rattle.kql_meaning.specs.Extend.{extend_columns, extend_table}
use Rattle.kql_meaning.specs.Items.{cells_in, items_names, items_values, without}
use Rattle.kql_meaning.specs.Join.{join_table}
use Rattle.kql_meaning.specs.MakeSeries.{series_table}
use Rattle.kql_meaning.specs.MvExpand.{expand_table}
use Rattle.kql_meaning.specs.Parse.{parse_table}
use Rattle.kql_meaning.specs.Partition.{partition_table}
use Rattle.kql_meaning.specs.Plans.{Gives, Makes, World, lets_mean, means, one_after_another, op_means, plan_means, plan_step, source_table}
use Rattle.kql_meaning.specs.Project.{project_table}
use Rattle.kql_meaning.specs.Readings.{Reading}
use Rattle.kql_meaning.specs.Results.{results, results_step}
use Rattle.kql_meaning.specs.Scan.{scan_table}
use Rattle.kql_meaning.specs.Sort.{sort_table, top_table}
use Rattle.kql_meaning.specs.Summarize.{summarize_table}
use Rattle.kql_meaning.specs.Tables.{places}
use Rattle.kql_meaning.specs.TakeAndCount.{count_table, take_table}
use Rattle.kql_meaning.specs.Union.{union_table}
use Rattle.kql_meaning.specs.Values.{holds}
use Rattle.kql_meaning.specs.Where.{where_table}
use Rattle.kql_meaning.proofs.MemberLaws.{Member, member-either, member-of-map}
use Rattle.kql_meaning.proofs.PlanLaws.{plan_means-out}
use Rattle.pattern_lift.specs.declared.calls.Derived.{Derived}
use Rattle.pattern_lift.specs.declared.calls.PatternCall.{PatternCall}
use Rattle.pattern_lift.specs.Calls.{calls, calls_are_lent, calls_in_items, is_among}
use Rattle.pattern_lift.specs.Derived.{columns_of_table, derived, derived_at, derived_in, derived_in_op, derived_in_ops, derived_in_plans, derived_over, uses}
use Rattle.pattern_lift.specs.Prefixes.{behind, calls_along, calls_at, calls_at_step, joins, joins_step, left_of, prefix, prefix_calls, sets, table_read}
use Rattle.pattern_lift.proofs.PlanSteps.{derived-Join, derived-Partition, derived-Union, derived-plan}
use Rattle.pattern_laws.specs.Liftable.{columns_read, has_no_calls, no_calls_step, text_columns}
use Rattle.pattern_laws.specs.Meaning.{Told, told_extend, told_lets, told_means, told_op, told_op_step, told_plan, told_results, told_val, told_values, told_where}
use Rattle.pattern_laws.proofs.BesideLaws.{map-members}
use Rattle.pattern_laws.proofs.DerivedLaws.{every-derived, every-derived-of}
use Rattle.pattern_laws.proofs.PlanLaws.{prefix-and-behind}
use Rattle.pattern_laws.proofs.PrefixLaws.{means-Extend, means-Where, means-out, told-out}
use Rattle.pattern_laws.proofs.ToldReadings.{told-alike}
use Rattle.pattern_run.specs.Patterned.{calls_of_program}
use Rattle.pattern_run.specs.Placed.{calls_are_placed, is_lent, lent_step, ops_are_placed, plan_is_placed, prefix_is_lent, within_is_placed}
use Rattle.pattern_run.proofs.PlacedSteps.{placed-Join, placed-Partition, placed-Union, placed-plan}
use Rattle.pattern_run.proofs.SameCalls.{called}

no-append : {X : Type 0} (xs ys : List X) → xs ++ ys ≡ [] → (xs ≡ []) × (ys ≡ [])
no-append [] ys e = (refl, e)
no-append (x ∷ xs) ys e = absurd cc

all-member : (q : Op → Bool) (ops : List Op) → list_all q ops ≡ true → (o : Op) → Member o ops → q o ≡ true
all-member q [] l o m = absurd m
all-member q (p ∷ ps) l o (inl e) = ap q (sym e) ∙ (and_parts (q p) (list_all q ps) l).0
all-member q (p ∷ ps) l o (inr m) = all-member q ps (and_parts (q p) (list_all q ps) l).1 o m

none-at : (ops : List Op) → derived_in_ops [] ops ≡ [] → (o : Op) → Member o ops → derived_in_op [] o ≡ []
unfolding derived_in_ops
none-at [] h o m = absurd m
none-at (p ∷ ps) h o (inl e) = ap (derived_in_op []) (sym e) ∙ (no-append (derived_in_op [] p) (flat_map (derived_in_op []) ps) h).0
none-at (p ∷ ps) h o (inr m) = none-at ps (no-append (derived_in_op [] p) (flat_map (derived_in_op []) ps) h).1 o m

no-calls : (s : Option (List ℕ)) (cs : List PatternCall) (name : List ℕ) → s ≡ Some name → derived_at [] s cs ≡ [] → cs ≡ []
unfolding derived_at derived_over
no-calls None cs name e h = absurd cc
no-calls (Some n) [] name e h = refl
no-calls (Some n) (c ∷ cs) name e h = absurd cc

-- Expressions without calls.

abbrev NoneOf : List (List ℕ) → List PatternCall → Type 0
NoneOf lent cs = (c : PatternCall) → Member c cs → is_among lent c.column ≡ true → ⊥

none-of : (lent : List (List ℕ)) (cs : List PatternCall) → cs ≡ [] → NoneOf lent cs
none-of lent cs e c m l = subst (Member c) e m

nothing-lent : (n : List ℕ) → is_among [] n ≡ true → ⊥
unfolding is_among
nothing-lent n e = cc

none-lent : (cs : List PatternCall) → NoneOf [] cs
none-lent cs c m l = nothing-lent c.column l

where-alike : (told : Told) (lent : List (List ℕ)) (e : BExpr) → calls_are_lent lent e ≡ true → NoneOf lent (calls e) → (t : Grid) → told_where told e t ≡ where_table e t
unfolding told_where where_table told_val val
where-alike told lent e l h t = ap (λ (r : Reading). gathered t (filter (λ i. holds (r.at t i [])) (places t))) (told-alike told lent e l h)

abbrev items_lent : List (List ℕ) → List BItem → Bool
items_lent lent items = list_all (λ (b : BItem). calls_are_lent lent b.expr) items

values-alike : (told : Told) (lent : List (List ℕ)) (items : List BItem) → items_lent lent items ≡ true → ((b : BItem) → Member b items → NoneOf lent (calls b.expr)) → (t : Grid) (i : ℕ) → told_values told items t i ≡ items_values items t i
unfolding told_values items_values told_results results told_val val
values-alike told lent [] l h t i = refl
values-alike told lent (b ∷ bs) l h t i =
    let p = and_parts (calls_are_lent lent b.expr) (items_lent lent bs) l in
    ap₂ (λ (xs ys : List Value). xs ++ ys)
    (ap (λ (r : Reading). results_step (out-BExpr b.expr) (r.at t i []) t []) (told-alike told lent b.expr p.0 (h b (inl refl))))
    (values-alike told lent bs p.1 (λ c m. h c (inr m)) t i)

extend-alike : (told : Told) (lent : List (List ℕ)) (items : List BItem) → items_lent lent items ≡ true → ((b : BItem) → Member b items → NoneOf lent (calls b.expr)) → (t : Grid) → told_extend told items t ≡ extend_table items t
unfolding told_extend extend_table
extend-alike told lent items l h t =
    ap (λ (ls : List (List Value)). record { columns = extend_columns items t.columns; lines = ls })
    (map-members (λ i. cells_in (without (items_names items) t.columns) t i ++ told_values told items t i) (λ i. cells_in (without (items_names items) t.columns) t i ++ items_values items t i) (places t)
    (λ i m. ap (λ (vs : List Value). cells_in (without (items_names items) t.columns) t i ++ vs) (values-alike told lent items l h t i)))

no-items : (items : List BItem) → calls_in_items items ≡ [] → (b : BItem) → Member b items → calls b.expr ≡ []
unfolding calls_in_items
no-items [] h b m = absurd m
no-items (c ∷ cs) h b (inl e) = ap (λ (x : BItem). calls x.expr) (sym e) ∙ (no-append (calls c.expr) (flat_map (λ (x : BItem). calls x.expr) cs) h).0
no-items (c ∷ cs) h b (inr m) = no-items cs (no-append (calls c.expr) (flat_map (λ (x : BItem). calls x.expr) cs) h).1 b m

prefix-joins : (ops : List Op) (o : Op) → Member o (prefix ops) → joins o ≡ true
unfolding prefix
prefix-joins [] o m = absurd m
prefix-joins (p ∷ ps) o m = elim (cases_Bool (joins p)) [
  | inl t ↦ let k : Member o (p ∷ prefix ps) = rw t at m in elim k [
    | inl e ↦ ap joins (sym e) ∙ t
    | inr n ↦ prefix-joins ps o n
  ]
  | inr f ↦ let k : Member o [] = rw f at m in absurd k
]

module _ (told : Told) (tables : List NamedSchema) (w : World) where
  abbrev Same : Op → Type 0
  Same o = (t : Grid) → op_means o w t ≡ told_op told o w t

  abbrev OpSame : Op → Type 0
  OpSame o = within_is_placed tables o ≡ true → has_no_calls o ≡ true → derived_in_op [] o ≡ [] → Same o

  abbrev PlanSame : Plan → Type 0
  PlanSame p = plan_is_placed tables p ≡ true → derived_in [] p ≡ [] → plan_means p w ≡ told_plan told p w

  -- Operators one after another, and plans beside one another.

  folds-same : (ops : List Op) → ((o : Op) → Member o ops → Same o) → (t : Grid) → fold (λ before (o : Op). op_means o w before) t ops ≡ fold (λ before (o : Op). told_op told o w before) t ops
  folds-same [] each t = refl
  folds-same (o ∷ os) each t =
      ap (λ (u : Grid). fold (λ before (z : Op). op_means z w before) u os) (each o (inl refl) t) ∙ folds-same os (λ z m. each z (inr m)) (told_op told o w t)

  ops-same : (ops : List Op) → ((o : Op) → Member o ops → Same o) → (t : Grid) → one_after_another (map op_means ops) w t ≡ one_after_another (map (told_op told) ops) w t
  unfolding one_after_another
  ops-same [] each t = refl
  ops-same (o ∷ os) each t =
      ap (λ (u : Grid). fold (λ before (z : Makes). z w before) u (map op_means os)) (each o (inl refl) t) ∙ ops-same os (λ z m. each z (inr m)) (told_op told o w t)

  plans-same : (ps : List Plan) → ((p : Plan) → Member p ps → PlanSame p) → list_all (plan_is_placed tables) ps ≡ true → derived_in_plans [] ps ≡ [] → map (λ (z : Gives). z w) (map plan_means ps) ≡ map (λ (z : Gives). z w) (map (told_plan told) ps)
  unfolding derived_in_plans
  plans-same [] each l h = refl
  plans-same (p ∷ ps) each l h =
      let a = and_parts (plan_is_placed tables p) (list_all (plan_is_placed tables) ps) l in
      let b = no-append (derived_in [] p) (flat_map (derived_in []) ps) h in
      ap₂ (λ (g : Grid) (gs : List Grid). g ∷ gs) (each p (inl refl) a.0 b.0) (plans-same ps (λ z m. each z (inr m)) a.1 b.1)

  each-apart : (ops : List Op) → ((o : Op) → Member o ops → OpSame o) → list_all (λ (o : Op). has_no_calls o && within_is_placed tables o) ops ≡ true → derived_in_ops [] ops ≡ [] → (o : Op) → Member o ops → Same o
  each-apart ops each l h o m =
      let a = and_parts (has_no_calls o) (within_is_placed tables o) (all-member (λ (z : Op). has_no_calls z && within_is_placed tables z) ops l o m) in
      each o m a.1 a.0 (none-at ops h o m)

  -- Operators.

  fixed : (o : Op) (f : Grid → Grid) → ((t : Grid) → op_means o w t ≡ f t) → ((t : Grid) → told_op told o w t ≡ f t) → Same o
  fixed o f a b t = a t ∙ sym (b t)

  still : (o : Op) (f : Grid → Grid) → ((t : Grid) → op_means o w t ≡ f t) → ((t : Grid) → told_op told o w t ≡ f t) → OpSame o
  still o f a b c d e = fixed o f a b

  where-same : (lent : List (List ℕ)) (e : BExpr) → calls_are_lent lent e ≡ true → NoneOf lent (calls e) → Same (V.Where e)
  where-same lent e l h = fixed (V.Where e) (where_table e) (means-Where e w) (λ t. told-out told (V.Where e) (Op-F.Where e) (search (rules, the_lemmas)) w t ∙ where-alike told lent e l h t)

  extend-same : (lent : List (List ℕ)) (items : List BItem) → items_lent lent items ≡ true → ((b : BItem) → Member b items → NoneOf lent (calls b.expr)) → Same (V.Extend items)
  extend-same lent items l h = fixed (V.Extend items) (extend_table items) (means-Extend items w) (λ t. told-out told (V.Extend items) (Op-F.Extend items) (search (rules, the_lemmas)) w t ∙ extend-alike told lent items l h t)

  where-op : (e : BExpr) → OpSame (V.Where e)
  unfolding has_no_calls
  where-op e a b h =
      let o : out-Op (V.Where e) ≡ Op-F.Where e = search (rules, the_lemmas) in
      where-same [] e (sym (ap no_calls_step o) ∙ b) (none-lent (calls e))

  extend-op : (items : List BItem) → OpSame (V.Extend items)
  unfolding has_no_calls
  extend-op items a b h =
      let o : out-Op (V.Extend items) ≡ Op-F.Extend items = search (rules, the_lemmas) in
      extend-same [] items (sym (ap no_calls_step o) ∙ b) (λ c m. none-lent (calls c.expr))

  join-op : (j : JoinPlan) (right : Plan) → PlanSame right → OpSame (V.Join j right)
  join-op j right same a b h t =
      means-out (V.Join j right) (Op-F.Join j right) (search (rules, the_lemmas)) w t
      ∙ (ap (λ (g : Grid). join_table j t g) (same (sym (placed-Join tables j right) ∙ a) (sym (derived-Join [] j right) ∙ h))
      ∙ sym (told-out told (V.Join j right) (Op-F.Join j right) (search (rules, the_lemmas)) w t))

  union-op : (inner : Bool) (others : List Plan) → ((p : Plan) → Member p others → PlanSame p) → OpSame (V.Union inner others)
  union-op inner others each a b h t =
      means-out (V.Union inner others) (Op-F.Union inner others) (search (rules, the_lemmas)) w t
      ∙ (ap (λ (gs : List Grid). union_table inner t gs) (plans-same others each (sym (placed-Union tables inner others) ∙ a) (sym (derived-Union [] inner others) ∙ h))
      ∙ sym (told-out told (V.Union inner others) (Op-F.Union inner others) (search (rules, the_lemmas)) w t))

  partition-op : (c : List ℕ) (ops : List Op) → ((o : Op) → Member o ops → OpSame o) → OpSame (V.Partition c ops)
  partition-op c ops each a b h t =
      let kept = each-apart ops each (sym (placed-Partition tables c ops) ∙ a) (sym (derived-Partition [] c ops) ∙ h) in
      means-out (V.Partition c ops) (Op-F.Partition c ops) (search (rules, the_lemmas)) w t
      ∙ (ap (λ (f : Grid → Grid). partition_table c f t) (fun_ext (λ g. ops-same ops kept g))
      ∙ sym (told-out told (V.Partition c ops) (Op-F.Partition c ops) (search (rules, the_lemmas)) w t))

  -- Plans.

  abbrev plan_of : Source → List Op → Plan
  plan_of s ops = record { source = s; ops = ops }

  told-fold : (ops : List Op) (t : Grid) → one_after_another (map (told_op told) ops) w t ≡ fold (λ before (o : Op). told_op told o w before) t ops
  unfolding one_after_another
  told-fold [] t = refl
  told-fold (o ∷ os) t = told-fold os (told_op told o w t)

  told-plan-out : (p : Plan) → told_plan told p w ≡ fold (λ before (o : Op). told_op told o w before) (source_table p.source w) p.ops
  unfolding told_plan told_op
  told-plan-out p = ap (λ (f : Gives). f w) (fold_out-Plan Makes Gives (told_op_step told) plan_step p) ∙ told-fold p.ops (source_table p.source w)

  by-each : (s : Source) (ops : List Op) → ((o : Op) → Member o ops → Same o) → plan_means (plan_of s ops) w ≡ told_plan told (plan_of s ops) w
  by-each s ops each = plan_means-out (plan_of s ops) w ∙ (folds-same ops each (source_table s w) ∙ sym (told-plan-out (plan_of s ops)))

  -- An operator of a prefix without calls.
  lent-one : (lent : List (List ℕ)) (o : Op) (f : Op-F Op Plan) → out-Op o ≡ f → lent_step lent f ≡ true → calls_at_step f ≡ [] → joins_step f ≡ true → Same o
  lent-one lent o (Op-F.Where e) s l n j = subst Same (sym (sym (roll-out-Op o) ∙ (ap roll-Op s ∙ V.rolls-Where e))) (where-same lent e l (none-of lent (calls e) n))
  lent-one lent o (Op-F.Extend items) s l n j =
      subst Same (sym (sym (roll-out-Op o) ∙ (ap roll-Op s ∙ V.rolls-Extend items))) (extend-same lent items l (λ b m. none-of lent (calls b.expr) (no-items items n b m)))
  lent-one lent o (Op-F.Project items) s l n j = absurd cc
  lent-one lent o (Op-F.Take k) s l n j = absurd cc
  lent-one lent o Op-F.Count s l n j = absurd cc
  lent-one lent o Op-F.Serialize s l n j = absurd cc
  lent-one lent o (Op-F.Sort keys) s l n j = absurd cc
  lent-one lent o (Op-F.Top k keys) s l n j = absurd cc
  lent-one lent o (Op-F.Summarize g) s l n j = absurd cc
  lent-one lent o (Op-F.MakeSeries p) s l n j = absurd cc
  lent-one lent o (Op-F.MvExpand e) s l n j = absurd cc
  lent-one lent o (Op-F.Parse p) s l n j = absurd cc
  lent-one lent o (Op-F.Join x right) s l n j = absurd cc
  lent-one lent o (Op-F.Union inner others) s l n j = absurd cc
  lent-one lent o (Op-F.Scan p) s l n j = absurd cc
  lent-one lent o (Op-F.Partition c ops) s l n j = absurd cc

  lent-prefix : (lent : List (List ℕ)) (ops : List Op) → prefix_is_lent lent ops ≡ true → flat_map calls_at ops ≡ [] → ((o : Op) → Member o ops → joins o ≡ true) → (o : Op) → Member o ops → Same o
  unfolding prefix_is_lent is_lent calls_at joins
  lent-prefix lent [] l n j o m = absurd m
  lent-prefix lent (p ∷ ps) l n j o (inl e) =
      let a = and_parts (is_lent lent p) (prefix_is_lent (left_of lent (sets p)) ps) l in
      subst Same e (lent-one lent p (out-Op p) refl a.0 (no-append (calls_at p) (flat_map calls_at ps) n).0 (j p (inl refl)))
  lent-prefix lent (p ∷ ps) l n j o (inr m) =
      let a = and_parts (is_lent lent p) (prefix_is_lent (left_of lent (sets p)) ps) l in
      lent-prefix (left_of lent (sets p)) ps a.1 (no-append (calls_at p) (flat_map calls_at ps) n).1 (λ z k. j z (inr k)) o m

  of-member : (ops : List Op) → ((o : Op) → Member o ops → OpSame o) → list_all (within_is_placed tables) ops ≡ true → derived_in_ops [] ops ≡ [] → (o : Op) → Member o ops → has_no_calls o ≡ true → Same o
  of-member ops each l h o m free = each o m (all-member (within_is_placed tables) ops l o m) free (none-at ops h o m)

  each-of : (ops : List Op) → ((o : Op) → Member o ops → OpSame o) → list_all (within_is_placed tables) ops ≡ true → derived_in_ops [] ops ≡ [] → (s : Option (List ℕ)) → derived_at [] s (prefix_calls ops) ≡ [] → ops_are_placed (columns_read tables s) ops ≡ true → (o : Op) → Member o ops → Same o
  unfolding ops_are_placed prefix_calls calls_along
  each-of ops each l h None n p o m = of-member ops each l h o m (all-member has_no_calls ops p o m)
  each-of ops each l h (Some name) n p o m =
      let lent = text_columns (columns_of_table tables name) in
      let a = and_parts (prefix_is_lent lent (prefix ops)) (list_all has_no_calls (behind ops)) p in
      elim (member-either (prefix ops) (behind ops) o (subst (λ (os : List Op). Member o os) (sym (prefix-and-behind ops)) m)) [
        | inl k ↦ lent-prefix lent (prefix ops) a.0 (no-calls (Some name) (prefix_calls ops) name refl n) (prefix-joins ops) o k
        | inr k ↦ of-member ops each l h o m (all-member has_no_calls (behind ops) a.1 o k)
      ]

  of-parts : (s : Source) (ops : List Op) → ((o : Op) → Member o ops → OpSame o) → PlanSame (plan_of s ops)
  of-parts s ops each l h =
      let a = and_parts (ops_are_placed (columns_read tables (table_read s)) ops) (list_all (within_is_placed tables) ops) (sym (placed-plan tables (plan_of s ops)) ∙ l) in
      let b = no-append (derived_at [] (table_read s) (prefix_calls ops)) (derived_in_ops [] ops) (sym (derived-plan [] (plan_of s ops)) ∙ h) in
      by-each s ops (each-of ops each a.1 b.1 (table_read s) b.0 a.0)

  -- By induction over operators and plans.

  abbrev GivenOp : Type 0
  GivenOp = (o : Op) × OpSame o

  abbrev GivenPlan : Type 0
  GivenPlan = (p : Plan) × PlanSame p

  abbrev bare_op : GivenOp → Op
  bare_op g = g.0

  abbrev bare_plan : GivenPlan → Plan
  bare_plan g = g.0

  each-op : (gs : List GivenOp) (o : Op) → Member o (map bare_op gs) → OpSame o
  each-op gs o m = let q = member-of-map bare_op gs o m in subst OpSame q.2 q.0.1

  each-plan : (gs : List GivenPlan) (p : Plan) → Member p (map bare_plan gs) → PlanSame p
  each-plan gs p m = let q = member-of-map bare_plan gs p m in subst PlanSame q.2 q.0.1

  of-op : (y : Op-F GivenOp GivenPlan) → OpSame (roll-Op (map-Op GivenOp GivenPlan Op Plan bare_op bare_plan y))
  of-op (Op-F.Where e) = subst OpSame (sym (V.rolls-Where e)) (where-op e)
  of-op (Op-F.Extend items) = subst OpSame (sym (V.rolls-Extend items)) (extend-op items)
  of-op (Op-F.Project items) = subst OpSame (sym (V.rolls-Project items)) (still (V.Project items) (project_table items) (means-out (V.Project items) (Op-F.Project items) (search (rules, the_lemmas)) w) (told-out told (V.Project items) (Op-F.Project items) (search (rules, the_lemmas)) w))
  of-op (Op-F.Take n) = subst OpSame (sym (V.rolls-Take n)) (still (V.Take n) (take_table n) (means-out (V.Take n) (Op-F.Take n) (search (rules, the_lemmas)) w) (told-out told (V.Take n) (Op-F.Take n) (search (rules, the_lemmas)) w))
  of-op Op-F.Count = subst OpSame (sym V.rolls-Count) (still V.Count count_table (means-out V.Count Op-F.Count (search (rules, the_lemmas)) w) (told-out told V.Count Op-F.Count (search (rules, the_lemmas)) w))
  of-op Op-F.Serialize = subst OpSame (sym V.rolls-Serialize) (still V.Serialize (λ t. t) (means-out V.Serialize Op-F.Serialize (search (rules, the_lemmas)) w) (told-out told V.Serialize Op-F.Serialize (search (rules, the_lemmas)) w))
  of-op (Op-F.Sort keys) = subst OpSame (sym (V.rolls-Sort keys)) (still (V.Sort keys) (sort_table keys) (means-out (V.Sort keys) (Op-F.Sort keys) (search (rules, the_lemmas)) w) (told-out told (V.Sort keys) (Op-F.Sort keys) (search (rules, the_lemmas)) w))
  of-op (Op-F.Top n keys) = subst OpSame (sym (V.rolls-Top n keys)) (still (V.Top n keys) (top_table n keys) (means-out (V.Top n keys) (Op-F.Top n keys) (search (rules, the_lemmas)) w) (told-out told (V.Top n keys) (Op-F.Top n keys) (search (rules, the_lemmas)) w))
  of-op (Op-F.Summarize g) = subst OpSame (sym (V.rolls-Summarize g)) (still (V.Summarize g) (summarize_table g) (means-out (V.Summarize g) (Op-F.Summarize g) (search (rules, the_lemmas)) w) (told-out told (V.Summarize g) (Op-F.Summarize g) (search (rules, the_lemmas)) w))
  of-op (Op-F.MakeSeries p) = subst OpSame (sym (V.rolls-MakeSeries p)) (still (V.MakeSeries p) (series_table p) (means-out (V.MakeSeries p) (Op-F.MakeSeries p) (search (rules, the_lemmas)) w) (told-out told (V.MakeSeries p) (Op-F.MakeSeries p) (search (rules, the_lemmas)) w))
  of-op (Op-F.MvExpand e) = subst OpSame (sym (V.rolls-MvExpand e)) (still (V.MvExpand e) (expand_table e) (means-out (V.MvExpand e) (Op-F.MvExpand e) (search (rules, the_lemmas)) w) (told-out told (V.MvExpand e) (Op-F.MvExpand e) (search (rules, the_lemmas)) w))
  of-op (Op-F.Parse p) = subst OpSame (sym (V.rolls-Parse p)) (still (V.Parse p) (parse_table p) (means-out (V.Parse p) (Op-F.Parse p) (search (rules, the_lemmas)) w) (told-out told (V.Parse p) (Op-F.Parse p) (search (rules, the_lemmas)) w))
  of-op (Op-F.Scan p) = subst OpSame (sym (V.rolls-Scan p)) (still (V.Scan p) (scan_table p) (means-out (V.Scan p) (Op-F.Scan p) (search (rules, the_lemmas)) w) (told-out told (V.Scan p) (Op-F.Scan p) (search (rules, the_lemmas)) w))
  of-op (Op-F.Join j right) = subst OpSame (sym (V.rolls-Join j right.0)) (join-op j right.0 right.1)
  of-op (Op-F.Union inner others) = subst OpSame (sym (V.rolls-Union inner (map bare_plan others))) (union-op inner (map bare_plan others) (each-plan others))
  of-op (Op-F.Partition c ops) = subst OpSame (sym (V.rolls-Partition c (map bare_op ops))) (partition-op c (map bare_op ops) (each-op ops))

  of-plan : (y : Plan-F GivenOp GivenPlan) → PlanSame (roll-Plan (map-Plan GivenOp GivenPlan Op Plan bare_op bare_plan y))
  of-plan y = of-parts y.source (map bare_op y.ops) (each-op y.ops)

  every-plan : (p : Plan) → PlanSame p
  every-plan =
      ind-Plan OpSame PlanSame (λ y z is. subst (λ (f : Op-F Op Plan). OpSame (roll-Op f)) is (of-op z))
      (λ y z is. subst (λ (f : Plan-F Op Plan). PlanSame (roll-Plan f)) is (of-plan z))

-- Programs.

none-derived : (ds : List Derived) → ((d : Derived) → Member d ds → d.calls ≡ [] → ⊥) → called ds ≡ [] → ds ≡ []
none-derived [] h e = refl
none-derived (d ∷ ds) h e = absurd (h d (inl refl) (no-append d.calls (called ds) e).0)

abbrev Calling : Derived → Type 0
Calling d = d.calls ≡ [] → ⊥

a-call : (c : PatternCall) (cs : List PatternCall) → c ∷ cs ≡ [] → ⊥
a-call c cs e = cc

each-calls : (p : Program) (d : Derived) → Member d (derived_in_plans [] p.lets ++ derived_in [] p.main) → Calling d
each-calls p d m = elim (member-either (derived_in_plans [] p.lets) (derived_in [] p.main) d m) [
  | inl l ↦ every-derived-of [] Calling (λ table c cs. a-call c cs) p.lets d l
  | inr r ↦ every-derived [] Calling (λ table c cs. a-call c cs) p.main d r
]

nothing-derived : (p : Program) → calls_of_program p ≡ [] → derived_in_plans [] p.lets ++ derived_in [] p.main ≡ []
unfolding calls_of_program uses derived
nothing-derived p e = none-derived (derived_in_plans [] p.lets ++ derived_in [] p.main) (each-calls p) e

module _ (told : Told) (tables : List NamedSchema) (catalogue : List Named) where
  abbrev world : List Grid → World
  world lets = record { tables = catalogue; lets = lets }

  lets-same : (ps : List Plan) (done : List Grid) → list_all (plan_is_placed tables) ps ≡ true → derived_in_plans [] ps ≡ [] → fold (λ before (q : Plan). before ++ plan_means q (world before) ∷ []) done ps ≡ fold (λ before (q : Plan). before ++ told_plan told q (world before) ∷ []) done ps
  unfolding derived_in_plans
  lets-same [] done l h = refl
  lets-same (q ∷ qs) done l h =
      let a = and_parts (plan_is_placed tables q) (list_all (plan_is_placed tables) qs) l in
      let b = no-append (derived_in [] q) (flat_map (derived_in []) qs) h in
      ap (λ (g : Grid). fold (λ before (z : Plan). before ++ plan_means z (world before) ∷ []) (done ++ g ∷ []) qs) (every-plan told tables (world done) q a.0 b.0)
      ∙ lets-same qs (done ++ told_plan told q (world done) ∷ []) a.1 b.1

pub placed-means : (told : Told) (p : Program) (catalogue : List Named) → calls_are_placed p ≡ true → calls_of_program p ≡ [] → means p catalogue ≡ told_means told p catalogue
unfolding means told_means lets_mean told_lets calls_are_placed
placed-means told p catalogue placed none =
    let a = and_parts (list_all (plan_is_placed p.tables) p.lets) (plan_is_placed p.tables p.main) placed in
    let b = no-append (derived_in_plans [] p.lets) (derived_in [] p.main) (nothing-derived p none) in
    let lets = lets-same told p.tables catalogue p.lets [] a.0 b.0 in
    let done = fold (λ before (q : Plan). before ++ told_plan told q (world told p.tables catalogue before) ∷ []) [] p.lets in
    ap (λ (ts : List Grid). plan_means p.main (world told p.tables catalogue ts)) lets
    ∙ every-plan told p.tables (world told p.tables catalogue done) p.main a.1 b.1
