-- A lifted prefix, once the added columns are left out, gives what the prefix gives by what is told.
use Rattle.std.proofs.Common.{◌≡◌, ◌<◌, ◌+◌, ℕ, Bool, true, false, not, List, [], ◌∷◌, ◌++◌, length, map, refl, sym, ap, ap₂, ◌∙◌, subst, inl, inr, arith, rules}
use Rattle.std.specs.Prelude.{bytes_eq, cond, fold}
use Rattle.std.specs.List.{flat_map, list_all}
use Rattle.std.proofs.lemmas.Bool.{and_parts, cases_Bool}
use Rattle.std.proofs.lemmas.Slice.Eq.{bytes_eq-Decides}
use Rattle.kql_cells.specs.Table.{Grid, gathered}
use Rattle.kql_cells.specs.declared.schema.Column.{Column}
use Rattle.kql_cells.specs.declared.value.Value.{Value}
use Rattle.kql_bound.specs.declared.expr.BExpr.{BExpr}
use Rattle.kql_bound.specs.declared.parts.BItem.{BItem}
use Rattle.kql_bound.specs.declared.plan.Op.{Op, fold_out-Op, out-Op, the_lemmas}
use Rattle.kql_bound.specs.declared.plan.Op.TheFolds.{map-Op}
use Rattle.kql_bound.specs.declared.plan.Op.TheOpen.{Op-F}
use Rattle.kql_bound.specs.declared.plan.Op.TheVariants as V
use Rattle.kql_bound.specs.declared.plan.Plan.{Plan}
use Rattle.kql_meaning.specs.Extend.{extend_table}
use Rattle.kql_meaning.specs.FittingOperators.{are_distinct}
use Rattle.kql_meaning.specs.Items.{cells_in, items_columns, items_names, items_values, without}
use Rattle.kql_meaning.specs.Plans.{Gives, Makes, World, op_means, op_step, plan_means, plan_step}
use Rattle.kql_meaning.specs.Project.{project_table}
use Rattle.kql_meaning.specs.Tables.{cell, has_column, is_name_among, names_of}
use Rattle.kql_meaning.specs.Where.{where_table}
use Rattle.kql_meaning.proofs.MemberLaws.{Member, member-left, member-of-filter, member-right}
use Rattle.kql_meaning.proofs.PlanLaws.{op_means-out}
use Rattle.pattern_lift.specs.declared.calls.PatternCall.{PatternCall}
use Rattle.pattern_lift.specs.Calls.{calls, calls_are_lent, calls_in_items, is_among}
use Rattle.pattern_lift.specs.Derived.{name_of_call}
use Rattle.pattern_lift.specs.Lifted.{inside, inside_step, kept, lifted, lifted_items}
use Rattle.pattern_lift.specs.Marks.{begins_with}
use Rattle.pattern_lift.specs.Prefixes.{calls_at, calls_at_step, left_of, names_behind, names_set, sets, sets_step}
use Rattle.pattern_laws.specs.Liftable.{is_readable, item_is_liftable, op_is_liftable, op_liftable_step, prefix_is_liftable}
use Rattle.pattern_laws.specs.LawsOfExpressions.{HasAnswers, IsBeside}
use Rattle.pattern_laws.specs.Meaning.{Told, told_extend, told_op, told_op_step, told_plan, told_values, told_where}
use Rattle.pattern_laws.proofs.BesideLaws.{AreApart, IsOwn, distinct-apart, extend-lifted, extend-told, extended, extended-answers, extended-beside, extended-row, extended-rows, gathered-answers, gathered-beside, gathered-own, kept-is, length-append, length-map, told-within, told_rows, where-lifted, where-told}
use Rattle.pattern_laws.proofs.ItemLaws.{AllGood, good-items, names-of-items, values-lifted, values-long}
use Rattle.kql_meaning.proofs.NamedCells.{has-append, has-cons}

-- Names.

pub among-alike : (names : List (List ℕ)) (n : List ℕ) → is_among names n ≡ is_name_among names n
unfolding is_among is_name_among
among-alike names n = refl

pub among-cons : (m : List ℕ) (names : List (List ℕ)) (n : List ℕ) → is_among (m ∷ names) n ≡ cond (bytes_eq m n) true (is_among names n)
unfolding is_among
among-cons m names n = elim (cases_Bool (bytes_eq m n)) [
  | inl t ↦ rw t refl
  | inr f ↦ rw f refl
]

none-of : (n : List ℕ) → is_among [] n ≡ true → ⊥
unfolding is_among
none-of n e = cc

pub left-parts : (names set : List (List ℕ)) (n : List ℕ) → is_among (left_of names set) n ≡ true → (is_among names n ≡ true) × (is_among set n ≡ false)
unfolding left_of
left-parts [] set n h = absurd (none-of n h)
left-parts (m ∷ names) set n h = elim (cases_Bool (is_among set m)) [
  | inl t ↦
      let rest : is_among (left_of names set) n ≡ true = rw t at h in
      let q = left-parts names set n rest in
      (among-cons m names n ∙ either-true (bytes_eq m n) (is_among names n) q.0, q.1)
  | inr f ↦
      let all : is_among (m ∷ left_of names set) n ≡ true = rw f at h in
      let here = sym (among-cons m (left_of names set) n) ∙ all in
      elim (cases_Bool (bytes_eq m n)) [
        | inl s ↦ (among-cons m names n ∙ rw s refl, ap (is_among set) (sym ((bytes_eq-Decides m n).0 s)) ∙ f)
        | inr g ↦
            let rest : is_among (left_of names set) n ≡ true = rw g at here in
            let q = left-parts names set n rest in
            (among-cons m names n ∙ either-true (bytes_eq m n) (is_among names n) q.0, q.1)
      ]
]
  where
    either-true : (a b : Bool) → b ≡ true → cond a true b ≡ true
    either-true true b h = refl
    either-true false b h = h

nothing-left : (names : List (List ℕ)) → left_of names [] ++ [] ≡ names
unfolding left_of is_among
nothing-left [] = refl
nothing-left (n ∷ names) = ap (λ ns. n ∷ ns) (nothing-left names)

names-without : (set : List (List ℕ)) (cs : List Column) → names_of (without set cs) ≡ left_of (names_of cs) set
unfolding names_of without left_of
names-without set [] = refl
names-without set (c ∷ cs) = elim (cases_Bool (is_name_among set c.name)) [
  | inl t ↦ rw (among-alike set c.name, t) (names-without set cs)
  | inr f ↦ rw (among-alike set c.name, f) (ap (λ ns. c.name ∷ ns) (names-without set cs))
]

names-append : (cs ds : List Column) → names_of (cs ++ ds) ≡ names_of cs ++ names_of ds
unfolding names_of
names-append [] ds = refl
names-append (c ∷ cs) ds = ap (λ ns. c.name ∷ ns) (names-append cs ds)

pub set-alike-names : (items : List BItem) → names_set items ≡ items_names items
unfolding names_set items_names
set-alike-names items = refl

-- The columns that an `extend` leaves and adds are apart.

has-left : (set : List (List ℕ)) (cs : List Column) (n : List ℕ) → has_column n (without set cs) ≡ true → has_column n cs ≡ true
unfolding without
has-left set [] n h = h
has-left set (c ∷ cs) n h = elim (cases_Bool (is_name_among set c.name)) [
  | inl t ↦
      let rest : has_column n (without set cs) ≡ true = rw t at h in
      has-cons c cs n ∙ either-true (bytes_eq c.name n) (has_column n cs) (has-left set cs n rest)
  | inr f ↦
      let all : has_column n (c ∷ without set cs) ≡ true = rw f at h in
      elim (cases_Bool (bytes_eq c.name n)) [
        | inl s ↦ has-cons c cs n ∙ rw s refl
        | inr g ↦
            let rest : has_column n (without set cs) ≡ true = let q = sym (has-cons c (without set cs) n) ∙ all in rw g at q in
            has-cons c cs n ∙ rw g (has-left set cs n rest)
      ]
]
  where
    either-true : (a b : Bool) → b ≡ true → cond a true b ≡ true
    either-true true b h = refl
    either-true false b h = h

not-left : (set : List (List ℕ)) (cs : List Column) (n : List ℕ) → has_column n cs ≡ false → has_column n (without set cs) ≡ false
not-left set cs n h = elim (cases_Bool (has_column n (without set cs))) [
  | inl t ↦ let no : true ≡ false = sym (has-left set cs n t) ∙ h in absurd cc
  | inr f ↦ f
]

pub apart-without : (set : List (List ℕ)) (cs : List Column) → AreApart cs → AreApart (without set cs)
unfolding without
apart-without set [] a = tt
apart-without set (c ∷ cs) a = elim (cases_Bool (is_name_among set c.name)) [
  | inl t ↦ rw t (apart-without set cs a.1)
  | inr f ↦ rw f (not-left set cs c.name a.0, apart-without set cs a.1)
]

pub apart-append : (cs ds : List Column) → AreApart cs → AreApart ds → ((c : Column) → Member c cs → has_column c.name ds ≡ false) → AreApart (cs ++ ds)
apart-append [] ds a b h = b
apart-append (c ∷ cs) ds a b h = (has-append cs ds c.name ∙ rw (a.0, h c (inl refl)) refl, apart-append cs ds a.1 b (λ d m. h d (inr m)))

turned : (b : Bool) → not b ≡ true → b ≡ false
turned true h = sym h
turned false h = refl

none-among : (n : List ℕ) → is_name_among [] n ≡ true → ⊥
unfolding is_name_among
none-among n e = cc

-- The names that items set are none of the marks'.
set-own : (marks : List ℕ) (lent : List (List ℕ)) (items : List BItem) → AllGood marks lent items → (n : List ℕ) → is_name_among (items_names items) n ≡ true → begins_with marks n ≡ false
unfolding items_names
set-own marks lent [] g n h = absurd (none-among n h)
set-own marks lent (b ∷ bs) g n h =
    let all : is_among (b.names ++ items_names bs) n ≡ true = among-alike (b.names ++ items_names bs) n ∙ h in
    let named : is_among (g.0.name ∷ items_names bs) n ≡ true = ap (λ (ns : List (List ℕ)). is_among (ns ++ items_names bs) n) (sym g.0.names) ∙ all in
    let here = sym (among-cons g.0.name (items_names bs) n) ∙ named in
    elim (cases_Bool (bytes_eq g.0.name n)) [
      | inl s ↦ ap (begins_with marks) (sym ((bytes_eq-Decides g.0.name n).0 s)) ∙ g.0.own
      | inr f ↦
          let rest : is_among (items_names bs) n ≡ true = rw f at here in
          set-own marks lent bs g.1 n (sym (among-alike (items_names bs) n) ∙ rest)
    ]

pub not-set : (set : List (List ℕ)) (cs : List Column) (c : Column) → Member c (without set cs) → not (is_name_among set c.name) ≡ true
unfolding without
not-set set cs c m = (member-of-filter (λ (x : Column). not (is_name_among set x.name)) cs c m).1

cells-long : (cs : List Column) (t : Grid) (i : ℕ) → length (cells_in cs t i) ≡ length cs
unfolding cells_in
cells-long cs t i = length-map (λ (c : Column). cell t i c.name) cs

pub has-names : (cs : List Column) (n : List ℕ) (names : List (List ℕ)) → names_of cs ≡ names → has_column n cs ≡ is_name_among names n
unfolding has_column
has-names cs n names e = ap (λ (ns : List (List ℕ)). is_name_among ns n) e

own-either : (marks : List ℕ) (lent : List (List ℕ)) (t : Grid) (items : List BItem) → AllGood marks lent items → IsOwn marks t → (n : List ℕ) (a b : Bool) → has_column n (without (items_names items) t.columns) ≡ a → has_column n (items_columns items t.columns) ≡ b → cond a true b ≡ true → begins_with marks n ≡ false
own-either marks lent t items g own n true b e f h = own.unmarked n (has-left (items_names items) t.columns n e)
own-either marks lent t items g own n false b e f h = set-own marks lent items g n (sym (has-names (items_columns items t.columns) n (items_names items) (names-of-items marks lent items t.columns g)) ∙ (f ∙ h))

pub extended-own : (told : Told) (marks : List ℕ) (lent : List (List ℕ)) (t : Grid) (items : List BItem) → AllGood marks lent items → are_distinct (names_set items) ≡ true → IsOwn marks t → IsOwn marks (extended (items_names items) (items_columns items t.columns) (told_values told items t) t)
extended-own told marks lent t items g d own =
    let set = items_names items in
    let added = items_columns items t.columns in
    let left = without set t.columns in
    let names = names-of-items marks lent items t.columns g in record {
      apart = apart-append left added (apart-without set t.columns own.apart) (distinct-apart added (ap are_distinct (names ∙ sym (set-alike-names items)) ∙ d))
          (λ c m. has-names added c.name set names ∙ turned (is_name_among set c.name) (not-set set t.columns c m));
      full = λ i less.
          let e = extended-rows set added (told_values told items t) t in
          let lt : i < length t.lines = omega (arith, e, less) in
          ap (λ (row : List Value). length row) (extended-row set added (told_values told items t) t i lt)
          ∙ (length-append (cells_in left t i) (told_values told items t i)
          ∙ (ap₂ (λ (a b : ℕ). a + b) (cells-long left t i) (values-long told marks lent items g t i t.columns) ∙ sym (length-append left added)));
      unmarked = λ n h. own-either marks lent t items g own n (has_column n left) (has_column n added) refl refl (sym (has-append left added n) ∙ h);
    }

-- What an operator means, variant by variant.

pub told-out : (told : Told) (o : Op) (f : Op-F Op Plan) → out-Op o ≡ f → (w : World) (t : Grid) → told_op told o w t ≡ told_op_step told (map-Op Op Plan Makes Gives (told_op told) (told_plan told) f) w t
unfolding told_op told_plan
told-out told o f e w t =
    ap (λ (m : Makes). m w t) (fold_out-Op Makes Gives (told_op_step told) plan_step o)
    ∙ ap (λ (g : Op-F Op Plan). told_op_step told (map-Op Op Plan Makes Gives (told_op told) (told_plan told) g) w t) e

pub means-out : (o : Op) (f : Op-F Op Plan) → out-Op o ≡ f → (w : World) (t : Grid) → op_means o w t ≡ op_step (map-Op Op Plan Makes Gives op_means plan_means f) w t
means-out o f e w t = op_means-out o w t ∙ ap (λ (g : Op-F Op Plan). op_step (map-Op Op Plan Makes Gives op_means plan_means g) w t) e

pub means-Where : (e : BExpr) (w : World) (t : Grid) → op_means (V.Where e) w t ≡ where_table e t
means-Where e w t = means-out (V.Where e) (Op-F.Where e) (search (rules, the_lemmas)) w t

pub means-Extend : (items : List BItem) (w : World) (t : Grid) → op_means (V.Extend items) w t ≡ extend_table items t
means-Extend items w t = means-out (V.Extend items) (Op-F.Extend items) (search (rules, the_lemmas)) w t

pub means-Project : (items : List BItem) (w : World) (t : Grid) → op_means (V.Project items) w t ≡ project_table items t
means-Project items w t = means-out (V.Project items) (Op-F.Project items) (search (rules, the_lemmas)) w t

-- One operator of a prefix.

-- What holds of the tables behind an operator of a prefix, by what is told and lifted.
pub record Stepped (told : Told) (marks : List ℕ) (w x : World) (lent : List (List ℕ)) (o : Op) (t u : Grid) : Type 0 where
  pub own : IsOwn marks (told_op told o w t)
  pub beside : IsBeside marks (told_op told o w t) (op_means (inside marks o) x u)
  pub keeps : (c : PatternCall) → is_among (left_of lent (sets o)) c.column ≡ true → HasAnswers told marks t u c → HasAnswers told marks (told_op told o w t) (op_means (inside marks o) x u) c
  pub names : names_of (told_op told o w t).columns ≡ left_of (names_of t.columns) (sets o) ++ sets o

-- The same of the tables that these are.
record Made (told : Told) (marks : List ℕ) (lent set : List (List ℕ)) (t u v y : Grid) : Type 0 where
  own : IsOwn marks v
  beside : IsBeside marks v y
  keeps : (c : PatternCall) → is_among (left_of lent set) c.column ≡ true → HasAnswers told marks t u c → HasAnswers told marks v y c
  names : names_of v.columns ≡ left_of (names_of t.columns) set ++ set

module _ (told : Told) (marks : List ℕ) (w x : World) where
  abbrev Answering : List (List ℕ) → Grid → Grid → List PatternCall → Type 0
  Answering lent t u cs = (c : PatternCall) → Member c cs → is_among lent c.column ≡ true → HasAnswers told marks t u c

  -- The added names are none that are set.
  abbrev Marked : Type 0
  Marked = (c : PatternCall) → begins_with marks (name_of_call marks c) ≡ true

  stepped : (lent set : List (List ℕ)) (o : Op) (t u v y : Grid) → told_op told o w t ≡ v → op_means (inside marks o) x u ≡ y → sets o ≡ set → Made told marks lent set t u v y → Stepped told marks w x lent o t u
  stepped lent set o t u v y a b c m =
      let n : Made told marks lent (sets o) t u (told_op told o w t) (op_means (inside marks o) x u) =
      subst (λ (s : List (List ℕ)). Made told marks lent s t u (told_op told o w t) (op_means (inside marks o) x u)) (sym c)
      (subst (λ (g : Grid). Made told marks lent set t u g (op_means (inside marks o) x u)) (sym a) (subst (λ (g : Grid). Made told marks lent set t u v g) (sym b) m)) in
      record { own = n.own; beside = n.beside; keeps = n.keeps; names = n.names }

  where-made : (lent : List (List ℕ)) (t u : Grid) → IsOwn marks t → IsBeside marks t u → (e : BExpr) → calls_are_lent lent e ≡ true → is_readable marks e ≡ true → Answering lent t u (calls e) → Made told marks lent [] t u (told_where told e t) (where_table (lifted marks e) u)
  where-made lent t u own beside e l r h =
      let rows = told_rows told e t in
      let within = told-within told e t in
      subst (λ (g : Grid). Made told marks lent [] t u (told_where told e t) g) (sym (where-lifted told marks lent t u beside e l r h))
      (subst (λ (g : Grid). Made told marks lent [] t u g (gathered u rows)) (sym (where-told told e t))
      (record {
        own = gathered-own marks t rows within own;
        beside = gathered-beside marks t u rows within beside;
        keeps = λ c a has. gathered-answers told marks t u rows within c has;
        names = sym (nothing-left (names_of t.columns));
      }))

  extend-made : Marked → (lent : List (List ℕ)) (t u : Grid) → IsOwn marks t → IsBeside marks t u → (items : List BItem) → AllGood marks lent items → are_distinct (names_set items) ≡ true → Answering lent t u (calls_in_items items) → Made told marks lent (names_set items) t u (told_extend told items t) (extend_table (lifted_items marks items) u)
  unfolding items_names names_set
  extend-made marked lent t u own beside items g d h =
      let set = items_names items in
      let added = items_columns items t.columns in
      let v = told_values told items t in
      let y = items_values (lifted_items marks items) u in
      subst (λ (k : Grid). Made told marks lent (names_set items) t u (told_extend told items t) k) (sym (extend-lifted told marks lent t u beside items g h))
      (subst (λ (k : Grid). Made told marks lent (names_set items) t u k (extended set added y u)) (sym (extend-told told items t))
      (record {
        own = extended-own told marks lent t items g d own;
        beside = extended-beside marks set added v y t u beside (values-lifted told marks lent t u beside items g h);
        keeps = λ c a has.
            extended-answers told marks set added v y t u beside.rows c (sym (among-alike set c.column) ∙ (left-parts lent (names_set items) c.column a).1)
            (not-marked set (name_of_call marks c) (λ s. set-own marks lent items g (name_of_call marks c) s) (marked c)) has;
        names = names-append (without set t.columns) added ∙ ap₂ (λ (a b : List (List ℕ)). a ++ b) (names-without set t.columns) (names-of-items marks lent items t.columns g);
      }))
    where
      not-marked : (set : List (List ℕ)) (n : List ℕ) → (is_name_among set n ≡ true → begins_with marks n ≡ false) → begins_with marks n ≡ true → is_name_among set n ≡ false
      not-marked set n h m = elim (cases_Bool (is_name_among set n)) [
        | inl s ↦ let no : true ≡ false = sym m ∙ h s in absurd cc
        | inr f ↦ f
      ]

  of-out : Marked → (lent : List (List ℕ)) (o : Op) (f : Op-F Op Plan) → out-Op o ≡ f → (t u : Grid) → IsOwn marks t → IsBeside marks t u → op_liftable_step marks lent f ≡ true → Answering lent t u (calls_at_step f) → Stepped told marks w x lent o t u
  unfolding inside sets
  of-out marked lent o (Op-F.Where e) s t u own beside l h =
      let p = and_parts (calls_are_lent lent e) (is_readable marks e) l in
      stepped lent [] o t u (told_where told e t) (where_table (lifted marks e) u) (told-out told o (Op-F.Where e) s w t)
      (ap (λ (f : Op-F Op Plan). op_means (inside_step marks o f) x u) s ∙ means-Where (lifted marks e) x u) (ap sets_step s)
      (where-made lent t u own beside e p.0 p.1 h)
  of-out marked lent o (Op-F.Extend items) s t u own beside l h =
      let p = and_parts (list_all (item_is_liftable marks lent) items) (are_distinct (names_set items)) l in
      stepped lent (names_set items) o t u (told_extend told items t) (extend_table (lifted_items marks items) u) (told-out told o (Op-F.Extend items) s w t)
      (ap (λ (f : Op-F Op Plan). op_means (inside_step marks o f) x u) s ∙ means-Extend (lifted_items marks items) x u) (ap sets_step s)
      (extend-made marked lent t u own beside items (good-items marks lent items p.0) p.1 h)
  of-out marked lent o (Op-F.Project items) s t u own beside l h = absurd cc
  of-out marked lent o (Op-F.Take n) s t u own beside l h = absurd cc
  of-out marked lent o Op-F.Count s t u own beside l h = absurd cc
  of-out marked lent o Op-F.Serialize s t u own beside l h = absurd cc
  of-out marked lent o (Op-F.Sort keys) s t u own beside l h = absurd cc
  of-out marked lent o (Op-F.Top n keys) s t u own beside l h = absurd cc
  of-out marked lent o (Op-F.Summarize g) s t u own beside l h = absurd cc
  of-out marked lent o (Op-F.MakeSeries p) s t u own beside l h = absurd cc
  of-out marked lent o (Op-F.MvExpand e) s t u own beside l h = absurd cc
  of-out marked lent o (Op-F.Parse p) s t u own beside l h = absurd cc
  of-out marked lent o (Op-F.Join j right) s t u own beside l h = absurd cc
  of-out marked lent o (Op-F.Union inner others) s t u own beside l h = absurd cc
  of-out marked lent o (Op-F.Scan p) s t u own beside l h = absurd cc
  of-out marked lent o (Op-F.Partition c ops) s t u own beside l h = absurd cc

  pub one-step : Marked → (lent : List (List ℕ)) (o : Op) (t u : Grid) → IsOwn marks t → IsBeside marks t u → op_is_liftable marks lent o ≡ true → Answering lent t u (calls_at o) → Stepped told marks w x lent o t u
  unfolding op_is_liftable calls_at
  one-step marked lent o t u own beside l h = of-out marked lent o (out-Op o) refl t u own beside l h

  -- A prefix.

  pub prefix-lifts : Marked → (lent : List (List ℕ)) (ops : List Op) (t u : Grid) → prefix_is_liftable marks lent ops ≡ true → IsOwn marks t → IsBeside marks t u → Answering lent t u (flat_map calls_at ops) → project_table (kept (names_behind (names_of t.columns) ops)) (fold (λ before (o : Op). op_means o x before) u (map (inside marks) ops)) ≡ fold (λ before (o : Op). told_op told o w before) t ops
  unfolding prefix_is_liftable names_behind
  prefix-lifts marked lent [] t u l own beside h = kept-is marks t u own beside
  prefix-lifts marked lent (o ∷ os) t u l own beside h =
      let p = and_parts (op_is_liftable marks lent o) (prefix_is_liftable marks (left_of lent (sets o)) os) l in
      let s = one-step marked lent o t u own beside p.0 (λ c m. h c (member-left (calls_at o) (flat_map calls_at os) c m)) in
      let later = prefix-lifts marked (left_of lent (sets o)) os (told_op told o w t) (op_means (inside marks o) x u) p.1 s.own s.beside
      (λ c m a. s.keeps c a (h c (member-right (calls_at o) (flat_map calls_at os) c m) (left-parts lent (sets o) c.column a).0)) in
      ap (λ (names : List (List ℕ)). project_table (kept (fold (λ before (z : Op). left_of before (sets z) ++ sets z) names os)) (fold (λ before (z : Op). op_means z x before) (op_means (inside marks o) x u) (map (inside marks) os))) (sym s.names)
      ∙ later
