-- A plan has the same columns under what agrees on the tables that it names; and the tables that a program reads agree with all tables
-- on those that it names, and stand among them.
use Rattle.std.proofs.Common.{◌≡◌, ℕ, List, [], ◌∷◌, ◌++◌, refl, sym, ap, ◌∙◌, subst, inl, inr, map}
use Rattle.std.specs.Prelude.{Bool, true, false, not, ◌&&◌, Option, None, Some, bytes_eq, find, fold, option_and_then, option_map, slice_get}
use Rattle.std.specs.List.{cons_option, list_all}
use Rattle.std.proofs.lemmas.Bool.{and_from, cases_Bool}
use Rattle.std.proofs.lemmas.Slice.Eq.{bytes_eq-Decides}
use Rattle.kql_cells.specs.Catalogues.{schema_name}
use Rattle.kql_cells.specs.declared.schemas.NamedSchema.{NamedSchema}
use Rattle.kql_cells.specs.declared.schema.Column.{Column}
use Rattle.kql_functions.specs.Kinds.{same_kind}
use Rattle.kql_bound.specs.declared.plan.Op.{Op, fold-roll-Op, map-Op, roll-Op}
use Rattle.kql_bound.specs.declared.plan.Op.TheOpen.{Op-F, Plan-F}
use Rattle.kql_bound.specs.declared.plan.Plan.{Plan, fold-roll-Plan, ind-Plan, map-Plan, roll-Plan}
use Rattle.kql_bound.specs.declared.plan.Source.{Source}
use Rattle.kql_bound.specs.declared.plan.Source.TheVariants as source
use Rattle.kql_meaning.specs.Expressions.{column_kind}
use Rattle.kql_meaning.specs.FittingExpressions.{has_kind, is_key}
use Rattle.kql_meaning.specs.Fits.{Known as ReadKnown, OpColumns, PlanColumns, after_all, all_columns, by_key, has_columns, joined_columns, known_of, let_after, lets_columns, of_columns, op_columns, op_columns_step, outside_subqueries, plan_columns, plan_columns_step, same_columns, source_columns, table_columns, tables_stand, united_columns}
use Rattle.kql_meaning.specs.Tables.{distinct_by}
use Rattle.kql_meaning.proofs.MemberLaws.{Member, member-filter, member-left, member-right}
use Rattle.bind_query.specs.TablesRead.{TableNames, all_of, op_tables, op_tables_step, plan_tables, plan_tables_step, schema_named, schemas_named, table_of_source, tables_read}
use Rattle.bind_query_laws.proofs.Frame.{found}
use Rattle.bind_query_laws.proofs.GroupFrame.{same-self}

-- What is known agrees on the lets, and on the tables of these names.
pub record Agrees (names : TableNames) (k l : ReadKnown) : Type 0 where
  pub lets : k.lets ≡ l.lets
  pub tables : (n : List ℕ) → Member n names → table_columns k.tables n ≡ table_columns l.tables n

fewer : (names more : TableNames) (k l : ReadKnown) → ((n : List ℕ) → Member n more → Member n names) → Agrees names k l → Agrees more k l
fewer names more k l h a = record { lets = a.lets; tables = λ n m. a.tables n (h n m) }

front : (names more : TableNames) (k l : ReadKnown) → Agrees (names ++ more) k l → Agrees names k l
front names more k l a = fewer (names ++ more) names k l (λ n m. member-left names more n m) a

rest : (names more : TableNames) (k l : ReadKnown) → Agrees (names ++ more) k l → Agrees more k l
rest names more k l a = fewer (names ++ more) more k l (λ n m. member-right names more n m) a

-- By induction over plans.

abbrev ReadsOp : Op → Type 0
ReadsOp o = (k l : ReadKnown) → Agrees (op_tables o) k l → (inside : Bool) (cs : List Column) → op_columns o k inside cs ≡ op_columns o l inside cs

abbrev ReadsPlan : Plan → Type 0
ReadsPlan p = (k l : ReadKnown) → Agrees (plan_tables p) k l → plan_columns p k ≡ plan_columns p l

abbrev GivenOp : Type 0
GivenOp = (o : Op) × ReadsOp o

bare_op : GivenOp → Op
bare_op g = g.0

abbrev GivenPlan : Type 0
GivenPlan = (p : Plan) × ReadsPlan p

bare_plan : GivenPlan → Plan
bare_plan g = g.0

same-source : (s : Source) (k l : ReadKnown) → Agrees (table_of_source s) k l → source_columns s k ≡ source_columns s l
unfolding source_columns table_of_source
same-source (source.Table name) k l a = a.tables name (inl refl)
same-source (source.Let i) k l a = ap (λ (ls : List (List Column)). slice_get ls i) a.lets
same-source (source.Range column from to step) k l a = refl
same-source (source.Print items) k l a = refl

abbrev after_one : ReadKnown → Bool → Option (List Column) → OpColumns → Option (List Column)
after_one k inside before op = of_columns before (op k inside)

same-after : (g : GivenOp) (k l : ReadKnown) → Agrees (op_tables g.0) k l → (inside : Bool) (o : Option (List Column)) → of_columns o (op_columns g.0 k inside) ≡ of_columns o (op_columns g.0 l inside)
unfolding of_columns
same-after g k l a inside None = refl
same-after g k l a inside (Some cs) = g.1 k l a inside cs

same-ops : (gs : List GivenOp) (k l : ReadKnown) → Agrees (all_of (map op_tables (map bare_op gs))) k l → (inside : Bool) (start : Option (List Column)) → fold (after_one k inside) start (map op_columns (map bare_op gs)) ≡ fold (after_one l inside) start (map op_columns (map bare_op gs))
unfolding bare_op
same-ops [] k l a inside start = refl
same-ops (g ∷ gs) k l a inside start =
    ap (λ (z : Option (List Column)). fold (after_one k inside) z (map op_columns (map bare_op gs))) (same-after g k l (front (op_tables g.0) (all_of (map op_tables (map bare_op gs))) k l a) inside start)
    ∙ same-ops gs k l (rest (op_tables g.0) (all_of (map op_tables (map bare_op gs))) k l a) inside (of_columns start (op_columns g.0 l inside))

same-over : (gs : List GivenOp) (k l : ReadKnown) → Agrees (all_of (map op_tables (map bare_op gs))) k l → (inside : Bool) (cs : List Column) → after_all (map op_columns (map bare_op gs)) k inside cs ≡ after_all (map op_columns (map bare_op gs)) l inside cs
unfolding after_all
same-over gs k l a inside cs = same-ops gs k l a inside (Some cs)

same-behind : (s : Option (List Column)) (gs : List GivenOp) (k l : ReadKnown) → Agrees (all_of (map op_tables (map bare_op gs))) k l → of_columns s (after_all (map op_columns (map bare_op gs)) k false) ≡ of_columns s (after_all (map op_columns (map bare_op gs)) l false)
unfolding of_columns
same-behind None gs k l a = refl
same-behind (Some cs) gs k l a = same-over gs k l a false cs

abbrev with_more : List PlanColumns → ReadKnown → List Column → Option (List (List Column))
with_more ps k one = option_map (λ (more : List (List Column)). one ∷ more) (all_columns ps k)

same-plans : (gs : List GivenPlan) (k l : ReadKnown) → Agrees (all_of (map plan_tables (map bare_plan gs))) k l → all_columns (map plan_columns (map bare_plan gs)) k ≡ all_columns (map plan_columns (map bare_plan gs)) l
unfolding all_columns bare_plan
same-plans [] k l a = refl
same-plans (g ∷ gs) k l a =
    let more = same-plans gs k l (rest (plan_tables g.0) (all_of (map plan_tables (map bare_plan gs))) k l a) in
    ap (λ (r : Option (List (List Column))). option_and_then (λ (one : List Column). option_map (λ (ms : List (List Column)). one ∷ ms) r) (plan_columns g.0 k)) more
    ∙ ap (λ (o : Option (List Column)). option_and_then (with_more (map plan_columns (map bare_plan gs)) l) o) (g.1 k l (front (plan_tables g.0) (all_of (map plan_tables (map bare_plan gs))) k l a))

abbrev columns_of_op : Op-F GivenOp GivenPlan → OpColumns
columns_of_op y = op_columns_step (map-Op Op Plan OpColumns PlanColumns op_columns plan_columns (map-Op GivenOp GivenPlan Op Plan bare_op bare_plan y))

abbrev tables_of_op : Op-F GivenOp GivenPlan → TableNames
tables_of_op y = op_tables_step (map-Op Op Plan TableNames TableNames op_tables plan_tables (map-Op GivenOp GivenPlan Op Plan bare_op bare_plan y))

same-op : (y : Op-F GivenOp GivenPlan) (k l : ReadKnown) → Agrees (tables_of_op y) k l → (inside : Bool) (cs : List Column) → columns_of_op y k inside cs ≡ columns_of_op y l inside cs
unfolding bare_plan
same-op (Op-F.Where e) k l a inside cs = refl
same-op (Op-F.Extend items) k l a inside cs = refl
same-op (Op-F.Project items) k l a inside cs = refl
same-op (Op-F.Take n) k l a inside cs = refl
same-op Op-F.Count k l a inside cs = refl
same-op Op-F.Serialize k l a inside cs = refl
same-op (Op-F.Sort keys) k l a inside cs = refl
same-op (Op-F.Top n keys) k l a inside cs = refl
same-op (Op-F.Summarize g) k l a inside cs = refl
same-op (Op-F.MakeSeries p) k l a inside cs = refl
same-op (Op-F.MvExpand x) k l a inside cs = refl
same-op (Op-F.Parse p) k l a inside cs = refl
same-op (Op-F.Join j right) k l a inside cs = ap (λ (o : Option (List Column)). outside_subqueries inside (joined_columns j cs o)) (right.1 k l a)
same-op (Op-F.Union inner others) k l a inside cs = ap (λ (o : Option (List (List Column))). outside_subqueries inside (united_columns inner cs o)) (same-plans others k l a)
same-op (Op-F.Scan p) k l a inside cs = refl
same-op (Op-F.Partition c ops) k l a inside cs = ap (λ (o : Option (List Column)). outside_subqueries inside (by_key (has_kind is_key (column_kind c cs)) o)) (same-over ops k l a true cs)

of-op : (y : Op-F GivenOp GivenPlan) → ReadsOp (roll-Op (map-Op GivenOp GivenPlan Op Plan bare_op bare_plan y))
unfolding op_columns plan_columns op_tables plan_tables
of-op y k l a inside cs =
    let z : Op-F Op Plan = map-Op GivenOp GivenPlan Op Plan bare_op bare_plan y in
    let names : op_tables (roll-Op z) ≡ tables_of_op y = fold-roll-Op TableNames TableNames op_tables_step plan_tables_step z in
    let columns : op_columns (roll-Op z) ≡ columns_of_op y = fold-roll-Op OpColumns PlanColumns op_columns_step plan_columns_step z in
    ap (λ (f : OpColumns). f k inside cs) columns
    ∙ (same-op y k l (subst (λ (ns : TableNames). Agrees ns k l) names a) inside cs
    ∙ ap (λ (f : OpColumns). f l inside cs) (sym columns))

of-plan : (y : Plan-F GivenOp GivenPlan) → ReadsPlan (roll-Plan (map-Plan GivenOp GivenPlan Op Plan bare_op bare_plan y))
unfolding op_columns plan_columns op_tables plan_tables
of-plan y k l a =
    let z : Plan-F Op Plan = map-Plan GivenOp GivenPlan Op Plan bare_op bare_plan y in
    let names : plan_tables (roll-Plan z) ≡ table_of_source y.source ++ all_of (map op_tables (map bare_op y.ops)) = fold-roll-Plan TableNames TableNames op_tables_step plan_tables_step z in
    let columns : plan_columns (roll-Plan z) ≡ plan_columns_step (map-Plan Op Plan OpColumns PlanColumns op_columns plan_columns z) = fold-roll-Plan OpColumns PlanColumns op_columns_step plan_columns_step z in
    let agree : Agrees (table_of_source y.source ++ all_of (map op_tables (map bare_op y.ops))) k l = subst (λ (ns : TableNames). Agrees ns k l) names a in
    ap (λ (f : PlanColumns). f k) columns
    ∙ (ap (λ (s : Option (List Column)). of_columns s (after_all (map op_columns (map bare_op y.ops)) k false)) (same-source y.source k l (front (table_of_source y.source) (all_of (map op_tables (map bare_op y.ops))) k l agree))
    ∙ (same-behind (source_columns y.source l) y.ops k l (rest (table_of_source y.source) (all_of (map op_tables (map bare_op y.ops))) k l agree)
    ∙ ap (λ (f : PlanColumns). f l) (sym columns)))

-- A plan has the same columns under what agrees on the tables that it names.
pub same-plan : (p : Plan) → ReadsPlan p
unfolding bare_op bare_plan
same-plan = ind-Plan ReadsOp ReadsPlan
    (λ x y is. subst (λ (z : Op-F Op Plan). ReadsOp (roll-Op z)) is (of-op y))
    (λ x y is. subst (λ (z : Plan-F Op Plan). ReadsPlan (roll-Plan z)) is (of-plan y))

-- So do lets, one after another.
same-lets : (ps : List Plan) (tables more : List NamedSchema) → ((n : List ℕ) → Member n (all_of (map plan_tables ps)) → table_columns tables n ≡ table_columns more n) → (start : Option (List (List Column))) → fold (let_after tables) start ps ≡ fold (let_after more) start ps
unfolding let_after
same-lets [] tables more h start = refl
same-lets (p ∷ ps) tables more h start =
    ap (λ (z : Option (List (List Column))). fold (let_after tables) z ps) (one start)
    ∙ same-lets ps tables more (λ n m. h n (member-right (plan_tables p) (all_of (map plan_tables ps)) n m)) (let_after more start p)
  where
    one : (o : Option (List (List Column))) → let_after tables o p ≡ let_after more o p
    one None = refl
    one (Some lets) = ap (λ (c : Option (List Column)). option_map (λ (columns : List Column). lets ++ columns ∷ []) c) (same-plan p (known_of tables lets) (known_of more lets) (record { lets = refl; tables = λ n m. h n (member-left (plan_tables p) (all_of (map plan_tables ps)) n m) }))

pub same-all-lets : (ps : List Plan) (tables more : List NamedSchema) → ((n : List ℕ) → Member n (all_of (map plan_tables ps)) → table_columns tables n ≡ table_columns more n) → lets_columns ps tables ≡ lets_columns ps more
unfolding lets_columns
same-all-lets ps tables more h = same-lets ps tables more h (Some [])

-- The tables that are read.

pub has-name : (schemas : List NamedSchema) (n : List ℕ) (s : NamedSchema) → schema_named schemas n ≡ Some s → s.name ≡ n
unfolding schema_named
has-name schemas n s e = (bytes_eq-Decides s.name n).0 (found (λ (x : NamedSchema). bytes_eq (schema_name x) n) schemas s e).1

of-first : (schemas : List NamedSchema) (m : List ℕ) (ms : TableNames) (o : Option NamedSchema) → schema_named schemas m ≡ o → schemas_named schemas (m ∷ ms) ≡ cons_option o (schemas_named schemas ms)
unfolding schemas_named schema_named
of-first schemas m ms o e = rw (← e) refl

first-found : (s : NamedSchema) (more : List NamedSchema) (n : List ℕ) → s.name ≡ n → schema_named (s ∷ more) n ≡ Some s
unfolding schema_named
first-found s more n e = rw ((bytes_eq-Decides s.name n).1 e) refl

first-other : (s : NamedSchema) (more : List NamedSchema) (n : List ℕ) → bytes_eq s.name n ≡ false → schema_named (s ∷ more) n ≡ schema_named more n
unfolding schema_named
first-other s more n e = rw e refl

none-read : (schemas : List NamedSchema) (n : List ℕ) → schema_named (schemas_named schemas []) n ≡ None
unfolding schemas_named schema_named
none-read schemas n = refl

-- A name that has no schema has none among those that are read.
read-none : (schemas : List NamedSchema) (n : List ℕ) → schema_named schemas n ≡ None → (ms : TableNames) → schema_named (schemas_named schemas ms) n ≡ None
read-none schemas n none [] = none-read schemas n
read-none schemas n none (m ∷ ms) = by_first (schema_named schemas m) refl (read-none schemas n none ms)
  where
    by_first : (o : Option NamedSchema) → schema_named schemas m ≡ o → schema_named (schemas_named schemas ms) n ≡ None → schema_named (schemas_named schemas (m ∷ ms)) n ≡ None
    by_first None e h = ap (λ (ss : List NamedSchema). schema_named ss n) (of-first schemas m ms None e) ∙ h
    by_first (Some s) e h = elim (cases_Bool (bytes_eq s.name n)) [
      | inl t ↦
          let same : m ≡ n = sym (has-name schemas m s e) ∙ (bytes_eq-Decides s.name n).0 t in
          let here : Some s ≡ None = sym (subst (λ k. schema_named schemas k ≡ Some s) same e) ∙ none in
          absurd cc
      | inr f ↦ ap (λ (ss : List NamedSchema). schema_named ss n) (of-first schemas m ms (Some s) e) ∙ (first-other s (schemas_named schemas ms) n f ∙ h)
    ]

-- A name that is read has its schema there.
read-at : (schemas : List NamedSchema) (n : List ℕ) (s : NamedSchema) → schema_named schemas n ≡ Some s → (ms : TableNames) → Member n ms → schema_named (schemas_named schemas ms) n ≡ Some s
read-at schemas n s is [] at = absurd at
read-at schemas n s is (m ∷ ms) (inl same) =
    ap (λ (ss : List NamedSchema). schema_named ss n) (of-first schemas m ms (Some s) (subst (λ k. schema_named schemas k ≡ Some s) (sym same) is))
    ∙ first-found s (schemas_named schemas ms) n (has-name schemas n s is)
read-at schemas n s is (m ∷ ms) (inr at) = by_first (schema_named schemas m) refl (read-at schemas n s is ms at)
  where
    by_first : (o : Option NamedSchema) → schema_named schemas m ≡ o → schema_named (schemas_named schemas ms) n ≡ Some s → schema_named (schemas_named schemas (m ∷ ms)) n ≡ Some s
    by_first None e h = ap (λ (ss : List NamedSchema). schema_named ss n) (of-first schemas m ms None e) ∙ h
    by_first (Some r) e h = elim (cases_Bool (bytes_eq r.name n)) [
      | inl t ↦
          let name : r.name ≡ n = (bytes_eq-Decides r.name n).0 t in
          let same : m ≡ n = sym (has-name schemas m r e) ∙ name in
          let one : Some r ≡ Some s = sym (subst (λ k. schema_named schemas k ≡ Some r) same e) ∙ is in
          ap (λ (ss : List NamedSchema). schema_named ss n) (of-first schemas m ms (Some r) e) ∙ (first-found r (schemas_named schemas ms) n name ∙ one)
      | inr f ↦ ap (λ (ss : List NamedSchema). schema_named ss n) (of-first schemas m ms (Some r) e) ∙ (first-other r (schemas_named schemas ms) n f ∙ h)
    ]

read-same : (schemas : List NamedSchema) (n : List ℕ) (ms : TableNames) → Member n ms → (o : Option NamedSchema) → schema_named schemas n ≡ o → schema_named (schemas_named schemas ms) n ≡ schema_named schemas n
read-same schemas n ms at None e = read-none schemas n e ms ∙ sym e
read-same schemas n ms at (Some s) e = read-at schemas n s e ms at ∙ sym e

once-member : (names : TableNames) (n : List ℕ) → Member n names → Member n (distinct_by bytes_eq names)
unfolding distinct_by
once-member [] n at = absurd at
once-member (m ∷ ms) n (inl same) = inl same
once-member (m ∷ ms) n (inr at) = elim (cases_Bool (bytes_eq m n)) [
  | inl t ↦ inl ((bytes_eq-Decides m n).0 t)
  | inr f ↦ inr (member-filter (λ k. not (bytes_eq m k)) (distinct_by bytes_eq ms) n (once-member ms n at) (ap not f))
]

-- The tables that plans read are those of all tables that they name.
pub read-agrees : (schemas : List NamedSchema) (ps : List Plan) (n : List ℕ) → Member n (all_of (map plan_tables ps)) → table_columns (tables_read schemas ps) n ≡ table_columns schemas n
unfolding table_columns tables_read schema_named
read-agrees schemas ps n at =
    ap (λ (o : Option NamedSchema). option_map (λ (s : NamedSchema). s.schema) o)
    (read-same schemas n (distinct_by bytes_eq (all_of (map plan_tables ps))) (once-member (all_of (map plan_tables ps)) n at) (schema_named schemas n) refl)

-- They stand there.

columns-same : (cs : List Column) → same_columns cs cs ≡ true
unfolding same_columns
columns-same [] = refl
columns-same (c ∷ cs) = and_from (bytes_eq c.name c.name) (same_kind c.kind c.kind && same_columns cs cs) ((bytes_eq-Decides c.name c.name).1 refl) (and_from (same_kind c.kind c.kind) (same_columns cs cs) (same-self c.kind) (columns-same cs))

stands-one : (schemas : List NamedSchema) (m : List ℕ) (s : NamedSchema) → schema_named schemas m ≡ Some s → has_columns s (table_columns schemas s.name) ≡ true
unfolding table_columns has_columns schema_named
stands-one schemas m s e =
    let there : find (λ (x : NamedSchema). bytes_eq (schema_name x) s.name) schemas ≡ Some s = subst (λ k. schema_named schemas k ≡ Some s) (sym (has-name schemas m s e)) e in
    rw there (columns-same s.schema)

abbrev stands : List NamedSchema → NamedSchema → Bool
stands schemas s = has_columns s (table_columns schemas s.name)

stand-none : (schemas : List NamedSchema) → list_all (stands schemas) (schemas_named schemas []) ≡ true
unfolding schemas_named
stand-none schemas = refl

read-stand : (schemas : List NamedSchema) (ms : TableNames) → list_all (stands schemas) (schemas_named schemas ms) ≡ true
read-stand schemas [] = stand-none schemas
read-stand schemas (m ∷ ms) = by_first (schema_named schemas m) refl (read-stand schemas ms)
  where
    by_first : (o : Option NamedSchema) → schema_named schemas m ≡ o → list_all (stands schemas) (schemas_named schemas ms) ≡ true → list_all (stands schemas) (schemas_named schemas (m ∷ ms)) ≡ true
    by_first None e h = ap (list_all (stands schemas)) (of-first schemas m ms None e) ∙ h
    by_first (Some s) e h = ap (list_all (stands schemas)) (of-first schemas m ms (Some s) e) ∙ and_from (stands schemas s) (list_all (stands schemas) (schemas_named schemas ms)) (stands-one schemas m s e) h

pub tables-stand : (schemas : List NamedSchema) (ps : List Plan) → tables_stand (tables_read schemas ps) schemas ≡ true
unfolding tables_stand tables_read
tables-stand schemas ps = read-stand schemas (distinct_by bytes_eq (all_of (map plan_tables ps)))
