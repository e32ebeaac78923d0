-- The tables that plans read, step by step along the loops that read them.
use Rattle.std.proofs.Common.{◌≡◌, ◌<◌, ◌+◌, ℕ, suc, List, [], ◌∷◌, ◌++◌, map, filter, length, take, get_or, zero, refl, sym, ap, ◌∙◌, subst, arith, rules, inl, inr, append-nil, append_assoc}
use Rattle.std.specs.Prelude.{Bool, true, false, not, ◌||◌, Option, None, Some, bytes_eq, is_some}
use Rattle.std.proofs.lemmas.Bool.{cases_Bool}
use Rattle.std.proofs.lemmas.List.{take_more}
use Rattle.std.proofs.lemmas.List.Elements.{filter-append, filter_map-append}
use Rattle.std.proofs.lemmas.Slice.Eq.{bytes_eq-Decides}
use Rattle.kql_cells.specs.Catalogues.{schema_name}
use Rattle.kql_cells.specs.Named.{IsAbsent}
use Rattle.kql_cells.specs.declared.schemas.NamedSchema.{NamedSchema}
use Rattle.kql_bound.specs.declared.expr.BExpr.{BExpr}
use Rattle.kql_bound.specs.declared.parts.BItem.{BItem}
use Rattle.kql_bound.specs.declared.parts.BKey.{BKey}
use Rattle.kql_bound.specs.declared.parts.Expand.{Expand}
use Rattle.kql_bound.specs.declared.parts.GroupPlan.{GroupPlan}
use Rattle.kql_bound.specs.declared.parts.JoinPlan.{JoinPlan}
use Rattle.kql_bound.specs.declared.parts.ParsePlan.{ParsePlan}
use Rattle.kql_bound.specs.declared.parts.ScanPlan.{ScanPlan}
use Rattle.kql_bound.specs.declared.parts.SeriesPlan.{SeriesPlan}
use Rattle.kql_bound.specs.declared.plan.Op.{Op, fold_out-Op, out-Op, the_lemmas}
use Rattle.kql_bound.specs.declared.plan.Op.TheFolds.{map-Op}
use Rattle.kql_bound.specs.declared.plan.Op.TheOpen.{Op-F}
use Rattle.kql_bound.specs.declared.plan.Op.TheVariants as V
use Rattle.kql_bound.specs.declared.plan.Plan.{Plan, fold_out-Plan, out-Plan}
use Rattle.kql_meaning.specs.Tables.{distinct_by, is_name_among}
use Rattle.bind_query.specs.TablesRead.{TableNames, all_of, op_tables, op_tables_step, ops_tables, plan_tables, plan_tables_step, plans_tables, schema_named, schemas_named, table_of_source, tables_read, with_schema, with_table_read, with_tables_read}

-- Names one after another.

-- No names, and those of several parts.
none-read : (schemas made : List NamedSchema) (names : TableNames) → names ≡ [] → made ≡ with_tables_read schemas made names
unfolding with_tables_read
none-read schemas made names e = rw e refl

one-read : (schemas made : List NamedSchema) (n : List ℕ) → with_tables_read schemas made (n ∷ []) ≡ with_table_read schemas made n
unfolding with_tables_read
one-read schemas made n = refl

more-read : (schemas made : List NamedSchema) (names more : TableNames) → with_tables_read schemas made (names ++ more) ≡ with_tables_read schemas (with_tables_read schemas made names) more
unfolding with_tables_read
more-read schemas made [] more = refl
more-read schemas made (n ∷ ns) more = more-read schemas (with_table_read schemas made n) ns more

-- Operators.

op-out : (op : Op) → op_tables op ≡ op_tables_step (map-Op Op Plan TableNames TableNames op_tables plan_tables (out-Op op))
unfolding op_tables plan_tables
op-out op = fold_out-Op TableNames TableNames op_tables_step plan_tables_step op

step : (op : Op) (f : Op-F Op Plan) → out-Op op ≡ f → op_tables op ≡ op_tables_step (map-Op Op Plan TableNames TableNames op_tables plan_tables f)
step op f e = op-out op ∙ ap (λ (g : Op-F Op Plan). op_tables_step (map-Op Op Plan TableNames TableNames op_tables plan_tables g)) e

pub read-Where : (schemas made : List NamedSchema) (e : BExpr) → made ≡ with_tables_read schemas made (op_tables (V.Where e))
read-Where schemas made e = none-read schemas made (op_tables (V.Where e)) (step (V.Where e) (Op-F.Where e) (search (rules, the_lemmas)))

pub read-Extend : (schemas made : List NamedSchema) (items : List BItem) → made ≡ with_tables_read schemas made (op_tables (V.Extend items))
read-Extend schemas made items = none-read schemas made (op_tables (V.Extend items)) (step (V.Extend items) (Op-F.Extend items) (search (rules, the_lemmas)))

pub read-Project : (schemas made : List NamedSchema) (items : List BItem) → made ≡ with_tables_read schemas made (op_tables (V.Project items))
read-Project schemas made items = none-read schemas made (op_tables (V.Project items)) (step (V.Project items) (Op-F.Project items) (search (rules, the_lemmas)))

pub read-Take : (schemas made : List NamedSchema) (n : ℕ) → made ≡ with_tables_read schemas made (op_tables (V.Take n))
read-Take schemas made n = none-read schemas made (op_tables (V.Take n)) (step (V.Take n) (Op-F.Take n) (search (rules, the_lemmas)))

pub read-Count : (schemas made : List NamedSchema) → made ≡ with_tables_read schemas made (op_tables V.Count)
read-Count schemas made = none-read schemas made (op_tables V.Count) (step V.Count Op-F.Count (search (rules, the_lemmas)))

pub read-Serialize : (schemas made : List NamedSchema) → made ≡ with_tables_read schemas made (op_tables V.Serialize)
read-Serialize schemas made = none-read schemas made (op_tables V.Serialize) (step V.Serialize Op-F.Serialize (search (rules, the_lemmas)))

pub read-Sort : (schemas made : List NamedSchema) (keys : List BKey) → made ≡ with_tables_read schemas made (op_tables (V.Sort keys))
read-Sort schemas made keys = none-read schemas made (op_tables (V.Sort keys)) (step (V.Sort keys) (Op-F.Sort keys) (search (rules, the_lemmas)))

pub read-Top : (schemas made : List NamedSchema) (n : ℕ) (keys : List BKey) → made ≡ with_tables_read schemas made (op_tables (V.Top n keys))
read-Top schemas made n keys = none-read schemas made (op_tables (V.Top n keys)) (step (V.Top n keys) (Op-F.Top n keys) (search (rules, the_lemmas)))

pub read-Summarize : (schemas made : List NamedSchema) (g : GroupPlan) → made ≡ with_tables_read schemas made (op_tables (V.Summarize g))
read-Summarize schemas made g = none-read schemas made (op_tables (V.Summarize g)) (step (V.Summarize g) (Op-F.Summarize g) (search (rules, the_lemmas)))

pub read-MakeSeries : (schemas made : List NamedSchema) (s : SeriesPlan) → made ≡ with_tables_read schemas made (op_tables (V.MakeSeries s))
read-MakeSeries schemas made s = none-read schemas made (op_tables (V.MakeSeries s)) (step (V.MakeSeries s) (Op-F.MakeSeries s) (search (rules, the_lemmas)))

pub read-MvExpand : (schemas made : List NamedSchema) (x : Expand) → made ≡ with_tables_read schemas made (op_tables (V.MvExpand x))
read-MvExpand schemas made x = none-read schemas made (op_tables (V.MvExpand x)) (step (V.MvExpand x) (Op-F.MvExpand x) (search (rules, the_lemmas)))

pub read-Parse : (schemas made : List NamedSchema) (p : ParsePlan) → made ≡ with_tables_read schemas made (op_tables (V.Parse p))
read-Parse schemas made p = none-read schemas made (op_tables (V.Parse p)) (step (V.Parse p) (Op-F.Parse p) (search (rules, the_lemmas)))

pub read-Scan : (schemas made : List NamedSchema) (s : ScanPlan) → made ≡ with_tables_read schemas made (op_tables (V.Scan s))
read-Scan schemas made s = none-read schemas made (op_tables (V.Scan s)) (step (V.Scan s) (Op-F.Scan s) (search (rules, the_lemmas)))

pub read-Join : (schemas made : List NamedSchema) (j : JoinPlan) (right : Plan) → with_tables_read schemas made (plan_tables right) ≡ with_tables_read schemas made (op_tables (V.Join j right))
read-Join schemas made j right = ap (with_tables_read schemas made) (sym (step (V.Join j right) (Op-F.Join j right) (search (rules, the_lemmas))))

pub read-Union : (schemas made : List NamedSchema) (inner : Bool) (others : List Plan) → with_tables_read schemas made (plans_tables others) ≡ with_tables_read schemas made (op_tables (V.Union inner others))
unfolding plans_tables
read-Union schemas made inner others = ap (with_tables_read schemas made) (sym (step (V.Union inner others) (Op-F.Union inner others) (search (rules, the_lemmas))))

pub read-Partition : (schemas made : List NamedSchema) (c : List ℕ) (ops : List Op) → with_tables_read schemas made (ops_tables ops) ≡ with_tables_read schemas made (op_tables (V.Partition c ops))
unfolding ops_tables
read-Partition schemas made c ops = ap (with_tables_read schemas made) (sym (step (V.Partition c ops) (Op-F.Partition c ops) (search (rules, the_lemmas))))

pub ruleset op_steps = (read-Where, read-Extend, read-Project, read-Take, read-Count, read-Serialize, read-Sort, read-Top, read-Summarize, read-MakeSeries, read-MvExpand, read-Parse, read-Scan, read-Join, read-Union, read-Partition)

-- Sources, and plans.

pub source-one : (schemas made result : List NamedSchema) (n : List ℕ) → result ≡ with_table_read schemas made n → result ≡ with_tables_read schemas made (n ∷ [])
source-one schemas made result n is = is ∙ sym (one-read schemas made n)

pub source-none : (schemas made : List NamedSchema) → made ≡ with_tables_read schemas made []
source-none schemas made = none-read schemas made [] refl

pub ruleset source_steps = (source-one, source-none)

plan-out : (p : Plan) → plan_tables p ≡ table_of_source (out-Plan p).source ++ ops_tables (out-Plan p).ops
unfolding plan_tables op_tables ops_tables
plan-out p = fold_out-Plan TableNames TableNames op_tables_step plan_tables_step p

pub plan-read : (schemas made first result : List NamedSchema) (p : Plan) (ops : List Op) → first ≡ with_tables_read schemas made (table_of_source (out-Plan p).source) → ops ≡ (out-Plan p).ops → result ≡ with_tables_read schemas first (ops_tables ops) → result ≡ with_tables_read schemas made (plan_tables p)
plan-read schemas made first result p ops is same h =
    h ∙ (ap (λ (m : List NamedSchema). with_tables_read schemas m (ops_tables ops)) is
    ∙ (sym (more-read schemas made (table_of_source (out-Plan p).source) (ops_tables ops))
    ∙ ap (with_tables_read schemas made) (ap (λ (os : List Op). table_of_source (out-Plan p).source ++ ops_tables os) same ∙ sym (plan-out p))))

pub ruleset plan_steps = (plan-read)

-- Lists of parts.

flat-push : {X : Type 0} (xs : List X) (f : X → TableNames) (x : X) → all_of (map f (xs ++ x ∷ [])) ≡ all_of (map f xs) ++ f x
flat-push [] f x = append-nil (f x)
flat-push (y ∷ ys) f x = ap (λ (ns : TableNames). f y ++ ns) (flat-push ys f x) ∙ sym (append_assoc (f y) (all_of (map f ys)) (f x))

turned : {X : Type 0} (f : X → TableNames) (schemas made before result : List NamedSchema) (xs : List X) (i : ℕ) (d : X) → i < length xs → before ≡ with_tables_read schemas made (all_of (map f (take i xs))) → result ≡ with_tables_read schemas before (f (get_or xs i d)) → result ≡ with_tables_read schemas made (all_of (map f (take (i + 1) xs)))
turned f schemas made before result xs i d l is h =
    h ∙ (ap (λ (m : List NamedSchema). with_tables_read schemas m (f (get_or xs i d))) is
    ∙ (sym (more-read schemas made (all_of (map f (take i xs))) (f (get_or xs i d)))
    ∙ ap (with_tables_read schemas made) (sym (flat-push (take i xs) f (get_or xs i d)) ∙ ap (λ zs. all_of (map f zs)) (sym (take_more xs i d l)))))

pub ops-start : (schemas made : List NamedSchema) → made ≡ with_tables_read schemas made (ops_tables [])
unfolding ops_tables
ops-start schemas made = none-read schemas made [] refl

pub ops-turn : (schemas made before result : List NamedSchema) (xs : List Op) (i : ℕ) (d : Op) → i < length xs → before ≡ with_tables_read schemas made (ops_tables (take i xs)) → result ≡ with_tables_read schemas before (op_tables (get_or xs i d)) → result ≡ with_tables_read schemas made (ops_tables (take (i + 1) xs))
unfolding ops_tables
ops-turn schemas made before result xs i d l is h = turned op_tables schemas made before result xs i d l is h

pub ruleset ops_steps = (ops-start, ops-turn)

pub plans-start : (schemas made : List NamedSchema) → made ≡ with_tables_read schemas made (plans_tables [])
unfolding plans_tables
plans-start schemas made = none-read schemas made [] refl

pub plans-turn : (schemas made before result : List NamedSchema) (xs : List Plan) (i : ℕ) (d : Plan) → i < length xs → before ≡ with_tables_read schemas made (plans_tables (take i xs)) → result ≡ with_tables_read schemas before (plan_tables (get_or xs i d)) → result ≡ with_tables_read schemas made (plans_tables (take (i + 1) xs))
unfolding plans_tables
plans-turn schemas made before result xs i d l is h = turned plan_tables schemas made before result xs i d l is h

pub ruleset plans_steps = (plans-start, plans-turn)

-- Each table once.

abbrev others_of : List ℕ → TableNames → TableNames
others_of x names = filter (λ y. not (bytes_eq x y)) names

-- A name that is not left out is among those that are left where it was among all.
among-others : (x n : List ℕ) (names : TableNames) → bytes_eq x n ≡ false → is_name_among (others_of x names) n ≡ is_name_among names n
unfolding is_name_among
among-others x n [] f = refl
among-others x n (m ∷ ms) f = elim (cases_Bool (bytes_eq x m)) [
  | inl t ↦
      let same = (bytes_eq-Decides x m).0 t in
      let g : bytes_eq m n ≡ false = subst (λ k. bytes_eq k n ≡ false) same f in
      rw (t, g) (among-others x n ms f)
  | inr u ↦ rw u (ap (λ (b : Bool). bytes_eq m n || b) (among-others x n ms f))
]

-- A name, where it is new.
abbrev new_one : Bool → List ℕ → TableNames
new_one true n = []
new_one false n = n ∷ []

others-new : (x n : List ℕ) (b : Bool) → bytes_eq x n ≡ false → others_of x (new_one b n) ≡ new_one b n
others-new x n true f = refl
others-new x n false f = rw f refl

others-same : (x n : List ℕ) (b : Bool) → bytes_eq x n ≡ true → others_of x (new_one b n) ≡ []
others-same x n true t = refl
others-same x n false t = rw t refl

-- A name more behind different ones: itself, where it is not among them.
distinct-push : (names : TableNames) (n : List ℕ) → distinct_by bytes_eq (names ++ n ∷ []) ≡ distinct_by bytes_eq names ++ new_one (is_name_among (distinct_by bytes_eq names) n) n
unfolding distinct_by is_name_among
distinct-push [] n = refl
distinct-push (x ∷ xs) n =
    let all : TableNames = distinct_by bytes_eq xs in
    let left : TableNames = others_of x all in
    let new : TableNames = new_one (is_name_among all n) n in
    let push : others_of x (distinct_by bytes_eq (xs ++ n ∷ [])) ≡ left ++ others_of x new = ap (others_of x) (distinct-push xs n) ∙ filter-append (λ y. not (bytes_eq x y)) all new in
    elim (cases_Bool (bytes_eq x n)) [
      | inl t ↦
          let seen : is_name_among (x ∷ left) n ≡ true = rw t refl in
          ap (λ (ns : TableNames). x ∷ ns) (push ∙ ap (λ (ns : TableNames). left ++ ns) (others-same x n (is_name_among all n) t ∙ ap (λ (b : Bool). new_one b n) (sym seen)))
      | inr f ↦
          let seen : is_name_among (x ∷ left) n ≡ is_name_among all n = rw f (among-others x n all f) in
          ap (λ (ns : TableNames). x ∷ ns) (push ∙ ap (λ (ns : TableNames). left ++ ns) (others-new x n (is_name_among all n) f ∙ ap (λ (b : Bool). new_one b n) (sym seen)))
    ]

-- The schema of a name has it.
found-name : (schemas : List NamedSchema) (n : List ℕ) (s : NamedSchema) → schema_named schemas n ≡ Some s → schema_name s ≡ n
unfolding schema_named
found-name [] n s e = cc
found-name (t ∷ ts) n s e = elim (cases_Bool (bytes_eq (schema_name t) n)) [
  | inl y ↦ let here : Some t ≡ Some s = rw y at e in let same : t ≡ s = cc in ap schema_name (sym same) ∙ (bytes_eq-Decides (schema_name t) n).0 y
  | inr f ↦ let rest : schema_named ts n ≡ Some s = rw f at e in found-name ts n s rest
]

-- Where a name has a schema, that is among the schemas of names where the name is among them.
stands-on : (schemas : List NamedSchema) (m : List ℕ) (ms : TableNames) (n : List ℕ) (s : NamedSchema) → schema_named schemas n ≡ Some s → is_some (schema_named (schemas_named schemas ms) n) ≡ is_name_among ms n → (o : Option NamedSchema) → schema_named schemas m ≡ o → is_some (schema_named (schemas_named schemas (m ∷ ms)) n) ≡ is_name_among (m ∷ ms) n
unfolding schema_named schemas_named is_name_among
stands-on schemas m ms n s e rest None is = elim (cases_Bool (bytes_eq m n)) [
  | inl t ↦ let none : schema_named schemas n ≡ None = subst (λ k. schema_named schemas k ≡ None) ((bytes_eq-Decides m n).0 t) is in let wrong : None ≡ Some s = sym none ∙ e in cc
  | inr f ↦ rw (is, f) rest
]
stands-on schemas m ms n s e rest (Some t) is =
    let same : schema_name t ≡ m = found-name schemas m t is in
    elim (cases_Bool (bytes_eq m n)) [
      | inl y ↦ let here : bytes_eq (schema_name t) n ≡ true = subst (λ k. bytes_eq k n ≡ true) (sym same) y in rw (is, here, y) refl
      | inr f ↦ let here : bytes_eq (schema_name t) n ≡ false = subst (λ k. bytes_eq k n ≡ false) (sym same) f in rw (is, here, f) rest
    ]

named-stands : (schemas : List NamedSchema) (names : TableNames) (n : List ℕ) (s : NamedSchema) → schema_named schemas n ≡ Some s → is_some (schema_named (schemas_named schemas names) n) ≡ is_name_among names n
unfolding schema_named schemas_named is_name_among
named-stands schemas [] n s e = refl
named-stands schemas (m ∷ ms) n s e = stands-on schemas m ms n s e (named-stands schemas ms n s e) (schema_named schemas m) refl

-- A table more.

with-none : (made : List NamedSchema) (o : Option NamedSchema) → with_schema made o None ≡ made
with-none made None = refl
with-none made (Some s) = refl

with-old : (made : List NamedSchema) (o found : Option NamedSchema) → is_some o ≡ true → with_schema made o found ≡ made
with-old made None found e = cc
with-old made (Some s) found e = refl

with-new : (made : List NamedSchema) (o : Option NamedSchema) (s : NamedSchema) → is_some o ≡ false → with_schema made o (Some s) ≡ made ++ s ∷ []
with-new made None s e = refl
with-new made (Some t) s e = cc

named-push : (schemas : List NamedSchema) (all : TableNames) (n : List ℕ) (o : Option NamedSchema) → schema_named schemas n ≡ o → schemas_named schemas (all ++ n ∷ []) ≡ with_schema (schemas_named schemas all) None o
unfolding schema_named schemas_named
named-push schemas all n None is = filter_map-append (λ m. schema_named schemas m) all (n ∷ []) ∙ rw is (append-nil (schemas_named schemas all))
named-push schemas all n (Some s) is = filter_map-append (λ m. schema_named schemas m) all (n ∷ []) ∙ rw is refl

-- Whether the name is among the names so far, and its schema.
table-pushed : (schemas : List NamedSchema) (all : TableNames) (n : List ℕ) (b : Bool) (o : Option NamedSchema) → is_name_among all n ≡ b → schema_named schemas n ≡ o → with_schema (schemas_named schemas all) (schema_named (schemas_named schemas all) n) o ≡ schemas_named schemas (all ++ new_one b n)
table-pushed schemas all n true None seen is = with-none (schemas_named schemas all) (schema_named (schemas_named schemas all) n) ∙ ap (schemas_named schemas) (sym (append-nil all))
table-pushed schemas all n true (Some s) seen is = with-old (schemas_named schemas all) (schema_named (schemas_named schemas all) n) (Some s) (named-stands schemas all n s is ∙ seen) ∙ ap (schemas_named schemas) (sym (append-nil all))
table-pushed schemas all n false None seen is = with-none (schemas_named schemas all) (schema_named (schemas_named schemas all) n) ∙ sym (named-push schemas all n None is)
table-pushed schemas all n false (Some s) seen is = with-new (schemas_named schemas all) (schema_named (schemas_named schemas all) n) s (named-stands schemas all n s is ∙ seen) ∙ sym (named-push schemas all n (Some s) is)

-- The schemas of different names.
abbrev once : List NamedSchema → TableNames → List NamedSchema
once schemas names = schemas_named schemas (distinct_by bytes_eq names)

once-push : (schemas : List NamedSchema) (names : TableNames) (n : List ℕ) → with_table_read schemas (once schemas names) n ≡ once schemas (names ++ n ∷ [])
unfolding with_table_read
once-push schemas names n =
    let all : TableNames = distinct_by bytes_eq names in
    table-pushed schemas all n (is_name_among all n) (schema_named schemas n) refl refl
    ∙ ap (schemas_named schemas) (sym (distinct-push names n))

all-read : (schemas : List NamedSchema) (before names : TableNames) → with_tables_read schemas (once schemas before) names ≡ once schemas (before ++ names)
unfolding with_tables_read
all-read schemas before [] = ap (once schemas) (sym (append-nil before))
all-read schemas before (n ∷ ns) =
    ap (λ (m : List NamedSchema). with_tables_read schemas m ns) (once-push schemas before n)
    ∙ (all-read schemas (before ++ n ∷ []) ns ∙ ap (once schemas) (append_assoc before (n ∷ []) ns))

names-read : (schemas : List NamedSchema) (names : TableNames) → with_tables_read schemas [] names ≡ once schemas names
unfolding distinct_by schemas_named
names-read schemas names = all-read schemas [] names

pub program-read : (schemas named first made result : List NamedSchema) (lets : List Plan) (main : Plan) → named ≡ schemas → first ≡ [] → made ≡ with_tables_read named first (plans_tables lets) → result ≡ with_tables_read named made (plan_tables main) → result ≡ tables_read schemas (lets ++ main ∷ [])
unfolding tables_read plans_tables
program-read schemas named first made result lets main same none before h =
    h ∙ (ap (λ (m : List NamedSchema). with_tables_read named m (plan_tables main)) (before ∙ ap (λ (m : List NamedSchema). with_tables_read named m (plans_tables lets)) none)
    ∙ (sym (more-read named [] (plans_tables lets) (plan_tables main))
    ∙ (names-read named (plans_tables lets ++ plan_tables main)
    ∙ (ap (once named) (sym (flat-push lets plan_tables main))
    ∙ ap (λ (ss : List NamedSchema). once ss (all_of (map plan_tables (lets ++ main ∷ [])))) same))))

pub ruleset read_steps = (program-read)

-- A name that no table so far has.

fails-at : (n : List ℕ) (xs : List NamedSchema) → schema_named xs n ≡ None → (k : ℕ) (d : NamedSchema) → k < length xs → schema_name (get_or xs k d) ≡ n → ⊥
unfolding schema_named
fails-at n [] e k d l same = absurd (omega (arith, l))
fails-at n (x ∷ xs) e zero d l same = let y : bytes_eq (schema_name x) n ≡ true = (bytes_eq-Decides (schema_name x) n).1 same in let wrong : Some x ≡ None = rw y at e in cc
fails-at n (x ∷ xs) e (suc k) d l same = elim (cases_Bool (bytes_eq (schema_name x) n)) [
  | inl y ↦ let wrong : Some x ≡ None = rw y at e in cc
  | inr f ↦ let rest : schema_named xs n ≡ None = rw f at e in fails-at n xs rest k d (omega (arith, l)) same
]

-- A schema of a name that none so far has is of a new name.
pub absent-name : (made schemas : List NamedSchema) (n : List ℕ) (s copy : NamedSchema) → schema_named made n ≡ None → schema_named schemas n ≡ Some s → copy ≡ s → IsAbsent schema_name (schema_name copy) made
absent-name made schemas n s copy none some same = λ k d l e. fails-at n made none k d l (e ∙ (ap schema_name same ∙ found-name schemas n s some))
