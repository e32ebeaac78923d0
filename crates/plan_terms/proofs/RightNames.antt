-- What the right names are of an expression that reads right columns alone.
use Rattle.std.proofs.Common.{◌≡◌, ℕ, Bool, true, false, not, List, [], ◌∷◌, ◌++◌, map, refl, sym, ap, ap₂, ◌∙◌, subst, inl, inr}
use Rattle.std.specs.Prelude.{◌&&◌, bytes_eq, cond, Option, None, Some, option_and_then, option_map, if◌then◌else◌}
use Rattle.std.specs.List.{list_all}
use Rattle.std.proofs.lemmas.Bool.{cases_Bool}
use Rattle.kql_cells.specs.declared.schema.Column.{Column}
use Rattle.kql_bound.specs.declared.expr.BExpr.{BExpr}
use Rattle.kql_bound.specs.declared.parts.JoinPlan.{JoinPlan}
use Rattle.kql_meaning.specs.Join.{free_name, renamed, shown_columns}
use Rattle.kql_meaning.specs.RowByRow.{is_plain}
use Rattle.kql_meaning.specs.Tables.{has_column, names_of}
use Rattle.kql_meaning.proofs.NamedCells.{has-cons, has-none}
use Rattle.plan_rules.specs.OwnNames.{own_name}
use Rattle.plan_rules.specs.Reads.{reads_only, with_names}
use Rattle.plan_rules.specs.Rules.{is_right_name, right_name, shows_right}
use Rattle.plan_terms.specs.NamesRead.{names_read}
use Rattle.plan_terms.specs.Renames.{one_right, own_in, renamed_by, right_names}
use Rattle.plan_terms.proofs.NameSteps.{reads-plain, reads-unplain}
use Rattle.plan_terms.proofs.RenameLaws.{renamed-by}

own-in : (taken : List (List ℕ)) (rc : List Column) (n : List ℕ) → own_in taken rc n ≡ (if has_column n (renamed taken rc) then Some (own_name taken rc n) else None)
unfolding own_in renamed own_name
own-in taken [] n = rw (has-none n) refl
own-in taken (c ∷ cs) n =
    let free = free_name taken c.name in
    let more = taken ++ free ∷ [] in
    let has = has-cons (record { name = free; kind = c.kind }) (renamed more cs) n in
    elim (cases_Bool (bytes_eq free n)) [
      | inl t ↦ rw (has, t) refl
      | inr f ↦ rw (has, f) (own-in more cs n)
    ]

shown-all : (j : JoinPlan) (rc : List Column) → j.lookup ≡ false → shown_columns j rc ≡ rc
unfolding shown_columns
shown-all j rc l = rw l refl

right-at : (a b : Bool) (m : List ℕ) → (if a then None else (if b then Some m else None)) ≡ (if not a && b then Some m else None)
right-at true b m = refl
right-at false b m = refl

one-right : (j : JoinPlan) (cs rc : List Column) (n : List ℕ) → j.lookup ≡ false → one_right j cs rc n ≡ (if is_right_name j cs rc n then Some (right_name j cs rc n) else None)
unfolding one_right is_right_name right_name
one-right j cs rc n l = elim (cases_Bool (shows_right j.kind)) [
  | inl t ↦ rw t refl
  | inr f ↦
      rw f (ap (λ (o : Option (List ℕ)). if has_column n cs then None else o) (own-in (names_of cs) rc n)
      ∙ (right-at (has_column n cs) (has_column n (renamed (names_of cs) rc)) (own_name (names_of cs) rc n)
      ∙ ap (λ (ds : List Column). if not (has_column n cs) && has_column n (renamed (names_of cs) ds) then Some (own_name (names_of cs) ds n) else None) (sym (shown-all j rc l))))
]

names-right : (j : JoinPlan) (cs rc : List Column) → j.lookup ≡ false → (ns : List (List ℕ)) → right_names j cs rc ns ≡ (if list_all (is_right_name j cs rc) ns then Some (map (right_name j cs rc) ns) else None)
unfolding right_names
names-right j cs rc l [] = refl
names-right j cs rc l (n ∷ ns) =
    ap₂ (λ o r. option_and_then (λ m. option_map (λ ms. m ∷ ms) r) o) (one-right j cs rc n l) (names-right j cs rc l ns)
    ∙ by (is_right_name j cs rc n) (list_all (is_right_name j cs rc) ns) (right_name j cs rc n) (map (right_name j cs rc) ns)
  where
    by : (a b : Bool) (m : List ℕ) (ms : List (List ℕ)) → option_and_then (λ k. option_map (λ ks. k ∷ ks) (if b then Some ms else None)) (if a then Some m else None) ≡ (if a && b then Some (m ∷ ms) else None)
    by true true m ms = refl
    by true false m ms = refl
    by false true m ms = refl
    by false false m ms = refl

if-some : (b : Bool) (xs ms : List (List ℕ)) → (if b then Some xs else None) ≡ Some ms → (b ≡ true) × (xs ≡ ms)
if-some true xs ms e = (refl, cc)
if-some false xs ms e = absurd cc

if-none : (b : Bool) (xs : List (List ℕ)) → (if b then Some xs else None) ≡ None → b ≡ false
if-none true xs e = absurd cc
if-none false xs e = refl

pub right-reads : (j : JoinPlan) (cs rc : List Column) (e : BExpr) (ms : List (List ℕ)) → j.lookup ≡ false → is_plain e ≡ true → right_names j cs rc (names_read e) ≡ Some ms → reads_only (is_right_name j cs rc) e ≡ true
right-reads j cs rc e ms l r h = reads-plain (is_right_name j cs rc) e r ∙ (if-some (list_all (is_right_name j cs rc) (names_read e)) (map (right_name j cs rc) (names_read e)) ms (sym (names-right j cs rc l (names_read e)) ∙ h)).0

pub right-renames : (j : JoinPlan) (cs rc : List Column) (e : BExpr) (ms : List (List ℕ)) → j.lookup ≡ false → is_plain e ≡ true → right_names j cs rc (names_read e) ≡ Some ms → with_names (renamed_by (names_read e) ms) e ≡ with_names (right_name j cs rc) e
right-renames j cs rc e ms l r h =
    ap (λ xs. with_names (renamed_by (names_read e) xs) e) (sym (if-some (list_all (is_right_name j cs rc) (names_read e)) (map (right_name j cs rc) (names_read e)) ms (sym (names-right j cs rc l (names_read e)) ∙ h)).1)
    ∙ renamed-by (right_name j cs rc) e r

pub right-none : (j : JoinPlan) (cs rc : List Column) (e : BExpr) → j.lookup ≡ false → is_plain e ≡ true → right_names j cs rc (names_read e) ≡ None → reads_only (is_right_name j cs rc) e ≡ false
right-none j cs rc e l r h = reads-plain (is_right_name j cs rc) e r ∙ if-none (list_all (is_right_name j cs rc) (names_read e)) (map (right_name j cs rc) (names_read e)) (sym (names-right j cs rc l (names_read e)) ∙ h)

pub ruleset right_steps = (right-reads, right-renames, right-none, reads-unplain)

-- One more name.

pub right-more : (j : JoinPlan) (cs rc : List Column) (n m : List ℕ) (ns done : List (List ℕ)) → one_right j cs rc n ≡ Some m → option_map (λ more. done ++ more) (right_names j cs rc (n ∷ ns)) ≡ option_map (λ more. (done ++ m ∷ []) ++ more) (right_names j cs rc ns)
unfolding right_names
right-more j cs rc n m ns done e = rw e (by (right_names j cs rc ns))
  where
    append-assoc : (xs ys : List (List ℕ)) → xs ++ (m ∷ ys) ≡ (xs ++ m ∷ []) ++ ys
    append-assoc [] ys = refl
    append-assoc (x ∷ xs) ys = ap (λ zs. x ∷ zs) (append-assoc xs ys)

    by : (r : Option (List (List ℕ))) → option_map (λ more. done ++ more) (option_map (λ ms. m ∷ ms) r) ≡ option_map (λ more. (done ++ m ∷ []) ++ more) r
    by None = refl
    by (Some ys) = ap (λ x. Some x) (append-assoc done ys)

pub right-lost : (j : JoinPlan) (cs rc : List Column) (n : List ℕ) (ns : List (List ℕ)) → one_right j cs rc n ≡ None → right_names j cs rc (n ∷ ns) ≡ None
unfolding right_names
right-lost j cs rc n ns e = rw e refl

pub ruleset more_steps = (right-more, right-lost)

-- Taken names, one more.
pub taken-more : (cs : List Column) (c : Column) → names_of (cs ++ c ∷ []) ≡ names_of cs ++ c.name ∷ []
unfolding names_of
taken-more [] c = refl
taken-more (d ∷ ds) c = ap (λ ns. d.name ∷ ns) (taken-more ds c)

pub own-first : (taken : List (List ℕ)) (c : Column) (cs : List Column) (n : List ℕ) → bytes_eq (free_name taken c.name) n ≡ true → own_in taken (c ∷ cs) n ≡ Some c.name
unfolding own_in
own-first taken c cs n t = rw t refl

pub own-next : (taken : List (List ℕ)) (c : Column) (cs : List Column) (n : List ℕ) → bytes_eq (free_name taken c.name) n ≡ false → own_in taken (c ∷ cs) n ≡ own_in (taken ++ free_name taken c.name ∷ []) cs n
unfolding own_in
own-next taken c cs n f = rw f refl

pub own-end : (taken : List (List ℕ)) (n : List ℕ) → own_in taken [] n ≡ None
unfolding own_in
own-end taken n = refl

pub ruleset own_steps = (own-first, own-next, own-end, taken-more)
