-- A bound `scan` is sound.
use Rattle.std.proofs.Common.{◌≡◌, ◌+◌, ℕ, Bool, true, List, [], ◌∷◌, ◌++◌, map, refl, sym, ap, ◌∙◌, subst, inl, inr}
use Rattle.std.specs.Prelude.{nat_le, not, ◌&&◌, ◌||◌, Ok, Option, None, Some, bytes_eq, option_map}
use Rattle.std.specs.List.{AllByRecursion, list_all}
use Rattle.std.proofs.lemmas.Bool.{and_from, cases_Bool}
use Rattle.kql_cells.specs.declared.schema.Column.{Column}
use Rattle.kql_cells.specs.declared.value.Kind.{Kind}
use Rattle.kql_cells.specs.declared.value.Kind.TheVariants as kind
use Rattle.kql_cells.specs.declared.value.Value.{Value}
use Rattle.kql_functions.specs.Kinds.{same_kind}
use Rattle.kql_lexer.specs.declared.place.Place.{Place}
use Rattle.kql_bound.specs.declared.literal.Lit.{Lit}
use Rattle.kql_bound.specs.declared.parts.BItem.{BItem}
use Rattle.kql_bound.specs.declared.parts.Decl.{Decl as BoundDecl}
use Rattle.kql_bound.specs.declared.parts.ScanPlan.{ScanPlan}
use Rattle.kql_bound.specs.declared.parts.ScanStep.{ScanStep}
use Rattle.kql_bound.specs.declared.plan.Op.TheVariants as op
use Rattle.kql_meaning.specs.declared.position.Position.{Position}
use Rattle.kql_meaning.specs.declared.position.Position.TheVariants as position
use Rattle.kql_meaning.specs.Expressions.{column_kind, kind_of}
use Rattle.kql_meaning.specs.FittingExpressions.{Scope as ReadScope, expr_fits, fits_as, has_kind, is_kind, same_known, takes_columns}
use Rattle.kql_meaning.specs.FittingOperators.{are_distinct, assigns, assigns_one, defaults_fit, is_empty, scan_fits, scan_scope, scan_step_fits, set_fits, step_names}
use Rattle.kql_meaning.specs.Items.{items_names}
use Rattle.kql_meaning.specs.Literals.{literal_fits}
use Rattle.kql_meaning.specs.Scan.{declared_columns, declared_defaults, defaults_of, id_columns, scan_columns}
use Rattle.kql_meaning.specs.Tables.{absent_row, is_name_among, names_of}
use Rattle.kql_meaning.specs.Values.{absent}
use Rattle.kql_meaning.proofs.MemberLaws.{Pairwise}
use Rattle.kql_meaning.proofs.OperatorFitLaws.{op-Scan}
use Rattle.kql_syntax.specs.declared.query.Decl.{Decl}
use Rattle.kql_syntax.specs.declared.query.Scan.{Scan}
use Rattle.kql_syntax.specs.declared.query.Step.{Step}
use Rattle.kql_syntax.specs.declared.tree.Expr.{Expr}
use Rattle.bind_expr.specs.Names.{text_of}
use Rattle.bind_expr.specs.Outcome.{◌>>=◌}
use Rattle.bind_expr.specs.declared.fault.BindFault.{BindFault}
use Rattle.bind_expr.specs.declared.scope.Scope.{Scope}
use Rattle.bind_expr.specs.declared.typed.Typed.{Typed}
use Rattle.bind_expr_laws.specs.Laws.{IsSound}
use Rattle.bind_expr_laws.specs.Scopes.{IsSoundScope, read_scope}
use Rattle.bind_operators.specs.declared.bound.BoundOp.{BoundOp}
use Rattle.bind_operators.specs.declared.known.Known.{Known}
use Rattle.bind_operators.specs.declared.shape.Shape.{Shape}
use Rattle.bind_operators.specs.declared.wanted.Wanted.TheVariants as wanted
use Rattle.bind_operators.specs.Faults.{each_bound, fault_if}
use Rattle.bind_operators.specs.Items.{names_twice}
use Rattle.bind_operators.specs.Known.{scope_at}
use Rattle.bind_operators.specs.Places.{name_place}
use Rattle.bind_operators.specs.Wanted.{kind_bound, takes, typed_bound}
use Rattle.bind_operators.proofs.NameLaws.{apart, neither}
use Rattle.bind_groups.proofs.EachLaws.{each-relates}
use Rattle.bind_query.specs.Scan.{Assignment, assigned_name, assignment_bound, assignment_faults, assignment_item, cell_columns, cell_defaults, decl_bound, decl_of, declared_default, declared_kind, declared_names, new_names, scan_bound, scan_faults, scan_plan, scan_step, scanned, step_bound, step_faults, step_name, step_name_faults, step_scope, wanted_of}
use Rattle.bind_query_laws.specs.Sound.{AreColumns, IsSoundKnown, IsSoundOp, read_known}
use Rattle.bind_query_laws.proofs.Frame.{after-ok, all-of, answer-sound, both-none, constant-sound, no-fault, not-false, ok-same, typed-sound}
use Rattle.bind_query_laws.proofs.GroupFrame.{apart-distinct}
use Rattle.bind_query_laws.proofs.ScanScopes.{Fresh, absent-fits, all-once, cells, cells-columns, cells-defaults, decl_column, decl_name, fresh-apart, front-once, full, full-sound, scope-is}

-- Faults.

step-names-fresh : (before : List (List ℕ)) (steps : List Step) → step_name_faults before steps ≡ [] → Fresh before (map step_name steps)
unfolding step_name_faults
step-names-fresh before [] e = tt
step-names-fresh before (s ∷ ss) e =
    let two = both-none (fault_if (is_name_among before (step_name s)) 417 (name_place s.name)) (step_name_faults (before ++ step_name s ∷ []) ss) e in
    (no-fault (is_name_among before (step_name s)) 417 (name_place s.name) two.0, step-names-fresh (before ++ step_name s ∷ []) ss two.1)

abbrev AreDeclared : List (List ℕ) → List Assignment → Type 0
AreDeclared declared xs = AllByRecursion (λ (a : Assignment). is_name_among declared (assigned_name a) ≡ true) xs

assigned-well : (declared done : List (List ℕ)) (xs : List Assignment) → assignment_faults declared done xs ≡ [] → AreDeclared declared xs × Fresh done (map assigned_name xs)
unfolding assignment_faults
assigned-well declared done [] e = (tt, tt)
assigned-well declared done (a ∷ xs) e =
    let n : List ℕ = assigned_name a in
    let bad : Bool = not (is_name_among declared n) || is_name_among done n in
    let two = both-none (fault_if bad 413 (name_place a.0)) (assignment_faults declared (done ++ n ∷ []) xs) e in
    let both = neither (not (is_name_among declared n)) (is_name_among done n) (no-fault bad 413 (name_place a.0) two.0) in
    let rest = assigned-well declared (done ++ n ∷ []) xs two.1 in
    ((not-false (is_name_among declared n) both.0, rest.0), (both.1, rest.1))

abbrev AreSteps : List (List ℕ) → List Step → Type 0
AreSteps declared ss = AllByRecursion (λ (s : Step). assignment_faults declared [] s.sets ≡ []) ss

steps-well : (declared : List (List ℕ)) (before : ℕ) (ss : List Step) → step_faults declared before ss ≡ [] → AreSteps declared ss
unfolding step_faults
steps-well declared before [] e = tt
steps-well declared before (s ∷ ss) e =
    let rest : List BindFault = assignment_faults declared [] s.sets ++ step_faults declared (before + 1) ss in
    let two = both-none (assignment_faults declared [] s.sets) (step_faults declared (before + 1) ss) (both-none (fault_if (nat_le 64 before) 413 (name_place s.name)) rest e).1 in
    (two.0, steps-well declared (before + 1) ss two.1)

-- Declared columns.

default-fits : (operator : Place) (known : Known) (rows : Shape) (k : Kind) (o : Option Expr) (l : Lit) → IsSoundKnown known → AreColumns rows.columns → declared_default operator known rows k o ≡ Ok l → literal_fits l ≡ true
unfolding declared_default
default-fits operator known rows k None l sound names is =
    subst (λ (m : Lit). literal_fits m ≡ true) (ok-same (record { kind = k; value = absent k }) l is) (absent-fits k)
default-fits operator known rows k (Some e) l sound names is = (constant-sound operator (wanted.Is k) known rows e l sound names is).0

decl-ok : (operator : Place) (known : Known) (rows : Shape) → IsSoundKnown known → AreColumns rows.columns → (d : Decl) (y : BoundDecl) → decl_bound operator known rows d ≡ Ok y → (literal_fits y.default ≡ true) × (y.name ≡ text_of d.name)
unfolding decl_bound
decl-ok operator known rows sound names d y is =
    let first = after-ok (kind_bound d.kind) (λ (k : Kind). declared_default operator known rows k d.default >>= λ l. Ok (decl_of d l)) y is in
    let next = after-ok (declared_default operator known rows first.0 d.default) (λ (l : Lit). Ok (decl_of d l)) y first.2 in
    subst (λ (z : BoundDecl). (literal_fits z.default ≡ true) × (z.name ≡ text_of d.name)) (ok-same (decl_of d next.0) y next.2)
    (default-fits operator known rows first.0 d.default next.0 sound names next.1, refl)

abbrev AreBound : List Decl → List BoundDecl → Type 0
AreBound ds ys = AllByRecursion (λ (y : BoundDecl). literal_fits y.default ≡ true) ys × (map decl_name ys ≡ declared_names ds)

decls-bound : (operator : Place) (known : Known) (rows : Shape) (ds : List Decl) (ys : List BoundDecl) → IsSoundKnown known → AreColumns rows.columns → each_bound (decl_bound operator known rows) ds ≡ Ok ys → AreBound ds ys
decls-bound operator known rows ds ys sound names is =
    each-relates (decl_bound operator known rows) AreBound (tt, refl)
    (λ d y ds ys e h.
    let q = decl-ok operator known rows sound names d y e in
    ((q.0, h.0), ap (λ (n : List ℕ). n ∷ map decl_name ys) q.1 ∙ ap (λ (ns : List (List ℕ)). text_of d.name ∷ ns) h.1))
    ds ys is

kind-same : (n : List ℕ) (ds : List BoundDecl) → column_kind n (map decl_column ds) ≡ declared_kind ds n
unfolding column_kind declared_kind
kind-same n [] = refl
kind-same n (d ∷ ds) = elim (cases_Bool (bytes_eq d.name n)) [
  | inl t ↦ rw t refl
  | inr f ↦ rw f (kind-same n ds)
]

kind-among : (n : List ℕ) (ds : List BoundDecl) → is_name_among (map decl_name ds) n ≡ true → (k : Kind) × (declared_kind ds n ≡ Some k)
unfolding is_name_among declared_kind
kind-among n [] e = absurd cc
kind-among n (d ∷ ds) e = elim (cases_Bool (bytes_eq d.name n)) [
  | inl t ↦ (d.default.kind, rw t refl)
  | inr f ↦
      let later : is_name_among (map decl_name ds) n ≡ true = rw f at e in
      let q = kind-among n ds later in
      (q.0, rw f q.1)
]

-- Steps, in a sound scope.

module _ (scope : Scope) (declared : List BoundDecl) (sound : IsSoundScope scope) (plain : scope.position ≡ position.Plain) where
  fits-plain : (t : Typed) → IsSound scope t → expr_fits t.expr (read_scope scope) position.Plain ≡ true
  unfolding takes_columns
  fits-plain t h = subst (λ (p : Position). expr_fits t.expr (read_scope scope) p ≡ true) plain (h.fits (ap takes_columns plain))

  abbrev IsSet : Assignment → BItem → Type 0
  IsSet a b = (set_fits (map decl_column declared) (read_scope scope) b ≡ true) × (b.names ≡ assigned_name a ∷ [])

  typed-set : (a : Assignment) (t : Typed) (k : Kind) → declared_kind declared (assigned_name a) ≡ Some k → IsSound scope t → same_kind k t.kind ≡ true → IsSet a (assignment_item a t)
  unfolding set_fits assigns assigns_one is_empty same_known is_kind has_kind
  typed-set a t k is h same =
      let n : List ℕ = assigned_name a in
      let found : column_kind n (map decl_column declared) ≡ Some k = kind-same n declared ∙ is in
      let types : same_known (column_kind n (map decl_column declared)) (kind_of t.expr scope.schema) ≡ true = rw found (rw (h.kind) same) in
      (and_from (expr_fits t.expr (read_scope scope) position.Plain) (same_known (column_kind n (map decl_column declared)) (kind_of t.expr scope.schema)) (fits-plain t h) types, refl)

  set-ok : (a : Assignment) (b : BItem) → is_name_among (map decl_name declared) (assigned_name a) ≡ true → assignment_bound scope declared a ≡ Ok b → IsSet a b
  unfolding assignment_bound takes wanted_of
  set-ok a b among is =
      let n : List ℕ = assigned_name a in
      let q = kind-among n declared among in
      let first = after-ok (typed_bound (wanted_of (declared_kind declared n)) a.1 scope) (λ (t : Typed). Ok (assignment_item a t)) b is in
      let h = typed-sound (wanted_of (declared_kind declared n)) a.1 scope first.0 sound first.1 in
      let same : same_kind q.0 first.0.kind ≡ true = subst (λ (o : Option Kind). takes (wanted_of o) first.0.kind ≡ true) q.1 h.1 in
      subst (IsSet a) (ok-same (assignment_item a first.0) b first.2) (typed-set a first.0 q.0 q.1 h.0 same)

  abbrev AreSets : List Assignment → List BItem → Type 0
  AreSets xs bs = AreDeclared (map decl_name declared) xs → (list_all (set_fits (map decl_column declared) (read_scope scope)) bs ≡ true) × (items_names bs ≡ map assigned_name xs)

  sets-more : (a : Assignment) (b : BItem) (xs : List Assignment) (bs : List BItem) → assignment_bound scope declared a ≡ Ok b → AreSets xs bs → AreSets (a ∷ xs) (b ∷ bs)
  unfolding items_names
  sets-more a b xs bs e h all =
      let q = set-ok a b all.0 e in
      let rest = h all.1 in (
        and_from (set_fits (map decl_column declared) (read_scope scope) b) (list_all (set_fits (map decl_column declared) (read_scope scope)) bs) q.0 rest.0,
        ap (λ (ns : List (List ℕ)). ns ++ items_names bs) q.1 ∙ ap (λ (ns : List (List ℕ)). assigned_name a ∷ ns) rest.1,
      )

  sets-none : AreSets [] []
  unfolding items_names
  sets-none all = (refl, refl)

  sets-ok : (xs : List Assignment) (bs : List BItem) → each_bound (assignment_bound scope declared) xs ≡ Ok bs → AreSets xs bs
  sets-ok xs bs is = each-relates (assignment_bound scope declared) AreSets sets-none sets-more xs bs is

  abbrev IsStep : Step → ScanStep → Type 0
  IsStep s y = (scan_step_fits (map decl_column declared) (read_scope scope) y ≡ true) × (y.name ≡ step_name s)

  step-ok : (s : Step) (y : ScanStep) → assignment_faults (map decl_name declared) [] s.sets ≡ [] → step_bound scope declared s ≡ Ok y → IsStep s y
  unfolding step_bound scan_step_fits fits_as has_kind takes
  step-ok s y none is =
      let first = after-ok (typed_bound (wanted.Is kind.Bool) s.condition scope) (λ (c : Typed). each_bound (assignment_bound scope declared) s.sets >>= λ sets. Ok (scan_step s c sets)) y is in
      let c : Typed = first.0 in
      let next = after-ok (each_bound (assignment_bound scope declared) s.sets) (λ (sets : List BItem). Ok (scan_step s c sets)) y first.2 in
      let sets : List BItem = next.0 in
      let well = assigned-well (map decl_name declared) [] s.sets none in
      let fit = sets-ok s.sets sets next.1 well.0 in
      let h = typed-sound (wanted.Is kind.Bool) s.condition scope c sound first.1 in
      let condition : fits_as (same_kind kind.Bool) c.expr (read_scope scope) position.Plain ≡ true =
      and_from (expr_fits c.expr (read_scope scope) position.Plain) (has_kind (same_kind kind.Bool) (kind_of c.expr scope.schema)) (fits-plain c h.0) (rw (h.0.kind) h.1) in
      let once : are_distinct (items_names sets) ≡ true = apart-distinct (items_names sets) (subst (λ (ns : List (List ℕ)). Pairwise apart ns) (sym fit.1) (fresh-apart [] (map assigned_name s.sets) well.1).0) in
      subst (IsStep s) (ok-same (scan_step s c sets) y next.2) (
        and_from (fits_as (same_kind kind.Bool) c.expr (read_scope scope) position.Plain) (list_all (set_fits (map decl_column declared) (read_scope scope)) sets && are_distinct (items_names sets)) condition
            (and_from (list_all (set_fits (map decl_column declared) (read_scope scope)) sets) (are_distinct (items_names sets)) fit.0 once),
        refl,
      )

  abbrev AreBoundSteps : List Step → List ScanStep → Type 0
  AreBoundSteps ss ys = AreSteps (map decl_name declared) ss → (list_all (scan_step_fits (map decl_column declared) (read_scope scope)) ys ≡ true) × (step_names ys ≡ map step_name ss)

  steps-more : (s : Step) (y : ScanStep) (ss : List Step) (ys : List ScanStep) → step_bound scope declared s ≡ Ok y → AreBoundSteps ss ys → AreBoundSteps (s ∷ ss) (y ∷ ys)
  unfolding step_names
  steps-more s y ss ys e h all =
      let q = step-ok s y all.0 e in
      let rest = h all.1 in (
        and_from (scan_step_fits (map decl_column declared) (read_scope scope) y) (list_all (scan_step_fits (map decl_column declared) (read_scope scope)) ys) q.0 rest.0,
        ap (λ (n : List ℕ). n ∷ step_names ys) q.1 ∙ ap (λ (ns : List (List ℕ)). step_name s ∷ ns) rest.1,
      )

  steps-none : AreBoundSteps [] []
  unfolding step_names
  steps-none all = (refl, refl)

  steps-ok : (ss : List Step) (ys : List ScanStep) → each_bound (step_bound scope declared) ss ≡ Ok ys → AreBoundSteps ss ys
  steps-ok ss ys is = each-relates (step_bound scope declared) AreBoundSteps steps-none steps-more ss ys is

-- The operator.

-- What the steps read is what they are said to read.
abbrev Same : ReadScope → ReadScope → Type 0
Same a b = a ≡ b

same-scopes : (names : List (List ℕ)) (cs bs : List Column) (vs ws : List Value) → cs ≡ bs → vs ≡ ws → Same (record { columns = cs; steps = names; defaults = vs }) (record { columns = bs; steps = names; defaults = ws })
same-scopes names cs bs vs ws e f = rw e (rw f refl)

read-is : (known : Known) (rows : Shape) (names : List (List ℕ)) (ds : List BoundDecl) (steps : List ScanStep) (id : Option (List ℕ)) → step_names steps ≡ names → Same (read_scope (full known rows names ds)) (scan_scope (record { match_id = id; declared = ds; steps = steps }) rows.columns)
unfolding scan_scope scope_at declared_columns declared_defaults
read-is known rows names ds steps id same =
    subst (λ (ns : List (List ℕ)). Same (read_scope (full known rows names ds)) (record { columns = rows.columns ++ map decl_column ds; steps = ns; defaults = absent_row rows.columns ++ defaults_of ds })) (sym same)
    (same-scopes names (cell_columns (cells rows.columns ds)) (rows.columns ++ map decl_column ds) (cell_defaults (cells rows.columns ds)) (absent_row rows.columns ++ defaults_of ds) (cells-columns rows.columns ds) (cells-defaults rows.columns ds))

plain-there : (known : Known) (rows : Shape) (names : List (List ℕ)) (ds : List BoundDecl) → (full known rows names ds).position ≡ position.Plain
unfolding scope_at
plain-there known rows names ds = refl

-- Without faults of its own it fits, and no two of its columns have one name.
whole : (operator : Place) (s : Scan) (known : Known) (rows : Shape) (ds : List BoundDecl) (steps : List ScanStep) → IsSoundKnown known → AreColumns rows.columns → AreBound s.declared ds → each_bound (step_bound (step_scope known rows s.steps ds) ds) s.steps ≡ Ok steps → scan_faults operator s rows ≡ [] → (scan_fits (scan_plan s ds steps) rows.columns ≡ true) × AreColumns (scan_columns (scan_plan s ds steps) rows.columns)
unfolding scan_faults scan_fits scan_plan scan_columns declared_columns defaults_fit
whole operator s known rows ds steps sound names bound is none =
    let names_faults : List BindFault = names_twice (names_of rows.columns) (new_names s.match_id s.declared) in
    let step_ones : List BindFault = step_name_faults [] s.steps in
    let set_ones : List BindFault = step_faults (declared_names s.declared) 0 s.steps in
    let behind = (both-none (fault_if (not rows.serial) 407 operator) (names_faults ++ (step_ones ++ set_ones)) none).1 in
    let new = both-none names_faults (step_ones ++ set_ones) behind in
    let of_steps = both-none step_ones set_ones new.1 in
    let once : AreColumns (rows.columns ++ (map decl_column ds ++ id_columns (option_map text_of s.match_id))) = all-once rows.columns s.match_id s.declared ds names bound.1 new.0 in
    let front : AreColumns (rows.columns ++ map decl_column ds) = front-once rows.columns ds (id_columns (option_map text_of s.match_id)) once in
    let written : List (List ℕ) = map step_name s.steps in
    let scope : Scope = full known rows written ds in
    let there : each_bound (step_bound scope ds) s.steps ≡ Ok steps = subst (λ (x : Scope). each_bound (step_bound x ds) s.steps ≡ Ok steps) (scope-is known rows s.steps ds front) is in
    let sets : AreSteps (map decl_name ds) s.steps = subst (λ (ns : List (List ℕ)). AreSteps ns s.steps) (sym bound.1) (steps-well (declared_names s.declared) 0 s.steps of_steps.1) in
    let fit = steps-ok scope ds (full-sound known rows written ds sound front bound.0) (plain-there known rows written ds) s.steps steps there sets in
    let plan : ScanPlan = record { match_id = option_map text_of s.match_id; declared = ds; steps = steps } in
    let steps_fit : list_all (scan_step_fits (map decl_column ds) (scan_scope plan rows.columns)) steps ≡ true =
    subst (λ (x : ReadScope). list_all (scan_step_fits (map decl_column ds) x) steps ≡ true) (read-is known rows written ds steps (option_map text_of s.match_id) fit.1) fit.0 in
    let named : are_distinct (step_names steps) ≡ true = apart-distinct (step_names steps) (subst (λ (ns : List (List ℕ)). Pairwise apart ns) (sym fit.1) (fresh-apart [] written (step-names-fresh [] s.steps of_steps.0)).0) in (
      and_from (list_all (λ (d : BoundDecl). literal_fits d.default) ds) (are_distinct (step_names steps) && list_all (scan_step_fits (map decl_column ds) (scan_scope plan rows.columns)) steps)
          (all-of (λ (d : BoundDecl). literal_fits d.default) ds bound.0)
          (and_from (are_distinct (step_names steps)) (list_all (scan_step_fits (map decl_column ds) (scan_scope plan rows.columns)) steps) named steps_fit),
      once,
    )

pub scan_sound : (operator : Place) (s : Scan) (known : Known) (rows : Shape) (b : BoundOp) → IsSoundKnown known → AreColumns rows.columns → scan_bound operator s known rows ≡ Ok b → (inside : Bool) → IsSoundOp known inside rows b
unfolding scan_bound scanned
scan_sound operator s known rows b sound names is inside =
    let first = after-ok (each_bound (decl_bound operator known rows) s.declared) (λ (declared : List BoundDecl). each_bound (step_bound (step_scope known rows s.steps declared) declared) s.steps >>= λ steps. scanned operator s rows (scan_plan s declared steps)) b is in
    let ds : List BoundDecl = first.0 in
    let next = after-ok (each_bound (step_bound (step_scope known rows s.steps ds) ds) s.steps) (λ (steps : List ScanStep). scanned operator s rows (scan_plan s ds steps)) b first.2 in
    let steps : List ScanStep = next.0 in
    let plan : ScanPlan = scan_plan s ds steps in
    answer-sound known inside rows operator (scan_faults operator s rows) (op.Scan plan) (scan_columns plan rows.columns) true b
    (scan_fits plan rows.columns)
    (op-Scan plan (read_known known) inside rows.columns)
    (λ none. whole operator s known rows ds steps sound names (decls-bound operator known rows s.declared ds sound names first.1) next.1 none)
    next.2
