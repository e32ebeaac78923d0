-- What binding gives, taken apart; and the scopes, constants, items and answers of operators.
use Rattle.std.proofs.Common.{◌≡◌, ℕ, Bool, true, false, List, [], ◌∷◌, ◌++◌, length, refl, sym, ap, ◌∙◌, subst, inl, inr}
use Rattle.std.specs.Prelude.{not, ◌&&◌, ◌==◌, Ok, Err, Option, None, Some, All, bytes_eq, find, fold, if◌then◌else◌, nat_lt}
use Rattle.std.specs.List.{AllByRecursion, list_all}
use Rattle.std.proofs.lemmas.Bool.{and_from, and_parts, cases_Bool, eq-eqb, eqb-true}
use Rattle.std.proofs.lemmas.List.{length-map}
use Rattle.std.proofs.lemmas.List.Elements.{recursion_from_All}
use Rattle.std.proofs.lemmas.List.Folds.{list_all-append}
use Rattle.std.proofs.lemmas.Slice.Eq.{bytes_eq-Decides}
use Rattle.kql_cells.specs.declared.schema.Column.{Column}
use Rattle.kql_cells.specs.declared.value.Kind.{Kind}
use Rattle.kql_functions.specs.declared.aggregate.Aggregate.{Aggregate}
use Rattle.kql_functions.specs.declared.aggregate.Aggregate.TheVariants as aggregate
use Rattle.kql_lexer.specs.declared.place.Place.{Place}
use Rattle.kql_bound.specs.declared.expr.BExpr.{BExpr, out-BExpr, roll-BExpr, roll-out-BExpr}
use Rattle.kql_bound.specs.declared.expr.BExpr.TheOpen.{BExpr-F}
use Rattle.kql_bound.specs.declared.expr.BExpr.TheVariants as V
use Rattle.kql_bound.specs.declared.literal.Lit.{Lit}
use Rattle.kql_bound.specs.declared.parts.BItem.{BItem}
use Rattle.kql_bound.specs.declared.plan.Op.{Op}
use Rattle.kql_meaning.specs.declared.position.Position.{Position}
use Rattle.kql_meaning.specs.declared.position.Position.TheVariants as position
use Rattle.kql_meaning.specs.Expressions.{kind_of}
use Rattle.kql_meaning.specs.Fits.{op_columns}
use Rattle.kql_meaning.specs.FittingExpressions.{Scope as ReadScope, aggregate_fits, checked_args, expr_fits, fits_as, has_kind, scope_of, takes_columns}
use Rattle.kql_meaning.specs.FittingOperators.{answer_if, are_distinct, columns_if, has_its_names, is_empty, item_fits, items_fit}
use Rattle.kql_meaning.specs.Literals.{literal_fits}
use Rattle.kql_meaning.specs.Results.{aggregate_result_kinds, has_one_result, result_kinds, result_kinds_step, typed}
use Rattle.kql_meaning.specs.Tables.{is_name_among, names_of}
use Rattle.kql_meaning.proofs.ExpressionFitLaws.{fits-Aggregate}
use Rattle.kql_meaning.proofs.FirstLaws.{one-of-any}
use Rattle.kql_meaning.proofs.MemberLaws.{Member, Pairwise, member-of-map, of-member, pairs-of}
use Rattle.kql_syntax.specs.declared.query.Item.{Item}
use Rattle.kql_syntax.specs.declared.tree.Expr.{Expr}
use Rattle.item_names.specs.ItemNames.{item_names}
use Rattle.item_names.proofs.NameSteps.{each_column_has_its_name}
use Rattle.bind_expr.specs.Bound.{bound_expr}
use Rattle.bind_expr.specs.Constants.{constant_of}
use Rattle.bind_expr.specs.Outcome.{Outcome, ◌>>=◌}
use Rattle.bind_expr.specs.declared.fault.BindFault.{BindFault}
use Rattle.bind_expr.specs.declared.fault.BindFault.TheVariants as fault
use Rattle.bind_expr.specs.declared.scope.Scope.{Scope}
use Rattle.bind_expr.specs.declared.typed.Typed.{Typed}
use Rattle.bind_expr_laws.specs.Laws.{IsSound}
use Rattle.bind_expr_laws.specs.Scopes.{IsSoundScope, read_scope}
use Rattle.bind_expr_laws.proofs.BoundLaws.{bound-sound}
use Rattle.bind_operators.specs.declared.bound.BoundOp.{BoundOp}
use Rattle.bind_operators.specs.declared.items.NamedItems.{NamedItems}
use Rattle.bind_operators.specs.declared.known.Known.{Known}
use Rattle.bind_operators.specs.declared.shape.Shape.{Shape}
use Rattle.bind_operators.specs.declared.wanted.Wanted.{Wanted}
use Rattle.bind_operators.specs.Answers.{answer, made, width_faults}
use Rattle.bind_operators.specs.Faults.{each_bound, fault_if, unless}
use Rattle.bind_operators.specs.Items.{given_name, item_in, items_bound, items_from, names_or_own, no_items, with_item}
use Rattle.bind_operators.specs.Known.{no_rows, scope_at}
use Rattle.bind_operators.specs.Wanted.{constant_bound, constant_wanted, literal_of_type, of_type, takes, typed_bound}
use Rattle.bind_operators.proofs.NameLaws.{different, items-even, pairwise-of}
use Rattle.bind_query_laws.specs.Sound.{AreColumns, IsSoundKnown, IsSoundOp, read_known}

-- Chains and faults taken apart.

pub after-ok : {X Y : Type 0} (r : Outcome X) (k : X → Outcome Y) (y : Y) → r >>= k ≡ Ok y → (x : X) × (r ≡ Ok x) × (k x ≡ Ok y)
after-ok (Ok x) k y e = (x, refl, e)
after-ok (Err f) k y e = absurd cc

-- A value as what binding gives.
abbrev pub good : {X : Type 0} → X → Outcome X
good x = Ok x

pub ok-same : {X : Type 0} (x y : X) → good x ≡ Ok y → x ≡ y
ok-same x y e = cc

pub some-same : {X : Type 0} (x y : X) → Some x ≡ Some y → x ≡ y
some-same x y e = cc

pub unless-ok : {X : Type 0} (fs : List BindFault) (x y : X) → unless fs x ≡ Ok y → (fs ≡ []) × (x ≡ y)
unfolding unless
unless-ok [] x y e = (refl, cc)
unless-ok (f ∷ fs) x y e = absurd cc

pub both-none : {X : Type 0} (xs ys : List X) → xs ++ ys ≡ [] → (xs ≡ []) × (ys ≡ [])
both-none [] ys e = (refl, e)
both-none (x ∷ xs) ys e = absurd cc

pub no-fault : (b : Bool) (code : ℕ) (place : Place) → fault_if b code place ≡ [] → b ≡ false
unfolding fault_if
no-fault true code place e = absurd cc
no-fault false code place e = refl

pub not-true : (b : Bool) → not b ≡ true → b ≡ false
not-true true e = absurd cc
not-true false e = refl

pub not-false : (b : Bool) → not b ≡ false → b ≡ true
not-false true e = refl
not-false false e = absurd cc

pub true-or-false : {A : Type 0} (b : Bool) → b ≡ true → b ≡ false → A
true-or-false true e f = absurd cc
true-or-false false e f = absurd cc

-- What a search finds.
pub found : {X : Type 0} (p : X → Bool) (xs : List X) (x : X) → find p xs ≡ Some x → Member x xs × (p x ≡ true)
found p [] x e = absurd cc
found p (y ∷ ys) x e = elim (cases_Bool (p y)) [
  | inl t ↦
      let is : Some y ≡ Some x = rw t at e in
      let same : y ≡ x = cc in
      (inl same, subst (λ z. p z ≡ true) same t)
  | inr n ↦
      let later : find p ys ≡ Some x = rw n at e in
      let q = found p ys x later in
      (inr q.0, q.1)
]

pub of-all : {X : Type 0} (P : X → Type 0) (xs : List X) (x : X) → All P xs → Member x xs → P x
of-all P xs x h m = of-member P xs x (recursion_from_All P xs h) m

-- Parts from left to right.

-- Each element of a list that is pushed to.
pub each-push : {X : Type 0} (P : X → Type 0) (xs : List X) (x : X) → AllByRecursion P xs → P x → AllByRecursion P (xs ++ x ∷ [])
each-push P [] x h p = (p, tt)
each-push P (y ∷ ys) x h p = (h.0, each-push P ys x h.1 p)

each-from : {X Y : Type 0} (P : Y → Type 0) (bind : X → Outcome Y) → ((x : X) (y : Y) → bind x ≡ Ok y → P y) → (parts : List X) (start : Outcome (List Y)) (ys : List Y) → ((zs : List Y) → start ≡ Ok zs → AllByRecursion P zs) → fold (λ before part. before >>= λ zs. bind part >>= λ z. Ok (zs ++ z ∷ [])) start parts ≡ Ok ys → AllByRecursion P ys
each-from P bind t [] start ys h e = h ys e
each-from {Y = Y} P bind t (p ∷ ps) start ys h e =
    each-from P bind t ps (start >>= λ zs. bind p >>= λ z. Ok (zs ++ z ∷ [])) ys
    (λ zs is.
    let first = after-ok start (λ xs. bind p >>= λ z. Ok (xs ++ z ∷ [])) zs is in
    let next = after-ok (bind p) (λ z. Ok (first.0 ++ z ∷ [])) zs first.2 in
    subst (AllByRecursion P) (ok-same (first.0 ++ next.0 ∷ []) zs next.2) (each-push P first.0 next.0 (h first.0 first.1) (t p next.0 next.1)))
    e

-- What is bound of parts one by one, where each by itself gives this.
pub each-sound : {X Y : Type 0} (P : Y → Type 0) (bind : X → Outcome Y) (parts : List X) (ys : List Y) → ((x : X) (y : Y) → bind x ≡ Ok y → P y) → each_bound bind parts ≡ Ok ys → AllByRecursion P ys
unfolding each_bound
each-sound P bind parts ys t e = each-from P bind t parts (Ok []) ys (λ zs is. subst (AllByRecursion P) (ok-same [] zs is) tt) e

pub all-of : {X : Type 0} (p : X → Bool) (xs : List X) → AllByRecursion (λ x. p x ≡ true) xs → list_all p xs ≡ true
all-of p [] h = refl
all-of p (x ∷ xs) h = and_from (p x) (list_all p xs) h.0 (all-of p xs h.1)

pub each-all : {X Y : Type 0} (p : Y → Bool) (bind : X → Outcome Y) (parts : List X) (ys : List Y) → ((x : X) (y : Y) → bind x ≡ Ok y → p y ≡ true) → each_bound bind parts ≡ Ok ys → list_all p ys ≡ true
each-all p bind parts ys t e = all-of p ys (each-sound (λ y. p y ≡ true) bind parts ys t e)

-- Columns of an answer.

pub among-one : (names : List (List ℕ)) (n : List ℕ) → is_name_among names n ≡ true → Member n names
unfolding is_name_among
among-one names n e =
    let q = one-of-any (λ m. bytes_eq m n) names e in
    subst (λ m. Member m names) ((bytes_eq-Decides q.0 n).0 q.2) q.1

apart-names : (cs : List Column) → Pairwise different cs → are_distinct (names_of cs) ≡ true
unfolding are_distinct names_of
apart-names [] h = refl
apart-names (c ∷ cs) h = and_from (not (is_name_among (names_of cs) c.name)) (are_distinct (names_of cs)) (none (is_name_among (names_of cs) c.name) refl) (apart-names cs h.1)
  where
    none : (b : Bool) → is_name_among (names_of cs) c.name ≡ b → not b ≡ true
    none false e = refl
    none true e =
        let m = member-of-map (λ (d : Column). d.name) cs c.name (among-one (names_of cs) c.name e) in
        absurd (of-member (different c) cs m.0 h.0 m.1 (sym m.2))

pub distinct-names : (cs : List Column) → AreColumns cs → are_distinct (names_of cs) ≡ true
distinct-names cs h = apart-names cs (pairwise-of different cs h)

pub columns-when : (b : Bool) (cs : List Column) → b ≡ true → columns_if b cs ≡ Some cs
unfolding columns_if
columns-when b cs e = rw e refl

pub answer-when : (b : Bool) (cs : List Column) → b ≡ true → is_empty cs ≡ false → AreColumns cs → answer_if b cs ≡ Some cs
unfolding answer_if
answer-when b cs e some names =
    columns-when (b && (not (is_empty cs) && are_distinct (names_of cs))) cs
    (and_from b (not (is_empty cs) && are_distinct (names_of cs)) e (and_from (not (is_empty cs)) (are_distinct (names_of cs)) (ap not some) (distinct-names cs names)))

-- Answers of operators.

pub width-some : (operator : Place) (columns : List Column) → width_faults operator columns ≡ [] → is_empty columns ≡ false
unfolding width_faults
width-some operator columns e = no-fault (is_empty columns) 419 operator (both-none (fault_if (nat_lt 256 (length columns)) 412 operator) (fault_if (is_empty columns) 419 operator) e).1

-- An answer has no faults, one column at least, and what was made.
pub answer-ok : (operator : Place) (faults : List BindFault) (op : Op) (columns : List Column) (serial : Bool) (b : BoundOp) → answer operator faults op columns serial ≡ Ok b → (faults ≡ []) × (is_empty columns ≡ false) × (made op columns serial ≡ b)
unfolding answer
answer-ok operator faults op columns serial b e =
    let parts = unless-ok (faults ++ width_faults operator columns) (made op columns serial) b e in
    let none = both-none faults (width_faults operator columns) parts.0 in
    (none.0, width-some operator columns none.1, parts.1)

-- An operator is sound that fits where its answer has no faults.
pub answer-sound : (known : Known) (inside : Bool) (rows : Shape) (operator : Place) (faults : List BindFault) (op : Op) (columns : List Column) (serial : Bool) (b : BoundOp) (fits : Bool) → op_columns op (read_known known) inside rows.columns ≡ answer_if fits columns → (faults ≡ [] → (fits ≡ true) × AreColumns columns) → answer operator faults op columns serial ≡ Ok b → IsSoundOp known inside rows b
unfolding made
answer-sound known inside rows operator faults op columns serial b fits is when e =
    let parts = answer-ok operator faults op columns serial b e in
    let whole = when parts.0 in
    subst (IsSoundOp known inside rows) parts.2 (record { fits = is ∙ answer-when fits columns whole.0 parts.1 whole.1; columns = whole.1 })

-- Scopes.

pub no-columns : AreColumns []
no-columns = pairs-of different [] tt

pub scope-sound : (known : Known) (rows : Shape) (at : Position) → IsSoundKnown known → AreColumns rows.columns → IsSoundScope (scope_at known rows at)
unfolding scope_at
scope-sound known rows at h names = record { names = names; consts = h.consts; records = tt; moment = h.moment }

pub bare-scope-sound : (known : Known) (at : Position) → IsSoundKnown known → IsSoundScope (scope_at known no_rows at)
unfolding no_rows
bare-scope-sound known at h = scope-sound known no_rows at h no-columns

pub scope-reads : (known : Known) (rows : Shape) (at : Position) → read_scope (scope_at known rows at) ≡ scope_of rows.columns
unfolding scope_at
scope-reads known rows at = refl

-- Columns may stand in these positions.

pub window-free : takes_columns position.Window ≡ true
unfolding takes_columns
window-free = refl

pub plain-free : takes_columns position.Plain ≡ true
unfolding takes_columns
plain-free = refl

-- Expressions of a type.

of-type-ok : (want : Wanted) (place : Place) (t u : Typed) (b : Bool) → takes want t.kind ≡ b → (if b then Ok t else Err (fault.Refused 404 place)) ≡ Ok u → (b ≡ true) × (t ≡ u)
of-type-ok want place t u true is e = (refl, cc)
of-type-ok want place t u false is e = absurd cc

pub of-type-sound : (want : Wanted) (place : Place) (t u : Typed) → of_type want place t ≡ Ok u → (takes want u.kind ≡ true) × (t ≡ u)
unfolding of_type
of-type-sound want place t u e =
    let parts = of-type-ok want place t u (takes want t.kind) refl e in
    (subst (λ (v : Typed). takes want v.kind ≡ true) parts.1 parts.0, parts.1)

-- An expression of a type that is wanted is sound, and has such a type.
pub typed-sound : (want : Wanted) (e : Expr) (scope : Scope) (t : Typed) → IsSoundScope scope → typed_bound want e scope ≡ Ok t → IsSound scope t × (takes want t.kind ≡ true)
unfolding typed_bound
typed-sound want e scope t sound is =
    let first = after-ok (bound_expr e scope) (of_type want _) t is in
    let next = of-type-sound want _ first.0 t first.2 in
    (subst (IsSound scope) next.1 (bound-sound e scope first.0 sound first.1), next.0)

-- An expression fits as one of a type, where columns may stand.
pub fits-typed : (test : Kind → Bool) (known : Known) (rows : Shape) (at : Position) (t : Typed) → takes_columns at ≡ true → IsSound (scope_at known rows at) t → test t.kind ≡ true → fits_as test t.expr (scope_of rows.columns) at ≡ true
unfolding scope_at fits_as has_kind
fits-typed test known rows at t free h k = and_from (expr_fits t.expr (scope_of rows.columns) at) (has_kind test (kind_of t.expr rows.columns)) (h.fits free) (rw (h.kind) k)

-- Constants.

literal-ok : (operator : Place) (want : Wanted) (place : Place) (o : Option Lit) (l : Lit) → literal_of_type operator want place o ≡ Ok l → (o ≡ Some l) × (takes want l.kind ≡ true)
literal-ok operator want place None l e = absurd cc
literal-ok operator want place (Some m) l e = by_type (takes want m.kind) refl e
  where
    by_type : (b : Bool) → takes want m.kind ≡ b → (if b then Ok m else Err (fault.Refused 404 place)) ≡ Ok l → (Some m ≡ Some l) × (takes want l.kind ≡ true)
    by_type true is f = let same : m ≡ l = cc in (ap (λ (x : Lit). Some x) same, subst (λ (x : Lit). takes want x.kind ≡ true) same is)
    by_type false is f = absurd cc

-- The literal of a constant that is wanted fits, and has a type that is wanted.
pub wanted-sound : (operator : Place) (want : Wanted) (place : Place) (scope : Scope) (t : Typed) (l : Lit) → IsSound scope t → constant_wanted operator want place t ≡ Ok l → (literal_fits l ≡ true) × (takes want l.kind ≡ true)
unfolding constant_wanted
wanted-sound operator want place scope t l h e =
    let parts = literal-ok operator want place (constant_of t) l e in
    ((h.constant l parts.0).0, parts.1)

pub constant-sound : (operator : Place) (want : Wanted) (known : Known) (rows : Shape) (e : Expr) (l : Lit) → IsSoundKnown known → AreColumns rows.columns → constant_bound operator want known rows e ≡ Ok l → (literal_fits l ≡ true) × (takes want l.kind ≡ true)
unfolding constant_bound
constant-sound operator want known rows e l sound names is =
    let scope : Scope = scope_at known rows position.Constant in
    let first = after-ok (bound_expr e scope) (constant_wanted operator want _) l is in
    wanted-sound operator want _ scope first.0 l (bound-sound e scope first.0 (scope-sound known rows position.Constant sound names) first.1) first.2

-- Items.

pub kinds-one : (f : Aggregate) (args : List BExpr) (one : Kind) (columns : List Column) → has_one_result f args ≡ true → length (aggregate_result_kinds f args one columns) == 1 ≡ true
unfolding has_one_result aggregate_result_kinds
kinds-one aggregate.ArgMax args one columns e = ap (λ n. n == 1) (length-map args (λ a. typed a columns)) ∙ e
kinds-one aggregate.ArgMin args one columns e = ap (λ n. n == 1) (length-map args (λ a. typed a columns)) ∙ e
kinds-one aggregate.TakeAny args one columns e = ap (λ n. n == 1) (length-map args (λ a. typed a columns)) ∙ e
kinds-one _ args one columns e = refl

one-layer : (y : BExpr-F BExpr) (one : Kind) (columns : List Column) (scope : ReadScope) (at : Position) → expr_fits (roll-BExpr y) scope at ≡ true → length (result_kinds_step y one columns) == 1 ≡ true
one-layer (BExpr-F.Aggregate f args) one columns scope at e =
    let fits : expr_fits (V.Aggregate f args) scope at ≡ true = subst (λ (x : BExpr). expr_fits x scope at ≡ true) (V.rolls-Aggregate f args) e in
    kinds-one f args one columns (and_parts (has_one_result f args) (aggregate_fits f (checked_args args) scope at) (sym (fits-Aggregate f args scope at) ∙ fits)).0
one-layer (BExpr-F.Literal l) one columns scope at e = refl
one-layer (BExpr-F.Column n) one columns scope at e = refl
one-layer (BExpr-F.Step c) one columns scope at e = refl
one-layer (BExpr-F.Call f args) one columns scope at e = refl
one-layer (BExpr-F.Chain first links) one columns scope at e = refl
one-layer (BExpr-F.Path whole steps) one columns scope at e = refl
one-layer (BExpr-F.Window f args) one columns scope at e = refl

-- An expression that fits has one result column.
pub one-result : (e : BExpr) (columns : List Column) (scope : ReadScope) (at : Position) → expr_fits e scope at ≡ true → length (result_kinds e columns) == 1 ≡ true
unfolding result_kinds
one-result e columns scope at h = one-layer (out-BExpr e) (typed e columns) columns scope at (subst (λ (x : BExpr). expr_fits x scope at ≡ true) (sym (roll-out-BExpr e)) h)

-- One name for one result column.
pub single-name : (name : List ℕ) (e : BExpr) (columns : List Column) → length (result_kinds e columns) == 1 ≡ true → has_its_names (record { names = name ∷ []; expr = e }) columns ≡ true
unfolding has_its_names
single-name name e columns one = eq-eqb 1 (length (result_kinds e columns)) (sym (eqb-true (length (result_kinds e columns)) 1 one))

-- An item has its names where it has one given name and one result column, or the names that it has by itself.
pub named-well : (k : ℕ) (given : Option (List ℕ)) (e : BExpr) (columns : List Column) → length (result_kinds e columns) == 1 ≡ true → has_its_names (record { names = names_or_own k given e; expr = e }) columns ≡ true
unfolding has_its_names names_or_own
named-well k None e columns one = eq-eqb (length (item_names e k)) (length (result_kinds e columns)) (each_column_has_its_name e k columns)
named-well k (Some given) e columns one = single-name given e columns one

-- Items from left to right, by any step that keeps a test.
pub steps-pass : (test : BItem → Bool) (step : NamedItems → Item → Typed → NamedItems) (bind : Item → Outcome Typed) → ((d : NamedItems) (item : Item) (t : Typed) → bind item ≡ Ok t → list_all test d.items ≡ true → list_all test (step d item t).items ≡ true) → (items : List Item) (start : Outcome NamedItems) (done : NamedItems) → ((d : NamedItems) → start ≡ Ok d → list_all test d.items ≡ true) → fold (λ before item. before >>= λ d. bind item >>= λ t. Ok (step d item t)) start items ≡ Ok done → list_all test done.items ≡ true
steps-pass test step bind each [] start done h e = h done e
steps-pass test step bind each (item ∷ items) start done h e =
    steps-pass test step bind each items (start >>= λ d. bind item >>= λ t. Ok (step d item t)) done
    (λ d is.
    let first = after-ok start (λ b. bind item >>= λ t. Ok (step b item t)) d is in
    let next = after-ok (bind item) (λ t. Ok (step first.0 item t)) d first.2 in
    subst (λ (x : NamedItems). list_all test x.items ≡ true) (ok-same (step first.0 item next.0) d next.2) (each first.0 item next.0 next.1 (h first.0 first.1)))
    e

pub items-push : (test : BItem → Bool) (items : List BItem) (b : BItem) → list_all test items ≡ true → test b ≡ true → list_all test (items ++ b ∷ []) ≡ true
items-push test items b h e = list_all-append test items (b ∷ []) ∙ and_from (list_all test items) (list_all test (b ∷ [])) h (and_from (test b) true e refl)

-- Items pass a test, where each by itself does under its names.
pub items-pass : (test : BItem → Bool) (bind : Item → Outcome Typed) (n : ℕ) (items : List Item) (done : NamedItems) → ((item : Item) (t : Typed) (k : ℕ) → bind item ≡ Ok t → test (record { names = names_or_own k (given_name item) t.expr; expr = t.expr }) ≡ true) → items_from bind n items ≡ Ok done → list_all test done.items ≡ true
unfolding items_from no_items with_item
items-pass test bind n items done each e =
    steps-pass test with_item bind
    (λ d item t is h. items-push test d.items (record { names = names_or_own d.next (given_name item) t.expr; expr = t.expr }) h (each item t d.next is))
    items (Ok (no_items n)) done
    (λ d is. subst (λ (x : NamedItems). list_all test x.items ≡ true) (ok-same (no_items n) d is) refl)
    e

-- A sound expression as an item of one result column.
pub item-sound : (known : Known) (rows : Shape) (at : Position) (t : Typed) (k : ℕ) (given : Option (List ℕ)) → takes_columns at ≡ true → IsSound (scope_at known rows at) t → item_fits (scope_of rows.columns) at (record { names = names_or_own k given t.expr; expr = t.expr }) ≡ true
unfolding scope_at item_fits
item-sound known rows at t k given free h =
    let fits = h.fits free in
    and_from (expr_fits t.expr (scope_of rows.columns) at) (has_its_names (record { names = names_or_own k given t.expr; expr = t.expr }) rows.columns) fits
    (named-well k given t.expr rows.columns (one-result t.expr rows.columns (scope_of rows.columns) at fits))

-- Items that are bound where columns may stand fit.
pub items-sound : (known : Known) (rows : Shape) (at : Position) (items : List Item) (done : NamedItems) → takes_columns at ≡ true → IsSoundKnown known → AreColumns rows.columns → items_bound (scope_at known rows at) items ≡ Ok done → items_fit done.items rows.columns at ≡ true
unfolding items_bound item_in items_fit
items-sound known rows at items done free sound names e =
    let scope : Scope = scope_at known rows at in
    items-pass (item_fits (scope_of rows.columns) at) (item_in scope) 1 items done
    (λ item t k is. item-sound known rows at t k (given_name item) free (bound-sound item.value scope t (scope-sound known rows at sound names) is))
    e

-- As many places as items.
pub places-even : (scope : Scope) (items : List Item) (done : NamedItems) → items_bound scope items ≡ Ok done → length done.places ≡ length done.items
places-even scope items done e = items-even scope items (Ok done) done refl (record { holds = e })
