-- Calls of aggregates.
use Rattle.std.proofs.Common.{◌≡◌, Bool, true, false, List, [], ◌∷◌, length, refl, sym, ap, ◌∙◌, subst}
use Rattle.std.specs.Prelude.{◌&&◌, ◌||◌, ◌==◌, not, Option, Some, is_some}
use Rattle.std.specs.List.{list_all}
use Rattle.std.proofs.lemmas.Bool.{and_parts, and_from, not-false, not-true}
use Rattle.std.proofs.lemmas.Option.{same_Some}
use Rattle.kql_cells.specs.declared.value.Kind.{Kind}
use Rattle.kql_cells.specs.declared.value.Kind.TheVariants as kind
use Rattle.kql_functions.specs.Kinds.{has_order, same_kind}
use Rattle.kql_functions.specs.declared.aggregate.Aggregate.{Aggregate}
use Rattle.kql_functions.specs.declared.aggregate.Aggregate.TheVariants as aggregate
use Rattle.kql_lexer.specs.declared.place.Place.{Place}
use Rattle.kql_bound.specs.declared.expr.BExpr.{BExpr, out-BExpr, out-roll-BExpr}
use Rattle.kql_bound.specs.declared.expr.BExpr.TheOpen.{BExpr-F}
use Rattle.kql_bound.specs.declared.expr.BExpr.TheVariants as V
use Rattle.kql_meaning.specs.declared.position.Position.{Position}
use Rattle.kql_meaning.specs.declared.position.Position.TheVariants as position
use Rattle.kql_meaning.specs.Expressions.{aggregate_kind, first_kind, kind_of, kinds_in}
use Rattle.kql_meaning.specs.FittingExpressions.{Scope as ReadScope, aggregate_fits, aggregate_takes, best_of, call_or_expr_fits, call_or_expr_fits_step, checked_args, expr_fits, first_row_of, has_kind, is_addable, is_any, is_count, is_key, is_kind, is_of_series, is_plain_column, one_of, one_of_if, one_or_first_of, takes_aggregate, takes_columns}
use Rattle.kql_meaning.specs.Results.{has_one_result}
use Rattle.kql_meaning.proofs.ExpressionFitLaws.{aggregate-checked, fits-Aggregate}
use Rattle.kql_meaning.proofs.KindLaws.{kind-Aggregate}
use Rattle.bind_expr.specs.AggregateCalls.{aggregate_call, aggregate_forms, aggregate_given, aggregate_stands, aggregate_taken, aggregate_typed, best_forms, column_forms, first_kept, list_given, one_given, one_given_if, one_kept, one_kept_if}
use Rattle.bind_expr.specs.Arguments.{aggregate_position, inner_position}
use Rattle.bind_expr.specs.Forms.{is_column}
use Rattle.bind_expr.specs.KindTests.{meets}
use Rattle.bind_expr.specs.declared.scope.Scope.{Scope}
use Rattle.bind_expr.specs.GroupForms.{counts_badly, is_bad_count}
use Rattle.bind_expr_laws.specs.Scopes.{read_scope}
use Rattle.bind_expr_laws.proofs.Standing.{counts_well}
use Rattle.bind_expr_laws.proofs.Arguments.{HasArgs, args-parts}
use Rattle.bind_expr_laws.proofs.Constants.{open-fits}
use Rattle.bind_expr_laws.proofs.Outcomes.{Gives, gives-typed}
use Rattle.bind_expr_laws.proofs.Parts.{AreParts, IsBound, IsPart, fits_at}
use Rattle.bind_expr_laws.proofs.Shapes.{Args, KindTest, Spot}
use Rattle.bind_expr_laws.proofs.StandingSteps.{stands-Aggregate}
use Rattle.bind_expr_laws.proofs.Windows.{first-known, if-kind, kind-known, plain-column, same-turned}

-- What is asked of a type says what fitting asks of it.
abbrev Implies : KindTest → (Kind → Bool) → Type 0
Implies t test = (k : Kind) → meets t k ≡ true → test k ≡ true

abbrev ArePlain : Scope → List BExpr → List Kind → Type 0
ArePlain scope es ks = AreParts scope position.Plain es ks

known-kind : (scope : Scope) (e : BExpr) (k : Kind) (test : Kind → Bool) → IsPart scope position.Plain e k → test k ≡ true → has_kind test (kind_of e scope.schema) ≡ true
known-kind scope e k test h t = kind-known test (kind_of e scope.schema) k h.kind t

bool-known : (scope : Scope) (e : BExpr) (k : Kind) → IsPart scope position.Plain e k → same_kind k kind.Bool ≡ true → is_kind kind.Bool (kind_of e scope.schema) ≡ true
unfolding is_kind
bool-known scope e k h t = known-kind scope e k (same_kind kind.Bool) h (same-turned k kind.Bool t)

-- One argument, and one with a condition.

one-given : (scope : Scope) (t : KindTest) (given : Kind) (es : List BExpr) (ks : List Kind) (k : Kind) → ArePlain scope es ks → one_given t given ks ≡ Some k → (test : Kind → Bool) → Implies t test → (given ≡ k) × (one_of test es scope.schema ≡ true)
unfolding one_given one_of
one-given scope t given [] [] k h e test imp = absurd cc
one-given scope t given [] (j ∷ ks) k h e test imp = absurd h
one-given scope t given (x ∷ es) [] k h e test imp = absurd h
one-given scope t given (x ∷ []) (j ∷ []) k h e test imp = let q = if-kind (meets t j) given k e in (q.1, known-kind scope x j test h.0 (imp j q.0))
one-given scope t given (x ∷ []) (j ∷ m ∷ ks) k h e test imp = absurd h.1
one-given scope t given (x ∷ y ∷ es) (j ∷ []) k h e test imp = absurd h.1
one-given scope t given (x ∷ y ∷ es) (j ∷ m ∷ ks) k h e test imp = absurd cc

one-kept : (scope : Scope) (t : KindTest) (es : List BExpr) (ks : List Kind) (k : Kind) → ArePlain scope es ks → one_kept t ks ≡ Some k → (test : Kind → Bool) → Implies t test → (first_kind (kinds_in es scope.schema) ≡ Some k) × (one_of test es scope.schema ≡ true)
unfolding one_kept one_of
one-kept scope t [] [] k h e test imp = absurd cc
one-kept scope t [] (j ∷ ks) k h e test imp = absurd h
one-kept scope t (x ∷ es) [] k h e test imp = absurd h
one-kept scope t (x ∷ []) (j ∷ []) k h e test imp = let q = if-kind (meets t j) j k e in (first-known scope position.Plain x [] j k h.0 q.1, known-kind scope x j test h.0 (imp j q.0))
one-kept scope t (x ∷ []) (j ∷ m ∷ ks) k h e test imp = absurd h.1
one-kept scope t (x ∷ y ∷ es) (j ∷ []) k h e test imp = absurd h.1
one-kept scope t (x ∷ y ∷ es) (j ∷ m ∷ ks) k h e test imp = absurd cc

given-if : (scope : Scope) (t : KindTest) (given : Kind) (es : List BExpr) (ks : List Kind) (k : Kind) → ArePlain scope es ks → one_given_if t given ks ≡ Some k → (test : Kind → Bool) → Implies t test → (given ≡ k) × (one_of_if test es scope.schema ≡ true)
unfolding one_given_if one_of_if
given-if scope t given [] [] k h e test imp = absurd cc
given-if scope t given [] (j ∷ ks) k h e test imp = absurd h
given-if scope t given (x ∷ es) [] k h e test imp = absurd h
given-if scope t given (x ∷ []) (j ∷ []) k h e test imp = absurd cc
given-if scope t given (x ∷ []) (j ∷ m ∷ ks) k h e test imp = absurd h.1
given-if scope t given (x ∷ y ∷ es) (j ∷ []) k h e test imp = absurd h.1
given-if scope t given (x ∷ y ∷ []) (j ∷ m ∷ []) k h e test imp =
    let q = if-kind (meets t j && same_kind m kind.Bool) given k e in
    let both = and_parts (meets t j) (same_kind m kind.Bool) q.0 in
    (q.1, and_from _ _ (known-kind scope x j test h.0 (imp j both.0)) (bool-known scope y m h.1.0 both.1))
given-if scope t given (x ∷ y ∷ []) (j ∷ m ∷ o ∷ ks) k h e test imp = absurd h.1.1
given-if scope t given (x ∷ y ∷ z ∷ es) (j ∷ m ∷ []) k h e test imp = absurd h.1.1
given-if scope t given (x ∷ y ∷ z ∷ es) (j ∷ m ∷ o ∷ ks) k h e test imp = absurd cc

kept-if : (scope : Scope) (t : KindTest) (es : List BExpr) (ks : List Kind) (k : Kind) → ArePlain scope es ks → one_kept_if t ks ≡ Some k → (test : Kind → Bool) → Implies t test → (first_kind (kinds_in es scope.schema) ≡ Some k) × (one_of_if test es scope.schema ≡ true)
unfolding one_kept_if one_of_if
kept-if scope t [] [] k h e test imp = absurd cc
kept-if scope t [] (j ∷ ks) k h e test imp = absurd h
kept-if scope t (x ∷ es) [] k h e test imp = absurd h
kept-if scope t (x ∷ []) (j ∷ []) k h e test imp = absurd cc
kept-if scope t (x ∷ []) (j ∷ m ∷ ks) k h e test imp = absurd h.1
kept-if scope t (x ∷ y ∷ es) (j ∷ []) k h e test imp = absurd h.1
kept-if scope t (x ∷ y ∷ []) (j ∷ m ∷ []) k h e test imp =
    let q = if-kind (meets t j && same_kind m kind.Bool) j k e in
    let both = and_parts (meets t j) (same_kind m kind.Bool) q.0 in
    (first-known scope position.Plain x (y ∷ []) j k h.0 q.1, and_from _ _ (known-kind scope x j test h.0 (imp j both.0)) (bool-known scope y m h.1.0 both.1))
kept-if scope t (x ∷ y ∷ []) (j ∷ m ∷ o ∷ ks) k h e test imp = absurd h.1.1
kept-if scope t (x ∷ y ∷ z ∷ es) (j ∷ m ∷ []) k h e test imp = absurd h.1.1
kept-if scope t (x ∷ y ∷ z ∷ es) (j ∷ m ∷ o ∷ ks) k h e test imp = absurd cc

-- Lists and sets.

some-kind : (scope : Scope) (e : BExpr) (k : Kind) → IsPart scope position.Plain e k → is_some (kind_of e scope.schema) ≡ true
some-kind scope e k h = rw h.kind refl

listed : (scope : Scope) (es : List BExpr) (ks : List Kind) (k : Kind) → ArePlain scope es ks → list_given ks ≡ Some k → (kind.Dynamic ≡ k) × (is_bad_count es ≡ false → one_or_first_of es scope.schema ≡ true)
unfolding list_given one_or_first_of
listed scope [] [] k h e = absurd cc
listed scope [] (j ∷ ks) k h e = absurd h
listed scope (x ∷ es) [] k h e = absurd h
listed scope (x ∷ []) (j ∷ []) k h e = (same_Some kind.Dynamic k e, λ c. some-kind scope x j h.0)
listed scope (x ∷ []) (j ∷ m ∷ ks) k h e = absurd h.1
listed scope (x ∷ y ∷ es) (j ∷ []) k h e = absurd h.1
listed scope (x ∷ y ∷ []) (j ∷ m ∷ []) k h e = ((if-kind (same_kind m kind.Long) kind.Dynamic k e).1, λ c. and_from _ _ (some-kind scope x j h.0) (not-false (is_count y) c))
listed scope (x ∷ y ∷ []) (j ∷ m ∷ o ∷ ks) k h e = absurd h.1.1
listed scope (x ∷ y ∷ z ∷ es) (j ∷ m ∷ []) k h e = absurd h.1.1
listed scope (x ∷ y ∷ z ∷ es) (j ∷ m ∷ o ∷ ks) k h e = absurd cc

-- Columns behind a first argument, and columns alone.

columns-there : (scope : Scope) (es : List BExpr) (ks : List Kind) → ArePlain scope es ks → list_all is_column es ≡ true → list_all (is_plain_column scope.schema) es ≡ true
columns-there scope [] ks h t = refl
columns-there scope (x ∷ es) [] h t = absurd h
columns-there scope (x ∷ es) (j ∷ ks) h t =
    let both = and_parts (is_column x) (list_all is_column es) t in
    and_from (is_plain_column scope.schema x) (list_all (is_plain_column scope.schema) es) (plain-column scope x j h.0 both.0) (columns-there scope es ks h.1 both.1)

behind-first : (star : Bool) (e : BExpr) (cs : List BExpr) → best_forms star (e ∷ cs) ≡ true → list_all is_column cs ≡ true
unfolding best_forms
behind-first star e [] t = refl
behind-first star e (c ∷ cs) t = t

best-kept : (scope : Scope) (star : Bool) (t : KindTest) (es : List BExpr) (ks : List Kind) (k : Kind) → ArePlain scope es ks → best_forms star es ≡ true → first_kept t ks ≡ Some k → Implies t has_order → (first_kind (kinds_in es scope.schema) ≡ Some k) × (best_of es scope.schema ≡ true)
unfolding first_kept best_of
best-kept scope star t [] [] k h form e imp = absurd cc
best-kept scope star t [] (j ∷ ks) k h form e imp = absurd h
best-kept scope star t (x ∷ es) [] k h form e imp = absurd h
best-kept scope star t (x ∷ es) (j ∷ ks) k h form e imp =
    let q = if-kind (meets t j) j k e in
    (first-known scope position.Plain x es j k h.0 q.1, and_from _ _ (known-kind scope x j has_order h.0 (imp j q.0)) (columns-there scope es ks h.1 (behind-first star x es form)))

any-kept : (scope : Scope) (t : KindTest) (es : List BExpr) (ks : List Kind) (k : Kind) → ArePlain scope es ks → column_forms es ≡ true → first_kept t ks ≡ Some k → (first_kind (kinds_in es scope.schema) ≡ Some k) × (first_row_of es scope.schema ≡ true)
unfolding first_kept first_row_of column_forms
any-kept scope t [] [] k h form e = absurd cc
any-kept scope t [] (j ∷ ks) k h form e = absurd h
any-kept scope t (x ∷ es) [] k h form e = absurd h
any-kept scope t (x ∷ es) (j ∷ ks) k h form e =
    let q = if-kind (meets t j) j k e in
    (first-known scope position.Plain x es j k h.0 q.1, columns-there scope (x ∷ es) (j ∷ ks) h form)

-- Any of them.

abbrev Takes : Scope → Aggregate → List BExpr → Kind → Type 0
Takes scope f es k = (aggregate_kind f (kinds_in es scope.schema) ≡ Some k) × (counts_badly f es ≡ false → aggregate_takes f es scope.schema ≡ true)

given-takes : (scope : Scope) (f : Aggregate) (es : List BExpr) (given k : Kind) (b : Bool) → (given ≡ k) × (b ≡ true) → (Some given ≡ Some k) × (counts_badly f es ≡ false → b ≡ true)
given-takes scope f es given k b q = (ap (λ (x : Kind). Some x) q.0, λ c. q.1)

kept-takes : (f : Aggregate) (es : List BExpr) (o : Option Kind) (k : Kind) (b : Bool) → (o ≡ Some k) × (b ≡ true) → (o ≡ Some k) × (counts_badly f es ≡ false → b ≡ true)
kept-takes f es o k b q = (q.0, λ c. q.1)

by-bool : (k : Kind) → same_kind k kind.Bool ≡ true → same_kind kind.Bool k ≡ true
by-bool k e = same-turned k kind.Bool e

by-long : (k : Kind) → same_kind k kind.Long ≡ true → same_kind kind.Long k ≡ true
by-long k e = same-turned k kind.Long e

args-take : (scope : Scope) (f : Aggregate) (star : Bool) (es : List BExpr) (ks : List Kind) (k : Kind) → ArePlain scope es ks → aggregate_forms f star es ≡ true → aggregate_given f ks ≡ Some k → Takes scope f es k
unfolding aggregate_forms aggregate_given aggregate_kind aggregate_takes meets is_any
args-take scope aggregate.Count star es ks k h form e = (ap (λ (x : Kind). Some x) (if-kind (length ks == 0) kind.Long k e).1, λ c. form)
args-take scope aggregate.CountIf star es ks k h form e = given-takes scope aggregate.CountIf es kind.Long k _ (one-given scope _ kind.Long es ks k h e (same_kind kind.Bool) by-bool)
args-take scope aggregate.CountDistinct star es ks k h form e = given-takes scope aggregate.CountDistinct es kind.Long k _ (one-given scope _ kind.Long es ks k h e is_key (λ j t. t))
args-take scope aggregate.CountDistinctIf star es ks k h form e = given-takes scope aggregate.CountDistinctIf es kind.Long k _ (given-if scope _ kind.Long es ks k h e is_key (λ j t. t))
args-take scope aggregate.Sum star es ks k h form e = kept-takes aggregate.Sum es _ k _ (one-kept scope _ es ks k h e is_addable (λ j t. t))
args-take scope aggregate.SumIf star es ks k h form e = kept-takes aggregate.SumIf es _ k _ (kept-if scope _ es ks k h e is_addable (λ j t. t))
args-take scope aggregate.Min star es ks k h form e = kept-takes aggregate.Min es _ k _ (one-kept scope _ es ks k h e has_order (λ j t. t))
args-take scope aggregate.MinIf star es ks k h form e = kept-takes aggregate.MinIf es _ k _ (kept-if scope _ es ks k h e has_order (λ j t. t))
args-take scope aggregate.Max star es ks k h form e = kept-takes aggregate.Max es _ k _ (one-kept scope _ es ks k h e has_order (λ j t. t))
args-take scope aggregate.MaxIf star es ks k h form e = kept-takes aggregate.MaxIf es _ k _ (kept-if scope _ es ks k h e has_order (λ j t. t))
args-take scope aggregate.MakeList star es ks k h form e = let q = listed scope es ks k h e in (ap (λ (x : Kind). Some x) q.0, q.1)
args-take scope aggregate.MakeListIf star es ks k h form e = given-takes scope aggregate.MakeListIf es kind.Dynamic k _ (given-if scope _ kind.Dynamic es ks k h e is_any (λ j t. t))
args-take scope aggregate.MakeSet star es ks k h form e = let q = listed scope es ks k h e in (ap (λ (x : Kind). Some x) q.0, q.1)
args-take scope aggregate.MakeSetIf star es ks k h form e = given-takes scope aggregate.MakeSetIf es kind.Dynamic k _ (given-if scope _ kind.Dynamic es ks k h e is_any (λ j t. t))
args-take scope aggregate.ArgMax star es ks k h form e = kept-takes aggregate.ArgMax es _ k _ (best-kept scope star _ es ks k h form e (λ j t. t))
args-take scope aggregate.ArgMin star es ks k h form e = kept-takes aggregate.ArgMin es _ k _ (best-kept scope star _ es ks k h form e (λ j t. t))
args-take scope aggregate.TakeAny star es ks k h form e = kept-takes aggregate.TakeAny es _ k _ (any-kept scope _ es ks k h form e)
args-take scope aggregate.BinaryAllAnd star es ks k h form e = given-takes scope aggregate.BinaryAllAnd es kind.Long k _ (one-given scope _ kind.Long es ks k h e (same_kind kind.Long) by-long)
args-take scope aggregate.BinaryAllOr star es ks k h form e = given-takes scope aggregate.BinaryAllOr es kind.Long k _ (one-given scope _ kind.Long es ks k h e (same_kind kind.Long) by-long)
args-take scope aggregate.BinaryAllXor star es ks k h form e = given-takes scope aggregate.BinaryAllXor es kind.Long k _ (one-given scope _ kind.Long es ks k h e (same_kind kind.Long) by-long)

-- The call.

all-fit : (scope : Scope) (es : List BExpr) (ks : List Kind) → ArePlain scope es ks → list_all (λ e. expr_fits e (read_scope scope) position.Plain) es ≡ true
unfolding takes_columns
all-fit scope [] ks h = refl
all-fit scope (e ∷ es) [] h = absurd h
all-fit scope (e ∷ es) (k ∷ ks) h = and_from (expr_fits e (read_scope scope) position.Plain) (list_all (λ e. expr_fits e (read_scope scope) position.Plain) es) (open-fits scope position.Plain e k h.0 refl) (all-fit scope es ks h.1)

-- Lists and sets stand in `Group` alone.
counted-by : (at : Position) (f : Aggregate) (es : List BExpr) → takes_aggregate at f ≡ true → counts_well at f es ≡ true → counts_badly f es ≡ false
unfolding takes_aggregate is_of_series
counted-by position.Group f es takes c = not-true (counts_badly f es) c
counted-by position.Series aggregate.MakeList es takes c = absurd cc
counted-by position.Series aggregate.MakeSet es takes c = absurd cc
counted-by position.Series _ es takes c = refl
counted-by position.Plain f es takes c = absurd cc
counted-by position.Window f es takes c = absurd cc
counted-by position.Term f es takes c = absurd cc
counted-by position.Constant f es takes c = absurd cc

whole-fits : (b : Bool) (f : Aggregate) (es : List BExpr) (scope : ReadScope) (at : Position) → aggregate_fits f (checked_args es) scope at ≡ true → (b || has_one_result f es) ≡ true → fits_at b (V.Aggregate f es) scope at ≡ true
unfolding call_or_expr_fits
whole-fits true f es scope at h one =
    let out = ap out-BExpr (sym (V.rolls-Aggregate f es)) ∙ out-roll-BExpr (BExpr-F.Aggregate f es) in
    ap (λ (g : BExpr-F BExpr). call_or_expr_fits_step g (expr_fits (V.Aggregate f es) scope at) scope at) out ∙ h
whole-fits false f es scope at h one = fits-Aggregate f es scope at ∙ and_from _ _ one h

call-bound : (scope : Scope) (spot : Spot) (f : Aggregate) (star : Bool) (es : List BExpr) (ks : List Kind) (k : Kind) → ArePlain scope es ks → takes_aggregate spot.position f ≡ true → aggregate_forms f star es ≡ true → (spot.alone || has_one_result f es) ≡ true → aggregate_given f ks ≡ Some k → IsBound scope spot (record { expr = V.Aggregate f es; kind = k })
call-bound scope spot f star es ks k h takes form one e =
    let q = args-take scope f star es ks k h form e in
    record {
      kind = kind-Aggregate f es scope.schema ∙ q.0;
      fits = λ s.
          let counted = counted-by spot.position f es takes (sym (stands-Aggregate spot.position f es) ∙ s) in
          let fit = aggregate-checked f es (read_scope scope) spot.position ∙ and_from _ _ takes (and_from _ _ (all-fit scope es ks h) (q.1 counted)) in
          whole-fits spot.alone f es (read_scope scope) spot.position fit one;
    }

inner-plain : (scope : Scope) (f : Aggregate) (at : Position) (a : Args) → takes_aggregate at f ≡ true → HasArgs scope (aggregate_position f at) (aggregate_position f at) a → a.has_stray ≡ false → ArePlain scope a.exprs a.kinds
unfolding aggregate_position
inner-plain scope f at a takes h s = subst (λ (b : Bool). AreParts scope (inner_position at b) a.exprs a.kinds) takes (args-parts scope (inner_position at (takes_aggregate at f)) a.exprs a.kinds (h s))

typed-as : (scope : Scope) (spot : Spot) (place : Place) (f : Aggregate) (a : Args) (b : Bool) → HasArgs scope (aggregate_position f spot.position) (aggregate_position f spot.position) a → takes_aggregate spot.position f ≡ true → aggregate_stands f a spot ≡ b → Gives (IsBound scope spot) (aggregate_typed place f a b)
unfolding aggregate_stands
typed-as scope spot place f a false h takes e = record { holds = tt }
typed-as scope spot place f a true h takes e =
    let one = and_parts (not a.has_stray) (aggregate_forms f a.has_star a.exprs && (spot.alone || has_one_result f a.exprs)) e in
    let two = and_parts (aggregate_forms f a.has_star a.exprs) (spot.alone || has_one_result f a.exprs) one.1 in
    let plain = inner-plain scope f spot.position a takes h (not-true a.has_stray one.0) in
    gives-typed (IsBound scope spot) place (V.Aggregate f a.exprs) (aggregate_given f a.kinds)
    (λ k given. call-bound scope spot f a.has_star a.exprs a.kinds k plain takes two.0 two.1 given)

taken-as : (scope : Scope) (spot : Spot) (place : Place) (f : Aggregate) (a : Args) (b : Bool) → HasArgs scope (aggregate_position f spot.position) (aggregate_position f spot.position) a → takes_aggregate spot.position f ≡ b → Gives (IsBound scope spot) (aggregate_taken place f a spot b)
taken-as scope spot place f a true h takes = typed-as scope spot place f a (aggregate_stands f a spot) h takes refl
taken-as scope spot place f a false h takes = record { holds = tt }

pub aggregate-bound : (scope : Scope) (spot : Spot) (place : Place) (f : Aggregate) (a : Args) → HasArgs scope (aggregate_position f spot.position) (aggregate_position f spot.position) a → Gives (IsBound scope spot) (aggregate_call place f a spot)
unfolding aggregate_call
aggregate-bound scope spot place f a h = taken-as scope spot place f a (takes_aggregate spot.position f) h refl
