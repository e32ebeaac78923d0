-- Calls of window functions.
use Rattle.std.proofs.Common.{◌≡◌, ℕ, pos, negsuc, Bool, true, false, List, [], ◌∷◌, refl, sym, ap, ◌∙◌, subst}
use Rattle.std.specs.Prelude.{◌&&◌, not, Option, None, Some, is_some}
use Rattle.std.proofs.lemmas.Bool.{and_parts, and_from, not-true}
use Rattle.std.proofs.lemmas.Option.{same_Some}
use Rattle.kql_cells.specs.Values.{IsOfKind}
use Rattle.kql_cells.specs.declared.value.Kind.{Kind}
use Rattle.kql_cells.specs.declared.value.Kind.TheVariants as kind
use Rattle.kql_cells.specs.declared.value.Value.{Value}
use Rattle.kql_cells.specs.declared.value.Value.TheVariants as value
use Rattle.kql_functions.specs.Kinds.{same_kind}
use Rattle.kql_functions.specs.declared.window.Window.{Window}
use Rattle.kql_functions.specs.declared.window.Window.TheVariants as window
use Rattle.kql_scalar_fns.proofs.KindLaws.{same-kind}
use Rattle.kql_lexer.specs.declared.place.Place.{Place}
use Rattle.kql_bound.specs.declared.expr.BExpr.{BExpr, out-BExpr, roll-BExpr, roll-out-BExpr}
use Rattle.kql_bound.specs.declared.expr.BExpr.TheOpen.{BExpr-F}
use Rattle.kql_bound.specs.declared.expr.BExpr.TheVariants as V
use Rattle.kql_bound.specs.declared.literal.Lit.{Lit}
use Rattle.kql_meaning.specs.declared.position.Position.{Position}
use Rattle.kql_meaning.specs.declared.position.Position.TheVariants as position
use Rattle.kql_meaning.specs.Expressions.{first_kind, kind_of, kinds_in, window_kind}
use Rattle.kql_meaning.specs.FittingExpressions.{Checked, checked_args, column_of, column_step, expr_fits, has_kind, is_addable, is_constant_of, is_count, is_count_literal, is_count_value, is_kind, is_plain_column, is_typed_literal, literal_of, look_fits, restart_fits, row_number_fits, running_sum_fits, stands_in_if_column, takes_columns, takes_window, term_fits, window_fits}
use Rattle.kql_meaning.specs.Literals.{literal_fits}
use Rattle.kql_meaning.specs.Tables.{has_column}
use Rattle.kql_meaning.proofs.ExpressionFitLaws.{exprs-checked, fits-Column, fits-Window}
use Rattle.kql_meaning.proofs.KindLaws.{kind-Window}
use Rattle.bind_expr.specs.Arguments.{window_first, window_next}
use Rattle.bind_expr.specs.Forms.{is_column, is_literal}
use Rattle.bind_expr.specs.KindTests.{kind_if}
use Rattle.bind_expr.specs.Windows.{is_distance, is_distance_literal, is_distance_value, look_forms, look_given, number_forms, number_given, running_given, window_call, window_forms, window_given, window_serial, window_standing, window_typed}
use Rattle.bind_expr.specs.declared.scope.Scope.{Scope}
use Rattle.bind_expr_laws.specs.Scopes.{read_scope}
use Rattle.bind_expr_laws.proofs.Arguments.{AreArgs, HasArgs}
use Rattle.bind_expr_laws.proofs.Calls.{literal-known, literal-parts}
use Rattle.bind_expr_laws.proofs.Constants.{open-fits}
use Rattle.bind_expr_laws.proofs.Outcomes.{Gives, gives-typed}
use Rattle.bind_expr_laws.proofs.Parts.{IsBound, IsPart, part-bound}
use Rattle.bind_expr_laws.proofs.Shapes.{Args, Spot}

-- Parts that are columns, and literals.

column-roll : (f : BExpr-F BExpr) (n : List ℕ) → column_step f ≡ Some n → roll-BExpr f ≡ V.Column n
column-roll (BExpr-F.Column m) n e = let same : m ≡ n = cc in V.rolls-Column m ∙ ap V.Column same
column-roll _ n e = absurd cc

column-is : (e : BExpr) (n : List ℕ) → column_of e ≡ Some n → e ≡ V.Column n
unfolding column_of
column-is e n h = sym (roll-out-BExpr e) ∙ column-roll (out-BExpr e) n h

column-there : (scope : Scope) (e : BExpr) (k : Kind) (o : Option (List ℕ)) → IsPart scope position.Plain e k → column_of e ≡ o → is_some o ≡ true → stands_in_if_column scope.schema o ≡ true
unfolding stands_in_if_column takes_columns
column-there scope e k None h is some = absurd cc
column-there scope e k (Some n) h is some =
    let part = subst (λ (x : BExpr). IsPart scope position.Plain x k) (column-is e n is) h in
    let fits = sym (fits-Column n (read_scope scope) position.Plain) ∙ open-fits scope position.Plain (V.Column n) k part refl in
    (and_parts true (has_column n scope.schema) fits).1

pub plain-column : (scope : Scope) (e : BExpr) (k : Kind) → IsPart scope position.Plain e k → is_column e ≡ true → is_plain_column scope.schema e ≡ true
unfolding is_column is_plain_column
plain-column scope e k h some = column-there scope e k (column_of e) h refl some

count-known : (v : Value) → IsOfKind kind.Long v → is_distance_value v ≡ true → is_count_value v ≡ true
unfolding is_count_value
count-known value.Null h e = absurd cc
count-known (value.Long (pos n)) h e = refl
count-known (value.Long (negsuc n)) h e = absurd cc
count-known (value.Bool b) h e = absurd h
count-known (value.Text t) h e = absurd h
count-known (value.Moment n) h e = absurd h
count-known (value.Span n) h e = absurd h
count-known (value.Dynamic d) h e = absurd h

count-part : (scope : Scope) (e : BExpr) (o : Option Lit) → IsPart scope position.Plain e kind.Long → literal_of e ≡ o → is_distance_literal o ≡ true → is_count_literal o ≡ true
unfolding is_count_literal
count-part scope e None h is t = absurd cc
count-part scope e (Some l) h is t =
    let q = literal-parts scope position.Plain e kind.Long l h is in
    and_from (same_kind l.kind kind.Long) (is_count_value l.value) (rw q.1 refl) (count-known l.value (subst (λ (k : Kind). IsOfKind k l.value) q.1 (literal-known l q.0)) t)

count-there : (scope : Scope) (e : BExpr) (k : Kind) → IsPart scope position.Plain e k → is_distance e ≡ true → same_kind k kind.Long ≡ true → is_count e ≡ true
unfolding is_distance is_count
count-there scope e k h t long = count-part scope e (literal_of e) (subst (IsPart scope position.Plain e) (same-kind k kind.Long long) h) refl t

typed-literal : (scope : Scope) (at : Position) (e : BExpr) (k j : Kind) (o : Option Lit) → IsPart scope at e k → literal_of e ≡ o → is_some o ≡ true → same_kind k j ≡ true → is_typed_literal (Some j) o ≡ true
unfolding is_typed_literal is_kind has_kind
typed-literal scope at e k j None h is some same = absurd cc
typed-literal scope at e k j (Some l) h is some same =
    let q = literal-parts scope at e k l h is in
    and_from (literal_fits l) (same_kind l.kind j) q.0 (rw q.1 same)

constant-there : (scope : Scope) (at : Position) (e : BExpr) (k j : Kind) → IsPart scope at e k → is_literal e ≡ true → same_kind k j ≡ true → is_constant_of (Some j) e ≡ true
unfolding is_literal is_constant_of
constant-there scope at e k j h some same = typed-literal scope at e k j (literal_of e) h refl some same

pub same-turned : (a b : Kind) → same_kind a b ≡ true → same_kind b a ≡ true
same-turned a b e = let same = same-kind a b e in subst (λ (k : Kind). same_kind k a ≡ true) same (subst (λ (k : Kind). same_kind a k ≡ true) (sym same) e)

pub kind-known : (test : Kind → Bool) (o : Option Kind) (k : Kind) → o ≡ Some k → test k ≡ true → has_kind test o ≡ true
unfolding has_kind
kind-known test o k e t = rw e t

pub if-kind : (b : Bool) (a k : Kind) → kind_if b a ≡ Some k → (b ≡ true) × (a ≡ k)
if-kind true a k e = (refl, cc)
if-kind false a k e = absurd cc

-- `prev` and `next`.

pub first-known : (scope : Scope) (at : Position) (e : BExpr) (es : List BExpr) (j k : Kind) → IsPart scope at e j → j ≡ k → first_kind (kinds_in (e ∷ es) scope.schema) ≡ Some k
unfolding first_kind kinds_in
first-known scope at e es j k h same = h.kind ∙ ap (λ (x : Kind). Some x) same

abbrev LooksWell : Scope → List BExpr → Kind → Type 0
LooksWell scope es k = (first_kind (kinds_in es scope.schema) ≡ Some k) × (look_fits es (read_scope scope) ≡ true)

look-part : (scope : Scope) (es : List BExpr) (ks : List Kind) (k : Kind) → look_forms es ≡ true → AreArgs scope position.Plain position.Plain es ks → look_given ks ≡ Some k → LooksWell scope es k
unfolding look_forms look_given look_fits
look-part scope [] ks k t h e = absurd cc
look-part scope (c ∷ es) [] k t h e = absurd h
look-part scope (c ∷ []) (j ∷ []) k t h e = (first-known scope position.Plain c [] j k h.0 (same_Some j k e), plain-column scope c j h.0 t)
look-part scope (c ∷ []) (j ∷ m ∷ ks) k t h e = absurd h.1
look-part scope (c ∷ n ∷ es) (j ∷ []) k t h e = absurd h.1
look-part scope (c ∷ n ∷ []) (j ∷ m ∷ []) k t h e =
    let form = and_parts (is_column c) (is_distance n) t in
    let q = if-kind (same_kind m kind.Long) j k e in
    (first-known scope position.Plain c (n ∷ []) j k h.0 q.1, and_from _ _ (plain-column scope c j h.0 form.0) (count-there scope n m h.1.0 form.1 q.0))
look-part scope (c ∷ n ∷ []) (j ∷ m ∷ o ∷ ks) k t h e = absurd h.1.1
look-part scope (c ∷ n ∷ d ∷ es) (j ∷ m ∷ []) k t h e = absurd h.1.1
look-part scope (c ∷ n ∷ d ∷ []) (j ∷ m ∷ o ∷ []) k t h e =
    let form = and_parts (is_column c) (is_distance n && is_literal d) t in
    let more = and_parts (is_distance n) (is_literal d) form.1 in
    let q = if-kind (same_kind m kind.Long && same_kind o j) j k e in
    let types = and_parts (same_kind m kind.Long) (same_kind o j) q.0 in (
      first-known scope position.Plain c (n ∷ d ∷ []) j k h.0 q.1,
      and_from _ _ (plain-column scope c j h.0 form.0) (and_from _ _ (count-there scope n m h.1.0 more.0 types.0)
          (rw h.0.kind (constant-there scope position.Plain d o j h.1.1.0 more.1 types.1))),
    )
look-part scope (c ∷ n ∷ d ∷ []) (j ∷ m ∷ o ∷ p ∷ ks) k t h e = absurd h.1.1.1
look-part scope (c ∷ n ∷ d ∷ x ∷ es) ks k t h e = absurd cc

-- `row_cumsum` and `row_number`.

abbrev checked : BExpr → Checked
checked e = (e, expr_fits e)

term-there : (scope : Scope) (e : BExpr) (k : Kind) → IsPart scope position.Term e k → is_addable k ≡ true → term_fits (checked e) (read_scope scope) ≡ true
unfolding term_fits takes_columns
term-there scope e k h t = and_from _ _ (open-fits scope position.Term e k h refl) (kind-known is_addable (kind_of e scope.schema) k h.kind t)

restart-there : (scope : Scope) (e : BExpr) (k : Kind) → IsPart scope position.Term e k → same_kind k kind.Bool ≡ true → restart_fits (checked e) (read_scope scope) ≡ true
unfolding restart_fits is_kind takes_columns
restart-there scope e k h t = and_from _ _ (open-fits scope position.Term e k h refl) (kind-known (same_kind kind.Bool) (kind_of e scope.schema) k h.kind (same-turned k kind.Bool t))

running-part : (scope : Scope) (es : List BExpr) (ks : List Kind) (k : Kind) → AreArgs scope position.Term position.Term es ks → running_given ks ≡ Some k → (first_kind (kinds_in es scope.schema) ≡ Some k) × (running_sum_fits (checked_args es) (read_scope scope) ≡ true)
unfolding running_given running_sum_fits checked_args
running-part scope [] [] k h e = absurd cc
running-part scope [] (j ∷ ks) k h e = absurd h
running-part scope (c ∷ es) [] k h e = absurd h
running-part scope (c ∷ []) (j ∷ []) k h e =
    let q = if-kind (is_addable j) j k e in
    (first-known scope position.Term c [] j k h.0 q.1, term-there scope c j h.0 q.0)
running-part scope (c ∷ []) (j ∷ m ∷ ks) k h e = absurd h.1
running-part scope (c ∷ r ∷ es) (j ∷ []) k h e = absurd h.1
running-part scope (c ∷ r ∷ []) (j ∷ m ∷ []) k h e =
    let q = if-kind (is_addable j && same_kind m kind.Bool) j k e in
    let types = and_parts (is_addable j) (same_kind m kind.Bool) q.0 in
    (first-known scope position.Term c (r ∷ []) j k h.0 q.1, and_from _ _ (term-there scope c j h.0 types.0) (restart-there scope r m h.1.0 types.1))
running-part scope (c ∷ r ∷ []) (j ∷ m ∷ o ∷ ks) k h e = absurd h.1.1
running-part scope (c ∷ r ∷ x ∷ es) (j ∷ m ∷ []) k h e = absurd h.1.1
running-part scope (c ∷ r ∷ x ∷ es) (j ∷ m ∷ o ∷ ks) k h e = absurd cc

number-part : (scope : Scope) (es : List BExpr) (ks : List Kind) (k : Kind) → number_forms es ≡ true → AreArgs scope position.Plain position.Term es ks → number_given ks ≡ Some k → (kind.Long ≡ k) × (row_number_fits (checked_args es) (read_scope scope) ≡ true)
unfolding number_forms number_given row_number_fits checked_args
number-part scope [] [] k t h e = (same_Some kind.Long k e, refl)
number-part scope [] (j ∷ ks) k t h e = absurd h
number-part scope (c ∷ es) [] k t h e = absurd h
number-part scope (c ∷ []) (j ∷ []) k t h e =
    let q = if-kind (same_kind j kind.Long) kind.Long k e in
    (q.1, constant-there scope position.Plain c j kind.Long h.0 t q.0)
number-part scope (c ∷ []) (j ∷ m ∷ ks) k t h e = absurd h.1
number-part scope (c ∷ r ∷ es) (j ∷ []) k t h e = absurd h.1
number-part scope (c ∷ r ∷ []) (j ∷ m ∷ []) k t h e =
    let q = if-kind (same_kind j kind.Long && same_kind m kind.Bool) kind.Long k e in
    let types = and_parts (same_kind j kind.Long) (same_kind m kind.Bool) q.0 in
    (q.1, and_from _ _ (constant-there scope position.Plain c j kind.Long h.0 t types.0) (restart-there scope r m h.1.0 types.1))
number-part scope (c ∷ r ∷ []) (j ∷ m ∷ o ∷ ks) k t h e = absurd h.1.1
number-part scope (c ∷ r ∷ x ∷ es) (j ∷ m ∷ []) k t h e = absurd h.1.1
number-part scope (c ∷ r ∷ x ∷ es) (j ∷ m ∷ o ∷ ks) k t h e = absurd cc

-- Any of them.

abbrev FitsWindow : Scope → Window → List BExpr → Kind → Type 0
FitsWindow scope f es k = (window_kind f (kinds_in es scope.schema) ≡ Some k) × (window_fits f (checked_args es) (read_scope scope) ≡ true)

window-args : (scope : Scope) (f : Window) (es : List BExpr) (ks : List Kind) (k : Kind) → window_forms f es ≡ true → AreArgs scope (window_first f).position (window_next f).position es ks → window_given f ks ≡ Some k → FitsWindow scope f es k
unfolding window_first window_next window_forms window_given window_kind window_fits
window-args scope window.Prev es ks k t h e = let q = look-part scope es ks k t h e in (q.0, rw (exprs-checked es) q.1)
window-args scope window.Next es ks k t h e = let q = look-part scope es ks k t h e in (q.0, rw (exprs-checked es) q.1)
window-args scope window.RowCumsum es ks k t h e = running-part scope es ks k h e
window-args scope window.RowNumber es ks k t h e = let q = number-part scope es ks k t h e in (ap (λ (x : Kind). Some x) q.0, q.1)

typed-as : (scope : Scope) (spot : Spot) (place : Place) (f : Window) (a : Args) (b : Bool) → HasArgs scope (window_first f).position (window_next f).position a → takes_window spot.position f ≡ true → (not a.has_stray && window_forms f a.exprs) ≡ b → Gives (IsBound scope spot) (window_typed place f a b)
typed-as scope spot place f a false h takes e = record { holds = tt }
typed-as scope spot place f a true h takes e =
    let form = and_parts (not a.has_stray) (window_forms f a.exprs) e in
    gives-typed (IsBound scope spot) place (V.Window f a.exprs) (window_given f a.kinds)
    (λ k given.
    let q = window-args scope f a.exprs a.kinds k form.1 (h (not-true a.has_stray form.0)) given in
    part-bound scope spot (record { expr = V.Window f a.exprs; kind = k }) (record {
      kind = kind-Window f a.exprs scope.schema ∙ q.0;
      fits = λ s. fits-Window f a.exprs (read_scope scope) spot.position ∙ and_from _ _ takes q.1;
    }))

serial-as : (scope : Scope) (spot : Spot) (place : Place) (f : Window) (a : Args) (b : Bool) → HasArgs scope (window_first f).position (window_next f).position a → takes_window spot.position f ≡ true → Gives (IsBound scope spot) (window_serial place f a b)
serial-as scope spot place f a true h takes = typed-as scope spot place f a (not a.has_stray && window_forms f a.exprs) h takes refl
serial-as scope spot place f a false h takes = record { holds = tt }

standing-as : (scope : Scope) (spot : Spot) (place : Place) (f : Window) (a : Args) (b : Bool) → HasArgs scope (window_first f).position (window_next f).position a → takes_window spot.position f ≡ b → Gives (IsBound scope spot) (window_standing place f a scope b)
standing-as scope spot place f a true h takes = serial-as scope spot place f a scope.serial h takes
standing-as scope spot place f a false h takes = record { holds = tt }

pub window-bound : (scope : Scope) (spot : Spot) (place : Place) (f : Window) (a : Args) → HasArgs scope (window_first f).position (window_next f).position a → Gives (IsBound scope spot) (window_call place f a scope spot.position)
unfolding window_call
window-bound scope spot place f a h = standing-as scope spot place f a (takes_window spot.position f) h refl
