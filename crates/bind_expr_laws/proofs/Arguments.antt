-- The arguments of a call: each is bound where its slot says, and a `*` stands for columns.
use Rattle.std.proofs.Common.{◌≡◌, ℕ, Bool, true, false, List, [], ◌∷◌, ◌++◌, filter, refl, sym, subst}
use Rattle.std.specs.Prelude.{Option, None, Some, IfSome, Ok, fold}
use Rattle.std.specs.List.{AllByRecursion}
use Rattle.kql_cells.specs.Named.{HasDistinctNames, column_name}
use Rattle.kql_cells.specs.declared.schema.Column.{Column}
use Rattle.kql_cells.specs.declared.value.Kind.{Kind}
use Rattle.kql_functions.specs.declared.aggregate.Aggregate.{Aggregate}
use Rattle.kql_functions.specs.declared.aggregate.Aggregate.TheVariants as aggregate
use Rattle.kql_functions.specs.declared.func.Func.{Func}
use Rattle.kql_functions.specs.declared.names.Found.TheVariants as found
use Rattle.kql_functions.specs.declared.window.Window.{Window}
use Rattle.kql_functions.specs.declared.window.Window.TheVariants as window
use Rattle.kql_bound.specs.declared.expr.BExpr.{BExpr}
use Rattle.kql_bound.specs.declared.expr.BExpr.TheVariants as V
use Rattle.kql_meaning.specs.Expressions.{column_kind}
use Rattle.kql_meaning.specs.declared.position.Position.{Position}
use Rattle.kql_meaning.proofs.ListLaws.{every-filter}
use Rattle.kql_meaning.proofs.MemberLaws.{every-of-members}
use Rattle.kql_fit_laws.proofs.ExpressionRows.{kind-found}
use Rattle.kql_fit_laws.proofs.RowFacts.{column-found, pairwise-names}
use Rattle.bind_expr.specs.Arguments.{aggregate_first, aggregate_next, aggregate_position, arg_link, first_column, first_slot, is_open, next_slot, no_args, placed, plain_slot, scalar_first, starred, taken, takes_part, window_first, window_next, with_arg, with_column, with_columns, with_star}
use Rattle.bind_expr.specs.Bound.{Takes, args_taken}
use Rattle.bind_expr.specs.Outcome.{Outcome}
use Rattle.bind_expr.specs.declared.scope.Scope.{Scope}
use Rattle.bind_expr.specs.declared.typed.Typed.{Typed}
use Rattle.bind_expr_laws.specs.Scopes.{IsSoundScope}
use Rattle.bind_expr_laws.proofs.Constants.{settled-part}
use Rattle.bind_expr_laws.proofs.Outcomes.{Each, Gives, gives-fold, gives-map, gives-then}
use Rattle.bind_expr_laws.proofs.Parts.{AreParts, IsPart}
use Rattle.bind_expr_laws.proofs.Shapes.{Args, Slot}
use Rattle.bind_expr_laws.proofs.Terms.{column-part}

-- The first argument stands in one position, and the others in another.
abbrev pub AreArgs : Scope → Position → Position → List BExpr → List Kind → Type 0
AreArgs scope p q [] [] = Unit {0}
AreArgs scope p q (e ∷ es) (k ∷ ks) = IsPart scope p e k × AreParts scope q es ks
AreArgs scope p q _ _ = ⊥

pub args-parts : (scope : Scope) (p : Position) (es : List BExpr) (ks : List Kind) → AreArgs scope p p es ks → AreParts scope p es ks
args-parts scope p [] [] h = tt
args-parts scope p [] (k ∷ ks) h = absurd h
args-parts scope p (e ∷ es) [] h = absurd h
args-parts scope p (e ∷ es) (k ∷ ks) h = h

parts-push : (scope : Scope) (p : Position) (es : List BExpr) (ks : List Kind) (e : BExpr) (k : Kind) → AreParts scope p es ks → IsPart scope p e k → AreParts scope p (es ++ e ∷ []) (ks ++ k ∷ [])
parts-push scope p [] [] e k h part = (part, tt)
parts-push scope p [] (j ∷ js) e k h part = absurd h
parts-push scope p (x ∷ xs) [] e k h part = absurd h
parts-push scope p (x ∷ xs) (j ∷ js) e k h part = (h.0, parts-push scope p xs js e k h.1 part)

args-push : (scope : Scope) (p q : Position) (es : List BExpr) (ks : List Kind) (e : BExpr) (k : Kind) → AreArgs scope p q es ks → (es ≡ [] → p ≡ q) → IsPart scope q e k → AreArgs scope p q (es ++ e ∷ []) (ks ++ k ∷ [])
args-push scope p q [] [] e k h same part = (subst (λ (r : Position). IsPart scope r e k) (sym (same refl)) part, tt)
args-push scope p q [] (j ∷ js) e k h same part = absurd h
args-push scope p q (x ∷ xs) [] e k h same part = absurd h
args-push scope p q (x ∷ xs) (j ∷ js) e k h same part = (h.0, parts-push scope q xs js e k h.1 part)

some-pushed : (es : List BExpr) (e : BExpr) → es ++ e ∷ [] ≡ [] → ⊥
some-pushed [] e h = cc
some-pushed (x ∷ xs) e h = cc

-- The arguments so far, where no `*` stands where it may not.
pub record AreTaken (scope : Scope) (p : Position) (q : Position) (a : Args) : Type 0 where
  pub parts : a.has_stray ≡ false → AreArgs scope p q a.exprs a.kinds
  pub first : a.has_stray ≡ false → a.exprs ≡ [] → p ≡ q

taken-more : (scope : Scope) (p q : Position) (a : Args) (t : Typed) → AreTaken scope p q a → IsPart scope q t.expr t.kind → AreTaken scope p q (with_arg a t)
taken-more scope p q a t h part = record {
  parts = λ s. args-push scope p q a.exprs a.kinds t.expr t.kind (h.parts s) (h.first s) part;
  first = λ s e. absurd (some-pushed a.exprs t.expr e);
}

-- Stars.

abbrev IsFound : Scope → Column → Type 0
IsFound scope c = column_kind c.name scope.schema ≡ Some c.kind

every-column : (scope : Scope) → HasDistinctNames column_name scope.schema → AllByRecursion (IsFound scope) scope.schema
every-column scope h = every-of-members (IsFound scope) scope.schema (λ c m. kind-found c.name scope.schema c (column-found scope.schema c (pairwise-names scope.schema h) m))

columns-taken : (scope : Scope) (p q : Position) (a : Args) (cs : List Column) → AllByRecursion (IsFound scope) cs → AreTaken scope p q a → AreTaken scope p q (fold with_column a cs)
columns-taken scope p q a [] found h = h
columns-taken scope p q a (c ∷ cs) found h =
    columns-taken scope p q (with_column a c) cs found.1 (taken-more scope p q a (record { expr = V.Column c.name; kind = c.kind }) h (column-part scope q c.name c.kind found.0))

star-taken : (scope : Scope) (p q : Position) (a : Args) (but : Option (List ℕ)) → IsSoundScope scope → AreTaken scope p q a → AreTaken scope p q (with_columns a (filter (is_open scope.keys but) scope.schema))
unfolding with_columns
star-taken scope p q a but sound h =
    columns-taken scope p q (with_star a) (filter (is_open scope.keys but) scope.schema) (every-filter (IsFound scope) (is_open scope.keys but) scope.schema (every-column scope sound.names)) (record { parts = h.parts; first = h.first })

-- Slots.

pub record AreSlots (scope : Scope) (p : Position) (q : Position) (one : Slot) (more : Slot) : Type 0 where
  pub one_at : one.position ≡ p
  pub more_at : more.position ≡ q
  pub one_star : AreTaken scope p q (starred scope one.star no_args)
  pub more_star : (a : Args) → AreTaken scope p q a → AreTaken scope p q (starred scope more.star a)

stray-taken : (scope : Scope) (p q r : Position) (a : Args) → AreTaken scope p q (starred scope (plain_slot r).star a)
unfolding starred
stray-taken scope p q r a = record { parts = λ s. absurd cc; first = λ s. absurd cc }

none-taken : (scope : Scope) (p : Position) → AreTaken scope p p no_args
unfolding no_args
none-taken scope p = record { parts = λ s. tt; first = λ s e. refl }

scalar-by : (scope : Scope) (at : Position) (b : Bool) → AreSlots scope at at (scalar_first at b) (plain_slot at)
scalar-by scope at true = record { one_at = refl; more_at = refl; one_star = stray-taken scope at at at no_args; more_star = λ a h. stray-taken scope at at at a }
scalar-by scope at false = record { one_at = refl; more_at = refl; one_star = stray-taken scope at at at no_args; more_star = λ a h. stray-taken scope at at at a }

pub scalar-slots : (scope : Scope) (f : Func) (at : Position) → AreSlots scope at at (first_slot (found.Scalar f) at) (next_slot (found.Scalar f) at)
unfolding first_slot next_slot
scalar-slots scope f at = scalar-by scope at (takes_part f)

pub window-slots : (scope : Scope) (f : Window) (at : Position) → AreSlots scope (window_first f).position (window_next f).position (first_slot (found.Window f) at) (next_slot (found.Window f) at)
unfolding first_slot next_slot window_first window_next
window-slots scope window.Prev at = record { one_at = refl; more_at = refl; one_star = stray-taken scope _ _ at no_args; more_star = λ a h. stray-taken scope _ _ at a }
window-slots scope window.Next at = record { one_at = refl; more_at = refl; one_star = stray-taken scope _ _ at no_args; more_star = λ a h. stray-taken scope _ _ at a }
window-slots scope window.RowCumsum at = record { one_at = refl; more_at = refl; one_star = stray-taken scope _ _ at no_args; more_star = λ a h. stray-taken scope _ _ at a }
window-slots scope window.RowNumber at = record { one_at = refl; more_at = refl; one_star = stray-taken scope _ _ at no_args; more_star = λ a h. stray-taken scope _ _ at a }

aggregate-by : (scope : Scope) (f : Aggregate) (at : Position) → IsSoundScope scope → AreSlots scope at at (aggregate_first f at) (aggregate_next f at)
unfolding aggregate_first aggregate_next starred
aggregate-by scope aggregate.TakeAny at sound = record {
  one_at = refl;
  more_at = refl;
  one_star = star-taken scope at at no_args None sound (none-taken scope at);
  more_star = λ a h. star-taken scope at at a None sound h;
}
aggregate-by scope aggregate.ArgMax at sound = record {
  one_at = refl;
  more_at = refl;
  one_star = stray-taken scope at at at no_args;
  more_star = λ a h. star-taken scope at at a (first_column a.exprs) sound h;
}
aggregate-by scope aggregate.ArgMin at sound = record {
  one_at = refl;
  more_at = refl;
  one_star = stray-taken scope at at at no_args;
  more_star = λ a h. star-taken scope at at a (first_column a.exprs) sound h;
}
aggregate-by scope _ at sound = record { one_at = refl; more_at = refl; one_star = stray-taken scope at at at no_args; more_star = λ a h. stray-taken scope at at at a }

pub aggregate-slots : (scope : Scope) (f : Aggregate) (at : Position) → IsSoundScope scope → AreSlots scope (aggregate_position f at) (aggregate_position f at) (first_slot (found.Aggregate f) at) (next_slot (found.Aggregate f) at)
unfolding first_slot next_slot
aggregate-slots scope f at sound = aggregate-by scope f (aggregate_position f at) sound

-- One argument more.

abbrev pub IsArg : Scope → Position → Option Typed → Type 0
IsArg scope at o = IfSome o (λ t. IsPart scope at t.expr t.kind)

placed-part : (scope : Scope) (at : Position) (b : Bool) (t : Typed) → IsSoundScope scope → IsPart scope at t.expr t.kind → IsPart scope at (placed b t).expr (placed b t).kind
placed-part scope at true t sound h = settled-part scope at t sound.names h
placed-part scope at false t sound h = h

first-taken : (scope : Scope) (p q : Position) (one more : Slot) (o : Option Typed) → IsSoundScope scope → AreSlots scope p q one more → IsArg scope p o → AreTaken scope p q (taken scope one no_args o)
unfolding taken no_args
first-taken scope p q one more None sound slots h = slots.one_star
first-taken scope p q one more (Some t) sound slots h = record {
  parts = λ s. (placed-part scope p one.is_constant t sound h, tt);
  first = λ s e. absurd cc;
}

next-taken : (scope : Scope) (p q : Position) (one more : Slot) (a : Args) (o : Option Typed) → IsSoundScope scope → AreSlots scope p q one more → AreTaken scope p q a → IsArg scope q o → AreTaken scope p q (taken scope more a o)
unfolding taken
next-taken scope p q one more a None sound slots h k = slots.more_star a h
next-taken scope p q one more a (Some t) sound slots h k = taken-more scope p q a (placed more.is_constant t) h (placed-part scope q more.is_constant t sound k)

-- All arguments.

abbrev pub HasArgs : Scope → Position → Position → Args → Type 0
HasArgs scope p q a = a.has_stray ≡ false → AreArgs scope p q a.exprs a.kinds

pub args-taken : (scope : Scope) (p q : Position) (one more : Slot) (ts : List Takes) → IsSoundScope scope → AreSlots scope p q one more → ((at : Position) → Each (IsArg scope at) (λ (a : Takes). a scope at) ts) → Gives (HasArgs scope p q) (args_taken scope one more ts)
unfolding no_args
args-taken scope p q one more [] sound slots each = record { holds = λ s. tt }
args-taken scope p q one more (a ∷ ts) sound slots each =
    let start : Outcome Args = arg_link scope one (Ok no_args) (a scope one.position) in
    gives-map (AreTaken scope p q) (HasArgs scope p q) (fold (λ (before : Outcome Args) (arg : Takes). arg_link scope more before (arg scope more.position)) start ts)
    (gives-fold (IsArg scope q) (AreTaken scope p q) (λ (t : Takes) (b : Args) (o : Option Typed). Ok (taken scope more b o)) (λ (t : Takes). t scope more.position)
    (λ t b o h k. record { holds = next-taken scope p q one more b o sound slots h k }) start
    (gives-then (IsArg scope p) (AreTaken scope p q) (a scope one.position) (λ o. Ok (taken scope one no_args o)) (subst (λ (r : Position). Gives (IsArg scope p) (a scope r)) (sym slots.one_at) (each p).0) (λ o h. record { holds = first-taken scope p q one more o sound slots h }))
    ts (subst (λ (r : Position). Each (IsArg scope q) (λ (t : Takes). t scope r) ts) (sym slots.more_at) (each q).1))
    (λ x h. h.parts)
