-- Terms joined by `and` or by `or`.
use Rattle.std.proofs.Common.{◌≡◌, true, nat_le, List, [], ◌∷◌, ◌++◌, length, refl, sym, ◌∙◌, subst, arith}
use Rattle.std.specs.Prelude.{◌&&◌, Option, None, Some, Ok, fold}
use Rattle.std.proofs.lemmas.Bool.{and_parts, le-leb}
use Rattle.kql_cells.specs.declared.value.Kind.{Kind}
use Rattle.kql_cells.specs.declared.value.Kind.TheVariants as kind
use Rattle.kql_functions.specs.Kinds.{all_same, logic_kind, result_kind, same_kind, several_of}
use Rattle.kql_functions.specs.declared.func.Func.TheVariants as func
use Rattle.kql_functions.specs.declared.func.LogicFunc.{LogicFunc}
use Rattle.kql_functions.specs.declared.func.LogicFunc.TheVariants as logic
use Rattle.kql_scalar_fns.proofs.KindLaws.{same-kind}
use Rattle.kql_lexer.specs.declared.place.Place.{Place}
use Rattle.kql_bound.specs.declared.expr.BExpr.{BExpr}
use Rattle.kql_bound.specs.declared.expr.BExpr.TheVariants as V
use Rattle.kql_meaning.specs.declared.position.Position.{Position}
use Rattle.kql_meaning.specs.FittingExpressions.{is_callable, part_fits}
use Rattle.bind_expr.specs.Bound.{first_spot, inside}
use Rattle.bind_expr.specs.Logic.{joined_as, joined_from, joined_whole, term_link, terms_closed, terms_opened, terms_whole, with_term}
use Rattle.bind_expr.specs.Operands.{beside}
use Rattle.bind_expr.specs.Outcome.{Outcome, ◌>>=◌}
use Rattle.bind_expr.specs.declared.scope.Scope.{Scope}
use Rattle.bind_expr.specs.declared.typed.Typed.{Typed}
use Rattle.bind_expr_laws.proofs.Outcomes.{Each, Gives, gives-fold, gives-ok, gives-then}
use Rattle.bind_expr_laws.proofs.Parts.{AreParts, IsBound, IsPart, IsPlain, beside-part, call-part, part-bound}
use Rattle.bind_expr_laws.proofs.Shapes.{Joined, Spot}
use Rattle.bind_expr_laws.proofs.Facts.{if-some}

-- `and` and `or` join bools.
abbrev pub Joins : LogicFunc → Type 0
Joins f = (ks : List Kind) → result_kind (func.Logic f) ks ≡ several_of 2 kind.Bool kind.Bool ks

pub and-joins : Joins logic.And
unfolding result_kind logic_kind
and-joins ks = refl

pub or-joins : Joins logic.Or
unfolding result_kind logic_kind
or-joins ks = refl

both-bool : (j k given : Kind) → several_of 2 kind.Bool kind.Bool (j ∷ k ∷ []) ≡ Some given → (j ≡ kind.Bool) × (k ≡ kind.Bool) × (given ≡ kind.Bool)
unfolding several_of all_same
both-bool j k given e =
    let q = if-some (same_kind kind.Bool j && (same_kind kind.Bool k && true)) kind.Bool given e in
    let one = and_parts (same_kind kind.Bool j) (same_kind kind.Bool k && true) q.0 in
    let two = and_parts (same_kind kind.Bool k) true one.1 in
    (sym (same-kind kind.Bool j one.0), sym (same-kind kind.Bool k two.0), sym q.1)

-- Terms so far: one of any type, or bools.

abbrev AreBools : Scope → Position → List BExpr → Type 0
AreBools scope at [] = Unit {0}
AreBools scope at (e ∷ es) = IsPart scope at e kind.Bool × AreBools scope at es

abbrev AreTerms : Scope → Position → BExpr → List BExpr → Kind → Type 0
AreTerms scope at first [] k = IsPart scope at first k
AreTerms scope at first (e ∷ es) k = (k ≡ kind.Bool) × AreBools scope at (first ∷ e ∷ es)

bools-push : (scope : Scope) (at : Position) (es : List BExpr) (e : BExpr) → AreBools scope at es → IsPart scope at e kind.Bool → AreBools scope at (es ++ e ∷ [])
bools-push scope at [] e h p = (p, tt)
bools-push scope at (x ∷ xs) e h p = (h.0, bools-push scope at xs e h.1 p)

-- Any term may follow.
terms-push : (scope : Scope) (at : Position) (first : BExpr) (others : List BExpr) (k j given : Kind) (right : BExpr) (other : Kind) → AreTerms scope at first others k → IsPart scope at right j → (beside (record { expr = first; kind = k }) other).kind ≡ kind.Bool → j ≡ kind.Bool → given ≡ kind.Bool → AreTerms scope at (beside (record { expr = first; kind = k }) other).expr (others ++ right ∷ []) given
unfolding beside
terms-push scope at first [] k j given right other h p one two three =
    let l : Typed = record { expr = first; kind = k } in
    (three, (subst (IsPart scope at (beside l other).expr) one (beside-part scope at l other h), (subst (IsPart scope at right) two p, tt)))
terms-push scope at first (o ∷ os) k j given right other h p one two three =
    rw h.0 (three, (h.1.0, (h.1.1.0, bools-push scope at os right h.1.1.1 (subst (IsPart scope at right) two p))))

-- The whole.

bool-kinds : List BExpr → List Kind
bool-kinds [] = []
bool-kinds (e ∷ es) = kind.Bool ∷ bool-kinds es

bools-parts : (scope : Scope) (at : Position) (es : List BExpr) → AreBools scope at es → AreParts scope at es (bool-kinds es)
unfolding bool-kinds
bools-parts scope at [] h = tt
bools-parts scope at (e ∷ es) h = (h.0, bools-parts scope at es h.1)

all-bools : (es : List BExpr) → all_same kind.Bool (bool-kinds es) ≡ true
unfolding all_same bool-kinds
all-bools [] = refl
all-bools (e ∷ es) = all-bools es

bools-join : (a b : BExpr) (es : List BExpr) → several_of 2 kind.Bool kind.Bool (bool-kinds (a ∷ b ∷ es)) ≡ Some kind.Bool
unfolding several_of bool-kinds
bools-join a b es =
    let enough : nat_le 2 (length (bool-kinds (a ∷ b ∷ es))) ≡ true = le-leb 2 _ (omega arith) in
    rw (enough, all-bools (a ∷ b ∷ es)) refl

plain-logic : (f : LogicFunc) → IsPlain (func.Logic f)
unfolding is_callable part_fits
plain-logic f = record { callable = refl; part = λ es. refl }

terms-part : (scope : Scope) (at : Position) (f : LogicFunc) → Joins f → (first : BExpr) (others : List BExpr) (k : Kind) → AreTerms scope at first others k → IsPart scope at (joined_whole f first others) k
terms-part scope at f joins first [] k h = h
terms-part scope at f joins first (e ∷ es) k h =
    let plain = plain-logic f in
    subst (IsPart scope at (V.Call (func.Logic f) (first ∷ e ∷ es))) (sym h.0)
    (call-part scope at (func.Logic f) (first ∷ e ∷ es) (bool-kinds (first ∷ e ∷ es)) kind.Bool (bools-parts scope at (first ∷ e ∷ es) h.1) plain.callable (plain.part (first ∷ e ∷ es)) (joins (bool-kinds (first ∷ e ∷ es)) ∙ bools-join first e es))

-- One term more.

abbrev AreJoined : Scope → Position → Joined → Type 0
AreJoined scope at j = AreTerms scope at j.first j.others j.kind

term-as : (scope : Scope) (at : Position) (place : Place) (first : BExpr) (others : List BExpr) (right : BExpr) (o : Option Kind) → ((k : Kind) → o ≡ Some k → AreTerms scope at first (others ++ right ∷ []) k) → Gives (AreJoined scope at) (joined_as place first others right o)
term-as scope at place first others right None h = record { holds = tt }
term-as scope at place first others right (Some k) h = record { holds = h k refl }

term-bound : (scope : Scope) (at : Position) (f : LogicFunc) → Joins f → (place : Place) (left : Joined) (right : Typed) → AreJoined scope at left → IsPart scope at right.expr right.kind → Gives (AreJoined scope at) (with_term f place left right)
unfolding with_term
term-bound scope at f joins place left right h part =
    let l : Typed = beside (record { expr = left.first; kind = left.kind }) right.kind in
    let r : Typed = beside right left.kind in
    term-as scope at place l.expr left.others r.expr (result_kind (func.Logic f) (l.kind ∷ r.kind ∷ []))
    (λ k e.
    let bools = both-bool l.kind r.kind k (sym (joins (l.kind ∷ r.kind ∷ [])) ∙ e) in
    terms-push scope at left.first left.others left.kind r.kind k r.expr right.kind h (beside-part scope at right left.kind part) bools.0 bools.1 bools.2)

closed-bound : (scope : Scope) (spot : Spot) (f : LogicFunc) → Joins f → (j : Joined) → AreJoined scope spot.position j → Gives (IsBound scope spot) (Ok (terms_whole f j))
unfolding terms_whole
closed-bound scope spot f joins j h = gives-ok (IsBound scope spot) (terms_whole f j) (part-bound scope spot (terms_whole f j) (terms-part scope spot.position f joins j.first j.others j.kind h))

-- Terms of which each is bound: what stands alone is the whole.
pub terms-bound : {L : Type 0} (scope : Scope) (spot : Spot) (f : LogicFunc) → Joins f → (first : Spot → Outcome Typed) (place : L → Place) (part : L → Outcome Typed) (ms : List L) → ((at : Spot) → Gives (IsBound scope at) (first at)) → Each (IsBound scope (inside spot.position)) part ms → Gives (IsBound scope spot) (terms_closed f (fold (λ (before : Outcome Joined) (l : L). term_link f before (place l) (part l)) (terms_opened (first (first_spot ms spot))) ms))
unfolding terms_opened terms_closed joined_from terms_whole
terms-bound scope spot f joins first place part [] h each =
    gives-then (λ (j : Joined). IsBound scope spot (record { expr = joined_whole f j.first j.others; kind = j.kind })) (IsBound scope spot) (first spot >>= λ t. Ok (joined_from t)) (λ j. Ok (terms_whole f j))
    (gives-then (IsBound scope spot) (λ (j : Joined). IsBound scope spot (record { expr = joined_whole f j.first j.others; kind = j.kind })) (first spot) (λ t. Ok (joined_from t)) (h spot) (λ t b. record { holds = b }))
    (λ j b. record { holds = b })
terms-bound {L = L} scope spot f joins first place part (m ∷ ms) h each =
    let at : Spot = inside spot.position in
    let start : Outcome Joined = first at >>= λ t. Ok (joined_from t) in
    gives-then (AreJoined scope spot.position) (IsBound scope spot) (fold (λ (before : Outcome Joined) (l : L). before >>= λ b. part l >>= λ t. with_term f (place l) b t) start (m ∷ ms)) (λ j. Ok (terms_whole f j))
    (gives-fold (IsBound scope at) (AreJoined scope spot.position) (λ (l : L) (b : Joined) (t : Typed). with_term f (place l) b t) part
    (λ l b t q p. term-bound scope spot.position f joins (place l) b t q (record { kind = p.kind; fits = p.fits })) start
    (gives-then (IsBound scope at) (AreJoined scope spot.position) (first at) (λ t. Ok (joined_from t)) (h at) (λ t p. record { holds = record { kind = p.kind; fits = p.fits } }))
    (m ∷ ms) each)
    (λ j q. closed-bound scope spot f joins j q)
