-- What choices give is of the type that their rows say.
use Rattle.std.proofs.Common.{◌≡◌, ◌&&◌, Bool, true, false, List, [], ◌∷◌}
use Rattle.std.specs.Prelude.{if◌then◌else◌}
use Rattle.kql_cells.specs.Values.{IsOfKind}
use Rattle.kql_cells.specs.declared.value.Kind.{Kind}
use Rattle.kql_cells.specs.declared.value.Kind.TheVariants as kind
use Rattle.kql_cells.specs.declared.value.Value.{Value}
use Rattle.kql_cells.specs.declared.value.Value.TheVariants as value
use Rattle.kql_functions.specs.declared.func.ChoiceFunc.{ChoiceFunc}
use Rattle.kql_functions.specs.declared.func.ChoiceFunc.TheVariants as func
use Rattle.kql_scalar_fns.specs.Arguments.{argument}
use Rattle.kql_functions.specs.Kinds.{AreOfKinds, choice_kind}
use Rattle.std.proofs.Common.{fold, subst, sym}
use Rattle.std.proofs.lemmas.Bool.{and_parts}
use Rattle.kql_scalar_fns.specs.Choice.{choice, chosen, first_case, first_given, greater, greatest, is_below, is_empty, is_null, least, lesser}
use Rattle.kql_functions.specs.Kinds.{all_same, cases_of, has_order, one_of_cases, one_of_two, same_kind, two_or_more, two_or_more_ordered}
use Rattle.kql_scalar_fns.specs.Logic.{is_true, truth}
use Rattle.kql_scalar_fns.proofs.KindLaws.{same-kind, test-gives}
use Rattle.kql_scalar_fns.proofs.KindLaws.{Gives, second-kind, third-kind}
use Rattle.kql_scalar_fns.proofs.ShapeKinds.{one_of_any-any}

test-kind : (k : Kind) (b : Bool) (v w : Value) → IsOfKind k v → IsOfKind k w → IsOfKind k (if b then v else w)
test-kind k true v w h g = h
test-kind k false v w h g = g

-- a value of a type is of the same type
along : (j k : Kind) (v : Value) → same_kind j k ≡ true → IsOfKind j v → IsOfKind k v
along j k v e h = subst (λ (i : Kind). IsOfKind i v) (same-kind j k e) h

-- each of these is of one type
abbrev EachOf : Kind → List Value → Type 0
EachOf k [] = Unit {0}
EachOf k (v ∷ vs) = IsOfKind k v × EachOf k vs

each-of : (k : Kind) (ks : List Kind) (vs : List Value) → AreOfKinds ks vs → all_same k ks ≡ true → EachOf k vs
unfolding all_same
each-of k [] [] h e = tt
each-of k [] (v ∷ vs) h e = absurd h
each-of k (j ∷ ks) [] h e = absurd h
each-of k (j ∷ ks) (v ∷ vs) h e =
    let p = and_parts (same_kind k j) (all_same k ks) e in
    (subst (λ (i : Kind). IsOfKind i v) (sym (same-kind k j p.0)) h.0, each-of k ks vs h.1 p.1)

given-kind : (k : Kind) (v : Value) (vs : List Value) → EachOf k (v ∷ vs) → IsOfKind k (first_given (v ∷ vs))
unfolding first_given
given-kind k v [] h = h.0
given-kind k v (w ∷ vs) h = test-kind k (is_empty v) (first_given (w ∷ vs)) v (given-kind k w vs h.1) h.0

-- a type with an order has a null
null-kind : (k : Kind) → has_order k ≡ true → IsOfKind k value.Null
null-kind kind.Bool e = tt
null-kind kind.Long e = tt
null-kind kind.Text e = cc
null-kind kind.Moment e = tt
null-kind kind.Span e = tt
null-kind kind.Dynamic e = tt

lesser-kind : (k : Kind) (a b : Value) → IsOfKind k a → IsOfKind k b → IsOfKind k (lesser a b)
unfolding lesser
lesser-kind k a b h g = test-kind k (is_null a) b (if is_below b a then b else a) g (test-kind k (is_below b a) b a g h)

greater-kind : (k : Kind) (a b : Value) → IsOfKind k a → IsOfKind k b → IsOfKind k (greater a b)
unfolding greater
greater-kind k a b h g = test-kind k (is_null a) b (if is_below a b then b else a) g (test-kind k (is_below a b) b a g h)

fold-kind : (k : Kind) (f : Value → Value → Value) → ((a b : Value) → IsOfKind k a → IsOfKind k b → IsOfKind k (f a b)) → (z : Value) (vs : List Value) → IsOfKind k z → EachOf k vs → IsOfKind k (fold f z vs)
fold-kind k f g z [] h e = h
fold-kind k f g z (v ∷ vs) h e = fold-kind k f g (f z v) vs (g z v h e.0) e.1

cases-kind : (k : Kind) (ks : List Kind) (vs : List Value) → AreOfKinds ks vs → cases_of k ks ≡ true → IsOfKind k (first_case vs)
unfolding cases_of first_case
cases-kind k [] vs h e = cc
cases-kind k (j ∷ []) [] h e = absurd h
cases-kind k (j ∷ []) (v ∷ []) h e = along j k v e h.0
cases-kind k (j ∷ []) (v ∷ w ∷ vs) h e = absurd h.1
cases-kind k (c ∷ j ∷ ks) [] h e = absurd h
cases-kind k (c ∷ j ∷ ks) (v ∷ []) h e = absurd h.1
cases-kind k (c ∷ j ∷ ks) (v ∷ w ∷ vs) h e =
    let p = and_parts (same_kind c kind.Bool) (same_kind j k && cases_of k ks) e in
    let q = and_parts (same_kind j k) (cases_of k ks) p.1 in
    test-kind k (is_true (truth v)) w (first_case vs) (along j k w q.0 h.1.0) (cases-kind k ks vs h.1.1 q.1)

iff-gives : (ks : List Kind) (vs : List Value) → AreOfKinds ks vs → Gives (one_of_two ks) (chosen (argument vs 0) (argument vs 1) (argument vs 2))
unfolding one_of_two chosen
iff-gives [] vs h = tt
iff-gives (c ∷ []) vs h = tt
iff-gives (c ∷ a ∷ []) vs h = tt
iff-gives (c ∷ a ∷ b ∷ []) vs h =
    test-gives (same_kind c kind.Bool && same_kind b a) a _ (λ e.
    test-kind a (is_true (truth (argument vs 0))) (argument vs 1) (argument vs 2) (second-kind c a (b ∷ []) vs h) (along b a (argument vs 2) (and_parts (same_kind c kind.Bool) (same_kind b a) e).1 (third-kind c a b [] vs h)))
iff-gives (c ∷ a ∷ b ∷ d ∷ ks) vs h = tt

case-gives : (ks : List Kind) (vs : List Value) → AreOfKinds ks vs → Gives (one_of_cases ks) (first_case vs)
unfolding one_of_cases first_case
case-gives [] vs h = tt
case-gives (c ∷ []) vs h = tt
case-gives (c ∷ a ∷ ks) [] h = absurd h
case-gives (c ∷ a ∷ ks) (v ∷ []) h = absurd h.1
case-gives (c ∷ a ∷ ks) (v ∷ w ∷ vs) h =
    test-gives (same_kind c kind.Bool && cases_of a ks) a _ (λ e.
    test-kind a (is_true (truth v)) w (first_case vs) h.1.0 (cases-kind a ks vs h.1.1 (and_parts (same_kind c kind.Bool) (cases_of a ks) e).1))

coalesce-gives : (ks : List Kind) (vs : List Value) → AreOfKinds ks vs → Gives (two_or_more ks) (first_given vs)
unfolding two_or_more
coalesce-gives [] vs h = tt
coalesce-gives (a ∷ []) vs h = tt
coalesce-gives (a ∷ b ∷ ks) [] h = absurd h
coalesce-gives (a ∷ b ∷ ks) (v ∷ vs) h = test-gives (all_same a (b ∷ ks)) a _ (λ e. given-kind a v vs (h.0, each-of a (b ∷ ks) vs h.1 e))

fold-gives : (f : Value → Value → Value) → ((k : Kind) (a b : Value) → IsOfKind k a → IsOfKind k b → IsOfKind k (f a b)) → (ks : List Kind) (vs : List Value) → AreOfKinds ks vs → Gives (two_or_more_ordered ks) (fold f value.Null vs)
unfolding two_or_more_ordered
fold-gives f g [] vs h = tt
fold-gives f g (a ∷ []) vs h = tt
fold-gives f g (a ∷ b ∷ ks) [] h = absurd h
fold-gives f g (a ∷ b ∷ ks) (v ∷ vs) h = test-gives (all_same a (b ∷ ks) && has_order a) a _ (λ e.
    let p = and_parts (all_same a (b ∷ ks)) (has_order a) e in
    fold-kind a f (g a) value.Null (v ∷ vs) (null-kind a p.1) (h.0, each-of a (b ∷ ks) vs h.1 p.0))

pub choice_gives : (f : ChoiceFunc) (ks : List Kind) (vs : List Value) → AreOfKinds ks vs → Gives (choice_kind f ks) (choice f vs)
unfolding choice choice_kind least greatest
choice_gives func.IsNull ks vs h = one_of_any-any kind.Bool ks _ tt
choice_gives func.IsNotNull ks vs h = one_of_any-any kind.Bool ks _ tt
choice_gives func.IsEmpty ks vs h = one_of_any-any kind.Bool ks _ tt
choice_gives func.IsNotEmpty ks vs h = one_of_any-any kind.Bool ks _ tt
choice_gives func.Iff ks vs h = iff-gives ks vs h
choice_gives func.Case ks vs h = case-gives ks vs h
choice_gives func.Coalesce ks vs h = coalesce-gives ks vs h
choice_gives func.MinOf ks vs h = fold-gives lesser lesser-kind ks vs h
choice_gives func.MaxOf ks vs h = fold-gives greater greater-kind ks vs h
