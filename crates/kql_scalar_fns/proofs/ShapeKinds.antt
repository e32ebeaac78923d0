-- What the forms of arguments give, where the value is of the type given whatever the arguments are.
use Rattle.std.proofs.Common.{◌&&◌, ℕ, true, false, List, [], ◌∷◌, length}
use Rattle.std.specs.Prelude.{nat_le, if◌then◌else◌}
use Rattle.kql_cells.specs.Values.{IsOfKind}
use Rattle.kql_cells.specs.declared.value.Kind.{Kind}
use Rattle.kql_cells.specs.declared.value.Kind.TheVariants as kind
use Rattle.kql_cells.specs.declared.value.Value.{Value}
use Rattle.kql_functions.specs.Kinds.{all_listed, all_same, are_pairs, behind_text, beside_dynamic, has_order, is_dynamic, one_among, one_of_any, one_of_pairs, same_kind, several, several_of, text_among, two_equal, two_ordered}
use Rattle.kql_scalar_fns.proofs.KindLaws.{Gives, test-gives}

pub one_of_any-any : (k : Kind) (ks : List Kind) (v : Value) → IsOfKind k v → Gives (one_of_any k ks) v
unfolding one_of_any
one_of_any-any k [] v h = tt
one_of_any-any k (a ∷ []) v h = h
one_of_any-any k (a ∷ b ∷ ks) v h = tt

pub two_equal-any : (ks : List Kind) (v : Value) → IsOfKind kind.Bool v → Gives (two_equal ks) v
unfolding two_equal
two_equal-any [] v h = tt
two_equal-any (a ∷ []) v h = tt
two_equal-any (a ∷ b ∷ []) v h = test-gives (same_kind a b && (if is_dynamic a then false else true)) kind.Bool v (λ e. h)
two_equal-any (a ∷ b ∷ c ∷ ks) v h = tt

pub two_ordered-any : (ks : List Kind) (v : Value) → IsOfKind kind.Bool v → Gives (two_ordered ks) v
unfolding two_ordered
two_ordered-any [] v h = tt
two_ordered-any (a ∷ []) v h = tt
two_ordered-any (a ∷ b ∷ []) v h = test-gives (same_kind a b && has_order a) kind.Bool v (λ e. h)
two_ordered-any (a ∷ b ∷ c ∷ ks) v h = tt

pub one_among-any : (ks : List Kind) (v : Value) → IsOfKind kind.Bool v → Gives (one_among ks) v
unfolding one_among
one_among-any [] v h = tt
one_among-any (a ∷ []) v h = tt
one_among-any (a ∷ b ∷ ks) v h = test-gives (all_listed a (b ∷ ks) && (if is_dynamic a then false else true)) kind.Bool v (λ e. h)

pub text_among-any : (ks : List Kind) (v : Value) → IsOfKind kind.Bool v → Gives (text_among ks) v
unfolding text_among
text_among-any [] v h = tt
text_among-any (a ∷ []) v h = tt
text_among-any (a ∷ b ∷ ks) v h = test-gives (all_listed kind.Text (b ∷ ks) && same_kind a kind.Text) kind.Bool v (λ e. h)

pub several_of-any : (n : ℕ) (taken k : Kind) (ks : List Kind) (v : Value) → IsOfKind k v → Gives (several_of n taken k ks) v
unfolding several_of
several_of-any n taken k ks v h = test-gives (nat_le n (length ks) && all_same taken ks) k v (λ e. h)

pub several-any : (n : ℕ) (k : Kind) (ks : List Kind) (v : Value) → IsOfKind k v → Gives (several n k ks) v
unfolding several
several-any n k ks v h = test-gives (nat_le n (length ks)) k v (λ e. h)

pub behind_text-any : (ks : List Kind) (v : Value) → IsOfKind kind.Text v → Gives (behind_text ks) v
unfolding behind_text
behind_text-any [] v h = tt
behind_text-any (t ∷ []) v h = tt
behind_text-any (t ∷ k ∷ ks) v h = test-gives (same_kind t kind.Text) kind.Text v (λ e. h)

pub beside_dynamic-any : (g : Kind) (ks : List Kind) (v : Value) → IsOfKind g v → Gives (beside_dynamic g ks) v
unfolding beside_dynamic
beside_dynamic-any g [] v h = tt
beside_dynamic-any g (d ∷ []) v h = tt
beside_dynamic-any g (d ∷ k ∷ []) v h = test-gives (same_kind d kind.Dynamic) g v (λ e. h)
beside_dynamic-any g (d ∷ k ∷ j ∷ ks) v h = tt

pub one_of_pairs-any : (ks : List Kind) (v : Value) → IsOfKind kind.Dynamic v → Gives (one_of_pairs ks) v
unfolding one_of_pairs
one_of_pairs-any ks v h = test-gives (nat_le 1 (length ks) && are_pairs ks) kind.Dynamic v (λ e. h)
