-- What functions of texts give is of the type that their rows say.
use Rattle.std.proofs.Common.{◌==◌, ℕ, Bool, true, false, List, [], ◌∷◌, length}
use Rattle.std.specs.Prelude.{if◌then◌else◌}
use Rattle.kql_cells.specs.Values.{IsOfKind}
use Rattle.kql_cells.specs.declared.value.Kind.{Kind}
use Rattle.kql_cells.specs.declared.value.Kind.TheVariants as kind
use Rattle.kql_cells.specs.declared.value.Value.{Value}
use Rattle.kql_cells.specs.declared.value.Value.TheVariants as value
use Rattle.kql_functions.specs.declared.func.TextFunc.{TextFunc}
use Rattle.kql_functions.specs.declared.func.TextFunc.TheVariants as func
use Rattle.kql_scalar_fns.specs.Arguments.{argument}
use Rattle.kql_functions.specs.Kinds.{AreOfKinds, text_kind}
use Rattle.kql_scalar_fns.specs.Text.{char_count, lowered, part, pieces, place_of, raised, replaced, rest_from, reversed, text_call, text_order}
use Rattle.kql_scalar_fns.proofs.KindLaws.{Gives, by-text, either-gives, first-kind, row-any, row-fits, second-kind, third-kind}
use Rattle.kql_scalar_fns.proofs.ShapeKinds.{behind_text-any, several-any}

char_count-kind : (v : Value) → IsOfKind kind.Long (char_count v)
unfolding char_count
char_count-kind value.Null = tt
char_count-kind (value.Bool x0) = tt
char_count-kind (value.Long x0) = tt
char_count-kind (value.Text x0) = tt
char_count-kind (value.Moment x0) = tt
char_count-kind (value.Span x0) = tt
char_count-kind (value.Dynamic x0) = tt

place_of-kind : (v w : Value) → IsOfKind kind.Long (place_of v w)
unfolding place_of
place_of-kind value.Null x1 = tt
place_of-kind (value.Bool x0) x1 = tt
place_of-kind (value.Long x0) x1 = tt
place_of-kind (value.Text x0) value.Null = tt
place_of-kind (value.Text x0) (value.Bool x1) = tt
place_of-kind (value.Text x0) (value.Long x1) = tt
place_of-kind (value.Text x0) (value.Text x1) = tt
place_of-kind (value.Text x0) (value.Moment x1) = tt
place_of-kind (value.Text x0) (value.Span x1) = tt
place_of-kind (value.Text x0) (value.Dynamic x1) = tt
place_of-kind (value.Moment x0) x1 = tt
place_of-kind (value.Span x0) x1 = tt
place_of-kind (value.Dynamic x0) x1 = tt

pieces-kind : (v w : Value) → IsOfKind kind.Dynamic (pieces v w)
unfolding pieces
pieces-kind value.Null x1 = tt
pieces-kind (value.Bool x0) x1 = tt
pieces-kind (value.Long x0) x1 = tt
pieces-kind (value.Text x0) value.Null = tt
pieces-kind (value.Text x0) (value.Bool x1) = tt
pieces-kind (value.Text x0) (value.Long x1) = tt
pieces-kind (value.Text x0) (value.Text x1) = tt
pieces-kind (value.Text x0) (value.Moment x1) = tt
pieces-kind (value.Text x0) (value.Span x1) = tt
pieces-kind (value.Text x0) (value.Dynamic x1) = tt
pieces-kind (value.Moment x0) x1 = tt
pieces-kind (value.Span x0) x1 = tt
pieces-kind (value.Dynamic x0) x1 = tt

text_order-kind : (v w : Value) → IsOfKind kind.Long (text_order v w)
unfolding text_order
text_order-kind value.Null x1 = tt
text_order-kind (value.Bool x0) x1 = tt
text_order-kind (value.Long x0) x1 = tt
text_order-kind (value.Text x0) value.Null = tt
text_order-kind (value.Text x0) (value.Bool x1) = tt
text_order-kind (value.Text x0) (value.Long x1) = tt
text_order-kind (value.Text x0) (value.Text x1) = tt
text_order-kind (value.Text x0) (value.Moment x1) = tt
text_order-kind (value.Text x0) (value.Span x1) = tt
text_order-kind (value.Text x0) (value.Dynamic x1) = tt
text_order-kind (value.Moment x0) x1 = tt
text_order-kind (value.Span x0) x1 = tt
text_order-kind (value.Dynamic x0) x1 = tt

part_of_text : (t : List ℕ) (v w : Value) → IsOfKind kind.Text (part (value.Text t) v w)
unfolding part
part_of_text t value.Null x1 = tt
part_of_text t (value.Bool x0) x1 = tt
part_of_text t (value.Long x0) value.Null = tt
part_of_text t (value.Long x0) (value.Bool x1) = tt
part_of_text t (value.Long x0) (value.Long x1) = tt
part_of_text t (value.Long x0) (value.Text x1) = tt
part_of_text t (value.Long x0) (value.Moment x1) = tt
part_of_text t (value.Long x0) (value.Span x1) = tt
part_of_text t (value.Long x0) (value.Dynamic x1) = tt
part_of_text t (value.Text x0) x1 = tt
part_of_text t (value.Moment x0) x1 = tt
part_of_text t (value.Span x0) x1 = tt
part_of_text t (value.Dynamic x0) x1 = tt

rest_of_text : (t : List ℕ) (v : Value) → IsOfKind kind.Text (rest_from (value.Text t) v)
unfolding rest_from
rest_of_text t value.Null = tt
rest_of_text t (value.Bool x0) = tt
rest_of_text t (value.Long x0) = tt
rest_of_text t (value.Text x0) = tt
rest_of_text t (value.Moment x0) = tt
rest_of_text t (value.Span x0) = tt
rest_of_text t (value.Dynamic x0) = tt

part-kind : (u v w : Value) → IsOfKind kind.Text u → IsOfKind kind.Text (part u v w)
part-kind u v w h = by-text (λ (x : Value). IsOfKind kind.Text (part x v w)) (λ t. part_of_text t v w) u h

rest-kind : (u v : Value) → IsOfKind kind.Text u → IsOfKind kind.Text (rest_from u v)
rest-kind u v h = by-text (λ (x : Value). IsOfKind kind.Text (rest_from x v)) (λ t. rest_of_text t v) u h

raised-kind : (u : Value) → IsOfKind kind.Text u → IsOfKind kind.Text (raised u)
unfolding raised
raised-kind u h = by-text (λ (x : Value). IsOfKind kind.Text (raised x)) (λ t. tt) u h

lowered-kind : (u : Value) → IsOfKind kind.Text u → IsOfKind kind.Text (lowered u)
unfolding lowered
lowered-kind u h = by-text (λ (x : Value). IsOfKind kind.Text (lowered x)) (λ t. tt) u h

reversed-kind : (u : Value) → IsOfKind kind.Text u → IsOfKind kind.Text (reversed u)
unfolding reversed
reversed-kind u h = by-text (λ (x : Value). IsOfKind kind.Text (reversed x)) (λ t. tt) u h

replaced-kind : (u v w : Value) → IsOfKind kind.Text u → IsOfKind kind.Text v → IsOfKind kind.Text w → IsOfKind kind.Text (replaced u v w)
unfolding replaced
replaced-kind u v w h k l =
    by-text (λ (x : Value). IsOfKind kind.Text (replaced x v w))
    (λ s. by-text (λ (y : Value). IsOfKind kind.Text (replaced (value.Text s) y w))
    (λ t. by-text (λ (z : Value). IsOfKind kind.Text (replaced (value.Text s) (value.Text t) z)) (λ r. tt) w l) v k) u h

either-kind : (b : Bool) (v w : Value) → IsOfKind kind.Text v → IsOfKind kind.Text w → IsOfKind kind.Text (if b then v else w)
either-kind true v w h k = h
either-kind false v w h k = k

substring-kind : (ks : List Kind) (vs : List Value) → AreOfKinds (kind.Text ∷ ks) vs → IsOfKind kind.Text (text_call func.Substring vs)
unfolding text_call
substring-kind ks vs p =
    let t = first-kind kind.Text ks vs p in
    either-kind (length vs == 2) _ _ (rest-kind (argument vs 0) (argument vs 1) t) (part-kind (argument vs 0) (argument vs 1) (argument vs 2) t)

pub text_gives : (f : TextFunc) (ks : List Kind) (vs : List Value) → AreOfKinds ks vs → Gives (text_kind f ks) (text_call f vs)
unfolding text_call text_kind
text_gives func.Length ks vs h = row-any ks (kind.Text ∷ []) kind.Long _ (char_count-kind _)
text_gives func.Substring ks vs h = either-gives _ _ _ (row-fits ks (kind.Text ∷ kind.Long ∷ []) kind.Text _ vs h (λ p. substring-kind (kind.Long ∷ []) vs p)) (row-fits ks (kind.Text ∷ kind.Long ∷ kind.Long ∷ []) kind.Text _ vs h (λ p. substring-kind (kind.Long ∷ kind.Long ∷ []) vs p))
text_gives func.IndexOf ks vs h = row-any ks (kind.Text ∷ kind.Text ∷ []) kind.Long _ (place_of-kind _ _)
text_gives func.ToUpper ks vs h = row-fits ks (kind.Text ∷ []) kind.Text _ vs h (λ p. raised-kind (argument vs 0) (first-kind kind.Text [] vs p))
text_gives func.ToLower ks vs h = row-fits ks (kind.Text ∷ []) kind.Text _ vs h (λ p. lowered-kind (argument vs 0) (first-kind kind.Text [] vs p))
text_gives func.Reverse ks vs h = row-fits ks (kind.Text ∷ []) kind.Text _ vs h (λ p. reversed-kind (argument vs 0) (first-kind kind.Text [] vs p))
text_gives func.Concat ks vs h = several-any 1 kind.Text ks _ (tt)
text_gives func.ConcatDelimited ks vs h = behind_text-any ks _ (tt)
text_gives func.Replace ks vs h = row-fits ks (kind.Text ∷ kind.Text ∷ kind.Text ∷ []) kind.Text _ vs h (λ p. replaced-kind (argument vs 0) (argument vs 1) (argument vs 2) (first-kind kind.Text (kind.Text ∷ kind.Text ∷ []) vs p) (second-kind kind.Text kind.Text (kind.Text ∷ []) vs p) (third-kind kind.Text kind.Text kind.Text [] vs p))
text_gives func.Split ks vs h = row-any ks (kind.Text ∷ kind.Text ∷ []) kind.Dynamic _ (pieces-kind _ _)
text_gives func.Compare ks vs h = row-any ks (kind.Text ∷ kind.Text ∷ []) kind.Long _ (text_order-kind _ _)
