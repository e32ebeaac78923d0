-- What conversions give is of the type that their rows say.
use Rattle.std.proofs.Common.{List, [], ◌∷◌}
use Rattle.kql_cells.specs.Values.{IsOfKind}
use Rattle.kql_cells.specs.declared.value.Kind.{Kind}
use Rattle.kql_cells.specs.declared.value.Kind.TheVariants as kind
use Rattle.kql_cells.specs.declared.value.Value.{Value}
use Rattle.kql_cells.specs.declared.value.Value.TheVariants as value
use Rattle.kql_functions.specs.declared.func.ConversionFunc.{ConversionFunc}
use Rattle.kql_functions.specs.declared.func.ConversionFunc.TheVariants as func
use Rattle.kql_functions.specs.Kinds.{conversion_kind}
use Rattle.kql_scalar_fns.specs.Conversion.{conversion, to_bool, to_long, to_moment, to_span}
use Rattle.kql_scalar_fns.proofs.KindLaws.{Gives, bool-kind, either-gives, long-kind, moment-kind, row-any, span-kind}
use Rattle.kql_scalar_fns.proofs.ShapeKinds.{one_of_any-any}

to_long-kind : (v : Value) → IsOfKind kind.Long (to_long v)
unfolding to_long
to_long-kind value.Null = tt
to_long-kind (value.Bool x0) = tt
to_long-kind (value.Long x0) = tt
to_long-kind (value.Text x0) = long-kind _
to_long-kind (value.Moment x0) = tt
to_long-kind (value.Span x0) = tt
to_long-kind (value.Dynamic x0) = long-kind _

to_bool-kind : (v : Value) → IsOfKind kind.Bool (to_bool v)
unfolding to_bool
to_bool-kind value.Null = tt
to_bool-kind (value.Bool x0) = tt
to_bool-kind (value.Long x0) = tt
to_bool-kind (value.Text x0) = bool-kind _
to_bool-kind (value.Moment x0) = tt
to_bool-kind (value.Span x0) = tt
to_bool-kind (value.Dynamic x0) = bool-kind _

to_moment-kind : (v : Value) → IsOfKind kind.Moment (to_moment v)
unfolding to_moment
to_moment-kind value.Null = tt
to_moment-kind (value.Bool x0) = tt
to_moment-kind (value.Long x0) = tt
to_moment-kind (value.Text x0) = moment-kind _
to_moment-kind (value.Moment x0) = tt
to_moment-kind (value.Span x0) = tt
to_moment-kind (value.Dynamic x0) = moment-kind _

to_span-kind : (v : Value) → IsOfKind kind.Span (to_span v)
unfolding to_span
to_span-kind value.Null = tt
to_span-kind (value.Bool x0) = tt
to_span-kind (value.Long x0) = tt
to_span-kind (value.Text x0) = span-kind _
to_span-kind (value.Moment x0) = tt
to_span-kind (value.Span x0) = tt
to_span-kind (value.Dynamic x0) = span-kind _

pub conversion_gives : (f : ConversionFunc) (ks : List Kind) (vs : List Value) → Gives (conversion_kind f ks) (conversion f vs)
unfolding conversion conversion_kind
conversion_gives func.ToLong ks vs = one_of_any-any kind.Long ks _ (to_long-kind _)
conversion_gives func.ToText ks vs = one_of_any-any kind.Text ks _ (tt)
conversion_gives func.ToBool ks vs = either-gives _ _ _ (row-any ks (kind.Bool ∷ []) kind.Bool _ (to_bool-kind _)) (either-gives _ _ _ (row-any ks (kind.Long ∷ []) kind.Bool _ (to_bool-kind _)) (either-gives _ _ _ (row-any ks (kind.Text ∷ []) kind.Bool _ (to_bool-kind _)) (row-any ks (kind.Dynamic ∷ []) kind.Bool _ (to_bool-kind _))))
conversion_gives func.ToMoment ks vs = either-gives _ _ _ (row-any ks (kind.Moment ∷ []) kind.Moment _ (to_moment-kind _)) (either-gives _ _ _ (row-any ks (kind.Text ∷ []) kind.Moment _ (to_moment-kind _)) (row-any ks (kind.Dynamic ∷ []) kind.Moment _ (to_moment-kind _)))
conversion_gives func.ToSpan ks vs = either-gives _ _ _ (row-any ks (kind.Span ∷ []) kind.Span _ (to_span-kind _)) (either-gives _ _ _ (row-any ks (kind.Text ∷ []) kind.Span _ (to_span-kind _)) (row-any ks (kind.Dynamic ∷ []) kind.Span _ (to_span-kind _)))
