-- What comparisons give is of the type that their rows say.
use Rattle.std.proofs.Common.{List, [], ◌∷◌}
use Rattle.kql_cells.specs.declared.value.Kind.{Kind}
use Rattle.kql_cells.specs.declared.value.Kind.TheVariants as kind
use Rattle.kql_cells.specs.declared.value.Value.{Value}
use Rattle.kql_functions.specs.declared.func.ComparisonFunc.{ComparisonFunc}
use Rattle.kql_functions.specs.declared.func.ComparisonFunc.TheVariants as func
use Rattle.kql_functions.specs.Kinds.{comparison_kind}
use Rattle.kql_scalar_fns.specs.Comparison.{comparison}
use Rattle.kql_scalar_fns.proofs.KindLaws.{Gives, bool-kind, either-gives, row-any}
use Rattle.kql_scalar_fns.proofs.ShapeKinds.{one_among-any, text_among-any, two_equal-any, two_ordered-any}

pub comparison_gives : (f : ComparisonFunc) (ks : List Kind) (vs : List Value) → Gives (comparison_kind f ks) (comparison f vs)
unfolding comparison comparison_kind
comparison_gives func.Equal ks vs = two_equal-any ks _ (bool-kind _)
comparison_gives func.NotEqual ks vs = two_equal-any ks _ (bool-kind _)
comparison_gives func.Less ks vs = two_ordered-any ks _ (bool-kind _)
comparison_gives func.AtMost ks vs = two_ordered-any ks _ (bool-kind _)
comparison_gives func.Greater ks vs = two_ordered-any ks _ (bool-kind _)
comparison_gives func.AtLeast ks vs = two_ordered-any ks _ (bool-kind _)
comparison_gives func.EqualText ks vs = row-any ks (kind.Text ∷ kind.Text ∷ []) kind.Bool _ (bool-kind _)
comparison_gives func.NotEqualText ks vs = row-any ks (kind.Text ∷ kind.Text ∷ []) kind.Bool _ (bool-kind _)
comparison_gives func.In ks vs = one_among-any ks _ (tt)
comparison_gives func.NotIn ks vs = one_among-any ks _ (tt)
comparison_gives func.InTexts ks vs = text_among-any ks _ (tt)
comparison_gives func.NotInTexts ks vs = text_among-any ks _ (tt)
comparison_gives func.Between ks vs = either-gives _ _ _ (row-any ks (kind.Long ∷ kind.Long ∷ kind.Long ∷ []) kind.Bool _ (bool-kind _)) (either-gives _ _ _ (row-any ks (kind.Moment ∷ kind.Moment ∷ kind.Moment ∷ []) kind.Bool _ (bool-kind _)) (either-gives _ _ _ (row-any ks (kind.Span ∷ kind.Span ∷ kind.Span ∷ []) kind.Bool _ (bool-kind _)) (row-any ks (kind.Moment ∷ kind.Moment ∷ kind.Span ∷ []) kind.Bool _ (bool-kind _))))
comparison_gives func.NotBetween ks vs = either-gives _ _ _ (row-any ks (kind.Long ∷ kind.Long ∷ kind.Long ∷ []) kind.Bool _ (bool-kind _)) (either-gives _ _ _ (row-any ks (kind.Moment ∷ kind.Moment ∷ kind.Moment ∷ []) kind.Bool _ (bool-kind _)) (either-gives _ _ _ (row-any ks (kind.Span ∷ kind.Span ∷ kind.Span ∷ []) kind.Bool _ (bool-kind _)) (row-any ks (kind.Moment ∷ kind.Moment ∷ kind.Span ∷ []) kind.Bool _ (bool-kind _))))
