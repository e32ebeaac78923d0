-- The laws of folds of pieces, which the twenty aggregates keep.
use Rattle.std.proofs.Common.{◌≡◌, ◌++◌, List, refl, sym}
use Rattle.std.specs.Prelude.{All}
use Rattle.kql_cells.specs.declared.value.Value.{Value}
use Rattle.agg_folds.specs.Laws.{HaveOneKind}
use Rattle.agg_folds.specs.Pieces.{IsRowOf, kind_or_long}
use Rattle.agg_folds.specs.States.{fold_of, with_fold}
use Rattle.agg_folds.specs.declared.call.FoldCall.{FoldCall}
use Rattle.agg_folds.proofs.JoinStates.{rows-joined}

pub of-one-kind : (call : FoldCall) (rows more : List (List Value)) → All (IsRowOf call.kind) rows → All (IsRowOf call.kind) more → HaveOneKind rows more
of-one-kind call rows more h g = record {
  kind = kind_or_long call.kind;
  each = λ i d l. (h i d l).first;
  further = λ i d l. (g i d l).first;
}

-- The folds of two lists, joined, are the fold of both after each other.
pub fold-joins : (call : FoldCall) (rows more : List (List Value)) → All (IsRowOf call.kind) rows → All (IsRowOf call.kind) more → fold_of call (rows ++ more) ≡ with_fold (fold_of call rows) (fold_of call more)
fold-joins call rows more h g =
    sym (rows-joined call rows more (of-one-kind call rows more h g) (fold_of call rows) (fold_of call more) (with_fold (fold_of call rows) (fold_of call more)) refl refl refl)
