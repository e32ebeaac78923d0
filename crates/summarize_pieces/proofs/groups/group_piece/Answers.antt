use Rattle.std.proofs.Common.{◌∙◌, ap, length, map, subst, sym}
use Rattle.std.specs.Prelude.{All}
use Rattle.summarize_pieces.specs.Pieces.{Called, CanBeFolded, IsRead, Piece, group_states}
use Rattle.summarize_pieces.proofs.GroupSteps.{calls-can, piece-groups, piece-stored}
use Rattle.summarize_pieces.proofs.groups.group_piece.Goals as goal

pub folds_of_calls-requires-clause-calls : goal.folds_of_calls-requires-clause-calls
folds_of_calls-requires-clause-calls c =
    let p = c.args.p.now in
    let own = calls-can p c.in_ok-keys.field-0.numbers (subst IsRead c.p.view_is c.p.invariant) c.in_ok-keys.ensures.numbers in
    subst (λ ns. All (CanBeFolded (length ns)) c.as_slice.result.now) (sym c.as_slice-2.ensures.items)
    (subst (All (CanBeFolded (length c.in_ok-keys.field-0.numbers))) (sym (c.as_slice.ensures.value ∙ ap (λ (q : Piece). q.calls) c.p.view_is)) own)

pub returns : goal.returns
returns c =
    let p = c.args.p.now in
    let numbers = c.as_slice-2.result.now in
    let keys = c.in_ok-keys.field-0.keys in
    let states = c.in_ok-folds.ensures.folds
    ∙ (ap (λ n. map (λ (c : Called). group_states c numbers n) c.as_slice.result.now) c.len.ensures.count
    ∙ ap (map (λ (c : Called). group_states c numbers (length keys))) (c.as_slice.ensures.value ∙ ap (λ (q : Piece). q.calls) c.p.view_is)) in
    let calls = c.as_slice.ensures.value ∙ ap (λ (q : Piece). q.calls) c.p.view_is in
    let numbered = c.as_slice-2.ensures.items ∙ c.in_ok-keys.ensures.numbers in
    record {
      groups = λ g t from to is. record {
        groups = piece-groups g t from to p c.len-count.result c.p.inside.width keys numbers c.in_ok-calls.calls.items c.in_ok-folds.folds.items is (c.len-count.ensures.count ∙ ap (λ (q : Piece). length q.keys) c.p.view_is) (ap (λ (q : Piece). q.width) c.p.view_is) c.in_ok-keys.ensures.keys numbered (c.in_ok-calls.ensures.calls ∙ ap (map (λ (c : Called). c.call)) (c.as_slice-3.ensures.value ∙ ap (λ (q : Piece). q.calls) c.p.view_is)) states;
        stored = piece-stored g t from to p numbers c.as_slice.result.now is numbered calls c.in_ok-folds.ensures.stored;
      };
    }
