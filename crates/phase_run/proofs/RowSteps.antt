-- The work of a run of operators that read one row at a time.
use Rattle.std.proofs.Common.{◌≡◌, ◌≤◌, ◌+◌, ◌*◌, ◌-◌, ℕ, zero, suc, List, ◌∷◌, drop, length, map, refl, ap, sym, ◌∙◌, subst}
use Rattle.std.specs.Prelude.{min, slice_range, true}
use Rattle.std.specs.List.{range_with_len}
use Rattle.std.proofs.lemmas.Bool.{and_parts}
use Rattle.std.proofs.lemmas.List.Elements.{All-cons, All-drop, All-nil, All-take}
use Rattle.kql_cells.specs.Table.{Grid, RowFits}
use Rattle.kql_values.specs.Moves.{kinds_of}
use Rattle.kql_bound.specs.declared.expr.BExpr.{BExpr}
use Rattle.kql_bound.specs.declared.plan.Op.{Op}
use Rattle.kql_bound.specs.declared.plan.Op.TheVariants as V
use Rattle.kql_meaning.specs.FittingOperators.{where_fits}
use Rattle.kql_meaning.specs.Plans.{World}
use Rattle.kql_meaning.specs.RowByRow.{is_plain}
use Rattle.kql_meaning.specs.Where.{where_table}
use Rattle.kql_meaning.specs.Tables.{emptied}
use Rattle.phase_laws.specs.LawsOfRuns.{ColumnsOfRun, OfPieces}
use Rattle.phase_laws.specs.Pieces.{of_pieces, piece_of, put_together}
use Rattle.phase_laws.specs.Runs.{are_by_row, is_by_row, made_of}
use Rattle.phase_laws.proofs.ByRowLaws.{by_row-Where}
use Rattle.kql_plain.specs.AtHand.{OpsFit}
use Rattle.kql_plain.proofs.FitLaws.{fits-Where}
use Rattle.kql_plain.proofs.OperatorLaws.{first-fits, means-Where, one-more, others-fit}
use Rattle.phase_pieces.proofs.TogetherLaws.{Alike}

-- Operators that fit a table fit its pieces, and no rows.

part-fits : (ops : List Op) (w : World) (t : Grid) (from to : ℕ) → OpsFit ops w t → OpsFit ops w (record t { lines = slice_range t.lines from to })
unfolding OpsFit
part-fits ops w t from to f = (f.0, f.1, f.2, (f.3.0, All-take (RowFits t.columns) (to - from) (drop from t.lines) (All-drop (RowFits t.columns) from t.lines f.3.1)), f.4)

pub piece-fits : (ops : List Op) (w : World) (t u : Grid) (rows piece : ℕ) → OpsFit ops w t → u ≡ piece_of rows t piece → OpsFit ops w u
unfolding piece_of
piece-fits ops w t u rows piece f is = subst (OpsFit ops w) (sym is) (part-fits ops w t (piece * rows) (min (length t.lines) (piece * rows + rows)) f)

pub none-fits : (ops : List Op) (w : World) (t u : Grid) → OpsFit ops w t → u ≡ emptied t → OpsFit ops w u
unfolding emptied
none-fits ops w t u f is = subst (OpsFit ops w) (sym is) (part-fits ops w t 0 0 f)

-- A filter that comes first, and the operators behind it.

pub filter-fits : (ops behind : List Op) (e : BExpr) (w : World) (t : Grid) → ops ≡ V.Where e ∷ behind → OpsFit ops w t → where_fits e t.columns ≡ true
filter-fits ops behind e w t is f = fits-Where e w t (first-fits (V.Where e) behind w t (subst (λ (os : List Op). OpsFit os w t) is f))

pub filter-plain : (ops behind : List Op) (e : BExpr) → ops ≡ V.Where e ∷ behind → are_by_row ops ≡ true → is_plain e ≡ true
filter-plain ops behind e is r = sym (by_row-Where e) ∙ (and_parts (is_by_row (V.Where e)) (are_by_row behind) (sym (ap are_by_row is) ∙ r)).0

pub behind-filter-fits : (ops behind : List Op) (e : BExpr) (w : World) (t kept : Grid) (rows piece : ℕ) → ops ≡ V.Where e ∷ behind → OpsFit ops w t → kept ≡ where_table e (piece_of rows t piece) → OpsFit behind w kept
behind-filter-fits ops behind e w t kept rows piece is f k =
    let u = piece_of rows t piece in
    subst (OpsFit behind w) (means-Where e w u ∙ sym k) (others-fit (V.Where e) behind w u (piece-fits (V.Where e ∷ behind) w t u rows piece (subst (λ (os : List Op). OpsFit os w t) is f) refl))

pub behind-filter-made : (ops behind : List Op) (e : BExpr) (w : World) (u kept made : Grid) → ops ≡ V.Where e ∷ behind → kept ≡ where_table e u → made ≡ made_of behind w kept → made ≡ made_of ops w u
behind-filter-made ops behind e w u kept made is k m =
    m ∙ (ap (made_of behind w) (k ∙ sym (means-Where e w u)) ∙ sym (ap (λ (os : List Op). made_of os w u) is ∙ one-more (V.Where e) behind w u))

-- What is made of the pieces has the columns of what is made of no rows.
alike-from : (law : ColumnsOfRun) (ops : List Op) (w : World) (t first : Grid) (rows a n : ℕ) → are_by_row ops ≡ true → first ≡ made_of ops w (emptied t) → Alike first (map (λ p. made_of ops w (piece_of rows t p)) (range_with_len a n))
unfolding emptied piece_of
alike-from law ops w t first rows a zero r is = All-nil (λ (u : Grid). kinds_of u.columns ≡ kinds_of first.columns)
alike-from law ops w t first rows a (suc n) r is =
    All-cons (λ (u : Grid). kinds_of u.columns ≡ kinds_of first.columns) (made_of ops w (piece_of rows t a)) (map (λ p. made_of ops w (piece_of rows t p)) (range_with_len (a + 1) n))
    (ap kinds_of (law ops w (piece_of rows t a) (emptied t) r refl ∙ sym (ap (λ (u : Grid). u.columns) is)))
    (alike-from law ops w t first rows (a + 1) n r is)

pub all-alike : (law : ColumnsOfRun) (ops : List Op) (w : World) (t first : Grid) (rows pieces : ℕ) (made : List Grid) → are_by_row ops ≡ true → first ≡ made_of ops w (emptied t) → made ≡ map (λ p. made_of ops w (piece_of rows t p)) (range_with_len 0 pieces) → Alike first made
all-alike law ops w t first rows pieces made r is all = subst (Alike first) (sym all) (alike-from law ops w t first rows 0 pieces r is)

pub whole-run : (law : OfPieces) (ops : List Op) (w : World) (t first whole : Grid) (rows pieces : ℕ) (made : List Grid) → are_by_row ops ≡ true → length t.lines ≤ pieces * rows → first ≡ made_of ops w (emptied t) → made ≡ map (λ p. made_of ops w (piece_of rows t p)) (range_with_len 0 pieces) → whole ≡ put_together first made → whole ≡ made_of ops w t
unfolding of_pieces
whole-run law ops w t first whole rows pieces made r le is all put =
    put ∙ (ap (λ (f : Grid). put_together f made) is ∙ (ap (put_together (made_of ops w (emptied t))) all ∙ sym (law ops w t rows pieces r le)))

pub ruleset part_steps = (piece-fits, filter-fits, filter-plain, behind-filter-fits, behind-filter-made)

pub ruleset run_steps = (none-fits)
