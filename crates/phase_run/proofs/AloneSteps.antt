-- Phases of one operator.
use Rattle.std.proofs.Common.{◌≡◌, ◌<◌, ℕ, true, false, List, [], ◌∷◌, get_or, length, take, ap, sym, ◌∙◌, subst, arith}
use Rattle.std.specs.Prelude.{is_some}
use Rattle.kql_cells.specs.Named.{HasDistinctNames, column_name}
use Rattle.kql_cells.specs.Table.{Grid}
use Rattle.kql_bound.specs.declared.parts.BItem.{BItem}
use Rattle.kql_bound.specs.declared.parts.BKey.{BKey}
use Rattle.kql_bound.specs.declared.parts.GroupPlan.{GroupPlan}
use Rattle.kql_bound.specs.declared.parts.SeriesPlan.{SeriesPlan}
use Rattle.kql_bound.specs.declared.plan.Op.{Op}
use Rattle.kql_bound.specs.declared.plan.Op.TheVariants as V
use Rattle.kql_meaning.specs.FittingOperators.{answer_if, items_fit, series_fits, sort_fits, summarize_fits}
use Rattle.kql_meaning.specs.Extend.{extend_columns}
use Rattle.kql_meaning.specs.Items.{items_columns}
use Rattle.kql_meaning.specs.MakeSeries.{series_columns}
use Rattle.kql_meaning.specs.Summarize.{group_columns}
use Rattle.kql_meaning.specs.declared.position.Position.TheVariants as position
use Rattle.kql_meaning.specs.Plans.{World, op_means}
use Rattle.kql_plain.specs.AtHand.{OpFits, OpsFit}
use Rattle.kql_plain.proofs.FitLaws.{answers-MakeSeries, answers-Summarize, fits-Extend, fits-Project, fits-Top, names-Extend, names-Project}
use Rattle.kql_plain.proofs.OperatorLaws.{first-fits, no-more, one-more}
use Rattle.phase_laws.specs.Runs.{made_of}
use Rattle.phase_forms.specs.Held.{goes_alone, holds_plan}
use Rattle.phase_run.specs.Works.{IsAlone}

pub is-alone : (left more phase : List Op) (o : Op) (n : ℕ) → left ≡ o ∷ more → phase ≡ take n left → n ≡ 1 → goes_alone o ≡ true → holds_plan o ≡ false → IsAlone phase
is-alone left more phase o n is first one goes none = record {
  op = o;
  one = first ∙ (ap (λ (k : ℕ). take k left) one ∙ ap (take 1) is);
  goes = goes;
  none = none;
}

pub some-alone : (ops : List Op) → IsAlone ops → 0 < length ops
some-alone ops a = subst (λ (os : List Op). 0 < length os) (sym a.one) (omega arith)

at-first : (ops : List Op) (x o : Op) → ops ≡ o ∷ [] → x ≡ get_or ops 0 x → x ≡ o
at-first ops x o one is = is ∙ ap (λ (os : List Op). get_or os 0 x) one

pub alone-is : (ops : List Op) (x : Op) → IsAlone ops → x ≡ get_or ops 0 x → ops ≡ x ∷ []
alone-is ops x a is = a.one ∙ ap (λ (o : Op). o ∷ []) (sym (at-first ops x a.op a.one is))

pub alone-goes : (ops : List Op) (x : Op) → IsAlone ops → x ≡ get_or ops 0 x → goes_alone x ≡ true
alone-goes ops x a is = ap goes_alone (at-first ops x a.op a.one is) ∙ a.goes

pub alone-none : (ops : List Op) (x : Op) → IsAlone ops → x ≡ get_or ops 0 x → holds_plan x ≡ false
alone-none ops x a is = ap holds_plan (at-first ops x a.op a.one is) ∙ a.none

pub alone-fits : (ops : List Op) (x : Op) (w : World) (t a : Grid) → IsAlone ops → x ≡ get_or ops 0 x → a ≡ t → OpsFit ops w t → OpFits x w a
alone-fits ops x w t a alone is same f =
    first-fits x [] w a (subst (λ (u : Grid). OpsFit (x ∷ []) w u) (sym same) (subst (λ (os : List Op). OpsFit os w t) (alone-is ops x alone is) f))

pub alone-made : (ops : List Op) (x : Op) (w : World) (t a r : Grid) → IsAlone ops → x ≡ get_or ops 0 x → a ≡ t → r ≡ op_means x w a → r ≡ made_of ops w t
alone-made ops x w t a r alone is same made =
    made ∙ (ap (op_means x w) same ∙ (sym (one-more x [] w t ∙ no-more w (op_means x w t)) ∙ sym (ap (λ (os : List Op). made_of os w t) (alone-is ops x alone is))))

at-hand : (o p : Op) (w : World) (t a : Grid) → o ≡ p → a ≡ t → OpFits o w t → OpFits p w a
at-hand o p w t a is here f = subst (λ (u : Grid). OpFits p w u) (sym here) (subst (λ (q : Op). OpFits q w t) is f)

pub top-fits : (o : Op) (n : ℕ) (keys seen : List BKey) (w : World) (t a : Grid) → o ≡ V.Top n keys → seen ≡ keys → a ≡ t → OpFits o w t → sort_fits seen a.columns ≡ true
top-fits o n keys seen w t a is same here f = ap (λ (ks : List BKey). sort_fits ks a.columns) same ∙ fits-Top n keys w a (at-hand o (V.Top n keys) w t a is here f)

pub groups-fit : (o : Op) (g : GroupPlan) (w : World) (t a : Grid) → o ≡ V.Summarize g → a ≡ t → OpFits o w t → is_some (answer_if (summarize_fits g a.columns) (group_columns g a.columns)) ≡ true
groups-fit o g w t a is here f = answers-Summarize g w a (at-hand o (V.Summarize g) w t a is here f)

pub series-fit : (o : Op) (s : SeriesPlan) (w : World) (t a : Grid) → o ≡ V.MakeSeries s → a ≡ t → OpFits o w t → is_some (answer_if (series_fits s a.columns) (series_columns s a.columns)) ≡ true
series-fit o s w t a is here f = answers-MakeSeries s w a (at-hand o (V.MakeSeries s) w t a is here f)

pub extend-fits : (o : Op) (items seen : List BItem) (w : World) (t a : Grid) → o ≡ V.Extend items → seen ≡ items → a ≡ t → OpFits o w t → items_fit seen a.columns position.Window ≡ true
extend-fits o items seen w t a is same here f =
    ap (λ (xs : List BItem). items_fit xs a.columns position.Window) same ∙ fits-Extend items w a (subst (λ (u : Grid). OpFits (V.Extend items) w u) (sym here) (subst (λ (p : Op). OpFits p w t) is f))

pub extend-names : (o : Op) (items seen : List BItem) (w : World) (t a : Grid) → o ≡ V.Extend items → seen ≡ items → a ≡ t → OpFits o w t → HasDistinctNames column_name (extend_columns seen a.columns)
extend-names o items seen w t a is same here f =
    subst (λ (xs : List BItem). HasDistinctNames column_name (extend_columns xs a.columns)) (sym same) (names-Extend items w a (subst (λ (u : Grid). OpFits (V.Extend items) w u) (sym here) (subst (λ (p : Op). OpFits p w t) is f)))

pub project-fits : (o : Op) (items seen : List BItem) (w : World) (t : Grid) → o ≡ V.Project items → seen ≡ items → OpFits o w t → items_fit seen t.columns position.Window ≡ true
project-fits o items seen w t is same f =
    ap (λ (xs : List BItem). items_fit xs t.columns position.Window) same ∙ fits-Project items w t (subst (λ (p : Op). OpFits p w t) is f)

pub project-names : (o : Op) (items seen : List BItem) (w : World) (t : Grid) → o ≡ V.Project items → seen ≡ items → OpFits o w t → HasDistinctNames column_name (items_columns seen t.columns)
project-names o items seen w t is same f =
    subst (λ (xs : List BItem). HasDistinctNames column_name (items_columns xs t.columns)) (sym same) (names-Project items w t (subst (λ (p : Op). OpFits p w t) is f))

pub ruleset alone_steps = (some-alone, alone-goes, alone-none, alone-fits, alone-made)
