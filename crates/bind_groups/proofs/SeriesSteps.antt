-- `make-series`: its items one after another, its bins, and its faults before those of the bins.
use Rattle.std.proofs.Common.{◌≡◌, ◌<◌, ◌+◌, ℕ, List, [], ◌∷◌, ◌++◌, get_or, length, take, refl, sym, ap, subst}
use Rattle.std.specs.Prelude.{false, IfOk, Ok, Err, fold}
use Rattle.std.proofs.lemmas.List.{append_assoc}
use Rattle.std.proofs.lemmas.List.Sums.{fold_more}
use Rattle.kql_cells.specs.declared.schema.Column.{Column}
use Rattle.kql_lexer.specs.declared.place.Place.{Place}
use Rattle.kql_bound.specs.declared.literal.Lit.{Lit}
use Rattle.kql_bound.specs.declared.parts.SeriesPlan.{SeriesPlan}
use Rattle.kql_bound.specs.declared.plan.Op.TheVariants as op
use Rattle.kql_meaning.specs.MakeSeries.{series_columns}
use Rattle.kql_syntax.specs.declared.query.Item.{Item}
use Rattle.kql_syntax.specs.declared.query.MakeSeries.{MakeSeries}
use Rattle.kql_syntax.specs.declared.query.Series.{Series}
use Rattle.kql_syntax.specs.declared.tree.Expr.{Expr}
use Rattle.bind_expr.specs.Outcome.{Answers, Outcome, ◌>>=◌}
use Rattle.bind_expr.specs.declared.fault.BindFault.{BindFault}
use Rattle.bind_expr.proofs.AnswerFacts.{answers-along, goes_on, goes_under}
use Rattle.bind_operators.specs.declared.bound.BoundOp.{BoundOp}
use Rattle.bind_operators.specs.declared.known.Known.{Known}
use Rattle.bind_operators.specs.declared.shape.Shape.{Shape}
use Rattle.bind_operators.specs.declared.items.NamedItems.{NamedItems}
use Rattle.bind_operators.specs.declared.wanted.Wanted.{Wanted}
use Rattle.bind_operators.specs.declared.wanted.Wanted.TheVariants as wanted
use Rattle.bind_operators.specs.Answers.{answer, made, width_faults}
use Rattle.bind_operators.specs.Faults.{unless}
use Rattle.bind_operators.specs.Places.{name_place}
use Rattle.bind_operators.specs.Wanted.{constant_bound}
use Rattle.bind_operators.proofs.AnswerSteps.{behind-fault, none-told}
use Rattle.bind_groups.specs.declared.part.Axis.{Axis}
use Rattle.bind_groups.specs.declared.part.NamedSeries.{NamedSeries}
use Rattle.bind_groups.specs.declared.part.SeriesPart.{SeriesPart}
use Rattle.bind_groups.specs.MakeSeries.{axis_bound, axis_over, bin_faults, bins_bound, make_series_bound, no_series, plan_over, series_answer, series_bound, series_link, series_part_bound, series_twice, with_series}
use Rattle.bind_groups.specs.Summarize.{group_keys_bound}
use Rattle.bind_groups.proofs.ExpandLaws.{one-more}

-- Items from left to right.

pub series-start : (operator : Place) (known : Known) (rows : Shape) (done : NamedSeries) → done ≡ no_series → Answers (Ok done) (series_bound operator known rows [])
unfolding series_bound
series-start operator known rows done is = record { holds = ap (λ d. Ok d) (sym is) }

pub series-turn : (operator : Place) (known : Known) (rows : Shape) (xs : List Series) (i : ℕ) (d : Series) (before : Outcome NamedSeries) (next : Outcome SeriesPart) (result : Outcome NamedSeries) → i < length xs → Answers before (series_bound operator known rows (take i xs)) → Answers next (series_part_bound operator known rows (get_or xs i d)) → Answers result (series_link before (get_or xs i d).item next) → Answers result (series_bound operator known rows (take (i + 1) xs))
unfolding series_bound
series-turn operator known rows xs i d before next result l a b h =
    let first : Outcome NamedSeries = series_bound operator known rows (take i xs) in
    let s : Series = get_or xs i d in
    let one = goes_on before first (λ done. next >>= λ t. Ok (with_series done s.item t)) result a h in
    let two = goes_under first next (series_part_bound operator known rows s) (λ done t. Ok (with_series done s.item t)) result b one in
    answers-along result (series_link first s.item (series_part_bound operator known rows s)) (series_bound operator known rows (take (i + 1) xs)) two
    (sym (fold_more (λ before (x : Series). series_link before x.item (series_part_bound operator known rows x)) (Ok no_series) xs i d l))

pub ruleset series_steps = (series-start, series-turn)

-- Each item has its place.

abbrev is_even_series : NamedSeries → Type 0
is_even_series d = length d.places ≡ length d.items

series-link-even : (before : Outcome NamedSeries) (item : Item) (next : Outcome SeriesPart) → IfOk before is_even_series → IfOk (series_link before item next) is_even_series
unfolding with_series
series-link-even (Ok d) item (Ok s) h = one-more d.places _ d.items _ h
series-link-even (Ok d) item (Err f) h = tt
series-link-even (Err f) item next h = tt

series-links-even : (bind : Series → Outcome SeriesPart) (items : List Series) (start : Outcome NamedSeries) → IfOk start is_even_series → IfOk (fold (λ before (s : Series). series_link before s.item (bind s)) start items) is_even_series
series-links-even bind [] start h = h
series-links-even bind (s ∷ items) start h = series-links-even bind items (series_link start s.item (bind s)) (series-link-even start s.item (bind s) h)

even-of-series : (o : Outcome NamedSeries) (d : NamedSeries) → o ≡ Ok d → IfOk o is_even_series → is_even_series d
even-of-series o d is h = rw is at h

pub series-even : (operator : Place) (known : Known) (rows : Shape) (items : List Series) (r : Outcome NamedSeries) (done : NamedSeries) → r ≡ Ok done → Answers r (series_bound operator known rows items) → length done.places ≡ length done.items
unfolding series_bound no_series
series-even operator known rows items r done is a =
    let there : Answers (Ok done) (series_bound operator known rows items) = subst (λ s. Answers s (series_bound operator known rows items)) is a in
    even-of-series (series_bound operator known rows items) done (there.holds) (series-links-even (series_part_bound operator known rows) items (Ok no_series) refl)

-- The whole, with its bins as one step.

abbrev pub stepped : Place → MakeSeries → Known → Shape → Outcome BoundOp
stepped operator s known rows = do
  done ← series_bound operator known rows s.items
  c ← axis_bound operator known rows s.axis
  axis ← bins_bound operator known rows c s
  keys ← group_keys_bound known rows done.next s.keys
  series_answer operator rows (series_twice done (name_place s.axis) axis.name keys) (plan_over done axis keys)

over-bins : (from to step : Outcome Lit) (c : Column) (k : Axis → Outcome BoundOp) → ((from >>= λ a. to >>= λ b. step >>= λ d. Ok (axis_over c a b d)) >>= k) ≡ (from >>= λ a. to >>= λ b. step >>= λ d. k (axis_over c a b d))
over-bins (Ok a) (Ok b) (Ok d) c k = refl
over-bins (Ok a) (Ok b) (Err f) c k = refl
over-bins (Ok a) (Err f) step c k = refl
over-bins (Err f) to step c k = refl

over-step : {X Y : Type 0} (o : Outcome X) (f g : X → Outcome Y) → ((x : X) → f x ≡ g x) → (o >>= f) ≡ (o >>= g)
over-step (Ok x) f g same = same x
over-step (Err e) f g same = refl

pub stepped-answers : (operator : Place) (s : MakeSeries) (known : Known) (rows : Shape) (result : Outcome BoundOp) → Answers result (stepped operator s known rows) → Answers result (make_series_bound operator s known rows)
unfolding make_series_bound bins_bound
stepped-answers operator s known rows result h =
    let with_keys = λ (done : NamedSeries) (axis : Axis). group_keys_bound known rows done.next s.keys >>= λ (keys : NamedItems). series_answer operator rows (series_twice done (name_place s.axis) axis.name keys) (plan_over done axis keys) in
    let one = λ (k : Wanted) (e : Expr). constant_bound operator k known rows e in
    let flat = λ (done : NamedSeries) (c : Column). one (wanted.Is c.kind) s.from >>= λ (a : Lit). one (wanted.Is c.kind) s.to >>= λ (b : Lit). one (wanted.StepOf c.kind) s.step >>= λ (d : Lit). with_keys done (axis_over c a b d) in
    let grouped = λ (done : NamedSeries) (c : Column). bins_bound operator known rows c s >>= with_keys done in
    answers-along result (stepped operator s known rows) (make_series_bound operator s known rows) h
    (over-step (series_bound operator known rows s.items) (λ (done : NamedSeries). axis_bound operator known rows s.axis >>= grouped done) (λ (done : NamedSeries). axis_bound operator known rows s.axis >>= flat done)
    (λ (done : NamedSeries). over-step (axis_bound operator known rows s.axis) (grouped done) (flat done)
    (λ (c : Column). over-bins (one (wanted.Is c.kind) s.from) (one (wanted.Is c.kind) s.to) (one (wanted.StepOf c.kind) s.step) c (with_keys done))))

pub stepped-fault : (operator : Place) (s : MakeSeries) (known : Known) (rows : Shape) (f : BindFault) → Answers (Err f) (stepped operator s known rows) → Answers (Err f) (make_series_bound operator s known rows)
stepped-fault operator s known rows f h = stepped-answers operator s known rows (Err f) h

pub ruleset stepped_steps = (series-even, stepped-answers, stepped-fault)

-- Names that stand twice are told of before the bins.

pub twice-none : (fs : List BindFault) (operator : Place) (rows : Shape) (plan : SeriesPlan) (r : Outcome (Unit {0})) (result : Outcome BoundOp) → r ≡ Ok tt → Answers r (unless fs tt) → Answers result (series_answer operator rows [] plan) → Answers result (series_answer operator rows fs plan)
twice-none fs operator rows plan r result is a h =
    subst (λ l. Answers result (series_answer operator rows l plan)) (sym (none-told fs r is a)) h

pub twice-told : (fs : List BindFault) (operator : Place) (rows : Shape) (plan : SeriesPlan) (r : Outcome (Unit {0})) (f : BindFault) → r ≡ Err f → Answers r (unless fs tt) → Answers (Err f) (series_answer operator rows fs plan)
unfolding series_answer answer
twice-told fs operator rows plan r f is a =
    let columns : List Column = series_columns plan rows.columns in
    let bins : List BindFault = bin_faults operator rows plan in
    let wide : List BindFault = width_faults operator columns in
    subst (λ l. Answers (Err f) (unless l (made (op.MakeSeries plan) columns false))) (sym (append_assoc fs bins wide))
    (behind-fault fs (bins ++ wide) (made (op.MakeSeries plan) columns false) r f is a)

pub ruleset told_steps = (twice-none, twice-told, none-told)
