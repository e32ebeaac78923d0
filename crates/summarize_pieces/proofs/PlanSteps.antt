-- The parts of a plan that fits, and what is read of rows for it.
use Rattle.std.proofs.Common.{◌≡◌, ◌<◌, ◌≤◌, ◌+◌, ◌-◌, ◌++◌, ℕ, zero, suc, Bool, true, false, List, [], ◌∷◌, drop, get_or, length, map, take, refl, ap, ap₂, sym, ◌∙◌, subst, inl, inr, arith}
use Rattle.std.specs.Prelude.{◌&&◌, None, Option, Some, flat_map, is_some}
use Rattle.std.specs.List.{AllByRecursion, list_all, range_with_len}
use Rattle.std.proofs.lemmas.Bool.{and_from, and_parts, cases_Bool}
use Rattle.std.proofs.lemmas.List.{map-append, take_more}
use Rattle.std.proofs.lemmas.List.FromFn.{get_or-map-range_with_len, length-map-range_with_len}
use Rattle.kql_cells.specs.Named.{HasDistinctNames, column_name}
use Rattle.kql_cells.specs.Table.{Grid, IsGrid}
use Rattle.kql_cells.specs.declared.schema.Column.{Column}
use Rattle.kql_cells.specs.declared.value.Value.{Value}
use Rattle.kql_cells.specs.declared.value.Value.TheVariants as value
use Rattle.kql_values.specs.Grids.{HaveLength, row_of, rows_of}
use Rattle.kql_functions.specs.declared.aggregate.Aggregate.{Aggregate}
use Rattle.kql_functions.specs.declared.aggregate.Aggregate.TheVariants as aggregate
use Rattle.kql_bound.specs.declared.expr.BExpr.{BExpr, out-BExpr, roll-BExpr, roll-out-BExpr}
use Rattle.kql_bound.specs.declared.expr.BExpr.TheOpen.{BExpr-F}
use Rattle.kql_bound.specs.declared.expr.BExpr.TheVariants as V
use Rattle.kql_bound.specs.declared.parts.BItem.{BItem}
use Rattle.kql_bound.specs.declared.parts.GroupPlan.{GroupPlan}
use Rattle.kql_meaning.specs.declared.position.Position.TheVariants as position
use Rattle.kql_meaning.specs.Expressions.{val, values_in}
use Rattle.kql_meaning.specs.FittingExpressions.{aggregate_takes, call_or_expr_fits, call_or_expr_fits_step, expr_fits, first_row_of, is_plain_column, scope_of, takes_aggregate}
use Rattle.kql_meaning.specs.FittingOperators.{answer_if, columns_if, group_item_fits, has_its_names, key_item_fits, summarize_fits}
use Rattle.kql_meaning.specs.Groups.{key_by}
use Rattle.kql_meaning.specs.Summarize.{group_columns}
use Rattle.kql_meaning.proofs.ExpressionFitLaws.{aggregate-checked}
use Rattle.kql_fit_laws.proofs.RowFacts.{answer-some}
use Rattle.kql_scalar.specs.Rows.{rows}
use Rattle.summarize_op.specs.Calls.{IsCall, is_best}
use Rattle.summarize_op.specs.Passes.{AreArguments}
use Rattle.summarize_pieces.specs.Calls.{AreCalls, call_columns, calls_by, calls_in, calls_of, first_columns, first_columns_step, firsts, further_args, item_calls}
use Rattle.summarize_pieces.specs.Pieces.{Called, IsRead, Piece, called, columns_along, piece_of, values_along}
use Rattle.summarize_pieces.proofs.CallLaws.{all-beside, calls-Aggregate, calls_that_fit}
use Rattle.summarize_pieces.proofs.ColumnSteps.{fits_plain, key_exprs}

-- What fits.

told : (c : Bool) (cs : List Column) → is_some (columns_if c cs) ≡ true → columns_if c cs ≡ Some cs
unfolding columns_if
told true cs e = refl
told false cs e = absurd cc

pub answer-is : (b : Bool) (cs : List Column) → is_some (answer_if b cs) ≡ true → answer_if b cs ≡ Some cs
unfolding answer_if
answer-is b cs e = told _ cs e

-- Whether a plan fits, as the operator's contract has it.
abbrev pub Fits : GroupPlan → List Column → Type 0
Fits g cs = is_some (answer_if (summarize_fits g cs) (group_columns g cs)) ≡ true

parts : (g : GroupPlan) (cs : List Column) → Fits g cs → (summarize_fits g cs ≡ true) × (group_columns g cs ≡ group_columns g cs) × HasDistinctNames column_name (group_columns g cs)
parts g cs fits = answer-some (summarize_fits g cs) (group_columns g cs) (group_columns g cs) (answer-is (summarize_fits g cs) (group_columns g cs) fits)

pub plan-fits : (g : GroupPlan) (cs : List Column) → Fits g cs → summarize_fits g cs ≡ true
plan-fits g cs fits = (parts g cs fits).0

pub names-differ : (g : GroupPlan) (cs ds : List Column) → Fits g cs → ds ≡ group_columns g cs → HasDistinctNames column_name ds
names-differ g cs ds fits e = subst (HasDistinctNames column_name) (sym e) (parts g cs fits).2

pub items-of : (g : GroupPlan) (cs : List Column) → summarize_fits g cs ≡ true → list_all (group_item_fits cs) g.items ≡ true
unfolding summarize_fits
items-of g cs fits = (and_parts (list_all (group_item_fits cs) g.items) (list_all (key_item_fits cs) g.keys) fits).0

pub keys-of : (g : GroupPlan) (cs : List Column) → summarize_fits g cs ≡ true → list_all (key_item_fits cs) g.keys ≡ true
unfolding summarize_fits
keys-of g cs fits = (and_parts (list_all (group_item_fits cs) g.items) (list_all (key_item_fits cs) g.keys) fits).1

pub keys-fit : (g : GroupPlan) (cs : List Column) → Fits g cs → list_all (key_item_fits cs) g.keys ≡ true
keys-fit g cs fits = keys-of g cs (plan-fits g cs fits)

pub items-fit : (g : GroupPlan) (cs : List Column) → Fits g cs → list_all (group_item_fits cs) g.items ≡ true
items-fit g cs fits = items-of g cs (plan-fits g cs fits)

-- Columns along a range.

pub map-shift : {X : Type 0} (f : ℕ → X) (a b n : ℕ) → map (λ i. f (a + i)) (range_with_len b n) ≡ map f (range_with_len (a + b) n)
map-shift f a b zero = refl
map-shift f a b (suc n) =
    let e : a + (b + 1) ≡ (a + b) + 1 = omega arith in
    ap (λ xs. f (a + b) ∷ xs) (map-shift f a (b + 1) n ∙ ap (λ m. map f (range_with_len m n)) e)

pub map-range-same : {X : Type 0} (f g : ℕ → X) (a n : ℕ) → ((i : ℕ) → i < a + n → f i ≡ g i) → map f (range_with_len a n) ≡ map g (range_with_len a n)
map-range-same f g a zero h = refl
map-range-same f g a (suc n) h = ap₂ (λ x xs. x ∷ xs) (h a (omega arith)) (map-range-same f g (a + 1) n (λ i lt. h i (omega (arith, lt))))

pub along-long : (es : List BExpr) (t : Grid) (from to : ℕ) → HaveLength (to - from) (columns_along es t from to)
unfolding HaveLength columns_along values_along rows
along-long [] t from to = tt
along-long (e ∷ es) t from to = (length-map-range_with_len (λ i. val e t i []) from (to - from), along-long es t from to)

pub along-row : (es : List BExpr) (t : Grid) (from to j : ℕ) → j < to - from → row_of (columns_along es t from to) j ≡ values_in es t (from + j) []
unfolding row_of columns_along values_along values_in rows
along-row [] t from to j lt = refl
along-row (e ∷ es) t from to j lt = ap₂ (λ (v : Value) (vs : List Value). v ∷ vs) (get_or-map-range_with_len (λ i. val e t i []) from (to - from) j (from + j) value.Null lt refl) (along-row es t from to j lt)

key-values : (keys : List BItem) (t : Grid) (i : ℕ) → values_in (key_exprs keys) t i [] ≡ key_by keys t i
unfolding values_in key_by
key-values [] t i = refl
key-values (b ∷ bs) t i = ap (λ (vs : List Value). val b.expr t i [] ∷ vs) (key-values bs t i)

start-is : (f : ℕ → List Value) (from n : ℕ) → map f (range_with_len (from + 0) n) ≡ map f (range_with_len from n)
start-is f from n = let e : from + 0 ≡ from = omega arith in ap (λ m. map f (range_with_len m n)) e

pub key-rows : (keys : List BItem) (t : Grid) (from to : ℕ) → rows_of (to - from) (columns_along (key_exprs keys) t from to) ≡ map (key_by keys t) (rows from to)
unfolding rows_of rows
key-rows keys t from to =
    map-range-same (row_of (columns_along (key_exprs keys) t from to)) (λ j. key_by keys t (from + j)) 0 (to - from)
    (λ j lt. along-row (key_exprs keys) t from to j (omega (arith, lt)) ∙ key-values keys t (from + j))
    ∙ (map-shift (key_by keys t) from 0 (to - from) ∙ start-is (key_by keys t) from (to - from))

pub keys-long : (keys : List BItem) (t : Grid) (from to n : ℕ) (vs : List (List Value)) → vs ≡ columns_along (key_exprs keys) t from to → n ≡ to - from → HaveLength n vs
keys-long keys t from to n vs is len = subst (λ m. HaveLength m vs) (sym len) (subst (HaveLength (to - from)) (sym is) (along-long (key_exprs keys) t from to))

pub read-piece : (g : GroupPlan) (t : Grid) (from to width n : ℕ) (vs keys : List (List Value)) (calls : List Called) → width ≡ length g.keys → vs ≡ columns_along (key_exprs g.keys) t from to → n ≡ to - from → keys ≡ rows_of n vs → calls ≡ map (called t from to) (calls_of g.items) → record { width = width; keys = keys; calls = calls } ≡ piece_of g t from to
unfolding piece_of
read-piece g t from to width n vs keys calls ew is len ek ec =
    let ks : keys ≡ map (key_by g.keys t) (rows from to) = ek ∙ (ap₂ rows_of len is ∙ key-rows g.keys t from to) in
    rw (ew, ks, ec) refl

pub read-fits : (g : GroupPlan) (t : Grid) (from to : ℕ) (p : Piece) → Fits g t.columns → HasDistinctNames column_name t.columns → IsGrid t → from ≤ to → to ≤ length t.lines → p ≡ piece_of g t from to → IsRead p
read-fits g t from to p fits names here order range is =
    record { plan = g; table = t; from = from; to = to; fits = plan-fits g t.columns fits; whole = (names, here); order = order; range = range; piece = is }

-- Items.

pub one-fits : (cs : List Column) (b : BItem) → group_item_fits cs b ≡ true → call_or_expr_fits b.expr (scope_of cs) position.Group ≡ true
unfolding group_item_fits
one-fits cs b fits = (and_parts (call_or_expr_fits b.expr (scope_of cs) position.Group) (has_its_names b cs) fits).0

pub item-fits : (items : List BItem) (cs : List Column) (i : ℕ) (b : BItem) → list_all (group_item_fits cs) items ≡ true → i < length items → b ≡ get_or items i b → call_or_expr_fits b.expr (scope_of cs) position.Group ≡ true
item-fits [] cs i b fits lt is = absurd (omega arith)
item-fits (c ∷ ks) cs zero b fits lt is = subst (λ (x : BItem). call_or_expr_fits x.expr (scope_of cs) position.Group ≡ true) (sym is) (one-fits cs c (and_parts (group_item_fits cs c) (list_all (group_item_fits cs) ks) fits).0)
item-fits (c ∷ ks) cs (suc i) b fits lt is = item-fits ks cs i b (and_parts (group_item_fits cs c) (list_all (group_item_fits cs) ks) fits).1 (omega (arith, lt)) is

-- Calls.

nth-call : (cs : List Column) (calls : List (Aggregate × List BExpr)) (i : ℕ) (c : Aggregate × List BExpr) → AllByRecursion (λ (c : Aggregate × List BExpr). IsCall cs c.0 c.1) calls → i < length calls → c ≡ get_or calls i c → IsCall cs c.0 c.1
nth-call cs [] i c h lt is = absurd (omega arith)
nth-call cs (x ∷ calls) zero c h lt is = subst (λ (y : Aggregate × List BExpr). IsCall cs y.0 y.1) (sym is) h.0
nth-call cs (x ∷ calls) (suc i) c h lt is = nth-call cs calls i c h.1 (omega (arith, lt)) is

pub call-at : (cs : List Column) (calls : List (Aggregate × List BExpr)) (i : ℕ) (c : Aggregate × List BExpr) (f : Aggregate) (args : List BExpr) → AreCalls cs calls → i < length calls → c ≡ get_or calls i c → f ≡ c.0 → args ≡ c.1 → IsCall cs f args
call-at cs calls i c f args h lt is ef ea = subst (λ (g : Aggregate). IsCall cs g args) (sym ef) (subst (IsCall cs c.0) (sym ea) (nth-call cs calls i c h.each lt is))

pub calls-none : (t : Grid) (from to : ℕ) (calls : List (Aggregate × List BExpr)) → map (called t from to) (take 0 calls) ≡ []
calls-none t from to calls = refl

pub calls-more : (t : Grid) (from to : ℕ) (calls : List (Aggregate × List BExpr)) (i : ℕ) (c : Aggregate × List BExpr) (f : Aggregate) (args : List BExpr) (old new : List Called) (x : Called) → i < length calls → c ≡ get_or calls i c → f ≡ c.0 → args ≡ c.1 → old ≡ map (called t from to) (take i calls) → x ≡ called t from to (f, args) → new ≡ old ++ x ∷ [] → new ≡ map (called t from to) (take (i + 1) calls)
calls-more t from to calls i c f args old new x lt is ef ea before one after =
    let same : called t from to (f, args) ≡ called t from to c = ap (λ (g : Aggregate). called t from to (g, args)) ef ∙ ap (λ (es : List BExpr). called t from to (c.0, es)) ea in
    after
    ∙ (ap₂ (λ (xs : List Called) (y : Called). xs ++ y ∷ []) before (one ∙ (same ∙ ap (called t from to) is))
    ∙ (sym (map-append (called t from to) (take i calls) (get_or calls i c ∷ [])) ∙ ap (map (called t from to)) (sym (take_more calls i c lt))))

pub ruleset call_steps = (call-at, calls-none)

-- The arguments of a call.

pub call-arguments : (cs : List Column) (f : Aggregate) (args : List BExpr) → IsCall cs f args → (list_all (fits_plain cs) args ≡ true) × (aggregate_takes f args cs ≡ true)
call-arguments cs f args h =
    let b = and_parts (takes_aggregate position.Group f) (list_all (fits_plain cs) args && aggregate_takes f args cs) (sym (aggregate-checked f args (scope_of cs) position.Group) ∙ h.fits) in
    and_parts (list_all (fits_plain cs) args) (aggregate_takes f args cs) b.1

pub take-plain : (cs : List Column) (n : ℕ) (es : List BExpr) → list_all (fits_plain cs) es ≡ true → list_all (fits_plain cs) (take n es) ≡ true
take-plain cs zero es h = refl
take-plain cs (suc n) [] h = refl
take-plain cs (suc n) (e ∷ es) h =
    let parts = and_parts (fits_plain cs e) (list_all (fits_plain cs) es) h in
    rw (parts.0, take-plain cs n es parts.1) refl

pub first-arguments : (cs : List Column) (f : Aggregate) (args first : List BExpr) (n : ℕ) → IsCall cs f args → first ≡ take n args → AreArguments cs first
first-arguments cs f args first n h e = record { each = subst (λ (es : List BExpr). list_all (fits_plain cs) es ≡ true) (sym e) (take-plain cs n args (call-arguments cs f args h).0) }

drop-plain : (cs : List Column) (es : List BExpr) → list_all (fits_plain cs) es ≡ true → list_all (fits_plain cs) (drop 1 es) ≡ true
drop-plain cs [] h = refl
drop-plain cs (e ∷ es) h = (and_parts (fits_plain cs e) (list_all (fits_plain cs) es) h).1

pub further-plain : (cs : List Column) (f : Aggregate) (args : List BExpr) → list_all (fits_plain cs) args ≡ true → list_all (fits_plain cs) (further_args (f, args)) ≡ true
unfolding further_args
further-plain cs f args h = elim (cases_Bool (is_best f)) [
  | inl y ↦ rw y (drop-plain cs args h)
  | inr n ↦ rw n refl
]

pub further-arguments : (cs : List Column) (f : Aggregate) (args further : List BExpr) → IsCall cs f args → further ≡ further_args (f, args) → AreArguments cs further
further-arguments cs f args further h e = record { each = subst (λ (es : List BExpr). list_all (fits_plain cs) es ≡ true) (sym e) (further-plain cs f args (call-arguments cs f args h).0) }

pub ruleset one_steps = (first-arguments, further-arguments)

-- The calls of items that fit.

calls-of-step : (cs : List Column) (e : BExpr) (y : BExpr-F BExpr) → out-BExpr e ≡ y → call_or_expr_fits_step y (expr_fits e (scope_of cs) position.Group) (scope_of cs) position.Group ≡ true → AllByRecursion (λ (c : Aggregate × List BExpr). IsCall cs c.0 c.1) (calls_in e)
calls-of-step cs e (BExpr-F.Aggregate f args) o h =
    let is : e ≡ V.Aggregate f args = sym (roll-out-BExpr e) ∙ (ap roll-BExpr o ∙ V.rolls-Aggregate f args) in
    subst (AllByRecursion (λ (c : Aggregate × List BExpr). IsCall cs c.0 c.1)) (sym (ap calls_in is ∙ calls-Aggregate f args)) (record { fits = h }, tt)
calls-of-step cs e (BExpr-F.Literal l) o h = calls_that_fit e cs h
calls-of-step cs e (BExpr-F.Column n) o h = calls_that_fit e cs h
calls-of-step cs e (BExpr-F.Step c) o h = calls_that_fit e cs h
calls-of-step cs e (BExpr-F.Call f args) o h = calls_that_fit e cs h
calls-of-step cs e (BExpr-F.Chain first links) o h = calls_that_fit e cs h
calls-of-step cs e (BExpr-F.Path whole steps) o h = calls_that_fit e cs h
calls-of-step cs e (BExpr-F.Window f args) o h = calls_that_fit e cs h

expression-calls : (cs : List Column) (e : BExpr) → call_or_expr_fits e (scope_of cs) position.Group ≡ true → AllByRecursion (λ (c : Aggregate × List BExpr). IsCall cs c.0 c.1) (calls_in e)
unfolding call_or_expr_fits
expression-calls cs e h = calls-of-step cs e (out-BExpr e) refl h

-- Those of `take_any` of columns.

each-first : (cs : List Column) (args : List BExpr) → takes_aggregate position.Group aggregate.TakeAny ≡ true → list_all (fits_plain cs) args ≡ true → list_all (is_plain_column cs) args ≡ true → AllByRecursion (λ (c : Aggregate × List BExpr). IsCall cs c.0 c.1) (firsts args)
unfolding firsts aggregate_takes first_row_of
each-first cs [] takes plain columns = tt
each-first cs (a ∷ args) takes plain columns =
    let p = and_parts (fits_plain cs a) (list_all (fits_plain cs) args) plain in
    let q = and_parts (is_plain_column cs a) (list_all (is_plain_column cs) args) columns in
    let one : list_all (fits_plain cs) (a ∷ []) ≡ true = and_from (fits_plain cs a) true p.0 refl in
    let named : list_all (is_plain_column cs) (a ∷ []) ≡ true = and_from (is_plain_column cs a) true q.0 refl in (
      record { fits = aggregate-checked aggregate.TakeAny (a ∷ []) (scope_of cs) position.Group ∙ and_from (takes_aggregate position.Group aggregate.TakeAny) (list_all (fits_plain cs) (a ∷ []) && aggregate_takes aggregate.TakeAny (a ∷ []) cs) takes (and_from (list_all (fits_plain cs) (a ∷ [])) (aggregate_takes aggregate.TakeAny (a ∷ []) cs) one named) },
      each-first cs args takes p.1 q.1,
    )

named-columns : (args : List BExpr) (cs : List Column) → aggregate_takes aggregate.TakeAny args cs ≡ true → list_all (is_plain_column cs) args ≡ true
unfolding aggregate_takes first_row_of
named-columns [] cs h = absurd cc
named-columns (e ∷ es) cs h = h

all-firsts : (cs : List Column) (args : List BExpr) → IsCall cs aggregate.TakeAny args → AllByRecursion (λ (c : Aggregate × List BExpr). IsCall cs c.0 c.1) (firsts args)
all-firsts cs args h =
    let b = and_parts (takes_aggregate position.Group aggregate.TakeAny) (list_all (fits_plain cs) args && aggregate_takes aggregate.TakeAny args cs) (sym (aggregate-checked aggregate.TakeAny args (scope_of cs) position.Group) ∙ h.fits) in
    let p = and_parts (list_all (fits_plain cs) args) (aggregate_takes aggregate.TakeAny args cs) b.1 in
    each-first cs args b.0 p.0 (named-columns args cs p.1)

first-fits : (cs : List Column) (f : Aggregate) (args columns : List BExpr) → call_columns f args ≡ Some columns → IsCall cs f args → IsCall cs aggregate.TakeAny columns
unfolding call_columns
first-fits cs aggregate.TakeAny args columns is h = let same : args ≡ columns = cc in subst (IsCall cs aggregate.TakeAny) same h
first-fits cs _ args columns is h = absurd cc

first-step : (cs : List Column) (e : BExpr) (y : BExpr-F BExpr) (columns : List BExpr) → first_columns_step y ≡ Some columns → call_or_expr_fits_step y (expr_fits e (scope_of cs) position.Group) (scope_of cs) position.Group ≡ true → IsCall cs aggregate.TakeAny columns
first-step cs e (BExpr-F.Aggregate f args) columns is h = first-fits cs f args columns is (record { fits = h })
first-step cs e (BExpr-F.Literal l) columns is h = absurd cc
first-step cs e (BExpr-F.Column n) columns is h = absurd cc
first-step cs e (BExpr-F.Step c) columns is h = absurd cc
first-step cs e (BExpr-F.Call f args) columns is h = absurd cc
first-step cs e (BExpr-F.Chain first links) columns is h = absurd cc
first-step cs e (BExpr-F.Path whole steps) columns is h = absurd cc
first-step cs e (BExpr-F.Window f args) columns is h = absurd cc

first-call : (cs : List Column) (e : BExpr) (columns : List BExpr) → first_columns e ≡ Some columns → call_or_expr_fits e (scope_of cs) position.Group ≡ true → IsCall cs aggregate.TakeAny columns
unfolding first_columns call_or_expr_fits
first-call cs e columns is h = first-step cs e (out-BExpr e) columns is h

calls-by : (cs : List Column) (e : BExpr) (o : Option (List BExpr)) → first_columns e ≡ o → call_or_expr_fits e (scope_of cs) position.Group ≡ true → AllByRecursion (λ (c : Aggregate × List BExpr). IsCall cs c.0 c.1) (calls_by o e)
unfolding calls_by
calls-by cs e None is h = expression-calls cs e h
calls-by cs e (Some columns) is h = all-firsts cs columns (first-call cs e columns is h)

item-calls : (cs : List Column) (e : BExpr) → call_or_expr_fits e (scope_of cs) position.Group ≡ true → AllByRecursion (λ (c : Aggregate × List BExpr). IsCall cs c.0 c.1) (item_calls e)
unfolding item_calls
item-calls cs e h = calls-by cs e (first_columns e) refl h

pub calls-fit : (cs : List Column) (items : List BItem) → list_all (group_item_fits cs) items ≡ true → AllByRecursion (λ (c : Aggregate × List BExpr). IsCall cs c.0 c.1) (calls_of items)
unfolding calls_of
calls-fit cs [] fits = tt
calls-fit cs (b ∷ bs) fits =
    let own = and_parts (group_item_fits cs b) (list_all (group_item_fits cs) bs) fits in
    all-beside (λ (c : Aggregate × List BExpr). IsCall cs c.0 c.1) (item_calls b.expr) (flat_map (λ (b : BItem). item_calls b.expr) bs)
    (item-calls cs b.expr (one-fits cs b own.0))
    (calls-fit cs bs own.1)

pub found-fit : (g : GroupPlan) (cs : List Column) (found : List (Aggregate × List BExpr)) (items : List BItem) → Fits g cs → items ≡ g.items → found ≡ calls_of items → AreCalls cs found
found-fit g cs found items fits same is =
    subst (AreCalls cs) (sym (is ∙ ap calls_of same)) (record { each = calls-fit cs g.items (items-of g cs (plan-fits g cs fits)) })

pub ruleset plan_steps = (keys-fit, keys-long)

pub ruleset name_steps = (names-differ)
