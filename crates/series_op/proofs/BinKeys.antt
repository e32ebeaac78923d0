-- The start of a row's bin as a key: a row has it exactly where its axis falls in the bin.
use Rattle.std.proofs.Common.{◌≡◌, ◌<◌, Bool, true, false, List, [], ◌∷◌, ℕ, ℤ, pos, refl, ap, ap₂, sym, ◌∙◌, subst, inl, inr, length}
use Rattle.std.specs.Prelude.{◌&&◌, ◌-ℤ◌, Option, None, Some, bytes_eq, find, is_some, option_and_then, option_map}
use Rattle.std.specs.Option.{option_eq}
use Rattle.std.specs.Ordering.{int_eq}
use Rattle.std.proofs.lemmas.Bool.{and_parts, cases_Bool}
use Rattle.std.proofs.lemmas.Bool.Decides.{Decides-int_eq}
use Rattle.kql_ticks.specs.Bins.{bin_at}
use Rattle.kql_ticks.specs.Ranges.{fit_moment, is_moment}
use Rattle.kql_cells.specs.Keys.{same_key}
use Rattle.kql_cells.specs.Named.{column_name}
use Rattle.kql_cells.specs.Table.{Grid, IsGrid}
use Rattle.kql_cells.specs.Values.{IsOfKind, IsWellFormed}
use Rattle.kql_cells.specs.declared.schema.Column.{Column}
use Rattle.kql_cells.specs.declared.value.Kind.{Kind}
use Rattle.kql_cells.specs.declared.value.Kind.TheVariants as kind
use Rattle.kql_cells.specs.declared.value.Value.{Value}
use Rattle.kql_cells.specs.declared.value.Value.TheVariants as value
use Rattle.kql_functions.specs.Kinds.{same_kind}
use Rattle.kql_functions.specs.declared.func.ArithmeticFunc.TheVariants as arithmetic
use Rattle.kql_functions.specs.declared.func.Func.TheVariants as func
use Rattle.kql_scalar_fns.specs.Applied.{applied}
use Rattle.kql_scalar_fns.specs.Arguments.{argument, long_or_null, moment_or_null, span_or_null}
use Rattle.kql_scalar_fns.specs.Arithmetic.{arithmetic as arithmetic_call, bin}
use Rattle.kql_bound.specs.declared.literal.Lit.{Lit}
use Rattle.kql_bound.specs.declared.parts.SeriesPlan.{SeriesPlan}
use Rattle.kql_meaning.specs.Expressions.{column_kind, val, values_in}
use Rattle.kql_meaning.specs.FittingExpressions.{has_kind, is_kind}
use Rattle.kql_meaning.specs.FittingOperators.{bins_fit, ends_fit, has_at_most, is_given, is_step_of}
use Rattle.kql_meaning.specs.Literals.{is_of_kind, is_well_formed, literal_fits}
use Rattle.kql_meaning.specs.MakeSeries.{falls_in}
use Rattle.kql_meaning.specs.Numbers.{added}
use Rattle.kql_meaning.specs.Sources.{number_in}
use Rattle.kql_meaning.specs.Tables.{cell}
use Rattle.kql_meaning.specs.Values.{number_as, number_of}
use Rattle.kql_meaning.proofs.LiteralLaws.{is_well_formed-decides}
use Rattle.kql_meaning.proofs.ValueLaws.{val-Call, val-Column, val-Literal}
use Rattle.kql_fit_laws.proofs.JoinRows.{same-kind}
use Rattle.kql_fit_laws.proofs.RowFacts.{cell-named-fits}
use Rattle.series_op.specs.Summary.{bin_args, bin_expr}

-- Literals that are numbers.

long-given : (v : Value) → is_of_kind kind.Long v ≡ true → is_some (number_of v) ≡ true → (n : ℤ) × (v ≡ value.Long n)
unfolding is_of_kind number_of
long-given (value.Long n) e f = (n, refl)
long-given value.Null e f = cc
long-given (value.Bool b) e f = cc
long-given (value.Text t) e f = cc
long-given (value.Moment n) e f = cc
long-given (value.Span n) e f = cc
long-given (value.Dynamic d) e f = cc

moment-given : (v : Value) → is_of_kind kind.Moment v ≡ true → is_some (number_of v) ≡ true → (n : ℤ) × (v ≡ value.Moment n)
unfolding is_of_kind number_of
moment-given (value.Moment n) e f = (n, refl)
moment-given value.Null e f = cc
moment-given (value.Bool b) e f = cc
moment-given (value.Text t) e f = cc
moment-given (value.Long n) e f = cc
moment-given (value.Span n) e f = cc
moment-given (value.Dynamic d) e f = cc

span-given : (v : Value) → is_of_kind kind.Span v ≡ true → is_some (number_of v) ≡ true → (n : ℤ) × (v ≡ value.Span n)
unfolding is_of_kind number_of
span-given (value.Span n) e f = (n, refl)
span-given value.Null e f = cc
span-given (value.Bool b) e f = cc
span-given (value.Text t) e f = cc
span-given (value.Long n) e f = cc
span-given (value.Moment n) e f = cc
span-given (value.Dynamic d) e f = cc

-- Results as keys.

key-of-long : (o : Option ℤ) (b : ℤ) → same_key (long_or_null o) (value.Long b) ≡ option_eq int_eq o (Some b)
unfolding same_key
key-of-long None b = refl
key-of-long (Some y) b = refl

key-of-span : (o : Option ℤ) (b : ℤ) → same_key (span_or_null o) (value.Span b) ≡ option_eq int_eq o (Some b)
unfolding same_key
key-of-span None b = refl
key-of-span (Some y) b = refl

other-number : (y b : ℤ) → is_moment y ≡ false → is_moment b ≡ true → int_eq y b ≡ false
other-number y b n h = elim (cases_Bool (int_eq y b)) [
  | inl t ↦ let e : false ≡ true = sym n ∙ (ap is_moment ((Decides-int_eq y b).0 t) ∙ h) in cc
  | inr f ↦ f
]

key-of-moment : (o : Option ℤ) (b : ℤ) → is_moment b ≡ true → same_key (moment_or_null (option_and_then fit_moment o)) (value.Moment b) ≡ option_eq int_eq o (Some b)
unfolding same_key fit_moment
key-of-moment None b h = refl
key-of-moment (Some y) b h = elim (cases_Bool (is_moment y)) [
  | inl t ↦ rw t refl
  | inr n ↦ rw n (sym (other-number y b n h))
]

-- By the type of the axis.

abbrev in_bin : Value → Value → Value → ℤ → Bool
in_bin x s f b = option_eq int_eq (option_and_then (λ n. bin_at n (added (number_of s)) (added (number_of f))) (number_of x)) (Some b)

long-axis : (x : Value) (s f b : ℤ) → IsOfKind kind.Long x → same_key (bin x (value.Long s) (value.Long f)) (value.Long b) ≡ in_bin x (value.Long s) (value.Long f) b
unfolding bin number_of added same_key
long-axis (value.Long n) s f b h = key-of-long (bin_at n s f) b
long-axis value.Null s f b h = refl
long-axis (value.Bool c) s f b h = absurd h
long-axis (value.Text t) s f b h = absurd h
long-axis (value.Moment n) s f b h = absurd h
long-axis (value.Span n) s f b h = absurd h
long-axis (value.Dynamic d) s f b h = absurd h

span-axis : (x : Value) (s f b : ℤ) → IsOfKind kind.Span x → same_key (bin x (value.Span s) (value.Span f)) (value.Span b) ≡ in_bin x (value.Span s) (value.Span f) b
unfolding bin number_of added same_key
span-axis (value.Span n) s f b h = key-of-span (bin_at n s f) b
span-axis value.Null s f b h = refl
span-axis (value.Bool c) s f b h = absurd h
span-axis (value.Text t) s f b h = absurd h
span-axis (value.Moment n) s f b h = absurd h
span-axis (value.Long n) s f b h = absurd h
span-axis (value.Dynamic d) s f b h = absurd h

moment-axis : (x : Value) (s f b : ℤ) → is_moment b ≡ true → IsOfKind kind.Moment x → same_key (bin x (value.Span s) (value.Moment f)) (value.Moment b) ≡ in_bin x (value.Span s) (value.Moment f) b
unfolding bin number_of added same_key
moment-axis (value.Moment n) s f b m h = key-of-moment (bin_at n s f) b m
moment-axis value.Null s f b m h = refl
moment-axis (value.Bool c) s f b m h = absurd h
moment-axis (value.Text t) s f b m h = absurd h
moment-axis (value.Span n) s f b m h = absurd h
moment-axis (value.Long n) s f b m h = absurd h
moment-axis (value.Dynamic d) s f b m h = absurd h

-- A literal that is of a type and a number.
pub record IsNumber (k : Kind) (v : Value) : Type 0 where
  pub kind : is_of_kind k v ≡ true
  pub given : is_some (number_of v) ≡ true

pub number-given : (l : Lit) → is_given l ≡ true → IsNumber l.kind l.value
unfolding is_given literal_fits
number-given l e =
    let parts = and_parts (is_of_kind l.kind l.value && is_well_formed l.value) (is_some (number_of l.value)) e in
    record { kind = (and_parts (is_of_kind l.kind l.value) (is_well_formed l.value) parts.0).0; given = parts.1 }

long-step : (s : Kind) → is_step_of kind.Long s ≡ true → s ≡ kind.Long
unfolding is_step_of
long-step s e = same-kind s kind.Long e

moment-step : (s : Kind) → is_step_of kind.Moment s ≡ true → s ≡ kind.Span
unfolding is_step_of
moment-step s e = same-kind s kind.Span e

span-step : (s : Kind) → is_step_of kind.Span s ≡ true → s ≡ kind.Span
unfolding is_step_of
span-step s e = same-kind s kind.Span e

bool-step : (s : Kind) → is_step_of kind.Bool s ≡ true → ⊥
unfolding is_step_of
bool-step s e = cc

text-step : (s : Kind) → is_step_of kind.Text s ≡ true → ⊥
unfolding is_step_of
text-step s e = cc

dynamic-step : (s : Kind) → is_step_of kind.Dynamic s ≡ true → ⊥
unfolding is_step_of
dynamic-step s e = cc

moment-of : (b : ℤ) → IsWellFormed (value.Moment b) → is_moment b ≡ true
unfolding is_well_formed
moment-of b h = (is_well_formed-decides (value.Moment b)).1 h

by-kind : (k s : Kind) (x sv fv : Value) (b : ℤ) → is_step_of k s ≡ true → IsOfKind k x → IsNumber s sv → IsNumber k fv → IsWellFormed (number_as k b) → same_key (bin x sv fv) (number_as k b) ≡ in_bin x sv fv b
unfolding number_as
by-kind kind.Long s x sv fv b e h n m w =
    let q = long-given sv (subst (λ (l : Kind). is_of_kind l sv ≡ true) (long-step s e) n.kind) n.given in
    let r = long-given fv m.kind m.given in
    rw (q.1, r.1) (long-axis x q.0 r.0 b h)
by-kind kind.Moment s x sv fv b e h n m w =
    let q = span-given sv (subst (λ (l : Kind). is_of_kind l sv ≡ true) (moment-step s e) n.kind) n.given in
    let r = moment-given fv m.kind m.given in
    rw (q.1, r.1) (moment-axis x q.0 r.0 b (moment-of b w) h)
by-kind kind.Span s x sv fv b e h n m w =
    let q = span-given sv (subst (λ (l : Kind). is_of_kind l sv ≡ true) (span-step s e) n.kind) n.given in
    let r = span-given fv m.kind m.given in
    rw (q.1, r.1) (span-axis x q.0 r.0 b h)
by-kind kind.Bool s x sv fv b e h n m w = absurd (bool-step s e)
by-kind kind.Text s x sv fv b e h n m w = absurd (text-step s e)
by-kind kind.Dynamic s x sv fv b e h n m w = absurd (dynamic-step s e)

-- What the bins ask.
pub record FitBins (p : SeriesPlan) (cs : List Column) : Type 0 where
  pub from : is_given p.from ≡ true
  pub to : is_given p.to ≡ true
  pub step : is_given p.step ≡ true
  pub ends : p.from.kind ≡ p.to.kind
  pub stepped : is_step_of p.from.kind p.step.kind ≡ true
  pub few : has_at_most (number_in p.from) (number_in p.to -ℤ pos 1) (number_in p.step) 100000 ≡ true
  pub axis : is_kind p.from.kind (column_kind p.axis cs) ≡ true

pub bins-parts : (p : SeriesPlan) (cs : List Column) → bins_fit p cs ≡ true → FitBins p cs
unfolding bins_fit ends_fit
bins-parts p cs e =
    let few = has_at_most (number_in p.from) (number_in p.to -ℤ pos 1) (number_in p.step) 100000 in
    let all = and_parts (is_given p.from && (is_given p.to && (is_given p.step && (same_kind p.from.kind p.to.kind && is_step_of p.from.kind p.step.kind)))) (few && is_kind p.from.kind (column_kind p.axis cs)) e in
    let rest = and_parts few (is_kind p.from.kind (column_kind p.axis cs)) all.1 in
    let a = and_parts (is_given p.from) (is_given p.to && (is_given p.step && (same_kind p.from.kind p.to.kind && is_step_of p.from.kind p.step.kind))) all.0 in
    let b = and_parts (is_given p.to) (is_given p.step && (same_kind p.from.kind p.to.kind && is_step_of p.from.kind p.step.kind)) a.1 in
    let c = and_parts (is_given p.step) (same_kind p.from.kind p.to.kind && is_step_of p.from.kind p.step.kind) b.1 in
    let d = and_parts (same_kind p.from.kind p.to.kind) (is_step_of p.from.kind p.step.kind) c.1 in
    record { from = a.0; to = b.0; step = c.0; ends = same-kind p.from.kind p.to.kind d.0; stepped = d.1; few = rest.0; axis = rest.1 }

-- The axis of a row.

found-kind : (k : Kind) (o : Option Column) → has_kind (same_kind k) (option_map (λ (c : Column). c.kind) o) ≡ true → (c : Column) × (o ≡ Some c) × (k ≡ c.kind)
unfolding has_kind
found-kind k None e = absurd cc
found-kind k (Some c) e = (c, refl, same-kind k c.kind e)

pub axis-there : (p : SeriesPlan) (cs : List Column) → FitBins p cs → (c : Column) × (find (λ (d : Column). bytes_eq (column_name d) p.axis) cs ≡ Some c) × (p.from.kind ≡ c.kind)
unfolding is_kind column_kind
axis-there p cs f = found-kind p.from.kind (find (λ (c : Column). bytes_eq c.name p.axis) cs) f.axis

axis-kind : (p : SeriesPlan) (u : Grid) (i : ℕ) → FitBins p u.columns → IsGrid u → i < length u.lines → IsOfKind p.from.kind (cell u i p.axis)
axis-kind p u i f h lt =
    let q = axis-there p u.columns f in
    subst (λ (k : Kind). IsOfKind k (cell u i p.axis)) (sym q.2) (cell-named-fits u i p.axis q.0 h lt q.1).0

-- The start of the bin of a row.

call-is : (x s f : Value) → applied (func.Arithmetic arithmetic.BinAt) (x ∷ s ∷ f ∷ []) ≡ bin x s f
unfolding applied arithmetic_call argument
call-is x s f = refl

pub bin-value : (p : SeriesPlan) (u : Grid) (i : ℕ) → val (bin_expr p) u i [] ≡ bin (cell u i p.axis) p.step.value p.from.value
unfolding bin_expr bin_args values_in
bin-value p u i =
    val-Call (func.Arithmetic arithmetic.BinAt) (bin_args p) u i []
    ∙ (ap (applied (func.Arithmetic arithmetic.BinAt))
    (ap₂ (λ (v : Value) (vs : List Value). v ∷ vs) (val-Column p.axis u i [])
    (ap₂ (λ (v : Value) (vs : List Value). v ∷ vs) (val-Literal p.step u i []) (ap (λ (v : Value). v ∷ []) (val-Literal p.from u i []))))
    ∙ call-is (cell u i p.axis) p.step.value p.from.value)

falls-is : (p : SeriesPlan) (x : Value) (b : ℤ) → falls_in p b (number_of x) ≡ in_bin x p.step.value p.from.value b
unfolding falls_in number_in
falls-is p x b = refl

pub bin-key : (p : SeriesPlan) (u : Grid) (i : ℕ) (b : ℤ) → FitBins p u.columns → IsGrid u → i < length u.lines → IsWellFormed (number_as p.from.kind b) → same_key (val (bin_expr p) u i []) (number_as p.from.kind b) ≡ falls_in p b (number_of (cell u i p.axis))
bin-key p u i b f h lt w =
    ap (λ (v : Value). same_key v (number_as p.from.kind b)) (bin-value p u i)
    ∙ (by-kind p.from.kind p.step.kind (cell u i p.axis) p.step.value p.from.value b f.stepped (axis-kind p u i f h lt) (number-given p.step f.step) (number-given p.from f.from) w
    ∙ sym (falls-is p (cell u i p.axis) b))

-- The number that a key is.

abbrev IsNumbered : Kind → Value → ℤ → Type 0
IsNumbered k v b = number_of v ≡ Some b → v ≡ number_as k b

long-numbered : (o : Option ℤ) (b : ℤ) → IsNumbered kind.Long (long_or_null o) b
unfolding number_of number_as
long-numbered None b e = cc
long-numbered (Some n) b e = let same : n ≡ b = cc in ap value.Long same

span-numbered : (o : Option ℤ) (b : ℤ) → IsNumbered kind.Span (span_or_null o) b
unfolding number_of number_as
span-numbered None b e = cc
span-numbered (Some n) b e = let same : n ≡ b = cc in ap value.Span same

moment-numbered : (o : Option ℤ) (b : ℤ) → IsNumbered kind.Moment (moment_or_null o) b
unfolding number_of number_as
moment-numbered None b e = cc
moment-numbered (Some n) b e = let same : n ≡ b = cc in ap value.Moment same

null-numbered : (k : Kind) (b : ℤ) → IsNumbered k value.Null b
unfolding number_of
null-numbered k b e = cc

long-start : (x : Value) (s f b : ℤ) → IsOfKind kind.Long x → IsNumbered kind.Long (bin x (value.Long s) (value.Long f)) b
unfolding bin
long-start (value.Long n) s f b h = long-numbered (bin_at n s f) b
long-start value.Null s f b h = null-numbered kind.Long b
long-start (value.Bool c) s f b h = absurd h
long-start (value.Text t) s f b h = absurd h
long-start (value.Moment n) s f b h = absurd h
long-start (value.Span n) s f b h = absurd h
long-start (value.Dynamic d) s f b h = absurd h

span-start : (x : Value) (s f b : ℤ) → IsOfKind kind.Span x → IsNumbered kind.Span (bin x (value.Span s) (value.Span f)) b
unfolding bin
span-start (value.Span n) s f b h = span-numbered (bin_at n s f) b
span-start value.Null s f b h = null-numbered kind.Span b
span-start (value.Bool c) s f b h = absurd h
span-start (value.Text t) s f b h = absurd h
span-start (value.Moment n) s f b h = absurd h
span-start (value.Long n) s f b h = absurd h
span-start (value.Dynamic d) s f b h = absurd h

moment-start : (x : Value) (s f b : ℤ) → IsOfKind kind.Moment x → IsNumbered kind.Moment (bin x (value.Span s) (value.Moment f)) b
unfolding bin
moment-start (value.Moment n) s f b h = moment-numbered (option_and_then fit_moment (bin_at n s f)) b
moment-start value.Null s f b h = null-numbered kind.Moment b
moment-start (value.Bool c) s f b h = absurd h
moment-start (value.Text t) s f b h = absurd h
moment-start (value.Span n) s f b h = absurd h
moment-start (value.Long n) s f b h = absurd h
moment-start (value.Dynamic d) s f b h = absurd h

numbered-by-kind : (k s : Kind) (x sv fv : Value) (b : ℤ) → is_step_of k s ≡ true → IsOfKind k x → IsNumber s sv → IsNumber k fv → IsNumbered k (bin x sv fv) b
numbered-by-kind kind.Long s x sv fv b e h n m =
    let q = long-given sv (subst (λ (l : Kind). is_of_kind l sv ≡ true) (long-step s e) n.kind) n.given in
    let r = long-given fv m.kind m.given in
    rw (q.1, r.1) (long-start x q.0 r.0 b h)
numbered-by-kind kind.Moment s x sv fv b e h n m =
    let q = span-given sv (subst (λ (l : Kind). is_of_kind l sv ≡ true) (moment-step s e) n.kind) n.given in
    let r = moment-given fv m.kind m.given in
    rw (q.1, r.1) (moment-start x q.0 r.0 b h)
numbered-by-kind kind.Span s x sv fv b e h n m =
    let q = span-given sv (subst (λ (l : Kind). is_of_kind l sv ≡ true) (span-step s e) n.kind) n.given in
    let r = span-given fv m.kind m.given in
    rw (q.1, r.1) (span-start x q.0 r.0 b h)
numbered-by-kind kind.Bool s x sv fv b e h n m = absurd (bool-step s e)
numbered-by-kind kind.Text s x sv fv b e h n m = absurd (text-step s e)
numbered-by-kind kind.Dynamic s x sv fv b e h n m = absurd (dynamic-step s e)

pub bin-numbered : (p : SeriesPlan) (u : Grid) (i : ℕ) (b : ℤ) → FitBins p u.columns → IsGrid u → i < length u.lines → number_of (val (bin_expr p) u i []) ≡ Some b → val (bin_expr p) u i [] ≡ number_as p.from.kind b
bin-numbered p u i b f h lt e =
    bin-value p u i
    ∙ numbered-by-kind p.from.kind p.step.kind (cell u i p.axis) p.step.value p.from.value b f.stepped (axis-kind p u i f h lt) (number-given p.step f.step) (number-given p.from f.from)
    (sym (ap number_of (bin-value p u i)) ∙ e)

pub as-number : (k s : Kind) (n : ℤ) → is_step_of k s ≡ true → number_of (number_as k n) ≡ Some n
unfolding number_of number_as is_step_of
as-number kind.Long s n e = refl
as-number kind.Moment s n e = refl
as-number kind.Span s n e = refl
as-number kind.Bool s n e = cc
as-number kind.Text s n e = cc
as-number kind.Dynamic s n e = cc
