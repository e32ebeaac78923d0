-- Literals, names, and columns of step records.
use Rattle.std.proofs.Common.{◌≡◌, inl, inr, ◌<◌, ◌+◌, ◌-◌, ℕ, zero, suc, pos, Bool, true, false, nat_lt, List, [], ◌∷◌, length, get_or, refl, sym, ap, ◌∙◌, subst, arith}
use Rattle.std.specs.Prelude.{if◌then◌else◌, codes, Option, None, Some, IfSome, Ok, find, option_map, slice_get, slice_index_or}
use Rattle.std.specs.List.{list_all, position, position_or_len}
use Rattle.std.specs.Str.{bytes_eq}
use Rattle.std.proofs.lemmas.Bool.{and_parts, and_from, cases_Bool, le-leb}
use Rattle.std.proofs.lemmas.Option.{get_or_from_slice_get, slice_get-get_or}
use Rattle.std.proofs.lemmas.Slice.Eq.{bytes_eq-Decides}
use Rattle.serde_json.specs.Data.{Data}
use Rattle.serde_json.specs.Read.{read}
use Rattle.kql_cells.specs.Keys.{same_key-decides}
use Rattle.kql_cells.specs.Named.{column_name, place_of}
use Rattle.kql_cells.specs.Values.{IsMoment}
use Rattle.kql_cells.specs.declared.schema.Column.{Column}
use Rattle.kql_cells.specs.declared.value.Kind.{Kind}
use Rattle.kql_cells.specs.declared.value.Kind.TheVariants as kind
use Rattle.kql_cells.specs.declared.value.Value.{Value}
use Rattle.kql_cells.specs.declared.value.Value.TheVariants as value
use Rattle.kql_dynamic.specs.Json.{dyn_of, parsed, read_or_text}
use Rattle.kql_dynamic.specs.Parts.{value_of}
use Rattle.kql_ticks.specs.Forms.{moment_in, span_in}
use Rattle.kql_functions.specs.Kinds.{same_kind}
use Rattle.kql_lexer.specs.declared.keyword.Keyword.{Keyword}
use Rattle.kql_lexer.specs.declared.keyword.Keyword.TheVariants as word
use Rattle.kql_lexer.specs.declared.place.Place.{Place}
use Rattle.kql_syntax.specs.declared.tree.Literal.{Literal}
use Rattle.kql_syntax.specs.declared.tree.Literal.TheVariants as literal
use Rattle.kql_syntax.specs.declared.tree.Name.{Name}
use Rattle.kql_syntax.specs.declared.tree.Name.TheVariants as name
use Rattle.kql_syntax.specs.declared.tree.Word.{Word}
use Rattle.kql_bound.specs.declared.expr.BExpr.TheVariants as V
use Rattle.kql_bound.specs.declared.expr.StepColumn.{StepColumn}
use Rattle.kql_meaning.specs.declared.position.Position.{Position}
use Rattle.kql_meaning.specs.Expressions.{column_kind}
use Rattle.kql_meaning.specs.FittingExpressions.{is_this_column, is_this_name, is_this_value, step_fits, takes_columns}
use Rattle.kql_meaning.specs.Literals.{literal_fits}
use Rattle.kql_meaning.specs.Tables.{has_column, is_name_among, names_of}
use Rattle.kql_meaning.proofs.ExpressionFitLaws.{fits-Column, fits-Step}
use Rattle.kql_meaning.proofs.KindLaws.{kind-Column, kind-Step}
use Rattle.kql_fit_laws.specs.LawsOfCalls.{FitsKind}
use Rattle.kql_fit_laws.proofs.KnownValues.{parsed-fits}
use Rattle.kql_fit_laws.proofs.MomentForms.{moment_in-range}
use Rattle.typed_literals.specs.Reading.{bool_read, json_read, kind_of_word, long_read, trimmed, value_or_null, value_read}
use Rattle.bind_expr.specs.Literals.{literal_bound, literal_of, read_or_fault, typed_literal, typed_of_kind}
use Rattle.bind_expr.specs.Names.{column_or_const, const_named, const_or_fault, name_bound, word_bound}
use Rattle.bind_expr.specs.Paths.{column_at, step_bound, step_column, step_named, step_or_fault}
use Rattle.bind_expr.specs.declared.scope.Const.{Const}
use Rattle.bind_expr.specs.declared.scope.Scope.{Scope}
use Rattle.bind_expr.specs.declared.typed.Typed.{Typed}
use Rattle.bind_expr_laws.specs.Scopes.{AreRecorded, IsSoundScope, const_literal, default_literal, read_scope}
use Rattle.bind_expr_laws.proofs.Constants.{literal-part, value-literal}
use Rattle.bind_expr_laws.proofs.Outcomes.{Gives}
use Rattle.bind_expr_laws.proofs.Parts.{IsBound, IsPart, part-bound}
use Rattle.bind_expr_laws.proofs.Shapes.{Spot}
use Rattle.bind_expr_laws.proofs.StandingSteps.{stands-Column, stands-Step}
use Rattle.bind_expr_laws.proofs.Facts.{map-parts}

-- Literals.

-- The types of typed literals: there are none of strings.
abbrev IsTyped : Kind → Type 0
IsTyped kind.Text = ⊥
IsTyped _ = Unit {0}

word-typed : (w : Keyword) → IfSome (kind_of_word w) IsTyped
unfolding kind_of_word
word-typed word.Bool = tt
word-typed word.Long = tt
word-typed word.Datetime = tt
word-typed word.Timespan = tt
word-typed word.Time = tt
word-typed word.Dynamic = tt
word-typed _ = tt

null-fits : (k : Kind) → IsTyped k → FitsKind k value.Null
null-fits kind.Bool h = (tt, tt)
null-fits kind.Long h = (tt, tt)
null-fits kind.Text h = absurd h
null-fits kind.Moment h = (tt, tt)
null-fits kind.Span h = (tt, tt)
null-fits kind.Dynamic h = (tt, tt)

moment-read : (o : Option ℕ) (v : Value) → IfSome (option_map pos o) IsMoment → option_map (λ n. value.Moment (pos n)) o ≡ Some v → FitsKind kind.Moment v
moment-read None v h e = absurd cc
moment-read (Some n) v h e = let same : value.Moment (pos n) ≡ v = cc in subst (FitsKind kind.Moment) same (tt, h)

json-read : (t : List ℕ) (o : Option Data) (v : Value) → FitsKind kind.Dynamic (read_or_text t o) → option_map (λ (d : Data). value_of (dyn_of d)) o ≡ Some v → FitsKind kind.Dynamic v
json-read t None v h e = absurd cc
json-read t (Some d) v h e = let same : value_of (dyn_of d) ≡ v = cc in subst (FitsKind kind.Dynamic) same h

read-fits : (k : Kind) (t : List ℕ) (v : Value) → value_read k t ≡ Some v → FitsKind k v
unfolding value_read json_read parsed
read-fits kind.Bool t v e = let q = map-parts value.Bool (bool_read t) v e in subst (FitsKind kind.Bool) q.2 (tt, tt)
read-fits kind.Long t v e = let q = map-parts value.Long (long_read t) v e in subst (FitsKind kind.Long) q.2 (tt, tt)
read-fits kind.Text t v e = absurd cc
read-fits kind.Moment t v e = moment-read (moment_in t) v (moment_in-range t) e
read-fits kind.Span t v e = let q = map-parts value.Span (span_in t) v e in subst (FitsKind kind.Span) q.2 (tt, tt)
read-fits kind.Dynamic t v e = json-read t (read t) v (parsed-fits t) e

null-or-read : (b : Bool) (k : Kind) (t : List ℕ) (v : Value) → IsTyped k → (if b then Some value.Null else value_read k t) ≡ Some v → FitsKind k v
null-or-read true k t v h e = let same : value.Null ≡ v = cc in subst (FitsKind k) same (null-fits k h)
null-or-read false k t v h e = read-fits k t v e

value-fits : (k : Kind) (t : List ℕ) (v : Value) → IsTyped k → value_or_null k t ≡ Some v → FitsKind k v
unfolding value_or_null
value-fits k t v h e = null-or-read (bytes_eq t (codes "null")) k t v h e

literal-given : (scope : Scope) (spot : Spot) (k : Kind) (v : Value) → FitsKind k v → Gives (IsBound scope spot) (Ok (literal_of k v))
literal-given scope spot k v f = record { holds = part-bound scope spot (literal_of k v) (literal-part scope spot.position (record { kind = k; value = v }) (value-literal k v f)) }

read-bound : (scope : Scope) (spot : Spot) (place : Place) (k : Kind) (t : List ℕ) (o : Option Value) → IsTyped k → value_or_null k t ≡ o → Gives (IsBound scope spot) (read_or_fault place k o)
read-bound scope spot place k t None h e = record { holds = tt }
read-bound scope spot place k t (Some v) h e = literal-given scope spot k v (value-fits k t v h e)

typed-bound : (scope : Scope) (spot : Spot) (place : Place) (t : List ℕ) (o : Option Kind) → IfSome o IsTyped → Gives (IsBound scope spot) (typed_of_kind place t o)
typed-bound scope spot place t None h = record { holds = tt }
typed-bound scope spot place t (Some k) h = read-bound scope spot place k (trimmed t) (value_or_null k (trimmed t)) h refl

pub literal-bound : (scope : Scope) (spot : Spot) (l : Literal) → Gives (IsBound scope spot) (literal_bound l)
unfolding literal_bound typed_literal
literal-bound scope spot (literal.Number place n) = literal-given scope spot kind.Long (value.Long n) (tt, tt)
literal-bound scope spot (literal.Span place n) = literal-given scope spot kind.Span (value.Span n) (tt, tt)
literal-bound scope spot (literal.Text place text) = literal-given scope spot kind.Text (value.Text text) (tt, tt)
literal-bound scope spot (literal.True place) = literal-given scope spot kind.Bool (value.Bool true) (tt, tt)
literal-bound scope spot (literal.False place) = literal-given scope spot kind.Bool (value.Bool false) (tt, tt)
literal-bound scope spot (literal.Typed place w text) = typed-bound scope spot place text (kind_of_word w) (word-typed w)

-- Names.

kind-there : (n : List ℕ) (columns : List Column) (k : Kind) → column_kind n columns ≡ Some k → has_column n columns ≡ true
unfolding column_kind has_column is_name_among names_of
kind-there n [] k e = absurd cc
kind-there n (c ∷ cs) k e = elim (cases_Bool (bytes_eq c.name n)) [
  | inl t ↦ rw t refl
  | inr f ↦ let later : column_kind n cs ≡ Some k = rw f at e in rw f (kind-there n cs k later)
]

pub column-part : (scope : Scope) (at : Position) (n : List ℕ) (k : Kind) → column_kind n scope.schema ≡ Some k → IsPart scope at (V.Column n) k
column-part scope at n k e = record {
  kind = kind-Column n scope.schema ∙ e;
  fits = λ s. fits-Column n (read_scope scope) at ∙ and_from (takes_columns at) (has_column n scope.schema) (sym (stands-Column at n) ∙ s) (kind-there n scope.schema k e);
}

found-all : {X : Type 0} (p q : X → Bool) (xs : List X) (x : X) → find p xs ≡ Some x → list_all q xs ≡ true → q x ≡ true
found-all p q [] x e h = absurd cc
found-all p q (y ∷ ys) x e h = elim (cases_Bool (p y)) [
  | inl t ↦
      let here : Some y ≡ Some x = rw t at e in
      let same : y ≡ x = cc in
      subst (λ z. q z ≡ true) same (and_parts (q y) (list_all q ys) h).0
  | inr f ↦ let later : find p ys ≡ Some x = rw f at e in found-all p q ys x later (and_parts (q y) (list_all q ys) h).1
]

const-part : (scope : Scope) (at : Position) (n : List ℕ) (t : Typed) → IsSoundScope scope → const_named n scope.consts ≡ Some t → IsPart scope at t.expr t.kind
unfolding const_named
const-part scope at n t sound e =
    let q = map-parts (λ (c : Const). literal_of c.kind c.value) (find (λ (c : Const). bytes_eq c.name n) scope.consts) t e in
    let fits = found-all (λ (c : Const). bytes_eq c.name n) (λ (c : Const). literal_fits (const_literal c)) scope.consts q.0 q.1 sound.consts in
    subst (λ (u : Typed). IsPart scope at u.expr u.kind) q.2 (literal-part scope at (const_literal q.0) fits)

const-bound : (scope : Scope) (spot : Spot) (place : Place) (n : List ℕ) (c : Option Typed) → IsSoundScope scope → const_named n scope.consts ≡ c → Gives (IsBound scope spot) (const_or_fault place c)
const-bound scope spot place n None sound e = record { holds = tt }
const-bound scope spot place n (Some t) sound e = record { holds = part-bound scope spot t (const-part scope spot.position n t sound e) }

column-bound : (scope : Scope) (spot : Spot) (place : Place) (n : List ℕ) (c : Option Typed) (o : Option Kind) → IsSoundScope scope → const_named n scope.consts ≡ c → column_kind n scope.schema ≡ o → Gives (IsBound scope spot) (column_or_const place n c o)
column-bound scope spot place n c (Some k) sound is e = record { holds = part-bound scope spot (record { expr = V.Column n; kind = k }) (column-part scope spot.position n k e) }
column-bound scope spot place n c None sound is e = const-bound scope spot place n c sound is

pub name-bound : (scope : Scope) (spot : Spot) (n : Name) → IsSoundScope scope → Gives (IsBound scope spot) (name_bound n scope)
unfolding name_bound word_bound
name-bound scope spot (name.Bare w) sound = column-bound scope spot w.place w.text (const_named w.text scope.consts) (column_kind w.text scope.schema) sound refl refl
name-bound scope spot (name.Quoted place n) sound = column-bound scope spot place n (const_named n scope.consts) (column_kind n scope.schema) sound refl refl

-- Step records.

position-at : {X : Type 0} (p : X → Bool) (xs : List X) (i : ℕ) (d : X) → position p xs ≡ Some i → slice_get xs i ≡ Some (get_or xs i d)
position-at p xs i d e = elim (cases_Bool (nat_lt (position_or_len p xs) (length xs))) [
  | inl t ↦
      let known : Some (position_or_len p xs) ≡ Some i = rw t at e in
      let same : position_or_len p xs ≡ i = cc in
      let below : position_or_len p xs < length xs = grind (arith, t) in
      subst (λ m. slice_get xs m ≡ Some (get_or xs m d)) same (slice_get-get_or xs (position_or_len p xs) d below)
  | inr f ↦ let none : None ≡ Some i = rw f at e in absurd cc
]

recorded-at : (columns ds : List Column) (vs : List Value) (p : ℕ) (c : Column) → AreRecorded columns ds vs → slice_get ds p ≡ Some c → (slice_get columns p ≡ Some c) × (v : Value) × (slice_get vs p ≡ Some v) × (literal_fits (default_literal c v) ≡ true)
recorded-at columns [] vs p c h e = absurd cc
recorded-at [] (d ∷ ds) [] p c h e = absurd h
recorded-at [] (d ∷ ds) (v ∷ vs) p c h e = absurd h
recorded-at (b ∷ columns) (d ∷ ds) [] p c h e = absurd h
recorded-at (b ∷ columns) (d ∷ ds) (v ∷ vs) zero c h e =
    let same : d ≡ c = cc in
    (ap (λ (x : Column). Some x) (h.0 ∙ same), v, refl, subst (λ (x : Column). literal_fits (default_literal x v) ≡ true) same h.1)
recorded-at (b ∷ columns) (d ∷ ds) (v ∷ vs) (suc p) c h e = recorded-at columns ds vs p c h.2 e

same-self : (k : Kind) → same_kind k k ≡ true
same-self kind.Bool = refl
same-self kind.Long = refl
same-self kind.Text = refl
same-self kind.Moment = refl
same-self kind.Span = refl
same-self kind.Dynamic = refl

this-name : (o : Option (List ℕ)) (m n : List ℕ) → o ≡ Some m → n ≡ m → is_this_name o n ≡ true
unfolding is_this_name
this-name o m n e same = rw (e, same) ((bytes_eq-Decides m m).1 refl)

this-column : (o : Option Column) (c d : Column) → o ≡ Some c → d ≡ c → is_this_column o d.name d.kind ≡ true
unfolding is_this_column
this-column o c d e same = rw (e, same) (and_from _ _ ((bytes_eq-Decides c.name c.name).1 refl) (same-self c.kind))

this-value : (o : Option Value) (v w : Value) → o ≡ Some v → w ≡ v → is_this_value o w ≡ true
unfolding is_this_value
this-value o v w e same = rw (e, same) ((same_key-decides v v).1 refl)

step-there : (scope : Scope) (i p : ℕ) (m : List ℕ) (c : Column) → IsSoundScope scope → slice_get scope.steps.names i ≡ Some m → slice_get scope.steps.columns p ≡ Some c → (s : StepColumn) → s.step ≡ slice_index_or scope.steps.names i [] → s.column ≡ (column_at scope.steps.columns p).name → s.number ≡ i + 1 → s.place ≡ p → s.default ≡ default_literal (column_at scope.steps.columns p) (slice_index_or scope.steps.defaults p value.Null) → step_fits (read_scope scope) s ≡ true
unfolding step_fits
step-there scope i p m c sound named placed s one two three four five =
    let here = get_or_from_slice_get scope.steps.columns p c (record { name = []; kind = kind.Dynamic }) placed in
    let q = recorded-at scope.schema scope.steps.columns scope.steps.defaults p c sound.records placed in
    let held = get_or_from_slice_get scope.steps.defaults p q.1 value.Null q.2 in
    let back : (i + 1) - 1 ≡ i = omega arith in
    rw (one, two, three, four, five) (and_from _ _ (le-leb 1 (i + 1) (omega arith))
    (and_from _ _ (this-name (slice_get scope.steps.names ((i + 1) - 1)) m (slice_index_or scope.steps.names i []) (ap (slice_get scope.steps.names) back ∙ named) (get_or_from_slice_get scope.steps.names i m [] named))
    (and_from _ _ (this-column (slice_get scope.schema p) c (column_at scope.steps.columns p) q.0 here)
    (and_from _ _ (this-value (slice_get scope.steps.defaults p) q.1 (slice_index_or scope.steps.defaults p value.Null) q.2 held)
    (rw (here, held) q.3)))))

step-part : (scope : Scope) (at : Position) (i p : ℕ) (m : List ℕ) (c : Column) → IsSoundScope scope → slice_get scope.steps.names i ≡ Some m → slice_get scope.steps.columns p ≡ Some c → IsPart scope at (step_column scope.steps i p).expr (step_column scope.steps i p).kind
unfolding step_column
step-part scope at i p m c sound named placed =
    let d : Column = column_at scope.steps.columns p in
    let s : StepColumn = record { step = slice_index_or scope.steps.names i []; column = d.name; number = i + 1; place = p; default = record { kind = d.kind; value = slice_index_or scope.steps.defaults p value.Null } } in
    record {
      kind = kind-Step s scope.schema;
      fits = λ e. fits-Step s (read_scope scope) at ∙ and_from (takes_columns at) (step_fits (read_scope scope) s) (sym (stands-Step at s) ∙ e) (step-there scope i p m c sound named placed s refl refl refl refl refl);
    }

step-as : (scope : Scope) (spot : Spot) (i : ℕ) (m : List ℕ) (place : Place) (w : List ℕ) (o : Option ℕ) → IsSoundScope scope → slice_get scope.steps.names i ≡ Some m → place_of column_name w scope.steps.columns ≡ o → Gives (IsBound scope spot) (step_or_fault scope.steps i place o)
step-as scope spot i m place w None sound named e = record { holds = tt }
step-as scope spot i m place w (Some p) sound named e =
    let d : Column = record { name = []; kind = kind.Dynamic } in
    record { holds = part-bound scope spot (step_column scope.steps i p) (step-part scope spot.position i p m (get_or scope.steps.columns p d) sound named (position-at (λ (x : Column). bytes_eq (column_name x) w) scope.steps.columns p d e)) }

pub step-bound : (scope : Scope) (spot : Spot) (n : Option (List ℕ)) (i : ℕ) (w : Word) → IsSoundScope scope → step_named scope.steps n ≡ Some i → Gives (IsBound scope spot) (step_bound scope.steps i w)
unfolding step_bound step_named
step-bound scope spot None i w sound e = absurd cc
step-bound scope spot (Some n) i w sound e =
    step-as scope spot i (get_or scope.steps.names i []) w.place w.text (place_of column_name w.text scope.steps.columns) sound (position-at (λ (m : List ℕ). bytes_eq m n) scope.steps.names i [] e) refl
