-- Keys, columns that are keys, and tests of lists.
use Rattle.std.proofs.Common.{◌≡◌, ◌+◌, ℕ, Bool, true, false, List, [], ◌∷◌, ◌++◌, length, map, refl, sym, ap, ◌∙◌, subst, inl, inr}
use Rattle.std.specs.Prelude.{not, ◌||◌, Ok, Some, bytes_eq, find, fold}
use Rattle.std.specs.List.{AllByRecursion, list_all, list_any}
use Rattle.std.proofs.lemmas.Bool.{and_from, and_parts, cases_Bool}
use Rattle.std.proofs.lemmas.List.{length-append}
use Rattle.std.proofs.lemmas.List.Folds.{list_all-append}
use Rattle.std.proofs.lemmas.Slice.Eq.{bytes_eq-Decides}
use Rattle.kql_cells.specs.Named.{column_name}
use Rattle.kql_cells.specs.declared.schema.Column.{Column}
use Rattle.kql_cells.specs.declared.value.Kind.{Kind}
use Rattle.kql_cells.specs.declared.value.Kind.TheVariants as kind
use Rattle.kql_functions.specs.Kinds.{is_dynamic, same_kind}
use Rattle.kql_bound.specs.declared.expr.BExpr.TheVariants as V
use Rattle.kql_meaning.specs.declared.position.Position.TheVariants as position
use Rattle.kql_meaning.specs.Expressions.{column_kind, kind_of}
use Rattle.kql_meaning.specs.FittingExpressions.{expr_fits, fits_as, has_kind, is_key, scope_of, takes_columns}
use Rattle.kql_meaning.specs.FittingOperators.{are_distinct, has_its_names, key_item_fits}
use Rattle.kql_meaning.specs.Tables.{has_column, is_name_among, names_of}
use Rattle.kql_meaning.proofs.ExpressionFitLaws.{fits-Column}
use Rattle.kql_meaning.proofs.KindLaws.{kind-Column}
use Rattle.kql_meaning.proofs.MemberLaws.{Member, Pairwise, of-member}
use Rattle.kql_syntax.specs.declared.query.Item.{Item}
use Rattle.bind_expr.specs.Outcome.{Outcome, ◌>>=◌}
use Rattle.bind_expr.specs.declared.scope.Scope.{Scope}
use Rattle.bind_expr.specs.declared.typed.Typed.{Typed}
use Rattle.bind_operators.specs.declared.items.NamedItems.{NamedItems}
use Rattle.bind_operators.specs.declared.known.Known.{Known}
use Rattle.bind_operators.specs.declared.shape.Shape.{Shape}
use Rattle.bind_operators.specs.declared.wanted.Wanted.TheVariants as wanted
use Rattle.bind_operators.specs.Items.{column_as, column_item, given_name, items_from, names_or_own, no_items, number_behind, with_item}
use Rattle.bind_operators.specs.Known.{scope_at}
use Rattle.bind_operators.specs.Places.{item_start}
use Rattle.bind_operators.specs.Wanted.{takes}
use Rattle.bind_operators.proofs.NameLaws.{apart, different, is_even, names-even, neither, of-ok, pairwise-of, steps-even}
use Rattle.bind_groups.specs.Summarize.{group_key, group_keys_bound}
use Rattle.bind_query_laws.specs.Sound.{AreColumns, IsSoundKnown}
use Rattle.bind_query_laws.proofs.Frame.{after-ok, among-one, fits-typed, items-pass, named-well, ok-same, one-result, scope-sound, single-name, typed-sound}

-- Tests of lists.

pub or-else : (a b : Bool) → (a ≡ false → b ≡ true) → a || b ≡ true
or-else true b h = refl
or-else false b h = h refl

pub or-right : (a b : Bool) → a ≡ false → a || b ≡ true → b ≡ true
or-right true b e h = absurd cc
or-right false b e h = h

-- Where each is bad or good, and none is bad.
pub all-but : {X : Type 0} (bad good : X → Bool) (xs : List X) → list_all (λ x. bad x || good x) xs ≡ true → list_any bad xs ≡ false → list_all good xs ≡ true
all-but bad good [] h e = refl
all-but bad good (x ∷ xs) h e =
    let parts = and_parts (bad x || good x) (list_all (λ y. bad y || good y) xs) h in
    let none = neither (bad x) (list_any bad xs) e in
    and_from (good x) (list_all good xs) (or-right (bad x) (good x) none.0 parts.0) (all-but bad good xs parts.1 none.1)

pub map-all : {X Y : Type 0} (f : X → Y) (p : Y → Bool) (xs : List X) → AllByRecursion (λ x. p (f x) ≡ true) xs → list_all p (map f xs) ≡ true
map-all f p [] h = refl
map-all f p (x ∷ xs) h = and_from (p (f x)) (list_all p (map f xs)) h.0 (map-all f p xs h.1)

-- Types.

pub same-self : (k : Kind) → same_kind k k ≡ true
same-self kind.Bool = refl
same-self kind.Long = refl
same-self kind.Text = refl
same-self kind.Moment = refl
same-self kind.Span = refl
same-self kind.Dynamic = refl

-- Columns that are keys: the column of its name, whose type is not dynamic.

abbrev pub IsKeyOf : List Column → Column → Type 0
IsKeyOf columns c = (find (λ (d : Column). bytes_eq d.name c.name) columns ≡ Some c) × (is_dynamic c.kind ≡ false)

pub found-column : (columns : List Column) (n : List ℕ) (c : Column) → find (λ (d : Column). bytes_eq d.name n) columns ≡ Some c → (has_column n columns ≡ true) × (column_kind n columns ≡ Some c.kind) × (c.name ≡ n)
unfolding has_column is_name_among names_of column_kind
found-column [] n c e = absurd cc
found-column (d ∷ ds) n c e = elim (cases_Bool (bytes_eq d.name n)) [
  | inl t ↦
      let here : Some d ≡ Some c = rw t at e in
      let same : d ≡ c = cc in
      (rw t refl, rw t (ap (λ (x : Column). Some x.kind) same), sym (ap column_name same) ∙ (bytes_eq-Decides d.name n).0 t)
  | inr f ↦
      let later : find (λ (x : Column). bytes_eq x.name n) ds ≡ Some c = rw f at e in
      let q = found-column ds n c later in
      (rw f q.0, rw f q.1, q.2)
]

pub key-kind : (k : Kind) → is_dynamic k ≡ false → is_key k ≡ true
unfolding is_key
key-kind k e = ap not e

pub column-key : (columns : List Column) (c : Column) → IsKeyOf columns c → key_item_fits columns (column_item c) ≡ true
unfolding key_item_fits fits_as has_kind column_as takes_columns
column-key columns c h =
    let q = found-column columns c.name c h.0 in
    let fits : expr_fits (V.Column c.name) (scope_of columns) position.Plain ≡ true = fits-Column c.name (scope_of columns) position.Plain ∙ q.0 in
    let type : kind_of (V.Column c.name) columns ≡ Some c.kind = kind-Column c.name columns ∙ q.1 in
    and_from (fits_as is_key (V.Column c.name) (scope_of columns) position.Plain) (has_its_names (column_item c) columns)
    (and_from (expr_fits (V.Column c.name) (scope_of columns) position.Plain) (has_kind is_key (kind_of (V.Column c.name) columns)) fits (rw type (key-kind c.kind h.1)))
    (single-name c.name (V.Column c.name) columns (one-result (V.Column c.name) columns (scope_of columns) position.Plain fits))

-- Keys of groups.

pub keys-sound : (known : Known) (rows : Shape) (n : ℕ) (keys : List Item) (by : NamedItems) → IsSoundKnown known → AreColumns rows.columns → group_keys_bound known rows n keys ≡ Ok by → list_all (key_item_fits rows.columns) by.items ≡ true
unfolding group_keys_bound key_item_fits takes takes_columns scope_at
keys-sound known rows n keys by sound names is =
    let scope : Scope = scope_at known rows position.Plain in
    items-pass (key_item_fits rows.columns) (group_key scope) n keys by
    (λ item t k bound.
    let h = typed-sound wanted.Key item.value scope t (scope-sound known rows position.Plain sound names) bound in
    and_from (fits_as is_key t.expr (scope_of rows.columns) position.Plain) (has_its_names (record { names = names_or_own k (given_name item) t.expr; expr = t.expr }) rows.columns)
    (fits-typed is_key known rows position.Plain t refl h.0 h.1)
    (named-well k (given_name item) t.expr rows.columns (one-result t.expr rows.columns (scope_of rows.columns) position.Plain (h.0.fits refl))))
    is

-- As many places as items.
pub even-from : (bind : Item → Outcome Typed) (n : ℕ) (items : List Item) (done : NamedItems) → items_from bind n items ≡ Ok done → is_even done
unfolding items_from no_items with_item
even-from bind n items done is =
    of-ok (items_from bind n items) done is
    (steps-even with_item (λ d item t h. names-even d (item_start item) (names_or_own d.next (given_name item) t.expr) t.expr (number_behind d.next (given_name item) t.expr) h) bind items (Ok (no_items n)) refl)

pub keys-even : (known : Known) (rows : Shape) (n : ℕ) (keys : List Item) (by : NamedItems) → group_keys_bound known rows n keys ≡ Ok by → length by.places ≡ length by.items
unfolding group_keys_bound
keys-even known rows n keys by is = even-from (group_key (scope_at known rows position.Plain)) n keys by is

-- What is bound of parts one by one, and put together step by step.
pub fold-keeps : {L D T : Type 0} (P : D → Type 0) (bind : L → Outcome T) (step : L → D → T → D) → ((l : L) (d : D) (t : T) → bind l ≡ Ok t → P d → P (step l d t)) → (ls : List L) (start : Outcome D) (done : D) → ((d : D) → start ≡ Ok d → P d) → fold (λ before l. before >>= λ d. bind l >>= λ t. Ok (step l d t)) start ls ≡ Ok done → P done
fold-keeps P bind step keeps [] start done h e = h done e
fold-keeps P bind step keeps (l ∷ ls) start done h e =
    fold-keeps P bind step keeps ls (start >>= λ d. bind l >>= λ t. Ok (step l d t)) done
    (λ d is.
    let first = after-ok start (λ b. bind l >>= λ t. Ok (step l b t)) d is in
    let next = after-ok (bind l) (λ t. Ok (step l first.0 t)) d first.2 in
    subst P (ok-same (step l first.0 next.0) d next.2) (keeps l first.0 next.0 next.1 (h first.0 first.1)))
    e

pub all-push : {X : Type 0} (p : X → Bool) (xs : List X) (x : X) → list_all p xs ≡ true → p x ≡ true → list_all p (xs ++ x ∷ []) ≡ true
all-push p xs x h e = list_all-append p xs (x ∷ []) ∙ and_from (list_all p xs) (list_all p (x ∷ [])) h (and_from (p x) true e refl)

pub one-more : {X Y : Type 0} (xs : List X) (x : X) (ys : List Y) (y : Y) → length xs ≡ length ys → length (xs ++ x ∷ []) ≡ length (ys ++ y ∷ [])
one-more xs x ys y e = length-append xs (x ∷ []) ∙ (ap (λ n. n + 1) e ∙ sym (length-append ys (y ∷ [])))

-- Names that differ.
pub apart-distinct : (names : List (List ℕ)) → Pairwise apart names → are_distinct names ≡ true
unfolding are_distinct
apart-distinct [] h = refl
apart-distinct (n ∷ ns) h =
    and_from (not (is_name_among ns n)) (are_distinct ns)
    (elim (cases_Bool (is_name_among ns n)) [
      | inl t ↦ absurd (of-member (apart n) ns n h.0 (among-one ns n t) refl)
      | inr f ↦ rw f refl
    ])
    (apart-distinct ns h.1)

-- The column of a name, where no other has it.
column-at : (cs : List Column) (c : Column) → Pairwise different cs → Member c cs → find (λ (d : Column). bytes_eq d.name c.name) cs ≡ Some c
column-at [] c h m = absurd m
column-at (d ∷ cs) c h (inl e) =
    let same : bytes_eq d.name c.name ≡ true = (bytes_eq-Decides d.name c.name).1 (ap column_name e) in
    rw same (ap (λ x. Some x) e)
column-at (d ∷ cs) c h (inr m) = elim (cases_Bool (bytes_eq d.name c.name)) [
  | inl t ↦ absurd (of-member (different d) cs c h.0 m ((bytes_eq-Decides d.name c.name).0 t))
  | inr f ↦ rw f (column-at cs c h.1 m)
]

pub column-found : (cs : List Column) (c : Column) → AreColumns cs → Member c cs → find (λ (d : Column). bytes_eq d.name c.name) cs ≡ Some c
column-found cs c h m = column-at cs c (pairwise-of different cs h) m
