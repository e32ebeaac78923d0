-- The columns of a bound `scan`, and the scope in which the expressions of its steps stand.
use Rattle.std.proofs.Common.{◌≡◌, ◌≢◌, ℕ, Bool, true, false, List, [], ◌∷◌, ◌++◌, filter, map, refl, sym, ap, ◌∙◌, subst, inl, inr}
use Rattle.std.specs.Prelude.{not, Option, None, Some, bytes_eq, option_map, option_to_list}
use Rattle.std.specs.List.{AllByRecursion}
use Rattle.std.proofs.lemmas.Bool.{cases_Bool}
use Rattle.std.proofs.lemmas.List.{append_assoc}
use Rattle.std.proofs.lemmas.Slice.Eq.{bytes_eq-Decides}
use Rattle.kql_cells.specs.Named.{column_name}
use Rattle.kql_cells.specs.declared.schema.Column.{Column}
use Rattle.kql_cells.specs.declared.value.Kind.{Kind}
use Rattle.kql_cells.specs.declared.value.Kind.TheVariants as kind
use Rattle.kql_cells.specs.declared.value.Value.{Value}
use Rattle.kql_bound.specs.declared.parts.Decl.{Decl as BoundDecl}
use Rattle.kql_meaning.specs.declared.position.Position.TheVariants as position
use Rattle.kql_meaning.specs.Literals.{is_of_kind, is_well_formed, literal_fits}
use Rattle.kql_meaning.specs.Scan.{defaults_of, id_columns}
use Rattle.kql_meaning.specs.Tables.{absent_row, distinct_by, is_name_among, names_of}
use Rattle.kql_meaning.specs.Values.{absent}
use Rattle.kql_meaning.proofs.MemberLaws.{Member, Pairwise, every-of-members, member-either, member-left, member-map, member-right, of-member, pairs-of, pairwise-append}
use Rattle.kql_syntax.specs.declared.query.Decl.{Decl}
use Rattle.kql_syntax.specs.declared.query.Step.{Step}
use Rattle.kql_syntax.specs.declared.tree.Name.{Name}
use Rattle.bind_expr.specs.Names.{text_of}
use Rattle.bind_expr.specs.declared.scope.Scope.{Scope}
use Rattle.bind_expr_laws.specs.Scopes.{AreRecorded, IsSoundScope}
use Rattle.bind_operators.specs.declared.known.Known.{Known}
use Rattle.bind_operators.specs.declared.shape.Shape.{Shape}
use Rattle.bind_operators.specs.Items.{names_twice}
use Rattle.bind_operators.specs.Known.{scope_at}
use Rattle.bind_operators.proofs.NameLaws.{apart, different, pairwise-of}
use Rattle.bind_groups.proofs.GroupNames.{turned-once}
use Rattle.bind_groups.proofs.NameSteps.{apart-of, names-once, not-among}
use Rattle.bind_query.specs.Scan.{RecordCell, cell_columns, cell_defaults, declared_cell, declared_names, input_cell, new_names, of_one_name, record_cells, step_name, step_scope, with_records}
use Rattle.bind_query_laws.specs.Sound.{AreColumns, IsSoundKnown}

-- Names, each of them new.

abbrev pub Fresh : List (List ℕ) → List (List ℕ) → Type 0
Fresh before [] = Unit {0}
Fresh before (n ∷ ns) = (is_name_among before n ≡ false) × Fresh (before ++ n ∷ []) ns

pub fresh-apart : (before names : List (List ℕ)) → Fresh before names → Pairwise apart names × ((n : List ℕ) → Member n names → Member n before → ⊥)
fresh-apart before [] h = (tt, λ n m b. m)
fresh-apart before (t ∷ ts) h =
    let rest = fresh-apart (before ++ t ∷ []) ts h.1 in (
      (every-of-members (apart t) ts (λ n m same. rest.1 n m (member-right before (t ∷ []) n (inl same))), rest.0),
      λ n m there. elim m [
        | inl same ↦ not-among before t h.0 (subst (λ k. Member k before) (sym same) there)
        | inr later ↦ rest.1 n later (member-left before (t ∷ []) n there)
      ],
    )

-- Declared columns.

abbrev pub decl_name : BoundDecl → List ℕ
decl_name d = d.name

abbrev pub decl_column : BoundDecl → Column
decl_column d = record { name = d.name; kind = d.default.kind }

pairs-front : {X : Type 0} (R : X → X → Type 0) (xs ys : List X) → Pairwise R (xs ++ ys) → Pairwise R xs
pairs-front R [] ys h = tt
pairs-front R (x ∷ xs) ys h = (every-of-members (R x) xs (λ z m. of-member (R x) (xs ++ ys) z h.0 (member-left xs ys z m)), pairs-front R xs ys h.1)

names-of-declared : (ds : List BoundDecl) → map column_name (map decl_column ds) ≡ map decl_name ds
names-of-declared [] = refl
names-of-declared (d ∷ ds) = ap (λ ns. d.name ∷ ns) (names-of-declared ds)

names-of-id : (id : Option Name) (rest : List Name) (ds : List BoundDecl) → map decl_name ds ≡ map text_of rest → map column_name (id_columns (option_map text_of id) ++ map decl_column ds) ≡ map text_of (option_to_list id ++ rest)
unfolding id_columns
names-of-id None rest ds e = names-of-declared ds ∙ e
names-of-id (Some n) rest ds e = ap (λ ns. text_of n ∷ ns) (names-of-declared ds ∙ e)

written-texts : (ws : List Decl) → declared_names ws ≡ map text_of (map (λ (d : Decl). d.name) ws)
written-texts [] = refl
written-texts (w ∷ ws) = ap (λ (ns : List (List ℕ)). text_of w.name ∷ ns) (written-texts ws)

-- The columns of the input, those that are declared, and the match id: no two have one name.
pub all-once : (columns : List Column) (id : Option Name) (written : List Decl) (ds : List BoundDecl) → AreColumns columns → map decl_name ds ≡ declared_names written → names_twice (names_of columns) (new_names id written) ≡ [] → AreColumns (columns ++ (map decl_column ds ++ id_columns (option_map text_of id)))
unfolding new_names names_of
all-once columns id written ds names same none =
    let rest : List Name = map (λ (d : Decl). d.name) written in
    let new : List Column = map decl_column ds in
    let ids : List Column = id_columns (option_map text_of id) in
    let once = names-once (names_of columns) (option_to_list id ++ rest) none in
    let texts : map decl_name ds ≡ map text_of rest = same ∙ written-texts written in
    let named : map column_name (ids ++ new) ≡ map text_of (option_to_list id ++ rest) = names-of-id id rest ds texts in
    let both : AreColumns (ids ++ new) = pairs-of different (ids ++ new) (apart-of column_name (ids ++ new) (subst (λ (ns : List (List ℕ)). Pairwise apart ns) (sym named) once.0)) in
    let turned : Pairwise different (new ++ ids) = pairwise-of different (new ++ ids) (turned-once ids new both) in
    pairs-of different (columns ++ (new ++ ids))
    (pairwise-append different columns (new ++ ids) (pairwise-of different columns names) turned
    (λ c d m n e.
    let there : Member d.name (map column_name (ids ++ new)) = member-map column_name (ids ++ new) d (turned-member new ids d n) in
    once.1 d.name (subst (λ (ns : List (List ℕ)). Member d.name ns) named there) (subst (λ (k : List ℕ). Member k (map column_name columns)) e (member-map column_name columns c m))))
  where
    turned-member : (xs ys : List Column) (z : Column) → Member z (xs ++ ys) → Member z (ys ++ xs)
    turned-member xs ys z m = elim (member-either xs ys z m) [
      | inl a ↦ member-right ys xs z a
      | inr b ↦ member-left ys xs z b
    ]

pub front-once : (columns : List Column) (ds : List BoundDecl) (ids : List Column) → AreColumns (columns ++ (map decl_column ds ++ ids)) → AreColumns (columns ++ map decl_column ds)
front-once columns ds ids h =
    let all = pairwise-of different (columns ++ (map decl_column ds ++ ids)) h in
    pairs-of different (columns ++ map decl_column ds)
    (pairs-front different (columns ++ map decl_column ds) ids (subst (λ (cs : List Column). Pairwise different cs) (sym (append_assoc columns (map decl_column ds) ids)) all))

-- Records.

abbrev pub cells : List Column → List BoundDecl → List RecordCell
cells columns ds = map input_cell columns ++ map declared_cell ds

declared-columns : (ds : List BoundDecl) → cell_columns (map declared_cell ds) ≡ map decl_column ds
declared-columns [] = refl
declared-columns (d ∷ ds) = ap (λ (cs : List Column). decl_column d ∷ cs) (declared-columns ds)

pub cells-columns : (columns : List Column) (ds : List BoundDecl) → cell_columns (cells columns ds) ≡ columns ++ map decl_column ds
cells-columns [] ds = declared-columns ds
cells-columns (c ∷ cs) ds = ap (λ (rest : List Column). c ∷ rest) (cells-columns cs ds)

declared-values : (ds : List BoundDecl) → cell_defaults (map declared_cell ds) ≡ defaults_of ds
unfolding defaults_of
declared-values [] = refl
declared-values (d ∷ ds) = ap (λ (vs : List Value). d.default.value ∷ vs) (declared-values ds)

pub cells-defaults : (columns : List Column) (ds : List BoundDecl) → cell_defaults (cells columns ds) ≡ absent_row columns ++ defaults_of ds
unfolding absent_row
cells-defaults [] ds = declared-values ds
cells-defaults (c ∷ cs) ds = ap (λ (rest : List Value). absent c.kind ∷ rest) (cells-defaults cs ds)

-- Where no two have one name, each is the first of its name.

kept-all : {X : Type 0} (p : X → Bool) (xs : List X) → AllByRecursion (λ x. p x ≡ true) xs → filter p xs ≡ xs
kept-all p [] h = refl
kept-all p (x ∷ xs) h = rw (h.0) (ap (λ rest. x ∷ rest) (kept-all p xs h.1))

distinct-all : {X : Type 0} (same : X → X → Bool) (xs : List X) → Pairwise (λ x y. same x y ≡ false) xs → distinct_by same xs ≡ xs
unfolding distinct_by
distinct-all same [] h = refl
distinct-all same (x ∷ xs) h =
    ap (λ rest. x ∷ filter (λ y. not (same x y)) rest) (distinct-all same xs h.1)
    ∙ ap (λ rest. x ∷ rest) (kept-all (λ y. not (same x y)) xs (every-of-members (λ y. not (same x y) ≡ true) xs (λ y m. ap not (of-member (λ z. same x z ≡ false) xs y h.0 m))))

not-one : (m n : List ℕ) → m ≢ n → bytes_eq m n ≡ false
not-one m n d = elim (cases_Bool (bytes_eq m n)) [
  | inl t ↦ absurd (d ((bytes_eq-Decides m n).0 t))
  | inr f ↦ f
]

cells-apart : (xs : List RecordCell) → Pairwise different (cell_columns xs) → Pairwise (λ x y. of_one_name x y ≡ false) xs
cells-apart [] h = tt
cells-apart (x ∷ xs) h =
    (every-of-members (λ y. of_one_name x y ≡ false) xs (λ y m. not-one x.0.name y.0.name (of-member (different x.0) (cell_columns xs) y.0 h.0 (member-map (λ (c : RecordCell). c.0) xs y m))), cells-apart xs h.1)

-- The scope of steps.

abbrev pub full : Known → Shape → List (List ℕ) → List BoundDecl → Scope
full known rows names ds = with_records names (cells rows.columns ds) (scope_at known rows position.Plain)

cells-once : (columns : List Column) (ds : List BoundDecl) → AreColumns (columns ++ map decl_column ds) → AreColumns (cell_columns (cells columns ds))
cells-once columns ds h = subst AreColumns (sym (cells-columns columns ds)) h

pub scope-is : (known : Known) (rows : Shape) (steps : List Step) (ds : List BoundDecl) → AreColumns (rows.columns ++ map decl_column ds) → step_scope known rows steps ds ≡ full known rows (map step_name steps) ds
unfolding step_scope record_cells
scope-is known rows steps ds h =
    let once : AreColumns (cell_columns (cells rows.columns ds)) = cells-once rows.columns ds h in
    ap (λ (cs : List RecordCell). with_records (map step_name steps) cs (scope_at known rows position.Plain))
    (distinct-all of_one_name (cells rows.columns ds) (cells-apart (cells rows.columns ds) (pairwise-of different (cell_columns (cells rows.columns ds)) once)))

abbrev CellFits : RecordCell → Type 0
CellFits c = literal_fits (record { kind = c.0.kind; value = c.1 }) ≡ true

pub absent-fits : (k : Kind) → literal_fits (record { kind = k; value = absent k }) ≡ true
unfolding literal_fits is_of_kind is_well_formed absent
absent-fits kind.Bool = refl
absent-fits kind.Long = refl
absent-fits kind.Text = refl
absent-fits kind.Moment = refl
absent-fits kind.Span = refl
absent-fits kind.Dynamic = refl

cells-fit : (columns : List Column) (ds : List BoundDecl) → AllByRecursion (λ (d : BoundDecl). literal_fits d.default ≡ true) ds → AllByRecursion CellFits (cells columns ds)
cells-fit [] [] h = tt
cells-fit [] (d ∷ ds) h = (h.0, cells-fit [] ds h.1)
cells-fit (c ∷ cs) ds h = (absent-fits c.kind, cells-fit cs ds h)

recorded : (xs : List RecordCell) → AllByRecursion CellFits xs → AreRecorded (cell_columns xs) (cell_columns xs) (cell_defaults xs)
recorded [] h = tt
recorded (x ∷ xs) h = (refl, h.0, recorded xs h.1)

pub full-sound : (known : Known) (rows : Shape) (names : List (List ℕ)) (ds : List BoundDecl) → IsSoundKnown known → AreColumns (rows.columns ++ map decl_column ds) → AllByRecursion (λ (d : BoundDecl). literal_fits d.default ≡ true) ds → IsSoundScope (full known rows names ds)
unfolding scope_at
full-sound known rows names ds sound once fits = record {
  names = cells-once rows.columns ds once;
  consts = sound.consts;
  records = recorded (cells rows.columns ds) (cells-fit rows.columns ds fits);
  moment = sound.moment;
}
