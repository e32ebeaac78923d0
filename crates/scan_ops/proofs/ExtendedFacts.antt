-- Rows with declared columns.
use Rattle.std.proofs.Common.{◌≡◌, ◌<◌, ◌≤◌, ◌+◌, ◌++◌, ℕ, zero, suc, true, List, [], ◌∷◌, map, length, replicate, take, drop, get_or, refl, sym, ap, ap₂, ◌∙◌, subst, arith, append-nil, append_assoc}
use Rattle.std.specs.Prelude.{All}
use Rattle.std.specs.List.{list_all}
use Rattle.std.proofs.lemmas.Bool.{and_parts}
use Rattle.std.proofs.lemmas.List.{get_or-replicate, length-replicate, map-append, take-append-drop, take_all, take_more}
use Rattle.kql_cells.specs.Named.{HasDistinctNames, IsAbsent, column_name}
use Rattle.kql_cells.specs.Table.{CellFits, Grid}
use Rattle.kql_cells.specs.declared.schema.Column.{Column}
use Rattle.kql_cells.specs.declared.value.Value.{Value}
use Rattle.kql_bound.specs.declared.parts.Decl.{Decl}
use Rattle.kql_bound.specs.declared.parts.ScanPlan.{ScanPlan}
use Rattle.kql_meaning.specs.FittingOperators.{defaults_fit}
use Rattle.kql_meaning.specs.Literals.{literal_fits}
use Rattle.kql_meaning.specs.Scan.{declared_columns, declared_defaults, defaults_of, with_declared}
use Rattle.kql_values.specs.Moves.{beside, widened}
use Rattle.kql_values.proofs.FittingLaws.{names-apart}
use Rattle.kql_fit_laws.proofs.ExpressionRows.{literal-known}
use Rattle.kql_bound.specs.declared.literal.Lit.{Lit}
use Rattle.scan_ops.specs.Extended.{column_declared, with_column, with_columns}

-- One column.

beside-default : (lines : List (List Value)) (v : Value) → beside lines (map (λ (w : Value). w ∷ []) (replicate (length lines) v)) ≡ map (λ (line : List Value). line ++ v ∷ []) lines
unfolding beside
beside-default [] v = refl
beside-default (line ∷ lines) v = ap (λ (rest : List (List Value)). (line ++ v ∷ []) ∷ rest) (beside-default lines v)

pub column-added : (d : Decl) (t new : Grid) (c : Column) (vs : List Value) (n : ℕ) → n ≡ length t.lines → vs ≡ replicate n d.default.value → c ≡ column_declared d → new ≡ record { columns = t.columns ++ c ∷ []; lines = widened t.lines vs } → new ≡ with_column d t
unfolding with_column
column-added d t new c vs n size is named e =
    let values : vs ≡ replicate (length t.lines) d.default.value = is ∙ ap (λ k. replicate k d.default.value) size in
    e ∙ ap₂ (λ (x : Column) (ls : List (List Value)). record { columns = t.columns ++ x ∷ []; lines = ls }) named
    (ap (λ (ws : List Value). beside t.lines (map (λ (w : Value). w ∷ []) ws)) values ∙ beside-default t.lines d.default.value)

pub column-long : (d : Decl) (t : Grid) (vs : List Value) (n : ℕ) → n ≡ length t.lines → vs ≡ replicate n d.default.value → length vs ≡ length t.lines
column-long d t vs n size is = ap length is ∙ (length-replicate n d.default.value ∙ size)

default-fits : (l : Lit) (c : Column) → literal_fits l ≡ true → c.kind ≡ l.kind → CellFits c l.value
default-fits l c e kind = subst (λ k. CellFits (record { name = c.name; kind = k }) l.value) (sym kind) (literal-known l e)

pub column-fits : (d : Decl) (c : Column) (vs : List Value) (n : ℕ) → literal_fits d.default ≡ true → c ≡ column_declared d → vs ≡ replicate n d.default.value → All (CellFits c) vs
column-fits d c vs n e named is = λ k x lt.
    let short : k < n = omega (arith, ap length is, length-replicate n d.default.value, lt) in
    let there : get_or vs k x ≡ d.default.value = ap (λ (ws : List Value). get_or ws k x) is ∙ get_or-replicate n k d.default.value x short in
    subst (CellFits c) (sym there) (default-fits d.default c e (ap (λ (y : Column). y.kind) named))

pub ruleset push_facts = (column-long, column-fits)

-- One after another.

pub columns-start : (t u : Grid) (ds : List Decl) → u ≡ t → u ≡ with_columns (take 0 ds) t
unfolding with_columns defaults_of
columns-start t u ds e =
    e ∙ ap₂ (λ (cs : List Column) (ls : List (List Value)). record { columns = cs; lines = ls }) (sym (append-nil t.columns)) (sym (same-lines t.lines))
  where
    same-lines : (lines : List (List Value)) → map (λ (line : List Value). line ++ []) lines ≡ lines
    same-lines [] = refl
    same-lines (line ∷ lines) = ap₂ (λ (l : List Value) (ls : List (List Value)). l ∷ ls) (append-nil line) (same-lines lines)

one-more : (ds : List Decl) (d : Decl) (t : Grid) → with_column d (with_columns ds t) ≡ with_columns (ds ++ d ∷ []) t
unfolding with_column with_columns defaults_of
one-more ds d t =
    ap₂ (λ (cs : List Column) (ls : List (List Value)). record { columns = cs; lines = ls })
    (append_assoc t.columns (map column_declared ds) (column_declared d ∷ []) ∙ ap (λ (cs : List Column). t.columns ++ cs) (sym (map-append column_declared ds (d ∷ []))))
    (lines-more t.lines)
  where
    lines-more : (lines : List (List Value)) → map (λ (line : List Value). line ++ d.default.value ∷ []) (map (λ (line : List Value). line ++ map (λ (e : Decl). e.default.value) ds) lines) ≡ map (λ (line : List Value). line ++ map (λ (e : Decl). e.default.value) (ds ++ d ∷ [])) lines
    lines-more [] = refl
    lines-more (line ∷ lines) =
        ap₂ (λ (l : List Value) (ls : List (List Value)). l ∷ ls)
        (append_assoc line (map (λ (e : Decl). e.default.value) ds) (d.default.value ∷ []) ∙ ap (λ (vs : List Value). line ++ vs) (sym (map-append (λ (e : Decl). e.default.value) ds (d ∷ []))))
        (lines-more lines)

pub columns-more : (ds : List Decl) (k : ℕ) (d : Decl) (t old new : Grid) → k < length ds → d ≡ get_or ds k d → old ≡ with_columns (take k ds) t → new ≡ with_column d old → new ≡ with_columns (take (k + 1) ds) t
columns-more ds k d t old new lt is before e =
    e ∙ (ap (with_column d) before ∙ (one-more (take k ds) d t ∙ ap (λ (xs : List Decl). with_columns xs t) (ap (λ (x : Decl). take k ds ++ x ∷ []) is ∙ sym (take_more ds k d lt))))

pub columns-all : (p : ScanPlan) (ds : List Decl) (k : ℕ) (t new : Grid) → ds ≡ p.declared → length ds ≤ k → new ≡ with_columns (take k ds) t → new ≡ with_declared p t
unfolding with_columns with_declared declared_columns declared_defaults
columns-all p ds k t new same le e = e ∙ ap (λ (xs : List Decl). with_columns xs t) (take_all k ds le ∙ same)

-- What a declared column asks.

pub decl-fits : (ds : List Decl) (k : ℕ) (d : Decl) → defaults_fit ds ≡ true → k < length ds → d ≡ get_or ds k d → literal_fits d.default ≡ true
unfolding defaults_fit
decl-fits [] k d h lt is = absurd (omega (arith, lt))
decl-fits (x ∷ xs) zero d h lt is = subst (λ (y : Decl). literal_fits y.default ≡ true) (sym is) (and_parts (literal_fits x.default) (list_all (λ (y : Decl). literal_fits y.default) xs) h).0
decl-fits (x ∷ xs) (suc k) d h lt is = decl-fits xs k d (and_parts (literal_fits x.default) (list_all (λ (y : Decl). literal_fits y.default) xs) h).1 (omega (arith, lt)) is

declared-parts : (cs : List Column) (ds : List Decl) (k : ℕ) → cs ++ map column_declared ds ≡ (cs ++ map column_declared (take k ds)) ++ map column_declared (drop k ds)
declared-parts cs ds k =
    ap (λ (xs : List Column). cs ++ xs) (ap (map column_declared) (sym (take-append-drop k ds)) ∙ map-append column_declared (take k ds) (drop k ds))
    ∙ sym (append_assoc cs (map column_declared (take k ds)) (map column_declared (drop k ds)))

first-left : (ds : List Decl) (k : ℕ) (d : Decl) → k < length ds → d ≡ get_or ds k d → (0 < length (map column_declared (drop k ds))) × (column_declared d ≡ get_or (map column_declared (drop k ds)) 0 (column_declared d))
first-left [] k d lt is = absurd (omega (arith, lt))
first-left (x ∷ xs) zero d lt is = (omega arith, ap column_declared is)
first-left (x ∷ xs) (suc k) d lt is = first-left xs k d (omega (arith, lt)) is

pub decl-absent : (p : ScanPlan) (ds : List Decl) (k : ℕ) (d : Decl) (t u : Grid) → HasDistinctNames column_name (t.columns ++ declared_columns p) → ds ≡ p.declared → k < length ds → d ≡ get_or ds k d → u ≡ with_columns (take k ds) t → IsAbsent column_name d.name u.columns
unfolding declared_columns with_columns
decl-absent p ds k d t u names same lt is before =
    let here : HasDistinctNames column_name (t.columns ++ map column_declared ds) = subst (λ (xs : List Decl). HasDistinctNames column_name (t.columns ++ map column_declared xs)) (sym same) names in
    let parted = subst (HasDistinctNames column_name) (declared-parts t.columns ds k) here in
    let q = first-left ds k d lt is in
    subst (IsAbsent column_name d.name) (sym (ap (λ (g : Grid). g.columns) before))
    (names-apart (t.columns ++ map column_declared (take k ds)) (map column_declared (drop k ds)) 0 (column_declared d) parted q.0 q.1)

pub ruleset extended_facts = (columns-start)

-- A copy.

pub names-along : (t u : Grid) (p : ScanPlan) → u ≡ t → HasDistinctNames column_name (t.columns ++ declared_columns p) → HasDistinctNames column_name (u.columns ++ declared_columns p)
names-along t u p same h = subst (λ (g : Grid). HasDistinctNames column_name (g.columns ++ declared_columns p)) (sym same) h

pub declared-along : (t u new : Grid) (p : ScanPlan) → u ≡ t → new ≡ with_declared p u → new ≡ with_declared p t
declared-along t u new p same e = e ∙ ap (with_declared p) same

pub ruleset copy_facts = (names-along, declared-along)
