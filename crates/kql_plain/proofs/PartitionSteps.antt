-- Operators on the rows of each key.
use mathlib.Core.Path.{fun_ext}
use Rattle.std.proofs.Common.{◌≡◌, ◌<◌, ◌≤◌, ◌+◌, ℕ, zero, suc, Bool, true, false, List, [], ◌∷◌, ◌++◌, map, length, get_or, take, refl, ap, ap₂, sym, ◌∙◌, subst, arith, rules}
use Rattle.std.specs.Prelude.{All, None, Option, Some, bytes_eq, find, flat_map, is_some, option_map}
use Rattle.std.proofs.lemmas.List.{append-nil, append_assoc, take_all, take_more}
use Rattle.std.proofs.lemmas.List.Elements.{All-filter, All-nil}
use Rattle.kql_cells.specs.Named.{column_name, place_of}
use Rattle.kql_cells.specs.Table.{Grid, gathered}
use Rattle.kql_cells.specs.declared.schema.Column.{Column}
use Rattle.kql_cells.specs.declared.value.Kind.{Kind}
use Rattle.kql_cells.specs.declared.value.Value.{Value}
use Rattle.kql_values.specs.Moves.{kinds_of}
use Rattle.kql_bound.specs.declared.parts.ScanPlan.{ScanPlan}
use Rattle.kql_bound.specs.declared.plan.Op.{Op, the_lemmas}
use Rattle.kql_bound.specs.declared.plan.Op.TheOpen.{Op-F}
use Rattle.kql_bound.specs.declared.plan.Op.TheVariants as V
use Rattle.kql_meaning.specs.Expressions.{column_kind}
use Rattle.kql_meaning.specs.Fits.{Known, by_key, ops_columns}
use Rattle.kql_meaning.specs.FittingExpressions.{has_kind, is_key}
use Rattle.kql_meaning.specs.Groups.{distinct_keys, group_of}
use Rattle.kql_meaning.specs.Partition.{key_in_column, partition_table}
use Rattle.kql_meaning.specs.Plans.{World, one_after_another, op_means}
use Rattle.kql_meaning.specs.Scan.{scan_table}
use Rattle.kql_meaning.specs.Tables.{emptied, places}
use Rattle.kql_meaning.specs.Values.{same_keys}
use Rattle.kql_meaning.proofs.OperatorFitLaws.{ops-fold, partition-out}
use Rattle.kql_meaning.proofs.PlanLaws.{ops_mean-map}
use Rattle.kql_fit_laws.proofs.OperatorLaws.{each_op_keeps}
use Rattle.kql_fit_laws.proofs.PlanRows.{ops-keep}
use Rattle.kql_fit_laws.proofs.RowFacts.{gathered-table, place-found, places-inside}
use Rattle.kql_fit_laws.specs.LawsOfRows.{IsTable}
use Rattle.scan_ops.specs.Steps.{scan_answers}
use Rattle.kql_plain.specs.AtHand.{IsSo, OpFits, OpsFit}
use Rattle.scan_ops.specs.Scans.{rows_by_key, rows_of_key}
use Rattle.kql_plain.proofs.FitLaws.{answers-Scan, outside-there}
use Rattle.kql_plain.proofs.OperatorLaws.{first-fits, means-Scan, no-more, one-more, step}

-- What the operators of a subquery make.
abbrev pub made_of : List Op → World → Grid → Grid
made_of ops w t = one_after_another (map op_means ops) w t

pub means-Partition : (c : List ℕ) (ops : List Op) (w : World) (t : Grid) → op_means (V.Partition c ops) w t ≡ partition_table c (made_of ops w) t
means-Partition c ops w t = step (V.Partition c ops) (Op-F.Partition c ops) (search (rules, the_lemmas)) w t

-- A partition that fits has its key, and its operators fit the table.

found : (n : List ℕ) (cs : List Column) (o : Option Column) → find (λ c. bytes_eq c.name n) cs ≡ o → is_some (option_map (λ (c : Column). c.kind) o) ≡ true → is_some (place_of column_name n cs) ≡ true
found n cs None e s = cc
found n cs (Some c) e s = ap is_some (place-found cs n c e).0

some-kind : (p : Kind → Bool) (o : Option Kind) → has_kind p o ≡ true → is_some o ≡ true
unfolding has_kind
some-kind p None e = cc
some-kind p (Some k) e = refl

key-known : (n : List ℕ) (cs : List Column) → has_kind is_key (column_kind n cs) ≡ true → is_some (place_of column_name n cs) ≡ true
unfolding column_kind
key-known n cs e = found n cs (find (λ c. bytes_eq c.name n) cs) refl (some-kind is_key (option_map (λ (c : Column). c.kind) (find (λ c. bytes_eq c.name n) cs)) e)

keyed : (b : Bool) (o : Option (List Column)) → is_some (by_key b o) ≡ true → (b ≡ true) × (is_some o ≡ true)
unfolding by_key
keyed true o e = (refl, e)
keyed false o e = absurd cc

partition-fits : (c : List ℕ) (ops : List Op) (w : World) (t : Grid) → OpFits (V.Partition c ops) w t → (is_some (place_of column_name c t.columns) ≡ true) × OpsFit ops w t
unfolding OpFits OpsFit
partition-fits c ops w t f =
    let outside = outside-there f.1 (by_key (has_kind is_key (column_kind c t.columns)) (ops_columns ops f.0 true t.columns)) (sym (ap is_some (partition-out c ops f.0 f.1 t.columns)) ∙ f.4) in
    let q = keyed (has_kind is_key (column_kind c t.columns)) (ops_columns ops f.0 true t.columns) outside in
    (key-known c t.columns q.0, (f.0, true, f.2, f.3, q.1))

pub key-there : (o : Op) (c : List ℕ) (ops : List Op) (w : World) (t : Grid) → o ≡ V.Partition c ops → OpFits o w t → is_some (place_of column_name c t.columns) ≡ true
key-there o c ops w t is f = (partition-fits c ops w t (subst (λ (p : Op). OpFits p w t) is f)).0

pub subquery-fits : (o : Op) (c : List ℕ) (ops : List Op) (w : World) (t : Grid) → o ≡ V.Partition c ops → OpFits o w t → OpsFit ops w t
subquery-fits o c ops w t is f = (partition-fits c ops w t (subst (λ (p : Op). OpFits p w t) is f)).1

-- Operators that fit a table fit any of its rows, and make the same columns of them.

pub rows-fit : (ops : List Op) (w : World) (t : Grid) (ps : List ℕ) → OpsFit ops w t → All (λ i. i < length t.lines) ps → OpsFit ops w (gathered t ps)
unfolding OpsFit
rows-fit ops w t ps f h = (f.0, f.1, f.2, gathered-table t ps f.3 h, f.4)

no-rows : (t : Grid) → All (λ i. i < length t.lines) []
no-rows t = All-nil (λ i. i < length t.lines)

pub emptied-fits : (ops : List Op) (w : World) (t u : Grid) → u ≡ emptied t → OpsFit ops w t → OpsFit ops w u
unfolding emptied
emptied-fits ops w t u is f = subst (OpsFit ops w) (sym is) (rows-fit ops w t [] f (no-rows t))

columns-made : (ops : List Op) (k : Known) (inside : Bool) (w : World) (t u : Grid) → IsSo k w → IsTable u → u.columns ≡ t.columns → (o : Option (List Column)) → ops_columns ops k inside t.columns ≡ o → is_some o ≡ true → Some (made_of ops w u).columns ≡ o
columns-made ops k inside w t u s h same None e f = absurd cc
columns-made ops k inside w t u s h same (Some cs) e f =
    let kept = ops-keep k w inside ops (λ p m. each_op_keeps k w s.0 p) u t.columns cs (same, h) (sym (ops-fold ops k inside t.columns) ∙ e) in
    ap (λ (g : Grid). Some g.columns) (ops_mean-map ops w u) ∙ ap (λ (ds : List Column). Some ds) kept.0

pub same-columns : (ops : List Op) (w : World) (t u v : Grid) (ps qs : List ℕ) → OpsFit ops w t → u ≡ gathered t ps → v ≡ gathered t qs → All (λ i. i < length t.lines) ps → All (λ i. i < length t.lines) qs → (made_of ops w u).columns ≡ (made_of ops w v).columns
unfolding OpsFit
same-columns ops w t u v ps qs f iu iv hp hq =
    let one = columns-made ops f.0 f.1 w t (gathered t ps) f.2 (gathered-table t ps f.3 hp) refl (ops_columns ops f.0 f.1 t.columns) refl f.4 in
    let two = columns-made ops f.0 f.1 w t (gathered t qs) f.2 (gathered-table t qs f.3 hq) refl (ops_columns ops f.0 f.1 t.columns) refl f.4 in
    let both : (made_of ops w (gathered t ps)).columns ≡ (made_of ops w (gathered t qs)).columns = some-same _ _ (one ∙ sym two) in
    ap (λ (g : Grid). (made_of ops w g).columns) iu ∙ (both ∙ ap (λ (g : Grid). (made_of ops w g).columns) (sym iv))
  where
    some-same : (a b : List Column) → Some a ≡ Some b → a ≡ b
    some-same a b e = cc

pub same-kinds : (ops : List Op) (w : World) (t rows part made : Grid) (ps : List ℕ) → OpsFit ops w t → rows ≡ gathered t ps → part ≡ made_of ops w rows → All (λ i. i < length t.lines) ps → made.columns ≡ (made_of ops w (emptied t)).columns → kinds_of part.columns ≡ kinds_of made.columns
unfolding emptied
same-kinds ops w t rows part made ps f is made_part h columns =
    ap kinds_of (ap (λ (g : Grid). g.columns) made_part ∙ (same-columns ops w t rows (gathered t []) ps [] f is refl h (no-rows t) ∙ sym columns))

-- The rows of keys.

keys-inside : (c : List ℕ) (t : Grid) (ks : List (List Value)) (i : ℕ) → i < length (map (rows_of_key c t) ks) → All (λ j. j < length t.lines) (get_or (map (rows_of_key c t) ks) i [])
unfolding rows_of_key
keys-inside c t [] i lt = absurd (omega (arith, lt))
keys-inside c t (k ∷ ks) zero lt = All-filter (λ j. same_keys (key_in_column c t j) k) (λ j. j < length t.lines) (places t) (places-inside t)
keys-inside c t (k ∷ ks) (suc i) lt = keys-inside c t ks i (omega (arith, lt))

pub list-inside : (c : List ℕ) (t : Grid) (lists : List (List ℕ)) (i : ℕ) (ps : List ℕ) → lists ≡ rows_by_key c t → i < length lists → ps ≡ get_or lists i [] → All (λ j. j < length t.lines) ps
unfolding rows_by_key
list-inside c t lists i ps is lt at =
    let here : ps ≡ get_or (map (rows_of_key c t) (distinct_keys (key_in_column c t) t)) i [] = at ∙ ap (λ (ls : List (List ℕ)). get_or ls i []) is in
    let less : i < length (map (rows_of_key c t) (distinct_keys (key_in_column c t) t)) = subst (λ (ls : List (List ℕ)). i < length ls) is lt in
    subst (All (λ j. j < length t.lines)) (sym here) (keys-inside c t (distinct_keys (key_in_column c t) t) i less)

-- The rows that are made of so many keys.
abbrev pub rows_made : List Op → World → Grid → List (List ℕ) → List (List Value)
rows_made ops w t lists = flat_map (λ ps. (made_of ops w (gathered t ps)).lines) lists

flat-append : {X Y : Type 0} (f : X → List Y) (xs ys : List X) → flat_map f (xs ++ ys) ≡ flat_map f xs ++ flat_map f ys
flat-append f [] ys = refl
flat-append f (x ∷ xs) ys = ap (λ zs. f x ++ zs) (flat-append f xs ys) ∙ sym (append_assoc (f x) (flat_map f xs) (flat_map f ys))

pub rows-more : (ops : List Op) (w : World) (t : Grid) (lists : List (List ℕ)) (i : ℕ) (ps : List ℕ) (part u : Grid) → i < length lists → ps ≡ get_or lists i [] → u ≡ gathered t ps → part ≡ made_of ops w u → rows_made ops w t (take (i + 1) lists) ≡ rows_made ops w t (take i lists) ++ part.lines
rows-more ops w t lists i ps part u lt at is made =
    let f = λ (qs : List ℕ). (made_of ops w (gathered t qs)).lines in
    ap (flat_map f) (take_more lists i [] lt)
    ∙ (flat-append f (take i lists) (get_or lists i [] ∷ [])
    ∙ ap (λ (zs : List (List Value)). rows_made ops w t (take i lists) ++ zs)
    (append-nil (f (get_or lists i [])) ∙ (ap f (sym at) ∙ (ap (λ (g : Grid). (made_of ops w g).lines) (sym is) ∙ ap (λ (g : Grid). g.lines) (sym made)))))

flat-mapped : {X Y Z : Type 0} (f : Y → List Z) (g : X → Y) (xs : List X) → flat_map f (map g xs) ≡ flat_map (λ x. f (g x)) xs
flat-mapped f g [] = refl
flat-mapped f g (x ∷ xs) = ap (λ zs. f (g x) ++ zs) (flat-mapped f g xs)

pub all-rows : (c : List ℕ) (ops : List Op) (w : World) (t : Grid) (lists : List (List ℕ)) (made none : Grid) → lists ≡ rows_by_key c t → none ≡ emptied t → made.columns ≡ (made_of ops w none).columns → made.lines ≡ rows_made ops w t lists → made ≡ partition_table c (made_of ops w) t
unfolding rows_by_key rows_of_key partition_table group_of
all-rows c ops w t lists made none is empty columns lines =
    ap₂ (λ (cs : List Column) (ls : List (List Value)). record { columns = cs; lines = ls }) (columns ∙ ap (λ (g : Grid). (made_of ops w g).columns) empty)
    (lines
    ∙ (ap (rows_made ops w t) is ∙ flat-mapped (λ (ps : List ℕ). (made_of ops w (gathered t ps)).lines) (rows_of_key c t) (distinct_keys (key_in_column c t) t)))

pub all-means : (o : Op) (c told : List ℕ) (ops : List Op) (w : World) (from t : Grid) (lists : List (List ℕ)) (number : ℕ) (made : Grid) → o ≡ V.Partition c ops → told ≡ c → t ≡ from → lists ≡ rows_by_key told t → length lists ≤ number → made.columns ≡ (made_of ops w (emptied t)).columns → made.lines ≡ rows_made ops w t (take number lists) → made ≡ op_means o w from
all-means o c told ops w from t lists number made is same table rows end columns lines =
    let all = lines ∙ ap (rows_made ops w t) (take_all number lists end) in
    all-rows told ops w t lists made (emptied t) rows refl columns all
    ∙ (ap (λ (n : List ℕ). partition_table n (made_of ops w) t) same
    ∙ (ap (λ (u : Grid). partition_table c (made_of ops w) u) table ∙ sym (ap (λ (p : Op). op_means p w from) is ∙ means-Partition c ops w from)))

-- The partition of a scan alone.

alone : (s : ScanPlan) (w : World) (t : Grid) → made_of (V.Scan s ∷ []) w t ≡ scan_table s t
alone s w t = one-more (V.Scan s) [] w t ∙ (no-more w (op_means (V.Scan s) w t) ∙ means-Scan s w t)

pub scan-fits : (o : Op) (c : List ℕ) (ops told : List Op) (s : ScanPlan) (w : World) (from t : Grid) → o ≡ V.Partition c ops → told ≡ ops → told ≡ V.Scan s ∷ [] → t ≡ from → OpFits o w from → scan_answers s t.columns ≡ true
scan-fits o c ops told s w from t is same one table f =
    let fits = subst (λ (os : List Op). OpsFit os w from) (sym same ∙ one) (subquery-fits o c ops w from is f) in
    ap (λ (g : Grid). scan_answers s g.columns) table ∙ answers-Scan s w from (first-fits (V.Scan s) [] w from fits)

pub scan-means : (o : Op) (c name : List ℕ) (ops told : List Op) (s : ScanPlan) (w : World) (from t : Grid) → o ≡ V.Partition c ops → told ≡ ops → told ≡ V.Scan s ∷ [] → name ≡ c → t ≡ from → partition_table name (scan_table s) t ≡ op_means o w from
scan-means o c name ops told s w from t is same one key table =
    ap₂ (λ (n : List ℕ) (g : Grid). partition_table n (scan_table s) g) key table
    ∙ (ap (λ (f : Grid → Grid). partition_table c f from) (fun_ext (λ g. sym (alone s w g)))
    ∙ (ap (λ (os : List Op). partition_table c (made_of os w) from) (sym one ∙ same)
    ∙ sym (ap (λ (p : Op). op_means p w from) is ∙ means-Partition c ops w from)))
