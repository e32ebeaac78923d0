-- What names in the place of others make of an expression that reads these.
use Rattle.std.proofs.Common.{◌≡◌, ◌<◌, ℕ, zero, suc, Bool, true, false, List, [], ◌∷◌, ◌++◌, map, take, length, get_or, refl, sym, ap, ap₂, ◌∙◌, subst, inl, inr, arith}
use Rattle.std.specs.Prelude.{◌&&◌, bytes_eq, Option, None, Some, is_some, option_and_then, option_map, unwrap_or, if◌then◌else◌}
use Rattle.std.specs.List.{flat_map, list_all}
use Rattle.std.proofs.lemmas.Bool.{and_parts, cases_Bool}
use Rattle.std.proofs.lemmas.Slice.Eq.{bytes_eq-Decides}
use Rattle.kql_bound.specs.declared.expr.BExpr.{BExpr, ind-BExpr, map-BExpr, roll-BExpr}
use Rattle.kql_bound.specs.declared.expr.BExpr.TheOpen.{BExpr-F}
use Rattle.kql_bound.specs.declared.expr.BExpr.TheVariants as V
use Rattle.kql_bound.specs.declared.expr.ChainSign.{ChainSign}
use Rattle.kql_bound.specs.declared.parts.BItem.{BItem}
use Rattle.kql_meaning.specs.RowByRow.{is_plain}
use Rattle.kql_meaning.proofs.MemberLaws.{Member, member-left, member-right}
use Rattle.kql_meaning.proofs.PlainLaws.{links_plain, plain-Aggregate, plain-Call, plain-Chain, plain-Path, plain-Window}
use Rattle.plan_rules.specs.OwnNames.{inner_name, inner_or_same}
use Rattle.plan_rules.specs.Reads.{reads_only, with_names}
use Rattle.plan_rules.proofs.ReadSteps as S
use Rattle.plan_rules.proofs.ReadSteps.{link_names}
use Rattle.plan_terms.specs.NamesRead.{names_in, names_in_links, names_read}
use Rattle.plan_terms.specs.Renames.{inner_names, renamed_by}
use Rattle.plan_terms.proofs.NameSteps.{names-Call, names-Chain, names-Column, names-Path, reads-plain, reads-unplain}

-- Two ways to rename that agree on the names that are read.

abbrev OnNames : (List ℕ → List ℕ) → (List ℕ → List ℕ) → List (List ℕ) → Type 0
OnNames f g ns = (n : List ℕ) → Member n ns → f n ≡ g n

abbrev Alike : BExpr → Type 0
Alike e = is_plain e ≡ true → (f g : List ℕ → List ℕ) → OnNames f g (names_read e) → with_names f e ≡ with_names g e

abbrev Given : Type 0
Given = (e : BExpr) × Alike e

abbrev bare : Given → BExpr
bare g = g.0

abbrev bare_link : ChainSign × Given → ChainSign × BExpr
bare_link l = (l.0, l.1.0)

all-alike : (gs : List Given) → list_all is_plain (map bare gs) ≡ true → (f g : List ℕ → List ℕ) → OnNames f g (names_in (map bare gs)) → map (with_names f) (map bare gs) ≡ map (with_names g) (map bare gs)
unfolding names_in
all-alike [] r f g h = refl
all-alike (x ∷ xs) r f g h =
    let b = and_parts (is_plain x.0) (list_all is_plain (map bare xs)) r in
    ap₂ (λ (e : BExpr) (es : List BExpr). e ∷ es) (x.1 b.0 f g (λ n m. h n (member-left (names_read x.0) (flat_map names_read (map bare xs)) n m))) (all-alike xs b.1 f g (λ n m. h n (member-right (names_read x.0) (flat_map names_read (map bare xs)) n m)))

links-alike : (ls : List (ChainSign × Given)) → links_plain (map bare_link ls) ≡ true → (f g : List ℕ → List ℕ) → OnNames f g (names_in_links (map bare_link ls)) → map (link_names f) (map bare_link ls) ≡ map (link_names g) (map bare_link ls)
unfolding names_in_links
links-alike [] r f g h = refl
links-alike (l ∷ ls) r f g h =
    let b = and_parts (is_plain l.1.0) (links_plain (map bare_link ls)) r in
    let more = flat_map (λ (k : ChainSign × BExpr). names_read k.1) (map bare_link ls) in
    ap₂ (λ (e : BExpr) (es : List (ChainSign × BExpr)). (l.0, e) ∷ es) (l.1.1 b.0 f g (λ n m. h n (member-left (names_read l.1.0) more n m))) (links-alike ls b.1 f g (λ n m. h n (member-right (names_read l.1.0) more n m)))

of-layer : (y : BExpr-F Given) → Alike (roll-BExpr (map-BExpr Given BExpr bare y))
of-layer (BExpr-F.Literal l) = subst Alike (sym (V.rolls-Literal l)) (λ r f g h. S.names-Literal f l ∙ sym (S.names-Literal g l))
of-layer (BExpr-F.Column n) = subst Alike (sym (V.rolls-Column n)) (λ r f g h. S.names-Column f n ∙ (ap V.Column (h n (subst (Member n) (sym (names-Column n)) (inl refl))) ∙ sym (S.names-Column g n)))
of-layer (BExpr-F.Step c) = subst Alike (sym (V.rolls-Step c)) (λ r f g h. S.names-Step f c ∙ sym (S.names-Step g c))
of-layer (BExpr-F.Call k gs) = subst Alike (sym (V.rolls-Call k (map bare gs))) (λ r f g h.
    let es = map bare gs in
    S.names-Call f k es ∙ (ap (V.Call k) (all-alike gs (sym (plain-Call k es) ∙ r) f g (λ n m. h n (subst (Member n) (sym (names-Call k es)) m))) ∙ sym (S.names-Call g k es)))
of-layer (BExpr-F.Chain first gs) = subst Alike (sym (V.rolls-Chain first.0 (map bare_link gs))) (λ r f g h.
    let ls = map bare_link gs in
    let b = and_parts (is_plain first.0) (links_plain ls) (sym (plain-Chain first.0 ls) ∙ r) in
    S.names-Chain f first.0 ls ∙ (ap₂ (λ e es. V.Chain e es) (first.1 b.0 f g (λ n m. h n (subst (Member n) (sym (names-Chain first.0 ls)) (member-left (names_read first.0) (names_in_links ls) n m)))) (links-alike gs b.1 f g (λ n m. h n (subst (Member n) (sym (names-Chain first.0 ls)) (member-right (names_read first.0) (names_in_links ls) n m)))) ∙ sym (S.names-Chain g first.0 ls)))
of-layer (BExpr-F.Path whole gs) = subst Alike (sym (V.rolls-Path whole.0 (map bare gs))) (λ r f g h.
    let es = map bare gs in
    let b = and_parts (is_plain whole.0) (list_all is_plain es) (sym (plain-Path whole.0 es) ∙ r) in
    S.names-Path f whole.0 es ∙ (ap₂ (λ e xs. V.Path e xs) (whole.1 b.0 f g (λ n m. h n (subst (Member n) (sym (names-Path whole.0 es)) (member-left (names_read whole.0) (names_in es) n m)))) (all-alike gs b.1 f g (λ n m. h n (subst (Member n) (sym (names-Path whole.0 es)) (member-right (names_read whole.0) (names_in es) n m)))) ∙ sym (S.names-Path g whole.0 es)))
of-layer (BExpr-F.Window k gs) = subst Alike (sym (V.rolls-Window k (map bare gs))) (λ r f g h. let no : false ≡ true = sym (plain-Window k (map bare gs)) ∙ r in absurd cc)
of-layer (BExpr-F.Aggregate k gs) = subst Alike (sym (V.rolls-Aggregate k (map bare gs))) (λ r f g h. let no : false ≡ true = sym (plain-Aggregate k (map bare gs)) ∙ r in absurd cc)

each-alike : (e : BExpr) → Alike e
each-alike = ind-BExpr Alike (λ x y is. subst (λ (z : BExpr-F BExpr). Alike (roll-BExpr z)) is (of-layer y))

found : (f : List ℕ → List ℕ) (ns : List (List ℕ)) (n : List ℕ) → Member n ns → renamed_by ns (map f ns) n ≡ f n
unfolding renamed_by
found f [] n m = absurd m
found f (k ∷ ks) n m = elim (cases_Bool (bytes_eq k n)) [
  | inl t ↦ rw t (ap f ((bytes_eq-Decides k n).0 t))
  | inr x ↦ rw x (found f ks n (later m x))
]
  where
    later : Member n (k ∷ ks) → bytes_eq k n ≡ false → Member n ks
    later (inl e) x = let t : bytes_eq k n ≡ true = (bytes_eq-Decides k n).1 e in let no : true ≡ false = sym t ∙ x in absurd cc
    later (inr m) x = m

-- So an expression renamed by the names that it reads, in order, and by what a function makes of them, is renamed by the function.
pub renamed-by : (f : List ℕ → List ℕ) (e : BExpr) → is_plain e ≡ true → with_names (renamed_by (names_read e) (map f (names_read e))) e ≡ with_names f e
renamed-by f e r = each-alike e r (renamed_by (names_read e) (map f (names_read e))) f (λ n m. found f (names_read e) n m)

-- The inner names.

abbrev pub is_inner : List BItem → List ℕ → Bool
is_inner items n = is_some (inner_name items n)

names-some : (items : List BItem) (ns ms : List (List ℕ)) → inner_names items ns ≡ Some ms → (list_all (is_inner items) ns ≡ true) × (ms ≡ map (inner_or_same items) ns)
unfolding inner_names
names-some items [] ms e = (refl, let same : [] ≡ ms = cc in sym same)
names-some items (n ∷ ns) ms e = by (inner_name items n) refl (inner_names items ns) (λ ks g. names-some items ns ks g) refl e
  where
    by : (o : Option (List ℕ)) → inner_name items n ≡ o → (r : Option (List (List ℕ))) → ((ks : List (List ℕ)) → inner_names items ns ≡ Some ks → (list_all (is_inner items) ns ≡ true) × (ks ≡ map (inner_or_same items) ns)) → inner_names items ns ≡ r → option_and_then (λ m. option_map (λ xs. m ∷ xs) r) o ≡ Some ms → (list_all (is_inner items) (n ∷ ns) ≡ true) × (ms ≡ map (inner_or_same items) (n ∷ ns))
    by None f r rest g h = absurd cc
    by (Some m) f None rest g h = absurd cc
    by (Some m) f (Some ks) rest g h =
        let q = rest ks g in
        let same : m ∷ ks ≡ ms = cc in
        (rw (f) q.0, sym same ∙ ap₂ (λ (x : List ℕ) (xs : List (List ℕ)). x ∷ xs) (sym (ap (λ o. unwrap_or o n) f)) q.1)

names-none : (items : List BItem) (ns : List (List ℕ)) → inner_names items ns ≡ None → list_all (is_inner items) ns ≡ false
unfolding inner_names
names-none items [] e = absurd cc
names-none items (n ∷ ns) e = by (inner_name items n) refl (inner_names items ns) (λ g. names-none items ns g) refl e
  where
    and-no : (b : Bool) → (b && false) ≡ false
    and-no true = refl
    and-no false = refl

    by : (o : Option (List ℕ)) → inner_name items n ≡ o → (r : Option (List (List ℕ))) → (inner_names items ns ≡ None → list_all (is_inner items) ns ≡ false) → inner_names items ns ≡ r → option_and_then (λ m. option_map (λ xs. m ∷ xs) r) o ≡ None → list_all (is_inner items) (n ∷ ns) ≡ false
    by None f r rest g h = rw f refl
    by (Some m) f None rest g h = rw (f) (rest g)
    by (Some m) f (Some ks) rest g h = absurd cc

pub inner-some : (items : List BItem) (e : BExpr) (ms : List (List ℕ)) → is_plain e ≡ true → inner_names items (names_read e) ≡ Some ms → (reads_only (is_inner items) e ≡ true) × (with_names (renamed_by (names_read e) ms) e ≡ with_names (inner_or_same items) e)
inner-some items e ms r h =
    let q = names-some items (names_read e) ms h in
    (reads-plain (is_inner items) e r ∙ q.0, ap (λ xs. with_names (renamed_by (names_read e) xs) e) q.1 ∙ renamed-by (inner_or_same items) e r)

pub inner-none : (items : List BItem) (e : BExpr) → is_plain e ≡ true → inner_names items (names_read e) ≡ None → reads_only (is_inner items) e ≡ false
inner-none items e r h = reads-plain (is_inner items) e r ∙ names-none items (names_read e) h

-- One more name.

pub inner-more : (items : List BItem) (ns : List (List ℕ)) (done : List (List ℕ)) (n m : List ℕ) → inner_name items n ≡ Some m → option_map (λ more. done ++ more) (inner_names items (n ∷ ns)) ≡ option_map (λ more. (done ++ m ∷ []) ++ more) (inner_names items ns)
unfolding inner_names
inner-more items ns done n m e = rw e (by (inner_names items ns))
  where
    append-assoc : (xs ys : List (List ℕ)) → xs ++ (m ∷ ys) ≡ (xs ++ m ∷ []) ++ ys
    append-assoc [] ys = refl
    append-assoc (x ∷ xs) ys = ap (λ zs. x ∷ zs) (append-assoc xs ys)

    by : (r : Option (List (List ℕ))) → option_map (λ more. done ++ more) (option_map (λ ms. m ∷ ms) r) ≡ option_map (λ more. (done ++ m ∷ []) ++ more) r
    by None = refl
    by (Some ys) = ap (λ x. Some x) (append-assoc done ys)

pub inner-reads : (items : List BItem) (e : BExpr) (ms : List (List ℕ)) → is_plain e ≡ true → inner_names items (names_read e) ≡ Some ms → reads_only (is_inner items) e ≡ true
inner-reads items e ms r h = (inner-some items e ms r h).0

pub inner-renames : (items : List BItem) (e : BExpr) (ms : List (List ℕ)) → is_plain e ≡ true → inner_names items (names_read e) ≡ Some ms → with_names (renamed_by (names_read e) ms) e ≡ with_names (inner_or_same items) e
inner-renames items e ms r h = (inner-some items e ms r h).1

pub ruleset inner_steps = (inner-none, inner-reads, inner-renames, reads-unplain)
