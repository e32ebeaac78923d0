-- An expression under other names has the values of the columns that these name, and so one that reads a row has the row's values.
use Rattle.std.proofs.Common.{◌≡◌, ℕ, Bool, true, false, List, [], ◌∷◌, map, refl, ap, ap₂, sym, ◌∙◌, subst, inl, inr}
use Rattle.std.specs.Prelude.{Option}
use Rattle.std.specs.List.{list_all}
use Rattle.std.proofs.lemmas.Bool.{and_parts}
use Rattle.kql_cells.specs.Table.{Grid}
use Rattle.kql_cells.specs.declared.schema.Column.{Column}
use Rattle.kql_cells.specs.declared.value.Kind.{Kind}
use Rattle.kql_cells.specs.declared.value.Value.{Value}
use Rattle.kql_functions.specs.declared.func.Func.{Func}
use Rattle.kql_scalar_fns.specs.Applied.{applied}
use Rattle.kql_bound.specs.declared.expr.BExpr.{BExpr, fold-BExpr, ind-BExpr, map-BExpr, roll-BExpr}
use Rattle.kql_bound.specs.declared.expr.BExpr.TheOpen.{BExpr-F}
use Rattle.kql_bound.specs.declared.expr.BExpr.TheVariants as V
use Rattle.kql_bound.specs.declared.expr.ChainSign.{ChainSign}
use Rattle.kql_meaning.specs.Expressions.{call_kind, chain_kind, chain_value, column_kind, kind_along, kind_down, kind_of, kinds_in, path_kind, path_value, val, value_along, value_down, values_in}
use Rattle.kql_meaning.specs.Readings.{Records}
use Rattle.kql_meaning.specs.Tables.{cell}
use Rattle.kql_meaning.proofs.KindLaws.{kind-Call, kind-Chain, kind-Column, kind-Literal, kind-Path, kind-Step}
use Rattle.kql_meaning.proofs.MemberLaws.{Member, member-of-map}
use Rattle.kql_meaning.proofs.ValueLaws.{val-Call, val-Chain, val-Column, val-Literal, val-Path, val-Step}
use Rattle.plan_rules.specs.Reads.{reads_only, reads_step, with_names}
use Rattle.kql_meaning.specs.RowByRow.{is_plain, is_plain_step}
use Rattle.std.proofs.Math.Path.{fun_ext}
use Rattle.plan_rules.proofs.ReadSteps.{link_names, names-Call, names-Chain, names-Column, names-Literal, names-Path, names-Step, names-Window, names-Aggregate, reads-Aggregate, reads-Call, reads-Chain, reads-Column, reads-Literal, reads-Path, reads-Step, reads-Window}

-- What is said of an expression: where it reads only what passes, it has under other names, at a row of one table, the value that it
-- has at a row of another, and its type.
abbrev pub Agrees : BExpr → Type 0
Agrees e = (p : List ℕ → Bool) (f : List ℕ → List ℕ) → reads_only p e ≡ true →
    ((t u : Grid) (i j : ℕ) (s : Records) → ((n : List ℕ) → p n ≡ true → cell t i (f n) ≡ cell u j n) → val (with_names f e) t i s ≡ val e u j s)
    × ((cs ds : List Column) → ((n : List ℕ) → p n ≡ true → column_kind (f n) cs ≡ column_kind n ds) → kind_of (with_names f e) cs ≡ kind_of e ds)

abbrev EachAgrees : List BExpr → Type 0
EachAgrees es = (e : BExpr) → Member e es → Agrees e

values-agree : (es : List BExpr) → EachAgrees es → (p : List ℕ → Bool) (f : List ℕ → List ℕ) → list_all (reads_only p) es ≡ true → (t u : Grid) (i j : ℕ) (s : Records) → ((n : List ℕ) → p n ≡ true → cell t i (f n) ≡ cell u j n) → values_in (map (with_names f) es) t i s ≡ values_in es u j s
unfolding values_in
values-agree [] each p f r t u i j s h = refl
values-agree (e ∷ es) each p f r t u i j s h =
    let b = and_parts (reads_only p e) (list_all (reads_only p) es) r in
    ap₂ (λ (v : Value) (vs : List Value). v ∷ vs) ((each e (inl refl) p f b.0).0 t u i j s h) (values-agree es (λ x m. each x (inr m)) p f b.1 t u i j s h)

kinds-agree : (es : List BExpr) → EachAgrees es → (p : List ℕ → Bool) (f : List ℕ → List ℕ) → list_all (reads_only p) es ≡ true → (cs ds : List Column) → ((n : List ℕ) → p n ≡ true → column_kind (f n) cs ≡ column_kind n ds) → kinds_in (map (with_names f) es) cs ≡ kinds_in es ds
unfolding kinds_in
kinds-agree [] each p f r cs ds h = refl
kinds-agree (e ∷ es) each p f r cs ds h =
    let b = and_parts (reads_only p e) (list_all (reads_only p) es) r in
    ap₂ (λ (v : Option Kind) (vs : List (Option Kind)). v ∷ vs) ((each e (inl refl) p f b.0).1 cs ds h) (kinds-agree es (λ x m. each x (inr m)) p f b.1 cs ds h)

abbrev LinksAgree : List (ChainSign × BExpr) → Type 0
LinksAgree ls = (l : ChainSign × BExpr) → Member l ls → Agrees l.1

link-values : (ls : List (ChainSign × BExpr)) → LinksAgree ls → (p : List ℕ → Bool) (f : List ℕ → List ℕ) → list_all (λ (l : ChainSign × BExpr). reads_only p l.1) ls ≡ true → (t u : Grid) (i j : ℕ) (s : Records) → ((n : List ℕ) → p n ≡ true → cell t i (f n) ≡ cell u j n) → map {B = ChainSign × Value} (λ (l : ChainSign × BExpr). (l.0, val l.1 t i s)) (map (link_names f) ls) ≡ map {B = ChainSign × Value} (λ (l : ChainSign × BExpr). (l.0, val l.1 u j s)) ls
link-values [] each p f r t u i j s h = refl
link-values (l ∷ ls) each p f r t u i j s h =
    let b = and_parts (reads_only p l.1) (list_all (λ (l : ChainSign × BExpr). reads_only p l.1) ls) r in
    ap₂ (λ (v : Value) (vs : List (ChainSign × Value)). (l.0, v) ∷ vs) ((each l (inl refl) p f b.0).0 t u i j s h) (link-values ls (λ x m. each x (inr m)) p f b.1 t u i j s h)

link-kinds : (ls : List (ChainSign × BExpr)) → LinksAgree ls → (p : List ℕ → Bool) (f : List ℕ → List ℕ) → list_all (λ (l : ChainSign × BExpr). reads_only p l.1) ls ≡ true → (cs ds : List Column) → ((n : List ℕ) → p n ≡ true → column_kind (f n) cs ≡ column_kind n ds) → map {B = ChainSign × Option Kind} (λ (l : ChainSign × BExpr). (l.0, kind_of l.1 cs)) (map (link_names f) ls) ≡ map {B = ChainSign × Option Kind} (λ (l : ChainSign × BExpr). (l.0, kind_of l.1 ds)) ls
link-kinds [] each p f r cs ds h = refl
link-kinds (l ∷ ls) each p f r cs ds h =
    let b = and_parts (reads_only p l.1) (list_all (λ (l : ChainSign × BExpr). reads_only p l.1) ls) r in
    ap₂ (λ (v : Option Kind) (vs : List (ChainSign × Option Kind)). (l.0, v) ∷ vs) ((each l (inl refl) p f b.0).1 cs ds h) (link-kinds ls (λ x m. each x (inr m)) p f b.1 cs ds h)

-- One variant.

pub call-agrees : (g : Func) (args : List BExpr) → EachAgrees args → Agrees (V.Call g args)
call-agrees g args each p f r =
    let b = sym (reads-Call p g args) ∙ r in (
      λ t u i j s h. ap (λ e. val e t i s) (names-Call f g args) ∙ (val-Call g (map (with_names f) args) t i s ∙ (ap (applied g) (values-agree args each p f b t u i j s h) ∙ sym (val-Call g args u j s))),
      λ cs ds h. ap (λ e. kind_of e cs) (names-Call f g args) ∙ (kind-Call g (map (with_names f) args) cs ∙ (ap (call_kind g) (kinds-agree args each p f b cs ds h) ∙ sym (kind-Call g args ds))),
    )

pub chain-agrees : (first : BExpr) (links : List (ChainSign × BExpr)) → Agrees first → LinksAgree links → Agrees (V.Chain first links)
unfolding value_along kind_along
chain-agrees first links one each p f r =
    let b = and_parts (reads_only p first) (list_all (λ (l : ChainSign × BExpr). reads_only p l.1) links) (sym (reads-Chain p first links) ∙ r) in (
      λ t u i j s h. ap (λ e. val e t i s) (names-Chain f first links) ∙ (val-Chain (with_names f first) (map (link_names f) links) t i s ∙ (ap₂ (λ v vs. chain_value v vs) ((one p f b.0).0 t u i j s h) (link-values links each p f b.1 t u i j s h) ∙ sym (val-Chain first links u j s))),
      λ cs ds h. ap (λ e. kind_of e cs) (names-Chain f first links) ∙ (kind-Chain (with_names f first) (map (link_names f) links) cs ∙ (ap₂ (λ v vs. chain_kind v vs) ((one p f b.0).1 cs ds h) (link-kinds links each p f b.1 cs ds h) ∙ sym (kind-Chain first links ds))),
    )

pub path-agrees : (whole : BExpr) (steps : List BExpr) → Agrees whole → EachAgrees steps → Agrees (V.Path whole steps)
unfolding value_down kind_down
path-agrees whole steps one each p f r =
    let b = and_parts (reads_only p whole) (list_all (reads_only p) steps) (sym (reads-Path p whole steps) ∙ r) in (
      λ t u i j s h. ap (λ e. val e t i s) (names-Path f whole steps) ∙ (val-Path (with_names f whole) (map (with_names f) steps) t i s ∙ (ap₂ (λ v vs. path_value v vs) ((one p f b.0).0 t u i j s h) (values-agree steps each p f b.1 t u i j s h) ∙ sym (val-Path whole steps u j s))),
      λ cs ds h. ap (λ e. kind_of e cs) (names-Path f whole steps) ∙ (kind-Path (with_names f whole) (map (with_names f) steps) cs ∙ (ap₂ (λ v vs. path_kind v vs) ((one p f b.0).1 cs ds h) (kinds-agree steps each p f b.1 cs ds h) ∙ sym (kind-Path whole steps ds))),
    )

-- All.

abbrev Given : Type 0
Given = (e : BExpr) × Agrees e

abbrev bare : Given → BExpr
bare p = p.0

abbrev bare_link : ChainSign × Given → ChainSign × BExpr
bare_link l = (l.0, l.1.0)

each-given : (ps : List Given) → EachAgrees (map bare ps)
each-given ps e m = let q = member-of-map bare ps e m in subst Agrees q.2 q.0.1

each-link : (ls : List (ChainSign × Given)) → LinksAgree (map bare_link ls)
each-link ls l m = let q = member-of-map bare_link ls l m in subst (λ (k : ChainSign × BExpr). Agrees k.1) q.2 q.0.1.1

of-layer : (y : BExpr-F Given) → Agrees (roll-BExpr (map-BExpr Given BExpr bare y))
of-layer (BExpr-F.Literal l) = subst Agrees (sym (V.rolls-Literal l)) (λ p f r.
    (λ t u i j s h. ap (λ e. val e t i s) (names-Literal f l) ∙ (val-Literal l t i s ∙ sym (val-Literal l u j s)), λ cs ds h. ap (λ e. kind_of e cs) (names-Literal f l) ∙ (kind-Literal l cs ∙ sym (kind-Literal l ds))))
of-layer (BExpr-F.Column n) = subst Agrees (sym (V.rolls-Column n)) (λ p f r.
    let b = sym (reads-Column p n) ∙ r in
    (λ t u i j s h. ap (λ e. val e t i s) (names-Column f n) ∙ (val-Column (f n) t i s ∙ (h n b ∙ sym (val-Column n u j s))), λ cs ds h. ap (λ e. kind_of e cs) (names-Column f n) ∙ (kind-Column (f n) cs ∙ (h n b ∙ sym (kind-Column n ds)))))
of-layer (BExpr-F.Step c) = subst Agrees (sym (V.rolls-Step c)) (λ p f r.
    (λ t u i j s h. ap (λ e. val e t i s) (names-Step f c) ∙ (val-Step c t i s ∙ sym (val-Step c u j s)), λ cs ds h. ap (λ e. kind_of e cs) (names-Step f c) ∙ (kind-Step c cs ∙ sym (kind-Step c ds))))
of-layer (BExpr-F.Call f args) = subst Agrees (sym (V.rolls-Call f (map bare args))) (call-agrees f (map bare args) (each-given args))
of-layer (BExpr-F.Chain first links) = subst Agrees (sym (V.rolls-Chain first.0 (map bare_link links))) (chain-agrees first.0 (map bare_link links) first.1 (each-link links))
of-layer (BExpr-F.Path whole steps) = subst Agrees (sym (V.rolls-Path whole.0 (map bare steps))) (path-agrees whole.0 (map bare steps) whole.1 (each-given steps))
of-layer (BExpr-F.Window f args) = subst Agrees (sym (V.rolls-Window f (map bare args))) (λ p g r. let no : false ≡ true = sym (reads-Window p f (map bare args)) ∙ r in absurd cc)
of-layer (BExpr-F.Aggregate f args) = subst Agrees (sym (V.rolls-Aggregate f (map bare args))) (λ p g r. let no : false ≡ true = sym (reads-Aggregate p f (map bare args)) ∙ r in absurd cc)

pub agrees : (e : BExpr) → Agrees e
agrees = ind-BExpr Agrees (λ x y is. subst (λ (z : BExpr-F BExpr). Agrees (roll-BExpr z)) is (of-layer y))

-- The same names.

abbrev pub id_names : List ℕ → List ℕ
id_names n = n

abbrev Same : BExpr → Type 0
Same e = with_names id_names e ≡ e

abbrev GivenSame : Type 0
GivenSame = (e : BExpr) × Same e

abbrev bare_same : GivenSame → BExpr
bare_same p = p.0

abbrev same_link : ChainSign × GivenSame → ChainSign × BExpr
same_link l = (l.0, l.1.0)

maps-same : (ps : List GivenSame) → map (with_names id_names) (map bare_same ps) ≡ map bare_same ps
maps-same [] = refl
maps-same (p ∷ ps) = ap₂ (λ (e : BExpr) (es : List BExpr). e ∷ es) p.1 (maps-same ps)

links-same : (ls : List (ChainSign × GivenSame)) → map (link_names id_names) (map same_link ls) ≡ map same_link ls
links-same [] = refl
links-same (l ∷ ls) = ap₂ (λ (e : BExpr) (es : List (ChainSign × BExpr)). (l.0, e) ∷ es) l.1.1 (links-same ls)

same-layer : (y : BExpr-F GivenSame) → Same (roll-BExpr (map-BExpr GivenSame BExpr bare_same y))
same-layer (BExpr-F.Literal l) = subst Same (sym (V.rolls-Literal l)) (names-Literal id_names l)
same-layer (BExpr-F.Column n) = subst Same (sym (V.rolls-Column n)) (names-Column id_names n)
same-layer (BExpr-F.Step c) = subst Same (sym (V.rolls-Step c)) (names-Step id_names c)
same-layer (BExpr-F.Call f args) = subst Same (sym (V.rolls-Call f (map bare_same args))) (names-Call id_names f (map bare_same args) ∙ ap (V.Call f) (maps-same args))
same-layer (BExpr-F.Chain first links) = subst Same (sym (V.rolls-Chain first.0 (map same_link links))) (names-Chain id_names first.0 (map same_link links) ∙ ap₂ (λ e es. V.Chain e es) first.1 (links-same links))
same-layer (BExpr-F.Path whole steps) = subst Same (sym (V.rolls-Path whole.0 (map bare_same steps))) (names-Path id_names whole.0 (map bare_same steps) ∙ ap₂ (λ e es. V.Path e es) whole.1 (maps-same steps))
same-layer (BExpr-F.Window f args) = subst Same (sym (V.rolls-Window f (map bare_same args))) (names-Window id_names f (map bare_same args) ∙ ap (V.Window f) (maps-same args))
same-layer (BExpr-F.Aggregate f args) = subst Same (sym (V.rolls-Aggregate f (map bare_same args))) (names-Aggregate id_names f (map bare_same args) ∙ ap (V.Aggregate f) (maps-same args))

pub same-names : (e : BExpr) → with_names id_names e ≡ e
same-names = ind-BExpr Same (λ x y is. subst (λ (z : BExpr-F BExpr). Same (roll-BExpr z)) is (same-layer y))

-- An expression that reads the same cells has the same value.
pub val-agrees : (e : BExpr) (p : List ℕ → Bool) → reads_only p e ≡ true → (t u : Grid) (i j : ℕ) (s : Records) → ((n : List ℕ) → p n ≡ true → cell t i n ≡ cell u j n) → val e t i s ≡ val e u j s
val-agrees e p r t u i j s h = ap (λ x. val x t i s) (sym (same-names e)) ∙ (agrees e p id_names r).0 t u i j s h

pub kind-agrees : (e : BExpr) (p : List ℕ → Bool) → reads_only p e ≡ true → (cs ds : List Column) → ((n : List ℕ) → p n ≡ true → column_kind n cs ≡ column_kind n ds) → kind_of e cs ≡ kind_of e ds
kind-agrees e p r cs ds h = ap (λ x. kind_of x cs) (sym (same-names e)) ∙ (agrees e p id_names r).1 cs ds h

-- What passes one test passes another that asks less.

abbrev Weaker : BExpr → Type 0
Weaker e = (p q : List ℕ → Bool) → ((n : List ℕ) → p n ≡ true → q n ≡ true) → reads_only p e ≡ true → reads_only q e ≡ true

abbrev GivenWeaker : Type 0
GivenWeaker = (e : BExpr) × Weaker e

abbrev bare_weaker : GivenWeaker → BExpr
bare_weaker g = g.0

abbrev weaker_link : ChainSign × GivenWeaker → ChainSign × BExpr
weaker_link l = (l.0, l.1.0)

all-weaker : (gs : List GivenWeaker) (p q : List ℕ → Bool) → ((n : List ℕ) → p n ≡ true → q n ≡ true) → list_all (reads_only p) (map bare_weaker gs) ≡ true → list_all (reads_only q) (map bare_weaker gs) ≡ true
all-weaker [] p q h r = refl
all-weaker (g ∷ gs) p q h r =
    let b = and_parts (reads_only p g.0) (list_all (reads_only p) (map bare_weaker gs)) r in
    rw (g.1 p q h b.0) (all-weaker gs p q h b.1)

links-weaker : (ls : List (ChainSign × GivenWeaker)) (p q : List ℕ → Bool) → ((n : List ℕ) → p n ≡ true → q n ≡ true) → list_all (λ (l : ChainSign × BExpr). reads_only p l.1) (map weaker_link ls) ≡ true → list_all (λ (l : ChainSign × BExpr). reads_only q l.1) (map weaker_link ls) ≡ true
links-weaker [] p q h r = refl
links-weaker (l ∷ ls) p q h r =
    let b = and_parts (reads_only p l.1.0) (list_all (λ (l : ChainSign × BExpr). reads_only p l.1) (map weaker_link ls)) r in
    rw (l.1.1 p q h b.0) (links-weaker ls p q h b.1)

weaker-layer : (y : BExpr-F GivenWeaker) → Weaker (roll-BExpr (map-BExpr GivenWeaker BExpr bare_weaker y))
weaker-layer (BExpr-F.Literal l) = subst Weaker (sym (V.rolls-Literal l)) (λ p q h r. reads-Literal q l)
weaker-layer (BExpr-F.Column n) = subst Weaker (sym (V.rolls-Column n)) (λ p q h r. reads-Column q n ∙ h n (sym (reads-Column p n) ∙ r))
weaker-layer (BExpr-F.Step c) = subst Weaker (sym (V.rolls-Step c)) (λ p q h r. reads-Step q c)
weaker-layer (BExpr-F.Call f args) = subst Weaker (sym (V.rolls-Call f (map bare_weaker args))) (λ p q h r. reads-Call q f (map bare_weaker args) ∙ all-weaker args p q h (sym (reads-Call p f (map bare_weaker args)) ∙ r))
weaker-layer (BExpr-F.Chain first links) = subst Weaker (sym (V.rolls-Chain first.0 (map weaker_link links))) (λ p q h r.
    let b = and_parts (reads_only p first.0) (list_all (λ (l : ChainSign × BExpr). reads_only p l.1) (map weaker_link links)) (sym (reads-Chain p first.0 (map weaker_link links)) ∙ r) in
    reads-Chain q first.0 (map weaker_link links) ∙ rw (first.1 p q h b.0) (links-weaker links p q h b.1))
weaker-layer (BExpr-F.Path whole steps) = subst Weaker (sym (V.rolls-Path whole.0 (map bare_weaker steps))) (λ p q h r.
    let b = and_parts (reads_only p whole.0) (list_all (reads_only p) (map bare_weaker steps)) (sym (reads-Path p whole.0 (map bare_weaker steps)) ∙ r) in
    reads-Path q whole.0 (map bare_weaker steps) ∙ rw (whole.1 p q h b.0) (all-weaker steps p q h b.1))
weaker-layer (BExpr-F.Window f args) = subst Weaker (sym (V.rolls-Window f (map bare_weaker args))) (λ p q h r. let no : false ≡ true = sym (reads-Window p f (map bare_weaker args)) ∙ r in absurd cc)
weaker-layer (BExpr-F.Aggregate f args) = subst Weaker (sym (V.rolls-Aggregate f (map bare_weaker args))) (λ p q h r. let no : false ≡ true = sym (reads-Aggregate p f (map bare_weaker args)) ∙ r in absurd cc)

pub reads-weaker : (e : BExpr) → Weaker e
reads-weaker = ind-BExpr Weaker (λ x y is. subst (λ (z : BExpr-F BExpr). Weaker (roll-BExpr z)) is (weaker-layer y))

steps-same : (y : BExpr-F Bool) → reads_step (λ n. true) y ≡ is_plain_step y
steps-same (BExpr-F.Literal l) = refl
steps-same (BExpr-F.Column n) = refl
steps-same (BExpr-F.Step c) = refl
steps-same (BExpr-F.Call f args) = refl
steps-same (BExpr-F.Chain first links) = refl
steps-same (BExpr-F.Path whole steps) = refl
steps-same (BExpr-F.Window f args) = refl
steps-same (BExpr-F.Aggregate f args) = refl

-- An expression is plain exactly where it reads only what passes a test that all pass.
pub reads-any : (e : BExpr) → reads_only (λ n. true) e ≡ is_plain e
unfolding reads_only is_plain
reads-any e = ap (λ (f : BExpr-F Bool → Bool). fold-BExpr Bool f e) (fun_ext steps-same)

pub plain-of : (p : List ℕ → Bool) (e : BExpr) → reads_only p e ≡ true → is_plain e ≡ true
plain-of p e r = sym (reads-any e) ∙ reads-weaker e p (λ n. true) (λ n h. refl) r

-- What is plain is plain under other names.

abbrev PlainNamed : BExpr → Type 0
PlainNamed e = (f : List ℕ → List ℕ) → reads_only (λ n. true) e ≡ true → reads_only (λ n. true) (with_names f e) ≡ true

abbrev GivenPlain : Type 0
GivenPlain = (e : BExpr) × PlainNamed e

abbrev bare_plain : GivenPlain → BExpr
bare_plain g = g.0

abbrev plain_link : ChainSign × GivenPlain → ChainSign × BExpr
plain_link l = (l.0, l.1.0)

abbrev any_name : List ℕ → Bool
any_name n = true

all-named : (gs : List GivenPlain) (f : List ℕ → List ℕ) → list_all (reads_only any_name) (map bare_plain gs) ≡ true → list_all (reads_only any_name) (map (with_names f) (map bare_plain gs)) ≡ true
all-named [] f r = refl
all-named (g ∷ gs) f r =
    let b = and_parts (reads_only any_name g.0) (list_all (reads_only any_name) (map bare_plain gs)) r in
    rw (g.1 f b.0) (all-named gs f b.1)

links-named : (ls : List (ChainSign × GivenPlain)) (f : List ℕ → List ℕ) → list_all (λ (l : ChainSign × BExpr). reads_only any_name l.1) (map plain_link ls) ≡ true → list_all (λ (l : ChainSign × BExpr). reads_only any_name l.1) (map (link_names f) (map plain_link ls)) ≡ true
links-named [] f r = refl
links-named (l ∷ ls) f r =
    let b = and_parts (reads_only any_name l.1.0) (list_all (λ (l : ChainSign × BExpr). reads_only any_name l.1) (map plain_link ls)) r in
    rw (l.1.1 f b.0) (links-named ls f b.1)

plain-layer : (y : BExpr-F GivenPlain) → PlainNamed (roll-BExpr (map-BExpr GivenPlain BExpr bare_plain y))
plain-layer (BExpr-F.Literal l) = subst PlainNamed (sym (V.rolls-Literal l)) (λ f r. ap (reads_only any_name) (names-Literal f l) ∙ r)
plain-layer (BExpr-F.Column n) = subst PlainNamed (sym (V.rolls-Column n)) (λ f r. ap (reads_only any_name) (names-Column f n) ∙ reads-Column any_name (f n))
plain-layer (BExpr-F.Step c) = subst PlainNamed (sym (V.rolls-Step c)) (λ f r. ap (reads_only any_name) (names-Step f c) ∙ r)
plain-layer (BExpr-F.Call g args) = subst PlainNamed (sym (V.rolls-Call g (map bare_plain args))) (λ f r.
    ap (reads_only any_name) (names-Call f g (map bare_plain args)) ∙ (reads-Call any_name g (map (with_names f) (map bare_plain args)) ∙ all-named args f (sym (reads-Call any_name g (map bare_plain args)) ∙ r)))
plain-layer (BExpr-F.Chain first links) = subst PlainNamed (sym (V.rolls-Chain first.0 (map plain_link links))) (λ f r.
    let b = and_parts (reads_only any_name first.0) (list_all (λ (l : ChainSign × BExpr). reads_only any_name l.1) (map plain_link links)) (sym (reads-Chain any_name first.0 (map plain_link links)) ∙ r) in
    ap (reads_only any_name) (names-Chain f first.0 (map plain_link links)) ∙ (reads-Chain any_name (with_names f first.0) (map (link_names f) (map plain_link links)) ∙ rw (first.1 f b.0) (links-named links f b.1)))
plain-layer (BExpr-F.Path whole steps) = subst PlainNamed (sym (V.rolls-Path whole.0 (map bare_plain steps))) (λ f r.
    let b = and_parts (reads_only any_name whole.0) (list_all (reads_only any_name) (map bare_plain steps)) (sym (reads-Path any_name whole.0 (map bare_plain steps)) ∙ r) in
    ap (reads_only any_name) (names-Path f whole.0 (map bare_plain steps)) ∙ (reads-Path any_name (with_names f whole.0) (map (with_names f) (map bare_plain steps)) ∙ rw (whole.1 f b.0) (all-named steps f b.1)))
plain-layer (BExpr-F.Window g args) = subst PlainNamed (sym (V.rolls-Window g (map bare_plain args))) (λ f r. let no : false ≡ true = sym (reads-Window any_name g (map bare_plain args)) ∙ r in absurd cc)
plain-layer (BExpr-F.Aggregate g args) = subst PlainNamed (sym (V.rolls-Aggregate g (map bare_plain args))) (λ f r. let no : false ≡ true = sym (reads-Aggregate any_name g (map bare_plain args)) ∙ r in absurd cc)

named-plain : (e : BExpr) → PlainNamed e
named-plain = ind-BExpr PlainNamed (λ x y is. subst (λ (z : BExpr-F BExpr). PlainNamed (roll-BExpr z)) is (plain-layer y))

pub names-plain : (e : BExpr) (f : List ℕ → List ℕ) → is_plain e ≡ true → is_plain (with_names f e) ≡ true
names-plain e f r = sym (reads-any (with_names f e)) ∙ named-plain e f (reads-any e ∙ r)
