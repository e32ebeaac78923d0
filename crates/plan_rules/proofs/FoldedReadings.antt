-- A folded expression reads as the expression, and so has its value and its type at every row of every table.
use Rattle.std.proofs.Common.{◌≡◌, ℕ, Bool, true, false, List, [], ◌∷◌, map, refl, ap, ap₂, sym, ◌∙◌, subst}
use Rattle.std.proofs.Math.Path.{fun_ext}
use Rattle.std.specs.Prelude.{Option, None, Some, option_and_then, option_map, unwrap_or, if◌then◌else◌}
use Rattle.kql_cells.specs.Table.{Grid}
use Rattle.kql_cells.specs.declared.schema.Column.{Column}
use Rattle.kql_cells.specs.declared.value.Kind.{Kind}
use Rattle.kql_cells.specs.declared.value.Value.{Value}
use Rattle.kql_functions.specs.Kinds.{result_kind}
use Rattle.kql_functions.specs.declared.func.Func.{Func}
use Rattle.kql_scalar_fns.specs.Applied.{applied}
use Rattle.kql_bound.specs.Signs.{sign_func}
use Rattle.kql_bound.specs.declared.expr.BExpr.{BExpr, ind-BExpr, map-BExpr, roll-BExpr}
use Rattle.kql_bound.specs.declared.expr.BExpr.TheOpen.{BExpr-F}
use Rattle.kql_bound.specs.declared.expr.BExpr.TheVariants as V
use Rattle.kql_bound.specs.declared.expr.ChainSign.{ChainSign}
use Rattle.kql_bound.specs.declared.literal.Lit.{Lit}
use Rattle.kql_meaning.specs.Expressions.{all_known, call_kind, chain_kind, chain_value, kind_of, kinds_in, look, path_kind, path_value, reading, reading_step, val, values_in}
use Rattle.kql_meaning.specs.FittingExpressions.{literal_of}
use Rattle.kql_meaning.specs.Literals.{is_well_formed}
use Rattle.kql_meaning.specs.Readings.{Reading, Records, kinds_of, values_at}
use Rattle.kql_meaning.proofs.ReadingLaws.{reading-Aggregate, reading-Call, reading-Chain, reading-Literal, reading-Path, reading-Window}
use Rattle.plan_rules.specs.Folding.{chain_from, folded, folded_call, folded_chain, folded_path, literal_called, literal_joined, literal_or, path_from, sound_literal, sound_literals}
use Rattle.plan_rules.proofs.FoldSteps.{folded-Aggregate, folded-Call, folded-Chain, folded-Column, folded-Literal, folded-Path, folded-Step, folded-Window, folded_link, literal-is}

-- Literals.

abbrev kind_in : Lit → Kind
kind_in l = l.kind

abbrev value_in : Lit → Value
value_in l = l.value

abbrev pub literal : Lit → BExpr
literal l = V.Literal l

well-formed : (l m : Lit) (b : Bool) → is_well_formed l.value ≡ b → (if b then Some l else None) ≡ Some m → (l ≡ m) × (is_well_formed m.value ≡ true)
well-formed l m true e h = let same : l ≡ m = cc in (same, ap (λ (x : Lit). is_well_formed x.value) (sym same) ∙ e)
well-formed l m false e h = cc

sound-of : (o : Option Lit) (l : Lit) → option_and_then (λ (l : Lit). if is_well_formed l.value then Some l else None) o ≡ Some l → (o ≡ Some l) × (is_well_formed l.value ≡ true)
sound-of None l h = cc
sound-of (Some m) l h = let r = well-formed m l (is_well_formed m.value) refl h in (ap (λ x. Some x) r.0, r.1)

pub sound-is : (e : BExpr) (l : Lit) → sound_literal e ≡ Some l → (e ≡ V.Literal l) × (is_well_formed l.value ≡ true)
unfolding sound_literal
sound-is e l h = let r = sound-of (literal_of e) l h in (literal-is e l r.0, r.1)

sounds-next : (e : BExpr) (es : List BExpr) (o : Option Lit) (r : Option (List Lit)) (ls : List Lit) → ((l : Lit) → o ≡ Some l → e ≡ V.Literal l) → ((ms : List Lit) → r ≡ Some ms → es ≡ map literal ms) → option_and_then (λ l. option_map (λ ls. l ∷ ls) r) o ≡ Some ls → e ∷ es ≡ map literal ls
sounds-next e es None r ls one more h = cc
sounds-next e es (Some l) None ls one more h = cc
sounds-next e es (Some l) (Some ms) ls one more h =
    let same : l ∷ ms ≡ ls = cc in
    ap₂ (λ (x : BExpr) (xs : List BExpr). x ∷ xs) (one l refl) (more ms refl) ∙ ap (map literal) same

pub sounds-are : (es : List BExpr) (ls : List Lit) → sound_literals es ≡ Some ls → es ≡ map literal ls
unfolding sound_literals
sounds-are [] ls h = let same : [] ≡ ls = cc in ap (map literal) same
sounds-are (e ∷ es) ls h = sounds-next e es (sound_literal e) (sound_literals es) ls (λ l g. (sound-is e l g).0) (λ ms g. sounds-are es ms g) h

called-of : (f : Func) (o : Option Kind) (ls : List Lit) (l : Lit) → option_map (λ k. record { kind = k; value = applied f (map value_in ls) }) o ≡ Some l → (o ≡ Some l.kind) × (l.value ≡ applied f (map value_in ls))
called-of f None ls l h = cc
called-of f (Some k) ls l h =
    let same : record { kind = k; value = applied f (map value_in ls) } ≡ l = cc in
    (ap (λ (x : Lit). Some x.kind) same, ap (λ (x : Lit). x.value) (sym same))

pub called-is : (f : Func) (ls : List Lit) (l : Lit) → literal_called f ls ≡ Some l → (result_kind f (map kind_in ls) ≡ Some l.kind) × (l.value ≡ applied f (map value_in ls))
unfolding literal_called
called-is f ls l h = called-of f (result_kind f (map kind_in ls)) ls l h

joined-of : (f : Func) (a : Lit) (e : BExpr) (o : Option Lit) (l : Lit) → sound_literal e ≡ o → option_and_then (λ b. literal_called f (a ∷ b ∷ [])) o ≡ Some l → (b : Lit) × (sound_literal e ≡ Some b) × (literal_called f (a ∷ b ∷ []) ≡ Some l)
joined-of f a e None l g h = cc
joined-of f a e (Some b) l g h = (b, g, h)

pub joined-is : (f : Func) (a : Lit) (e : BExpr) (l : Lit) → literal_joined f a e ≡ Some l → (b : Lit) × (sound_literal e ≡ Some b) × (literal_called f (a ∷ b ∷ []) ≡ Some l)
unfolding literal_joined
joined-is f a e l h = joined-of f a e (sound_literal e) l refl h

-- Calls.

kinds-are : (ls : List Lit) (cs : List Column) → kinds_of (map reading (map literal ls)) cs ≡ map (λ (l : Lit). Some l.kind) ls
unfolding kinds_of
kinds-are [] cs = refl
kinds-are (l ∷ ls) cs = rw (reading-Literal l) (ap (λ (ks : List (Option Kind)). Some l.kind ∷ ks) (kinds-are ls cs))

values-are : (ls : List Lit) (t : Grid) (i : ℕ) (s : Records) → values_at (map reading (map literal ls)) t i s ≡ map value_in ls
unfolding values_at
values-are [] t i s = refl
values-are (l ∷ ls) t i s = rw (reading-Literal l) (ap (λ (vs : List Value). l.value ∷ vs) (values-are ls t i s))

all-are : (ls : List Lit) → all_known (map (λ (l : Lit). Some l.kind) ls) ≡ Some (map kind_in ls)
unfolding all_known
all-are [] = refl
all-are (l ∷ ls) = rw (all-are ls) refl

pub call-kind-is : (f : Func) (ls : List Lit) → call_kind f (map (λ (l : Lit). Some l.kind) ls) ≡ result_kind f (map kind_in ls)
unfolding call_kind
call-kind-is f ls = ap (option_and_then (result_kind f)) (all-are ls)

pub call-reads : (f : Func) (ls : List Lit) (l : Lit) → literal_called f ls ≡ Some l → reading (V.Literal l) ≡ reading (V.Call f (map literal ls))
call-reads f ls l h =
    let r = called-is f ls l h in
    reading-Literal l
    ∙ (ap₂ (λ (k : List Column → Option Kind) (v : Grid → ℕ → Records → Value). record { kind = k; at = v })
    (fun_ext (λ cs. sym (ap (call_kind f) (kinds-are ls cs) ∙ (call-kind-is f ls ∙ r.0))))
    (fun_ext (λ t. fun_ext (λ i. fun_ext (λ s. r.1 ∙ sym (ap (applied f) (values-are ls t i s))))))
    ∙ sym (reading-Call f (map literal ls)))

either-literal : (o : Option Lit) (e : BExpr) → ((l : Lit) → o ≡ Some l → reading (V.Literal l) ≡ reading e) → reading (literal_or e o) ≡ reading e
either-literal None e h = refl
either-literal (Some l) e h = h l refl

and-then-some : {A B : Type 0} (o : Option A) (f : A → Option B) (b : B) → option_and_then f o ≡ Some b → (a : A) × (o ≡ Some a) × (f a ≡ Some b)
and-then-some None f b h = cc
and-then-some (Some a) f b h = (a, refl, h)

pub folded-call-reads : (f : Func) (args : List BExpr) → reading (folded_call f args) ≡ reading (V.Call f args)
unfolding folded_call
folded-call-reads f args = either-literal (option_and_then (literal_called f) (sound_literals args)) (V.Call f args) (λ l h.
    let r = and-then-some (sound_literals args) (literal_called f) l h in
    call-reads f r.0 l r.2 ∙ ap (λ es. reading (V.Call f es)) (sym (sounds-are args r.0 r.1)))

-- Chains.

abbrev read_link : ChainSign × BExpr → ChainSign × Reading
read_link l = (l.0, reading l.1)

abbrev chain_of : Option Kind → Value → List (ChainSign × BExpr) → Reading
chain_of k v ls = record {
  kind = λ cs. chain_kind k (map {B = ChainSign × Option Kind} (λ (l : ChainSign × Reading). (l.0, l.1.kind cs)) (map read_link ls));
  at = λ t i s. chain_value v (map {B = ChainSign × Value} (λ (l : ChainSign × Reading). (l.0, l.1.at t i s)) (map read_link ls));
}

chain-reads : (a : Lit) (ls : List (ChainSign × BExpr)) → reading (V.Chain (V.Literal a) ls) ≡ chain_of (Some a.kind) a.value ls
chain-reads a ls = reading-Chain (V.Literal a) ls ∙ ap (λ (r : Reading). reading_step (BExpr-F.Chain r (map read_link ls))) (reading-Literal a)

chain-none : (a : Lit) → reading (V.Literal a) ≡ reading (V.Chain (V.Literal a) [])
unfolding chain_kind chain_value
chain-none a = reading-Literal a ∙ sym (chain-reads a [])

link-known : (f : Func) (a b l : Lit) → result_kind f (a.kind ∷ b.kind ∷ []) ≡ Some l.kind → call_kind f (Some a.kind ∷ Some b.kind ∷ []) ≡ Some l.kind
unfolding call_kind all_known
link-known f a b l e = e

chain-more : (a b c : Lit) (g : ChainSign) (ls : List (ChainSign × BExpr)) → result_kind (sign_func g) (a.kind ∷ b.kind ∷ []) ≡ Some c.kind → c.value ≡ applied (sign_func g) (a.value ∷ b.value ∷ []) → reading (V.Chain (V.Literal c) ls) ≡ reading (V.Chain (V.Literal a) ((g, V.Literal b) ∷ ls))
unfolding chain_kind chain_value
chain-more a b c g ls k v =
    let rest = map read_link ls in
    let made : Option Kind → Value → Reading = λ k v. record {
      kind = λ cs. chain_kind k (map {B = ChainSign × Option Kind} (λ (l : ChainSign × Reading). (l.0, l.1.kind cs)) rest);
      at = λ t i s. chain_value v (map {B = ChainSign × Value} (λ (l : ChainSign × Reading). (l.0, l.1.at t i s)) rest);
    } in
    chain-reads c ls
    ∙ (ap₂ made (sym (link-known (sign_func g) a b c k)) v
    ∙ (ap (λ (r : Reading). reading_step (BExpr-F.Chain (reading_step (BExpr-F.Literal a)) ((g, r) ∷ rest))) (sym (reading-Literal b))
    ∙ sym (chain-reads a ((g, V.Literal b) ∷ ls))))

chain-next : (a : Lit) (l : ChainSign × BExpr) (ls : List (ChainSign × BExpr)) → ((c : Lit) → reading (chain_from c ls) ≡ reading (V.Chain (V.Literal c) ls)) → (o : Option Lit) → literal_joined (sign_func l.0) a l.1 ≡ o → reading (unwrap_or (option_map (λ b. chain_from b ls) o) (V.Chain (V.Literal a) (l ∷ ls))) ≡ reading (V.Chain (V.Literal a) (l ∷ ls))
chain-next a l ls more None h = refl
chain-next a l ls more (Some c) h =
    let r = joined-is (sign_func l.0) a l.1 c h in
    let q = called-is (sign_func l.0) (a ∷ r.0 ∷ []) c r.2 in
    more c
    ∙ (chain-more a r.0 c l.0 ls q.0 q.1
    ∙ ap (λ e. reading (V.Chain (V.Literal a) ((l.0, e) ∷ ls))) (sym (sound-is l.1 r.0 r.1).0))

pub chain-from-reads : (ls : List (ChainSign × BExpr)) (a : Lit) → reading (chain_from a ls) ≡ reading (V.Chain (V.Literal a) ls)
unfolding chain_from
chain-from-reads [] a = chain-none a
chain-from-reads (l ∷ ls) a = chain-next a l ls (λ c. chain-from-reads ls c) (literal_joined (sign_func l.0) a l.1) refl

pub folded-chain-reads : (first : BExpr) (ls : List (ChainSign × BExpr)) → reading (folded_chain first ls) ≡ reading (V.Chain first ls)
unfolding folded_chain
folded-chain-reads first ls = by (sound_literal first) refl
  where
    by : (o : Option Lit) → sound_literal first ≡ o → reading (unwrap_or (option_map (λ a. chain_from a ls) o) (V.Chain first ls)) ≡ reading (V.Chain first ls)
    by None h = refl
    by (Some a) h = chain-from-reads ls a ∙ ap (λ e. reading (V.Chain e ls)) (sym (sound-is first a h).0)

-- Paths.

path-reads : (a : Lit) (es : List BExpr) → reading (V.Path (V.Literal a) es) ≡ reading_step (BExpr-F.Path (reading_step (BExpr-F.Literal a)) (map reading es))
path-reads a es = reading-Path (V.Literal a) es ∙ ap (λ (r : Reading). reading_step (BExpr-F.Path r (map reading es))) (reading-Literal a)

path-none : (a : Lit) → reading (V.Literal a) ≡ reading (V.Path (V.Literal a) [])
unfolding path_kind path_value kinds_of values_at
path-none a = reading-Literal a ∙ sym (path-reads a [])

path-more : (a b c : Lit) (es : List BExpr) → result_kind look (a.kind ∷ b.kind ∷ []) ≡ Some c.kind → c.value ≡ applied look (a.value ∷ b.value ∷ []) → reading (V.Path (V.Literal c) es) ≡ reading (V.Path (V.Literal a) (V.Literal b ∷ es))
unfolding path_kind path_value kinds_of values_at
path-more a b c es k v =
    let rest = map reading es in
    let made : Option Kind → Value → Reading = λ k v. record {
      kind = λ cs. path_kind k (kinds_of rest cs);
      at = λ t i s. path_value v (values_at rest t i s);
    } in
    path-reads c es
    ∙ (ap₂ made (sym (link-known look a b c k)) v
    ∙ (ap (λ (r : Reading). reading_step (BExpr-F.Path (reading_step (BExpr-F.Literal a)) (r ∷ rest))) (sym (reading-Literal b))
    ∙ sym (path-reads a (V.Literal b ∷ es))))

path-next : (a : Lit) (e : BExpr) (es : List BExpr) → ((c : Lit) → reading (path_from c es) ≡ reading (V.Path (V.Literal c) es)) → (o : Option Lit) → literal_joined look a e ≡ o → reading (unwrap_or (option_map (λ b. path_from b es) o) (V.Path (V.Literal a) (e ∷ es))) ≡ reading (V.Path (V.Literal a) (e ∷ es))
path-next a e es more None h = refl
path-next a e es more (Some c) h =
    let r = joined-is look a e c h in
    let q = called-is look (a ∷ r.0 ∷ []) c r.2 in
    more c
    ∙ (path-more a r.0 c es q.0 q.1
    ∙ ap (λ x. reading (V.Path (V.Literal a) (x ∷ es))) (sym (sound-is e r.0 r.1).0))

pub path-from-reads : (es : List BExpr) (a : Lit) → reading (path_from a es) ≡ reading (V.Path (V.Literal a) es)
unfolding path_from
path-from-reads [] a = path-none a
path-from-reads (e ∷ es) a = path-next a e es (λ c. path-from-reads es c) (literal_joined look a e) refl

pub folded-path-reads : (whole : BExpr) (es : List BExpr) → reading (folded_path whole es) ≡ reading (V.Path whole es)
unfolding folded_path
folded-path-reads whole es = by (sound_literal whole) refl
  where
    by : (o : Option Lit) → sound_literal whole ≡ o → reading (unwrap_or (option_map (λ a. path_from a es) o) (V.Path whole es)) ≡ reading (V.Path whole es)
    by None h = refl
    by (Some a) h = path-from-reads es a ∙ ap (λ e. reading (V.Path e es)) (sym (sound-is whole a h).0)

-- All.

abbrev Same : BExpr → Type 0
Same e = reading (folded e) ≡ reading e

abbrev Given : Type 0
Given = (e : BExpr) × Same e

abbrev bare : Given → BExpr
bare g = g.0

abbrev bare_link : ChainSign × Given → ChainSign × BExpr
bare_link l = (l.0, l.1.0)

all-same : (gs : List Given) → map reading (map folded (map bare gs)) ≡ map reading (map bare gs)
all-same [] = refl
all-same (g ∷ gs) = ap₂ (λ (r : Reading) (rs : List Reading). r ∷ rs) g.1 (all-same gs)

links-same : (ls : List (ChainSign × Given)) → map read_link (map folded_link (map bare_link ls)) ≡ map read_link (map bare_link ls)
links-same [] = refl
links-same (l ∷ ls) = ap₂ (λ (r : Reading) (rs : List (ChainSign × Reading)). (l.0, r) ∷ rs) l.1.1 (links-same ls)

of-layer : (y : BExpr-F Given) → Same (roll-BExpr (map-BExpr Given BExpr bare y))
of-layer (BExpr-F.Literal l) = subst Same (sym (V.rolls-Literal l)) (ap reading (folded-Literal l))
of-layer (BExpr-F.Column n) = subst Same (sym (V.rolls-Column n)) (ap reading (folded-Column n))
of-layer (BExpr-F.Step c) = subst Same (sym (V.rolls-Step c)) (ap reading (folded-Step c))
of-layer (BExpr-F.Call f args) =
    let es = map bare args in
    subst Same (sym (V.rolls-Call f es)) (ap reading (folded-Call f es) ∙ (folded-call-reads f (map folded es) ∙ (reading-Call f (map folded es) ∙ (ap (λ rs. reading_step (BExpr-F.Call f rs)) (all-same args) ∙ sym (reading-Call f es)))))
of-layer (BExpr-F.Chain first links) =
    let ls = map bare_link links in
    subst Same (sym (V.rolls-Chain first.0 ls)) (ap reading (folded-Chain first.0 ls) ∙ (folded-chain-reads (folded first.0) (map folded_link ls) ∙ (reading-Chain (folded first.0) (map folded_link ls) ∙ (ap₂ (λ (r : Reading) rs. reading_step (BExpr-F.Chain r rs)) first.1 (links-same links) ∙ sym (reading-Chain first.0 ls)))))
of-layer (BExpr-F.Path whole steps) =
    let es = map bare steps in
    subst Same (sym (V.rolls-Path whole.0 es)) (ap reading (folded-Path whole.0 es) ∙ (folded-path-reads (folded whole.0) (map folded es) ∙ (reading-Path (folded whole.0) (map folded es) ∙ (ap₂ (λ (r : Reading) rs. reading_step (BExpr-F.Path r rs)) whole.1 (all-same steps) ∙ sym (reading-Path whole.0 es)))))
of-layer (BExpr-F.Window f args) =
    let es = map bare args in
    subst Same (sym (V.rolls-Window f es)) (ap reading (folded-Window f es) ∙ (reading-Window f (map folded es) ∙ (ap (λ rs. reading_step (BExpr-F.Window f rs)) (all-same args) ∙ sym (reading-Window f es))))
of-layer (BExpr-F.Aggregate f args) =
    let es = map bare args in
    subst Same (sym (V.rolls-Aggregate f es)) (ap reading (folded-Aggregate f es) ∙ (reading-Aggregate f (map folded es) ∙ (ap (λ rs. reading_step (BExpr-F.Aggregate f rs)) (all-same args) ∙ sym (reading-Aggregate f es))))

pub folded-reads : (e : BExpr) → reading (folded e) ≡ reading e
folded-reads = ind-BExpr Same (λ x y is. subst (λ (z : BExpr-F BExpr). Same (roll-BExpr z)) is (of-layer y))

pub folded-val : (e : BExpr) (t : Grid) (i : ℕ) (s : Records) → val (folded e) t i s ≡ val e t i s
unfolding val
folded-val e t i s = ap (λ (r : Reading). r.at t i s) (folded-reads e)

pub folded-kind : (e : BExpr) (cs : List Column) → kind_of (folded e) cs ≡ kind_of e cs
unfolding kind_of
folded-kind e cs = ap (λ (r : Reading). r.kind cs) (folded-reads e)

pub folded-readings : (es : List BExpr) → map reading (map folded es) ≡ map reading es
folded-readings [] = refl
folded-readings (e ∷ es) = ap₂ (λ (r : Reading) (rs : List Reading). r ∷ rs) (folded-reads e) (folded-readings es)

pub folded-kinds : (es : List BExpr) (cs : List Column) → kinds_in (map folded es) cs ≡ kinds_in es cs
unfolding kinds_in
folded-kinds [] cs = refl
folded-kinds (e ∷ es) cs = ap₂ (λ (k : Option Kind) (ks : List (Option Kind)). k ∷ ks) (folded-kind e cs) (folded-kinds es cs)

pub folded-values : (es : List BExpr) (t : Grid) (i : ℕ) (s : Records) → values_in (map folded es) t i s ≡ values_in es t i s
unfolding values_in
folded-values [] t i s = refl
folded-values (e ∷ es) t i s = ap₂ (λ (v : Value) (vs : List Value). v ∷ vs) (folded-val e t i s) (folded-values es t i s)
