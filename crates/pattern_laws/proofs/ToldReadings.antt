-- What is told changes no type, and no reading of an expression without calls.
use Rattle.std.proofs.Common.{◌≡◌, ℕ, true, List, [], ◌∷◌, ◌++◌, map, refl, sym, ap, ap₂, ◌∙◌, subst, inl}
use Rattle.std.specs.Prelude.{Option, None, Some}
use Rattle.std.specs.List.{flat_map, list_all}
use Rattle.std.proofs.lemmas.Bool.{and_parts}
use Rattle.kql_cells.specs.declared.schema.Column.{Column}
use Rattle.kql_cells.specs.declared.value.Kind.{Kind}
use Rattle.kql_functions.specs.declared.aggregate.Aggregate.{Aggregate}
use Rattle.kql_functions.specs.declared.func.Func.{Func}
use Rattle.kql_functions.specs.declared.func.Func.TheVariants as func
use Rattle.kql_functions.specs.declared.func.PatternFunc.{PatternFunc}
use Rattle.kql_functions.specs.declared.window.Window.{Window}
use Rattle.kql_bound.specs.declared.expr.BExpr.{BExpr, ind-BExpr, map-BExpr, roll-BExpr}
use Rattle.kql_bound.specs.declared.expr.BExpr.TheOpen.{BExpr-F}
use Rattle.kql_bound.specs.declared.expr.BExpr.TheVariants as V
use Rattle.kql_bound.specs.declared.expr.ChainSign.{ChainSign}
use Rattle.kql_meaning.specs.Expressions.{aggregate_kind, call_kind, chain_kind, path_kind, reading, reading_step, window_kind}
use Rattle.kql_meaning.specs.Readings.{Reading, kinds_of}
use Rattle.kql_meaning.proofs.MemberLaws.{Member, member-left, member-right}
use Rattle.kql_meaning.proofs.ReadingLaws.{reading-Aggregate, reading-Call, reading-Chain, reading-Column, reading-Literal, reading-Path, reading-Step, reading-Window}
use Rattle.pattern_lift.specs.declared.calls.PatternCall.{PatternCall}
use Rattle.pattern_lift.specs.Calls.{call_of, calls, calls_are_lent, calls_in, calls_in_links, is_among, is_call_of, or_none, own_calls, reads_one}
use Rattle.pattern_lift.proofs.CallSteps.{calls-Aggregate, calls-Call, calls-Chain, calls-Path, calls-Window, lent-Aggregate, lent-Call, lent-Chain, lent-Path, lent-Window, links_lent}
use Rattle.pattern_laws.specs.Meaning.{Told, call_reading, told_reading}
use Rattle.pattern_laws.proofs.ToldSteps.{told-Aggregate, told-Call, told-Chain, told-Column, told-Literal, told-Path, told-Step, told-Window, told_link}

abbrev plain_link : ChainSign × BExpr → ChainSign × Reading
plain_link l = (l.0, reading l.1)

abbrev link_kind : List Column → ChainSign × Reading → ChainSign × Option Kind
link_kind cs l = (l.0, l.1.kind cs)

-- Types.

module _ (told : Told) (cs : List Column) where
  abbrev over : Reading → Option Kind
  over r = r.kind cs

  abbrev SameKind : BExpr → Type 0
  SameKind e = (told_reading told e).kind cs ≡ (reading e).kind cs

  abbrev Given : Type 0
  Given = (e : BExpr) × SameKind e

  abbrev bare : Given → BExpr
  bare g = g.0

  abbrev bare_link : ChainSign × Given → ChainSign × BExpr
  bare_link l = (l.0, l.1.0)

  kinds-alike : (gs : List Given) → kinds_of (map (told_reading told) (map bare gs)) cs ≡ kinds_of (map reading (map bare gs)) cs
  unfolding kinds_of
  kinds-alike [] = refl
  kinds-alike (g ∷ gs) = ap₂ (λ (k : Option Kind) (ks : List (Option Kind)). k ∷ ks) g.1 (kinds-alike gs)

  links-alike : (gs : List (ChainSign × Given)) → map (link_kind cs) (map (told_link told) (map bare_link gs)) ≡ map (link_kind cs) (map plain_link (map bare_link gs))
  links-alike [] = refl
  links-alike (g ∷ gs) = ap₂ (λ (k : Option Kind) (ks : List (ChainSign × Option Kind)). (g.0, k) ∷ ks) g.1.1 (links-alike gs)

  call-kind-plain : (f : Func) → ((rs : List Reading) → (call_reading told f rs).kind cs ≡ call_kind f (kinds_of rs cs)) → (gs : List Given) → SameKind (V.Call f (map bare gs))
  call-kind-plain f is gs =
      ap over (told-Call told f (map bare gs))
      ∙ (is (map (told_reading told) (map bare gs)) ∙ (ap (call_kind f) (kinds-alike gs) ∙ sym (ap over (reading-Call f (map bare gs)))))

  call-kind : (f : Func) (gs : List Given) → SameKind (V.Call f (map bare gs))
  call-kind (func.Arithmetic g) gs = call-kind-plain (func.Arithmetic g) (λ rs. refl) gs
  call-kind (func.Comparison g) gs = call-kind-plain (func.Comparison g) (λ rs. refl) gs
  call-kind (func.Search g) gs = call-kind-plain (func.Search g) (λ rs. refl) gs
  call-kind (func.Logic g) gs = call-kind-plain (func.Logic g) (λ rs. refl) gs
  call-kind (func.Choice g) gs = call-kind-plain (func.Choice g) (λ rs. refl) gs
  call-kind (func.Conversion g) gs = call-kind-plain (func.Conversion g) (λ rs. refl) gs
  call-kind (func.Text g) gs = call-kind-plain (func.Text g) (λ rs. refl) gs
  call-kind (func.Time g) gs = call-kind-plain (func.Time g) (λ rs. refl) gs
  call-kind (func.Dynamic g) gs = call-kind-plain (func.Dynamic g) (λ rs. refl) gs
  call-kind (func.Pattern g) gs = call-kind-plain (func.Pattern g) (λ rs. refl) gs

  kind-of-layer : (y : BExpr-F Given) → SameKind (roll-BExpr (map-BExpr Given BExpr bare y))
  kind-of-layer (BExpr-F.Literal l) = subst SameKind (sym (V.rolls-Literal l)) (ap over (told-Literal told l) ∙ sym (ap over (reading-Literal l)))
  kind-of-layer (BExpr-F.Column n) = subst SameKind (sym (V.rolls-Column n)) (ap over (told-Column told n) ∙ sym (ap over (reading-Column n)))
  kind-of-layer (BExpr-F.Step c) = subst SameKind (sym (V.rolls-Step c)) (ap over (told-Step told c) ∙ sym (ap over (reading-Step c)))
  kind-of-layer (BExpr-F.Call f gs) = subst SameKind (sym (V.rolls-Call f (map bare gs))) (call-kind f gs)
  kind-of-layer (BExpr-F.Chain first gs) =
      subst SameKind (sym (V.rolls-Chain first.0 (map bare_link gs)))
      (ap over (told-Chain told first.0 (map bare_link gs)) ∙ (ap₂ chain_kind first.1 (links-alike gs) ∙ sym (ap over (reading-Chain first.0 (map bare_link gs)))))
  kind-of-layer (BExpr-F.Path whole gs) =
      subst SameKind (sym (V.rolls-Path whole.0 (map bare gs)))
      (ap over (told-Path told whole.0 (map bare gs)) ∙ (ap₂ path_kind whole.1 (kinds-alike gs) ∙ sym (ap over (reading-Path whole.0 (map bare gs)))))
  kind-of-layer (BExpr-F.Window f gs) =
      subst SameKind (sym (V.rolls-Window f (map bare gs)))
      (ap over (told-Window told f (map bare gs)) ∙ (ap (window_kind f) (kinds-alike gs) ∙ sym (ap over (reading-Window f (map bare gs)))))
  kind-of-layer (BExpr-F.Aggregate f gs) =
      subst SameKind (sym (V.rolls-Aggregate f (map bare gs)))
      (ap over (told-Aggregate told f (map bare gs)) ∙ (ap (aggregate_kind f) (kinds-alike gs) ∙ sym (ap over (reading-Aggregate f (map bare gs)))))

  pub told-kind : (e : BExpr) → SameKind e
  told-kind = ind-BExpr SameKind (λ x y is. subst (λ (z : BExpr-F BExpr). SameKind (roll-BExpr z)) is (kind-of-layer y))

-- Expressions without a call of a column that is lent.

module _ (told : Told) (lent : List (List ℕ)) where
  abbrev NoneOf : List PatternCall → Type 0
  NoneOf cs = (c : PatternCall) → Member c cs → is_among lent c.column ≡ true → ⊥

  abbrev Alike : BExpr → Type 0
  Alike e = calls_are_lent lent e ≡ true → NoneOf (calls e) → told_reading told e ≡ reading e

  abbrev GivenAlike : Type 0
  GivenAlike = (e : BExpr) × Alike e

  abbrev bare_alike : GivenAlike → BExpr
  bare_alike g = g.0

  abbrev bare_alike_link : ChainSign × GivenAlike → ChainSign × BExpr
  bare_alike_link l = (l.0, l.1.0)

  args-alike : (gs : List GivenAlike) → list_all (calls_are_lent lent) (map bare_alike gs) ≡ true → NoneOf (calls_in (map bare_alike gs)) → map (told_reading told) (map bare_alike gs) ≡ map reading (map bare_alike gs)
  unfolding calls_in
  args-alike [] l h = refl
  args-alike (g ∷ gs) l h =
      let a = and_parts (calls_are_lent lent g.0) (list_all (calls_are_lent lent) (map bare_alike gs)) l in
      ap₂ (λ (r : Reading) (rs : List Reading). r ∷ rs) (g.1 a.0 (λ c m. h c (member-left (calls g.0) (flat_map calls (map bare_alike gs)) c m)))
      (args-alike gs a.1 (λ c m. h c (member-right (calls g.0) (flat_map calls (map bare_alike gs)) c m)))

  chain-alike : (gs : List (ChainSign × GivenAlike)) → links_lent lent (map bare_alike_link gs) ≡ true → NoneOf (calls_in_links (map bare_alike_link gs)) → map (told_link told) (map bare_alike_link gs) ≡ map plain_link (map bare_alike_link gs)
  unfolding calls_in_links
  chain-alike [] l h = refl
  chain-alike (g ∷ gs) l h =
      let a = and_parts (calls_are_lent lent g.1.0) (links_lent lent (map bare_alike_link gs)) l in
      ap₂ (λ (r : Reading) (rs : List (ChainSign × Reading)). (g.0, r) ∷ rs) (g.1.1 a.0 (λ c m. h c (member-left (calls g.1.0) (flat_map (λ (x : ChainSign × BExpr). calls x.1) (map bare_alike_link gs)) c m)))
      (chain-alike gs a.1 (λ c m. h c (member-right (calls g.1.0) (flat_map (λ (x : ChainSign × BExpr). calls x.1) (map bare_alike_link gs)) c m)))

  none-lent : (o : Option PatternCall) → reads_one lent o ≡ true → NoneOf (or_none o) → ⊥
  none-lent None r h = absurd cc
  none-lent (Some c) r h = h c (inl refl) r

  pattern-alike : (g : PatternFunc) (args : List BExpr) → Alike (V.Call (func.Pattern g) args)
  unfolding is_call_of own_calls
  pattern-alike g args a h =
      let l = and_parts (is_call_of lent (func.Pattern g) args) (list_all (calls_are_lent lent) args) (sym (lent-Call lent (func.Pattern g) args) ∙ a) in
      absurd (none-lent (call_of g args) l.0 (λ c m. h c (subst (Member c) (sym (calls-Call (func.Pattern g) args)) (member-left (or_none (call_of g args)) (calls_in args) c m))))

  plain-alike : (f : Func) → ((rs : List Reading) → call_reading told f rs ≡ reading_step (BExpr-F.Call f rs)) → (gs : List GivenAlike) → Alike (V.Call f (map bare_alike gs))
  plain-alike f is gs a h =
      let args = map bare_alike gs in
      let l = and_parts (is_call_of lent f args) (list_all (calls_are_lent lent) args) (sym (lent-Call lent f args) ∙ a) in
      let all = args-alike gs l.1 (λ c m. h c (subst (Member c) (sym (calls-Call f args)) (member-right (own_calls f args) (calls_in args) c m))) in
      told-Call told f args ∙ (is (map (told_reading told) args) ∙ (ap (λ (rs : List Reading). reading_step (BExpr-F.Call f rs)) all ∙ sym (reading-Call f args)))

  call-alike : (f : Func) (gs : List GivenAlike) → Alike (V.Call f (map bare_alike gs))
  call-alike (func.Arithmetic g) gs = plain-alike (func.Arithmetic g) (λ rs. refl) gs
  call-alike (func.Comparison g) gs = plain-alike (func.Comparison g) (λ rs. refl) gs
  call-alike (func.Search g) gs = plain-alike (func.Search g) (λ rs. refl) gs
  call-alike (func.Logic g) gs = plain-alike (func.Logic g) (λ rs. refl) gs
  call-alike (func.Choice g) gs = plain-alike (func.Choice g) (λ rs. refl) gs
  call-alike (func.Conversion g) gs = plain-alike (func.Conversion g) (λ rs. refl) gs
  call-alike (func.Text g) gs = plain-alike (func.Text g) (λ rs. refl) gs
  call-alike (func.Time g) gs = plain-alike (func.Time g) (λ rs. refl) gs
  call-alike (func.Dynamic g) gs = plain-alike (func.Dynamic g) (λ rs. refl) gs
  call-alike (func.Pattern g) gs = pattern-alike g (map bare_alike gs)

  chain-of : (first : GivenAlike) (gs : List (ChainSign × GivenAlike)) → Alike (V.Chain first.0 (map bare_alike_link gs))
  chain-of first gs a h =
      let links = map bare_alike_link gs in
      let l = and_parts (calls_are_lent lent first.0) (links_lent lent links) (sym (lent-Chain lent first.0 links) ∙ a) in
      let k : NoneOf (calls first.0 ++ calls_in_links links) = subst NoneOf (calls-Chain first.0 links) h in
      told-Chain told first.0 links
      ∙ (ap₂ (λ (r : Reading) (rs : List (ChainSign × Reading)). reading_step (BExpr-F.Chain r rs)) (first.1 l.0 (λ c m. k c (member-left (calls first.0) (calls_in_links links) c m)))
      (chain-alike gs l.1 (λ c m. k c (member-right (calls first.0) (calls_in_links links) c m)))
      ∙ sym (reading-Chain first.0 links))

  path-of : (whole : GivenAlike) (gs : List GivenAlike) → Alike (V.Path whole.0 (map bare_alike gs))
  path-of whole gs a h =
      let steps = map bare_alike gs in
      let l = and_parts (calls_are_lent lent whole.0) (list_all (calls_are_lent lent) steps) (sym (lent-Path lent whole.0 steps) ∙ a) in
      let k : NoneOf (calls whole.0 ++ calls_in steps) = subst NoneOf (calls-Path whole.0 steps) h in
      told-Path told whole.0 steps
      ∙ (ap₂ (λ (r : Reading) (rs : List Reading). reading_step (BExpr-F.Path r rs)) (whole.1 l.0 (λ c m. k c (member-left (calls whole.0) (calls_in steps) c m)))
      (args-alike gs l.1 (λ c m. k c (member-right (calls whole.0) (calls_in steps) c m)))
      ∙ sym (reading-Path whole.0 steps))

  window-of : (f : Window) (gs : List GivenAlike) → Alike (V.Window f (map bare_alike gs))
  window-of f gs a h =
      let args = map bare_alike gs in
      told-Window told f args ∙ (ap (λ (rs : List Reading). reading_step (BExpr-F.Window f rs)) (args-alike gs (sym (lent-Window lent f args) ∙ a) (subst NoneOf (calls-Window f args) h)) ∙ sym (reading-Window f args))

  aggregate-of : (f : Aggregate) (gs : List GivenAlike) → Alike (V.Aggregate f (map bare_alike gs))
  aggregate-of f gs a h =
      let args = map bare_alike gs in
      told-Aggregate told f args ∙ (ap (λ (rs : List Reading). reading_step (BExpr-F.Aggregate f rs)) (args-alike gs (sym (lent-Aggregate lent f args) ∙ a) (subst NoneOf (calls-Aggregate f args) h)) ∙ sym (reading-Aggregate f args))

  alike-of-layer : (y : BExpr-F GivenAlike) → Alike (roll-BExpr (map-BExpr GivenAlike BExpr bare_alike y))
  alike-of-layer (BExpr-F.Literal l) = subst Alike (sym (V.rolls-Literal l)) (λ a h. told-Literal told l ∙ sym (reading-Literal l))
  alike-of-layer (BExpr-F.Column n) = subst Alike (sym (V.rolls-Column n)) (λ a h. told-Column told n ∙ sym (reading-Column n))
  alike-of-layer (BExpr-F.Step c) = subst Alike (sym (V.rolls-Step c)) (λ a h. told-Step told c ∙ sym (reading-Step c))
  alike-of-layer (BExpr-F.Call f gs) = subst Alike (sym (V.rolls-Call f (map bare_alike gs))) (call-alike f gs)
  alike-of-layer (BExpr-F.Chain first gs) = subst Alike (sym (V.rolls-Chain first.0 (map bare_alike_link gs))) (chain-of first gs)
  alike-of-layer (BExpr-F.Path whole gs) = subst Alike (sym (V.rolls-Path whole.0 (map bare_alike gs))) (path-of whole gs)
  alike-of-layer (BExpr-F.Window f gs) = subst Alike (sym (V.rolls-Window f (map bare_alike gs))) (window-of f gs)
  alike-of-layer (BExpr-F.Aggregate f gs) = subst Alike (sym (V.rolls-Aggregate f (map bare_alike gs))) (aggregate-of f gs)

  pub told-alike : (e : BExpr) → Alike e
  told-alike = ind-BExpr Alike (λ x y is. subst (λ (z : BExpr-F BExpr). Alike (roll-BExpr z)) is (alike-of-layer y))
