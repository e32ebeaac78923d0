-- The calls of what can be lifted read columns that are lent.
use Rattle.std.proofs.Common.{◌≡◌, ℕ, true, List, [], ◌∷◌, ◌++◌, map, sym, ap, ◌∙◌, subst, inl, inr}
use Rattle.std.specs.Prelude.{Option, None, Some}
use Rattle.std.specs.List.{flat_map, list_all}
use Rattle.std.proofs.lemmas.Bool.{and_parts}
use Rattle.kql_functions.specs.declared.aggregate.Aggregate.{Aggregate}
use Rattle.kql_functions.specs.declared.func.Func.{Func}
use Rattle.kql_functions.specs.declared.func.Func.TheVariants as func
use Rattle.kql_functions.specs.declared.window.Window.{Window}
use Rattle.kql_bound.specs.declared.expr.BExpr.{BExpr, ind-BExpr, map-BExpr, roll-BExpr}
use Rattle.kql_bound.specs.declared.expr.BExpr.TheOpen.{BExpr-F}
use Rattle.kql_bound.specs.declared.expr.BExpr.TheVariants as V
use Rattle.kql_bound.specs.declared.expr.ChainSign.{ChainSign}
use Rattle.kql_bound.specs.declared.parts.BItem.{BItem}
use Rattle.kql_bound.specs.declared.plan.Op.{Op, out-Op}
use Rattle.kql_bound.specs.declared.plan.Op.TheOpen.{Op-F}
use Rattle.kql_bound.specs.declared.plan.Plan.{Plan}
use Rattle.kql_meaning.specs.FittingOperators.{are_distinct}
use Rattle.kql_meaning.proofs.MemberLaws.{Member, member-either}
use Rattle.pattern_lift.specs.declared.calls.PatternCall.{PatternCall}
use Rattle.pattern_lift.specs.Calls.{call_of, calls, calls_are_lent, calls_in, calls_in_items, calls_in_links, is_among, is_call_of, or_none, own_calls, reads_one}
use Rattle.pattern_lift.specs.Prefixes.{calls_at, calls_at_step, left_of, names_set, sets}
use Rattle.pattern_lift.proofs.CallSteps.{calls-Aggregate, calls-Call, calls-Chain, calls-Column, calls-Literal, calls-Path, calls-Step, calls-Window, lent-Aggregate, lent-Call, lent-Chain, lent-Path, lent-Window, links_lent}
use Rattle.pattern_laws.specs.Liftable.{is_readable, item_is_liftable, op_is_liftable, op_liftable_step, prefix_is_liftable}
use Rattle.pattern_laws.proofs.ItemLaws.{AllGood, good-items}
use Rattle.pattern_laws.proofs.PrefixLaws.{left-parts}

read-by : (lent : List (List ℕ)) (o : Option PatternCall) (c : PatternCall) → reads_one lent o ≡ true → Member c (or_none o) → is_among lent c.column ≡ true
read-by lent None c l m = absurd m
read-by lent (Some d) c l (inl e) = ap (λ (x : PatternCall). is_among lent x.column) (sym e) ∙ l
read-by lent (Some d) c l (inr m) = absurd m

own-lent : (lent : List (List ℕ)) (f : Func) (args : List BExpr) (c : PatternCall) → is_call_of lent f args ≡ true → Member c (own_calls f args) → is_among lent c.column ≡ true
unfolding is_call_of own_calls
own-lent lent (func.Pattern g) args c l m = read-by lent (call_of g args) c l m
own-lent lent (func.Arithmetic g) args c l m = absurd m
own-lent lent (func.Comparison g) args c l m = absurd m
own-lent lent (func.Search g) args c l m = absurd m
own-lent lent (func.Logic g) args c l m = absurd m
own-lent lent (func.Choice g) args c l m = absurd m
own-lent lent (func.Conversion g) args c l m = absurd m
own-lent lent (func.Text g) args c l m = absurd m
own-lent lent (func.Time g) args c l m = absurd m
own-lent lent (func.Dynamic g) args c l m = absurd m

module _ (lent : List (List ℕ)) where
  abbrev AllLent : List PatternCall → Type 0
  AllLent cs = (c : PatternCall) → Member c cs → is_among lent c.column ≡ true

  abbrev Lends : BExpr → Type 0
  Lends e = calls_are_lent lent e ≡ true → AllLent (calls e)

  abbrev Given : Type 0
  Given = (e : BExpr) × Lends e

  abbrev bare : Given → BExpr
  bare g = g.0

  abbrev bare_link : ChainSign × Given → ChainSign × BExpr
  bare_link l = (l.0, l.1.0)

  both : (cs ds : List PatternCall) → AllLent cs → AllLent ds → AllLent (cs ++ ds)
  both cs ds a b c m = elim (member-either cs ds c m) [
    | inl l ↦ a c l
    | inr r ↦ b c r
  ]

  none : (cs : List PatternCall) → cs ≡ [] → AllLent cs
  none cs e c m = absurd (subst (Member c) e m)

  args-lend : (gs : List Given) → list_all (calls_are_lent lent) (map bare gs) ≡ true → AllLent (calls_in (map bare gs))
  unfolding calls_in
  args-lend [] l = λ c m. absurd m
  args-lend (g ∷ gs) l =
      let a = and_parts (calls_are_lent lent g.0) (list_all (calls_are_lent lent) (map bare gs)) l in
      both (calls g.0) (flat_map calls (map bare gs)) (g.1 a.0) (args-lend gs a.1)

  links-lend : (gs : List (ChainSign × Given)) → links_lent lent (map bare_link gs) ≡ true → AllLent (calls_in_links (map bare_link gs))
  unfolding calls_in_links
  links-lend [] l = λ c m. absurd m
  links-lend (g ∷ gs) l =
      let a = and_parts (calls_are_lent lent g.1.0) (links_lent lent (map bare_link gs)) l in
      both (calls g.1.0) (flat_map (λ (x : ChainSign × BExpr). calls x.1) (map bare_link gs)) (g.1.1 a.0) (links-lend gs a.1)

  call-lends : (f : Func) (gs : List Given) → Lends (V.Call f (map bare gs))
  call-lends f gs l =
      let args = map bare gs in
      let a = and_parts (is_call_of lent f args) (list_all (calls_are_lent lent) args) (sym (lent-Call lent f args) ∙ l) in
      subst AllLent (sym (calls-Call f args)) (both (own_calls f args) (calls_in args) (λ c m. own-lent lent f args c a.0 m) (args-lend gs a.1))

  chain-lends : (first : Given) (gs : List (ChainSign × Given)) → Lends (V.Chain first.0 (map bare_link gs))
  chain-lends first gs l =
      let links = map bare_link gs in
      let a = and_parts (calls_are_lent lent first.0) (links_lent lent links) (sym (lent-Chain lent first.0 links) ∙ l) in
      subst AllLent (sym (calls-Chain first.0 links)) (both (calls first.0) (calls_in_links links) (first.1 a.0) (links-lend gs a.1))

  path-lends : (whole : Given) (gs : List Given) → Lends (V.Path whole.0 (map bare gs))
  path-lends whole gs l =
      let steps = map bare gs in
      let a = and_parts (calls_are_lent lent whole.0) (list_all (calls_are_lent lent) steps) (sym (lent-Path lent whole.0 steps) ∙ l) in
      subst AllLent (sym (calls-Path whole.0 steps)) (both (calls whole.0) (calls_in steps) (whole.1 a.0) (args-lend gs a.1))

  lends-layer : (y : BExpr-F Given) → Lends (roll-BExpr (map-BExpr Given BExpr bare y))
  lends-layer (BExpr-F.Literal l) = subst Lends (sym (V.rolls-Literal l)) (λ h. none (calls (V.Literal l)) (calls-Literal l))
  lends-layer (BExpr-F.Column n) = subst Lends (sym (V.rolls-Column n)) (λ h. none (calls (V.Column n)) (calls-Column n))
  lends-layer (BExpr-F.Step c) = subst Lends (sym (V.rolls-Step c)) (λ h. none (calls (V.Step c)) (calls-Step c))
  lends-layer (BExpr-F.Call f gs) = subst Lends (sym (V.rolls-Call f (map bare gs))) (call-lends f gs)
  lends-layer (BExpr-F.Chain first gs) = subst Lends (sym (V.rolls-Chain first.0 (map bare_link gs))) (chain-lends first gs)
  lends-layer (BExpr-F.Path whole gs) = subst Lends (sym (V.rolls-Path whole.0 (map bare gs))) (path-lends whole gs)
  lends-layer (BExpr-F.Window f gs) = subst Lends (sym (V.rolls-Window f (map bare gs))) (λ h. subst AllLent (sym (calls-Window f (map bare gs))) (args-lend gs (sym (lent-Window lent f (map bare gs)) ∙ h)))
  lends-layer (BExpr-F.Aggregate f gs) = subst Lends (sym (V.rolls-Aggregate f (map bare gs))) (λ h. subst AllLent (sym (calls-Aggregate f (map bare gs))) (args-lend gs (sym (lent-Aggregate lent f (map bare gs)) ∙ h)))

  pub calls-lent : (e : BExpr) → Lends e
  calls-lent = ind-BExpr Lends (λ x y is. subst (λ (z : BExpr-F BExpr). Lends (roll-BExpr z)) is (lends-layer y))

items-lent : (marks : List ℕ) (lent : List (List ℕ)) (items : List BItem) → AllGood marks lent items → AllLent lent (calls_in_items items)
unfolding calls_in_items
items-lent marks lent [] g = λ c m. absurd m
items-lent marks lent (b ∷ bs) g =
    both lent (calls b.expr) (flat_map (λ (x : BItem). calls x.expr) bs) (calls-lent lent b.expr g.0.lent_calls) (items-lent marks lent bs g.1)

at-lent : (marks : List ℕ) (lent : List (List ℕ)) (f : Op-F Op Plan) → op_liftable_step marks lent f ≡ true → AllLent lent (calls_at_step f)
at-lent marks lent (Op-F.Where e) l = calls-lent lent e (and_parts (calls_are_lent lent e) (is_readable marks e) l).0
at-lent marks lent (Op-F.Extend items) l = items-lent marks lent items (good-items marks lent items (and_parts (list_all (item_is_liftable marks lent) items) (are_distinct (names_set items)) l).0)
at-lent marks lent (Op-F.Project items) l = λ c m. absurd m
at-lent marks lent (Op-F.Take k) l = λ c m. absurd m
at-lent marks lent Op-F.Count l = λ c m. absurd m
at-lent marks lent Op-F.Serialize l = λ c m. absurd m
at-lent marks lent (Op-F.Sort keys) l = λ c m. absurd m
at-lent marks lent (Op-F.Top k keys) l = λ c m. absurd m
at-lent marks lent (Op-F.Summarize g) l = λ c m. absurd m
at-lent marks lent (Op-F.MakeSeries p) l = λ c m. absurd m
at-lent marks lent (Op-F.MvExpand e) l = λ c m. absurd m
at-lent marks lent (Op-F.Parse p) l = λ c m. absurd m
at-lent marks lent (Op-F.Join j right) l = λ c m. absurd m
at-lent marks lent (Op-F.Union inner others) l = λ c m. absurd m
at-lent marks lent (Op-F.Scan p) l = λ c m. absurd m
at-lent marks lent (Op-F.Partition k ops) l = λ c m. absurd m

pub prefix-lent : (marks : List ℕ) (lent : List (List ℕ)) (ops : List Op) → prefix_is_liftable marks lent ops ≡ true → AllLent lent (flat_map calls_at ops)
unfolding prefix_is_liftable op_is_liftable calls_at
prefix-lent marks lent [] l = λ c m. absurd m
prefix-lent marks lent (o ∷ os) l =
    let p = and_parts (op_is_liftable marks lent o) (prefix_is_liftable marks (left_of lent (sets o)) os) l in
    both lent (calls_at o) (flat_map calls_at os) (at-lent marks lent (out-Op o) p.0)
    (λ c m. (left-parts lent (sets o) c.column (prefix-lent marks (left_of lent (sets o)) os p.1 c m)).0)
