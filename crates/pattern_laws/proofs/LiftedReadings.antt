-- A lifted expression reads, over a table with the answers of its calls beside, as the expression does by what is told.
use Rattle.std.proofs.Common.{◌≡◌, ℕ, Bool, true, false, not, List, [], ◌∷◌, ◌++◌, map, refl, sym, ap, ap₂, ◌∙◌, subst, inl}
use Rattle.std.specs.Prelude.{Option, None, Some}
use Rattle.std.specs.List.{flat_map, list_all}
use Rattle.std.proofs.lemmas.Bool.{and_parts}
use Rattle.kql_cells.specs.Table.{Grid}
use Rattle.kql_cells.specs.declared.value.Kind.{Kind}
use Rattle.kql_cells.specs.declared.value.Kind.TheVariants as kind
use Rattle.kql_cells.specs.declared.value.Value.{Value}
use Rattle.kql_cells.specs.declared.value.Value.TheVariants as value
use Rattle.kql_functions.specs.Kinds.{pattern_kind, result_kind, row, same_kinds}
use Rattle.kql_functions.specs.declared.aggregate.Aggregate.{Aggregate}
use Rattle.kql_functions.specs.declared.func.Func.{Func}
use Rattle.kql_functions.specs.declared.func.Func.TheVariants as func
use Rattle.kql_functions.specs.declared.func.PatternFunc.{PatternFunc}
use Rattle.kql_functions.specs.declared.window.Window.{Window}
use Rattle.kql_scalar_fns.specs.Applied.{applied}
use Rattle.kql_bound.specs.declared.expr.BExpr.{BExpr, ind-BExpr, map-BExpr, out-BExpr, roll-BExpr, roll-out-BExpr}
use Rattle.kql_bound.specs.declared.expr.BExpr.TheOpen.{BExpr-F}
use Rattle.kql_bound.specs.declared.expr.BExpr.TheVariants as V
use Rattle.kql_bound.specs.declared.expr.ChainSign.{ChainSign}
use Rattle.kql_bound.specs.declared.expr.StepColumn.{StepColumn}
use Rattle.kql_bound.specs.declared.literal.Lit.{Lit}
use Rattle.kql_meaning.specs.Expressions.{all_known, call_kind, chain_kind, chain_value, column_kind, kind_of, path_kind, path_value, reading, reading_step, val, window_kind}
use Rattle.kql_meaning.specs.Readings.{Reading, Records, kinds_of, values_at}
use Rattle.kql_meaning.specs.Tables.{cell}
use Rattle.kql_meaning.proofs.MemberLaws.{Member, contains-member, member-left, member-right}
use Rattle.kql_meaning.proofs.ReadingLaws.{reading-Call, reading-Chain, reading-Column, reading-Literal, reading-Path, reading-Step, reading-Window}
use Rattle.pattern_lift.specs.declared.calls.PatternCall.{PatternCall}
use Rattle.pattern_lift.specs.Calls.{call_of, call_with, calls, calls_are_lent, calls_in, calls_in_links, column_name, column_step, is_among, is_call_of, literal_text, or_none, own_calls, reads_one, text_of_kind, text_step}
use Rattle.pattern_lift.specs.Derived.{named}
use Rattle.pattern_lift.specs.Lifted.{lifted, lifted_link, lifted_step}
use Rattle.pattern_lift.specs.Marks.{begins_with}
use Rattle.pattern_lift.proofs.CallSteps.{calls-Call, calls-Chain, calls-Path, calls-Window, lent-Call, lent-Chain, lent-Path, lent-Window, lifts-Call, lifts-Chain, lifts-Column, lifts-Literal, lifts-Path, lifts-Step, lifts-Window, links_lent}
use Rattle.pattern_laws.specs.Liftable.{is_readable}
use Rattle.pattern_laws.specs.LawsOfExpressions.{HasAnswers, IsBeside, LiftedReads}
use Rattle.pattern_laws.specs.Meaning.{Told, answer_to, answered, call_reading, told_reading, told_val}
use Rattle.pattern_laws.proofs.SameReadings.{AllLinked, AllSame, SameReading, kinds-same, link-kinds-same, link-values-same, values-same, windowed-same}
use Rattle.pattern_laws.proofs.ToldSteps.{links_readable, readable-Aggregate, readable-Call, readable-Chain, readable-Column, readable-Path, readable-Window, told-Call, told-Chain, told-Column, told-Literal, told-Path, told-Step, told-Window, told_link}

-- The shape of a pattern call.

pub column-is : (e : BExpr) (y : BExpr-F BExpr) → out-BExpr e ≡ y → (n : List ℕ) → column_step y ≡ Some n → e ≡ V.Column n
column-is e (BExpr-F.Literal l) o n h = cc
column-is e (BExpr-F.Column m) o n h = let same : m ≡ n = cc in sym (roll-out-BExpr e) ∙ (ap roll-BExpr o ∙ (V.rolls-Column m ∙ ap V.Column same))
column-is e (BExpr-F.Step c) o n h = cc
column-is e (BExpr-F.Call f args) o n h = cc
column-is e (BExpr-F.Chain first links) o n h = cc
column-is e (BExpr-F.Path whole steps) o n h = cc
column-is e (BExpr-F.Window f args) o n h = cc
column-is e (BExpr-F.Aggregate f args) o n h = cc

text-kind : (k : Kind) (v : Value) (p : List ℕ) → text_of_kind k v ≡ Some p → (k ≡ kind.Text) × (v ≡ value.Text p)
text-kind kind.Bool v p h = absurd cc
text-kind kind.Long v p h = absurd cc
text-kind kind.Moment v p h = absurd cc
text-kind kind.Span v p h = absurd cc
text-kind kind.Dynamic v p h = absurd cc
text-kind kind.Text value.Null p h = absurd cc
text-kind kind.Text (value.Bool b) p h = absurd cc
text-kind kind.Text (value.Long n) p h = absurd cc
text-kind kind.Text (value.Moment n) p h = absurd cc
text-kind kind.Text (value.Span n) p h = absurd cc
text-kind kind.Text (value.Dynamic d) p h = absurd cc
text-kind kind.Text (value.Text t) p h = let same : t ≡ p = cc in (refl, ap value.Text same)

record IsText (e : BExpr) (p : List ℕ) : Type 0 where
  literal : Lit
  same : e ≡ V.Literal literal
  kind : literal.kind ≡ kind.Text
  value : literal.value ≡ value.Text p

text-is : (e : BExpr) (y : BExpr-F BExpr) → out-BExpr e ≡ y → (p : List ℕ) → text_step y ≡ Some p → IsText e p
text-is e (BExpr-F.Literal l) o p h =
    let k = text-kind l.kind l.value p h in
    record { literal = l; same = sym (roll-out-BExpr e) ∙ (ap roll-BExpr o ∙ V.rolls-Literal l); kind = k.0; value = k.1 }
text-is e (BExpr-F.Column m) o p h = absurd cc
text-is e (BExpr-F.Step c) o p h = absurd cc
text-is e (BExpr-F.Call f args) o p h = absurd cc
text-is e (BExpr-F.Chain first links) o p h = absurd cc
text-is e (BExpr-F.Path whole steps) o p h = absurd cc
text-is e (BExpr-F.Window f args) o p h = absurd cc
text-is e (BExpr-F.Aggregate f args) o p h = absurd cc

record IsCall (g : PatternFunc) (args : List BExpr) (c : PatternCall) : Type 0 where
  literal : Lit
  same : args ≡ V.Column c.column ∷ V.Literal literal ∷ []
  kind : literal.kind ≡ kind.Text
  value : literal.value ≡ value.Text c.pattern
  function : c.func ≡ g

call-parts : (g : PatternFunc) (a b : BExpr) (c : PatternCall) (n p : Option (List ℕ)) → column_name a ≡ n → literal_text b ≡ p → call_with g n p ≡ Some c → IsCall g (a ∷ b ∷ []) c
unfolding column_name literal_text
call-parts g a b c None p e f h = absurd cc
call-parts g a b c (Some n) None e f h = absurd cc
call-parts g a b c (Some n) (Some p) e f h =
    let same : record { func = g; column = n; pattern = p } ≡ c = cc in
    let column = column-is a (out-BExpr a) refl n e in
    let text = text-is b (out-BExpr b) refl p f in
    let made : IsCall g (a ∷ b ∷ []) (record { func = g; column = n; pattern = p }) = record { literal = text.literal; same = ap₂ (λ (x y : BExpr). x ∷ y ∷ []) column text.same; kind = text.kind; value = text.value; function = refl } in
    subst (IsCall g (a ∷ b ∷ [])) same made

call-is : (g : PatternFunc) (args : List BExpr) (c : PatternCall) → call_of g args ≡ Some c → IsCall g args c
unfolding call_of
call-is g [] c h = absurd cc
call-is g (a ∷ []) c h = absurd cc
call-is g (a ∷ b ∷ []) c h = call-parts g a b c (column_name a) (literal_text b) refl refl h
call-is g (a ∷ b ∷ d ∷ es) c h = absurd cc

text-kinds : (g : PatternFunc) (k l : Option Kind) → k ≡ Some kind.Text → l ≡ Some kind.Text → call_kind (func.Pattern g) (k ∷ l ∷ []) ≡ Some (pattern_kind g.group)
unfolding call_kind all_known result_kind row same_kinds
text-kinds g k l e f = rw (e, f) refl

module _ (told : Told) (marks : List ℕ) (lent : List (List ℕ)) (t u : Grid) (beside : IsBeside marks t u) where
  -- What is said of an expression.
  abbrev Answers : List PatternCall → Type 0
  Answers cs = (c : PatternCall) → Member c cs → is_among lent c.column ≡ true → HasAnswers told marks t u c

  abbrev Same : BExpr → BExpr → Type 0
  Same e f = SameReading t u (told_reading told e) (reading f)

  abbrev Reads : BExpr → Type 0
  Reads e = calls_are_lent lent e ≡ true → is_readable marks e ≡ true → Answers (calls e) → Same e (lifted marks e)

  abbrev Given : Type 0
  Given = (e : BExpr) × Reads e

  abbrev bare : Given → BExpr
  bare g = g.0

  abbrev bare_link : ChainSign × Given → ChainSign × BExpr
  bare_link l = (l.0, l.1.0)

  by : (e f : BExpr) (r q : Reading) → told_reading told e ≡ r → lifted marks e ≡ f → reading f ≡ q → SameReading t u r q → Same e (lifted marks e)
  by e f r q a b c same = subst (λ (x : Reading). SameReading t u x (reading (lifted marks e))) (sym a) (subst (λ (x : Reading). SameReading t u r x) (sym (ap reading b ∙ c)) same)

  -- Several parts.

  args-same : (gs : List Given) → list_all (calls_are_lent lent) (map bare gs) ≡ true → list_all (is_readable marks) (map bare gs) ≡ true → Answers (calls_in (map bare gs)) → AllSame t u (map (told_reading told) (map bare gs)) (map reading (map (lifted marks) (map bare gs)))
  unfolding calls_in
  args-same [] l r h = tt
  args-same (g ∷ gs) l r h =
      let a = and_parts (calls_are_lent lent g.0) (list_all (calls_are_lent lent) (map bare gs)) l in
      let b = and_parts (is_readable marks g.0) (list_all (is_readable marks) (map bare gs)) r in (
        g.1 a.0 b.0 (λ c m. h c (member-left (calls g.0) (flat_map calls (map bare gs)) c m)),
        args-same gs a.1 b.1 (λ c m. h c (member-right (calls g.0) (flat_map calls (map bare gs)) c m)),
      )

  links-same : (gs : List (ChainSign × Given)) → links_lent lent (map bare_link gs) ≡ true → links_readable marks (map bare_link gs) ≡ true → Answers (calls_in_links (map bare_link gs)) → AllLinked t u (map (told_link told) (map bare_link gs)) (map {B = ChainSign × Reading} (λ (l : ChainSign × BExpr). (l.0, reading l.1)) (map (lifted_link marks) (map bare_link gs)))
  unfolding calls_in_links
  links-same [] l r h = tt
  links-same (g ∷ gs) l r h =
      let a = and_parts (calls_are_lent lent g.1.0) (links_lent lent (map bare_link gs)) l in
      let b = and_parts (is_readable marks g.1.0) (links_readable marks (map bare_link gs)) r in (
        refl,
        g.1.1 a.0 b.0 (λ c m. h c (member-left (calls g.1.0) (flat_map (λ (x : ChainSign × BExpr). calls x.1) (map bare_link gs)) c m)),
        links-same gs a.1 b.1 (λ c m. h c (member-right (calls g.1.0) (flat_map (λ (x : ChainSign × BExpr). calls x.1) (map bare_link gs)) c m)),
      )

  -- Variants.

  literal-reads : (l : Lit) → Reads (V.Literal l)
  literal-reads l a b h = by (V.Literal l) (V.Literal l) (reading_step (BExpr-F.Literal l)) (reading_step (BExpr-F.Literal l)) (told-Literal told l) (lifts-Literal marks l) (reading-Literal l) (record { type = refl; at = λ i lt s. refl })

  turned : (b : Bool) → not b ≡ true → b ≡ false
  turned true h = sym h
  turned false h = refl

  column-reads : (n : List ℕ) → Reads (V.Column n)
  column-reads n a b h =
      let own = turned (begins_with marks n) (sym (readable-Column marks n) ∙ b) in
      by (V.Column n) (V.Column n) (reading_step (BExpr-F.Column n)) (reading_step (BExpr-F.Column n)) (told-Column told n) (lifts-Column marks n) (reading-Column n)
      (record { type = beside.kinds n own; at = λ i lt s. beside.cells n own i lt })

  step-reads : (c : StepColumn) → Reads (V.Step c)
  step-reads c a b h = by (V.Step c) (V.Step c) (reading_step (BExpr-F.Step c)) (reading_step (BExpr-F.Step c)) (told-Step told c) (lifts-Step marks c) (reading-Step c) (record { type = refl; at = λ i lt s. refl })

  -- A call that is not one of a pattern.
  plain-reads : (f : Func) → ((args : List BExpr) → lifted_step marks (BExpr-F.Call f args) ≡ V.Call f args) → ((rs : List Reading) → call_reading told f rs ≡ reading_step (BExpr-F.Call f rs)) → (gs : List Given) → Reads (V.Call f (map bare gs))
  plain-reads f one two gs a b h =
      let args = map bare gs in
      let l = and_parts (is_call_of lent f args) (list_all (calls_are_lent lent) args) (sym (lent-Call lent f args) ∙ a) in
      let all = args-same gs l.1 (sym (readable-Call marks f args) ∙ b) (λ c m. h c (subst (Member c) (sym (calls-Call f args)) (member-right (own_calls f args) (calls_in args) c m))) in
      let rs = map (told_reading told) args in
      let qs = map reading (map (lifted marks) args) in
      by (V.Call f args) (V.Call f (map (lifted marks) args)) (reading_step (BExpr-F.Call f rs)) (reading_step (BExpr-F.Call f qs)) (told-Call told f args ∙ two rs) (lifts-Call marks f args ∙ one (map (lifted marks) args)) (reading-Call f (map (lifted marks) args))
      (record { type = ap (call_kind f) (kinds-same t u rs qs all); at = λ i lt s. ap (applied f) (values-same t u rs qs all i lt s) })

  -- A call of a pattern.

  two-kinds : (g : PatternFunc) (n : List ℕ) (l : Lit) → l.kind ≡ kind.Text → column_kind n t.columns ≡ Some kind.Text → (told_reading told (V.Call (func.Pattern g) (V.Column n ∷ V.Literal l ∷ []))).kind t.columns ≡ Some (pattern_kind g.group)
  unfolding kinds_of
  two-kinds g n l e f =
      ap (λ (r : Reading). r.kind t.columns) (told-Call told (func.Pattern g) (V.Column n ∷ V.Literal l ∷ []))
      ∙ text-kinds g ((told_reading told (V.Column n)).kind t.columns) ((told_reading told (V.Literal l)).kind t.columns)
      (ap (λ (r : Reading). r.kind t.columns) (told-Column told n) ∙ f) (ap (λ (r : Reading). r.kind t.columns) (told-Literal told l) ∙ ap (λ k. Some k) e)

  two-values : (g : PatternFunc) (n p : List ℕ) (l : Lit) → l.value ≡ value.Text p → (i : ℕ) (s : Records) → (told_reading told (V.Call (func.Pattern g) (V.Column n ∷ V.Literal l ∷ []))).at t i s ≡ answer_to told g p (cell t i n)
  unfolding values_at answered
  two-values g n p l e i s =
      ap (λ (r : Reading). r.at t i s) (told-Call told (func.Pattern g) (V.Column n ∷ V.Literal l ∷ []))
      ∙ ap₂ (λ (v w : Value). answered told g (v ∷ w ∷ [])) (ap (λ (r : Reading). r.at t i s) (told-Column told n)) (ap (λ (r : Reading). r.at t i s) (told-Literal told l) ∙ e)

  pattern-one : (g : PatternFunc) (n p : List ℕ) (l : Lit) → l.kind ≡ kind.Text → l.value ≡ value.Text p → HasAnswers told marks t u (record { func = g; column = n; pattern = p }) → Same (V.Call (func.Pattern g) (V.Column n ∷ V.Literal l ∷ [])) (V.Column (named marks g.word))
  pattern-one g n p l e f h =
      subst (λ (x : Reading). SameReading t u (told_reading told (V.Call (func.Pattern g) (V.Column n ∷ V.Literal l ∷ []))) x) (sym (reading-Column (named marks g.word)))
      (record { type = h.type ∙ sym (two-kinds g n l e h.text); at = λ i lt s. h.cells i lt ∙ sym (two-values g n p l f i s) })

  pattern-shaped : (g : PatternFunc) (args : List BExpr) (c : PatternCall) → IsCall g args c → HasAnswers told marks t u c → Same (V.Call (func.Pattern g) args) (V.Column (named marks g.word))
  pattern-shaped g args c is h =
      subst (λ (es : List BExpr). Same (V.Call (func.Pattern g) es) (V.Column (named marks g.word))) (sym is.same)
      (pattern-one g c.column c.pattern is.literal is.kind is.value (subst (λ (f : PatternFunc). HasAnswers told marks t u (record { func = f; column = c.column; pattern = c.pattern })) is.function h))

  pattern-found : (g : PatternFunc) (args : List BExpr) (o : Option PatternCall) → call_of g args ≡ o → reads_one lent o ≡ true → Answers (or_none o) → Same (V.Call (func.Pattern g) args) (V.Column (named marks g.word))
  pattern-found g args None e r h = absurd cc
  pattern-found g args (Some c) e r h = pattern-shaped g args c (call-is g args c e) (h c (inl refl) r)

  pattern-reads : (g : PatternFunc) (args : List BExpr) → Reads (V.Call (func.Pattern g) args)
  unfolding is_call_of own_calls
  pattern-reads g args a b h =
      let l = and_parts (is_call_of lent (func.Pattern g) args) (list_all (calls_are_lent lent) args) (sym (lent-Call lent (func.Pattern g) args) ∙ a) in
      let own = pattern-found g args (call_of g args) refl l.0 (λ c m. h c (subst (Member c) (sym (calls-Call (func.Pattern g) args)) (member-left (or_none (call_of g args)) (calls_in args) c m))) in
      subst (λ (x : BExpr). Same (V.Call (func.Pattern g) args) x) (sym (lifts-Call marks (func.Pattern g) args)) own

  call-reads : (f : Func) (gs : List Given) → Reads (V.Call f (map bare gs))
  call-reads (func.Arithmetic g) gs = plain-reads (func.Arithmetic g) (λ es. refl) (λ rs. refl) gs
  call-reads (func.Comparison g) gs = plain-reads (func.Comparison g) (λ es. refl) (λ rs. refl) gs
  call-reads (func.Search g) gs = plain-reads (func.Search g) (λ es. refl) (λ rs. refl) gs
  call-reads (func.Logic g) gs = plain-reads (func.Logic g) (λ es. refl) (λ rs. refl) gs
  call-reads (func.Choice g) gs = plain-reads (func.Choice g) (λ es. refl) (λ rs. refl) gs
  call-reads (func.Conversion g) gs = plain-reads (func.Conversion g) (λ es. refl) (λ rs. refl) gs
  call-reads (func.Text g) gs = plain-reads (func.Text g) (λ es. refl) (λ rs. refl) gs
  call-reads (func.Time g) gs = plain-reads (func.Time g) (λ es. refl) (λ rs. refl) gs
  call-reads (func.Dynamic g) gs = plain-reads (func.Dynamic g) (λ es. refl) (λ rs. refl) gs
  call-reads (func.Pattern g) gs = pattern-reads g (map bare gs)

  chain-reads : (first : Given) (gs : List (ChainSign × Given)) → Reads (V.Chain first.0 (map bare_link gs))
  chain-reads first gs a b h =
      let links = map bare_link gs in
      let l = and_parts (calls_are_lent lent first.0) (links_lent lent links) (sym (lent-Chain lent first.0 links) ∙ a) in
      let r = and_parts (is_readable marks first.0) (links_readable marks links) (sym (readable-Chain marks first.0 links) ∙ b) in
      let k : Answers (calls first.0 ++ calls_in_links links) = subst Answers (calls-Chain first.0 links) h in
      let one = first.1 l.0 r.0 (λ c m. k c (member-left (calls first.0) (calls_in_links links) c m)) in
      let all = links-same gs l.1 r.1 (λ c m. k c (member-right (calls first.0) (calls_in_links links) c m)) in
      let rs = map (told_link told) links in
      let lifts = map (lifted_link marks) links in
      let qs = map {B = ChainSign × Reading} (λ (x : ChainSign × BExpr). (x.0, reading x.1)) lifts in
      by (V.Chain first.0 links) (V.Chain (lifted marks first.0) lifts) (reading_step (BExpr-F.Chain (told_reading told first.0) rs)) (reading_step (BExpr-F.Chain (reading (lifted marks first.0)) qs))
      (told-Chain told first.0 links) (lifts-Chain marks first.0 links) (reading-Chain (lifted marks first.0) lifts)
      (record { type = ap₂ chain_kind one.type (link-kinds-same t u rs qs all); at = λ i lt s. ap₂ chain_value (one.at i lt s) (link-values-same t u rs qs all i lt s) })

  path-reads : (whole : Given) (gs : List Given) → Reads (V.Path whole.0 (map bare gs))
  path-reads whole gs a b h =
      let steps = map bare gs in
      let l = and_parts (calls_are_lent lent whole.0) (list_all (calls_are_lent lent) steps) (sym (lent-Path lent whole.0 steps) ∙ a) in
      let r = and_parts (is_readable marks whole.0) (list_all (is_readable marks) steps) (sym (readable-Path marks whole.0 steps) ∙ b) in
      let k : Answers (calls whole.0 ++ calls_in steps) = subst Answers (calls-Path whole.0 steps) h in
      let one = whole.1 l.0 r.0 (λ c m. k c (member-left (calls whole.0) (calls_in steps) c m)) in
      let all = args-same gs l.1 r.1 (λ c m. k c (member-right (calls whole.0) (calls_in steps) c m)) in
      let rs = map (told_reading told) steps in
      let qs = map reading (map (lifted marks) steps) in
      by (V.Path whole.0 steps) (V.Path (lifted marks whole.0) (map (lifted marks) steps)) (reading_step (BExpr-F.Path (told_reading told whole.0) rs)) (reading_step (BExpr-F.Path (reading (lifted marks whole.0)) qs))
      (told-Path told whole.0 steps) (lifts-Path marks whole.0 steps) (reading-Path (lifted marks whole.0) (map (lifted marks) steps))
      (record { type = ap₂ path_kind one.type (kinds-same t u rs qs all); at = λ i lt s. ap₂ path_value (one.at i lt s) (values-same t u rs qs all i lt s) })

  window-reads : (f : Window) (gs : List Given) → Reads (V.Window f (map bare gs))
  window-reads f gs a b h =
      let args = map bare gs in
      let all = args-same gs (sym (lent-Window lent f args) ∙ a) (sym (readable-Window marks f args) ∙ b) (subst Answers (calls-Window f args) h) in
      let rs = map (told_reading told) args in
      let qs = map reading (map (lifted marks) args) in
      by (V.Window f args) (V.Window f (map (lifted marks) args)) (reading_step (BExpr-F.Window f rs)) (reading_step (BExpr-F.Window f qs)) (told-Window told f args) (lifts-Window marks f args) (reading-Window f (map (lifted marks) args))
      (record { type = ap (window_kind f) (kinds-same t u rs qs all); at = λ i lt s. windowed-same f t u beside.rows rs qs all i lt s })

  aggregate-reads : (f : Aggregate) (args : List BExpr) → Reads (V.Aggregate f args)
  aggregate-reads f args a b h = let no : false ≡ true = sym (readable-Aggregate marks f args) ∙ b in absurd cc

  of-layer : (y : BExpr-F Given) → Reads (roll-BExpr (map-BExpr Given BExpr bare y))
  of-layer (BExpr-F.Literal l) = subst Reads (sym (V.rolls-Literal l)) (literal-reads l)
  of-layer (BExpr-F.Column n) = subst Reads (sym (V.rolls-Column n)) (column-reads n)
  of-layer (BExpr-F.Step c) = subst Reads (sym (V.rolls-Step c)) (step-reads c)
  of-layer (BExpr-F.Call f gs) = subst Reads (sym (V.rolls-Call f (map bare gs))) (call-reads f gs)
  of-layer (BExpr-F.Chain first gs) = subst Reads (sym (V.rolls-Chain first.0 (map bare_link gs))) (chain-reads first gs)
  of-layer (BExpr-F.Path whole gs) = subst Reads (sym (V.rolls-Path whole.0 (map bare gs))) (path-reads whole gs)
  of-layer (BExpr-F.Window f gs) = subst Reads (sym (V.rolls-Window f (map bare gs))) (window-reads f gs)
  of-layer (BExpr-F.Aggregate f gs) = subst Reads (sym (V.rolls-Aggregate f (map bare gs))) (aggregate-reads f (map bare gs))

  pub lifted-reads : (e : BExpr) → Reads e
  lifted-reads = ind-BExpr Reads (λ x y is. subst (λ (z : BExpr-F BExpr). Reads (roll-BExpr z)) is (of-layer y))

pub lifted_reads : LiftedReads
unfolding kind_of val told_val
lifted_reads told marks lent t u e beside a b h =
    let same = lifted-reads told marks lent t u beside e a b (λ c m l. h c (contains-member (calls e) c m) l) in
    (same.type, λ i lt s. same.at i lt s)
