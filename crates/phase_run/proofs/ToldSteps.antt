-- What phases tell, one after another.
use Rattle.std.proofs.Common.{◌≡◌, ◌≤◌, ◌<◌, ◌+◌, ◌-◌, ◌||◌, ℕ, zero, suc, Bool, true, false, List, [], ◌∷◌, ◌++◌, drop, get_or, length, nat_lt, replicate, reverse, take, refl, ap, ap₂, sym, ◌∙◌, subst, arith}
use Rattle.std.specs.Prelude.{All, Err, Ok, OnOk, Result, Some, slice_range}
use Rattle.std.specs.List.{list_any}
use Rattle.std.proofs.lemmas.List.{append-nil, append_assoc, get_or-drop, length-append, length-drop, length-reverse, reverse-append, map-append, take_more}
use Rattle.std.proofs.lemmas.List.Elements.{All-append, All-cons, All-head, All-nil, All-pop, All-tail}
use Rattle.kql_bound.specs.declared.expr.WinCall.{WinCall}
use Rattle.kql_bound.specs.declared.parts.BItem.{BItem}
use Rattle.kql_bound.specs.declared.plan.Op.{Op}
use Rattle.kql_bound.specs.declared.plan.Op.TheVariants as V
use Rattle.kql_bound.specs.declared.plan.Plan.{Plan}
use Rattle.kql_bound.specs.declared.plan.Program.{Program}
use Rattle.phase_forms.specs.Held.{holds_plan}
use Rattle.phase_forms.specs.Phases.{alone_if, first_rounds, ops_phases, part_of, phases_from, plan_phases, plans_phases, program_phases, rounds_for, told}
use Rattle.phase_forms.specs.declared.ahead.Form.{Form}
use Rattle.phase_forms.proofs.FormLaws.{form-Join, form-Union, rounds-Extend, rounds-Join, rounds-MakeSeries, rounds-Partition, rounds-Project, rounds-Summarize, rounds-Top}
use Rattle.phase_forms.proofs.PhaseLaws.{held-phases, inner-Join, inner-Union, inner-none, plan-ops}
use Rattle.phase_pieces.specs.Reports.{IsWholeFor}
use Rattle.phase_windows.specs.Rounds.{rounds_for as count_for}
use Rattle.window_ops.specs.Calls.{calls_of_items}
use Rattle.worker_board.specs.Views.{WholeClaims}
use Rattle.phase_run.proofs.RunSteps.{run-to-end, run-to-one}
use Rattle.phase_run.specs.Reports.{PhasesSeen, Tells, are_many, in_pieces, shape_of}
use Rattle.phase_run.specs.declared.report.PhaseReport.{PhaseReport}

-- Of what is to be told in all, this is left.
pub record Telling (old now : PhasesSeen) (all left : Bool → List Bool) : Type 0 where
  pub workers : now.workers ≡ old.workers
  pub rest : shape_of now.report ++ left (are_many old) ≡ shape_of old.report ++ all (are_many old)

pub begins : (p : PhasesSeen) (all : Bool → List Bool) → Telling p p all all
begins p all = record { workers = refl; rest = refl }

pub tells-next : (old now new : PhasesSeen) (all left more rest : Bool → List Bool) → Telling old now all left → Tells now new more → left (are_many now) ≡ more (are_many now) ++ rest (are_many now) → Telling old new all rest
tells-next old now new all left more rest t s split =
    let same : are_many now ≡ are_many old = ap (nat_lt 1) t.workers in record {
      workers = s.workers ∙ t.workers;
      rest = ap (λ (m : Bool). shape_of new.report ++ rest m) (sym same)
          ∙ (ap (λ (xs : List Bool). xs ++ rest (are_many now)) s.told
          ∙ (append_assoc (shape_of now.report) (more (are_many now)) (rest (are_many now))
          ∙ (ap (λ (xs : List Bool). shape_of now.report ++ xs) (sym split)
          ∙ (ap (λ (m : Bool). shape_of now.report ++ left m) same ∙ t.rest))));
    }

pub ends : (old now : PhasesSeen) (all left : Bool → List Bool) → Telling old now all left → left (are_many old) ≡ [] → Tells old now all
ends old now all left t none = record {
  workers = t.workers;
  told = sym (ap (λ (xs : List Bool). shape_of now.report ++ xs) none ∙ append-nil (shape_of now.report)) ∙ t.rest;
}

pub all-told : (old now new : PhasesSeen) (all left : Bool → List Bool) → Telling old now all left → Tells now new left → Tells old new all
all-told old now new all left t s =
    ends old new all (λ (m : Bool). []) (tells-next old now new all left left (λ (m : Bool). []) t s (sym (append-nil (left (are_many now))))) refl

pub twice : (old now new : PhasesSeen) (f g : Bool → List Bool) → Tells old now f → Tells now new g → Tells old new (λ m. f m ++ g m)
twice old now new f g a b =
    all-told old now new (λ m. f m ++ g m) g (tells-next old old now (λ m. f m ++ g m) (λ m. f m ++ g m) f g (begins old (λ m. f m ++ g m)) a refl) b

pub told-as : (old new : PhasesSeen) (f g : Bool → List Bool) → Tells old new f → ((m : Bool) → f m ≡ g m) → Tells old new g
told-as old new f g t same = record { workers = t.workers; told = t.told ∙ ap (λ (xs : List Bool). shape_of old.report ++ xs) (same (are_many old)) }

pub one-told : (old new : PhasesSeen) (r : PhaseReport) (b : Bool) → in_pieces r ≡ b → new.workers ≡ old.workers → new.report ≡ old.report ++ r ∷ [] → Tells old new (λ m. b ∷ [])
one-told old new r b is workers added = record {
  workers = workers;
  told = ap shape_of added ∙ (map-append in_pieces old.report (r ∷ []) ∙ ap (λ (c : Bool). shape_of old.report ++ c ∷ []) is);
}

pub none-told : (p : PhasesSeen) → Tells p p (λ m. [])
none-told p = record { workers = refl; told = sym (append-nil (shape_of p.report)) }

-- Where want of memory may stand in place of what is told.

pub always : {T E : Type 0} (r : Result T E) (P : Type 0) → P → OnOk r P
always (Ok v) P p = p
always (Err e) P p = tt

pub along : {T E : Type 0} (r : Result T E) (P Q : Type 0) → (P → Q) → OnOk r P → OnOk r Q
along (Ok v) P Q f p = f p
along (Err e) P Q f p = tt

-- Operators that hold no plan.

abbrev pub HoldNone : List Op → Type 0
HoldNone ops = list_any holds_plan ops ≡ false

or-false : (a b : Bool) → (a || b) ≡ false → (a ≡ false) × (b ≡ false)
or-false false b h = (refl, h)
or-false true b h = absurd cc

pub none-first : (o : Op) (os : List Op) → HoldNone (o ∷ os) → (holds_plan o ≡ false) × HoldNone os
none-first o os h = or-false (holds_plan o) (list_any holds_plan os) h

pub none-behind : (n : ℕ) (ops : List Op) → HoldNone ops → HoldNone (drop n ops)
none-behind zero ops h = h
none-behind (suc n) [] h = refl
none-behind (suc n) (o ∷ os) h = none-behind n os (none-first o os h).1

none-more : (xs : List Op) (o : Op) → HoldNone xs → holds_plan o ≡ false → HoldNone (xs ++ o ∷ [])
none-more [] o h n = ap (λ (b : Bool). b || false) n
none-more (x ∷ xs) o h n =
    let parts = none-first x xs h in
    ap₂ (λ (a b : Bool). a || b) parts.0 (none-more xs o parts.1 n)

-- The phases of operators.

pub nothing-told : (m : Bool) (ops : List Op) → ops ≡ [] → ops_phases m ops ≡ []
unfolding phases_from
nothing-told m ops is = ap (ops_phases m) is

-- The next phase, and those behind it.

rounds-first : (m : Bool) (o : Op) (more : List Op) (n : ℕ) → 0 < n → first_rounds m (take n (o ∷ more)) ≡ (part_of m o).rounds
rounds-first m o more zero some = absurd (omega arith)
rounds-first m o more (suc n) some = refl

pub next-split : (left more phase behind : List Op) (o : Op) (n w v : ℕ) (f : Form) → left ≡ o ∷ more → phase ≡ take n left → behind ≡ drop n left → 0 < n → v ≡ w → HoldNone left → ops_phases (nat_lt 1 v) (o ∷ more) ≡ (part_of (nat_lt 1 v) o).inner ++ (told f (part_of (nat_lt 1 v) o).rounds ++ ops_phases (nat_lt 1 v) (drop n (o ∷ more))) → ops_phases (nat_lt 1 w) left ≡ told f (first_rounds (nat_lt 1 w) phase) ++ ops_phases (nat_lt 1 w) behind
next-split left more phase behind o n w v f is front rest some same h next =
    let m = nat_lt 1 v in
    let none = inner-none m o (none-first o more (subst HoldNone is h)).0 in
    let rounds : (part_of m o).rounds ≡ first_rounds m phase = sym (ap (first_rounds m) (front ∙ ap (take n) is) ∙ rounds-first m o more n some) in
    let here : ops_phases m left ≡ told f (first_rounds m phase) ++ ops_phases m behind =
    ap (ops_phases m) is
    ∙ (next
    ∙ (ap (λ (xs : List Bool). xs ++ (told f (part_of m o).rounds ++ ops_phases m (drop n (o ∷ more)))) none
    ∙ (ap (λ (rs : List Bool). told f rs ++ ops_phases m (drop n (o ∷ more))) rounds
    ∙ ap (λ (os : List Op). told f (first_rounds m phase) ++ ops_phases m os) (sym (rest ∙ ap (drop n) is))))) in
    subst (λ (k : ℕ). ops_phases (nat_lt 1 k) left ≡ told f (first_rounds (nat_lt 1 k) phase) ++ ops_phases (nat_lt 1 k) behind) same here

pub none-after : (left behind : List Op) (n : ℕ) → behind ≡ drop n left → HoldNone left → HoldNone behind
none-after left behind n rest h = subst HoldNone (sym rest) (none-behind n left h)

-- The plans in an operator, and then its own phase.

pub join-told : (old now new : PhasesSeen) (o : Op) (j : _) (right : Plan) → o ≡ V.Join j right → Tells old now (λ m. plan_phases m right) → Tells now new (λ m. told (alone_if m) (true ∷ [])) → Tells old new (λ m. (part_of m o).inner ++ told (part_of m o).form (part_of m o).rounds)
join-told old now new o j right is a b =
    told-as old new (λ m. plan_phases m right ++ told (alone_if m) (true ∷ [])) (λ m. (part_of m o).inner ++ told (part_of m o).form (part_of m o).rounds) (twice old now new (λ m. plan_phases m right) (λ m. told (alone_if m) (true ∷ [])) a b)
    (λ m. ap₂ (λ (xs ys : List Bool). xs ++ ys) (sym (ap (λ (p : Op). (part_of m p).inner) is ∙ inner-Join m j right))
    (ap₂ told (sym (ap (λ (p : Op). (part_of m p).form) is ∙ form-Join m j right)) (sym (ap (λ (p : Op). (part_of m p).rounds) is ∙ rounds-Join m j right))))

pub union-told : (old now new : PhasesSeen) (o : Op) (inner : Bool) (others seen : List Plan) → o ≡ V.Union inner others → seen ≡ others → Tells old now (λ m. plans_phases m seen) → Tells now new (λ m. false ∷ []) → Tells old new (λ m. (part_of m o).inner ++ told (part_of m o).form (part_of m o).rounds)
union-told old now new o inner others seen is same a b =
    told-as old new (λ m. plans_phases m seen ++ false ∷ []) (λ m. (part_of m o).inner ++ told (part_of m o).form (part_of m o).rounds) (twice old now new (λ m. plans_phases m seen) (λ m. false ∷ []) a b)
    (λ m. ap₂ (λ (xs ys : List Bool). xs ++ ys) (sym (ap (λ (p : Op). (part_of m p).inner) is ∙ (inner-Union m inner others ∙ ap (plans_phases m) (sym same))))
    (sym (ap (λ (f : Form). told f (part_of m o).rounds) (ap (λ (p : Op). (part_of m p).form) is ∙ form-Union m inner others))))

-- An operator that goes by pieces of its own.

pub top-told : (old new : PhasesSeen) (o : Op) (n : ℕ) (keys : _) → o ≡ V.Top n keys → Tells old new (λ m. true ∷ []) → Tells old new (λ m. (part_of m o).rounds)
top-told old new o n keys is t = told-as old new (λ m. true ∷ []) (λ m. (part_of m o).rounds) t (λ m. sym (ap (λ (p : Op). (part_of m p).rounds) is ∙ rounds-Top m n keys))

pub groups-told : (old new : PhasesSeen) (o : Op) (g : _) → o ≡ V.Summarize g → Tells old new (λ m. true ∷ []) → Tells old new (λ m. (part_of m o).rounds)
groups-told old new o g is t = told-as old new (λ m. true ∷ []) (λ m. (part_of m o).rounds) t (λ m. sym (ap (λ (p : Op). (part_of m p).rounds) is ∙ rounds-Summarize m g))

pub series-told : (old new : PhasesSeen) (o : Op) (s : _) → o ≡ V.MakeSeries s → Tells old new (λ m. true ∷ []) → Tells old new (λ m. (part_of m o).rounds)
series-told old new o s is t = told-as old new (λ m. true ∷ []) (λ m. (part_of m o).rounds) t (λ m. sym (ap (λ (p : Op). (part_of m p).rounds) is ∙ rounds-MakeSeries m s))

pub partition-told : (old new : PhasesSeen) (o : Op) (key : _) (ops : List Op) → o ≡ V.Partition key ops → Tells old new (λ m. true ∷ []) → Tells old new (λ m. (part_of m o).rounds)
partition-told old new o key ops is t = told-as old new (λ m. true ∷ []) (λ m. (part_of m o).rounds) t (λ m. sym (ap (λ (p : Op). (part_of m p).rounds) is ∙ rounds-Partition m key ops))

pub extend-told : (old new : PhasesSeen) (o : Op) (items seen : List BItem) → o ≡ V.Extend items → seen ≡ items → Tells old new (λ m. rounds_for (calls_of_items seen)) → Tells old new (λ m. (part_of m o).rounds)
extend-told old new o items seen is same t = told-as old new (λ m. rounds_for (calls_of_items seen)) (λ m. (part_of m o).rounds) t (λ m. ap (λ (xs : List BItem). rounds_for (calls_of_items xs)) same ∙ sym (ap (λ (p : Op). (part_of m p).rounds) is ∙ rounds-Extend m items))

pub project-told : (old new : PhasesSeen) (o : Op) (items seen : List BItem) → o ≡ V.Project items → seen ≡ items → Tells old new (λ m. rounds_for (calls_of_items seen)) → Tells old new (λ m. (part_of m o).rounds)
project-told old new o items seen is same t = told-as old new (λ m. rounds_for (calls_of_items seen)) (λ m. (part_of m o).rounds) t (λ m. ap (λ (xs : List BItem). rounds_for (calls_of_items xs)) same ∙ sym (ap (λ (p : Op). (part_of m p).rounds) is ∙ rounds-Project m items))

-- Rounds.

each-round : (ws : List WinCall) (n : ℕ) → n ≡ count_for ws → replicate n true ≡ rounds_for ws
unfolding rounds_for count_for
each-round [] n is = ap (λ (k : ℕ). replicate k true) is
each-round (w ∷ ws) n is = ap (λ (k : ℕ). replicate k true) is

pub rounds-told : (old new : PhasesSeen) (items : List BItem) (n : ℕ) → n ≡ count_for (calls_of_items items) → Tells old new (λ m. replicate n true) → Tells old new (λ m. rounds_for (calls_of_items items))
rounds-told old new items n is t = told-as old new (λ m. replicate n true) (λ m. rounds_for (calls_of_items items)) t (λ m. each-round (calls_of_items items) n is)

turned : {X : Type 0} (P : X → Type 0) (xs : List X) → All P xs → All P (reverse xs)
turned P [] h = h
turned P (x ∷ xs) h = subst (All P) (sym (reverse-append (x ∷ []) xs)) (All-append P (reverse xs) (x ∷ []) (turned P xs (All-tail P x xs h)) (All-cons P x [] (All-head P x xs h) (All-nil P)))

pub all-turned : (n : ℕ) (gs ls : List WholeClaims) → ls ≡ reverse gs → All (IsWholeFor n) gs → All (IsWholeFor n) ls
all-turned n gs ls is h = subst (All (IsWholeFor n)) (sym is) (turned (IsWholeFor n) gs h)

pub rounds-begin : (p : PhasesSeen) (gs ls : List WholeClaims) → ls ≡ reverse gs → Telling p p (λ m. replicate (length gs) true) (λ m. replicate (length ls) true)
rounds-begin p gs ls is = record {
  workers = refl;
  rest = ap (λ (k : ℕ). shape_of p.report ++ replicate k true) (ap length is ∙ length-reverse gs);
}

pub one-whole : (n : ℕ) (g : WholeClaims) (ls rest : List WholeClaims) → ls ≡ rest ++ g ∷ [] → All (IsWholeFor n) ls → All (IsWholeFor n) rest × IsWholeFor n g
one-whole n g ls rest is h = All-pop (IsWholeFor n) ls rest (Some g) is h

pub rounds-next : (old now new : PhasesSeen) (all : Bool → List Bool) (g : WholeClaims) (ls rest : List WholeClaims) → ls ≡ rest ++ g ∷ [] → Telling old now all (λ m. replicate (length ls) true) → Tells now new (λ m. true ∷ []) → Telling old new all (λ m. replicate (length rest) true)
rounds-next old now new all g ls rest is t a =
    let long : length ls ≡ suc (length rest) = ap length is ∙ (length-append rest (g ∷ []) ∙ omega arith) in
    tells-next old now new all (λ m. replicate (length ls) true) (λ m. true ∷ []) (λ m. replicate (length rest) true) t a (ap (λ (k : ℕ). replicate k true) long)

pub rounds-done : (old now : PhasesSeen) (all : Bool → List Bool) (ls : List WholeClaims) → ls ≡ [] → Telling old now all (λ m. replicate (length ls) true) → Tells old now all
rounds-done old now all ls none t = ends old now all (λ m. replicate (length ls) true) t (ap (λ (gs : List WholeClaims). replicate (length gs) true) none)

pub plan-told : (old new : PhasesSeen) (p : Plan) (ops : List Op) → ops ≡ p.ops → Tells old new (λ m. ops_phases m ops) → Tells old new (λ m. plan_phases m p)
plan-told old new p ops is t = told-as old new (λ m. ops_phases m ops) (λ m. plan_phases m p) t (λ m. ap (ops_phases m) is ∙ sym (plan-ops m p))

-- Past an operator that holds plans, and past one that does not.

pub held-told : (old now mid new : PhasesSeen) (all : Bool → List Bool) (ops : List Op) (begun at next : ℕ) (o : Op) → begun ≤ at → at < length ops → o ≡ get_or ops at o → holds_plan o ≡ true → next ≡ at + 1 → Telling old now all (λ m. ops_phases m (drop begun ops)) → Tells now mid (λ m. ops_phases m (slice_range ops begun at)) → Tells mid new (λ m. (part_of m o).inner ++ told (part_of m o).form (part_of m o).rounds) → Telling old new all (λ m. ops_phases m (drop next ops))
held-told old now mid new all ops begun at next o le lt is held up t a b =
    let run = slice_range ops begun at in
    let m = are_many now in
    let parts = (part_of m o).inner ++ told (part_of m o).form (part_of m o).rounds in
    let rest = ops_phases m (drop (at + 1) ops) in
    tells-next old now new all (λ m. ops_phases m (drop begun ops)) (λ m. ops_phases m run ++ ((part_of m o).inner ++ told (part_of m o).form (part_of m o).rounds)) (λ m. ops_phases m (drop next ops)) t
    (twice now mid new (λ m. ops_phases m run) (λ m. (part_of m o).inner ++ told (part_of m o).form (part_of m o).rounds) a b)
    (ap (ops_phases m) (run-to-one ops begun at o le lt is)
    ∙ (held-phases m run o (drop (at + 1) ops) held
    ∙ (ap (λ (xs : List Bool). ops_phases m run ++ xs) (sym (append_assoc (part_of m o).inner (told (part_of m o).form (part_of m o).rounds) rest))
    ∙ (sym (append_assoc (ops_phases m run) parts rest) ∙ ap (λ (k : ℕ). (ops_phases m run ++ parts) ++ ops_phases m (drop k ops)) (sym up)))))

pub kept-told : (old now new : PhasesSeen) (all : Bool → List Bool) (ops : List Op) (begun next : ℕ) → new ≡ now → next ≡ begun → Telling old now all (λ m. ops_phases m (drop begun ops)) → Telling old new all (λ m. ops_phases m (drop next ops))
kept-told old now new all ops begun next same up t =
    subst (λ (n : ℕ). Telling old new all (λ m. ops_phases m (drop n ops))) (sym up) (subst (λ (p : PhasesSeen). Telling old p all (λ m. ops_phases m (drop begun ops))) (sym same) t)

pub run-none : (ops : List Op) (next at : ℕ) → at ≤ next → HoldNone (slice_range ops next at)
run-none ops next at le = let none : at - next ≡ 0 = omega (arith, le) in ap (λ (k : ℕ). list_any holds_plan (take k (drop next ops))) none

run-longer : (ops : List Op) (begun at : ℕ) (o : Op) → begun ≤ at → at < length ops → o ≡ get_or ops at o → slice_range ops begun (at + 1) ≡ slice_range ops begun at ++ o ∷ []
run-longer ops begun at o le lt is =
    let k : (at + 1) - begun ≡ (at - begun) + 1 = omega (arith, le) in
    let long : at - begun < length (drop begun ops) = omega (arith, le, lt, length-drop begun ops) in
    let here : get_or (drop begun ops) (at - begun) o ≡ o = get_or-drop begun ops (at - begun) o ∙ (ap (λ (i : ℕ). get_or ops i o) (omega (arith, le)) ∙ sym is) in
    ap (λ (i : ℕ). take i (drop begun ops)) k ∙ (take_more (drop begun ops) (at - begun) o long ∙ ap (λ (p : Op). take (at - begun) (drop begun ops) ++ p ∷ []) here)

pub run-none-more : (ops : List Op) (begun at next : ℕ) (o : Op) → begun ≤ at → at < length ops → o ≡ get_or ops at o → holds_plan o ≡ false → next ≡ at + 1 → HoldNone (slice_range ops begun at) → HoldNone (slice_range ops begun next)
run-none-more ops begun at next o le lt is n up h =
    subst (λ (k : ℕ). HoldNone (slice_range ops begun k)) (sym up) (subst HoldNone (sym (run-longer ops begun at o le lt is)) (none-more (slice_range ops begun at) o h n))

pub last-none : (ops : List Op) (begun at : ℕ) → at ≡ length ops → HoldNone (slice_range ops begun at) → HoldNone (slice_range ops begun (length ops))
last-none ops begun at all h = subst (λ (k : ℕ). HoldNone (slice_range ops begun k)) all h

pub last-told : (old now new : PhasesSeen) (all : Bool → List Bool) (ops : List Op) (begun : ℕ) → Telling old now all (λ m. ops_phases m (drop begun ops)) → Tells now new (λ m. ops_phases m (slice_range ops begun (length ops))) → Tells old new all
last-told old now new all ops begun t a =
    all-told old now new all (λ m. ops_phases m (drop begun ops)) t (told-as now new (λ m. ops_phases m (slice_range ops begun (length ops))) (λ m. ops_phases m (drop begun ops)) a (λ m. ap (ops_phases m) (run-to-end ops begun)))

-- Plans, one after another.

pub plans-next : (old now new : PhasesSeen) (all : Bool → List Bool) (left : List Plan) (p : Plan) (ps : List Plan) → left ≡ p ∷ ps → Telling old now all (λ m. plans_phases m left) → Tells now new (λ m. plan_phases m p) → Telling old new all (λ m. plans_phases m ps)
plans-next old now new all left p ps is t a =
    tells-next old now new all (λ m. plans_phases m left) (λ m. plan_phases m p) (λ m. plans_phases m ps) t a (ap (plans_phases (are_many now)) is)

pub lets-next : (old now new : PhasesSeen) (all : Bool → List Bool) (left : List Plan) (p : Plan) (ps : List Plan) (main : Plan) → left ≡ p ∷ ps → Telling old now all (λ m. plans_phases m left ++ plan_phases m main) → Tells now new (λ m. plan_phases m p) → Telling old new all (λ m. plans_phases m ps ++ plan_phases m main)
lets-next old now new all left p ps main is t a =
    let m = are_many now in
    tells-next old now new all (λ m. plans_phases m left ++ plan_phases m main) (λ m. plan_phases m p) (λ m. plans_phases m ps ++ plan_phases m main) t a
    (ap (λ (qs : List Plan). plans_phases m qs ++ plan_phases m main) is ∙ append_assoc (plan_phases m p) (plans_phases m ps) (plan_phases m main))

pub main-told : (old now new : PhasesSeen) (all : Bool → List Bool) (left : List Plan) (main : Plan) → left ≡ [] → Telling old now all (λ m. plans_phases m left ++ plan_phases m main) → Tells now new (λ m. plan_phases m main) → Tells old new all
main-told old now new all left main none t a =
    all-told old now new all (λ m. plans_phases m left ++ plan_phases m main) t
    (told-as now new (λ m. plan_phases m main) (λ m. plans_phases m left ++ plan_phases m main) a (λ m. sym (ap (λ (qs : List Plan). plans_phases m qs ++ plan_phases m main) none)))

-- The phases of a program.
pub all-phases : (p : Program) (old new : PhasesSeen) (lets : List Plan) (n : ℕ) → lets ≡ p.lets → old.report ≡ [] → old.workers ≡ n → Tells old new (λ m. plans_phases m lets ++ plan_phases m p.main) → shape_of new.report ≡ program_phases (nat_lt 1 n) p
all-phases p old new lets n is none workers t =
    t.told
    ∙ (ap (λ (rs : List PhaseReport). shape_of rs ++ (plans_phases (are_many old) lets ++ plan_phases (are_many old) p.main)) none
    ∙ (ap (λ (k : ℕ). plans_phases (nat_lt 1 k) lets ++ plan_phases (nat_lt 1 k) p.main) workers
    ∙ ap (λ (ps : List Plan). plans_phases (nat_lt 1 n) ps ++ plan_phases (nat_lt 1 n) p.main) is))
