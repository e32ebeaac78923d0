-- Answers carried through steps.
use Rattle.std.proofs.Common.{◌≡◌, ◌<◌, ◌+◌, ℕ, List, [], ◌∷◌, ◌++◌, get_or, length, take, refl, sym, ◌∙◌, subst, ap}
use Rattle.std.specs.Prelude.{nat_lt, Bool, true, false, fold, Ok, Err}
use Rattle.kql_cells.specs.declared.schema.Column.{Column}
use Rattle.kql_bound.specs.declared.plan.Op.{Op}
use Rattle.kql_syntax.specs.declared.query.Item.{Item}
use Rattle.kql_lexer.specs.declared.place.Place.{Place}
use Rattle.bind_expr.specs.Outcome.{Answers, Outcome, ◌>>=◌}
use Rattle.bind_expr.specs.declared.fault.BindFault.{BindFault}
use Rattle.bind_expr.specs.declared.fault.BindFault.TheVariants as fault
use Rattle.std.proofs.lemmas.List.Sums.{fold_more}
use Rattle.bind_expr.proofs.AnswerFacts.{answers-along, goes_on, goes_under}
use Rattle.bind_expr.specs.declared.typed.Typed.{Typed}
use Rattle.bind_operators.specs.declared.bound.BoundOp.{BoundOp}
use Rattle.bind_operators.specs.declared.items.NamedItems.{NamedItems}
use Rattle.kql_meaning.specs.FittingOperators.{is_empty}
use Rattle.bind_operators.specs.Answers.{answer, made, over, width_faults}
use Rattle.bind_operators.specs.Faults.{each_bound, fault_if, unless, with_next}
use Rattle.bind_operators.specs.Items.{item_link, items_from, no_items, with_item}

-- A step over what was answered, and a fault that passes on.
pub goes_through : {X Y : Type 0} (r d : Outcome X) (x : X) (k : X → Outcome Y) (result : Outcome Y) → r ≡ Ok x → Answers r d → Answers result (k x) → Answers result (d >>= k)
goes_through r d x k result is a h =
    let there : Answers (Ok x) d = subst (λ s. Answers s d) is a in
    rw (there.holds) h

pub passes_on : {X Y : Type 0} (r d : Outcome X) (f : BindFault) (k : X → Outcome Y) → r ≡ Err f → Answers r d → Answers {X = Y} (Err f) (d >>= k)
passes_on r d (fault.Refused code place) k is a =
    let there : Answers (Err (fault.Refused code place)) d = subst (λ s. Answers s d) is a in
    record { holds = rw (there.holds) refl }
passes_on r d fault.OutOfMemory k is a = record { holds = tt }

-- The first of faults.
pub unless-none : {X : Type 0} (x : X) → unless [] x ≡ Ok x
unfolding unless
unless-none x = refl

pub unless-true : {X : Type 0} (b : Bool) (code : ℕ) (place : Place) (x : X) → b ≡ true → unless (fault_if b code place) x ≡ Err (fault.Refused code place)
unfolding unless fault_if
unless-true b code place x is = rw is refl

pub unless-false : {X : Type 0} (b : Bool) (code : ℕ) (place : Place) (x : X) → b ≡ false → unless (fault_if b code place) x ≡ Ok x
unfolding unless fault_if
unless-false b code place x is = rw is refl

-- What was made answers, and want of memory answers all.
pub made-same : {X : Type 0} (y x : X) → y ≡ x → Answers (Ok y) (Ok x)
made-same y x is = record { holds = ap (λ z. Ok z) (sym is) }

pub made-lost : {X : Type 0} (d : Outcome X) → Answers (Err fault.OutOfMemory) d
made-lost d = record { holds = tt }

pub ruleset made_steps = (made-same, made-lost)

-- A fault that is told, and one that is not.
pub told : {X : Type 0} (b : Bool) (code : ℕ) (place : Place) (x : X) → b ≡ true → Answers (Err (fault.Refused code place)) (unless (fault_if b code place) x)
unfolding unless fault_if
told b code place x is = rw is (record { holds = refl })

pub not-told : {X : Type 0} (b : Bool) (code : ℕ) (place : Place) (x : X) (result : Outcome X) → b ≡ false → Answers result (Ok x) → Answers result (unless (fault_if b code place) x)
unfolding unless fault_if
not-told b code place x result is h = rw is h

-- Parts from left to right.
pub each-start : {X Y : Type 0} (f : X → Outcome Y) (done : List Y) → done ≡ [] → Answers (Ok done) (each_bound f [])
unfolding each_bound
each-start f done is = record { holds = ap (λ ys. Ok ys) (sym is) }

pub each-turn : {X Y : Type 0} (f : X → Outcome Y) (xs : List X) (i : ℕ) (d : X) (before : Outcome (List Y)) (next : Outcome Y) (result : Outcome (List Y)) → i < length xs → Answers before (each_bound f (take i xs)) → Answers next (f (get_or xs i d)) → Answers result (with_next before next) → Answers result (each_bound f (take (i + 1) xs))
unfolding each_bound
each-turn {Y = Y} f xs i d before next result l a b h =
    let first : Outcome (List Y) = each_bound f (take i xs) in
    let one = goes_on before first (λ ys. next >>= λ y. Ok (ys ++ y ∷ [])) result a h in
    let two = goes_under first next (f (get_or xs i d)) (λ ys y. Ok (ys ++ y ∷ [])) result b one in
    answers-along result (with_next first (f (get_or xs i d))) (each_bound f (take (i + 1) xs)) two
    (sym (fold_more (λ before x. with_next before (f x)) (Ok []) xs i d l))

pub ruleset fault_steps = (told, not-told)

pub ruleset bind_steps = (goes_through, passes_on)

pub ruleset each_steps = (each-start, each-turn)

-- Items from left to right, by any step.
abbrev pub stepped : (NamedItems → Item → Typed → NamedItems) → Outcome NamedItems → Item → Outcome Typed → Outcome NamedItems
stepped step before item next = before >>= λ done. next >>= λ t. Ok (step done item t)

pub step-turn : (step : NamedItems → Item → Typed → NamedItems) (bind : Item → Outcome Typed) (start : Outcome NamedItems) (xs : List Item) (i : ℕ) (d : Item) (before : Outcome NamedItems) (next : Outcome Typed) (result : Outcome NamedItems) → i < length xs → Answers before (fold (λ before item. stepped step before item (bind item)) start (take i xs)) → Answers next (bind (get_or xs i d)) → Answers result (stepped step before (get_or xs i d) next) → Answers result (fold (λ before item. stepped step before item (bind item)) start (take (i + 1) xs))
step-turn step bind start xs i d before next result l a b h =
    let first : Outcome NamedItems = fold (λ before item. stepped step before item (bind item)) start (take i xs) in
    let item : Item = get_or xs i d in
    let one = goes_on before first (λ done. next >>= λ t. Ok (step done item t)) result a h in
    let two = goes_under first next (bind item) (λ done t. Ok (step done item t)) result b one in
    answers-along result (stepped step first item (bind item)) (fold (λ before item. stepped step before item (bind item)) start (take (i + 1) xs)) two
    (sym (fold_more (λ before item. stepped step before item (bind item)) start xs i d l))

pub items-start : (bind : Item → Outcome Typed) (n : ℕ) (done : NamedItems) → done ≡ no_items n → Answers (Ok done) (items_from bind n [])
unfolding items_from
items-start bind n done is = record { holds = ap (λ d. Ok d) (sym is) }

pub items-turn : (bind : Item → Outcome Typed) (n : ℕ) (xs : List Item) (i : ℕ) (d : Item) (before : Outcome NamedItems) (next : Outcome Typed) (result : Outcome NamedItems) → i < length xs → Answers before (items_from bind n (take i xs)) → Answers next (bind (get_or xs i d)) → Answers result (item_link before (get_or xs i d) next) → Answers result (items_from bind n (take (i + 1) xs))
unfolding items_from
items-turn bind n xs i d before next result l a b h = step-turn with_item bind (Ok (no_items n)) xs i d before next result l a b h

pub ruleset items_steps = (items-start, items-turn)

-- A value behind faults, once they are told of or not.
pub none-told : (fs : List BindFault) (r : Outcome (Unit {0})) → r ≡ Ok tt → Answers r (unless fs tt) → fs ≡ []
unfolding unless
none-told [] r is a = refl
none-told (f ∷ fs) r is a =
    let there : Answers (Ok tt) (unless (f ∷ fs) tt) = subst (λ s. Answers s (unless (f ∷ fs) tt)) is a in
    let e : Err f ≡ Ok tt = there.holds in
    cc

unless-front : {X : Type 0} (fs gs : List BindFault) (x : X) (f : BindFault) → unless {X = Unit {0}} fs tt ≡ Err f → unless (fs ++ gs) x ≡ Err f
unfolding unless
unless-front [] gs x f e = cc
unless-front (g ∷ fs) gs x f e = cc

unless-same : {X : Type 0} (fs : List BindFault) (x : X) (f : BindFault) → unless {X = Unit {0}} fs tt ≡ Err f → unless fs x ≡ Err f
unfolding unless
unless-same [] x f e = cc
unless-same (g ∷ fs) x f e = cc

pub behind-none : {X : Type 0} (fs gs : List BindFault) (x : X) (r : Outcome (Unit {0})) (result : Outcome X) → r ≡ Ok tt → Answers r (unless fs tt) → Answers result (unless gs x) → Answers result (unless (fs ++ gs) x)
behind-none fs gs x r result is a h = rw (none-told fs r is a) h

pub behind-fault : {X : Type 0} (fs gs : List BindFault) (x : X) (r : Outcome (Unit {0})) (f : BindFault) → r ≡ Err f → Answers r (unless fs tt) → Answers (Err f) (unless (fs ++ gs) x)
behind-fault fs gs x r (fault.Refused code place) is a =
    let there : Answers (Err (fault.Refused code place)) (unless fs tt) = subst (λ s. Answers s (unless fs tt)) is a in
    record { holds = unless-front fs gs x (fault.Refused code place) (there.holds) }
behind-fault fs gs x r fault.OutOfMemory is a = record { holds = tt }

pub last-none : {X : Type 0} (fs : List BindFault) (x : X) (r : Outcome (Unit {0})) (result : Outcome X) → r ≡ Ok tt → Answers r (unless fs tt) → Answers result (Ok x) → Answers result (unless fs x)
unfolding unless
last-none fs x r result is a h = rw (none-told fs r is a) h

pub last-fault : {X : Type 0} (fs : List BindFault) (x : X) (r : Outcome (Unit {0})) (f : BindFault) → r ≡ Err f → Answers r (unless fs tt) → Answers (Err f) (unless fs x)
last-fault fs x r (fault.Refused code place) is a =
    let there : Answers (Err (fault.Refused code place)) (unless fs tt) = subst (λ s. Answers s (unless fs tt)) is a in
    record { holds = unless-same fs x (fault.Refused code place) (there.holds) }
last-fault fs x r fault.OutOfMemory is a = record { holds = tt }

pub ruleset behind_steps = (behind-none, behind-fault, none-told)

pub ruleset last_steps = (last-none, last-fault)

-- An operator's answer, once its faults are told of or not.
pub after-none : (fs : List BindFault) (operator : Place) (o : Op) (columns : List Column) (serial : Bool) (r : Outcome (Unit {0})) (result : Outcome BoundOp) → r ≡ Ok tt → Answers r (unless fs tt) → Answers result (answer operator [] o columns serial) → Answers result (answer operator fs o columns serial)
unfolding answer
after-none fs operator o columns serial r result is a h = behind-none fs (width_faults operator columns) (made o columns serial) r result is a h

pub after-fault : (fs : List BindFault) (operator : Place) (o : Op) (columns : List Column) (serial : Bool) (r : Outcome (Unit {0})) (f : BindFault) → r ≡ Err f → Answers r (unless fs tt) → Answers (Err f) (answer operator fs o columns serial)
unfolding answer
after-fault fs operator o columns serial r f is a = behind-fault fs (width_faults operator columns) (made o columns serial) r f is a

pub ruleset after_steps = (after-none, after-fault, none-told)

-- The faults of a width.
pub too-many : (operator : Place) (columns : List Column) (many : Bool) → many ≡ nat_lt 256 (length columns) → many ≡ true → Answers {X = Unit {0}} (Err (fault.Refused 412 operator)) (unless (width_faults operator columns) tt)
unfolding width_faults unless fault_if
too-many operator columns many is e =
    let f : nat_lt 256 (length columns) ≡ true = sym is ∙ e in
    rw f (record { holds = refl })

pub no-columns : (operator : Place) (columns : List Column) (many empty : Bool) → many ≡ nat_lt 256 (length columns) → many ≡ false → empty ≡ is_empty columns → empty ≡ true → Answers {X = Unit {0}} (Err (fault.Refused 419 operator)) (unless (width_faults operator columns) tt)
unfolding width_faults unless fault_if
no-columns operator columns many empty is e at z =
    let f : nat_lt 256 (length columns) ≡ false = sym is ∙ e in
    let g : is_empty columns ≡ true = sym at ∙ z in
    rw f (rw g (record { holds = refl }))

pub some-columns : (operator : Place) (columns : List Column) (many empty : Bool) → many ≡ nat_lt 256 (length columns) → many ≡ false → empty ≡ is_empty columns → empty ≡ false → Answers {X = Unit {0}} (Ok tt) (unless (width_faults operator columns) tt)
unfolding width_faults unless fault_if
some-columns operator columns many empty is e at z =
    let f : nat_lt 256 (length columns) ≡ false = sym is ∙ e in
    let g : is_empty columns ≡ false = sym at ∙ z in
    rw f (rw g (record { holds = refl }))

pub ruleset width_steps = (too-many, no-columns, some-columns)

-- An operator behind the faults of its width.
pub within : (operator : Place) (o : Op) (columns : List Column) (serial : Bool) (r : Outcome (Unit {0})) (result : Outcome BoundOp) → r ≡ Ok tt → Answers r (unless (width_faults operator columns) tt) → Answers result (Ok (over o (record { columns = columns; serial = serial; own = [] }))) → Answers result (answer operator [] o columns serial)
unfolding answer over made
within operator o columns serial r result is a h = last-none (width_faults operator columns) (made o columns serial) r result is a h

pub not-within : (operator : Place) (o : Op) (columns : List Column) (serial : Bool) (r : Outcome (Unit {0})) (f : BindFault) → r ≡ Err f → Answers r (unless (width_faults operator columns) tt) → Answers (Err f) (answer operator [] o columns serial)
unfolding answer
not-within operator o columns serial r f is a = last-fault (width_faults operator columns) (made o columns serial) r f is a

pub ruleset within_steps = (within, not-within)
