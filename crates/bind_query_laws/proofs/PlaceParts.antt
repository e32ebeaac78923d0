-- The parts of operators tell their faults at places that stand among those of a query: faults in lists, lists of parts, expressions, names,
-- columns, tables and items.
use Rattle.std.proofs.Common.{◌≡◌, ℕ, List, [], ◌∷◌, ◌++◌, length, map, refl, sym, subst, inl, inr}
use Rattle.std.specs.Prelude.{nat_lt, Bool, true, false, Option, None, Some, Ok, Err, bytes_eq, find, fold, if◌then◌else◌}
use Rattle.std.specs.List.{flat_map}
use Rattle.kql_cells.specs.declared.schema.Column.{Column}
use Rattle.kql_cells.specs.declared.value.Kind.{Kind}
use Rattle.kql_cells.specs.declared.value.Kind.TheVariants as kind
use Rattle.kql_bound.specs.declared.literal.Lit.{Lit}
use Rattle.kql_bound.specs.declared.plan.Op.{Op as BoundOperator}
use Rattle.kql_lexer.specs.declared.place.Place.{Place}
use Rattle.kql_meaning.proofs.MemberLaws.{Member, member-contains, member-left, member-right}
use Rattle.kql_meaning.specs.FittingOperators.{is_empty}
use Rattle.kql_meaning.specs.declared.position.Position.TheVariants as position
use Rattle.kql_syntax.specs.declared.query.Item.{Item}
use Rattle.kql_syntax.specs.declared.tree.Expr.{Expr}
use Rattle.kql_syntax.specs.declared.tree.Name.{Name}
use Rattle.kql_syntax.specs.declared.tree.Word.{Word}
use Rattle.bind_expr.specs.Bound.{bound_expr}
use Rattle.bind_expr.specs.Constants.{constant_of}
use Rattle.bind_expr.specs.Names.{name_bound, text_of}
use Rattle.bind_expr.specs.Outcome.{Outcome, ◌>>=◌}
use Rattle.bind_expr.specs.declared.fault.BindFault.{BindFault}
use Rattle.bind_expr.specs.declared.fault.BindFault.TheVariants as fault
use Rattle.bind_expr.specs.declared.scope.Scope.{Scope}
use Rattle.bind_expr.specs.declared.typed.Typed.{Typed}
use Rattle.bind_expr_laws.specs.Places.{Places, expr_places, name_place as name_at}
use Rattle.bind_expr_laws.proofs.PlaceLaws.{bound-placed}
use Rattle.bind_expr_laws.proofs.PlaceSteps.{ToldIn, Within, told-name, told-ok, told-one, told-then, told-wide}
use Rattle.bind_operators.specs.declared.bound.BoundPlan.{BoundPlan}
use Rattle.bind_operators.specs.declared.items.NamedItems.{NamedItems}
use Rattle.bind_operators.specs.declared.known.Known.{Known}
use Rattle.bind_operators.specs.declared.shape.Shape.{Shape}
use Rattle.bind_operators.specs.declared.wanted.Wanted.{Wanted}
use Rattle.bind_operators.specs.declared.wanted.Wanted.TheVariants as wanted
use Rattle.bind_operators.specs.Answers.{answer, made, width_faults}
use Rattle.bind_operators.specs.Faults.{each_bound, fault_if, unless}
use Rattle.bind_operators.specs.Items.{clash, item_in, items_bound, items_from, names_of_items, names_twice, no_items, twice, twice_items, with_item}
use Rattle.bind_operators.specs.Known.{column_or_fault, column_wanted, is_constant_name, or_no_table, scope_at, table_bound, table_named}
use Rattle.bind_operators.specs.Places.{expr_inside, expr_start, item_start, name_place, start_or}
use Rattle.bind_operators.specs.Wanted.{constant_bound, constant_wanted, kind_bound, kind_of_word, kind_or, kind_or_fault, literal_of_type, of_type, row_count_bound, takes, typed_bound}
use Rattle.bind_query_laws.specs.QueryPlaces.{item_places, items_places, named_places, names_places, one_place, word_places}
use Rattle.bind_query_laws.proofs.PlaceStarts.{inside-expr, name-same, start-expr}

-- Places among others.

pub in-head : (p : Place) (rs ps : Places) → Within (p ∷ rs) ps → Member p ps
in-head p rs ps w = w p (inl refl)

pub in-tail : (p : Place) (rs ps : Places) → Within (p ∷ rs) ps → Within rs ps
in-tail p rs ps w q m = w q (inr m)

pub in-left : (qs rs ps : Places) → Within (qs ++ rs) ps → Within qs ps
in-left qs rs ps w q m = w q (member-left qs rs q m)

pub in-right : (qs rs ps : Places) → Within (qs ++ rs) ps → Within rs ps
in-right qs rs ps w q m = w q (member-right qs rs q m)

pub in-none : (ps : Places) → Within [] ps
in-none ps q m = absurd m

pub in-cons : (p : Place) (rs ps : Places) → Member p ps → Within rs ps → Within (p ∷ rs) ps
in-cons p rs ps m w q (inl e) = subst (λ (x : Place). Member x ps) e m
in-cons p rs ps m w q (inr n) = w q n

pub in-both : (qs rs ps : Places) → Within qs ps → Within rs ps → Within (qs ++ rs) ps
in-both [] rs ps v w = w
in-both (p ∷ qs) rs ps v w = in-cons p (qs ++ rs) ps (v p (inl refl)) (in-both qs rs ps (λ q m. v q (inr m)) w)

-- Values, refusals, and steps.

pub told-at : {X : Type 0} (ps : Places) (code : ℕ) (place : Place) → Member place ps → ToldIn {X = X} ps (Err (fault.Refused code place))
told-at ps code place m = record { holds = m }

-- A value of which something holds, or a refusal at one of these places, or want of memory.
abbrev gives_in : {X : Type 0} → Places → (X → Type 0) → Outcome X → Type 0
gives_in ps Q (Ok x) = Q x
gives_in ps Q (Err (fault.Refused code place)) = Member place ps
gives_in ps Q (Err fault.OutOfMemory) = Unit {0}

pub record GivesIn {X : Type 0} (ps : Places) (Q : X → Type 0) (r : Outcome X) : Type 0 where
  pub holds : gives_in ps Q r

pub gives-told : {X : Type 0} (ps : Places) (Q : X → Type 0) (r : Outcome X) → GivesIn ps Q r → ToldIn ps r
gives-told ps Q (Ok x) h = record { holds = tt }
gives-told ps Q (Err (fault.Refused code place)) h = record { holds = h.holds }
gives-told ps Q (Err fault.OutOfMemory) h = record { holds = tt }

pub told-with : {X Y : Type 0} (ps : Places) (Q : X → Type 0) (r : Outcome X) (k : X → Outcome Y) → GivesIn ps Q r → ((x : X) → Q x → ToldIn ps (k x)) → ToldIn ps (r >>= k)
told-with ps Q (Ok x) k h t = t x h.holds
told-with ps Q (Err (fault.Refused code place)) k h t = record { holds = h.holds }
told-with ps Q (Err fault.OutOfMemory) k h t = record { holds = tt }

gives-with : {X Y : Type 0} (ps : Places) (Q : X → Type 0) (R : Y → Type 0) (r : Outcome X) (k : X → Outcome Y) → GivesIn ps Q r → ((x : X) → Q x → GivesIn ps R (k x)) → GivesIn ps R (r >>= k)
gives-with ps Q R (Ok x) k h t = t x h.holds
gives-with ps Q R (Err (fault.Refused code place)) k h t = record { holds = h.holds }
gives-with ps Q R (Err fault.OutOfMemory) k h t = record { holds = tt }

gives-then : {X Y : Type 0} (ps : Places) (R : Y → Type 0) (r : Outcome X) (k : X → Outcome Y) → ToldIn ps r → ((x : X) → GivesIn ps R (k x)) → GivesIn ps R (r >>= k)
gives-then ps R (Ok x) k h t = t x
gives-then ps R (Err (fault.Refused code place)) k h t = record { holds = h.holds }
gives-then ps R (Err fault.OutOfMemory) k h t = record { holds = tt }

-- Faults in a list.

abbrev is_placed : Places → BindFault → Type 0
is_placed ps (fault.Refused code place) = Member place ps
is_placed ps fault.OutOfMemory = Unit {0}

abbrev pub ArePlaced : Places → List BindFault → Type 0
ArePlaced ps [] = Unit {0}
ArePlaced ps (f ∷ fs) = is_placed ps f × ArePlaced ps fs

pub placed-append : (ps : Places) (fs gs : List BindFault) → ArePlaced ps fs → ArePlaced ps gs → ArePlaced ps (fs ++ gs)
placed-append ps [] gs h k = k
placed-append ps (f ∷ fs) gs h k = (h.0, placed-append ps fs gs h.1 k)

pub placed-if : (ps : Places) (b : Bool) (code : ℕ) (place : Place) → Member place ps → ArePlaced ps (fault_if b code place)
unfolding fault_if
placed-if ps true code place m = (m, tt)
placed-if ps false code place m = tt

told-first : {X : Type 0} (ps : Places) (f : BindFault) → is_placed ps f → ToldIn {X = X} ps (Err f)
told-first ps (fault.Refused code place) h = record { holds = h }
told-first ps fault.OutOfMemory h = record { holds = tt }

pub told-unless : {X : Type 0} (ps : Places) (fs : List BindFault) (x : X) → ArePlaced ps fs → ToldIn ps (unless fs x)
unfolding unless
told-unless ps [] x h = told-ok ps x
told-unless ps (f ∷ fs) x h = told-first ps f h.0

pub placed-width : (ps : Places) (operator : Place) (columns : List Column) → Member operator ps → ArePlaced ps (width_faults operator columns)
unfolding width_faults
placed-width ps operator columns o = placed-append ps (fault_if (nat_lt 256 (length columns)) 412 operator) (fault_if (is_empty columns) 419 operator) (placed-if ps (nat_lt 256 (length columns)) 412 operator o) (placed-if ps (is_empty columns) 419 operator o)

pub told-answer : (ps : Places) (operator : Place) (fs : List BindFault) (o : BoundOperator) (columns : List Column) (serial : Bool) → Member operator ps → ArePlaced ps fs → ToldIn ps (answer operator fs o columns serial)
unfolding answer
told-answer ps operator fs o columns serial m h = told-unless ps (fs ++ width_faults operator columns) (made o columns serial) (placed-append ps fs (width_faults operator columns) h (placed-width ps operator columns m))

pub placed-twice : (ps : Places) (before : List (List ℕ)) (places : List Place) (names : List (List (List ℕ))) → Within places ps → ArePlaced ps (twice before places names)
unfolding twice
placed-twice ps before [] names w = tt
placed-twice ps before (p ∷ qs) [] w = tt
placed-twice ps before (p ∷ qs) (n ∷ ns) w = placed-append ps (fault_if (clash before n) 411 p) (twice (before ++ n) qs ns) (placed-if ps (clash before n) 411 p (w p (inl refl))) (placed-twice ps (before ++ n) qs ns (λ q m. w q (inr m)))

-- Names one after another stand at their places.
names-in : (names : List Name) (ps : Places) → Within (names_places names) ps → Within (map name_place names) ps
names-in [] ps w q m = absurd m
names-in (n ∷ ns) ps w q (inl e) = w q (inl e)
names-in (n ∷ ns) ps w q (inr m) = names-in ns ps (λ r k. w r (inr k)) q m

pub placed-names : (ps : Places) (before : List (List ℕ)) (names : List Name) → Within (names_places names) ps → ArePlaced ps (names_twice before names)
unfolding names_twice
placed-names ps before names w = placed-twice ps before (map name_place names) (map (λ n. text_of n ∷ []) names) (names-in names ps w)

pub placed-items : (ps : Places) (done : NamedItems) → Within done.places ps → ArePlaced ps (twice_items done)
unfolding twice_items
placed-items ps done w = placed-twice ps [] done.places (names_of_items done.items) w

-- Lists of parts.

pub gives-fold : {L B X : Type 0} (ps : Places) (Q : B → Type 0) (f : L → B → X → Outcome B) (part : L → Outcome X) (places : L → Places) → ((l : L) → Within (places l) ps → ToldIn ps (part l)) → ((l : L) (b : B) (x : X) → Within (places l) ps → Q b → GivesIn ps Q (f l b x)) → (start : Outcome B) → GivesIn ps Q start → (ls : List L) → Within (flat_map places ls) ps → GivesIn ps Q (fold (λ (before : Outcome B) (l : L). before >>= λ b. part l >>= λ x. f l b x) start ls)
gives-fold ps Q f part places h t start s [] w = s
gives-fold {B = B} ps Q f part places h t start s (l ∷ ls) w =
    let own : Within (places l) ps = in-left (places l) (flat_map places ls) ps w in
    gives-fold ps Q f part places h t (start >>= λ b. part l >>= λ x. f l b x)
    (gives-with ps Q Q start (λ b. part l >>= λ x. f l b x) s (λ b q. gives-then ps Q (part l) (λ x. f l b x) (h l own) (λ x. t l b x own q))) ls (in-right (places l) (flat_map places ls) ps w)

pub told-each : {L X : Type 0} (ps : Places) (part : L → Outcome X) (places : L → Places) → ((l : L) → Within (places l) ps → ToldIn ps (part l)) → (ls : List L) → Within (flat_map places ls) ps → ToldIn ps (each_bound part ls)
unfolding each_bound
told-each {X = X} ps part places h ls w = gives-told ps (λ (xs : List X). Unit {0}) (each_bound part ls) (gives-fold ps (λ (xs : List X). Unit {0}) (λ l xs x. Ok (xs ++ x ∷ [])) part places h (λ l xs x v q. record { holds = tt }) (Ok []) (record { holds = tt }) ls w)

-- Expressions, names and types.

told-outcome : (e : Expr) (scope : Scope) (r : Outcome Typed) → bound_expr e scope ≡ r → ToldIn (expr_places e) r
told-outcome e scope (Ok x) is = record { holds = tt }
told-outcome e scope (Err (fault.Refused code place)) is = record { holds = member-contains (expr_places e) place (bound-placed e scope code place is) }
told-outcome e scope (Err fault.OutOfMemory) is = record { holds = tt }

pub told-expr : (ps : Places) (e : Expr) (scope : Scope) → Within (expr_places e) ps → ToldIn ps (bound_expr e scope)
told-expr ps e scope w = told-wide (expr_places e) ps (bound_expr e scope) w (told-outcome e scope (bound_expr e scope) refl)

pub start-in : (ps : Places) (e : Expr) → Within (expr_places e) ps → Member (expr_start e) ps
start-in ps e w = w (expr_start e) (start-expr e)

pub inside-in : (ps : Places) (e : Expr) → Within (expr_places e) ps → Member (expr_inside e) ps
inside-in ps e w = w (expr_inside e) (inside-expr e)

pub told-named : (ps : Places) (n : Name) (scope : Scope) → Member (name_place n) ps → ToldIn ps (name_bound n scope)
told-named ps n scope m = told-one (name_at n) ps (name_bound n scope) (subst (λ (p : Place). Member p ps) (sym (name-same n)) m) (told-name n scope)

told-if-typed : (ps : Places) (b : Bool) (place : Place) (t : Typed) → Member place ps → ToldIn ps (if b then Ok t else Err (fault.Refused 404 place))
told-if-typed ps true place t m = told-ok ps t
told-if-typed ps false place t m = told-at ps 404 place m

told-of-type : (ps : Places) (want : Wanted) (place : Place) (t : Typed) → Member place ps → ToldIn ps (of_type want place t)
unfolding of_type
told-of-type ps want place t m = told-if-typed ps (takes want t.kind) place t m

pub told-typed : (ps : Places) (want : Wanted) (e : Expr) (scope : Scope) → Within (expr_places e) ps → ToldIn ps (typed_bound want e scope)
unfolding typed_bound
told-typed ps want e scope w = told-then ps (bound_expr e scope) (λ t. of_type want (expr_start e) t) (told-expr ps e scope w) (λ t. told-of-type ps want (expr_start e) t (start-in ps e w))

told-if-literal : (ps : Places) (b : Bool) (place : Place) (l : Lit) → Member place ps → ToldIn ps (if b then Ok l else Err (fault.Refused 404 place))
told-if-literal ps true place l m = told-ok ps l
told-if-literal ps false place l m = told-at ps 404 place m

told-literal : (ps : Places) (operator : Place) (want : Wanted) (place : Place) (o : Option Lit) → Member operator ps → Member place ps → ToldIn ps (literal_of_type operator want place o)
told-literal ps operator want place None m n = told-at ps 403 operator m
told-literal ps operator want place (Some l) m n = told-if-literal ps (takes want l.kind) place l n

pub told-wanted : (ps : Places) (operator : Place) (want : Wanted) (place : Place) (t : Typed) → Member operator ps → Member place ps → ToldIn ps (constant_wanted operator want place t)
unfolding constant_wanted
told-wanted ps operator want place t m n = told-literal ps operator want place (constant_of t) m n

pub told-constant : (ps : Places) (operator : Place) (want : Wanted) (known : Known) (rows : Shape) (e : Expr) → Member operator ps → Within (expr_places e) ps → ToldIn ps (constant_bound operator want known rows e)
unfolding constant_bound
told-constant ps operator want known rows e m w = told-then ps (bound_expr e (scope_at known rows position.Constant)) (λ t. constant_wanted operator want (expr_start e) t) (told-expr ps e (scope_at known rows position.Constant) w) (λ t. told-wanted ps operator want (expr_start e) t m (start-in ps e w))

pub told-count : (ps : Places) (operator : Place) (known : Known) (rows : Shape) (e : Expr) → Member operator ps → Within (expr_places e) ps → ToldIn ps (row_count_bound operator known rows e)
unfolding row_count_bound
told-count ps operator known rows e m w = told-constant ps operator (wanted.Is kind.Long) known rows e m w

told-kind-as : (ps : Places) (place : Place) (o : Option Kind) → Member place ps → ToldIn ps (kind_or_fault place o)
told-kind-as ps place None m = told-at ps 405 place m
told-kind-as ps place (Some k) m = told-ok ps k

pub told-kind : (ps : Places) (x : Word) → Member x.place ps → ToldIn ps (kind_bound x)
unfolding kind_bound
told-kind ps x m = told-kind-as ps x.place (kind_of_word x.text) m

pub told-kind-or : (ps : Places) (k : Kind) (o : Option Word) → Within (word_places o) ps → ToldIn ps (kind_or k o)
told-kind-or ps k None w = told-ok ps k
told-kind-or ps k (Some x) w = told-kind ps x (w x.place (inl refl))

told-column-as : (ps : Places) (operator place : Place) (constant : Bool) (o : Option Column) → Member operator ps → Member place ps → ToldIn ps (column_or_fault operator place constant o)
told-column-as ps operator place constant (Some c) m n = told-ok ps c
told-column-as ps operator place true None m n = told-at ps 403 operator m
told-column-as ps operator place false None m n = told-at ps 401 place n

pub told-column : (ps : Places) (operator : Place) (known : Known) (columns : List Column) (n : Name) → Member operator ps → Within (one_place n) ps → ToldIn ps (column_wanted operator known columns n)
unfolding column_wanted
told-column ps operator known columns n m w = told-column-as ps operator (name_place n) (is_constant_name known.consts (text_of n)) (find (λ (c : Column). bytes_eq c.name (text_of n)) columns) m (w (name_place n) (inl refl))

told-table-as : (ps : Places) (place : Place) (o : Option BoundPlan) → Member place ps → ToldIn ps (or_no_table place o)
told-table-as ps place None m = told-at ps 410 place m
told-table-as ps place (Some p) m = told-ok ps p

pub told-table : (ps : Places) (known : Known) (n : Name) → Member (name_place n) ps → ToldIn ps (table_bound known n)
unfolding table_bound
told-table ps known n m = told-table-as ps (name_place n) (table_named known (text_of n)) m

-- Items.

start-or-in : (ps : Places) (o : Option Name) (e : Expr) → Within (named_places o ++ expr_places e) ps → Member (start_or o (expr_start e)) ps
start-or-in ps None e w = start-in ps e w
start-or-in ps (Some n) e w = w (name_place n) (inl refl)

pub item-start-in : (ps : Places) (item : Item) → Within (item_places item) ps → Member (item_start item) ps
unfolding item_start
item-start-in ps item w = start-or-in ps item.name item.value w

pub one-more : (qs : Places) (p : Place) (ps : Places) → Within qs ps → Member p ps → Within (qs ++ p ∷ []) ps
one-more qs p ps w m = in-both qs (p ∷ []) ps w (in-cons p [] ps m (in-none ps))

-- The places of items that are bound stand among these.
abbrev pub ItemsIn : Places → NamedItems → Type 0
ItemsIn ps done = Within done.places ps

pub given-items : (ps : Places) (bind : Item → Outcome Typed) → ((item : Item) → Within (item_places item) ps → ToldIn ps (bind item)) → (n : ℕ) (items : List Item) → Within (items_places items) ps → GivesIn ps (ItemsIn ps) (items_from bind n items)
unfolding items_from with_item no_items
given-items ps bind h n items w = gives-fold ps (ItemsIn ps) (λ item done t. Ok (with_item done item t)) bind item_places h (λ item done t v q. record { holds = one-more done.places (item_start item) ps q (item-start-in ps item v) }) (Ok (no_items n)) (record { holds = in-none ps }) items w

pub told-item : (ps : Places) (scope : Scope) (item : Item) → Within (item_places item) ps → ToldIn ps (item_in scope item)
unfolding item_in
told-item ps scope item w = told-expr ps item.value scope (in-right (named_places item.name) (expr_places item.value) ps w)

pub items-given : (ps : Places) (scope : Scope) (items : List Item) → Within (items_places items) ps → GivesIn ps (ItemsIn ps) (items_bound scope items)
unfolding items_bound
items-given ps scope items w = given-items ps (item_in scope) (told-item ps scope) 1 items w
