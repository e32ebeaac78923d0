-- The equations of the definition, one for each variant, and what each level answers.
use Rattle.std.proofs.Common.{◌≡◌, ◌<◌, ◌≤◌, ◌+◌, ◌-◌, ◌++◌, ℕ, zero, suc, List, [], ◌∷◌, drop, take, map, get_or, length, refl, sym, ap, ◌∙◌, subst, arith}
use Rattle.std.specs.Prelude.{Bool, true, false, Result, Ok, Err, Option, None, Some, fold}
use Rattle.std.proofs.lemmas.List.{take_all}
use Rattle.std.proofs.lemmas.List.Sums.{fold_more}
use Rattle.kql_cells.specs.declared.value.Kind.TheVariants as kind
use Rattle.kql_functions.specs.Find.{found_as}
use Rattle.kql_functions.specs.declared.func.Func.{Func}
use Rattle.kql_functions.specs.declared.func.LogicFunc.TheVariants as logic
use Rattle.kql_functions.specs.declared.names.Found.{Found}
use Rattle.kql_bound.specs.declared.expr.ChainSign.{ChainSign}
use Rattle.kql_lexer.specs.declared.place.Place.{Place}
use Rattle.kql_meaning.specs.declared.position.Position.{Position}
use Rattle.kql_syntax.specs.declared.tree.Access.{Access, para-roll-Access}
use Rattle.kql_syntax.specs.declared.tree.Access.TheOpen.{Access-F, And-F, Arg-F, Cmp-F, Expr-F, Post-F, Prod-F, Sign-F, Sum-F, Term-F}
use Rattle.kql_syntax.specs.declared.tree.Access.TheVariants as AccessV
use Rattle.kql_syntax.specs.declared.tree.And.{And, out-And, roll-out-And}
use Rattle.kql_syntax.specs.declared.tree.Arg.{Arg, para-roll-Arg}
use Rattle.kql_syntax.specs.declared.tree.Arg.TheVariants as ArgV
use Rattle.kql_syntax.specs.declared.tree.BetweenSign.{BetweenSign}
use Rattle.kql_syntax.specs.declared.tree.Cmp.{Cmp, para-roll-Cmp}
use Rattle.kql_syntax.specs.declared.tree.Cmp.TheVariants as CmpV
use Rattle.kql_syntax.specs.declared.tree.CompareSign.{CompareSign}
use Rattle.kql_syntax.specs.declared.tree.Expr.{Expr, out-Expr, roll-out-Expr}
use Rattle.kql_syntax.specs.declared.tree.InSign.{InSign}
use Rattle.kql_syntax.specs.declared.tree.Literal.{Literal}
use Rattle.kql_syntax.specs.declared.tree.Name.{Name}
use Rattle.kql_syntax.specs.declared.tree.Post.{Post, out-Post, roll-out-Post}
use Rattle.kql_syntax.specs.declared.tree.Prod.{Prod, out-Prod, roll-out-Prod}
use Rattle.kql_syntax.specs.declared.tree.ProdSign.{ProdSign}
use Rattle.kql_syntax.specs.declared.tree.Sign.{Sign, para-roll-Sign}
use Rattle.kql_syntax.specs.declared.tree.Sign.TheVariants as SignV
use Rattle.kql_syntax.specs.declared.tree.Sum.{Sum, out-Sum, roll-out-Sum}
use Rattle.kql_syntax.specs.declared.tree.SumSign.{SumSign}
use Rattle.kql_syntax.specs.declared.tree.Term.{Term, para-roll-Term}
use Rattle.kql_syntax.specs.declared.tree.Term.TheVariants as TermV
use Rattle.kql_syntax.specs.declared.tree.Word.{Word}
use Rattle.bind_expr.specs.Arguments.{arg_link, first_slot, next_slot, no_args, plain_arg, taken}
use Rattle.bind_expr.specs.Bound.{Binds, Look, Named, Takes, access_key, access_place, access_read, access_step, and_bound, and_link, and_step, ands_to, arg_bound, arg_step, args_of, args_taken, args_to, call_bound, call_node, call_or_extract, compare_or_match, cmp_bound, cmp_step, entry_key, expr_bound, expr_step, factors_to, first_spot, found_call, inside, links_to, looks_to, minus_node, negated, operand_link, operands_to, or_link, ors_to, path_from, path_of, path_to, post_bound, post_of, post_step, prod_bound, prod_link, prod_sign, prod_step, sign_bound, sign_step, sum_bound, sum_link, sum_sign, sum_step, term_bound, term_name, term_read, term_step}
use Rattle.bind_expr.specs.Chains.{closed, linked, opened}
use Rattle.bind_expr.specs.Comparisons.{between_node, bounded, compare_func, compare_node, compared, in_node, listed}
use Rattle.bind_expr.specs.Literals.{literal_bound}
use Rattle.bind_expr.specs.Logic.{with_term, terms_closed, terms_opened}
use Rattle.bind_expr.specs.Names.{name_bound, text_of}
use Rattle.bind_expr.specs.Outcome.{Answers, Outcome, ◌>>=◌}
use Rattle.bind_expr.specs.Patterns.{extract_bound, is_extract, match_bound}
use Rattle.bind_expr.specs.Paths.{look_link, with_look, path_closed, path_opened, step_bound, step_named}
use Rattle.bind_expr.specs.declared.arguments.Args.{Args}
use Rattle.bind_expr.specs.declared.arguments.Slot.{Slot}
use Rattle.bind_expr.specs.declared.chain.Chained.{Chained}
use Rattle.bind_expr.specs.declared.fault.BindFault.{BindFault}
use Rattle.bind_expr.specs.declared.fault.BindFault.TheVariants as fault
use Rattle.bind_expr.specs.declared.logic.Joined.{Joined}
use Rattle.bind_expr.specs.declared.path.Looked.{Looked}
use Rattle.bind_expr.specs.declared.scope.Scope.{Scope}
use Rattle.bind_expr.specs.declared.scope.StepNames.{StepNames}
use Rattle.bind_expr.specs.declared.scope.Spot.{Spot}
use Rattle.bind_expr.specs.declared.typed.Typed.{Typed}
use Rattle.bind_expr.proofs.RolledLaws.{and-rolled, call-rolled, expr-rolled, in-rolled, post-rolled, prod-rolled, sum-rolled}
use Rattle.bind_expr.proofs.AnswerFacts.{answers-along, answers-ok, answers-same, goes_along, goes_on, goes_under, goes_under_two}

-- Lists of parts.

-- A part more behind a list of them: the fault of those before it first.
turn : {L B X : Type 0} (f : L → B → X → Outcome B) (part : L → Outcome X) (start : Outcome B) (more : List L) (i : ℕ) (d : L) (left : Outcome B) (next : Outcome X) (result : Outcome B) → i < length more → Answers left (fold (λ (before : Outcome B) (l : L). before >>= λ b. part l >>= λ x. f l b x) start (take i more)) → Answers next (part (get_or more i d)) → Answers result (left >>= λ b. next >>= λ x. f (get_or more i d) b x) → Answers result (fold (λ (before : Outcome B) (l : L). before >>= λ b. part l >>= λ x. f l b x) start (take (i + 1) more))
turn {L = L} {B = B} f part start more i d left next result l a b h =
    let before : Outcome B = fold (λ (before : Outcome B) (l : L). before >>= λ b. part l >>= λ x. f l b x) start (take i more) in
    let item : L = get_or more i d in
    let one = goes_on left before (λ c. next >>= λ x. f item c x) result a h in
    let two = goes_under before next (part item) (λ c x. f item c x) result b one in
    answers-along result (before >>= λ c. part item >>= λ x. f item c x) (fold (λ (before : Outcome B) (l : L). before >>= λ b. part l >>= λ x. f l b x) start (take (i + 1) more)) two
    (sym (fold_more (λ (before : Outcome B) (l : L). before >>= λ b. part l >>= λ x. f l b x) start more i d l))

-- The same where the part is known by its place.
turned : {L B X : Type 0} (f : L → B → X → Outcome B) (part : L → Outcome X) (start : Outcome B) (more : List L) (i : ℕ) (link : L) (left : Outcome B) (next : Outcome X) (result : Outcome B) → link ≡ get_or more i link → i < length more → Answers left (fold (λ (before : Outcome B) (l : L). before >>= λ b. part l >>= λ x. f l b x) start (take i more)) → Answers next (part link) → Answers result (left >>= λ b. next >>= λ x. f link b x) → Answers result (fold (λ (before : Outcome B) (l : L). before >>= λ b. part l >>= λ x. f l b x) start (take (i + 1) more))
turned {L = L} {B = B} f part start more i link left next result head l a b h =
    turn f part start more i link left next result l a
    (subst (λ (k : L). Answers next (part k)) head b)
    (subst (λ (k : L). Answers result (left >>= λ b. next >>= λ x. f k b x)) head h)

-- What a list makes of want of memory is want of memory.
lost-fold : {L B X : Type 0} (f : L → B → X → Outcome B) (part : L → Outcome X) (more : List L) → fold (λ (before : Outcome B) (l : L). before >>= λ b. part l >>= λ x. f l b x) (Err fault.OutOfMemory) more ≡ Err fault.OutOfMemory
lost-fold f part [] = refl
lost-fold f part (l ∷ ls) = lost-fold f part ls

-- A first part, the list behind it, and what closes them.
whole-answers : {A B X : Type 0} (opening : Outcome X → Outcome A) (run : Outcome A → Outcome A) (closing : Outcome A → Outcome B) → opening (Err fault.OutOfMemory) ≡ Err fault.OutOfMemory → run (Err fault.OutOfMemory) ≡ Err fault.OutOfMemory → closing (Err fault.OutOfMemory) ≡ Err fault.OutOfMemory → (first d : Outcome X) (start links : Outcome A) (result : Outcome B) → Answers first d → Answers start (opening first) → Answers links (run start) → Answers result (closing links) → Answers result (closing (run (opening d)))
whole-answers opening run closing lo lr lc first d start links result a s b h =
    let one = goes_along closing lc links (run start) result b h in
    let two = goes_along (λ x. closing (run x)) (ap closing lr ∙ lc) start (opening first) result s one in
    goes_along (λ x. closing (run (opening x))) (ap (λ x. closing (run x)) lo ∙ (ap closing lr ∙ lc)) first d result a two

-- What stands behind the first of a list.
behind-first : {X : Type 0} (xs : List X) → take (length xs - 1) (drop 1 xs) ≡ drop 1 xs
behind-first [] = refl
behind-first (x ∷ xs) = let less : length (x ∷ xs) - 1 ≡ length xs = omega arith in rw less (take_all (length xs) xs (omega arith))

-- Chains.

ors-map : (scope : Scope) (spot : Spot) (more : List (Place × And)) (start : Outcome Joined) → fold (λ before (l : Place × Binds). or_link before l.0 (l.1 scope spot)) start (map {B = Place × Binds} (λ (l : Place × And). (l.0, and_bound l.1)) more) ≡ fold (λ before (l : Place × And). or_link before l.0 (and_bound l.1 scope spot)) start more
ors-map scope spot [] start = refl
ors-map scope spot (l ∷ ls) start = ors-map scope spot ls (or_link start l.0 (and_bound l.1 scope spot))

expr-spot : (spot : Spot) (more : List (Place × And)) → first_spot (map {B = Place × Binds} (λ (l : Place × And). (l.0, and_bound l.1)) more) spot ≡ first_spot more spot
expr-spot spot [] = refl
expr-spot spot (l ∷ ls) = refl

pub expr-is : (e : Expr) (scope : Scope) (spot : Spot) → expr_bound e scope spot ≡ terms_closed logic.Or (ors_to scope (inside spot.position) (terms_opened (and_bound (out-Expr e).first scope (first_spot (out-Expr e).more spot))) (out-Expr e).more)
unfolding expr_bound and_bound cmp_bound sum_bound prod_bound sign_bound post_bound access_read term_read arg_bound ors_to
expr-is e scope spot =
    ap (λ (x : Expr). expr_bound x scope spot) (sym (roll-out-Expr e)) ∙ expr-rolled (out-Expr e) scope spot
    ∙ (ap (λ (at : Spot). terms_closed logic.Or (fold (λ before (l : Place × Binds). or_link before l.0 (l.1 scope (inside spot.position))) (terms_opened (and_bound (out-Expr e).first scope at)) (map {B = Place × Binds} (λ (l : Place × And). (l.0, and_bound l.1)) (out-Expr e).more))) (expr-spot spot (out-Expr e).more)
    ∙ ap (terms_closed logic.Or) (ors-map scope (inside spot.position) (out-Expr e).more (terms_opened (and_bound (out-Expr e).first scope (first_spot (out-Expr e).more spot)))))

ors-lost : (scope : Scope) (spot : Spot) (more : List (Place × And)) → ors_to scope spot (Err fault.OutOfMemory) more ≡ Err fault.OutOfMemory
unfolding ors_to
ors-lost scope spot more = lost-fold (λ (l : Place × And) b t. with_term logic.Or l.0 b t) (λ (l : Place × And). and_bound l.1 scope spot) more

expr-opens : terms_opened (Err fault.OutOfMemory) ≡ Err fault.OutOfMemory
unfolding terms_opened
expr-opens = refl

expr-closes : terms_closed logic.Or (Err fault.OutOfMemory) ≡ Err fault.OutOfMemory
unfolding terms_closed
expr-closes = refl

pub expr-answers : (e : Expr) (scope : Scope) (spot at inner : Spot) (first : Outcome Typed) (start links : Outcome Joined) (more : List (Place × And)) (result : Outcome Typed) → more ≡ (out-Expr e).more → at ≡ first_spot more spot → inner ≡ inside spot.position → Answers first (and_bound (out-Expr e).first scope at) → start ≡ terms_opened first → Answers links (ors_to scope inner start more) → Answers result (terms_closed logic.Or links) → Answers result (expr_bound e scope spot)
expr-answers e scope spot at inner first start links more result is where_first where_inner a same b h =
    let whole = whole-answers (terms_opened) (λ x. ors_to scope inner x more) (terms_closed logic.Or) expr-opens (ors-lost scope inner more) expr-closes first (and_bound (out-Expr e).first scope at) start links result a (answers-same start (terms_opened first) same) b h in
    answers-along result (terms_closed logic.Or (ors_to scope inner (terms_opened (and_bound (out-Expr e).first scope at)) more)) (expr_bound e scope spot) whole
    (ap (λ (s : Spot). terms_closed logic.Or (ors_to scope s (terms_opened (and_bound (out-Expr e).first scope at)) more)) where_inner
    ∙ (ap (λ (s : Spot). terms_closed logic.Or (ors_to scope (inside spot.position) (terms_opened (and_bound (out-Expr e).first scope s)) more)) where_first
    ∙ (ap (λ (m : List (Place × And)). terms_closed logic.Or (ors_to scope (inside spot.position) (terms_opened (and_bound (out-Expr e).first scope (first_spot m spot))) m)) is
    ∙ sym (expr-is e scope spot))))

pub ors-start : (scope : Scope) (spot : Spot) (start : Outcome Joined) → Answers start (ors_to scope spot start [])
unfolding ors_to
ors-start scope spot start = answers-same start start refl

pub ors-turn : (scope : Scope) (spot : Spot) (more : List (Place × And)) (i : ℕ) (link : Place × And) (start left : Outcome Joined) (right : Outcome Typed) (result : Outcome Joined) → link ≡ get_or more i link → i < length more → Answers left (ors_to scope spot start (take i more)) → Answers right (and_bound link.1 scope spot) → Answers result (or_link left link.0 right) → Answers result (ors_to scope spot start (take (i + 1) more))
unfolding ors_to
ors-turn scope spot more i link start left right result head l a b h = turned (λ (l : Place × And) b t. with_term logic.Or l.0 b t) (λ (l : Place × And). and_bound l.1 scope spot) start more i link left right result head l a b h

ands-map : (scope : Scope) (spot : Spot) (more : List (Place × Cmp)) (start : Outcome Joined) → fold (λ before (l : Place × Binds). and_link before l.0 (l.1 scope spot)) start (map {B = Place × Binds} (λ (l : Place × Cmp). (l.0, cmp_bound l.1)) more) ≡ fold (λ before (l : Place × Cmp). and_link before l.0 (cmp_bound l.1 scope spot)) start more
ands-map scope spot [] start = refl
ands-map scope spot (l ∷ ls) start = ands-map scope spot ls (and_link start l.0 (cmp_bound l.1 scope spot))

and-spot : (spot : Spot) (more : List (Place × Cmp)) → first_spot (map {B = Place × Binds} (λ (l : Place × Cmp). (l.0, cmp_bound l.1)) more) spot ≡ first_spot more spot
and-spot spot [] = refl
and-spot spot (l ∷ ls) = refl

pub and-is : (e : And) (scope : Scope) (spot : Spot) → and_bound e scope spot ≡ terms_closed logic.And (ands_to scope (inside spot.position) (terms_opened (cmp_bound (out-And e).first scope (first_spot (out-And e).more spot))) (out-And e).more)
unfolding expr_bound and_bound cmp_bound sum_bound prod_bound sign_bound post_bound access_read term_read arg_bound ands_to
and-is e scope spot =
    ap (λ (x : And). and_bound x scope spot) (sym (roll-out-And e)) ∙ and-rolled (out-And e) scope spot
    ∙ (ap (λ (at : Spot). terms_closed logic.And (fold (λ before (l : Place × Binds). and_link before l.0 (l.1 scope (inside spot.position))) (terms_opened (cmp_bound (out-And e).first scope at)) (map {B = Place × Binds} (λ (l : Place × Cmp). (l.0, cmp_bound l.1)) (out-And e).more))) (and-spot spot (out-And e).more)
    ∙ ap (terms_closed logic.And) (ands-map scope (inside spot.position) (out-And e).more (terms_opened (cmp_bound (out-And e).first scope (first_spot (out-And e).more spot)))))

ands-lost : (scope : Scope) (spot : Spot) (more : List (Place × Cmp)) → ands_to scope spot (Err fault.OutOfMemory) more ≡ Err fault.OutOfMemory
unfolding ands_to
ands-lost scope spot more = lost-fold (λ (l : Place × Cmp) b t. with_term logic.And l.0 b t) (λ (l : Place × Cmp). cmp_bound l.1 scope spot) more

and-opens : terms_opened (Err fault.OutOfMemory) ≡ Err fault.OutOfMemory
unfolding terms_opened
and-opens = refl

and-closes : terms_closed logic.And (Err fault.OutOfMemory) ≡ Err fault.OutOfMemory
unfolding terms_closed
and-closes = refl

pub and-answers : (e : And) (scope : Scope) (spot at inner : Spot) (first : Outcome Typed) (start links : Outcome Joined) (more : List (Place × Cmp)) (result : Outcome Typed) → more ≡ (out-And e).more → at ≡ first_spot more spot → inner ≡ inside spot.position → Answers first (cmp_bound (out-And e).first scope at) → start ≡ terms_opened first → Answers links (ands_to scope inner start more) → Answers result (terms_closed logic.And links) → Answers result (and_bound e scope spot)
and-answers e scope spot at inner first start links more result is where_first where_inner a same b h =
    let whole = whole-answers (terms_opened) (λ x. ands_to scope inner x more) (terms_closed logic.And) and-opens (ands-lost scope inner more) and-closes first (cmp_bound (out-And e).first scope at) start links result a (answers-same start (terms_opened first) same) b h in
    answers-along result (terms_closed logic.And (ands_to scope inner (terms_opened (cmp_bound (out-And e).first scope at)) more)) (and_bound e scope spot) whole
    (ap (λ (s : Spot). terms_closed logic.And (ands_to scope s (terms_opened (cmp_bound (out-And e).first scope at)) more)) where_inner
    ∙ (ap (λ (s : Spot). terms_closed logic.And (ands_to scope (inside spot.position) (terms_opened (cmp_bound (out-And e).first scope s)) more)) where_first
    ∙ (ap (λ (m : List (Place × Cmp)). terms_closed logic.And (ands_to scope (inside spot.position) (terms_opened (cmp_bound (out-And e).first scope (first_spot m spot))) m)) is
    ∙ sym (and-is e scope spot))))

pub ands-start : (scope : Scope) (spot : Spot) (start : Outcome Joined) → Answers start (ands_to scope spot start [])
unfolding ands_to
ands-start scope spot start = answers-same start start refl

pub ands-turn : (scope : Scope) (spot : Spot) (more : List (Place × Cmp)) (i : ℕ) (link : Place × Cmp) (start left : Outcome Joined) (right : Outcome Typed) (result : Outcome Joined) → link ≡ get_or more i link → i < length more → Answers left (ands_to scope spot start (take i more)) → Answers right (cmp_bound link.1 scope spot) → Answers result (and_link left link.0 right) → Answers result (ands_to scope spot start (take (i + 1) more))
unfolding ands_to
ands-turn scope spot more i link start left right result head l a b h = turned (λ (l : Place × Cmp) b t. with_term logic.And l.0 b t) (λ (l : Place × Cmp). cmp_bound l.1 scope spot) start more i link left right result head l a b h

links-map : (scope : Scope) (spot : Spot) (more : List (SumSign × Prod)) (start : Outcome Chained) → fold (λ before (l : SumSign × Binds). sum_link before l.0 (l.1 scope spot)) start (map {B = SumSign × Binds} (λ (l : SumSign × Prod). (l.0, prod_bound l.1)) more) ≡ fold (λ before (l : SumSign × Prod). sum_link before l.0 (prod_bound l.1 scope spot)) start more
links-map scope spot [] start = refl
links-map scope spot (l ∷ ls) start = links-map scope spot ls (sum_link start l.0 (prod_bound l.1 scope spot))

sum-spot : (spot : Spot) (more : List (SumSign × Prod)) → first_spot (map {B = SumSign × Binds} (λ (l : SumSign × Prod). (l.0, prod_bound l.1)) more) spot ≡ first_spot more spot
sum-spot spot [] = refl
sum-spot spot (l ∷ ls) = refl

pub sum-is : (e : Sum) (scope : Scope) (spot : Spot) → sum_bound e scope spot ≡ closed (links_to scope (inside spot.position) (opened (prod_bound (out-Sum e).first scope (first_spot (out-Sum e).more spot))) (out-Sum e).more)
unfolding expr_bound and_bound cmp_bound sum_bound prod_bound sign_bound post_bound access_read term_read arg_bound links_to
sum-is e scope spot =
    ap (λ (x : Sum). sum_bound x scope spot) (sym (roll-out-Sum e)) ∙ sum-rolled (out-Sum e) scope spot
    ∙ (ap (λ (at : Spot). closed (fold (λ before (l : SumSign × Binds). sum_link before l.0 (l.1 scope (inside spot.position))) (opened (prod_bound (out-Sum e).first scope at)) (map {B = SumSign × Binds} (λ (l : SumSign × Prod). (l.0, prod_bound l.1)) (out-Sum e).more))) (sum-spot spot (out-Sum e).more)
    ∙ ap (closed) (links-map scope (inside spot.position) (out-Sum e).more (opened (prod_bound (out-Sum e).first scope (first_spot (out-Sum e).more spot)))))

links-lost : (scope : Scope) (spot : Spot) (more : List (SumSign × Prod)) → links_to scope spot (Err fault.OutOfMemory) more ≡ Err fault.OutOfMemory
unfolding links_to
links-lost scope spot more = lost-fold (λ (l : SumSign × Prod) b t. linked (sum_sign l.0.op) l.0.place b t) (λ (l : SumSign × Prod). prod_bound l.1 scope spot) more

sum-opens : opened (Err fault.OutOfMemory) ≡ Err fault.OutOfMemory
unfolding opened
sum-opens = refl

sum-closes : closed (Err fault.OutOfMemory) ≡ Err fault.OutOfMemory
unfolding closed
sum-closes = refl

pub sum-answers : (e : Sum) (scope : Scope) (spot at inner : Spot) (first : Outcome Typed) (start links : Outcome Chained) (more : List (SumSign × Prod)) (result : Outcome Typed) → more ≡ (out-Sum e).more → at ≡ first_spot more spot → inner ≡ inside spot.position → Answers first (prod_bound (out-Sum e).first scope at) → start ≡ opened first → Answers links (links_to scope inner start more) → Answers result (closed links) → Answers result (sum_bound e scope spot)
sum-answers e scope spot at inner first start links more result is where_first where_inner a same b h =
    let whole = whole-answers (opened) (λ x. links_to scope inner x more) (closed) sum-opens (links-lost scope inner more) sum-closes first (prod_bound (out-Sum e).first scope at) start links result a (answers-same start (opened first) same) b h in
    answers-along result (closed (links_to scope inner (opened (prod_bound (out-Sum e).first scope at)) more)) (sum_bound e scope spot) whole
    (ap (λ (s : Spot). closed (links_to scope s (opened (prod_bound (out-Sum e).first scope at)) more)) where_inner
    ∙ (ap (λ (s : Spot). closed (links_to scope (inside spot.position) (opened (prod_bound (out-Sum e).first scope s)) more)) where_first
    ∙ (ap (λ (m : List (SumSign × Prod)). closed (links_to scope (inside spot.position) (opened (prod_bound (out-Sum e).first scope (first_spot m spot))) m)) is
    ∙ sym (sum-is e scope spot))))

pub links-start : (scope : Scope) (spot : Spot) (start : Outcome Chained) → Answers start (links_to scope spot start [])
unfolding links_to
links-start scope spot start = answers-same start start refl

pub links-turn : (scope : Scope) (spot : Spot) (more : List (SumSign × Prod)) (i : ℕ) (link : SumSign × Prod) (start left : Outcome Chained) (right : Outcome Typed) (result : Outcome Chained) → link ≡ get_or more i link → i < length more → Answers left (links_to scope spot start (take i more)) → Answers right (prod_bound link.1 scope spot) → Answers result (sum_link left link.0 right) → Answers result (links_to scope spot start (take (i + 1) more))
unfolding links_to
links-turn scope spot more i link start left right result head l a b h = turned (λ (l : SumSign × Prod) b t. linked (sum_sign l.0.op) l.0.place b t) (λ (l : SumSign × Prod). prod_bound l.1 scope spot) start more i link left right result head l a b h

factors-map : (scope : Scope) (spot : Spot) (more : List (ProdSign × Sign)) (start : Outcome Chained) → fold (λ before (l : ProdSign × Binds). prod_link before l.0 (l.1 scope spot)) start (map {B = ProdSign × Binds} (λ (l : ProdSign × Sign). (l.0, sign_bound l.1)) more) ≡ fold (λ before (l : ProdSign × Sign). prod_link before l.0 (sign_bound l.1 scope spot)) start more
factors-map scope spot [] start = refl
factors-map scope spot (l ∷ ls) start = factors-map scope spot ls (prod_link start l.0 (sign_bound l.1 scope spot))

prod-spot : (spot : Spot) (more : List (ProdSign × Sign)) → first_spot (map {B = ProdSign × Binds} (λ (l : ProdSign × Sign). (l.0, sign_bound l.1)) more) spot ≡ first_spot more spot
prod-spot spot [] = refl
prod-spot spot (l ∷ ls) = refl

pub prod-is : (e : Prod) (scope : Scope) (spot : Spot) → prod_bound e scope spot ≡ closed (factors_to scope (inside spot.position) (opened (sign_bound (out-Prod e).first scope (first_spot (out-Prod e).more spot))) (out-Prod e).more)
unfolding expr_bound and_bound cmp_bound sum_bound prod_bound sign_bound post_bound access_read term_read arg_bound factors_to
prod-is e scope spot =
    ap (λ (x : Prod). prod_bound x scope spot) (sym (roll-out-Prod e)) ∙ prod-rolled (out-Prod e) scope spot
    ∙ (ap (λ (at : Spot). closed (fold (λ before (l : ProdSign × Binds). prod_link before l.0 (l.1 scope (inside spot.position))) (opened (sign_bound (out-Prod e).first scope at)) (map {B = ProdSign × Binds} (λ (l : ProdSign × Sign). (l.0, sign_bound l.1)) (out-Prod e).more))) (prod-spot spot (out-Prod e).more)
    ∙ ap (closed) (factors-map scope (inside spot.position) (out-Prod e).more (opened (sign_bound (out-Prod e).first scope (first_spot (out-Prod e).more spot)))))

factors-lost : (scope : Scope) (spot : Spot) (more : List (ProdSign × Sign)) → factors_to scope spot (Err fault.OutOfMemory) more ≡ Err fault.OutOfMemory
unfolding factors_to
factors-lost scope spot more = lost-fold (λ (l : ProdSign × Sign) b t. linked (prod_sign l.0.op) l.0.place b t) (λ (l : ProdSign × Sign). sign_bound l.1 scope spot) more

prod-opens : opened (Err fault.OutOfMemory) ≡ Err fault.OutOfMemory
unfolding opened
prod-opens = refl

prod-closes : closed (Err fault.OutOfMemory) ≡ Err fault.OutOfMemory
unfolding closed
prod-closes = refl

pub prod-answers : (e : Prod) (scope : Scope) (spot at inner : Spot) (first : Outcome Typed) (start links : Outcome Chained) (more : List (ProdSign × Sign)) (result : Outcome Typed) → more ≡ (out-Prod e).more → at ≡ first_spot more spot → inner ≡ inside spot.position → Answers first (sign_bound (out-Prod e).first scope at) → start ≡ opened first → Answers links (factors_to scope inner start more) → Answers result (closed links) → Answers result (prod_bound e scope spot)
prod-answers e scope spot at inner first start links more result is where_first where_inner a same b h =
    let whole = whole-answers (opened) (λ x. factors_to scope inner x more) (closed) prod-opens (factors-lost scope inner more) prod-closes first (sign_bound (out-Prod e).first scope at) start links result a (answers-same start (opened first) same) b h in
    answers-along result (closed (factors_to scope inner (opened (sign_bound (out-Prod e).first scope at)) more)) (prod_bound e scope spot) whole
    (ap (λ (s : Spot). closed (factors_to scope s (opened (sign_bound (out-Prod e).first scope at)) more)) where_inner
    ∙ (ap (λ (s : Spot). closed (factors_to scope (inside spot.position) (opened (sign_bound (out-Prod e).first scope s)) more)) where_first
    ∙ (ap (λ (m : List (ProdSign × Sign)). closed (factors_to scope (inside spot.position) (opened (sign_bound (out-Prod e).first scope (first_spot m spot))) m)) is
    ∙ sym (prod-is e scope spot))))

pub factors-start : (scope : Scope) (spot : Spot) (start : Outcome Chained) → Answers start (factors_to scope spot start [])
unfolding factors_to
factors-start scope spot start = answers-same start start refl

pub factors-turn : (scope : Scope) (spot : Spot) (more : List (ProdSign × Sign)) (i : ℕ) (link : ProdSign × Sign) (start left : Outcome Chained) (right : Outcome Typed) (result : Outcome Chained) → link ≡ get_or more i link → i < length more → Answers left (factors_to scope spot start (take i more)) → Answers right (sign_bound link.1 scope spot) → Answers result (prod_link left link.0 right) → Answers result (factors_to scope spot start (take (i + 1) more))
unfolding factors_to
factors-turn scope spot more i link start left right result head l a b h = turned (λ (l : ProdSign × Sign) b t. linked (prod_sign l.0.op) l.0.place b t) (λ (l : ProdSign × Sign). sign_bound l.1 scope spot) start more i link left right result head l a b h

-- Comparisons.

pub cmp-Plain : (s : Sum) (scope : Scope) (spot : Spot) → cmp_bound (CmpV.Plain s) scope spot ≡ sum_bound s scope spot
unfolding expr_bound and_bound cmp_bound sum_bound prod_bound sign_bound post_bound access_read term_read arg_bound
cmp-Plain s scope spot = ap (λ (f : Binds). f scope spot) (ap cmp_bound (sym (CmpV.rolls-Plain s)) ∙ para-roll-Cmp Look Takes Binds Binds Named Binds Binds Binds Binds Binds access_step arg_step cmp_step sign_step term_step and_step expr_step post_step prod_step sum_step (Cmp-F.«Cmp::Plain» s))

pub cmp-Compared : (s : Sum) (sign : CompareSign) (b : Sum) (scope : Scope) (spot : Spot) → cmp_bound (CmpV.Compared s sign b) scope spot ≡ compare_or_match (s, sum_bound s) sign (b, sum_bound b) scope spot (compare_func sign.op)
unfolding expr_bound and_bound cmp_bound sum_bound prod_bound sign_bound post_bound access_read term_read arg_bound
cmp-Compared s sign b scope spot = ap (λ (f : Binds). f scope spot) (ap cmp_bound (sym (CmpV.rolls-Compared s sign b)) ∙ para-roll-Cmp Look Takes Binds Binds Named Binds Binds Binds Binds Binds access_step arg_step cmp_step sign_step term_step and_step expr_step post_step prod_step sum_step (Cmp-F.Compared s sign b))

pub cmp-Between : (s : Sum) (sign : BetweenSign) (b : Sum × Sum) (scope : Scope) (spot : Spot) → cmp_bound (CmpV.Between s sign b) scope spot ≡ between_node sign (sum_bound s scope (inside spot.position)) (sum_bound b.0 scope (inside spot.position)) (sum_bound b.1 scope (inside spot.position))
unfolding expr_bound and_bound cmp_bound sum_bound prod_bound sign_bound post_bound access_read term_read arg_bound
cmp-Between s sign b scope spot = ap (λ (f : Binds). f scope spot) (ap cmp_bound (sym (CmpV.rolls-Between s sign b)) ∙ para-roll-Cmp Look Takes Binds Binds Named Binds Binds Binds Binds Binds access_step arg_step cmp_step sign_step term_step and_step expr_step post_step prod_step sum_step (Cmp-F.Between s sign b))

operands-map : (scope : Scope) (spot : Spot) (es : List Expr) (start : Outcome (List Typed)) → fold (λ before (e : Binds). operand_link before (e scope spot)) start (map expr_bound es) ≡ fold (λ before (e : Expr). operand_link before (expr_bound e scope spot)) start es
operands-map scope spot [] start = refl
operands-map scope spot (e ∷ es) start = operands-map scope spot es (operand_link start (expr_bound e scope spot))

pub cmp-In : (s : Sum) (sign : InSign) (es : List Expr) (scope : Scope) (spot : Spot) → cmp_bound (CmpV.In s sign es) scope spot ≡ in_node sign (operands_to scope (inside spot.position) (operand_link (Ok []) (sum_bound s scope (inside spot.position))) es)
unfolding expr_bound and_bound cmp_bound sum_bound prod_bound sign_bound post_bound access_read term_read arg_bound operands_to
cmp-In s sign es scope spot = ap (λ (x : Cmp). cmp_bound x scope spot) (sym (CmpV.rolls-In s sign es)) ∙ in-rolled s sign es scope spot ∙ ap (in_node sign) (operands-map scope (inside spot.position) es (operand_link (Ok []) (sum_bound s scope (inside spot.position))))

pub compared-answers : (e : Cmp) (s : Sum) (sign : CompareSign) (b : Sum) (o : Option Func) (f : Func) (scope : Scope) (spot inner : Spot) (left right result : Outcome Typed) → e ≡ CmpV.Compared s sign b → o ≡ compare_func sign.op → o ≡ Some f → inner ≡ inside spot.position → Answers left (sum_bound s scope inner) → Answers right (sum_bound b scope inner) → Answers result (compare_node f sign left right) → Answers result (cmp_bound e scope spot)
compared-answers e s sign b o f scope spot inner left right result is found some where_inner x y h =
    let one = goes_on left (sum_bound s scope inner) (λ l. right >>= λ r. compared f sign l r) result x h in
    let two = goes_under (sum_bound s scope inner) right (sum_bound b scope inner) (λ l r. compared f sign l r) result y one in
    answers-along result (compare_node f sign (sum_bound s scope inner) (sum_bound b scope inner)) (cmp_bound e scope spot) two
    (ap (λ (at : Spot). compare_node f sign (sum_bound s scope at) (sum_bound b scope at)) where_inner
    ∙ (ap (compare_or_match (s, sum_bound s) sign (b, sum_bound b) scope spot) (sym some ∙ found)
    ∙ (sym (cmp-Compared s sign b scope spot) ∙ ap (λ (x : Cmp). cmp_bound x scope spot) (sym is))))

pub match-answers : (e : Cmp) (s : Sum) (sign : CompareSign) (b : Sum) (o : Option Func) (scope : Scope) (spot : Spot) (result : Outcome Typed) → e ≡ CmpV.Compared s sign b → o ≡ compare_func sign.op → o ≡ None → Answers result (match_bound sign.place scope s b) → Answers result (cmp_bound e scope spot)
match-answers e s sign b o scope spot result is found none h =
    answers-along result (match_bound sign.place scope s b) (cmp_bound e scope spot) h
    (ap (compare_or_match (s, sum_bound s) sign (b, sum_bound b) scope spot) (sym none ∙ found)
    ∙ (sym (cmp-Compared s sign b scope spot) ∙ ap (λ (x : Cmp). cmp_bound x scope spot) (sym is)))

pub between-answers : (e : Cmp) (s : Sum) (sign : BetweenSign) (bounds : Sum × Sum) (scope : Scope) (spot inner : Spot) (value low high result : Outcome Typed) → e ≡ CmpV.Between s sign bounds → inner ≡ inside spot.position → Answers value (sum_bound s scope inner) → Answers low (sum_bound bounds.0 scope inner) → Answers high (sum_bound bounds.1 scope inner) → Answers result (between_node sign value low high) → Answers result (cmp_bound e scope spot)
between-answers e s sign bounds scope spot inner value low high result is where_inner x y z h =
    let x_is : Outcome Typed = sum_bound s scope inner in
    let low_is : Outcome Typed = sum_bound bounds.0 scope inner in
    let high_is : Outcome Typed = sum_bound bounds.1 scope inner in
    let one = goes_on value x_is (λ v. low >>= λ a. high >>= λ b. bounded sign v a b) result x h in
    let two = goes_under x_is low low_is (λ v a. high >>= λ b. bounded sign v a b) result y one in
    let three = goes_under_two x_is low_is high high_is (λ v a b. bounded sign v a b) result z two in
    answers-along result (between_node sign x_is low_is high_is) (cmp_bound e scope spot) three
    (ap (λ (at : Spot). between_node sign (sum_bound s scope at) (sum_bound bounds.0 scope at) (sum_bound bounds.1 scope at)) where_inner
    ∙ (sym (cmp-Between s sign bounds scope spot) ∙ ap (λ (x : Cmp). cmp_bound x scope spot) (sym is)))

operands-lost : (scope : Scope) (spot : Spot) (es : List Expr) → operands_to scope spot (Err fault.OutOfMemory) es ≡ Err fault.OutOfMemory
unfolding operands_to
operands-lost scope spot es = lost-fold (λ (e : Expr) ts t. Ok (ts ++ t ∷ [])) (λ (e : Expr). expr_bound e scope spot) es

pub in-answers : (e : Cmp) (s : Sum) (sign : InSign) (list es : List Expr) (scope : Scope) (spot inner : Spot) (value : Outcome Typed) (start operands : Outcome (List Typed)) (result : Outcome Typed) → e ≡ CmpV.In s sign list → es ≡ list → inner ≡ inside spot.position → Answers value (sum_bound s scope inner) → Answers start (operand_link (Ok []) value) → Answers operands (operands_to scope inner start es) → Answers result (in_node sign operands) → Answers result (cmp_bound e scope spot)
in-answers e s sign list es scope spot inner value start operands result is same where_inner x a b h =
    let whole = whole-answers (λ x. operand_link (Ok []) x) (λ x. operands_to scope inner x es) (in_node sign) refl (operands-lost scope inner es) refl value (sum_bound s scope inner) start operands result x a b h in
    answers-along result (in_node sign (operands_to scope inner (operand_link (Ok []) (sum_bound s scope inner)) es)) (cmp_bound e scope spot) whole
    (ap (λ (at : Spot). in_node sign (operands_to scope at (operand_link (Ok []) (sum_bound s scope at)) es)) where_inner
    ∙ (ap (λ (l : List Expr). in_node sign (operands_to scope (inside spot.position) (operand_link (Ok []) (sum_bound s scope (inside spot.position))) l)) same
    ∙ (sym (cmp-In s sign list scope spot) ∙ ap (λ (x : Cmp). cmp_bound x scope spot) (sym is))))

pub operands-start : (scope : Scope) (spot : Spot) (start : Outcome (List Typed)) → Answers start (operands_to scope spot start [])
unfolding operands_to
operands-start scope spot start = answers-same start start refl

pub operands-turn : (scope : Scope) (spot : Spot) (more : List Expr) (i : ℕ) (d : Expr) (start left : Outcome (List Typed)) (next : Outcome Typed) (result : Outcome (List Typed)) → i < length more → Answers left (operands_to scope spot start (take i more)) → Answers next (expr_bound (get_or more i d) scope spot) → Answers result (operand_link left next) → Answers result (operands_to scope spot start (take (i + 1) more))
unfolding operands_to
operands-turn scope spot more i d start left next result l a b h = turn (λ (e : Expr) ts t. Ok (ts ++ t ∷ [])) (λ (e : Expr). expr_bound e scope spot) start more i d left next result l a b h

-- Signs.

pub sign-Plain : (p : Post) (scope : Scope) (spot : Spot) → sign_bound (SignV.Plain p) scope spot ≡ post_bound p scope spot
unfolding expr_bound and_bound cmp_bound sum_bound prod_bound sign_bound post_bound access_read term_read arg_bound
sign-Plain p scope spot = ap (λ (f : Binds). f scope spot) (ap sign_bound (sym (SignV.rolls-Plain p)) ∙ para-roll-Sign Look Takes Binds Binds Named Binds Binds Binds Binds Binds access_step arg_step cmp_step sign_step term_step and_step expr_step post_step prod_step sum_step (Sign-F.«Sign::Plain» p))

pub sign-Minus : (place : Place) (p : Post) (scope : Scope) (spot : Spot) → sign_bound (SignV.Minus place p) scope spot ≡ minus_node place (post_bound p scope (inside spot.position))
unfolding expr_bound and_bound cmp_bound sum_bound prod_bound sign_bound post_bound access_read term_read arg_bound
sign-Minus place p scope spot = ap (λ (f : Binds). f scope spot) (ap sign_bound (sym (SignV.rolls-Minus place p)) ∙ para-roll-Sign Look Takes Binds Binds Named Binds Binds Binds Binds Binds access_step arg_step cmp_step sign_step term_step and_step expr_step post_step prod_step sum_step (Sign-F.Minus place p))

pub minus-answers : (e : Sign) (place : Place) (p : Post) (scope : Scope) (spot inner : Spot) (next result : Outcome Typed) → e ≡ SignV.Minus place p → inner ≡ inside spot.position → Answers next (post_bound p scope inner) → Answers result (minus_node place next) → Answers result (sign_bound e scope spot)
minus-answers e place p scope spot inner next result is where_inner a h =
    answers-along result (minus_node place (post_bound p scope inner)) (sign_bound e scope spot)
    (goes_on next (post_bound p scope inner) (λ t. negated place t) result a h)
    (ap (λ (at : Spot). minus_node place (post_bound p scope at)) where_inner
    ∙ (sym (sign-Minus place p scope spot) ∙ ap (λ (x : Sign). sign_bound x scope spot) (sym is)))

-- Terms and the looks behind them.

read-Entry : (place : Place) (w : Word) → access_read (AccessV.Entry place w) ≡ record { place = place; entry = Some w; key = λ scope at. Ok (entry_key w) }
unfolding expr_bound and_bound cmp_bound sum_bound prod_bound sign_bound post_bound access_read term_read arg_bound
read-Entry place w = ap access_read (sym (AccessV.rolls-Entry place w)) ∙ para-roll-Access Look Takes Binds Binds Named Binds Binds Binds Binds Binds access_step arg_step cmp_step sign_step term_step and_step expr_step post_step prod_step sum_step (Access-F.Entry place w)

read-Element : (place : Place) (e : Expr) → access_read (AccessV.Element place e) ≡ record { place = place; entry = None; key = λ scope at. expr_bound e scope (inside at) }
unfolding expr_bound and_bound cmp_bound sum_bound prod_bound sign_bound post_bound access_read term_read arg_bound
read-Element place e = ap access_read (sym (AccessV.rolls-Element place e)) ∙ para-roll-Access Look Takes Binds Binds Named Binds Binds Binds Binds Binds access_step arg_step cmp_step sign_step term_step and_step expr_step post_step prod_step sum_step (Access-F.Element place e)

pub place-Entry : (place : Place) (w : Word) → access_place (AccessV.Entry place w) ≡ place
unfolding access_place
place-Entry place w = ap (λ (l : Look). l.place) (read-Entry place w)

pub key-Entry : (place : Place) (w : Word) (scope : Scope) (at : Position) → access_key (AccessV.Entry place w) scope at ≡ Ok (entry_key w)
unfolding access_key
key-Entry place w scope at = ap (λ (l : Look). l.key scope at) (read-Entry place w)

pub entry-Entry : (place : Place) (w : Word) → (access_read (AccessV.Entry place w)).entry ≡ Some w
entry-Entry place w = ap (λ (l : Look). l.entry) (read-Entry place w)

pub place-Element : (place : Place) (e : Expr) → access_place (AccessV.Element place e) ≡ place
unfolding access_place
place-Element place e = ap (λ (l : Look). l.place) (read-Element place e)

pub key-Element : (place : Place) (e : Expr) (scope : Scope) (at : Position) → access_key (AccessV.Element place e) scope at ≡ expr_bound e scope (inside at)
unfolding access_key
key-Element place e scope at = ap (λ (l : Look). l.key scope at) (read-Element place e)

pub entry-Element : (place : Place) (e : Expr) → (access_read (AccessV.Element place e)).entry ≡ None
entry-Element place e = ap (λ (l : Look). l.entry) (read-Element place e)

pub entry-answers : (a : Access) (place : Place) (w : Word) (scope : Scope) (at : Position) (result : Outcome Typed) → a ≡ AccessV.Entry place w → Answers result (Ok (entry_key w)) → Answers result (access_key a scope at)
entry-answers a place w scope at result is h = answers-along result (Ok (entry_key w)) (access_key a scope at) h (sym (key-Entry place w scope at) ∙ ap (λ (x : Access). access_key x scope at) (sym is))

pub element-answers : (a : Access) (place : Place) (e : Expr) (scope : Scope) (at : Position) (inner : Spot) (result : Outcome Typed) → a ≡ AccessV.Element place e → inner ≡ inside at → Answers result (expr_bound e scope inner) → Answers result (access_key a scope at)
element-answers a place e scope at inner result is where_inner h = answers-along result (expr_bound e scope inner) (access_key a scope at) h
    (ap (λ (s : Spot). expr_bound e scope s) where_inner ∙ (sym (key-Element place e scope at) ∙ ap (λ (x : Access). access_key x scope at) (sym is)))

read-Literal : (l : Literal) → term_read (TermV.Literal l) ≡ record { name = None; bound = λ scope spot. literal_bound l }
unfolding expr_bound and_bound cmp_bound sum_bound prod_bound sign_bound post_bound access_read term_read arg_bound
read-Literal l = ap term_read (sym (TermV.rolls-Literal l)) ∙ para-roll-Term Look Takes Binds Binds Named Binds Binds Binds Binds Binds access_step arg_step cmp_step sign_step term_step and_step expr_step post_step prod_step sum_step (Term-F.Literal l)

read-Name : (n : Name) → term_read (TermV.Name n) ≡ record { name = Some (text_of n); bound = λ scope spot. name_bound n scope }
unfolding expr_bound and_bound cmp_bound sum_bound prod_bound sign_bound post_bound access_read term_read arg_bound
read-Name n = ap term_read (sym (TermV.rolls-Name n)) ∙ para-roll-Term Look Takes Binds Binds Named Binds Binds Binds Binds Binds access_step arg_step cmp_step sign_step term_step and_step expr_step post_step prod_step sum_step (Term-F.Name n)

read-Group : (place : Place) (e : Expr) → term_read (TermV.Group place e) ≡ record { name = None; bound = λ scope spot. expr_bound e scope spot }
unfolding expr_bound and_bound cmp_bound sum_bound prod_bound sign_bound post_bound access_read term_read arg_bound
read-Group place e = ap term_read (sym (TermV.rolls-Group place e)) ∙ para-roll-Term Look Takes Binds Binds Named Binds Binds Binds Binds Binds access_step arg_step cmp_step sign_step term_step and_step expr_step post_step prod_step sum_step (Term-F.Group place e)

read-Call : (w : Word) (args : List Arg) → term_read (TermV.Call w args) ≡ record { name = None; bound = call_bound w args (map arg_bound args) }
unfolding expr_bound and_bound cmp_bound sum_bound prod_bound sign_bound post_bound access_read term_read arg_bound
read-Call w args = ap term_read (sym (TermV.rolls-Call w args)) ∙ call-rolled w args

pub term-Literal : (l : Literal) (scope : Scope) (spot : Spot) → term_bound (TermV.Literal l) scope spot ≡ literal_bound l
unfolding term_bound
term-Literal l scope spot = ap (λ (t : Named). t.bound scope spot) (read-Literal l)

pub name-Literal : (l : Literal) → term_name (TermV.Literal l) ≡ None
unfolding term_name
name-Literal l = ap (λ (t : Named). t.name) (read-Literal l)

pub term-Name : (n : Name) (scope : Scope) (spot : Spot) → term_bound (TermV.Name n) scope spot ≡ name_bound n scope
unfolding term_bound
term-Name n scope spot = ap (λ (t : Named). t.bound scope spot) (read-Name n)

pub name-Name : (n : Name) → term_name (TermV.Name n) ≡ Some (text_of n)
unfolding term_name
name-Name n = ap (λ (t : Named). t.name) (read-Name n)

pub term-Group : (place : Place) (e : Expr) (scope : Scope) (spot : Spot) → term_bound (TermV.Group place e) scope spot ≡ expr_bound e scope spot
unfolding term_bound
term-Group place e scope spot = ap (λ (t : Named). t.bound scope spot) (read-Group place e)

pub name-Group : (place : Place) (e : Expr) → term_name (TermV.Group place e) ≡ None
unfolding term_name
name-Group place e = ap (λ (t : Named). t.name) (read-Group place e)

pub term-Call : (w : Word) (args : List Arg) (scope : Scope) (spot : Spot) → term_bound (TermV.Call w args) scope spot ≡ call_bound w args (map arg_bound args) scope spot
unfolding term_bound
term-Call w args scope spot = ap (λ (t : Named). t.bound scope spot) (read-Call w args)

pub name-Call : (w : Word) (args : List Arg) → term_name (TermV.Call w args) ≡ None
unfolding term_name
name-Call w args = ap (λ (t : Named). t.name) (read-Call w args)

pub group-answers : (e : Term) (place : Place) (x : Expr) (scope : Scope) (spot : Spot) (result : Outcome Typed) → e ≡ TermV.Group place x → Answers result (expr_bound x scope spot) → Answers result (term_bound e scope spot)
group-answers e place x scope spot result is h = answers-along result (expr_bound x scope spot) (term_bound e scope spot) h (sym (term-Group place x scope spot) ∙ ap (λ (t : Term). term_bound t scope spot) (sym is))

-- Which step a term names.

unnamed : (steps : StepNames) (n : Option (List ℕ)) → n ≡ None → None ≡ step_named steps n
unfolding step_named
unnamed steps n e = rw e refl

pub step-Literal : (e : Term) (l : Literal) (steps : StepNames) → e ≡ TermV.Literal l → None ≡ step_named steps (term_name e)
step-Literal e l steps is = unnamed steps (term_name e) (ap term_name is ∙ name-Literal l)

pub step-Call : (e : Term) (w : Word) (args : List Arg) (steps : StepNames) → e ≡ TermV.Call w args → None ≡ step_named steps (term_name e)
step-Call e w args steps is = unnamed steps (term_name e) (ap term_name is ∙ name-Call w args)

pub step-Group : (e : Term) (place : Place) (x : Expr) (steps : StepNames) → e ≡ TermV.Group place x → None ≡ step_named steps (term_name e)
step-Group e place x steps is = unnamed steps (term_name e) (ap term_name is ∙ name-Group place x)

pub step-Name : (e : Term) (n : Name) (steps : StepNames) (text : List ℕ) (result : Option ℕ) → e ≡ TermV.Name n → text ≡ text_of n → result ≡ step_named steps (Some text) → result ≡ step_named steps (term_name e)
step-Name e n steps text result is same found = found ∙ (ap (λ (t : List ℕ). step_named steps (Some t)) same ∙ ap (step_named steps) (sym (name-Name n) ∙ ap term_name (sym is)))

-- A term with looks behind it.

path-map : (scope : Scope) (at : Position) (more : List Access) (start : Outcome Looked) → fold (λ before (l : Look). look_link l.place before (l.key scope at)) start (map access_read more) ≡ fold (λ before (a : Access). look_link (access_place a) before (access_key a scope at)) start more
unfolding access_place access_key
path-map scope at [] start = refl
path-map scope at (a ∷ more) start = path-map scope at more (look_link (access_place a) start (access_key a scope at))

path-read : (scope : Scope) (at : Position) (first : Outcome Typed) (more : List Access) → path_of scope at first (map access_read more) ≡ path_to scope at first more
unfolding path_to looks_to
path-read scope at first more = ap path_closed (path-map scope at more (path_opened first))

looks-lost : (scope : Scope) (at : Position) (more : List Access) → looks_to scope at (Err fault.OutOfMemory) more ≡ Err fault.OutOfMemory
unfolding looks_to
looks-lost scope at more = lost-fold (λ (a : Access) l key. with_look (access_place a) l key) (λ (a : Access). access_key a scope at) more

path-opens : path_opened (Err fault.OutOfMemory) ≡ Err fault.OutOfMemory
unfolding path_opened
path-opens = refl

path-closes : path_closed (Err fault.OutOfMemory) ≡ Err fault.OutOfMemory
unfolding path_closed
path-closes = refl

path-lost : (scope : Scope) (at : Position) (more : List Access) → path_to scope at (Err fault.OutOfMemory) more ≡ Err fault.OutOfMemory
unfolding path_to
path-lost scope at more = ap (λ (x : Outcome Looked). path_closed (looks_to scope at x more)) path-opens ∙ (ap path_closed (looks-lost scope at more) ∙ path-closes)

pub post-is : (e : Post) (scope : Scope) (spot : Spot) → post_bound e scope spot ≡ post_of (term_read (out-Post e).first) (map access_read (out-Post e).more) scope spot
post-is e scope spot = ap (λ (x : Post). post_bound x scope spot) (sym (roll-out-Post e)) ∙ post-rolled (out-Post e) scope spot

post-none : (first : Named) (more : List Access) (scope : Scope) (spot : Spot) → more ≡ [] → post_of first (map access_read more) scope spot ≡ first.bound scope spot
post-none first [] scope spot e = refl
post-none first (a ∷ more) scope spot e = cc

nothing : {X : Type 0} (xs : List X) → length xs ≡ 0 → xs ≡ []
nothing [] e = refl
nothing (x ∷ xs) e = absurd (omega arith)

pub alone-answers : (e : Post) (scope : Scope) (spot : Spot) (more : List Access) (result : Outcome Typed) → more ≡ (out-Post e).more → length more ≡ 0 → Answers result (term_bound (out-Post e).first scope spot) → Answers result (post_bound e scope spot)
unfolding term_bound
alone-answers e scope spot more result is none h = answers-along result (term_bound (out-Post e).first scope spot) (post_bound e scope spot) h
    (sym (post-is e scope spot ∙ post-none (term_read (out-Post e).first) (out-Post e).more scope spot (sym is ∙ nothing more none)))

-- The path of a term that is no step's name.
post-plain : (first : Named) (more : List Access) (scope : Scope) (spot : Spot) → 1 ≤ length more → step_named scope.steps first.name ≡ None → post_of first (map access_read more) scope spot ≡ path_of scope spot.position (first.bound scope (inside spot.position)) (map access_read more)
post-plain first [] scope spot long none = absurd (omega arith)
post-plain first (a ∷ more) scope spot long none = rw none refl

pub plain-answers : (e : Post) (scope : Scope) (spot inner : Spot) (more : List Access) (step : Option ℕ) (first result : Outcome Typed) → more ≡ (out-Post e).more → 1 ≤ length more → step ≡ step_named scope.steps (term_name (out-Post e).first) → step ≡ None → inner ≡ inside spot.position → Answers first (term_bound (out-Post e).first scope inner) → Answers result (path_to scope spot.position first more) → Answers result (post_bound e scope spot)
unfolding term_bound term_name
plain-answers e scope spot inner more step first result is long found none where_inner a h =
    let t : Named = term_read (out-Post e).first in
    let whole = goes_along (λ x. path_to scope spot.position x more) (path-lost scope spot.position more) first (t.bound scope inner) result a h in
    answers-along result (path_to scope spot.position (t.bound scope inner) more) (post_bound e scope spot) whole
    (ap (λ (s : Spot). path_to scope spot.position (t.bound scope s) more) where_inner
    ∙ (ap (path_to scope spot.position (t.bound scope (inside spot.position))) is
    ∙ (sym (path-read scope spot.position (t.bound scope (inside spot.position)) (out-Post e).more)
    ∙ (sym (post-plain t (out-Post e).more scope spot (subst (λ (m : List Access). 1 ≤ length m) is long) (sym found ∙ none))
    ∙ sym (post-is e scope spot)))))

-- The same where an element stands behind a step's name.
post-element : (first : Named) (more : List Access) (d : Access) (scope : Scope) (spot : Spot) (i : ℕ) → 1 ≤ length more → step_named scope.steps first.name ≡ Some i → (access_read (get_or more 0 d)).entry ≡ None → post_of first (map access_read more) scope spot ≡ path_of scope spot.position (first.bound scope (inside spot.position)) (map access_read more)
post-element first [] d scope spot i long some none = absurd (omega arith)
post-element first (a ∷ more) d scope spot i long some none = let same : (access_read a).entry ≡ None = none in rw (some, same) refl

pub element-path-answers : (e : Post) (access : Access) (place : Place) (x : Expr) (scope : Scope) (spot inner : Spot) (more : List Access) (step : Option ℕ) (i : ℕ) (first result : Outcome Typed) → more ≡ (out-Post e).more → 1 ≤ length more → access ≡ get_or more 0 access → access ≡ AccessV.Element place x → step ≡ step_named scope.steps (term_name (out-Post e).first) → step ≡ Some i → inner ≡ inside spot.position → Answers first (term_bound (out-Post e).first scope inner) → Answers result (path_to scope spot.position first more) → Answers result (post_bound e scope spot)
unfolding term_bound term_name
element-path-answers e access place x scope spot inner more step i first result is long head shape found some where_inner a h =
    let t : Named = term_read (out-Post e).first in
    let whole = goes_along (λ x. path_to scope spot.position x more) (path-lost scope spot.position more) first (t.bound scope inner) result a h in
    let none : (access_read (get_or (out-Post e).more 0 access)).entry ≡ None = ap (λ (m : List Access). (access_read (get_or m 0 access)).entry) (sym is) ∙ (ap (λ (b : Access). (access_read b).entry) (sym head ∙ shape) ∙ entry-Element place x) in
    answers-along result (path_to scope spot.position (t.bound scope inner) more) (post_bound e scope spot) whole
    (ap (λ (s : Spot). path_to scope spot.position (t.bound scope s) more) where_inner
    ∙ (ap (path_to scope spot.position (t.bound scope (inside spot.position))) is
    ∙ (sym (path-read scope spot.position (t.bound scope (inside spot.position)) (out-Post e).more)
    ∙ (sym (post-element t (out-Post e).more access scope spot i (subst (λ (m : List Access). 1 ≤ length m) is long) (sym found ∙ some) none)
    ∙ sym (post-is e scope spot)))))

-- A column of a step's record, and looks behind it.
post-step : (first : Named) (more : List Access) (d : Access) (scope : Scope) (spot : Spot) (i : ℕ) (w : Word) → 1 ≤ length more → step_named scope.steps first.name ≡ Some i → (access_read (get_or more 0 d)).entry ≡ Some w → post_of first (map access_read more) scope spot ≡ path_of scope spot.position (step_bound scope.steps i w) (map access_read (drop 1 more))
post-step first [] d scope spot i w long some entry = absurd (omega arith)
post-step first (a ∷ more) d scope spot i w long some entry = let same : (access_read a).entry ≡ Some w = entry in rw (some, same) refl

pub step-answers : (e : Post) (access : Access) (place : Place) (w : Word) (scope : Scope) (spot : Spot) (more : List Access) (step : Option ℕ) (i : ℕ) (first result : Outcome Typed) → more ≡ (out-Post e).more → 1 ≤ length more → access ≡ get_or more 0 access → access ≡ AccessV.Entry place w → step ≡ step_named scope.steps (term_name (out-Post e).first) → step ≡ Some i → Answers first (step_bound scope.steps i w) → Answers result (path_to scope spot.position first (take (length more - 1) (drop 1 more))) → Answers result (post_bound e scope spot)
unfolding term_name
step-answers e access place w scope spot more step i first result is long head shape found some a h =
    let t : Named = term_read (out-Post e).first in
    let rest : List Access = drop 1 more in
    let behind : Answers result (path_to scope spot.position first rest) = subst (λ (l : List Access). Answers result (path_to scope spot.position first l)) (behind-first more) h in
    let whole = goes_along (λ x. path_to scope spot.position x rest) (path-lost scope spot.position rest) first (step_bound scope.steps i w) result a behind in
    let entry : (access_read (get_or (out-Post e).more 0 access)).entry ≡ Some w = ap (λ (m : List Access). (access_read (get_or m 0 access)).entry) (sym is) ∙ (ap (λ (b : Access). (access_read b).entry) (sym head ∙ shape) ∙ entry-Entry place w) in
    answers-along result (path_to scope spot.position (step_bound scope.steps i w) rest) (post_bound e scope spot) whole
    (ap (path_to scope spot.position (step_bound scope.steps i w)) (ap (drop 1) is)
    ∙ (sym (path-read scope spot.position (step_bound scope.steps i w) (drop 1 (out-Post e).more))
    ∙ (sym (post-step t (out-Post e).more access scope spot i w (subst (λ (m : List Access). 1 ≤ length m) is long) (sym found ∙ some) entry)
    ∙ sym (post-is e scope spot))))

-- Looks.

pub path-answers : (scope : Scope) (at : Position) (first : Outcome Typed) (start path : Outcome Looked) (more : List Access) (result : Outcome Typed) → start ≡ path_opened first → Answers path (looks_to scope at start more) → Answers result (path_closed path) → Answers result (path_to scope at first more)
unfolding path_to
path-answers scope at first start path more result same a h =
    goes_along path_closed path-closes path (looks_to scope at (path_opened first) more) result (subst (λ (s : Outcome Looked). Answers path (looks_to scope at s more)) same a) h

pub looks-start : (scope : Scope) (at : Position) (start : Outcome Looked) → Answers start (looks_to scope at start [])
unfolding looks_to
looks-start scope at start = answers-same start start refl

pub looks-turn : (scope : Scope) (at : Position) (more : List Access) (i : ℕ) (d : Access) (start left : Outcome Looked) (next : Outcome Typed) (place : Place) (result : Outcome Looked) → i < length more → Answers left (looks_to scope at start (take i more)) → Answers next (access_key (get_or more i d) scope at) → place ≡ access_place (get_or more i d) → Answers result (look_link place left next) → Answers result (looks_to scope at start (take (i + 1) more))
unfolding looks_to
looks-turn scope at more i d start left next place result l a b same h = turn (λ (x : Access) b t. with_look (access_place x) b t) (λ (x : Access). access_key x scope at) start more i d left next result l a b
    (subst (λ (p : Place). Answers result (look_link p left next)) same h)

-- Arguments.

pub arg-Plain : (e : Expr) (scope : Scope) (at : Position) → arg_bound (ArgV.Plain e) scope at ≡ plain_arg (expr_bound e scope (inside at))
unfolding expr_bound and_bound cmp_bound sum_bound prod_bound sign_bound post_bound access_read term_read arg_bound
arg-Plain e scope at = ap (λ (f : Takes). f scope at) (ap arg_bound (sym (ArgV.rolls-Plain e)) ∙ para-roll-Arg Look Takes Binds Binds Named Binds Binds Binds Binds Binds access_step arg_step cmp_step sign_step term_step and_step expr_step post_step prod_step sum_step (Arg-F.«Arg::Plain» e))

pub arg-Star : (place : Place) (scope : Scope) (at : Position) → arg_bound (ArgV.Star place) scope at ≡ Ok None
unfolding expr_bound and_bound cmp_bound sum_bound prod_bound sign_bound post_bound access_read term_read arg_bound
arg-Star place scope at = ap (λ (f : Takes). f scope at) (ap arg_bound (sym (ArgV.rolls-Star place)) ∙ para-roll-Arg Look Takes Binds Binds Named Binds Binds Binds Binds Binds access_step arg_step cmp_step sign_step term_step and_step expr_step post_step prod_step sum_step (Arg-F.Star place))

pub plain-arg-answers : (arg : Arg) (e : Expr) (scope : Scope) (at : Position) (inner : Spot) (bound : Outcome Typed) (result : Outcome (Option Typed)) → arg ≡ ArgV.Plain e → inner ≡ inside at → Answers bound (expr_bound e scope inner) → result ≡ plain_arg bound → Answers result (arg_bound arg scope at)
unfolding plain_arg
plain-arg-answers arg e scope at inner bound result is where_inner a same =
    let one = goes_on bound (expr_bound e scope inner) (λ x. Ok (Some x)) result a (answers-same result (plain_arg bound) same) in
    answers-along result (plain_arg (expr_bound e scope inner)) (arg_bound arg scope at) one
    (ap (λ (s : Spot). plain_arg (expr_bound e scope s)) where_inner ∙ (sym (arg-Plain e scope at) ∙ ap (λ (x : Arg). arg_bound x scope at) (sym is)))

pub star-answers : (arg : Arg) (place : Place) (scope : Scope) (at : Position) → arg ≡ ArgV.Star place → Answers (Ok None) (arg_bound arg scope at)
star-answers arg place scope at is = answers-ok (arg_bound arg scope at) None (ap (λ (x : Arg). arg_bound x scope at) is ∙ arg-Star place scope at)

args-map : (scope : Scope) (slot : Slot) (args : List Arg) (start : Outcome Args) → fold (λ before (arg : Takes). arg_link scope slot before (arg scope slot.position)) start (map arg_bound args) ≡ fold (λ before (arg : Arg). arg_link scope slot before (arg_bound arg scope slot.position)) start args
args-map scope slot [] start = refl
args-map scope slot (a ∷ more) start = args-map scope slot more (arg_link scope slot start (arg_bound a scope slot.position))

args-read : (scope : Scope) (first next : Slot) (args : List Arg) → args_taken scope first next (map arg_bound args) ≡ args_of scope first next args
unfolding args_of args_to
args-read scope first next [] = refl
args-read scope first next (a ∷ more) = args-map scope next more (arg_link scope first (Ok no_args) (arg_bound a scope first.position))

args-lost : (scope : Scope) (slot : Slot) (more : List Arg) → args_to scope slot (Err fault.OutOfMemory) more ≡ Err fault.OutOfMemory
unfolding args_to
args-lost scope slot more = lost-fold (λ (a : Arg) b t. Ok (taken scope slot b t)) (λ (a : Arg). arg_bound a scope slot.position) more

none-args : (scope : Scope) (first next : Slot) (args : List Arg) (made : Args) → length args ≡ 0 → made ≡ no_args → Answers (Ok made) (args_of scope first next args)
unfolding args_of
none-args scope first next [] made e same = answers-same (Ok made) (Ok no_args) (ap (λ (a : Args). Ok a) same)
none-args scope first next (a ∷ more) made e same = absurd (omega arith)

some-args : (scope : Scope) (first next : Slot) (args : List Arg) (arg : Arg) (bound : Outcome (Option Typed)) (start result : Outcome Args) → 1 ≤ length args → arg ≡ get_or args 0 arg → Answers bound (arg_bound arg scope first.position) → Answers start (arg_link scope first (Ok no_args) bound) → Answers result (args_to scope next start (drop 1 args)) → Answers result (args_of scope first next args)
unfolding args_of
some-args scope first next [] arg bound start result long head a b h = absurd (omega arith)
some-args scope first next (x ∷ xs) arg bound start result long head a b h =
    let two = goes_along (λ s. args_to scope next s xs) (args-lost scope next xs) start (arg_link scope first (Ok no_args) bound) result b h in
    let bound_x : Answers bound (arg_bound x scope first.position) = subst (λ (y : Arg). Answers bound (arg_bound y scope first.position)) head a in
    goes_along (λ s. args_to scope next (arg_link scope first (Ok no_args) s) xs) (args-lost scope next xs) bound (arg_bound x scope first.position) result bound_x two

pub args-start : (scope : Scope) (slot : Slot) (start : Outcome Args) → Answers start (args_to scope slot start [])
unfolding args_to
args-start scope slot start = answers-same start start refl

pub args-turn : (scope : Scope) (slot : Slot) (more : List Arg) (i : ℕ) (d : Arg) (start left : Outcome Args) (next : Outcome (Option Typed)) (result : Outcome Args) → i < length more → Answers left (args_to scope slot start (take i more)) → Answers next (arg_bound (get_or more i d) scope slot.position) → Answers result (arg_link scope slot left next) → Answers result (args_to scope slot start (take (i + 1) more))
unfolding args_to
args-turn scope slot more i d start left next result l a b h = turn (λ (x : Arg) b t. Ok (taken scope slot b t)) (λ (x : Arg). arg_bound x scope slot.position) start more i d left next result l a b h

call-answers : (e : Term) (w : Word) (list args : List Arg) (scope : Scope) (spot : Spot) (found : Found) (first next : Slot) (bound : Outcome Args) (result : Outcome Typed) → e ≡ TermV.Call w list → args ≡ list → found ≡ found_as w.text → is_extract found ≡ false → first ≡ first_slot found spot.position → next ≡ next_slot found spot.position → Answers bound (args_of scope first next args) → Answers result (call_node w scope spot found bound) → Answers result (term_bound e scope spot)
call-answers e w list args scope spot found first next bound result is same where_found other where_first where_next a h =
    let one = goes_on bound (args_of scope first next args) (λ x. found_call w scope spot x found) result a h in
    answers-along result (call_node w scope spot found (args_of scope first next args)) (term_bound e scope spot) one
    (ap (λ (l : List Arg). call_node w scope spot found (args_of scope first next l)) same
    ∙ (ap (λ (s : Slot). call_node w scope spot found (args_of scope s next list)) where_first
    ∙ (ap (λ (s : Slot). call_node w scope spot found (args_of scope (first_slot found spot.position) s list)) where_next
    ∙ (ap (λ (f : Found). call_node w scope spot f (args_of scope (first_slot f spot.position) (next_slot f spot.position) list)) where_found
    ∙ (ap (call_node w scope spot (found_as w.text)) (sym (args-read scope (first_slot (found_as w.text) spot.position) (next_slot (found_as w.text) spot.position) list))
    ∙ (ap (call_or_extract w list (map arg_bound list) scope spot) (sym (ap is_extract (sym where_found) ∙ other))
    ∙ (sym (term-Call w list scope spot) ∙ ap (λ (t : Term). term_bound t scope spot) (sym is))))))))

pub extract-answers : (e : Term) (w : Word) (list args : List Arg) (scope : Scope) (spot : Spot) (found : Found) (b : Bool) (result : Outcome Typed) → e ≡ TermV.Call w list → args ≡ list → found ≡ found_as w.text → b ≡ is_extract found → b ≡ true → Answers result (extract_bound w.place scope args) → Answers result (term_bound e scope spot)
extract-answers e w list args scope spot found b result is same where_found asked yes_it_is h =
    answers-along result (extract_bound w.place scope args) (term_bound e scope spot) h
    (ap (extract_bound w.place scope) same
    ∙ (ap (call_or_extract w list (map arg_bound list) scope spot) (sym (ap is_extract (sym where_found) ∙ (sym asked ∙ yes_it_is)))
    ∙ (sym (term-Call w list scope spot) ∙ ap (λ (t : Term). term_bound t scope spot) (sym is))))

pub empty-call-answers : (e : Term) (w : Word) (list args : List Arg) (scope : Scope) (spot : Spot) (found : Found) (b : Bool) (made : Args) (result : Outcome Typed) → e ≡ TermV.Call w list → args ≡ list → length args ≡ 0 → found ≡ found_as w.text → b ≡ is_extract found → b ≡ false → made ≡ no_args → Answers result (call_node w scope spot found (Ok made)) → Answers result (term_bound e scope spot)
empty-call-answers e w list args scope spot found b made result is same none where_found asked other empty h =
    let first : Slot = first_slot found spot.position in
    let next : Slot = next_slot found spot.position in
    call-answers e w list args scope spot found first next (Ok made) result is same where_found (sym asked ∙ other) refl refl (none-args scope first next args made none empty) h

pub some-call-answers : (e : Term) (w : Word) (list args : List Arg) (arg : Arg) (scope : Scope) (spot : Spot) (found : Found) (b : Bool) (first next : Slot) (bound : Outcome (Option Typed)) (start links : Outcome Args) (result : Outcome Typed) → e ≡ TermV.Call w list → args ≡ list → 1 ≤ length args → arg ≡ get_or args 0 arg → found ≡ found_as w.text → b ≡ is_extract found → b ≡ false → first ≡ first_slot found spot.position → next ≡ next_slot found spot.position → Answers bound (arg_bound arg scope first.position) → Answers start (arg_link scope first (Ok no_args) bound) → Answers links (args_to scope next start (take (length args - 1) (drop 1 args))) → Answers result (call_node w scope spot found links) → Answers result (term_bound e scope spot)
some-call-answers e w list args arg scope spot found b first next bound start links result is same long head where_found asked other where_first where_next a opens c h =
    let behind : Answers links (args_to scope next start (drop 1 args)) = subst (λ (l : List Arg). Answers links (args_to scope next start l)) (behind-first args) c in
    call-answers e w list args scope spot found first next links result is same where_found (sym asked ∙ other) where_first where_next (some-args scope first next args arg bound start links long head a opens behind) h

-- Rules.

pub ruleset expr_steps = (expr-answers)

pub ruleset ors_steps = (ors-start, ors-turn)

pub ruleset and_steps = (and-answers)

pub ruleset ands_steps = (ands-start, ands-turn)

pub ruleset cmp_steps = (cmp-Plain, match-answers, compared-answers, in-answers, between-answers)

pub ruleset operands_steps = (operands-start, operands-turn)

pub ruleset sum_steps = (sum-answers)

pub ruleset links_steps = (links-start, links-turn)

pub ruleset prod_steps = (prod-answers)

pub ruleset factors_steps = (factors-start, factors-turn)

pub ruleset sign_steps = (sign-Plain, minus-answers)

pub ruleset name_steps = (step-Literal, step-Name, step-Call, step-Group)

pub ruleset post_steps = (alone-answers, plain-answers, element-path-answers, step-answers)

pub ruleset path_steps = (path-answers)

pub ruleset place_steps = (place-Entry, place-Element)

pub ruleset looks_steps = (looks-start, looks-turn)

pub ruleset access_steps = (entry-answers, element-answers)

pub ruleset term_steps = (term-Literal, term-Name, group-answers, extract-answers, empty-call-answers, some-call-answers)

pub ruleset more_args_steps = (args-start, args-turn)

pub ruleset arg_steps = (plain-arg-answers, star-answers)
