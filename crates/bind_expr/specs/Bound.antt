-- An expression bound in a scope, by cases on the tree.
use Rattle.std.specs.Prelude.{ℕ, List, [], ◌∷◌, ◌++◌, Bool, true, false, Option, None, Some, Ok, Err, fold, map}
use Rattle.kql_cells.specs.declared.value.Kind.TheVariants as kind
use Rattle.kql_cells.specs.declared.value.Value.TheVariants as value
use Rattle.kql_functions.specs.declared.func.ArithmeticFunc.TheVariants as arithmetic
use Rattle.kql_functions.specs.declared.func.Func.{Func}
use Rattle.kql_functions.specs.declared.func.Func.TheVariants as func
use Rattle.kql_functions.specs.declared.func.LogicFunc.{LogicFunc}
use Rattle.kql_functions.specs.declared.func.LogicFunc.TheVariants as logic
use Rattle.kql_functions.specs.declared.names.Found.{Found}
use Rattle.kql_functions.specs.declared.names.Found.TheVariants as found
use Rattle.kql_functions.specs.Find.{found_as}
use Rattle.kql_lexer.specs.declared.place.Place.{Place}
use Rattle.kql_bound.specs.declared.expr.ChainSign.{ChainSign}
use Rattle.kql_bound.specs.declared.expr.ChainSign.TheVariants as sign
use Rattle.kql_meaning.specs.declared.position.Position.{Position}
use Rattle.kql_syntax.specs.declared.tree.Access.{Access, para-Access}
use Rattle.kql_syntax.specs.declared.tree.Access.TheOpen.{Access-F, And-F, Arg-F, Cmp-F, Expr-F, Post-F, Prod-F, Sign-F, Sum-F, Term-F}
use Rattle.kql_syntax.specs.declared.tree.And.{And, para-And}
use Rattle.kql_syntax.specs.declared.tree.Arg.{Arg, para-Arg}
use Rattle.kql_syntax.specs.declared.tree.Cmp.{Cmp, para-Cmp}
use Rattle.kql_syntax.specs.declared.tree.CompareSign.{CompareSign}
use Rattle.kql_syntax.specs.declared.tree.Expr.{Expr, para-Expr}
use Rattle.kql_syntax.specs.declared.tree.Post.{Post, para-Post}
use Rattle.kql_syntax.specs.declared.tree.Prod.{Prod, para-Prod}
use Rattle.kql_syntax.specs.declared.tree.Sign.{Sign, para-Sign}
use Rattle.kql_syntax.specs.declared.tree.Sum.{Sum, para-Sum}
use Rattle.kql_syntax.specs.declared.tree.Term.{Term, para-Term}
use Rattle.kql_syntax.specs.declared.tree.ProdOp.{ProdOp}
use Rattle.kql_syntax.specs.declared.tree.ProdOp.TheVariants as prod_op
use Rattle.kql_syntax.specs.declared.tree.ProdSign.{ProdSign}
use Rattle.kql_syntax.specs.declared.tree.SumOp.{SumOp}
use Rattle.kql_syntax.specs.declared.tree.SumOp.TheVariants as sum_op
use Rattle.kql_syntax.specs.declared.tree.SumSign.{SumSign}
use Rattle.kql_syntax.specs.declared.tree.Word.{Word}
use Rattle.bind_expr.specs.AggregateCalls.{aggregate_call}
use Rattle.bind_expr.specs.Arguments.{arg_link, first_slot, next_slot, no_args, plain_arg}
use Rattle.bind_expr.specs.Calls.{scalar_call}
use Rattle.bind_expr.specs.Chains.{chain_link, closed, opened}
use Rattle.bind_expr.specs.Comparisons.{between_node, compare_func, compare_node, in_node}
use Rattle.bind_expr.specs.Literals.{literal_bound, literal_of}
use Rattle.bind_expr.specs.Logic.{term_link, terms_closed, terms_opened}
use Rattle.bind_expr.specs.Names.{name_bound, text_of}
use Rattle.bind_expr.specs.Operands.{typed_call}
use Rattle.bind_expr.specs.Outcome.{Outcome, ◌>>=◌}
use Rattle.bind_expr.specs.Patterns.{extract_bound, is_extract, match_bound}
use Rattle.bind_expr.specs.Paths.{look_link, path_closed, path_opened, step_bound, step_named}
use Rattle.bind_expr.specs.Windows.{window_call}
use Rattle.bind_expr.specs.declared.arguments.Args.{Args}
use Rattle.bind_expr.specs.declared.arguments.Slot.{Slot}
use Rattle.bind_expr.specs.declared.chain.Chained.{Chained}
use Rattle.bind_expr.specs.declared.fault.BindFault.TheVariants as fault
use Rattle.bind_expr.specs.declared.logic.Joined.{Joined}
use Rattle.bind_expr.specs.declared.path.Looked.{Looked}
use Rattle.bind_expr.specs.declared.scope.Scope.{Scope}
use Rattle.bind_expr.specs.declared.scope.Spot.{Spot}
use Rattle.bind_expr.specs.declared.typed.Typed.{Typed}

-- What the parts are bound to.

-- A part of an expression, by the scope and by where it stands.
abbrev pub Binds : Type 0
Binds = Scope → Spot → Outcome Typed

-- An argument of a call, where a star is none.
abbrev pub Takes : Type 0
Takes = Scope → Position → Outcome (Option Typed)

-- A term, and its name where it is a name alone.
pub record Named : Type 0 where
  pub name : Option (List ℕ)
  pub bound : Binds

-- A look into a dynamic value: its sign, the word of an entry, and what is looked for.
pub record Look : Type 0 where
  pub place : Place
  pub entry : Option Word
  pub key : Scope → Position → Outcome Typed

-- Each part with what it is bound to: a pattern call asks what its parts are, and does not bind them.
abbrev pub AccessPart : Type 0
AccessPart = Access × Look

abbrev pub ArgPart : Type 0
ArgPart = Arg × Takes

abbrev pub CmpPart : Type 0
CmpPart = Cmp × Binds

abbrev pub SignPart : Type 0
SignPart = Sign × Binds

abbrev pub TermPart : Type 0
TermPart = Term × Named

abbrev pub AndPart : Type 0
AndPart = And × Binds

abbrev pub ExprPart : Type 0
ExprPart = Expr × Binds

abbrev pub PostPart : Type 0
PostPart = Post × Binds

abbrev pub ProdPart : Type 0
ProdPart = Prod × Binds

abbrev pub SumPart : Type 0
SumPart = Sum × Binds

-- A part that is not the whole expression.
abbrev pub inside : Position → Spot
inside at = record { position = at; alone = false }

-- The first of several parts; where there is no other it is all that there is.
abbrev pub first_spot : {X : Type 0} → List X → Spot → Spot
first_spot [] spot = spot
first_spot (x ∷ xs) spot = inside spot.position

-- Terms joined by `or`, and by `and`.

abbrev pub or_link : Outcome Joined → Place → Outcome Typed → Outcome Joined
or_link before place next = term_link logic.Or before place next

abbrev pub and_link : Outcome Joined → Place → Outcome Typed → Outcome Joined
and_link before place next = term_link logic.And before place next

abbrev pub expr_step : Expr-F AccessPart ArgPart CmpPart SignPart TermPart AndPart ExprPart PostPart ProdPart SumPart → Binds
expr_step e scope spot = terms_closed logic.Or (fold (λ before (l : Place × Binds). or_link before l.0 (l.1 scope (inside spot.position))) (terms_opened (e.first.1 scope (first_spot e.more spot))) (map {B = Place × Binds} (λ (l : Place × AndPart). (l.0, l.1.1)) e.more))

abbrev pub and_step : And-F AccessPart ArgPart CmpPart SignPart TermPart AndPart ExprPart PostPart ProdPart SumPart → Binds
and_step e scope spot = terms_closed logic.And (fold (λ before (l : Place × Binds). and_link before l.0 (l.1 scope (inside spot.position))) (terms_opened (e.first.1 scope (first_spot e.more spot))) (map {B = Place × Binds} (λ (l : Place × CmpPart). (l.0, l.1.1)) e.more))

-- Comparisons, and calls of `matches regex`, whose sides are not bound. The operands of `in` are the value and the list.

abbrev pub operand_link : Outcome (List Typed) → Outcome Typed → Outcome (List Typed)
operand_link before next = do
  ts ← before
  t ← next
  Ok (ts ++ t ∷ [])

abbrev pub compare_or_match : SumPart → CompareSign → SumPart → Scope → Spot → Option Func → Outcome Typed
compare_or_match s sign other scope spot None = match_bound sign.place scope s.0 other.0
compare_or_match s sign other scope spot (Some f) = compare_node f sign (s.1 scope (inside spot.position)) (other.1 scope (inside spot.position))

abbrev pub cmp_step : Cmp-F AccessPart ArgPart CmpPart SignPart TermPart AndPart ExprPart PostPart ProdPart SumPart → Binds
cmp_step (Cmp-F.«Cmp::Plain» s) scope spot = s.1 scope spot
cmp_step (Cmp-F.Compared s sign other) scope spot = compare_or_match s sign other scope spot (compare_func sign.op)
cmp_step (Cmp-F.In s sign others) scope spot = in_node sign (fold (λ before (e : Binds). operand_link before (e scope (inside spot.position))) (operand_link (Ok []) (s.1 scope (inside spot.position))) (map {B = Binds} (λ (e : ExprPart). e.1) others))
cmp_step (Cmp-F.Between s sign bounds) scope spot = between_node sign (s.1 scope (inside spot.position)) (bounds.0.1 scope (inside spot.position)) (bounds.1.1 scope (inside spot.position))

-- A sum: its products from left to right, each joined at its sign.
abbrev pub sum_sign : SumOp → ChainSign
sum_sign sum_op.Plus = sign.Add
sum_sign sum_op.Minus = sign.Subtract

abbrev pub sum_link : Outcome Chained → SumSign → Outcome Typed → Outcome Chained
sum_link before s next = chain_link (sum_sign s.op) s.place before next

abbrev pub sum_step : Sum-F AccessPart ArgPart CmpPart SignPart TermPart AndPart ExprPart PostPart ProdPart SumPart → Binds
sum_step s scope spot = closed (fold (λ before (l : SumSign × Binds). sum_link before l.0 (l.1 scope (inside spot.position))) (opened (s.first.1 scope (first_spot s.more spot))) (map {B = SumSign × Binds} (λ (l : SumSign × ProdPart). (l.0, l.1.1)) s.more))

-- A product likewise.
abbrev pub prod_sign : ProdOp → ChainSign
prod_sign prod_op.Times = sign.Multiply
prod_sign prod_op.Over = sign.Divide
prod_sign prod_op.Modulo = sign.Modulo

abbrev pub prod_link : Outcome Chained → ProdSign → Outcome Typed → Outcome Chained
prod_link before s next = chain_link (prod_sign s.op) s.place before next

abbrev pub prod_step : Prod-F AccessPart ArgPart CmpPart SignPart TermPart AndPart ExprPart PostPart ProdPart SumPart → Binds
prod_step p scope spot = closed (fold (λ before (l : ProdSign × Binds). prod_link before l.0 (l.1 scope (inside spot.position))) (opened (p.first.1 scope (first_spot p.more spot))) (map {B = ProdSign × Binds} (λ (l : ProdSign × SignPart). (l.0, l.1.1)) p.more))

-- A minus before a term: 404 at the minus.
unfoldable pub negated : Place → Typed → Outcome Typed
negated place t = typed_call place (func.Arithmetic arithmetic.Negate) (t.expr ∷ []) (t.kind ∷ [])

abbrev pub minus_node : Place → Outcome Typed → Outcome Typed
minus_node place next = next >>= λ t. negated place t

abbrev pub sign_step : Sign-F AccessPart ArgPart CmpPart SignPart TermPart AndPart ExprPart PostPart ProdPart SumPart → Binds
sign_step (Sign-F.«Sign::Plain» p) scope spot = p.1 scope spot
sign_step (Sign-F.Minus place p) scope spot = minus_node place (p.1 scope (inside spot.position))

-- A term with looks behind it. A step's name before a `.` reads the step's record, whatever else has that name.

abbrev pub entry_key : Word → Typed
entry_key w = literal_of kind.Text (value.Text w.text)

abbrev pub access_step : Access-F AccessPart ArgPart CmpPart SignPart TermPart AndPart ExprPart PostPart ProdPart SumPart → Look
access_step (Access-F.Entry place w) = record { place = place; entry = Some w; key = λ scope at. Ok (entry_key w) }
access_step (Access-F.Element place e) = record { place = place; entry = None; key = λ scope at. e.1 scope (inside at) }

abbrev pub path_of : Scope → Position → Outcome Typed → List Look → Outcome Typed
path_of scope at first looks = path_closed (fold (λ before (l : Look). look_link l.place before (l.key scope at)) (path_opened first) looks)

abbrev pub path_from : Binds → Scope → Spot → Look → List Look → Option ℕ → Option Word → Outcome Typed
path_from first scope spot l looks (Some i) (Some w) = path_of scope spot.position (step_bound scope.steps i w) looks
path_from first scope spot l looks (Some i) None = path_of scope spot.position (first scope (inside spot.position)) (l ∷ looks)
path_from first scope spot l looks None w = path_of scope spot.position (first scope (inside spot.position)) (l ∷ looks)

abbrev pub post_of : Named → List Look → Binds
post_of first [] scope spot = first.bound scope spot
post_of first (l ∷ looks) scope spot = path_from first.bound scope spot l looks (step_named scope.steps first.name) l.entry

abbrev pub post_step : Post-F AccessPart ArgPart CmpPart SignPart TermPart AndPart ExprPart PostPart ProdPart SumPart → Binds
post_step p scope spot = post_of p.first.1 (map {B = Look} (λ (l : AccessPart). l.1) p.more) scope spot

-- Calls: of `extract`, whose arguments are not bound; of all others the arguments from left to right, and then the node: 402 or 406, 408,
-- 407, 409, 403, 404.

unfoldable pub found_call : Word → Scope → Spot → Args → Found → Outcome Typed
found_call w scope spot a found.Unknown = Err (fault.Refused 402 w.place)
found_call w scope spot a found.Pattern = Err (fault.Refused 420 w.place)
found_call w scope spot a found.Refused = Err (fault.Refused 406 w.place)
found_call w scope spot a (found.Scalar f) = scalar_call w.place f a scope.moment
found_call w scope spot a (found.Window f) = window_call w.place f a scope spot.position
found_call w scope spot a (found.Aggregate f) = aggregate_call w.place f a spot

abbrev pub call_node : Word → Scope → Spot → Found → Outcome Args → Outcome Typed
call_node w scope spot f args = args >>= λ a. found_call w scope spot a f

abbrev pub args_taken : Scope → Slot → Slot → List Takes → Outcome Args
args_taken scope first next [] = Ok no_args
args_taken scope first next (a ∷ more) = fold (λ before (arg : Takes). arg_link scope next before (arg scope next.position)) (arg_link scope first (Ok no_args) (a scope first.position)) more

abbrev pub call_taken : Word → List Takes → Binds
call_taken w args scope spot = call_node w scope spot (found_as w.text) (args_taken scope (first_slot (found_as w.text) spot.position) (next_slot (found_as w.text) spot.position) args)

abbrev pub call_or_extract : Word → List Arg → List Takes → Scope → Spot → Bool → Outcome Typed
call_or_extract w args taken scope spot true = extract_bound w.place scope args
call_or_extract w args taken scope spot false = call_taken w taken scope spot

abbrev pub call_bound : Word → List Arg → List Takes → Binds
call_bound w args taken scope spot = call_or_extract w args taken scope spot (is_extract (found_as w.text))

abbrev pub call_read : Word → List Arg → List Takes → Named
call_read w args taken = record { name = None; bound = call_bound w args taken }

-- Terms. Brackets are as if they were not there: what is in them stands where they do.
abbrev pub term_step : Term-F AccessPart ArgPart CmpPart SignPart TermPart AndPart ExprPart PostPart ProdPart SumPart → Named
term_step (Term-F.Literal l) = record { name = None; bound = λ scope spot. literal_bound l }
term_step (Term-F.Name n) = record { name = Some (text_of n); bound = λ scope spot. name_bound n scope }
term_step (Term-F.Call w args) = call_read w (map {B = Arg} (λ (a : ArgPart). a.0) args) (map {B = Takes} (λ (a : ArgPart). a.1) args)
term_step (Term-F.Group place e) = record { name = None; bound = λ scope spot. e.1 scope spot }

abbrev pub arg_step : Arg-F AccessPart ArgPart CmpPart SignPart TermPart AndPart ExprPart PostPart ProdPart SumPart → Takes
arg_step (Arg-F.«Arg::Plain» e) scope at = plain_arg (e.1 scope (inside at))
arg_step (Arg-F.Star place) scope at = Ok None

-- The levels.

unfoldable pub expr_bound : Expr → Binds
expr_bound = para-Expr Look Takes Binds Binds Named Binds Binds Binds Binds Binds access_step arg_step cmp_step sign_step term_step and_step expr_step post_step prod_step sum_step

unfoldable pub and_bound : And → Binds
and_bound = para-And Look Takes Binds Binds Named Binds Binds Binds Binds Binds access_step arg_step cmp_step sign_step term_step and_step expr_step post_step prod_step sum_step

unfoldable pub cmp_bound : Cmp → Binds
cmp_bound = para-Cmp Look Takes Binds Binds Named Binds Binds Binds Binds Binds access_step arg_step cmp_step sign_step term_step and_step expr_step post_step prod_step sum_step

unfoldable pub sum_bound : Sum → Binds
sum_bound = para-Sum Look Takes Binds Binds Named Binds Binds Binds Binds Binds access_step arg_step cmp_step sign_step term_step and_step expr_step post_step prod_step sum_step

unfoldable pub prod_bound : Prod → Binds
prod_bound = para-Prod Look Takes Binds Binds Named Binds Binds Binds Binds Binds access_step arg_step cmp_step sign_step term_step and_step expr_step post_step prod_step sum_step

unfoldable pub sign_bound : Sign → Binds
sign_bound = para-Sign Look Takes Binds Binds Named Binds Binds Binds Binds Binds access_step arg_step cmp_step sign_step term_step and_step expr_step post_step prod_step sum_step

unfoldable pub post_bound : Post → Binds
post_bound = para-Post Look Takes Binds Binds Named Binds Binds Binds Binds Binds access_step arg_step cmp_step sign_step term_step and_step expr_step post_step prod_step sum_step

unfoldable pub access_read : Access → Look
access_read = para-Access Look Takes Binds Binds Named Binds Binds Binds Binds Binds access_step arg_step cmp_step sign_step term_step and_step expr_step post_step prod_step sum_step

unfoldable pub term_read : Term → Named
term_read = para-Term Look Takes Binds Binds Named Binds Binds Binds Binds Binds access_step arg_step cmp_step sign_step term_step and_step expr_step post_step prod_step sum_step

unfoldable pub arg_bound : Arg → Takes
arg_bound = para-Arg Look Takes Binds Binds Named Binds Binds Binds Binds Binds access_step arg_step cmp_step sign_step term_step and_step expr_step post_step prod_step sum_step

-- What lists of parts are bound to.

unfoldable pub ors_to : Scope → Spot → Outcome Joined → List (Place × And) → Outcome Joined
ors_to scope spot start more = fold (λ before (l : Place × And). or_link before l.0 (and_bound l.1 scope spot)) start more

unfoldable pub ands_to : Scope → Spot → Outcome Joined → List (Place × Cmp) → Outcome Joined
ands_to scope spot start more = fold (λ before (l : Place × Cmp). and_link before l.0 (cmp_bound l.1 scope spot)) start more

unfoldable pub operands_to : Scope → Spot → Outcome (List Typed) → List Expr → Outcome (List Typed)
operands_to scope spot start more = fold (λ before (e : Expr). operand_link before (expr_bound e scope spot)) start more

unfoldable pub links_to : Scope → Spot → Outcome Chained → List (SumSign × Prod) → Outcome Chained
links_to scope spot start more = fold (λ before (l : SumSign × Prod). sum_link before l.0 (prod_bound l.1 scope spot)) start more

unfoldable pub factors_to : Scope → Spot → Outcome Chained → List (ProdSign × Sign) → Outcome Chained
factors_to scope spot start more = fold (λ before (l : ProdSign × Sign). prod_link before l.0 (sign_bound l.1 scope spot)) start more

unfoldable pub term_bound : Term → Binds
term_bound t = (term_read t).bound

unfoldable pub term_name : Term → Option (List ℕ)
term_name t = (term_read t).name

unfoldable pub access_place : Access → Place
access_place a = (access_read a).place

unfoldable pub access_key : Access → Scope → Position → Outcome Typed
access_key a scope at = (access_read a).key scope at

unfoldable pub looks_to : Scope → Position → Outcome Looked → List Access → Outcome Looked
looks_to scope at start more = fold (λ before (a : Access). look_link (access_place a) before (access_key a scope at)) start more

unfoldable pub path_to : Scope → Position → Outcome Typed → List Access → Outcome Typed
path_to scope at first looks = path_closed (looks_to scope at (path_opened first) looks)

unfoldable pub args_to : Scope → Slot → Outcome Args → List Arg → Outcome Args
args_to scope slot start more = fold (λ before (arg : Arg). arg_link scope slot before (arg_bound arg scope slot.position)) start more

unfoldable pub args_of : Scope → Slot → Slot → List Arg → Outcome Args
args_of scope first next [] = Ok no_args
args_of scope first next (a ∷ more) = args_to scope next (arg_link scope first (Ok no_args) (arg_bound a scope first.position)) more

-- The whole: an expression as it stands in its scope.
unfoldable pub bound_expr : Expr → Scope → Outcome Typed
bound_expr e scope = expr_bound e scope (record { position = scope.position; alone = true })
