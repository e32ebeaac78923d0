-- Let statements: the name that a pipe is, and statements one after another.
use Rattle.std.proofs.Common.{◌≡◌, ◌<◌, ◌≤◌, ◌+◌, ℕ, List, [], ◌∷◌, take, get_or, length, refl, sym, ap, ◌∙◌, subst, arith}
use Rattle.std.specs.Prelude.{false, Ok, Err, Option, None, Some, IfOk, fold}
use Rattle.std.proofs.lemmas.List.Sums.{fold_more}
use Rattle.kql_bound.specs.declared.literal.Lit.{Lit}
use Rattle.kql_cells.specs.declared.schemas.NamedSchema.{NamedSchema}
use Rattle.kql_lexer.specs.declared.place.Place.{Place}
use Rattle.kql_syntax.specs.declared.query.Item.{Item}
use Rattle.kql_syntax.specs.declared.query.Let.{Let}
use Rattle.kql_syntax.specs.declared.query.LetBody.{LetBody}
use Rattle.kql_syntax.specs.declared.query.LetBody.TheVariants as body
use Rattle.kql_syntax.specs.declared.query.Op.{Op}
use Rattle.kql_syntax.specs.declared.query.Op.TheOpen.{Source-F}
use Rattle.kql_syntax.specs.declared.query.Pipe.{Pipe, out-Pipe}
use Rattle.kql_syntax.specs.declared.query.Range.{Range}
use Rattle.kql_syntax.specs.declared.query.Source.{out-Source, out-roll-Source}
use Rattle.kql_syntax.specs.declared.query.Source.TheVariants as SourceV
use Rattle.kql_syntax.specs.declared.query.Union.{Union}
use Rattle.kql_syntax.specs.declared.tree.Expr.{Expr}
use Rattle.kql_syntax.specs.declared.tree.Name.{Name}
use Rattle.bind_expr.specs.Names.{text_of}
use Rattle.bind_expr.specs.Outcome.{Answers, Outcome, ◌>>=◌}
use Rattle.bind_expr.specs.declared.fault.BindFault.{BindFault}
use Rattle.bind_expr.proofs.AnswerFacts.{answers-along, goes_along}
use Rattle.bind_operators.specs.declared.bound.BoundPlan.{BoundPlan}
use Rattle.bind_operators.specs.declared.known.Known.{Known}
use Rattle.bind_operators.specs.declared.shape.Shape.{Shape}
use Rattle.bind_operators.specs.declared.wanted.Wanted.TheVariants as wanted
use Rattle.bind_operators.specs.Faults.{unless}
use Rattle.bind_operators.specs.Known.{no_rows, table_named}
use Rattle.bind_operators.specs.Wanted.{constant_bound}
use Rattle.bind_query.specs.declared.bound.BoundStatements.{BoundStatements}
use Rattle.bind_query.specs.Bound.{lets_bound, next_let, no_statements}
use Rattle.bind_query.specs.Lets.{body_bound, constant_let, constant_named, if_alone, let_bound, let_faults, name_alone, name_let, name_of_source, pipe_let, source_name, table_let, with_constant, with_table}
use Rattle.bind_query.specs.Operators.{pipe_bound}

-- The name that a pipe is.

pub name-Table : (n : Name) → source_name (SourceV.Table n) ≡ Some n
unfolding source_name
name-Table n = ap name_of_source (ap out-Source (sym (SourceV.rolls-Table n)) ∙ out-roll-Source (Source-F.«Source::Table» n))

pub name-Range : (place : Place) (r : Range) → source_name (SourceV.Range place r) ≡ None
unfolding source_name
name-Range place r = ap name_of_source (ap out-Source (sym (SourceV.rolls-Range place r)) ∙ out-roll-Source (Source-F.Range place r))

pub name-Print : (place : Place) (items : List Item) → source_name (SourceV.Print place items) ≡ None
unfolding source_name
name-Print place items = ap name_of_source (ap out-Source (sym (SourceV.rolls-Print place items)) ∙ out-roll-Source (Source-F.Print place items))

pub name-Union : (place : Place) (u : Union) → source_name (SourceV.Union place u) ≡ None
unfolding source_name
name-Union place u = ap name_of_source (ap out-Source (sym (SourceV.rolls-Union place u)) ∙ out-roll-Source (Source-F.«Source::Union» place u))

pub ruleset source_steps = (name-Table, name-Range, name-Print, name-Union)

alone-if : {A : Type 0} (xs : List A) (n : Option Name) → length xs ≡ 0 → if_alone xs n ≡ n
alone-if [] n e = refl
alone-if (x ∷ xs) n e = absurd (omega (arith, e))

alone-not : {A : Type 0} (xs : List A) (n : Option Name) → 1 ≤ length xs → if_alone xs n ≡ None
alone-not [] n e = absurd (omega (arith, e))
alone-not (x ∷ xs) n e = refl

pub name-alone : (p : Pipe) (ops : List Op) (n : Option Name) → ops ≡ (out-Pipe p).ops → length ops ≡ 0 → n ≡ source_name (out-Pipe p).source → n ≡ name_alone p
unfolding name_alone
name-alone p ops n same none is = is ∙ sym (alone-if (out-Pipe p).ops (source_name (out-Pipe p).source) (ap (λ (os : List Op). length os) (sym same) ∙ none))

pub name-none : (p : Pipe) (ops : List Op) → ops ≡ (out-Pipe p).ops → 1 ≤ length ops → None ≡ name_alone p
unfolding name_alone
name-none p ops same some = sym (alone-not (out-Pipe p).ops (source_name (out-Pipe p).source) (subst (λ (os : List Op). 1 ≤ length os) same some))

pub ruleset alone_steps = (name-alone, name-none)

-- A let of a pipe.

pub pipe-table : (statement : Place) (n : List ℕ) (done : BoundStatements) (p : Pipe) (bound : Outcome BoundPlan) (result : Outcome BoundStatements) → None ≡ name_alone p → Answers bound (pipe_bound p done.known false) → Answers result (table_let n done bound) → Answers result (pipe_let statement n done p (name_alone p))
unfolding table_let
pipe-table statement n done p bound result is a h =
    answers-along result (table_let n done (pipe_bound p done.known false)) (pipe_let statement n done p (name_alone p))
    (goes_along (λ b. table_let n done b) refl bound (pipe_bound p done.known false) result a h)
    (ap (λ (m : Option Name). pipe_let statement n done p m) is)

pub pipe-name : (statement : Place) (n : List ℕ) (done : BoundStatements) (p : Pipe) (other : Name) (result : Outcome BoundStatements) → Some other ≡ name_alone p → Answers result (name_let statement n done other (table_named done.known (text_of other))) → Answers result (pipe_let statement n done p (name_alone p))
pipe-name statement n done p other result is h =
    answers-along result (name_let statement n done other (table_named done.known (text_of other))) (pipe_let statement n done p (name_alone p)) h
    (ap (λ (m : Option Name). pipe_let statement n done p m) is)

pub ruleset pipe_steps = (pipe-table, pipe-name)

-- A constant, which may be refused.
constant-on : (n : List ℕ) (done : BoundStatements) (l d : Outcome Lit) (result : Outcome BoundStatements) → Answers l d → Answers result (constant_let n done l) → Answers result (constant_let n done d)
unfolding constant_let
constant-on n done l d result a h = goes_along (λ x. constant_let n done x) refl l d result a h

pub name-constant : (statement : Place) (n : List ℕ) (done : BoundStatements) (other : Name) (l : Outcome Lit) (result : Outcome BoundStatements) → None ≡ table_named done.known (text_of other) → Answers l (constant_named statement done.known other) → Answers result (constant_let n done l) → Answers result (name_let statement n done other (table_named done.known (text_of other)))
name-constant statement n done other l result is a h =
    answers-along result (constant_let n done (constant_named statement done.known other)) (name_let statement n done other (table_named done.known (text_of other)))
    (constant-on n done l (constant_named statement done.known other) result a h)
    (ap (λ (o : Option BoundPlan). name_let statement n done other o) is)

pub body-pipe : (statement : Place) (n : List ℕ) (b : LetBody) (p : Pipe) (done : BoundStatements) (result : Outcome BoundStatements) → b ≡ body.Pipe p → Answers result (pipe_let statement n done p (name_alone p)) → Answers result (body_bound statement n b done)
unfolding body_bound
body-pipe statement n b p done result is h = rw is h

pub body-expr : (statement : Place) (n : List ℕ) (b : LetBody) (e : Expr) (done : BoundStatements) (rows : Shape) (l : Outcome Lit) (result : Outcome BoundStatements) → b ≡ body.Expr e → rows ≡ no_rows → Answers l (constant_bound statement wanted.Any done.known rows e) → Answers result (constant_let n done l) → Answers result (body_bound statement n b done)
unfolding body_bound
body-expr statement n b e done rows l result is same a h =
    rw is (constant-on n done l (constant_bound statement wanted.Any done.known no_rows e) result (subst (λ r. Answers l (constant_bound statement wanted.Any done.known r e)) same a) h)

pub ruleset body_steps = (body-pipe, body-expr)

-- Statements one after another.

pub lets-start : (known : Known) (done : BoundStatements) → done ≡ no_statements known → Answers (Ok done) (lets_bound [] known)
unfolding lets_bound
lets-start known done is = record { holds = ap (λ d. Ok d) (sym is) }

pub lets-turn : (lets : List Let) (known : Known) (i : ℕ) (d : Let) (before result : Outcome BoundStatements) → i < length lets → Answers before (lets_bound (take i lets) known) → Answers result (next_let (get_or lets i d) before) → Answers result (lets_bound (take (i + 1) lets) known)
unfolding lets_bound next_let
lets-turn lets known i d before result l a h =
    let first : Outcome BoundStatements = lets_bound (take i lets) known in
    answers-along result (next_let (get_or lets i d) first) (lets_bound (take (i + 1) lets) known)
    (goes_along (λ b. next_let (get_or lets i d) b) refl before first result a h)
    (sym (fold_more (λ before (l : Let). next_let l before) (Ok (no_statements known)) lets i d l))

pub ruleset lets_steps = (lets-start, lets-turn)

-- Statements leave the tables that are handed in.

abbrev keeps : List NamedSchema → BoundStatements → Type 0
keeps tables d = d.known.tables ≡ tables

table-keeps : (n : List ℕ) (done : BoundStatements) (p : Outcome BoundPlan) → IfOk (table_let n done p) (keeps done.known.tables)
unfolding table_let with_table
table-keeps n done (Ok p) = refl
table-keeps n done (Err f) = tt

constant-keeps : (n : List ℕ) (done : BoundStatements) (l : Outcome Lit) → IfOk (constant_let n done l) (keeps done.known.tables)
unfolding constant_let with_constant
constant-keeps n done (Ok l) = refl
constant-keeps n done (Err f) = tt

name-keeps : (statement : Place) (n : List ℕ) (done : BoundStatements) (other : Name) (o : Option BoundPlan) → IfOk (name_let statement n done other o) (keeps done.known.tables)
name-keeps statement n done other (Some p) = table-keeps n done (Ok p)
name-keeps statement n done other None = constant-keeps n done (constant_named statement done.known other)

pipe-keeps : (statement : Place) (n : List ℕ) (done : BoundStatements) (p : Pipe) (o : Option Name) → IfOk (pipe_let statement n done p o) (keeps done.known.tables)
pipe-keeps statement n done p None = table-keeps n done (pipe_bound p done.known false)
pipe-keeps statement n done p (Some other) = name-keeps statement n done other (table_named done.known (text_of other))

body-keeps : (statement : Place) (n : List ℕ) (b : LetBody) (done : BoundStatements) → IfOk (body_bound statement n b done) (keeps done.known.tables)
unfolding body_bound
body-keeps statement n (body.Pipe p) done = pipe-keeps statement n done p (name_alone p)
body-keeps statement n (body.Expr e) done = constant-keeps n done (constant_bound statement wanted.Any done.known no_rows e)

after-keeps : (fs : List BindFault) (tables : List NamedSchema) (done : BoundStatements) (k : BoundStatements → Outcome BoundStatements) → IfOk (k done) (keeps tables) → IfOk (unless fs done >>= k) (keeps tables)
unfolding unless
after-keeps [] tables done k h = h
after-keeps (f ∷ fs) tables done k h = tt

let-keeps : (l : Let) (tables : List NamedSchema) (before : Outcome BoundStatements) → IfOk before (keeps tables) → IfOk (next_let l before) (keeps tables)
unfolding next_let let_bound
let-keeps l tables (Ok done) h =
    after-keeps (let_faults done.known l.name) tables done (body_bound l.place (text_of l.name) l.body)
    (subst (λ (ts : List NamedSchema). IfOk (body_bound l.place (text_of l.name) l.body done) (keeps ts)) h (body-keeps l.place (text_of l.name) l.body done))
let-keeps l tables (Err f) h = tt

lets-keep : (lets : List Let) (tables : List NamedSchema) (start : Outcome BoundStatements) → IfOk start (keeps tables) → IfOk (fold (λ before (l : Let). next_let l before) start lets) (keeps tables)
lets-keep [] tables start h = h
lets-keep (l ∷ ls) tables start h = lets-keep ls tables (next_let l start) (let-keeps l tables start h)

of-ok : (tables : List NamedSchema) (o : Outcome BoundStatements) (d : BoundStatements) → o ≡ Ok d → IfOk o (keeps tables) → d.known.tables ≡ tables
of-ok tables o d is h = rw is at h

pub tables-stay : (lets : List Let) (known : Known) (done : BoundStatements) → lets_bound lets known ≡ Ok done → done.known.tables ≡ known.tables
unfolding lets_bound no_statements
tables-stay lets known done is = of-ok known.tables (lets_bound lets known) done is (lets-keep lets known.tables (Ok (no_statements known)) refl)
