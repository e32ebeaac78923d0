-- A whole query from its statements and its last pipe.
use Rattle.std.proofs.Common.{◌≡◌, List, refl, subst}
use Rattle.std.specs.Prelude.{ℤ, false, Ok, Err, Option}
use Rattle.kql_bound.specs.declared.plan.Program.{Program}
use Rattle.kql_cells.specs.declared.schemas.NamedSchema.{NamedSchema}
use Rattle.kql_syntax.specs.declared.query.Query.{Query}
use Rattle.bind_expr.specs.Outcome.{Answers, Outcome, ◌>>=◌}
use Rattle.bind_expr.specs.declared.fault.BindFault.{BindFault}
use Rattle.bind_operators.specs.declared.bound.BoundPlan.{BoundPlan}
use Rattle.bind_operators.specs.declared.known.Known.{Known}
use Rattle.bind_operators.proofs.AnswerSteps.{goes_through, passes_on}
use Rattle.bind_query.specs.declared.bound.BoundStatements.{BoundStatements}
use Rattle.bind_query.specs.Bound.{bound, known_at_first, lets_bound, program_of}
use Rattle.bind_query.specs.Operators.{pipe_bound}
use Rattle.bind_query.proofs.LetSteps.{tables-stay}

-- The last pipe under the statements, and then the program.
abbrev after : List NamedSchema → Query → BoundStatements → Outcome Program
after schemas q done = pipe_bound q.main done.known false >>= λ main. Ok (program_of schemas done main)

tables-of : (q : Query) (schemas : List NamedSchema) (moment : Option ℤ) (done : BoundStatements) → lets_bound q.lets (known_at_first schemas moment) ≡ Ok done → done.known.tables ≡ schemas
unfolding known_at_first
tables-of q schemas moment done is = tables-stay q.lets (known_at_first schemas moment) done is

pub bound-whole : (q : Query) (schemas : List NamedSchema) (moment : Option ℤ) (known : Known) (lets : Outcome BoundStatements) (done : BoundStatements) (pipe : Outcome BoundPlan) (main : BoundPlan) (result : Outcome Program) → known ≡ known_at_first schemas moment → lets ≡ Ok done → Answers lets (lets_bound q.lets known) → pipe ≡ Ok main → Answers pipe (pipe_bound q.main done.known false) → Answers result (Ok (program_of done.known.tables done main)) → Answers result (bound q schemas moment)
unfolding bound
bound-whole q schemas moment known lets done pipe main result same is a some b h =
    let there : Answers (Ok done) (lets_bound q.lets (known_at_first schemas moment)) = subst (λ (k : Known). Answers (Ok done) (lets_bound q.lets k)) same (subst (λ s. Answers s (lets_bound q.lets known)) is a) in
    let stay : done.known.tables ≡ schemas = tables-of q schemas moment done (there.holds) in
    let made : Answers result (Ok (program_of schemas done main)) = subst (λ (ts : List NamedSchema). Answers result (Ok (program_of ts done main))) stay h in
    let one = goes_through pipe (pipe_bound q.main done.known false) main (λ m. Ok (program_of schemas done m)) result some b made in
    goes_through (Ok done) (lets_bound q.lets (known_at_first schemas moment)) done (after schemas q) result refl there one

pub bound-main-fault : (q : Query) (schemas : List NamedSchema) (moment : Option ℤ) (known : Known) (lets : Outcome BoundStatements) (done : BoundStatements) (pipe : Outcome BoundPlan) (f : BindFault) → known ≡ known_at_first schemas moment → lets ≡ Ok done → Answers lets (lets_bound q.lets known) → pipe ≡ Err f → Answers pipe (pipe_bound q.main done.known false) → Answers (Err f) (bound q schemas moment)
unfolding bound
bound-main-fault q schemas moment known lets done pipe f same is a none b =
    let there : Answers (Ok done) (lets_bound q.lets (known_at_first schemas moment)) = subst (λ (k : Known). Answers (Ok done) (lets_bound q.lets k)) same (subst (λ s. Answers s (lets_bound q.lets known)) is a) in
    goes_through (Ok done) (lets_bound q.lets (known_at_first schemas moment)) done (after schemas q) (Err f) refl there
    (passes_on pipe (pipe_bound q.main done.known false) f (λ m. Ok (program_of schemas done m)) none b)

pub bound-let-fault : (q : Query) (schemas : List NamedSchema) (moment : Option ℤ) (known : Known) (lets : Outcome BoundStatements) (f : BindFault) → known ≡ known_at_first schemas moment → lets ≡ Err f → Answers lets (lets_bound q.lets known) → Answers (Err f) (bound q schemas moment)
unfolding bound
bound-let-fault q schemas moment known lets f same is a =
    passes_on lets (lets_bound q.lets (known_at_first schemas moment)) f (after schemas q) is (subst (λ (k : Known). Answers lets (lets_bound q.lets k)) same a)

pub ruleset bind_steps = (bound-whole, bound-main-fault, bound-let-fault)
