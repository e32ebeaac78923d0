-- The grammar of a query: let statements, and a pipe.
use Rattle.std.specs.Prelude.{[], ◌∷◌, Option, Some, None}
use Rattle.kql_lexer.specs.declared.keyword.Keyword.TheVariants as word
use Rattle.kql_syntax.specs.declared.class.Class.TheVariants as class
use Rattle.kql_syntax.specs.declared.tree.Expr.{Expr}
use Rattle.kql_syntax.specs.declared.tree.Name.{Name}
use Rattle.kql_syntax.specs.declared.query.Query.{Query}
use Rattle.kql_syntax.specs.declared.query.Let.{Let}
use Rattle.kql_syntax.specs.declared.query.LetBody.{LetBody}
use Rattle.kql_syntax.specs.declared.query.LetBody.TheVariants as letbody
use Rattle.kql_syntax.specs.declared.query.Pipe.{Pipe, roll-Pipe}
use Rattle.kql_syntax.specs.declared.query.Source.TheVariants as source
use Rattle.kql_parser.specs.Alone.{name_alone}
use Rattle.kql_syntax.specs.Levels.{Level}
use Rattle.kql_syntax.specs.Forms.{Form, level, pair, either, option, many, makes, mark, before}

-- the table of a name
abbrev pub table_body : Name → LetBody
table_body n = letbody.Pipe (roll-Pipe (record { source = source.Table n; ops = [] }))

-- the table of this name, or else the expression
abbrev pub table_or : Expr → Option Name → LetBody
table_or e (Some n) = table_body n
table_or e None = letbody.Expr e

-- an expression as the body of a let statement: a name alone is a pipe
abbrev pub body_of : Expr → LetBody
body_of e = table_or e (name_alone e)

abbrev pub let_body : Form LetBody
let_body = either (makes letbody.Pipe (level Level.Pipe)) (makes body_of (level Level.Expr))

abbrev pub let_statement : Form Let
let_statement =
    makes (λ p. record { place = p.0; name = p.1.0; body = p.1.1 })
    (pair (mark (class.Key word.Let ∷ []))
    (pair (before (level Level.Name) (class.Assign ∷ [])) (before let_body (class.Semicolon ∷ []))))

-- a pipe, and perhaps a semicolon
abbrev pub main_pipe : Form Pipe
main_pipe = makes (λ p. p.0) (pair (level Level.Pipe) (option (mark (class.Semicolon ∷ []))))

-- let statements, a pipe, perhaps a semicolon, and the end mark
abbrev pub query : Form Query
query = makes (λ p. record { lets = p.0; main = p.1 }) (pair (many let_statement) (before main_pipe (class.End ∷ [])))
