-- The tree of each level.
use Rattle.kql_syntax.specs.Levels.{Level}
use Rattle.kql_syntax.specs.declared.tree.Expr.{Expr}
use Rattle.kql_syntax.specs.declared.tree.And.{And}
use Rattle.kql_syntax.specs.declared.tree.Cmp.{Cmp}
use Rattle.kql_syntax.specs.declared.tree.Sum.{Sum}
use Rattle.kql_syntax.specs.declared.tree.Prod.{Prod}
use Rattle.kql_syntax.specs.declared.tree.Sign.{Sign}
use Rattle.kql_syntax.specs.declared.tree.Post.{Post}
use Rattle.kql_syntax.specs.declared.tree.Access.{Access}
use Rattle.kql_syntax.specs.declared.tree.Term.{Term}
use Rattle.kql_syntax.specs.declared.tree.Arg.{Arg}
use Rattle.kql_syntax.specs.declared.tree.Name.{Name}
use Rattle.kql_syntax.specs.declared.query.Item.{Item}
use Rattle.kql_syntax.specs.declared.query.TableArg.{TableArg}
use Rattle.kql_syntax.specs.declared.query.Source.{Source}
use Rattle.kql_syntax.specs.declared.query.Pipe.{Pipe}
use Rattle.kql_syntax.specs.declared.query.Op.{Op}

abbrev pub Tree : Level → Type 0
Tree Level.Expr = Expr
Tree Level.And = And
Tree Level.Cmp = Cmp
Tree Level.Sum = Sum
Tree Level.Prod = Prod
Tree Level.Sign = Sign
Tree Level.Post = Post
Tree Level.Access = Access
Tree Level.Term = Term
Tree Level.Arg = Arg
Tree Level.Name = Name
Tree Level.Item = Item
Tree Level.TableArg = TableArg
Tree Level.Source = Source
Tree Level.Pipe = Pipe
Tree Level.Op = Op
