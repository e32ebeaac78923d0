-- What the program asks of a type, where it names the question.
use Rattle.std.specs.Prelude.{Bool}
use Rattle.kql_cells.specs.declared.value.Kind.{Kind}
use Rattle.kql_functions.specs.Kinds.{has_order, same_kind}
use Rattle.kql_meaning.specs.FittingExpressions.{is_addable, is_any, is_key}
use Rattle.kql_fits.specs.declared.kind_tests.KindTest.{KindTest}
use Rattle.kql_fits.specs.declared.kind_tests.KindTest.TheVariants as test

-- Whether a type is as asked.
abbrev pub meets : KindTest → Kind → Bool
meets (test.This k) = same_kind k
meets test.Key = is_key
meets test.Ordered = has_order
meets test.Addable = is_addable
meets test.Any = is_any
