use Rattle.std.proofs.Common.{None, [], ap}
use Rattle.kql_cells.specs.declared.value.Value.TheVariants as val
use Rattle.kql_values.specs.Stores.{bool_value, number_value, text_value, values_of}
use Rattle.kql_values.proofs.StoreFacts.{picked-as}
use Rattle.kql_values.proofs.store.Store.gather.Goals as goal

pub returns-in_ok-gather_bools-in-Bools : goal.returns-in_ok-gather_bools-in-Bools
returns-in_ok-gather_bools-in-Bools c =
    record { cells = picked-as bool_value c.in-Bools.bools (values_of c.args.self.now) None val.Null c.args.places.now _ (ap values_of c.in-Bools.is) c.requires c.in_ok-gather_bools-in-Bools.ensures }

pub returns-in_ok-gather-in-Numbers : goal.returns-in_ok-gather-in-Numbers
returns-in_ok-gather-in-Numbers c =
    record { cells = picked-as (number_value c.in-Numbers.kind) c.in-Numbers.numbers (values_of c.args.self.now) None val.Null c.args.places.now _ (ap values_of c.in-Numbers.is) c.requires c.in_ok-gather-in-Numbers.ensures.rows }

pub returns-in_ok-gather-in-Texts : goal.returns-in_ok-gather-in-Texts
returns-in_ok-gather-in-Texts c =
    record { cells = picked-as text_value c.in-Texts.texts (values_of c.args.self.now) [] val.Null c.args.places.now _ (ap values_of c.in-Texts.is) c.requires c.in_ok-gather-in-Texts.ensures.rows }
