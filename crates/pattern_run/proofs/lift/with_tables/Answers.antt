use Rattle.std.proofs.Common.{◌++◌}
use Rattle.std.proofs.lemmas.Option.{MatchOption-at_none}
use Rattle.kql_values.specs.Kept.{all_named}
use Rattle.pattern_run.proofs.TakenTables.{absent-taken, all-taken, none-taken, one-taken}
use Rattle.pattern_run.proofs.lift.with_tables.Goals as goal

pub tables-init : goal.tables-init
tables-init c = none-taken c.args.catalogue c.args.tables c.reverse.new.self c.reverse.ensures.turned

pub tables-preserved : goal.tables-preserved
tables-preserved c =
    one-taken c.tables.all c.push.new.self (c.args.catalogue ++ all_named c.args.tables) c.tables.left c.pop.new.self c.in-Some.named c.in-Some.ensures.last c.in_ok-push.ensures.added c.tables.invariant

pub push-requires : goal.push-requires
push-requires c =
    absent-taken c.tables.all (c.args.catalogue ++ all_named c.args.tables) c.tables.left c.pop.new.self c.in-Some.named c.in-Some.ensures.last c.tables.invariant c.requires.distinct

pub returns : goal.returns
returns c = record {
  tables = all-taken c.tables.all (c.args.catalogue ++ all_named c.args.tables) c.tables.left (MatchOption-at_none _ _ c.in_default.is c.pop.ensures.last).0 c.tables.invariant;
}
