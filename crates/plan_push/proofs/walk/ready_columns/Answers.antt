use Rattle.std.proofs.Common.{◌≡◌, ◌∙◌, sym}
use Rattle.kql_meaning.specs.Fits.{known_of}
use Rattle.plan_push.proofs.ReadySteps.{ready-found, ready-free}
use Rattle.plan_push.proofs.walk.ready_columns.Goals as goal

pub returns-then-not-asks_columns : goal.returns-then-not-asks_columns
returns-then-not-asks_columns c = record { ready = λ cs b. ready-free (known_of c.args.tables.now c.args.lets.now) cs c.args.before.now c.args.passed.now c.args.x.now (sym c.asks_columns.ensures.asks ∙ c.if-not-asks_columns.true) b }

pub returns : goal.returns
returns c = record { ready = λ cs b. ready-found (known_of c.args.tables.now c.args.lets.now) cs c.find_columns.new.before c.args.passed.now c.args.x.now (c.in_ok-find_columns.ensures.found cs b) }
