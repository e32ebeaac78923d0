use Rattle.std.proofs.Common.{rules}
use Rattle.board_core.proofs.ListLemmas.{contents_push}
use Rattle.board_core.proofs.lists.add_to_list.Goals as goal

pub returns-clause-added : goal.returns-clause-added
returns-clause-added c =
    contents_push c.args.lists.now.items c.args.at c.index_mut.result.now c.push.new.self c.args.number (search rules) (search rules) (search rules)
