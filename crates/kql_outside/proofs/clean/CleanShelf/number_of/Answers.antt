use Rattle.std.proofs.Common.{sym, ap, ◌∙◌}
use Rattle.std.specs.Prelude.{position}
use Rattle.std.specs.Option.{option_map}
use Rattle.kql_outside.specs.Memory.{path_and_bytes}
use Rattle.kql_outside.proofs.Files.{file_of-position}
use Rattle.kql_outside.proofs.clean.CleanShelf.number_of.Goals as goal

pub returns-clause-bytes : goal.returns-clause-bytes
returns-clause-bytes c =
    let first = c.place_of.ensures ∙ ap (position _) c.deref.ensures.value in
    rw (← c.self.view_is) (file_of-position path_and_bytes c.self.inside.files.items c.args.path.now ∙ ap (option_map _) (sym first))
