-- What a seat knows at first, and after each kind of step
use Rattle.std.specs.Prelude.{List, [], ◌++◌, Some, None, true, false}
use Rattle.kql_cells.specs.Table.{Grid}
use Rattle.live_catalogue.specs.declared.known.Known.{Known}

module _ {V : Type 0} where
  abbrev pub nothing : Known V
  nothing = record { opening = None; batches = []; appends = false; closed = false }

  -- the appender's seat, before the first batch
  abbrev pub appending : V → Known V
  appending opening = record { opening = Some opening; batches = []; appends = true; closed = false }

  abbrev pub with_batches : Known V → List Grid → Known V
  with_batches v more = record v { batches = v.batches ++ more }

  -- a note has what the appender knows, and does not append
  abbrev pub noted : Known V → Known V
  noted v = record v { appends = false }

  abbrev pub closed_at : Known V → Known V
  closed_at v = record v { closed = true }

  abbrev pub with_last_note : Known V → Known V
  with_last_note v = record v { appends = false; closed = true }

  -- a seat that knows nothing takes over what the other knows
  abbrev pub told : Known V → Known V → Known V
  told v w = w
