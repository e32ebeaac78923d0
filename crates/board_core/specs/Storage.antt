use Rattle.std.specs.Prelude.{◌≡◌, ◌^◌, ◌<◌, length}
use Rattle.board_core.specs.declared.machine.Core.TheInside.{Inside}
use Rattle.board_core.specs.State.{State, IsReached}
use Rattle.board_core.specs.Lists.{contents, HaveRoom}

-- the state that the fields of a core keep
abbrev pub state_of : Inside → State
state_of a =
    record {
      next = a.next;
      claims = contents a.claims.items;
      open_claims = a.open_claims.items;
      ended = a.ended.items;
      slots = a.slots.items;
    }

-- the state was reached by events, each worker stands in all three lists and has room for every piece
pub record IsStored (a : Inside) : Type 0 where
  pub reached : IsReached (state_of a)
  pub open_list : length a.open_claims.items ≡ length a.claims.items
  pub ended_list : length a.ended.items ≡ length a.claims.items
  pub room : HaveRoom (length a.slots.items) a.claims.items
  pub small : length a.slots.items < 2 ^ 32
