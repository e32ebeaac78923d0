-- Threads may share a search of ranges, whose pattern they share.
use denote.Param.Send.{IsSync, recorded_sync, sendable, shr_slice_sync, shr_sync, struct_sync}
use denote.RattleType.{RattleType}
use denote.Ref.{NamedLft}
use denote.Struct.Declared.{shape}
use denote.Struct.Struct.{Struct}
use Rattle.std.proofs.Crossing
use Rattle.crossing_laws.proofs.TableLaws.{vector_sync}
use Rattle.pattern_workers.specs.contracts.answers.Range as Range
use Rattle.pattern_workers.specs.contracts.answers.Searching as Searching

range_sync : IsSync Range.the_row
range_sync = search (Crossing.crosses, sendable) depth 60 fits 20000

pub searching_sync : (κ : NamedLft) (P : RattleType) → IsSync P → IsSync (Searching.the_row κ P)
searching_sync κ P shares =
    let T = Searching.the_type κ P in
    recorded_sync (Struct (shape T)) T.D T.to T.to_one
    (struct_sync (shape T) (
      search (Crossing.crosses, sendable) depth 60 fits 20000,
      (
        shr_sync _ _ _ shares,
        (
          shr_sync _ _ _ vector_sync,
          (
            search (Crossing.crosses, sendable) depth 60 fits 20000,
            (
              shr_slice_sync _ _ _ range_sync,
              (search (Crossing.crosses, sendable) depth 60 fits 20000, tt),
            ),
          ),
        ),
      ),
    ))
