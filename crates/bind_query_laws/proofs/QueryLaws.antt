-- A query that is bound becomes a program that fits.
use Rattle.std.proofs.Common.{List, [], ◌∷◌}
use Rattle.std.specs.Prelude.{Bool}
use Rattle.std.specs.List.{AllByRecursion}
use Rattle.bind_operators.specs.declared.known.Known.{Known}
use Rattle.bind_query.specs.Pipes.{BindsArg}
use Rattle.bind_query_laws.specs.Laws.{BoundFits}
use Rattle.bind_query_laws.specs.Sound.{IsSoundKnown}
use Rattle.bind_query_laws.proofs.DistinctLaws.{distinct_sound}
use Rattle.bind_query_laws.proofs.ExpandLaws.{mv_expand_sound}
use Rattle.bind_query_laws.proofs.JoinLaws.{join_sound}
use Rattle.bind_query_laws.proofs.ParseLaws.{parse_sound}
use Rattle.bind_query_laws.proofs.PartitionLaws.{partition_sound, union_source_sound}
use Rattle.bind_query_laws.proofs.PipeLaws.{SoundPlan}
use Rattle.bind_query_laws.proofs.ProgramLaws.{bound_fits}
use Rattle.bind_query_laws.proofs.ScanLaws.{scan_sound}
use Rattle.bind_query_laws.proofs.SeriesLaws.{make_series_sound}
use Rattle.bind_query_laws.proofs.SummarizeLaws.{summarize_sound}
use Rattle.bind_query_laws.proofs.TreeLaws.{SoundOthers}
use Rattle.bind_query_laws.proofs.UnionLaws.{SoundArg, union_sound}

-- Tables that are sound wherever they are bound are so here.
args-here : (known : Known) (inside : Bool) → IsSoundKnown known → (ts : List BindsArg) → AllByRecursion (λ (t : BindsArg). SoundPlan t.1) ts → AllByRecursion (SoundArg known inside) ts
args-here known inside sound [] all = tt
args-here known inside sound (t ∷ ts) all = (λ p e. all.0 known inside p sound e, args-here known inside sound ts all.1)

others-sound : SoundOthers
others-sound = record {
  distinct = λ operator d known inside rows b sound names is. distinct_sound operator d known rows b sound names is inside;
  summarize = λ operator s known inside rows b sound names is. summarize_sound operator s known rows b sound names is inside;
  make_series = λ operator s known inside rows b sound names is. make_series_sound operator s known rows b sound names is inside;
  mv_expand = λ operator form items known inside rows b sound names is. mv_expand_sound operator form items known rows b sound names is inside;
  parse = λ operator form e pattern some known inside rows b sound names is. parse_sound operator form e pattern known rows b sound names some is inside;
  scan = λ operator s known inside rows b sound names is. scan_sound operator s known rows b sound names is inside;
  join = λ operator lookup kind on right each known inside rows b sound names is. join_sound operator lookup kind on known inside rows (right known inside) b names (λ r e. each known inside r sound e) is;
  union = λ operator u all known inside rows b sound names is. union_sound operator u known inside rows b names (args-here known inside sound u.1 all) is;
  union_source = λ operator u all known inside p sound is. union_source_sound operator u known inside p (args-here known inside sound u.1 all) is;
  partition = partition_sound;
}

pub query_fits : BoundFits
query_fits = bound_fits others-sound

pub ruleset query_laws = (query_fits)
