use Rattle.std.proofs.Common.{length, subst, sym}
use Rattle.kql_cells.specs.Named.{HasDistinctNames, column_name}
use Rattle.summarize_pieces.specs.Pieces.{AreGroupsOf}
use Rattle.summarize_pieces_tests.proofs.PieceFacts.{both-range, few-rows, neighbours, whole-groups}
use Rattle.summarize_pieces_tests.proofs.pieces.finished.Goals as goal

pub join_groups-requires-clause-neighbours : goal.join_groups-requires-clause-neighbours
join_groups-requires-clause-neighbours c =
    let t = c.args.t.now in
    let g = c.args.g.now in
    let names = subst (HasDistinctNames column_name) c.schema.ensures.columns c.columns-columns.ensures.distinct in
    neighbours g t c.args.middle c.in_ok-a.a c.in_ok-b.b c.requires.fits names c.schema.ensures.fits c.requires.within (subst (AreGroupsOf g t 0 c.args.middle) (sym c.in_ok-a.ensures.same) c.requires.kept) (c.in_ok-b.ensures.groups g t c.args.middle (length t.lines) c.requires.second)

pub join_groups-requires-clause-few : goal.join_groups-requires-clause-few
join_groups-requires-clause-few c =
    let t = c.args.t.now in
    let g = c.args.g.now in
    few-rows g t c.args.middle c.len-count.result c.in_ok-a.a c.in_ok-b.b (subst (AreGroupsOf g t 0 c.args.middle) (sym c.in_ok-a.ensures.same) c.requires.kept) (c.in_ok-b.ensures.groups g t c.args.middle (length t.lines) c.requires.second) c.requires.within c.len-count.ensures.count c.len-count.ensures.small

pub finish_groups-requires-clause-groups : goal.finish_groups-requires-clause-groups
finish_groups-requires-clause-groups c =
    let t = c.args.t.now in
    let g = c.args.g.now in
    let names = subst (HasDistinctNames column_name) c.schema.ensures.columns c.columns-columns.ensures.distinct in
    let all = both-range g t c.args.middle c.in_ok-a.a c.in_ok-b.b c.in_ok-both.both c.requires.fits names c.schema.ensures.fits c.requires.within (subst (AreGroupsOf g t 0 c.args.middle) (sym c.in_ok-a.ensures.same) c.requires.kept) (c.in_ok-b.ensures.groups g t c.args.middle (length t.lines) c.requires.second) c.in_ok-both.ensures.range in
    whole-groups g t c.schema-2.result.now c.in_ok-both.both names c.schema.ensures.fits c.schema-2.ensures.columns all

pub returns : goal.returns
returns c =
    let t = c.args.t.now in
    let g = c.args.g.now in
    let names = subst (HasDistinctNames column_name) c.schema.ensures.columns c.columns-columns.ensures.distinct in
    let all = both-range g t c.args.middle c.in_ok-a.a c.in_ok-b.b c.in_ok-both.both c.requires.fits names c.schema.ensures.fits c.requires.within (subst (AreGroupsOf g t 0 c.args.middle) (sym c.in_ok-a.ensures.same) c.requires.kept) (c.in_ok-b.ensures.groups g t c.args.middle (length t.lines) c.requires.second) c.in_ok-both.ensures.range in
    record { whole = c.finish_groups.ensures.rows t (names, c.schema.ensures.fits) (sym c.schema-2.ensures.columns) all.groups }
