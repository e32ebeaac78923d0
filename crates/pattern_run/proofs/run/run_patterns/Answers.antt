use Rattle.std.proofs.Common.{◌≡◌, true, false, List, [], map, length, sym, ap, ap₂, ◌∙◌, subst}
use Rattle.kql_cells.specs.Catalogues.{schemas_of}
use Rattle.kql_values.specs.Kept.{all_named}
use Rattle.pattern_lift.specs.declared.calls.PatternCall.{PatternCall}
use Rattle.pattern_lift.specs.Derived.{derived}
use Rattle.pattern_run.specs.Patterned.{IsRefusalIn, calls_of_program, finds_of, marks_for, told_by}
use Rattle.pattern_run.proofs.MadePatterns.{judged-of, made-of, none-called}
use Rattle.pattern_run.proofs.RunSteps.{as-many-made, can-lift, derived-same, lifted-at, lifts, ready-at, refused-same, refuses, schemas-at, stays, tables-at, unlifted-at, unmade}
use Rattle.pattern_run.proofs.MeaningLaws.{given-means, grids-at}
use Rattle.pattern_run.proofs.SameCalls.{called, calls-by}
use Rattle.pattern_run.proofs.run.run_patterns.Goals as goal

pub returns-then-is_empty-clause-lifted : goal.returns-then-is_empty-clause-lifted
returns-then-is_empty-clause-lifted g c =
    let is = c.in_ok-calls.ensures.calls ∙ ap calls_of_program c.get.ensures.value in
    stays (g.P.PatternMaker.found c.args.patterns.now) c.args.tokens.now c.args.program c.args.catalogue c.in_ok-calls.calls is (c.is_empty.ensures.empty.0 c.if-is_empty.true)

pub returns-then-is_empty-clause-means : goal.returns-then-is_empty-clause-means
returns-then-is_empty-clause-means g c = given-means (g.P.PatternMaker.found c.args.patterns.now) c.args.tokens.now c.args.program c.args.catalogue (record { program = c.args.program; catalogue = c.args.catalogue }) (grids-at c.args.catalogue c.tables.result.now c.tables.ensures.tables c.know_grids.ensures.grids) c.requires.fits (returns-then-is_empty-clause-lifted g c)

pub returns-in-Some-clause-lifted : goal.returns-in-Some-clause-lifted
returns-in-Some-clause-lifted g c =
    let is = c.in_ok-calls.ensures.calls ∙ ap calls_of_program c.get.ensures.value in
    let some = λ (h : c.in_ok-calls.calls ≡ []). let no : true ≡ false = sym (c.is_empty.ensures.empty.1 h) ∙ c.if-is_empty.false in absurd cc in
    let schemas = schemas_of c.args.catalogue in
    let marks = marks_for c.args.tokens.now schemas in
    let marked : c.in_ok-marks.marks ≡ marks = c.in_ok-marks.ensures.marks ∙ ap₂ marks_for c.as_slice.ensures.items (c.schemas-3.ensures.schemas ∙ c.in_ok-schemas.ensures.same) in
    let answered = c.in_ok-refused.ensures.refused ∙ refused-same c.as_str-2.result.now marks c.get-3.result.now c.args.program c.schemas-4.result.now schemas (c.as_str-2.ensures.same ∙ marked) c.get-3.ensures.value (c.schemas-4.ensures.schemas ∙ c.in_ok-schemas.ensures.same) in
    refuses (g.P.PatternMaker.found c.args.patterns.now) c.args.tokens.now c.args.program c.args.catalogue c.in_ok-calls.calls c.in-Some.place is some (sym c.in-Some.is ∙ answered)

pub returns-in_err-made-clause-lifted : goal.returns-in_err-made-clause-lifted
returns-in_err-made-clause-lifted g c =
    let is = c.in_ok-calls.ensures.calls ∙ ap calls_of_program c.get.ensures.value in
    let some = λ (h : c.in_ok-calls.calls ≡ []). let no : true ≡ false = sym (c.is_empty.ensures.empty.1 h) ∙ c.if-is_empty.false in absurd cc in
    let schemas = schemas_of c.args.catalogue in
    let marks = marks_for c.args.tokens.now schemas in
    let marked : c.in_ok-marks.marks ≡ marks = c.in_ok-marks.ensures.marks ∙ ap₂ marks_for c.as_slice.ensures.items (c.schemas-3.ensures.schemas ∙ c.in_ok-schemas.ensures.same) in
    let answered = c.in_ok-refused.ensures.refused ∙ refused-same c.as_str-2.result.now marks c.get-3.result.now c.args.program c.schemas-4.result.now schemas (c.as_str-2.ensures.same ∙ marked) c.get-3.ensures.value (c.schemas-4.ensures.schemas ∙ c.in_ok-schemas.ensures.same) in
    let none = sym c.in_default.is ∙ answered in
    unmade (g.P.PatternMaker.found c.args.patterns.now) c.args.tokens.now c.args.program c.args.catalogue c.in_ok-calls.calls c.in_err-made.field-0.0 c.from_residual-in_err-made.result is some none
    (subst (λ (cs : List PatternCall). IsRefusalIn cs c.in_err-made.field-0.0) c.as_slice-3.ensures.items c.in_err-made.ensures.refused) c.from_residual-in_err-made.ensures.1

pub derived_tables-requires-2-clause-ready : goal.derived_tables-requires-2-clause-ready
derived_tables-requires-2-clause-ready g c κs within =
    let is = c.in_ok-calls.ensures.calls ∙ ap calls_of_program c.get.ensures.value in
    let some = λ (h : c.in_ok-calls.calls ≡ []). let no : true ≡ false = sym (c.is_empty.ensures.empty.1 h) ∙ c.if-is_empty.false in absurd cc in
    let schemas = schemas_of c.args.catalogue in
    let marks = marks_for c.args.tokens.now schemas in
    let marked : c.in_ok-marks.marks ≡ marks = c.in_ok-marks.ensures.marks ∙ ap₂ marks_for c.as_slice.ensures.items (c.schemas-3.ensures.schemas ∙ c.in_ok-schemas.ensures.same) in
    let answered = c.in_ok-refused.ensures.refused ∙ refused-same c.as_str-2.result.now marks c.get-3.result.now c.args.program c.schemas-4.result.now schemas (c.as_str-2.ensures.same ∙ marked) c.get-3.ensures.value (c.schemas-4.ensures.schemas ∙ c.in_ok-schemas.ensures.same) in
    let none = sym c.in_default.is ∙ answered in
    let can = can-lift marks c.args.program schemas c.in_ok-calls.calls is some (sym none) in
    let prefixes : c.as_slice-4.result.now ≡ derived marks c.args.program = c.as_slice-4.ensures.items ∙ (c.in_ok-prefixes.ensures.derived ∙ derived-same c.as_str.result.now marks c.get-2.result.now c.args.program (c.as_str.ensures.same ∙ marked) c.get-2.ensures.value) in
    ready-at marks c.args.program c.args.catalogue can c.requires.fits c.as_str-3.result.now (all_named c.tables-2.result.now) c.as_slice-4.result.now (c.as_str-3.ensures.same ∙ marked) c.tables-2.ensures.tables prefixes

pub derived_tables-requires-2-clause-count : goal.derived_tables-requires-2-clause-count
derived_tables-requires-2-clause-count g c κs within =
    let is = c.in_ok-calls.ensures.calls ∙ ap calls_of_program c.get.ensures.value in
    let found = g.P.PatternMaker.found c.args.patterns.now in
    let schemas = schemas_of c.args.catalogue in
    let marks = marks_for c.args.tokens.now schemas in
    let marked : c.in_ok-marks.marks ≡ marks = c.in_ok-marks.ensures.marks ∙ ap₂ marks_for c.as_slice.ensures.items (c.schemas-3.ensures.schemas ∙ c.in_ok-schemas.ensures.same) in
    let answered = c.in_ok-refused.ensures.refused ∙ refused-same c.as_str-2.result.now marks c.get-3.result.now c.args.program c.schemas-4.result.now schemas (c.as_str-2.ensures.same ∙ marked) c.get-3.ensures.value (c.schemas-4.ensures.schemas ∙ c.in_ok-schemas.ensures.same) in
    let prefixes : c.as_slice-4.result.now ≡ derived marks c.args.program = c.as_slice-4.ensures.items ∙ (c.in_ok-prefixes.ensures.derived ∙ derived-same c.as_str.result.now marks c.get-2.result.now c.args.program (c.as_str.ensures.same ∙ marked) c.get-2.ensures.value) in
    let same : c.in_ok-calls.calls ≡ called c.as_slice-4.result.now = is ∙ (sym (calls-by marks c.args.program) ∙ ap called (sym prefixes)) in
    ap length c.as_slice-5.ensures.items ∙ (as-many-made g.P.Made.Pattern.finds found c.in_ok-made.made c.as_slice-3.result.now c.in_ok-made.ensures.made ∙ ap length (c.as_slice-3.ensures.items ∙ same))

pub lift-requires-clause-ready : goal.lift-requires-clause-ready
lift-requires-clause-ready g c =
    let is = c.in_ok-calls.ensures.calls ∙ ap calls_of_program c.get.ensures.value in
    let some = λ (h : c.in_ok-calls.calls ≡ []). let no : true ≡ false = sym (c.is_empty.ensures.empty.1 h) ∙ c.if-is_empty.false in absurd cc in
    let schemas = schemas_of c.args.catalogue in
    let marks = marks_for c.args.tokens.now schemas in
    let marked : c.in_ok-marks.marks ≡ marks = c.in_ok-marks.ensures.marks ∙ ap₂ marks_for c.as_slice.ensures.items (c.schemas-3.ensures.schemas ∙ c.in_ok-schemas.ensures.same) in
    let answered = c.in_ok-refused.ensures.refused ∙ refused-same c.as_str-2.result.now marks c.get-3.result.now c.args.program c.schemas-4.result.now schemas (c.as_str-2.ensures.same ∙ marked) c.get-3.ensures.value (c.schemas-4.ensures.schemas ∙ c.in_ok-schemas.ensures.same) in
    let none = sym c.in_default.is ∙ answered in
    let can = can-lift marks c.args.program schemas c.in_ok-calls.calls is some (sym none) in
    unlifted-at marks c.args.program c.args.catalogue can c.requires.fits c.as_str-4.result.now c.get-4.result.now (c.as_str-4.ensures.same ∙ marked) c.get-4.ensures.value

pub lift-requires-clause-tables : goal.lift-requires-clause-tables
lift-requires-clause-tables g c =
    let is = c.in_ok-calls.ensures.calls ∙ ap calls_of_program c.get.ensures.value in
    let found = g.P.PatternMaker.found c.args.patterns.now in
    let some = λ (h : c.in_ok-calls.calls ≡ []). let no : true ≡ false = sym (c.is_empty.ensures.empty.1 h) ∙ c.if-is_empty.false in absurd cc in
    let schemas = schemas_of c.args.catalogue in
    let marks = marks_for c.args.tokens.now schemas in
    let marked : c.in_ok-marks.marks ≡ marks = c.in_ok-marks.ensures.marks ∙ ap₂ marks_for c.as_slice.ensures.items (c.schemas-3.ensures.schemas ∙ c.in_ok-schemas.ensures.same) in
    let answered = c.in_ok-refused.ensures.refused ∙ refused-same c.as_str-2.result.now marks c.get-3.result.now c.args.program c.schemas-4.result.now schemas (c.as_str-2.ensures.same ∙ marked) c.get-3.ensures.value (c.schemas-4.ensures.schemas ∙ c.in_ok-schemas.ensures.same) in
    let none = sym c.in_default.is ∙ answered in
    let can = can-lift marks c.args.program schemas c.in_ok-calls.calls is some (sym none) in
    let prefixes : c.as_slice-4.result.now ≡ derived marks c.args.program = c.as_slice-4.ensures.items ∙ (c.in_ok-prefixes.ensures.derived ∙ derived-same c.as_str.result.now marks c.get-2.result.now c.args.program (c.as_str.ensures.same ∙ marked) c.get-2.ensures.value) in
    let same : c.in_ok-calls.calls ≡ called c.as_slice-4.result.now = is ∙ (sym (calls-by marks c.args.program) ∙ ap called (sym prefixes)) in
    let tables = tables-at marks c.args.program c.args.catalogue can c.requires.fits (told_by found) c.as_str-3.result.now (all_named c.tables-2.result.now) c.as_slice-4.result.now (all_named c.in_ok-tables.tables) (c.as_str-3.ensures.same ∙ marked) c.tables-2.ensures.tables prefixes
    (c.in_ok-tables.ensures.tables found (ap (map g.P.Made.Pattern.finds) c.as_slice-5.ensures.items ∙ (c.in_ok-made.ensures.made ∙ ap (map (finds_of found)) (c.as_slice-3.ensures.items ∙ same)))) in
    schemas-at marks c.args.program c.args.catalogue can c.requires.fits (told_by found) c.as_str-4.result.now c.get-4.result.now (all_named c.in_ok-tables.tables) (c.as_str-4.ensures.same ∙ marked) c.get-4.ensures.value tables

pub returns-clause-lifted : goal.returns-clause-lifted
returns-clause-lifted g c =
    let is = c.in_ok-calls.ensures.calls ∙ ap calls_of_program c.get.ensures.value in
    let found = g.P.PatternMaker.found c.args.patterns.now in
    let some = λ (h : c.in_ok-calls.calls ≡ []). let no : true ≡ false = sym (c.is_empty.ensures.empty.1 h) ∙ c.if-is_empty.false in absurd cc in
    let schemas = schemas_of c.args.catalogue in
    let marks = marks_for c.args.tokens.now schemas in
    let marked : c.in_ok-marks.marks ≡ marks = c.in_ok-marks.ensures.marks ∙ ap₂ marks_for c.as_slice.ensures.items (c.schemas-3.ensures.schemas ∙ c.in_ok-schemas.ensures.same) in
    let answered = c.in_ok-refused.ensures.refused ∙ refused-same c.as_str-2.result.now marks c.get-3.result.now c.args.program c.schemas-4.result.now schemas (c.as_str-2.ensures.same ∙ marked) c.get-3.ensures.value (c.schemas-4.ensures.schemas ∙ c.in_ok-schemas.ensures.same) in
    let none = sym c.in_default.is ∙ answered in
    let can = can-lift marks c.args.program schemas c.in_ok-calls.calls is some (sym none) in
    let prefixes : c.as_slice-4.result.now ≡ derived marks c.args.program = c.as_slice-4.ensures.items ∙ (c.in_ok-prefixes.ensures.derived ∙ derived-same c.as_str.result.now marks c.get-2.result.now c.args.program (c.as_str.ensures.same ∙ marked) c.get-2.ensures.value) in
    let same : c.in_ok-calls.calls ≡ called c.as_slice-4.result.now = is ∙ (sym (calls-by marks c.args.program) ∙ ap called (sym prefixes)) in
    let tables = tables-at marks c.args.program c.args.catalogue can c.requires.fits (told_by found) c.as_str-3.result.now (all_named c.tables-2.result.now) c.as_slice-4.result.now (all_named c.in_ok-tables.tables) (c.as_str-3.ensures.same ∙ marked) c.tables-2.ensures.tables prefixes
    (c.in_ok-tables.ensures.tables found (ap (map g.P.Made.Pattern.finds) c.as_slice-5.ensures.items ∙ (c.in_ok-made.ensures.made ∙ ap (map (finds_of found)) (c.as_slice-3.ensures.items ∙ same)))) in
    lifts found c.args.tokens.now c.args.program c.args.catalogue c.in_ok-calls.calls c.in_ok-lifted.lifted is some none
    (lifted-at found marks c.args.program c.args.catalogue c.as_str-4.result.now c.get-4.result.now (all_named c.in_ok-tables.tables) c.in_ok-lifted.lifted (c.as_str-4.ensures.same ∙ marked) c.get-4.ensures.value tables c.in_ok-lifted.ensures.lifted)

pub returns-then-is_empty-clause-judged : goal.returns-then-is_empty-clause-judged
returns-then-is_empty-clause-judged g c =
    let is = c.in_ok-calls.ensures.calls ∙ ap calls_of_program c.get.ensures.value in
    none-called g.P.PatternMaker.makes g.P.PatternMaker.refuses (calls_of_program c.args.program) c.in_ok-calls.calls is (c.is_empty.ensures.empty.0 c.if-is_empty.true)

pub returns-in_err-made-clause-judged : goal.returns-in_err-made-clause-judged
returns-in_err-made-clause-judged g c =
    let is = c.in_ok-calls.ensures.calls ∙ ap calls_of_program c.get.ensures.value in
    judged-of g.P.PatternMaker.makes g.P.PatternMaker.refuses (calls_of_program c.args.program) c.as_slice-3.result.now c.in_err-made.field-0.0 c.from_residual-in_err-made.result (c.as_slice-3.ensures.items ∙ is)
    c.from_residual-in_err-made.ensures.1 c.in_err-made.ensures.judged

pub returns-clause-judged : goal.returns-clause-judged
returns-clause-judged g c =
    let is = c.in_ok-calls.ensures.calls ∙ ap calls_of_program c.get.ensures.value in
    made-of g.P.PatternMaker.makes g.P.PatternMaker.refuses (calls_of_program c.args.program) c.as_slice-3.result.now (c.as_slice-3.ensures.items ∙ is) c.in_ok-made.ensures.judged

pub returns-clause-means : goal.returns-clause-means
returns-clause-means g c = given-means (g.P.PatternMaker.found c.args.patterns.now) c.args.tokens.now c.args.program c.args.catalogue c.in_ok-lifted.lifted (grids-at c.args.catalogue c.tables.result.now c.tables.ensures.tables c.know_grids.ensures.grids) c.requires.fits (returns-clause-lifted g c)
