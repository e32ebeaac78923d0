use Rattle.std.proofs.Common.{◌+◌, ◌∙◌, ap, map}
use Rattle.kql_cells.specs.Catalogues.{table_name}
use Rattle.catalogue_tables.proofs.TableFacts.{counted, taken, told-start, whole-refused, whole-there, whole-unread}
use Rattle.catalogue_tables.proofs.tables.catalogue_tables.Goals as goal

pub returns-in_err-entries-clause-tables : goal.returns-in_err-entries-clause-tables
returns-in_err-entries-clause-tables g c =
    let count = counted _ c.args.tables c.tables-count.ensures.tables in
    whole-unread _ (map table_name c.args.tables) _ c.args.room c.args.path.now c.args.tables _ _ (ap (λ n. n + 1) count) c.in_err-entries.ensures.entries c.from_residual.ensures.1

pub returns-in_err-check_entries-clause-tables : goal.returns-in_err-check_entries-clause-tables
returns-in_err-check_entries-clause-tables g c =
    let count = counted _ c.args.tables c.tables-count.ensures.tables in
    let names = c.in_ok-names.ensures.names ∙ ap (map table_name) c.tables-2.ensures.tables in
    whole-refused _ (map table_name c.args.tables) _ _ c.args.room c.args.path.now _ _ c.args.tables _ _ (ap (λ n. n + 1) count) names c.in_ok-entries.ensures.entries c.as_slice.ensures.items c.in_err-check_entries.ensures.checked c.from_residual-in_err-check_entries.ensures.1

pub returns-clause-tables : goal.returns-clause-tables
returns-clause-tables g c =
    let count = counted _ c.args.tables c.tables-count.ensures.tables in
    let names = c.in_ok-names.ensures.names ∙ ap (map table_name) c.tables-2.ensures.tables in
    whole-there _ _ (map table_name c.args.tables) _ _ _ c.args.room c.args.path.now _ _ _ c.args.tables _ _ (ap (λ n. n + 1) count) count names c.in_ok-entries.ensures.entries c.as_slice.ensures.items c.as_slice-2.ensures.items c.in_ok-check_entries.ensures.checked c.in_ok-entries.ensures.files
    c.add_entries.ensures.tables

pub returns-in_err-entries-clause-starts : goal.returns-in_err-entries-clause-starts
returns-in_err-entries-clause-starts g c = told-start _ (map table_name c.args.tables) c.args.path.now _ _ c.in_err-entries.ensures.starts

pub returns-in_err-names-clause-starts : goal.returns-in_err-names-clause-starts
returns-in_err-names-clause-starts g c = told-start _ (map table_name c.args.tables) c.args.path.now _ _ c.in_ok-entries.ensures.starts

pub returns-in_err-check_entries-clause-starts : goal.returns-in_err-check_entries-clause-starts
returns-in_err-check_entries-clause-starts g c = told-start _ (map table_name c.args.tables) c.args.path.now _ _ c.in_ok-entries.ensures.starts

pub returns-clause-starts : goal.returns-clause-starts
returns-clause-starts g c =
    let count = counted _ c.args.tables c.tables-count.ensures.tables in
    let names = c.in_ok-names.ensures.names ∙ ap (map table_name) c.tables-2.ensures.tables in
    taken _ (map table_name c.args.tables) _ _ c.args.path.now _ _ _ _ _ (ap (λ n. n + 1) count) names c.in_ok-entries.ensures.entries c.as_slice.ensures.items c.in_ok-check_entries.ensures.checked
