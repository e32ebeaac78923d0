use Rattle.std.proofs.Common.{◌≡◌, ◌∙◌, ◌++◌, ◌∷◌, [], List, ℕ, ap, ap₂, arith, length, rules, subst, sym}
use Rattle.std.specs.Prelude.{Option, replicate}
use Rattle.kql_bound.specs.declared.parts.SeriesItem.{SeriesItem}
use Rattle.kql_meaning.specs.MakeSeries.{axis_of}
use Rattle.kql_values.specs.Grids.{HaveLength}
use Rattle.series_op.specs.Arrays.{AreForms, all_arrays}
use Rattle.series_op.proofs.FilledSteps.{IsParted, bins-asked, filled-is, given-parted, others-long, rows-below}
use Rattle.series_op.proofs.series.filled_columns.Goals as goal

-- the columns of the summary, taken apart
parts : (c : goal.After-len-2) → IsParted c.args.series.now c.args._inside.now c.len-2.result c.starts-item.result c.split_at.result.0.now c.split_at.result.1.now
parts c = given-parted c.args.series.now c.args._inside.now c.args.summary.now c.columns.result.now c.split_at.result.0.now c.split_at.result.1.now c.starts-item.result c.len.result _ c.len-2.result c.requires.fits c.requires.summary c.columns.ensures.lines c.columns.ensures.fits c.in-len1-up.len_at_least c.starts-item.is c.len.ensures.count c.split_at.ensures.front c.split_at.ensures.back (omega (arith, others-long c.columns.result.now c.starts-item.result c.in-len1-up.len_at_least c.starts-item.is)) c.len-2.ensures.count

parts-later : (c : goal.After-as_slice-2) → IsParted c.args.series.now c.args._inside.now c.len-2.result c.starts-item.result c.split_at.result.0.now c.split_at.result.1.now
parts-later c = given-parted c.args.series.now c.args._inside.now c.args.summary.now c.columns.result.now c.split_at.result.0.now c.split_at.result.1.now c.starts-item.result c.len.result _ c.len-2.result c.requires.fits c.requires.summary c.columns.ensures.lines c.columns.ensures.fits c.in-len1-up.len_at_least c.starts-item.is c.len.ensures.count c.split_at.ensures.front c.split_at.ensures.back (omega (arith, others-long c.columns.result.now c.starts-item.result c.in-len1-up.len_at_least c.starts-item.is)) c.len-2.ensures.count

pub count_of_bins-bins-requires : goal.count_of_bins-bins-requires
count_of_bins-bins-requires c = record { fits = bins-asked c.args.series.now c.args._inside.now c.schema.result.now c.columns-inner.result.now c.requires.fits c.schema.ensures.columns c.columns-inner.ensures.columns }

pub group_rows-requires : goal.group_rows-requires
group_rows-requires c = record { long = (parts c).keys_long }

-- a place for each row of the summary
long : (c : goal.After-as_slice-2) → length c.as_slice-2.result.now ≡ c.len-2.result
long c = ap (λ (ps : List (Option ℕ)). length ps) c.as_slice-2.ensures.value ∙ (c.in_ok-places.ensures.places.long ∙ (parts-later c).long)

pub item_arrays-requires-clause-many : goal.item_arrays-requires-clause-many
item_arrays-requires-clause-many c = (parts-later c).many ∙ sym (ap (λ (is : List SeriesItem). length is) c.as_slice.ensures.items)

pub item_arrays-requires-clause-long : goal.item_arrays-requires-clause-long
item_arrays-requires-clause-long c = subst (λ n. HaveLength n c.split_at.result.1.now) (sym (long c)) (parts-later c).values_long

pub item_arrays-requires-clause-rows : goal.item_arrays-requires-clause-rows
item_arrays-requires-clause-rows c = rows-below c.split_at.result.0.now c.len-2.result (length c.as_slice-2.result.now) c.in_ok-keys.field-0.keys.items c.in_ok-keys.field-0.rows c.in_ok-keys.ensures.groups (long c)

pub item_arrays-requires-clause-form : goal.item_arrays-requires-clause-form
item_arrays-requires-clause-form c = subst (AreForms c.split_at.result.1.now) (sym c.as_slice.ensures.items) (parts-later c).forms

pub returns-clause-rows : goal.returns-clause-rows
returns-clause-rows c =
    let parts = given-parted c.args.series.now c.args._inside.now c.args.summary.now c.columns.result.now c.split_at.result.0.now c.split_at.result.1.now c.starts-item.result c.len.result _ c.len-2.result c.requires.fits c.requires.summary c.columns.ensures.lines c.columns.ensures.fits c.in-len1-up.len_at_least c.starts-item.is c.len.ensures.count c.split_at.ensures.front c.split_at.ensures.back (omega (arith, others-long c.columns.result.now c.starts-item.result c.in-len1-up.len_at_least c.starts-item.is)) c.len-2.ensures.count in
    let made = c.in_ok-arrays.ensures.arrays ∙ ap₂ (λ (is : List SeriesItem) (ps : List (Option ℕ)). all_arrays c.split_at.result.1.now is c.in_ok-keys.field-0.rows ps c.count_of_bins-bins.result) c.as_slice.ensures.items c.as_slice-2.ensures.value in
    let axis = c.in_ok-axis.ensures.axis ∙ ap (λ n. replicate n (axis_of c.args.series.now)) (c.len-3.ensures.count ∙ sym c.len-4.ensures.count) in
    let keys = c.in_ok-keys.keys-is in
    let joined = c.in_ok-columns.ensures.columns in
    let all : c.in_ok-columns.columns.items ≡ c.in_ok-keys.field-0.keys.items ++ (c.in_ok-arrays.arrays.items ++ c.in_ok-axis.axis ∷ []) = first_of (search rules, cc) in
    filled-is c.args.series.now c.args._inside.now c.count_of_bins-bins.result c.len-2.result c.len-4.result c.starts-item.result c.in_ok-axis.axis c.split_at.result.0.now c.split_at.result.1.now c.in_ok-keys.field-0.keys.items c.in_ok-arrays.arrays.items c.in_ok-columns.columns.items c.in_ok-places.places.items c.in_ok-keys.field-0.rows c.schema.ensures.fits parts c.count_of_bins-bins.ensures.bins c.in_ok-places.ensures.places c.in_ok-keys.ensures.groups made axis c.len-4.ensures.count all
