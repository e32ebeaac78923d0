-- Rows of `range` fit its column.
use Rattle.std.proofs.Common.{◌≡◌, ◌*◌, ℕ, zero, suc, true, List, [], ◌∷◌, map, ℤ, pos, negsuc, ◌+ℤ◌, refl, sym, ◌∙◌, subst, arith}
use Rattle.std.specs.Prelude.{◌&&◌, ◌*ℤ◌, ◌≤ℤ◌, ◌<ℤ◌, is_some, nat_le}
use Rattle.std.specs.Int.{is_positive}
use Rattle.std.proofs.Math.IntN.{pos-*ℤ-pos}
use Rattle.std.proofs.lemmas.Bool.{and_parts}
use Rattle.std.proofs.lemmas.Int.{ints}
use Rattle.kql_cells.specs.Named.{HasDistinctNames, column_name}
use Rattle.kql_cells.specs.Table.{RowFits}
use Rattle.kql_cells.specs.Values.{IsMoment, IsOfKind, IsWellFormed}
use Rattle.kql_cells.specs.declared.schema.Column.{Column}
use Rattle.kql_cells.specs.declared.value.Kind.{Kind}
use Rattle.kql_cells.specs.declared.value.Kind.TheVariants as kind
use Rattle.kql_cells.specs.declared.value.Value.{Value}
use Rattle.kql_cells.specs.declared.value.Value.TheVariants as value
use Rattle.kql_functions.specs.Kinds.{same_kind}
use Rattle.kql_bound.specs.declared.literal.Lit.{Lit}
use Rattle.kql_meaning.specs.Fits.{source_columns}
use Rattle.kql_meaning.specs.FittingOperators.{ends_fit, has_at_most, is_given, is_step_of, range_fits}
use Rattle.kql_meaning.specs.Literals.{is_of_kind, is_well_formed, literal_fits}
use Rattle.kql_meaning.specs.Numbers.{added, count_of_terms, terms}
use Rattle.kql_meaning.specs.Plans.{source_table}
use Rattle.kql_meaning.specs.Sources.{number_in, range_columns, range_table}
use Rattle.kql_meaning.specs.Values.{number_as, number_of}
use Rattle.kql_meaning.proofs.MemberLaws.{Member, contains-member, member-of-map}
use Rattle.kql_meaning.proofs.NumberLaws.{terms_are_those}
use Rattle.kql_fit_laws.proofs.JoinRows.{same-kind}
use Rattle.kql_meaning.proofs.LiteralLaws.{is_well_formed-decides}
use Rattle.kql_fit_laws.proofs.RowFacts.{all-members, answer-some}
use Rattle.kql_fit_laws.specs.LawsOfPrograms.{RangeKeeps}
use Rattle.kql_fit_laws.specs.LawsOfRows.{IsTableOf}

positive : (s : ℤ) → is_positive s ≡ true → (m : ℕ) × (s ≡ pos (suc m))
positive (pos zero) e = cc
positive (pos (suc m)) e = (m, refl)
positive (negsuc n) e = cc

plus-pos : (a : ℤ) (p : ℕ) → a ≤ℤ (a +ℤ pos p)
plus-pos a p = omega (arith, ints)

below-suc : (m : ℕ) → pos 0 <ℤ pos (suc m)
below-suc m = omega (arith, ints)

above-start : (a : ℤ) (k m : ℕ) → a ≤ℤ (a +ℤ pos k *ℤ pos (suc m))
above-start a k m = rw (pos-*ℤ-pos k (suc m)) (plus-pos a (k * suc m))

between : (a b n : ℤ) → IsMoment a → IsMoment b → a ≤ℤ n → n ≤ℤ b → IsMoment n
between a b n ha hb low high = (omega (arith, ints, ha.0, low), omega (arith, ints, hb.1, high))

moment-value : (v : Value) → is_of_kind kind.Moment v ≡ true → is_well_formed v ≡ true → is_some (number_of v) ≡ true → IsMoment (added (number_of v))
unfolding is_of_kind number_of added
moment-value (value.Moment x) e f g = (is_well_formed-decides (value.Moment x)).0 f
moment-value value.Null e f g = cc
moment-value (value.Bool b) e f g = cc
moment-value (value.Long n) e f g = cc
moment-value (value.Text t) e f g = cc
moment-value (value.Span n) e f g = cc
moment-value (value.Dynamic d) e f g = cc

moment-in : (l : Lit) → is_given l ≡ true → kind.Moment ≡ l.kind → IsMoment (number_in l)
unfolding is_given literal_fits number_in
moment-in l e same =
    let parts = and_parts (is_of_kind l.kind l.value && is_well_formed l.value) (is_some (number_of l.value)) e in
    let tests = and_parts (is_of_kind l.kind l.value) (is_well_formed l.value) parts.0 in
    moment-value l.value (subst (λ (k : Kind). is_of_kind k l.value ≡ true) (sym same) tests.0) tests.1 parts.1

number-fits : (k step : Kind) (n : ℤ) → is_step_of k step ≡ true → (kind.Moment ≡ k → IsMoment n) → IsOfKind k (number_as k n) × IsWellFormed (number_as k n)
unfolding is_step_of number_as
number-fits kind.Long step n e h = (tt, tt)
number-fits kind.Moment step n e h = (tt, h refl)
number-fits kind.Span step n e h = (tt, tt)
number-fits kind.Bool step n e h = cc
number-fits kind.Text step n e h = cc
number-fits kind.Dynamic step n e h = cc

row-fits : (column : List ℕ) (from to step : Lit) → ends_fit from to step ≡ true → has_at_most (number_in from) (number_in to) (number_in step) 1000000 ≡ true → (n : ℤ) → Member n (terms (number_in from) (number_in to) (number_in step)) → RowFits (range_columns column from) (number_as from.kind n ∷ [])
unfolding ends_fit has_at_most range_columns RowFits
row-fits column from to step e f n m =
    let given_from = and_parts (is_given from) (is_given to && (is_given step && (same_kind from.kind to.kind && is_step_of from.kind step.kind))) e in
    let given_to = and_parts (is_given to) (is_given step && (same_kind from.kind to.kind && is_step_of from.kind step.kind)) given_from.1 in
    let given_step = and_parts (is_given step) (same_kind from.kind to.kind && is_step_of from.kind step.kind) given_to.1 in
    let kinds = and_parts (same_kind from.kind to.kind) (is_step_of from.kind step.kind) given_step.1 in
    let s = positive (number_in step) (and_parts (is_positive (number_in step)) (nat_le (count_of_terms (number_in from) (number_in to) (number_in step)) 1000000) f).0 in
    let more : pos 0 <ℤ number_in step = subst (λ x. pos 0 <ℤ x) (sym s.1) (below-suc s.0) in
    let c = (terms_are_those (number_in from) (number_in to) (number_in step) n more).0 (contains-member (terms (number_in from) (number_in to) (number_in step)) n m) in
    let low : number_in from ≤ℤ n = subst (λ x. number_in from ≤ℤ x) (sym c.1.1) (subst (λ x. number_in from ≤ℤ (number_in from +ℤ pos c.1.0 *ℤ x)) (sym s.1) (above-start (number_in from) c.1.0 s.0)) in
    (number-fits from.kind step.kind n kinds.1 (λ same. between (number_in from) (number_in to) n (moment-in from given_from.0 same) (moment-in to given_to.0 (same ∙ same-kind from.kind to.kind kinds.0)) low c.0), tt)

range-table : (column : List ℕ) (from to step : Lit) (cs : List Column) → ends_fit from to step ≡ true → has_at_most (number_in from) (number_in to) (number_in step) 1000000 ≡ true → range_columns column from ≡ cs → HasDistinctNames column_name cs → IsTableOf cs (range_table column from to step)
unfolding range_table
range-table column from to step cs e f same names =
    let line = λ (n : ℤ). number_as from.kind n ∷ [] in
    let numbers = terms (number_in from) (number_in to) (number_in step) in
    let all = all-members (RowFits (range_columns column from)) (map line numbers)
    (λ row m. let q = member-of-map line numbers row m in subst (RowFits (range_columns column from)) q.2 (row-fits column from to step e f q.0 q.1)) in
    (same, (subst (HasDistinctNames column_name) (sym same) names, all))

pub range_keeps : RangeKeeps
unfolding source_columns source_table range_fits
range_keeps k w column from to step cs fits =
    let q = answer-some (ends_fit from to step && has_at_most (number_in from) (number_in to) (number_in step) 1000000) (range_columns column from) cs fits in
    let parts = and_parts (ends_fit from to step) (has_at_most (number_in from) (number_in to) (number_in step) 1000000) q.0 in
    range-table column from to step cs parts.0 parts.1 q.1 (subst (HasDistinctNames column_name) q.1 q.2)

pub ruleset range_row_laws = (range_keeps)
