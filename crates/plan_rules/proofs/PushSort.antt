-- A filter in front of `sort`.
use Rattle.std.proofs.Common.{◌≡◌, ◌<◌, ℕ, Bool, true, List, [], ◌∷◌, map, filter, length, refl, sym, ap, ◌∙◌, subst, arith}
use Rattle.std.specs.Prelude.{Some}
use Rattle.std.specs.List.{list_all, range_with_len}
use Rattle.std.specs.Ordering.{nat_cmp, ordering_then}
use Rattle.std.specs.declared.cmp.Ordering.TheVariants.{Less}
use Rattle.std.proofs.lemmas.Bool.{and_parts}
use Rattle.kql_cells.specs.Seen.{row_at}
use Rattle.kql_cells.specs.Table.{Grid, gathered}
use Rattle.kql_cells.specs.declared.schema.Column.{Column}
use Rattle.kql_cells.specs.declared.value.Value.{Value}
use Rattle.kql_bound.specs.declared.expr.BExpr.{BExpr}
use Rattle.kql_bound.specs.declared.parts.BKey.{BKey}
use Rattle.kql_bound.specs.declared.plan.Op.{Op}
use Rattle.kql_bound.specs.declared.plan.Op.TheVariants as V
use Rattle.kql_meaning.specs.declared.position.Position.TheVariants as position
use Rattle.kql_meaning.specs.Expressions.{kind_of, val}
use Rattle.kql_meaning.specs.Fits.{Known, op_columns}
use Rattle.kql_meaning.specs.FittingExpressions.{expr_fits, fits_as, has_kind, is_key, scope_of}
use Rattle.kql_meaning.specs.FittingOperators.{sort_fits, sort_key_fits, where_fits}
use Rattle.kql_meaning.specs.Plans.{op_means}
use Rattle.kql_meaning.specs.Sort.{keys_cmp, pair_cmp, sort_table, sorted_places}
use Rattle.kql_meaning.specs.Tables.{places, places_below}
use Rattle.kql_meaning.specs.Values.{holds}
use Rattle.kql_meaning.specs.Where.{where_table}
use Rattle.kql_meaning.proofs.MemberLaws.{Member, member-filter, member-map, member-of-filter, member-of-map, member-of-range, member-range, pairs-of, pairwise-filter, pairwise-range}
use Rattle.kql_meaning.proofs.SortLaws.{pair_total}
use Rattle.kql_meaning.proofs.OperatorFitLaws.{op-Sort, op-Where}
use Rattle.kql_fit_laws.proofs.RowFacts.{columns-some}
use Rattle.plan_rules.proofs.RowWise.{filter-map, filter-same}
use Rattle.plan_rules.proofs.RuleViews.{both-some, filter-is, pair-along, pair-becomes, sort-is, two-fit, when-some}
use Rattle.plan_rules.proofs.ShortRules.{sort-means, where-means}
use Rattle.plan_rules.proofs.Weights.{swap-lighter, weight-Sort, weight-Where}
use Rattle.plan_rules.specs.Becomes.{Becomes}
use Rattle.plan_rules.specs.Improves.{Improves}
use Rattle.plan_rules.specs.Rules.{sort_then_filter, when}
use Rattle.plan_rules.specs.Views.{filter_of, sort_of}
use Rattle.plan_rules.specs.Weight.{other}
use Rattle.kql_meaning.specs.RowByRow.{is_plain}
use Rattle.kql_meaning.proofs.JoinLaws.{map-map}
use Rattle.kql_meaning.proofs.RowByRowLaws.{plain-alone, where-rows, passes}
use Rattle.kql_meaning.proofs.PlainFitLaws.{plain_where_fits}
use Rattle.plan_rules.proofs.IdleProjection.{map-members}
use Rattle.plan_rules.proofs.SortedPlaces.{at_kept, count-kept, filter-sorted, get-member, in-places, in-sorted, keys-alike, map-sorted, member-get, one-sorted, plain_keys, rows-alike, sorted-of, then-less}

-- The filtered table.

module _ (q : BExpr) (keys : List BKey) (t : Grid) (each : plain_keys keys ≡ true) where
  abbrev test : ℕ → Bool
  test i = holds (val q t i [])

  abbrev kept : List ℕ
  kept = filter test (places t)

  abbrev u : Grid
  u = gathered t kept

  abbrev at : ℕ → ℕ
  at j = at_kept t kept j

  rises : (i j : ℕ) → i < j → j < length kept → at i < at j
  unfolding places places_below
  rises i j lt in_range = pairs-of (λ x y. x < y) kept (pairwise-filter (λ x y. x < y) test (range_with_len 0 (length t.lines)) (pairwise-range 0 (length t.lines))) i j 0 lt in_range

  pair-alike : (i j : ℕ) → i < length kept → j < length kept → pair_cmp keys u i j ≡ Less → pair_cmp keys t (at i) (at j) ≡ Less
  unfolding pair_cmp
  pair-alike i j li lj e =
      then-less (keys_cmp keys t (at i) (at j)) (nat_cmp i j) (nat_cmp (at i) (at j))
      (λ less. let lt : i < j = grind (arith, less) in let up = rises i j lt lj in grind (arith, up))
      (ap (λ a. ordering_then a (nat_cmp i j)) (sym (keys-alike t kept keys each i j li lj)) ∙ e)

  place-in : (z : ℕ) → Member z (sorted_places keys u) → z < length kept
  unfolding places places_below
  place-in z m = let r = member-of-range 0 (length u.lines) z (in-places keys u z m) in omega (arith, r.1, count-kept t kept)

  places-alike : filter test (sorted_places keys t) ≡ map at (sorted_places keys u)
  unfolding places places_below
  places-alike =
      one-sorted (pair_cmp keys t) (pair_total keys t) (filter test (sorted_places keys t)) (map at (sorted_places keys u))
      (filter-sorted (pair_cmp keys t) (pair_total keys t) test (sorted_places keys t) (sorted-of keys t))
      (map-sorted (pair_cmp keys u) (pair_cmp keys t) at (sorted_places keys u) (λ x y m n e. pair-alike x y (place-in x m) (place-in y n) e) (sorted-of keys u))
      (λ z m.
      let s = member-of-filter test (sorted_places keys t) z m in
      let k = member-filter test (places t) z (in-places keys t z s.0) s.1 in
      let g = get-member kept z k in
      subst (λ y. Member y (map at (sorted_places keys u))) g.2 (member-map at (sorted_places keys u) g.0 (in-sorted keys u g.0 (member-range 0 (length u.lines) g.0 (omega arith) (omega (arith, g.1, count-kept t kept))))))
      (λ z m.
      let s = member-of-map at (sorted_places keys u) z m in
      let k = member-of-filter test (places t) (at s.0) (member-get kept s.0 (place-in s.0 s.1)) in
      subst (λ y. Member y (filter test (sorted_places keys t))) s.2 (member-filter test (sorted_places keys t) (at s.0) (in-sorted keys t (at s.0) k.0) k.1))

  pub sort-filter : is_plain q ≡ true → where_table q (sort_table keys t) ≡ sort_table keys (where_table q t)
  unfolding where_table sort_table
  sort-filter plain =
      let ps = sorted_places keys t in
      let lines : List (List Value) → Grid = λ ls. record { columns = t.columns; lines = ls } in
      where-rows q plain (gathered t ps)
      ∙ (ap lines (filter-map (passes q t.columns) (row_at t.lines) ps
      ∙ (ap (map (row_at t.lines)) (filter-same (λ i. passes q t.columns (row_at t.lines i)) test ps (λ i m. ap holds (sym (plain-alone q plain t i [])))
      ∙ places-alike)
      ∙ (map-map (row_at t.lines) at (sorted_places keys u) ∙ map-members (λ j. row_at t.lines (at j)) (row_at u.lines) (sorted_places keys u) (λ j m. sym (rows-alike t kept j (place-in j m)))))))

pub keys-plain : (keys : List BKey) (cs : List Column) → sort_fits keys cs ≡ true → list_all (λ (k : BKey). is_plain k.expr) keys ≡ true
unfolding sort_fits sort_key_fits fits_as
keys-plain [] cs e = refl
keys-plain (k ∷ ks) cs e =
    let b = and_parts (sort_key_fits cs k) (sort_fits ks cs) e in
    let c = and_parts (expr_fits k.expr (scope_of cs) position.Plain) (has_kind is_key (kind_of k.expr cs)) b.0 in
    rw (plain_where_fits k.expr (scope_of cs) c.0) (keys-plain ks cs b.1)

pub sort-filter-becomes : (k : Known) (inside : Bool) (cs : List Column) (keys : List BKey) (q : BExpr) → is_plain q ≡ true → Becomes k inside cs (V.Sort keys ∷ V.Where q ∷ []) (V.Where q ∷ V.Sort keys ∷ [])
sort-filter-becomes k inside cs keys q plain = pair-becomes k inside cs (V.Sort keys) (V.Where q) (V.Where q ∷ V.Sort keys ∷ []) (λ mid ds e f.
    let a = columns-some (sort_fits keys cs) cs mid (sym (op-Sort keys k inside cs) ∙ e) in
    let first : op_columns (V.Where q) k inside cs ≡ Some ds = ap (λ c. op_columns (V.Where q) k inside c) a.1 ∙ f in
    let b = columns-some (where_fits q mid) mid ds (sym (op-Where q k inside mid) ∙ f) in
    let same : cs ≡ ds = a.1 ∙ b.1 in (
      two-fit k inside cs ds (V.Where q) (V.Sort keys) ds first (ap (λ c. op_columns (V.Sort keys) k inside c) (sym same) ∙ (e ∙ ap (λ c. Some c) b.1)),
      λ w t s h.
          sort-means keys w (op_means (V.Where q) w t) ∙ (ap (sort_table keys) (where-means q w t) ∙ (sym (sort-filter q keys t (keys-plain keys cs a.0) plain) ∙ (ap (where_table q) (sym (sort-means keys w t)) ∙ sym (where-means q w (op_means (V.Sort keys) w t))))),
    ))

pub sort_then_filter-improves : (k : Known) (inside : Bool) (cs : List Column) (x y : Op) (zs : List Op) → sort_then_filter x y ≡ Some zs → Improves k inside cs (x ∷ y ∷ []) zs
unfolding sort_then_filter
sort_then_filter-improves k inside cs x y zs e =
    let r = both-some (sort_of x) (filter_of y) (λ keys q. when (is_plain q) (V.Where q ∷ V.Sort keys ∷ [])) zs e in
    let s = when-some (is_plain r.1) (V.Where r.1 ∷ V.Sort r.0 ∷ []) zs r.4 in
    pair-along k inside cs x y (V.Sort r.0) (V.Where r.1) zs (V.Where r.1 ∷ V.Sort r.0 ∷ []) (sort-is x r.0 r.2) (filter-is y r.1 r.3) s.1 (record {
      becomes = sort-filter-becomes k inside cs r.0 r.1 s.0;
      lighter = swap-lighter (V.Sort r.0) (V.Where r.1) other (weight-Where r.1) (weight-Sort r.0) (omega arith);
      no_longer = omega arith;
      no_larger = omega arith;
    })
