-- A sort of what a sort gives is one sort, by its keys and then by those of the first.
use Rattle.std.proofs.Common.{◌≡◌, ◌<◌, ℕ, Bool, true, false, List, [], ◌∷◌, ◌++◌, map, length, refl, sym, ap, ◌∙◌, subst, arith}
use Rattle.std.specs.Prelude.{◌&&◌, Some}
use Rattle.std.specs.Ordering.{nat_cmp, ordering_then}
use Rattle.std.specs.declared.cmp.Ordering.{Ordering}
use Rattle.std.specs.declared.cmp.Ordering.TheVariants.{Less, Equal, Greater}
use Rattle.kql_cells.specs.Seen.{row_at}
use Rattle.kql_cells.specs.Table.{Grid, gathered}
use Rattle.kql_cells.specs.declared.schema.Column.{Column}
use Rattle.kql_cells.specs.declared.value.Value.{Value}
use Rattle.kql_bound.specs.declared.parts.BKey.{BKey}
use Rattle.kql_bound.specs.declared.plan.Op.{Op}
use Rattle.kql_bound.specs.declared.plan.Op.TheVariants as V
use Rattle.kql_meaning.specs.Expressions.{val}
use Rattle.kql_meaning.specs.Fits.{Known}
use Rattle.kql_meaning.specs.FittingOperators.{sort_fits, sort_key_fits}
use Rattle.kql_meaning.specs.Plans.{op_means}
use Rattle.kql_meaning.specs.Sort.{key_cmp, keys_cmp, pair_cmp, sort_table, sorted_places}
use Rattle.kql_meaning.specs.Tables.{places, places_below}
use Rattle.kql_meaning.proofs.JoinLaws.{map-map}
use Rattle.kql_meaning.proofs.MemberLaws.{Member, member-map, member-of-map, member-of-range, member-range}
use Rattle.kql_meaning.proofs.OperatorFitLaws.{op-Sort}
use Rattle.kql_meaning.proofs.SortLaws.{pair_total, sort_orders}
use Rattle.kql_fit_laws.proofs.RowFacts.{columns-some}
use Rattle.plan_rules.proofs.IdleProjection.{map-members}
use Rattle.plan_rules.proofs.PushExtend.{kept-if}
use Rattle.plan_rules.proofs.PushSort.{keys-plain}
use Rattle.plan_rules.proofs.RuleViews.{both-some, pair-along, pair-becomes, sort-is, when-some}
use Rattle.plan_rules.proofs.ShortRules.{sort-means}
use Rattle.plan_rules.proofs.SortedPlaces.{at_kept, count-kept, get-member, in-places, in-sorted, keys-alike, map-sorted, member-get, one-sorted, plain_keys, rows-alike, sorted-of, then-less}
use Rattle.plan_rules.proofs.Subplans.{one-columns}
use Rattle.plan_rules.proofs.Sizes.{keys_size-append, op_size-Sort}
use Rattle.plan_rules.proofs.Weights.{two-to-one, weight-Sort}
use Rattle.plan_rules.specs.Becomes.{Becomes}
use Rattle.plan_rules.specs.Improves.{Improves}
use Rattle.plan_rules.specs.Rules.{two_sorts, when}
use Rattle.plan_rules.specs.Views.{sort_of}
use Rattle.plan_rules.specs.Weight.{other}

then-then : (a b c : Ordering) → ordering_then (ordering_then a b) c ≡ ordering_then a (ordering_then b c)
then-then Less b c = refl
then-then Equal b c = refl
then-then Greater b c = refl

keys-append : (ks ls : List BKey) (t : Grid) (i j : ℕ) → keys_cmp (ks ++ ls) t i j ≡ ordering_then (keys_cmp ks t i j) (keys_cmp ls t i j)
unfolding keys_cmp
keys-append [] ls t i j = refl
keys-append (k ∷ ks) ls t i j =
    let first = key_cmp k (val k.expr t i []) (val k.expr t j []) in
    ap (ordering_then first) (keys-append ks ls t i j) ∙ sym (then-then first (keys_cmp ks t i j) (keys_cmp ls t i j))

pair-append : (ks ls : List BKey) (t : Grid) (i j : ℕ) → pair_cmp (ks ++ ls) t i j ≡ ordering_then (keys_cmp ks t i j) (pair_cmp ls t i j)
unfolding pair_cmp
pair-append ks ls t i j = ap (λ o. ordering_then o (nat_cmp i j)) (keys-append ks ls t i j) ∙ then-then (keys_cmp ks t i j) (keys_cmp ls t i j) (nat_cmp i j)

module _ (first second : List BKey) (t : Grid) (each : plain_keys second ≡ true) where
  abbrev ps : List ℕ
  ps = sorted_places first t

  abbrev u : Grid
  u = gathered t ps

  abbrev at : ℕ → ℕ
  at j = at_kept t ps j

  abbrev both : List BKey
  both = second ++ first

  place-in : (z : ℕ) → Member z (sorted_places second u) → z < length ps
  unfolding places places_below
  place-in z m = let r = member-of-range 0 (length u.lines) z (in-places second u z m) in omega (arith, r.1, count-kept t ps)

  pair-alike : (i j : ℕ) → i < length ps → j < length ps → pair_cmp second u i j ≡ Less → pair_cmp both t (at i) (at j) ≡ Less
  unfolding pair_cmp
  pair-alike i j li lj e =
      pair-append second first t (at i) (at j)
      ∙ then-less (keys_cmp second t (at i) (at j)) (nat_cmp i j) (pair_cmp first t (at i) (at j))
      (λ less. let lt : i < j = grind (arith, less) in sort_orders first t i j 0 lt lj)
      (ap (λ a. ordering_then a (nat_cmp i j)) (sym (keys-alike t ps second each i j li lj)) ∙ e)

  places-alike : sorted_places both t ≡ map at (sorted_places second u)
  unfolding places places_below
  places-alike =
      one-sorted (pair_cmp both t) (pair_total both t) (sorted_places both t) (map at (sorted_places second u))
      (sorted-of both t)
      (map-sorted (pair_cmp second u) (pair_cmp both t) at (sorted_places second u) (λ x y m n e. pair-alike x y (place-in x m) (place-in y n) e) (sorted-of second u))
      (λ z m.
      let g = get-member ps z (in-sorted first t z (in-places both t z m)) in
      subst (λ y. Member y (map at (sorted_places second u))) g.2 (member-map at (sorted_places second u) g.0 (in-sorted second u g.0 (member-range 0 (length u.lines) g.0 (omega arith) (omega (arith, g.1, count-kept t ps))))))
      (λ z m.
      let s = member-of-map at (sorted_places second u) z m in
      let k = in-places first t (at s.0) (member-get ps s.0 (place-in s.0 s.1)) in
      subst (λ y. Member y (sorted_places both t)) s.2 (in-sorted both t (at s.0) k))

  pub sort-sort : sort_table both t ≡ sort_table second (sort_table first t)
  unfolding sort_table
  sort-sort =
      let lines : List (List Value) → Grid = λ ls. record { columns = t.columns; lines = ls } in
      ap lines (ap (map (row_at t.lines)) places-alike
      ∙ (map-map (row_at t.lines) at (sorted_places second u) ∙ map-members (λ j. row_at t.lines (at j)) (row_at u.lines) (sorted_places second u) (λ j m. sym (rows-alike t ps j (place-in j m)))))

and-and : (a b c : Bool) → ((a && b) && c) ≡ (a && (b && c))
and-and true b c = refl
and-and false b c = refl

fits-append : (ks ls : List BKey) (cs : List Column) → sort_fits (ks ++ ls) cs ≡ (sort_fits ks cs && sort_fits ls cs)
unfolding sort_fits
fits-append [] ls cs = refl
fits-append (k ∷ ks) ls cs = ap (λ b. sort_key_fits cs k && b) (fits-append ks ls cs) ∙ sym (and-and (sort_key_fits cs k) (sort_fits ks cs) (sort_fits ls cs))

pub sorts-becomes : (k : Known) (inside : Bool) (cs : List Column) (first second : List BKey) → Becomes k inside cs (V.Sort first ∷ V.Sort second ∷ []) (V.Sort (second ++ first) ∷ [])
sorts-becomes k inside cs first second = pair-becomes k inside cs (V.Sort first) (V.Sort second) (V.Sort (second ++ first) ∷ []) (λ mid ds e f.
    let a = columns-some (sort_fits first cs) cs mid (sym (op-Sort first k inside cs) ∙ e) in
    let b = columns-some (sort_fits second mid) mid ds (sym (op-Sort second k inside mid) ∙ f) in
    let g : sort_fits second cs ≡ true = ap (sort_fits second) a.1 ∙ b.0 in
    let fit : sort_fits (second ++ first) cs ≡ true = fits-append second first cs ∙ rw (g, a.0) refl in (
      one-columns (V.Sort (second ++ first)) k inside cs ∙ (op-Sort (second ++ first) k inside cs ∙ (kept-if (sort_fits (second ++ first) cs) cs fit ∙ ap (λ c. Some c) (a.1 ∙ b.1))),
      λ w t s h.
          sort-means (second ++ first) w t ∙ (sort-sort first second t (keys-plain second cs g) ∙ (ap (sort_table second) (sym (sort-means first w t)) ∙ sym (sort-means second w (op_means (V.Sort first) w t)))),
    ))

pub two_sorts-improves : (k : Known) (inside : Bool) (cs : List Column) (x y : Op) (zs : List Op) → two_sorts x y ≡ Some zs → Improves k inside cs (x ∷ y ∷ []) zs
unfolding two_sorts
two_sorts-improves k inside cs x y zs e =
    let r = both-some (sort_of x) (sort_of y) (λ first second. when true (V.Sort (second ++ first) ∷ [])) zs e in
    let s = when-some true (V.Sort (r.1 ++ r.0) ∷ []) zs r.4 in
    pair-along k inside cs x y (V.Sort r.0) (V.Sort r.1) zs (V.Sort (r.1 ++ r.0) ∷ []) (sort-is x r.0 r.2) (sort-is y r.1 r.3) s.1 (record {
      becomes = sorts-becomes k inside cs r.0 r.1;
      lighter = two-to-one (V.Sort r.0) (V.Sort r.1) (V.Sort (r.1 ++ r.0)) other other other (weight-Sort r.0) (weight-Sort r.1) (weight-Sort (r.1 ++ r.0)) (omega arith) (omega arith) (omega arith);
      no_longer = omega arith;
      no_larger = omega (arith, op_size-Sort r.0, op_size-Sort r.1, op_size-Sort (r.1 ++ r.0), keys_size-append r.1 r.0);
    })
