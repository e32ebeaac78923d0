-- The laws of the order of values.
use Rattle.std.proofs.Common.{◌≡◌, ap, refl, sym, arith}
use Rattle.std.specs.Prelude.{pos, true, false}
use Rattle.std.specs.declared.cmp.Ordering.{Ordering}
use Rattle.std.specs.declared.cmp.Ordering.TheVariants.{Less, Equal, Greater}
use Rattle.std.specs.Ordering.{int_cmp, nat_cmp, ordering_reverse, ordering_then}
use Rattle.std.specs.Cmp.Lexicographic.{slice_cmp}
use Rattle.std.specs.Cmp.{IsTotalOrder, on_total, then_total}
use Rattle.std.proofs.lemmas.Cmp.{int_cmp_total, nat_cmp_total, nat_list_cmp_total}
use Rattle.std.proofs.lemmas.Map.Lookups.{exact_bytes, exact_signed, exact_unsigned}
use Rattle.kql_cells.specs.declared.value.Value.{Value}
use Rattle.kql_cells.specs.declared.value.Value.TheVariants as value
use Rattle.kql_cells.specs.Ordered.{HaveOrder, number_in, rank, text_in, value_cmp}

-- the order of values is total
pub value_cmp_total : IsTotalOrder value_cmp
value_cmp_total = then_total (on_total rank nat_cmp_total) (then_total (on_total number_in int_cmp_total) (on_total text_in nat_list_cmp_total))

both_equal : (a b : Ordering) → ordering_then a b ≡ Equal → (a ≡ Equal) × (b ≡ Equal)
both_equal Less b e = cc
both_equal Equal b e = (refl, e)
both_equal Greater b e = cc

true_is_one : pos 1 ≡ pos 0 → ⊥
true_is_one e = cc

-- values that the order can tell apart are the same where it finds no difference
same-parts : (a b : Value) → HaveOrder a b → rank a ≡ rank b → number_in a ≡ number_in b → text_in a ≡ text_in b → a ≡ b
same-parts value.Null value.Null h r n t = refl
same-parts (value.Bool true) (value.Bool true) h r n t = refl
same-parts (value.Bool false) (value.Bool false) h r n t = refl
same-parts (value.Bool true) (value.Bool false) h r n t = absurd (true_is_one n)
same-parts (value.Bool false) (value.Bool true) h r n t = absurd (true_is_one (sym n))
same-parts (value.Long x) (value.Long y) h r n t = ap value.Long n
same-parts (value.Text x) (value.Text y) h r n t = ap value.Text t
same-parts (value.Moment x) (value.Moment y) h r n t = ap value.Moment n
same-parts (value.Span x) (value.Span y) h r n t = ap value.Span n
same-parts (value.Dynamic d) (value.Dynamic e) h r n t = absurd h
same-parts a b h r n t = absurd (omega arith)

pub equal-same : (a b : Value) → HaveOrder a b → value_cmp a b ≡ Equal → a ≡ b
equal-same a b h e =
    let outer = both_equal (nat_cmp (rank a) (rank b)) (ordering_then (int_cmp (number_in a) (number_in b)) (slice_cmp nat_cmp (text_in a) (text_in b))) e in
    let inner = both_equal (int_cmp (number_in a) (number_in b)) (slice_cmp nat_cmp (text_in a) (text_in b)) outer.1 in
    same-parts a b h (exact_unsigned (rank a) (rank b) outer.0) (exact_signed (number_in a) (number_in b) inner.0) (exact_bytes (text_in a) (text_in b) inner.1)

-- a turn that changes nothing
unturned : (o : Ordering) → o ≡ ordering_reverse o → o ≡ Equal
unturned Less e = cc
unturned Equal e = refl
unturned Greater e = cc

pub same-equal : (a b : Value) → a ≡ b → value_cmp a b ≡ Equal
same-equal a b e = rw (← e) (unturned (value_cmp a a) (value_cmp_total.antisymm a a))
