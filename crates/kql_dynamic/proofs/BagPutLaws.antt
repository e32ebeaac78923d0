-- Entries put into a bag.
use Rattle.std.proofs.Common.{◌≡◌, ℕ, Bool, true, List, [], ◌∷◌, fold, refl, ap, ◌∙◌}
use Rattle.std.specs.Prelude.{String, string_bytes}
use Rattle.std.specs.BTreeMap.{insert_entry}
use Rattle.std.specs.String.{string_cmp}
use Rattle.std.specs.List.{list_all}
use Rattle.std.specs.Cmp.Lexicographic.{slice_cmp}
use Rattle.std.specs.Ordering.{nat_cmp, is_lt, match_ordering, ordering_reverse}
use Rattle.std.specs.declared.cmp.Ordering.{Ordering}
use Rattle.std.specs.declared.cmp.Ordering.TheVariants.{Less, Equal, Greater}
use Rattle.std.specs.declared.alloc.Global.{Global}
use Rattle.std.proofs.lemmas.Cmp.{nat_list_cmp_total}
use Rattle.std.proofs.lemmas.Bool.{and_parts, and_from}
use Rattle.kql_cells.specs.Dynamic.{ascends, rises_to}
use Rattle.kql_cells.specs.declared.dynamic.Dyn.{Dyn}
use Rattle.kql_dynamic.specs.Bags.{bag_of, entries_seen, put}

seen-match_ordering : (o : Ordering) (a b c : List (String Global × Dyn)) → entries_seen (match_ordering o a b c) ≡ match_ordering o (entries_seen a) (entries_seen b) (entries_seen c)
seen-match_ordering Less a b c = refl
seen-match_ordering Equal a b c = refl
seen-match_ordering Greater a b c = refl

seen-insert : (es : List (String Global × Dyn)) (k : String Global) (d : Dyn) → entries_seen (insert_entry string_cmp es k d) ≡ insert_entry (slice_cmp nat_cmp) (entries_seen es) (string_bytes k) d
seen-insert [] k d = refl
seen-insert (e ∷ es) k d = seen-match_ordering (string_cmp k e.0) ((k, d) ∷ e ∷ es) ((e.0, d) ∷ es) (e ∷ insert_entry string_cmp es k d) ∙ rw (seen-insert es k d)

-- an insert into the map puts an entry
pub seen-put : (old new : List (String Global × Dyn)) (k : String Global) (key : List ℕ) (d value : Dyn) → new ≡ insert_entry string_cmp old k d → string_bytes k ≡ key → d ≡ value → entries_seen new ≡ put (entries_seen old) (key, value)
unfolding put
seen-put old new k key d value e f g = rw (e, ← f, ← g) (seen-insert old k d)

pub ruleset bag_steps = (seen-put)

-- ---- the order of the keys

rises-insert-by : (o : Ordering) (l k : List ℕ) (d : Dyn) (e : List ℕ × Dyn) (es : List (List ℕ × Dyn)) (more : List (List ℕ × Dyn)) → slice_cmp nat_cmp l k ≡ Less → rises_to l (e ∷ es) ≡ true
    → rises_to l (match_ordering o ((k, d) ∷ e ∷ es) ((e.0, d) ∷ es) (e ∷ more)) ≡ true
rises-insert-by Less l k d e es more up h = ap is_lt up
rises-insert-by Equal l k d e es more up h = h
rises-insert-by Greater l k d e es more up h = h

rises-insert : (l k : List ℕ) (d : Dyn) (es : List (List ℕ × Dyn)) → slice_cmp nat_cmp l k ≡ Less → rises_to l es ≡ true → rises_to l (insert_entry (slice_cmp nat_cmp) es k d) ≡ true
rises-insert l k d [] up h = ap is_lt up
rises-insert l k d (e ∷ es) up h = rises-insert-by (slice_cmp nat_cmp k e.0) l k d e es (insert_entry (slice_cmp nat_cmp) es k d) up h

ascends-insert-by : (o : Ordering) (k : List ℕ) (d : Dyn) (e : List ℕ × Dyn) (es : List (List ℕ × Dyn)) → slice_cmp nat_cmp k e.0 ≡ o → ascends (e ∷ es) ≡ true
    → ascends (insert_entry (slice_cmp nat_cmp) es k d) ≡ true
    → ascends (match_ordering o ((k, d) ∷ e ∷ es) ((e.0, d) ∷ es) (e ∷ insert_entry (slice_cmp nat_cmp) es k d)) ≡ true
ascends-insert-by Less k d e es is h later = and_from (is_lt (slice_cmp nat_cmp k e.0)) (ascends (e ∷ es)) (ap is_lt is) h
ascends-insert-by Equal k d e es is h later = h
ascends-insert-by Greater k d e es is h later =
    let up : slice_cmp nat_cmp e.0 k ≡ Less = nat_list_cmp_total.antisymm e.0 k ∙ ap ordering_reverse is in
    let q = and_parts (rises_to e.0 es) (ascends es) h in
    and_from (rises_to e.0 (insert_entry (slice_cmp nat_cmp) es k d)) (ascends (insert_entry (slice_cmp nat_cmp) es k d)) (rises-insert e.0 k d es up q.0) later

ascends-insert : (k : List ℕ) (d : Dyn) (es : List (List ℕ × Dyn)) → ascends es ≡ true → ascends (insert_entry (slice_cmp nat_cmp) es k d) ≡ true
ascends-insert k d [] h = refl
ascends-insert k d (e ∷ es) h = ascends-insert-by (slice_cmp nat_cmp k e.0) k d e es refl h (ascends-insert k d es (and_parts (rises_to e.0 es) (ascends es) h).1)

ascends-put : (es : List (List ℕ × Dyn)) (e : List ℕ × Dyn) → ascends es ≡ true → ascends (put es e) ≡ true
unfolding put
ascends-put es e h = ascends-insert e.0 e.1 es h

ascends-puts : (es more : List (List ℕ × Dyn)) → ascends es ≡ true → ascends (fold put es more) ≡ true
ascends-puts es [] h = h
ascends-puts es (e ∷ more) h = ascends-puts (put es e) more (ascends-put es e h)

pub ascends-bag_of : (es : List (List ℕ × Dyn)) → ascends (bag_of es) ≡ true
ascends-bag_of es = ascends-puts [] es refl

-- ---- what holds of each value

module _ (p : Dyn → Bool) where
  abbrev pub each : List (List ℕ × Dyn) → Bool
  each es = list_all (λ e. p e.1) es

  each-by : (o : Ordering) (k : List ℕ) (d : Dyn) (e : List ℕ × Dyn) (es more : List (List ℕ × Dyn)) → p d ≡ true → each (e ∷ es) ≡ true → each more ≡ true
      → each (match_ordering o ((k, d) ∷ e ∷ es) ((e.0, d) ∷ es) (e ∷ more)) ≡ true
  each-by Less k d e es more here h later = and_from (p d) (each (e ∷ es)) here h
  each-by Equal k d e es more here h later = and_from (p d) (each es) here (and_parts (p e.1) (each es) h).1
  each-by Greater k d e es more here h later = and_from (p e.1) (each more) (and_parts (p e.1) (each es) h).0 later

  each-insert : (k : List ℕ) (d : Dyn) (es : List (List ℕ × Dyn)) → p d ≡ true → each es ≡ true → each (insert_entry (slice_cmp nat_cmp) es k d) ≡ true
  each-insert k d [] here h = and_from (p d) true here refl
  each-insert k d (e ∷ es) here h = each-by (slice_cmp nat_cmp k e.0) k d e es (insert_entry (slice_cmp nat_cmp) es k d) here h (each-insert k d es here (and_parts (p e.1) (each es) h).1)

  each-put : (es : List (List ℕ × Dyn)) (e : List ℕ × Dyn) → p e.1 ≡ true → each es ≡ true → each (put es e) ≡ true
  unfolding put
  each-put es e here h = each-insert e.0 e.1 es here h

  each-puts : (es more : List (List ℕ × Dyn)) → each more ≡ true → each es ≡ true → each (fold put es more) ≡ true
  each-puts es [] m h = h
  each-puts es (e ∷ more) m h =
      let q = and_parts (p e.1) (each more) m in
      each-puts (put es e) more q.1 (each-put es e q.0 h)

  pub each-bag_of : (es : List (List ℕ × Dyn)) → each es ≡ true → each (bag_of es) ≡ true
  each-bag_of es m = each-puts [] es m refl
