-- Sums of counts that 64 bits hold.
use Rattle.std.proofs.Common.{◌≡◌, ◌<◌, ◌≤◌, ◌+◌, ◌∙◌, ◌∷◌, ℕ, zero, suc, Bool, true, false, List, [], length, drop, map, refl, ap, sym, add-one, arith, inl, inr}
use Rattle.std.specs.Prelude.{IsUtf8, Vec, String, slice_index_or}
use Rattle.std.specs.BTreeMap.{BTreeMap}
use Rattle.std.specs.List.{list_any, sum_by}
use Rattle.std.specs.Str.{is_utf8}
use Rattle.std.specs.declared.alloc.Global.{Global}
use Rattle.std.proofs.lemmas.Bool.{cases_Bool}
use Rattle.std.proofs.lemmas.List.{drop_all}
use Rattle.std.proofs.lemmas.Str.{IsUtf8-from_is_utf8, is_utf8-from_IsUtf8}
use Rattle.serde_json.specs.Read.{read}
use Rattle.std.proofs.lemmas.List.Sums.{sum_by-cons}
use Rattle.serde_json.specs.View.{items_view, members_view, view}
use Rattle.serde_json.specs.declared.value.Value.{Value, Array, Object}
use Rattle.serde_json.proofs.Views.{view-Array, view-Object}
use Rattle.csv_io.specs.Load.{file_records}
use Rattle.json_losses.specs.Losses.{cell_losses, data_losses, field_losses, held, item_losses, losses, member_losses, names_dynamic, read_losses, record_losses, row_losses}
use Rattle.json_losses.specs.RecordsLeft.{Gives}
use Rattle.json_losses.specs.Views.{entry_losses, part_losses}

-- JSON.

items-sum : (vs : List Value) → item_losses (items_view vs) ≡ sum_by part_losses vs
items-sum [] = refl
items-sum (v ∷ vs) = ap (λ n. part_losses v + n) (items-sum vs) ∙ sym (sum_by-cons part_losses v vs)

members-sum : (es : List (String Global × Value)) → member_losses (members_view es) ≡ sum_by entry_losses es
members-sum [] = refl
members-sum (e ∷ es) = ap (λ n. entry_losses e + n) (members-sum es) ∙ sym (sum_by-cons entry_losses e es)

pub array-losses : (v : Vec Value Global) → data_losses (view (Array v)) ≡ sum_by part_losses v.items
array-losses v = ap data_losses (view-Array v) ∙ items-sum v.items

pub object-losses : (m : BTreeMap (String Global) Value) → data_losses (view (Object m)) ≡ sum_by entry_losses m.entries
object-losses m = ap data_losses (view-Object m) ∙ members-sum m.entries

pub ruleset value_steps = (array-losses, object-losses)

-- One count more, and the end.

pub held-more : (c n m r all after : ℕ) → after ≡ held (c + n) → n ≡ held m → held (c + (m + r)) ≡ all → held (after + r) ≡ all
held-more c n m r all after e f h = omega arith

pub held-fits : (c n after : ℕ) → after ≡ held (c + n) → after ≡ held after
held-fits c n after e = omega arith

pub held-end : (c rest all : ℕ) → c ≡ held c → rest ≡ 0 → held (c + rest) ≡ all → c ≡ all
held-end c rest all fits none h = omega arith

-- A text or none.

pub text-losses : (t : List ℕ) → IsUtf8 t → field_losses t ≡ read_losses (read t)
unfolding field_losses
text-losses t u = rw (is_utf8-from_IsUtf8 t u) refl

pub other-losses : (t : List ℕ) → (IsUtf8 t → ⊥) → 0 ≡ held (field_losses t)
unfolding field_losses
other-losses t n =
    let other : is_utf8 t ≡ false = elim (cases_Bool (is_utf8 t)) [ inl y ↦ absurd (n (IsUtf8-from_is_utf8 t y)) | inr f ↦ f ] in
    rw other refl

-- The fields of a row.

none-at : (bs : List Bool) (fs : List (List ℕ)) (j : ℕ) → length bs ≤ j → row_losses (drop j bs) fs ≡ 0
none-at [] fs zero l = refl
none-at [] fs (suc j) l = refl
none-at (b ∷ bs) fs zero l = absurd (omega arith)
none-at (b ∷ bs) fs (suc j) l = none-at bs fs j (omega arith)

here : (bs : List Bool) (fs : List (List ℕ)) (j : ℕ) → ℕ
here bs fs j = cell_losses (slice_index_or bs j false) (slice_index_or fs j [])

row-at : (bs : List Bool) (fs : List (List ℕ)) (j : ℕ) → j < length fs → row_losses (drop j bs) (drop j fs) ≡ here bs fs j + row_losses (drop (suc j) bs) (drop (suc j) fs)
unfolding cell_losses here
row-at bs [] j l = absurd (omega arith)
row-at [] (f ∷ fs) j l = rw (none-at [] (drop j (f ∷ fs)) j (omega arith), none-at [] (drop (suc j) (f ∷ fs)) (suc j) (omega arith)) refl
row-at (b ∷ bs) (f ∷ fs) zero l = refl
row-at (b ∷ bs) (f ∷ fs) (suc j) l = row-at bs fs j (omega arith)

empty-row : (bs : List Bool) → row_losses bs [] ≡ 0
empty-row [] = refl
empty-row (b ∷ bs) = refl

pub row-turn : (bs : List Bool) (fs : List (List ℕ)) (j c n all after : ℕ) → j < length fs → n ≡ held (cell_losses (slice_index_or bs j false) (slice_index_or fs j [])) → after ≡ held (c + n)
    → held (c + row_losses (drop j bs) (drop j fs)) ≡ all → held (after + row_losses (drop (j + 1) bs) (drop (j + 1) fs)) ≡ all
unfolding here
row-turn bs fs j c n all after l counted added h =
    rw (add-one j) (held-more c n (here bs fs j) (row_losses (drop (suc j) bs) (drop (suc j) fs)) all after added counted (ap (λ s. held (c + s)) (sym (row-at bs fs j l)) ∙ h))

pub row-end : (bs : List Bool) (fs : List (List ℕ)) (j c all : ℕ) → length fs ≤ j → c ≡ held c → held (c + row_losses (drop j bs) (drop j fs)) ≡ all → c ≡ all
row-end bs fs j c all l fits h = held-end c (row_losses (drop j bs) (drop j fs)) all fits (rw (drop_all j fs l) (empty-row (drop j bs))) h

-- Without a dynamic column there is nothing.

no-column : (bs : List Bool) (fs : List (List ℕ)) → list_any (λ b. b) bs ≡ false → row_losses bs fs ≡ 0
unfolding cell_losses
no-column [] fs none = refl
no-column (b ∷ bs) [] none = refl
no-column (false ∷ bs) (f ∷ fs) none = let rest = no-column bs fs none in omega arith
no-column (true ∷ bs) (f ∷ fs) none = absurd cc

-- The records.

pub record-turn : (f : List (List ℕ) → ℕ) (old new : List (List (List ℕ))) (fields : List (List ℕ)) (c n all after : ℕ)
    → Gives true old fields new → n ≡ held (f fields) → after ≡ held (c + n) → held (c + sum_by f old) ≡ all → held (after + sum_by f new) ≡ all
record-turn f old new fields c n all after g e added h =
    let sum : sum_by f old ≡ f fields + sum_by f new = ap (sum_by f) g ∙ sum_by-cons f fields new in
    held-more c n (f fields) (sum_by f new) all after added e (ap (λ s. held (c + s)) (sym sum) ∙ h)

pub record-end : (f : List (List ℕ) → ℕ) (old new : List (List (List ℕ))) (fields : List (List ℕ)) (c all : ℕ) → Gives false old fields new → c ≡ held c → held (c + sum_by f old) ≡ all → c ≡ all
record-end f old new fields c all g fits h = held-end c (sum_by f old) all fits (ap (sum_by f) g) h

pub fewer : (old new : List (List (List ℕ))) (fields : List (List ℕ)) → Gives true old fields new → length new < length old
fewer old new fields g = let e = ap length g in omega arith

sum-none : (f : List (List ℕ) → ℕ) (rows : List (List (List ℕ))) → ((fields : List (List ℕ)) → f fields ≡ 0) → sum_by f rows ≡ 0
sum-none f [] h = refl
sum-none f (r ∷ rs) h = sum_by-cons f r rs ∙ (let first = h r in let rest = sum-none f rs h in omega arith)

-- The file.

pub file-none : (bytes : List ℕ) (left fields : List (List (List ℕ))) (row : List (List ℕ)) → left ≡ file_records bytes → Gives false left row fields → 0 ≡ held (losses bytes)
unfolding record_losses
file-none bytes left fields row all g = rw (sym all ∙ g) refl

pub file-plain : (bytes : List ℕ) (left rest : List (List (List ℕ))) (header : List (List ℕ)) (bs : List Bool) → left ≡ file_records bytes → Gives true left header rest → bs ≡ map names_dynamic header
    → list_any (λ b. b) bs ≡ false → 0 ≡ held (losses bytes)
unfolding record_losses
file-plain bytes left rest header bs all g is none =
    rw (sym all ∙ g, sym is) (ap held (sym (sum-none (row_losses bs) rest (λ fields. no-column bs fields none))))

pub file-rows : (bytes : List ℕ) (left rest : List (List (List ℕ))) (header : List (List ℕ)) (bs : List Bool) → left ≡ file_records bytes → Gives true left header rest → bs ≡ map names_dynamic header
    → held (sum_by (row_losses bs) rest) ≡ held (losses bytes)
unfolding record_losses
file-rows bytes left rest header bs all g is = rw (sym all ∙ g, sym is) refl
