-- The first cut of a text from a place on, item by item, and what is remembered of places where there is none.
use Rattle.std.specs.Prelude.{ℕ, zero, suc, ◌≡◌, ◌<◌, ◌≤◌, ◌+◌, ◌-◌, ◌*◌, ◌==◌, ◌&&◌, Bool, true, false, nat_le, List, [], ◌∷◌, Option, None, Some, drop, find, is_some, length, map, option_map, slice_index_or, slice_range, take, if◌then◌else◌}
use Rattle.std.specs.List.{prefix_len}
use Rattle.kql_ticks.specs.Forms.{is_of_number}
use Rattle.kql_cells.specs.declared.value.Kind.{Kind}
use Rattle.kql_bound.specs.declared.parts.PatItem.{PatItem}
use Rattle.kql_meaning.specs.Cuts.{is_allowed, is_between_characters, is_cut_from, is_end, piece_read, rising_lists}
use Rattle.parse_op.specs.declared.search.Turn.{Turn}
use Rattle.parse_op.specs.declared.search.Turn.TheVariants as turn
use Rattle.parse_op.specs.declared.slot.Slot.{Slot}

-- The first cut of a text from a place on.
unfoldable pub cut_from : Bool → List PatItem → List ℕ → ℕ → Option (List ℕ)
cut_from relaxed items t start = find (is_cut_from relaxed items t start) (rising_lists (length items) (length t) start)

-- The first of those in which the piece of the first item ends at a place.
unfoldable pub cut_by : Bool → PatItem → List PatItem → List ℕ → ℕ → ℕ → Option (List ℕ)
cut_by relaxed item later t start end =
    if is_end t start end && is_allowed relaxed item later (slice_range t start end) (drop start t)
    then option_map (λ ends. end ∷ ends) (cut_from relaxed later t end)
    else None

-- Whether a place of a text is not within a character.
unfoldable pub is_place : List ℕ → ℕ → Bool
is_place t i = nat_le i (length t) && is_between_characters t i

-- No cut has the end of its first piece before a place, or from a place on.
unfoldable pub NoneBefore : Bool → PatItem → List PatItem → List ℕ → ℕ → ℕ → Type 0
NoneBefore relaxed item later t start place = (end : ℕ) → end < place → cut_by relaxed item later t start end ≡ None

unfoldable pub NoneBehind : Bool → PatItem → List PatItem → List ℕ → ℕ → ℕ → Type 0
NoneBehind relaxed item later t start place = (end : ℕ) → place ≤ end → cut_by relaxed item later t start end ≡ None

-- There is no cut from a place on, in no kind.
unfoldable pub HasNoCut : List PatItem → List ℕ → ℕ → Type 0
HasNoCut items t start = (relaxed : Bool) → cut_from relaxed items t start ≡ None

-- Whether a text has the first byte of another, where that has one.
unfoldable pub first_fits : List ℕ → Option ℕ → Bool
first_fits [] found = true
first_fits (b ∷ bs) None = false
first_fits (b ∷ bs) (Some c) = b == c

-- No longer piece at the start of a text reads as a value of a type.
unfoldable pub LimitsPieces : Kind → List ℕ → ℕ → Type 0
LimitsPieces k rest n = (size : ℕ) → size ≤ length rest → is_some (piece_read k (take size rest)) ≡ true → size ≤ n

-- No shorter piece at the start of a text reads as a value of a type.
unfoldable pub NoPieceBelow : Kind → List ℕ → ℕ → Type 0
NoPieceBelow k rest n = (size : ℕ) → size ≤ length rest → is_some (piece_read k (take size rest)) ≡ true → n ≤ size

-- The sign and the bytes of a number that a text begins with. A timespan has a unit or a time behind them.
unfoldable pub span_number : List ℕ → ℕ
span_number [] = 0
span_number (b ∷ bs) = if b == 45 then prefix_len is_of_number bs + 1 else prefix_len is_of_number (b ∷ bs)

abbrev pub is_zero : ℕ → Bool
is_zero b = b == 48

-- A long has a sign, zeros and nineteen digits at most.
unfoldable pub long_limit : List ℕ → ℕ
long_limit [] = 0
long_limit (b ∷ bs) = if b == 45 then prefix_len is_zero bs + 20 else prefix_len is_zero (b ∷ bs) + 19

-- From a place on, which is not before the start of an item's piece, the item allows every end.
unfoldable pub TakesAny : Bool → PatItem → List PatItem → List ℕ → ℕ → ℕ → Type 0
TakesAny relaxed item later t start place =
    (start ≤ place) × ((end : ℕ) → place ≤ end → end ≤ length t → is_allowed relaxed item later (slice_range t start end) (drop start t) ≡ true)

-- What is remembered of an item is so: the later items have no cut from a place on, and the item none from places of its own.
unfoldable pub IsRemembered : Bool → PatItem → List PatItem → List ℕ → Slot → Type 0
IsRemembered relaxed item later t slot =
    ((i : ℕ) → slot.fails_from ≤ i → is_place t i ≡ true → cut_from relaxed later t i ≡ None)
    × ((i : ℕ) → slice_index_or slot.failed.items i false ≡ true → is_place t i ≡ true → cut_from relaxed (item ∷ later) t i ≡ None)

-- No cut has the end of the item's piece before the slot's, or from the slot's bound on.
unfoldable pub IsOpen : Bool → PatItem → List PatItem → List ℕ → Slot → Type 0
IsOpen relaxed item later t slot =
    (is_place t slot.start ≡ true) × (slot.start ≤ slot.end) × (slot.end ≤ length t + 1)
    × NoneBefore relaxed item later t slot.start slot.end × NoneBehind relaxed item later t slot.start slot.beyond

-- An item allows the end of a piece, and where no item follows the text ends there.
unfoldable pub AllowsEnd : Bool → PatItem → List PatItem → List ℕ → ℕ → ℕ → Type 0
AllowsEnd relaxed item later t start end =
    (is_place t end ≡ true) × (cut_by relaxed item later t start end ≡ option_map (λ ends. end ∷ ends) (cut_from relaxed later t end))
    × (length later ≡ 0 → end ≡ length t)

-- Whether an item allows the end of a piece and the later items may have a cut from there on: else no cut has this end.
unfoldable pub MayEnd : Bool → PatItem → List PatItem → List ℕ → ℕ → ℕ → Bool → Type 0
MayEnd relaxed item later t start end true = AllowsEnd relaxed item later t start end
MayEnd relaxed item later t start end false = cut_by relaxed item later t start end ≡ None

-- The first end from a place on that may have a cut.
unfoldable pub IsNextEnd : Bool → PatItem → List PatItem → List ℕ → ℕ → ℕ → ℕ → Type 0
IsNextEnd relaxed item later t start first end =
    (first ≤ end) × NoneBefore relaxed item later t start end × AllowsEnd relaxed item later t start end

-- An open slot with its next end, or one that has none.
unfoldable pub IsChosen : Bool → PatItem → List PatItem → List ℕ → Slot → Slot → Bool → Type 0
IsChosen relaxed item later t old new true =
    (old.end ≤ new.end) × IsOpen relaxed item later t new × AllowsEnd relaxed item later t new.start new.end
IsChosen relaxed item later t old new false = NoneBehind relaxed item later t new.start 0

-- The same of each item.
unfoldable pub AreRemembered : Bool → List PatItem → List ℕ → List Slot → Type 0
AreRemembered relaxed [] t slots = Unit {0}
AreRemembered relaxed (item ∷ items) t [] = Unit {0}
AreRemembered relaxed (item ∷ items) t (slot ∷ slots) = IsRemembered relaxed item items t slot × AreRemembered relaxed items t slots

-- The items up to the one at a place have open slots, each piece starts where the one before it ends, and all but the last of them
-- allow the ends of theirs.
unfoldable pub Stands : Bool → List PatItem → List ℕ → ℕ → List Slot → ℕ → Type 0
Stands relaxed [] t start slots at = ⊥
Stands relaxed (item ∷ items) t start [] at = ⊥
Stands relaxed (item ∷ items) t start (slot ∷ slots) zero =
    (slot.start ≡ start) × IsOpen relaxed item items t slot × IsRemembered relaxed item items t slot × AreRemembered relaxed items t slots
Stands relaxed (item ∷ items) t start (slot ∷ slots) (suc at) =
    (slot.start ≡ start) × IsOpen relaxed item items t slot × IsRemembered relaxed item items t slot
    × AllowsEnd relaxed item items t slot.start slot.end × Stands relaxed items t slot.end slots at

-- Where the piece of the first item starts.
unfoldable pub first_start : List Slot → ℕ
first_start [] = 0
first_start (slot ∷ slots) = slot.start

-- Where it ends.
unfoldable pub first_end : List Slot → ℕ
first_end [] = 0
first_end (slot ∷ slots) = slot.end

-- Whether the items of these slots are known to have no cut from a place on.
unfoldable pub failed_at : List Slot → ℕ → Bool
failed_at [] place = false
failed_at (slot ∷ slots) place = slice_index_or slot.failed.items place false

-- How many choices of ends a text of so many bytes leaves to so many items, at most.
unfoldable pub choices : ℕ → ℕ → ℕ
choices size zero = 1
choices size (suc n) = (size + 3) * choices size n

-- How many of them are left, where the items up to the one at a place have slots.
unfoldable pub choices_left : ℕ → List Slot → ℕ → ℕ
choices_left size [] at = 0
choices_left size (slot ∷ slots) zero = (size + 2 - slot.end) * choices size (length slots)
choices_left size (slot ∷ slots) (suc at) = (size + 1 - slot.end) * choices size (length slots) + choices_left size slots at

-- The ends of the pieces.
abbrev pub ends_in : List Slot → List ℕ
ends_in slots = map (λ (slot : Slot). slot.end) slots

-- The items before a place have slots as above, and those from there on have no cut where the last piece before them ends.
unfoldable pub Fell : Bool → List PatItem → List ℕ → ℕ → List Slot → ℕ → Type 0
Fell relaxed items t start slots zero = (cut_from relaxed items t start ≡ None) × AreRemembered relaxed items t slots
Fell relaxed [] t start slots (suc at) = ⊥
Fell relaxed (item ∷ items) t start [] (suc at) = ⊥
Fell relaxed (item ∷ items) t start (slot ∷ slots) (suc at) =
    (slot.start ≡ start) × IsOpen relaxed item items t slot × IsRemembered relaxed item items t slot
    × AllowsEnd relaxed item items t slot.start slot.end × Fell relaxed items t slot.end slots at

unfoldable pub choices_fallen : ℕ → List Slot → ℕ → ℕ
choices_fallen size slots zero = 0
choices_fallen size [] (suc at) = 0
choices_fallen size (slot ∷ slots) (suc at) = (size + 1 - slot.end) * choices size (length slots) + choices_fallen size slots at

-- What a turn of the search says of the slots that it leaves, where the slot of the first item is the last that is open.
unfoldable pub Turned : Bool → List PatItem → List ℕ → List Slot → List Slot → Turn → Type 0
Turned relaxed items t old new turn.Found = cut_from relaxed items t (first_start old) ≡ Some (ends_in new)
Turned relaxed items t old new turn.Deeper =
    Stands relaxed items t (first_start old) new 1 × (choices_left (length t) new 1 < choices_left (length t) old 0)
Turned relaxed items t old new turn.Failed =
    (cut_from relaxed items t (first_start old) ≡ None) × AreRemembered relaxed items t new × (0 < choices_left (length t) old 0)

-- The same where it is the slot of the item at a place.
unfoldable pub TurnedAt : Bool → List PatItem → List ℕ → List Slot → ℕ → List Slot → Turn → Type 0
TurnedAt relaxed items t old at new turn.Found = cut_from relaxed items t 0 ≡ Some (ends_in new)
TurnedAt relaxed items t old at new turn.Deeper =
    Stands relaxed items t 0 new (at + 1) × (choices_left (length t) new (at + 1) < choices_left (length t) old at)
TurnedAt relaxed items t old at new turn.Failed =
    Fell relaxed items t 0 new at × (choices_fallen (length t) new at < choices_left (length t) old at)

-- The first slot with its next end.
unfoldable pub passed : List Slot → List Slot
passed [] = []
passed (slot ∷ slots) = record slot { end = slot.end + 1 } ∷ slots

-- Nothing is remembered of a text of so many bytes, but that no place is behind its end.
unfoldable pub IsFresh : ℕ → Slot → Type 0
IsFresh size slot = (slot.fails_from ≡ size + 1) × (slot.failed.items ≡ [])

unfoldable pub AreFresh : ℕ → List Slot → Type 0
AreFresh size [] = Unit {0}
AreFresh size (slot ∷ slots) = IsFresh size slot × AreFresh size slots

-- The ends are the first cut, or there is none.
unfoldable pub Answers : Bool → Option (List ℕ) → List ℕ → Type 0
Answers true cut ends = cut ≡ Some ends
Answers false cut ends = cut ≡ None
