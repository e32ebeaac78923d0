-- Looking into JSON, in the words of `serde_json`: a key that stands twice in an object is there once, with the last of its values.
use Rattle.std.specs.Prelude.{ℕ, ◌==◌, Bool, List, [], ◌∷◌, Option, Some, None, option_and_then, option_map, unwrap_or, false}
use Rattle.serde_json.specs.Data.{Data, Items}
use Rattle.serde_json.specs.Events.{members_len}
use Rattle.serde_json.specs.Find.{as_array, as_object, as_str, get}

-- an object of so many keys: where it has so many given ones, these are all
abbrev pub has_keys : ℕ → Data → Bool
has_keys count d = unwrap_or (option_map (λ members. members_len members == count) (as_object d)) false

-- the array, and the text, at a key of an object
abbrev pub list_at : List ℕ → Data → Option Items
list_at key d = option_and_then as_array (get key d)

abbrev pub text_at : List ℕ → Data → Option (List ℕ)
text_at key d = option_and_then as_str (get key d)

-- a text that is not empty
abbrev pub nonempty : List ℕ → Option (List ℕ)
nonempty [] = None
nonempty (b ∷ bs) = Some (b ∷ bs)

abbrev pub some_text : Data → Option (List ℕ)
some_text d = option_and_then nonempty (as_str d)
