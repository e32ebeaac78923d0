-- Topics and their texts.
use Rattle.std.specs.Prelude.{ℕ, Bool, List, Option, find, flat_map, map, option_map}
use Rattle.std.specs.List.{list_any}
use Rattle.std.specs.Str.{bytes_eq}
use Rattle.kql_help.specs.declared.topic.Topic.{Topic}

-- a topic: its names, and its text
abbrev pub Told : Type 0
Told = List (List ℕ) × List ℕ

-- a topic of the program so seen
abbrev pub seen : Topic → Told
seen t = (map (λ n. n.now) t.names.now, t.text.now)

-- whether a name is among these
abbrev pub has_name : List ℕ → List (List ℕ) → Bool
has_name name names = list_any (λ n. bytes_eq n name) names

-- the text of the first of these topics that has a name
unfoldable pub text_of : List Told → List ℕ → Option (List ℕ)
text_of topics name = option_map (λ t. t.1) (find (λ t. has_name name t.0) topics)

-- the names of some topics, one topic after another
abbrev pub names_in : List Told → List (List ℕ)
names_in topics = flat_map (λ t. t.0) topics
