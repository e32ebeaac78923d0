-- Records of which each field is text.
use Rattle.std.specs.Prelude.{ℕ, List, [], ◌∷◌, ⊤}
use Rattle.csv.specs.Records.{AllText}

unfoldable pub AllRecordsText : List (List (List ℕ)) → Type 0
AllRecordsText [] = ⊤
AllRecordsText (r ∷ rs) = AllText r × AllRecordsText rs
