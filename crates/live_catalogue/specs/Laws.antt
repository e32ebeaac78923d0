-- What the rule of a live value says, in the words of those who use it
use Rattle.std.specs.Prelude.{◌≡◌, ◌⊎◌, ℕ, List, fold, length, Some, true}
use mathlib.Core.Option.{some}
use lib.ListN.{get_elem?}
use Rattle.kql_cells.specs.Table.{Grid}
use Rattle.live_catalogue.specs.declared.value.Live.{Live}
use Rattle.live_catalogue.specs.declared.known.Known.{Known}
use Rattle.live_catalogue.specs.Rule.{StartsWith}

module _ {V : Type 0} where
  pub record IsLawful (grown : V → Grid → V) (promised : V → List Grid → Type 0) (x : Live V) (views : List (Known V)) : Type 0 where
    -- what two seats know is the beginning of one list
    pub in_line : (i j : ℕ) (v w : Known V) → get_elem? views i ≡ some v → get_elem? views j ≡ some w → StartsWith v.batches w.batches ⊎ StartsWith w.batches v.batches
    pub one_opening : (i j : ℕ) (v w : Known V) (o p : V) → get_elem? views i ≡ some v → get_elem? views j ≡ some w → v.opening ≡ Some o → w.opening ≡ Some p → o ≡ p
    -- the appender knows all batches, and there is one appender
    pub appender : (i j : ℕ) (v w : Known V) → get_elem? views i ≡ some v → get_elem? views j ≡ some w → v.appends ≡ true → StartsWith v.batches w.batches
    pub alone : (i j : ℕ) (v w : Known V) → get_elem? views i ≡ some v → get_elem? views j ≡ some w → v.appends ≡ true → w.appends ≡ true → i ≡ j
    -- so does each seat with the closing mark, and then the appender has it too
    pub last : (i j : ℕ) (v w : Known V) → get_elem? views i ≡ some v → get_elem? views j ≡ some w → v.closed ≡ true → StartsWith v.batches w.batches
    pub marked : (i j : ℕ) (v w : Known V) → get_elem? views i ≡ some v → get_elem? views j ≡ some w → v.closed ≡ true → w.appends ≡ true → w.closed ≡ true
    -- the promise holds of what each seat knows
    pub promise : (i : ℕ) (v : Known V) (o : V) → get_elem? views i ≡ some v → v.opening ≡ Some o → promised o v.batches
    -- the published value is the opening value grown by the appender's batches
    pub value : (i : ℕ) (v : Known V) (o : V) → get_elem? views i ≡ some v → v.appends ≡ true → v.opening ≡ Some o → x.value ≡ fold grown o v.batches
    pub count : (i : ℕ) (v : Known V) → get_elem? views i ≡ some v → v.appends ≡ true → x.batches ≡ length v.batches
