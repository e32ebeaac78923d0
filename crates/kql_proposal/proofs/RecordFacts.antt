-- How reading a record takes the first of the records that are left; the lemmas of `csv_io`, which keeps its own to itself.
use Rattle.std.proofs.Common.{◌≡◌, ◌⊎◌, ◌+◌, ◌-◌, ◌≤◌, ◌∷◌, ◌∙◌, ℕ, zero, suc, Bool, true, false, List, [], length, refl, sym, ap, subst, inl, inr, arith, add-one}
use Rattle.std.specs.Borrow.{Bor}
use Rattle.std.specs.Prelude.{Option, Some, None, IsSome, ⊤, Result, Ok, Err, OnOk, IfOk, IfErr, IsErr, MatchResult}
use Rattle.std.specs.declared.alloc.AllocError.{AllocError}
use Rattle.std.proofs.lemmas.Bool.{cases_Bool}
use Rattle.csv.specs.Machine.{Read, next_record, step, is_end, fields_after, field_after, ends_at_end}
use Rattle.csv.specs.Reading.{ExplainsRead, NextIs, ReadRecord, ReadsNext, Ready, default_config, has_failed, is_flexible, pending_of, reader_state, reader_trim, records_from, error_kind, source_of, stops_reader, took_first}
use Rattle.csv.specs.declared.error.Error.{Error}
use Rattle.csv.specs.declared.error.ErrorKind.{ErrorKind}
use Rattle.csv.specs.declared.error.ErrorKind.TheVariants as kind
use Rattle.csv.specs.declared.parser.Config.{Config}
use Rattle.csv.specs.declared.parser.State.{State}
use Rattle.csv.specs.declared.reader.Reader.{Reader}
use Rattle.csv.specs.declared.reader.Trim.TheVariants as trim
use Rattle.csv_io.specs.RecordsLeft.{Gives, IsPlain, left_of, records_left, slice_rest}

abbrev rest_of : Option Read → List ℕ
rest_of None = []
rest_of (Some p) = p.2

-- a record takes at least a byte, if there is one
shrinks : (cfg : Config) (s : State) (fs : List (List ℕ)) (f xs : List ℕ) (p : Read) → next_record cfg s fs f xs ≡ Some p → length p.2 ≤ length xs - 1
unfolding next_record
shrinks cfg s fs f [] p e = elim (cases_Bool (ends_at_end s)) [
  | inl t ↦ let q = ap (λ o. length (rest_of o)) (rw t at e) in omega arith
  | inr n ↦ cc (rw n at e)
]
shrinks cfg s fs f (c ∷ rest) p e = elim (cases_Bool (is_end (step cfg s c).1)) [
  | inl t ↦ let q = ap (λ o. length (rest_of o)) (rw t at e) in omega arith
  | inr n ↦ let q = shrinks cfg (step cfg s c).0 (fields_after (step cfg s c).1 fs f) (field_after (step cfg s c).1 c f) rest p (rw n at e) in omega arith
]

abbrev EndsAfter : Config → Option Read → Type 0
EndsAfter cfg None = ⊤
EndsAfter cfg (Some p) = next_record cfg p.1 [] [] p.2 ≡ None

-- the end of the text ends one record at most
after-empty : (cfg : Config) (s : State) (fs : List (List ℕ)) (f : List ℕ) (p : Read) → next_record cfg s fs f [] ≡ Some p → next_record cfg p.1 [] [] p.2 ≡ None
unfolding next_record
after-empty cfg s fs f p e = elim (cases_Bool (ends_at_end s)) [
  | inl t ↦ subst (EndsAfter cfg) (rw t at e) refl
  | inr n ↦ cc (rw n at e)
]

-- so many turns read all records
abbrev Enough : Config → ℕ → State → List ℕ → Type 0
Enough cfg n s xs = (length xs + 1 ≤ n) ⊎ (next_record cfg s [] [] xs ≡ None)

enough-next : (cfg : Config) (n : ℕ) (s : State) (xs : List ℕ) (p : Read) → Enough cfg (suc n) s xs → next_record cfg s [] [] xs ≡ Some p → Enough cfg n p.1 p.2
enough-next cfg n s xs p (inr none) e = cc
enough-next cfg n s [] p (inl le) e = inr (after-empty cfg s [] [] p e)
enough-next cfg n s (c ∷ rest) p (inl le) e = inl (omega (arith, shrinks cfg s [] [] (c ∷ rest) p e))

records-none : (cfg : Config) (n : ℕ) (s : State) (xs : List ℕ) → next_record cfg s [] [] xs ≡ None → records_from cfg n s xs ≡ []
unfolding records_from
records-none cfg zero s xs e = refl
records-none cfg (suc n) s xs e = rw e refl

records-some : (cfg : Config) (n : ℕ) (s : State) (xs : List ℕ) (p : Read) → next_record cfg s [] [] xs ≡ Some p → records_from cfg (suc n) s xs ≡ p.0 ∷ records_from cfg n p.1 p.2
unfolding records_from
records-some cfg n s xs p e = rw e refl

fuel-by : (cfg : Config) (n m : ℕ) (s : State) (xs : List ℕ) (o : Option Read) → next_record cfg s [] [] xs ≡ o → Enough cfg (suc n) s xs → Enough cfg (suc m) s xs
    → ((t : State) (ys : List ℕ) → Enough cfg n t ys → Enough cfg m t ys → records_from cfg n t ys ≡ records_from cfg m t ys)
    → records_from cfg (suc n) s xs ≡ records_from cfg (suc m) s xs
fuel-by cfg n m s xs None e a b less = records-none cfg (suc n) s xs e ∙ sym (records-none cfg (suc m) s xs e)
fuel-by cfg n m s xs (Some p) e a b less =
    records-some cfg n s xs p e
    ∙ (ap (λ l. p.0 ∷ l) (less p.1 p.2 (enough-next cfg n s xs p a e) (enough-next cfg m s xs p b e))
    ∙ sym (records-some cfg m s xs p e))

-- more turns than enough read no more
pub fuel : (cfg : Config) (n m : ℕ) (s : State) (xs : List ℕ) → Enough cfg n s xs → Enough cfg m s xs → records_from cfg n s xs ≡ records_from cfg m s xs
fuel cfg zero m s xs (inl a) b = absurd (omega arith)
fuel cfg zero m s xs (inr a) b = records-none cfg zero s xs a ∙ sym (records-none cfg m s xs a)
fuel cfg (suc n) zero s xs a (inl b) = absurd (omega arith)
fuel cfg (suc n) zero s xs a (inr b) = records-none cfg (suc n) s xs b ∙ sym (records-none cfg zero s xs b)
fuel cfg (suc n) (suc m) s xs a b = fuel-by cfg n m s xs (next_record cfg s [] [] xs) refl a b (λ t ys c d. fuel cfg n m t ys c d)

pub left-some : (s : State) (xs : List ℕ) (p : Read) → next_record default_config s [] [] xs ≡ Some p → left_of s (Some xs) ≡ p.0 ∷ left_of p.1 (Some p.2)
left-some s xs p e =
    rw (add-one (length xs)) (records-some default_config (length xs) s xs p e
    ∙ ap (λ l. p.0 ∷ l) (fuel default_config (length xs) (length p.2 + 1) p.1 p.2
    (enough-next default_config (length xs) s xs p (inl (omega arith)) e) (inl (omega arith))))

next-gives : (s : State) (xs : List ℕ) (o : Option Read) (found : Bool) (fields : List (List ℕ)) (s2 : State) (ys : List ℕ)
    → next_record default_config s [] [] xs ≡ o → NextIs o found fields s2 ys → Gives found (left_of s (Some xs)) fields (left_of s2 (Some ys))
next-gives s xs None found fields s2 ys e n = rw n (records-none default_config (length xs + 1) s xs e)
next-gives s xs (Some p) found fields s2 ys e n = rw (n.0, n.1, n.2, n.3) (left-some s xs p e)

reads-gives : (s : State) (source after : Option (List ℕ)) (found : Bool) (fields : List (List ℕ)) (s2 : State)
    → IsSome source → ReadsNext default_config s source after found fields s2 → Gives found (left_of s source) fields (left_of s2 after) × IsSome after
reads-gives s None after found fields s2 k r = cc k
reads-gives s (Some xs) None found fields s2 k r = absurd r
reads-gives s (Some xs) (Some ys) found fields s2 k r = (next-gives s xs (next_record default_config s [] [] xs) found fields s2 ys refl r, refl)

-- a read by a plain reader
pub plain-ok : (a b : Reader (Bor (List ℕ))) (found : Bool) (fields : List (List ℕ)) → IsPlain a
    → (has_failed a ≡ true → found ≡ false) → has_failed b ≡ has_failed a → is_flexible b ≡ is_flexible a
    → (reader_trim a ≡ trim.None → took_first b ≡ true) → (reader_trim a ≡ trim.None → Ready a → ReadRecord slice_rest a b found fields)
    → IsPlain b × Gives found (records_left a) fields (records_left b)
plain-ok a b found fields (inl failed) none same flexible first reads = (inl (same ∙ failed), rw (none failed, failed) refl)
plain-ok a b found fields (inr plain) none same flexible first reads =
    let (t, ready, config, flex, known) = plain in
    let r = reads t ready in
    let g = reads-gives (reader_state a) (source_of slice_rest a) (pending_of (slice_rest b.rdr) b) found fields (reader_state b) known (rw config at r.0) in
    (inr (r.3 ∙ t, inl (first t), r.2 ∙ config, flexible ∙ flex, rw r.1 g.1), rw r.1 g.0)

-- only what stops a reader keeps a plain one from a record
stops : (a b : Reader (Bor (List ℕ))) (k : ErrorKind) → is_flexible a ≡ true → ExplainsRead slice_rest a b false k → stops_reader k ≡ true
stops a b (kind.Io e) f x = refl
stops a b kind.OutOfMemory f x = refl
stops a b (kind.UnequalLengths pos expected len) f x = cc x.0
stops a b (kind.Utf8 pos err) f x = cc x.0
stops a b (kind.Serialize why) f x = absurd x
stops a b (kind.Deserialize pos err) f x = absurd x

pub plain-err : (a b : Reader (Bor (List ℕ))) (k : ErrorKind) → IsPlain a → has_failed b ≡ stops_reader k → (has_failed a ≡ true → ⊥) → (Ready a → ExplainsRead slice_rest a b false k) → IsPlain b
plain-err a b k (inl failed) fails none why = absurd (none failed)
plain-err a b k (inr plain) fails none why = inl (fails ∙ stops a b k plain.3 (why plain.1))

-- the same of what a read answered
pub plain-read : (a b : Reader (Bor (List ℕ))) (r : Result Bool Error) (fields : List (List ℕ)) → IsPlain a
    → (has_failed a ≡ true → r ≡ Ok false) → OnOk r (has_failed b ≡ has_failed a) → OnOk r (is_flexible b ≡ is_flexible a)
    → (reader_trim a ≡ trim.None → OnOk r (took_first b ≡ true))
    → IfOk r (λ found. reader_trim a ≡ trim.None → Ready a → ReadRecord slice_rest a b found fields)
    → IfErr r (λ e. has_failed b ≡ stops_reader (error_kind e)) → IfErr r (λ e. Ready a → ExplainsRead slice_rest a b false (error_kind e))
    → IsPlain b × IfOk r (λ found. Gives found (records_left a) fields (records_left b))
plain-read a b (Ok found) fields plain none same flexible first reads fails why = plain-ok a b found fields plain (λ f. let e = none f in cc) same flexible first reads
plain-read a b (Err e) fields plain none same flexible first reads fails why = (plain-err a b (error_kind e) plain fails (λ f. let q = none f in cc) why, tt)

pub answer-same : (o : Result Bool Error) (r : Result Bool AllocError) (P : Bool → Type 0) → MatchResult r (λ found. o ≡ Ok found) (λ _. IsErr o) → IfOk o P → IfOk r P
answer-same o (Ok found) P e h = rw e at h
answer-same o (Err x) P e h = tt
