-- What the steps of a run keep.
use Rattle.std.proofs.Common.{◌≡◌, ℕ, ◌+◌, ◌≤◌, List, [], ◌∷◌, ◌++◌, All, fold, length, take, max, Option, Some, None, IfSome, true, false, refl, sym, ap, ◌∙◌, subst, append_assoc, length-append, arith}
use Rattle.std.specs.Prelude.{IfOk, IsSomeAnd, Result, Ok, Err, ◌↔◌}
use Rattle.std.proofs.lemmas.List.Elements.{All-head, All-nil, All-push, All-weaker, All-tail}
use Rattle.kql_cells.specs.Table.{Grid}
use Rattle.kql_cells.specs.declared.schema.Column.{Column}
use Rattle.live_catalogue.specs.Rule.{StartsWith}
use Rattle.live_catalogue.specs.Views.{AppenderView, NoteView, ReaderView, knowing, learnt, note_of, with_least}
use Rattle.live_tables.specs.Growing.{with_rows}
use Rattle.live_run.specs.Scripts.{is_scripted}
use Rattle.live_run.specs.Sights.{HasSeen, IsSeenList, IsSight, Rises}
use Rattle.live_run.specs.Runs.{HasWatched, IsFresh, IsOfFresh, IsReading, IsWaiting}
use Rattle.live_run.specs.declared.query.LiveAnswer.{LiveAnswer}
use Rattle.live_run.specs.declared.watch.Seen.{Seen}
use Rattle.live_run.specs.declared.watch.Watcher.{Watcher}

-- what holds of each value that may be published holds of a snapshot's
pub value_so : {V : Type 0} (grown : V → Grid → V) (promised : V → List Grid → Type 0) (P : V → Type 0) (opening opening' : Option V) (known : List Grid) (value : V)
    → IsSomeAnd opening (λ o. (batches : List Grid) → promised o batches → P (fold grown o batches)) → opening' ≡ opening → IfSome opening' (λ o. promised o known) → IfSome opening' (λ o. value ≡ fold grown o known) → P value
value_so grown promised P None opening' known value h same kept is = absurd h
value_so grown promised P (Some o) opening' known value h same kept is =
    let there : promised o known = subst (λ (z : Option _). IfSome z (λ o. promised o known)) same kept in
    let here : value ≡ fold grown o known = subst (λ (z : Option _). IfSome z (λ o. value ≡ fold grown o known)) same is in
    subst P (sym here) (h known there)

-- What has grown by batches stands for the table with their rows.
module _ {V : Type 0} (grown : V → Grid → V) (stands : Grid → V → Type 0) (follows : Grid → Grid → Type 0)
    (grows : (table batch : Grid) (v : V) → stands table v → follows table batch → stands (with_rows table batch) (grown v batch))
    (follows_on : (table batch next : Grid) → follows table next → follows (with_rows table batch) next) where
  stands_after : (table : Grid) (v : V) (first rest : List Grid) → stands table v → All (follows table) (first ++ rest) → stands (fold with_rows table first) (fold grown v first)
  stands_after table v [] rest h f = h
  stands_after table v (b ∷ bs) rest h f =
      let more = All-weaker (follows table) (follows (with_rows table b)) (λ c g. follows_on table b c g) (bs ++ rest) (All-tail (follows table) b (bs ++ rest) f) in
      stands_after (with_rows table b) (grown v b) bs rest (grows table b v h (All-head (follows table) b (bs ++ rest) f)) more

  -- so the question may be put to it, as long as the batches are those of the script
  pub may_ask : (table : Grid) (opening : Option V) (script : List Grid) → IsSomeAnd opening (stands table) → All (follows table) script
      → IsSomeAnd opening (λ o. (batches : List Grid) → is_scripted script o batches → (t : Grid) × stands t (fold grown o batches))
  may_ask table None script h f = absurd h
  may_ask table (Some o) script h f = λ batches starts. (fold with_rows table batches, stands_after table o batches starts.0 h (subst (All (follows table)) starts.1 f))

  -- and the answer is that over the table that grew
  pub answered : (answer : Grid → Grid) (table : Grid) (opening opening' : Option V) (script known : List Grid) (r : Grid) → IsSomeAnd opening (stands table) → opening' ≡ opening → All (follows table) script
      → IfSome opening' (λ o. is_scripted script o known) → IfSome opening' (λ o. (t : Grid) → stands t (fold grown o known) → r ≡ answer t) → r ≡ answer (fold with_rows table known)
  answered answer table None opening' script known r h same f starts is = absurd h
  answered answer table (Some o) opening' script known r h same f starts is =
      let first : StartsWith script known = subst (λ (z : Option V). IfSome z (λ o. is_scripted script o known)) same starts in
      let each = subst (λ (z : Option V). IfSome z (λ o. (t : Grid) → stands t (fold grown o known) → r ≡ answer t)) same is in
      each (fold with_rows table known) (stands_after table o known first.0 h (subst (All (follows table)) first.1 f))

-- the list that a snapshot has is a beginning of the script's
pub starts_so : {V : Type 0} (stands : V → Type 0) (opening opening' : Option V) (script known : List Grid) → IsSomeAnd opening stands → opening' ≡ opening → IfSome opening' (λ o. is_scripted script o known) → StartsWith script known
starts_so stands None opening' script known h same starts = absurd h
starts_so stands (Some o) opening' script known h same starts = subst (λ (z : Option _). IfSome z (λ o. is_scripted script o known)) same starts

-- a table that grows keeps its columns
pub columns_stay : (table : Grid) (batches : List Grid) → (fold with_rows table batches).columns ≡ table.columns
columns_stay table [] = refl
columns_stay table (b ∷ bs) = columns_stay (with_rows table b) bs

-- so a query may be asked of it, whatever its batches are
pub table_asked : (takes : List Column → Type 0) (promised : Grid → List Grid → Type 0) (opening : Option Grid) → IsSomeAnd opening (λ o. takes o.columns)
    → IsSomeAnd opening (λ o. (batches : List Grid) → promised o batches → (t : Grid) × ((fold with_rows o batches ≡ t) × takes t.columns))
table_asked takes promised None h = absurd h
table_asked takes promised (Some o) h = λ batches _. (fold with_rows o batches, (refl, subst takes (sym (columns_stay o batches)) h))

pub table_answered : (takes : List Column → Type 0) (answer : Grid → Grid) (opening opening' : Option Grid) (known : List Grid) (r : Grid) → IsSomeAnd opening (λ o. takes o.columns) → opening' ≡ opening
    → IfSome opening' (λ o. (t : Grid) → (fold with_rows o known ≡ t) × takes t.columns → r ≡ answer t) → IfSome opening' (λ o. r ≡ answer (fold with_rows o known))
table_answered takes answer None opening' known r h same is = absurd h
table_answered takes answer (Some o) opening' known r h same is =
    let each = subst (λ (z : Option Grid). IfSome z (λ o. (t : Grid) → (fold with_rows o known ≡ t) × takes t.columns → r ≡ answer t)) same is in
    subst (λ (z : Option Grid). IfSome z (λ o. r ≡ answer (fold with_rows o known))) (sym same) (each (fold with_rows o known) (refl, subst takes (sym (columns_stay o known)) h))

pub each_answered : {E : Type 0} (takes : List Column → Type 0) (answer : Grid → Grid) (opening opening' : Option Grid) (known : List Grid) (r : Result LiveAnswer E) → IsSomeAnd opening (λ o. takes o.columns) → opening' ≡ opening
    → IfOk r (λ a. IfSome opening' (λ o. (t : Grid) → (fold with_rows o known ≡ t) × takes t.columns → a.table ≡ answer t)) → IfOk r (λ a. IfSome opening' (λ o. a.table ≡ answer (fold with_rows o known)))
each_answered takes answer opening opening' known (Ok a) h same is = table_answered takes answer opening opening' known a.table h same is
each_answered takes answer opening opening' known (Err e) h same is = tt

pub some_and : {X : Type 0} (P : X → Type 0) (o : Option X) (x : X) → o ≡ Some x → P x → IsSomeAnd o P
some_and P o x e p = subst (λ z. IsSomeAnd z P) (sym e) p

pub if_some : {X : Type 0} (P : X → Type 0) (o : Option X) (x : X) → o ≡ Some x → IfSome o P → P x
if_some P o x e p = subst (λ z. IfSome z P) e p

-- what is seen once
take_front : (xs rest : List Grid) → take (length xs) (xs ++ rest) ≡ xs
take_front [] rest = refl
take_front (x ∷ xs) rest = ap (λ l. x ∷ l) (take_front xs rest)

pub sight_of : (answer : Grid → Grid) (opening : Grid) (batches known : List Grid) (n rows : ℕ) (t : Grid)
    → StartsWith batches known → n ≡ length known → t ≡ answer (fold with_rows opening known) → rows ≡ length t.lines
    → IsSight answer opening batches (record { batches = n; rows = rows })
sight_of answer opening batches known n rows t starts count is rows_are =
    let whole : length batches ≡ length known + length starts.0 = ap length starts.1 ∙ length-append known starts.0 in
    let front : take n batches ≡ known = rw (count, starts.1) (take_front known starts.0) in
    record {
      within = omega (arith, whole, count);
      rows = rows_are ∙ (ap (λ (g : Grid). length g.lines) is ∙ ap (λ (l : List Grid). length (answer (fold with_rows opening l)).lines) (sym front));
    }

-- one sight more
rises_push : (low : ℕ) (ss : List Seen) (high : ℕ) (s : Seen) → Rises low ss high → high ≤ s.batches → Rises low (ss ++ s ∷ []) s.batches
rises_push low [] high s h up = let a : low ≤ high = h in (omega (arith, a, up), omega arith)
rises_push low (x ∷ xs) high s h up = (h.0, rises_push x.batches xs high s h.1 up)

pub sees_more : (answer : Grid → Grid) (opening : Grid) (batches : List Grid) (low : ℕ) (seen more : List Seen) (least least' : ℕ) (s : Seen)
    → HasSeen answer opening batches low seen least → more ≡ seen ++ s ∷ [] → IsSight answer opening batches s → least ≤ s.batches → least' ≡ s.batches
    → HasSeen answer opening batches low more least'
sees_more answer opening batches low seen more least least' s h items sight up is = rw (items, is) (
  rises_push low seen least s h.0 up,
  All-push (IsSight answer opening batches) seen s h.1 sight,
)

pub seen_whole : (answer : Grid → Grid) (opening : Grid) (batches : List Grid) (seen more : List Seen) (least times : ℕ) (s : Seen)
    → HasSeen answer opening batches 0 seen least → length seen ≡ times → times ≡ length batches + 1 → more ≡ seen ++ s ∷ [] → IsSight answer opening batches s
    → least ≤ s.batches → s.batches ≡ length batches → IsSeenList answer opening batches more
seen_whole answer opening batches seen more least times s h count times_are items sight up whole = record {
  sights = sees_more answer opening batches 0 seen more least (length batches) s h items sight up (sym whole);
  count = let size : length more ≡ length seen + 1 = ap length items ∙ length-append seen (s ∷ []) in omega (arith, size, count, times_are);
  before = seen;
  last = s;
  ends = items;
  all = whole;
}

-- the batches that are left
pub takes_rest : {V : Type 0} (can_take : V → Grid → Type 0) (grown : V → Grid → V) (alike : (v : V) (b c : Grid) → can_take v b → can_take (grown v b) c ↔ can_take v c)
    (value value' : V) (batch : Grid) (left more : List Grid) → left ≡ batch ∷ more → value' ≡ grown value batch → All (can_take value) left → All (can_take value') more
takes_rest can_take grown alike value value' batch left more is same h =
    let all = subst (All (can_take value)) is h in
    let rest = All-weaker (can_take value) (can_take (grown value batch)) (λ c t. (alike value batch c (All-head (can_take value) batch more all)).1 t) more (All-tail (can_take value) batch more all) in
    subst (λ (v : _). All (can_take v) more) (sym same) rest

pub script_rest : (published published' left more batches : List Grid) (batch : Grid) → published ++ left ≡ batches → left ≡ batch ∷ more → published' ≡ published ++ batch ∷ []
    → published' ++ more ≡ batches
script_rest published published' left more batches batch whole is one =
    ap (λ l. l ++ more) one ∙ (append_assoc published (batch ∷ []) more ∙ (ap (λ l. published ++ l) (sym is) ∙ whole))

pub starts_next : (published left more batches : List Grid) (batch : Grid) → published ++ left ≡ batches → left ≡ batch ∷ more → StartsWith batches (published ++ batch ∷ [])
starts_next published left more batches batch whole is =
    (more, sym (append_assoc published (batch ∷ []) more ∙ (ap (λ l. published ++ l) (sym is) ∙ whole)))

-- one watcher more
pub one_waiting : {V : Type 0} (first : V) (ws more : List (Watcher (ReaderView V))) (w : Watcher (ReaderView V)) → more ≡ ws ++ w ∷ [] → All (IsOfFresh first) ws → IsOfFresh first w → All (IsOfFresh first) more
one_waiting first ws more w is each one = subst (All (IsOfFresh first)) (sym is) (All-push (IsOfFresh first) ws w each one)

pub all_waiting : {V : Type 0} (stands : V → Type 0) (opening : Option V) (readers : List (ReaderView V)) (ws : List (Watcher (ReaderView V))) → IsSomeAnd opening stands → IfSome opening (λ o. All (IsFresh o) readers)
    → ((o : V) → All (IsFresh o) readers → All (IsOfFresh o) ws) → All (IsWaiting stands) ws
all_waiting stands None readers ws h fresh each = absurd h
all_waiting stands (Some o) readers ws h fresh each =
    All-weaker (IsOfFresh o) (IsWaiting stands) (λ w f. record { reading = record { opened = some_and stands w.reader.opening o f.opened h; open_yet = f.open_yet }; least = f.least }) ws (each o fresh)

-- the last note makes the reader know what is published
pub learns_last : {V : Type 0} (r : ReaderView V) (n : NoteView V) → r.closed ≡ false → n.closed ≡ true → learnt r n ≡ with_least (knowing n) (max r.least (length n.batches))
learns_last r n open_yet closed = rw (open_yet, closed) refl

-- what the whole run showed a reader, where it learnt the last note and then asked once more
pub last_list : {V : Type 0} (stands : V → Type 0) (answer : Grid → Grid) (opening : Grid) (batches : List Grid) (times : ℕ) (w : Watcher (ReaderView V)) (seen more : List Seen) (s : Seen) (n : NoteView V)
    (a a' : AppenderView V) (r r' : ReaderView V)
    → HasWatched stands answer opening batches times w → w.seen ≡ Some seen → times ≡ length batches + 1 → a.published ≡ batches → a' ≡ record a { closed = true }
    → n ≡ note_of a' → r ≡ learnt w.reader n → (r.closed ≡ true → r'.batches ≡ r.batches) → s.batches ≡ length r'.batches → r.least ≤ s.batches
    → IsSight answer opening batches s → more ≡ seen ++ s ∷ [] → IsSeenList answer opening batches more
last_list stands answer opening batches times w seen more s n a a' r r' watched is times_are published closed told knows last counted later sight items =
    let h = if_some (λ ss. IsReading stands w.reader × HasSeen answer opening batches 0 ss w.reader.least × (length ss ≡ times)) w.seen seen is watched in
    let mark : n.closed ≡ true = ap (λ (z : NoteView _). z.closed) told ∙ ap (λ (z : AppenderView _). z.closed) closed in
    let list : n.batches ≡ batches = ap (λ (z : NoteView _). z.batches) told ∙ (ap (λ (z : AppenderView _). z.published) closed ∙ published) in
    let known : r ≡ with_least (knowing n) (max w.reader.least (length n.batches)) = knows ∙ learns_last w.reader n h.0.open_yet mark in
    let r_closed : r.closed ≡ true = ap (λ (z : ReaderView _). z.closed) known ∙ mark in
    let r_batches : r'.batches ≡ batches = last r_closed ∙ (ap (λ (z : ReaderView _). z.batches) known ∙ list) in
    let r_least : r.least ≡ max w.reader.least (length n.batches) = ap (λ (z : ReaderView _). z.least) known in
    let up : w.reader.least ≤ s.batches = omega (arith, r_least, later) in
    seen_whole answer opening batches seen more w.reader.least times s h.1 h.2 times_are items sight up (counted ∙ ap length r_batches)

-- a reader that learnt it has the appender's opening
pub knows_opening : {V : Type 0} (stands : V → Type 0) (r r' : ReaderView V) (n : NoteView V) (a a' : AppenderView V) → r.closed ≡ false → a' ≡ record a { closed = true } → n ≡ note_of a' → r' ≡ learnt r n
    → IsSomeAnd a.opening stands → IsSomeAnd r'.opening stands
knows_opening stands r r' n a a' open_yet closed told knows h =
    let mark : n.closed ≡ true = ap (λ (z : NoteView _). z.closed) told ∙ ap (λ (z : AppenderView _). z.closed) closed in
    let known : r' ≡ with_least (knowing n) (max r.least (length n.batches)) = knows ∙ learns_last r n open_yet mark in
    let is : r'.opening ≡ a.opening = ap (λ (z : ReaderView _). z.opening) known ∙ (ap (λ (z : NoteView _). z.opening) told ∙ ap (λ (z : AppenderView _). z.opening) closed) in
    subst (λ (z : Option _). IsSomeAnd z stands) (sym is) h

-- what is known of the opening stays, where that does
pub opened_still : {V : Type 0} (stands : V → Type 0) (o o' : Option V) → o' ≡ o → IsSomeAnd o stands → IsSomeAnd o' stands
opened_still stands o o' same h = subst (λ (z : Option _). IsSomeAnd z stands) (sym same) h

pub reads_on : {V : Type 0} (stands : V → Type 0) (answer : Grid → Grid) (opening : Grid) (batches : List Grid) (times : ℕ) (w : Watcher (ReaderView V)) (seen : List Seen) → HasWatched stands answer opening batches times w → w.seen ≡ Some seen
    → IsReading stands w.reader
reads_on stands answer opening batches times w seen watched is =
    (if_some (λ ss. IsReading stands w.reader × HasSeen answer opening batches 0 ss w.reader.least × (length ss ≡ times)) w.seen seen is watched).0

-- a look leaves the reader's opening and its mark
pub still_reading : {V : Type 0} (stands : V → Type 0) (r r' : ReaderView V) → IsReading stands r → (r'.opening ≡ r.opening) × (r'.closed ≡ r.closed) → IsReading stands r'
still_reading stands r r' h same = record { opened = subst (λ (z : Option _). IsSomeAnd z stands) (sym same.0) h.opened; open_yet = same.1 ∙ h.open_yet }

-- one list more
pub one_list : (answer : Grid → Grid) (opening : Grid) (batches : List Grid) (lists more : List (List Seen)) (list : List Seen) → more ≡ lists ++ list ∷ []
    → All (IsSeenList answer opening batches) lists → IsSeenList answer opening batches list → All (IsSeenList answer opening batches) more
one_list answer opening batches lists more list is each one =
    subst (All (IsSeenList answer opening batches)) (sym is) (All-push (IsSeenList answer opening batches) lists list each one)

pub first_list : (answer : Grid → Grid) (opening : Grid) (batches : List Grid) (none more : List (List Seen)) (list : List Seen) → none ≡ [] → more ≡ none ++ list ∷ []
    → IsSeenList answer opening batches list → All (IsSeenList answer opening batches) more
first_list answer opening batches none more list empty is one =
    one_list answer opening batches none more list is (subst (All (IsSeenList answer opening batches)) (sym empty) (All-nil (IsSeenList answer opening batches))) one

pub one_more : {X : Type 0} (xs more : List X) (x : X) → more ≡ xs ++ x ∷ [] → length more ≡ length xs + 1
one_more xs more x is = ap length is ∙ length-append xs (x ∷ [])
