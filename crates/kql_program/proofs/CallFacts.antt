-- How the calls of the shelf and the sinks went, step by step.
use Rattle.std.proofs.Common.{◌≡◌, ◌∙◌, ℕ, List, refl, ap, subst, sym, inl, inr}
use Rattle.std.specs.Prelude.{Option, Some, None, IfSome, IsErrAnd, Result, Ok, Err}
use Rattle.kql_lexer.specs.declared.place.Place.{Place}
use Rattle.kql_lexer.specs.declared.token.Token.{Token}
use Rattle.kql_outside.specs.Calls.{CallCounts, LastFailed, NoneFailed, StopsAtReadFault, one_more}
use Rattle.kql_outside.specs.declared.transfers.ReadError.{ReadError}
use Rattle.kql_outside.specs.declared.transfers.ReadError.TheVariants as read_error
use Rattle.kql_parser.proofs.ResultLaws.{not-refused}
use Rattle.kql_parser.specs.Parsing.{Parsed, Refuses}
use Rattle.kql_syntax.specs.declared.parse.SyntaxFault.{SyntaxFault}
use Rattle.kql_syntax.specs.declared.parse.SyntaxFault.TheVariants as syntax
use Rattle.kql_syntax.specs.declared.query.Query.{Query}
use Rattle.kql_words.specs.Command.{command_of, query_path}
use Rattle.kql_words.specs.Refusals.{Answer}
use Rattle.kql_words.specs.declared.command.Asked.{Asked}
use Rattle.kql_words.specs.declared.command.Command.{Command}
use Rattle.kql_words.specs.declared.command.Command.TheVariants as command
use Rattle.kql_words.specs.declared.refusal.Refusal.{Refusal}
use Rattle.kql_words.specs.declared.refusal.Refusal.TheVariants as refusal
use Rattle.kql_program.specs.Calls.{CallsNow, EndsAtWrite, HasOwnFault, HeedsFaults, IsDoneAfter, LineEndsAtWrite, MayFail, OwnFault, StartsFor, StopsAtRead, StopsBy, Uncalled, Went}
use Rattle.kql_program.specs.Endings.{EndsAs, refused_as}
use Rattle.catalogue_tables.specs.Files.{Files}
use Rattle.kql_program.specs.Files.{file_tokens}
use Rattle.kql_program.specs.Outcomes.{asked_in, text_in}
use Rattle.kql_program.specs.Refusals.{Finds, Gives}
use Rattle.kql_program.specs.Stops.{read_stop, syntax_stop}
use Rattle.kql_program.specs.declared.bound.Done.{Done}
use Rattle.kql_program.specs.declared.ended.Ended.{Ended}
use Rattle.kql_program.specs.declared.ended.Ended.TheVariants as ended
use Rattle.kql_program.specs.declared.refusal.Stop.{Stop}
use Rattle.kql_program.specs.declared.refusal.Stop.TheVariants as stop

-- Reading.

last-behind : (b m n : Option CallCounts) → NoneFailed b m → LastFailed m n → LastFailed b n
last-behind b m n h l = record { one = l.one ∙ ap one_more h; last = l.last }

-- a stop behind calls of which none failed
pub stops-behind : (b m n : Option CallCounts) (s : Stop) → NoneFailed b m → StopsBy m n s → StopsBy b n s
stops-behind b m n (stop.Refused r) h s = s ∙ h
stops-behind b m n stop.ReadFault h s = last-behind b m n h s
stops-behind b m n stop.OutOfMemory h s = s ∙ h

pub reads-behind : {X : Type 0} (b m n : Option CallCounts) (r : Result X Stop) → NoneFailed b m → StopsAtRead m n r → StopsAtRead b n r
reads-behind b m n (Ok x) h s = s ∙ h
reads-behind b m n (Err e) h s = stops-behind b m n e h s

-- an error that `?` passed on
pub raised-stops : {X : Type 0} (b n : Option CallCounts) (r : Result X Stop) (s : Stop) → IsErrAnd r (λ e. e ≡ s) → StopsBy b n s → StopsAtRead b n r
raised-stops b n (Ok x) s i h = absurd i
raised-stops b n (Err e) s i h = subst (λ (x : Stop). StopsBy b n x) (sym i) h

-- a shelf that failed to start a file
pub start-stops : {X : Type 0} (b n : Option CallCounts) (r : Result X Stop) → IsErrAnd r (λ e. e ≡ stop.ReadFault) → LastFailed b n → StopsAtRead b n r
start-stops b n r i h = raised-stops b n r stop.ReadFault i h

read-stops-by : (T : Type 0) (b n : Option CallCounts) (e : ReadError) → StopsAtReadFault {T = T} b n (Err e) → StopsBy b n (read_stop e)
read-stops-by T b n read_error.Failed h = h
read-stops-by T b n read_error.OutOfMemory h = h

-- a file that could not be read
pub read-stops : (T : Type 0) {X : Type 0} (b m n : Option CallCounts) (r : Result X Stop) (e : ReadError) → NoneFailed b m → StopsAtReadFault {T = T} m n (Err e) → IsErrAnd r (λ x. x ≡ read_stop e) → StopsAtRead b n r
read-stops T b m n r e h s i = raised-stops b n r (read_stop e) i (stops-behind b m n (read_stop e) h (read-stops-by T m n e s))

-- a pure step has no fault of the shelf
given-by : {X : Type 0} (a : Answer X) (b n : Option CallCounts) (s : Stop) → Gives a (Err s) → NoneFailed b n → StopsBy b n s
given-by a b n (stop.Refused r) g h = h
given-by a b n stop.ReadFault g h = absurd g
given-by a b n stop.OutOfMemory g h = h

pub given-stops : {X : Type 0} (a : Answer X) (b n : Option CallCounts) (r : Result X Stop) → Gives a r → NoneFailed b n → StopsAtRead b n r
given-stops a b n (Ok x) g h = h
given-stops a b n (Err s) g h = given-by a b n s g h

-- a step that reads no file
pub found-stops : {X : Type 0} (Is : Answer X → Type 0) (b n : Option CallCounts) (r : Result X Stop) → Finds Is r → NoneFailed b n → StopsAtRead b n r
found-stops Is b n (Ok x) g h = h
found-stops Is b n (Err (stop.Refused q)) g h = h
found-stops Is b n (Err stop.ReadFault) g h = absurd g
found-stops Is b n (Err stop.OutOfMemory) g h = h

pub given-raised : {X Y : Type 0} (a : Answer X) (b n : Option CallCounts) (r : Result Y Stop) (s : Stop) → Gives a (Err s) → IsErrAnd r (λ e. e ≡ s) → NoneFailed b n → StopsAtRead b n r
given-raised a b n r s g i h = raised-stops b n r s i (given-by a b n s g h)

-- a trial reads no file
pub trial-stops : (Is : Answer (List ℕ) → Type 0) (b : Option CallCounts) (r : Result Done Stop) → Finds Is (text_in r) → StopsAtRead b b r
trial-stops Is b (Ok done) g = refl
trial-stops Is b (Err (stop.Refused q)) g = refl
trial-stops Is b (Err stop.ReadFault) g = absurd g
trial-stops Is b (Err stop.OutOfMemory) g = refl

pub syntax-stops : {X : Type 0} (b n : Option CallCounts) (r : Result X Stop) (fault : SyntaxFault) → IsErrAnd r (λ e. e ≡ syntax_stop fault) → NoneFailed b n → StopsAtRead b n r
syntax-stops b n r (syntax.Refused code place) i h = raised-stops b n r (syntax_stop (syntax.Refused code place)) i h
syntax-stops b n r syntax.OutOfMemory i h = raised-stops b n r stop.OutOfMemory i h

-- want of memory
pub memory-stops : {X : Type 0} (b n : Option CallCounts) (r : Result X Stop) → IsErrAnd r (λ e. e ≡ stop.OutOfMemory) → NoneFailed b n → StopsAtRead b n r
memory-stops b n r i h = raised-stops b n r stop.OutOfMemory i h

-- Writing.

text-heeds : (c : Command) (e : Ended) (b n : CallsNow) → EndsAs c e → Went NoneFailed NoneFailed Uncalled b n → HeedsFaults b n e
text-heeds (command.Run asked) (ended.Table plan report) b n h w = w
text-heeds (command.Run asked) _ b n h w = absurd h
text-heeds (command.Plain asked) ended.PlainTable b n h w = w
text-heeds (command.Plain asked) _ b n h w = absurd h
text-heeds (command.Explain asked) (ended.Explained plan) b n h w = w
text-heeds (command.Explain asked) _ b n h w = absurd h
text-heeds (command.Trial trial) (ended.Trial reports) b n h w = w
text-heeds (command.Trial trial) _ b n h w = absurd h

-- the text was written, or left unfinished
pub heeds-text : (c : Command) (done e : Ended) (b n : CallsNow) → EndsAs c done → NoneFailed b.shelf n.shelf → EndsAtWrite b.out n.out done e → n.err ≡ b.err → HeedsFaults b n e
heeds-text c done e b n h s (inl w) same = subst (λ (x : Ended). HeedsFaults b n x) (sym w.0) (text-heeds c done b n h (record { shelf = s; out = w.1; err = same }))
heeds-text c done e b n h s (inr w) same = subst (λ (x : Ended). HeedsFaults b n x) (sym w.0) (inl (record { shelf = s; out = w.1; err = same }))

refused-heeds : (r : Refusal) (b n : CallsNow) → Went NoneFailed Uncalled NoneFailed b n → HeedsFaults b n (refused_as r)
refused-heeds (refusal.Query code place) b n w = w
refused-heeds (refusal.Usage word code) b n w = w
refused-heeds (refusal.Data file code row column) b n w = w

may-fail : (b n : Option CallCounts) (s : Stop) → StopsBy b n s → MayFail b n
may-fail b n (stop.Refused r) h = inl h
may-fail b n stop.ReadFault h = inr h
may-fail b n stop.OutOfMemory h = inl h

line-heeds : (s : Stop) (done : Ended) (b n : CallsNow) → IsDoneAfter s done → StopsBy b.shelf n.shelf s → n.out ≡ b.out → NoneFailed b.err n.err → HeedsFaults b n done
line-heeds (stop.Refused r) done b n (inl d) h same w = subst (λ (x : Ended). HeedsFaults b n x) (sym d) (refused-heeds r b n (record { shelf = h; out = same; err = w }))
line-heeds (stop.Refused r) done b n (inr d) h same w = subst (λ (x : Ended). HeedsFaults b n x) (sym d) (record { shelf = h; out = same; err = w })
line-heeds stop.ReadFault done b n d h same w = subst (λ (x : Ended). HeedsFaults b n x) (sym d) (record { shelf = h; out = same; err = w })
line-heeds stop.OutOfMemory done b n d h same w = subst (λ (x : Ended). HeedsFaults b n x) (sym d) (record { shelf = h; out = same; err = w })

heeds-by : (s : Stop) (done e : Ended) (b n : CallsNow) → IsDoneAfter s done → StopsBy b.shelf n.shelf s → n.out ≡ b.out → EndsAtWrite b.err n.err done e → HeedsFaults b n e
heeds-by s done e b n d h same (inl w) = subst (λ (x : Ended). HeedsFaults b n x) (sym w.0) (line-heeds s done b n d h same w.1)
heeds-by s done e b n d h same (inr w) = subst (λ (x : Ended). HeedsFaults b n x) (sym w.0) (inr (record { shelf = may-fail b.shelf n.shelf s h; out = same; err = w.1 }))

-- the line of a stop was written, or left unfinished
pub heeds-line : (s : Stop) (e : Ended) (b n : CallsNow) → StopsBy b.shelf n.shelf s → n.out ≡ b.out → LineEndsAtWrite b.err n.err s e → HeedsFaults b n e
heeds-line s e b n h same w = heeds-by s w.done e b n w.is h same w.writes

-- Files that are started.

-- tokens that are a query have no fault
pub no-syntax-fault : (tokens : List Token) (query : Query) (P : Type 0) (code : ℕ) (place : Place) → Parsed tokens query → Refuses tokens code place → P
no-syntax-fault tokens query P code place p r = absurd (not-refused tokens query code place p r)

-- tokens that were read have a fault of their syntax where the query has one of its own
alone-of : (tokens : List Token) (a : Answer (List Token)) (b m n : Option ℕ) → a ≡ Ok tokens → m ≡ one_more b → ((code : ℕ) (place : Place) → Refuses tokens code place → n ≡ m) → OwnFault a → n ≡ one_more b
alone-of tokens a b m n e s f own = let fault : OwnFault (Ok tokens) = subst OwnFault e own in f fault.0 fault.1 fault.2 ∙ s

pub query-alone : (told : Option Files) (words : List (List ℕ)) (path : List ℕ) (asked : Asked) (tokens : List Token) (b m n : Option ℕ) → query_path words asked ≡ path
    → IfSome told (λ files. file_tokens files path ≡ Ok tokens) → m ≡ one_more b → ((code : ℕ) (place : Place) → Refuses tokens code place → n ≡ m)
    → IfSome told (λ files. HasOwnFault words files asked → n ≡ one_more b)
query-alone None words path asked tokens b m n p t s f = tt
query-alone (Some files) words path asked tokens b m n p t s f = alone-of tokens (file_tokens files (query_path words asked)) b m n (ap (file_tokens files) p ∙ t) s f

-- the command that the words are
pub starts-asked : (words : List (List ℕ)) (told : Option Files) (c : Command) (b n : Option ℕ) → Ok c ≡ command_of words → StartsFor words told (asked_in (Ok c)) b n → StartsFor words told (asked_in (command_of words)) b n
starts-asked words told c b n e h = subst (λ (a : Answer Command). StartsFor words told (asked_in a) b n) e h

pub starts-none : (words : List (List ℕ)) (told : Option Files) (r : Refusal) (b : Option ℕ) → Err r ≡ command_of words → StartsFor words told (asked_in (command_of words)) b b
starts-none words told r b e = subst (λ (a : Answer Command). StartsFor words told (asked_in a) b b) e refl
