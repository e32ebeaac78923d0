-- How the calls of the shelf and the sinks went.
use Rattle.std.proofs.Common.{◌≡◌, subst, sym, inl, inr}
use Rattle.std.specs.Prelude.{Option}
use Rattle.kql_outside.specs.Calls.{CallCounts, NoneFailed}
use Rattle.kql_program.specs.Calls.{CallsNow, MayFail, StopsBy, Uncalled, Went}
use Rattle.kql_program.specs.declared.refusal.Stop.{Stop}
use Rattle.kql_program.specs.declared.refusal.Stop.TheVariants as stop
use Rattle.kql_words.specs.declared.refusal.Refusal.{Refusal}
use Rattle.kql_words.specs.declared.refusal.Refusal.TheVariants as refusal
use Rattle.kql_live.specs.LiveCalls.{HeedsLiveFaults, IsLiveDoneAfter, LiveEndsAtWrite, LiveLineEndsAtWrite}
use Rattle.kql_live.specs.LiveEndings.{IsTable, live_refused_as}
use Rattle.kql_live.specs.declared.ended.LiveEnded.{LiveEnded}
use Rattle.kql_live.specs.declared.ended.LiveEnded.TheVariants as ended

table-heeds : (e : LiveEnded) (b n : CallsNow) → IsTable e → Went NoneFailed NoneFailed Uncalled b n → HeedsLiveFaults b n e
table-heeds (ended.Table seen) b n t w = w
table-heeds (ended.QueryRefused code place) b n t w = absurd t
table-heeds (ended.Usage word code) b n t w = absurd t
table-heeds (ended.DataRefused file code row column) b n t w = absurd t
table-heeds ended.ReadFault b n t w = absurd t
table-heeds ended.WriteFault b n t w = absurd t
table-heeds ended.OutOfMemory b n t w = absurd t

-- the text was written, or left unfinished
pub heeds-text : (done e : LiveEnded) (b n : CallsNow) → IsTable done → NoneFailed b.shelf n.shelf → LiveEndsAtWrite b.out n.out done e → n.err ≡ b.err → HeedsLiveFaults b n e
heeds-text done e b n t s (inl w) same = subst (λ (x : LiveEnded). HeedsLiveFaults b n x) (sym w.0) (table-heeds done b n t (record { shelf = s; out = w.1; err = same }))
heeds-text done e b n t s (inr w) same = subst (λ (x : LiveEnded). HeedsLiveFaults b n x) (sym w.0) (inl (record { shelf = s; out = w.1; err = same }))

refused-heeds : (r : Refusal) (b n : CallsNow) → Went NoneFailed Uncalled NoneFailed b n → HeedsLiveFaults b n (live_refused_as r)
refused-heeds (refusal.Query code place) b n w = w
refused-heeds (refusal.Usage word code) b n w = w
refused-heeds (refusal.Data file code row column) b n w = w

may-fail : (b n : Option CallCounts) (s : Stop) → StopsBy b n s → MayFail b n
may-fail b n (stop.Refused r) h = inl h
may-fail b n stop.ReadFault h = inr h
may-fail b n stop.OutOfMemory h = inl h

line-heeds : (s : Stop) (done : LiveEnded) (b n : CallsNow) → IsLiveDoneAfter s done → StopsBy b.shelf n.shelf s → n.out ≡ b.out → NoneFailed b.err n.err → HeedsLiveFaults b n done
line-heeds (stop.Refused r) done b n (inl d) h same w = subst (λ (x : LiveEnded). HeedsLiveFaults b n x) (sym d) (refused-heeds r b n (record { shelf = h; out = same; err = w }))
line-heeds (stop.Refused r) done b n (inr d) h same w = subst (λ (x : LiveEnded). HeedsLiveFaults b n x) (sym d) (record { shelf = h; out = same; err = w })
line-heeds stop.ReadFault done b n d h same w = subst (λ (x : LiveEnded). HeedsLiveFaults b n x) (sym d) (record { shelf = h; out = same; err = w })
line-heeds stop.OutOfMemory done b n d h same w = subst (λ (x : LiveEnded). HeedsLiveFaults b n x) (sym d) (record { shelf = h; out = same; err = w })

heeds-by : (s : Stop) (done e : LiveEnded) (b n : CallsNow) → IsLiveDoneAfter s done → StopsBy b.shelf n.shelf s → n.out ≡ b.out → LiveEndsAtWrite b.err n.err done e → HeedsLiveFaults b n e
heeds-by s done e b n d h same (inl w) = subst (λ (x : LiveEnded). HeedsLiveFaults b n x) (sym w.0) (line-heeds s done b n d h same w.1)
heeds-by s done e b n d h same (inr w) = subst (λ (x : LiveEnded). HeedsLiveFaults b n x) (sym w.0) (inr (record { shelf = may-fail b.shelf n.shelf s h; out = same; err = w.1 }))

-- the line of a stop was written, or left unfinished
pub heeds-line : (s : Stop) (e : LiveEnded) (b n : CallsNow) → StopsBy b.shelf n.shelf s → n.out ≡ b.out → LiveLineEndsAtWrite b.err n.err s e → HeedsLiveFaults b n e
heeds-line s e b n h same w = heeds-by s w.done e b n w.is h same w.writes
