-- All patterns were made, or the first bad one is told: step by step.
use Rattle.std.proofs.Common.{◌≡◌, ◌<◌, ◌∙◌, ◌+◌, ◌-◌, ℕ, List, get_or, drop, length, take, ap, ap₂, inl, inr, refl, subst, sym}
use Rattle.std.specs.Prelude.{ℤ, Option, Some, None, IfSome, IsErrAnd, Result, Ok, Err, String, string_bytes}
use Rattle.std.specs.Global.{Global}
use Rattle.kql_bound.specs.declared.plan.Program.{Program}
use Rattle.kql_cells.specs.Catalogues.{Named}
use Rattle.kql_lexer.specs.declared.place.Place.{Place}
use Rattle.kql_lexer.specs.declared.token.Token.{Token}
use Rattle.kql_parser.specs.Parsing.{Parsed, Parses}
use Rattle.kql_syntax.specs.declared.parse.SyntaxFault.{SyntaxFault}
use Rattle.kql_syntax.specs.declared.query.Query.{Query}
use Rattle.kql_words.specs.Command.{catalogue_path, command_of, query_path, table_words, texts}
use Rattle.kql_words.specs.Refusals.{Answer}
use Rattle.kql_words.specs.declared.command.Asked.{Asked}
use Rattle.kql_words.specs.declared.command.Command.{Command}
use Rattle.kql_words.specs.declared.command.Command.TheVariants as command
use Rattle.kql_words.specs.declared.refusal.Refusal.{Refusal}
use Rattle.kql_words.specs.declared.refusal.Refusal.TheVariants as refusal
use Rattle.kql_words.proofs.AskedLaws.{texts-rest}
use Rattle.catalogue_tables.specs.Files.{Files}
use Rattle.pattern_run.specs.Patterned.{AreMade, IsFirstRefused, IsJudgedBy, calls_of_program}
use Rattle.pattern_run.specs.declared.fault.PatternFault.{PatternFault}
use Rattle.pattern_run.specs.declared.fault.PatternFault.TheVariants as pattern
use Rattle.kql_program.specs.Endings.{EndsAs, refused_as}
use Rattle.kql_program.specs.Files.{file_tokens, tables_of}
use Rattle.kql_program.specs.Judged.{AreAllMade, EndingJudges, IsFirstBad, IsJudged, IsProgramAsked, IsProgramOf, IsProgramOver, IsProgramWith, Judges, OfTexts, StopJudges}
use Rattle.kql_program.specs.Outcomes.{IsLineOf, SinkNow, Writes, WritesStop, asked_in}
use Rattle.kql_program.specs.Queries.{bound_program_of, tables_asked}
use Rattle.kql_program.specs.Refusals.{bad_pattern_code}
use Rattle.kql_program.specs.Stops.{pattern_stop, syntax_stop}
use Rattle.kql_program.specs.declared.bound.BoundQuery.{BoundQuery}
use Rattle.kql_program.specs.declared.bound.Done.{Done}
use Rattle.kql_program.specs.declared.ended.Ended.{Ended}
use Rattle.kql_program.specs.declared.ended.Ended.TheVariants as ended
use Rattle.kql_program.specs.declared.refusal.Stop.{Stop}
use Rattle.kql_program.specs.declared.refusal.Stop.TheVariants as stop
use Rattle.kql_program.proofs.PatternFacts.{Blames, called-pattern, refusal-same, syntax-pattern}
use Rattle.kql_program.proofs.StepFacts.{path-asked}

place-in : (c d : ℕ) (p q : Place) → refusal.Query c p ≡ refusal.Query d q → p ≡ q
place-in c d p q e = cc

place-same : (p q : Place) → stop.Refused (refusal.Query bad_pattern_code p) ≡ stop.Refused (refusal.Query bad_pattern_code q) → p ≡ q
place-same p q e = place-in bad_pattern_code bad_pattern_code p q (refusal-same (refusal.Query bad_pattern_code p) (refusal.Query bad_pattern_code q) e)

memory-blames : Blames ⊥ stop.OutOfMemory
memory-blames place e = cc e

module _ (makes refuses : OfTexts) where
  -- Of any programs.

  -- what is the program of a part is that of the whole
  judges-along : {X : Type 0} (Is Also : Program → Type 0) → ((p : Program) → Is p → Also p) → (r : Result X Stop) → Judges Is makes refuses r → Judges Also makes refuses r
  judges-along Is Also f (Ok x) h = record { program = h.program; is = f h.program h.is; made = h.made }
  judges-along Is Also f (Err s) h = λ literal e. let b : IsFirstBad Is makes refuses literal = h literal e in record { program = b.program; is = f b.program b.is; first = b.first }

  -- an error that `?` passed on
  raised-judges : {X : Type 0} (Is : Program → Type 0) (r : Result X Stop) (s : Stop) → IsErrAnd r (λ e. e ≡ s) → StopJudges Is makes refuses s → Judges Is makes refuses r
  raised-judges Is (Ok x) s i h = absurd i
  raised-judges Is (Err e) s i h = subst (λ (x : Stop). StopJudges Is makes refuses x) (sym i) h

  -- one that tells of no pattern
  blameless : {X : Type 0} (Is : Program → Type 0) (r : Result X Stop) (s : Stop) → IsErrAnd r (λ e. e ≡ s) → Blames ⊥ s → Judges Is makes refuses r
  blameless Is r s i n = raised-judges Is r s i (λ literal e. absurd (n literal e))

  -- A query over tables.

  pub over-unbound : {X : Type 0} (query : Query) (moment : Option ℤ) (tables : List Named) (r : Result X Stop) (s : Stop) → IsErrAnd r (λ e. e ≡ s) → Blames ⊥ s → Judges (IsProgramOver query moment tables) makes refuses r
  over-unbound query moment tables r s i n = blameless (IsProgramOver query moment tables) r s i n

  fault-judges : (Is : Program → Type 0) (p : Program) (f : PatternFault) → Is p → IsJudgedBy makes refuses (calls_of_program p) f → StopJudges Is makes refuses (pattern_stop f)
  fault-judges Is p (pattern.PatternHere word) i j = λ literal e. absurd (called-pattern word literal e)
  fault-judges Is p (pattern.BadPattern place) i j = λ literal e. record {
    program = p;
    is = i;
    first = subst (λ (x : Place). IsFirstRefused makes refuses (calls_of_program p) x) (place-same place literal e) j;
  }
  fault-judges Is p pattern.OutOfMemory i j = λ literal e. cc e

  pub over-judged : {X : Type 0} (query : Query) (moment : Option ℤ) (tables : List Named) (p : Program) (f : PatternFault) (r : Result X Stop) → IsErrAnd r (λ e. e ≡ pattern_stop f) → bound_program_of query moment tables ≡ Ok p
      → IsJudgedBy makes refuses (calls_of_program p) f → Judges (IsProgramOver query moment tables) makes refuses r
  over-judged query moment tables p f r i e j = raised-judges (IsProgramOver query moment tables) r (pattern_stop f) i (fault-judges (IsProgramOver query moment tables) p f e j)

  pub over-made : (query : Query) (moment : Option ℤ) (tables : List Named) (p : Program) → bound_program_of query moment tables ≡ Ok p → AreMade makes (calls_of_program p) → AreAllMade (IsProgramOver query moment tables) makes
  over-made query moment tables p e m = record { program = p; is = e; made = m }

  -- The tables of words.

  pub asked-unread : {X : Type 0} (told : Option Files) (query : Query) (limit : ℕ) (catalogue : Option (List ℕ)) (moment : Option ℤ) (words : List (List ℕ)) (r : Result X Stop) (s : Stop) → IsErrAnd r (λ e. e ≡ s) → Blames ⊥ s
      → IfSome told (λ files. Judges (IsProgramWith (tables_of files limit catalogue words) moment query) makes refuses r)
  asked-unread None query limit catalogue moment words r s i n = tt
  asked-unread (Some files) query limit catalogue moment words r s i n = blameless (IsProgramWith (tables_of files limit catalogue words) moment query) r s i n

  pub asked-judged : {X : Type 0} (told : Option Files) (query : Query) (limit : ℕ) (catalogue : Option (List ℕ)) (moment : Option ℤ) (words : List (List ℕ)) (tables : List Named) (r : Result X Stop)
      → IfSome told (λ files. tables_of files limit catalogue words ≡ Ok tables) → Judges (IsProgramOver query moment tables) makes refuses r
      → IfSome told (λ files. Judges (IsProgramWith (tables_of files limit catalogue words) moment query) makes refuses r)
  asked-judged None query limit catalogue moment words tables r t h = tt
  asked-judged (Some files) query limit catalogue moment words tables r t h =
      judges-along (IsProgramOver query moment tables) (IsProgramWith (tables_of files limit catalogue words) moment query) (λ p i. record { known = tables; are = t; is = i }) r h

  -- Tokens, and the query that they are.

  pub parsed-unread : {X : Type 0} (told : Option Files) (tokens : List Token) (limit : ℕ) (catalogue : Option (List ℕ)) (moment : Option ℤ) (words : List (List ℕ)) (fault : SyntaxFault) (r : Result X Stop) → Parses tokens (Err fault) → IsErrAnd r (λ e. e ≡ syntax_stop fault)
      → IfSome told (λ files. Judges (IsProgramOf (Ok tokens) (tables_of files limit catalogue words) moment) makes refuses r)
  parsed-unread None tokens limit catalogue moment words fault r p i = tt
  parsed-unread (Some files) tokens limit catalogue moment words fault r p i = blameless (IsProgramOf (Ok tokens) (tables_of files limit catalogue words) moment) r (syntax_stop fault) i (syntax-pattern tokens fault p)

  pub parsed-judged : {X : Type 0} (told : Option Files) (tokens : List Token) (limit : ℕ) (catalogue : Option (List ℕ)) (moment : Option ℤ) (words : List (List ℕ)) (query : Query) (r : Result X Stop) → Parsed tokens query
      → IfSome told (λ files. Judges (IsProgramWith (tables_of files limit catalogue words) moment query) makes refuses r)
      → IfSome told (λ files. Judges (IsProgramOf (Ok tokens) (tables_of files limit catalogue words) moment) makes refuses r)
  parsed-judged None tokens limit catalogue moment words query r p h = tt
  parsed-judged (Some files) tokens limit catalogue moment words query r p h =
      judges-along (IsProgramWith (tables_of files limit catalogue words) moment query) (IsProgramOf (Ok tokens) (tables_of files limit catalogue words) moment)
      (λ program i. record { read = tokens; are = refl; query = query; parsed = p; is = i }) r h

  -- The query of a command.

  pub query-unread : {X : Type 0} (told : Option Files) (words : List (List ℕ)) (asked : Asked) (r : Result X Stop) (s : Stop) → IsErrAnd r (λ e. e ≡ s) → Blames ⊥ s → IfSome told (λ files. Judges (IsProgramAsked words files asked) makes refuses r)
  query-unread None words asked r s i n = tt
  query-unread (Some files) words asked r s i n = blameless (IsProgramAsked words files asked) r s i n

  pub query-judged : {X : Type 0} (told now-told : Option Files) (words rest : List (String Global)) (asked : Asked) (d : String Global) (path : List ℕ) (catalogue : Option (List ℕ)) (tokens : List Token) (r : Result X Stop)
      → asked.query < length words → path ≡ string_bytes (get_or words asked.query d) → rest ≡ take (length words - (asked.query + 1)) (drop (asked.query + 1) words) → catalogue ≡ catalogue_path (texts words) asked
      → IfSome told (λ files. file_tokens files path ≡ Ok tokens) → now-told ≡ told → IfSome now-told (λ files. Judges (IsProgramOf (Ok tokens) (tables_of files asked.options.limit catalogue (texts rest)) asked.options.moment) makes refuses r)
      → IfSome told (λ files. Judges (IsProgramAsked (texts words) files asked) makes refuses r)
  query-judged None now-told words rest asked d path catalogue tokens r lt p w c t n h = tt
  query-judged (Some files) now-told words rest asked d path catalogue tokens r lt p w c t n h =
      let tables : table_words (texts words) asked ≡ texts rest = sym (texts-rest words rest (asked.query + 1) w) in
      let read : file_tokens files (query_path (texts words) asked) ≡ Ok tokens = ap (file_tokens files) (path-asked words asked d path lt p) ∙ t in
      let there : Judges (IsProgramOf (Ok tokens) (tables_of files asked.options.limit catalogue (texts rest)) asked.options.moment) makes refuses r = rw n at h in
      let all : tables_of files asked.options.limit catalogue (texts rest) ≡ tables_asked (texts words) files asked = ap₂ (λ at ws. tables_of files asked.options.limit at ws) c (sym tables) in
      let over : Judges (IsProgramOf (Ok tokens) (tables_asked (texts words) files asked) asked.options.moment) makes refuses r =
      subst (λ (ts : Answer (List Named)). Judges (IsProgramOf (Ok tokens) ts asked.options.moment) makes refuses r) all there in
      subst (λ (ts : Answer (List Token)). Judges (IsProgramOf ts (tables_asked (texts words) files asked) asked.options.moment) makes refuses r) (sym read) over

  -- What is made of it: a stop of the query, and want of memory behind it.

  pub command-judged : {X : Type 0} (told : Option Files) (words : List (List ℕ)) (asked : Asked) (r : Result X Stop) (s : Stop) → IsErrAnd r (λ e. e ≡ s) → IfSome told (λ files. StopJudges (IsProgramAsked words files asked) makes refuses s)
      → IfSome told (λ files. Judges (IsProgramAsked words files asked) makes refuses r)
  command-judged None words asked r s i h = tt
  command-judged (Some files) words asked r s i h = raised-judges (IsProgramAsked words files asked) r s i h

  pub command-wanting : {X : Type 0} (told : Option Files) (words : List (List ℕ)) (asked : Asked) (r : Result X Stop) → IsErrAnd r (λ e. e ≡ stop.OutOfMemory) → IfSome told (λ files. Judges (IsProgramAsked words files asked) makes refuses r)
  command-wanting told words asked r i = query-unread told words asked r stop.OutOfMemory i memory-blames

  -- Endings.

  -- the ending after a text
  text-judged : (words : List (List ℕ)) (told : Option Files) (c : Command) (done : Ended) → EndsAs c done → IfSome (asked_in (Ok c)) (λ a. IfSome told (λ files. AreAllMade (IsProgramAsked words files a) makes)) → IsJudged makes refuses words told (asked_in (Ok c)) done
  text-judged words told (command.Run asked) (ended.Table plan report) ends h = h
  text-judged words told (command.Run asked) _ ends h = absurd ends
  text-judged words told (command.Plain asked) ended.PlainTable ends h = h
  text-judged words told (command.Plain asked) _ ends h = absurd ends
  text-judged words told (command.Explain asked) (ended.Explained plan) ends h = h
  text-judged words told (command.Explain asked) _ ends h = absurd ends
  text-judged words told (command.Trial trial) (ended.Trial reports) ends h = tt
  text-judged words told (command.Trial trial) _ ends h = absurd ends

  -- a text that was not written to its end
  cut-judged : (words : List (List ℕ)) (told : Option Files) (asked : Option Asked) → IsJudged makes refuses words told asked ended.WriteFault
  cut-judged words told None = tt
  cut-judged words None (Some asked) = tt
  cut-judged words (Some files) (Some asked) = tt

  pub written-judged : (words : List (List ℕ)) (told : Option Files) (c : Command) (before now : SinkNow) (text : List ℕ) (done e : Ended) → Ok c ≡ command_of words → EndsAs c done
      → IfSome (asked_in (Ok c)) (λ a. IfSome told (λ files. AreAllMade (IsProgramAsked words files a) makes)) → Writes before now text done e → IsJudged makes refuses words told (asked_in (command_of words)) e
  written-judged words told c before now text done e read ends h w =
      subst (λ (o : Answer Command). IsJudged makes refuses words told (asked_in o) e) read
      (elim w [
        | inl x ↦ subst (λ (k : Ended). IsJudged makes refuses words told (asked_in (Ok c)) k) (sym x.0) (text-judged words told c done ends h)
        | inr x ↦ subst (λ (k : Ended). IsJudged makes refuses words told (asked_in (Ok c)) k) (sym x.0) (cut-judged words told (asked_in (Ok c)))
      ])

  -- the ending after a refusal's line
  refused-judged : (Is : Program → Type 0) (r : Refusal) → StopJudges Is makes refuses (stop.Refused r) → EndingJudges Is makes refuses (refused_as r)
  refused-judged Is (refusal.Query code place) h = λ e. h place (ap (λ (x : ℕ). stop.Refused (refusal.Query x place)) e)
  refused-judged Is (refusal.Usage word code) h = tt
  refused-judged Is (refusal.Data file code row column) h = tt

  line-judged : (Is : Program → Type 0) (s : Stop) (line : List ℕ) (done : Ended) → StopJudges Is makes refuses s → IsLineOf s line done → EndingJudges Is makes refuses done
  line-judged Is (stop.Refused r) line done h l = elim l [
    | inl x ↦ subst (λ (k : Ended). EndingJudges Is makes refuses k) (sym x.1) (refused-judged Is r h)
    | inr x ↦ subst (λ (k : Ended). EndingJudges Is makes refuses k) (sym x.1) tt
  ]
  line-judged Is stop.ReadFault line done h l = subst (λ (k : Ended). EndingJudges Is makes refuses k) (sym l.1) tt
  line-judged Is stop.OutOfMemory line done h l = subst (λ (k : Ended). EndingJudges Is makes refuses k) (sym l.1) tt

  stop-judged : (Is : Program → Type 0) (before now : SinkNow) (s : Stop) (e : Ended) → StopJudges Is makes refuses s → WritesStop before now s e → EndingJudges Is makes refuses e
  stop-judged Is before now s e h w = elim w.writes [
    | inl x ↦ subst (λ (k : Ended). EndingJudges Is makes refuses k) (sym x.0) (line-judged Is s w.line w.done h w.is)
    | inr x ↦ subst (λ (k : Ended). EndingJudges Is makes refuses k) (sym x.0) tt
  ]

  stopped-for : (words : List (List ℕ)) (told : Option Files) (asked : Option Asked) (before now : SinkNow) (s : Stop) (e : Ended) → IfSome asked (λ a. IfSome told (λ files. StopJudges (IsProgramAsked words files a) makes refuses s)) → WritesStop before now s e
      → IsJudged makes refuses words told asked e
  stopped-for words told None before now s e h w = tt
  stopped-for words None (Some asked) before now s e h w = tt
  stopped-for words (Some files) (Some asked) before now s e h w = stop-judged (IsProgramAsked words files asked) before now s e h w

  pub stopped-judged : (words : List (List ℕ)) (told : Option Files) (c : Command) (before now : SinkNow) (s : Stop) (e : Ended) → Ok c ≡ command_of words
      → IfSome (asked_in (Ok c)) (λ a. IfSome told (λ files. StopJudges (IsProgramAsked words files a) makes refuses s)) → WritesStop before now s e → IsJudged makes refuses words told (asked_in (command_of words)) e
  stopped-judged words told c before now s e read h w = subst (λ (o : Answer Command). IsJudged makes refuses words told (asked_in o) e) read (stopped-for words told (asked_in (Ok c)) before now s e h w)

  -- words that are refused
  pub words-judged : (words : List (List ℕ)) (told : Option Files) (r : Refusal) (e : Ended) → Err r ≡ command_of words → IsJudged makes refuses words told (asked_in (command_of words)) e
  words-judged words told r e read = subst (λ (o : Answer Command). IsJudged makes refuses words told (asked_in o) e) read tt
