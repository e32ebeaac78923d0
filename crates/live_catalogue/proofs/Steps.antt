-- Each kind of step keeps the rule
use Rattle.std.proofs.Common.{◌≡◌, ◌≢◌, IfSome, ℕ, ◌+◌, List, [], ◌∷◌, ◌++◌, fold, length, set, Bool, Option, Some, true, false, refl, sym, ap, ◌∙◌, subst, ⊎_elim, append_assoc, append-nil, length-append, arith}
use mathlib.Core.Option.{some}
use lib.ListN.{get_elem?}
use Rattle.left_right.specs.Register.{Admits, TurnsAt, Forks, Merges}
use Rattle.atomic_table.proofs.Lists.{at_set, at_snoc, set_again}
use Rattle.kql_cells.specs.Table.{Grid}
use Rattle.live_catalogue.specs.declared.value.Live.{Live}
use Rattle.live_catalogue.specs.declared.value.Change.{Change}
use Rattle.live_catalogue.specs.declared.value.Change.TheVariants.{Begin, Grow}
use Rattle.live_catalogue.specs.declared.known.Known.{Known}
use Rattle.live_catalogue.specs.Changes.{changed, batches_of}
use Rattle.live_catalogue.specs.Moves.{nothing, appending, with_batches, noted, closed_at, with_last_note}
use Rattle.live_catalogue.specs.Rule.{StartsWith, Fits, Kept, Begins, Publishes, Enters}

-- lists of which one begins with the other
pub starts_self : (xs : List Grid) → StartsWith xs xs
starts_self xs = ([], sym (append-nil xs))

pub starts_more : (xs ys zs : List Grid) → StartsWith ys xs → StartsWith (ys ++ zs) xs
starts_more xs ys zs h = (h.0 ++ zs, ap (λ l. l ++ zs) h.1 ∙ append_assoc xs h.0 zs)

pub fold-append : {V : Type 0} (f : V → Grid → V) (a : V) (xs ys : List Grid) → fold f a (xs ++ ys) ≡ fold f (fold f a xs) ys
fold-append f a [] ys = refl
fold-append f a (x ∷ xs) ys = fold-append f (f a x) xs ys

none_of : (xs : List Grid) → length xs ≡ 0 → xs ≡ []
none_of [] e = refl
none_of (x ∷ xs) e = absurd (omega (arith, e))

not_both : (a : Bool) {Z : Type 0} → a ≡ true → a ≡ false → Z
not_both a e f = cc

module _ {V : Type 0} (grown : V → Grid → V) where
  -- what the changes of one publish do
  pub fold-changes : (live : Live V) (changes : List Change) → live.begun ≡ true
      → fold (changed grown) live changes ≡ record { value = fold grown live.value (batches_of changes); batches = live.batches + length (batches_of changes); begun = live.begun }
  fold-changes live [] b = let e : live.batches ≡ live.batches + 0 = omega arith in λ i. record { value = live.value; batches = e i; begun = live.begun }
  fold-changes live (Begin ∷ changes) b = fold-changes (record { value = live.value; batches = live.batches; begun = true }) changes refl
      ∙ (λ i. record { value = fold grown live.value (batches_of changes); batches = live.batches + length (batches_of changes); begun = sym b i })
  fold-changes live (Grow x ∷ changes) b =
      let e : (live.batches + 1) + length (batches_of changes) ≡ live.batches + length (x ∷ batches_of changes) = omega arith in
      fold-changes (record { value = grown live.value x; batches = live.batches + 1; begun = live.begun }) changes b
      ∙ (λ i. record { value = fold grown (grown live.value x) (batches_of changes); batches = e i; begun = live.begun })

module _ {V : Type 0} (grown : V → Grid → V) (promised : V → List Grid → Type 0) where
  fits_nothing : (o : V) (bs : List Grid) (s b : Bool) (k j : ℕ) → Fits promised o bs s b k j nothing
  fits_nothing o bs s b k j = record {
    same = λ v e. cc;
    promise = λ v e. cc;
    first = (bs, refl);
    closed = λ e. absurd (cc);
    appends = λ e. absurd (cc);
  }

  pub admits : Admits (Kept grown promised) nothing
  admits x views h = record {
    opening = h.opening;
    batches = h.batches;
    shut = h.shut;
    writer = h.writer;
    value = h.value;
    count = h.count;
    promise = h.promise;
    each = λ j v at. ⊎_elim (h.each j v) (λ (e : nothing ≡ v). subst (Fits promised h.opening h.batches h.shut x.begun h.writer j) e (fits_nothing h.opening h.batches h.shut x.begun h.writer j)) (at_snoc views nothing v j at);
  }

  -- before there is any seat
  kept_by_none : (x : Live V) → x.batches ≡ 0 → promised x.value [] → Kept grown promised x []
  kept_by_none x none promise = record { opening = x.value; batches = []; shut = false; writer = 0; value = refl; count = none; promise = promise; each = λ j v at. absurd (cc) }

  pub opens : (x : Live V) → x.batches ≡ 0 → promised x.value [] → Kept grown promised x (nothing ∷ [])
  opens x none promise = admits x [] (kept_by_none x none promise)

  pub begins : (pass : ℕ) (x y : Live V) → x.batches ≡ 0 → x.begun ≡ false → y ≡ record { value = x.value; batches = x.batches; begun = true }
      → TurnsAt (Kept grown promised) pass nothing x y Begins
  begins pass x y none fresh is views h at =
      let bs : h.batches ≡ [] = none_of h.batches (sym h.count ∙ none) in
      let opened : h.opening ≡ x.value = sym (h.value ∙ ap (fold grown h.opening) bs) in
      let begun : y.begun ≡ true = ap (λ (l : Live V). l.begun) is in
      let promise : promised x.value [] = subst (λ (z : V × List Grid). promised z.0 z.1) (λ i. (opened i, bs i)) h.promise in (
        appending x.value,
        record {
          opening = x.value;
          batches = [];
          shut = false;
          writer = pass;
          value = ap (λ (l : Live V). l.value) is;
          count = ap (λ (l : Live V). l.batches) is ∙ none;
          promise = promise;
          each = λ j u e. ⊎_elim
              (λ (t : (j ≡ pass) × (appending x.value ≡ u)). subst (Fits promised x.value [] false y.begun pass j) t.1 (record {
                same = λ o is_some. cc;
                promise = λ o is_some. subst (λ (z : Option V). IfSome z (λ v. promised v [])) is_some promise;
                first = ([], refl);
                closed = λ no. absurd (cc);
                appends = λ _. (t.0, begun, refl, refl, refl);
              }))
              (λ (t : (j ≢ pass) × (get_elem? views j ≡ some u)). let f = h.each j u t.1 in record {
                same = λ o is_some. f.same o is_some ∙ opened;
                promise = f.promise;
                first = subst (λ l. StartsWith l u.batches) bs f.first;
                closed = λ yes. not_both x.begun (f.closed yes).1 fresh;
                appends = λ yes. not_both x.begun (f.appends yes).1 fresh;
              })
              (at_set views pass j (appending x.value) u e);
        },
        refl,
      )

  pub publishes : (pass : ℕ) (v : Known V) (x y : Live V) (more : List Grid) → v.appends ≡ true → v.closed ≡ false
      → ((o : V) → v.opening ≡ Some o → promised o (v.batches ++ more))
      → y ≡ record { value = fold grown x.value more; batches = x.batches + length more; begun = x.begun } → TurnsAt (Kept grown promised) pass v x y (Publishes more)
  publishes pass v x y more mine open_yet promise is views h at =
      let me = h.each pass v at in
      let a = me.appends mine in
      let begun : y.begun ≡ x.begun = ap (λ (l : Live V). l.begun) is in
      let unshut : h.shut ≡ false = sym a.3 ∙ open_yet in
      let w : Known V = with_batches v more in (
        w,
        record {
          opening = h.opening;
          batches = h.batches ++ more;
          shut = h.shut;
          writer = h.writer;
          value = ap (λ (l : Live V). l.value) is ∙ (ap (λ z. fold grown z more) h.value ∙ sym (fold-append grown h.opening h.batches more));
          count = ap (λ (l : Live V). l.batches) is ∙ (ap (λ n. n + length more) h.count ∙ sym (length-append h.batches more));
          promise = subst (λ l. promised h.opening (l ++ more)) a.2 (promise h.opening a.4);
          each = λ j u e. ⊎_elim
              (λ (t : (j ≡ pass) × (w ≡ u)). subst (Fits promised h.opening (h.batches ++ more) h.shut y.begun h.writer j) t.1 (record {
                same = me.same;
                promise = promise;
                first = ([], ap (λ l. l ++ more) (sym a.2) ∙ sym (append-nil (v.batches ++ more)));
                closed = λ yes. not_both v.closed yes open_yet;
                appends = λ _. (t.0 ∙ a.0, begun ∙ a.1, ap (λ l. l ++ more) a.2, a.3, a.4);
              }))
              (λ (t : (j ≢ pass) × (get_elem? views j ≡ some u)). let f = h.each j u t.1 in record {
                same = f.same;
                promise = f.promise;
                first = starts_more u.batches h.batches more f.first;
                closed = λ yes. not_both h.shut (f.closed yes).0 unshut;
                appends = λ yes. absurd (t.0 ((f.appends yes).0 ∙ sym a.0));
              })
              (at_set views pass j w u e);
        },
        refl,
      )

  pub enters : (pass : ℕ) (v : Known V) (x : Live V) → TurnsAt (Kept grown promised) pass v x x (Enters grown promised)
  enters pass v x views h at =
      let me = h.each pass v at in
      let w : Known V = record { opening = v.opening; batches = h.batches; appends = v.appends; closed = v.closed } in (
        w,
        record {
          opening = h.opening;
          batches = h.batches;
          shut = h.shut;
          writer = h.writer;
          value = h.value;
          count = h.count;
          promise = h.promise;
          each = λ j u e. ⊎_elim
              (λ (t : (j ≡ pass) × (w ≡ u)). subst (Fits promised h.opening h.batches h.shut x.begun h.writer j) t.1 (record {
                same = me.same;
                promise = λ o is. subst (λ z. promised z h.batches) (sym (me.same o is)) h.promise;
                first = starts_self h.batches;
                closed = λ yes. let c = me.closed yes in (c.0, c.1, refl);
                appends = λ yes. let a = me.appends yes in (t.0 ∙ a.0, a.1, refl, a.3, a.4);
              }))
              (λ (t : (j ≢ pass) × (get_elem? views j ≡ some u)). h.each j u t.1)
              (at_set views pass j w u e);
        },
        record {
          same = refl;
          first = me.first;
          value = λ o is. h.value ∙ ap (λ z. fold grown z h.batches) (sym (me.same o is));
          count = h.count;
          promise = λ o is. subst (λ z. promised z h.batches) (sym (me.same o is)) h.promise;
          last = λ yes. sym (me.closed yes).2;
        },
      )

  pub forks_note : (pass : ℕ) (v : Known V) → Forks (Kept grown promised) pass v v (noted v)
  forks_note pass v x views h at =
      let me = h.each pass v at in
      record {
        opening = h.opening;
        batches = h.batches;
        shut = h.shut;
        writer = h.writer;
        value = h.value;
        count = h.count;
        promise = h.promise;
        each = λ j u e. ⊎_elim
            (λ (there : get_elem? (set views pass v) j ≡ some u). h.each j u (subst (λ l. get_elem? l j ≡ some u) (set_again views pass v at) there))
            (λ (is : noted v ≡ u). subst (Fits promised h.opening h.batches h.shut x.begun h.writer j) is (record {
              same = me.same;
              promise = me.promise;
              first = me.first;
              closed = me.closed;
              appends = λ no. absurd (cc);
            }))
            (at_snoc (set views pass v) (noted v) u j e);
      }

  pub forks_last : (pass : ℕ) (v : Known V) → v.appends ≡ true → Forks (Kept grown promised) pass v (closed_at v) (with_last_note v)
  forks_last pass v mine x views h at =
      let me = h.each pass v at in
      let a = me.appends mine in
      record {
        opening = h.opening;
        batches = h.batches;
        shut = true;
        writer = h.writer;
        value = h.value;
        count = h.count;
        promise = h.promise;
        each = λ j u e. ⊎_elim
            (λ (there : get_elem? (set views pass (closed_at v)) j ≡ some u). ⊎_elim
            (λ (t : (j ≡ pass) × (closed_at v ≡ u)). subst (Fits promised h.opening h.batches true x.begun h.writer j) t.1 (record {
              same = me.same;
              promise = me.promise;
              first = me.first;
              closed = λ _. (refl, a.1, a.2);
              appends = λ _. (t.0 ∙ a.0, a.1, a.2, refl, a.4);
            }))
            (λ (t : (j ≢ pass) × (get_elem? views j ≡ some u)). let f = h.each j u t.1 in record {
              same = f.same;
              promise = f.promise;
              first = f.first;
              closed = λ yes. let c = f.closed yes in (refl, c.1, c.2);
              appends = λ yes. absurd (t.0 ((f.appends yes).0 ∙ sym a.0));
            })
            (at_set views pass j (closed_at v) u there))
            (λ (is : with_last_note v ≡ u). subst (Fits promised h.opening h.batches true x.begun h.writer j) is (record {
              same = me.same;
              promise = me.promise;
              first = me.first;
              closed = λ _. (refl, a.1, a.2);
              appends = λ no. absurd (cc);
            }))
            (at_snoc (set views pass (closed_at v)) (with_last_note v) u j e);
      }

  pub merges : (pass other : ℕ) (w : Known V) → w.appends ≡ false → Merges (Kept grown promised) pass nothing other w w nothing
  merges pass other w idle x views h at apart there =
      let was : get_elem? views other ≡ some w = ⊎_elim (λ (t : (other ≡ pass) × (w ≡ w)). absurd (apart t.0)) (λ (t : (other ≢ pass) × (get_elem? views other ≡ some w)). t.1) (at_set views pass other w w there) in
      let f = h.each other w was in
      record {
        opening = h.opening;
        batches = h.batches;
        shut = h.shut;
        writer = h.writer;
        value = h.value;
        count = h.count;
        promise = h.promise;
        each = λ j u e. ⊎_elim
            (λ (t : (j ≡ other) × (nothing ≡ u)). subst (Fits promised h.opening h.batches h.shut x.begun h.writer j) t.1 (fits_nothing h.opening h.batches h.shut x.begun h.writer j))
            (λ (t : (j ≢ other) × (get_elem? (set views pass w) j ≡ some u)). ⊎_elim
            (λ (s : (j ≡ pass) × (w ≡ u)). subst (Fits promised h.opening h.batches h.shut x.begun h.writer j) s.1 (record {
              same = f.same;
              promise = f.promise;
              first = f.first;
              closed = f.closed;
              appends = λ yes. not_both w.appends yes idle;
            }))
            (λ (s : (j ≢ pass) × (get_elem? views j ≡ some u)). h.each j u s.1)
            (at_set views pass j w u t.1))
            (at_set (set views pass w) other j nothing u e);
      }

  pub begins_at : (pass : ℕ) (v : Known V) (x y : Live V) (changes : List Change) → v ≡ nothing → x.batches ≡ 0 → x.begun ≡ false → changes ≡ Begin ∷ []
      → y ≡ fold (changed grown) x changes → TurnsAt (Kept grown promised) pass v x y Begins
  begins_at pass v x y changes blank none fresh one is = subst (λ (z : Known V). TurnsAt (Kept grown promised) pass z x y Begins) (sym blank) (begins pass x y none fresh (is ∙ ap (fold (changed grown) x) one))

  pub merges_at : (pass other : ℕ) (v w : Known V) → v ≡ nothing → w.appends ≡ false → Merges (Kept grown promised) pass v other w w nothing
  merges_at pass other v w blank idle = subst (λ (z : Known V). Merges (Kept grown promised) pass z other w w nothing) (sym blank) (merges pass other w idle)
