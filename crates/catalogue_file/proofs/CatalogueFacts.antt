-- What a call gave, through the steps.
use Rattle.std.proofs.Common.{◌≡◌, ◌==◌, ◌&&◌, ℕ, true, false, List, [], ◌∷◌, refl, ap, ◌∙◌, sym, subst, arith, inl, inr}
use Rattle.std.specs.Prelude.{Option, Some, None, IfErr, IfOk, IsErrAnd, IsUtf8, Result, Ok, Err, option_map}
use Rattle.std.proofs.Math.Utf8.{encode}
use Rattle.std.proofs.lemmas.Bool.{and_parts, cases_Bool, eqb-true}
use Rattle.std.proofs.lemmas.Str.{IsCharBoundary-past_char, IsUtf8-from_is_utf8, is_utf8-from_IsUtf8}
use Rattle.std.specs.Str.{IsCharBoundary, is_utf8}
use Rattle.std.specs.Str.Lossy.{utf8_valid_len}
use Rattle.catalogue_file.specs.Catalogue.{Fault, IsFaultOf, Reads, catalogue_of, data_tables, fault_at, has_mark, json_tables, tables_of, text_tables, without_mark}
use Rattle.serde_json.specs.Data.{Data}
use Rattle.serde_json.specs.Read.{read as read_text}
use Rattle.serde_json.specs.View.{view}
use Rattle.serde_json.specs.declared.value.Value.{Value}
use Rattle.catalogue_file.specs.declared.entry.Entry.{Entry}
use Rattle.catalogue_file.specs.declared.fault.CatalogueFault.{CatalogueFault}
use Rattle.catalogue_file.specs.declared.fault.CatalogueFault.TheVariants as fault

-- a fault that is passed on
pub raised : {X Y : Type 0} (a : Result X Fault) (r : Result Y CatalogueFault) (e : CatalogueFault) → IsErrAnd r (λ d. d ≡ e) → IsFaultOf a e → IfErr r (IsFaultOf a)
raised a (Ok x) e i h = tt
raised a (Err d) e i h = subst (IsFaultOf a) (sym i) h

-- want of memory that is passed on
pub unread : {X : Type 0} (a : Result X Fault) (r : Result X CatalogueFault) → IsErrAnd r (λ d. d ≡ fault.OutOfMemory) → Reads a r
unread a (Ok x) i = absurd i
unread a (Err d) i = subst (IsFaultOf a) (sym i) tt

-- the tables of a text
pub text-read : (bytes : List ℕ) → IsUtf8 bytes → catalogue_of bytes ≡ text_tables (without_mark bytes)
unfolding catalogue_of
text-read bytes u = rw (is_utf8-from_IsUtf8 bytes u) refl

-- and other bytes are refused where they stop being a text
pub other-read : (bytes : List ℕ) → (IsUtf8 bytes → ⊥) → catalogue_of bytes ≡ Err (fault_at 301 0 (utf8_valid_len bytes))
unfolding catalogue_of
other-read bytes n =
    let other : is_utf8 bytes ≡ false = elim (cases_Bool (is_utf8 bytes)) [ inl t ↦ absurd (n (IsUtf8-from_is_utf8 bytes t)) | inr f ↦ f ] in
    rw other refl

-- a text may be cut behind its mark
pub marked : (text : List ℕ) → IsUtf8 text → has_mark text ≡ true → IsCharBoundary text 3
unfolding encode
marked [] u h = cc h
marked (a ∷ []) u h = cc h
marked (a ∷ b ∷ []) u h = cc h
marked (a ∷ b ∷ c ∷ rest) u h =
    let both = and_parts ((a == 239) && (b == 187)) (c == 191) h in
    let front = and_parts (a == 239) (b == 187) both.0 in
    let first = eqb-true a 239 front.0 in
    let second = eqb-true b 187 front.1 in
    let third = eqb-true c 191 both.1 in
    IsCharBoundary-past_char (a ∷ b ∷ c ∷ rest) rest 0 65279 (omega arith) u (rw (first, second, third) refl)

-- the JSON of a text
pub text-some : (text : List ℕ) (o : Option Value) (json : Value) (r : Result (List Entry) CatalogueFault) → option_map view o ≡ read_text text → o ≡ Some json
    → Reads (data_tables (tables_of (view json))) r → Reads (text_tables text) r
unfolding text_tables
text-some text o json r e i h =
    let here : Some (view json) ≡ read_text text = ap (option_map view) (sym i) ∙ e in
    subst (λ (d : Option Data). Reads (json_tables d) r) here h

-- a text that is no JSON
pub text-none : (text : List ℕ) (o : Option Value) → option_map view o ≡ read_text text → o ≡ None → text_tables text ≡ Err (fault_at 309 0 0)
unfolding text_tables
text-none text o e i =
    let here : read_text text ≡ None = sym e ∙ ap (option_map view) i in
    rw here refl
