-- Let statements leave what may be named sound, and the plans of their tables have the columns that are told of them.
use Rattle.std.proofs.Common.{◌≡◌, ℕ, List, [], ◌∷◌, ◌++◌, refl, sym, ap, ◌∙◌, subst, map}
use Rattle.std.specs.Prelude.{All, true, false, ◌&&◌, ℤ, IfSome, Ok, Option, None, Some, fold, option_map}
use Rattle.std.specs.List.{list_all}
use Rattle.std.proofs.lemmas.Bool.{and_from, and_parts}
use Rattle.std.proofs.lemmas.List.{map-append}
use Rattle.std.proofs.lemmas.List.Elements.{All-nil, All-push}
use Rattle.std.proofs.lemmas.List.Folds.{list_all-append}
use Rattle.kql_cells.specs.Values.{IsMoment}
use Rattle.kql_cells.specs.declared.schemas.NamedSchema.{NamedSchema}
use Rattle.kql_cells.specs.declared.schema.Column.{Column}
use Rattle.kql_lexer.specs.declared.place.Place.{Place}
use Rattle.kql_bound.specs.declared.literal.Lit.{Lit}
use Rattle.kql_bound.specs.declared.plan.Plan.{Plan}
use Rattle.kql_meaning.specs.declared.position.Position.TheVariants as position
use Rattle.kql_meaning.specs.Fits.{known_of, let_after, lets_columns, plan_columns}
use Rattle.kql_meaning.specs.Literals.{literal_fits}
use Rattle.kql_syntax.specs.declared.query.Let.{Let}
use Rattle.kql_syntax.specs.declared.query.LetBody.{LetBody}
use Rattle.kql_syntax.specs.declared.query.LetBody.TheVariants as body
use Rattle.kql_syntax.specs.declared.query.Pipe.{Pipe}
use Rattle.kql_syntax.specs.declared.tree.Name.{Name}
use Rattle.bind_expr.specs.Names.{name_bound, text_of}
use Rattle.bind_expr.specs.Outcome.{Outcome}
use Rattle.bind_expr.specs.declared.scope.Const.{Const}
use Rattle.bind_expr_laws.specs.Scopes.{const_literal}
use Rattle.bind_expr_laws.proofs.BoundLaws.{name-sound}
use Rattle.bind_operators.specs.declared.bound.BoundPlan.{BoundPlan}
use Rattle.bind_operators.specs.declared.known.Known.{Known}
use Rattle.bind_operators.specs.declared.known.LetTable.{LetTable}
use Rattle.bind_operators.specs.declared.wanted.Wanted.TheVariants as wanted
use Rattle.bind_operators.specs.Faults.{unless}
use Rattle.bind_operators.specs.Known.{no_rows, scope_at, table_named}
use Rattle.bind_operators.specs.Places.{name_place}
use Rattle.bind_operators.specs.Wanted.{constant_bound, constant_wanted}
use Rattle.bind_query.specs.declared.bound.BoundStatements.{BoundStatements}
use Rattle.bind_query.specs.Bound.{known_at_first, lets_bound, next_let, no_statements}
use Rattle.bind_query.specs.Lets.{body_bound, constant_let, constant_named, let_bound, let_faults, name_alone, name_let, named_constant, named_table, pipe_let, table_let, with_constant, with_table}
use Rattle.bind_query.specs.Operators.{pipe_bound}
use Rattle.kql_parser_laws.specs.Patterns.{body_patterns, let_patterns, pipe_patterns}
use Rattle.bind_query_laws.specs.Sound.{AreColumns, IsSoundKnown, IsSoundPlan, columns_of_let, read_known}
use Rattle.bind_query_laws.proofs.Frame.{after-ok, bare-scope-sound, constant-sound, no-columns, ok-same, unless-ok, wanted-sound}
use Rattle.bind_query_laws.proofs.SourceLaws.{named_sound}
use Rattle.bind_query_laws.proofs.TreeLaws.{SoundOthers, pipe_sound}

-- What is named by statements over these schemas is sound, and the tables of lets have its columns.
pub record IsSoundStatements (schemas : List NamedSchema) (done : BoundStatements) : Type 0 where
  pub tables : done.known.tables ≡ schemas
  pub known : IsSoundKnown done.known
  pub lets : lets_columns done.lets schemas ≡ Some (map columns_of_let done.known.lets)

-- One table more.

fold-push : {X Y : Type 0} (f : Y → X → Y) (z : Y) (xs : List X) (x : X) → fold f z (xs ++ x ∷ []) ≡ f (fold f z xs) x
fold-push f z [] x = refl
fold-push f z (y ∷ ys) x = fold-push f (f z y) ys x

let-more : (tables : List NamedSchema) (ps : List Plan) (p : Plan) (lets : List (List Column)) (columns : List Column) → lets_columns ps tables ≡ Some lets → plan_columns p (known_of tables lets) ≡ Some columns → lets_columns (ps ++ p ∷ []) tables ≡ Some (lets ++ columns ∷ [])
unfolding lets_columns let_after
let-more tables ps p lets columns before one =
    fold-push (let_after tables) (Some []) ps p
    ∙ (ap (λ (o : Option (List (List Column))). let_after tables o p) before
    ∙ ap (λ (o : Option (List Column)). option_map (λ (cs : List Column). lets ++ cs ∷ []) o) one)

table-more : (schemas : List NamedSchema) (n : List ℕ) (p : BoundPlan) (done : BoundStatements) → IsSoundStatements schemas done → IsSoundPlan done.known p → IsSoundStatements schemas (with_table n p done)
unfolding with_table read_known
table-more schemas n p done h g =
    let lets : List (List Column) = map columns_of_let done.known.lets in
    let there : plan_columns p.plan (known_of schemas lets) ≡ Some p.after.columns = subst (λ (ts : List NamedSchema). plan_columns p.plan (known_of ts lets) ≡ Some p.after.columns) h.tables g.fits in
    record {
      tables = h.tables;
      known = record {
        tables = h.known.tables;
        lets = All-push (λ (l : LetTable). AreColumns l.columns) done.known.lets (named_table n p) h.known.lets g.columns;
        consts = h.known.consts;
        moment = h.known.moment;
      };
      lets =
          let-more schemas done.lets p.plan lets p.after.columns h.lets there
          ∙ ap (λ (ls : List (List Column)). Some ls) (sym (map-append columns_of_let done.known.lets (named_table n p ∷ [])));
    }

-- One constant more.

constant-more : (schemas : List NamedSchema) (n : List ℕ) (l : Lit) (done : BoundStatements) → IsSoundStatements schemas done → literal_fits l ≡ true → IsSoundStatements schemas (with_constant n l done)
unfolding with_constant
constant-more schemas n l done h fits = record {
  tables = h.tables;
  known = record {
    tables = h.known.tables;
    lets = h.known.lets;
    consts =
        list_all-append (λ (c : Const). literal_fits (const_literal c)) done.known.consts (named_constant n l ∷ [])
        ∙ and_from (list_all (λ (c : Const). literal_fits (const_literal c)) done.known.consts) (literal_fits l && true) h.known.consts (and_from (literal_fits l) true fits refl);
    moment = h.known.moment;
  };
  lets = h.lets;
}

-- A statement.

table-let : (schemas : List NamedSchema) (n : List ℕ) (done after : BoundStatements) (p : Outcome BoundPlan) → IsSoundStatements schemas done → ((b : BoundPlan) → p ≡ Ok b → IsSoundPlan done.known b) → table_let n done p ≡ Ok after → IsSoundStatements schemas after
unfolding table_let
table-let schemas n done after p h each e =
    let first = after-ok p (λ (b : BoundPlan). Ok (with_table n b done)) after e in
    subst (IsSoundStatements schemas) (ok-same (with_table n first.0 done) after first.2) (table-more schemas n first.0 done h (each first.0 first.1))

constant-let : (schemas : List NamedSchema) (n : List ℕ) (done after : BoundStatements) (l : Outcome Lit) → IsSoundStatements schemas done → ((b : Lit) → l ≡ Ok b → literal_fits b ≡ true) → constant_let n done l ≡ Ok after → IsSoundStatements schemas after
unfolding constant_let
constant-let schemas n done after l h each e =
    let first = after-ok l (λ (b : Lit). Ok (with_constant n b done)) after e in
    subst (IsSoundStatements schemas) (ok-same (with_constant n first.0 done) after first.2) (constant-more schemas n first.0 done h (each first.0 first.1))

constant-named : (statement : Place) (known : Known) (n : Name) (l : Lit) → IsSoundKnown known → constant_named statement known n ≡ Ok l → literal_fits l ≡ true
unfolding constant_named
constant-named statement known n l sound e =
    let scope = scope_at known no_rows position.Constant in
    let first = after-ok (name_bound n scope) (constant_wanted statement wanted.Any (name_place n)) l e in
    (wanted-sound statement wanted.Any (name_place n) scope first.0 l (name-sound n scope first.0 (bare-scope-sound known position.Constant sound) first.1) first.2).0

bare-columns : AreColumns no_rows.columns
unfolding no_rows
bare-columns = no-columns

name-let : (schemas : List NamedSchema) (statement : Place) (n : List ℕ) (done after : BoundStatements) (other : Name) (o : Option BoundPlan) → IsSoundStatements schemas done → table_named done.known (text_of other) ≡ o → name_let statement n done other o ≡ Ok after → IsSoundStatements schemas after
name-let schemas statement n done after other (Some p) h is e =
    table-let schemas n done after (Ok p) h (λ b same. named_sound done.known (text_of other) b h.known (is ∙ ap (λ (x : BoundPlan). Some x) (ok-same p b same))) e
name-let schemas statement n done after other None h is e =
    constant-let schemas n done after (constant_named statement done.known other) h (λ l same. constant-named statement done.known other l h.known same) e

pipe-let : SoundOthers → (schemas : List NamedSchema) (statement : Place) (n : List ℕ) (done after : BoundStatements) (p : Pipe) (o : Option Name) → pipe_patterns p ≡ true → IsSoundStatements schemas done → pipe_let statement n done p o ≡ Ok after → IsSoundStatements schemas after
pipe-let others schemas statement n done after p None some h e =
    table-let schemas n done after (pipe_bound p done.known false) h (λ b same. pipe_sound others p some done.known false b h.known same) e
pipe-let others schemas statement n done after p (Some other) some h e = name-let schemas statement n done after other (table_named done.known (text_of other)) h refl e

body-let : SoundOthers → (schemas : List NamedSchema) (statement : Place) (n : List ℕ) (b : LetBody) (done after : BoundStatements) → body_patterns b ≡ true → IsSoundStatements schemas done → body_bound statement n b done ≡ Ok after → IsSoundStatements schemas after
unfolding body_bound
body-let others schemas statement n (body.Pipe p) done after some h e = pipe-let others schemas statement n done after p (name_alone p) some h e
body-let others schemas statement n (body.Expr x) done after some h e =
    constant-let schemas n done after (constant_bound statement wanted.Any done.known no_rows x) h
    (λ l same. (constant-sound statement wanted.Any done.known no_rows x l h.known bare-columns same).0)
    e

let-sound : SoundOthers → (schemas : List NamedSchema) (l : Let) (done after : BoundStatements) → let_patterns l ≡ true → IsSoundStatements schemas done → let_bound l done ≡ Ok after → IsSoundStatements schemas after
unfolding let_bound
let-sound others schemas l done after some h e =
    let first = after-ok (unless (let_faults done.known l.name) done) (body_bound l.place (text_of l.name) l.body) after e in
    let same = (unless-ok (let_faults done.known l.name) done first.0 first.1).1 in
    body-let others schemas l.place (text_of l.name) l.body first.0 after some (subst (IsSoundStatements schemas) same h) first.2

-- Statements one after another.

lets-along : SoundOthers → (schemas : List NamedSchema) (lets : List Let) (start : Outcome BoundStatements) (done : BoundStatements) → list_all let_patterns lets ≡ true → ((d : BoundStatements) → start ≡ Ok d → IsSoundStatements schemas d) → fold (λ before (l : Let). next_let l before) start lets ≡ Ok done → IsSoundStatements schemas done
unfolding next_let
lets-along others schemas [] start done some h e = h done e
lets-along others schemas (l ∷ ls) start done some h e =
    let parts = and_parts (let_patterns l) (list_all let_patterns ls) some in
    lets-along others schemas ls (next_let l start) done parts.1
    (λ d is. let first = after-ok start (let_bound l) d is in let-sound others schemas l first.0 d parts.0 (h first.0 first.1) first.2)
    e

first-known : (schemas : List NamedSchema) (moment : Option ℤ) → All (λ (s : NamedSchema). AreColumns s.schema) schemas → IfSome moment IsMoment → IsSoundStatements schemas (no_statements (known_at_first schemas moment))
unfolding no_statements known_at_first lets_columns
first-known schemas moment tables ranged = record {
  tables = refl;
  known = record {
    tables = tables;
    lets = All-nil (λ (l : LetTable). AreColumns l.columns);
    consts = refl;
    moment = ranged;
  };
  lets = refl;
}

pub lets_sound : SoundOthers → (schemas : List NamedSchema) (moment : Option ℤ) (lets : List Let) (done : BoundStatements) → list_all let_patterns lets ≡ true → All (λ (s : NamedSchema). AreColumns s.schema) schemas → IfSome moment IsMoment → lets_bound lets (known_at_first schemas moment) ≡ Ok done → IsSoundStatements schemas done
unfolding lets_bound
lets_sound others schemas moment lets done some tables ranged e =
    lets-along others schemas lets (Ok (no_statements (known_at_first schemas moment))) done some
    (λ d is. subst (IsSoundStatements schemas) (ok-same (no_statements (known_at_first schemas moment)) d is) (first-known schemas moment tables ranged))
    e
