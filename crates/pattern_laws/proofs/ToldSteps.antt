-- The equations of `told_reading` and of `is_readable`, one for each variant of an expression.
use Rattle.std.proofs.Common.{◌≡◌, ℕ, Bool, true, false, not, List, [], ◌∷◌, map, refl, ap, sym, ◌∙◌}
use Rattle.std.specs.Prelude.{◌&&◌}
use Rattle.std.specs.List.{list_all}
use Rattle.kql_functions.specs.declared.aggregate.Aggregate.{Aggregate}
use Rattle.kql_functions.specs.declared.func.Func.{Func}
use Rattle.kql_functions.specs.declared.window.Window.{Window}
use Rattle.kql_bound.specs.declared.expr.BExpr.{BExpr, fold-roll-BExpr}
use Rattle.kql_bound.specs.declared.expr.BExpr.TheOpen.{BExpr-F}
use Rattle.kql_bound.specs.declared.expr.BExpr.TheVariants as V
use Rattle.kql_bound.specs.declared.expr.ChainSign.{ChainSign}
use Rattle.kql_bound.specs.declared.expr.StepColumn.{StepColumn}
use Rattle.kql_bound.specs.declared.literal.Lit.{Lit}
use Rattle.kql_meaning.specs.Expressions.{reading_step}
use Rattle.kql_meaning.specs.Readings.{Reading}
use Rattle.pattern_lift.specs.Marks.{begins_with}
use Rattle.pattern_laws.specs.Liftable.{is_readable, readable_step}
use Rattle.pattern_laws.specs.Meaning.{Told, call_reading, told_reading, told_step}

pub told-Literal : (told : Told) (l : Lit) → told_reading told (V.Literal l) ≡ reading_step (BExpr-F.Literal l)
unfolding told_reading
told-Literal told l = ap (told_reading told) (sym (V.rolls-Literal l)) ∙ fold-roll-BExpr Reading (told_step told) (BExpr-F.Literal l)

pub told-Column : (told : Told) (n : List ℕ) → told_reading told (V.Column n) ≡ reading_step (BExpr-F.Column n)
unfolding told_reading
told-Column told n = ap (told_reading told) (sym (V.rolls-Column n)) ∙ fold-roll-BExpr Reading (told_step told) (BExpr-F.Column n)

pub told-Step : (told : Told) (c : StepColumn) → told_reading told (V.Step c) ≡ reading_step (BExpr-F.Step c)
unfolding told_reading
told-Step told c = ap (told_reading told) (sym (V.rolls-Step c)) ∙ fold-roll-BExpr Reading (told_step told) (BExpr-F.Step c)

pub told-Call : (told : Told) (f : Func) (args : List BExpr) → told_reading told (V.Call f args) ≡ call_reading told f (map (told_reading told) args)
unfolding told_reading
told-Call told f args = ap (told_reading told) (sym (V.rolls-Call f args)) ∙ fold-roll-BExpr Reading (told_step told) (BExpr-F.Call f args)

abbrev pub told_link : Told → ChainSign × BExpr → ChainSign × Reading
told_link told l = (l.0, told_reading told l.1)

pub told-Chain : (told : Told) (first : BExpr) (links : List (ChainSign × BExpr)) → told_reading told (V.Chain first links) ≡ reading_step (BExpr-F.Chain (told_reading told first) (map (told_link told) links))
unfolding told_reading
told-Chain told first links = ap (told_reading told) (sym (V.rolls-Chain first links)) ∙ fold-roll-BExpr Reading (told_step told) (BExpr-F.Chain first links)

pub told-Path : (told : Told) (whole : BExpr) (steps : List BExpr) → told_reading told (V.Path whole steps) ≡ reading_step (BExpr-F.Path (told_reading told whole) (map (told_reading told) steps))
unfolding told_reading
told-Path told whole steps = ap (told_reading told) (sym (V.rolls-Path whole steps)) ∙ fold-roll-BExpr Reading (told_step told) (BExpr-F.Path whole steps)

pub told-Window : (told : Told) (f : Window) (args : List BExpr) → told_reading told (V.Window f args) ≡ reading_step (BExpr-F.Window f (map (told_reading told) args))
unfolding told_reading
told-Window told f args = ap (told_reading told) (sym (V.rolls-Window f args)) ∙ fold-roll-BExpr Reading (told_step told) (BExpr-F.Window f args)

pub told-Aggregate : (told : Told) (f : Aggregate) (args : List BExpr) → told_reading told (V.Aggregate f args) ≡ reading_step (BExpr-F.Aggregate f (map (told_reading told) args))
unfolding told_reading
told-Aggregate told f args = ap (told_reading told) (sym (V.rolls-Aggregate f args)) ∙ fold-roll-BExpr Reading (told_step told) (BExpr-F.Aggregate f args)

-- What may be read.

all-map : (marks : List ℕ) (es : List BExpr) → list_all (λ b. b) (map (is_readable marks) es) ≡ list_all (is_readable marks) es
all-map marks [] = refl
all-map marks (e ∷ es) = ap (λ b. is_readable marks e && b) (all-map marks es)

abbrev pub links_readable : List ℕ → List (ChainSign × BExpr) → Bool
links_readable marks links = list_all (λ (l : ChainSign × BExpr). is_readable marks l.1) links

all-links : (marks : List ℕ) (links : List (ChainSign × BExpr)) → list_all (λ (l : ChainSign × Bool). l.1) (map {B = ChainSign × Bool} (λ (l : ChainSign × BExpr). (l.0, is_readable marks l.1)) links) ≡ links_readable marks links
all-links marks [] = refl
all-links marks (l ∷ ls) = ap (λ b. is_readable marks l.1 && b) (all-links marks ls)

pub readable-Literal : (marks : List ℕ) (l : Lit) → is_readable marks (V.Literal l) ≡ true
unfolding is_readable
readable-Literal marks l = ap (is_readable marks) (sym (V.rolls-Literal l)) ∙ fold-roll-BExpr Bool (readable_step marks) (BExpr-F.Literal l)

pub readable-Step : (marks : List ℕ) (c : StepColumn) → is_readable marks (V.Step c) ≡ true
unfolding is_readable
readable-Step marks c = ap (is_readable marks) (sym (V.rolls-Step c)) ∙ fold-roll-BExpr Bool (readable_step marks) (BExpr-F.Step c)

pub readable-Column : (marks n : List ℕ) → is_readable marks (V.Column n) ≡ not (begins_with marks n)
unfolding is_readable
readable-Column marks n = ap (is_readable marks) (sym (V.rolls-Column n)) ∙ fold-roll-BExpr Bool (readable_step marks) (BExpr-F.Column n)

pub readable-Call : (marks : List ℕ) (f : Func) (args : List BExpr) → is_readable marks (V.Call f args) ≡ list_all (is_readable marks) args
unfolding is_readable
readable-Call marks f args = ap (is_readable marks) (sym (V.rolls-Call f args)) ∙ (fold-roll-BExpr Bool (readable_step marks) (BExpr-F.Call f args) ∙ all-map marks args)

pub readable-Chain : (marks : List ℕ) (first : BExpr) (links : List (ChainSign × BExpr)) → is_readable marks (V.Chain first links) ≡ (is_readable marks first && links_readable marks links)
unfolding is_readable
readable-Chain marks first links = ap (is_readable marks) (sym (V.rolls-Chain first links)) ∙ (fold-roll-BExpr Bool (readable_step marks) (BExpr-F.Chain first links) ∙ ap (λ b. is_readable marks first && b) (all-links marks links))

pub readable-Path : (marks : List ℕ) (whole : BExpr) (steps : List BExpr) → is_readable marks (V.Path whole steps) ≡ (is_readable marks whole && list_all (is_readable marks) steps)
unfolding is_readable
readable-Path marks whole steps = ap (is_readable marks) (sym (V.rolls-Path whole steps)) ∙ (fold-roll-BExpr Bool (readable_step marks) (BExpr-F.Path whole steps) ∙ ap (λ b. is_readable marks whole && b) (all-map marks steps))

pub readable-Window : (marks : List ℕ) (f : Window) (args : List BExpr) → is_readable marks (V.Window f args) ≡ list_all (is_readable marks) args
unfolding is_readable
readable-Window marks f args = ap (is_readable marks) (sym (V.rolls-Window f args)) ∙ (fold-roll-BExpr Bool (readable_step marks) (BExpr-F.Window f args) ∙ all-map marks args)

pub readable-Aggregate : (marks : List ℕ) (f : Aggregate) (args : List BExpr) → is_readable marks (V.Aggregate f args) ≡ false
unfolding is_readable
readable-Aggregate marks f args = ap (is_readable marks) (sym (V.rolls-Aggregate f args)) ∙ fold-roll-BExpr Bool (readable_step marks) (BExpr-F.Aggregate f args)
