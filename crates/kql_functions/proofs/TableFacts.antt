-- Each function, operator, window function and aggregate has a name of its own, and stands once in its table.
use Rattle.std.proofs.Common.{◌≡◌, ℕ, ◌||◌, Bool, true, false, not, List, refl, ◌∙◌}
use Rattle.std.specs.Prelude.{◌↔◌, Some, Contains}
use Rattle.std.specs.List.{list_all}
use Rattle.kql_functions.specs.declared.func.ArithmeticFunc.{ArithmeticFunc}
use Rattle.kql_functions.specs.declared.func.ArithmeticFunc.TheVariants as arithmetic
use Rattle.kql_functions.specs.declared.func.ComparisonFunc.{ComparisonFunc}
use Rattle.kql_functions.specs.declared.func.ComparisonFunc.TheVariants as comparison
use Rattle.kql_functions.specs.declared.func.LogicFunc.{LogicFunc}
use Rattle.kql_functions.specs.declared.func.LogicFunc.TheVariants as logic
use Rattle.kql_functions.specs.declared.func.ChoiceFunc.{ChoiceFunc}
use Rattle.kql_functions.specs.declared.func.ChoiceFunc.TheVariants as choice
use Rattle.kql_functions.specs.declared.func.ConversionFunc.{ConversionFunc}
use Rattle.kql_functions.specs.declared.func.ConversionFunc.TheVariants as conversion
use Rattle.kql_functions.specs.declared.func.TextFunc.{TextFunc}
use Rattle.kql_functions.specs.declared.func.TextFunc.TheVariants as text
use Rattle.kql_functions.specs.declared.func.TimeFunc.{TimeFunc}
use Rattle.kql_functions.specs.declared.func.TimeFunc.TheVariants as time
use Rattle.kql_functions.specs.declared.func.DynamicFunc.{DynamicFunc}
use Rattle.kql_functions.specs.declared.func.DynamicFunc.TheVariants as dynamic
use Rattle.kql_functions.specs.declared.func.SearchFunc.{SearchFunc}
use Rattle.kql_functions.specs.declared.func.SearchPlace.{SearchPlace}
use Rattle.kql_functions.specs.declared.func.SearchPlace.TheVariants as place
use Rattle.kql_texts.specs.declared.folding.Fold.{Fold}
use Rattle.kql_texts.specs.declared.folding.Fold.TheVariants as fold
use Rattle.kql_functions.specs.declared.func.Func.{Func}
use Rattle.kql_functions.specs.declared.func.Func.TheVariants as func
use Rattle.kql_functions.specs.declared.window.Window.{Window}
use Rattle.kql_functions.specs.declared.window.Window.TheVariants as window
use Rattle.kql_functions.specs.declared.aggregate.Aggregate.{Aggregate}
use Rattle.kql_functions.specs.declared.aggregate.Aggregate.TheVariants as aggregate
use Rattle.kql_functions.specs.Find.{AreDistinct, aggregates, functions, is_called, is_operator, is_pattern, named_among, operators, search, windows}
use Rattle.kql_functions.specs.Names.{aggregate_name, arithmetic_name, choice_name, comparison_name, conversion_name, dynamic_name, func_name, logic_name, search_text, text_name, time_name, window_name}
use Rattle.kql_functions.proofs.NamedTables.{all-at, among-held, have_own, one-name, own-distinct}

-- the table that a function or an operator stands in
abbrev table : Bool → List Func
table true = operators
table false = functions

-- it is the one of its name there
abbrev Stands : Func → Type 0
Stands f = named_among func_name (table (is_operator f)) (func_name f) ≡ Some f

stands-arithmetic : (f : ArithmeticFunc) → Stands (func.Arithmetic f)
unfolding named_among functions operators func_name arithmetic_name choice_name comparison_name conversion_name dynamic_name logic_name search_text text_name time_name
stands-arithmetic arithmetic.Add = refl
stands-arithmetic _ = refl

stands-comparison : (f : ComparisonFunc) → Stands (func.Comparison f)
unfolding named_among functions operators func_name arithmetic_name choice_name comparison_name conversion_name dynamic_name logic_name search_text text_name time_name
stands-comparison comparison.Equal = refl
stands-comparison _ = refl

stands-logic : (f : LogicFunc) → Stands (func.Logic f)
unfolding named_among functions operators func_name arithmetic_name choice_name comparison_name conversion_name dynamic_name logic_name search_text text_name time_name
stands-logic logic.And = refl
stands-logic _ = refl

stands-choice : (f : ChoiceFunc) → Stands (func.Choice f)
unfolding named_among functions operators func_name arithmetic_name choice_name comparison_name conversion_name dynamic_name logic_name search_text text_name time_name
stands-choice choice.IsNull = refl
stands-choice _ = refl

stands-conversion : (f : ConversionFunc) → Stands (func.Conversion f)
unfolding named_among functions operators func_name arithmetic_name choice_name comparison_name conversion_name dynamic_name logic_name search_text text_name time_name
stands-conversion conversion.ToLong = refl
stands-conversion _ = refl

stands-text : (f : TextFunc) → Stands (func.Text f)
unfolding named_among functions operators func_name arithmetic_name choice_name comparison_name conversion_name dynamic_name logic_name search_text text_name time_name
stands-text text.Length = refl
stands-text _ = refl

stands-time : (f : TimeFunc) → Stands (func.Time f)
unfolding named_among functions operators func_name arithmetic_name choice_name comparison_name conversion_name dynamic_name logic_name search_text text_name time_name
stands-time time.Now = refl
stands-time _ = refl

stands-dynamic : (f : DynamicFunc) → Stands (func.Dynamic f)
unfolding named_among functions operators func_name arithmetic_name choice_name comparison_name conversion_name dynamic_name logic_name search_text text_name time_name
stands-dynamic dynamic.At = refl
stands-dynamic _ = refl

stands-place : (p : SearchPlace) (c : Fold) (n : Bool) → Stands (search p c n)
unfolding named_among functions operators func_name arithmetic_name choice_name comparison_name conversion_name dynamic_name logic_name search_text text_name time_name
stands-place place.Anywhere fold.Caseless false = refl
stands-place place.Anywhere fold.Caseless true = refl
stands-place place.Anywhere fold.Exact false = refl
stands-place place.Anywhere fold.Exact true = refl
stands-place place.Start fold.Caseless false = refl
stands-place place.Start fold.Caseless true = refl
stands-place place.Start fold.Exact false = refl
stands-place place.Start fold.Exact true = refl
stands-place place.End fold.Caseless false = refl
stands-place place.End fold.Caseless true = refl
stands-place place.End fold.Exact false = refl
stands-place place.End fold.Exact true = refl
stands-place place.Term fold.Caseless false = refl
stands-place place.Term fold.Caseless true = refl
stands-place place.Term fold.Exact false = refl
stands-place place.Term fold.Exact true = refl

stands-search : (f : SearchFunc) → Stands (func.Search f)
stands-search f = stands-place f.place f.fold f.negated

stands : (f : Func) → is_pattern f ≡ false → Stands f
stands (func.Arithmetic f) e = stands-arithmetic f
stands (func.Comparison f) e = stands-comparison f
stands (func.Search f) e = stands-search f
stands (func.Logic f) e = stands-logic f
stands (func.Choice f) e = stands-choice f
stands (func.Conversion f) e = stands-conversion f
stands (func.Text f) e = stands-text f
stands (func.Time f) e = stands-time f
stands (func.Dynamic f) e = stands-dynamic f
stands (func.Pattern f) e = cc

neither : (a b : Bool) → not (a || b) ≡ true → (a ≡ false) × (b ≡ false)
neither true b e = cc
neither false true e = cc
neither false false e = (refl, refl)

pub operator-apart : (f : Func) → is_operator f ≡ true → is_pattern f ≡ false
operator-apart (func.Arithmetic f) e = refl
operator-apart (func.Comparison f) e = refl
operator-apart (func.Search f) e = refl
operator-apart (func.Logic f) e = refl
operator-apart (func.Choice f) e = refl
operator-apart (func.Conversion f) e = refl
operator-apart (func.Text f) e = refl
operator-apart (func.Time f) e = refl
operator-apart (func.Dynamic f) e = refl
operator-apart (func.Pattern f) e = cc

pub called : (f : Func) → is_called f ≡ true → named_among func_name functions (func_name f) ≡ Some f
called f e = let n = neither (is_operator f) (is_pattern f) e in rw n.0 at (stands f n.1)

pub written : (f : Func) → is_operator f ≡ true → named_among func_name operators (func_name f) ≡ Some f
written f e = rw e at (stands f (operator-apart f e))

-- ---- what stands in each table

all-called : list_all is_called functions ≡ true
unfolding functions
all-called = refl

all-operators : list_all is_operator operators ≡ true
unfolding operators
all-operators = refl

pub held-called : (f : Func) → Contains functions f → is_called f ≡ true
held-called f c = all-at is_called functions f all-called c

pub every-function : (f : Func) → Contains functions f ↔ (is_called f ≡ true)
every-function f = (held-called f, λ e. among-held func_name functions (func_name f) f (called f e))

pub every-operator : (f : Func) → Contains operators f ↔ (is_operator f ≡ true)
every-operator f = (λ c. all-at is_operator operators f all-operators c, λ e. among-held func_name operators (func_name f) f (written f e))

-- ---- each once

functions-own : have_own func_name functions ≡ true
unfolding named_among functions operators func_name arithmetic_name choice_name comparison_name conversion_name dynamic_name logic_name search_text text_name time_name have_own
functions-own = refl

operators-own : have_own func_name operators ≡ true
unfolding named_among functions operators func_name arithmetic_name choice_name comparison_name conversion_name dynamic_name logic_name search_text text_name time_name have_own
operators-own = refl

pub functions-distinct : AreDistinct functions
functions-distinct = own-distinct func_name functions functions-own

pub operators-distinct : AreDistinct operators
operators-distinct = own-distinct func_name operators operators-own

-- ---- window functions and aggregates

pub window-own : (w : Window) → named_among window_name windows (window_name w) ≡ Some w
unfolding named_among windows window_name
window-own window.Prev = refl
window-own _ = refl

pub aggregate-own : (a : Aggregate) → named_among aggregate_name aggregates (aggregate_name a) ≡ Some a
unfolding named_among aggregates aggregate_name
aggregate-own aggregate.Count = refl
aggregate-own _ = refl

pub every-window : (w : Window) → Contains windows w
every-window w = among-held window_name windows (window_name w) w (window-own w)

pub every-aggregate : (a : Aggregate) → Contains aggregates a
every-aggregate a = among-held aggregate_name aggregates (aggregate_name a) a (aggregate-own a)

windows-own : have_own window_name windows ≡ true
unfolding named_among windows window_name have_own
windows-own = refl

aggregates-own : have_own aggregate_name aggregates ≡ true
unfolding named_among aggregates aggregate_name have_own
aggregates-own = refl

pub windows-distinct : AreDistinct windows
windows-distinct = own-distinct window_name windows windows-own

pub aggregates-distinct : AreDistinct aggregates
aggregates-distinct = own-distinct aggregate_name aggregates aggregates-own

pub own_window : (w : Window) (n : List ℕ) → n ≡ window_name w → (v : Window) → window_name v ≡ n → v ≡ w
own_window w n e v h = one-name window_name windows window-own v w (h ∙ e)

pub own_aggregate : (a : Aggregate) (n : List ℕ) → n ≡ aggregate_name a → (b : Aggregate) → aggregate_name b ≡ n → b ≡ a
own_aggregate a n e b h = one-name aggregate_name aggregates aggregate-own b a (h ∙ e)
