-- What functions of datetimes give is of the type that their rows say.
use Rattle.std.proofs.Common.{◌==◌, ℕ, Bool, true, false, List, [], ◌∷◌, length}
use Rattle.std.specs.Prelude.{if◌then◌else◌}
use Rattle.kql_cells.specs.Values.{IsOfKind}
use Rattle.kql_cells.specs.declared.value.Kind.{Kind}
use Rattle.kql_cells.specs.declared.value.Kind.TheVariants as kind
use Rattle.kql_cells.specs.declared.value.Value.{Value}
use Rattle.kql_cells.specs.declared.value.Value.TheVariants as value
use Rattle.kql_functions.specs.declared.func.TimeFunc.{TimeFunc}
use Rattle.kql_functions.specs.declared.func.TimeFunc.TheVariants as func
use Rattle.kql_functions.specs.Kinds.{time_kind}
use Rattle.kql_ticks.specs.declared.part.Part.{Part}
use Rattle.kql_scalar_fns.specs.Time.{crossed, end, field_of, made, made_of, moved, named_field, since_1970, start, time_call, weekday}
use Rattle.kql_scalar_fns.proofs.KindLaws.{Gives, either-gives, long-kind, moment-kind, row-any}

start-kind : (p : Part) (v : Value) → IsOfKind kind.Moment (start p v)
unfolding start
start-kind p value.Null = tt
start-kind p (value.Bool x0) = tt
start-kind p (value.Long x0) = tt
start-kind p (value.Text x0) = tt
start-kind p (value.Moment x0) = moment-kind _
start-kind p (value.Span x0) = tt
start-kind p (value.Dynamic x0) = tt

end-kind : (p : Part) (v : Value) → IsOfKind kind.Moment (end p v)
unfolding end
end-kind p value.Null = tt
end-kind p (value.Bool x0) = tt
end-kind p (value.Long x0) = tt
end-kind p (value.Text x0) = tt
end-kind p (value.Moment x0) = moment-kind _
end-kind p (value.Span x0) = tt
end-kind p (value.Dynamic x0) = tt

weekday-kind : (v : Value) → IsOfKind kind.Span (weekday v)
unfolding weekday
weekday-kind value.Null = tt
weekday-kind (value.Bool x0) = tt
weekday-kind (value.Long x0) = tt
weekday-kind (value.Text x0) = tt
weekday-kind (value.Moment x0) = tt
weekday-kind (value.Span x0) = tt
weekday-kind (value.Dynamic x0) = tt

field_of-kind : (p : Part) (v : Value) → IsOfKind kind.Long (field_of p v)
unfolding field_of
field_of-kind p value.Null = tt
field_of-kind p (value.Bool x0) = tt
field_of-kind p (value.Long x0) = tt
field_of-kind p (value.Text x0) = tt
field_of-kind p (value.Moment x0) = tt
field_of-kind p (value.Span x0) = tt
field_of-kind p (value.Dynamic x0) = tt

moved-kind : (u v w : Value) → IsOfKind kind.Moment (moved u v w)
unfolding moved
moved-kind value.Null x1 x2 = tt
moved-kind (value.Bool x0) x1 x2 = tt
moved-kind (value.Long x0) x1 x2 = tt
moved-kind (value.Text x0) value.Null x2 = tt
moved-kind (value.Text x0) (value.Bool x1) x2 = tt
moved-kind (value.Text x0) (value.Long x1) value.Null = tt
moved-kind (value.Text x0) (value.Long x1) (value.Bool x2) = tt
moved-kind (value.Text x0) (value.Long x1) (value.Long x2) = tt
moved-kind (value.Text x0) (value.Long x1) (value.Text x2) = tt
moved-kind (value.Text x0) (value.Long x1) (value.Moment x2) = moment-kind _
moved-kind (value.Text x0) (value.Long x1) (value.Span x2) = tt
moved-kind (value.Text x0) (value.Long x1) (value.Dynamic x2) = tt
moved-kind (value.Text x0) (value.Text x1) x2 = tt
moved-kind (value.Text x0) (value.Moment x1) x2 = tt
moved-kind (value.Text x0) (value.Span x1) x2 = tt
moved-kind (value.Text x0) (value.Dynamic x1) x2 = tt
moved-kind (value.Moment x0) x1 x2 = tt
moved-kind (value.Span x0) x1 x2 = tt
moved-kind (value.Dynamic x0) x1 x2 = tt

crossed-kind : (u v w : Value) → IsOfKind kind.Long (crossed u v w)
unfolding crossed
crossed-kind value.Null x1 x2 = tt
crossed-kind (value.Bool x0) x1 x2 = tt
crossed-kind (value.Long x0) x1 x2 = tt
crossed-kind (value.Text x0) value.Null x2 = tt
crossed-kind (value.Text x0) (value.Bool x1) x2 = tt
crossed-kind (value.Text x0) (value.Long x1) x2 = tt
crossed-kind (value.Text x0) (value.Text x1) x2 = tt
crossed-kind (value.Text x0) (value.Moment x1) value.Null = tt
crossed-kind (value.Text x0) (value.Moment x1) (value.Bool x2) = tt
crossed-kind (value.Text x0) (value.Moment x1) (value.Long x2) = tt
crossed-kind (value.Text x0) (value.Moment x1) (value.Text x2) = tt
crossed-kind (value.Text x0) (value.Moment x1) (value.Moment x2) = long-kind _
crossed-kind (value.Text x0) (value.Moment x1) (value.Span x2) = tt
crossed-kind (value.Text x0) (value.Moment x1) (value.Dynamic x2) = tt
crossed-kind (value.Text x0) (value.Span x1) x2 = tt
crossed-kind (value.Text x0) (value.Dynamic x1) x2 = tt
crossed-kind (value.Moment x0) x1 x2 = tt
crossed-kind (value.Span x0) x1 x2 = tt
crossed-kind (value.Dynamic x0) x1 x2 = tt

named_field-kind : (v w : Value) → IsOfKind kind.Long (named_field v w)
unfolding named_field
named_field-kind value.Null x1 = tt
named_field-kind (value.Bool x0) x1 = tt
named_field-kind (value.Long x0) x1 = tt
named_field-kind (value.Text x0) value.Null = tt
named_field-kind (value.Text x0) (value.Bool x1) = tt
named_field-kind (value.Text x0) (value.Long x1) = tt
named_field-kind (value.Text x0) (value.Text x1) = tt
named_field-kind (value.Text x0) (value.Moment x1) = long-kind _
named_field-kind (value.Text x0) (value.Span x1) = tt
named_field-kind (value.Text x0) (value.Dynamic x1) = tt
named_field-kind (value.Moment x0) x1 = tt
named_field-kind (value.Span x0) x1 = tt
named_field-kind (value.Dynamic x0) x1 = tt

made-kind : (y m d h mi : Value) → IsOfKind kind.Moment (made y m d h mi)
unfolding made
made-kind value.Null x1 x2 x3 x4 = tt
made-kind (value.Bool x0) x1 x2 x3 x4 = tt
made-kind (value.Long x0) value.Null x2 x3 x4 = tt
made-kind (value.Long x0) (value.Bool x1) x2 x3 x4 = tt
made-kind (value.Long x0) (value.Long x1) value.Null x3 x4 = tt
made-kind (value.Long x0) (value.Long x1) (value.Bool x2) x3 x4 = tt
made-kind (value.Long x0) (value.Long x1) (value.Long x2) value.Null x4 = tt
made-kind (value.Long x0) (value.Long x1) (value.Long x2) (value.Bool x3) x4 = tt
made-kind (value.Long x0) (value.Long x1) (value.Long x2) (value.Long x3) value.Null = tt
made-kind (value.Long x0) (value.Long x1) (value.Long x2) (value.Long x3) (value.Bool x4) = tt
made-kind (value.Long x0) (value.Long x1) (value.Long x2) (value.Long x3) (value.Long x4) = moment-kind _
made-kind (value.Long x0) (value.Long x1) (value.Long x2) (value.Long x3) (value.Text x4) = tt
made-kind (value.Long x0) (value.Long x1) (value.Long x2) (value.Long x3) (value.Moment x4) = tt
made-kind (value.Long x0) (value.Long x1) (value.Long x2) (value.Long x3) (value.Span x4) = tt
made-kind (value.Long x0) (value.Long x1) (value.Long x2) (value.Long x3) (value.Dynamic x4) = tt
made-kind (value.Long x0) (value.Long x1) (value.Long x2) (value.Text x3) x4 = tt
made-kind (value.Long x0) (value.Long x1) (value.Long x2) (value.Moment x3) x4 = tt
made-kind (value.Long x0) (value.Long x1) (value.Long x2) (value.Span x3) x4 = tt
made-kind (value.Long x0) (value.Long x1) (value.Long x2) (value.Dynamic x3) x4 = tt
made-kind (value.Long x0) (value.Long x1) (value.Text x2) x3 x4 = tt
made-kind (value.Long x0) (value.Long x1) (value.Moment x2) x3 x4 = tt
made-kind (value.Long x0) (value.Long x1) (value.Span x2) x3 x4 = tt
made-kind (value.Long x0) (value.Long x1) (value.Dynamic x2) x3 x4 = tt
made-kind (value.Long x0) (value.Text x1) x2 x3 x4 = tt
made-kind (value.Long x0) (value.Moment x1) x2 x3 x4 = tt
made-kind (value.Long x0) (value.Span x1) x2 x3 x4 = tt
made-kind (value.Long x0) (value.Dynamic x1) x2 x3 x4 = tt
made-kind (value.Text x0) x1 x2 x3 x4 = tt
made-kind (value.Moment x0) x1 x2 x3 x4 = tt
made-kind (value.Span x0) x1 x2 x3 x4 = tt
made-kind (value.Dynamic x0) x1 x2 x3 x4 = tt

since_1970-kind : (n : ℕ) (v : Value) → IsOfKind kind.Moment (since_1970 n v)
unfolding since_1970
since_1970-kind n value.Null = tt
since_1970-kind n (value.Bool x0) = tt
since_1970-kind n (value.Long x0) = moment-kind _
since_1970-kind n (value.Text x0) = tt
since_1970-kind n (value.Moment x0) = tt
since_1970-kind n (value.Span x0) = tt
since_1970-kind n (value.Dynamic x0) = tt

either-kind : (b : Bool) (v w : Value) → IsOfKind kind.Moment v → IsOfKind kind.Moment w → IsOfKind kind.Moment (if b then v else w)
either-kind true v w h k = h
either-kind false v w h k = k

made_of-kind : (vs : List Value) → IsOfKind kind.Moment (made_of vs)
made_of-kind vs = either-kind (length vs == 3) _ _ (made-kind _ _ _ _ _) (made-kind _ _ _ _ _)

pub time_gives : (f : TimeFunc) (ks : List Kind) (vs : List Value) → Gives (time_kind f ks) (time_call f vs)
unfolding time_call time_kind
time_gives func.Now ks vs = either-gives _ _ _ (row-any ks ([]) kind.Moment _ (tt)) (row-any ks (kind.Span ∷ []) kind.Moment _ (tt))
time_gives func.Ago ks vs = row-any ks (kind.Span ∷ []) kind.Moment _ (tt)
time_gives func.StartOfDay ks vs = row-any ks (kind.Moment ∷ []) kind.Moment _ (start-kind _ _)
time_gives func.StartOfWeek ks vs = row-any ks (kind.Moment ∷ []) kind.Moment _ (start-kind _ _)
time_gives func.StartOfMonth ks vs = row-any ks (kind.Moment ∷ []) kind.Moment _ (start-kind _ _)
time_gives func.StartOfYear ks vs = row-any ks (kind.Moment ∷ []) kind.Moment _ (start-kind _ _)
time_gives func.EndOfDay ks vs = row-any ks (kind.Moment ∷ []) kind.Moment _ (end-kind _ _)
time_gives func.EndOfWeek ks vs = row-any ks (kind.Moment ∷ []) kind.Moment _ (end-kind _ _)
time_gives func.EndOfMonth ks vs = row-any ks (kind.Moment ∷ []) kind.Moment _ (end-kind _ _)
time_gives func.EndOfYear ks vs = row-any ks (kind.Moment ∷ []) kind.Moment _ (end-kind _ _)
time_gives func.DayOfWeek ks vs = row-any ks (kind.Moment ∷ []) kind.Span _ (weekday-kind _)
time_gives func.DayOfMonth ks vs = row-any ks (kind.Moment ∷ []) kind.Long _ (field_of-kind _ _)
time_gives func.DayOfYear ks vs = row-any ks (kind.Moment ∷ []) kind.Long _ (field_of-kind _ _)
time_gives func.GetYear ks vs = row-any ks (kind.Moment ∷ []) kind.Long _ (field_of-kind _ _)
time_gives func.GetMonth ks vs = row-any ks (kind.Moment ∷ []) kind.Long _ (field_of-kind _ _)
time_gives func.MonthOfYear ks vs = row-any ks (kind.Moment ∷ []) kind.Long _ (field_of-kind _ _)
time_gives func.HourOfDay ks vs = row-any ks (kind.Moment ∷ []) kind.Long _ (field_of-kind _ _)
time_gives func.DatetimeAdd ks vs = row-any ks (kind.Text ∷ kind.Long ∷ kind.Moment ∷ []) kind.Moment _ (moved-kind _ _ _)
time_gives func.DatetimeDiff ks vs = row-any ks (kind.Text ∷ kind.Moment ∷ kind.Moment ∷ []) kind.Long _ (crossed-kind _ _ _)
time_gives func.DatetimePart ks vs = row-any ks (kind.Text ∷ kind.Moment ∷ []) kind.Long _ (named_field-kind _ _)
time_gives func.MakeDatetime ks vs = either-gives _ _ _ (row-any ks (kind.Long ∷ kind.Long ∷ kind.Long ∷ []) kind.Moment _ (made_of-kind vs)) (row-any ks (kind.Long ∷ kind.Long ∷ kind.Long ∷ kind.Long ∷ kind.Long ∷ []) kind.Moment _ (made_of-kind vs))
time_gives func.UnixSeconds ks vs = row-any ks (kind.Long ∷ []) kind.Moment _ (since_1970-kind _ _)
time_gives func.UnixMilliseconds ks vs = row-any ks (kind.Long ∷ []) kind.Moment _ (since_1970-kind _ _)
