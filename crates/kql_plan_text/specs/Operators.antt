-- The line of an operator, without the `| ` before it. A line that a plan or steps follow ends with ` (`.
use Rattle.std.specs.Prelude.{ℕ, Bool, true, false, List, [], ◌∷◌, ◌++◌, Option, Some, None, codes, if◌then◌else◌}
use Rattle.std.specs.Fmt.{decimal}
use Rattle.std.specs.List.{concat, join_by}
use Rattle.kql_plan_text.specs.Exprs.{expr_text, with_commas}
use Rattle.kql_plan_text.specs.Literals.{double_quote, lit_text, name_text, quoted}
use Rattle.kql_plan_text.specs.Words.{join_word, kind_word, output_word}
use Rattle.kql_bound.specs.declared.literal.Lit.{Lit}
use Rattle.kql_bound.specs.declared.parts.BItem.{BItem}
use Rattle.kql_bound.specs.declared.parts.BKey.{BKey}
use Rattle.kql_bound.specs.declared.parts.Decl.{Decl}
use Rattle.kql_bound.specs.declared.parts.Expand.{Expand}
use Rattle.kql_bound.specs.declared.parts.ExpandItem.{ExpandItem}
use Rattle.kql_bound.specs.declared.parts.GroupPlan.{GroupPlan}
use Rattle.kql_bound.specs.declared.parts.JoinPlan.{JoinPlan}
use Rattle.kql_bound.specs.declared.parts.OnPair.{OnPair}
use Rattle.kql_bound.specs.declared.parts.ParsePlan.{ParsePlan}
use Rattle.kql_bound.specs.declared.parts.PatItem.{PatItem}
use Rattle.kql_bound.specs.declared.parts.PatItem.TheVariants as pattern
use Rattle.kql_bound.specs.declared.parts.ScanPlan.{ScanPlan}
use Rattle.kql_bound.specs.declared.parts.ScanStep.{ScanStep}
use Rattle.kql_bound.specs.declared.parts.SeriesItem.{SeriesItem}
use Rattle.kql_bound.specs.declared.parts.SeriesPlan.{SeriesPlan}
use Rattle.kql_bound.specs.declared.plan.Op.{Op, out-Op}
use Rattle.kql_bound.specs.declared.plan.Op.TheOpen.{Op-F}
use Rattle.kql_bound.specs.declared.plan.Source.{Source}
use Rattle.kql_bound.specs.declared.plan.Source.TheVariants as source

-- `n=E`, and `n;n=E` for a call of several columns
unfoldable pub item_text : BItem → List ℕ
item_text i = concat (join_by name_text (codes ";") i.names ∷ codes "=" ∷ expr_text i.expr ∷ [])

abbrev pub items_text : List BItem → List ℕ
items_text items = with_commas item_text items

-- a space and items, or nothing
unfoldable pub spaced_items : List BItem → List ℕ
spaced_items [] = []
spaced_items (i ∷ is) = concat (codes " " ∷ items_text (i ∷ is) ∷ [])

-- ` by ` and keys, or nothing
unfoldable pub by_text : List BItem → List ℕ
by_text [] = []
by_text (k ∷ ks) = concat (codes " by " ∷ items_text (k ∷ ks) ∷ [])

abbrev pub direction_text : Bool → List ℕ
direction_text asc = if asc then codes " asc" else codes " desc"

abbrev pub nulls_text : Bool → List ℕ
nulls_text first = if first then codes " nulls first" else codes " nulls last"

-- `E asc nulls first`
unfoldable pub key_text : BKey → List ℕ
key_text k = concat (expr_text k.expr ∷ direction_text k.asc ∷ nulls_text k.nulls_first ∷ [])

abbrev pub keys_text : List BKey → List ℕ
keys_text keys = with_commas key_text keys

-- `range x from A to B step S`
unfoldable pub range_text : List ℕ → Lit → Lit → Lit → List ℕ
range_text column from to step =
    concat (codes "range " ∷ name_text column ∷ codes " from " ∷ lit_text from ∷ codes " to " ∷ lit_text to ∷ codes " step " ∷ lit_text step ∷ [])

-- the line of a source: the table's name, `let#I`, a range or `print n=E,n=E`
abbrev pub source_text : Source → List ℕ
source_text (source.Table name) = name_text name
source_text (source.Let i) = codes "let#" ++ decimal i
source_text (source.Range column from to step) = range_text column from to step
source_text (source.Print items) = codes "print " ++ items_text items

-- `summarize n=E,n=E by n=E,n=E`
unfoldable pub group_text : GroupPlan → List ℕ
group_text g = concat (codes "summarize" ∷ spaced_items g.items ∷ by_text g.keys ∷ [])

-- `n=E default D`
unfoldable pub series_item_text : SeriesItem → List ℕ
series_item_text i = concat (name_text i.name ∷ codes "=" ∷ expr_text i.expr ∷ codes " default " ∷ lit_text i.default ∷ [])

-- ` on C from A to B step S`
unfoldable pub bins_text : SeriesPlan → List ℕ
bins_text s =
    concat (codes " on " ∷ name_text s.axis ∷ codes " from " ∷ lit_text s.from ∷ codes " to " ∷ lit_text s.to ∷ codes " step " ∷ lit_text s.step ∷ [])

-- `make-series n=E default D on C from A to B step S by n=E`
unfoldable pub series_text : SeriesPlan → List ℕ
series_text s = concat (codes "make-series " ∷ with_commas series_item_text s.items ∷ bins_text s ∷ by_text s.keys ∷ [])

-- `n=E:type`
unfoldable pub expand_item_text : ExpandItem → List ℕ
expand_item_text i = concat (name_text i.name ∷ codes "=" ∷ expr_text i.expr ∷ codes ":" ∷ kind_word i.to ∷ [])

unfoldable pub expand_word : Bool → List ℕ
expand_word array = if array then codes "mv-expand array " else codes "mv-expand bag "

-- `mv-expand bag n=E:type`
unfoldable pub expand_text : Expand → List ℕ
expand_text x = concat (expand_word x.array ∷ with_commas expand_item_text x.items ∷ [])

-- `*`, a string or `n:type`
unfoldable pub pattern_text : PatItem → List ℕ
pattern_text pattern.Star = codes "*"
pattern_text (pattern.Literal t) = quoted double_quote t
pattern_text (pattern.Column name kind) = concat (name_text name ∷ codes ":" ∷ kind_word kind ∷ [])

unfoldable pub parse_word : Bool → List ℕ
parse_word relaxed = if relaxed then codes "parse relaxed " else codes "parse simple "

-- `parse simple E with P P`
unfoldable pub parse_text : ParsePlan → List ℕ
parse_text p =
    concat (parse_word p.relaxed ∷ expr_text p.text ∷ codes " with " ∷ join_by pattern_text (codes " ") p.pattern ∷ [])

-- `l==r`
unfoldable pub on_text : OnPair → List ℕ
on_text pair = concat (name_text pair.left ∷ codes "==" ∷ name_text pair.right ∷ [])

-- `join KIND on l==r,l==r (`
unfoldable pub join_text : JoinPlan → List ℕ
join_text j =
    concat ((if j.lookup then codes "lookup " else codes "join ") ∷ join_word j.kind ∷ codes " on " ∷ with_commas on_text j.on ∷ codes " (" ∷ [])

-- a space and the name of the match ids, or nothing
unfoldable pub match_text : Option (List ℕ) → List ℕ
match_text None = []
match_text (Some name) = concat (codes " " ∷ name_text name ∷ [])

-- `n:type=V`
unfoldable pub decl_text : Decl → List ℕ
decl_text d = concat (name_text d.name ∷ codes ":" ∷ kind_word d.default.kind ∷ codes "=" ∷ lit_text d.default ∷ [])

-- ` declare ` and the columns, or nothing
unfoldable pub declare_text : List Decl → List ℕ
declare_text [] = []
declare_text (d ∷ ds) = concat (codes " declare " ∷ with_commas decl_text (d ∷ ds) ∷ [])

-- `scan M declare n:type=V (`
unfoldable pub scan_text : ScanPlan → List ℕ
scan_text s = concat (codes "scan" ∷ match_text s.match_id ∷ declare_text s.declared ∷ codes " (" ∷ [])

-- ` => ` and the assignments, or nothing
unfoldable pub sets_text : List BItem → List ℕ
sets_text [] = []
sets_text (i ∷ is) = concat (codes " => " ∷ items_text (i ∷ is) ∷ [])

-- `step s all: E => n=E,n=E`
unfoldable pub scan_step_text : ScanStep → List ℕ
scan_step_text s =
    concat (codes "step " ∷ name_text s.name ∷ codes " " ∷ output_word s.output ∷ codes ": " ∷ expr_text s.condition ∷ sets_text s.sets ∷ [])

-- `top N by K,K`
unfoldable pub top_text : ℕ → List BKey → List ℕ
top_text n keys = concat (codes "top " ∷ decimal n ∷ codes " by " ∷ keys_text keys ∷ [])

-- `partition by C (`
unfoldable pub partition_text : List ℕ → List ℕ
partition_text column = concat (codes "partition by " ∷ name_text column ∷ codes " (" ∷ [])

-- the line of an operator
abbrev pub line_step : {A B : Type 0} → Op-F A B → List ℕ
line_step (Op-F.Where e) = codes "where " ++ expr_text e
line_step (Op-F.Extend items) = codes "extend " ++ items_text items
line_step (Op-F.Project items) = codes "project " ++ items_text items
line_step (Op-F.Take n) = codes "take " ++ decimal n
line_step Op-F.Count = codes "count"
line_step Op-F.Serialize = codes "serialize"
line_step (Op-F.Sort keys) = codes "sort by " ++ keys_text keys
line_step (Op-F.Top n keys) = top_text n keys
line_step (Op-F.Summarize g) = group_text g
line_step (Op-F.MakeSeries s) = series_text s
line_step (Op-F.MvExpand x) = expand_text x
line_step (Op-F.Parse p) = parse_text p
line_step (Op-F.Join j right) = join_text j
line_step (Op-F.Union inner others) = if inner then codes "union inner (" else codes "union outer ("
line_step (Op-F.Scan s) = scan_text s
line_step (Op-F.Partition column ops) = partition_text column

abbrev pub line_text : Op → List ℕ
line_text op = line_step (out-Op op)
