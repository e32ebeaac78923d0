-- The options of the shell's commands.
use Rattle.std.specs.Prelude.{ℕ, ◌&&◌, not, nat_eq, Bool, true, false, List, Option, Some, None, codes, if◌then◌else◌}
use Rattle.std.specs.List.{starts_with}
use Rattle.std.specs.Str.{bytes_eq}
use Rattle.kql_shell.specs.declared.marks.Mark.{Mark}
use Rattle.kql_shell.specs.declared.marks.Mark.TheVariants as mark
use Rattle.kql_shell.specs.declared.request.Form.{Form}
use Rattle.kql_shell.specs.declared.request.Form.TheVariants as form
use Rattle.kql_shell.specs.declared.request.Verb.{Verb}
use Rattle.kql_shell.specs.declared.request.Verb.TheVariants as verb

-- the option of a name
unfoldable pub mark_of : List ℕ → Option Mark
mark_of word =
    if bytes_eq word (codes "-e") then Some mark.Text
    else if bytes_eq word (codes "-q") then Some mark.File
    else if bytes_eq word (codes "--output") then Some mark.Form
    else if bytes_eq word (codes "--now") then Some mark.Moment
    else if bytes_eq word (codes "--workers") then Some mark.Workers
    else if bytes_eq word (codes "--limit") then Some mark.Limit
    else if bytes_eq word (codes "--catalogue") then Some mark.Catalogue
    else if bytes_eq word (codes "--types") then Some mark.Types
    else if bytes_eq word (codes "--all") then Some mark.All
    else if bytes_eq word (codes "--write") then Some mark.Write
    else None

abbrev pub is_of_schema : Mark → Bool
is_of_schema mark.Form = true
is_of_schema mark.All = true
is_of_schema mark.Limit = true
is_of_schema _ = false

abbrev pub is_of_types : Mark → Bool
is_of_types mark.Write = true
is_of_types mark.Limit = true
is_of_types _ = false

abbrev pub is_write : Mark → Bool
is_write mark.Write = true
is_write _ = false

-- whether a command has an option
abbrev pub takes : Verb → Mark → Bool
takes verb.Answer m = not (is_write m)
takes verb.Show m = not (is_write m)
takes verb.Schema m = is_of_schema m
takes verb.Types m = is_of_types m

-- whether a word begins as an option does; `-` alone is the standard input
abbrev pub is_option : List ℕ → Bool
is_option word = starts_with nat_eq word (codes "-") && not (bytes_eq word (codes "-"))

-- the form of a name
unfoldable pub form_of : List ℕ → Option Form
form_of word =
    if bytes_eq word (codes "csv") then Some form.Csv
    else if bytes_eq word (codes "table") then Some form.Table
    else if bytes_eq word (codes "json") then Some form.Json
    else if bytes_eq word (codes "jsonl") then Some form.JsonLines
    else None
