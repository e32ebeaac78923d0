-- The stored queries, which are asked of the log one after another.
use Rattle.std.specs.Prelude.{ℕ, ◌==◌, List, [], ◌∷◌, codes, if◌then◌else◌}

-- the text of a stored query, numbered from 0 to 4
unfoldable pub stored_query : ℕ → List ℕ
stored_query number =
    if number == 0 then codes "Log | where Level == \"Error\" | summarize Errors=count(), Total=sum(Bytes) by Host | sort by Host asc"
    else if number == 1 then codes "Log | summarize count() by bin(Ts, 1h), Level"
    else if number == 2 then codes "Log | serialize | extend Run = row_cumsum(Bytes, Host != prev(Host)) | top 10 by Run"
    else if number == 3 then codes "Log | partition by Host (sort by Ts asc | scan with (step a: Level == \"Error\"; step b: Level == \"Info\" and Ts - a.Ts < 1m;) | count)"
    else codes "Log | join kind=inner (Log | where Bytes == 0) on Host | count"

abbrev pub stored_queries : List (List ℕ)
stored_queries = stored_query 0 ∷ stored_query 1 ∷ stored_query 2 ∷ stored_query 3 ∷ stored_query 4 ∷ []
