-- A list that is read member by member: what is left of it, if anything is.
use Rattle.std.specs.Prelude.{ℕ, suc, List, [], length, Option, None, Some}
use denote.Ref.{Bor}
use Rattle.rules_server.specs.Ranges.{members}

-- the members that are left
abbrev pub members_left : Option (Bor (List ℕ)) → List (List ℕ)
members_left None = []
members_left (Some l) = members l.now

-- the bytes that are left, and one more for the end of the list
abbrev pub bytes_left : Option (Bor (List ℕ)) → ℕ
bytes_left None = 0
bytes_left (Some l) = suc (length l.now)
