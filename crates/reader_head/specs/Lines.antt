-- The whole field lines at the front of a piece whose names do not count (document 01, "Head").
use Rattle.std.specs.Prelude.{ℕ, zero, suc, ◌+◌, Bool, true, false, cond, ◌&&◌, List, [], ◌∷◌, Option, None, Some, leb, length, drop}
use Rattle.rules_server.specs.Octets.{starts_with}
use Rattle.rules_server.specs.Texts.{crlf}
use Rattle.rules_tablet.specs.Limits.{max_line}
use Rattle.rules_tablet.specs.Lines.{is_line_byte}
use Rattle.rules_tablet.specs.Fields.{is_field, name_of, Name, etag, type, range, size, transfer, other, kind_of}
use Rattle.reader_head.specs.declared.uncounted_fields.OtherLines.{OtherLines}

-- the bytes before the first that may not stand in a line
abbrev pub line_at : List ℕ → List ℕ
line_at [] = []
line_at (x ∷ l) = cond (is_line_byte x) (x ∷ line_at l) []

-- "ETag, Content-Type, Content-Range, Content-Length count", and a Transfer-Encoding is refused; no other name counts
abbrev pub is_other : Name → Bool
is_other etag = false
is_other type = false
is_other range = false
is_other size = false
is_other transfer = false
is_other other = true

-- a field, in up to 512 bytes, whose name does not count
abbrev pub is_other_line : List ℕ → Bool
is_other_line l = leb (length l) max_line && is_field l && is_other (kind_of (name_of l))

-- how many bytes such a line at the front of a piece has with its CR LF, 0 where there is none
unfoldable pub other_line : List ℕ → ℕ
other_line piece = cond (is_other_line (line_at piece) && starts_with crlf (drop (length (line_at piece)) piece)) (length (line_at piece) + 2) 0

-- so many bytes, none where it is 0
abbrev pub some_bytes : ℕ → Option ℕ
some_bytes zero = None
some_bytes (suc k) = Some (suc k)

-- a line of so many bytes with its CR LF before others, none where there is no such line
abbrev pub one_more : ℕ → OtherLines → OtherLines
one_more zero o = record { lines = 0; taken = 0 }
one_more (suc k) o = record { lines = suc o.lines; taken = suc k + o.taken }

-- such lines one after another, at most so many
unfoldable pub other_lines : ℕ → List ℕ → OtherLines
unfolding other_line
other_lines zero piece = record { lines = 0; taken = 0 }
other_lines (suc most) piece = one_more (other_line piece) (other_lines most (drop (other_line piece) piece))
