-- The fixed byte strings of document 01, and the name of the field that request 2026-01 adds. `octets::texts` has those that the code names: the server writes
-- them, and the reader compares field names with them.
use Rattle.std.specs.Prelude.{ℕ, List}
use Rattle.rules_server.specs.Octets.{codes}

abbrev pub crlf : List ℕ
crlf = codes "\r\n"

abbrev pub dashes : List ℕ
dashes = codes "--"

-- between a field's name and its value
abbrev pub colon_space : List ℕ
colon_space = codes ": "

abbrev pub get : List ℕ
get = codes "GET"

abbrev pub head : List ℕ
head = codes "HEAD"

-- the unit of a Range, with the sign behind it
abbrev pub bytes_unit : List ℕ
bytes_unit = codes "bytes="

-- the unit of a Content-Range, with the space behind it
abbrev pub bytes_range : List ℕ
bytes_range = codes "bytes "

-- "The status line is one of .."
abbrev pub status200 : List ℕ
status200 = codes "HTTP/1.1 200 OK"

abbrev pub status206 : List ℕ
status206 = codes "HTTP/1.1 206 Partial Content"

abbrev pub status416 : List ℕ
status416 = codes "HTTP/1.1 416 Range Not Satisfiable"

abbrev pub etag_name : List ℕ
etag_name = codes "ETag"

abbrev pub modified_name : List ℕ
modified_name = codes "Last-Modified"

abbrev pub type_name : List ℕ
type_name = codes "Content-Type"

abbrev pub range_name : List ℕ
range_name = codes "Content-Range"

abbrev pub length_name : List ℕ
length_name = codes "Content-Length"

abbrev pub multipart_type : List ℕ
multipart_type = codes "multipart/byteranges"

-- the parameter of a multipart's type
abbrev pub boundary_parameter : List ℕ
boundary_parameter = codes "; boundary="
