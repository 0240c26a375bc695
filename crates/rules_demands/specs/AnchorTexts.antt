-- The fixed texts and the names of bytes, spelled apart from the definitions; and the texts that definitions spell in place, each by what it decides.
use Rattle.std.specs.Prelude.{ℕ, Bool, true, false, List, [], ◌∷◌}
use Rattle.rules_server.specs.Octets.{codes, tab, line_feed, carriage_return, space, quote, asterisk, comma, dash, slash, digit_zero, colon, semicolon}
use Rattle.rules_server.specs.Octets.{underscore}
use Rattle.rules_server.specs.Texts.{crlf, dashes, colon_space, get, head, bytes_unit, bytes_range, status200, status206, status416, etag_name}
use Rattle.rules_server.specs.Texts.{modified_name, type_name, range_name, length_name, multipart_type, boundary_parameter}
use Rattle.rules_server.specs.Numerals.{decimal}
use Rattle.rules_server.specs.Tags.{is_tag, is_multipart_type, bad_type}
use Rattle.rules_server.specs.Ranges.{ByteSpec, span, onward, suffix, meaning}
use Rattle.rules_server.specs.Answers.{multipart_line, range_line, unsatisfied_line, length_line, part_head, closing}
use Rattle.rules_server.specs.Refusals.{bad_method}
use Rattle.rules_server.specs.declared.Numeral.{Numeral}
use Rattle.rules_server.specs.declared.Spec.TheVariants.{FirstLast, From, Suffix}
use Rattle.rules_tablet.specs.Runs.{run}
use Rattle.rules_tablet.specs.Requests.{request_text}
use Rattle.rules_tablet.specs.Fields.{name_of, value_of, is_field, is_size}
use Rattle.rules_tablet.specs.Fields.{is_status_line, status_number, Name, etag, type, range, size, transfer, other, kind_of, type_field, boundary_of, range_field}
use Rattle.rules_tablet.specs.declared.RangeField.{RangeField}
use Rattle.rules_tablet.specs.declared.RangeField.TheVariants.{Wrong, Span, Of}
use Rattle.rules_tablet.specs.declared.TypeField.{TypeField}
use Rattle.rules_tablet.specs.declared.TypeField.TheVariants.{Other, Multipart, Broken}
use Rattle.rules_demands.specs.AnchorTables.{Entry, ◌is◌, Agree}
use Rattle.rules_demands.specs.AnchorOctets.{bytes_from}

-- bytes by their names
unfoldable pub named : List (Entry ℕ)
named =
    tab is 9
    ∷ line_feed is 10
    ∷ carriage_return is 13
    ∷ space is 32
    ∷ quote is 34
    ∷ asterisk is 42
    ∷ comma is 44
    ∷ dash is 45
    ∷ slash is 47
    ∷ digit_zero is 48
    ∷ colon is 58
    ∷ semicolon is 59
    ∷ underscore is 95
    ∷ []

-- the fixed texts, and what a quoted text is
unfoldable pub texts : List (Entry (List ℕ))
texts =
    crlf is (13 ∷ 10 ∷ [])
    ∷ dashes is (45 ∷ 45 ∷ [])
    ∷ colon_space is (58 ∷ 32 ∷ [])
    ∷ get is (71 ∷ 69 ∷ 84 ∷ [])
    ∷ head is (72 ∷ 69 ∷ 65 ∷ 68 ∷ [])
    ∷ bytes_unit is (98 ∷ 121 ∷ 116 ∷ 101 ∷ 115 ∷ 61 ∷ [])
    ∷ bytes_range is (98 ∷ 121 ∷ 116 ∷ 101 ∷ 115 ∷ 32 ∷ [])
    ∷ status200 is codes "HTTP/1.1 200 OK"
    ∷ status206 is codes "HTTP/1.1 206 Partial Content"
    ∷ status416 is codes "HTTP/1.1 416 Range Not Satisfiable"
    ∷ etag_name is (69 ∷ 84 ∷ 97 ∷ 103 ∷ [])
    ∷ modified_name is codes "Last-Modified"
    ∷ type_name is codes "Content-Type"
    ∷ range_name is codes "Content-Range"
    ∷ length_name is codes "Content-Length"
    ∷ multipart_type is codes "multipart/byteranges"
    ∷ boundary_parameter is codes "; boundary="
    ∷ codes " !\"#$%&'()*+,-./0123456789:;<=>?@ABCDEFGHIJKLMNOPQRSTUVWXYZ[\\]^_`abcdefghijklmnopqrstuvwxyz{|}~" is bytes_from 32 95
    ∷ codes "\t\r\n" is (9 ∷ 13 ∷ 10 ∷ [])
    ∷ []

-- lines of an answer and of a request (document 01, "The bytes of an answer", "Its request has ..")
unfoldable pub lines : List (Entry (List ℕ))
lines =
    multipart_line (codes "B") is codes "Content-Type: multipart/byteranges; boundary=B"
    ∷ range_line (run 500 999) 8000 is codes "Content-Range: bytes 500-999/8000"
    ∷ unsatisfied_line 1234 is codes "Content-Range: bytes */1234"
    ∷ length_line 0 is codes "Content-Length: 0"
    ∷ length_line 1099511627776 is codes "Content-Length: 1099511627776"
    ∷ part_head (codes "B") (codes "text/plain") 10 (run 0 0) is codes "--B\r\nContent-Type: text/plain\r\nContent-Range: bytes 0-0/10\r\n\r\n"
    ∷ part_head (codes "B") [] 10 (run 9 9) is codes "--B\r\nContent-Range: bytes 9-9/10\r\n\r\n"
    ∷ closing (codes "B") is codes "--B--\r\n"
    ∷ request_text (run 0 1 ∷ run 3 3 ∷ []) (codes "\"k\"") is codes "Range: bytes=0-1,3-3\r\nIf-Range: \"k\"\r\n"
    ∷ boundary_of (codes "multipart/byteranges;\t Boundary=a-B_9") is codes "a-B_9"
    ∷ name_of (codes "a: b: c ") is codes "a"
    ∷ value_of (codes "a:\t b: c \t") is codes "b: c"
    ∷ []

-- tags, methods, status lines, the multipart type, field lines and Content-Length: what is one and what is none
unfoldable pub tests : List (Entry Bool)
tests =
    is_tag (codes "W/\"a\"") is true
    ∷ is_tag (codes "w/\"a\"") is false
    ∷ is_tag (codes "W\"a\"") is false
    ∷ is_tag (codes "\"\"") is true
    ∷ is_tag (codes "\"") is false
    ∷ is_tag (codes "\"a") is false
    ∷ is_tag (codes "\"a\"\"") is false
    ∷ is_tag (codes "\"a b\"") is false
    ∷ is_tag [] is false
    ∷ is_tag (codes "W-\"a\"") is false
    ∷ is_tag (codes "V/\"a\"") is false
    ∷ is_tag (codes "W/") is false
    ∷ is_tag (codes "W/a") is false
    ∷ is_tag (codes "a\"") is false
    ∷ is_tag (34 ∷ 128 ∷ 255 ∷ 34 ∷ []) is true
    ∷ bad_type [] is false
    ∷ bad_type (codes "a b") is false
    ∷ bad_type (codes " a") is true
    ∷ bad_type (codes "a ") is true
    ∷ bad_method (codes "GET") is false
    ∷ bad_method (codes "HEAD") is false
    ∷ bad_method (codes "get") is true
    ∷ bad_method (codes "POST") is true
    ∷ bad_method [] is true
    ∷ is_status_line (codes "HTTP/1.1 200") is true
    ∷ is_status_line (codes "HTTP/1.1 200 ") is true
    ∷ is_status_line (codes "HTTP/1.1 999 any text") is true
    ∷ is_status_line (codes "HTTP/1.1 20") is false
    ∷ is_status_line (codes "HTTP/1.1 2000") is false
    ∷ is_status_line (codes "HTTP/1.1 20a") is false
    ∷ is_status_line (codes "HTTP/1.1  200") is false
    ∷ is_status_line (codes "HTTP/1.0 200") is false
    ∷ is_status_line (codes "http/1.1 200") is false
    ∷ is_multipart_type (codes "multipart/byteranges") is true
    ∷ is_multipart_type (codes " Multipart/ByteRanges\t; x") is true
    ∷ is_multipart_type (codes "multipart/byterange") is false
    ∷ is_multipart_type (codes "multipart/mixed; multipart/byteranges") is false
    ∷ is_field (codes "a:") is true
    ∷ is_field (codes "a|~: x: y") is true
    ∷ is_field (codes "a") is false
    ∷ is_field (codes ":x") is false
    ∷ is_field (codes "a :x") is false
    ∷ is_field (codes " a:x") is false
    ∷ is_size (codes "0") is true
    ∷ is_size (codes "0012") is true
    ∷ is_size [] is false
    ∷ is_size (codes "+1") is false
    ∷ is_size (codes "1 2") is false
    ∷ is_size (codes "1,1") is false
    ∷ []

-- numerals: "of any count, and means its exact decimal value"
unfoldable pub numerals : List (Entry ℕ)
numerals =
    decimal (codes "0") is 0
    ∷ decimal (codes "9") is 9
    ∷ decimal (codes "0042") is 42
    ∷ decimal (codes "18446744073709551617") is 18446744073709551617
    ∷ status_number (codes "HTTP/1.1 206 Partial Content") is 206
    ∷ []

-- a numeral that stands in a text
abbrev pub standing : ℕ → ℕ → Numeral
standing start len = record { start = start; len = len }

-- "A spec is one of three kinds: first-last, first with an open end, or a suffix": what the code's three mean
unfoldable pub specs : List (Entry ByteSpec)
specs =
    meaning (codes "12-34") (FirstLast (standing 0 2) (standing 3 2)) is span 12 34
    ∷ meaning (codes "12-34") (From (standing 0 2)) is onward 12
    ∷ meaning (codes "12-34") (Suffix (standing 3 2)) is suffix 34
    ∷ []

-- the names that count, in any case
unfoldable pub names : List (Entry Name)
names =
    kind_of (codes "eTAG") is etag
    ∷ kind_of (codes "content-type") is type
    ∷ kind_of (codes "CONTENT-RANGE") is range
    ∷ kind_of (codes "Content-length") is size
    ∷ kind_of (codes "transfer-Encoding") is transfer
    ∷ kind_of (codes "ETags") is other
    ∷ kind_of (codes "Content_Type") is other
    ∷ kind_of (codes "Range") is other
    ∷ kind_of (codes "Length") is other
    ∷ kind_of (codes "Transfer-Encodings") is other
    ∷ []

-- "one `;`, OWS, then only `boundary=` (any case) and an unquoted boundary as in refusal 5"
unfoldable pub types : List (Entry TypeField)
types =
    type_field (codes "multipart/byteranges; boundary=B") is Multipart
    ∷ type_field (codes "MULTIPART/BYTERANGES;BOUNDARY=B") is Multipart
    ∷ type_field (codes "multipart/byteranges ;\t boundary=B") is Multipart
    ∷ type_field (codes "multipart/byteranges") is Broken
    ∷ type_field (codes "multipart/byteranges; boundary=") is Broken
    ∷ type_field (codes "multipart/byteranges; boundary=\"B\"") is Broken
    ∷ type_field (codes "multipart/byteranges; boundary=B; x") is Broken
    ∷ type_field (codes "multipart/byteranges; x; boundary=B") is Broken
    ∷ type_field (codes "multipart/byteranges; boundary =B") is Broken
    ∷ type_field (codes "multipart/mixed; boundary=B") is Other
    ∷ type_field [] is Other
    ∷ []

-- "`bytes`, one space, first-last, `/`, then length or `*`"
unfoldable pub ranges : List (Entry RangeField)
ranges =
    range_field (codes "bytes 2-5/8") is Of 2 5 8
    ∷ range_field (codes "bytes 002-05/*") is Span 2 5
    ∷ range_field (codes "bytes 5-2/1") is Of 5 2 1
    ∷ range_field (codes "Bytes 2-5/8") is Wrong
    ∷ range_field (codes "bytes=2-5/8") is Wrong
    ∷ range_field (codes "bytes  2-5/8") is Wrong
    ∷ range_field (codes "bytes 2-5") is Wrong
    ∷ range_field (codes "bytes 2-5/") is Wrong
    ∷ range_field (codes "bytes 2-/8") is Wrong
    ∷ range_field (codes "bytes -5/8") is Wrong
    ∷ range_field (codes "bytes 2-5/**") is Wrong
    ∷ range_field (codes "bytes 2-5/8 ") is Wrong
    ∷ range_field (codes "bytes */8") is Wrong
    ∷ []

pub record TextsAre : Type 0 where
  pub named : Agree named
  pub texts : Agree texts
  pub lines : Agree lines
  pub tests : Agree tests
  pub numerals : Agree numerals
  pub specs : Agree specs
  pub names : Agree names
  pub types : Agree types
  pub ranges : Agree ranges
