-- The bytes of an answer (document 01), defined once: a status line, field lines and a body whose bytes each carry their position in the file, if they have
-- one.
use Rattle.std.specs.Prelude.{ℕ, suc, ◌-◌, cond, List, [], ◌∷◌, ◌++◌, map, length, take, drop}
use Rattle.std.specs.Prelude.{Option, None, Some}
use Rattle.rules_server.specs.Octets.{codes, is_nil}
use Rattle.rules_server.specs.Texts.{crlf, dashes, colon_space, bytes_range, status200, status206, status416, etag_name, modified_name, type_name, range_name}
use Rattle.rules_server.specs.Texts.{length_name, multipart_type, boundary_parameter}
use Rattle.rules_server.specs.Numerals.{print}
use Rattle.rules_server.specs.Dates.{time_text}
use Rattle.rules_server.specs.Parts.{parts_of}
use Rattle.rules_server.specs.Reasons.{Carried, no_body, whole_file, length_only, asked_parts, reason_row}
use Rattle.rules_server.specs.Status.{Request, LastModified, Resource, decide, specs}
use Rattle.rules_server.specs.declared.Run.{Run}
use Rattle.rules_server.specs.declared.Reason.{Reason}

-- a byte of a body: one of the framing's own, or the file's at a position
pub data Cell : Type 0 where
  own : ℕ → Cell
  from : ℕ → ℕ → Cell

abbrev pub byte_of : Cell → ℕ
byte_of (own b) = b
byte_of (from p b) = b

pub record Answer : Type 0 where
  pub status : List ℕ
  pub fields : List (List ℕ)
  pub body : List Cell

-- field lines, each ending in CR LF, and what follows them
abbrev pub lines_then : List (List ℕ) → List ℕ → List ℕ
lines_then [] rest = rest
lines_then (f ∷ fs) rest = f ++ (crlf ++ lines_then fs rest)

-- everything up to the body
unfoldable pub head_then : Answer → List ℕ → List ℕ
head_then a rest = a.status ++ (crlf ++ lines_then a.fields (crlf ++ rest))

unfoldable pub bytes_of : Answer → List ℕ
unfolding head_then
bytes_of a = head_then a (map byte_of a.body)

-- a field line without its end
abbrev pub field : List ℕ → List ℕ → List ℕ
field name value = name ++ (colon_space ++ value)

-- bytes of the framing's own, and what follows
abbrev pub own_then : List ℕ → List Cell → List Cell
own_then [] rest = rest
own_then (b ∷ l) rest = own b ∷ own_then l rest

-- bytes of the file from position p on, and what follows
abbrev pub from_then : ℕ → List ℕ → List Cell → List Cell
from_then p [] rest = rest
from_then p (b ∷ l) rest = from p b ∷ from_then (suc p) l rest

-- the file's bytes in a run
abbrev pub data_of : List ℕ → Run → List ℕ
data_of file r = take (suc r.last - r.first) (drop r.first file)

-- ETag "if there is a tag"
abbrev pub etag_lines : List ℕ → List (List ℕ)
etag_lines tag = cond (is_nil tag) [] (field etag_name tag ∷ [])

-- the value of Last-Modified, empty where it is not given
abbrev pub modified_text : Option LastModified → List ℕ
modified_text None = []
modified_text (Some m) = time_text m.time

-- "200 and 206 answers carry Last-Modified after ETag when given"; a time that refusal 9 lets through has a text
abbrev pub modified_lines : List ℕ → List (List ℕ)
modified_lines text = cond (is_nil text) [] (field modified_name text ∷ [])

-- the lines that tell which file it is
abbrev pub validator_lines : List ℕ → List ℕ → List (List ℕ)
validator_lines tag modified = etag_lines tag ++ modified_lines modified

-- Content-Type "if a type is given"
abbrev pub type_lines : List ℕ → List (List ℕ)
type_lines media = cond (is_nil media) [] (field type_name media ∷ [])

-- "`multipart/byteranges; boundary=B`"
unfoldable pub multipart_line : List ℕ → List ℕ
multipart_line boundary = field type_name (multipart_type ++ (boundary_parameter ++ boundary))

-- "`bytes 500-999/8000`"
unfoldable pub range_line : Run → ℕ → List ℕ
range_line r n = field range_name (bytes_range ++ (print r.first ++ (codes "-" ++ (print r.last ++ (codes "/" ++ print n)))))

-- "`bytes */1234`"
unfoldable pub unsatisfied_line : ℕ → List ℕ
unsatisfied_line n = field range_name (bytes_range ++ (codes "*/" ++ print n))

unfoldable pub length_line : ℕ → List ℕ
length_line n = field length_name (print n)

-- the delimiter that begins each line of a multipart's framing
abbrev pub dash_boundary : List ℕ → List ℕ
dash_boundary boundary = dashes ++ boundary

-- what stands before a part's data: "`--boundary`", its lines and an empty line
unfoldable pub part_head : List ℕ → List ℕ → ℕ → Run → List ℕ
part_head boundary media n r = dash_boundary boundary ++ (crlf ++ lines_then (type_lines media) (range_line r n ++ (crlf ++ crlf)))

-- "`--boundary--`"; "The last line ends in CR LF and is counted"
unfoldable pub closing : List ℕ → List ℕ
closing boundary = dash_boundary boundary ++ (dashes ++ crlf)

-- the parts, each behind its lines and before CR LF, and the closing line
abbrev pub multipart_body : Resource → List Run → List Cell
multipart_body f [] = own_then (closing f.boundary) []
multipart_body f (r ∷ rs) = own_then (part_head f.boundary f.media (length f.file) r)
    (from_then r.first (data_of f.file r) (own_then crlf (multipart_body f rs)))

-- 200, with the body that is given
unfoldable pub ok_answer : Resource → List Cell → Answer
ok_answer f body = record {
  status = status200;
  fields = validator_lines f.tag (modified_text f.modified) ++ (type_lines f.media ++ (length_line (length f.file) ∷ []));
  body = body;
}

-- 416: ETag "not on 416", nor Last-Modified, Content-Type "never on 416"; "416 has Content-Length 0"
unfoldable pub unsatisfied_answer : ℕ → Answer
unsatisfied_answer n = record {
  status = status416;
  fields = unsatisfied_line n ∷ length_line 0 ∷ [];
  body = [];
}

-- 206 of one part
unfoldable pub plain_answer : Resource → Run → Answer
plain_answer f r = record {
  status = status206;
  fields = validator_lines f.tag (modified_text f.modified)
      ++ (type_lines f.media ++ (range_line r (length f.file) ∷ length_line (length (data_of f.file r)) ∷ []));
  body = from_then r.first (data_of f.file r) [];
}

-- 206 of several
unfoldable pub multipart_answer : Resource → List Run → Answer
multipart_answer f rs = record {
  status = status206;
  fields = validator_lines f.tag (modified_text f.modified) ++ (multipart_line f.boundary ∷ length_line (length (multipart_body f rs)) ∷ []);
  body = multipart_body f rs;
}

-- "One part gives a plain 206, several give multipart"
abbrev pub partial_answer : Resource → List Run → Answer
partial_answer f [] = multipart_answer f []
partial_answer f (r ∷ []) = plain_answer f r
partial_answer f (r ∷ s ∷ rs) = multipart_answer f (r ∷ s ∷ rs)

-- the answer that carries this, with the parts of a 206
abbrev pub answer_carrying : Carried → Resource → List Run → Answer
answer_carrying no_body f rs = ok_answer f []
answer_carrying whole_file f rs = ok_answer f (from_then 0 f.file [])
answer_carrying length_only f rs = unsatisfied_answer (length f.file)
answer_carrying asked_parts f rs = partial_answer f rs

-- the answer for a reason
abbrev pub answer_for : Reason → Resource → List Run → Answer
answer_for x f rs = answer_carrying (reason_row x).carries f rs

-- the parts of a request's answer, if it is a 206
unfoldable pub parts_for : Request → Resource → List Run
parts_for q f = parts_of (length f.file) (specs q)

-- the one answer
unfoldable pub answer : Request → Resource → Answer
unfolding parts_for
answer q f = answer_for (decide q f) f (parts_for q f)
