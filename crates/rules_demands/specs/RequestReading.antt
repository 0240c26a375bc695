-- Read-back: the server's reading of the Range that a request writes is exactly the ranges asked for, and its If-Range matches every file under its tag.
use Rattle.std.specs.Prelude.{ℕ, suc, ◌≡◌, true, List, ◌∷◌, map, length, drop}
use Rattle.std.specs.Prelude.{Some}
use Rattle.rules_server.specs.Octets.{codes, before, trim, carriage_return}
use Rattle.rules_server.specs.Texts.{get}
use Rattle.rules_server.specs.Tags.{is_strong}
use Rattle.rules_server.specs.Ranges.{ByteSpec, span, listed, read_range}
use Rattle.rules_server.specs.Status.{Request, Resource, matches}
use Rattle.rules_server.specs.declared.Run.{Run}
use Rattle.rules_tablet.specs.Requests.{request_text}

-- the value of the first line, behind `Range: `; and of the second, behind `If-Range: `: what stands before the line's CR
abbrev pub range_in : List ℕ → List ℕ
range_in text = before carriage_return (drop (length (codes "Range: ")) text)

abbrev pub second_line : List ℕ → List ℕ
second_line text = drop (suc (suc (length (before carriage_return text)))) text

abbrev pub if_range_in : List ℕ → List ℕ
if_range_in text = before carriage_return (drop (length (codes "If-Range: ")) (second_line text))

-- a GET with just the two fields of a written request
abbrev pub request_in : List ℕ → Request
request_in text = record { method = get; range = Some (range_in text); if_range = Some (if_range_in text) }

abbrev pub span_spec : Run → ByteSpec
span_spec r = span r.first r.last

-- for any list of ranges but an empty one, and a strong tag
pub record ReadBack (r : Run) (rs : List Run) (tag : List ℕ) : Type 0 where
  pub ranges : read_range (trim (range_in (request_text (r ∷ rs) tag))) ≡ listed (map span_spec (r ∷ rs))
  pub if_range_matches : (f : Resource) → f.tag ≡ tag → matches (trim (if_range_in (request_text (r ∷ rs) tag))) f ≡ true

abbrev pub ReadBackHolds : Type 0
ReadBackHolds = (r : Run) (rs : List Run) (tag : List ℕ) → is_strong tag ≡ true → ReadBack r rs tag
