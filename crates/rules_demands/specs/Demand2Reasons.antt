-- The table of reasons a second time, in literals: each reason with its status, its number for C, its status line, and the body that it gives
-- a file of the bytes `abc` of which the first is asked for.
use Rattle.std.specs.Prelude.{ℕ, suc, ◌≡◌, cond, List, [], ◌∷◌, map, eqb, pos}
use Prim.Native.String.{String}
use Rattle.std.specs.Prelude.{None}
use Rattle.rules_server.specs.Octets.{codes}
use Rattle.rules_server.specs.Reasons.{reason_row}
use Rattle.rules_server.specs.Status.{Resource, status_of}
use Rattle.rules_server.specs.Answers.{byte_of, answer_for}
use Rattle.rules_server.specs.declared.Run.{Run}
use Rattle.rules_server.specs.declared.Reason.{Reason}
use Rattle.rules_server.specs.declared.Reason.TheVariants.{Head, None as NoRange, Long, Unit as OtherUnit, Malformed, Many, ChangedFile, Invalid}
use Rattle.rules_server.specs.declared.Reason.TheVariants.{Unsatisfiable, Empty}
use Rattle.rules_server.specs.declared.Reason.TheVariants.{Partial}

pub record ReasonLine : Type 0 where
  pub reason : Reason
  pub status : ℕ
  pub number : ℕ
  pub text : List ℕ
  pub body : List ℕ

abbrev pub line : Reason → ℕ → ℕ → String → String → ReasonLine
line x status number text body = record { reason = x; status = status; number = number; text = codes text; body = codes body }

abbrev pub abc : Resource
abc = record { file = codes "abc"; tag = []; media = []; boundary = codes "B"; modified = None; reference = pos 0 }

-- its first byte
abbrev pub first_byte : List Run
first_byte = record { first = 0; last = 0 } ∷ []

-- what the definitions give
unfoldable pub line_of : Reason → ReasonLine
line_of x = record {
  reason = x;
  status = status_of x;
  number = (reason_row x).number;
  text = (answer_for x abc first_byte).status;
  body = map byte_of (answer_for x abc first_byte).body;
}

unfoldable pub reason_lines : List ReasonLine
reason_lines =
    line Head 200 1 "HTTP/1.1 200 OK" ""
    ∷ line NoRange 200 2 "HTTP/1.1 200 OK" "abc"
    ∷ line Long 200 3 "HTTP/1.1 200 OK" "abc"
    ∷ line OtherUnit 200 4 "HTTP/1.1 200 OK" "abc"
    ∷ line Malformed 200 5 "HTTP/1.1 200 OK" "abc"
    ∷ line Many 200 6 "HTTP/1.1 200 OK" "abc"
    ∷ line ChangedFile 200 7 "HTTP/1.1 200 OK" "abc"
    ∷ line Invalid 416 8 "HTTP/1.1 416 Range Not Satisfiable" ""
    ∷ line Unsatisfiable 416 9 "HTTP/1.1 416 Range Not Satisfiable" ""
    ∷ line Empty 200 10 "HTTP/1.1 200 OK" "abc"
    ∷ line Partial 206 11 "HTTP/1.1 206 Partial Content" "a"
    ∷ []

-- how many lines have this number
abbrev pub lines_of : ℕ → List ReasonLine → ℕ
lines_of k [] = 0
lines_of k (l ∷ ls) = cond (eqb l.number k) (suc (lines_of k ls)) (lines_of k ls)

-- every line is what the definitions give, and each reason's number stands in one line
pub record ReasonsHold : Type 0 where
  pub given : map (λ (l : ReasonLine). line_of l.reason) reason_lines ≡ reason_lines
  pub once : (x : Reason) → lines_of (reason_row x).number reason_lines ≡ 1
