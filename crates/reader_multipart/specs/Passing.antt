-- The bytes between the parts of a multipart: where each leads, and where a piece of them does (document 01, "Multipart: .."; row 15, "multipart structure
-- broken, or Content-Length ends before the closing mark").
use Rattle.std.specs.Prelude.{ℕ, zero, suc, ◌+◌, ◌-◌, ◌≤◌, Bool, true, false, cond, List, [], ◌∷◌, ◌++◌, ◌≡◌, ltb, eqb, length, get_or, drop, Result, Ok, Err}
use Rattle.rules_server.specs.Octets.{carriage_return, dash, line_feed}
use Rattle.rules_server.specs.Texts.{crlf}
use Rattle.rules_server.specs.Answers.{dash_boundary}
use Rattle.rules_tablet.specs.Limits.{max_preamble}
use Rattle.rules_tablet.specs.Parsers.{is_refused}
use Rattle.rules_tablet.specs.declared.Stage.{Stage}
use Rattle.rules_tablet.specs.declared.Stage.TheVariants.{Status, Fields, Plain, Skip, Preamble, PreambleEnd, FirstDelimiter, Delimiter, AfterFirstDelimiter}
use Rattle.rules_tablet.specs.declared.Stage.TheVariants.{AfterDelimiter, PartBegin, Closing, PartLine, Data, Epilogue, Finished, Refused}
use Rattle.reader_state.specs.Looks.{look_of, is_between_parts}
use Rattle.reader_multipart.specs.declared.delimiters.Passed.{Passed}

-- the reader stands between parts: neither in a part's lines nor in its data
abbrev pub is_between : Stage → Bool
is_between s = is_between_parts (look_of s)

-- behind `--boundary--`: "anything up to Content-Length"
abbrev pub is_epilogue : Stage → Bool
is_epilogue Status = false
is_epilogue Fields = false
is_epilogue (Plain next) = false
is_epilogue Skip = false
is_epilogue (Preamble k) = false
is_epilogue (PreambleEnd k) = false
is_epilogue (FirstDelimiter i) = false
is_epilogue (Delimiter i) = false
is_epilogue AfterFirstDelimiter = false
is_epilogue AfterDelimiter = false
is_epilogue PartBegin = false
is_epilogue Closing = false
is_epilogue PartLine = false
is_epilogue (Data next left) = false
is_epilogue Epilogue = true
is_epilogue Finished = false
is_epilogue (Refused k) = false

-- the one byte that may come
abbrev pub only_next : ℕ → ℕ → Stage → Stage
only_next b wanted next = cond (eqb b wanted) next (Refused 15)

-- behind k empty lines: the CR of another ("0 to 4 empty lines"), or the first `-`
abbrev pub preamble_next : ℕ → ℕ → Stage
preamble_next k b = cond (eqb b carriage_return) (cond (ltb k max_preamble) (PreambleEnd k) (Refused 15)) (cond (eqb b dash) (FirstDelimiter 3) (Refused 15))

-- byte i of CR LF `--` boundary, before the first part or behind one; 15 where there is none
abbrev pub delimiter_next : Bool → ℕ → List ℕ → ℕ → Stage
delimiter_next first i d b =
    cond (ltb i (length (crlf ++ dash_boundary d)))
    (cond (eqb b (get_or (crlf ++ dash_boundary d) i 0))
    (cond (eqb (suc i) (length (crlf ++ dash_boundary d))) (cond first AfterFirstDelimiter AfterDelimiter)
    (cond first (FirstDelimiter (suc i)) (Delimiter (suc i))))
    (Refused 15))
    (Refused 15)

-- behind a delimiter: CR, or the `-` of `--boundary--`, but not before the first part ("At least one part")
abbrev pub after_delimiter_next : Bool → ℕ → Stage
after_delimiter_next first b = cond (eqb b carriage_return) PartBegin (cond first (Refused 15) (cond (eqb b dash) Closing (Refused 15)))

-- where a byte leads
abbrev pub next_stage : Stage → List ℕ → ℕ → Stage
next_stage Status d b = Refused 15
next_stage Fields d b = Refused 15
next_stage (Plain next) d b = Refused 15
next_stage Skip d b = Refused 15
next_stage (Preamble k) d b = preamble_next k b
next_stage (PreambleEnd k) d b = cond (ltb k max_preamble) (only_next b line_feed (Preamble (suc k))) (Refused 15)
next_stage (FirstDelimiter i) d b = delimiter_next true i d b
next_stage (Delimiter i) d b = delimiter_next false i d b
next_stage AfterFirstDelimiter d b = after_delimiter_next true b
next_stage AfterDelimiter d b = after_delimiter_next false b
next_stage PartBegin d b = only_next b line_feed PartLine
next_stage Closing d b = only_next b dash Epilogue
next_stage PartLine d b = Refused 15
next_stage (Data next left) d b = Refused 15
next_stage Epilogue d b = Refused 15
next_stage Finished d b = Refused 15
next_stage (Refused k) d b = Refused 15

-- a byte that leads to s, with so many of the body after it: the last one finishes the answer or is refused by 15; a refused byte is not taken
abbrev pub counted : ℕ → Stage → Passed
counted zero s = cond (is_epilogue s) (record { stage = Finished; after = 0; taken = 1 }) (record { stage = Refused 15; after = 0; taken = 0 })
counted (suc k) s = cond (is_refused s) (record { stage = s; after = suc k; taken = 0 }) (record { stage = s; after = k; taken = 1 })

-- where so many bytes of the body come after a byte: taken, it leads to a stage; not taken, the reader stands at one
abbrev pub byte_passed : ℕ → Result Stage Stage → Passed
byte_passed after (Ok s) = record { stage = s; after = after - 1; taken = 1 }
byte_passed after (Err s) = record { stage = s; after = after; taken = 0 }

-- one byte; elsewhere none is taken
abbrev pub pass_byte : Stage → ℕ → List ℕ → ℕ → Passed
pass_byte s after d b = cond (is_between s) (counted after (next_stage s d b)) (record { stage = s; after = after; taken = 0 })

-- behind the byte y after those of x: where it is not taken, x, or y where it is the first
abbrev pub onward : Passed → Passed → Passed → Passed
onward x y z = cond (eqb y.taken 0) (cond (eqb x.taken 0) y x) z

-- the bytes at the front of a piece, behind those of x
abbrev pub pass_on : Passed → List ℕ → List ℕ → Passed
pass_on x d [] = x
pass_on x d (b ∷ l) =
    onward x (pass_byte x.stage x.after d b)
    (pass_on (record { stage = (pass_byte x.stage x.after d b).stage; after = (pass_byte x.stage x.after d b).after; taken = suc x.taken }) d l)

-- CR LF `--` boundary CR LF behind a part's data lies whole at the front of a piece, with no more bytes than are counted after its first
pub record Delimited (s : Stage) (after : ℕ) (d piece : List ℕ) : Type 0 where
  pub begins : s ≡ Delimiter 0
  pub counted : length d + 6 ≤ after
  pub is : piece ≡ (crlf ++ dash_boundary d) ++ (carriage_return ∷ line_feed ∷ drop (length d + 6) piece)
