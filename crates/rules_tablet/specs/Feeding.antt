-- Feeding a piece of an answer: the parser gives each byte's event, the copy takes the data (document 01, "Data is copied into the copy ..", rows 16 and 17).
use Rattle.std.specs.Prelude.{ℕ, suc, Bool, true, false, not, cond, List, [], ◌∷◌, ltb, eqb, length, get_or, set}
use Rattle.std.specs.Prelude.{Option, None, Some}
use Rattle.rules_server.specs.declared.Run.{Run}
use Rattle.rules_tablet.specs.Runs.{member, insert}
use Rattle.rules_tablet.specs.Parsers.{Parser, at, refuse, parse, event, report_of, is_more, is_refused}
use Rattle.rules_tablet.specs.declared.Stage.{Stage}

-- what is held, and the buffer
pub record Held : Type 0 where
  pub runs : List Run
  pub bytes : List ℕ

-- a byte for a position: taken, or refused by a number
pub data Stored : Type 0 where
  kept : Held → Stored
  refused_by : ℕ → Stored

-- "A byte for a held position must equal it" (17); "storing the byte would make more than 32 runs" (16), 128 since 2026-04; lim is the most runs
unfoldable pub store : ℕ → Held → ℕ → ℕ → Stored
store lim h p b =
    cond (member p h.runs)
    (cond (eqb (get_or h.bytes p 0) b) (kept h) (refused_by 17))
    (cond (ltb lim (length (insert p h.runs))) (refused_by 16) (kept (record { runs = insert p h.runs; bytes = set h.bytes p b })))

-- what the copy makes of a byte with its event
abbrev pub take_in : ℕ → Held → Option ℕ → ℕ → Stored
take_in lim h None b = kept h
take_in lim h (Some p) b = store lim h p b

-- the copy, its buffer and the reader
pub record Tablet : Type 0 where
  pub held : Held
  pub parser : Parser

-- the state after a piece, and how many bytes of it were taken
pub record Fed : Type 0 where
  pub tablet : Tablet
  pub taken : ℕ

-- "a finished or refused reader takes none"
abbrev pub is_over : Stage → Bool
is_over s = not (is_more (report_of s))

-- one byte: what it leaves, and whether it was taken; "The byte that causes a refusal is not taken": it changes nothing but where the parser stands
pub record Byte : Type 0 where
  pub tablet : Tablet
  pub is_taken : Bool

abbrev pub settled : Tablet → Stored → Parser → Byte
settled t (refused_by k) next = record { tablet = record { held = t.held; parser = refuse k t.parser }; is_taken = false }
settled t (kept h) next =
    cond (is_refused next.stage)
    (record { tablet = record { held = t.held; parser = at next.stage t.parser }; is_taken = false })
    (record { tablet = record { held = h; parser = next }; is_taken = true })

unfoldable pub feed_byte : ℕ → List ℕ → ℕ → Tablet → ℕ → Byte
feed_byte lim tag n t b =
    cond (is_over t.parser.stage) (record { tablet = t; is_taken = false })
    (settled t (take_in lim t.held (event t.parser.stage) b) (parse tag n t.parser.stage b t.parser))

-- "The reader acts byte by byte; a piece is only a bundle of bytes": as far as bytes are taken
abbrev pub feed_on : Byte → Fed → Fed
feed_on one rest = cond one.is_taken (record { tablet = rest.tablet; taken = suc rest.taken }) (record { tablet = one.tablet; taken = 0 })

abbrev pub feed : ℕ → List ℕ → ℕ → List ℕ → Tablet → Fed
unfolding feed_byte
feed lim tag n [] t = record { tablet = t; taken = 0 }
feed lim tag n (b ∷ l) t = feed_on (feed_byte lim tag n t b) (feed lim tag n l (feed_byte lim tag n t b).tablet)
