-- Lines of a head or a part, byte by byte: "every line has up to 512 bytes before CR LF, each tab, 0x20 to 0x7E or 0x80 up".
use Rattle.std.specs.Prelude.{ℕ, Bool, true, false, cond, ◌||◌, List, [], ◌∷◌, ◌++◌, leb, ltb, eqb, length}
use Rattle.rules_server.specs.Octets.{within, is_digit, is_letter, asterisk, carriage_return, dash, line_feed, tab}
use Rattle.rules_tablet.specs.Limits.{max_line}

-- of a line: "each tab, 0x20 to 0x7E or 0x80 up"
abbrev pub is_line_byte : ℕ → Bool
is_line_byte b = eqb b tab || within 0x20 0x7E b || leb 0x80 b

-- the marks of a token: ! # $ % & ' * + - . ^ _ ` | ~
abbrev pub is_mark : ℕ → Bool
is_mark b =
    eqb b 33 || within 35 39 b || eqb b asterisk || eqb b 43 || eqb b dash || eqb b 46
    || within 94 96 b || eqb b 124 || eqb b 126

-- of a token (RFC 7230, section 3.2.6): digits, letters and marks
abbrev pub is_token_byte : ℕ → Bool
is_token_byte b = is_digit b || is_letter b || is_mark b

-- what a byte makes of the line so far and whether its CR was seen
pub data LineStep : Type 0 where
  -- the line goes on
  going : List ℕ → Bool → LineStep
  -- the line is whole
  whole : List ℕ → LineStep
  -- "a forbidden byte, a 513th byte or a byte after CR that is not LF"
  broken : LineStep

abbrev pub line_step : List ℕ → Bool → ℕ → LineStep
line_step l true b = cond (eqb b line_feed) (whole l) broken
line_step l false b =
    cond (eqb b carriage_return) (going l true)
    (cond (is_line_byte b) (cond (ltb (length l) max_line) (going (l ++ (b ∷ [])) false) broken) broken)
