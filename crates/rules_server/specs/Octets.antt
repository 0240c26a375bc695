-- Bytes and byte strings: the classes of bytes that document 01 names, each as one predicate, and what it does with strings of them.
use Rattle.std.specs.Prelude.{ℕ, ◌+◌, Bool, true, false, cond, ◌&&◌, ◌||◌, List, [], ◌∷◌, map, leb, eqb}
use Prim.Native.String.{String, [] as none, ◌∷◌ as ◌then◌}
use Prim.Native.Char.{code}

-- the bytes of a text
abbrev pub codes : String → List ℕ
codes none = []
codes (c then s) = code c ∷ codes s

-- bytes by their names
abbrev pub tab : ℕ
tab = 9

abbrev pub line_feed : ℕ
line_feed = 10

abbrev pub carriage_return : ℕ
carriage_return = 13

abbrev pub space : ℕ
space = 32

abbrev pub quote : ℕ
quote = 34

abbrev pub asterisk : ℕ
asterisk = 42

abbrev pub comma : ℕ
comma = 44

abbrev pub dash : ℕ
dash = 45

abbrev pub slash : ℕ
slash = 47

abbrev pub digit_zero : ℕ
digit_zero = 48

abbrev pub colon : ℕ
colon = 58

abbrev pub semicolon : ℕ
semicolon = 59

abbrev pub underscore : ℕ
underscore = 95

-- lo to hi, both counted
abbrev pub within : ℕ → ℕ → ℕ → Bool
within lo hi b = leb lo b && leb b hi

-- "OWS is spaces and tabs"
abbrev pub is_blank : ℕ → Bool
is_blank b = eqb b space || eqb b tab

abbrev pub is_digit : ℕ → Bool
is_digit b = within 48 57 b

abbrev pub is_letter : ℕ → Bool
is_letter b = within 65 90 b || within 97 122 b

-- of a tag: "bytes 0x21, 0x23 to 0x7E or 0x80 to 0xFF"
abbrev pub is_tag_byte : ℕ → Bool
is_tag_byte b = eqb b 0x21 || within 0x23 0x7E b || within 0x80 0xFF b

-- of a media type: "0x20 to 0x7E"
abbrev pub is_type_byte : ℕ → Bool
is_type_byte b = within 0x20 0x7E b

-- of a boundary: "letters, digits, `-` or `_`"
abbrev pub is_boundary_byte : ℕ → Bool
is_boundary_byte b = is_letter b || is_digit b || eqb b dash || eqb b underscore

-- a capital letter as the small one, any other byte as it is
abbrev pub lower : ℕ → ℕ
lower b = cond (within 65 90 b) (b + 32) b

abbrev pub is_nil : List ℕ → Bool
is_nil [] = true
is_nil (x ∷ l) = false

abbrev pub all : (ℕ → Bool) → List ℕ → Bool
all p [] = true
all p (x ∷ l) = p x && all p l

-- the same bytes
abbrev pub same : List ℕ → List ℕ → Bool
same [] [] = true
same [] (y ∷ b) = false
same (x ∷ a) [] = false
same (x ∷ a) (y ∷ b) = eqb x y && same a b

-- the same bytes but for the case of letters
abbrev pub same_fold : List ℕ → List ℕ → Bool
same_fold a b = same (map lower a) (map lower b)

-- l begins with p
abbrev pub starts_with : List ℕ → List ℕ → Bool
starts_with [] l = true
starts_with (x ∷ p) [] = false
starts_with (x ∷ p) (y ∷ l) = eqb x y && starts_with p l

-- m stands somewhere in l
abbrev pub occurs : List ℕ → List ℕ → Bool
occurs m [] = starts_with m []
occurs m (x ∷ l) = starts_with m (x ∷ l) || occurs m l

-- "Spaces and tabs at both ends of the value are trimmed": without the blanks it begins with
abbrev pub trim_start : List ℕ → List ℕ
trim_start [] = []
trim_start (x ∷ l) = cond (is_blank x) (trim_start l) (x ∷ l)

-- x before what is left of the rest, gone if it is a blank and nothing is left
abbrev pub before_end : ℕ → List ℕ → List ℕ
before_end x [] = cond (is_blank x) [] (x ∷ [])
before_end x (y ∷ l) = x ∷ y ∷ l

-- without the blanks it ends with
abbrev pub trim_end : List ℕ → List ℕ
trim_end [] = []
trim_end (x ∷ l) = before_end x (trim_end l)

abbrev pub trim : List ℕ → List ℕ
trim l = trim_end (trim_start l)

-- what stands before the first c
abbrev pub before : ℕ → List ℕ → List ℕ
before c [] = []
before c (x ∷ l) = cond (eqb x c) [] (x ∷ before c l)
