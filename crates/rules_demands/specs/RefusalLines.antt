-- A line so far, of a head or of a part, and the bytes that may not follow it.
use Rattle.std.specs.Prelude.{ℕ, ◌≡◌, Bool, true, false, List, [], ◌∷◌, ◌++◌, length}
use Rattle.rules_server.specs.Octets.{carriage_return, line_feed}
use Rattle.rules_tablet.specs.Limits.{max_line}
use Rattle.rules_tablet.specs.Lines.{is_line_byte}

-- the bytes of a line so far, and its CR if that was seen
abbrev pub so_far : List ℕ → Bool → List ℕ
so_far l false = l
so_far l true = l ++ (carriage_return ∷ [])

-- the byte b behind the line l so far, whose CR was seen or not: "a forbidden byte, a 513th byte or a byte after CR that is not LF"
pub data ByteFault (l : List ℕ) (b : ℕ) : Bool → Type 0 where
  -- not "tab, 0x20 to 0x7E or 0x80 up", nor the CR that ends the line
  forbidden : {cr : Bool} → cr ≡ false → (b ≡ carriage_return → ⊥) → is_line_byte b ≡ false → ByteFault l b cr
  -- a 513th byte, where the line has its 512
  too_long : {cr : Bool} → cr ≡ false → is_line_byte b ≡ true → length l ≡ max_line → ByteFault l b cr
  -- behind the CR only LF
  after_cr : {cr : Bool} → cr ≡ true → (b ≡ line_feed → ⊥) → ByteFault l b cr

-- faults in their order, the first that applies gives its number: this one, or else one of those behind it
pub data First (number : ℕ) (fault later : Type 0) (k : ℕ) : Type 0 where
  this : fault → k ≡ number → First number fault later k
  not_this : (fault → ⊥) → later → First number fault later k
