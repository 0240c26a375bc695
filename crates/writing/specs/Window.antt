-- Writing a text into a buffer, one byte at a time: the first `skip` bytes are passed over, the others are stored from `at` on until the buffer is full.
use Rattle.std.specs.Prelude.{◌≡◌, ℕ, zero, suc, ◌+◌, cond, List, [], ◌∷◌, ltb, length, set}
use Rattle.writing.specs.declared.window.Writer.{Writer}

-- a buffer with the place in it
pub record Window : Type 0 where
  pub bytes : List ℕ
  pub skip : ℕ
  pub at : ℕ

-- a byte at the place, if the buffer has room there
abbrev pub store : ℕ → List ℕ → ℕ → Window
store b out at = cond (ltb at (length out)) (record { bytes = set out at b; skip = 0; at = at + 1 }) (record { bytes = out; skip = 0; at = at })

-- one byte: passed over or stored
abbrev pub put_byte : ℕ → List ℕ → ℕ → ℕ → Window
put_byte b out zero at = store b out at
put_byte b out (suc k) at = record { bytes = out; skip = k; at = at }

-- a text
unfoldable pub write : List ℕ → Window → Window
write [] w = w
write (b ∷ l) w = write l (put_byte b w.bytes w.skip w.at)

-- the buffer of a writer with its place
abbrev pub window_of : Writer → Window
window_of w = record { bytes = w.out.now; skip = w.skip; at = w.at }

-- how a writer a that wrote a text becomes b: it holds the same buffer, with the text written into it
pub record Wrote (text : List ℕ) (a b : Writer) : Type 0 where
  pub name : b.out.ghost_name ≡ a.out.ghost_name
  pub bytes : window_of b ≡ write text (window_of a)
