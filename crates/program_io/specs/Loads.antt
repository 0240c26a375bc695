-- What is known of a file that was read.
use Rattle.std.specs.Prelude.{ℕ, ◌≤◌, Result, Ok, Err}
use Rattle.program_io.specs.declared.files.ReadError.{ReadError}

-- the bytes that were read lie in a buffer of room bytes
abbrev pub Fits : Result ℕ ReadError → ℕ → Type 0
Fits (Ok n) room = n ≤ room
Fits (Err e) room = Unit
