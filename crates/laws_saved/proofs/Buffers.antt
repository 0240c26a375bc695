-- A copy that is saved into a buffer. Assumes nothing.
use Prim.Native.Nat.{ℕ, ◌≤◌}
use mathlib.Core.Path.{◌≡◌, refl, ap, ◌∙◌}
use mathlib.Core.Bool.{true}
use mathlib.Core.List.{List, ◌++◌}
use Rattle.std.specs.Prelude.{None}
use lib.ListN.{length, take, drop}
use lib.Seq.{take-append_seam}
use borrow.Author.Tests.{le-ltb}
use Rattle.rules_tablet.specs.Calls.{State, copy_ok}
use Rattle.rules_tablet.specs.SavedCopies.{saved_bytes, save_refusal, save_call}

-- a copy that keeps its rule is saved into a buffer that is long enough
pub saved_written : (c : State) (room : ℕ) → copy_ok c ≡ true → length (saved_bytes c) ≤ room → save_refusal c room ≡ None
unfolding save_refusal
saved_written c room rule l = rw (rule, le-ltb room (length (saved_bytes c)) l)

-- what the buffer then holds
pub saved_holds : (c : State) (out : List ℕ) → save_refusal c (length out) ≡ None → save_call c out ≡ saved_bytes c ++ drop (length (saved_bytes c)) out
unfolding save_call
saved_holds c out e = rw e refl

-- the bytes that were written stand at its front
pub saved_front : (c : State) (out : List ℕ) → save_refusal c (length out) ≡ None → take (length (saved_bytes c)) (save_call c out) ≡ saved_bytes c
saved_front c out e =
    let text = saved_bytes c in
    ap (take (length text)) (saved_holds c out e) ∙ take-append_seam text (drop (length text) out)
