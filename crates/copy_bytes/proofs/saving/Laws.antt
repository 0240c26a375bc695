-- What is said of saving a copy's record, and what its buffer then holds. Assumes nothing.
use Prim.Native.Nat.{ℕ, ◌+◌, ◌*◌, ◌≤◌, ◌<◌}
use mathlib.Core.Path.{◌≡◌, refl, ap, ◌∙◌}
use mathlib.Core.Bool.{true, false}
use mathlib.Core.List.{List, ◌++◌}
use native.Mathlib.Omega.{arith}
use lib.ListN.{length, length-append}
use lib.Seq.{length-take-le}
use borrow.Author.Tests.{lt-ltb, le-ltb}
use Rattle.rules_server.specs.Limits.{max_tag}
use Rattle.rules_server.specs.Numbers.{in_bytes}
use Rattle.laws_numerals.proofs.Bytes.{in_bytes_long}
use Rattle.writing.specs.Window.{Window, write}
use Rattle.writing.proofs.window.Laws.{whole}
use Rattle.rules_tablet.specs.Limits.{max_runs}
use Rattle.rules_tablet.specs.Copies.{copy_rule}
use Rattle.rules_tablet.specs.Calls.{State}
use Rattle.rules_tablet.specs.SavedCopies.{mark, version, runs_bytes, saved_under, saved_bytes, save_refusal, save_call}
use Rattle.rules_tablet.specs.declared.Copy.{Copy}
use Rattle.copy.specs.States.{state_of}
use Rattle.copy.proofs.Laws.{rule_kept, rule_ok}
use Rattle.copy_bytes.specs.SavedFiles.{save_outcome, save_bytes}
use Rattle.std.proofs.Common.{Ok, Err}
use Rattle.copy_bytes.proofs.Lists.{runs_long}

-- how long such texts are
lengths : (a b c d e f g : List ℕ) → length (a ++ (b ++ (c ++ (d ++ (e ++ (f ++ g))))))
    ≡ length a + (length b + (length c + (length d + (length e + (length f + length g)))))
lengths a b c d e f g = simp length-append

-- how long a saved file is
pub saved_long : (s : State) → length (saved_bytes s) ≡ 16 + length s.tag + 16 * length s.runs
unfolding saved_under
saved_long s =
    let all = lengths mark (in_bytes 2 version) (in_bytes 1 (length s.tag)) s.tag (in_bytes 8 s.length) (in_bytes 2 (length s.runs))
    (runs_bytes s.runs) in
    omega (
      arith,
      all,
      in_bytes_long 2 version,
      in_bytes_long 1 (length s.tag),
      in_bytes_long 8 s.length,
      in_bytes_long 2 (length s.runs),
      runs_long s.runs,
    )

-- a record that breaks its rule
pub save_broken : (c : Copy) (out : List ℕ) → copy_rule c ≡ false → (Err 19 ≡ save_outcome c (length out)) × (out ≡ save_bytes c out)
unfolding save_outcome save_bytes
save_broken c out e = (rw e refl, rw e refl)

module _ (c : Copy) (out : List ℕ) (rule : copy_rule c ≡ true) (tags : length c.tag ≡ max_tag) (full : length c.runs ≡ max_runs) where
  -- its size
  size : 16 + c.tag_len + 16 * c.count ≡ length (saved_bytes (state_of c))
  size =
      let k = rule_kept c rule in
      omega (
        arith,
        saved_long (state_of c),
        length-take-le c.tag_len c.tag (omega (arith, k.short, tags)),
        length-take-le c.count c.runs (omega (arith, k.few, full)),
      )

  -- there is too little room
  pub save_short : length out < 16 + c.tag_len + 16 * c.count → (Err 20 ≡ save_outcome c (length out)) × (out ≡ save_bytes c out)
  unfolding save_outcome save_bytes save_call save_refusal
  save_short h =
      let few = lt-ltb (length out) (length (saved_bytes (state_of c))) (omega (arith, h, size)) in
      (rw (rule, rule_ok c rule, few) refl, rw (rule, rule_ok c rule, few) refl)

  -- there is enough
  pub save_written : 16 + c.tag_len + 16 * c.count ≤ length out → (out' : List ℕ)
      → out' ≡ (write (saved_bytes (state_of c)) (record { bytes = out; skip = 0; at = 0 })).bytes
      → (Ok (16 + c.tag_len + 16 * c.count) ≡ save_outcome c (length out)) × (out' ≡ save_bytes c out)
  unfolding save_outcome save_bytes save_call save_refusal
  save_written h out' e =
      let room : length (saved_bytes (state_of c)) ≤ length out = omega (arith, h, size) in
      let enough = le-ltb (length out) (length (saved_bytes (state_of c))) room in
      let written = e ∙ ap (λ (w : Window). w.bytes) (whole (saved_bytes (state_of c)) out room) in
      (rw (rule, rule_ok c rule, enough) (ap Ok size), rw (rule, rule_ok c rule, enough) written)
