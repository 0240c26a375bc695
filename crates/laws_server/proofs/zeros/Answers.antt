-- Zeros before the numbers of a Range change neither the answer nor a refusal.
use Prim.Native.Nat.{ℕ, ◌≤◌}
use mathlib.Core.Path.{◌≡◌, sym, ◌∙◌, ap}
use mathlib.Core.List.{List}
use native.Mathlib.Omega.{arith}
use lib.ListN.{length}
use borrow.Author.Tests.{le-ltb}
use Rattle.rules_server.specs.Limits.{max_range}
use Rattle.rules_server.specs.Octets.{trim}
use Rattle.rules_server.specs.Ranges.{read_range}
use Rattle.rules_server.specs.Status.{Request, Resource, rows, decide, specs}
use Rattle.rules_server.specs.Answers.{parts_for, answer, bytes_of}
use Rattle.rules_server.specs.Refusals.{bad_delimiter, bad_room, refusal_rows, refusal, outcome, output}
use Rattle.rules_demands.specs.LeadingZeros.{with_range, AnsweredAlike, ZerosNeverCount}
use Rattle.laws_server.proofs.grammar.Reading.{range_complete}
use Rattle.laws_server.proofs.zeros.Texts.{by_bytes, no_shorter, trim_put}
use Rattle.laws_server.proofs.zeros.Grammar.{range_put}

-- of two values that are read alike and both fit
module _ (v w : List ℕ) (e : read_range (trim w) ≡ read_range (trim v)) (h : length (trim v) ≤ max_range) (k : length (trim w) ≤ max_range) (q :
    Request) (f : Resource) where
  -- the reason is the same
  same_reason : decide (with_range q w) f ≡ decide (with_range q v) f
  unfolding rows decide
  same_reason = rw (e, le-ltb max_range (length (trim w)) k, le-ltb max_range (length (trim v)) h)

  -- so are the parts
  same-parts : parts_for (with_range q w) f ≡ parts_for (with_range q v) f
  unfolding parts_for specs
  same-parts = rw e

  -- so is the answer
  same-answer : answer (with_range q w) f ≡ answer (with_range q v) f
  unfolding answer
  same-answer = rw (same_reason, same-parts)

  -- so is the refusal
  same-refusal : (room : ℕ) → refusal (with_range q w) f room ≡ refusal (with_range q v) f room
  unfolding bad_delimiter bad_room refusal_rows refusal
  same-refusal room = rw (same_reason, same-parts, same-answer)

  -- so is what is said and written
  answered-alike : AnsweredAlike (with_range q v) (with_range q w) f
  unfolding outcome output
  answered-alike =
      record {
        bytes = ap bytes_of same-answer;
        refused = same-refusal;
        says = λ room. rw (same-refusal room, same_reason, same-answer);
        writes = λ out. rw (same-refusal (length out), same-answer);
      }

pub zeros_never_count : ZerosNeverCount
zeros_never_count v w ss d z k =
    let p = trim_put (by_bytes z) in
    let g = range_put d p in
    let h : length (trim v) ≤ max_range = omega (arith, no_shorter p, k) in
    record { derived = g; alike = answered-alike v w (range_complete (trim w) ss g ∙ sym (range_complete (trim v) ss d)) h k }
