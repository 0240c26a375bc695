-- A request's refusals, each exactly when, and what its buffer then holds.
-- Assumes nothing.
use Prim.Native.Nat.{ℕ, ◌<◌}
use native.Mathlib.Omega.{arith}
use mathlib.Core.Path.{◌≡◌, refl}
use mathlib.Core.Bool.{Bool, true, false, cond, false≢true, true≢false}
use mathlib.Core.List.{List, [], ◌∷◌}
use Rattle.std.specs.Prelude.{Option, None, Some}
use lib.Dec.{ltb}
use lib.ListN.{length, take}
use borrow.Author.Tests.{ltb-true, lt-ltb}
use Rattle.rules_server.specs.declared.Run.{Run}
use Rattle.rules_tablet.specs.Limits.{max_holes}
use Rattle.rules_tablet.specs.Runs.{holes}
use Rattle.rules_tablet.specs.Copies.{is_complete}
use Rattle.rules_tablet.specs.Requests.{request_text, request_of, wanted}
use Rattle.rules_tablet.specs.Calls.{State, copy_ok, request_refusal, request_lines, request_call}
use Rattle.rules_demands.specs.Demand1Reader.{Asking, AskingAlways}

-- the refusal by what decides it: the copy's rule, whether nothing is missing, whether the text is longer than the buffer
abbrev outcome : Bool → Bool → Bool → Option ℕ
outcome false done long = Some 19
outcome true true long = Some 18
outcome true false true = Some 20
outcome true false false = None

-- two numbers of one refusal are one
same-number : (o : Option ℕ) (j k : ℕ) → o ≡ Some j → o ≡ Some k → j ≡ k
same-number o j k e h = cc

-- a refusal is not none
not-none : (k : ℕ) → ◌≡◌ {A = Option ℕ} None (Some k) → ⊥
not-none k e = let z : ◌≡◌ {A = ℕ} 0 1 = cc in omega arith

-- 19 is the copy's rule
is_19 : (ok done long : Bool) → outcome ok done long ≡ Some 19 → ok ≡ false
is_19 false done long e = refl
is_19 true true long e = absurd (omega (arith, same-number _ 18 19 refl e))
is_19 true false true e = absurd (omega (arith, same-number _ 20 19 refl e))
is_19 true false false e = absurd (not-none 19 e)

-- 18 is a complete copy
is_18 : (ok done long : Bool) → outcome ok done long ≡ Some 18 → (ok ≡ true) × (done ≡ true)
is_18 false done long e = absurd (omega (arith, same-number _ 19 18 refl e))
is_18 true true long e = (refl, refl)
is_18 true false true e = absurd (omega (arith, same-number _ 20 18 refl e))
is_18 true false false e = absurd (not-none 18 e)

-- 20 is a short buffer
is_20 : (ok done long : Bool) → outcome ok done long ≡ Some 20 → (ok ≡ true) × (done ≡ false) × (long ≡ true)
is_20 false done long e = absurd (omega (arith, same-number _ 19 20 refl e))
is_20 true true long e = absurd (omega (arith, same-number _ 18 20 refl e))
is_20 true false true e = (refl, refl, refl)
is_20 true false false e = absurd (not-none 20 e)

module _ (c : State) (out : List ℕ) where
  abbrev isDone : Bool
  isDone = is_complete c.length c.runs

  abbrev isLong : Bool
  isLong = ltb (length out) (length (request_lines c))

  -- of a copy that meets its rule, by its holes
  holes-outcome : (hs : List Run) (done : Bool) → holes c.length c.runs ≡ hs → isDone ≡ done
      → request_of (take max_holes hs) c.tag (length out) ≡ outcome true done (ltb (length out) (length (request_text (take max_holes hs) c.tag)))
  unfolding is_complete
  holes-outcome [] true h e = refl
  holes-outcome [] false h e = absurd (true≢false (rw h at e))
  holes-outcome (r ∷ rs) true h e = absurd (false≢true (rw h at e))
  holes-outcome (r ∷ rs) false h e = by_long (ltb (length out) (length (request_text (take max_holes (r ∷ rs)) c.tag)))
    where
      by_long : (b : Bool) → cond b (Some 20) None ≡ outcome true false b
      by_long true = refl
      by_long false = refl

  -- a request's refusal is the outcome
  refusal_is : request_refusal c (length out) ≡ outcome (copy_ok c) isDone isLong
  unfolding request_refusal
  refusal_is = go (copy_ok c) (holes-outcome (holes c.length c.runs) isDone refl refl)
    where
      go : (ok : Bool) → request_of (wanted c.length c.runs) c.tag (length out) ≡ outcome true isDone isLong
          → cond ok (request_of (wanted c.length c.runs) c.tag (length out)) (Some 19) ≡ outcome ok isDone isLong
      go true e = e
      go false e = refl

  -- all that is asked of a request
  asked : Asking c out
  unfolding request_call
  asked =
      record {
        broken = (λ e. is_19 (copy_ok c) isDone isLong (rw refusal_is at e), λ e. rw (refusal_is, e));
        complete = (λ e. is_18 (copy_ok c) isDone isLong (rw refusal_is at e), λ e. rw (refusal_is, e.0, e.1));
        long = (λ e. short (is_20 (copy_ok c) isDone isLong (rw refusal_is at e)), λ e. rw (refusal_is, e.0, e.1, lt-ltb _ _ e.2));
        kept = λ k e. rw e;
        written = λ e. rw e;
      }
    where
      short : (copy_ok c ≡ true) × (isDone ≡ false) × (isLong ≡ true) → (copy_ok c ≡ true) × (isDone ≡ false) × (length out < length (request_lines c))
      short h = (h.0, h.1, ltb-true _ _ h.2)

-- requests into any buffer are refused exactly when document 01 says, and written as it says
pub asking_always : AskingAlways
asking_always c out = asked c out
