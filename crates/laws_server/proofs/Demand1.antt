-- Demand 1, the server's half.
use Prim.Native.Nat.{ℕ, ◌≤◌}
use mathlib.Core.Path.{◌≡◌, refl, sym, ◌∙◌, ap}
use mathlib.Core.Logic.{◌↔◌}
use mathlib.Core.Bool.{Bool, true, false, cond, true≢false, false≢true}
use mathlib.Core.List.{List, [], ◌∷◌, ◌++◌}
use Rattle.std.specs.Prelude.{Option, None, Some, Err}
use native.Mathlib.Omega.{arith}
use borrow.Author.Tests.{eq-eqb, ltb-false}
use lib.Dec.{eqb}
use lib.ListN.{length, drop}
use lib.Seq.{take-append_seam, drop-append_seam}
use Rattle.rules_server.specs.Status.{Request, Resource, decide, status_of}
use Rattle.rules_server.specs.Answers.{answer, bytes_of}
use Rattle.rules_server.specs.Refusals.{RefusalRow, first_refusal, refusal_rows, bad_room, refusal, outcome_of, written_as, outcome, output}
use Rattle.rules_server.specs.declared.Reason.{Reason}
use Rattle.rules_demands.specs.FirstRows.{NoneHolds}
use Rattle.rules_demands.specs.Demand1Server.{refusal_table, refuses, FirstRefusal, Demand1Holds}
use Rattle.laws_server.proofs.Tables.{Found, found, missing, find, first_of, first_is, first_none, test_of, none_picked, any_of, first_picked}

-- ---- any table of refusals

-- the number that a row gives
abbrev numbered : RefusalRow → Option ℕ
numbered r = Some r.number

-- the first refusal is the number of the first row that holds
refusal_first : (rs : List RefusalRow) → first_refusal rs ≡ first_of refuses numbered None rs
refusal_first [] = refl
refusal_first (r ∷ rs) = ap (cond r.holds (Some r.number)) (refusal_first rs)

-- a number is given exactly when the first row that holds carries it
pub refusal_exactly : (rs : List RefusalRow) (k : ℕ) → (first_refusal rs ≡ Some k) ↔ FirstRefusal rs k
refusal_exactly rs k = (
  there (find refuses rs),
  λ g. refusal_first rs ∙ first_is refuses numbered None rs g.row g.first ∙ ap {B = Option ℕ} Some g.carries,
)
  where
    there : Found refuses rs → first_refusal rs ≡ Some k → FirstRefusal rs k
    there (found row h) e =
        let s : Some row.number ≡ Some k = sym (first_is refuses numbered None rs row h) ∙ sym (refusal_first rs) ∙ e in
        record { row = row; first = h; carries = (cc) }
    there (missing n) e =
        let s : None ≡ Some k = sym (first_none refuses numbered None rs n) ∙ sym (refusal_first rs) ∙ e in
        let z : ◌≡◌ {A = ℕ} 0 1 = cc in
        absurd (omega arith)

-- none is given exactly when no row holds
pub refusal-none : (rs : List RefusalRow) → (first_refusal rs ≡ None) ↔ NoneHolds refuses rs
refusal-none rs = (there (find refuses rs), λ n. refusal_first rs ∙ first_none refuses numbered None rs n)
  where
    there : Found refuses rs → first_refusal rs ≡ None → NoneHolds refuses rs
    there (found row h) e =
        let s : Some row.number ≡ None = sym (first_is refuses numbered None rs row h) ∙ sym (refusal_first rs) ∙ e in
        let z : ◌≡◌ {A = ℕ} 0 1 = cc in
        absurd (omega arith)
    there (missing n) e = n

-- the test of the row that carries k
abbrev pub refusal_test : List RefusalRow → ℕ → Bool
refusal_test rs k = test_of refuses (λ (r : RefusalRow). eqb r.number k) rs

-- where no row holds, that one does not
pub passes : (rs : List RefusalRow) → NoneHolds refuses rs → (k : ℕ) → refusal_test rs k ≡ false
passes rs n k = none_picked refuses (λ (r : RefusalRow). eqb r.number k) rs n

-- a table behind another: the first that holds of the one, or else of the other
abbrev pub or_else : Option ℕ → Option ℕ → Option ℕ
or_else None o = o
or_else (Some k) o = Some k

pub refusal-append : (rs ts : List RefusalRow) → first_refusal (rs ++ ts) ≡ or_else (first_refusal rs) (first_refusal ts)
refusal-append [] ts = refl
refusal-append (r ∷ rs) ts = go r.holds (refusal-append rs ts)
  where
    go : (b : Bool) → first_refusal (rs ++ ts) ≡ or_else (first_refusal rs) (first_refusal ts)
        → cond b (Some r.number) (first_refusal (rs ++ ts)) ≡ or_else (cond b (Some r.number) (first_refusal rs)) (first_refusal ts)
    go true e = refl
    go false e = e

-- a table of which no row carries k does not refuse by k
pub refusal_other : (rs : List RefusalRow) (k : ℕ) → any_of refuses (λ (r : RefusalRow). eqb r.number k) rs ≡ false → first_refusal rs ≡ Some k → ⊥
refusal_other rs k n e =
    let g = (refusal_exactly rs k).0 e in
    true≢false
    (sym (first_picked refuses (λ (r : RefusalRow). eqb r.number k) rs g.row g.first (eq-eqb g.row.number k g.carries)) ∙ n)

-- ---- what is said of a refusal

-- an outcome that refuses is a refusal by that number
refused : (o : Option ℕ) (x : Reason) (n k : ℕ) → outcome_of o x n ≡ Err k → o ≡ Some k
refused None x n k e = let z : ◌≡◌ {A = ℕ} 0 1 = cc in absurd (omega arith)
refused (Some j) x n k e = let m : j ≡ k = cc in ap {B = Option ℕ} Some m

-- one that answers is no refusal
answered : (o : Option ℕ) (x : Reason) (n m : ℕ) (y : Reason) (s : ℕ) → outcome_of o x n ≡ written_as y s m → o ≡ None
answered None x n m y s e = refl
answered (Some j) x n m y s e = let z : ◌≡◌ {A = ℕ} 0 1 = cc in absurd (omega arith)

module _ (q : Request) (f : Resource) where
  -- the refusal is the first of the table
  refusal_is : (room : ℕ) → refusal q f room ≡ first_refusal (refusal_table q f room)
  unfolding refusal refusal_rows
  refusal_is room = refl

  -- none carries 0
  not_zero : (room : ℕ) → FirstRefusal (refusal_table q f room) 0 → ⊥
  not_zero room g =
      false≢true
      (first_picked refuses (λ (r : RefusalRow). eqb r.number 0) (refusal_table q f room) g.row g.first (eq-eqb g.row.number 0 g.carries))

  -- where no row holds the answer has room
  has_room : (out : List ℕ) → NoneHolds refuses (refusal_table q f (length out)) → length (bytes_of (answer q f)) ≤ length out
  unfolding bad_room
  has_room out n = ltb-false (length out) (length (bytes_of (answer q f))) (passes (refusal_table q f (length out)) n 7)

  -- where no row holds nothing is refused
  unrefused : (room : ℕ) → NoneHolds refuses (refusal_table q f room) → refusal q f room ≡ None
  unrefused room n = refusal_is room ∙ (refusal-none (refusal_table q f room)).1 n

  -- what an outcome that refuses says of the table
  refusing : (room k : ℕ) → outcome q f room ≡ Err k → FirstRefusal (refusal_table q f room) k
  unfolding outcome
  refusing room k e =
      (refusal_exactly (refusal_table q f room) k).0
      (sym (refusal_is room) ∙ refused (refusal q f room) (decide q f) (length (bytes_of (answer q f))) k e)

pub demand_1 : Demand1Holds
unfolding outcome output
demand_1 q f out =
    let rows = refusal_table q f (length out) in
    let n = length (bytes_of (answer q f)) in
    record {
      exactly = λ k. (refusing q f (length out) k, λ g. rw (refusal_is q f (length out), (refusal_exactly rows k).1 g) refl);
      numbered = λ e. not_zero q f (length out) (refusing q f (length out) 0 e);
      answered = (
        λ e. (refusal-none rows).0 (sym (refusal_is q f (length out))
            ∙ answered (refusal q f (length out)) (decide q f) n n (decide q f) (status_of (decide q f)) e),
        λ l. rw (unrefused q f (length out) l) refl,
      );
      kept = λ k e. rw (refused (refusal q f (length out)) (decide q f) n k e) refl;
      written = λ l. (
        has_room q f out l,
        rw (unrefused q f (length out) l) (take-append_seam (bytes_of (answer q f)) (drop n out)),
        rw (unrefused q f (length out) l) (drop-append_seam (bytes_of (answer q f)) (drop n out)),
      );
    }
