-- The numbers of refusals: 11 to 17.
use Prim.Native.Nat.{ℕ, suc, ◌≤◌}
use mathlib.Core.Bool.{Bool}
use mathlib.Core.List.{List}
use native.Mathlib.Omega.{arith}
use lib.ListN.{length}
use Rattle.rules_server.specs.Answers.{Cell}
use Rattle.rules_tablet.specs.Feeding.{Held}
use Rattle.rules_demands.specs.RefusalLines.{this, not_this}
use Rattle.rules_demands.specs.RefusalHeads.{HeadFront, in_status, in_fields, at_byte, at_line, at_empty, HeadRefuses}
use Rattle.rules_demands.specs.RefusalParts.{Within, in_lead, in_lead_end, in_mark, behind_mark, behind_cr, behind_dash, in_line, in_data, behind_data}
use Rattle.rules_demands.specs.RefusalParts.{behind_close, LineRefuses, at_byte, at_line, at_empty, cut_short, WithinRefuses}
use Rattle.rules_demands.specs.RefusalFronts.{Front, in_head, in_plain, in_skipped, in_parts, differs, too_many, Refuses, by_form, by_data}
use Rattle.rules_demands.specs.RefusalsExactly.{NumbersAlways}

-- a number of the head
head-number : (tag : List ℕ) (n : ℕ) (text : List ℕ) (f : HeadFront text) (x k : ℕ) → HeadRefuses tag n text f x k → (11 ≤ k) × (k ≤ 17)
head-number tag n text (in_status l cr line is) x k (at_byte q e) = (omega arith, omega arith)
head-number tag n text (in_status l cr line is) x k (at_line c e q g) = (omega arith, omega arith)
head-number tag n text (in_fields status fields l cr heading line is) x k (at_byte q e) = (omega arith, omega arith)
head-number tag n text (in_fields status fields l cr heading line is) x k (at_line c e g q i) = (omega arith, omega arith)
head-number tag n text (in_fields status fields l cr heading line is) x k (at_empty c e g (this a i)) = (omega arith, omega arith)
head-number tag n text (in_fields status fields l cr heading line is) x k (at_empty c e g (not_this a (this b i))) = (omega arith, omega arith)
head-number tag n text (in_fields status fields l cr heading line is) x k (at_empty c e g (not_this a (not_this b (this d i)))) = (omega arith, omega arith)
head-number tag n text (in_fields status fields l cr heading line is) x k (at_empty c e g (not_this a (not_this b (not_this d (this i j))))) =
    (omega arith, omega arith)
head-number tag n text (in_fields status fields l cr heading line is) x k (at_empty c e g (not_this a (not_this b (not_this d (not_this i (this j m)))))) =
    (omega arith, omega arith)
head-number tag n text (in_fields status fields l cr heading line is) x k (at_empty c e g (not_this a (not_this b (not_this d (not_this i (not_this j m)))))) =
    absurd m

-- a number of a part's line
line-number : (n : ℕ) (b : List ℕ) (z before : ℕ) (fields : List (List ℕ)) (l : List ℕ) (cr : Bool) (x k : ℕ) → LineRefuses n b z before fields l cr x k
    → (11 ≤ k) × (k ≤ 17)
line-number n b z before fields l cr x k (at_byte q e) = (omega arith, omega arith)
line-number n b z before fields l cr x k (at_line c e g q i) = (omega arith, omega arith)
line-number n b z before fields l cr x k (at_empty c e g (this a i)) = (omega arith, omega arith)
line-number n b z before fields l cr x k (at_empty c e g (not_this a (this d i))) = (omega arith, omega arith)
line-number n b z before fields l cr x k (at_empty c e g (not_this a (not_this d (this i j)))) = (omega arith, omega arith)
line-number n b z before fields l cr x k (at_empty c e g (not_this a (not_this d (not_this i (this j m))))) = (omega arith, omega arith)
line-number n b z before fields l cr x k (at_empty c e g (not_this a (not_this d (not_this i (not_this j m))))) = absurd m
line-number n b z before fields l cr x k (cut_short c e g) = (omega arith, omega arith)

-- a number of a multipart
parts-number : (n : ℕ) (b : List ℕ) (z : ℕ) (cells : List Cell) (w : Within n b z cells) (x k : ℕ) → WithinRefuses n b z cells w x k → (11 ≤ k) × (k ≤ 17)
parts-number n b z cells (in_lead lead few is) x k q = let e = q.1 in (omega arith, omega arith)
parts-number n b z cells (in_lead_end lead few is) x k q = let e = q.1 in (omega arith, omega arith)
parts-number n b z cells (in_mark lead seen c more few some-seen mark-is is) x k q = let e = q.1 in (omega arith, omega arith)
parts-number n b z cells (behind_mark parts m) x k q = let e = q.1 in (omega arith, omega arith)
parts-number n b z cells (behind_cr parts marked m is) x k q = let e = q.1 in (omega arith, omega arith)
parts-number n b z cells (behind_dash marked m is) x k q = let e = q.1 in (omega arith, omega arith)
parts-number n b z cells (in_line parts marked fields l cr m heading line is) x k q = line-number n b z (suc (length cells)) fields l cr x k q
parts-number n b z cells (in_data parts marked fields v bytes m a part-way is) x k q = absurd q
parts-number n b z cells (behind_data parts marked fields v bytes seen c more m a all mark-is is) x k q = let e = q.1 in (omega arith, omega arith)
parts-number n b z cells (behind_close marked anything m is) x k q = absurd q

-- a number of a front
front-number : (lim : ℕ) (tag : List ℕ) (n : ℕ) (h : Held) (cells : List Cell) (f : Front tag n cells) (x k : ℕ) → Refuses lim tag n h cells f x k
    → (11 ≤ k) × (k ≤ 17)
front-number lim tag n h cells (in_head text f is) x k (by_form q) = head-number tag n text f x k q
front-number lim tag n h cells (in_plain text p z l a more is) x k (by_form q) = absurd q
front-number lim tag n h cells (in_skipped text z l a more is) x k (by_form q) = absurd q
front-number lim tag n h cells (in_parts text b z body a w more is) x k (by_form q) = parts-number n b z body w x k q
front-number lim tag n h cells f x k (by_data (differs p e m d g)) = (omega arith, omega arith)
front-number lim tag n h cells f x k (by_data (too_many p e m d g)) = (omega arith, omega arith)

-- no other number is given
pub numbers_always : NumbersAlways
numbers_always lim tag n h bytes i k last r = front-number lim tag n last r.cells r.front r.byte k r.why
