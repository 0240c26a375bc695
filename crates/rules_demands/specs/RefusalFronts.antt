-- An answer so far, wherever it ends, and what is refused there.
-- By number: 11 is ByteFault, no status line, LineFault and BrokenHead; 12 OtherStatus; 13 Unlike and ForeignPart; 14 WrongRange and WrongPart; 15 EmptyParts
-- at the head's empty line, and in a multipart
-- ByteFault, PartLineFault, CountFault, Unfit and Misfit; 16 and 17 DataRefuses.
use Rattle.std.specs.Prelude.{ℕ, ◌+◌, ◌<◌, ◌≡◌, true, false, List, [], length, get_or}
use Rattle.std.specs.Prelude.{Option, None, Some}
use Rattle.rules_server.specs.Answers.{Cell, own_then, from_then}
use Rattle.rules_tablet.specs.Runs.{member, insert}
use Rattle.rules_tablet.specs.Feeding.{Held}
use Rattle.rules_demands.specs.AcceptanceGrammar.{data_from, no_data, parts_under, HeadText}
use Rattle.rules_demands.specs.RefusalHeads.{HeadFront, HeadRefuses}
use Rattle.rules_demands.specs.RefusalParts.{Within, position_in, WithinRefuses}

-- an answer so far, each byte with its position in the file if it has one, for a copy under the tag of n bytes: nothing of it is refused by 11 to 15, and more
-- is to come
pub data Front (tag : List ℕ) (n : ℕ) : List Cell → Type 0 where
  -- within the head
  in_head : {cells : List Cell} (text : List ℕ) → HeadFront text → cells ≡ own_then text [] → Front tag n cells
  -- the body of a 200 or a plain 206
  in_plain : {cells : List Cell} (text : List ℕ) (p z : ℕ) (l : List ℕ) → HeadText tag n text (data_from p) z → length l < z
      → cells ≡ own_then text (from_then p l []) → Front tag n cells
  -- the body of a 416
  in_skipped : {cells : List Cell} (text : List ℕ) (z : ℕ) (l : List ℕ) → HeadText tag n text no_data z → length l < z → cells ≡ own_then text (own_then l [])
      → Front tag n cells
  -- the body of a multipart
  in_parts : {cells : List Cell} (text b : List ℕ) (z : ℕ) (body : List Cell) → HeadText tag n text (parts_under b) z → Within n b z body → length body < z
      → cells ≡ own_then text body → Front tag n cells

-- the position of the next byte, if it is data
abbrev pub position : (tag : List ℕ) (n : ℕ) (cells : List Cell) → Front tag n cells → Option ℕ
position tag n cells (in_head text f is) = None
position tag n cells (in_plain text p z l head more is) = Some (p + length l)
position tag n cells (in_skipped text z l head more is) = None
position tag n cells (in_parts text b z body head w more is) = position_in n b z body w

-- the byte x behind a front is refused by the head's or the body's form: 11 to 15
abbrev pub FormRefuses : (tag : List ℕ) (n : ℕ) (cells : List Cell) → Front tag n cells → ℕ → ℕ → Type 0
FormRefuses tag n cells (in_head text f is) x k = HeadRefuses tag n text f x k
FormRefuses tag n cells (in_plain text p z l head more is) x k = ⊥
FormRefuses tag n cells (in_skipped text z l head more is) x k = ⊥
FormRefuses tag n cells (in_parts text b z body head w more is) x k = WithinRefuses n b z body w x k

-- the byte x for a position, where this is held and lim is the most runs
pub data DataRefuses (lim : ℕ) (h : Held) (x k : ℕ) : Option ℕ → Type 0 where
  -- 17: "byte differs from the held one"
  differs : {o : Option ℕ} (p : ℕ) → o ≡ Some p → member p h.runs ≡ true → (get_or h.bytes p 0 ≡ x → ⊥) → k ≡ 17 → DataRefuses lim h x k o
  -- 16: "storing the byte would make more than 32 runs", 128 since 2026-04
  too_many : {o : Option ℕ} (p : ℕ) → o ≡ Some p → member p h.runs ≡ false → lim < length (insert p h.runs) → k ≡ 16 → DataRefuses lim h x k o

-- the byte x behind a front is refused by k, where this is then held
pub data Refuses (lim : ℕ) (tag : List ℕ) (n : ℕ) (h : Held) (cells : List Cell) (f : Front tag n cells) (x k : ℕ) : Type 0 where
  -- 11 to 15
  by_form : FormRefuses tag n cells f x k → Refuses lim tag n h cells f x k
  -- 16 and 17
  by_data : DataRefuses lim h x k (position tag n cells f) → Refuses lim tag n h cells f x k
