-- The reader's rule as plain facts: what holds wherever it stands (`Frame`), and what holds where it stands (`Room`).
-- Assumes nothing.
use Prim.Native.Nat.{ℕ, suc, ◌+◌, ◌≤◌, ◌<◌}
use native.Mathlib.Omega.{arith}
use mathlib.Core.Path.{◌≡◌, refl}
use mathlib.Core.Bool.{Bool, true, false, not, ◌&&◌, ◌||◌}
use mathlib.Core.List.{List, [], ◌∷◌, ◌++◌}
use lib.Dec.{leb, ltb, eqb}
use lib.ListN.{length}
use borrow.Author.Tests.{ltb-true, lt-ltb, leb-true, le-leb, eqb-true, eq-eqb, not-true}
use Rattle.rules_server.specs.Limits.{max_tag, max_boundary}
use Rattle.rules_server.specs.Texts.{crlf}
use Rattle.rules_server.specs.Answers.{dash_boundary}
use Rattle.rules_tablet.specs.Limits.{max_line, max_fields, max_part_lines, max_preamble, max_size}
use Rattle.rules_tablet.specs.Fields.{is_wrong, is_foreign, first_of}
use Rattle.rules_tablet.specs.Heads.{size_of, span_of, is_ok, is_parts, is_part, is_unsatisfied, head_refusal}
use Rattle.rules_tablet.specs.Parsers.{Parser, delimiter, with_line, with_part, with_framing, counted_body}
use Rattle.rules_tablet.specs.Calls.{State, range_ok, type_ok, body_ok, parts_ok, remains, plain_ok, data_ok, stage_ok, reader_ok}
use Rattle.rules_tablet.specs.declared.RangeField.{RangeField}
use Rattle.rules_tablet.specs.declared.Head.{Head}
use Rattle.rules_tablet.specs.declared.PartHead.{PartHead}
use Rattle.rules_tablet.specs.declared.Stage.{Stage}
use Rattle.rules_tablet.specs.declared.Stage.TheVariants.{Status, Fields, Plain, Skip, Preamble, PreambleEnd, FirstDelimiter, Delimiter, AfterFirstDelimiter}
use Rattle.rules_tablet.specs.declared.Stage.TheVariants.{AfterDelimiter, PartBegin, Closing, PartLine, Data, Epilogue, Finished, Refused}
use Rattle.laws_reader.proofs.rules_kept.Tests.{and_left, and_right, together, trues, all_true}
use Rattle.laws_reader.proofs.rules_kept.Lines.{right_span}
use Rattle.laws_reader.proofs.rules_kept.Accepted.{plain-fits}

-- what holds wherever the reader stands
abbrev pub Frame : Parser → Type 0
Frame p = record {
  line : length p.line ≤ max_line;
  fields : p.head.lines ≤ max_fields;
  lines : p.part.lines ≤ max_part_lines;
  tag : length p.tag ≤ max_tag;
  boundary : length p.boundary ≤ max_boundary;
  media : type_ok p.head.media p.boundary ≡ true;
  head_range : range_ok p.head.range ≡ true;
  part_range : range_ok p.part.range ≡ true;
  size : size_of p.head.size ≤ max_size;
  after : p.framing.after < max_size;
}

-- what was read of the answer: the bytes of a body leave it as it was, but for a part's lines
pub record Known : Type 0 where
  pub head : Head
  pub part : PartHead
  pub tag : List ℕ
  pub boundary : List ℕ

-- of a reader
abbrev pub known : Parser → Known
known p = record { head = p.head; part = p.part; tag = p.tag; boundary = p.boundary }

-- a head that was accepted for a copy under the tag t of n bytes, with m bytes of its body still to come
pub record Accepted (t : List ℕ) (n m : ℕ) (h : Head) (v : List ℕ) : Type 0 where
  pub judged : head_refusal t n h v ≡ 0
  pub within : m ≤ size_of h.size

-- of several parts
pub record Parted (t : List ℕ) (n m : ℕ) (h : Head) (v : List ℕ) : Type 0 where
  pub accepted : Accepted t n m h v
  pub several : is_parts h ≡ true

-- of one, or a 200: data from `next` on
pub record Unparted (t : List ℕ) (n m next : ℕ) (h : Head) (v : List ℕ) : Type 0 where
  pub accepted : Accepted t n m h v
  pub single : (is_ok h || is_part h) ≡ true
  pub ends : next + m ≡ first_of h.range + size_of h.size

-- of the positions of a Content-Range, right for a copy of n bytes, the last `left`, from `next` on
pub record Rest (n next left : ℕ) (r : RangeField) : Type 0 where
  pub right : is_wrong n r ≡ false
  pub own : is_foreign n r ≡ false
  pub within : left ≤ span_of r
  pub ends : next + left ≡ first_of r + span_of r

-- what holds where it stands, for a copy under the tag t of n bytes, with m bytes of the body still to come
abbrev pub Room : List ℕ → ℕ → Stage → ℕ → Known → Type 0
Room t n Status m k = Unit {0}
Room t n Fields m k = Unit {0}
Room t n (Plain next) m k = Unparted t n m next k.head k.tag × (next + m ≤ n)
Room t n Skip m k = Accepted t n m k.head k.tag × (is_unsatisfied k.head ≡ true)
Room t n (Preamble i) m k = Parted t n m k.head k.tag × (i ≤ max_preamble)
Room t n (PreambleEnd i) m k = Parted t n m k.head k.tag × (i < max_preamble)
Room t n (FirstDelimiter i) m k = Parted t n m k.head k.tag × (3 ≤ i) × (i < length (crlf ++ dash_boundary k.boundary))
Room t n (Delimiter i) m k = Parted t n m k.head k.tag × (i < length (crlf ++ dash_boundary k.boundary))
Room t n AfterFirstDelimiter m k = Parted t n m k.head k.tag
Room t n AfterDelimiter m k = Parted t n m k.head k.tag
Room t n PartBegin m k = Parted t n m k.head k.tag
Room t n Closing m k = Parted t n m k.head k.tag
Room t n PartLine m k = Parted t n m k.head k.tag
Room t n (Data next left) m k =
    Parted t n m k.head k.tag
    × (1 ≤ left)
    × (next + left ≤ n)
    × (left + 2 + (length k.boundary + 4) ≤ m)
    × Rest n next left k.part.range
Room t n Epilogue m k = Parted t n m k.head k.tag
Room t n Finished m k = Unit {0}
Room t n (Refused i) m k = (11 ≤ i) × (i ≤ 17)

-- a reader that meets its rule beside a copy
pub record Reader (t : List ℕ) (n : ℕ) (p : Parser) : Type 0 where
  pub frame : Frame p
  pub stands : Room t n p.stage (suc p.framing.after) (known p)

-- another line
pub relined : (p : Parser) (l : List ℕ) (cr : Bool) → length l ≤ max_line → Frame p → Frame (with_line l cr p)
relined p l cr h f = record {
  line = h;
  fields = f.fields;
  lines = f.lines;
  tag = f.tag;
  boundary = f.boundary;
  media = f.media;
  head_range = f.head_range;
  part_range = f.part_range;
  size = f.size;
  after = f.after;
}

-- another count of what is left
pub recounted : (p : Parser) (k : ℕ) → k < max_size → Frame p → Frame (with_framing (counted_body k) p)
recounted p k h f = record {
  line = f.line;
  fields = f.fields;
  lines = f.lines;
  tag = f.tag;
  boundary = f.boundary;
  media = f.media;
  head_range = f.head_range;
  part_range = f.part_range;
  size = f.size;
  after = h;
}

-- another part
pub reparted : (p : Parser) (x : PartHead) → x.lines ≤ max_part_lines → range_ok x.range ≡ true → Frame p → Frame (with_part x p)
reparted p x lines part_range f = record {
  line = omega arith;
  fields = f.fields;
  lines = lines;
  tag = f.tag;
  boundary = f.boundary;
  media = f.media;
  head_range = f.head_range;
  part_range = part_range;
  size = f.size;
  after = f.after;
}

-- the tests of a reader, apart from where it stands
abbrev frame_tests : Parser → List Bool
frame_tests p =
    leb p.head.lines max_fields
    ∷ leb p.part.lines max_part_lines
    ∷ leb (length p.tag) max_tag
    ∷ leb (length p.boundary) max_boundary
    ∷ type_ok p.head.media p.boundary
    ∷ range_ok p.head.range
    ∷ range_ok p.part.range
    ∷ leb (size_of p.head.size) max_size
    ∷ ltb p.framing.after max_size
    ∷ []

-- the tests of a part's data as facts
rest_of : (n next left : ℕ) (r : RangeField) → data_ok n next left r ≡ true → (1 ≤ left) × Rest n next left r
rest_of n next left r e =
    let h = trues (leb 1 left) (not (is_wrong n r) ∷ not (is_foreign n r) ∷ remains (first_of r) (span_of r) next left ∷ []) e in
    let q = trues (leb left (span_of r)) (eqb (next + left) (first_of r + span_of r) ∷ []) h.1.1.1.0 in (
      leb-true _ _ h.0,
      record { right = not-true _ h.1.0; own = not-true _ h.1.1.0; within = leb-true _ _ q.0; ends = eqb-true _ _ q.1.0 },
    )

-- such a rest lies in the copy
pub rest_fits : (n next left : ℕ) (r : RangeField) → Rest n next left r → next + left ≤ n
rest_fits n next left r z = omega (arith, z.ends, right_span n r z.right)

module _ (c : State) (p : Parser) where
  -- the tests of a body as facts
  accepted_of : body_ok c p ≡ true → Accepted c.tag c.length (suc p.framing.after) p.head p.tag
  accepted_of e =
      let h = trues (eqb (head_refusal c.tag c.length p.head p.tag) 0) (ltb p.framing.after (size_of p.head.size) ∷ []) e in
      record { judged = eqb-true _ _ h.0; within = ltb-true _ _ h.1.0 }

  -- of one of several parts
  parted_of : parts_ok c p ≡ true → Parted c.tag c.length (suc p.framing.after) p.head p.tag
  parted_of e = record { accepted = accepted_of (and_left (body_ok c p) _ e); several = and_right (body_ok c p) (is_parts p.head) e }

  -- of a plain one
  unparted_of : (next : ℕ) → (body_ok c p && plain_ok next p.framing.after p.head) ≡ true
      → Unparted c.tag c.length (suc p.framing.after) next p.head p.tag
  unparted_of next e =
      let h = and_right (body_ok c p) (plain_ok next p.framing.after p.head) e in
      let r = remains (first_of p.head.range) (size_of p.head.size) next (suc p.framing.after) in
      let q = and_right (is_ok p.head || is_part p.head) r h in
      record {
        accepted = accepted_of (and_left (body_ok c p) _ e);
        single = and_left (is_ok p.head || is_part p.head) r h;
        ends = eqb-true _ _ (and_right (leb (suc p.framing.after) (size_of p.head.size)) _ q);
      }

  -- which lies in the copy
  unparted_fits : (next : ℕ) → Unparted c.tag c.length (suc p.framing.after) next p.head p.tag → next + suc p.framing.after ≤ c.length
  unparted_fits next u = omega (arith, u.ends, plain-fits c.tag c.length p.head p.tag u.accepted.judged u.single)

  -- the tests of where it stands as facts
  room_of_lem : (s : Stage) → stage_ok c s p ≡ true → Room c.tag c.length s (suc p.framing.after) (known p)
  room_of_lem Status e = tt
  room_of_lem Fields e = tt
  room_of_lem (Plain next) e = let u = unparted_of next e in (u, unparted_fits next u)
  room_of_lem Skip e = (accepted_of (and_left (body_ok c p) _ e), and_right (body_ok c p) (is_unsatisfied p.head) e)
  room_of_lem (Preamble k) e = let h = trues (parts_ok c p) (leb k max_preamble ∷ []) e in (parted_of h.0, leb-true _ _ h.1.0)
  room_of_lem (PreambleEnd k) e = let h = trues (parts_ok c p) (ltb k max_preamble ∷ []) e in (parted_of h.0, ltb-true _ _ h.1.0)
  room_of_lem (FirstDelimiter i) e =
      let h = trues (parts_ok c p) (leb 3 i ∷ ltb i (length (delimiter p)) ∷ []) e in
      (parted_of h.0, leb-true _ _ h.1.0, ltb-true _ _ h.1.1.0)
  room_of_lem (Delimiter i) e = let h = trues (parts_ok c p) (ltb i (length (delimiter p)) ∷ []) e in (parted_of h.0, ltb-true _ _ h.1.0)
  room_of_lem AfterFirstDelimiter e = parted_of e
  room_of_lem AfterDelimiter e = parted_of e
  room_of_lem PartBegin e = parted_of e
  room_of_lem Closing e = parted_of e
  room_of_lem PartLine e = parted_of e
  room_of_lem (Data next left) e =
      let held = leb (left + 2 + (length p.boundary + 4)) (suc p.framing.after) in
      let h = trues (parts_ok c p) (data_ok c.length next left p.part.range ∷ held ∷ []) e in
      let q = rest_of c.length next left p.part.range h.1.0 in
      (parted_of h.0, q.0, rest_fits c.length next left p.part.range q.1, leb-true _ _ h.1.1.0, q.1)
  room_of_lem Epilogue e = parted_of e
  room_of_lem Finished e = tt
  room_of_lem (Refused k) e = let h = trues (leb 11 k) (leb k 17 ∷ []) e in omega (arith, leb-true)

  -- the facts of a body as tests
  of_accepted : Accepted c.tag c.length (suc p.framing.after) p.head p.tag → body_ok c p ≡ true
  of_accepted a = rw (eq-eqb _ 0 a.judged, lt-ltb p.framing.after _ a.within)

  -- of one of several parts
  of_parted : Parted c.tag c.length (suc p.framing.after) p.head p.tag → parts_ok c p ≡ true
  of_parted a = all_true (body_ok c p) (is_parts p.head ∷ []) (of_accepted a.accepted, (a.several, tt))

  -- of a plain one
  of_unparted : (next : ℕ) → Unparted c.tag c.length (suc p.framing.after) next p.head p.tag
      → (body_ok c p && plain_ok next p.framing.after p.head) ≡ true
  of_unparted next u =
      rw (of_accepted u.accepted, u.single, le-leb (suc p.framing.after) (size_of p.head.size) u.accepted.within, eq-eqb _ _ u.ends)

  -- of a part's data
  of_rest : (n next left : ℕ) (r : RangeField) → 1 ≤ left → Rest n next left r → data_ok n next left r ≡ true
  of_rest n next left r i z = rw (le-leb _ _ i, z.right, z.own, le-leb _ _ z.within, eq-eqb _ _ z.ends)

  -- and the facts as tests
  of_room : (s : Stage) → Room c.tag c.length s (suc p.framing.after) (known p) → stage_ok c s p ≡ true
  of_room Status h = refl
  of_room Fields h = refl
  of_room (Plain next) h = of_unparted next h.0
  of_room Skip h = all_true (body_ok c p) (is_unsatisfied p.head ∷ []) (of_accepted h.0, (h.1, tt))
  of_room (Preamble k) h = rw (of_parted h.0, le-leb _ _ h.1)
  of_room (PreambleEnd k) h = rw (of_parted h.0, lt-ltb _ _ h.1)
  of_room (FirstDelimiter i) h = rw (of_parted h.0, le-leb _ _ h.1, lt-ltb _ _ h.2)
  of_room (Delimiter i) h = rw (of_parted h.0, lt-ltb _ _ h.1)
  of_room AfterFirstDelimiter h = of_parted h
  of_room AfterDelimiter h = of_parted h
  of_room PartBegin h = of_parted h
  of_room Closing h = of_parted h
  of_room PartLine h = of_parted h
  of_room (Data next left) h = rw (of_parted h.0, of_rest c.length next left p.part.range h.1 h.4, le-leb _ _ h.3)
  of_room Epilogue h = of_parted h
  of_room Finished h = refl
  of_room (Refused k) h = rw (le-leb _ _ h.0, le-leb _ _ h.1)

  -- the rule as facts
  pub reader_of_lem : reader_ok c p ≡ true → Reader c.tag c.length p
  unfolding reader_ok
  reader_of_lem e =
      let h = trues (leb (length p.line) max_line) (frame_tests p) (and_left _ (stage_ok c p.stage p) e) in
      record {
        frame = record {
          line = omega (arith, leb-true);
          fields = omega (arith, leb-true);
          lines = omega (arith, leb-true);
          tag = omega (arith, leb-true);
          boundary = omega (arith, leb-true);
          media = h.1.1.1.1.1.0;
          head_range = h.1.1.1.1.1.1.0;
          part_range = h.1.1.1.1.1.1.1.0;
          size = omega (arith, leb-true);
          after = omega (arith, ltb-true);
        };
        stands = room_of_lem p.stage (and_right (together (leb (length p.line) max_line) (frame_tests p)) _ e);
      }

  -- and the facts as the rule
  pub of_reader : Reader c.tag c.length p → reader_ok c p ≡ true
  unfolding reader_ok
  of_reader r =
      rw (all_true (leb (length p.line) max_line) (frame_tests p) (
        le-leb _ _ r.frame.line,
        (
          le-leb _ _ r.frame.fields,
          (
            le-leb _ _ r.frame.lines,
            (
              le-leb _ _ r.frame.tag,
              (
                le-leb _ _ r.frame.boundary,
                (
                  r.frame.media,
                  (
                    r.frame.head_range,
                    (
                      r.frame.part_range,
                      (
                        le-leb _ _ r.frame.size,
                        (
                          lt-ltb _ _ r.frame.after,
                          tt,
                        ),
                      ),
                    ),
                  ),
                ),
              ),
            ),
          ),
        ),
      ))
      (of_room p.stage r.stands)
