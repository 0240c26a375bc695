-- A reader that meets its rule in a body has read an accepted head.
-- Assumes nothing.
use Rattle.std.specs.Prelude.{Option, None, Some}
use Prim.Native.Nat.{ℕ, suc, ◌+◌}
use native.Mathlib.Omega.{arith}
use mathlib.Core.Path.{◌≡◌, refl}
use mathlib.Core.Bool.{Bool, true, false, not, true≢false, false≢true}
use mathlib.Core.List.{List, [], ◌∷◌}
use mathlib.Core.Logic.{◌⊎◌, inl, inr}
use lib.Dec.{eqb}
use borrow.Author.Tests.{eqb-true, ne_eqb, not-true}
use Rattle.rules_server.specs.Octets.{same}
use Rattle.rules_server.specs.Tags.{bad_boundary}
use Rattle.rules_tablet.specs.Fields.{last_of}
use Rattle.rules_tablet.specs.Heads.{is_multipart, is_broken, has_size, size_of, is_ok, is_part, is_unsatisfied}
use Rattle.rules_tablet.specs.Parsers.{Parser}
use Rattle.rules_tablet.specs.Calls.{State, type_ok}
use Rattle.rules_tablet.specs.declared.TypeField.{TypeField}
use Rattle.rules_tablet.specs.declared.TypeField.TheVariants.{Absent as NoType, Other, Multipart, Broken}
use Rattle.rules_tablet.specs.declared.Stage.{Stage}
use Rattle.rules_tablet.specs.declared.Stage.TheVariants.{Status, Fields, Plain, Skip, Preamble, PreambleEnd, FirstDelimiter, Delimiter, AfterFirstDelimiter}
use Rattle.rules_tablet.specs.declared.Stage.TheVariants.{AfterDelimiter, PartBegin, Closing, PartLine, Data, Epilogue, Finished, Refused}
use Rattle.rules_demands.specs.ReaderRule.{SizeSeen, TagSeen, PlainHead, PartsHead, PartRead, HeadRead, BodiesFollowHeads}
use Rattle.laws_reader.proofs.rules_kept.Tests.{and_left, and_right, or_rest}
use Rattle.laws_reader.proofs.rules_kept.Lines.{right_span}
use Rattle.laws_reader.proofs.rules_kept.Accepted.{tagged, as_long, sized, unbroken_type, ok_first, in_copy, spanning, plain-fits}
use Rattle.laws_reader.proofs.rules_kept.Rules.{Frame, Accepted, Parted, Unparted, Rest, known, Room, reader_of_lem, rest_fits}

-- texts that are the same are equal
same_equal : (a b : List ℕ) → same a b ≡ true → a ≡ b
same_equal [] [] e = refl
same_equal [] (y ∷ b) e = absurd (false≢true e)
same_equal (x ∷ a) [] e = absurd (false≢true e)
same_equal (x ∷ a) (y ∷ b) e =
    rw (eqb-true x y (and_left (eqb x y) (same a b) e), same_equal a b (and_right (eqb x y) (same a b) e))

-- a size that was seen
size_is : (x : Option ℕ) → has_size x ≡ true → x ≡ Some (size_of x)
size_is None e = absurd (false≢true e)
size_is (Some k) e = refl

-- a multipart's type that was read with its boundary
multipart_is : (x : TypeField) (b : List ℕ) → is_multipart x ≡ true → is_broken x ≡ false → type_ok x b ≡ true → (x ≡ Multipart) × (bad_boundary b ≡ false)
multipart_is NoType b m e h = absurd (false≢true m)
multipart_is Other b m e h = absurd (false≢true m)
multipart_is Multipart b m e h = (refl, not-true _ h)
multipart_is Broken b m e h = absurd (true≢false e)

module _ (c : State) (p : Parser) (f : Frame p) where
  -- of an accepted head
  size_seen : Accepted c.tag c.length (suc p.framing.after) p.head p.tag → SizeSeen p
  size_seen a = record {
    size = size_of p.head.size;
    seen = size_is p.head.size (sized c.tag c.length p.head p.tag a.judged);
    left = a.within;
  }

  -- that is no 416
  tag_seen : Accepted c.tag c.length (suc p.framing.after) p.head p.tag → is_unsatisfied p.head ≡ false → TagSeen c p
  tag_seen a u =
      let h = tagged c.tag c.length p.head p.tag a.judged u in
      record { seen = and_left p.head.has_tag _ h; own = same_equal _ _ (and_right p.head.has_tag (same p.tag c.tag) h) }

  -- of several parts
  parts_head_lem : Parted c.tag c.length (suc p.framing.after) p.head p.tag → PartsHead c p
  parts_head_lem h =
      let status = eqb-true p.head.status 206 (and_left (eqb p.head.status 206) (is_multipart p.head.media) h.several) in
      let several = and_right (eqb p.head.status 206) (is_multipart p.head.media) h.several in
      let whole = unbroken_type c.tag c.length p.head p.tag h.accepted.judged h.several in
      let type = multipart_is p.head.media p.boundary several whole f.media in
      record {
        size = size_seen h.accepted;
        tag = tag_seen h.accepted (ne_eqb p.head.status 416 (λ e. omega (arith, status)));
        status = status;
        type = type.0;
        boundary = type.1;
      }

  -- of a plain body
  plain_head_lem : (next : ℕ) → Unparted c.tag c.length (suc p.framing.after) next p.head p.tag → PlainHead c p next
  plain_head_lem next u = go (is_ok p.head) refl
    where
      whole : is_unsatisfied p.head ≡ false → (((p.head.status ≡ 200) × (next + suc p.framing.after ≡ c.length))
          ⊎ ((p.head.status ≡ 206) × (is_multipart p.head.media ≡ false) × (next + suc p.framing.after ≡ suc (last_of p.head.range))))
          → PlainHead c p next
      whole e k = record {
        size = size_seen u.accepted;
        tag = tag_seen u.accepted e;
        kind = k;
        fits = omega (arith, u.ends, plain-fits c.tag c.length p.head p.tag u.accepted.judged u.single);
      }

      go : (b : Bool) → is_ok p.head ≡ b → PlainHead c p next
      go true o =
          let status = eqb-true p.head.status 200 o in
          let j = u.accepted.judged in
          whole (ne_eqb p.head.status 416 (λ e. omega (arith, status))) (inl (
            status,
            omega (arith, u.ends, ok_first c.tag c.length p.head p.tag j o, as_long c.tag c.length p.head p.tag j o),
          ))
      go false o =
          let s = or_rest (is_ok p.head) (is_part p.head) u.single o in
          let status = eqb-true p.head.status 206 (and_left (eqb p.head.status 206) (not (is_multipart p.head.media)) s) in
          let j = u.accepted.judged in
          whole (ne_eqb p.head.status 416 (λ e. omega (arith, status))) (inr (
            status,
            not-true _ (and_right (eqb p.head.status 206) (not (is_multipart p.head.media)) s),
            omega (
              arith,
              u.ends,
              spanning c.tag c.length p.head p.tag j s,
              right_span c.length p.head.range (in_copy c.tag c.length p.head p.tag j s),
            ),
          ))

  -- of a part's data
  part_read : (next left : ℕ) → Rest c.length next left p.part.range → PartRead c p next left
  part_read next left z =
      let r = right_span c.length p.part.range z.right in
      record {
        right = z.right;
        own = z.own;
        begun = omega (arith, z.ends, z.within);
        ends = omega (arith, z.ends, r);
        fits = rest_fits c.length next left p.part.range z;
      }

  -- by the stage
  head_read : (s : Stage) → Room c.tag c.length s (suc p.framing.after) (known p) → HeadRead c s p
  head_read Status h = tt
  head_read Fields h = tt
  head_read (Plain next) h = plain_head_lem next h.0
  head_read Skip h = record { size = size_seen h.0; status = eqb-true _ _ h.1 }
  head_read (Preamble k) h = parts_head_lem h.0
  head_read (PreambleEnd k) h = parts_head_lem h.0
  head_read (FirstDelimiter i) h = parts_head_lem h.0
  head_read (Delimiter i) h = parts_head_lem h.0
  head_read AfterFirstDelimiter h = parts_head_lem h
  head_read AfterDelimiter h = parts_head_lem h
  head_read PartBegin h = parts_head_lem h
  head_read Closing h = parts_head_lem h
  head_read PartLine h = parts_head_lem h
  head_read (Data next left) h = (parts_head_lem h.0, part_read next left h.4)
  head_read Epilogue h = parts_head_lem h
  head_read Finished h = tt
  head_read (Refused k) h = tt

-- a reader that meets its rule in a body has read such a head
pub bodies_follow_heads : BodiesFollowHeads
bodies_follow_heads c p e = let r = reader_of_lem c p e in head_read c p r.frame p.stage r.stands
