-- The lines of a part so far, and one more: the parser refuses the line exactly by a fault of it; and the judgement at the part's empty line.
use Prim.Native.Nat.{ℕ, suc}
use mathlib.Core.Path.{◌≡◌, refl, sym, ◌∙◌}
use mathlib.Core.Bool.{Bool, true, false, cond, true≢false}
use mathlib.Core.List.{List, [], ◌∷◌, ◌++◌}
use Rattle.std.specs.Prelude.{Option, None, Some}
use native.Mathlib.Omega.{arith}
use lib.Dec.{eqb, leb}
use lib.ListN.{length, length-append}
use borrow.Author.Tests.{leb-true, leb-false}
use Rattle.rules_tablet.specs.Limits.{max_part_lines}
use Rattle.rules_tablet.specs.Fields.{is_field, name_of, value_of, Name, etag, type, range, size, transfer, other, kind_of, range_field}
use Rattle.rules_tablet.specs.Parsers.{Parser, refuse, with_line, with_part, part_field, part_line}
use Rattle.rules_tablet.specs.declared.RangeField.TheVariants.{Absent}
use Rattle.rules_tablet.specs.declared.PartHead.{PartHead}
use Rattle.rules_tablet.specs.declared.Stage.TheVariants.{PartLine}
use Rattle.rules_tablet.specs.declared.Head.{Head}
use Rattle.rules_demands.specs.AcceptanceGrammar.{Line, number_of, lookup}
use Rattle.laws_reader.proofs.own_answers.Multipart.{part_of, in_body}
use Rattle.laws_refusals.proofs.acceptance.Fields.{said_or}
use Rattle.laws_refusals.proofs.acceptance.Values.{range_there}
use Rattle.rules_demands.specs.RefusalParts.{PartHeading, PartLineFault, no_field, one_too_many, repeated}
use Rattle.laws_refusals.proofs.refusals.Fields.{is_some, added, lookup-last, count-append, lines-last, lines-front, one_more, once, unfound, another}
use Rattle.laws_refusals.proofs.refusals.Fields.{found-count, last-line}

-- what the lines of a part said: their count, and the range
abbrev pub part_said : List (List ℕ) → PartHead
part_said fs = part_of (length fs) (said_or Absent range_field (lookup range fs))

-- a line of the name kd is refused where this range was found
abbrev part_clash : Name → Option (List ℕ) → Bool
part_clash etag o = false
part_clash type o = false
part_clash range o = is_some o
part_clash size o = false
part_clash transfer o = false
part_clash other o = false

-- so it is by the parser
part_field_by : (kd : Name) (v : List ℕ) (m : ℕ) (o : Option (List ℕ)) (p : Parser)
    → part_field kd v p (part_of m (said_or Absent range_field o)) ≡ cond (part_clash kd o) (refuse 15 p)
    (with_part (part_of (suc m) (said_or Absent range_field (added range kd v o))) p)
part_field_by etag v m o p = refl
part_field_by type v m o p = refl
part_field_by range v m None p = refl
part_field_by range v m (Some w) p = rw (range_there w)
part_field_by size v m o p = refl
part_field_by transfer v m o p = refl
part_field_by other v m o p = refl

-- a line that is refused by its name has a fault
part_clash_fault : (fs : List (List ℕ)) (l : List ℕ) (kd : Name) → kind_of (name_of l) ≡ kd → part_clash kd (lookup range fs) ≡ true → PartLineFault fs l
part_clash_fault fs l etag e c = another c
part_clash_fault fs l type e c = another c
part_clash_fault fs l range e c = repeated (rw e) (found-count range fs c)
part_clash_fault fs l size e c = another c
part_clash_fault fs l transfer e c = another c
part_clash_fault fs l other e c = another c

-- one that is not finds no range before it
part_free : (kd : Name) (o : Option (List ℕ)) → part_clash kd o ≡ false → eqb (number_of range) (number_of kd) ≡ true → o ≡ None
part_free etag o c = another
part_free type o c = another
part_free range o c = λ q. unfound o c
part_free size o c = another
part_free transfer o c = another
part_free other o c = another

-- what the lines of a part said with one more
said_more : (fs : List (List ℕ)) (l : List ℕ)
    → part_of (suc (length fs)) (said_or Absent range_field (added range (kind_of (name_of l)) (value_of l) (lookup range fs))) ≡ part_said (fs ++ (l ∷ []))
said_more fs l =
    let longer = length-append fs (l ∷ []) in
    let len : length (fs ++ (l ∷ [])) ≡ suc (length fs) = omega arith in
    rw (lookup-last range fs l, len)

module _ (h : Head) (t b : List ℕ) where
  -- a parser behind the line l so far, behind lines of a part, with k bytes of the body after the next one
  abbrev pub in_part : List (List ℕ) → ℕ → List ℕ → Bool → Parser
  in_part fs k l cr = with_line l cr (in_body PartLine k (part_said fs) h t b)

  -- a line behind lines of a part: it has a fault and is refused, or the lines go on
  pub data PartCase (fs : List (List ℕ)) (l : List ℕ) (k : ℕ) : Type 0 where
    faulty : PartLineFault fs l → part_line l (in_part fs k l true) ≡ refuse 15 (in_part fs k l true) → PartCase fs l k
    longer : PartHeading (fs ++ (l ∷ [])) → part_line l (in_part fs k l true) ≡ in_part (fs ++ (l ∷ [])) k [] false → PartCase fs l k

  -- every line is one of these
  pub part_case : (fs : List (List ℕ)) (l : List ℕ) (k : ℕ) → PartHeading fs → Line l → PartCase fs l k
  unfolding part_line
  part_case fs l k heading line = go (leb max_part_lines (length fs)) (is_field l) (part_clash (kind_of (name_of l)) (lookup range fs)) refl refl refl
    where
      go : (a b c : Bool) → leb max_part_lines (length fs) ≡ a → is_field l ≡ b → part_clash (kind_of (name_of l)) (lookup range fs) ≡ c → PartCase fs l k
      go true b c e f g = let m = leb-true max_part_lines (length fs) e in faulty (one_too_many (omega (arith, heading.few))) (rw e)
      go false false c e f g = faulty (no_field f) (rw (e, f))
      go false true true e f g =
          let by = part_field_by (kind_of (name_of l)) (value_of l) (length fs) (lookup range fs) (in_part fs k l true) in
          faulty (part_clash_fault fs l (kind_of (name_of l)) refl g) (rw (e, f) (by ∙ rw g))
      go false true false e f g =
          let by = part_field_by (kind_of (name_of l)) (value_of l) (length fs) (lookup range fs) (in_part fs k l true) in
          let room = leb-false max_part_lines (length fs) e in
          let more = length-append fs (l ∷ []) in
          longer
          (record {
            lines = lines-last fs l heading.lines (record { line = line; formed = f });
            few = omega (arith, more, room);
            one_range = one_more range fs l heading.one_range (part_free (kind_of (name_of l)) (lookup range fs) g);
          })
          (rw (e, f) (by ∙ rw (g, said_more fs l)))

-- the lines of a part without the last ones
pub part_front : (a b : List (List ℕ)) → PartHeading (a ++ b) → PartHeading a
part_front a b h =
    let more = length-append a b in
    let c = count-append range a b in
    record { lines = lines-front a b h.lines; few = omega (arith, more, h.few); one_range = omega (arith, c, h.one_range) }

-- the last line of a part has no fault
pub part_last_right : (fs : List (List ℕ)) (l : List ℕ) → PartHeading (fs ++ (l ∷ [])) → PartLineFault fs l → ⊥
part_last_right fs l h (no_field e) = true≢false (sym (last-line fs l h.lines).formed ∙ e)
part_last_right fs l h (one_too_many e) = let more = length-append fs (l ∷ []) in omega (arith, more, h.few)
part_last_right fs l h (repeated e f) = once range fs l h.one_range e f
