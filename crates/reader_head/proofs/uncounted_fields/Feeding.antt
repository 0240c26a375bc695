-- What the lines whose names do not count are to feeding: they are taken, and the head has so many lines more.
-- Assumes nothing.
use Prim.Native.Nat.{ℕ, zero, suc, ◌+◌, ◌≤◌, ◌<◌}
use native.Mathlib.Omega.{arith}
use mathlib.Core.Path.{◌≡◌, refl, sym, ap, subst, ◌∙◌}
use mathlib.Core.Bool.{Bool, true, false, false≢true}
use mathlib.Core.List.{List, [], ◌∷◌, ◌++◌, append_assoc}
use lib.ListN.{length, take, drop}
use lib.Seq.{take-add, take-append-add}
use borrow.Author.Tests.{lt-leb}
use Rattle.rules_server.specs.Octets.{all}
use Rattle.rules_tablet.specs.Limits.{max_fields}
use Rattle.rules_tablet.specs.Fields.{is_field, name_of, Name, etag, type, range, size, transfer, other, kind_of}
use Rattle.rules_tablet.specs.Lines.{is_line_byte, whole}
use Rattle.rules_tablet.specs.Heads.{with_field_lines}
use Rattle.rules_tablet.specs.Parsers.{Parser, field_line, fields_step}
use Rattle.rules_tablet.specs.Feeding.{Held, feed}
use Rattle.rules_tablet.specs.declared.Stage.TheVariants.{Fields}
use Rattle.laws_reader.proofs.at_once.Steps.{tablet_at, ahead, ahead_zero, ahead_add}
use Rattle.laws_reader.proofs.at_once.Lines.{start, same_start, feed-whole}
use Rattle.reader_head.specs.Lines.{line_at, is_other, other_line, other_lines}
use Rattle.reader_head.proofs.uncounted_fields.Counts.{Line, line_is, plus, lines_end, lines_on}
use Rattle.reader_head.specs.declared.uncounted_fields.OtherLines.{OtherLines}

-- the parser with so many field lines of its head
abbrev pub with-lines : ℕ → Parser → Parser
with-lines k p = record {
  stage = p.stage;
  framing = p.framing;
  line = p.line;
  cr = p.cr;
  head = with_field_lines k p.head;
  part = p.part;
  tag = p.tag;
  boundary = p.boundary;
}

-- with so many more
abbrev pub more_lines : ℕ → Parser → Parser
more_lines k p = with-lines (p.head.lines + k) p

-- the same by the number of lines
same-lines : (j k : ℕ) (p : Parser) (i : ℕ) → p.head.lines + i + j ≡ p.head.lines + k → more_lines j (more_lines i p) ≡ more_lines k p
same-lines j k p i e = ap (λ (m : ℕ). with-lines m p) e

no_lines : (p : Parser) → p ≡ more_lines 0 p
no_lines p =
    let e : p.head.lines ≡ p.head.lines + 0 = omega arith in
    ap (λ (m : ℕ). with-lines m p) e

-- the bytes of the line may stand in one
line-fits : (l : List ℕ) → all is_line_byte (line_at l) ≡ true
line-fits [] = refl
line-fits (x ∷ l) = go (is_line_byte x) refl (line-fits l) where
  go : (b : Bool) → is_line_byte x ≡ b → all is_line_byte (line_at l) ≡ true → all is_line_byte (line_at (x ∷ l)) ≡ true
  go true e h = rw (e, h, e)
  go false e h = rw e

-- the name that does not count
is_other_lem : (k : Name) → is_other k ≡ true → k ≡ other
is_other_lem etag e = absurd (false≢true e)
is_other_lem type e = absurd (false≢true e)
is_other_lem range e = absurd (false≢true e)
is_other_lem size e = absurd (false≢true e)
is_other_lem transfer e = absurd (false≢true e)
is_other_lem other e = refl

-- an empty line is no field
no_empty : is_field [] ≡ true → ⊥
unfolding is_field
no_empty e = false≢true e

-- what a field line whose name does not count makes of the parser
other_step : (t : List ℕ) (n : ℕ) (l : List ℕ) (p : Parser) → is_field l ≡ true → is_other (kind_of (name_of l)) ≡ true → p.head.lines < max_fields
    → fields_step t n (whole l) (start p) ≡ start (more_lines 1 p)
unfolding field_line
other_step t n [] p f o u = absurd (no_empty f)
other_step t n (x ∷ l) p f o u =
    let e : suc p.head.lines ≡ p.head.lines + 1 = omega arith in
    rw (lt-leb max_fields p.head.lines u, f, is_other_lem (kind_of (name_of (x ∷ l))) o)
    (ap (λ (m : ℕ). start (with-lines m p)) e)

-- a line at the front is taken with its CR LF
line-front : (l rest : List ℕ) → Line l → take (other_line l) l ++ rest ≡ line_at l ++ (13 ∷ 10 ∷ rest)
line-front l rest w =
    let d = drop 2 (drop (length (line_at l)) l) in
    ap (λ (k : ℕ). take k l ++ rest) w.size
    ∙ ap (λ (y : List ℕ). take (length (line_at l) + 2) y ++ rest) w.ended
    ∙ ap (λ (y : List ℕ). y ++ rest) (take-append-add (line_at l) (13 ∷ 10 ∷ d) 2)
    ∙ append_assoc (line_at l) (13 ∷ 10 ∷ []) rest

module _ (lim : ℕ) (t : List ℕ) (n : ℕ) (h : Held) where
  feed-line : (l rest : List ℕ) (p : Parser) → Line l → p.head.lines < max_fields
      → feed lim t n (take (other_line l) l ++ rest) (tablet_at h (start p)) ≡ ahead (other_line l) (feed lim t n rest (tablet_at h (start (more_lines 1 p))))
  feed-line l rest p w u =
      let e = other_step t n (line_at l) p w.field w.name u in
      ap (λ (x : List ℕ). feed lim t n x (tablet_at h (start p))) (line-front l rest w)
      ∙ feed-whole lim t n h (line_at l) rest p (line-fits l) w.few (rw e)
      ∙ ap (λ (q : Parser). ahead (length (line_at l) + 2) (feed lim t n rest (tablet_at h q))) e
      ∙ ap (λ (k : ℕ). ahead k (feed lim t n rest (tablet_at h (start (more_lines 1 p))))) (sym w.size)

  -- so many lines and bytes are taken from the front of l, whatever follows
  abbrev Takes : List ℕ → List ℕ → Parser → OtherLines → Type 0
  Takes l rest p o = feed lim t n (take o.taken l ++ rest) (tablet_at h (start p)) ≡ ahead o.taken
      (feed lim t n rest (tablet_at h (start (more_lines o.lines p))))

  takes_none : (l rest : List ℕ) (p : Parser) → Takes l rest p (record { lines = 0; taken = 0 })
  takes_none l rest p =
      ap (λ (q : Parser). feed lim t n rest (tablet_at h (start q))) (no_lines p)
      ∙ sym (ahead_zero (feed lim t n rest (tablet_at h (start (more_lines 0 p)))))

  takes_more : (l rest : List ℕ) (p : Parser) (o : OtherLines) → Line l → p.head.lines < max_fields → Takes (drop (other_line l) l) rest (more_lines 1 p) o
      → Takes l rest p (plus 1 (other_line l) o)
  takes_more l rest p o w u f =
      let k = other_line l in
      let more = take o.taken (drop k l) in
      ap (λ (x : List ℕ). feed lim t n (x ++ rest) (tablet_at h (start p))) (take-add k o.taken l)
      ∙ ap (λ (x : List ℕ). feed lim t n x (tablet_at h (start p))) (append_assoc (take k l) more rest)
      ∙ feed-line l (more ++ rest) p w u
      ∙ ap (ahead k) f
      ∙ ahead_add k o.taken (feed lim t n rest (tablet_at h (start (more_lines o.lines (more_lines 1 p)))))
      ∙ ap (λ (q : Parser). ahead (k + o.taken) (feed lim t n rest (tablet_at h (start q)))) (same-lines o.lines (1 + o.lines) p 1 (omega arith))

  feed-lines : (m : ℕ) (l rest : List ℕ) (p : Parser) → p.head.lines + m ≤ max_fields → Takes l rest p (other_lines m l)
  unfolding other_lines
  feed-lines zero l rest p u = takes_none l rest p
  feed-lines (suc m) l rest p u = go (other_line l) refl (feed-lines m (drop (other_line l) l) rest (more_lines 1 p) (omega arith)) where
    go : (k : ℕ) → other_line l ≡ k → Takes (drop (other_line l) l) rest (more_lines 1 p) (other_lines m (drop (other_line l) l))
        → Takes l rest p (other_lines (suc m) l)
    go zero e f = subst (Takes l rest p) (sym (lines_end m l e)) (takes_none l rest p)
    go (suc k) e f =
        let some : other_line l ≡ 0 → ⊥ = λ z. omega arith in
        subst (Takes l rest p) (sym (lines_on m l (other_line l) refl some))
        (takes_more l rest p (other_lines m (drop (other_line l) l)) (line_is l some) (omega arith) f)

  -- the lines at the front of a piece are taken, whatever follows
  pub feed-other_lines : (m : ℕ) (l rest : List ℕ) (p : Parser) → p.stage ≡ Fields → p.line ≡ [] → p.cr ≡ false → p.head.lines + m ≤ max_fields
      → feed lim t n (take (other_lines m l).taken l ++ rest) (tablet_at h p) ≡ ahead (other_lines m l).taken
      (feed lim t n rest (tablet_at h (more_lines (other_lines m l).lines p)))
  feed-other_lines m l rest p s e c u =
      let o = other_lines m l in
      subst (λ (q : Parser). feed lim t n (take o.taken l ++ rest) (tablet_at h q) ≡ ahead o.taken
      (feed lim t n rest (tablet_at h (more_lines o.lines q)))) (sym (same_start p s e c)) (feed-lines m l rest p u)
