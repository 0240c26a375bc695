-- A line of a part that lies whole in a piece: its bytes, CR and LF at once.
-- Assumes nothing.
use Prim.Native.Nat.{ℕ, suc, ◌+◌, ◌-◌, ◌≤◌}
use native.Mathlib.Omega.{arith}
use mathlib.Core.Path.{◌≡◌, refl, sym, ap, subst, ◌∙◌}
use mathlib.Core.Bool.{Bool, true, false, ◌||◌, not}
use mathlib.Core.List.{List, [], ◌∷◌, ◌++◌, append_assoc}
use lib.Dec.{leb, eqb}
use lib.ListN.{length, take, drop, length-drop}
use lib.Seq.{take-add, length-take-le}
use Rattle.rules_server.specs.Octets.{all}
use Rattle.rules_tablet.specs.Limits.{max_runs, max_line, max_part_lines}
use Rattle.rules_tablet.specs.Fields.{is_field, name_of, value_of, Name, etag, type, range, size, transfer, other, kind_of, is_wrong, is_foreign}
use Rattle.rules_tablet.specs.Heads.{has_range}
use Rattle.rules_tablet.specs.Lines.{is_line_byte, whole}
use Rattle.rules_tablet.specs.Parsers.{Parser, at, with_line, with_part, with_framing, counted_body, part_field, part_line, part_end, part_step, fits, is_refused}
use Rattle.rules_tablet.specs.Feeding.{Held, feed}
use Rattle.rules_tablet.specs.declared.PartHead.{PartHead}
use Rattle.rules_tablet.specs.declared.Stage.{Stage}
use Rattle.rules_tablet.specs.declared.Stage.TheVariants.{PartLine}
use Rattle.laws_reader.proofs.at_once.Steps.{tablet_at, ahead, ahead_zero, ahead_add}
use Rattle.laws_reader.proofs.at_once.Laws.{feed_framing, feed_part}
use Rattle.laws_reader.proofs.at_once.Lines.{arms, never}
use Rattle.reader_state.specs.States.{parser_of, state_at, state_framing, state_part, Sized}
use Rattle.reader_state.specs.declared.ReaderState.{ReaderState}
use Rattle.reader_text.specs.Steps.{Went, on, LineRun, LineEnds, WholeAhead, Leads, before_line, PartAheadIs, TextFrom}
use Rattle.reader_text.specs.declared.PartAhead.{PartAhead}
use Rattle.reader_text.proofs.Whole.{line-whole}

module _ (x : List ℕ) (c : Bool) where
  -- a line that is not refused does not depend on the line before it
  field-same : (k : Name) (v : List ℕ) (p : Parser) (h : PartHead) → is_refused (part_field k v p h).stage ≡ false
      → part_field k v (with_line x c p) h ≡ part_field k v p h
  field-same etag v p h = λ e. refl
  field-same type v p h = λ e. refl
  field-same range v p h = arms (has_range h.range) never (λ e. refl)
  field-same size v p h = λ e. refl
  field-same transfer v p h = λ e. refl
  field-same other v p h = λ e. refl

  line-same : (l : List ℕ) (p : Parser) → is_refused (part_line l p).stage ≡ false → part_line l (with_line x c p) ≡ part_line l p
  unfolding part_line
  line-same l p = arms (leb max_part_lines p.part.lines) never (arms (is_field l) (field-same (kind_of (name_of l)) (value_of l) p p.part) never)

  end_same : (n : ℕ) (p : Parser) → is_refused (part_end n p).stage ≡ false → part_end n (with_line x c p) ≡ part_end n p
  unfolding part_end
  end_same n p =
      arms (eqb p.part.lines 0 || not (has_range p.part.range)) never
      (arms (is_wrong n p.part.range) never (arms (is_foreign n p.part.range) never (arms (fits p) (λ e. refl) never)))

  whole-same : (n : ℕ) (l : List ℕ) (p : Parser) → is_refused (part_step n (whole l) p).stage ≡ false
      → part_step n (whole l) (with_line x c p) ≡ part_step n (whole l) p
  whole-same n [] p = end_same n p
  whole-same n (y ∷ l) p = line-same (y ∷ l) p

-- a parser that stands before a line of a part, with so many bytes of the body after the next
abbrev start : ℕ → Parser → Parser
start a p = at PartLine (with_framing (counted_body a) (with_line [] false p))

-- a line that is not refused is taken with its CR LF, whatever follows, where a counted byte comes behind it
feed_part_whole : (lim : ℕ) (t : List ℕ) (n : ℕ) (h : Held) (l rest : List ℕ) (p : Parser) (j : ℕ) → all is_line_byte l ≡ true → length l ≤ max_line
    → is_refused (part_step n (whole l) (start (suc j) p)).stage ≡ false
    → feed lim t n (l ++ (13 ∷ 10 ∷ rest)) (tablet_at h (start (length l + suc (suc j)) p)) ≡ ahead (length l + 2)
    (feed lim t n rest (tablet_at h (with_framing (counted_body j) (part_step n (whole l) (start (suc j) p)))))
feed_part_whole lim t n h l rest p j fit few r =
    let e = whole-same l true n l (start (suc j) p) r in
    let f : is_refused (part_step n (whole l) (with_line l true (start (suc j) p))).stage ≡ false = ap (λ (q : Parser). is_refused q.stage) e ∙ r in
    let a : (length l + suc (suc j)) - length l ≡ suc (suc j) = omega arith in
    feed_part lim t n (length l) l (13 ∷ 10 ∷ rest) refl (start (length l + suc (suc j)) p) h refl fit (omega (arith, few)) refl (omega arith)
    ∙ ap (λ (i : ℕ). ahead (length l) (feed lim t n (13 ∷ 10 ∷ rest) (tablet_at h (with_line l false (start i p))))) a
    ∙ ap (ahead (length l)) (feed_framing lim t n 13 (10 ∷ rest) h (with_line l false (start (suc (suc j)) p)) refl refl refl)
    ∙ ap (λ y. ahead (length l) (ahead 1 y)) (feed_framing lim t n 10 rest h (with_line l true (start (suc j) p)) refl refl f)
    ∙ ap (λ (q : Parser). ahead (length l) (ahead 1 (ahead 1 (feed lim t n rest (tablet_at h (with_framing (counted_body j) q)))))) e
    ∙ ap (ahead (length l)) (ahead_add 1 1 (feed lim t n rest (tablet_at h (with_framing (counted_body j) (part_step n (whole l) (start (suc j) p))))))
    ∙ ahead_add (length l) 2 (feed lim t n rest (tablet_at h (with_framing (counted_body j) (part_step n (whole l) (start (suc j) p)))))

-- no byte leads nowhere
pub lead_none : (n : ℕ) (piece : List ℕ) (p : Parser) → Leads n piece 0 p p
lead_none n piece p t h rest = sym (ahead_zero (feed max_runs t n rest (tablet_at h p)))

-- bytes and those behind them
lead_on : (n : ℕ) (piece : List ℕ) (i k : ℕ) (p q r : Parser) → Leads n piece i p q → Leads n (drop i piece) k q r → Leads n piece (i + k) p r
lead_on n piece i k p q r f g t h rest =
    ap (λ a. feed max_runs t n a (tablet_at h p)) (ap (λ a. a ++ rest) (take-add i k piece) ∙ append_assoc (take i piece) (take k (drop i piece)) rest)
    ∙ f t h (take k (drop i piece) ++ rest)
    ∙ ap (ahead i) (g t h rest)
    ∙ ahead_add i k (feed max_runs t n rest (tablet_at h r))

-- a line that is not refused, with its CR LF
line_leads : (n : ℕ) (piece : List ℕ) (k j : ℕ) → LineRun piece max_line k → LineEnds piece k → (y z : PartHead) (s : Stage) (p : Parser)
    → part_step n (whole (take k piece)) (before_line y (suc j) p) ≡ at s (before_line z (suc j) p) → is_refused s ≡ false
    → Leads n piece (k + 2) (before_line y (k + suc (suc j)) p) (at s (before_line z j p))
line_leads n piece k j r w y z s p e f t h rest =
    let l = take k piece in
    let m = length-take-le k piece r.within in
    let g : is_refused (part_step n (whole l) (before_line y (suc j) p)).stage ≡ false = ap (λ (q : Parser). is_refused q.stage) e ∙ f in
    ap (λ a. feed max_runs t n a (tablet_at h (before_line y (k + suc (suc j)) p))) (line-whole piece k w rest)
    ∙ ap (λ (i : ℕ). feed max_runs t n (l ++ (13 ∷ 10 ∷ rest)) (tablet_at h (before_line y (i + suc (suc j)) p))) (sym m)
    ∙ feed_part_whole max_runs t n h l rest (with_part y p) j r.fit (omega (arith, m, r.few)) g
    ∙ ap (λ (q : Parser). ahead (length l + 2) (feed max_runs t n rest (tablet_at h (with_framing (counted_body j) q)))) e
    ∙ ap (λ (i : ℕ). ahead (i + 2) (feed max_runs t n rest (tablet_at h (at s (before_line z j p))))) m

module _ (n : ℕ) (piece : List ℕ) (len : ℕ) (cr : Bool) (x : PartHead) (size after : ℕ) where
  -- before the first line
  pub no_line : PartAheadIs n piece len cr x size after (record { part = x; stage = PartLine; after = after; taken = 0 })
  no_line = record { begins = λ z. absurd (z refl); within = omega arith; leads = λ p b. lead_none n piece (before_line x after p) }

  -- behind one line more
  next-line : (y : PartHead) (left i k : ℕ) → PartAheadIs n piece len cr x size after (record { part = y; stage = PartLine; after = left; taken = i })
      → WholeAhead len cr left (drop i piece) k → (z : PartHead) (s : Stage)
      → ((p : Parser) → length p.boundary ≡ size
      → part_step n (whole (take k (drop i piece))) (before_line y (left - (k + 1)) p) ≡ at s (before_line z (left - (k + 1)) p)) → is_refused s ≡ false
      → PartAheadIs n piece len cr x size after (record { part = z; stage = s; after = (left - (k + 1)) - 1; taken = (i + k) + 2 })
  next-line y left i k v u z s e f =
      let j = (left - (k + 1)) - 1 in
      let room : left - (k + 1) ≡ suc j = omega (arith, u.few) in
      let count : left ≡ k + suc (suc j) = omega (arith, u.few) in
      let add : (i + k) + 2 ≡ i + (k + 2) = omega arith in
      record {
        begins = λ q. (u.empty, u.unended);
        within = let d = length-drop i piece in omega (arith, d, u.ends.within, v.within);
        leads = λ p b.
            let step = subst (λ (a : ℕ). part_step n (whole (take k (drop i piece))) (before_line y a p) ≡ at s (before_line z a p)) room (e p b) in
            let one = subst (λ (a : ℕ). Leads n (drop i piece) (k + 2) (before_line y a p) (at s (before_line z j p))) (sym count)
            (line_leads n (drop i piece) k j u.run u.ends y z s p step f) in
            subst (λ (m : ℕ). Leads n piece m (before_line x after p) (at s (before_line z j p))) (sym add)
            (lead_on n piece i (k + 2) (before_line x after p) (before_line y left p) (at s (before_line z j p)) (v.leads p b) one);
      }

  -- the same of a record that stands before a line
  pub line_more : (r : PartAhead) (k : ℕ) → r.stage ≡ PartLine → PartAheadIs n piece len cr x size after r
      → WholeAhead len cr r.after (drop r.taken piece) k → (z : PartHead) (s : Stage)
      → ((p : Parser) → length p.boundary ≡ size
      → part_step n (whole (take k (drop r.taken piece))) (before_line r.part (r.after - (k + 1)) p) ≡ at s (before_line z (r.after - (k + 1)) p))
      → is_refused s ≡ false
      → PartAheadIs n piece len cr x size after (record { part = z; stage = s; after = (r.after - (k + 1)) - 1; taken = (r.taken + k) + 2 })
  line_more r k e v =
      next-line r.part r.after r.taken k
      (subst (λ (t : Stage). PartAheadIs n piece len cr x size after (record { part = r.part; stage = t; after = r.after; taken = r.taken })) e v)

-- what the lines leave of a reader that stands before the first
pub part_is : (t : List ℕ) (n : ℕ) (piece : List ℕ) (s : ReaderState) (line tag boundary : List ℕ) (r : PartAhead)
    → Sized s line tag boundary → s.stage ≡ PartLine
    → PartAheadIs n piece s.line_len s.cr s.part s.boundary_len s.framing.after r → (r.taken ≡ 0 → ⊥)
    → TextFrom t n piece s line tag boundary r.taken (state_framing (counted_body r.after) (state_at r.stage (state_part r.part s)))
    line tag boundary
part_is t n piece s line tag boundary r w e v z =
    let g = w.arrays.within in
    let p = parser_of s line tag boundary in
    let b = v.begins z in
    let u : s.boundary_len ≤ length boundary = omega (arith, g.boundary_fits, w.arrays.boundary_room) in
    let f : take s.line_len line ≡ [] = ap (λ (i : ℕ). take i line) b.0 in
    let same : p ≡ before_line s.part s.framing.after p = λ j. at (e j) (with_line (f j) (b.1 j) p) in
    record {
      fits = record { line = omega arith; tag = g.tag_fits; boundary = g.boundary_fits };
      went = λ h.
          subst (λ (q : Parser). Went t n piece (tablet_at h q) r.taken (tablet_at h (at r.stage (before_line r.part r.after p)))) (sym same)
          (on (omega arith) v.within (v.leads p (length-take-le s.boundary_len boundary u) t h));
    }
