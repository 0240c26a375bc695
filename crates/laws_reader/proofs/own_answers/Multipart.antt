-- The body of a multipart, byte by byte: marks, the lines of a part, its data, and the closing mark.
use Prim.Native.Nat.{ℕ, zero, suc, ◌+◌, ◌-◌, ◌≤◌, ◌<◌}
use mathlib.Core.Path.{◌≡◌, refl, sym, ap, ◌∙◌}
use mathlib.Core.Bool.{true, false, true≢false}
use mathlib.Core.List.{List, [], ◌∷◌, ◌++◌, append_assoc}
use Rattle.std.specs.Prelude.{None}
use native.Mathlib.Omega.{arith}
use lib.ListN.{length, get_or, length-append}
use lib.Seq.{get_or_at}
use borrow.Author.Tests.{le-leb, lt-leb, le-ltb, eq-eqb, ne_eqb}
use Rattle.rules_server.specs.Octets.{is_nil}
use Rattle.rules_server.specs.Texts.{crlf, type_name, range_name}
use Rattle.rules_server.specs.Answers.{Cell, own, from, own_then, from_then, field, dash_boundary}
use Rattle.rules_tablet.specs.Limits.{max_part_lines}
use Rattle.rules_tablet.specs.Fields.{name_of, value_of, is_field, Name, type, range, kind_of, range_field}
use Rattle.rules_tablet.specs.Parsers.{Parser, with_line, with_part, with_framing, counted_body, delimiter_step, part_field, part_line, part_end, event, is_refused}
use Rattle.rules_tablet.specs.Feeding.{is_over}
use Rattle.rules_tablet.specs.declared.RangeField.{RangeField}
use Rattle.rules_tablet.specs.declared.RangeField.TheVariants.{Absent, Of}
use Rattle.rules_tablet.specs.declared.Head.{Head}
use Rattle.rules_tablet.specs.declared.PartHead.{PartHead}
use Rattle.rules_tablet.specs.declared.Stage.{Stage}
use Rattle.rules_tablet.specs.declared.Stage.TheVariants.{Preamble, FirstDelimiter, Delimiter, AfterFirstDelimiter, AfterDelimiter, PartBegin, Closing}
use Rattle.rules_tablet.specs.declared.Stage.TheVariants.{PartLine, Data, Epilogue, Finished}
use Rattle.rules_demands.specs.FeedingFollowed.{next}
use Rattle.laws_reader.proofs.own_answers.Segments.{Passes, step}
use Rattle.laws_reader.proofs.own_answers.Lines.{part_bytes}
use Rattle.laws_reader.proofs.own_answers.Names.{IsValue, IsLine, type_field_lem, range_field_lem}

-- the lines of a part so far: their count, and the range that they said
abbrev pub part_of : ℕ → RangeField → PartHead
part_of k r = record { lines = k; range = r }

-- a parser in the body, with k bytes of it after the next one, between two lines
abbrev pub in_body : Stage → ℕ → PartHead → Head → List ℕ → List ℕ → Parser
in_body s k x h t b = record { stage = s; framing = counted_body k; line = []; cr = false; head = h; part = x; tag = t; boundary = b }

module _ (tag : List ℕ) (n : ℕ) (h : Head) (t b : List ℕ) where
  module _ (x : PartHead) (on : ℕ → Stage) (end : Stage)
      (isOpen : (i : ℕ) → is_over (on i) ≡ false) (quiet : (i : ℕ) → event (on i) ≡ None) (unrefused : (i : ℕ) → is_refused (on i) ≡ false)
      (endUnrefused : is_refused end ≡ false)
      (goes : (i k c : ℕ)
      → next tag n (in_body (on i) (suc k) x h t b) (own c) ≡ with_framing (counted_body k) (delimiter_step i on end c (in_body (on i) (suc k) x h t b))) where
    -- a byte of the delimiter that is not its last
    mark_on : (i k c : ℕ) (rest : List Cell) → c ≡ get_or (crlf ++ dash_boundary b) i 0 → suc i < length (crlf ++ dash_boundary b)
        → Passes tag n (in_body (on (suc i)) k x h t b) rest → Passes tag n (in_body (on i) (suc k) x h t b) (own c ∷ rest)
    mark_on i k c rest e l p =
        step tag n (in_body (on i) (suc k) x h t b) (in_body (on (suc i)) k x h t b) (own c) rest
        (goes i k c ∙ rw (eq-eqb c (get_or (crlf ++ dash_boundary b) i 0) e, ne_eqb (suc i) (length (crlf ++ dash_boundary b)) (λ z. omega arith))) (isOpen i)
        (quiet i) (unrefused (suc i)) p

    -- its last
    mark_end : (i k c : ℕ) (rest : List Cell) → c ≡ get_or (crlf ++ dash_boundary b) i 0 → suc i ≡ length (crlf ++ dash_boundary b)
        → Passes tag n (in_body end k x h t b) rest → Passes tag n (in_body (on i) (suc k) x h t b) (own c ∷ rest)
    mark_end i k c rest e l p =
        step tag n (in_body (on i) (suc k) x h t b) (in_body end k x h t b) (own c) rest
        (goes i k c ∙ rw (eq-eqb c (get_or (crlf ++ dash_boundary b) i 0) e, eq-eqb (suc i) (length (crlf ++ dash_boundary b)) l)) (isOpen i)
        (quiet i) endUnrefused p

    -- the bytes of the delimiter behind its first i
    mark_bytes : (m before : List ℕ) (c : ℕ) (more : List ℕ) (rest : List Cell) (i j k : ℕ) → crlf ++ dash_boundary b ≡ before ++ (c ∷ m) → i ≡ length before
        → j ≡ suc (length m + k)
        → Passes tag n (in_body end k x h t b) (own_then more rest) → Passes tag n (in_body (on i) j x h t b) (own_then ((c ∷ m) ++ more) rest)
    mark_bytes m before c more rest i zero k e f g p = absurd (omega arith)
    mark_bytes [] before c more rest i (suc j) k e f g p =
        let here : c ≡ get_or (crlf ++ dash_boundary b) i 0 = sym (ap (λ (l : List ℕ). get_or l i 0) e ∙ get_or_at before c [] 0 i (sym f)) in
        let all : length (crlf ++ dash_boundary b) ≡ length before + 1 = ap length e ∙ length-append before (c ∷ []) in
        let left : j ≡ k = omega arith in
        mark_end i j c (own_then more rest) here (omega arith) (rw left p)
    mark_bytes (d ∷ m) before c more rest i (suc j) k e f g p =
        let here : c ≡ get_or (crlf ++ dash_boundary b) i 0 = sym (ap (λ (l : List ℕ). get_or l i 0) e ∙ get_or_at before c (d ∷ m) 0 i (sym f)) in
        let all : length (crlf ++ dash_boundary b) ≡ length before + length (c ∷ d ∷ m) = ap length e ∙ length-append before (c ∷ d ∷ m) in
        let longer = length-append before (c ∷ []) in
        mark_on i j c (own_then ((d ∷ m) ++ more) rest) here (omega arith)
        (mark_bytes m (before ++ (c ∷ [])) d more rest (suc i) j k (e ∙ sym (append_assoc before (c ∷ []) (d ∷ m))) (omega arith) (omega arith) p)

  -- the first mark: its first dash stands in for CR LF, and behind its last byte a part must begin
  pub first_mark : (x : PartHead) (more : List ℕ) (rest : List Cell) (j k : ℕ) → j ≡ length b + 2 + k
      → Passes tag n (in_body AfterFirstDelimiter k x h t b) (own_then more rest)
      → Passes tag n (in_body (Preamble 0) j x h t b) (own_then (dash_boundary b ++ more) rest)
  first_mark x more rest zero k f p = absurd (omega arith)
  first_mark x more rest (suc j) k f p =
      step tag n (in_body (Preamble 0) (suc j) x h t b) (in_body (FirstDelimiter 3) j x h t b) (own 45) (own_then ((45 ∷ b) ++ more) rest) refl refl refl refl
      (mark_bytes x FirstDelimiter AfterFirstDelimiter (λ i. refl) (λ i. refl) (λ i. refl) refl (λ i k c. refl) b
      (13 ∷ 10 ∷ 45 ∷ []) 45 more rest 3 j k refl refl (omega arith) p)

  -- the mark behind a part's CR LF
  pub next-mark : (x : PartHead) (more : List ℕ) (rest : List Cell) (j k : ℕ) → j ≡ length b + 2 + k
      → Passes tag n (in_body AfterDelimiter k x h t b) (own_then more rest)
      → Passes tag n (in_body (Delimiter 2) j x h t b) (own_then (dash_boundary b ++ more) rest)
  next-mark x more rest j k f p =
      mark_bytes x Delimiter AfterDelimiter (λ i. refl) (λ i. refl) (λ i. refl) refl (λ i k c. refl) (45 ∷ b) (13 ∷ 10 ∷ []) 45 more rest 2 j k refl refl
      (omega arith) p

  -- CR LF behind a part's data
  pub data_end : (x : PartHead) (rest : List Cell) (k : ℕ) → Passes tag n (in_body (Delimiter 2) k x h t b) rest
      → Passes tag n (in_body (Delimiter 0) (suc (suc k)) x h t b) (own 13 ∷ own 10 ∷ rest)
  data_end x rest k p =
      mark_on x Delimiter AfterDelimiter (λ i. refl) (λ i. refl) (λ i. refl) refl (λ i k c. refl) 0 (suc k) 13 (own 10 ∷ rest) refl (omega arith)
      (mark_on x Delimiter AfterDelimiter (λ i. refl) (λ i. refl) (λ i. refl) refl (λ i k c. refl) 1 k 10 rest refl (omega arith) p)

  -- the bytes of a part's data, from position a on
  pub data_bytes : (x : PartHead) (l : List ℕ) (rest : List Cell) (a z j k : ℕ) → length l ≡ suc z → j ≡ length l + k
      → Passes tag n (in_body (Delimiter 0) k x h t b) rest
      → Passes tag n (in_body (Data a (suc z)) j x h t b) (from_then a l rest)
  data_bytes x [] rest a z j k e f p = absurd (omega arith)
  data_bytes x (c ∷ l) rest a z zero k e f p = absurd (omega arith)
  data_bytes x (c ∷ []) rest a zero (suc j) k e f p =
      let left : j ≡ k = omega arith in
      step tag n (in_body (Data a 1) (suc j) x h t b) (in_body (Delimiter 0) k x h t b) (from a c) rest (rw left) refl refl refl p
  data_bytes x (c ∷ []) rest a (suc z) (suc j) k e f p = absurd (omega arith)
  data_bytes x (c ∷ d ∷ l) rest a zero (suc j) k e f p = absurd (omega arith)
  data_bytes x (c ∷ d ∷ l) rest a (suc z) (suc j) k e f p =
      step tag n (in_body (Data a (suc (suc z))) (suc j) x h t b) (in_body (Data (suc a) (suc z)) j x h t b) (from a c)
      (from_then (suc a) (d ∷ l) rest) refl refl refl refl
      (data_bytes x (d ∷ l) rest (suc a) z j k (omega arith) (omega arith) p)

  -- a line of a part that leads to the part head y
  part_line_lem : (m : ℕ) (r : RangeField) (y : PartHead) (l : List ℕ) (kd : Name) (v more : List ℕ) (rest : List Cell) (j k : ℕ) → IsLine l kd v
      → m < max_part_lines → j ≡ length l + 2 + k
      → ((p : Parser) → part_field kd v p (part_of m r) ≡ with_part y p)
      → Passes tag n (in_body PartLine k y h t b) (own_then more rest) → Passes tag n (in_body PartLine j (part_of m r) h t b) (own_then (l ++ (crlf ++ more)) rest)
  unfolding part_line
  part_line_lem m r y l kd v more rest j k i f e g p =
      part_bytes tag n (in_body PartLine 0 (part_of m r) h t b) l (10 ∷ more) rest j (suc k) i.bytes i.short (omega arith)
      (step tag n (with_framing (counted_body (suc k)) (with_line l true (in_body PartLine 0 (part_of m r) h t b))) (in_body PartLine k y h t b) (own 10)
      (own_then more rest) (go l i.some i.formed i.kind i.value) refl refl refl p)
    where
      go : (l : List ℕ) → is_nil l ≡ false → is_field l ≡ true → kind_of (name_of l) ≡ kd → value_of l ≡ v
          → next tag n (with_framing (counted_body (suc k)) (with_line l true (in_body PartLine 0 (part_of m r) h t b))) (own 10) ≡ in_body PartLine k y h t b
      go [] s o u w = absurd (true≢false s)
      go (c ∷ l) s o u w =
          rw (lt-leb max_part_lines m f, o, u, w, g (with_framing (counted_body (suc k)) (with_line (c ∷ l) true (in_body PartLine 0 (part_of m r) h t b))))

  -- a part's type
  pub part_type : (m : ℕ) (r : RangeField) (v more : List ℕ) (rest : List Cell) (j k : ℕ) → IsValue v → m < max_part_lines → j ≡ length (field type_name v) + 2 + k
      → Passes tag n (in_body PartLine k (part_of (suc m) r) h t b) (own_then more rest)
      → Passes tag n (in_body PartLine j (part_of m r) h t b) (own_then (field type_name v ++ (crlf ++ more)) rest)
  part_type m r v more rest j k i f e p = part_line_lem m r (part_of (suc m) r) (field type_name v) type v more rest j k (type_field_lem v i) f e (λ q. refl) p

  -- a part's range
  pub part_range_lem : (m : ℕ) (r : RangeField) (v more : List ℕ) (rest : List Cell) (j k : ℕ) → IsValue v → range_field v ≡ r → m < max_part_lines
      → j ≡ length (field range_name v) + 2 + k
      → Passes tag n (in_body PartLine k (part_of (suc m) r) h t b) (own_then more rest)
      → Passes tag n (in_body PartLine j (part_of m Absent) h t b) (own_then (field range_name v ++ (crlf ++ more)) rest)
  part_range_lem m r v more rest j k i w f e p = part_line_lem m Absent (part_of (suc m) r) (field range_name v) range v more rest j k (range_field_lem v i) f e (λ q. rw w) p

  -- a part's empty line, where its data, CR LF and the closing mark still fit
  pub part_end_lem : (m a c z k : ℕ) (rest : List Cell) → a ≤ c → c < n → suc c - a ≡ z → z + 2 + (length b + 4) ≤ suc k
      → Passes tag n (in_body (Data a z) k (part_of (suc m) (Of a c n)) h t b) rest
      → Passes tag n (in_body PartLine (suc (suc k)) (part_of (suc m) (Of a c n)) h t b) (own 13 ∷ own 10 ∷ rest)
  unfolding part_end
  part_end_lem m a c z k rest f g e l p =
      let x = part_of (suc m) (Of a c n) in
      let start = in_body PartLine (suc (suc k)) x h t b in
      step tag n start (with_framing (counted_body (suc k)) (with_line [] true start)) (own 13) (own 10 ∷ rest) refl refl refl refl
      (step tag n (with_framing (counted_body (suc k)) (with_line [] true start)) (in_body (Data a z) k x h t b) (own 10) rest
      (rw (e, ne_eqb (suc m) 0 (λ q. omega arith), le-ltb c a f, lt-leb n c g, eq-eqb n n refl, le-leb (z + 2 + (length b + 4)) (suc k) l)) refl refl refl p)

  -- LF behind the mark of a part
  pub part_begin : (x : PartHead) (rest : List Cell) (k : ℕ) → Passes tag n (in_body PartLine k (part_of 0 Absent) h t b) rest
      → Passes tag n (in_body PartBegin (suc k) x h t b) (own 10 ∷ rest)
  part_begin x rest k p = step tag n (in_body PartBegin (suc k) x h t b) (in_body PartLine k (part_of 0 Absent) h t b) (own 10) rest refl refl refl refl p

  -- CR behind the mark of the first part
  pub first_fork : (x : PartHead) (rest : List Cell) (k : ℕ) → Passes tag n (in_body PartBegin k x h t b) rest
      → Passes tag n (in_body AfterFirstDelimiter (suc k) x h t b) (own 13 ∷ rest)
  first_fork x rest k p = step tag n (in_body AfterFirstDelimiter (suc k) x h t b) (in_body PartBegin k x h t b) (own 13) rest refl refl refl refl p

  -- CR behind the mark of a later part
  pub next_fork : (x : PartHead) (rest : List Cell) (k : ℕ) → Passes tag n (in_body PartBegin k x h t b) rest
      → Passes tag n (in_body AfterDelimiter (suc k) x h t b) (own 13 ∷ rest)
  next_fork x rest k p = step tag n (in_body AfterDelimiter (suc k) x h t b) (in_body PartBegin k x h t b) (own 13) rest refl refl refl refl p

  -- behind the last mark: two dashes, and CR LF to the answer's end
  pub last_fork : (x : PartHead) → Passes tag n (in_body AfterDelimiter 3 x h t b) (own 45 ∷ own 45 ∷ own 13 ∷ own 10 ∷ [])
  last_fork x =
      step tag n (in_body AfterDelimiter 3 x h t b) (in_body Closing 2 x h t b) (own 45) (own 45 ∷ own 13 ∷ own 10 ∷ []) refl refl refl refl
      (step tag n (in_body Closing 2 x h t b) (in_body Epilogue 1 x h t b) (own 45) (own 13 ∷ own 10 ∷ []) refl refl refl refl
      (step tag n (in_body Epilogue 1 x h t b) (in_body Epilogue 0 x h t b) (own 13) (own 10 ∷ []) refl refl refl refl
      (step tag n (in_body Epilogue 0 x h t b) (in_body Finished 0 x h t b) (own 10) [] refl refl refl refl (tt, refl))))
