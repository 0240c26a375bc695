-- Bytes of a multipart's body that lead the parser from one place to another, with the count of bytes still to come.
use Prim.Native.Nat.{ℕ, zero, suc, ◌+◌, ◌≤◌}
use mathlib.Core.Path.{◌≡◌, refl, sym, ap, ◌∙◌}
use mathlib.Core.Bool.{Bool, true, false}
use mathlib.Core.List.{List, [], ◌∷◌, ◌++◌, append_assoc, append-nil}
use Rattle.std.specs.Prelude.{None}
use native.Mathlib.Omega.{arith}
use lib.ListN.{length, get_or, length-append}
use lib.Seq.{get_or_at}
use borrow.Author.Tests.{eq-eqb, ne_eqb, lt-ltb}
use Rattle.rules_server.specs.Texts.{crlf}
use Rattle.rules_server.specs.Answers.{Cell, own, from, own_then, from_then, lines_then, dash_boundary}
use Rattle.rules_tablet.specs.Limits.{max_preamble}
use Rattle.rules_tablet.specs.Fields.{is_field}
use Rattle.rules_tablet.specs.Parsers.{Parser, with_framing, counted_body, delimiter_step, event, is_refused}
use Rattle.rules_tablet.specs.Feeding.{is_over}
use Rattle.rules_tablet.specs.declared.Stage.{Stage}
use Rattle.rules_tablet.specs.declared.Stage.TheVariants.{Preamble, PreambleEnd, Delimiter, Data, Epilogue}
use Rattle.rules_tablet.specs.declared.Head.{Head}
use Rattle.rules_tablet.specs.declared.PartHead.{PartHead}
use Rattle.rules_demands.specs.AcceptanceGrammar.{Line, empty_lines}
use Rattle.rules_demands.specs.FeedingFollowed.{position_of, next}
use Rattle.laws_reader.proofs.own_answers.Multipart.{in_body}
use Rattle.laws_reader.proofs.own_answers.Parts.{own_length}
use Rattle.rules_demands.specs.RefusalLines.{so_far}
use Rattle.rules_demands.specs.RefusalParts.{PartHeading, no_field}
use Rattle.laws_refusals.proofs.refusals.Leads.{Leads, lead_none, lead_step, lead_then, far_leads, whole_leads}
use Rattle.laws_refusals.proofs.refusals.Fields.{line_in_lem}
use Rattle.laws_refusals.proofs.refusals.PartFields.{in_part, PartCase, faulty, longer, part_case, part_front, part_last_right}

-- these bytes lead from f to g, whatever is counted behind them
abbrev pub Runs : List ℕ → ℕ → List Cell → (ℕ → Parser) → (ℕ → Parser) → Type 0
Runs tag n cells f g = (j k : ℕ) → j ≡ length cells + k → Leads tag n (f j) cells (g k)

-- the empty lines of a lead, and what follows
pub empty_before : (lead : ℕ) (rest : List Cell) → empty_lines lead rest ≡ empty_lines lead [] ++ rest
empty_before zero rest = refl
empty_before (suc lead) rest = ap (λ (l : List Cell). own 13 ∷ own 10 ∷ l) (empty_before lead rest)

-- data, and what follows
pub from-before : (p : ℕ) (l : List ℕ) (rest : List Cell) → from_then p l rest ≡ from_then p l [] ++ rest
from-before p [] rest = refl
from-before p (x ∷ l) rest = ap (λ (c : List Cell). from p x ∷ c) (from-before (suc p) l rest)

module _ (tag : List ℕ) (n : ℕ) where
  -- no byte
  pub runs-none : (f : ℕ → Parser) → Runs tag n [] f f
  runs-none f j k e =
      let same : j ≡ k = omega arith in
      rw same (lead_none tag n (f k))

  -- some bytes, and then others
  pub runs_then : (a c : List Cell) (f g h : ℕ → Parser) → Runs tag n a f g → Runs tag n c g h → Runs tag n (a ++ c) f h
  runs_then a c f g h r s j k e =
      let all = length-append a c in
      lead_then tag n a c (f j) (g (length c + k)) (h k) (r j (length c + k) (omega arith)) (s (length c + k) k refl)

  -- one byte
  pub runs_one : (c : Cell) (f g : ℕ → Parser) → ((k : ℕ) → next tag n (f (suc k)) c ≡ g k) → ((k : ℕ) → is_over (f k).stage ≡ false)
      → ((k : ℕ) → event (f k).stage ≡ position_of c) → ((k : ℕ) → is_refused (g k).stage ≡ false)
      → Runs tag n (c ∷ []) f g
  runs_one c f g goes o v u zero k e = absurd (omega arith)
  runs_one c f g goes o v u (suc j) k e =
      let same : j ≡ k = omega arith in
      lead_step tag n (f (suc j)) (g k) (g k) c [] (goes j ∙ rw same) (o (suc j)) (v (suc j)) (u k) (lead_none tag n (g k))

  module _ (h : Head) (t b : List ℕ) where
    -- a place between two lines
    abbrev pub place : Stage → PartHead → ℕ → Parser
    place s x k = in_body s k x h t b

    module _ (x : PartHead) where
      -- empty lines
      pub lead_runs : (lead i j : ℕ) → i + lead ≤ max_preamble → j ≡ i + lead → Runs tag n (empty_lines lead []) (place (Preamble i) x) (place (Preamble j) x)
      lead_runs zero i j f e =
          let same : j ≡ i = omega arith in
          rw same (runs-none (place (Preamble i) x))
      lead_runs (suc lead) i j f e =
          runs_then (own 13 ∷ []) (own 10 ∷ empty_lines lead []) (place (Preamble i) x) (place (PreambleEnd i) x) (place (Preamble j) x)
          (runs_one (own 13) (place (Preamble i) x) (place (PreambleEnd i) x) (λ k. rw (lt-ltb i max_preamble (omega arith))) (λ k. refl) (λ k. refl)
          (λ k. refl))
          (runs_then (own 10 ∷ []) (empty_lines lead []) (place (PreambleEnd i) x) (place (Preamble (suc i)) x) (place (Preamble j) x)
          (runs_one (own 10) (place (PreambleEnd i) x) (place (Preamble (suc i)) x) (λ k. refl) (λ k. refl) (λ k. refl) (λ k. refl))
          (lead_runs lead (suc i) j (omega arith) (omega arith)))

      module _ (on : ℕ → Stage) (end : Stage)
          (isOpen : (i : ℕ) → is_over (on i) ≡ false) (quiet : (i : ℕ) → event (on i) ≡ None) (unrefused : (i : ℕ) → is_refused (on i) ≡ false)
          (endUnrefused : is_refused end ≡ false)
          (goes : (i k c : ℕ)
          → next tag n (place (on i) x (suc k)) (own c) ≡ with_framing (counted_body k) (delimiter_step i on end c (place (on i) x (suc k)))) where
        -- some bytes of a delimiter, and c comes next
        pub some-mark : (m before : List ℕ) (c : ℕ) (more : List ℕ) (i j : ℕ) → crlf ++ dash_boundary b ≡ before ++ (m ++ (c ∷ more)) → i ≡ length before
            → j ≡ i + length m
            → Runs tag n (own_then m []) (place (on i) x) (place (on j) x)
        some-mark [] before c more i j e f g =
            let same : j ≡ i = omega arith in
            rw same (runs-none (place (on i) x))
        some-mark (d ∷ m) before c more i j e f g =
            let here : d ≡ get_or (crlf ++ dash_boundary b) i 0 = sym (ap (λ (l : List ℕ). get_or l i 0) e ∙ get_or_at before d (m ++ (c ∷ more)) 0 i (sym f)) in
            let all : length (crlf ++ dash_boundary b) ≡ length before + suc (length (m ++ (c ∷ more))) = ap length e
            ∙ length-append before (d ∷ (m ++ (c ∷ more))) in
            let rest = length-append m (c ∷ more) in
            let longer = length-append before (d ∷ []) in
            runs_then (own d ∷ []) (own_then m []) (place (on i) x) (place (on (suc i)) x) (place (on j) x)
            (runs_one (own d) (place (on i) x) (place (on (suc i)) x)
            (λ k. goes i k d ∙ rw (eq-eqb d (get_or (crlf ++ dash_boundary b) i 0) here, ne_eqb (suc i) (length (crlf ++ dash_boundary b)) (λ z. omega arith)))
            (λ k. isOpen i) (λ k. quiet i) (λ k. unrefused (suc i)))
            (some-mark m (before ++ (d ∷ [])) c more (suc i) j (e ∙ sym (append_assoc before (d ∷ []) (m ++ (c ∷ more)))) (omega arith) (omega arith))

        -- its last byte
        last-mark : (before : List ℕ) (c i : ℕ) → crlf ++ dash_boundary b ≡ before ++ (c ∷ []) → i ≡ length before
            → Runs tag n (own c ∷ []) (place (on i) x) (place end x)
        last-mark before c i e f =
            let here : c ≡ get_or (crlf ++ dash_boundary b) i 0 = sym (ap (λ (l : List ℕ). get_or l i 0) e ∙ get_or_at before c [] 0 i (sym f)) in
            let all : length (crlf ++ dash_boundary b) ≡ length before + 1 = ap length e ∙ length-append before (c ∷ []) in
            runs_one (own c) (place (on i) x) (place end x)
            (λ k. goes i k c ∙ rw (eq-eqb c (get_or (crlf ++ dash_boundary b) i 0) here, eq-eqb (suc i) (length (crlf ++ dash_boundary b)) (omega arith)))
            (λ k. isOpen i) (λ k. quiet i) (λ k. endUnrefused)

        -- the rest of it
        pub rest_mark : (m before : List ℕ) (c i : ℕ) → crlf ++ dash_boundary b ≡ before ++ (c ∷ m) → i ≡ length before
            → Runs tag n (own_then (c ∷ m) []) (place (on i) x) (place end x)
        rest_mark [] before c i e f = last-mark before c i e f
        rest_mark (d ∷ m) before c i e f =
            let longer = length-append before (c ∷ []) in
            runs_then (own c ∷ []) (own_then (d ∷ m) []) (place (on i) x) (place (on (suc i)) x) (place end x)
            (some-mark (c ∷ []) before d m i (suc i) e f (omega arith))
            (rest_mark m (before ++ (c ∷ [])) d (suc i) (e ∙ sym (append_assoc before (c ∷ []) (d ∷ m))) (omega arith))

      -- some bytes of a part's data
      pub some_data : (l : List ℕ) (a p s m : ℕ) → p ≡ a + length l → s ≡ length l + suc m
          → Runs tag n (from_then a l []) (place (Data a s) x) (place (Data p (suc m)) x)
      some_data [] a p s m e f =
          let same : p ≡ a = omega arith in
          let left : s ≡ suc m = omega arith in
          rw (same, left) (runs-none (place (Data a (suc m)) x))
      some_data (c ∷ l) a p zero m e f = absurd (omega arith)
      some_data (c ∷ l) a p (suc zero) m e f = absurd (omega arith)
      some_data (c ∷ l) a p (suc (suc s)) m e f =
          runs_then (from a c ∷ []) (from_then (suc a) l []) (place (Data a (suc (suc s))) x) (place (Data (suc a) (suc s)) x) (place (Data p (suc m)) x)
          (runs_one (from a c) (place (Data a (suc (suc s))) x) (place (Data (suc a) (suc s)) x) (λ k. refl) (λ k. refl) (λ k. refl) (λ k. refl))
          (some_data l (suc a) p (suc s) m (omega arith) (omega arith))

      -- all of it
      pub all_data : (l : List ℕ) (a s : ℕ) → 1 ≤ s → length l ≡ s → Runs tag n (from_then a l []) (place (Data a s) x) (place (Delimiter 0) x)
      all_data [] a s i e = absurd (omega arith)
      all_data (c ∷ l) a zero i e = absurd (omega arith)
      all_data (c ∷ []) a (suc zero) i e = runs_one (from a c) (place (Data a 1) x) (place (Delimiter 0) x) (λ k. refl) (λ k. refl) (λ k. refl) (λ k. refl)
      all_data (c ∷ []) a (suc (suc s)) i e = absurd (omega arith)
      all_data (c ∷ d ∷ l) a (suc zero) i e = absurd (omega arith)
      all_data (c ∷ d ∷ l) a (suc (suc s)) i e =
          runs_then (from a c ∷ []) (from_then (suc a) (d ∷ l) []) (place (Data a (suc (suc s))) x) (place (Data (suc a) (suc s)) x) (place (Delimiter 0) x)
          (runs_one (from a c) (place (Data a (suc (suc s))) x) (place (Data (suc a) (suc s)) x) (λ k. refl) (λ k. refl) (λ k. refl) (λ k. refl))
          (all_data (d ∷ l) (suc a) (suc s) (omega arith) (omega arith))

      -- anything behind the closing mark
      pub rest_runs : (l : List ℕ) → Runs tag n (own_then l []) (place Epilogue x) (place Epilogue x)
      rest_runs [] = runs-none (place Epilogue x)
      rest_runs (c ∷ l) =
          runs_then (own c ∷ []) (own_then l []) (place Epilogue x) (place Epilogue x) (place Epilogue x)
          (runs_one (own c) (place Epilogue x) (place Epilogue x) (λ k. refl) (λ k. refl) (λ k. refl) (λ k. refl)) (rest_runs l)

    -- the LF of a line that goes on
    part_fits : (fs : List (List ℕ)) (l : List ℕ) (k : ℕ) → PartHeading (fs ++ (l ∷ [])) → Line l
        → next tag n (in_part h t b fs (suc k) l true) (own 10) ≡ in_part h t b (fs ++ (l ∷ [])) k [] false
    unfolding is_field
    part_fits fs [] k heading line = absurd (part_last_right fs [] heading (no_field refl))
    part_fits fs (y ∷ l) k heading line = go (part_case h t b fs (y ∷ l) (suc k) (part_front fs ((y ∷ l) ∷ []) heading) line)
      where
        go : PartCase h t b fs (y ∷ l) (suc k) → next tag n (in_part h t b fs (suc k) (y ∷ l) true) (own 10) ≡ in_part h t b (fs ++ ((y ∷ l) ∷ [])) k [] false
        go (faulty q e) = absurd (part_last_right fs (y ∷ l) heading q)
        go (longer g e) = rw e

    -- a line so far of a part
    pub far_runs : (fs : List (List ℕ)) (l : List ℕ) (cr : Bool) → Line l
        → Runs tag n (own_then (so_far l cr) []) (λ k. in_part h t b fs k [] false) (λ k. in_part h t b fs k l cr)
    far_runs fs l cr line j k e =
        far_leads tag n (in_part h t b fs) (λ k m cr. refl) (λ k m cr. refl) (λ k m cr. refl) (λ k a m c cr e. rw e) cr l j k line
        (omega (arith, e, own_length (so_far l cr) []))

    -- whole lines of a part
    pub lines-run : (rest before : List (List ℕ)) (tail : List ℕ) (g : ℕ → Parser) → PartHeading (before ++ rest)
        → Runs tag n (own_then tail []) (λ k. in_part h t b (before ++ rest) k [] false) g
        → Runs tag n (own_then (lines_then rest tail) []) (λ k. in_part h t b before k [] false) g
    lines-run [] before tail g heading r j k e = rw (append-nil before) at r j k e
    lines-run (l ∷ rest) before tail g heading r j k e =
        let line = line_in_lem before rest l heading.lines in
        let all = append_assoc before (l ∷ []) rest in
        let longer : PartHeading ((before ++ (l ∷ [])) ++ rest) = rw all heading in
        let ih = lines-run rest (before ++ (l ∷ [])) tail g longer (rw all r) in
        let count = own_length (l ++ (13 ∷ 10 ∷ lines_then rest tail)) [] in
        let split = length-append l (13 ∷ 10 ∷ lines_then rest tail) in
        let m = length (own_then (lines_then rest tail) []) + k in
        let behind-count = own_length (lines_then rest tail) [] in
        whole_leads tag n (in_part h t b before) (λ k m cr. refl) (λ k m cr. refl) (λ k m cr. refl) (λ k a m c cr e. rw e) l (lines_then rest tail)
        (in_part h t b (before ++ (l ∷ [])) m [] false) (g k) j (suc m) line (omega arith)
        (part_fits before l m (part_front (before ++ (l ∷ [])) rest longer) line) refl (ih m k refl)
