-- Steps without data: bytes that are skipped, bytes of a line, one byte.
-- Assumes nothing.
use Prim.Native.Nat.{ℕ, suc, ◌+◌, ◌-◌, ◌≤◌, min}
use native.Mathlib.Omega.{arith}
use mathlib.Core.Path.{◌≡◌, refl, sym, ap, ◌∙◌}
use mathlib.Core.Bool.{Bool, true, false, cond}
use mathlib.Core.List.{List, ◌++◌}
use lib.ListN.{length, get_or, take, drop, length-append}
use lib.Seq.{sets, sets-eq, take_at, take-suc, length-take-le}
use Rattle.rules_tablet.specs.Limits.{max_runs, max_line}
use Rattle.rules_tablet.specs.Parsers.{Parser, at, with_framing, counted_body, with_line, parse, is_refused}
use Rattle.rules_tablet.specs.Feeding.{Held, is_over}
use Rattle.rules_tablet.specs.declared.Stage.{Stage}
use Rattle.rules_tablet.specs.declared.Stage.TheVariants.{Status, Fields, Skip, PartLine, Epilogue, Finished}
use Rattle.laws_reader.proofs.at_once.Steps.{tablet_at, feed-over}
use Rattle.laws_reader.proofs.at_once.Loops.{byte_rest}
use Rattle.laws_reader.proofs.at_once.Laws.{feed_framing, feed_refusing, feed_skip, feed_skip_end, feed_epilogue, feed_epilogue_end, feed_status, feed-fields}
use Rattle.laws_reader.proofs.at_once.Laws.{feed_part}
use Rattle.reader_state.specs.Looks.{look_of, is_over as is_no_more, is_skipped, is_head_line, is_part_line}
use Rattle.reader_state.specs.declared.stages.NextBytes.TheVariants.{Over, Skipped, LineOfHead, LineOfPart}
use Rattle.reader_state.proofs.stages.Laws.{by_look}
use Rattle.reader_fields.specs.Runs.{leading}
use Rattle.reader_fields.proofs.line_bytes.Laws.{leading_le, leading_fit}
use Rattle.reader_text.specs.Lines.{is_line}
use Rattle.reader_text.proofs.bytes.Laws.{line_cases}
use Rattle.reader_text.specs.Steps.{Went, on, off, Going, settled_at, LineRun}

-- the bytes at the front that may stand in a line, at most so many
pub run_is : (piece : List ℕ) (most k : ℕ) → k ≡ min most (leading piece) → LineRun piece most k
run_is piece most k e = record { within = omega (arith, e, leading_le piece); few = omega (arith, e); fit = leading_fit k piece (omega (arith, e)) }

-- a reader that is over
pub over_look : (s : Stage) → look_of s ≡ Over → is_over s ≡ true
over_look s e =
    by_look is_no_more (λ s. is_over s ≡ true)
    (tt, tt, λ next. tt, tt, λ k. tt, λ k. tt, λ i. tt, λ i. tt, tt, tt, tt, tt, tt, λ next left. tt, tt, refl, λ k. refl) s (ap is_no_more e)

-- bytes to skip are those of a 416 or those behind the closing mark
skip_look : {A : Type 0} (s : Stage) → look_of s ≡ Skipped → (s ≡ Skip → A) → (s ≡ Epilogue → A) → A
skip_look {A} s e =
    by_look is_skipped (λ s. (s ≡ Skip → A) → (s ≡ Epilogue → A) → A)
    (tt, tt, λ next. tt, λ x y. x refl, λ k. tt, λ k. tt, λ i. tt, λ i. tt, tt, tt, tt, tt, tt, λ next left. tt, λ x y. y refl, tt, λ k. tt) s (ap is_skipped e)

-- a line of the head is the status line or a field line
head_look : {A : Type 0} (s : Stage) → look_of s ≡ LineOfHead → (s ≡ Status → A) → (s ≡ Fields → A) → A
head_look {A} s e =
    by_look is_head_line (λ s. (s ≡ Status → A) → (s ≡ Fields → A) → A)
    (λ x y. x refl, λ x y. y refl, λ next. tt, tt, λ k. tt, λ k. tt, λ i. tt, λ i. tt, tt, tt, tt, tt, tt, λ next left. tt, tt, tt, λ k. tt) s
    (ap is_head_line e)

-- a line of a part
pub part_look : (s : Stage) → look_of s ≡ LineOfPart → s ≡ PartLine
part_look s e =
    by_look is_part_line (λ s. s ≡ PartLine)
    (tt, tt, λ next. tt, tt, λ k. tt, λ k. tt, λ i. tt, λ i. tt, tt, tt, tt, tt, refl, λ next left. tt, tt, tt, λ k. tt) s (ap is_part_line e)

-- a line is read
pub line_going : (s : Stage) (b : Bool) → look_of s ≡ cond b LineOfPart LineOfHead → Going s
line_going s b e =
    line_cases Going (record { going = refl; bare = refl; line = refl }) (record { going = refl; bare = refl; line = refl })
    (record { going = refl; bare = refl; line = refl }) s (go b e)
  where
    go : (c : Bool) → look_of s ≡ cond c LineOfPart LineOfHead → is_line s ≡ true
    go true f = rw f
    go false f = rw f

module _ (t : List ℕ) (n : ℕ) (piece : List ℕ) (p : Parser) (h : Held) where
  -- a reader that is over takes none
  pub over_went : look_of p.stage ≡ Over → Went t n piece (tablet_at h p) 0 (tablet_at h p)
  over_went e = off refl (feed-over max_runs t n piece (tablet_at h p) (over_look p.stage e))

  module _ (k : ℕ) (some : 1 ≤ k) (w : k ≤ length piece) (e : look_of p.stage ≡ Skipped) where
    -- skipped bytes before the last counted one
    pub skip_on : k ≤ p.framing.after → Went t n piece (tablet_at h p) k (tablet_at h (with_framing (counted_body (p.framing.after - k)) p))
    skip_on u =
        on some w (λ rest.
        skip_look p.stage e (λ i. feed_skip max_runs t n k (take k piece) rest (length-take-le k piece w) p h i u)
        (λ i. feed_epilogue max_runs t n k (take k piece) rest (length-take-le k piece w) p h i u))

    -- and up to it
    pub skip_end : k ≡ suc p.framing.after → Went t n piece (tablet_at h p) k (tablet_at h (at Finished (with_framing (counted_body 0) p)))
    skip_end u =
        on some w (λ rest.
        skip_look p.stage e (λ i. feed_skip_end max_runs t n k (take k piece) rest (length-take-le k piece w) p h i u)
        (λ i. feed_epilogue_end max_runs t n k (take k piece) rest (length-take-le k piece w) p h i u))

  module _ (k : ℕ) (most : ℕ) (some : 1 ≤ k) (r : LineRun piece most k) (c : p.cr ≡ false) where
    -- bytes of a line of the head
    head_went : look_of p.stage ≡ LineOfHead → length p.line + most ≤ max_line
        → Went t n piece (tablet_at h p) k (tablet_at h (with_line (p.line ++ take k piece) false p))
    head_went e u =
        let m = length-take-le k piece r.within in
        let v : length p.line + k ≤ max_line = omega (arith, r.few) in
        on some r.within (λ rest.
        head_look p.stage e (λ i. feed_status max_runs t n k (take k piece) rest m p h c r.fit v i)
        (λ i. feed-fields max_runs t n k (take k piece) rest m p h c r.fit v i))

    -- and of a part
    part_went : look_of p.stage ≡ LineOfPart → length p.line + most ≤ max_line → most ≤ p.framing.after
        → Went t n piece (tablet_at h p) k (tablet_at h (with_line (p.line ++ take k piece) false (with_framing (counted_body (p.framing.after - k)) p)))
    part_went e u a =
        on some r.within (λ rest.
        feed_part max_runs t n k (take k piece) rest (length-take-le k piece r.within) p h c r.fit (omega (arith, r.few)) (part_look p.stage e)
        (omega (arith, r.few)))

    -- of either
    pub line_went : (b : Bool) (room : ℕ) → look_of p.stage ≡ cond b LineOfPart LineOfHead → length p.line + room ≤ max_line
        → most ≡ cond b (min room p.framing.after) room
        → Went t n piece (tablet_at h p) k
        (tablet_at h (with_line (p.line ++ take k piece) false (with_framing (counted_body (cond b (p.framing.after - k) p.framing.after)) p)))
    line_went true room e u v = part_went e (omega arith) (omega arith)
    line_went false room e u v = head_went e (omega arith)

  -- one byte
  module _ (x : Parser) (u : 1 ≤ length piece) (g : Going p.stage) (e : x ≡ settled_at p (parse t n p.stage (get_or piece 0 0) p)) where
    -- where it leaves the parser says whether it was refused
    refused-same : is_refused x.stage ≡ is_refused (parse t n p.stage (get_or piece 0 0) p).stage
    refused-same = rw e (go (is_refused (parse t n p.stage (get_or piece 0 0) p).stage) refl)
      where
        go : (b : Bool) → is_refused (parse t n p.stage (get_or piece 0 0) p).stage ≡ b
            → is_refused (settled_at p (parse t n p.stage (get_or piece 0 0) p)).stage ≡ is_refused (parse t n p.stage (get_or piece 0 0) p).stage
        go true i = rw i i
        go false i = rw i i

    -- it is taken
    pub byte_on : is_refused x.stage ≡ false → Went t n piece (tablet_at h p) 1 (tablet_at h x)
    byte_on f =
        let i : is_refused (parse t n p.stage (get_or piece 0 0) p).stage ≡ false = sym refused-same ∙ f in
        let q : x ≡ parse t n p.stage (get_or piece 0 0) p = e ∙ rw i in
        on (omega arith) u (λ rest. rw (take-suc piece 0 0 u, q) (feed_framing max_runs t n (get_or piece 0 0) rest h p g.going g.bare i))

    -- it is refused
    pub byte_off : is_refused x.stage ≡ true → Went t n piece (tablet_at h p) 0 (tablet_at h x)
    byte_off f =
        let i : is_refused (parse t n p.stage (get_or piece 0 0) p).stage ≡ true = sym refused-same ∙ f in
        let q : x ≡ at (parse t n p.stage (get_or piece 0 0) p).stage p = e ∙ rw i in
        off refl (rw q (rw (byte_rest 0 piece u) at (feed_refusing max_runs t n (get_or piece 0 0) (drop 1 piece) h p g.going g.bare i)))

-- the front of a list up to bytes that were put into it ends with them
pub take_sets : (line : List ℕ) (len k : ℕ) (src bytes : List ℕ) → len + k ≤ length line → length src ≡ k → bytes ≡ sets line len src
    → take (len + k) bytes ≡ take len line ++ src
take_sets line len k src bytes u e f =
    ap (take (len + k)) (f ∙ sets-eq src line len (omega arith))
    ∙ take_at (take len line ++ src) (drop (len + length src) line) (len + k) (rw (length-append, length-take-le len line (omega arith), e))
