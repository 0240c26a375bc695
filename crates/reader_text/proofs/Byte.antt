-- One byte, and the bytes between parts: numbers that fit leave room for those of the code, and what the bytes make of a reader.
-- Assumes nothing.
use Prim.Native.Nat.{ℕ, ◌≤◌}
use native.Mathlib.Omega.{arith}
use mathlib.Core.Path.{◌≡◌, refl, sym, ap, subst}
use mathlib.Core.Bool.{true, false, false≢true, ◌||◌}
use mathlib.Core.List.{List, [], ◌∷◌}
use lib.ListN.{length, take}
use lib.Seq.{length-take-le}
use borrow.Author.Tests.{ltb-true}
use denote.Enum.Declared.{tag_of}
use types.Run.{OneOf}
use Rattle.rules_tablet.specs.contracts.Stage.{the_type}
use Rattle.rules_tablet.specs.Limits.{max_runs}
use Rattle.rules_tablet.specs.Parsers.{Parser, at, parse, is_refused}
use Rattle.rules_tablet.specs.declared.Stage.{Stage}
use Rattle.reader_state.specs.Rooms.{Roomy}
use Rattle.reader_state.specs.States.{parser_of, state_at, ArraysSized, Sized, Within}
use Rattle.reader_state.specs.declared.ReaderState.{ReaderState}
use Rattle.reader_state.specs.Looks.{look_of, is_data, is_plain_data, is_part_data}
use Rattle.reader_state.specs.declared.stages.NextBytes.{NextBytes}
use Rattle.reader_state.specs.declared.stages.NextBytes.TheVariants.{Over, PlainData, PartData, Skipped, LineOfHead, LineOfPart, BetweenParts}
use Rattle.reader_state.proofs.stages.Laws.{so}
use Rattle.laws_reader.proofs.Stages.{by_number, each}
use Rattle.laws_reader.proofs.at_once.Steps.{tablet_at}
use Rattle.reader_multipart.specs.Passing.{is_between, pass_on}
use Rattle.reader_multipart.specs.Parsers.{passed_to}
use Rattle.reader_multipart.specs.declared.delimiters.Passed.{Passed}
use Rattle.reader_multipart.proofs.delimiters.Feeding.{PassedIs, pass_is}
use Rattle.reader_text.specs.Steps.{reader_of, Went, on, off, Fits, TextIs, ByteIs, room_for}

-- no data, and numbers that fit, leave room
pub room_roomy : (s : Stage) (after k : ℕ) → room_for s k ≡ true → Roomy s after k
room_roomy s after k =
    each (λ x. room_for x k ≡ true → Roomy x after k)
    (so, so, λ next. never, so, λ j. so, λ j. ltb-true _ _, λ i. ltb-true _ _, λ i. ltb-true _ _, so, so, so, so, so, λ next left. never, so, so, λ j. so) s
  where
    never : {A : Type 0} → false ≡ true → A
    never e = absurd (false≢true e)

-- nor is there data
pub no_data : (s : Stage) (k : ℕ) → room_for s k ≡ true → is_data s ≡ false
no_data s k =
    each (λ x. room_for x k ≡ true → is_data x ≡ false)
    (none, none, λ next. never, none, λ j. none, λ j. none, λ i. none, λ i. none, none, none, none, none, none, λ next left. never, none, none, λ j. none) s
  where
    none : {A : Type 0} → A → false ≡ false
    none e = refl

    never : {A : Type 0} → false ≡ true → A
    never e = absurd (false≢true e)

-- the numbers of the stages with data in the enum, and what is said of these
abbrev of_data : List ℕ
of_data = 2 ∷ 13 ∷ []

pub has_data : (s : Stage) (k : ℕ) → OneOf of_data (tag_of the_type s) → false ≡ room_for s k
has_data s k =
    by_number of_data (λ x. false ≡ room_for x k)
    (tt, tt, λ next. refl, tt, λ j. tt, λ j. tt, λ i. tt, λ i. tt, tt, tt, tt, tt, tt, λ next left. refl, tt, tt, λ j. tt) s

-- those of the stages without a number that has to fit
abbrev bare : List ℕ
bare = 0 ∷ 1 ∷ 3 ∷ 4 ∷ 8 ∷ 9 ∷ 10 ∷ 11 ∷ 12 ∷ 14 ∷ 15 ∷ 16 ∷ []

pub has_none : (s : Stage) (k : ℕ) → OneOf bare (tag_of the_type s) → true ≡ room_for s k
has_none s k =
    by_number bare (λ x. true ≡ room_for x k)
    (refl, refl, λ next. tt, refl, λ j. refl, λ j. tt, λ i. tt, λ i. tt, refl, refl, refl, refl, refl, λ next left. tt, refl, refl, λ j. refl) s

-- the lengths of a reader taken apart
pub sized_fits : (s : ReaderState) (line tag boundary : List ℕ) → Sized s line tag boundary → Fits (reader_of s line tag boundary)
sized_fits s line tag boundary w = let g = w.arrays.within in record { line = g.line_fits; tag = g.tag_fits; boundary = g.boundary_fits }

module _ (t : List ℕ) (n : ℕ) (s : ReaderState) (line tag boundary : List ℕ) (w : Sized s line tag boundary) where
  module _ (b : ℕ) (x : ReaderState) (line' tag' boundary' : List ℕ)
      (e : parser_of x line' tag' boundary' ≡ parse t n s.stage b (parser_of s line tag boundary)) where
    -- a byte that is refused
    pub refused_is : is_refused x.stage ≡ true → parser_of s line' tag' boundary' ≡ parser_of s line tag boundary
        → ByteIs t n b (reader_of s line tag boundary) (reader_of (state_at x.stage s) line' tag' boundary')
    refused_is f k =
        let g = w.arrays.within in
        record { fits = record { line = g.line_fits; tag = g.tag_fits; boundary = g.boundary_fits }; is = rw (← e, f) (ap (at x.stage) k) }

    -- a byte that is taken
    pub taken_is : is_refused x.stage ≡ false → ArraysSized x line' tag' boundary'
        → ByteIs t n b (reader_of s line tag boundary) (reader_of x line' tag' boundary')
    taken_is f z = let g = z.within in record { fits = record { line = g.line_fits; tag = g.tag_fits; boundary = g.boundary_fits }; is = rw (← e, f) }

-- next bytes that are no line, no data, nothing to skip and not between parts are none
over_left : (w : NextBytes) → (w ≡ Skipped → ⊥) → (w ≡ LineOfHead → ⊥) → (w ≡ LineOfPart → ⊥) → (w ≡ BetweenParts → ⊥)
    → (is_plain_data w || is_part_data w) ≡ false → w ≡ Over
over_left Over a b c d e = refl
over_left (PlainData next) a b c d e = absurd (false≢true (sym e))
over_left (PartData next left) a b c d e = absurd (false≢true (sym e))
over_left Skipped a b c d e = absurd (a refl)
over_left LineOfHead a b c d e = absurd (b refl)
over_left LineOfPart a b c d e = absurd (c refl)
over_left BetweenParts a b c d e = absurd (d refl)

pub over_stage : (s : Stage) → (look_of s ≡ Skipped → ⊥) → (look_of s ≡ LineOfHead → ⊥) → (look_of s ≡ LineOfPart → ⊥) → (look_of s ≡ BetweenParts → ⊥)
    → is_data s ≡ false → look_of s ≡ Over
over_stage s = over_left (look_of s)

module _ (t : List ℕ) (n : ℕ) (s : ReaderState) (line tag boundary : List ℕ) (w : Sized s line tag boundary) (f : is_between s.stage ≡ true) where
  -- the parser between parts
  abbrev here : Parser
  here = parser_of s line tag boundary

  roomy : Roomy s.stage s.framing.after (length here.boundary)
  roomy =
      let u : s.boundary_len ≤ length boundary = omega (arith, w.arrays.within.boundary_fits, w.arrays.boundary_room) in
      rw (length-take-le s.boundary_len boundary u) w.stage_fits

  module _ (piece : List ℕ) (given : 1 ≤ length piece) (x : Passed)
      (e : x ≡ pass_on (record { stage = s.stage; after = s.framing.after; taken = 0 }) (take s.boundary_len boundary) piece) where
    -- bytes between parts that are taken
    pub between_taken : (x.taken ≡ 0 → ⊥) → (y : ReaderState) → parser_of y line tag boundary ≡ passed_to x here → (Within s → Within y)
        → TextIs t n piece (reader_of s line tag boundary) x.taken (reader_of y line tag boundary)
    between_taken z y g k =
        let v = k w.arrays.within in
        record {
          fits = record { line = v.line_fits; tag = v.tag_fits; boundary = v.boundary_fits };
          went = λ h.
              let p : PassedIs max_runs t n h here f roomy piece x = rw e (pass_is max_runs t n h here f roomy piece) in
              subst (λ (q : Parser). Went t n piece (tablet_at h here) x.taken (tablet_at h q)) (sym g) (on (omega arith) p.within (p.takes z));
        }

    -- the first is refused
    pub between_refused : x.taken ≡ 0 → TextIs t n piece (reader_of s line tag boundary) x.taken (reader_of (state_at x.stage s) line tag boundary)
    between_refused z =
        let v = w.arrays.within in
        record {
          fits = record { line = v.line_fits; tag = v.tag_fits; boundary = v.boundary_fits };
          went = λ h.
              let p : PassedIs max_runs t n h here f roomy piece x = rw e (pass_is max_runs t n h here f roomy piece) in
              off z (p.stops z given);
        }
