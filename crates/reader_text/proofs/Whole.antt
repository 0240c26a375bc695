-- A line behind the status line that lies whole in a piece: its bytes, CR and LF at once.
-- Assumes nothing.
use Prim.Native.Nat.{ℕ, suc, ◌+◌, ◌-◌, ◌≤◌}
use native.Mathlib.Omega.{arith}
use native.Mathlib.Numerals.{add-one}
use mathlib.Core.Path.{◌≡◌, refl, sym, ap, subst, ◌∙◌}
use mathlib.Core.Bool.{Bool, true, false}
use mathlib.Core.List.{List, [], ◌∷◌, ◌++◌, append_assoc}
use lib.ListN.{length, take}
use lib.Seq.{take-add, drop-cons, length-take-le}
use Rattle.rules_tablet.specs.Limits.{max_runs, max_line, max_fields}
use Rattle.rules_tablet.specs.Lines.{whole}
use Rattle.rules_tablet.specs.Parsers.{Parser, fields_step, is_refused}
use Rattle.rules_tablet.specs.Feeding.{Held, feed}
use Rattle.rules_tablet.specs.Readers.{parser_in}
use Rattle.rules_tablet.specs.declared.Reader.{Reader}
use denote.Enum.Declared.{tag_of}
use types.Run.{OneOf}
use Rattle.rules_tablet.specs.contracts.Stage.{the_type}
use Rattle.rules_tablet.specs.declared.Stage.{Stage}
use Rattle.rules_tablet.specs.declared.Stage.TheVariants.{Fields}
use Rattle.laws_reader.proofs.Stages.{where_met, by_number}
use Rattle.laws_reader.proofs.at_once.Steps.{tablet_at, ahead}
use Rattle.laws_reader.proofs.at_once.Lines.{start, same_start, feed-whole}
use Rattle.reader_head.proofs.uncounted_fields.Feeding.{feed-other_lines}
use Rattle.reader_head.proofs.uncounted_fields.Counts.{lines-within, lines_few}
use Rattle.reader_head.specs.declared.uncounted_fields.OtherLines.{OtherLines}
use Rattle.reader_text.proofs.bytes.Keeps.{fields_keeps, same-front}
use Rattle.reader_state.specs.States.{parser_of, Within, Sized}
use Rattle.reader_state.specs.declared.ReaderState.{ReaderState}
use Rattle.reader_text.specs.Steps.{Went, on, LineRun, is_fields, LineEnds, Fits, TextIs, reader_of, Ahead, state_lines}

-- where a line behind the status line is read
pub fields_stage : (s : Stage) → is_fields s ≡ true → s ≡ Fields
fields_stage =
    where_met is_fields (λ s. s ≡ Fields)
    (tt, refl, λ next. tt, tt, λ k. tt, λ k. tt, λ i. tt, λ i. tt, tt, tt, tt, tt, tt, λ next left. tt, tt, tt, λ k. tt)

-- the numbers of the other stages in the enum
abbrev elsewhere : List ℕ
elsewhere = 0 ∷ 2 ∷ 3 ∷ 4 ∷ 5 ∷ 6 ∷ 7 ∷ 8 ∷ 9 ∷ 10 ∷ 11 ∷ 12 ∷ 13 ∷ 14 ∷ 15 ∷ 16 ∷ []

-- where none is
pub not-fields : (s : Stage) → OneOf elsewhere (tag_of the_type s) → false ≡ is_fields s
not-fields =
    by_number elsewhere (λ s. false ≡ is_fields s)
    (refl, tt, λ next. refl, refl, λ k. refl, λ k. refl, λ i. refl, λ i. refl, refl, refl, refl, refl, refl, λ next left. refl, refl, refl, λ k. refl)

-- the bytes of a line with CR LF behind them
pub line-whole : (piece : List ℕ) (k : ℕ) → LineEnds piece k → (rest : List ℕ) → take (k + 2) piece ++ rest ≡ take k piece ++ (13 ∷ 10 ∷ rest)
line-whole piece k w rest =
    let u = w.within in
    rw (take-add k 2 piece, drop-cons piece k 0 (omega arith), drop-cons piece (suc k) 0 (omega arith), w.cr, rw add-one at w.lf)
    (append_assoc (take k piece) (13 ∷ 10 ∷ []) rest)

module _ (t : List ℕ) (n : ℕ) (h : Held) where
  -- from a reader that stands there
  pub whole_went : (piece : List ℕ) (k : ℕ) → LineRun piece max_line k → LineEnds piece k → (p y : Parser) → p.stage ≡ Fields → p.line ≡ [] → p.cr ≡ false
      → y ≡ fields_step t n (whole (take k piece)) p → is_refused y.stage ≡ false → Went t n piece (tablet_at h p) (k + 2) (tablet_at h y)
  whole_went piece k r w p y es el ec ey ef =
      let l = take k piece in
      let m = length-take-le k piece r.within in
      let e = same_start p es el ec in
      let z : y ≡ fields_step t n (whole l) (start p) = ey ∙ ap (fields_step t n (whole l)) e in
      let g : is_refused (fields_step t n (whole l) (start p)).stage ≡ false = ap (λ (q : Parser). is_refused q.stage) (sym z) ∙ ef in
      subst (λ (q : Parser). Went t n piece (tablet_at h q) (k + 2) (tablet_at h y)) (sym e)
      (on (omega arith) w.within (λ rest.
      ap (λ a. feed max_runs t n a (tablet_at h (start p))) (line-whole piece k w rest)
      ∙ feed-whole max_runs t n h l rest p r.fit (omega (arith, m, r.few)) g
      ∙ ap (λ (q : Parser). ahead (length l + 2) (feed max_runs t n rest (tablet_at h q))) (sym z)
      ∙ ap (λ (i : ℕ). ahead (i + 2) (feed max_runs t n rest (tablet_at h y))) m))

-- where the line is refused, the arrays mean what they meant
pub whole_keeps : (t : List ℕ) (n : ℕ) (l : List ℕ) (x s : ReaderState) (line tag boundary tag' boundary' : List ℕ) → Sized s line tag boundary
    → length tag' ≡ length tag → length boundary' ≡ length boundary → Within x
    → s.stage ≡ Fields → parser_of x line tag' boundary' ≡ fields_step t n (whole l) (parser_of s line tag boundary) → is_refused x.stage ≡ true
    → parser_of s line tag' boundary' ≡ parser_of s line tag boundary
whole_keeps t n l x s line tag boundary tag' boundary' w ut ub z es e f =
    let v = w.arrays in
    let k = fields_keeps t n (whole l) (parser_of s line tag boundary) es (sym (ap (λ (q : Parser). is_refused q.stage) e) ∙ f) in
    let g = same-front x.tag_len s.tag_len tag' tag (omega (arith, z.tag_fits, v.tag_room, ut)) (omega (arith, v.within.tag_fits, v.tag_room))
    (ap (λ (q : Parser). q.tag) e ∙ k.0) in
    let i = same-front x.boundary_len s.boundary_len boundary' boundary (omega (arith, z.boundary_fits, v.boundary_room, ub))
    (omega (arith, v.within.boundary_fits, v.boundary_room)) (ap (λ (q : Parser). q.boundary) e ∙ k.1) in
    rw (g, i)

-- where no line is taken, the reader is as ready as before
pub still_ready : (s : ReaderState) (line tag boundary tag' boundary' : List ℕ) → Sized s line tag boundary → length tag' ≡ length tag
    → length boundary' ≡ length boundary → Sized s line tag' boundary'
still_ready s line tag boundary tag' boundary' w u v =
    let g = w.arrays in
    record {
      arrays = record { line_room = g.line_room; tag_room = u ∙ g.tag_room; boundary_room = v ∙ g.boundary_room; within = g.within };
      stage_fits = w.stage_fits;
    }

-- and what is taken from there is taken from before
pub still_is : (t : List ℕ) (n : ℕ) (piece : List ℕ) (s : ReaderState) (line tag boundary tag' boundary' : List ℕ) (k : ℕ) (x : Reader)
    → parser_of s line tag' boundary' ≡ parser_of s line tag boundary
    → TextIs t n piece (reader_of s line tag' boundary') k x → TextIs t n piece (reader_of s line tag boundary) k x
still_is t n piece s line tag boundary tag' boundary' k x e w =
    record { fits = w.fits; went = λ h. subst (λ (q : Parser). Went t n piece (tablet_at h q) k (tablet_at h (parser_in x))) e (w.went h) }

-- there is room for field lines whose names do not count
pub lines_room : {s : Stage} {len : ℕ} {cr : Bool} {lines : ℕ} {piece : List ℕ} {o : OtherLines} → Ahead s len cr lines piece o → lines + o.lines ≤ max_fields
lines_room {s} {len} {cr} {lines} {piece} {o} a =
    let u : o.lines ≤ max_fields - lines = rw a.is (lines_few (max_fields - lines) piece) in
    omega (arith, a.few)

-- they are taken at once
pub lines_is : (t : List ℕ) (n : ℕ) (piece : List ℕ) (s : ReaderState) (line tag boundary : List ℕ) (o : OtherLines)
    → Ahead s.stage s.line_len s.cr s.head.lines piece o → Fits (reader_of s line tag boundary)
    → TextIs t n piece (reader_of s line tag boundary) o.taken (reader_of (state_lines o.lines s) line tag boundary)
lines_is t n piece s line tag boundary o a f = record {
  fits = record { line = f.line; tag = f.tag; boundary = f.boundary };
  went = λ h.
      on a.some (rw a.is (lines-within (max_fields - s.head.lines) piece)) (λ rest.
      rw a.is
      (feed-other_lines max_runs t n h (max_fields - s.head.lines) piece rest (parser_of s line tag boundary) a.stage (rw a.empty) a.unended
      (omega (arith, a.few))));
}
