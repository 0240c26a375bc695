-- What the test of the sizes says of a reader's scalars and the arrays beside them.
-- Assumes nothing.
use Prim.Native.Nat.{ℕ}
use mathlib.Core.Path.{◌≡◌, refl, sym, ◌∙◌}
use mathlib.Core.Bool.{Bool, true, false, ◌&&◌, false≢true}
use mathlib.Core.List.{List}
use lib.Dec.{leb, eqb}
use lib.ListN.{length}
use borrow.Author.Tests.{leb-true, le-leb, eq-eqb, eqb-true}
use Rattle.rules_server.specs.Limits.{max_tag, max_boundary}
use Rattle.rules_tablet.specs.Limits.{max_line}
use Rattle.reader_state.specs.States.{ArraysSized}
use Rattle.reader_state.specs.declared.ReaderState.{ReaderState}
use Rattle.reader_state.specs.Sizes.{sizes_fit}

-- six tests that all hold
split : (a b d f g h : Bool) → (a && (b && (d && (f && (g && h))))) ≡ true → (a ≡ true) × (b ≡ true) × (d ≡ true) × (f ≡ true) × (g ≡ true) × (h ≡ true)
split true true true true true true e = (refl, refl, refl, refl, refl, refl)
split false b d f g h e = absurd (false≢true e)
split true false d f g h e = absurd (false≢true e)
split true true false f g h e = absurd (false≢true e)
split true true true false g h e = absurd (false≢true e)
split true true true true false h e = absurd (false≢true e)
split true true true true true false e = absurd (false≢true e)

module _ (s : ReaderState) (line tag boundary : List ℕ) where
  -- the test of their lengths
  abbrev pub fit : Bool
  fit = sizes_fit (length line) (length tag) (length boundary) s.line_len s.tag_len s.boundary_len

  -- it says that they have their sizes
  pub fit_sized : fit ≡ true → ArraysSized s line tag boundary
  fit_sized e =
      let h = split (eqb (length line) max_line) (eqb (length tag) max_tag) (eqb (length boundary) max_boundary) (leb s.line_len max_line)
      (leb s.tag_len max_tag) (leb s.boundary_len max_boundary) e in
      record {
        line_room = eqb-true _ _ h.0;
        tag_room = eqb-true _ _ h.1;
        boundary_room = eqb-true _ _ h.2;
        within = record { line_fits = leb-true _ _ h.3; tag_fits = leb-true _ _ h.4; boundary_fits = leb-true _ _ h.5 };
      }

  -- and only then
  pub sized_fit : ArraysSized s line tag boundary → fit ≡ true
  sized_fit z =
      rw (
        eq-eqb (length line) max_line z.line_room,
        eq-eqb (length tag) max_tag z.tag_room,
        eq-eqb (length boundary) max_boundary z.boundary_room,
        le-leb s.line_len max_line z.within.line_fits,
        le-leb s.tag_len max_tag z.within.tag_fits,
      )
      (le-leb s.boundary_len max_boundary z.within.boundary_fits)

  -- where it fails they have not
  pub unfit_sized : fit ≡ false → ArraysSized s line tag boundary → ⊥
  unfit_sized e z = false≢true (sym e ∙ sized_fit z)
