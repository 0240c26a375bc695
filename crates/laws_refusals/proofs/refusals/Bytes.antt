-- Feeding one byte behind a front: what the form refuses, what the copy refuses, and what is taken.
use Prim.Native.Nat.{ℕ}
use mathlib.Core.Path.{◌≡◌, refl, sym, ap}
use mathlib.Core.Bool.{Bool, true, false}
use mathlib.Core.List.{List, [], ◌∷◌, ◌++◌, map}
use Rattle.std.specs.Prelude.{Option, None, Some}
use lib.Dec.{eqb, ltb}
use lib.ListN.{length, get_or, set}
use borrow.Author.Tests.{eqb-false, ne_eqb, ltb-true, lt-ltb}
use Rattle.rules_server.specs.Answers.{Cell, byte_of}
use Rattle.rules_tablet.specs.Runs.{member, insert}
use Rattle.rules_tablet.specs.Parsers.{Parser, at, parse, event}
use Rattle.rules_tablet.specs.Feeding.{Held, kept, refused_by, store, take_in, Tablet, is_over, Byte, feed_byte, feed_on, feed}
use Rattle.rules_tablet.specs.declared.Stage.TheVariants.{Refused}
use Rattle.rules_demands.specs.AcceptanceByCopy.{Agrees, done, framing, again, new}
use Rattle.laws_reader.proofs.storing.Bytes.{feed-none}
use Rattle.laws_refusals.proofs.acceptance.Taking.{cell_at}
use Rattle.rules_demands.specs.RefusalParts.{Within, in_lead, in_lead_end, in_mark, behind_mark, behind_cr, behind_dash, in_line, in_data, behind_data}
use Rattle.rules_demands.specs.RefusalParts.{behind_close, position_in, WithinRefuses}
use Rattle.rules_demands.specs.RefusalFronts.{Front, in_head, in_plain, in_skipped, in_parts, position, FormRefuses, DataRefuses, differs, too_many}

-- data is not refused by its form
quiet_in : (n : ℕ) (b : List ℕ) (z : ℕ) (cells : List Cell) (w : Within n b z cells) (x k : ℕ) → WithinRefuses n b z cells w x k
    → position_in n b z cells w ≡ None
quiet_in n b z cells (in_lead lead few is) x k q = refl
quiet_in n b z cells (in_lead_end lead few is) x k q = refl
quiet_in n b z cells (in_mark lead seen c more few some-seen mark-is is) x k q = refl
quiet_in n b z cells (behind_mark parts m) x k q = refl
quiet_in n b z cells (behind_cr parts marked m is) x k q = refl
quiet_in n b z cells (behind_dash marked m is) x k q = refl
quiet_in n b z cells (in_line parts marked fields l cr m heading line is) x k q = refl
quiet_in n b z cells (in_data parts marked fields v bytes m a part-way is) x k q = absurd q
quiet_in n b z cells (behind_data parts marked fields v bytes seen c more m a all mark-is is) x k q = refl
quiet_in n b z cells (behind_close marked anything m is) x k q = refl

-- so it is of any front
pub quiet : (tag : List ℕ) (n : ℕ) (cells : List Cell) (f : Front tag n cells) (x k : ℕ) → FormRefuses tag n cells f x k → position tag n cells f ≡ None
quiet tag n cells (in_head text f is) x k q = refl
quiet tag n cells (in_plain text p z l a more is) x k q = absurd q
quiet tag n cells (in_skipped text z l a more is) x k q = refl
quiet tag n cells (in_parts text b z body a w more is) x k q = quiet_in n b z body w x k q

-- a byte that the form refuses
pub form_byte : (lim : ℕ) (tag : List ℕ) (n : ℕ) (h : Held) (p : Parser) (x k : ℕ) (rest : List ℕ) → is_over p.stage ≡ false → event p.stage ≡ None
    → (parse tag n p.stage x p).stage ≡ Refused k
    → feed lim tag n (x ∷ rest) (record { held = h; parser = p }) ≡ record { tablet = record { held = h; parser = at (Refused k) p }; taken = 0 }
unfolding feed_byte
form_byte lim tag n h p x k rest o v e = ap (λ (one : Byte). feed_on one (feed lim tag n rest one.tablet)) byte
  where
    byte : feed_byte lim tag n (record { held = h; parser = p }) x ≡ record { tablet = record { held = h; parser = at (Refused k) p }; is_taken = false }
    byte = rw (o, v, e)

-- a byte that the copy refuses
pub data_byte : (lim : ℕ) (tag : List ℕ) (n : ℕ) (h : Held) (p : Parser) (x k : ℕ) (rest : List ℕ) → is_over p.stage ≡ false
    → take_in lim h (event p.stage) x ≡ refused_by k
    → feed lim tag n (x ∷ rest) (record { held = h; parser = p }) ≡ record { tablet = record { held = h; parser = at (Refused k) p }; taken = 0 }
unfolding feed_byte
data_byte lim tag n h p x k rest o e = ap (λ (one : Byte). feed_on one (feed lim tag n rest one.tablet)) byte
  where
    byte : feed_byte lim tag n (record { held = h; parser = p }) x ≡ record { tablet = record { held = h; parser = at (Refused k) p }; is_taken = false }
    byte = rw (o, e)

-- nothing is taken behind the end
pub over-none : (lim : ℕ) (tag : List ℕ) (n : ℕ) (t : Tablet) (l : List ℕ) → is_over t.parser.stage ≡ true
    → feed lim tag n l t ≡ record { tablet = t; taken = 0 }
unfolding feed_byte
over-none lim tag n t [] e = feed-none lim tag n t
over-none lim tag n t (x ∷ l) e = ap (λ (one : Byte). feed_on one (feed lim tag n l one.tablet)) byte
  where
    byte : feed_byte lim tag n t x ≡ record { tablet = t; is_taken = false }
    byte = rw e

-- what the copy makes of a byte: refused as the table says, or kept
pub data StoreCase (lim : ℕ) (h : Held) (o : Option ℕ) (x : ℕ) : Type 0 where
  refuses : (k : ℕ) → DataRefuses lim h x k o → StoreCase lim h o x
  keeps : (to : Held) → take_in lim h o x ≡ kept to → StoreCase lim h o x

-- every byte is one of these
pub store_case : (lim : ℕ) (h : Held) (o : Option ℕ) (x : ℕ) → StoreCase lim h o x
unfolding store
store_case lim h None x = keeps h refl
store_case lim h (Some p) x = go (member p h.runs) (eqb (get_or h.bytes p 0) x) (ltb lim (length (insert p h.runs))) refl refl refl
  where
    go : (u v w : Bool) → member p h.runs ≡ u → eqb (get_or h.bytes p 0) x ≡ v → ltb lim (length (insert p h.runs)) ≡ w → StoreCase lim h (Some p) x
    go true true w e f g = keeps h (rw (e, f))
    go true false w e f g = refuses 17 (differs p refl e (eqb-false (get_or h.bytes p 0) x f) refl)
    go false v true e f g = refuses 16 (too_many p refl e (ltb-true lim (length (insert p h.runs)) g) refl)
    go false v false e f g = keeps (record { runs = insert p h.runs; bytes = set h.bytes p x }) (rw (e, g))

-- what the table refuses, the copy refuses
pub data_refused : (lim : ℕ) (h : Held) (o : Option ℕ) (x k : ℕ) → DataRefuses lim h x k o → take_in lim h o x ≡ refused_by k
unfolding store
data_refused lim h o x k (differs p e m d f) = rw (e, m, ne_eqb (get_or h.bytes p 0) x d, f)
data_refused lim h o x k (too_many p e m d f) = rw (e, m, lt-ltb lim (length (insert p h.runs)) d, f)

-- bytes that agree, and then others
pub agrees_then : (lim : ℕ) (h mid last : Held) (a c : List Cell) → Agrees lim h a mid → Agrees lim mid c last → Agrees lim h (a ++ c) last
agrees_then lim h mid last a c (done e f) g = rw (e, sym f) g
agrees_then lim h mid last a c (framing b rest e f) g = framing b (rest ++ c) (ap (λ (l : List Cell). l ++ c) e) (agrees_then lim h mid last rest c f g)
agrees_then lim h mid last a c (again p b rest e m q f) g = again p b (rest ++ c) (ap (λ (l : List Cell). l ++ c) e) m q (agrees_then lim h mid last rest c f g)
agrees_then lim h mid last a c (new p b rest e m q f) g =
    new p b (rest ++ c) (ap (λ (l : List Cell). l ++ c) e) m q
    (agrees_then lim (record { runs = insert p h.runs; bytes = set h.bytes p b }) mid last rest c f g)

-- the byte of a cell at a position
pub cell_byte : (o : Option ℕ) (x : ℕ) → byte_of (cell_at o x) ≡ x
cell_byte None x = refl
cell_byte (Some p) x = refl

-- the bytes of cells, and one more
pub bytes_then : (a c : List Cell) → map byte_of (a ++ c) ≡ map byte_of a ++ map byte_of c
bytes_then [] c = refl
bytes_then (x ∷ a) c = ap (λ (l : List ℕ). byte_of x ∷ l) (bytes_then a c)
