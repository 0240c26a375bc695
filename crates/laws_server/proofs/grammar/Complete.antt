-- What the grammar derives behind `bytes=`, the reading yields.
use Prim.Native.Nat.{ℕ}
use mathlib.Core.Path.{◌≡◌, refl}
use mathlib.Core.Bool.{Bool, true, false}
use mathlib.Core.List.{List, [], ◌∷◌, ◌++◌, append_assoc, append-nil}
use lib.Dec.{eqb}
use lib.ListN.{get_or}
use borrow.Author.Tests.{not-true, eqb-true}
use Rattle.rules_server.specs.Octets.{is_blank, all, trim}
use Rattle.rules_server.specs.Ranges.{ByteSpec, members, listed, add_member, read_members, read_list, spec_at}
use Rattle.rules_demands.specs.GrammarRange.{SpecText, Leading, none, comma_then, Following, empty, spec, ByteRangeSet}
use Rattle.laws_server.proofs.grammar.Bytes.{and_left, all-append, all_weaker}
use Rattle.laws_server.proofs.grammar.Blanks.{trim-before, trim-behind, trim_solid, solid}
use Rattle.laws_server.proofs.grammar.Commas.{inner, members-last, members_more}
use Rattle.laws_server.proofs.grammar.Specs.{spec_some, spec_solid, spec_inner, add_spec_lem}

-- a blank is no comma
blank_inner : (x : ℕ) → is_blank x ≡ true → inner x ≡ true
blank_inner x e = go (eqb x 32) refl
  where
    go : (b : Bool) → eqb x 32 ≡ b → inner x ≡ true
    go true t = rw (eqb-true x 32 t)
    go false t = let f : eqb x 9 ≡ true = rw t at e in rw (eqb-true x 9 f)

-- blanks are one member
blanks_inner : (w : List ℕ) → all is_blank w ≡ true → all inner w ≡ true
blanks_inner w e = all_weaker is_blank inner blank_inner w e

-- the member in front of a comma, and the members behind it
read_more : (m l : List ℕ) → all inner m ≡ true → read_members (members (m ++ (44 ∷ l))) ≡ add_member (trim m) (read_members (members l))
unfolding spec_at
read_more m l e = rw (members_more m l e)

-- blanks before a spec: the member adds the spec
add-blank : (u t : List ℕ) (s : ByteSpec) (ss : List ByteSpec) → all is_blank u ≡ true → SpecText t s → add_member (trim (u ++ t)) (listed ss) ≡ listed (s ∷ ss)
add-blank u t s ss e d = rw (trim-before u t e, trim_solid t (spec_solid d)) (add_spec_lem t s ss d)

-- a member x without commas and what follows it are read as x before the specs that follow
following_complete : {t : List ℕ} {ss : List ByteSpec} → Following t ss → (x : List ℕ) → all inner x ≡ true
    → read_members (members (x ++ t)) ≡ add_member (trim x) (listed ss)
unfolding spec_at
following_complete (none q r) x e = rw (q, r, append-nil x, members-last x e)
following_complete (empty w l o f q) x e =
    rw (
      q,
      ← append_assoc x w (44 ∷ l),
      read_more (x ++ w) l (all-append inner x w e (blanks_inner w o)),
      trim-behind x w o,
      following_complete f [] refl,
    )
following_complete (spec w u y l s rest o p d f q r) x e =
    rw (
      q,
      r,
      ← append_assoc x w (44 ∷ (u ++ (y ++ l))),
      read_more (x ++ w) (u ++ (y ++ l)) (all-append inner x w e (blanks_inner w o)),
      trim-behind x w o,
      ← append_assoc u y l,
      following_complete f (u ++ y) (all-append inner u y (blanks_inner u p) (spec_inner d)),
      add-blank u y s rest p d,
    )

-- blanks w, the start of a list, a spec and what follows it are read as the specs
leading_complete : {t : List ℕ} → Leading t → (w y l : List ℕ) (s : ByteSpec) (rest : List ByteSpec)
    → all is_blank w ≡ true → SpecText y s → Following l rest → read_members (members (w ++ (t ++ (y ++ l)))) ≡ listed (s ∷ rest)
unfolding spec_at
leading_complete (none q) w y l s rest e d f =
    rw (
      q,
      ← append_assoc w y l,
      following_complete f (w ++ y) (all-append inner w y (blanks_inner w e) (spec_inner d)),
      add-blank w y s rest e d,
    )
leading_complete (comma_then v k o g q) w y l s rest e d f =
    rw (
      q,
      append_assoc v k (y ++ l),
      read_more w (v ++ (k ++ (y ++ l))) (blanks_inner w e),
      leading_complete g v y l s rest o d f,
      trim-behind [] w e,
    )

-- a spec begins with no blank
spec_first : (y l : List ℕ) (s : ByteSpec) → SpecText y s → is_blank (get_or (y ++ l) 0 0) ≡ false
spec_first [] l s d = absurd (spec_some d)
spec_first (x ∷ y) l s d = not-true (is_blank x) (and_left (solid x) (all solid y) (spec_solid d))

-- nor does a list
list_first : {t : List ℕ} → Leading t → (y l : List ℕ) (s : ByteSpec) → SpecText y s → is_blank (get_or (t ++ (y ++ l)) 0 0) ≡ false
list_first (none q) y l s d = rw q (spec_first y l s d)
list_first (comma_then v k o g q) y l s d = rw q

-- a list of the grammar is read as its specs
pub list_complete : (t : List ℕ) (ss : List ByteSpec) → ByteRangeSet t ss → read_list t ≡ listed ss
unfolding read_list
list_complete t ss d =
    rw (
      d.text,
      d.specs,
      list_first d.leading d.one d.rest d.first d.spec,
      leading_complete d.leading [] d.one d.rest d.first d.others refl d.spec d.following,
    )
