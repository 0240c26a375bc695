-- The bytes of an acceptable answer that was taken stand at their positions.
use Prim.Native.Nat.{ℕ, zero, suc, ◌+◌, ◌≤◌, ◌<◌}
use mathlib.Core.Path.{◌≡◌, sym, ap, subst, ◌∙◌}
use mathlib.Core.Bool.{true, false, ◌||◌, true≢false, or-true}
use mathlib.Core.List.{List, [], ◌∷◌, ◌++◌}
use native.Mathlib.Omega.{arith}
use lib.Dec.{eqb, ltb, leb}
use lib.ListN.{length, get_or, set, length-set}
use lib.Seq.{get_or-set_same, get_or-set_other}
use borrow.Author.Tests.{ltb-false, leb-false}
use Rattle.rules_server.specs.Texts.{crlf}
use Rattle.rules_server.specs.Answers.{Cell, own, from, own_then, from_then, lines_then, dash_boundary}
use Rattle.rules_demands.specs.AcceptanceGrammar.{Kind, data_from, no_data, parts_under, Accepted, ok, part, many, unsatisfied, Part, Rest, closed, further}
use Rattle.rules_demands.specs.AcceptanceGrammar.{empty_lines, BodyText, plain, skipped, parts}
use Rattle.rules_demands.specs.AcceptanceByCopy.{Agrees, done, framing, again, new, Stands, BytesStand}
use Rattle.rules_tablet.specs.Runs.{member, insert, WellFormed}
use Rattle.rules_tablet.specs.Fields.{range_field, status_number, is_wrong, first_of}
use Rattle.rules_tablet.specs.Heads.{span_of}
use Rattle.rules_tablet.specs.Feeding.{Held}
use Rattle.rules_tablet.specs.declared.RangeField.{RangeField}
use Rattle.rules_tablet.specs.declared.RangeField.TheVariants.{Absent, Wrong, Span, Of}
use Rattle.laws_runs.proofs.Insert.{insert_formed, insert_member, insert_own}
use Rattle.laws_refusals.proofs.acceptance.Judging.{no_left, no_right}

-- positions below n
abbrev Inside : ℕ → List Cell → Type 0
Inside n [] = Unit {0}
Inside n (own b ∷ cells) = Inside n cells
Inside n (from p b ∷ cells) = (p < n) × Inside n cells

-- framing has no positions
inside_own : (n : ℕ) (l : List ℕ) (rest : List Cell) → Inside n rest → Inside n (own_then l rest)
inside_own n [] rest i = i
inside_own n (b ∷ l) rest i = inside_own n l rest i

-- data that ends at n or before lies below n
inside_from : (n p : ℕ) (l : List ℕ) (rest : List Cell) → p + length l ≤ n → Inside n rest → Inside n (from_then p l rest)
inside_from n p [] rest e i = i
inside_from n p (b ∷ l) rest e i = (omega arith, inside_from n (suc p) l rest (omega arith) i)

-- a range that is not wrong lies below n
right_fits : (n : ℕ) (r : RangeField) → is_wrong n r ≡ false → first_of r + span_of r ≤ n
right_fits n Absent e = absurd (true≢false e)
right_fits n Wrong e = absurd (true≢false e)
right_fits n (Span a b) e =
    let f = ltb-false b a (no_left (ltb b a) (leb n b) e) in
    let g = leb-false n b (no_right (ltb b a) (leb n b) e) in
    omega arith
right_fits n (Of a b s) e =
    let f = ltb-false b a (no_left (ltb b a) (leb s b) (no_left (ltb b a || leb s b) (leb n b) e)) in
    let g = leb-false n b (no_right (ltb b a || leb s b) (leb n b) e) in
    omega arith

-- a part's data lies below n
part_inside : (n : ℕ) (b : List ℕ) (cells rest : List Cell) → Part n b cells rest → Inside n rest → Inside n cells
part_inside n b cells rest a i =
    let r = range_field a.range_value in
    let f = right_fits n r a.lines.right in
    let s = a.span in
    subst (Inside n) (sym a.text)
    (inside_own n (dash_boundary b ++ (crlf ++ lines_then a.fields crlf)) (from_then (first_of r) a.bytes (own_then crlf rest))
    (inside_from n (first_of r) a.bytes (own_then crlf rest) (omega arith) i))

-- so does that of the parts that follow
rest_inside : (n : ℕ) (b : List ℕ) (cells : List Cell) → Rest n b cells → Inside n cells
rest_inside n b cells (closed anything e) = subst (Inside n) (sym e) (inside_own n (dash_boundary b ++ (45 ∷ 45 ∷ anything)) [] tt)
rest_inside n b cells (further rest a r) = part_inside n b cells rest a (rest_inside n b rest r)

-- empty lines have no positions
lead_inside : (n i : ℕ) (cells : List Cell) → Inside n cells → Inside n (empty_lines i cells)
lead_inside n zero cells h = h
lead_inside n (suc i) cells h = lead_inside n i cells h

-- what a kind of body holds lies below n
abbrev Below : ℕ → ℕ → Kind → Type 0
Below n z (data_from p) = p + z ≤ n
Below n z no_data = Unit {0}
Below n z (parts_under b) = Unit {0}

-- an accepted head says so
below : (tag : List ℕ) (n s : ℕ) (fs : List (List ℕ)) (z : ℕ) (k : Kind) → Accepted tag n s fs z k → Below n z k
below tag n s fs z k (ok es er et ez ek) = rw ek (omega arith)
below tag n s fs z k (part v es em er ew ef ez et ek) = let f = right_fits n (range_field v) ew in rw ek (omega arith)
below tag n s fs z k (many v es em ev er et ez ek) = rw ek tt
below tag n s fs z k (unsatisfied es ek) = rw ek tt

-- the data of a body lies below n
body_inside : (n z : ℕ) (k : Kind) (cells : List Cell) → Below n z k → BodyText n z k cells → Inside n cells
body_inside n z k cells w (plain p l ek el ec) =
    let v : p + z ≤ n = rw ek at w in
    subst (Inside n) (sym ec) (inside_from n p l [] (omega arith) tt)
body_inside n z k cells w (skipped l ek el ec) = subst (Inside n) (sym ec) (inside_own n l [] tt)
body_inside n z k cells w (parts b ek el a) =
    subst (Inside n) (sym a.text) (lead_inside n a.lead a.first
    (part_inside n b a.first a.rest a.part (rest_inside n b a.rest a.others)))

-- what is held stays
stays : (lim n : ℕ) (h last : Held) (cells : List Cell) → WellFormed 0 n h.runs → n ≤ length h.bytes → Inside n cells → Agrees lim h cells last → (q : ℕ)
    → member q h.runs ≡ true
    → (member q last.runs ≡ true) × (get_or last.bytes q 0 ≡ get_or h.bytes q 0)
stays lim n h last cells w l i (done e g) q m = (rw g m, rw g)
stays lim n h last cells w l i (framing b rest e a) q m = stays lim n h last rest w l (rw e at i) a q m
stays lim n h last cells w l i (again p b rest e f g a) q m = let j : Inside n (from p b ∷ rest) = rw e at i in stays lim n h last rest w l j.1 a q m
stays lim n h last cells w l i (new p b rest e f g a) q m =
    let j : Inside n (from p b ∷ rest) = rw e at i in
    let to : Held = record { runs = insert p h.runs; bytes = set h.bytes p b } in
    let size = length-set h.bytes p b in
    let away : q ≡ p → ⊥ = λ z. true≢false (sym m ∙ ap (λ (y : ℕ). member y h.runs) z ∙ f) in
    let r = stays lim n to last rest (insert_formed n p h.runs j.0 w) (omega arith) j.1 a q
    (insert_member n p q h.runs w ∙ rw m (or-true (eqb q p))) in
    (r.0, r.1 ∙ get_or-set_other h.bytes p q b 0 away)

-- each byte stands
stand : (lim n : ℕ) (h last : Held) (cells : List Cell) → WellFormed 0 n h.runs → n ≤ length h.bytes → Inside n cells → Agrees lim h cells last
    → Stands last cells
stand lim n h last cells w l i (done e g) = subst (Stands last) (sym e) tt
stand lim n h last cells w l i (framing b rest e a) = subst (Stands last) (sym e) (stand lim n h last rest w l (rw e at i) a)
stand lim n h last cells w l i (again p b rest e f g a) =
    let j : Inside n (from p b ∷ rest) = rw e at i in
    let s = stays lim n h last rest w l j.1 a p f in
    subst (Stands last) (sym e) ((s.0, s.1 ∙ g), stand lim n h last rest w l j.1 a)
stand lim n h last cells w l i (new p b rest e f g a) =
    let j : Inside n (from p b ∷ rest) = rw e at i in
    let to : Held = record { runs = insert p h.runs; bytes = set h.bytes p b } in
    let size = length-set h.bytes p b in
    let formed = insert_formed n p h.runs j.0 w in
    let below = j.0 in
    let s = stays lim n to last rest formed (omega arith) j.1 a p (insert_own n p h.runs w) in
    subst (Stands last) (sym e) ((s.0, s.1 ∙ get_or-set_same h.bytes p b 0 (omega arith)), stand lim n to last rest formed (omega arith) j.1 a)

-- of an acceptable answer
pub bytes_stand : BytesStand
bytes_stand lim tag n h last bytes cells w l c a =
    let b = body_inside n c.size c.kind c.body_cells
    (below tag n (status_number c.head.status) c.head.fields c.size c.kind c.head.accepted) c.body in
    stand lim n h last cells w l (subst (Inside n) (sym c.cells_are) (inside_own n c.head_bytes c.body_cells b)) a
