-- Laws of reading a list: its members by the first comma, what a member adds, and what stands before the list.
use Rattle.std.proofs.Common.{◌≡◌, ℕ, suc, ◌+◌, ◌≤◌, ◌<◌, true, false, cond, eqb, List, [], ◌∷◌, length, take, drop, get_or, Option, None, Some}
use Rattle.std.proofs.Common.{◌⊎◌, inl, inr, refl, sym, ap, ◌∙◌, add-one, arith}
use denote.Ref.{Bor}
use Rattle.std.specs.List.{slice_split, onto_first}
use Rattle.std.specs.Slice.{IsGetRangeResult}
use Rattle.std.proofs.Math.Seq.{length-take-le}
use Rattle.rules_server.specs.Octets.{is_blank, same_fold, before}
use Rattle.rules_server.specs.Texts.{bytes_unit}
use Rattle.rules_server.specs.Ranges.{spec_at, members, into, Reading, other_unit, malformed, add_spec, add_member, read_members, at_least_one}
use Rattle.rules_server.specs.Ranges.{read_list, read_range}
use Rattle.rules_server.specs.declared.Spec.{Spec}
use Rattle.server_ranges.proofs.Laws.{read_means}
use Rattle.octets.proofs.strings.Laws.{part_to_end}
use Rattle.server_ranges.specs.Members.{members_left, bytes_left}
use Rattle.server_ranges.specs.Reads.{read_text, read_meaning}

-- the members are the parts at commas
pub members_split : (l : List ℕ) → slice_split (λ x. eqb x 44) l ≡ members l
members_split [] = refl
members_split (x ∷ l) =
    ap (λ (ms : List (List ℕ)). cond (eqb x 44) ([] ∷ ms) (onto_first x ms)) (members_split l) ∙ ap (cond (eqb x 44) ([] ∷ members l)) (same (members l))
  where
    same : (ms : List (List ℕ)) → onto_first x ms ≡ into x ms
    same [] = refl
    same (m ∷ ms) = refl

-- without a comma the text is its only member
pub members-last : (l : List ℕ) → length (before 44 l) ≡ length l → members l ≡ before 44 l ∷ []
members-last [] h = refl
members-last (x ∷ l) h =
    (elim (eqb x 44) as (λ b. length (cond b [] (x ∷ before 44 l)) ≡ suc (length l)
    → cond b ([] ∷ members l) (into x (members l)) ≡ cond b [] (x ∷ before 44 l) ∷ [])
    [ true ↦ λ q. absurd (omega arith) | false ↦ λ q. ap (into x) (members-last l (omega arith)) ])
    h

-- with a comma: the member before it, then those behind it
pub members_more : (l : List ℕ) → length (before 44 l) < length l → members l ≡ before 44 l ∷ members (drop (suc (length (before 44 l))) l)
members_more [] h = absurd (omega arith)
members_more (x ∷ l) h =
    (elim (eqb x 44) as (λ b. length (cond b [] (x ∷ before 44 l)) < suc (length l)
    → cond b ([] ∷ members l) (into x (members l)) ≡ cond b [] (x ∷ before 44 l) ∷ members (drop (length (cond b [] (x ∷ before 44 l))) l))
    [ true ↦ λ q. refl | false ↦ λ q. ap (into x) (members_more l (omega arith)) ])
    h

-- the member before the first comma, then those of what stands behind it
pub members_first : (l : List ℕ) (e : ℕ) (r : Option (Bor (List ℕ))) → e ≤ length l → take e l ≡ before 44 l → IsGetRangeResult l (e + 1) (length l) r
    → members l ≡ take e l ∷ members_left r
members_first l e None w b g = rw b (members-last l (ap length (sym b) ∙ length-take-le e l w ∙ last g.0))
  where
    last : (length l < e + 1) ⊎ (length l < length l) → e ≡ length l
    last (inl h) = omega arith
    last (inr h) = absurd (omega arith)
members_first l e (Some x) w b g =
    let n : length (before 44 l) ≡ e = ap length (sym b) ∙ length-take-le e l w in
    let rest : x.now ≡ drop (suc e) l = g.0.2 ∙ part_to_end l (e + 1) ∙ (rw add-one) in
    rw (b, rest, ← n) (members_more l (omega (arith, n, g.0.0)))

-- fewer bytes are left than there were
pub fewer_left : (l : List ℕ) (e : ℕ) (r : Option (Bor (List ℕ))) → IsGetRangeResult l (e + 1) (length l) r → bytes_left r ≤ length l
fewer_left l e None g = omega arith
fewer_left l e (Some x) g = omega (arith, g.0.3)

-- an empty member adds nothing
pub member-none : (m : List ℕ) → length m ≤ 0 → (x : Reading) → add_member m x ≡ x
unfolding spec_at
member-none [] h x = refl
member-none (y ∷ m) h x = absurd (omega arith)

-- a member that is not empty has to be a spec
member-some : (m : List ℕ) → 0 < length m → (x : Reading) → add_member m x ≡ add_spec (spec_at m) x
unfolding spec_at
member-some [] h x = absurd (omega arith)
member-some (y ∷ m) h x = refl

-- the spec that the code reads there
pub member-reads : (m : List ℕ) (r : Option (Spec × ℕ)) → 0 < length m → r ≡ read_text m → (x : Reading) → add_member m x ≡ add_spec (read_meaning m r) x
member-reads m r h e x = member-some m h x ∙ ap (λ s. add_spec s x) (sym (read_means m) ∙ ap (read_meaning m) (sym e))

-- nothing behind the unit is malformed
pub list_none : (l : List ℕ) → length l ≡ 0 → read_list l ≡ malformed
unfolding read_list spec_at
list_none [] h = refl
list_none (x ∷ l) h = absurd (omega arith)

-- and so is a blank straight behind it
pub list_blank : (l : List ℕ) → is_blank (get_or l 0 0) ≡ true → read_list l ≡ malformed
unfolding read_list
list_blank l e = rw e

-- otherwise the members decide
pub list_members : (l : List ℕ) → is_blank (get_or l 0 0) ≡ false → read_list l ≡ at_least_one (read_members (members l))
unfolding read_list
list_members l e = rw e

-- another start is another unit
pub range_other : (v : List ℕ) → same_fold (take (length bytes_unit) v) bytes_unit ≡ false → read_range v ≡ other_unit
unfolding read_range
range_other v e = rw e

-- behind the unit stands the list
pub range_bytes : (v : List ℕ) → same_fold (take (length bytes_unit) v) bytes_unit ≡ true → read_range v ≡ read_list (drop (length bytes_unit) v)
unfolding read_range
range_bytes v e = rw e
