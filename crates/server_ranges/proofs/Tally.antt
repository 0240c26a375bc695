-- Laws of the tally: what a member adds to it, and that the tally of all specs says what a range set says.
use Rattle.std.proofs.Common.{◌≡◌, ℕ, suc, ◌+◌, ◌≤◌, ◌<◌, Bool, true, false, cond, ◌||◌, Option, None, Some, is_some, Ok, Err, List, [], ◌∷◌, length}
use Rattle.std.proofs.Common.{take}
use Rattle.std.proofs.Common.{refl, sym, ap, ◌∙◌, add-zero, zero-add, arith, length-take, drop-cons, drop_of_length-le}
use denote.Ref.{Bor}
use mathlib.Core.Bool.{or_assoc, or-false}
use borrow.Author.Tests.{le-leb, lt-leb}
use Rattle.rules_server.specs.Limits.{max_specs, merge_gap}
use Rattle.rules_server.specs.Octets.{trim}
use Rattle.rules_server.specs.Ranges.{ByteSpec, spec_at, spec_then, Reading, other_unit, malformed, listed, add_spec, add_member, members}
use Rattle.rules_server.specs.Ranges.{read_members, at_least_one}
use Rattle.rules_server.specs.Ranges.{invalid, satisfiable, any_spec, meaning}
use Rattle.rules_server.specs.Parts.{run_of, spec_runs, place, parts_of}
use Rattle.rules_server.specs.declared.Run.{Run}
use Rattle.rules_server.specs.declared.Spec.{Spec}
use Rattle.server_ranges.specs.Listing.{room_of, capped}
use Rattle.server_ranges.specs.Members.{members_left, bytes_left}
use Rattle.server_ranges.specs.Placing.{Placed}
use Rattle.server_ranges.specs.declared.Unread.{Unread}
use Rattle.server_ranges.specs.declared.Unread.TheVariants.{Malformed}
use Rattle.server_ranges.specs.declared.RangeSet.{RangeSet}
use Rattle.server_ranges.specs.declared.resolve.Resolved.{Resolved}
use Rattle.server_ranges.specs.Resolves.{resolution}
use Rattle.server_ranges.specs.Reads.{read_text}
use Rattle.server_ranges.specs.RangeSets.{RangeSetIs, RangeSetRead, parts_in}
use Rattle.server_ranges.specs.Tallies.{Tally, SpecTallied, Tallied, tally_of, no_specs, with_spec, tally_from, go_on}
use Rattle.server_ranges.proofs.Members.{member-none, member-reads}
use Rattle.server_ranges.proofs.parts.Laws.{capped_is_gather}

-- the specs are counted
tally_count : (room n : ℕ) (t : Tally) (ss : List ByteSpec) → (tally_from room n t ss).count ≡ t.count + length ss
tally_count room n t [] = sym (add-zero _)
tally_count room n t (s ∷ ss) = omega (arith, tally_count room n (with_spec room n t s) ss)

-- an invalid spec is noticed
tally_invalid : (room n : ℕ) (t : Tally) (ss : List ByteSpec) → (tally_from room n t ss).invalid ≡ t.invalid || any_spec invalid ss
tally_invalid room n t [] = sym (or-false t.invalid)
tally_invalid room n t (s ∷ ss) = tally_invalid room n (with_spec room n t s) ss ∙ or_assoc t.invalid (invalid s) (any_spec invalid ss)

-- a satisfiable spec is noticed
tally_satisfiable : (room n : ℕ) (t : Tally) (ss : List ByteSpec) → (tally_from room n t ss).satisfiable ≡ t.satisfiable || any_spec (satisfiable n) ss
tally_satisfiable room n t [] = sym (or-false t.satisfiable)
tally_satisfiable room n t (s ∷ ss) = tally_satisfiable room n (with_spec room n t s) ss ∙ or_assoc t.satisfiable (satisfiable n s) (any_spec
    (satisfiable n) ss)

-- the runs of the satisfiable specs are placed one by one
tally_runs : (room n : ℕ) (t : Tally) (ss : List ByteSpec) → (tally_from room n t ss).runs ≡ capped room merge_gap (spec_runs n ss) t.runs
tally_runs room n t [] = refl
tally_runs room n t (s ∷ ss) = tally_runs room n (with_spec room n t s) ss ∙ pick (satisfiable n s)
  where
    pick : (b : Bool) → capped room merge_gap (spec_runs n ss) (cond b (take room (place merge_gap (run_of n s) t.runs)) t.runs) ≡ capped room merge_gap
        (cond b (run_of n s ∷ spec_runs n ss) (spec_runs n ss)) t.runs
    pick true = refl
    pick false = refl

-- the count of the parts is their number
tally_number : (room n : ℕ) (t : Tally) (ss : List ByteSpec) → t.number ≡ length t.runs → (tally_from room n t ss).number ≡ length (tally_from
    room n t ss).runs
tally_number room n t [] h = h
tally_number room n t (s ∷ ss) h = tally_number room n (with_spec room n t s) ss (pick (satisfiable n s) (take room (place merge_gap (run_of n s) t.runs)))
  where
    pick : (b : Bool) (l : List Run) → cond b (length l) t.number ≡ length (cond b l t.runs)
    pick true l = refl
    pick false l = h

-- no more runs than specs
runs-length : (n : ℕ) (ss : List ByteSpec) → length (spec_runs n ss) ≤ length ss
runs-length n [] = omega arith
runs-length n (s ∷ ss) =
    elim (satisfiable n s) as (λ b. length (cond b (run_of n s ∷ spec_runs n ss) (spec_runs n ss)) ≤ suc (length ss))
    [ true ↦ omega (arith, runs-length n ss) | false ↦ omega (arith, runs-length n ss) ]

-- up to max_specs specs there are all parts, where there is room for them
pub parts-whole : (room n : ℕ) (ss : List ByteSpec) → room ≡ max_specs → length ss ≤ max_specs → parts_in room n ss ≡ parts_of n ss
unfolding parts_of
parts-whole room n ss e h = capped_is_gather room merge_gap (spec_runs n ss) [] (omega (arith, runs-length n ss))

-- there are no more parts than there is room for
spec_room : (room n : ℕ) (t : Tally) (s : ByteSpec) → t.number ≤ room → (with_spec room n t s).number ≤ room
spec_room room n t s h = pick (satisfiable n s) (place merge_gap (run_of n s) t.runs)
  where
    pick : (b : Bool) (l : List Run) → cond b (length (take room l)) t.number ≤ room
    pick true l = let e : length (take room l) ≤ room = omega (arith, length-take room l) in e
    pick false l = h

-- behind the run of a resolved spec, if any, there are k parts
abbrev pub RunPlaced : Option Run → ℕ → List Run → ℕ → List Run → Type 0
RunPlaced None count runs k runs_then = (k ≡ count) × (runs_then ≡ runs)
RunPlaced (Some r) count runs k runs_then = Placed r count runs k runs_then

-- a resolved spec told
pub resolved : (n : ℕ) (t : RangeSet) (s : ByteSpec) (runs : List Run) (k : ℕ) (runs_then : List Run) (x : Resolved) → x ≡ resolution n s
    → RunPlaced x.run t.parts runs k runs_then
    → SpecTallied n t s runs
    (record { count = t.count + 1; invalid = t.invalid || x.invalid; satisfiable = t.satisfiable || is_some x.run; parts = k }) runs_then
unfolding resolution
resolved n t s runs k runs_then x e p = rw e (go (satisfiable n s) refl (rw e at p))
  where
    go : (b : Bool) → satisfiable n s ≡ b → RunPlaced (cond b (Some (run_of n s)) None) t.parts runs k runs_then
        → SpecTallied n t s runs
        (record {
          count = t.count + 1;
          invalid = t.invalid || invalid s;
          satisfiable = t.satisfiable || is_some (cond b (Some (run_of n s)) None);
          parts = k;
        }) runs_then
    go true h p = record {
      says = rw h (λ i. record {
        count = t.count + 1;
        invalid = t.invalid || invalid s;
        satisfiable = t.satisfiable || true;
        runs = p.parts.parts i;
        number = p.parts.number i;
      });
      size = p.size;
    }
    go false h p = record {
      says = rw h (λ i. record {
        count = t.count + 1;
        invalid = t.invalid || invalid s;
        satisfiable = t.satisfiable || false;
        runs = take (p.0 i) (p.1 i);
        number = p.0 i;
      });
      size = ap length p.1;
    }

-- of the list l what stands before `rest` is read, into runs that were `before`: the specs so far, gone on with the members that are left, give what all
-- members give; they are no more than the bytes passed
pub record SoFar (n : ℕ) (l : List ℕ) (before : List Run) (rest : Option (Bor (List ℕ))) (t : RangeSet) (runs : List Run) : Type 0 where
  pub few : t.count + bytes_left rest ≤ suc (length l)
  pub says : go_on (room_of before) n (tally_of t runs) (read_members (members_left rest)) ≡ go_on (room_of before) n no_specs (read_members (members l))
  pub fits : t.parts ≤ room_of before
  pub size : length runs ≡ length before

-- at the first member that is left
module _ {n : ℕ} {l : List ℕ} {before : List Run} {rest : Option (Bor (List ℕ))} {t : RangeSet} {runs : List Run} (w : SoFar n l before rest t runs)
    {list : Bor (List ℕ)} (some : rest ≡ Some list) (part m : List ℕ) (others : Option (Bor (List ℕ)))
    (split : members list.now ≡ part ∷ members_left others) (fewer : bytes_left others ≤ length list.now) (trimmed : m ≡ trim part) where
  -- that member, then the others
  next : go_on (room_of before) n (tally_of t runs) (add_member m (read_members (members_left others))) ≡ go_on (room_of before) n no_specs (read_members
      (members l))
  unfolding spec_at
  next = rw trimmed (ap (λ ms. go_on (room_of before) n (tally_of t runs) (read_members ms)) (sym split) ∙ (rw some at w.says))

  -- the specs so far are no more than the bytes of the list
  pub passed : t.count + suc (length list.now) ≤ suc (length l)
  passed = rw some at w.few

  -- an empty member adds nothing
  pub blank : length m ≡ 0 → SoFar n l before others t runs
  blank e = record {
    few = let p = passed in omega arith;
    says = rw (member-none m (omega arith)) at next;
    fits = w.fits;
    size = w.size;
  }

  -- one that is no spec makes the list malformed
  pub broken : (length m ≡ 0 → ⊥) → None ≡ read_text m → Tallied (go_on (room_of before) n no_specs (read_members (members l))) (Err Malformed) before runs
  broken h e = record { says = rw (member-reads m None (omega arith) e) at next; size = w.size }

  -- so does one with more behind its spec
  pub behind : (s : Spec) (end : ℕ) → (length m ≡ 0 → ⊥) → Some (s, end) ≡ read_text m → end < length m
      → Tallied (go_on (room_of before) n no_specs (read_members (members l))) (Err Malformed) before runs
  behind s end h e more = record {
    says = rw (member-reads m (Some (s, end)) (omega arith) e, drop-cons m end 0 more) at next;
    size = w.size;
  }

  -- a spec is told
  pub told : (s : Spec) (end : ℕ) {r : RangeSet} {runs_then : List Run} → (length m ≡ 0 → ⊥) → Some (s, end) ≡ read_text m → length m ≤ end
      → SpecTallied n t (meaning m s) runs r runs_then → SoFar n l before others r runs_then
  told s end {r} {runs_then} h e all d =
      let room : room_of runs ≡ room_of before = rw w.size in
      let says : tally_of r runs_then ≡ with_spec (room_of before) n (tally_of t runs) (meaning m s) = rw room at d.says in
      let next' = rw (member-reads m (Some (s, end)) (omega arith) e, drop_of_length-le m all) at next in
      record {
        few = omega (arith, ap (λ u. u.count) says, passed);
        says = ap (λ u. go_on (room_of before) n u (read_members (members_left others))) says
            ∙ go (read_members (members_left others)) ∙ next';
        fits = omega (arith, ap (λ u. u.number) says, spec_room (room_of before) n (tally_of t runs) (meaning m s) w.fits);
        size = d.size ∙ w.size;
      }
    where
      go : (x : Reading) → go_on (room_of before) n (with_spec (room_of before) n (tally_of t runs) (meaning m s)) x
          ≡ go_on (room_of before) n (tally_of t runs) (add_spec (spec_then (meaning m s) []) x)
      go other_unit = refl
      go malformed = refl
      go (listed ss) = refl

-- where nothing is left
pub all_told : {n : ℕ} {l : List ℕ} {before : List Run} {rest : Option (Bor (List ℕ))} {t : RangeSet} {runs : List Run} → SoFar n l before rest t runs
    → rest ≡ None → Tallied (go_on (room_of before) n no_specs (read_members (members l))) (Ok t) before runs
unfolding spec_at
all_told w e = record { says = rw e at w.says; size = w.size }

-- a range set whose parts stand in runs with room for so many
module _ (room n : ℕ) (runs : List Run) (z : room_of runs ≡ room) where
  -- the tally of some specs says what their range set says
  range_set : (ss : List ByteSpec) (t : RangeSet) → tally_of t runs ≡ tally_from room n no_specs ss → length ss ≤ max_specs → RangeSetIs n ss t runs
  range_set ss t e h =
      let l = tally_runs room n no_specs ss in
      record {
        count = ap (λ u. u.count) e ∙ tally_count room n no_specs ss ∙ zero-add _;
        invalid = ap (λ u. u.invalid) e ∙ tally_invalid room n no_specs ss;
        satisfiable = ap (λ u. u.satisfiable) e ∙ tally_satisfiable room n no_specs ss;
        parts = rw (z, le-leb (length ss) max_specs h) (record {
          parts = ap (λ u. u.runs) e ∙ l;
          number = ap (λ u. u.number) e ∙ tally_number room n no_specs ss refl ∙ ap length l;
        });
      }

  -- so does that of more specs than the limit, with no parts
  many-specs : (ss : List ByteSpec) (t : RangeSet) → tally_of t runs ≡ tally_from room n no_specs ss → max_specs < length ss
      → RangeSetIs n ss (record t { parts = 0 }) runs
  many-specs ss t e h = record {
    count = ap (λ u. u.count) e ∙ tally_count room n no_specs ss ∙ zero-add _;
    invalid = ap (λ u. u.invalid) e ∙ tally_invalid room n no_specs ss;
    satisfiable = ap (λ u. u.satisfiable) e ∙ tally_satisfiable room n no_specs ss;
    parts = rw (lt-leb (length ss) max_specs h) (record { parts = refl; number = refl });
  }

-- what the members of a list give
module _ (n : ℕ) {before runs : List Run} where
  -- a spec at least, and no more than the limit
  pub read_some : (x : Reading) {t : RangeSet} → Tallied (go_on (room_of before) n no_specs x) (Ok t) before runs → (t.count ≡ 0 → ⊥) → t.count ≤ max_specs
      → RangeSetRead n (at_least_one x) (Ok t) before runs
  read_some other_unit e h k = let f = e.says in cc
  read_some malformed e h k = let f = e.says in cc
  read_some (listed []) {t} e h k = let f = e.says in let g : tally_of t runs ≡ no_specs = cc in absurd (h (ap (λ u. u.count) g))
  read_some (listed (s ∷ ss)) {t} e h k =
      let f = e.says in
      let g : tally_of t runs ≡ tally_from (room_of before) n no_specs (s ∷ ss) = cc in
      let count = ap (λ u. u.count) g ∙ tally_count (room_of before) n no_specs (s ∷ ss) in
      record { is = (refl, range_set (room_of before) n runs (rw e.size) (s ∷ ss) t g (omega arith)); size = e.size }

  -- more specs than the limit
  pub read_many : (x : Reading) {t : RangeSet} → Tallied (go_on (room_of before) n no_specs x) (Ok t) before runs → max_specs < t.count
      → RangeSetRead n (at_least_one x) (Ok (record t { parts = 0 })) before runs
  read_many other_unit e h = let f = e.says in cc
  read_many malformed e h = let f = e.says in cc
  read_many (listed []) {t} e h = let f = e.says in let g : tally_of t runs ≡ no_specs = cc in absurd (omega (arith, ap (λ u. u.count) g))
  read_many (listed (s ∷ ss)) {t} e h =
      let f = e.says in
      let g : tally_of t runs ≡ tally_from (room_of before) n no_specs (s ∷ ss) = cc in
      let count = ap (λ u. u.count) g ∙ tally_count (room_of before) n no_specs (s ∷ ss) in
      record { is = (refl, many-specs (room_of before) n runs (rw e.size) (s ∷ ss) t g (omega arith)); size = e.size }

  -- no spec
  pub read_nothing : (x : Reading) {t : RangeSet} → Tallied (go_on (room_of before) n no_specs x) (Ok t) before runs → t.count ≡ 0
      → RangeSetRead n (at_least_one x) (Err Malformed) before runs
  read_nothing other_unit e h = record { is = refl; size = e.size }
  read_nothing malformed e h = record { is = refl; size = e.size }
  read_nothing (listed []) e h = record { is = refl; size = e.size }
  read_nothing (listed (s ∷ ss)) {t} e h =
      let f = e.says in
      let g : tally_of t runs ≡ tally_from (room_of before) n no_specs (s ∷ ss) = cc in
      absurd (omega (arith, ap (λ u. u.count) g, tally_count (room_of before) n no_specs (s ∷ ss)))

  -- a member that is no spec
  pub read_broken : (x : Reading) (u : Unread) → Tallied (go_on (room_of before) n no_specs x) (Err u) before runs
      → RangeSetRead n (at_least_one x) (Err u) before runs
  read_broken other_unit u e = let f = e.says in let g : u ≡ Malformed = cc in rw g record { is = refl; size = e.size }
  read_broken malformed u e = let f = e.says in let g : u ≡ Malformed = cc in rw g record { is = refl; size = e.size }
  read_broken (listed ss) u e = let f = e.says in cc
