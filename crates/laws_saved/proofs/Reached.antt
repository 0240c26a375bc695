-- Every place whose units before it are right is reached by the reading. Assumes nothing.
use Prim.Native.Nat.{ℕ, ◌+◌, ◌*◌, ◌≤◌}
use mathlib.Core.Path.{◌≡◌, refl, sym, ap, subst, ◌∙◌}
use mathlib.Core.List.{List, [], ◌∷◌, ◌++◌, append_assoc, append-nil}
use native.Mathlib.Omega.{arith}
use lib.ListN.{length, length-append}
use borrow.Author.Tests.{le-leb, lt-ltb}
use Rattle.rules_server.specs.Limits.{max_file, max_tag}
use Rattle.rules_server.specs.Numbers.{in_bytes, AreBytes}
use Rattle.rules_server.specs.declared.Run.{Run}
use Rattle.rules_tablet.specs.Runs.{WellFormed}
use Rattle.rules_tablet.specs.SavedCopies.{mark, run_fault, saved_read}
use Rattle.rules_demands.specs.SavedRefusals.{Version, one, two, runs_in, SavedPlace, at_mark, at_version, at_tag_count, at_tag, at_length, at_run_count, at_run, size_at}
use Rattle.rules_demands.specs.SavedRefusals.{UnitComes, bytes_before, RightTag, RightBefore}
use Rattle.laws_numerals.proofs.Bytes.{in_bytes_long, in_bytes_lem, value_back}
use Rattle.laws_saved.proofs.Tests.{strong_bytes}
use Rattle.laws_saved.proofs.Places.{behind, behind-last, most_runs_lem, runs_few, draft-at, read_from, next-place, fault_at, read_right}
use Rattle.laws_saved.proofs.Runs.{run_bytes, run_long, run_bytes_lem, run_back}
use Rattle.laws_saved.proofs.Units.{unit_right}

-- the units before a place are right, and behind their bytes the reading goes on from there
abbrev Reached : SavedPlace → Type 0
Reached p = RightBefore p × ((l : List ℕ) → saved_read (bytes_before p ++ l) ≡ read_from p l)

-- behind a right unit the next place is reached
onward : (p : SavedPlace) (u : List ℕ) → Reached p → UnitComes p → AreBytes u → length u ≡ size_at p → fault_at p u ≡ 0 → Reached (next-place p u)
onward p u reached c b s f =
    let next = unit_right p u reached.0 c b s f in (
      next.0,
      λ l.
          ap (λ (t : List ℕ). saved_read (t ++ l)) next.1 ∙ ap saved_read (append_assoc (bytes_before p) u l)
          ∙ reached.1 (u ++ l)
          ∙ read_right p u l c s f,
    )

-- the beginning of a file
reached_mark : Reached at_mark
unfolding saved_read
reached_mark = (tt, λ l. refl)

-- behind the mark
reached_version : Reached at_version
reached_version = onward at_mark mark reached_mark tt (omega arith) refl refl

-- behind the version
reached_tag-count : (v : Version) → Reached (at_tag_count v)
reached_tag-count one = onward at_version (0 ∷ 1 ∷ []) reached_version tt (omega arith) refl refl
reached_tag-count two = onward at_version (0 ∷ 2 ∷ []) reached_version tt (omega arith) refl refl

-- behind a tag's count
reached_tag : (v : Version) (k : ℕ) → k ≤ max_tag → Reached (at_tag v k)
reached_tag v k h =
    let e : 0 * 256 + k ≡ k = omega arith in
    subst (λ (j : ℕ). Reached (at_tag v j)) e
    (onward (at_tag_count v) (k ∷ []) (reached_tag-count v) tt (omega arith) refl (rw (le-leb (0 * 256 + k) max_tag (omega arith))))

-- behind a tag
reached_length : (v : Version) (tag : List ℕ) → RightTag tag → Reached (at_length v tag)
reached_length v tag h = onward (at_tag v (length tag)) tag (reached_tag v (length tag) h.0) tt (strong_bytes tag h.1) refl (rw h.1)

-- behind a length
reached_run-count : (v : Version) (tag : List ℕ) (n : ℕ) → RightTag tag → n ≤ max_file → Reached (at_run_count v tag n)
reached_run-count v tag n t h =
    let e = value_back 8 n (omega arith) in
    subst (λ (j : ℕ). Reached (at_run_count v tag j)) e
    (onward (at_length v tag) (in_bytes 8 n) (reached_length v tag t) tt (in_bytes_lem 8 n) (in_bytes_long 8 n) (rw (e, le-leb n max_file h)))

-- behind the count of runs
reached_first_run : (v : Version) (tag : List ℕ) (n count : ℕ) → RightTag tag → n ≤ max_file → count ≤ runs_in v → Reached (at_run v tag n count [])
reached_first_run v tag n count t h k =
    let few = runs_few v in
    let e = value_back 2 count (omega arith) in
    subst (λ (j : ℕ). Reached (at_run v tag n j [])) e
    (onward (at_run_count v tag n) (in_bytes 2 count) (reached_run-count v tag n t h) tt (in_bytes_lem 2 count) (in_bytes_long 2 count)
    (rw (e, most_runs_lem v, le-leb count (runs_in v) k)))

-- behind more runs
reached_runs : (v : Version) (tag : List ℕ) (n count : ℕ) (qs rs : List Run) → n ≤ max_file → length qs + length rs ≤ count → WellFormed (behind 0 qs) n rs
    → Reached (at_run v tag n count qs) → Reached (at_run v tag n count (qs ++ rs))
reached_runs v tag n count qs [] h k w reached = subst (λ (l : List Run). Reached (at_run v tag n count l)) (sym (append-nil qs)) reached
reached_runs v tag n count qs (r ∷ rs) h k w reached =
    let p = at_run v tag n count qs in
    let e = run_back r (omega arith) (omega arith) in
    let fault : run_fault (draft-at p) r ≡ 0 = rw (le-leb _ _ w.1, le-leb _ _ w.0, lt-ltb _ _ w.2) in
    let next = onward p (run_bytes r) reached (omega arith) (run_bytes_lem r) (run_long r) (ap (run_fault (draft-at p)) e ∙ fault) in
    let one : Reached (at_run v tag n count (qs ++ (r ∷ []))) = subst (λ (q : Run). Reached (at_run v tag n count (qs ++ (q ∷ [])))) e next in
    subst (λ (l : List Run). Reached (at_run v tag n count l)) (append_assoc qs (r ∷ []) rs)
    (reached_runs v tag n count (qs ++ (r ∷ [])) rs h (omega (arith, length-append qs (r ∷ []))) (rw (behind-last 0 qs r) w.3) one)

-- every place
reached : (p : SavedPlace) → RightBefore p → Reached p
reached at_mark h = reached_mark
reached at_version h = reached_version
reached (at_tag_count v) h = reached_tag-count v
reached (at_tag v k) h = reached_tag v k h
reached (at_length v tag) h = reached_length v tag h
reached (at_run_count v tag n) h = reached_run-count v tag n h.0 h.1
reached (at_run v tag n count rs) h = reached_runs v tag n count [] rs h.1 (omega arith) h.4 (reached_first_run v tag n count h.0 h.1 h.2)

-- behind the bytes before a place the reading goes on from there
pub reach : (p : SavedPlace) → RightBefore p → (l : List ℕ) → saved_read (bytes_before p ++ l) ≡ read_from p l
reach p h = (reached p h).1
