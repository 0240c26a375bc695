-- The unit at a place: one that is right leads to a place whose units are right, and one that is wrong stands in the table, by the number of the reading.
-- Assumes nothing.
use Prim.Native.Nat.{ℕ, suc, ◌+◌, ◌*◌, ◌≤◌, ◌<◌}
use mathlib.Core.Path.{◌≡◌, refl, sym, ap, ap₂, subst, ◌∙◌}
use mathlib.Core.Bool.{true, false, cond, ◌&&◌, true≢false, and-eq-true_iff}
use mathlib.Core.List.{List, [], ◌∷◌, ◌++◌, append_assoc, append-nil}
use native.Mathlib.Omega.{arith}
use lib.Dec.{leb, ltb}
use lib.ListN.{length, length-append}
use borrow.Author.Tests.{leb-true, leb-false, ltb-true, ltb-false, lt-leb, le-ltb}
use Rattle.rules_server.specs.Limits.{max_file, max_tag}
use Rattle.rules_server.specs.Numbers.{value_of, in_bytes, AreBytes}
use Rattle.rules_server.specs.Octets.{codes, same}
use Rattle.rules_server.specs.Tags.{is_strong}
use Rattle.rules_server.specs.declared.Run.{Run}
use Rattle.rules_tablet.specs.SavedCopies.{mark, is_version, most_runs, runs_bytes, Draft, run_of, run_fault, refuses}
use Rattle.rules_demands.specs.SavedRefusals.{Version, one, two, number, runs_in, SavedPlace, at_mark, at_version, at_tag_count, at_tag, at_length, at_run_count, at_run}
use Rattle.rules_demands.specs.SavedRefusals.{size_at, UnitComes, bytes_before}
use Rattle.rules_demands.specs.SavedRefusals.{RightBefore, Refuses, bad_mark, unknown_version, long_tag, no_strong_tag, long_file, many_runs, bad_run}
use Rattle.rules_demands.specs.SavedRefusals.{past_length, cut_short, trailing}
use Rattle.laws_numerals.proofs.Bytes.{in_bytes_long, value_back, bytes_back_in, bytes_below_in}
use Rattle.laws_saved.proofs.Tests.{by_test, passed, failed, same_equal, same_differ, differ_same}
use Rattle.laws_saved.proofs.Places.{behind, version_of, version-number, number_byte, most_runs_lem, draft-at, read_from, next-place, fault_at, read_short}
use Rattle.laws_saved.proofs.Places.{read_wrong, read_end_lem}
use Rattle.laws_saved.proofs.Runs.{run_bytes, run_long, run_back, bytes_of-run, first_below, last_below, runs-append, formed_last, test_out_of_order}
use Rattle.laws_saved.proofs.Runs.{out_of_order_test}

-- one byte is its number
one_byte : (u : List ℕ) → length u ≡ 1 → value_of u ∷ [] ≡ u
one_byte [] s = absurd (omega arith)
one_byte (b ∷ []) s = let e : 0 * 256 + b ≡ b = omega arith in ap (λ (x : ℕ). x ∷ []) e
one_byte (b ∷ c ∷ u) s = absurd (omega arith)

-- two bytes that are the number of a version
version_bytes : (u : List ℕ) (v : Version) → length u ≡ 2 → value_of u ≡ number v → 0 ∷ number v ∷ [] ≡ u
version_bytes [] v s e = absurd (omega arith)
version_bytes (a ∷ []) v s e = absurd (omega arith)
version_bytes (a ∷ b ∷ []) v s e =
    let small = number_byte v in
    let f : 0 ≡ a = omega arith in
    let g : number v ≡ b = omega arith in
    ap₂ (λ (x y : ℕ). x ∷ y ∷ []) f g
version_bytes (a ∷ b ∷ c ∷ u) v s e = absurd (omega arith)

-- a number of a version loads
version_loads : (v : Version) → is_version (value_of (0 ∷ number v ∷ [])) ≡ true
version_loads one = refl
version_loads two = refl

-- bytes behind four lists
regroup : (a b c d e : List ℕ) → a ++ (b ++ (c ++ (d ++ e))) ≡ (a ++ (b ++ (c ++ d))) ++ e
regroup a b c d e = simp append_assoc

-- ---- a right unit

-- a run that is right
run_right : (d : Draft) (r : Run) → run_fault d r ≡ 0 → (r.first ≤ r.last) × (d.next ≤ r.first) × (r.last < d.length)
run_right d r e =
    by_test (leb r.first r.last && leb d.next r.first)
    (λ f.
    let h = (and-eq-true_iff (leb r.first r.last) (leb d.next r.first)).0 f in
    let g : cond (ltb r.last d.length) 0 28 ≡ 0 = rw f at e in
    (leb-true _ _ h.0, leb-true _ _ h.1, ltb-true _ _ (passed (ltb r.last d.length) 27 g)))
    (λ f. let g : ◌≡◌ {A = ℕ} 27 0 = rw f at e in absurd (omega arith))

-- behind a right unit all units before the next place are right, and its bytes come behind those before
pub unit_right : (p : SavedPlace) (u : List ℕ) → RightBefore p → UnitComes p → AreBytes u → length u ≡ size_at p → fault_at p u ≡ 0
    → RightBefore (next-place p u) × (bytes_before (next-place p u) ≡ bytes_before p ++ u)
unit_right at_mark u right c b s f = (tt, sym (same_equal u mark (passed (same u mark) 21 f)))
unit_right at_version u right c b s f =
    let e = version-number (value_of u) (passed (is_version (value_of u)) 22 f) in
    (tt, ap (λ (l : List ℕ). codes "HLD" ++ l) (version_bytes u (version_of (value_of u)) s (sym e)))
unit_right (at_tag_count v) u right c b s f =
    (leb-true _ _ (passed (leb (value_of u) max_tag) 23 f), ap (λ (l : List ℕ). codes "HLD" ++ (0 ∷ number v ∷ l)) (one_byte u s))
unit_right (at_tag v k) u right c b s f =
    ((omega arith, passed (is_strong u) 23 f), ap (λ (j : ℕ). codes "HLD" ++ (0 ∷ number v ∷ j ∷ u)) s)
unit_right (at_length v tag) u right c b s f = (
  (right, leb-true _ _ (passed (leb (value_of u) max_file) 24 f)),
  ap (λ (l : List ℕ). codes "HLD" ++ (0 ∷ number v ∷ length tag ∷ (tag ++ l))) (bytes_back_in 8 u b s),
)
unit_right (at_run_count v tag n) u right c b s f = (
  (right.0, right.1, rw (← most_runs_lem v) (leb-true _ _ (passed (leb (value_of u) (most_runs (number v))) 25 f)), omega arith, tt),
  ap (λ (l : List ℕ). codes "HLD" ++ (0 ∷ number v ∷ length tag ∷ l))
      (ap (λ (l : List ℕ). tag ++ (in_bytes 8 n ++ l)) (append-nil (in_bytes 2 (value_of u)) ∙ bytes_back_in 2 u b s) ∙ sym (append_assoc tag (in_bytes 8 n) u)),
)
unit_right (at_run v tag n count rs) u right c b s f =
    let r = run_of u in
    let h = run_right (draft-at (at_run v tag n count rs)) r f in
    let e : runs_bytes (rs ++ (r ∷ [])) ≡ runs_bytes rs ++ u = runs-append rs (r ∷ [])
    ∙ ap (λ (l : List ℕ). runs_bytes rs ++ l) (append-nil (run_bytes r) ∙ bytes_of-run u b s) in (
      (right.0, right.1, right.2, omega (arith, length-append rs (r ∷ [])), formed_last 0 n rs r right.4 h.1 h.0 h.2),
      ap (λ (l : List ℕ). codes "HLD" ++ (0 ∷ number v ∷ length tag ∷ l))
          (ap (λ (l : List ℕ). tag ++ (in_bytes 8 n ++ (in_bytes 2 count ++ l))) e ∙ regroup tag (in_bytes 8 n) (in_bytes 2 count) (runs_bytes rs) u),
    )

-- ---- a wrong unit

-- a run that is wrong
run_wrong : (v : Version) (tag : List ℕ) (n count : ℕ) (rs : List Run) (r : Run) (l : List ℕ) (k : ℕ) → length rs < count → r.first < 18446744073709551616
    → r.last < 18446744073709551616 → run_fault (draft-at (at_run v tag n count rs)) r ≡ suc k
    → Refuses (at_run v tag n count rs) (in_bytes 8 r.first ++ (in_bytes 8 r.last ++ l)) (suc k)
run_wrong v tag n count rs r l k c a b e =
    let bytes = in_bytes 8 r.first ++ (in_bytes 8 r.last ++ l) in
    by_test (leb r.first r.last && leb (behind 0 rs) r.first)
    (λ f.
    let g : cond (ltb r.last n) 0 28 ≡ suc k = rw f at e in
    let h = failed (ltb r.last n) 28 k g in
    subst (Refuses (at_run v tag n count rs) bytes) h.1
    (past_length v tag n count rs r l c a b (λ w. true≢false (sym f ∙ out_of_order_test rs r w)) (ltb-false _ _ h.0)))
    (λ f.
    let g : 27 ≡ suc k = rw f at e in
    subst (Refuses (at_run v tag n count rs) bytes) g (bad_run v tag n count rs r l c a b (test_out_of_order rs r f)))

-- a whole unit that is wrong stands in the table
pub unit_wrong : (p : SavedPlace) (u l : List ℕ) (k : ℕ) → UnitComes p → AreBytes u → length u ≡ size_at p → fault_at p u ≡ suc k → Refuses p (u ++ l) (suc k)
unit_wrong at_mark u l k c b s f =
    let h = failed (same u mark) 22 k f in
    subst (Refuses at_mark (u ++ l)) h.1 (bad_mark u l s (same_differ u mark h.0))
unit_wrong at_version u l k c b s f =
    let h = failed (is_version (value_of u)) 23 k f in
    subst (Refuses at_version (u ++ l)) h.1
    (unknown_version u l s (λ v e. true≢false (sym (version_loads v) ∙ ap (λ (t : List ℕ). is_version (value_of t)) (sym e) ∙ h.0)))
unit_wrong (at_tag_count v) u l k c b s f =
    let h = failed (leb (value_of u) max_tag) 24 k f in
    subst (λ (t : List ℕ). Refuses (at_tag_count v) (t ++ l) (suc k)) (one_byte u s)
    (subst (Refuses (at_tag_count v) (value_of u ∷ l)) h.1 (long_tag v (value_of u) l (leb-false _ _ h.0)))
unit_wrong (at_tag v t) u l k c b s f =
    let h = failed (is_strong u) 24 k f in
    subst (λ (j : ℕ). Refuses (at_tag v j) (u ++ l) (suc k)) s (subst (Refuses (at_tag v (length u)) (u ++ l)) h.1 (no_strong_tag v u l h.0))
unit_wrong (at_length v tag) u l k c b s f =
    let h = failed (leb (value_of u) max_file) 25 k f in
    subst (λ (t : List ℕ). Refuses (at_length v tag) (t ++ l) (suc k)) (bytes_back_in 8 u b s)
    (subst (Refuses (at_length v tag) (in_bytes 8 (value_of u) ++ l)) h.1 (long_file v tag (value_of u) l (bytes_below_in 8 u b s) (leb-false _ _ h.0)))
unit_wrong (at_run_count v tag n) u l k c b s f =
    let h = failed (leb (value_of u) (most_runs (number v))) 26 k f in
    let more : runs_in v < value_of u = rw (← most_runs_lem v) (leb-false _ _ h.0) in
    subst (λ (t : List ℕ). Refuses (at_run_count v tag n) (t ++ l) (suc k)) (bytes_back_in 2 u b s)
    (subst (Refuses (at_run_count v tag n) (in_bytes 2 (value_of u) ++ l)) h.1 (many_runs v tag n (value_of u) l (bytes_below_in 2 u b s) more))
unit_wrong (at_run v tag n count rs) u l k c b s f =
    let r = run_of u in
    let e : in_bytes 8 r.first ++ (in_bytes 8 r.last ++ l) ≡ u ++ l = sym (append_assoc (in_bytes 8 r.first) (in_bytes 8 r.last) l)
    ∙ ap (λ (t : List ℕ). t ++ l) (bytes_of-run u b s) in
    subst (λ (t : List ℕ). Refuses (at_run v tag n count rs) t (suc k)) e (run_wrong v tag n count rs r l k c (first_below u b s) (last_below u b s) f)

-- ---- the table

-- the bytes of a run at a place where one comes
read_run : (v : Version) (tag : List ℕ) (n count : ℕ) (rs : List Run) (r : Run) (l : List ℕ) (k : ℕ) → length rs < count → r.first < 18446744073709551616
    → r.last < 18446744073709551616 → run_fault (draft-at (at_run v tag n count rs)) r ≡ suc k
    → read_from (at_run v tag n count rs) (in_bytes 8 r.first ++ (in_bytes 8 r.last ++ l)) ≡ refuses (suc k)
read_run v tag n count rs r l k c a b f =
    let p = at_run v tag n count rs in
    ap (read_from p) (sym (append_assoc (in_bytes 8 r.first) (in_bytes 8 r.last) l))
    ∙ read_wrong p (run_bytes r) l k c (run_long r) (ap (run_fault (draft-at p)) (run_back r a b) ∙ f)

-- what stands in the table at a place is what is read from there on
pub table_read : (p : SavedPlace) (l : List ℕ) (k : ℕ) → Refuses p l k → read_from p l ≡ refuses k
table_read p l k (bad_mark u m s h) = read_wrong at_mark u m 21 tt s (rw (differ_same u mark h))
table_read p l k (unknown_version u m s h) =
    let v = version_of (value_of u) in
    let f : is_version (value_of u) ≡ false =
    by_test (is_version (value_of u)) (λ e. absurd (h v (sym (version_bytes u v s (sym (version-number (value_of u) e)))))) (λ e. e) in
    read_wrong at_version u m 22 tt s (rw f)
table_read p l k (long_tag v t m h) = read_wrong (at_tag_count v) (t ∷ []) m 23 tt refl (rw (lt-leb (0 * 256 + t) max_tag (omega arith)))
table_read p l k (no_strong_tag v u m h) = read_wrong (at_tag v (length u)) u m 23 tt refl (rw h)
table_read p l k (long_file v tag n m a h) =
    read_wrong (at_length v tag) (in_bytes 8 n) m 24 tt (in_bytes_long 8 n) (rw (value_back 8 n a, lt-leb n max_file h))
table_read p l k (many_runs v tag n t m a h) =
    read_wrong (at_run_count v tag n) (in_bytes 2 t) m 25 tt (in_bytes_long 2 t) (rw (value_back 2 t a, most_runs_lem v, lt-leb t (runs_in v) h))
table_read p l k (bad_run v tag n count rs r m c a b w) = read_run v tag n count rs r m 26 c a b (rw (out_of_order_test rs r w))
table_read p l k (past_length v tag n count rs r m c a b w h) =
    let f : (leb r.first r.last && leb (behind 0 rs) r.first) ≡ true = by_test (leb r.first r.last && leb (behind 0 rs) r.first) (λ e. e)
    (λ e. absurd (w (test_out_of_order rs r e))) in
    read_run v tag n count rs r m 27 c a b (rw (f, le-ltb r.last n h))
table_read p l k (cut_short q m c h) = read_short q m c h
table_read p l k (trailing v tag n rs b m) = read_end_lem v tag n rs (b ∷ m)
