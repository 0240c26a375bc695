-- Laws of the list of runs in bytes: numbers, runs, the list of a copy's runs, and the copy that a tag, a length and a list mean. Assumes nothing.
use Prim.Native.Nat.{ℕ, zero, suc, ◌+◌, ◌*◌, ◌-◌, ◌/◌, ◌%◌, ◌≤◌, ◌<◌}
use mathlib.Core.Path.{◌≡◌, refl, sym, ap, ap₂, subst, ◌∙◌}
use mathlib.Core.Bool.{Bool, true, false, cond, ◌&&◌, true≢false, and-eq-true_iff}
use mathlib.Core.List.{List, [], ◌∷◌, ◌++◌, append_assoc, append-nil}
use native.Mathlib.Numerals.{add-one}
use native.Mathlib.Omega.{arith}
use lib.Dec.{eqb}
use lib.ListN.{length, take, drop, get_or, set, replicate, length-drop, length-append, take-append-drop}
use lib.Seq.{length-take-le, take_all, take-length, drop-length, drop-append-le, drop-cons, drop-drop, get_or-drop, take-append_seam, take-suc-set}
use borrow.Author.Tests.{le-ltb, eqb-true, eq-eqb, ne_eqb}
use Rattle.rules_server.specs.Limits.{max_tag}
use Rattle.rules_server.specs.Numbers.{in_bytes}
use Rattle.rules_server.specs.Octets.{all}
use Rattle.rules_server.specs.Tags.{is_strong}
use Rattle.rules_server.specs.declared.Run.{Run}
use Rattle.laws_numerals.proofs.Bytes.{in_bytes_long, in_bytes-next}
use Rattle.writing.specs.Window.{Window, write}
use Rattle.writing.proofs.window.Laws.{nothing, both, whole}
use Rattle.rules_tablet.specs.Limits.{max_runs}
use Rattle.rules_tablet.specs.Runs.{run}
use Rattle.rules_tablet.specs.Copies.{tag_of, runs_of, is_zero, all_blank, copy_rule, bad_opening}
use Rattle.rules_tablet.specs.Calls.{State, opened}
use Rattle.rules_tablet.specs.declared.Copy.{Copy}
use Rattle.rules_server.specs.RefusalNumbers.{numbered}
use Rattle.rules_server.specs.declared.refusal.Refusal.{Refusal}
use Rattle.std.specs.Result.{IsOk}
use Rattle.copy.specs.States.{Opening, Opens, NotOpened}
use Rattle.copy.proofs.Laws.{rule_kept, fresh_rule}
use Rattle.copy.proofs.runs.Fronts.{ended}
use Rattle.octets.proofs.strings.Laws.{part_to_end}
use Rattle.copy_bytes.specs.Lists.{runs_size, number_at, eight, run_from, runs_from, runs_bytes, list_bytes, copy_in, is_copy, listed}
use Rattle.copy_bytes.specs.Lists.{ListedOr19, Listing, ListsAlways}
use Rattle.std.proofs.Common.{Result, Ok, Err}

-- ---- reading runs

-- a number of the rest of a text
pub number-behind : (b : List ℕ) (k a : ℕ) → number_at b (k + a) ≡ number_at (drop k b) a
unfolding number_at
number-behind b k a = rw (byte 0, byte 1, byte 2, byte 3, byte 4, byte 5, byte 6, byte 7)
  where
    byte : (j : ℕ) → get_or b ((k + a) + j) 0 ≡ get_or (drop k b) (a + j) 0
    byte j = let e : (k + a) + j ≡ k + (a + j) = omega arith in ap (λ (n : ℕ). get_or b n 0) e ∙ sym (get_or-drop k b (a + j) 0)

-- a run's numbers
pub run-numbers : (b : List ℕ) (k first last : ℕ) → first ≡ number_at b k → last ≡ number_at b (k + 8) → run first last ≡ run_from (drop k b)
run-numbers b k first last e f =
    let p : k ≡ k + 0 = omega arith in
    ap₂ run (e ∙ ap (number_at b) p ∙ number-behind b k 0) (f ∙ number-behind b k 8)

-- the first run and the others
runs-next : (k : ℕ) (l : List ℕ) → runs_from (suc k) l ≡ run_from l ∷ runs_from k (drop 16 l)
unfolding runs_from
runs-next k l = refl

-- no run
runs-none : (l : List ℕ) → runs_from 0 l ≡ []
unfolding runs_from
runs-none l = refl

-- one run more is read
pub runs_step : (b : List ℕ) (runs : List Run) (i : ℕ) (rs : List Run) → i < max_runs → length runs ≡ max_runs
    → take i runs ++ runs_from (max_runs - i) (drop (16 * i) b) ≡ rs
    → take (i + 1) (set runs i (run_from (drop (16 * i) b))) ++ runs_from (max_runs - (i + 1)) (drop (16 * (i + 1)) b) ≡ rs
runs_step b runs i rs h n e =
    let x = run_from (drop (16 * i) b) in
    let rest = runs_from (max_runs - (i + 1)) (drop (16 * (i + 1)) b) in
    let q : max_runs - i ≡ suc (max_runs - (i + 1)) = omega arith in
    let p : 16 * i + 16 ≡ 16 * (i + 1) = omega arith in
    let d : drop 16 (drop (16 * i) b) ≡ drop (16 * (i + 1)) b = drop-drop 16 (16 * i) b ∙ ap (λ (k : ℕ). drop k b) p in
    let next : runs_from (max_runs - i) (drop (16 * i) b) ≡ x ∷ rest =
    ap (λ (k : ℕ). runs_from k (drop (16 * i) b)) q ∙ runs-next (max_runs - (i + 1)) (drop (16 * i) b)
    ∙ ap (λ (l : List ℕ). x ∷ runs_from (max_runs - (i + 1)) l) d in
    let front : take (i + 1) (set runs i x) ≡ take i runs ++ (x ∷ []) = rw add-one (take-suc-set runs i x (omega arith)) in
    ap (λ (t : List Run). t ++ rest) front ∙ append_assoc (take i runs) (x ∷ []) rest ∙ ap (λ (t : List Run). take i runs ++ t) (sym next) ∙ e

-- all runs are read
pub runs_end : (b : List ℕ) (runs : List Run) (i : ℕ) (rs : List Run) → max_runs ≤ i → length runs ≡ max_runs
    → take i runs ++ runs_from (max_runs - i) (drop (16 * i) b) ≡ rs → runs ≡ rs
runs_end b runs i rs h n e =
    let q : max_runs - i ≡ 0 = omega arith in
    sym (ap₂ ◌++◌ (take_all i runs (omega arith)) (ap (λ (k : ℕ). runs_from k (drop (16 * i) b)) q ∙ runs-none (drop (16 * i) b)) ∙ append-nil runs) ∙ e

-- ---- writing runs

-- the run at place i is written first, and the others behind it
pub bytes_step : (runs : List Run) (i : ℕ) (d : Run) (w : Window) {v : Window} → i < length runs
    → v ≡ write (eight (get_or runs i d).first ++ eight (get_or runs i d).last) w
    → write (runs_bytes (drop (i + 1) runs)) v ≡ write (runs_bytes (drop i runs)) w
bytes_step runs i d w h e = rw (drop-cons runs i d h, add-one) (both _ _ w e refl)

-- behind the last run there is nothing to write
pub bytes_end : (runs : List Run) (i : ℕ) (w : Window) → length runs ≤ i → write (runs_bytes (drop i runs)) w ≡ w
bytes_end runs i w h = ap (λ (l : List Run). write (runs_bytes l) w) (ap (drop i) (sym (take-length runs)) ∙ ended runs (length runs) i h) ∙ nothing w

-- a number has eight bytes
pub eight_long : (n : ℕ) → length (eight n) ≡ 8
eight_long n = in_bytes_long 8 n

-- in no bytes
no_bytes : (n : ℕ) → in_bytes 0 n ≡ []
unfolding in_bytes
no_bytes n = refl

-- the last k bytes of a number are the number in k bytes
pub last_bytes_lem : (j k n : ℕ) → drop j (in_bytes (j + k) n) ≡ in_bytes k n
last_bytes_lem j zero n = let e : j + 0 ≡ j = omega arith in
    ap (λ (m : ℕ). drop j (in_bytes m n)) e ∙ ap (λ (m : ℕ). drop m (in_bytes j n)) (sym (in_bytes_long j n)) ∙ drop-length (in_bytes j n) ∙ sym (no_bytes n)
last_bytes_lem j (suc k) n =
    let e : j + suc k ≡ suc (j + k) = omega arith in
    let behind = n % 256 ∷ [] in
    ap (λ (m : ℕ). drop j (in_bytes m n)) e ∙ ap (drop j) (in_bytes-next (j + k) n)
    ∙ drop-append-le j (in_bytes (j + k) (n / 256)) behind (omega (arith, in_bytes_long (j + k) (n / 256)))
    ∙ ap (λ (l : List ℕ). l ++ behind) (last_bytes_lem j k (n / 256)) ∙ sym (in_bytes-next k n)

-- a run sixteen
pub runs_long : (rs : List Run) → length (runs_bytes rs) ≡ 16 * length rs
runs_long [] = refl
runs_long (r ∷ rs) = simp (length-append, eight_long, runs_long rs) (omega arith)

-- blank runs are so many times the same
blanks : (l : List Run) → all_blank l ≡ true → l ≡ replicate (length l) (run 0 0)
blanks [] e = refl
blanks (r ∷ l) e =
    let p = (and-eq-true_iff (eqb r.first 0 && eqb r.last 0) (all_blank l)).0 e in
    let q = (and-eq-true_iff (eqb r.first 0) (eqb r.last 0)).0 p.0 in
    ap₂ ◌∷◌ (ap₂ run (eqb-true r.first 0 q.0) (eqb-true r.last 0 q.1)) (blanks l p.1)

-- zeros are so many times 0
zeros : (l : List ℕ) → all is_zero l ≡ true → l ≡ replicate (length l) 0
zeros [] e = refl
zeros (x ∷ l) e =
    let p = (and-eq-true_iff (is_zero x) (all is_zero l)).0 e in
    ap₂ ◌∷◌ (eqb-true x 0 p.0) (zeros l p.1)

-- an array whose unused runs are blank
pub filled_runs : (l : List Run) (k : ℕ) → all_blank (drop k l) ≡ true → l ≡ take k l ++ replicate (length l - k) (run 0 0)
filled_runs l k e = sym (take-append-drop k l)
    ∙ ap (λ (t : List Run). take k l ++ t) (blanks (drop k l) e ∙ ap (λ (m : ℕ). replicate m (run 0 0)) (length-drop k l))

-- and one whose unused bytes are
pub filled_bytes : (l : List ℕ) (k : ℕ) → all is_zero (drop k l) ≡ true → l ≡ take k l ++ replicate (length l - k) 0
filled_bytes l k e = sym (take-append-drop k l) ∙ ap (λ (t : List ℕ). take k l ++ t) (zeros (drop k l) e ∙ ap (λ (m : ℕ). replicate m 0) (length-drop k l))

-- a copy whose record keeps its rule
module _ (c : Copy) (rule : copy_rule c ≡ true) (full : length c.runs ≡ max_runs) where
  -- its array is its runs, and blank ones behind them
  pub array_of : c.runs ≡ runs_of c ++ replicate (max_runs - c.count) (run 0 0)
  array_of = filled_runs c.runs c.count (rule_kept c rule).blank ∙ ap (λ (m : ℕ). runs_of c ++ replicate (m - c.count) (run 0 0)) full

  -- the list of its runs is its count and its array
  pub list_of : eight c.count ++ runs_bytes c.runs ≡ list_bytes (runs_of c)
  unfolding list_bytes
  list_of =
      let k = rule_kept c rule in
      let n : length (runs_of c) ≡ c.count = length-take-le c.count c.runs (omega arith) in
      ap (λ (t : List Run). eight c.count ++ runs_bytes t) array_of
      ∙ ap (λ (m : ℕ). eight m ++ runs_bytes (runs_of c ++ replicate (max_runs - m) (run 0 0))) (sym n)

  -- of its size
  pub list_long : length (list_bytes (runs_of c)) ≡ runs_size
  list_long = ap length (sym list_of) ∙ simp (length-append, eight_long, runs_long) (omega arith)

-- a list fills its place
pub list_written : (count : ℕ) (runs : List Run) (out out' : List ℕ) → length runs ≡ max_runs → length out ≡ runs_size
    → out' ≡ (write (eight count ++ runs_bytes runs) (record { bytes = out; skip = 0; at = 0 })).bytes → out' ≡ eight count ++ runs_bytes runs
list_written count runs out out' full n e =
    let text = eight count ++ runs_bytes runs in
    let long : length text ≡ length out = omega (arith, length-append (eight count) (runs_bytes runs), eight_long count, runs_long runs, full, n) in
    e ∙ ap (λ (w : Window). w.bytes) (whole text out (omega arith)) ∙ ap (λ (k : ℕ). text ++ drop k out) long
    ∙ ap (λ (l : List ℕ). text ++ l) (drop-length out) ∙ append-nil text

-- ---- the copy that a tag, a length and a list mean

-- they are none where the list has another size
pub size_broken : (tag : List ℕ) (n : ℕ) (list : List ℕ) → (length list ≡ runs_size → ⊥) → Err 19 ≡ listed tag n list
unfolding listed is_copy
size_broken tag n list h = rw (ne_eqb (length list) runs_size h) refl

-- the array of the tag under which a copy was opened
pub opened-tag : (tag : List ℕ) (c : Copy) → length c.tag ≡ max_tag → Opens tag 0 0 c
    → (c.tag ≡ tag ++ replicate (max_tag - length tag) 0) × (c.tag_len ≡ length tag)
unfolding opened
opened-tag tag c full h =
    let k = rule_kept c h.rule in
    let state : opened tag 0 0 ≡ record { tag = tag; length = 0; runs = [] } = rw h.right refl in
    let s : tag_of c ≡ tag = ap (λ (x : State). x.tag) (h.state ∙ state) in
    let m : c.tag_len ≡ length tag = sym (length-take-le c.tag_len c.tag (omega arith)) ∙ ap length s in
    let gap : length c.tag - c.tag_len ≡ max_tag - length tag = omega arith in
    (filled_bytes c.tag c.tag_len k.zeros ∙ ap₂ (λ (t : List ℕ) (j : ℕ). t ++ replicate j 0) s gap, m)

-- the record that is put together
pub copy_put : (tag : List ℕ) (n : ℕ) (list : List ℕ) (c : Copy) (count : ℕ) (runs : List Run) → length c.tag ≡ max_tag → Opens tag 0 0 c
    → count ≡ number_at list 0 → runs ≡ runs_from max_runs (take (length list - 8) (drop 8 list))
    → record { tag = c.tag; tag_len = c.tag_len; length = n; runs = runs; count = count } ≡ copy_in tag n list
copy_put tag n list c count runs full h e f =
    let t = opened-tag tag c full h in
    let all_runs : runs ≡ runs_from max_runs (drop 8 list) = f ∙ ap (runs_from max_runs) (part_to_end list 8) in
    λ i. record { tag = t.0 i; tag_len = t.1 i; length = n; runs = all_runs i; count = e i }

-- they are a copy where it keeps its rule
pub rule_listed : (tag : List ℕ) (n : ℕ) (list : List ℕ) (c : Copy) → length list ≡ runs_size → c ≡ copy_in tag n list → copy_rule c ≡ true
    → Ok c ≡ listed tag n list
unfolding listed is_copy
rule_listed tag n list c m e t =
    let k : copy_rule (copy_in tag n list) ≡ true = ap copy_rule (sym e) ∙ t in
    rw (eq-eqb (length list) runs_size m, k) (ap Ok e)

-- and none where it breaks it
pub rule_broken : (tag : List ℕ) (n : ℕ) (list : List ℕ) (c : Copy) → length list ≡ runs_size → c ≡ copy_in tag n list → copy_rule c ≡ false
    → Err 19 ≡ listed tag n list
unfolding listed is_copy
rule_broken tag n list c m e t =
    let k : copy_rule (copy_in tag n list) ≡ false = ap copy_rule (sym e) ∙ t in
    rw (eq-eqb (length list) runs_size m, k) refl

-- the tag in its array
pub tag_in : (tag : List ℕ) (n : ℕ) (list : List ℕ) → tag_of (copy_in tag n list) ≡ tag
tag_in tag n list = take-append_seam tag (replicate (max_tag - length tag) 0)

-- a copy is opened under a strong tag that is not too long
pub strong_opens : (tag : List ℕ) → length tag ≤ max_tag → is_strong tag ≡ true → bad_opening tag 0 0 ≡ false
unfolding bad_opening
strong_opens tag short strong = rw (strong, le-ltb max_tag (length tag) short) refl

-- opening refuses nothing then
pub opened_ok : (tag : List ℕ) (r : Result Copy Refusal) → Opening tag 0 0 (numbered r) → bad_opening tag 0 0 ≡ false → IsOk r
opened_ok tag (Ok c) h t = refl
opened_ok tag (Err e) h t = absurd (true≢false (sym h.wrong ∙ t))

-- a copy is opened under the tag of one that keeps its rule
opens : (tag : List ℕ) (n : ℕ) (list : List ℕ) → copy_rule (copy_in tag n list) ≡ true → bad_opening tag 0 0 ≡ false
opens tag n list t =
    let m = rule_kept (copy_in tag n list) t in
    strong_opens tag m.short (rw (tag_in tag n list) at m.strong)

-- they are none where no copy is opened under the tag
pub tag-broken : (tag : List ℕ) (n : ℕ) (list : List ℕ) (k : ℕ) → length list ≡ runs_size → NotOpened tag 0 0 k → Err k ≡ listed tag n list
unfolding listed is_copy
tag-broken tag n list k m x = go (copy_rule (copy_in tag n list)) refl
  where
    go : (b : Bool) → copy_rule (copy_in tag n list) ≡ b → Err k ≡ listed tag n list
    go true t = absurd (true≢false (sym x.wrong ∙ opens tag n list t))
    go false t = rw (eq-eqb (length list) runs_size m, t) (ap Err x.number)

-- the record of a copy keeps its rule
copy_rule_lem : (tag : List ℕ) (n : ℕ) (list : List ℕ) → is_copy tag n list ≡ true → copy_rule (copy_in tag n list) ≡ true
unfolding is_copy
copy_rule_lem tag n list t = ((and-eq-true_iff (eqb (length list) runs_size) (copy_rule (copy_in tag n list))).0 t).1

pub lists_always : ListsAlways
unfolding listed
lists_always tag n list = go (is_copy tag n list) refl
  where
    go : (b : Bool) → is_copy tag n list ≡ b → Listing tag n list (cond b (Ok (copy_in tag n list)) (Err 19))
    go true t =
        let k = copy_rule_lem tag n list t in
        record {
          cases = record { a_copy = t; rule = k; is = refl };
          rule = k;
          is = λ u. refl;
          none = λ u. absurd (true≢false (sym t ∙ u));
        }
    go false t = record {
      cases = (t, refl);
      rule = fresh_rule;
      is = λ u. absurd (true≢false (sym u ∙ t));
      none = λ u. refl;
    }

-- what is given for them: `Ok` a copy, or `Err` 19
pub listing : (tag : List ℕ) (n : ℕ) (list : List ℕ) (r : Result Copy ℕ) → r ≡ listed tag n list → ListedOr19 tag n list r
listing tag n list r e = (subst (Listing tag n list) (sym e) (lists_always tag n list)).cases
