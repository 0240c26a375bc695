-- Saved copies: what is written is read back, and a file is read as the table says. Assumes nothing.
use Prim.Native.Nat.{ℕ, ◌≤◌}
use mathlib.Core.Path.{◌≡◌, sym, ap, subst, ◌∙◌}
use mathlib.Core.Bool.{true}
use mathlib.Core.List.{List, [], ◌++◌, append-nil}
use native.Mathlib.Omega.{arith}
use lib.ListN.{length, get_or, length-append}
use Rattle.rules_server.specs.Numbers.{in_bytes, AreBytes}
use Rattle.rules_tablet.specs.Calls.{State, copy_ok}
use Rattle.rules_tablet.specs.SavedCopies.{runs_bytes, saved_under, saved_bytes, max_saved, loads, refuses, saved_read}
use Rattle.rules_demands.specs.SavedRefusals.{Version, one, two, number, runs_in, at_tag, bytes_before, RefusedAt, FileOf, LoadsExactlyAlways, renewed, SavesOnce}
use Rattle.laws_numerals.proofs.Bytes.{bytes_append, in_bytes_long, in_bytes_lem}
use Rattle.laws_saved.proofs.Tests.{strong_bytes}
use Rattle.laws_saved.proofs.Places.{read_end_lem}
use Rattle.laws_saved.proofs.Runs.{runs_long, runs_bytes_lem}
use Rattle.laws_saved.proofs.Units.{table_read}
use Rattle.laws_saved.proofs.Reached.{reach}
use Rattle.laws_saved.proofs.Outcomes.{end_of, rule_few, rule_right, state_right, saved_end, Outcome, refused_in, saved_as, decides}

-- a file that stands in the table is refused by its number
pub table_refuses : (file : List ℕ) (k : ℕ) → RefusedAt file k → saved_read file ≡ refuses k
table_refuses file k r = ap saved_read r.is ∙ reach r.place r.right r.rest ∙ table_read r.place r.rest k r.refuses

-- a state that keeps the copy's rule, with no more runs than a version's files may have, is read back from its bytes under that version
saved_under_lem : (v : Version) (c : State) → copy_ok c ≡ true → length c.runs ≤ runs_in v → saved_read (saved_under (number v) c) ≡ loads c
saved_under_lem v c e few =
    let h = rule_right v c e few in
    ap saved_read (saved_end v c h ∙ sym (append-nil (bytes_before (end_of v c)))) ∙ reach (end_of v c) h [] ∙ read_end_lem v c.tag c.length c.runs []

-- so is a file of a state
file_back : (c : State) (file : List ℕ) → FileOf c file → saved_read file ≡ loads c
file_back c file f = ap saved_read f.is ∙ saved_under_lem f.version c f.rule f.few

-- and what is written of it
pub saved_back : (c : State) → copy_ok c ≡ true → saved_read (saved_bytes c) ≡ loads c
saved_back c e = saved_under_lem two c e (rule_few c e)

-- a file that is refused stands in the table
pub refused_table : (file : List ℕ) (k : ℕ) → AreBytes file → saved_read file ≡ refuses k → RefusedAt file k
refused_table file k b e = go (decides file b)
  where
    go : Outcome file → RefusedAt file k
    go (refused_in j r) = let f = table_refuses file j r in let same : j ≡ k = cc in subst (RefusedAt file) same r
    go (saved_as c f) =
        let g = file_back c file f in
        let z : ◌≡◌ {A = ℕ} 0 1 = cc in
        absurd (omega arith)

-- a file that is loaded is the bytes of the state
pub loaded_saved : (file : List ℕ) (c : State) → AreBytes file → saved_read file ≡ loads c → FileOf c file
loaded_saved file c b e = go (decides file b)
  where
    go : Outcome file → FileOf c file
    go (refused_in j r) =
        let f = table_refuses file j r in
        let z : ◌≡◌ {A = ℕ} 0 1 = cc in
        absurd (omega arith)
    go (saved_as d f) =
        let g = file_back d file f in
        let same : d ≡ c = cc in
        subst (λ (s : State). FileOf s file) same f

-- a file of bytes is read as the table says
pub loads_exactly : LoadsExactlyAlways
loads_exactly file b = record {
  refused = λ k. (refused_table file k b, table_refuses file k);
  loaded = λ c. (loaded_saved file c b, file_back c file);
}

-- states with the same bytes are the same
saved_unique : (c d : State) → copy_ok c ≡ true → copy_ok d ≡ true → saved_bytes c ≡ saved_bytes d → c ≡ d
saved_unique c d h g e =
    let a = saved_back c h in
    let b = saved_back d g in
    cc

-- what is written of a state is each file of it under the version that is written
renewed_saved : (c : State) (file : List ℕ) → FileOf c file → saved_bytes c ≡ renewed file
unfolding saved_under in_bytes
renewed_saved c file f = go f.version f.is
  where
    go : (v : Version) → file ≡ saved_under (number v) c → saved_bytes c ≡ renewed file
    go one e = ap renewed (sym e)
    go two e = ap renewed (sym e)

-- a file whose version's byte is 2 is that file itself
renewed-same : (c : State) (file : List ℕ) → FileOf c file → get_or file 4 0 ≡ 2 → renewed file ≡ file
unfolding saved_under in_bytes
renewed-same c file f = go f.version f.is
  where
    go : (v : Version) → file ≡ saved_under (number v) c → get_or file 4 0 ≡ 2 → renewed file ≡ file
    go one e g = absurd (let z : ◌≡◌ {A = ℕ} 1 2 = ap (λ (l : List ℕ). get_or l 4 0) (sym e) ∙ g in omega arith)
    go two e g = ap renewed e ∙ sym e

-- what is written is bytes
saved_bytes_lem : (c : State) → copy_ok c ≡ true → AreBytes (saved_bytes c)
saved_bytes_lem c e =
    let h = state_right c e in
    let n = in_bytes 8 c.length in
    let runs = in_bytes 2 (length c.runs) ++ runs_bytes c.runs in
    let runs_are = bytes_append (in_bytes 2 (length c.runs)) (runs_bytes c.runs) (in_bytes_lem 2 (length c.runs)) (runs_bytes_lem c.runs) in
    let behind-are = bytes_append n runs (in_bytes_lem 8 c.length) runs_are in
    rw (saved_end two c h)
    (bytes_append (bytes_before (at_tag two (length c.tag))) (c.tag ++ (n ++ runs)) (omega arith)
    (bytes_append c.tag (n ++ runs) (strong_bytes c.tag h.0.1) behind-are))

-- and no more than the longest
saved_longest : (c : State) → copy_ok c ≡ true → length (saved_bytes c) ≤ max_saved
saved_longest c e =
    let h = state_right c e in
    rw (saved_end two c h) (simp (length-append, in_bytes_long, runs_long) (omega arith))

-- the state is that which was saved; one set of bytes for one state
pub saves_once : SavesOnce
saves_once = record {
  back = saved_back;
  under = saved_under_lem;
  once = λ file c b e g. let f = loaded_saved file c b e in renewed_saved c file f ∙ renewed-same c file f g;
  anew = λ file c b e. renewed_saved c file (loaded_saved file c b e);
  kept = λ file c b e. let f = loaded_saved file c b e in ap saved_read (sym (renewed_saved c file f)) ∙ saved_back c f.rule;
  unique = saved_unique;
  bytes = saved_bytes_lem;
  longest = saved_longest;
}
