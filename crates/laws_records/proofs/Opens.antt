-- Opening: what it returns is a start of demand 3, and it has a result.
use Prim.Native.Nat.{ℕ, zero, suc, ◌+◌, ◌-◌, ◌≤◌}
use native.Mathlib.Omega.{arith}
use mathlib.Core.Path.{◌≡◌, refl, sym, ◌∙◌, ap, subst}
use mathlib.Core.Bool.{Bool, true, false, not, true≢false}
use mathlib.Core.List.{List, [], ◌∷◌, ◌++◌}
use Rattle.std.specs.Prelude.{Result, Ok, Err}
use lib.Dec.{ltb, eqb}
use lib.ListN.{length, replicate, length-append, length-replicate}
use lib.Seq.{take-append_seam, drop-append_seam}
use borrow.Author.Tests.{eqb-true, ltb-false, le-ltb, eq-eqb, not-false}
use Rattle.rules_server.specs.Limits.{max_tag, max_file}
use Rattle.rules_server.specs.Octets.{codes, all}
use Rattle.rules_server.specs.Tags.{is_strong}
use Rattle.rules_tablet.specs.Limits.{max_runs}
use Rattle.rules_tablet.specs.Runs.{member, run}
use Rattle.rules_tablet.specs.Copies.{is_zero, copy_rule, bad_opening}
use Rattle.rules_tablet.specs.Calls.{State}
use Rattle.rules_tablet.specs.declared.Copy.{Copy}
use Rattle.laws_reader.proofs.rules_kept.Tests.{falses}
use Rattle.laws_exchange.proofs.demand_3.Corollary.{opening_starts}
use Rattle.copy.specs.States.{Opens, Opening}
use Rattle.copy.proofs.Laws.{good_opening, refused_opening}
use Rattle.rules_tablet.specs.declared.Reader.{Reader}
use Rattle.rules_records.specs.Demand3Records.{RecordsStart, opened_records, OpeningOfRecords, CopySized, OpenedFor, OpeningExists}

-- what is not wrong is opened
opened_right : (tag : List ℕ) (n room : ℕ) (o : Result Copy ℕ) → Opening tag n room o → bad_opening tag n room ≡ false → (c : Copy) × (o ≡ Ok c)
opened_right tag n room (Ok c) x e = (c, refl)
opened_right tag n room (Err k) x e = absurd (true≢false (sym x.wrong ∙ e))

-- what is opened is a start
opened-starts : (file tag buffer : List ℕ) (c : Copy) → Opens tag (length file) (length buffer) c → (r : Reader)
    → RecordsStart file tag (opened_records c buffer r)
opened-starts file tag buffer c x r =
    let start = opening_starts file tag buffer x.right in
    record {
      rule = x.rule;
      under_tag = ap (λ (s : State). s.tag) x.state ∙ start.under_tag;
      of_length = ap (λ (s : State). s.length) x.state ∙ start.of_length;
      buffer_length = start.buffer_length;
      right = λ p m. start.right p (subst (λ (s : State). member p s.runs ≡ true) x.state m);
    }

pub opening_of_records : OpeningOfRecords
unfolding bad_opening
opening_of_records file tag buffer o x =
    let n = length file in
    let room = length buffer in
    record {
      opens = λ s l r m. opened_right tag n room o x (rw (s, le-ltb max_tag (length tag) l, eq-eqb room n r, le-ltb max_file n m) refl);
      starts = λ c z. opened-starts file tag buffer c (subst (Opening tag n room) z x);
    }

-- the record of a copy under a tag, of a length, with no run held
abbrev empty_copy : List ℕ → ℕ → Copy
empty_copy tag n = record { tag = tag ++ replicate (max_tag - length tag) 0; tag_len = length tag; length = n; runs = replicate max_runs (run 0 0); count = 0 }

over : (k m : ℕ) → k ≤ m → k + (m - k) ≡ m
over k m h = omega arith

fresh_sized : (tag : List ℕ) (n : ℕ) → length tag ≤ max_tag → CopySized (empty_copy tag n)
fresh_sized tag n l = record {
  tag = length-append tag (replicate (max_tag - length tag) 0) ∙ ap (λ (k : ℕ). length tag + k) (length-replicate (max_tag - length tag) 0)
      ∙ over (length tag) max_tag l;
  runs = length-replicate max_runs (run 0 0);
}

pub opening_exists : OpeningExists
unfolding bad_opening
opening_exists tag n room = go (bad_opening tag n room) refl
  where
    go : (b : Bool) → bad_opening tag n room ≡ b → OpenedFor tag n room
    go true e = record { opened = Err 19; opening = refused_opening tag n room e; sized = fresh_sized (codes "\"\"") 0 (omega arith) }
    go false e =
        let h = falses (not (is_strong tag)) (ltb max_tag (length tag) ∷ not (eqb room n) ∷ ltb max_file n ∷ []) e in
        let short = ltb-false max_tag (length tag) h.1.0 in
        record {
          opened = Ok (empty_copy tag n);
          opening = good_opening tag n room (not-false (is_strong tag) h.0) short (eqb-true room n (not-false (eqb room n) h.1.1.0))
              (ltb-false max_file n h.1.1.1.0);
          sized = fresh_sized tag n short;
        }
