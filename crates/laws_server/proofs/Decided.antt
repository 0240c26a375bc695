-- Each reason of the table of statuses exactly when the first row that applies carries it.
use mathlib.Core.Path.{◌≡◌, refl, sym, ◌∙◌, ap}
use mathlib.Core.Logic.{◌↔◌}
use mathlib.Core.Bool.{Bool, true, false, cond, true≢false}
use mathlib.Core.List.{List, [], ◌∷◌}
use lib.Dec.{eqb}
use lib.ListN.{length}
use Rattle.rules_server.specs.Reasons.{Carried, no_body, whole_file, length_only, asked_parts, reason_row}
use Rattle.rules_server.specs.Status.{Request, Resource, Row, first_row, rows, decide, status_of}
use Rattle.rules_server.specs.declared.Reason.{Reason}
use Rattle.rules_server.specs.declared.Reason.TheVariants.{Head, Partial}
use Rattle.rules_demands.specs.FirstRows.{NoneHolds}
use Rattle.rules_demands.specs.Demand2Server.{status_table, applying, FirstReason, status_text, Decided, DecidedAlways}
use Rattle.rules_server.specs.Answers.{from_then, ok_answer, unsatisfied_answer, plain_answer, multipart_answer, answer_carrying, answer_for, parts_for, answer}
use Rattle.rules_server.specs.declared.Run.{Run}
use borrow.Author.Tests.{eqb-false, eq-eqb}
use Rattle.laws_server.proofs.Reasons.{Fits, fits}
use Rattle.laws_server.proofs.Tables.{Found, found, missing, find, first_of, first_is, first_none, test_of, none_picked, any_of, first_picked}

-- ---- any table of reasons

-- the reason that a row gives
abbrev reasoned : Row → Reason
reasoned r = r.reason

-- the row carries the reason x
abbrev pub carrying : Reason → Row → Bool
carrying x r = eqb (reason_row r.reason).number (reason_row x).number

-- the first reason is that of the first row that applies
row_first : (rs : List Row) → first_row rs ≡ first_of applying reasoned Partial rs
row_first [] = refl
row_first (r ∷ rs) = ap (cond r.applies r.reason) (row_first rs)

-- some row that carries x applies
abbrev pub reason_held : List Row → Reason → Bool
reason_held rs x = any_of applying (carrying x) rs

-- the first row that applies carries x: some row that carries x applies
pub reason_holds : (rs : List Row) (x : Reason) → FirstReason rs x → reason_held rs x ≡ true
reason_holds rs x g =
    first_picked applying (carrying x) rs g.row g.first (eq-eqb (reason_row g.row.reason).number (reason_row x).number (rw g.carries))

-- a reason is given exactly when the first row that applies carries it
pub reason_exactly : (rs : List Row) (x : Reason) → (x ≡ Partial → ⊥) → (first_row rs ≡ x) ↔ FirstReason rs x
reason_exactly rs x p = (there (find applying rs), λ g. row_first rs ∙ first_is applying reasoned Partial rs g.row g.first ∙ g.carries)
  where
    there : Found applying rs → first_row rs ≡ x → FirstReason rs x
    there (found row h) e = record { row = row; first = h; carries = sym (first_is applying reasoned Partial rs row h) ∙ sym (row_first rs) ∙ e }
    there (missing n) e = absurd (p (sym e ∙ row_first rs ∙ first_none applying reasoned Partial rs n))

-- that of a 206, which no row carries, exactly when none applies
pub reason_none : (rs : List Row) → reason_held rs Partial ≡ false → (first_row rs ≡ Partial) ↔ NoneHolds applying rs
reason_none rs p = (there (find applying rs), λ n. row_first rs ∙ first_none applying reasoned Partial rs n)
  where
    there : Found applying rs → first_row rs ≡ Partial → NoneHolds applying rs
    there (found row h) e =
        let c : row.reason ≡ Partial = sym (first_is applying reasoned Partial rs row h) ∙ sym (row_first rs) ∙ e in
        absurd (true≢false (sym (reason_holds rs Partial (record { row = row; first = h; carries = c })) ∙ p))
    there (missing n) e = n

-- the test of the row that carries x
abbrev pub reason_test : List Row → Reason → Bool
reason_test rs x = test_of applying (carrying x) rs

-- where no row applies, that one does not
pub reason_fails : (rs : List Row) → NoneHolds applying rs → (x : Reason) → reason_test rs x ≡ false
reason_fails rs n x = none_picked applying (carrying x) rs n

-- ---- the answer of a reason

-- the answer of a reason carries its status line
sent_line : (x : Reason) (f : Resource) (rs : List Run) → (answer_for x f rs).status ≡ status_text (status_of x)
unfolding ok_answer unsatisfied_answer plain_answer multipart_answer
sent_line x f rs = go (reason_row x).carries (fits x) rs
  where
    go : (c : Carried) → Fits x c → (rs : List Run) → (answer_carrying c f rs).status ≡ status_text (status_of x)
    go no_body h rs = rw h.1
    go whole_file h rs = rw h
    go length_only h rs = rw h
    go asked_parts h [] = rw h.1
    go asked_parts h (r ∷ []) = rw h.1
    go asked_parts h (r ∷ s ∷ rs) = rw h.1

-- a 200 carries the whole file, unless HEAD asked
sent_whole : (x : Reason) (f : Resource) (rs : List Run) → status_of x ≡ 200 → (x ≡ Head → ⊥) → answer_for x f rs ≡ ok_answer f (from_then 0 f.file [])
sent_whole x f rs e n = go (reason_row x).carries (fits x)
  where
    go : (c : Carried) → Fits x c → answer_carrying c f rs ≡ ok_answer f (from_then 0 f.file [])
    go no_body h = absurd (n h.0)
    go whole_file h = refl
    go length_only h = absurd (eqb-false 416 200 refl (sym h ∙ e))
    go asked_parts h = absurd (eqb-false 206 200 refl (sym h.1 ∙ e))

-- a 416 is the one answer without a body
pub sent_unsatisfied : (x : Reason) (f : Resource) (rs : List Run) → status_of x ≡ 416 → answer_for x f rs ≡ unsatisfied_answer (length f.file)
sent_unsatisfied x f rs e = go (reason_row x).carries (fits x)
  where
    go : (c : Carried) → Fits x c → answer_carrying c f rs ≡ unsatisfied_answer (length f.file)
    go no_body h = absurd (eqb-false 200 416 refl (sym h.1 ∙ e))
    go whole_file h = absurd (eqb-false 200 416 refl (sym h ∙ e))
    go length_only h = refl
    go asked_parts h = absurd (eqb-false 206 416 refl (sym h.1 ∙ e))

module _ (q : Request) (f : Resource) where
  -- the decision is the first reason of the table
  decide_is : decide q f ≡ first_row (status_table q f)
  unfolding decide rows
  decide_is = refl

  pub decided : Decided q f
  unfolding answer
  decided =
      let rs = status_table q f in
      record {
        sent = sent_line (decide q f) f (parts_for q f);
        whole = sent_whole (decide q f) f (parts_for q f);
        head_only = λ e. rw e refl;
        exactly = λ x p. (λ e. (reason_exactly rs x p).0 (sym decide_is ∙ e), λ g. decide_is ∙ (reason_exactly rs x p).1 g);
        partly = (λ e. (reason_none rs refl).0 (sym decide_is ∙ e), λ n. decide_is ∙ (reason_none rs refl).1 n);
      }

pub decided_always : DecidedAlways
decided_always = decided
