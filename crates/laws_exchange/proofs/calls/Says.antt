-- What the calls of one answer say: 19 never; of ours only more, finished or 16.
use Prim.Native.Nat.{ℕ}
use mathlib.Core.Path.{◌≡◌, refl, sym, ◌∙◌, ap, subst}
use mathlib.Core.Logic.{◌⊎◌, inl, inr}
use mathlib.Core.Bool.{false, true≢false}
use mathlib.Core.List.{List, [], ◌∷◌, ◌++◌, append_assoc}
use lib.ListN.{length}
use Rattle.rules_server.specs.Answers.{Cell}
use Rattle.rules_tablet.specs.Limits.{max_runs}
use Rattle.rules_tablet.specs.Parsers.{Parser, report_of, is_refusal, is_refused}
use Rattle.rules_tablet.specs.Feeding.{Tablet, Fed, feed}
use Rattle.rules_tablet.specs.Calls.{Feeding, feed_call, tablet_of}
use Rattle.rules_tablet.specs.declared.Stage.{Stage}
use Rattle.rules_tablet.specs.declared.Stage.TheVariants.{Refused}
use Rattle.rules_tablet.specs.declared.Report.{Report}
use Rattle.rules_tablet.specs.declared.Report.TheVariants.{More, Finished as AtEnd, Refused as ByNumber}
use Rattle.rules_demands.specs.Demand3Arrivals.{Set}
use Rattle.rules_demands.specs.Demand3Sessions.{Event, piece, ask, delivered, Session, after_feed, after_ask, run_events}
use Rattle.rules_demands.specs.FeedingFollowed.{Tracks, after, next}
use Rattle.rules_demands.specs.FeedingStored.{StoresCells}
use Rattle.rules_demands.specs.Demand1Reader.{Splits, FairAlways, AskingAlways}
use Rattle.rules_demands.specs.Demand3.{EachSaid, Not19, OursSays}
use Rattle.laws_exchange.proofs.calls.Events.{tablet_in, Able, feed_able}
use Rattle.laws_exchange.proofs.calls.Answer.{able_rule}

-- what a reader of ours may report
abbrev pub OursReport : Report → Type 0
OursReport r = (r ≡ More) ⊎ ((r ≡ AtEnd) ⊎ (r ≡ ByNumber 16))

-- a reader that is not refused reports more or finished
report_open : (x : Stage) → is_refused x ≡ false → OursReport (report_of x)
report_open x e = go (report_of x) e
  where
    go : (r : Report) → is_refusal r ≡ false → OursReport r
    go More e = inl refl
    go AtEnd e = inr (inl refl)
    go (ByNumber k) e = absurd (true≢false e)

-- a parser that follows cells is not refused behind them
pub tracked_open : (tag : List ℕ) (n : ℕ) (p : Parser) (cells : List Cell) → is_refused p.stage ≡ false → Tracks tag n p cells
    → is_refused (after tag n p cells).stage ≡ false
tracked_open tag n p [] e t = e
tracked_open tag n p (c ∷ cells) e t = tracked_open tag n (next tag n p c) cells t.0.allowed t.1

-- so the report after followed cells is one of ours
pub taken_report : (lim : ℕ) (file tag : List ℕ) (cells : List Cell) (set : Set) (t : Tablet) (r : Fed)
    → is_refused t.parser.stage ≡ false → Tracks tag (length file) t.parser cells → StoresCells lim file tag cells set t r
    → OursReport (report_of r.tablet.parser.stage)
taken_report lim file tag cells set t r e h k = go k.place
  where
    go : (r.tablet.parser ≡ after tag (length file) t.parser cells) ⊎ (r.tablet.parser.stage ≡ Refused 16)
        → OursReport (report_of r.tablet.parser.stage)
    go (inl p) = report_open r.tablet.parser.stage (ap (λ (q : Parser). is_refused q.stage) p ∙ tracked_open tag (length file) t.parser cells e h)
    go (inr p) = inr (inr (ap report_of p))

-- 19 never
pub said_never : FairAlways → AskingAlways → (es : List Event) (s : Session) → Able s → EachSaid Not19 s.said → EachSaid Not19 (run_events es s).said
said_never fair asking [] s a h = h
said_never fair asking (ask out ∷ es) s a h =
    said_never fair asking es (after_ask s out) a ((λ e. true≢false (sym (able_rule s a) ∙ (asking s.copy out).broken.0 e)), h)
said_never fair asking (piece l ∷ es) s a h =
    let x = fair s.copy s.reader s.buffer l in
    said_never fair asking es (after_feed s (feed_call s.copy s.reader s.buffer l)) (x.rules a) ((λ e. true≢false (sym a ∙ x.refused.0 e)), h)

-- of ours, where each front of the bytes leaves such a report
module _ (splits : Splits) (fair : FairAlways) (tag : List ℕ) (n : ℕ) (start : Tablet) (bytes : List ℕ)
    (fronts : (x y : List ℕ) → x ++ y ≡ bytes → OursReport (report_of (feed max_runs tag n x start).tablet.parser.stage)) where
  pub said_ours : (es : List Event) (s : Session) (done rest : List ℕ) → Able s → s.copy.tag ≡ tag → s.copy.length ≡ n
      → tablet_in s ≡ (feed max_runs tag n done start).tablet → done ++ (delivered es ++ rest) ≡ bytes
      → EachSaid OursSays s.said → EachSaid OursSays (run_events es s).said
  said_ours [] s done rest a t z d b h = h
  said_ours (ask out ∷ es) s done rest a t z d b h = said_ours es (after_ask s out) done rest a t z d b (tt, h)
  said_ours (piece l ∷ es) s done rest a t z d b h =
      let f = feed max_runs s.copy.tag s.copy.length l (tablet_in s) in
      let call = feed_able s.copy s.reader s.buffer l a in
      let end : f.tablet ≡ (feed max_runs tag n (done ++ l) start).tablet =
      ap (λ (x : List ℕ). (feed max_runs x s.copy.length l (tablet_in s)).tablet) t
      ∙ ap (λ (k : ℕ). (feed max_runs tag k l (tablet_in s)).tablet) z
      ∙ ap (λ (u : Tablet). (feed max_runs tag n l u).tablet) d
      ∙ sym (splits max_runs tag n done l start).0 in
      let front : (done ++ l) ++ (delivered es ++ rest) ≡ bytes =
      append_assoc done l (delivered es ++ rest) ∙ ap (λ (x : List ℕ). done ++ x) (sym (append_assoc l (delivered es) rest)) ∙ b in
      let says : OursReport (feed_call s.copy s.reader s.buffer l).report =
      subst (λ (x : Feeding). OursReport x.report) (sym call)
      (subst (λ (u : Tablet). OursReport (report_of u.parser.stage)) (sym end) (fronts (done ++ l) (delivered es ++ rest) front)) in
      said_ours es (after_feed s (feed_call s.copy s.reader s.buffer l)) (done ++ l) rest
      ((fair s.copy s.reader s.buffer l).rules a)
      (ap (λ (x : Feeding). x.copy.tag) call ∙ t)
      (ap (λ (x : Feeding). x.copy.length) call ∙ z)
      (ap (λ (x : Feeding). tablet_of x.copy x.reader x.buffer) call ∙ end)
      front (says, h)
