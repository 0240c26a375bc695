-- The reader's parser follows every answer of our server to a GET of the file, to its end.
-- Assumes nothing.
use Prim.Native.Nat.{ℕ, ◌≤◌, ◌<◌}
use mathlib.Core.Path.{◌≡◌, refl, ap, ◌∙◌}
use mathlib.Core.Bool.{true, false, not, ◌&&◌, false≢true}
use mathlib.Core.List.{List, [], ◌∷◌}
use Rattle.std.specs.Prelude.{None}
use native.Mathlib.Omega.{arith}
use lib.Dec.{ltb}
use lib.ListN.{length, replicate, length-replicate}
use borrow.Author.Tests.{ltb-false, eqb-false, not-false}
use Rattle.rules_server.specs.Limits.{max_specs, max_file, max_tag, merge_gap}
use Rattle.rules_server.specs.Octets.{is_nil, same}
use Rattle.rules_server.specs.Texts.{head}
use Rattle.rules_server.specs.Tags.{is_strong, is_tag, bad_tag, bad_boundary}
use Rattle.rules_server.specs.Ranges.{satisfiable, any_spec}
use Rattle.rules_server.specs.Reasons.{Carried, no_body, whole_file, length_only, asked_parts, reason_row}
use Rattle.rules_server.specs.Status.{Request, Resource, rows, decide, specs}
use Rattle.rules_server.specs.Answers.{parts_for, partial_answer, answer}
use Rattle.rules_server.specs.Refusals.{bad_length, refusal, outcome}
use Rattle.rules_server.specs.declared.Run.{Run}
use Rattle.rules_server.specs.declared.Reason.TheVariants.{Head, Many, Invalid, Unsatisfiable, Empty, Partial}
use Rattle.rules_demands.specs.FirstRows.{NoneHolds}
use Rattle.rules_demands.specs.Demand1Server.{refusal_table, refuses}
use Rattle.rules_demands.specs.Demand2Server.{status_table}
use Rattle.rules_demands.specs.Positions.{Each, Pairs, RunIn}
use Rattle.laws_server.proofs.Reasons.{Fits, fits}
use Rattle.laws_server.proofs.Demand1.{passes, demand_1}
use Rattle.laws_server.proofs.Decided.{reason_holds, reason_fails, decided_always}
use Rattle.laws_server.proofs.Runs.{Apart}
use Rattle.laws_server.proofs.Partials.{gathered, parts_gathered, parts_in, parts-apart, parts-some}
use Rattle.laws_server.proofs.Asking.{or_false}
use Rattle.rules_tablet.specs.Calls.{fresh}
use Rattle.rules_demands.specs.Demand3Arrivals.{flat}
use Rattle.rules_demands.specs.Demand3Sessions.{resource_of}
use Rattle.rules_demands.specs.FeedingFollowed.{OwnTracksAlways}
use Rattle.laws_reader.proofs.own_answers.Segments.{Passes}
use Rattle.laws_reader.proofs.own_answers.Names.{IsMedia, media_allowed, boundary_allowed}
use Rattle.laws_reader.proofs.own_answers.Plain.{unsatisfied_passes, ok_passes, plain_passes}
use Rattle.laws_reader.proofs.own_answers.Many.{many_passes}
use Rattle.laws_reader.proofs.own_answers.Sums.{parts_few, body_short}

-- an output buffer of some room
abbrev buffer : ℕ → List ℕ
buffer room = replicate room 0

-- the reason of a HEAD is not that of a 206
head-partial : Head ≡ Partial → ⊥
head-partial e = let z : ◌≡◌ {A = ℕ} 0 1 = cc in omega arith

-- where nothing is refused, no row of the refusal table holds
unrefused : (q : Request) (f : Resource) (room : ℕ) → refusal q f room ≡ None → NoneHolds refuses (refusal_table q f (length (buffer room)))
unfolding outcome
unrefused q f room e =
    let out = buffer room in
    let h : refusal q f (length out) ≡ None = ap (refusal q f) (length-replicate {A = ℕ} room 0) ∙ e in
    (demand_1 q f out).answered.0 (rw h refl)

-- a tag that refusal 3 lets pass is not long
tag-short : (t : List ℕ) → bad_tag t ≡ false → length t ≤ max_tag
unfolding bad_tag
tag-short t e = ltb-false max_tag (length t) (or_false (not (is_nil t) && not (is_tag t)) (ltb max_tag (length t)) e).1

-- a file that refusal 2 lets pass is not long
file_short : (file : List ℕ) → bad_length file ≡ false → length file ≤ max_file
unfolding bad_length
file_short file e = ltb-false max_file (length file) e

module _ (f : Resource) (strong : is_strong f.tag ≡ true) (short : length f.tag ≤ max_tag) (small : length f.file ≤ max_file)
    (media : IsMedia f.media) (framed : bad_boundary f.boundary ≡ false) where
  -- a 206 of some parts
  partial_passes : (rs : List Run) → Each (RunIn (length f.file)) rs → Pairs (Apart merge_gap) rs → length rs ≤ max_specs → (rs ≡ [] → ⊥)
      → Passes f.tag (length f.file) fresh (flat (partial_answer f rs))
  partial_passes [] o a w s = absurd (s refl)
  partial_passes (r ∷ []) o a w s = plain_passes f strong short small media r o.0
  partial_passes (r ∷ s ∷ rs) o a w e =
      many_passes f strong short small media framed r (s ∷ rs) o
      (body_short f (r ∷ s ∷ rs) small media.short (boundary_allowed f.boundary framed).short o a w)

  -- the answer to a request that is decided so
  answer_passes : (q : Request) → same q.method head ≡ false → Passes f.tag (length f.file) fresh (flat (answer q f))
  unfolding answer parts_for specs rows
  answer_passes q get = go (reason_row (decide q f)).carries refl (fits (decide q f))
    where
      go : (c : Carried) → (reason_row (decide q f)).carries ≡ c → Fits (decide q f) c → Passes f.tag (length f.file) fresh (flat (answer q f))
      go no_body e h = absurd (false≢true (rw get at (reason_holds (status_table q f) Head (((decided_always q f).exactly Head head-partial).0 h.0))))
      go whole_file e h = rw e (ok_passes f strong short small media)
      go length_only e h = rw e (unsatisfied_passes f.tag (length f.file) (length f.file) small)
      go asked_parts e h =
          let n = length f.file in
          let ss = specs q in
          let fails = reason_fails (status_table q f) ((decided_always q f).partly.0 h.0) in
          let few = ltb-false max_specs (length ss) (fails Many) in
          let some = eqb-false n 0 (fails Empty) in
          let large : 0 < n = omega arith in
          let parts = parts_few n ss in
          rw (e, parts_gathered n ss)
          (partial_passes (gathered n ss) (parts_in n ss large (fails Invalid)) (parts-apart n ss large (fails Invalid)) (omega arith)
          (parts-some n ss large (fails Invalid) (not-false (any_spec (satisfiable n) ss) (fails Unsatisfiable))))

-- every answer of ours is followed to its end
pub own_tracks : OwnTracksAlways
own_tracks file tag bytes o strong =
    let f = resource_of file tag o.media o.boundary o.modified o.reference in
    let passed = passes (refusal_table o.request f (length (buffer o.room))) (unrefused o.request f o.room o.answered) in
    let is_get : same o.request.method head ≡ false = rw o.is_get in
    let media = media_allowed o.media (passed 4) in
    let p = answer_passes f strong (tag-short tag (passed 3)) (file_short file (passed 2)) media (passed 5) o.request is_get in
    record { tracks = p.0; ends = p.1 }
