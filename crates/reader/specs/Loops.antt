-- Feeding the bytes of an answer with the reader taken apart: what the loop wants, and what it leaves.
use Rattle.std.specs.Prelude.{ℕ, ◌+◌, ◌≤◌, ◌<◌, ◌≡◌, true, cond, List, eqb, length}
use Rattle.rules_server.specs.Limits.{max_file, max_tag, max_boundary}
use Rattle.rules_tablet.specs.Limits.{max_runs, max_line}
use Rattle.rules_tablet.specs.Copies.{all_blank}
use Rattle.rules_tablet.specs.Feeding.{Tablet, feed}
use Rattle.rules_tablet.specs.Readers.{parser_in}
use Rattle.rules_tablet.specs.declared.Reader.{Reader}
use Rattle.copy.specs.declared.runs.RunList.{RunList}
use Rattle.copy.specs.Lists.{runs_in, unused}
use Rattle.reader_state.specs.declared.ReaderState.{ReaderState}
use Rattle.reader_text.specs.Steps.{Fits, reader_of}
use Rattle.laws_reader.proofs.rules_kept.Keeping.{TabletKept}
use Rattle.reader.specs.Steps.{tablet_on}
use Rattle.reader.specs.declared.pieces.FedBytes.{FedBytes}
use Rattle.reader.specs.declared.pieces.Progress.{Progress}

-- before the first of so many bytes: an index among the runs, and no piece that ends behind the bytes
pub record AtFirst (all : ℕ) (p : Progress) : Type 0 where
  pub recent : p.recent < max_runs
  pub end : p.end ≤ all
  pub limit : p.limit ≡ all
  pub none : p.i ≡ 0

-- behind a step that took so many bytes, the last piece of which ends so many bytes behind the first of them: feeding ends there where none was taken
abbrev pub gone_on : Progress → ℕ → ℕ → ℕ → Progress
gone_on p index taken end = record { recent = index; end = p.i + end; limit = cond (eqb taken 0) p.i p.limit; i = p.i + taken }

-- a tablet that may be fed: what is held has grown from that of t and meets the copy's rule, and the reader meets its rule
pub record Feedable (tag : List ℕ) (n : ℕ) (t : Tablet) (l : RunList) (buffer : List ℕ) (r : Reader) : Type 0 where
  pub kept : TabletKept tag n t.held (tablet_on (runs_in l) buffer (parser_in r))
  pub fits : Fits r
  pub few : l.count ≤ max_runs
  pub blank : all_blank (unused l) ≡ true
  pub room : length buffer ≡ n

-- at the end: what the whole answer does, behind i bytes of it
pub record Done (tag : List ℕ) (n : ℕ) (answer : List ℕ) (t : Tablet) (l : RunList) (buffer : List ℕ) (r : Reader) (i : ℕ) : Type 0 where
  pub is : feed max_runs tag n answer t ≡ record { tablet = tablet_on (runs_in l) buffer (parser_in r); taken = i }
  pub now : Feedable tag n t l buffer r

-- the reader's arrays have their lengths
pub record Arrays (line tag boundary : List ℕ) : Type 0 where
  pub line_room : length line ≡ max_line
  pub tag_room : length tag ≡ max_tag
  pub boundary_room : length boundary ≡ max_boundary

-- a tablet that may be fed, of a copy that is not too long
pub record BytesReady (own buffer : List ℕ) (l : RunList) (s : ReaderState) (line tag boundary : List ℕ) : Type 0 where
  pub feedable : Feedable own (length buffer) (tablet_on (runs_in l) buffer (parser_in (reader_of s line tag boundary))) l buffer (reader_of s line tag boundary)
  pub arrays : Arrays line tag boundary
  pub small : length buffer ≤ max_file

-- what the whole answer does
abbrev pub BytesFed : List ℕ → List ℕ → List ℕ → RunList → ReaderState → List ℕ → List ℕ → List ℕ → FedBytes → List ℕ → List ℕ → List ℕ → List ℕ → Type 0
BytesFed own buffer answer l s line tag boundary f bytes line' tag' boundary' =
    Done own (length buffer) answer (tablet_on (runs_in l) buffer (parser_in (reader_of s line tag boundary))) f.runs bytes
    (reader_of f.state line' tag' boundary') f.taken
