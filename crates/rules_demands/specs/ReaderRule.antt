-- What the reader's rule says where a body is read, apart from the function that judges a head: such a reader has read an accepted head.
use Rattle.std.specs.Prelude.{ℕ, suc, ◌+◌, ◌≤◌, ◌≡◌, true, false, ◌⊎◌, Some}
use Rattle.rules_server.specs.Tags.{bad_boundary}
use Rattle.rules_tablet.specs.Fields.{is_wrong, is_foreign, first_of, last_of}
use Rattle.rules_tablet.specs.Heads.{is_multipart}
use Rattle.rules_tablet.specs.Parsers.{Parser}
use Rattle.rules_tablet.specs.Calls.{State, reader_ok}
use Rattle.rules_tablet.specs.declared.TypeField.TheVariants.{Multipart}
use Rattle.rules_tablet.specs.declared.Stage.{Stage}
use Rattle.rules_tablet.specs.declared.Stage.TheVariants.{Status, Fields, Plain, Skip, Preamble, PreambleEnd, FirstDelimiter, Delimiter, AfterFirstDelimiter}
use Rattle.rules_tablet.specs.declared.Stage.TheVariants.{AfterDelimiter, PartBegin, Closing, PartLine, Data, Epilogue, Finished, Refused}

-- "Content-Length is required", and no more is left of the body than it says
pub record SizeSeen (p : Parser) : Type 0 where
  pub size : ℕ
  pub seen : p.head.size ≡ Some size
  pub left : suc p.framing.after ≤ size

-- an ETag was seen, the copy's
pub record TagSeen (c : State) (p : Parser) : Type 0 where
  pub seen : p.head.has_tag ≡ true
  pub own : p.tag ≡ c.tag

-- a plain body: that of a 200, which ends where the copy does, or of a 206 that is no multipart, which ends behind its Content-Range's last
pub record PlainHead (c : State) (p : Parser) (next : ℕ) : Type 0 where
  pub size : SizeSeen p
  pub tag : TagSeen c p
  pub kind :
      ((p.head.status ≡ 200) × (next + suc p.framing.after ≡ c.length))
      ⊎ ((p.head.status ≡ 206) × (is_multipart p.head.media ≡ false) × (next + suc p.framing.after ≡ suc (last_of p.head.range)))
  pub fits : next + suc p.framing.after ≤ c.length

-- a body that is skipped: that of a 416
pub record SkippedHead (p : Parser) : Type 0 where
  pub size : SizeSeen p
  pub status : p.head.status ≡ 416

-- a body of several parts: that of a 206 that is a multipart, with a boundary as in refusal 5
pub record PartsHead (c : State) (p : Parser) : Type 0 where
  pub size : SizeSeen p
  pub tag : TagSeen c p
  pub status : p.head.status ≡ 206
  pub type : p.head.media ≡ Multipart
  pub boundary : bad_boundary p.boundary ≡ false

-- a part's data, `left` bytes from `next` on: its Content-Range is right for the copy and states no other length, and they are its last positions
pub record PartRead (c : State) (p : Parser) (next left : ℕ) : Type 0 where
  pub right : is_wrong c.length p.part.range ≡ false
  pub own : is_foreign c.length p.part.range ≡ false
  pub begun : first_of p.part.range ≤ next
  pub ends : next + left ≡ suc (last_of p.part.range)
  pub fits : next + left ≤ c.length

-- what was read, by the stage
abbrev pub HeadRead : State → Stage → Parser → Type 0
HeadRead c Status p = Unit {0}
HeadRead c Fields p = Unit {0}
HeadRead c (Plain next) p = PlainHead c p next
HeadRead c Skip p = SkippedHead p
HeadRead c (Preamble k) p = PartsHead c p
HeadRead c (PreambleEnd k) p = PartsHead c p
HeadRead c (FirstDelimiter i) p = PartsHead c p
HeadRead c (Delimiter i) p = PartsHead c p
HeadRead c AfterFirstDelimiter p = PartsHead c p
HeadRead c AfterDelimiter p = PartsHead c p
HeadRead c PartBegin p = PartsHead c p
HeadRead c Closing p = PartsHead c p
HeadRead c PartLine p = PartsHead c p
HeadRead c (Data next left) p = PartsHead c p × PartRead c p next left
HeadRead c Epilogue p = PartsHead c p
HeadRead c Finished p = Unit {0}
HeadRead c (Refused k) p = Unit {0}

-- a reader that meets its rule in a body has read such a head
abbrev pub BodiesFollowHeads : Type 0
BodiesFollowHeads = (c : State) (p : Parser) → reader_ok c p ≡ true → HeadRead c p.stage p
