-- The grammar of a multipart's Content-Type, as document 01 writes it ("Head") from RFC 7233 appendix A and RFC 2046 section 5.1: the type "before any `;` is,
-- trimmed, `multipart/byteranges` (any case)" and it "has one `;`, OWS, then only `boundary=` (any case) and an unquoted boundary as in refusal 5".
-- Each rule is a type of derivations over the text that it covers; `text` says how the covered text is put together.
use Rattle.std.specs.Prelude.{ℕ, suc, ◌≤◌, ◌≡◌, ◌↔◌, true, List, [], ◌∷◌, ◌++◌, length, replicate}
use Rattle.rules_server.specs.Limits.{max_boundary}
use Rattle.rules_server.specs.Octets.{codes, semicolon}
use Rattle.rules_server.specs.Tags.{is_multipart_type}
use Rattle.rules_tablet.specs.Fields.{type_field, boundary_of}
use Rattle.rules_tablet.specs.declared.TypeField.TheVariants.{Absent, Other, Multipart, Broken}
use Rattle.rules_demands.specs.GrammarLetters.{AnyCase}
use Rattle.rules_demands.specs.GrammarRange.{Ows}
use Rattle.rules_demands.specs.GrammarFieldLine.{Among}

-- what stands behind the type: nothing, or a `;` and parameters
pub data Parameters : List ℕ → Type 0 where
  none : {t : List ℕ} → t ≡ [] → Parameters t
  semicolon_then : {t : List ℕ} (l : List ℕ) → t ≡ semicolon ∷ l → Parameters t

-- "before any `;` is, trimmed, `multipart/byteranges` (any case)", with this behind it
pub record MultipartText (v rest : List ℕ) : Type 0 where
  pub leading : List ℕ
  pub name : List ℕ
  pub trailing : List ℕ
  pub before : Ows leading
  pub behind : Ows trailing
  pub is_name : AnyCase name (codes "multipart/byteranges")
  pub parameters : Parameters rest
  pub text : v ≡ leading ++ (name ++ (trailing ++ rest))

-- "letters, digits, `-` or `_`"
abbrev pub boundary_bytes : List ℕ
boundary_bytes = codes "ABCDEFGHIJKLMNOPQRSTUVWXYZabcdefghijklmnopqrstuvwxyz0123456789-_"

-- refusal 5: "1 to 70 letters, digits, `-` or `_`"
pub record BoundaryText (b : List ℕ) : Type 0 where
  pub some : 1 ≤ length b
  pub short : length b ≤ max_boundary
  pub bytes : Among boundary_bytes b

-- "one `;`, OWS, then only `boundary=` (any case) and an unquoted boundary"
pub record BoundaryParameter (rest b : List ℕ) : Type 0 where
  pub leading : List ℕ
  pub word : List ℕ
  pub before : Ows leading
  pub is_word : AnyCase word (codes "boundary=")
  pub is_boundary : BoundaryText b
  pub text : rest ≡ semicolon ∷ (leading ++ (word ++ b))

-- the value v names parts under the boundary b
pub record PartsText (v b : List ℕ) : Type 0 where
  pub rest : List ℕ
  pub named : MultipartText v rest
  pub parameter : BoundaryParameter rest b

-- the value v is of that type, whatever stands behind it
pub record MultipartSome (v : List ℕ) : Type 0 where
  pub rest : List ℕ
  pub named : MultipartText v rest

-- of any value: what it is read as
pub record DecidesMultipartType (v : List ℕ) : Type 0 where
  pub named : (is_multipart_type v ≡ true) ↔ MultipartSome v
  pub multipart : (b : List ℕ) → ((type_field v ≡ Multipart) × (boundary_of v ≡ b)) ↔ PartsText v b
  pub broken : (type_field v ≡ Broken) ↔ (MultipartSome v × ((b : List ℕ) → PartsText v b → ⊥))
  pub other : (type_field v ≡ Other) ↔ (MultipartSome v → ⊥)
  pub there : type_field v ≡ Absent → ⊥
  pub unique : (b c : List ℕ) → PartsText v b → PartsText v c → b ≡ c

abbrev pub MultipartTypesDecided : Type 0
MultipartTypesDecided = (v : List ℕ) → DecidesMultipartType v

-- both sides of an edge
pub record MultipartTypeExamples : Type 0 where
  pub plain : PartsText (codes "multipart/byteranges; boundary=B") (codes "B")
  pub any_case : PartsText (codes "Multipart/BYTERANGES ;BOUNDARY=B") (codes "B")
  pub longest : PartsText (codes "multipart/byteranges;boundary=" ++ replicate max_boundary 66) (replicate max_boundary 66)
  pub too_long : (b : List ℕ) → PartsText (codes "multipart/byteranges;boundary=" ++ replicate (suc max_boundary) 66) b → ⊥
  pub empty : (b : List ℕ) → PartsText (codes "multipart/byteranges; boundary=") b → ⊥
  pub quoted : (b : List ℕ) → PartsText (codes "multipart/byteranges; boundary=\"B\"") b → ⊥
  pub second : (b : List ℕ) → PartsText (codes "multipart/byteranges; boundary=B; a=b") b → ⊥
  pub another : MultipartSome (codes "multipart/byterange; boundary=B") → ⊥
