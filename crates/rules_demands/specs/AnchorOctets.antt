-- The classes of bytes as one literal table of 256 rows, apart from the predicates, and the small letter of each byte. The rows are written out from document
-- 01 ("Reading Range", tags under "Which status", "Head", refusals 4 and 5) and RFC 7230, section 3.2.6 (tokens).
use Rattle.std.specs.Prelude.{ℕ, zero, suc, ◌+◌, ◌≡◌, Bool, cond, List, [], ◌∷◌, map}
use Rattle.rules_server.specs.Octets.{is_blank, is_digit, is_letter, is_tag_byte, is_type_byte, is_boundary_byte, lower}
use Rattle.rules_tablet.specs.Lines.{is_line_byte, is_token_byte}

-- k bytes from b on
abbrev pub bytes_from : ℕ → ℕ → List ℕ
bytes_from b zero = []
bytes_from b (suc k) = b ∷ bytes_from (suc b) k

-- a class as a bit of a byte's row
abbrev pub bit : ℕ → Bool → ℕ
bit k holds = cond holds k 0

-- what the predicates give: blank 1, digit 2, letter 4, token 8, tag 16, line 32, type 64, boundary 128
abbrev pub classes_of : ℕ → ℕ
classes_of b =
    bit 1 (is_blank b) + bit 2 (is_digit b) + bit 4 (is_letter b) + bit 8 (is_token_byte b)
    + bit 16 (is_tag_byte b) + bit 32 (is_line_byte b) + bit 64 (is_type_byte b) + bit 128 (is_boundary_byte b)

-- the rows of the bytes 0 to 255, sixteen to a line: 0 in no class; 33 tab; 48 from 0x80 on; 96 `"`; 97 space; 112 in tags, lines and types; 120 in tokens too;
-- 248 `-` and `_`; 250 digits; 252 letters
unfoldable pub octet_rows : List ℕ
octet_rows =
    0 ∷ 0 ∷ 0 ∷ 0 ∷ 0 ∷ 0 ∷ 0 ∷ 0 ∷ 0 ∷ 33 ∷ 0 ∷ 0 ∷ 0 ∷ 0 ∷ 0 ∷ 0
    ∷ 0 ∷ 0 ∷ 0 ∷ 0 ∷ 0 ∷ 0 ∷ 0 ∷ 0 ∷ 0 ∷ 0 ∷ 0 ∷ 0 ∷ 0 ∷ 0 ∷ 0 ∷ 0
    ∷ 97 ∷ 120 ∷ 96 ∷ 120 ∷ 120 ∷ 120 ∷ 120 ∷ 120 ∷ 112 ∷ 112 ∷ 120 ∷ 120 ∷ 112 ∷ 248 ∷ 120 ∷ 112
    ∷ 250 ∷ 250 ∷ 250 ∷ 250 ∷ 250 ∷ 250 ∷ 250 ∷ 250 ∷ 250 ∷ 250 ∷ 112 ∷ 112 ∷ 112 ∷ 112 ∷ 112 ∷ 112
    ∷ 112 ∷ 252 ∷ 252 ∷ 252 ∷ 252 ∷ 252 ∷ 252 ∷ 252 ∷ 252 ∷ 252 ∷ 252 ∷ 252 ∷ 252 ∷ 252 ∷ 252 ∷ 252
    ∷ 252 ∷ 252 ∷ 252 ∷ 252 ∷ 252 ∷ 252 ∷ 252 ∷ 252 ∷ 252 ∷ 252 ∷ 252 ∷ 112 ∷ 112 ∷ 112 ∷ 120 ∷ 248
    ∷ 120 ∷ 252 ∷ 252 ∷ 252 ∷ 252 ∷ 252 ∷ 252 ∷ 252 ∷ 252 ∷ 252 ∷ 252 ∷ 252 ∷ 252 ∷ 252 ∷ 252 ∷ 252
    ∷ 252 ∷ 252 ∷ 252 ∷ 252 ∷ 252 ∷ 252 ∷ 252 ∷ 252 ∷ 252 ∷ 252 ∷ 252 ∷ 112 ∷ 120 ∷ 112 ∷ 120 ∷ 0
    ∷ 48 ∷ 48 ∷ 48 ∷ 48 ∷ 48 ∷ 48 ∷ 48 ∷ 48 ∷ 48 ∷ 48 ∷ 48 ∷ 48 ∷ 48 ∷ 48 ∷ 48 ∷ 48
    ∷ 48 ∷ 48 ∷ 48 ∷ 48 ∷ 48 ∷ 48 ∷ 48 ∷ 48 ∷ 48 ∷ 48 ∷ 48 ∷ 48 ∷ 48 ∷ 48 ∷ 48 ∷ 48
    ∷ 48 ∷ 48 ∷ 48 ∷ 48 ∷ 48 ∷ 48 ∷ 48 ∷ 48 ∷ 48 ∷ 48 ∷ 48 ∷ 48 ∷ 48 ∷ 48 ∷ 48 ∷ 48
    ∷ 48 ∷ 48 ∷ 48 ∷ 48 ∷ 48 ∷ 48 ∷ 48 ∷ 48 ∷ 48 ∷ 48 ∷ 48 ∷ 48 ∷ 48 ∷ 48 ∷ 48 ∷ 48
    ∷ 48 ∷ 48 ∷ 48 ∷ 48 ∷ 48 ∷ 48 ∷ 48 ∷ 48 ∷ 48 ∷ 48 ∷ 48 ∷ 48 ∷ 48 ∷ 48 ∷ 48 ∷ 48
    ∷ 48 ∷ 48 ∷ 48 ∷ 48 ∷ 48 ∷ 48 ∷ 48 ∷ 48 ∷ 48 ∷ 48 ∷ 48 ∷ 48 ∷ 48 ∷ 48 ∷ 48 ∷ 48
    ∷ 48 ∷ 48 ∷ 48 ∷ 48 ∷ 48 ∷ 48 ∷ 48 ∷ 48 ∷ 48 ∷ 48 ∷ 48 ∷ 48 ∷ 48 ∷ 48 ∷ 48 ∷ 48
    ∷ 48 ∷ 48 ∷ 48 ∷ 48 ∷ 48 ∷ 48 ∷ 48 ∷ 48 ∷ 48 ∷ 48 ∷ 48 ∷ 48 ∷ 48 ∷ 48 ∷ 48 ∷ 48
    ∷ []

-- the small letter of each of the bytes 0 to 255
unfoldable pub lower_rows : List ℕ
lower_rows =
    0 ∷ 1 ∷ 2 ∷ 3 ∷ 4 ∷ 5 ∷ 6 ∷ 7 ∷ 8 ∷ 9 ∷ 10 ∷ 11 ∷ 12 ∷ 13 ∷ 14 ∷ 15
    ∷ 16 ∷ 17 ∷ 18 ∷ 19 ∷ 20 ∷ 21 ∷ 22 ∷ 23 ∷ 24 ∷ 25 ∷ 26 ∷ 27 ∷ 28 ∷ 29 ∷ 30 ∷ 31
    ∷ 32 ∷ 33 ∷ 34 ∷ 35 ∷ 36 ∷ 37 ∷ 38 ∷ 39 ∷ 40 ∷ 41 ∷ 42 ∷ 43 ∷ 44 ∷ 45 ∷ 46 ∷ 47
    ∷ 48 ∷ 49 ∷ 50 ∷ 51 ∷ 52 ∷ 53 ∷ 54 ∷ 55 ∷ 56 ∷ 57 ∷ 58 ∷ 59 ∷ 60 ∷ 61 ∷ 62 ∷ 63
    ∷ 64 ∷ 97 ∷ 98 ∷ 99 ∷ 100 ∷ 101 ∷ 102 ∷ 103 ∷ 104 ∷ 105 ∷ 106 ∷ 107 ∷ 108 ∷ 109 ∷ 110 ∷ 111
    ∷ 112 ∷ 113 ∷ 114 ∷ 115 ∷ 116 ∷ 117 ∷ 118 ∷ 119 ∷ 120 ∷ 121 ∷ 122 ∷ 91 ∷ 92 ∷ 93 ∷ 94 ∷ 95
    ∷ 96 ∷ 97 ∷ 98 ∷ 99 ∷ 100 ∷ 101 ∷ 102 ∷ 103 ∷ 104 ∷ 105 ∷ 106 ∷ 107 ∷ 108 ∷ 109 ∷ 110 ∷ 111
    ∷ 112 ∷ 113 ∷ 114 ∷ 115 ∷ 116 ∷ 117 ∷ 118 ∷ 119 ∷ 120 ∷ 121 ∷ 122 ∷ 123 ∷ 124 ∷ 125 ∷ 126 ∷ 127
    ∷ 128 ∷ 129 ∷ 130 ∷ 131 ∷ 132 ∷ 133 ∷ 134 ∷ 135 ∷ 136 ∷ 137 ∷ 138 ∷ 139 ∷ 140 ∷ 141 ∷ 142 ∷ 143
    ∷ 144 ∷ 145 ∷ 146 ∷ 147 ∷ 148 ∷ 149 ∷ 150 ∷ 151 ∷ 152 ∷ 153 ∷ 154 ∷ 155 ∷ 156 ∷ 157 ∷ 158 ∷ 159
    ∷ 160 ∷ 161 ∷ 162 ∷ 163 ∷ 164 ∷ 165 ∷ 166 ∷ 167 ∷ 168 ∷ 169 ∷ 170 ∷ 171 ∷ 172 ∷ 173 ∷ 174 ∷ 175
    ∷ 176 ∷ 177 ∷ 178 ∷ 179 ∷ 180 ∷ 181 ∷ 182 ∷ 183 ∷ 184 ∷ 185 ∷ 186 ∷ 187 ∷ 188 ∷ 189 ∷ 190 ∷ 191
    ∷ 192 ∷ 193 ∷ 194 ∷ 195 ∷ 196 ∷ 197 ∷ 198 ∷ 199 ∷ 200 ∷ 201 ∷ 202 ∷ 203 ∷ 204 ∷ 205 ∷ 206 ∷ 207
    ∷ 208 ∷ 209 ∷ 210 ∷ 211 ∷ 212 ∷ 213 ∷ 214 ∷ 215 ∷ 216 ∷ 217 ∷ 218 ∷ 219 ∷ 220 ∷ 221 ∷ 222 ∷ 223
    ∷ 224 ∷ 225 ∷ 226 ∷ 227 ∷ 228 ∷ 229 ∷ 230 ∷ 231 ∷ 232 ∷ 233 ∷ 234 ∷ 235 ∷ 236 ∷ 237 ∷ 238 ∷ 239
    ∷ 240 ∷ 241 ∷ 242 ∷ 243 ∷ 244 ∷ 245 ∷ 246 ∷ 247 ∷ 248 ∷ 249 ∷ 250 ∷ 251 ∷ 252 ∷ 253 ∷ 254 ∷ 255
    ∷ []

-- each predicate gives its bit at each byte
abbrev pub ClassesAre : Type 0
ClassesAre = map classes_of (bytes_from 0 256) ≡ octet_rows

abbrev pub LowerIs : Type 0
LowerIs = map lower (bytes_from 0 256) ≡ lower_rows
