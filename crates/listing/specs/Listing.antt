-- The listing of a stream, as bytes (document 01, "One stream, and the proved examples").
use Rattle.std.specs.Prelude.{ℕ, cond, ◌&&◌, List, [], ◌∷◌, ◌++◌, map, length, leb, ltb, decimal, Option, None, Some, Result, Ok, Err}
use Rattle.io.specs.Digits.{last_digits}
use Rattle.names.specs.Name.{bytes_of}
use Rattle.constants.specs.Raw.{raw_kind}
use Rattle.common.specs.declared.Refusal.{Refusal}
use Rattle.common.specs.declared.Refusal.TheVariants.{TooLong}
use Rattle.common.specs.Refused.{refusal_number, refusal_position}
use Rattle.names.specs.declared.Part.{Part}
use Rattle.symbol.specs.Name.{name_of}
use Rattle.iter.specs.Reading.{Rec, Ending, ends, refuses, Reading, read_of}

abbrev pub space : List ℕ
space = 0x20 ∷ []

abbrev pub newline : List ℕ
newline = 0x0a ∷ []

-- bytes outside 0x21 to 0x7e as `?` (0x3f)
abbrev pub shown_byte : ℕ → ℕ
shown_byte b = cond (leb 0x21 b && leb b 0x7e) b 0x3f

-- `-` (0x2d) if none, nothing if empty, `!` (0x21) and the number if decode refuses
abbrev pub name_shown : List ℕ → Result (Option Part) Refusal → List ℕ
name_shown bytes (Ok None) = 0x2d ∷ []
name_shown bytes (Ok (Some p)) = map shown_byte (bytes_of bytes p)
name_shown bytes (Err e) = 0x21 ∷ decimal (refusal_number e)

-- one space between: index, four lower-case hexadecimal kind digits, name; each line ends in a line feed
unfoldable pub line_of : ℕ → ℕ → List ℕ → List ℕ
line_of index kind bytes = decimal index ++ space ++ last_digits 16 4 kind ++ space ++ name_shown bytes (name_of bytes) ++ newline

-- `refused`, number, position
unfoldable pub refused_line : Refusal → List ℕ
refused_line e =
    0x72 ∷ 0x65 ∷ 0x66 ∷ 0x75 ∷ 0x73 ∷ 0x65 ∷ 0x64 ∷ [] ++ space ++ decimal (refusal_number e) ++ space ++ decimal (refusal_position e) ++ newline

-- a line for each record
unfoldable pub lines_of : List Rec → List ℕ
lines_of [] = []
lines_of (r ∷ rs) = line_of r.index (raw_kind r.bytes) r.bytes ++ lines_of rs

-- a refused step ends it
abbrev pub last_line : Ending → List ℕ
last_line ends = []
last_line (refuses e) = refused_line e

unfoldable pub text_of : Reading → List ℕ
text_of r = lines_of r.recs ++ last_line r.last.ending

-- how long a stream may be that is listed, and where its records begin, behind the signature
abbrev pub max_listed : ℕ
max_listed = 65536

abbrev pub listed_from : ℕ
listed_from = 4

-- above 65,536 bytes `refused 5 0`; else it walks from 4
unfoldable pub listing_of : List ℕ → List ℕ
listing_of s = cond (ltb max_listed (length s)) (refused_line TooLong) (text_of (read_of s listed_from))
