-- What a refusal tells (document 01: "A refusal carries its number, its position (a step's own where a step refuses, 0 where none is
-- said), for 3 the kind, for 4 the prefix, and no more"; document 02, M-100: for 16 the code).
use Rattle.std.specs.Prelude.{ℕ}
use Rattle.common.specs.declared.Refusal.{Refusal}
use Rattle.common.specs.declared.Refusal.TheVariants.{UnexpectedEof, SymbolTooShort, UnimplementedKind, UnexpectedNumericPrefix, TooLong, UnreadableOpener, OpenerAt0, WrongParent, TooDeep, NothingOpen, WrongEnd, LeftOpen, UnusableLink, NothingThere, InvalidCompressedAnnotation, UnknownBinaryAnnotation, WrongNext, NoRoom}

-- the number, the position, and the kind, the prefix or the code; 0 for what is not said
pub record Told : Type 0 where
  pub number : ℕ
  pub position : ℕ
  pub detail : ℕ

abbrev pub told : ℕ → ℕ → ℕ → Told
told number position detail = record { number = number; position = position; detail = detail }

abbrev pub told_of : Refusal → Told
told_of (UnexpectedEof at) = told 1 at 0
told_of (SymbolTooShort at) = told 2 at 0
told_of (UnimplementedKind kind) = told 3 0 kind
told_of (UnexpectedNumericPrefix prefix) = told 4 0 prefix
told_of TooLong = told 5 0 0
told_of (UnreadableOpener at) = told 6 at 0
told_of OpenerAt0 = told 7 0 0
told_of (WrongParent at) = told 8 at 0
told_of (TooDeep at) = told 9 at 0
told_of (NothingOpen at) = told 10 at 0
told_of (WrongEnd at) = told 11 at 0
told_of (LeftOpen at) = told 12 at 0
told_of UnusableLink = told 13 0 0
told_of NothingThere = told 14 0 0
told_of (InvalidCompressedAnnotation at) = told 15 at 0
told_of (UnknownBinaryAnnotation code) = told 16 0 code
told_of (WrongNext at) = told 17 at 0
told_of NoRoom = told 18 0 0

abbrev pub refusal_number : Refusal → ℕ
refusal_number e = (told_of e).number

abbrev pub refusal_position : Refusal → ℕ
refusal_position e = (told_of e).position

abbrev pub refusal_detail : Refusal → ℕ
refusal_detail e = (told_of e).detail
