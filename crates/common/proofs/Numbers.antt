-- No refusal has the number 0, which is what an exported call returns with an answer.
-- Assumes nothing.
use Rattle.std.proofs.Common.{◌<◌, arith}
use Rattle.common.specs.Refused.{refusal_number}
use Rattle.common.specs.declared.Refusal.{Refusal}
use Rattle.common.specs.declared.Refusal.TheVariants.{UnexpectedEof, SymbolTooShort, UnimplementedKind, UnexpectedNumericPrefix, TooLong, UnreadableOpener, OpenerAt0, WrongParent, TooDeep, NothingOpen, WrongEnd, LeftOpen, UnusableLink, NothingThere, InvalidCompressedAnnotation, UnknownBinaryAnnotation, WrongNext, NoRoom}

pub number_above : (e : Refusal) → 0 < refusal_number e
number_above (UnexpectedEof at) = omega arith
number_above (SymbolTooShort at) = omega arith
number_above (UnimplementedKind kind) = omega arith
number_above (UnexpectedNumericPrefix prefix) = omega arith
number_above TooLong = omega arith
number_above (UnreadableOpener at) = omega arith
number_above OpenerAt0 = omega arith
number_above (WrongParent at) = omega arith
number_above (TooDeep at) = omega arith
number_above (NothingOpen at) = omega arith
number_above (WrongEnd at) = omega arith
number_above (LeftOpen at) = omega arith
number_above UnusableLink = omega arith
number_above NothingThere = omega arith
number_above (InvalidCompressedAnnotation at) = omega arith
number_above (UnknownBinaryAnnotation code) = omega arith
number_above (WrongNext at) = omega arith
number_above NoRoom = omega arith
