-- The numeric value (document 01, "Numeric"; cvinfo.h, LF_NUMERIC and the leaves after it).
use Rattle.std.specs.Prelude.{ℕ, cond, ltb, eqb}
use Rattle.common.specs.Reader.{Reader, ◌>>=◌, done, refuse, u16, uint, sint}
use Rattle.common.specs.declared.Refusal.TheVariants.{UnexpectedNumericPrefix}
use Rattle.variant.specs.declared.Variant.{Variant}
use Rattle.variant.specs.declared.Variant.TheVariants.{U8, U16, U32, U64, I16, I32, I64}

-- a number, and the value that is made of it
abbrev pub value_of : {A : Type 0} → Reader A → (A → Variant) → Reader Variant
value_of read make = read >>= λ x. done (make x)

-- what follows a prefix of 0x8000 and above; 4 with the prefix where it is none of these
abbrev pub leaf : ℕ → Reader Variant
leaf prefix =
    cond (eqb prefix 0x8000) (value_of (uint 1) U8)  -- LF_CHAR, a signed char in cvinfo.h; pdb reads it as u8
    (cond (eqb prefix 0x8001) (value_of (sint 2) I16)  -- LF_SHORT
    (cond (eqb prefix 0x8002) (value_of (uint 2) U16)  -- LF_USHORT
    (cond (eqb prefix 0x8003) (value_of (sint 4) I32)  -- LF_LONG
    (cond (eqb prefix 0x8004) (value_of (uint 4) U32)  -- LF_ULONG
    (cond (eqb prefix 0x8009) (value_of (sint 8) I64)  -- LF_QUADWORD
    (cond (eqb prefix 0x800a) (value_of (uint 8) U64)  -- LF_UQUADWORD
    (refuse (UnexpectedNumericPrefix prefix))))))))

-- a prefix below 0x8000 is the value
abbrev pub by_prefix : ℕ → Reader Variant
by_prefix prefix = cond (ltb prefix 0x8000) (done (U16 prefix)) (leaf prefix)

abbrev pub numeric : Reader Variant
numeric = u16 >>= by_prefix
