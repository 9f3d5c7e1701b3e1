-- Source languages, as cvinfo.h (CV_CFL_LANG) numbers them.
use Rattle.std.specs.Prelude.{ℕ, cond, ◌||◌, leb, eqb}

-- C (0x00) to HLSL (0x10), and the D (0x44) of the DMD compiler, which cvinfo.h does not have. Unknown languages read as Masm (3); to pdb
-- Rust (0x15 in cvinfo.h) is one.
abbrev pub source_language : ℕ → ℕ
source_language k = cond (leb k 0x10 || eqb k 0x44) k 3
