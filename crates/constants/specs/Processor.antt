-- Processors, as cvinfo.h (CV_CPU_TYPE_e) numbers those that `CPUType` knows. cvinfo.h has ARM64 at 0xf6 and its kin up to 0xf9; pdb has
-- it at 0x69 alone.
use Rattle.std.specs.Prelude.{ℕ, cond, List, [], ◌∷◌, eqb}
use Rattle.std.specs.List.{list_any}

unfoldable pub processors : List ℕ
processors =
    0x00 ∷  -- Intel8080
    0x01 ∷  -- Intel8086
    0x02 ∷  -- Intel80286
    0x03 ∷  -- Intel80386
    0x04 ∷  -- Intel80486
    0x05 ∷  -- Pentium
    0x06 ∷  -- PentiumPro
    0x07 ∷  -- Pentium3
    0x10 ∷  -- MIPS
    0x11 ∷  -- MIPS16
    0x12 ∷  -- MIPS32
    0x13 ∷  -- MIPS64
    0x14 ∷  -- MIPSI
    0x15 ∷  -- MIPSII
    0x16 ∷  -- MIPSIII
    0x17 ∷  -- MIPSIV
    0x18 ∷  -- MIPSV
    0x20 ∷  -- M68000
    0x21 ∷  -- M68010
    0x22 ∷  -- M68020
    0x23 ∷  -- M68030
    0x24 ∷  -- M68040
    0x30 ∷  -- Alpha
    0x31 ∷  -- Alpha21164
    0x32 ∷  -- Alpha21164A
    0x33 ∷  -- Alpha21264
    0x34 ∷  -- Alpha21364
    0x40 ∷  -- PPC601
    0x41 ∷  -- PPC603
    0x42 ∷  -- PPC604
    0x43 ∷  -- PPC620
    0x44 ∷  -- PPCFP
    0x45 ∷  -- PPCBE
    0x50 ∷  -- SH3
    0x51 ∷  -- SH3E
    0x52 ∷  -- SH3DSP
    0x53 ∷  -- SH4
    0x54 ∷  -- SHMedia
    0x60 ∷  -- ARM3
    0x61 ∷  -- ARM4
    0x62 ∷  -- ARM4T
    0x63 ∷  -- ARM5
    0x64 ∷  -- ARM5T
    0x65 ∷  -- ARM6
    0x66 ∷  -- ARM_XMAC
    0x67 ∷  -- ARM_WMMX
    0x68 ∷  -- ARM7
    0x69 ∷  -- ARM64
    0x70 ∷  -- Omni
    0x80 ∷  -- Ia64
    0x81 ∷  -- Ia64_2
    0x90 ∷  -- CEE
    0xa0 ∷  -- AM33
    0xb0 ∷  -- M32R
    0xc0 ∷  -- TriCore
    0xd0 ∷  -- X64
    0xe0 ∷  -- EBC
    0xf0 ∷  -- Thumb
    0xf4 ∷  -- ARMNT
    0x100 ∷  -- D3D11_Shader
    []

-- Unknown processors read as Intel8080 (0).
unfoldable pub cpu_type_of : ℕ → ℕ
cpu_type_of k = cond (list_any (eqb k) processors) k 0
