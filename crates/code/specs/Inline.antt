-- Inline sites (cvinfo.h: INLINESITESYM, and INLINESITESYM2, which counts invocations).
use Rattle.std.specs.Prelude.{ℕ, cond, eqb, Option, None, Some}
use Rattle.common.specs.Reader.{Reader, ◌>>=◌, done, u32}
use Rattle.names.specs.Name.{rest}
use Rattle.records.specs.Field.{index}
use Rattle.records.specs.declared.SymbolData.{SymbolData}
use Rattle.records.specs.declared.SymbolData.TheVariants.{InlineSite}

-- invocations u32 (S_INLINESITE2, 0x115d, only)
abbrev pub invocations : ℕ → Reader (Option ℕ)
invocations kind = cond (eqb kind 0x115d) (u32 >>= λ count. done (Some count)) (done None)

abbrev pub inline_site : ℕ → Reader SymbolData
inline_site kind = do
  parent ← index
  end ← u32
  inlinee ← u32
  count ← invocations kind
  annotations ← rest
  done (InlineSite (record { parent = parent; end = end; inlinee = inlinee; invocations = count; annotations = annotations }))
