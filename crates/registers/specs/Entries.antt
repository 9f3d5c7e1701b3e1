-- The entries of a register list, read as pdb does: per entry a u16 register and a name. In cvinfo.h (MANYREGSYM, MANYREGSYM2) the
-- registers stand together and one name follows them all, and a register of MANYREGSYM is a byte.
use Rattle.std.specs.Prelude.{ℕ, zero, suc}
use Rattle.common.specs.Reader.{Reader, ◌>>=◌, done, u16}
use Rattle.names.specs.Name.{symbol_name}
use Rattle.registers.specs.declared.entry.RegisterEntry.{RegisterEntry}

-- an entry of a list
abbrev pub entry : ℕ → Reader RegisterEntry
entry kind = do
  register ← u16
  name ← symbol_name kind
  done (record { register = register; name = name })

-- past n entries: each has to be read, and the first that can't be decides
unfoldable pub skip : ℕ → ℕ → Reader (Unit {0})
skip kind zero = done tt
skip kind (suc n) = entry kind >>= λ _. skip kind n

-- the entry k, counted from 0, of a list whose first entry stands here
abbrev pub entry_at : ℕ → ℕ → Reader RegisterEntry
entry_at kind k = skip kind k >>= λ _. entry kind
